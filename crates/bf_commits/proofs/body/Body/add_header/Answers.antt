use Rattle.std.proofs.Common.{◌++◌, codes}
use Rattle.bf_history.specs.Bodies.{author_of}
use Rattle.bf_commits.specs.Naming.{encoding_line}
use Rattle.bf_commits.proofs.Pieces.{adds_then}
use Rattle.bf_commits.proofs.body.Body.add_header.Goals as goal

pub returns : goal.returns
returns c =
    let header = c.args.header.now in
    let author = codes "\nauthor " ++ author_of header in
    let committer = codes "\ncommitter " ++ header.committer in
    let encoding = encoding_line header.encoding in
    adds_then c.args.self.now c.add_encoding.new.self c.add_text-3.new.self (author ++ committer ++ encoding) (codes "\n\n" ++ header.message)
    (adds_then c.args.self.now c.add_text-2.new.self c.add_encoding.new.self (author ++ committer) encoding
    (adds_then c.args.self.now c.add_text.new.self c.add_text-2.new.self author committer (rw c.author_of.ensures at c.add_text.ensures)
    (rw c.as_slice.ensures at c.add_text-2.ensures)) c.add_encoding.ensures)
    (rw c.as_slice-2.ensures at c.add_text-3.ensures)
