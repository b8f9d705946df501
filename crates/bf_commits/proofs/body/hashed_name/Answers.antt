use Rattle.std.proofs.Common.{◌≡◌, ℕ, ◌+◌, ◌*◌, List, [], ◌++◌, length, map, codes, ap, subst, sym, ◌∙◌}
use Rattle.hex.specs.Hex.{encode_lower}
use Rattle.bf_oid.specs.declared.object.Oid.{Oid}
use Rattle.bf_history.specs.Bodies.{commit_body}
use Rattle.bf_commits.specs.Naming.{Adds, IsBody, header_lines, name_at, parent_lines}
use Rattle.bf_commits.proofs.Pieces.{adds_then, pieces_are, pieces_long}
use Rattle.bf_commits.proofs.body.hashed_name.Goals as goal

pub returns-clause-oid : goal.returns-clause-oid
returns-clause-oid c =
    let tree = c.args.tree.0 in
    let names = c.args.names.now in
    let parents = c.args.parents.now in
    let header = c.args.header.now in
    let first = codes "tree " ++ encode_lower tree in
    let lines = parent_lines names parents in
    let rest = header_lines header in
    let body = commit_body tree (map (name_at names) parents) header in
    let adds : Adds c.start-body.result c.add_header.new.self (first ++ lines ++ rest) =
    adds_then c.start-body.result c.add_parents.new.self c.add_header.new.self (first ++ lines) rest
    (adds_then c.start-body.result c.add_name.new.self c.add_parents.new.self first lines c.add_name.ensures.name c.add_parents.ensures.lines)
    c.add_header.ensures in
    let bytes = c.in_ok-length.length in
    let told : bytes ≡ 45 + 48 * length parents + length rest = rw c.in_ok-length.ensures.ok_part at c.body_length.ensures in
    let long : bytes ≡ length (first ++ lines ++ rest) = told ∙ sym
    (pieces_long tree names parents header c.add_name.ensures.length c.add_parents.ensures.length) in
    let hashed : IsBody c.add_header.new.self (length (first ++ lines ++ rest)) (first ++ lines ++ rest) =
    subst (λ (n : ℕ). IsBody c.add_header.new.self n (first ++ lines ++ rest)) long (adds bytes [] c.start-body.ensures) in
    ap (λ (bytes : List ℕ). let name : Oid = record { 0 = bytes } in name)
    (c.finish.ensures body (subst (λ (b : List ℕ). IsBody c.add_header.new.self (length b) b) (pieces_are tree names parents header) hashed))
