use Rattle.std.proofs.Common.{sym, ap, ◌∙◌}
use Rattle.bf_history.specs.Contents.{Blobs, has_blob, with_blob}
use Rattle.bf_tables.proofs.Found.{added}
use Rattle.bf_tables.proofs.blobs.Blobs.add.Goals as goal

pub returns-clause-ok : goal.returns-clause-ok
returns-clause-ok c =
    c.in_ok-insert.ensures.entries
    ∙ added c.args.name c.args.content c.self.inside.contents.entries
    (ap (λ (blobs : Blobs). has_blob blobs c.args.name) c.self.view_is ∙ sym c.if-has.ensures)
    ∙ ap (λ (blobs : Blobs). with_blob blobs c.args.name c.args.content) c.self.view_is
