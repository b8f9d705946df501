use Rattle.std.proofs.Common.{List, ℕ, Option, Some, Bor, ap, ◌∙◌}
use Rattle.std.specs.Option.{option_map}
use Rattle.bf_history.specs.Contents.{Blobs, blob_named}
use Rattle.bf_tables.proofs.Found.{found}
use Rattle.bf_tables.proofs.blobs.Blobs.get.Goals as goal

pub returns-in_err-content : goal.returns-in_err-content
returns-in_err-content c =
    ap (λ (none : Option (Bor (List ℕ))). option_map (λ (bytes : Bor (List ℕ)). bytes.now) none) c.from_residual.ensures
    ∙ c.in_err-content.ensures.value
    ∙ found c.args.name c.self.inside.contents.entries
    ∙ ap (λ (blobs : Blobs). blob_named blobs c.args.name) c.self.view_is

pub returns : goal.returns
returns c =
    ap (λ (bytes : List ℕ). let o : Option (List ℕ) = Some bytes in o) c.as_slice.ensures
    ∙ c.in_ok-content.ensures.value
    ∙ found c.args.name c.self.inside.contents.entries
    ∙ ap (λ (blobs : Blobs). blob_named blobs c.args.name) c.self.view_is
