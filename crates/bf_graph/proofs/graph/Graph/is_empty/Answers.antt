use Rattle.std.proofs.Common.{◌≡◌, length, sym, ap, ◌∙◌, eqb-true, eq-eqb}
use Rattle.std.proofs.lemmas.List.{nil_from_length}
use Rattle.bf_graph.proofs.Layouts.{length-lists_from}
use Rattle.bf_graph.proofs.graph.Graph.is_empty.Goals as goal

pub returns : goal.returns
returns c =
    let same : length c.args.self.now ≡ c.self.inside.ends.len = ap length (sym c.self.view_is) ∙ length-lists_from 0 _ _ ∙ sym c.self.inside.ends.ok.0 in
    (λ h. nil_from_length _ (same ∙ eqb-true _ _ (sym c.is_empty.ensures ∙ h)), λ h. c.is_empty.ensures ∙ eq-eqb _ _ (sym same ∙ ap length h))
