use Rattle.std.proofs.Common.{◌≡◌, ℕ, false, Option, Some, None, refl, ap, sym, ◌∙◌}
use Rattle.std.specs.List.{position}
use Rattle.std.specs.Option.{is_some}
use Rattle.bf_choice.proofs.BaseRows.{none_true}
use Rattle.bf_state.specs.Session.{Session}
use Rattle.bf_state.proofs.Settled.{none_warned}
use Rattle.bf_state.proofs.state.State.bases_to_warn_of.Goals as goal

pub returns-then-is_none : goal.returns-then-is_none
returns-then-is_none c = record {
  graph = c.len.ensures.graph;
  warned = c.new.ensures.items ∙ sym (none_warned c.args.reach.now c.args.self.now.search (none_true c.args.self.now.search.skips nowhere));
}
  where
    nothing : (o : Option ℕ) → is_some o ≡ false → None ≡ o
    nothing None h = refl
    nothing (Some p) h = cc

    nowhere : None ≡ position (λ value. value) c.args.self.now.search.skips
    nowhere = nothing c.first.result c.if-is_none.ensures ∙ c.first.ensures
        ∙ ap (λ (v : Session). position (λ value. value) v.search.skips) c.self.view_is
