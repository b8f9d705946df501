use Rattle.std.proofs.Common.{◌≡◌, ℕ, List, length, replicate, None, arith}
use Rattle.std.proofs.lemmas.List.Elements.{All-weaker}
use Rattle.bf_many.specs.declared.search.ReadySearch.{ReadySearch}
use Rattle.bf_many.proofs.Fresh.{AreUntold, untold_testers}
use Rattle.bf_examples.specs.Searches.{AreFresh, IsFresh}
use Rattle.bf_examples.proofs.sharing.found_by.Goals as goal

untold : (n : ℕ) (searches : List ReadySearch) → AreFresh n searches → AreUntold n searches
untold n searches fresh = All-weaker (IsFresh n) (λ (s : ReadySearch). s.table ≡ replicate n None) (λ s is. is.table) searches fresh.each

pub run_shared-requires-clause-testers : goal.run_shared-requires-clause-testers
run_shared-requires-clause-testers g c κs within =
    let fresh = c.in_ok-two.ensures in
    untold_testers g.T.Tester _ (length c.args.history.now.parents) _ _ (omega (arith, c.requires.two, fresh.two)) (untold _ _ fresh)
