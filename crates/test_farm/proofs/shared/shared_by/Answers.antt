use Rattle.std.proofs.Common.{◌≡◌, List, replicate, None, arith}
use Rattle.std.proofs.lemmas.List.Elements.{All-weaker}
use Rattle.bf_many.specs.declared.search.ReadySearch.{ReadySearch}
use Rattle.bf_many.proofs.Fresh.{AreUntold, untold_testers}
use Rattle.test_farm.specs.Searches.{AreFresh, IsFresh}
use Rattle.test_farm.proofs.shared.shared_by.Goals as goal

untold : (searches : List ReadySearch) → AreFresh searches → AreUntold 8 searches
untold searches fresh = All-weaker IsFresh (λ (s : ReadySearch). s.table ≡ replicate 8 None) (λ s is. is.table) searches fresh.each

pub run_shared-requires-clause-testers : goal.run_shared-requires-clause-testers
run_shared-requires-clause-testers g c κs within =
    let fresh = c.in_ok-two.ensures in
    untold_testers g.T.Tester _ 8 _ _ (omega (arith, c.requires.two, fresh.two)) (untold _ fresh)
