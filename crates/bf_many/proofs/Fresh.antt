-- Searches of which no outcome is known are of any testers' answers.
use Rattle.std.proofs.Common.{◌≡◌, ℕ, List, [], ◌∷◌, length, replicate, All, None, arith}
use Rattle.std.proofs.lemmas.List.Elements.{All-head, All-tail}
use Rattle.bf_oid.specs.declared.object.Oid.{Oid}
use Rattle.bf_tester.specs.declared.tester.Tester.{Ghosts}
use Rattle.bf_farm.proofs.Untold.{none_is_answered, none_is_planned}
use Rattle.bf_many.specs.declared.search.ReadySearch.{ReadySearch}
use Rattle.bf_many.specs.Teams.{AreTestersOf}

abbrev pub AreUntold : ℕ → List ReadySearch → Type 0
AreUntold n searches = All (λ s. s.table ≡ replicate n None) searches

pub untold_testers : {T : Type 0} (by : Ghosts T) (names : List Oid) (n : ℕ) (testers : List T) (searches : List ReadySearch)
    → length testers ≡ length searches → AreUntold n searches → AreTestersOf by names testers searches
untold_testers by names n [] [] e none = tt
untold_testers by names n [] (s ∷ searches) e none = absurd (omega arith)
untold_testers by names n (t ∷ testers) [] e none = absurd (omega arith)
untold_testers by names n (t ∷ testers) (s ∷ searches) e none =
    let here = All-head (λ (x : ReadySearch). x.table ≡ replicate n None) s searches none in (
      record {
        answered = none_is_answered names (by.answers t) s.table n here;
        planned = none_is_planned (by.told t) s.table n here;
      },
      untold_testers by names n testers searches (omega arith) (All-tail (λ (x : ReadySearch). x.table ≡ replicate n None) s searches none),
    )
