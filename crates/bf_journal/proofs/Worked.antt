-- Worked examples of what an image stands for: journals of two places, of the run whose identity is twenty times 9.
use Rattle.std.proofs.Common.{◌≡◌, ℕ, List, [], ◌∷◌, ◌++◌, replicate, take, Some, None, Ok, Err, refl}
use Rattle.bf_oid.specs.declared.object.Oid.{Oid}
use Rattle.bf_search.specs.declared.outcomes.Outcome.TheVariants.{Exit, Killed}
use Rattle.bf_journal.specs.Image.{table_in}

abbrev nines : Oid
nines = record { 0 = replicate 20 9 }

abbrev ones : Oid
ones = record { 0 = replicate 20 1 }

abbrev image_of : ℕ → List ℕ → List ℕ
image_of gate slots = (gate ∷ 0 ∷ 0 ∷ 0 ∷ replicate 20 9) ++ slots

an_exit_and_nothing : table_in nines 2 (image_of 1 (1 ∷ 0 ∷ 7 ∷ 0 ∷ 0 ∷ 0 ∷ 3 ∷ 0 ∷ [])) ≡ Ok (Some (Exit 7) ∷ None ∷ [])
an_exit_and_nothing = refl

nothing_and_a_signal : table_in nines 2 (image_of 1 (2 ∷ 0 ∷ 7 ∷ 0 ∷ 1 ∷ 1 ∷ 0 ∷ 0 ∷ [])) ≡ Ok (None ∷ Some Killed ∷ [])
nothing_and_a_signal = refl

-- the other one is kept
a_spoiled_slot : table_in nines 2 (image_of 1 (1 ∷ 0 ∷ 7 ∷ 0 ∷ 1 ∷ 1 ∷ 5 ∷ 0 ∷ [])) ≡ Ok (Some (Exit 7) ∷ None ∷ [])
a_spoiled_slot = refl

a_closed_gate : table_in nines 2 (image_of 0 (1 ∷ 0 ∷ 7 ∷ 0 ∷ 0 ∷ 0 ∷ 0 ∷ 0 ∷ [])) ≡ Ok (None ∷ None ∷ [])
a_closed_gate = refl

too_short : table_in nines 2 (image_of 1 (1 ∷ 0 ∷ 7 ∷ 0 ∷ [])) ≡ Ok (None ∷ None ∷ [])
too_short = refl

no_room_for_an_identity : table_in ones 2 (take 23 (image_of 1 [])) ≡ Ok (None ∷ None ∷ [])
no_room_for_an_identity = refl

another_run : table_in ones 2 (image_of 1 (1 ∷ 0 ∷ 7 ∷ 0 ∷ 0 ∷ 0 ∷ 0 ∷ 0 ∷ [])) ≡ Err nines
another_run = refl

-- and one of fewer commits, too
another_shorter_run : table_in ones 2 (image_of 1 (1 ∷ 0 ∷ 7 ∷ 0 ∷ [])) ≡ Err nines
another_shorter_run = refl

another_run_without_commits : table_in ones 2 (image_of 1 []) ≡ Err nines
another_run_without_commits = refl
