-- A table of which no outcome is known.
use Rattle.std.proofs.Common.{◌≡◌, ℕ, zero, suc, List, replicate, Option, None, refl}
use Rattle.bf_farm.proofs.Untold.{none_is_answered, none_is_planned}
use Rattle.bf_farm.specs.Reports.{TableIn, TableFollows}
use Rattle.bf_oid.specs.declared.object.Oid.{Oid}
use Rattle.bf_search.specs.declared.outcomes.Outcome.{Outcome}
use Rattle.bf_search.specs.Outcomes.{outcomes_of_table}
use Rattle.bf_tester.specs.declared.answer.Answer.{Answer}

pub none_known : (n p : ℕ) → outcomes_of_table (replicate n None) p ≡ None
none_known zero p = refl
none_known (suc n) zero = refl
none_known (suc n) (suc p) = none_known n p

pub fresh_in : (names : List Oid) (answers : List Answer) (n : ℕ) (table : List (Option Outcome)) → table ≡ replicate n None → TableIn names answers table
fresh_in names answers n table fresh = none_is_answered names answers table n fresh

pub fresh_follows : (told : Option (List Outcome)) (n : ℕ) (table : List (Option Outcome)) → table ≡ replicate n None → TableFollows told table
fresh_follows told n table fresh = none_is_planned told table n fresh
