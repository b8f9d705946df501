-- A table of which no outcome is known.
use Rattle.std.proofs.Common.{◌≡◌, ◌<◌, ◌≤◌, ℕ, List, replicate, get_or, Option, Some, None, sym, ap, ◌∙◌, ⊎_elim, arith}
use Rattle.std.proofs.lemmas.Bool.{cases_lt}
use Rattle.std.proofs.lemmas.List.{get_or-replicate, get_or_past, length-replicate}
use Rattle.bf_oid.specs.declared.object.Oid.{Oid}
use Rattle.bf_search.specs.declared.outcomes.Outcome.{Outcome}
use Rattle.bf_search.specs.Outcomes.{outcomes_of_table}
use Rattle.bf_tester.specs.declared.answer.Answer.{Answer}
use Rattle.bf_farm.specs.Reports.{TableIn, TableFollows}

abbrev nothing : Option Outcome
nothing = None

untold : (n p : ℕ) → get_or (replicate n nothing) p nothing ≡ nothing
untold n p = ⊎_elim (λ (within : p < n). get_or-replicate n p nothing nothing within)
    (λ (past : n ≤ p). get_or_past (replicate n nothing) p nothing (omega (arith, past, length-replicate n nothing))) (cases_lt p n)

none_told : (table : List (Option Outcome)) (n p : ℕ) (outcome : Outcome) → table ≡ replicate n None → outcomes_of_table table p ≡ Some outcome → ⊥
none_told table n p outcome is h = clash (sym h ∙ ap (λ (t : List (Option Outcome)). outcomes_of_table t p) is ∙ untold n p)
  where
    clash : Some outcome ≡ nothing → ⊥
    clash e = cc

pub none_is_answered : (names : List Oid) (answers : List Answer) (table : List (Option Outcome)) (n : ℕ) → table ≡ replicate n None
    → TableIn names answers table
none_is_answered names answers table n is = λ p outcome h. absurd (none_told table n p outcome is h)

pub none_is_planned : (told : Option (List Outcome)) (table : List (Option Outcome)) (n : ℕ) → table ≡ replicate n None → TableFollows told table
none_is_planned told table n is = λ p outcome h. absurd (none_told table n p outcome is h)
