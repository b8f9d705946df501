-- What is known of the commits of a run.
use Rattle.std.proofs.Common.{◌≡◌, ℕ, List, replicate, Option, None, sym, subst}
use Rattle.bf_farm.proofs.Soundness.{table_wider}
use Rattle.bf_farm.specs.Reports.{AreAmong, TableFollows}
use Rattle.bf_oid.specs.declared.object.Oid.{Oid}
use Rattle.bf_search.specs.declared.outcomes.Outcome.{Outcome}
use Rattle.bf_tester.specs.declared.answer.Answer.{Answer}
use Rattle.bf_runs.specs.Legs.{IsKnown}
use Rattle.bf_runs.proofs.Fresh.{fresh_in, fresh_follows}

-- of a table without an outcome nothing has to be answered
pub nothing_known_yet : (names : List Oid) (told : Option (List Outcome)) (answers : List Answer) (n : ℕ) (table : List (Option Outcome))
    → table ≡ replicate n None → IsKnown names told answers table
nothing_known_yet names told answers n table fresh = record {
  answered = fresh_in names answers n table fresh;
  planned = fresh_follows told n table fresh;
}

-- what is known stays known when answers are added
pub known_later : (names : List Oid) (told later : Option (List Outcome)) (answers more : List Answer) (table : List (Option Outcome))
    → later ≡ told → AreAmong more answers → IsKnown names told answers table → IsKnown names later more table
known_later names told later answers more table same among known = record {
  answered = table_wider names more answers table among known.answered;
  planned = subst (λ (plan : Option (List Outcome)). TableFollows plan table) (sym same) known.planned;
}
