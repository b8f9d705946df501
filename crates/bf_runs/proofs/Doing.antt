-- Who does what, by more workers or by none.
use Rattle.std.proofs.Common.{◌≡◌, ℕ, ◌≤◌, List, [], Option, All, refl, sym, subst, get_or, arith}
use Rattle.std.proofs.lemmas.List.Elements.{All-nil}
use Rattle.bf_farm.specs.Answering.{IsAlone, IsByWorkers, lacking}
use Rattle.bf_farm.specs.Doers.{IsOneOf, worker_of}
use Rattle.bf_farm.specs.Ends.{awaited}
use Rattle.bf_farm.specs.declared.report.Report.{Report}
use Rattle.bf_farm.proofs.Noted.{all_own}
use Rattle.bf_search.specs.declared.farm.Event.{Event}
use Rattle.bf_search.specs.declared.outcomes.Outcome.{Outcome}
use Rattle.bf_search.specs.Farm.{end_of}

-- what fewer workers did is done by one of more
pub by_more : (fewer workers : ℕ) (report : Report) → fewer ≤ workers → IsByWorkers fewer report → IsByWorkers workers report
by_more fewer workers report less by = record {
  shared = by.shared;
  by_workers = λ k d l.
      let one : IsOneOf fewer (worker_of (get_or by.shared k d)) = by.by_workers k d l in
      record { least = one.least; most = (let most = one.most in omega arith) };
  then_own = by.then_own;
}

-- what the calling thread did alone
pub by_itself : (workers : ℕ) (table : List (Option Outcome)) (report : Report) → IsAlone table report → IsByWorkers workers report
by_itself workers table report alone = record {
  shared = [];
  by_workers = All-nil (λ (e : Event). IsOneOf workers (worker_of e));
  then_own = record {
    more = report.events.items;
    added = refl;
    own = subst (λ (es : List Event). All (λ (e : Event). worker_of e ≡ 0) es) (sym alone)
        (all_own (lacking table report.used.items) (awaited (end_of report.ending)));
  };
}
