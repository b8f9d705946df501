use Rattle.std.proofs.Common.{Some, None, length, refl}
use Rattle.std.proofs.lemmas.List.{length-replicate}
use Rattle.bf_runs.proofs.Fresh.{fresh_in, fresh_follows}
use Rattle.bf_examples.proofs.searching.report_by.Goals as goal

-- the search may begin: both ends are known, and no outcome is
pub run_leg-requires-clause-ready : goal.run_leg-requires-clause-ready
run_leg-requires-clause-ready g c = λ κs within.
    let state = c.in_ok-standing.ensures.state in
    let begun = c.in_ok-state.ensures in
    let fresh = c.in_ok-standing.ensures.table in
    record {
      len = rw (state, begun) c.len.ensures.len;
      long = rw fresh (length-replicate (length c.args.history.now.parents) None);
      ends = rw (state, begun) (record { bad = c.in_ok-bad.bad; bad_is = refl {a = Some c.in_ok-bad.bad}; some_good = λ e. cc });
      known = record {
        answered = fresh_in _ _ _ _ fresh;
        planned = fresh_follows _ _ _ fresh;
      };
    }
