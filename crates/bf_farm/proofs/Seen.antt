-- What a board sees of its core's calls.
use Rattle.std.proofs.Common.{◌≡◌, ◌↔◌, ℕ, Bool, true, false, List, Option, Some, None, refl, sym, ap, subst, IsSome}
use Rattle.std.specs.Option.{is_some}
use Rattle.bf_search.specs.declared.farm.Ending.{Ending}
use Rattle.bf_search.specs.Outcomes.{outcomes_of_table}
use Rattle.bf_spec.specs.Ways.{IsAsked}
use Rattle.bf_state.specs.Runs.{is_open}
use Rattle.bf_state.specs.Session.{Session}
use Rattle.bf_core.specs.declared.answers.Pick.{Pick}
use Rattle.bf_core.specs.declared.answers.Pick.TheVariants.{Work, NotYet, Ended}
use Rattle.bf_core.specs.Machine.{Machine, setting_of, farm_of, run_of, IsSameButNodes, IsAllTaken, ClaimsWork, LeavesPick, IsConsumed}
use Rattle.bf_core.specs.Machine as machine
use Rattle.bf_core.proofs.Beside.{goes_told, told_goes}
use Rattle.bf_farm.specs.Cores.{view_of, Picks, IsWanted, AreWithdrawn}

pub same_view : (old new : Machine) → IsSameButNodes old new → view_of new ≡ view_of old
same_view old new h = ap (λ (m : Machine). view_of m) h.same

-- where there is an ending the run is not open
pub closed_where : (b : Bool) (o : Option Ending) → ((o ≡ None) ↔ (b ≡ true)) → is_some o ≡ true → b ≡ false
closed_where false o h s = refl
closed_where true o h s = cc (s, h.1 refl)

none_is_not_some : (o : Option Ending) → o ≡ None → IsSome o → ⊥
none_is_not_some None e h = cc h
none_is_not_some (Some x) e h = cc

-- a pick of a core that goes on
pub picks_of : (old new : Machine) (worker : ℕ) (pick : Pick) → old.ending ≡ None → is_open (run_of old).end ≡ true → ClaimsWork old worker new pick
    → LeavesPick old worker new pick
    → (pick ≡ NotYet → IsAllTaken old) → (pick ≡ Ended → IsSome old.ending) → Picks (view_of old) (view_of new) worker pick
picks_of old new worker (Work p) goes waits work leaves taken ended = work.farm
picks_of old new worker NotYet goes waits work leaves taken ended = (ap (λ (m : Machine). farm_of m) leaves, (taken refl).none_open, waits)
picks_of old new worker Ended goes waits work leaves taken ended = absurd (none_is_not_some old.ending goes (ended refl))

-- ---- the workers whose tests nobody waits for

wanted_seen : (core : Machine) (p : ℕ) → IsConsumed core → machine.IsWanted core p → IsWanted (view_of core) p
wanted_seen core p consumed wanted = record {
  goes_on = goes_told core.ending (run_of core).end consumed.ending wanted.goes_on;
  asked = subst (λ (s : Session). IsAsked core.graph (outcomes_of_table core.table) s.search p) consumed.state wanted.asked;
}

wanted_again : (core : Machine) (p : ℕ) → IsConsumed core → IsWanted (view_of core) p → machine.IsWanted core p
wanted_again core p consumed wanted = record {
  goes_on = told_goes core.ending (run_of core).end consumed.ending wanted.goes_on;
  asked = subst (λ (s : Session). IsAsked core.graph (outcomes_of_table core.table) s.search p) (sym consumed.state) wanted.asked;
}

pub withdrawn_seen : (core : Machine) (workers : List ℕ) → IsConsumed core → machine.AreWithdrawn core workers → AreWithdrawn (view_of core) workers
withdrawn_seen core workers consumed are worker = (
  λ c. let w = (are worker).0 c in record {
    claim = w.claim;
    among = w.among;
    by = w.by;
    dropped = λ wanted. w.dropped
        (wanted_again core w.claim.place consumed wanted);
  },
  λ w. (are worker).1 (record {
    claim = w.claim;
    among = w.among;
    by = w.by;
    dropped = λ wanted. w.dropped
        (wanted_seen core w.claim.place consumed wanted);
  }),
)
