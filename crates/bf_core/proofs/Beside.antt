-- An outcome of a place that a run does not ask for changes nothing of the run.
use Rattle.std.proofs.Common.{◌≡◌, ◌↔◌, ℕ, true, false, List, Option, Some, None, refl, sym, ap, ◌∙◌, subst}
use Rattle.std.proofs.lemmas.Bool.{both_ways}
use Rattle.bf_search.specs.declared.asks.Ask.{Ask}
use Rattle.bf_search.specs.declared.asks.Ask.TheVariants as asks
use Rattle.bf_search.specs.declared.farm.Ending.{Ending}
use Rattle.bf_search.specs.declared.farm.Ending.TheVariants as endings
use Rattle.bf_search.specs.Outcomes.{Outcomes}
use Rattle.bf_search.specs.State.{Search}
use Rattle.bf_search.specs.Run.{End, Answered, Leg, Open, Aborted, leg_of, one_at_a_time}
use Rattle.bf_search.specs.Farm.{end_of}
use Rattle.bf_state.specs.Runs.{IsPartOf, is_open}
use Rattle.bf_state.proofs.Tables.{seq_ends_alike}
use Rattle.bf_state.proofs.Used.{off_the_path, told as told_used}
use Rattle.bf_spec.specs.Walks.{Tells}
use Rattle.bf_core.specs.Claims.{has_ended, GoesOn}

module _ (graph : List (List ℕ)) (known more : Outcomes) (part : IsPartOf known more) where
  end_stays : (k : ℕ) (s : Search) (end : End) → (one_at_a_time graph s known k).end ≡ end → ((q : ℕ) → end ≡ Open q → more q ≡ known q)
      → one_at_a_time graph s more k ≡ one_at_a_time graph s known k
  end_stays k s (Open q) e same = off_the_path graph known more (leg_of k) s q part e (same q refl ∙ (told_used known graph (leg_of k) s).unknown q e)
  end_stays k s (Answered a) e same = seq_ends_alike graph s known more k part (ap is_open e)
  end_stays k s Leg e same = seq_ends_alike graph s known more k part (ap is_open e)
  end_stays k s (Aborted p outcome) e same = seq_ends_alike graph s known more k part (ap is_open e)

  -- The run is the same where nothing more is known of the place that it waits for.
  pub seq_stays : (k : ℕ) (s : Search) → ((q : ℕ) → (one_at_a_time graph s known k).end ≡ Open q → more q ≡ known q)
      → one_at_a_time graph s more k ≡ one_at_a_time graph s known k
  seq_stays k s same = end_stays k s (one_at_a_time graph s known k).end refl same

-- ---- one ending an end

abbrev ending_of_ask : Ask → Option Ending
ending_of_ask (asks.FirstBad p) = Some (endings.FirstBad p)
ending_of_ask (asks.OnlySkipped ps) = Some (endings.OnlySkipped ps)
ending_of_ask (asks.MergeBaseBad p) = Some (endings.MergeBaseBad p)
ending_of_ask (asks.GoodNotAncestor p) = Some (endings.GoodNotAncestor p)
ending_of_ask (asks.BothSides p) = Some (endings.BothSides p)
ending_of_ask other = None

abbrev ending_of : End → Option Ending
ending_of (Answered a) = ending_of_ask a
ending_of Leg = Some endings.Leg
ending_of (Open p) = None
ending_of (Aborted p outcome) = Some (endings.Aborted p outcome)

of_end_of : (e : Ending) → is_open (end_of e) ≡ false → Some e ≡ ending_of (end_of e)
of_end_of (endings.FirstBad p) h = refl
of_end_of (endings.OnlySkipped ps) h = refl
of_end_of (endings.MergeBaseBad p) h = refl
of_end_of (endings.GoodNotAncestor p) h = refl
of_end_of (endings.BothSides p) h = refl
of_end_of (endings.Aborted p outcome) h = refl
of_end_of endings.Leg h = refl
of_end_of (endings.TestFault p) h = cc

told : (o : Option Ending) (end : End) → Tells o end → o ≡ ending_of end
told None (Open p) h = refl
told None (Answered a) h = cc
told None Leg h = cc
told None (Aborted p outcome) h = cc
told (Some e) end h = of_end_of e (ap is_open h.0 ∙ h.1) ∙ ap ending_of h.0

-- an end is told by one ending alone
pub told_alike : (o other : Option Ending) (end : End) → Tells o end → Tells other end → o ≡ other
told_alike o other end h k = told o end h ∙ sym (told other end k)

pub none_is_open : (o : Option Ending) (end : End) → Tells o end → (o ≡ None) ↔ (is_open end ≡ true)
none_is_open None end h = (λ e. h, λ e. refl)
none_is_open (Some ending) end h = (λ e. cc, λ e. absurd (both_ways (is_open end) h.1 e))

-- where the search has no end the run goes on
pub goes_told : (o : Option Ending) (end : End) → Tells o end → has_ended o ≡ false → GoesOn end
goes_told None (Open p) h e = tt
goes_told None Leg h e = tt
goes_told None (Answered a) h e = cc h
goes_told None (Aborted p outcome) h e = cc h
goes_told (Some endings.Leg) end h e = subst GoesOn h.0 tt
goes_told (Some (endings.FirstBad p)) end h e = cc e
goes_told (Some (endings.OnlySkipped ps)) end h e = cc e
goes_told (Some (endings.MergeBaseBad p)) end h e = cc e
goes_told (Some (endings.GoodNotAncestor p)) end h e = cc e
goes_told (Some (endings.BothSides p)) end h e = cc e
goes_told (Some (endings.Aborted p outcome)) end h e = cc e
goes_told (Some (endings.TestFault p)) end h e = cc e

-- and the other way round
pub told_goes : (o : Option Ending) (end : End) → Tells o end → GoesOn end → has_ended o ≡ false
told_goes o (Open p) h on = ap has_ended (told o (Open p) h)
told_goes o Leg h on = ap has_ended (told o Leg h)
told_goes o (Answered a) h on = absurd on
told_goes o (Aborted p outcome) h on = absurd on

pub leg_told : (o : Option Ending) (end : End) → Tells o end → (o ≡ Some endings.Leg) ↔ (end ≡ Leg)
leg_told o end h = (
  λ e. let t : Tells (Some endings.Leg) end = subst (λ (x : Option Ending). Tells x end) e h in sym t.0,
  λ e. told o end h ∙ ap ending_of e,
)
