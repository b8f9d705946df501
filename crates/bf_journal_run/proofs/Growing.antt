-- A leg keeps what was known before it.
use Rattle.std.proofs.Common.{◌≡◌, ◌≢◌, List, [], ◌∷◌, ◌++◌, Option, Some, None, option_map, unwrap_or, refl, sym, ap, ◌∙◌, subst}
use Rattle.bf_farm.specs.declared.report.Report.{Report}
use Rattle.bf_runs.proofs.Sequences.{Keeps, leg_keeps}
use Rattle.bf_runs.specs.Legs.{Course, Stand, first_stand, setting_of, stand_after, IsBetween, IsLeg, LeadsOn, LegsLead}
use Rattle.bf_search.specs.declared.farm.Ending.{Ending}
use Rattle.bf_search.specs.declared.farm.Ending.TheVariants as ending
use Rattle.bf_search.specs.declared.farm.Event.{Event}
use Rattle.bf_search.specs.declared.outcomes.Outcome.{Outcome}
use Rattle.bf_search.specs.Farm.{Farm}
use Rattle.bf_search.specs.Run.{Run}
use Rattle.bf_tester.specs.declared.answer.Answer.{Answer}

-- the same events lead to the same table
same_table : (one other : Option Farm) (a b : Farm) → one ≡ Some a → one ≡ Some b → b.table ≡ a.table
same_table one other a b is too =
    ap (λ (o : Option Farm). unwrap_or (option_map (λ (f : Farm). f.table) o) []) (sym too ∙ is)

-- whole legs lead to one stand alone
legs_alike : (course : Course) (stand a b : Stand) (whole : List (List Event)) → LegsLead course stand whole a → LegsLead course stand whole b → a ≡ b
unfolding LegsLead
legs_alike course stand a b [] one other = one ∙ sym other
legs_alike course stand a b (events ∷ whole) (table, leg, ended, more) (same, again, too, rest) =
    legs_alike course (stand_after course stand table) a b whole more
    (subst (λ (t : List (Option Outcome)). LegsLead course (stand_after course stand t) whole b) (same_table _ None _ _ leg.leads again.leads) rest)

-- where the last of some legs began
record IsLast (course : Course) (stand after : Stand) (whole : List (List Event)) (events : List Event) : Type 0 where
  mid : Stand
  table : List (Option Outcome)
  led : LegsLead course stand whole mid
  leg : IsLeg course mid events table
  is : after ≡ stand_after course mid table

last_leg : (course : Course) (stand after : Stand) (whole : List (List Event)) (events : List Event) → LegsLead course stand (whole ++ events ∷ []) after
    → IsLast course stand after whole events
unfolding LegsLead
last_leg course stand after [] events (table, leg, ended, same) = record { mid = stand; table = table; led = refl; leg = leg; is = same }
last_leg course stand after (first ∷ whole) events (next, legal, ended, more) =
    let rest = last_leg course (stand_after course stand next) after whole events more in
    record { mid = rest.mid; table = rest.table; led = (next, legal, ended, rest.led); leg = rest.leg; is = rest.is }

module _ (course : Course) (told : Option (List Outcome)) (before after : List Answer) (stand : Stand) (report : Report) (whole : List (List Event)) (run : Run)
    (between : IsBetween course told before stand whole run) (leads : LeadsOn course told before after stand report) where
  from_last : (last : Stand) (table : List (Option Outcome)) → LegsLead course (first_stand course) whole last
      → IsLeg course last report.events.items table → table ≡ report.table → Keeps stand.table report.table
  from_last last table led leg same =
      leg_keeps (setting_of course stand.search) stand.table report.table report.events.items
      (subst (λ (s : Stand). IsLeg course s report.events.items report.table) (legs_alike course (first_stand course) last stand whole led between.legs)
      (subst (λ (t : List (Option Outcome)). IsLeg course last report.events.items t) same leg)).leads

  after_leg : report.ending ≡ ending.Leg → Keeps stand.table report.table
  after_leg e =
      let last = last_leg course (first_stand course) (stand_after course stand report.table) whole report.events.items
      (leads.between whole run between e).legs in
      from_last last.mid last.table last.led last.leg (ap (λ (s : Stand). s.table) (sym last.is))

  at_end : report.ending ≢ ending.Leg → Keeps stand.table report.table
  at_end other =
      let over = (leads.over whole run between other).are in
      from_last over.stand report.table over.whole over.last refl

  -- what was known before a leg is known after it
  pub leg_grows : Keeps stand.table report.table
  leg_grows = by report.ending refl
    where
      by : (e : Ending) → report.ending ≡ e → Keeps stand.table report.table
      by ending.Leg is = after_leg is
      by other is = at_end (λ leg. cc (sym is ∙ leg))
