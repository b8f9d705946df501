-- Runs in legs: each leg goes on from the one before, and the last one ends the run without legs.
use Rattle.std.proofs.Common.{◌≡◌, ◌≢◌, ℕ, zero, suc, ◌<◌, ◌≤◌, ◌+◌, true, if◌then◌else◌, List, [], ◌∷◌, ◌++◌, length, get_or, map, Option, Some, None, refl}
use Rattle.std.proofs.Common.{sym, ap, subst, ◌∙◌, arith}
use Rattle.std.proofs.lemmas.Grind.{flat_map-append}
use Rattle.std.proofs.lemmas.List.Folds.{flat_map-map}
use Rattle.std.proofs.lemmas.List.{append_assoc, append-nil, flat_map_more, length-append, length-map, length-set, map-append, get_or_append_left}
use Rattle.std.proofs.lemmas.List.{get_or-append-add, get_or_default, get_or-map}
use Rattle.std.proofs.lemmas.List.Elements.{All-nil, All-head, All-tail, Contains-append_left, Contains-get_or}
use Rattle.std.proofs.lemmas.Option.{cond_some}
use Rattle.std.specs.List.{All, AllPairs, Contains, flat_map}
use Rattle.std.specs.Option.{IfSome, is_none}
use Rattle.bf_core.proofs.Standing.{part_put}
use Rattle.bf_farm.specs.Answering.{pair_of, lacking, IsAlone, IsReport, HasHistory, IsSoundReport}
use Rattle.bf_farm.specs.Boards.{LeadsTo, unclaimed}
use Rattle.bf_farm.specs.Cores.{setting_at}
use Rattle.bf_farm.specs.Doers.{AreByWorkers}
use Rattle.bf_farm.specs.Ends.{awaited, failed_test, test_at, test_of}
use Rattle.bf_farm.specs.declared.report.Report.{Report}
use Rattle.bf_farm.specs.Posts.{GainsPosts}
use Rattle.bf_farm.specs.Reports.{TableIn}
use Rattle.bf_oid.specs.declared.object.Oid.{Oid}
use Rattle.bf_graph.specs.Graph.{IsGraph}
use Rattle.bf_state.specs.Ends.{HasEnds}
use Rattle.bf_state.specs.Tidy.{IsTidy}
use Rattle.bf_state.proofs.Causes.{ends_kept}
use Rattle.bf_state.proofs.Legal.{events_keep_tidy, untold_at}
use Rattle.bf_state.proofs.Used.{used_differ}
use Rattle.bf_search.specs.declared.asks.Ask.{Ask}
use Rattle.bf_search.specs.declared.asks.Ask.TheVariants.{WaitBoth, WaitBad, WaitGood, Test, MergeBaseBad, GoodNotAncestor, BothSides, FirstBad, OnlySkipped}
use Rattle.bf_search.specs.declared.entries.Entry.{Entry}
use Rattle.bf_search.specs.declared.entries.Entry.TheVariants.{Marked, SkippedBase}
use Rattle.bf_search.specs.declared.farm.Ending.{Ending}
use Rattle.bf_search.specs.declared.farm.Ending.TheVariants as ending
use Rattle.bf_search.specs.declared.farm.Event.{Event}
use Rattle.bf_search.specs.declared.farm.Event.TheVariants.{Claim as Claimed, Post as Posted, Give as Given}
use Rattle.bf_search.specs.declared.outcomes.Outcome.{Outcome}
use Rattle.bf_search.specs.declared.outcomes.Verdict.{Verdict}
use Rattle.bf_search.specs.declared.outcomes.Verdict.TheVariants.{Mark as MarkOf, Abort}
use Rattle.bf_search.specs.Within.{IsEntryWithin}
use Rattle.bf_search.specs.Farm.{Setting, Farm, step, after_events, end_of}
use Rattle.bf_search.specs.LeftToAsk.{left_to_ask}
use Rattle.bf_search.specs.Outcomes.{Outcomes, outcomes_of_table, verdict_of}
use Rattle.bf_search.specs.Run.{Run, End, Leg, with_entries, with_used, marked_one, leg_of, after_verdict, after_look, after_step, after_ask, run_within}
use Rattle.bf_search.specs.Run.{run, one_at_a_time}
use Rattle.bf_search.specs.State.{Search, Asked, IsSearchOver, ask, mark}
use Rattle.bf_state.specs.Runs.{IsPartOf, is_unfinished, in_sequence}
use Rattle.bf_state.specs.Session.{Session, IsSearchBelow, with_search}
use Rattle.bf_state.proofs.Tables.{run_follows}
use Rattle.bf_tester.specs.declared.answer.Answer.{Answer}
use Rattle.bf_runs.specs.declared.case.RunSettings.{RunSettings}
use Rattle.bf_runs.specs.Courses.{course_from}
use Rattle.bf_runs.specs.Legs.{Course, Stand, first_stand, setting_of, leg_run, IsLeg, stand_after, LegsLead, IsKnown, AreTestsOf, IsTestedAlone}
use Rattle.bf_runs.specs.Legs.{GoesOnFrom, IsBetween, IsReady, IsLegRun, LeadsOn}
use Rattle.bf_search.specs.Within.{IsEndingWithin}
use Rattle.bf_runs.proofs.Fewer.{leg_leaves_fewer}
use Rattle.bf_runs.proofs.Posted.{tested_more}
use Rattle.bf_runs.proofs.Ran.{IsEndWithin, run_is_within}

-- ---- a leg that did not end after its marks is the run without legs

abbrev Go : Type 0
Go = Option ℕ → Search → Run

same_verdict : (go : Go) (left : Option ℕ) (s : Search) (p : ℕ) (outcome : Outcome) (v : Verdict)
    → ((t : Search) → (go (marked_one left) t).end ≢ Leg → go None t ≡ go (marked_one left) t)
    → (after_verdict go left s p outcome v).end ≢ Leg → after_verdict go None s p outcome v ≡ after_verdict go left s p outcome v
same_verdict go left s p outcome Abort h unspent = refl
same_verdict go left s p outcome (MarkOf m) h unspent = ap (λ (r : Run). with_entries (Marked m p ∷ []) r) (h (mark s m p) unspent)

same_look : (known : Outcomes) (go : Go) (left : Option ℕ) (s : Search) (p : ℕ) (o : Option Outcome)
    → ((t : Search) → (go (marked_one left) t).end ≢ Leg → go None t ≡ go (marked_one left) t)
    → (after_look known go left s p o).end ≢ Leg → after_look known go None s p o ≡ after_look known go left s p o
same_look known go left s p None h unspent = refl
same_look known go left s p (Some outcome) h unspent = ap (λ (r : Run). with_used p outcome r) (same_verdict go left s p outcome (verdict_of outcome) h unspent)

same_step : (known : Outcomes) (go : Go) (left : Option ℕ) (s : Search) (a : Ask)
    → ((t : Search) → (go (marked_one left) t).end ≢ Leg → go None t ≡ go (marked_one left) t)
    → (after_step known go left s a).end ≢ Leg → after_step known go None s a ≡ after_step known go left s a
same_step known go left s (Test p) h unspent = same_look known go left s p (known p) h unspent
same_step known go left s (FirstBad p) h unspent = refl
same_step known go left s (OnlySkipped ps) h unspent = refl
same_step known go left s (MergeBaseBad p) h unspent = refl
same_step known go left s (GoodNotAncestor p) h unspent = refl
same_step known go left s (BothSides p) h unspent = refl
same_step known go left s WaitBoth h unspent = refl
same_step known go left s WaitBad h unspent = refl
same_step known go left s WaitGood h unspent = refl

same_asked : (known : Outcomes) (go : Go) (left : Option ℕ) (asked : Asked)
    → ((t : Search) → (go (marked_one left) t).end ≢ Leg → go None t ≡ go (marked_one left) t)
    → (after_ask known go left asked).end ≢ Leg → after_ask known go None asked ≡ after_ask known go left asked
same_asked known go left asked h unspent =
    ap (λ (r : Run). with_entries (map (λ p. SkippedBase p) asked.step.warned) r) (same_step known go left asked.search asked.step.ask h unspent)

same_within : (turns : ℕ) (graph : List (List ℕ)) (known : Outcomes) (left : Option ℕ) (s : Search)
    → (run_within turns graph known left s).end ≢ Leg → run_within turns graph known None s ≡ run_within turns graph known left s
unfolding run_within
same_within zero graph known left s unspent = absurd (unspent refl)
same_within (suc turns) graph known None s unspent = refl
same_within (suc turns) graph known (Some zero) s unspent = absurd (unspent refl)
same_within (suc turns) graph known (Some (suc k)) s unspent =
    same_asked known (run_within turns graph known) (Some (suc k)) (ask graph s) (λ t. same_within turns graph known (marked_one (Some (suc k))) t) unspent

pub unspent_leg : (graph : List (List ℕ)) (known : Outcomes) (s : Search) (k : ℕ) → (one_at_a_time graph s known k).end ≢ Leg
    → one_at_a_time graph s known 0 ≡ one_at_a_time graph s known k
unfolding run
unspent_leg graph known s k unspent = same_within _ graph known (leg_of k) s unspent

-- ---- legal events keep what is known

pub part_same : (known : Outcomes) → IsPartOf known known
part_same known = λ p. itself (known p)
  where
    itself : (o : Option Outcome) → IfSome o (λ outcome. o ≡ Some outcome)
    itself None = tt
    itself (Some outcome) = refl

pub part_then : (a b c : Outcomes) → IsPartOf a b → IsPartOf b c → IsPartOf a c
part_then a b c h k = λ p. at p (a p) (h p)
  where
    further : (p : ℕ) (x : Outcome) (o : Option Outcome) → o ≡ Some x → IfSome o (λ y. c p ≡ Some y) → c p ≡ Some x
    further p x None e i = cc
    further p x (Some y) e i = i ∙ e

    at : (p : ℕ) (o : Option Outcome) → IfSome o (λ x. b p ≡ Some x) → IfSome o (λ x. c p ≡ Some x)
    at p None i = tt
    at p (Some x) i = further p x (b p) i (k p)

-- a longer table, and one of the same length
pub record Keeps (before after : List (Option Outcome)) : Type 0 where
  pub part : IsPartOf (outcomes_of_table before) (outcomes_of_table after)
  pub long : length after ≡ length before

keeps_then : (a b c : List (Option Outcome)) → Keeps a b → Keeps b c → Keeps a c
keeps_then a b c h k = record { part = part_then (outcomes_of_table a) (outcomes_of_table b) (outcomes_of_table c) h.part k.part; long = k.long ∙ h.long }

keeps_step : (setting : Setting) (farm next : Farm) (event : Event) → IsTidy farm → step setting farm event ≡ Some next → Keeps farm.table next.table
keeps_step setting farm next (Claimed worker p) tidy e =
    let told = cond_some _ _ next e in subst (λ (f : Farm). Keeps farm.table f.table) told.1
    (record { part = part_same (outcomes_of_table farm.table); long = refl })
keeps_step setting farm next (Posted worker p outcome) tidy e =
    let told = cond_some _ _ next e in
    subst (λ (f : Farm). Keeps farm.table f.table) told.1
    (record { part = part_put farm.table p outcome (untold_at farm worker p tidy told.0); long = length-set farm.table p (Some outcome) })
keeps_step setting farm next (Given worker p) tidy e =
    let told = cond_some _ _ next e in subst (λ (f : Farm). Keeps farm.table f.table) told.1
    (record { part = part_same (outcomes_of_table farm.table); long = refl })

keeps_events : (setting : Setting) (farm next : Farm) (events : List Event) → IsTidy farm → after_events setting (Some farm) events ≡ Some next
    → Keeps farm.table next.table
keeps_events setting farm next [] tidy e =
    let same : farm ≡ next = cc in subst (λ (f : Farm). Keeps farm.table f.table) same (record { part = part_same (outcomes_of_table farm.table); long = refl })
keeps_events setting farm next (event ∷ events) tidy e = by_step (step setting farm event) refl e (λ between. keeps_events setting between next events)
  where
    none_left : (events : List Event) → after_events setting None events ≡ None
    none_left [] = refl
    none_left (event ∷ events) = refl

    by_step : (found : Option Farm) → step setting farm event ≡ found → after_events setting found events ≡ Some next
        → ((between : Farm) → IsTidy between → after_events setting (Some between) events ≡ Some next → Keeps between.table next.table)
        → Keeps farm.table next.table
    by_step None is k rest = cc (none_left events, k)
    by_step (Some between) is k rest =
        keeps_then farm.table between.table next.table (keeps_step setting farm between event tidy is)
        (rest between (events_keep_tidy setting farm between (event ∷ []) tidy is) k)

no_claims : (table : List (Option Outcome)) → IsTidy (unclaimed table)
no_claims table = record {
  workers = λ i j d low high same. omega arith;
  places = λ i j d low high same. omega arith;
  untold = All-nil (λ c. outcomes_of_table table c.place ≡ None);
}

pub leg_keeps : (setting : Setting) (first table : List (Option Outcome)) (events : List Event) → LeadsTo setting first events (unclaimed table)
    → Keeps first table
leg_keeps setting first table events leads = keeps_events setting (unclaimed first) (unclaimed table) events (no_claims first) leads

-- ---- one leg more

pub legs_lead_on : (course : Course) (stand after : Stand) (whole : List (List Event)) (events : List Event) (table : List (Option Outcome))
    → LegsLead course stand whole after
    → IsLeg course after events table → (leg_run course after.search table).end ≡ Leg
    → LegsLead course stand (whole ++ events ∷ []) (stand_after course after table)
unfolding LegsLead
legs_lead_on course stand after [] events table same leg ends = (
  table,
  subst (λ (s : Stand). IsLeg course s events table) same leg,
  subst (λ (s : Stand). (leg_run course s.search table).end ≡ Leg) same ends,
  ap (λ (s : Stand). stand_after course s table) same,
)
legs_lead_on course stand after (first ∷ whole) events table (next, legal, ended, more) leg ends =
    (next, legal, ended, legs_lead_on course (stand_after course stand next) after whole events table more leg ends)

sequence_assoc : (a b c : Run) → in_sequence a (in_sequence b c) ≡ in_sequence (in_sequence a b) c
sequence_assoc a b c = λ i. record {
  entries = sym (append_assoc a.entries b.entries c.entries) i;
  used = sym (append_assoc a.used b.used c.used) i;
  search =
      c.search;
  end = c.end;
}

module _ (course : Course) (g : IsGraph course.graph) (run_so_far : Run) (stand : Stand) (table : List (Option Outcome))
    (over : IsSearchOver course.graph stand.search) (reached : run_so_far.search ≡ stand.search)
    (goes_on : GoesOnFrom course run_so_far (outcomes_of_table stand.table)) (keeps : IsPartOf (outcomes_of_table stand.table) (outcomes_of_table table)) where
  abbrev leg : Run
  leg = leg_run course stand.search table

  from_stand : (more : Outcomes) → IsPartOf (outcomes_of_table table) more
      → one_at_a_time course.graph course.first more 0 ≡ in_sequence run_so_far (one_at_a_time course.graph stand.search more 0)
  from_stand more part =
      goes_on more (part_then (outcomes_of_table stand.table) (outcomes_of_table table) more keeps part)
      ∙ ap (λ (s : Search). in_sequence run_so_far (one_at_a_time course.graph s more 0)) reached

  pub goes_on_after : is_unfinished leg.end ≡ true → GoesOnFrom course (in_sequence run_so_far leg) (outcomes_of_table table)
  goes_on_after unfinished = λ more part.
      from_stand more part
      ∙ ap (λ (r : Run). in_sequence run_so_far r) (run_follows course.graph (outcomes_of_table table) more g part (leg_of course.leg) stand.search over
      unfinished)
      ∙ sequence_assoc run_so_far leg (one_at_a_time course.graph leg.search more 0)

  pub ends_with : leg.end ≢ Leg → in_sequence run_so_far leg ≡ one_at_a_time course.graph course.first (outcomes_of_table table) 0
  ends_with unspent =
      sym (from_stand (outcomes_of_table table) (part_same (outcomes_of_table table))
      ∙ ap (λ (r : Run). in_sequence run_so_far r) (unspent_leg course.graph (outcomes_of_table table) stand.search course.leg unspent))

-- ---- one worker

abbrev Pair : Type 0
Pair = ℕ × Outcome

apart : (xs ys : List Pair) (x y : Pair) → AllPairs (λ a b. a.0 ≢ b.0) (xs ++ ys) → Contains xs x → Contains ys y → x.0 ≢ y.0
apart xs ys x y pairs (i, low, is) (k, high, also) same =
    let long = length-append xs ys in
    let left : get_or (xs ++ ys) i x ≡ x = get_or_append_left xs ys x i low ∙ is in
    let right : get_or (xs ++ ys) (length xs + k) x ≡ y = get_or-append-add xs ys k x ∙ get_or_default ys k x y high ∙ also in
    pairs i (length xs + k) x (omega arith) (omega arith) (ap (λ (a : Pair). a.0) left ∙ same ∙ sym (ap (λ (a : Pair). a.0) right))

in_map : (xs : List Answer) (a : Answer) → Contains xs a → Contains (map pair_of xs) (pair_of a)
in_map xs a (i, low, is) = (i, (let long = length-map xs pair_of in omega arith), get_or-map pair_of xs i a (pair_of a) low ∙ ap pair_of is)

lacks_all : (table : List (Option Outcome)) (used : List Answer) → All (λ a. outcomes_of_table table a.place ≡ None) used → lacking table used ≡ used
lacks_all table [] h = refl
lacks_all table (a ∷ used) h =
    ap (λ (o : Option Outcome). if is_none o then a ∷ lacking table used else lacking table used)
    (All-head (λ (x : Answer). outcomes_of_table table x.place ≡ None) a used h)
    ∙ ap (λ (rest : List Answer). a ∷ rest) (lacks_all table used (All-tail (λ (x : Answer). outcomes_of_table table x.place ≡ None) a used h))

-- what a later leg used was not known before it
not_known : (names : List Oid) (answers used : List Answer) (table : List (Option Outcome)) (so_far leg rest : List Pair) → TableIn names answers table
    → map pair_of answers ≡ so_far → map pair_of used ≡ leg → AllPairs (λ a b. a.0 ≢ b.0) (so_far ++ (leg ++ rest))
    → All (λ a. outcomes_of_table table a.place ≡ None) used
not_known names answers used table so_far leg rest answered before now pairs = λ k d lt.
    let a = get_or used k d in by_case a (outcomes_of_table table a.place) refl (Contains-get_or used k d lt)
  where
    by_case : (a : Answer) (o : Option Outcome) → outcomes_of_table table a.place ≡ o → Contains used a → outcomes_of_table table a.place ≡ None
    by_case a None is at = is
    by_case a (Some x) is at =
        let known = answered a.place x is in
        let early : Contains so_far (a.place, x) = subst (λ (ps : List Pair). Contains ps (a.place, x)) before (in_map answers _ known.given) in
        let late : Contains (leg ++ rest) (pair_of a) =
        Contains-append_left leg rest (pair_of a) (subst (λ (ps : List Pair). Contains ps (pair_of a)) now (in_map used a at)) in
        absurd (apart so_far (leg ++ rest) (a.place, x) (pair_of a) pairs early late refl)

alone_after : (names : List Oid) (before after used : List Answer) (table : List (Option Outcome)) (so_far leg rest : List Pair) → TableIn names before table
    → map pair_of before ≡ so_far → map pair_of used ≡ leg → AllPairs (λ a b. a.0 ≢ b.0) (so_far ++ (leg ++ rest)) → after ≡ before ++ lacking table used
    → map pair_of after ≡ so_far ++ leg
alone_after names before after used table so_far leg rest answered old now pairs gains =
    let lacks = lacks_all table used (not_known names before used table so_far leg rest answered old now pairs) in
    ap (λ (xs : List Answer). map pair_of xs) (gains ∙ ap (λ (xs : List Answer). before ++ xs) lacks)
    ∙ map-append pair_of before used
    ∙ ap (λ (xs : List Pair). xs ++ map pair_of used) old
    ∙ ap (λ (xs : List Pair). so_far ++ xs) now

-- the events of one leg more
tests_after : (table : List (Option Outcome)) (report : Report) (so_far ran : Run) (whole : List (List Event)) → AreTestsOf so_far whole → so_far.end ≡ Leg
    → IsAlone table report → lacking table report.used.items ≡ report.used.items → map pair_of report.used.items ≡ ran.used → end_of report.ending ≡ ran.end
    → AreTestsOf (in_sequence so_far ran) (whole ++ report.events.items ∷ [])
tests_after table report so_far ran whole before ended own lacks used end =
    let failed = failed_test (awaited ran.end) in
    let leg : report.events.items ≡ flat_map test_at ran.used ++ failed =
    own
    ∙ ap (λ (l : List Answer). flat_map test_of l ++ failed_test (awaited (end_of report.ending))) lacks
    ∙ ap (λ (l : List Event). l ++ failed_test (awaited (end_of report.ending))) (sym (flat_map-map test_at pair_of report.used.items))
    ∙ ap (λ (l : List Pair). flat_map test_at l ++ failed_test (awaited (end_of report.ending))) used
    ∙ ap (λ (e : End). flat_map test_at ran.used ++ failed_test (awaited e)) end in
    let first : flat_map (λ events. events) whole ≡ flat_map test_at so_far.used =
    before ∙ ap (λ (e : End). flat_map test_at so_far.used ++ failed_test (awaited e)) ended ∙ append-nil (flat_map test_at so_far.used) in
    sym (flat_map_more (λ (es : List Event). es) [] whole report.events.items)
    ∙ ap (λ (l : List Event). l ++ report.events.items) first
    ∙ ap (λ (l : List Event). flat_map test_at so_far.used ++ l) leg
    ∙ sym (append_assoc (flat_map test_at so_far.used) (flat_map test_at ran.used) failed)
    ∙ ap (λ (l : List Event). l ++ failed) (sym (flat_map-append test_at so_far.used ran.used))

-- ---- a report

-- the places of a search are places of the graph
pub over_graph : (graph : List (List ℕ)) (len : ℕ) (s : Search) → IsSearchBelow len s → len ≡ length graph → IsSearchOver graph s
over_graph graph len s below long = record {
  bad = subst (λ (n : ℕ). IfSome s.bad (λ p. p < n)) long below.bad;
  goods = subst (λ (n : ℕ). All (λ p. p < n) s.goods) long below.goods;
  skips = below.skips ∙ long;
  expected = subst (λ (n : ℕ). IfSome s.expected (λ p. p < n)) long below.expected;
}

-- a report with what is known of its leg
pub record Reported (course : Course) (told : Option (List Outcome)) (before after : List Answer) (session : Session) (table : List (Option Outcome))
    (report : Report) : Type 0 where
  pub is : IsReport (setting_of course session.search) session course.names report
  pub history : HasHistory (setting_of course session.search) table report
  pub sound : IsSoundReport told course.names after report
  pub answered : TableIn course.names before table
  pub lacks : course.workers ≤ 1 → after ≡ before ++ lacking table report.used.items
  pub own : course.workers ≤ 1 → IsAlone table report
  pub workers : AreByWorkers course.workers report.events.items
  pub posted : GainsPosts course.names before after report.events.items
  pub sorted : IsGraph course.graph
  pub over : IsSearchOver course.graph session.search

module _ (course : Course) (told : Option (List Outcome)) (before after : List Answer) (session : Session) (table : List (Option Outcome)) (report : Report)
    (h : Reported course told before after session table report) where
  abbrev stand : Stand
  stand = record { search = session.search; table = table }

  abbrev ran : Run
  ran = leg_run course session.search report.table

  is_leg : IsLeg course stand report.events.items report.table
  is_leg = record { leads = h.history; by_workers = h.workers }

  keeps : Keeps table report.table
  keeps = leg_keeps (setting_of course session.search) table report.table report.events.items h.history

  ended : end_of report.ending ≡ ran.end
  ended = h.is.ending ∙ ap (λ (r : Run). r.end) h.is.table

  pub is_leg_run : IsLegRun course session report
  is_leg_run = record {
    entries = h.is.entries ∙ ap (λ (r : Run). r.entries) h.is.table;
    state = h.is.state ∙ ap (λ (r : Run). with_search session r.search) h.is.table;
    ending = ended;
  }

  used_is : map pair_of report.used.items ≡ ran.used
  used_is = h.is.used ∙ ap (λ (r : Run). r.used) h.is.table

  leg_ended : report.ending ≡ ending.Leg → ran.end ≡ Leg
  leg_ended e = sym ended ∙ ap end_of e

  no_leg : (e : Ending) → end_of e ≡ Leg → e ≡ ending.Leg
  no_leg ending.Leg k = refl
  no_leg (ending.FirstBad p) k = cc k
  no_leg (ending.OnlySkipped ps) k = cc k
  no_leg (ending.MergeBaseBad p) k = cc k
  no_leg (ending.GoodNotAncestor p) k = cc k
  no_leg (ending.BothSides p) k = cc k
  no_leg (ending.Aborted p outcome) k = cc k
  no_leg (ending.TestFault p) k = cc k

  not_leg : report.ending ≢ ending.Leg → ran.end ≢ Leg
  not_leg other e = other (no_leg report.ending (ended ∙ e))

  known : IsKnown course.names told after report.table
  known = record { answered = h.sound.answered; planned = h.sound.planned }

  -- one worker gave the answers of all legs so far
  alone : (whole : List (List Event)) (so_far : Run) → IsBetween course told before stand whole so_far
      → (rest : List Pair) → AllPairs (λ a b. a.0 ≢ b.0) (so_far.used ++ (ran.used ++ rest)) → course.workers ≤ 1
      → IsTestedAlone after (in_sequence so_far ran) (whole ++ report.events.items ∷ [])
  alone whole so_far between rest pairs one = record {
    given = alone_after course.names before after report.used.items table so_far.used ran.used rest h.answered (between.alone one).given
        used_is pairs (h.lacks one);
    tested = tests_after table report so_far ran whole (between.alone one).tested between.ended (h.own one)
        (lacks_all table report.used.items
        (not_known course.names before report.used.items table so_far.used ran.used rest h.answered (between.alone one).given
        used_is pairs))
        used_is ended;
  }

  differ : (more : Outcomes) (whole : Run) (used : List Pair) → one_at_a_time course.graph course.first more 0 ≡ whole → whole.used ≡ used
      → IsSearchOver course.graph course.first → AllPairs (λ a b. a.0 ≢ b.0) used
  differ more whole used same is over =
      subst (λ (ps : List Pair). AllPairs (λ a b. a.0 ≢ b.0) ps) (ap (λ (r : Run). r.used) same ∙ is)
      (used_differ course.graph more h.sorted None course.first over)

  pub leads_on : IsSearchOver course.graph course.first → LeadsOn course told before after stand report
  leads_on first = record {
    between = λ whole so_far between e.
        let goes = goes_on_after course h.sorted so_far stand report.table h.over between.reached between.goes_on keeps.part
        (ap is_unfinished (leg_ended e)) in
        record {
          legs = legs_lead_on course (first_stand course) stand whole report.events.items report.table between.legs is_leg (leg_ended e);
          reached = refl;
          ended = leg_ended e;
          goes_on = goes;
          known = known;
          tested = tested_more course.names before after whole report.events.items between.tested h.posted;
          alone = alone whole so_far between (one_at_a_time course.graph ran.search (outcomes_of_table report.table) 0).used
              (differ (outcomes_of_table report.table) _ _ (goes (outcomes_of_table report.table) (part_same (outcomes_of_table report.table)))
              (append_assoc so_far.used ran.used _) first);
        };
    over = λ whole so_far between other.
        let is = ends_with course h.sorted so_far stand report.table h.over between.reached between.goes_on keeps.part (not_leg other) in
        record {
          are = record { stand = stand; whole = between.legs; last = is_leg; ended = not_leg other };
          is = is;
          known = known;
          tested = tested_more course.names before after whole report.events.items between.tested h.posted;
          alone = alone whole so_far between []
              (differ (outcomes_of_table report.table) _ _ (sym is) (ap (λ (ps : List Pair). so_far.used ++ ps) (sym (append-nil ran.used))) first);
        };
  }

  pub is_ready : length table ≡ length course.graph → session.len ≡ length course.graph → HasEnds session.search
      → IsReady course.graph course.names told after report.state report.table
  is_ready long len ends =
      let state = is_leg_run.state in
      record {
        len = ap (λ (t : Session). t.len) state ∙ len;
        long = keeps.long ∙ long;
        ends = subst (λ (t : Session). HasEnds t.search) (sym state)
            (ends_kept course.graph (outcomes_of_table report.table) (leg_of course.leg) session.search ends);
        known = known;
      }

-- ---- places

within : (len : ℕ) (e : Ending) (end : End) → end_of e ≡ end → IsEndWithin len end → IsEndingWithin len e
within len (ending.FirstBad p) end same h = subst (IsEndWithin len) (sym same) h
within len (ending.OnlySkipped ps) end same h = subst (IsEndWithin len) (sym same) h
within len (ending.MergeBaseBad p) end same h = subst (IsEndWithin len) (sym same) h
within len (ending.GoodNotAncestor p) end same h = subst (IsEndWithin len) (sym same) h
within len (ending.BothSides p) end same h = subst (IsEndWithin len) (sym same) h
within len (ending.Aborted p outcome) end same h = subst (IsEndWithin len) (sym same) h
within len ending.Leg end same h = tt
within len (ending.TestFault p) end same h = subst (IsEndWithin len) (sym same) h

pub places_within : (course : Course) (session : Session) (report : Report) → IsLegRun course session report → IsGraph course.graph
    → IfSome session.search.bad (λ p. p < length course.graph) → All (IsEntryWithin (length course.graph)) report.entries.items
places_within course session report is sorted bad =
    subst (λ (es : List Entry). All (IsEntryWithin (length course.graph)) es) (sym is.entries)
    (run_is_within course.graph (outcomes_of_table report.table) session.search course.leg sorted bad).entries

pub ending_within : (course : Course) (session : Session) (report : Report) → IsLegRun course session report → IsGraph course.graph
    → IfSome session.search.bad (λ p. p < length course.graph) → IsEndingWithin (length course.graph) report.ending
ending_within course session report is sorted bad =
    within (length course.graph) report.ending _ is.ending
    (run_is_within course.graph (outcomes_of_table report.table) session.search course.leg sorted bad).end

-- ---- what a leg promises

module _ (search : RunSettings) (session : Session) (table : List (Option Outcome)) (told : Option (List Outcome)) (before after : List Answer) (report : Report)
    (names : List Oid) (named : names ≡ search.history.now.names) (reach : search.reach.now ≡ search.history.now.parents)
    (is : IsReport (setting_at search.reach.now session search.leg) session names report)
    (history : HasHistory (setting_at search.reach.now session search.leg) table report)
    (sound : IsSoundReport told names after report)
    (lacks : search.workers ≤ 1 → after ≡ before ++ lacking table report.used.items)
    (own : search.workers ≤ 1 → IsAlone table report)
    (workers : AreByWorkers search.workers report.events.items)
    (posted : GainsPosts names before after report.events.items)
    (sorted : IsGraph search.reach.now) (below : IsSearchBelow session.len session.search)
    (ready : IsReady search.history.now.parents search.history.now.names told before session table) where
  reported : (first : Search) → Reported (course_from search first) told before after session table report
  reported first = record {
    is = subst (λ (graph : List (List ℕ)). IsReport (setting_at graph session search.leg) session search.history.now.names report) reach
        (subst (λ (ns : List Oid). IsReport (setting_at search.reach.now session search.leg) session ns report) named is);
    history = subst (λ (graph : List (List ℕ)). HasHistory (setting_at graph session search.leg) table report) reach history;
    sound = subst (λ (ns : List Oid). IsSoundReport told ns after report) named sound;
    answered = ready.known.answered;
    lacks = lacks;
    own = own;
    workers = workers;
    posted = subst (λ (ns : List Oid). GainsPosts ns before after report.events.items) named posted;
    sorted = subst (λ (graph : List (List ℕ)). IsGraph graph) reach sorted;
    over = over_graph search.history.now.parents session.len session.search below ready.len;
  }

  pub leg_leads_on : (first : Search) → IsSearchOver search.history.now.parents first
      → LeadsOn (course_from search first) told before after (record { search = session.search; table = table }) report
  leg_leads_on first over = leads_on (course_from search first) told before after session table report (reported first) over

  pub leg_ready : IsReady search.history.now.parents search.history.now.names told after report.state report.table
  leg_ready = is_ready (course_from search session.search) told before after session table report (reported session.search) ready.long ready.len ready.ends

  leg_run_is : IsLegRun (course_from search session.search) session report
  leg_run_is = is_leg_run (course_from search session.search) told before after session table report (reported session.search)

  -- a leg that ended after its marks leaves fewer places to ask for
  pub leg_fewer : report.ending ≡ ending.Leg → left_to_ask search.history.now.parents report.state.search < left_to_ask search.history.now.parents session.search
  leg_fewer e =
      let h = reported session.search in
      subst (λ (t : Session). left_to_ask search.history.now.parents t.search < left_to_ask search.history.now.parents session.search) (sym leg_run_is.state)
      (leg_leaves_fewer search.history.now.parents (outcomes_of_table report.table) h.sorted session.search search.leg h.over
      (sym leg_run_is.ending ∙ ap end_of e))

  pub leg_places : All (IsEntryWithin (length search.history.now.parents)) report.entries.items
  leg_places =
      let h = reported session.search in places_within (course_from search session.search) session report leg_run_is h.sorted h.over.bad

  pub leg_ending : IsEndingWithin (length search.history.now.parents) report.ending
  leg_ending =
      let h = reported session.search in ending_within (course_from search session.search) session report leg_run_is h.sorted h.over.bad
