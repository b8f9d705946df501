-- The events of the calling thread: a test for each answer that is gained.
use Rattle.std.proofs.Common.{◌≡◌, ℕ, Bool, true, false, cond, ◌||◌, ◌==◌, eq-eqb, List, [], ◌∷◌, ◌++◌, Option, Some, None, refl, sym, ap, subst, ◌∙◌}
use Rattle.std.proofs.Common.{append_assoc}
use Rattle.std.proofs.lemmas.Grind.{flat_map-append}
use Rattle.std.proofs.lemmas.List.{append-nil, append_cancel_left}
use Rattle.std.proofs.lemmas.List.Elements.{All-nil, All-cons}
use Rattle.std.specs.List.{All, flat_map}
use Rattle.bf_oid.specs.declared.object.Oid.{Oid}
use Rattle.bf_search.specs.declared.farm.Event.{Event}
use Rattle.bf_search.specs.declared.farm.Event.TheVariants as events
use Rattle.bf_search.specs.declared.outcomes.Outcome.{Outcome}
use Rattle.bf_search.specs.Farm.{Setting, Farm, after_events, best_place, consumed, end_of, is_best, without}
use Rattle.bf_search.specs.Run.{End, Answered, Leg, Open, Aborted}
use Rattle.bf_state.proofs.Legal.{place_without_claims}
use Rattle.bf_tester.specs.declared.answer.Answer.{Answer}
use Rattle.bf_tester.specs.Replies.{answer_of}
use Rattle.bf_farm.specs.declared.report.Report.{Report}
use Rattle.bf_farm.specs.Answering.{IsAlone, IsReport, lacking}
use Rattle.bf_farm.specs.Boards.{LeadsTo, unclaimed}
use Rattle.bf_farm.specs.Cores.{CoreView, run_of}
use Rattle.bf_farm.specs.Doers.{AddsOwn, worker_of}
use Rattle.bf_farm.specs.Ends.{GainsClaim, StopsAt, TestsOn, awaited, failed_test, test_of}
use Rattle.bf_farm.proofs.Reporting.{end_reported}

-- ---- one test

pub tested_once : (answers more : List Answer) (earlier old new : List Event) (p : ℕ) (name : Oid) (outcome : Outcome)
    → more ≡ answers ++ answer_of p name outcome ∷ [] → new ≡ old ++ events.Post 0 p outcome ∷ [] → GainsClaim earlier old (Some p)
    → TestsOn earlier answers new more None
tested_once answers more earlier old new p name outcome grown noted claimed = record {
  gained = answer_of p name outcome ∷ [];
  added = grown;
  tested = noted
      ∙ ap (λ (es : List Event). es ++ events.Post 0 p outcome ∷ []) claimed
      ∙ append_assoc earlier (events.Claim 0 p ∷ []) (events.Post 0 p outcome ∷ []);
}

pub failed_once : (answers more : List Answer) (earlier old new : List Event) (p : ℕ) → more ≡ answers
    → new ≡ old ++ events.Give 0 p ∷ [] → GainsClaim earlier old (Some p) → TestsOn earlier answers new more (Some p)
failed_once answers more earlier old new p same noted claimed = record {
  gained = [];
  added = same ∙ sym (append-nil answers);
  tested = noted
      ∙ ap (λ (es : List Event). es ++ events.Give 0 p ∷ []) claimed
      ∙ append_assoc earlier (events.Claim 0 p ∷ []) (events.Give 0 p ∷ []);
}

-- ---- several tests

pub tests_stay : (answers : List Answer) (old new : List Event) → GainsClaim old new None → TestsOn old answers new answers None
tests_stay answers old new same = record { gained = []; added = sym (append-nil answers); tested = same ∙ sym (append-nil old) }

pub tests_then : (old mid new : List Event) (answers more most : List Answer) (failed : Option ℕ) → TestsOn old answers mid more None
    → TestsOn mid more new most failed → TestsOn old answers new most failed
tests_then old mid new answers more most failed first then =
    let one = flat_map test_of first.gained in
    let two = flat_map test_of then.gained in
    let end = failed_test failed in
    record {
      gained = first.gained ++ then.gained;
      added = then.added ∙ ap (λ (l : List Answer). l ++ then.gained) first.added ∙ append_assoc answers first.gained then.gained;
      tested = then.tested
          ∙ ap (λ (es : List Event). es ++ (two ++ end)) (first.tested ∙ ap (λ (es : List Event). old ++ es) (append-nil one))
          ∙ append_assoc old one (two ++ end)
          ∙ ap (λ (es : List Event). old ++ es)
          (sym (append_assoc one two end) ∙ ap (λ (es : List Event). es ++ end) (sym (flat_map-append test_of first.gained then.gained)));
    }

-- the tests of some answers, and at last the one that failed, are the calling thread's own
pub all_own : (answers : List Answer) (failed : Option ℕ) → All (λ (e : Event). worker_of e ≡ 0) (flat_map test_of answers ++ failed_test failed)
all_own [] None = All-nil (λ (e : Event). worker_of e ≡ 0)
all_own [] (Some p) =
    All-cons (λ (e : Event). worker_of e ≡ 0) (events.Claim 0 p) (events.Give 0 p ∷ []) refl
    (All-cons (λ (e : Event). worker_of e ≡ 0) (events.Give 0 p) [] refl (All-nil (λ (e : Event). worker_of e ≡ 0)))
all_own (a ∷ answers) failed =
    let rest = flat_map test_of answers ++ failed_test failed in
    All-cons (λ (e : Event). worker_of e ≡ 0) (events.Claim 0 a.place) (events.Post 0 a.place a.outcome ∷ rest) refl
    (All-cons (λ (e : Event). worker_of e ≡ 0) (events.Post 0 a.place a.outcome) rest refl (all_own answers failed))

pub tests_are_own : (old new : List Event) (answers more : List Answer) (failed : Option ℕ) → TestsOn old answers new more failed → AddsOwn old new
tests_are_own old new answers more failed tests =
    record { more = flat_map test_of tests.gained ++ failed_test failed; added = tests.tested; own = all_own tests.gained failed }

-- a table with this one claim
abbrev only_claim : List (Option Outcome) → ℕ → Farm
only_claim table p = record { table = table; claims = (record { worker = 0; place = p }) ∷ [] }

given_back : (table : List (Option Outcome)) (p : ℕ) (b : Bool) → b ≡ true
    → cond (b || false) (Some (record { table = table; claims = without (only_claim table p).claims 0 })) None ≡ Some (unclaimed table)
given_back table p true same = refl
given_back table p false same = cc same

claimed_first : (setting : Setting) (table : List (Option Outcome)) (p : ℕ) (b : Bool) → b ≡ true
    → after_events setting (cond b (Some (only_claim table p)) None) (events.Give 0 p ∷ []) ≡ Some (unclaimed table)
claimed_first setting table p true same = given_back table p (p == p) (eq-eqb p p refl)
claimed_first setting table p false same = cc same

-- where a run waits for a place, a test of it that fails is legal, and leaves all as it was
pub failed_leads : (setting : Setting) (table : List (Option Outcome)) (end : End) → (consumed setting table).end ≡ end
    → LeadsTo setting table (failed_test (awaited end)) (unclaimed table)
failed_leads setting table (Answered a) e = refl
failed_leads setting table Leg e = refl
failed_leads setting table (Aborted p outcome) e = refl
failed_leads setting table (Open p) e =
    claimed_first setting table p (is_best (best_place setting (unclaimed table)) p)
    (subst (λ (o : Option ℕ). is_best o p ≡ true) (sym (place_without_claims setting table p e)) (eq-eqb p p refl))

-- ---- a whole run

awaited_is : (end : End) (failed : Option ℕ) → StopsAt end failed → failed ≡ awaited end
awaited_is (Answered a) None h = refl
awaited_is Leg None h = refl
awaited_is (Open p) None h = cc h
awaited_is (Aborted p outcome) None h = refl
awaited_is end (Some p) h = sym (ap awaited h)

-- what a board comes to is reported
pub tests_reported : (old : List Event) (answers more : List Answer) (core : CoreView) (events : List Event) (names : List Oid) (failed : Option ℕ)
    (report : Report) → TestsOn old answers events more failed → StopsAt (run_of core).end failed → IsReport core.setting core.first names report
    → report.table ≡ core.farm.table → report.events.items ≡ events
    → TestsOn old answers report.events.items more (awaited (end_of report.ending))
tests_reported old answers more core events names failed report tests stops is table same =
    let end : end_of report.ending ≡ (run_of core).end =
    end_reported core.setting core.first names report is ∙ ap (λ (t : List (Option Outcome)). (consumed core.setting t).end) table in
    record {
      gained = tests.gained;
      added = tests.added;
      tested = same ∙ tests.tested
          ∙ ap (λ (f : Option ℕ). old ++ (flat_map test_of tests.gained ++ failed_test f)) (awaited_is (run_of core).end failed stops ∙ sym (ap awaited end));
    }

pub alone_told : (table : List (Option Outcome)) (before after : List Answer) (old : List Event) (report : Report) → old ≡ []
    → TestsOn old before report.events.items after (awaited (end_of report.ending)) → after ≡ before ++ lacking table report.used.items
    → IsAlone table report
alone_told table before after old report none tests gains =
    let failed = failed_test (awaited (end_of report.ending)) in
    tests.tested
    ∙ ap (λ (es : List Event). es ++ (flat_map test_of tests.gained ++ failed)) none
    ∙ ap (λ (l : List Answer). flat_map test_of l ++ failed)
    (append_cancel_left before tests.gained (lacking table report.used.items) (sym tests.added ∙ gains))
