-- What is reported of a board that tells of answers alone.
use Rattle.std.proofs.Common.{◌≡◌, ℕ, List, [], get_or, Option, Some, None, All, Contains, sym, ap, ◌∙◌, subst, arith}
use Rattle.std.specs.List.{slice_get}
use Rattle.bf_oid.specs.declared.object.Oid.{Oid}
use Rattle.bf_io.specs.Causes.{Rose}
use Rattle.bf_search.specs.declared.farm.Ending.{Ending}
use Rattle.bf_search.specs.declared.farm.Event.{Event}
use Rattle.bf_search.specs.declared.farm.Event.TheVariants as events
use Rattle.bf_search.specs.declared.outcomes.Outcome.{Outcome}
use Rattle.bf_search.specs.Farm.{Setting, Farm, consumed, end_of}
use Rattle.bf_search.specs.Outcomes.{outcomes_of_table}
use Rattle.bf_search.specs.Run.{End, Open}
use Rattle.bf_state.specs.Runs.{is_open}
use Rattle.bf_state.specs.Session.{Session}
use Rattle.bf_tester.specs.declared.answer.Answer.{Answer}
use Rattle.bf_tester.specs.Replies.{answer_of}
use Rattle.bf_farm.specs.declared.report.Report.{Report}
use Rattle.bf_farm.specs.Answering.{IsReport, IsSoundReport, HasHistory, HasFault}
use Rattle.bf_farm.specs.Boards.{BoardView, unclaimed}
use Rattle.bf_farm.specs.Cores.{CoreView, run_of, IsSameStart}
use Rattle.bf_farm.specs.Ends.{EndsWith, StopsAt}
use Rattle.bf_farm.specs.Reports.{IsAnswered, IsPostIn, TableIn, TableFollows}
use Rattle.bf_farm.specs.Sound.{IsSound, IsSoundEvent}

post_in : (told : Option (List Outcome)) (names : List Oid) (answers : List Answer) (e : Event) → IsSoundEvent told names answers e → IsPostIn names answers e
post_in told names answers (events.Post worker p outcome) h = h.answered
post_in told names answers (events.Claim worker p) h = tt
post_in told names answers (events.Give worker p) h = tt

-- an answer by its name
named_answer : (names : List Oid) (answers : List Answer) (a : Answer) → IsAnswered names answers a.place a.outcome
    → slice_get names a.place ≡ Some a.name → Contains answers a
named_answer names answers a h named =
    let same : h.name ≡ a.name = cc (h.named, named) in
    subst (λ (name : Oid). Contains answers (answer_of a.place name a.outcome)) same h.given

pub sound_report : (told : Option (List Outcome)) (names : List Oid) (answers : List Answer) (b : BoardView) (report : Report) → IsSound told names answers b
    → report.table ≡ b.core.farm.table → report.events.items ≡ b.events → All (λ a. outcomes_of_table report.table a.place ≡ Some a.outcome) report.used.items
    → All (λ a. slice_get names a.place ≡ Some a.name) report.used.items → IsSoundReport told names answers report
sound_report told names answers b report sound table events used named =
    let posts = λ (p : ℕ) (outcome : Outcome) (h : outcomes_of_table report.table p ≡ Some outcome).
    sound.table p outcome (subst (λ (t : List (Option Outcome)). outcomes_of_table t p ≡ Some outcome) table h) in
    record {
      answered = λ p outcome h. (posts p outcome h).answered;
      planned = λ p outcome h. (posts p outcome h).planned;
      posts = subst (λ (es : List Event). All (λ e. IsPostIn names answers e) es) (sym events)
          (λ k d l. post_in told names answers (get_or b.events k d) (sound.posts k d l));
      used = λ k d l. let a : Answer = get_or report.used.items k d in named_answer names answers a (posts a.place a.outcome (used k d l)).answered
          (named k d l);
    }

pub sound_start : (told : Option (List Outcome)) (names : List Oid) (answers : List Answer) (b : BoardView) (table : List (Option Outcome))
    → b.core.farm ≡ unclaimed table → b.events ≡ []
    → TableIn names answers table → TableFollows told table → IsSound told names answers b
sound_start told names answers b table farm events known plan = record {
  table = λ p outcome h. let e = subst (λ (f : Farm). outcomes_of_table f.table p ≡ Some outcome) farm h in record
      { answered = known p outcome e; planned = plan p outcome e };
  posts = subst (λ (es : List Event). All (λ e. IsSoundEvent told names answers e) es) (sym events) (λ k d l. absurd (omega arith));
}

pub stops_of : (core : CoreView) (before now : ℕ) (failed result : Option ℕ) → EndsWith core before now failed result → StopsAt (run_of core).end result
stops_of core before now failed None ends = ends
stops_of core before now failed (Some p) ends = ends.waits

fault_of : (core : CoreView) (before now : ℕ) (failed result : Option ℕ) (p : ℕ) → EndsWith core before now failed result → (run_of core).end ≡ Open p
    → Rose before now × (failed ≡ Some p)
fault_of core before now failed None p ends waits = cc (ends, ap (λ (e : End). is_open e) waits)
fault_of core before now failed (Some q) p ends waits = (ends.rose, cc (ends.latest, ends.waits, waits))

pub end_reported : (setting : Setting) (first : Session) (names : List Oid) (report : Report) → IsReport setting first names report
    → end_of report.ending ≡ (consumed setting report.table).end
end_reported setting first names report h = h.ending ∙ ap (λ r. r.end) h.table

pub fault_told : (core : CoreView) (names : List Oid) (before now : ℕ) (failed result : Option ℕ) (report : Report) → EndsWith core before now failed result
    → IsReport core.setting core.first names report → report.table ≡ core.farm.table → HasFault before now failed report
fault_told core names before now failed result report ends is table = λ p e.
    fault_of core before now failed result p ends
    (ap (λ (t : List (Option Outcome)). (consumed core.setting t).end) (sym table) ∙ sym (end_reported core.setting core.first names report is) ∙ ap
    (λ (x : Ending). end_of x) e)

pub same_report : (old new : CoreView) (names : List Oid) (report : Report) → IsSameStart old new → IsReport new.setting new.first names report
    → IsReport old.setting old.first names report
same_report old new names report same h =
    subst (λ (s : Setting). IsReport s old.first names report) same.setting (subst (λ (f : Session). IsReport new.setting f names report) same.first h)

pub same_history : (old new : BoardView) (report : Report) → IsSameStart old.core new.core → new.first ≡ old.first
    → HasHistory new.core.setting new.first report → HasHistory old.core.setting old.first report
same_history old new report same first h =
    subst (λ (s : Setting). HasHistory s old.first report) same.setting (subst (λ (t : List (Option Outcome)). HasHistory new.core.setting t report) first h)
