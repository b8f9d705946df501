-- The searches of a list: those that have begun, each with its tester, and the refusals of the others.
use Rattle.std.specs.Prelude.{◌≡◌, ℕ, ◌++◌, false, List, [], ◌∷◌, length, drop, map, replicate, Option, Some, None}
use Rattle.std.specs.Option.{unwrap_or}
use Rattle.bf_answers.specs.Answers.{IsWhole}
use Rattle.bf_answers.specs.Tellings.{Says, told_of}
use Rattle.bf_answers.specs.declared.answer.Answer.{Answer}
use Rattle.bf_answers.specs.declared.started.Beginning.{Beginning}
use Rattle.bf_commands.specs.Many.{searched}
use Rattle.bf_state.specs.Ends.{HasEnds}
use Rattle.bf_history.specs.Meanings.{History}
use Rattle.bf_log.specs.Written.{known_after_all}
use Rattle.bf_many.specs.declared.search.ReadySearch.{ReadySearch}
use Rattle.bf_output.specs.Beginning.{commits_of}
use Rattle.bf_output.specs.Simulate.{status_of_end}
use Rattle.bf_output.specs.Told.{Told}
use Rattle.bf_runs.specs.Legs.{IsKnown}
use Rattle.bf_search.specs.declared.outcomes.Outcome.{Outcome}
use Rattle.bf_search.specs.Outcomes.{outcomes_of_plan}
use Rattle.bf_search.specs.Run.{Run, one_at_a_time}
use Rattle.bf_tester.specs.declared.tester.Tester.{Ghosts}
use Rattle.bf_terms.specs.Texts.{answer_lines, log_from}
use Rattle.bf_many_run.specs.declared.slots.BegunSearch.{BegunSearch}
use Rattle.bf_many_run.specs.declared.slots.ListSlot.{ListSlot}
use Rattle.bf_many_run.specs.declared.slots.ListSlot.TheVariants.{Refused, Begun as BegunSlot}

-- ---- what a search tells that has begun

-- where this is the run from where it stands
abbrev pub told_from : History → BegunSearch → Run → Told
told_from history begun run = record {
  status = status_of_end run.end;
  text = (begun.telling.text ++ log_from (commits_of history) begun.state.terms begun.telling.known run.entries)
      ++ answer_lines (commits_of history) begun.state.terms run.end;
}

-- over a plan
abbrev pub told_over : History → BegunSearch → List Outcome → Told
told_over history begun plan =
    told_from history begun (one_at_a_time history.parents begun.state.search (outcomes_of_plan plan) 0)

-- the first lines of its log are its text so far
pub record IsBegunAs (history : History) (first : Beginning) (begun : BegunSearch) : Type 0 where
  pub state : begun.state ≡ first.state
  pub text : begun.telling.text ≡ log_from (commits_of history) first.state.terms first.known first.entries.items
  pub known : begun.telling.known ≡ known_after_all first.known first.entries.items
  pub trace : begun.telling.trace ≡ None

module _ {T : Type 0} (by : Ghosts T) where
  -- the plan that a tester tells
  abbrev pub plan_in : T → List Outcome
  plan_in tester = unwrap_or (by.told tester) []

  -- a search with both ends that has begun, whose tester tells a plan and has not tested
  pub record IsBegunBy (history : History) (begun : BegunSearch) (tester : T) : Type 0 where
    pub len : begun.state.len ≡ length history.parents
    pub ends : HasEnds begun.state.search
    pub trace : begun.telling.trace ≡ None
    pub plan : by.told tester ≡ Some (plan_in tester)
    pub fresh : by.answers tester ≡ []
    pub is_split : by.is_split tester ≡ false

  -- so for all that have begun, and the refusals of the others are whole answers
  abbrev pub AreBegun : History → List ListSlot → List T → Type 0
  AreBegun history [] [] = Unit {0}
  AreBegun history (Refused answer ∷ slots) testers = IsWhole answer.status × AreBegun history slots testers
  AreBegun history (BegunSlot begun ∷ slots) (t ∷ testers) = IsBegunBy history begun t × AreBegun history slots testers
  AreBegun history other testers = ⊥

  -- what all of them tell, in order
  unfoldable pub all_told : History → List ListSlot → List T → List Told
  all_told history [] testers = []
  all_told history (Refused answer ∷ slots) testers = told_of answer ∷ all_told history slots testers
  all_told history (BegunSlot begun ∷ slots) [] = []
  all_told history (BegunSlot begun ∷ slots) (t ∷ testers) =
      told_over history begun (plan_in t) ∷ all_told history slots testers

  -- the searches of these lines: each tells what its line asks for
  pub record AreSearchesOf (history : History) (lines : List (List (List ℕ))) (slots : List ListSlot) (testers : List T) : Type 0 where
    pub begun : AreBegun history slots testers
    pub told : all_told history slots testers ≡ map (searched history) lines
    pub each : length slots ≡ length lines

  -- ---- what is known of their commits

  -- a search that may be told to its end: what is known of its commits its tester answered
  pub record CanTell (history : History) (begun : BegunSearch) (tester : T) (table : List (Option Outcome)) : Type 0 where
    pub len : begun.state.len ≡ length history.parents
    pub ends : HasEnds begun.state.search
    pub trace : begun.telling.trace ≡ None
    pub plan : by.told tester ≡ Some (plan_in tester)
    pub is_split : by.is_split tester ≡ false
    pub long : length table ≡ length history.parents
    pub known : IsKnown history.names (by.told tester) (by.answers tester) table

  abbrev pub AllCanTell : History → List ListSlot → List T → List (List (Option Outcome)) → Type 0
  AllCanTell history [] testers tables = Unit {0}
  AllCanTell history (Refused answer ∷ slots) testers tables = IsWhole answer.status × AllCanTell history slots testers tables
  AllCanTell history (BegunSlot begun ∷ slots) (t ∷ testers) (table ∷ tables) =
      CanTell history begun t table × AllCanTell history slots testers tables
  AllCanTell history other testers tables = ⊥

  -- ---- slot by slot

  -- the next slot may be told
  abbrev pub CanTellSlot : History → ListSlot → List T → List (List (Option Outcome)) → Type 0
  CanTellSlot history (Refused answer) testers tables = IsWhole answer.status
  CanTellSlot history (BegunSlot begun) (t ∷ testers) (table ∷ tables) = CanTell history begun t table
  CanTellSlot history (BegunSlot begun) testers tables = ⊥

  -- this is what it tells
  abbrev pub TellsSlot : History → ListSlot → List T → Answer → Type 0
  TellsSlot history (Refused refusal) testers answer = Says (told_of refusal) answer
  TellsSlot history (BegunSlot begun) [] answer = ⊥
  TellsSlot history (BegunSlot begun) (t ∷ testers) answer = Says (told_over history begun (plan_in t)) answer

-- what is left for the slots behind this one: a search that has begun takes one
abbrev pub behind : {X : Type 0} → ListSlot → List X → List X
behind (Refused answer) all = all
behind (BegunSlot begun) all = drop 1 all

-- a search as shared workers start it: no outcome is known
abbrev pub fresh_search : ℕ → BegunSearch → ReadySearch
fresh_search len begun = record { state = begun.state; table = replicate len None }

-- those that have begun
abbrev pub searches_in : ℕ → List ListSlot → List ReadySearch
searches_in len [] = []
searches_in len (Refused answer ∷ slots) = searches_in len slots
searches_in len (BegunSlot begun ∷ slots) = fresh_search len begun ∷ searches_in len slots
