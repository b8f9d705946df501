-- What is told of a search, as a difference of its machine before and after a request, and when it begins.
use Rattle.std.specs.Prelude.{ℕ, ◌==◌, ◌&&◌, if◌then◌else◌, List, [], ◌∷◌, ◌++◌, drop, length, map}
use Rattle.std.specs.Cmp.Lexicographic.{pointwise}
use Rattle.bf_history.specs.Meanings.{History}
use Rattle.bf_log.specs.Written.{known_after_all}
use Rattle.bf_many.specs.Many.{FarmMachine}
use Rattle.bf_output.specs.Beginning.{Begun, commits_of, log_on}
use Rattle.bf_output.specs.Simulate.{status_of_end}
use Rattle.bf_output.specs.Statuses.{number_of}
use Rattle.bf_protocol.specs.Events.{News, Log, Left, Answer, Ended, Needless, Reply, Refused}
use Rattle.bf_reading.specs.Reading.{lines_of}
use Rattle.bf_search.specs.declared.entries.Entry.{Entry}
use Rattle.bf_search.specs.Run.{End, Run}
use Rattle.bf_state.specs.Runs.{is_open}
use Rattle.bf_terms.specs.Texts.{Commits, Sides, answer_lines, log_from}
use Rattle.bf_serve.specs.declared.opening.Opening.{Opening}
use Rattle.bf_serve.specs.declared.remaining.Remaining.{Remaining}
use Rattle.bf_serve.specs.Searches.{Searches, left_in, needless, run_of}

-- a request is served: what is told before the reply, the reply, and what stands then
pub record Turn : Type 0 where
  pub news : List News
  pub reply : Reply
  pub searches : Searches

-- a request that is refused, by a line: nothing is told before, and nothing changes
abbrev pub refused : Searches → List ℕ → Turn
refused searches line = record { news = []; reply = Refused line; searches = searches }

-- ---- the lines of a search

abbrev pub told_lines : (List ℕ → News) → List ℕ → List News
told_lines tell text = map tell (lines_of text)

-- the entries that a run has more than another
abbrev pub further : Run → Run → List Entry
further old new = drop (length old.entries) new.entries

-- their lines, as they go on behind the log so far
abbrev pub further_log : Commits → Opening → Run → Run → List ℕ
further_log commits o old new = log_from commits o.terms o.known (further old new)

-- a search whose log has their lines too
abbrev pub told_on : Opening → Run → Run → Opening
told_on o old new = record o { known = known_after_all o.known (further old new) }

abbrev pub left_told : ℕ → Remaining → List News
left_told s now = Left s now.left now.away ∷ []

abbrev pub changed_left : ℕ → Remaining → Remaining → List News
changed_left s old new = if (old.left == new.left) && (old.away == new.away) then [] else left_told s new

-- the end of a search: its answer and its status
abbrev pub end_told : Commits → ℕ → Sides → End → List News
end_told commits s sides end =
    told_lines (Answer s) (answer_lines commits sides end) ++ Ended s (number_of (status_of_end end)) ∷ []

-- a run that waits for an outcome has no end
abbrev pub ended_by : Commits → ℕ → Sides → End → List News
ended_by commits s sides end = if is_open end then [] else end_told commits s sides end

-- where it had not come to its end before
abbrev pub newly_ended : Commits → ℕ → Sides → End → End → List News
newly_ended commits s sides old new = if is_open old then ended_by commits s sides new else []

abbrev pub changed_needless : ℕ → List ℕ → List ℕ → List News
changed_needless s old new = if pointwise ◌==◌ old new then [] else Needless s new ∷ []

-- what is told of the run of a search: its number is s
abbrev pub run_news : History → ℕ → Opening → FarmMachine → FarmMachine → List News
run_news history s o old new =
    told_lines (Log s) (further_log (commits_of history) o (run_of old) (run_of new))
    ++ changed_left s (left_in old) (left_in new)
    ++ newly_ended (commits_of history) s o.terms (run_of old).end (run_of new).end

-- what is told of a search behind a request that changed its machine
abbrev pub news_of : History → ℕ → Opening → FarmMachine → FarmMachine → List News
news_of history s o old new = run_news history s o old new ++ changed_needless s (needless old) (needless new)

-- what is told of a search that begins
abbrev pub first_news : History → ℕ → Begun → FarmMachine → List News
first_news history s first m =
    told_lines (Log s) (log_on history first (run_of m).entries)
    ++ left_told s (left_in m)
    ++ ended_by (commits_of history) s first.sides (run_of m).end
