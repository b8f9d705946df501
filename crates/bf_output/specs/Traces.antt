-- The trace of a search: what its workers did, leg by leg.
use Rattle.std.specs.Prelude.{ℕ, Bool, List, ◌++◌, if◌then◌else◌}
use Rattle.std.specs.List.{flat_map}
use Rattle.bf_history.specs.Meanings.{History}
use Rattle.bf_log.specs.Trace.{event_lines, leg_line}
use Rattle.bf_runs.specs.Legs.{Course, Legs}
use Rattle.bf_terms.specs.Texts.{Commits}
use Rattle.bf_words.specs.declared.request.Request.{Request}
use Rattle.bf_output.specs.Beginning.{Begun, commits_of}
use Rattle.bf_output.specs.Told.{Told}

-- the search that words ask for, from where it begins
abbrev pub course_of : Request → History → Begun → Course
course_of request history first = record {
  graph = history.parents;
  names = history.names;
  first = first.search;
  leg = request.leg;
  workers = request.workers;
}

-- the events of each leg; a line stands behind each whole one
abbrev pub trace_lines : Commits → Legs → List ℕ
trace_lines commits legs = flat_map (λ events. event_lines commits events ++ leg_line) legs.whole ++ event_lines commits legs.last

-- a text with the trace behind it
abbrev pub traced : History → Legs → Told → Told
traced history legs told = record told { text = told.text ++ trace_lines (commits_of history) legs }

-- the trace is told where it is asked for
abbrev pub traced_if : Bool → History → Legs → Told → Told
traced_if is_asked history legs told = if is_asked then traced history legs told else told
