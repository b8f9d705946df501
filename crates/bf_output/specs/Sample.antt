-- The command `sample`: a search over the stream that a number gives, told in a few lines.
use Rattle.std.specs.Prelude.{ℕ, ◌==◌, ◌-◌, ◌/◌, Bool, true, false, if◌then◌else◌, List, [], ◌∷◌, ◌++◌, codes, count_by, length, replicate, Some, None}
use Rattle.std.specs.Fmt.{decimal}
use Rattle.bf_history.specs.Meanings.{History}
use Rattle.bf_search.specs.declared.entries.Entry.{Entry}
use Rattle.bf_search.specs.declared.entries.Entry.TheVariants.{Marked}
use Rattle.bf_search.specs.declared.outcomes.Outcome.{Outcome}
use Rattle.bf_search.specs.declared.outcomes.Outcome.TheVariants.{Exit}
use Rattle.bf_search.specs.Run.{Run}
use Rattle.bf_terms.specs.Texts.{text_line, answer_lines}
use Rattle.bf_words.specs.declared.request.Request.{Request}
use Rattle.bf_output.specs.Beginning.{Begun, between_ends, commits_of}
use Rattle.bf_output.specs.Simulate.{run_over, status_of_end}
use Rattle.bf_output.specs.Told.{Told}

-- the last commit is bad, and the first one good
abbrev pub whole_search : Request → ℕ → Begun
whole_search request len =
    between_ends request len (if len == 0 then None else Some (len - 1)) (if len == 0 then [] else 0 ∷ [])

-- the commits below the half of COUNT are good, and the others bad
abbrev pub plan_of_sample : ℕ → List Outcome
plan_of_sample count = replicate (count / 2) (Exit 0) ++ replicate (count - count / 2) (Exit 1)

-- ---- the summary

abbrev pub is_mark : Entry → Bool
is_mark (Marked mark p) = true
is_mark other = false

-- a number of things, as a line
abbrev pub number_line : List ℕ → ℕ → List ℕ
number_line what number = text_line (what ++ codes " " ++ decimal number)

abbrev pub summed_up : Request → History → Begun → Run → Told
summed_up request history first run = record {
  status = status_of_end run.end;
  text = number_line (codes "commits") request.count
      ++ number_line (codes "marks") (count_by is_mark run.entries)
      ++ answer_lines (commits_of history) first.sides run.end;
}

unfoldable pub sampled : Request → History → Told
sampled request history =
    let first = whole_search request (length history.parents) in
    summed_up request history first (run_over history first (plan_of_sample request.count))
