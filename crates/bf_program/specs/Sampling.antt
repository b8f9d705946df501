-- What `sample` makes of a search.
use Rattle.std.specs.Prelude.{◌≡◌, ℕ, ◌-◌, ◌/◌, List, ◌++◌, codes, count_by, replicate, Some}
use Rattle.bf_farm.specs.declared.report.Report.{Report}
use Rattle.bf_history.specs.Meanings.{History}
use Rattle.bf_output.specs.Beginning.{Begun, commits_of}
use Rattle.bf_output.specs.Sample.{is_mark, number_line, plan_of_sample, summed_up}
use Rattle.bf_output.specs.Simulate.{run_over}
use Rattle.bf_output.specs.Tested.{lines_at_end}
use Rattle.bf_output.specs.Told.{Told}
use Rattle.bf_search.specs.Farm.{end_of}
use Rattle.bf_tester.specs.declared.tester.Tester.{Ghosts}
use Rattle.bf_words.specs.declared.request.Request.{Request}

-- the summary of a search over the plan of the sample
abbrev pub sampled_from : Request → History → Begun → Told
sampled_from request history first =
    summed_up request history first (run_over history first (plan_of_sample request.count))

-- its letters: g below the half of COUNT, and b behind
abbrev pub letters_of_sample : ℕ → List ℕ
letters_of_sample count = replicate (count / 2) 103 ++ replicate (count - count / 2) 98

-- the tester tells the plan of the sample
abbrev pub TellsSample : {T : Type 0} → Ghosts T → ℕ → T → Type 0
TellsSample by count tester = by.told tester ≡ Some (plan_of_sample count)

-- the lines of so many commits and marks
abbrev pub numbers_of : ℕ → ℕ → List ℕ
numbers_of count marks = number_line (codes "commits") count ++ number_line (codes "marks") marks

-- the text of the summary of a report: its marks, and how it ended
abbrev pub summary_of : ℕ → History → Report → List ℕ
summary_of count history report =
    numbers_of count (count_by is_mark report.entries.items)
    ++ lines_at_end (commits_of history) report.state.terms (end_of report.ending)
