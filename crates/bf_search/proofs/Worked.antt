-- Worked examples, by computation.
use Rattle.std.proofs.Common.{◌≡◌, ℕ, Bool, true, false, List, [], ◌∷◌, Option, Some, None, refl, replicate}
use Rattle.bf_search.specs.declared.asks.Ask.TheVariants.{FirstBad, MergeBaseBad}
use Rattle.bf_search.specs.declared.asks.Check.TheVariants.{Passed, Bad as BaseIsBad, Test as TestBase}
use Rattle.bf_search.specs.declared.entries.Entry.TheVariants.{Marked, SkippedBase, FirstBadFound}
use Rattle.bf_search.specs.declared.farm.Claim.{Claim}
use Rattle.bf_search.specs.declared.farm.Event.TheVariants.{Claim as Claimed, Post as Posted, Give as Given}
use Rattle.bf_search.specs.declared.outcomes.Outcome.{Outcome}
use Rattle.bf_search.specs.declared.outcomes.Outcome.TheVariants.{Exit, Killed}
use Rattle.bf_search.specs.declared.outcomes.Mark.TheVariants.{Good, Bad, Skip}
use Rattle.bf_search.specs.declared.outcomes.Verdict.TheVariants.{Mark as MarkOf, Abort}
use Rattle.bf_search.specs.Reach.{reaches_within, reaches, any_reaches, reach_row}
use Rattle.bf_search.specs.Candidates.{is_candidate, candidates, candidate_row, weight, weights}
use Rattle.bf_search.specs.Choice.{best}
use Rattle.bf_search.specs.Bases.{common_places, merge_bases, reaches_all, check_bases, check}
use Rattle.bf_search.specs.Outcomes.{verdict_of, lenient, planned, outcomes_of_plan, outcomes_of_table}
use Rattle.bf_search.specs.State.{Search, best_of, ask, mark}
use Rattle.bf_search.specs.Run.{Answered, Leg, Aborted, run_within, run, one_at_a_time}
use Rattle.bf_search.specs.OpenPaths.{OpenPath, left_of, better, best_within, best_open}
use Rattle.bf_search.specs.Farm.{Setting, best_place, step, after_events}

-- ---- outcomes

-- the last status that is bad, the one that skips, and the first one that aborts
status_124 : verdict_of (Exit 124) ≡ MarkOf Bad
status_124 = refl

status_125 : verdict_of (Exit 125) ≡ MarkOf Skip
status_125 = refl

-- a command that its shell could not start is not bad: it aborts
status_126 : verdict_of (Exit 126) ≡ Abort
status_126 = refl

status_127 : verdict_of (Exit 127) ≡ Abort
status_127 = refl

status_128 : verdict_of (Exit 128) ≡ Abort
status_128 = refl

-- a command that was killed is not skipped: it aborts, in the lenient reading too
killed_aborts : verdict_of Killed ≡ Abort
killed_aborts = refl

killed_leniently : verdict_of (lenient Killed) ≡ Abort
killed_leniently = refl

-- in the lenient reading these two statuses are bad, and the next one aborts still
status_126_leniently : verdict_of (lenient (Exit 126)) ≡ MarkOf Bad
status_126_leniently = refl

status_127_leniently : verdict_of (lenient (Exit 127)) ≡ MarkOf Bad
status_127_leniently = refl

status_128_leniently : verdict_of (lenient (Exit 128)) ≡ Abort
status_128_leniently = refl

-- past the end of a plan a test skips
past_the_plan : planned (Exit 0 ∷ Exit 1 ∷ []) 2 ≡ Exit 125
past_the_plan = refl

-- ---- searches

-- a root, two branches and their merge
abbrev diamond : List (List ℕ)
diamond = [] ∷ (0 ∷ []) ∷ (0 ∷ []) ∷ (1 ∷ 2 ∷ []) ∷ []

abbrev diamond_row : List Bool
diamond_row = false ∷ true ∷ true ∷ true ∷ []

abbrev none_skipped : List Bool
none_skipped = false ∷ false ∷ false ∷ false ∷ []

diamond_reach : reach_row diamond 1 ≡ true ∷ true ∷ false ∷ false ∷ []
unfolding reaches_within reaches reach_row
diamond_reach = refl

diamond_candidates : candidates diamond 3 (0 ∷ []) false ≡ 1 ∷ 2 ∷ 3 ∷ []
unfolding reaches_within reaches any_reaches is_candidate candidates
diamond_candidates = refl

diamond_candidate_row : candidate_row diamond 3 (0 ∷ []) false ≡ diamond_row
unfolding reaches_within reaches any_reaches is_candidate candidate_row
diamond_candidate_row = refl

diamond_weights : weights diamond diamond_row false ≡ 0 ∷ 1 ∷ 1 ∷ 3 ∷ []
unfolding reaches_within reaches weight weights
diamond_weights = refl

diamond_best : best diamond_row (0 ∷ 1 ∷ 1 ∷ 3 ∷ []) 3 none_skipped ≡ Some 1
unfolding best
diamond_best = refl

diamond_best_beside_one : best diamond_row (0 ∷ 1 ∷ 1 ∷ 3 ∷ []) 3 (false ∷ true ∷ false ∷ false ∷ []) ≡ Some 2
unfolding best
diamond_best_beside_one = refl

diamond_best_beside_both : best diamond_row (0 ∷ 1 ∷ 1 ∷ 3 ∷ []) 3 (false ∷ true ∷ true ∷ false ∷ []) ≡ None
unfolding best
diamond_best_beside_both = refl

-- along first parents the second branch is no candidate
diamond_first_parent : candidates diamond 3 (0 ∷ []) true ≡ 1 ∷ 3 ∷ []
unfolding reaches_within reaches any_reaches is_candidate candidates
diamond_first_parent = refl

diamond_first_parent_weights : weights diamond (false ∷ true ∷ false ∷ true ∷ []) true ≡ 0 ∷ 1 ∷ 0 ∷ 2 ∷ []
unfolding reaches_within reaches weight weights
diamond_first_parent_weights = refl

-- two branches of one root
abbrev fork : List (List ℕ)
fork = [] ∷ (0 ∷ []) ∷ (0 ∷ []) ∷ []

fork_bases : merge_bases fork 1 (2 ∷ []) ≡ 0 ∷ []
unfolding reaches_within reaches any_reaches common_places merge_bases
fork_bases = refl

fork_check : check fork 1 (2 ∷ []) (false ∷ false ∷ false ∷ []) ≡ TestBase 0
unfolding reaches_within reaches any_reaches common_places merge_bases reaches_all check_bases check
fork_check = refl

fork_check_skipped : check fork 1 (2 ∷ []) (true ∷ false ∷ false ∷ []) ≡ Passed (0 ∷ [])
unfolding reaches_within reaches any_reaches common_places merge_bases reaches_all check_bases check
fork_check_skipped = refl

-- a skipped base that is good is not warned of
fork_check_skipped_good : check fork 1 (2 ∷ 0 ∷ []) (true ∷ false ∷ false ∷ []) ≡ Passed []
unfolding reaches_within reaches any_reaches common_places merge_bases reaches_all check_bases check
fork_check_skipped_good = refl

-- two branches of the second of two commits: of their common ancestors the best one is the base
late_fork_bases : merge_bases ([] ∷ (0 ∷ []) ∷ (1 ∷ []) ∷ (1 ∷ []) ∷ []) 2 (3 ∷ []) ≡ 1 ∷ []
unfolding reaches_within reaches any_reaches common_places merge_bases
late_fork_bases = refl

-- two branches that are merged both ways: neither of them is the better base
crossed_bases : merge_bases ([] ∷ (0 ∷ []) ∷ (0 ∷ []) ∷ (1 ∷ 2 ∷ []) ∷ (2 ∷ 1 ∷ []) ∷ []) 3 (4 ∷ []) ≡ 1 ∷ 2 ∷ []
unfolding reaches_within reaches any_reaches common_places merge_bases
crossed_bases = refl

-- a good commit that comes after the bad one
line_check : check ([] ∷ (0 ∷ []) ∷ []) 0 (1 ∷ []) (false ∷ false ∷ []) ≡ BaseIsBad 0
unfolding reaches_within reaches any_reaches common_places merge_bases reaches_all check_bases check
line_check = refl

abbrev start : ℕ → List ℕ → ℕ → Search
start bad goods n = record {
  first_parent = false;
  bad = Some bad;
  goods = goods;
  skips = replicate n false;
  checked = false;
  expected = None;
  bad_asked =
      false;
}

-- a search whose check has passed, and which has asked for this place
abbrev asked_for : ℕ → Search
asked_for p = let s = start 7 (0 ∷ []) 8 in record s { checked = true; expected = Some p }

-- a mark of the place that was asked keeps what the check said, and a good or bad mark of another drops it
mark_asked_good : (mark (asked_for 3) Good 3).checked ≡ true
unfolding mark
mark_asked_good = refl

mark_asked_bad : (mark (asked_for 3) Bad 3).checked ≡ true
unfolding mark
mark_asked_bad = refl

mark_other_good : (mark (asked_for 3) Good 2).checked ≡ false
unfolding mark
mark_other_good = refl

mark_other_bad : (mark (asked_for 3) Bad 5).checked ≡ false
unfolding mark
mark_other_bad = refl

mark_other_skip : (mark (asked_for 3) Skip 5).checked ≡ true
unfolding mark
mark_other_skip = refl

abbrev line_of_eight : List (List ℕ)
line_of_eight = [] ∷ (0 ∷ []) ∷ (1 ∷ []) ∷ (2 ∷ []) ∷ (3 ∷ []) ∷ (4 ∷ []) ∷ (5 ∷ []) ∷ (6 ∷ []) ∷ []

-- the plan ggggbbbb
abbrev plan : List Outcome
plan = Exit 0 ∷ Exit 0 ∷ Exit 0 ∷ Exit 0 ∷ Exit 1 ∷ Exit 1 ∷ Exit 1 ∷ Exit 1 ∷ []

line_of_eight_entries : (one_at_a_time line_of_eight (start 7 (0 ∷ []) 8) (outcomes_of_plan plan) 0).entries ≡ Marked Good 3 ∷ Marked Bad 5 ∷ Marked Bad 4
    ∷ FirstBadFound
    4 ∷ []
unfolding reaches_within reaches any_reaches is_candidate candidates candidate_row weight weights best common_places merge_bases reaches_all check_bases check
    best_of ask mark run_within run
line_of_eight_entries = refl

line_of_eight_end : (one_at_a_time line_of_eight (start 7 (0 ∷ []) 8) (outcomes_of_plan plan) 0).end ≡ Answered (FirstBad 4)
unfolding reaches_within reaches any_reaches is_candidate candidates candidate_row weight weights best common_places merge_bases reaches_all check_bases check
    best_of ask mark run_within run
line_of_eight_end = refl

line_of_eight_leg : (one_at_a_time line_of_eight (start 7 (0 ∷ []) 8) (outcomes_of_plan plan) 2).end ≡ Leg
unfolding reaches_within reaches any_reaches is_candidate candidates candidate_row weight weights best common_places merge_bases reaches_all check_bases check
    best_of ask mark run_within run
line_of_eight_leg = refl

-- where the test of the first place that is asked was killed, the run aborts there, with no mark
abbrev killed_plan : List Outcome
killed_plan = Exit 0 ∷ Exit 0 ∷ Exit 0 ∷ Killed ∷ []

killed_entries : (one_at_a_time line_of_eight (start 7 (0 ∷ []) 8) (outcomes_of_plan killed_plan) 0).entries ≡ []
unfolding reaches_within reaches any_reaches is_candidate candidates candidate_row weight weights best common_places merge_bases reaches_all check_bases check
    best_of ask mark run_within run
killed_entries = refl

killed_end : (one_at_a_time line_of_eight (start 7 (0 ∷ []) 8) (outcomes_of_plan killed_plan) 0).end ≡ Aborted 3 Killed
unfolding reaches_within reaches any_reaches is_candidate candidates candidate_row weight weights best common_places merge_bases reaches_all check_bases check
    best_of ask mark run_within run
killed_end = refl

-- and so it does where the command could not be started
unstarted_end : (one_at_a_time line_of_eight (start 7 (0 ∷ []) 8) (outcomes_of_plan (replicate 8 (Exit 127))) 0).end ≡ Aborted 3 (Exit 127)
unfolding reaches_within reaches any_reaches is_candidate candidates candidate_row weight weights best common_places merge_bases reaches_all check_bases check
    best_of ask mark run_within run
unstarted_end = refl

-- where the plan has ended before the place that is asked, the place is skipped, and another one is asked
short_plan_entries : (one_at_a_time line_of_eight (start 7 (0 ∷ []) 8) (outcomes_of_plan (replicate 3 (Exit 0))) 2).entries ≡ Marked Skip 3 ∷ Marked Skip 4 ∷ []
unfolding reaches_within reaches any_reaches is_candidate candidates candidate_row weight weights best common_places merge_bases reaches_all check_bases check
    best_of ask mark run_within run
short_plan_entries = refl

-- the base of the fork is good, so the bad branch is at fault
fork_good_base : (one_at_a_time fork (start 1 (2 ∷ []) 3) (outcomes_of_plan (Exit 0 ∷ [])) 0).entries ≡ Marked Good 0 ∷ FirstBadFound 1 ∷ []
unfolding reaches_within reaches any_reaches is_candidate candidates candidate_row weight weights best common_places merge_bases reaches_all check_bases check
    best_of ask mark run_within run
fork_good_base = refl

-- the base is bad, so the change was undone on the good branch
fork_bad_base : (one_at_a_time fork (start 1 (2 ∷ []) 3) (outcomes_of_plan (Exit 1 ∷ [])) 0).end ≡ Answered (MergeBaseBad 0)
unfolding reaches_within reaches any_reaches is_candidate candidates candidate_row weight weights best common_places merge_bases reaches_all check_bases check
    best_of ask mark run_within run
fork_bad_base = refl

-- the base is skipped, and is warned of
fork_skipped_base : (one_at_a_time fork (start 1 (2 ∷ []) 3) (outcomes_of_plan (Exit 125 ∷ [])) 0).entries ≡ Marked Skip 0 ∷ SkippedBase 0 ∷ FirstBadFound 1
    ∷ []
unfolding reaches_within reaches any_reaches is_candidate candidates candidate_row weight weights best common_places merge_bases reaches_all check_bases check
    best_of ask mark run_within run
fork_skipped_base = refl

-- ---- several workers on the line of eight

abbrev setting : Setting
setting = record { graph = line_of_eight; start = start 7 (0 ∷ []) 8; leg = 0 }

abbrev claim : ℕ → ℕ → Claim
claim worker place = record { worker = worker; place = place }

abbrev unknown : List (Option Outcome)
unknown = replicate 8 None

-- the third place is known to be good
abbrev third_good : List (Option Outcome)
third_good = None ∷ None ∷ None ∷ Some (Exit 0) ∷ None ∷ None ∷ None ∷ None ∷ []

abbrev six_claims : List Claim
six_claims = claim 1 3 ∷ claim 2 5 ∷ claim 3 1 ∷ claim 4 6 ∷ claim 5 4 ∷ claim 6 2 ∷ []

abbrev best_for : List (Option Outcome) → List Claim → Option OpenPath
best_for table claims = best_open line_of_eight (outcomes_of_table table) claims setting.start

first_path : best_for unknown [] ≡ Some (record { marks = []; place = 3; left = 7 })
unfolding reaches_within reaches any_reaches is_candidate candidates candidate_row weight weights best common_places merge_bases reaches_all check_bases check
    best_of ask mark left_of best_within best_open
first_path = refl

second_path : best_for unknown (claim 1 3 ∷ []) ≡ Some (record { marks = Good ∷ []; place = 5; left = 4 })
unfolding reaches_within reaches any_reaches is_candidate candidates candidate_row weight weights best common_places merge_bases reaches_all check_bases check
    best_of ask mark left_of best_within best_open
second_path = refl

sixth_path : best_for unknown (claim 1 3 ∷ claim 2 5 ∷ claim 3 1 ∷ claim 4 6 ∷ claim 5 4 ∷ []) ≡ Some (record { marks = Bad ∷ Good ∷ []; place = 2; left = 2 })
unfolding reaches_within reaches any_reaches is_candidate candidates candidate_row weight weights best common_places merge_bases reaches_all check_bases check
    best_of ask mark left_of best_within best_open
sixth_path = refl

no_seventh_path : best_for unknown six_claims ≡ None
unfolding reaches_within reaches any_reaches is_candidate candidates candidate_row weight weights best common_places merge_bases reaches_all check_bases check
    best_of ask mark left_of best_within best_open
no_seventh_path = refl

-- a known outcome forces its mark
forced_path : best_for third_good (claim 1 5 ∷ []) ≡ Some (record { marks = Good ∷ Good ∷ []; place = 6; left = 2 })
unfolding reaches_within reaches any_reaches is_candidate candidates candidate_row weight weights best common_places merge_bases reaches_all check_bases check
    best_of ask mark left_of best_within best_open
forced_path = refl

-- a known abort ends a path: there is none behind it
abbrev third_aborts : List (Option Outcome)
third_aborts = None ∷ None ∷ None ∷ Some (Exit 128) ∷ None ∷ None ∷ None ∷ None ∷ []

no_path_behind_an_abort : best_for third_aborts [] ≡ None
unfolding reaches_within reaches any_reaches is_candidate candidates candidate_row weight weights best common_places merge_bases reaches_all check_bases check
    best_of ask mark left_of best_within best_open
no_path_behind_an_abort = refl

-- of two paths that leave as many candidates the shorter one is better, whichever of them has good first
abbrev short_path : OpenPath
short_path = record { marks = Bad ∷ []; place = 1; left = 2 }

abbrev long_path : OpenPath
long_path = record { marks = Good ∷ Good ∷ []; place = 6; left = 2 }

shorter_is_better : better (Some long_path) (Some short_path) ≡ Some short_path
shorter_is_better = refl

longer_is_no_better : better (Some short_path) (Some long_path) ≡ Some short_path
longer_is_no_better = refl

-- the six claims are legal, one after another
six_claims_legal : after_events setting (Some (record { table = unknown; claims = [] }))
    (Claimed 1 3 ∷ Claimed 2 5 ∷ Claimed 3 1 ∷ Claimed 4 6 ∷ Claimed 5 4 ∷ Claimed 6 2 ∷ [])
    ≡ Some (record { table = unknown; claims = six_claims })
unfolding reaches_within reaches any_reaches is_candidate candidates candidate_row weight weights best common_places merge_bases reaches_all check_bases check
    best_of ask mark run_within run left_of best_within best_open
six_claims_legal = refl

-- a post ends its claim and tells an outcome; a giving back only ends its claim, and its place is open again
claims_end : after_events setting (Some (record { table = unknown; claims = [] }))
    (Claimed 1 3 ∷ Claimed 2 5 ∷ Posted 1 3 (Exit 0) ∷ Given 2 5 ∷ Claimed 1 5 ∷ [])
    ≡ Some (record { table = third_good; claims = claim 1 5 ∷ [] })
unfolding reaches_within reaches any_reaches is_candidate candidates candidate_row weight weights best common_places merge_bases reaches_all check_bases check
    best_of ask mark run_within run left_of best_within best_open
claims_end = refl

-- one claim a worker, and the best open place alone
second_claim : step setting (record { table = unknown; claims = claim 1 3 ∷ [] }) (Claimed 1 5) ≡ None
unfolding reaches_within reaches any_reaches is_candidate candidates candidate_row weight weights best common_places merge_bases reaches_all check_bases check
    best_of ask mark run_within run left_of best_within best_open
second_claim = refl

another_place : step setting (record { table = unknown; claims = claim 1 3 ∷ [] }) (Claimed 2 1) ≡ None
unfolding reaches_within reaches any_reaches is_candidate candidates candidate_row weight weights best common_places merge_bases reaches_all check_bases check
    best_of ask mark run_within run left_of best_within best_open
another_place = refl

post_of_another_worker : step setting (record { table = unknown; claims = claim 1 3 ∷ [] }) (Posted 2 3 (Exit 0)) ≡ None
post_of_another_worker = refl

-- where there is an ending no claim is legal
nothing_after_an_ending : best_place setting (record { table = None ∷ None ∷ None ∷ Some (Exit 128) ∷ None ∷ None ∷ None ∷ None ∷ []; claims = [] }) ≡ None
unfolding reaches_within reaches any_reaches is_candidate candidates candidate_row weight weights best common_places merge_bases reaches_all check_bases check
    best_of ask mark run_within run left_of best_within best_open
nothing_after_an_ending = refl
