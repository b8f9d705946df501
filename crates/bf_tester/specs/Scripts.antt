-- The testers of a plan and of a script.
use Rattle.std.specs.Prelude.{◌≡◌, ℕ, Bool, true, false, ◌&&◌, ◌==◌, ◌⊎◌, if◌then◌else◌, List, Option, Some, None, IsTrue}
use Rattle.std.specs.List.{list_any}
use Rattle.bf_oid.specs.declared.object.Oid.{Oid}
use Rattle.bf_io.specs.Causes.{raised}
use Rattle.bf_search.specs.declared.outcomes.Outcome.{Outcome}
use Rattle.bf_tester.specs.declared.answer.TestReply.{TestReply}
use Rattle.bf_tester.specs.Noted.{Noted, notes_after, split_notes}
use Rattle.bf_tester.specs.Plans.{plan_read_as}
use Rattle.bf_tester.specs.Replies.{failed_after, is_dropped, is_failed}
use Rattle.bf_tester.specs.declared.script.FailRule.{FailRule}
use Rattle.bf_tester.specs.declared.script.Side.{Side}
use Rattle.bf_tester.specs.declared.script.Side.TheVariants.{Splits, All}

-- a tester of a plan: the plan as it was written, and what the tester notes
pub record Planned : Type 0 where
  pub plan : List Outcome
  pub notes : Noted

-- a tester of a script: its plan, the rules by which tests fail, and whether its first test waits at a gate
pub record Scripted : Type 0 where
  pub plan : List Outcome
  pub notes : Noted
  pub fails : List FailRule
  pub is_gated : Bool
  pub faults : ℕ
  pub failed : Option ℕ

-- what a tester of a plan tells: the plan, as its notes say that outcomes are read
abbrev pub told_by : Noted → List Outcome → Option (List Outcome)
told_by notes plan = Some (plan_read_as notes.is_lenient plan)

-- whether a rule for this side holds for a tester, which was split off or not
abbrev pub is_on_side : Side → Bool → Bool
is_on_side Splits is_split = is_split
is_on_side All is_split = true

-- a rule is for the test of this place by a tester, which was split off or not
abbrev pub IsRuleFor : FailRule → Bool → ℕ → Type 0
IsRuleFor rule is_split place = (rule.place ≡ place) × IsTrue (is_on_side rule.side is_split)

-- whether the tests of a place by a tester fail
abbrev pub fails_at : List FailRule → Bool → ℕ → Bool
fails_at rules is_split place = list_any (λ rule. (rule.place == place) && is_on_side rule.side is_split) rules

-- whether the test of a place fails by a rule
abbrev pub is_to_fail : Scripted → ℕ → Bool
is_to_fail t place = fails_at t.fails t.notes.is_split place

-- where a rule says so, the test of a place fails, or its request was dropped
abbrev pub FailsByRule : Scripted → ℕ → TestReply → Type 0
FailsByRule t place reply = is_to_fail t place ≡ true → (is_dropped reply ≡ true) ⊎ (is_failed reply ≡ true)

-- where no rule says so and there is no gate, the test of a place does not fail
abbrev pub PassesUngated : Scripted → ℕ → TestReply → Type 0
PassesUngated t place reply = is_to_fail t place ≡ false → t.is_gated ≡ false → is_failed reply ≡ false

-- a tester of a plan after a reply
abbrev pub planned_after : Planned → TestReply → ℕ → Oid → Planned
planned_after t reply place name = record t { notes = notes_after t.notes reply place name }

-- the tester of a plan that is split off
abbrev pub split_planned : Planned → Planned
split_planned t = record t { notes = split_notes t.notes }

-- a tester of a script after a reply: a failed test is counted
abbrev pub scripted_after : Scripted → TestReply → ℕ → Oid → Scripted
scripted_after t reply place name = record t {
  notes = notes_after t.notes reply place name;
  faults = if is_failed reply then raised t.faults else t.faults;
  failed = failed_after reply t.failed place;
}

-- a tester of a script whose test of this place has failed
abbrev pub failed_at : Scripted → ℕ → Scripted
failed_at t place = record t { faults = raised t.faults; failed = Some place }

-- the tester of a script that is split off, with no faults
abbrev pub split_scripted : Scripted → Scripted
split_scripted t = record t { notes = split_notes t.notes; faults = 0; failed = None }
