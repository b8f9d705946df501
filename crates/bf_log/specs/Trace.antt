-- The lines of a trace: what workers claimed, posted and gave back.
use Rattle.std.specs.Prelude.{ℕ, List, ◌++◌, codes}
use Rattle.std.specs.Fmt.{decimal}
use Rattle.std.specs.List.{flat_map}
use Rattle.bf_search.specs.declared.farm.Event.{Event}
use Rattle.bf_search.specs.declared.farm.Event.TheVariants.{Claim, Post, Give}
use Rattle.bf_search.specs.declared.outcomes.Outcome.{Outcome}
use Rattle.bf_terms.specs.Texts.{Commits, text_line, hex_of, outcome_text}

-- a word, the number of a worker, and the name of a commit
unfoldable pub worker_text : Commits → List ℕ → ℕ → ℕ → List ℕ
worker_text commits word worker p = word ++ codes " " ++ decimal worker ++ codes " " ++ hex_of commits p

-- what a worker posted
abbrev pub post_text : Commits → ℕ → ℕ → Outcome → List ℕ
post_text commits worker p outcome = worker_text commits (codes "post") worker p ++ codes " " ++ outcome_text outcome

abbrev pub event_text : Commits → Event → List ℕ
event_text commits (Claim worker p) = worker_text commits (codes "claim") worker p
event_text commits (Post worker p outcome) = post_text commits worker p outcome
event_text commits (Give worker p) = worker_text commits (codes "give") worker p

abbrev pub event_line : Commits → Event → List ℕ
event_line commits event = text_line (event_text commits event)

-- the events of a leg, in order
abbrev pub event_lines : Commits → List Event → List ℕ
event_lines commits events = flat_map (event_line commits) events

-- between the events of two legs
abbrev pub leg_line : List ℕ
leg_line = codes "leg\n"

-- the test of a commit could not be made
abbrev pub failed_test_line : Commits → ℕ → List ℕ
failed_test_line commits p = text_line (codes "test fault on " ++ hex_of commits p)
