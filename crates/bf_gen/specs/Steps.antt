-- The commits of a stream, one after another.
use Rattle.std.specs.Prelude.{ℕ, zero, suc, ◌+◌, ◌-◌, List, [], ◌++◌}
use Rattle.bf_gen.specs.Streams.{next_state, commit_text}

-- the state so many commits after one
unfoldable pub states_on : ℕ → ℕ → ℕ
states_on state zero = state
states_on state (suc count) = next_state (states_on state count)

-- so many commits from one on, whose state is this
unfoldable pub commits_from : ℕ → ℕ → ℕ → List ℕ
commits_from state first zero = []
commits_from state first (suc count) =
    commits_from state first count ++ commit_text (states_on state count) (first + count)

-- the commits from one on, whose state is this, up to the one before the end
abbrev pub commits_between : ℕ → ℕ → ℕ → List ℕ
commits_between state first end = commits_from state first (end - first)
