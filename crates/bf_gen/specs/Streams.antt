-- The stream that a number gives (git-fast-import(1)): its commits lie on one branch, and numbers of a linear
-- congruential generator decide the parents of each.
use Rattle.std.specs.Prelude.{ℕ, zero, suc, ◌+◌, ◌-◌, ◌*◌, ◌/◌, ◌%◌, ◌^◌, nat_le, ◌==◌, ◌&&◌, not, if◌then◌else◌, List, [], ◌∷◌, ◌++◌, length, map, codes, Option, Some, None, option_to_list}
use Rattle.std.specs.List.{flat_map}
use Rattle.std.specs.Fmt.{decimal}
use Rattle.bf_io.specs.Told.{Appends, AppendsFront}

-- the state of each commit
unfoldable pub next_state : ℕ → ℕ
next_state state = (1103515245 * state + 12345) % 2 ^ 31

unfoldable pub state_of : ℕ → ℕ → ℕ
state_of number zero = number % 2 ^ 31
state_of number (suc commit) = next_state (state_of number commit)

-- The bits of a state from the 16th on decide the parents.

-- the first parent of a commit that is not the first: the one before it or the third before it, from the first on
unfoldable pub first_parent : ℕ → ℕ → ℕ
first_parent state commit = if (state / 65536) % 4 == 0 then commit - 3 else commit - 1

-- the second parent, where the commit is a merge: the second before it
unfoldable pub second_parent : ℕ → ℕ → Option ℕ
second_parent state commit =
    if nat_le 2 commit && ((state / 65536) % 3 == 0) && not (first_parent state commit == commit - 2)
    then Some (commit - 2) else None

-- the lines of the parents, which the first commit has not; marks count from 1
abbrev pub parent_lines : ℕ → ℕ → List (List ℕ)
parent_lines state commit =
    if commit == 0 then []
    else (codes "from :" ++ decimal (first_parent state commit + 1))
    ∷ map (λ parent. codes "merge :" ++ decimal (parent + 1)) (option_to_list (second_parent state commit))

-- The lines of a commit. Each is a second later than the one before, and the count of the data is that of the message
-- with its LF.
unfoldable pub commit_text : ℕ → ℕ → List ℕ
commit_text state commit =
    flat_map (λ line. line ++ codes "\n") (
    codes "commit refs/heads/main"
    ∷ (codes "mark :" ++ decimal (commit + 1))
    ∷ (codes "committer gen <gen> " ++ decimal commit ++ codes " +0000")
    ∷ (codes "data " ++ decimal (length (codes "c" ++ decimal commit) + 1))
    ∷ (codes "c" ++ decimal commit)
    ∷ parent_lines state commit)

-- the stream of so many commits
unfoldable pub stream : ℕ → ℕ → List ℕ
stream number zero = []
stream number (suc commit) = stream number commit ++ commit_text (state_of number commit) commit

-- a sink gained the stream
abbrev pub GainsStream : ℕ → ℕ → Option (List ℕ) → Option (List ℕ) → Type 0
GainsStream number commits before after = Appends before after (stream number commits)

-- a sink gained some front of the stream
abbrev pub GainsFront : ℕ → ℕ → Option (List ℕ) → Option (List ℕ) → Type 0
GainsFront number commits before after = AppendsFront before after (stream number commits)
