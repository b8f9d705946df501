-- What the commits of a history keep, whatever the stream says.
use Rattle.std.specs.Prelude.{◌≡◌, ℕ, ◌<◌, true, List, length, map, All, Some}
use Rattle.hex.specs.Hex.{IsBytes}
use Rattle.bf_oid.specs.declared.object.Oid.{Oid}
use Rattle.bf_history.specs.Meanings.{History, name_at, place_named}
use Rattle.bf_log.specs.Written.{has_no_end}
use Rattle.bf_terms.specs.Texts.{Commits}

-- a subject is one line
abbrev pub IsOneLine : List ℕ → Type 0
IsOneLine subject = has_no_end subject ≡ true

-- a name has 20 bytes
pub record IsWholeName (name : Oid) : Type 0 where
  pub long : length name.0 ≡ 20
  pub bytes : IsBytes name.0

-- There is a name for each commit, and each name leads back to its commit, so no two are equal. Each subject is one line.
pub record IsKept (history : History) : Type 0 where
  pub counted : length history.parents ≡ length history.names
  pub one_line : All IsOneLine history.subjects
  pub whole : All IsWholeName history.names
  pub found : (p : ℕ) → p < length history.names → place_named history.names (name_at history p) ≡ Some p

-- what the texts say of the commits of a history
abbrev pub commits_of : History → Commits
commits_of history = record { names = map (λ (name : Oid). name.0) history.names; subjects = history.subjects }
