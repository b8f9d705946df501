-- The lines that tell a state: its bad commit, its good ones in the order in which they were marked, and the skipped ones
-- by place.
use Rattle.std.specs.Prelude.{ℕ, ◌<◌, List, ◌++◌, codes, Option, All}
use Rattle.std.specs.List.{flat_map}
use Rattle.std.specs.Option.{ForSome}
use Rattle.bf_terms.specs.Texts.{Commits, Sides, text_line, hex_of, given_bad}
use Rattle.bf_log.specs.declared.state.MarkedPlaces.{MarkedPlaces}

-- a word and the name of a commit
abbrev pub name_line : Commits → List ℕ → ℕ → List ℕ
name_line commits word p = (word ++ codes ": ") ++ text_line (hex_of commits p)

-- a line of this word for each of these commits
abbrev pub name_lines : Commits → List ℕ → List ℕ → List ℕ
name_lines commits word ps = flat_map (name_line commits word) ps

unfoldable pub state_lines : Commits → Sides → Option ℕ → List ℕ → List ℕ → List ℕ
state_lines commits sides bad goods skipped =
    given_bad (name_line commits sides.new) bad ++ name_lines commits sides.old goods
    ++ name_lines commits (codes "skip") skipped

-- the lines of a state that the writer is given
abbrev pub lines_of_state : Commits → Sides → MarkedPlaces → List ℕ
lines_of_state commits sides marked = state_lines commits sides marked.bad marked.goods.now marked.skipped.now

-- all places are places of so many commits
pub record AreMarked (len : ℕ) (marked : MarkedPlaces) : Type 0 where
  pub bad : ForSome marked.bad (λ p. p < len)
  pub goods : All (λ p. p < len) marked.goods.now
  pub skipped : All (λ p. p < len) marked.skipped.now
