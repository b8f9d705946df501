-- What a call adds, and the texts that its parts add: names of commits, comments, and a text as a line.
use Rattle.std.specs.Prelude.{◌≡◌, ℕ, Bool, List, ◌++◌, codes, Result, OnOk}
use Rattle.std.specs.List.{flat_map}
use Rattle.bf_terms.specs.Texts.{Commits, Sides, comment_of, hex_of, quoted, text_line, waiting_text}

-- a call that adds a text: where it succeeds, the text stands behind what was there
abbrev pub Adds : {X E : Type 0} → List ℕ → List ℕ → Result X E → List ℕ → Type 0
Adds old new result text = OnOk result (new ≡ old ++ text)

-- the name of a commit as a line, and of each of these commits
abbrev pub name_line : Commits → ℕ → List ℕ
name_line commits p = text_line (hex_of commits p)

abbrev pub name_lines : Commits → List ℕ → List ℕ
name_lines commits ps = flat_map (λ p. name_line commits p) ps

-- the name of a commit as a word of the start line, and of each of these commits
abbrev pub quoted_name : Commits → ℕ → List ℕ
quoted_name commits p = quoted (hex_of commits p)

abbrev pub quoted_names : Commits → List ℕ → List ℕ
quoted_names commits ps = flat_map (λ p. quoted_name commits p) ps

-- a comment of these words for each of these commits
abbrev pub comments : Commits → List ℕ → List ℕ → List ℕ
comments commits words ps = flat_map (comment_of commits words) ps

-- the line of the commit to test next
abbrev pub next_line : Commits → ℕ → List ℕ
next_line commits p = text_line (codes "next: " ++ hex_of commits p)

-- what a search waits for, as a line
abbrev pub waiting_line : Sides → Bool → ℕ → List ℕ
waiting_line sides bad good_count = text_line (waiting_text sides bad good_count)
