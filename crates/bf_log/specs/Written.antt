-- The command lines of entries, as words.
use Rattle.std.specs.Prelude.{◌≡◌, ℕ, ◌==◌, ◌&&◌, not, Bool, true, false, List, [], ◌∷◌, ◌++◌, map, codes, Option, Some, None}
use Rattle.std.specs.List.{list_all, slice_index_or}
use Rattle.bf_search.specs.declared.entries.Entry.{Entry}
use Rattle.bf_search.specs.declared.entries.Entry.TheVariants.{Start, Marked}
use Rattle.bf_terms.specs.Words.{term_fault}
use Rattle.bf_terms.specs.Texts.{Commits, Sides, Known, known_after, hex_of, word_of_mark}
use Rattle.bf_reading.specs.Reading.{is_word, first_is_dash}
use Rattle.bf_reading.specs.declared.line.LogWord.{LogWord}
use Rattle.bf_reading.specs.declared.line.LogWord.TheVariants.{MarkWord}
use Rattle.bf_reading.specs.declared.line.LogWord.TheVariants as log_word

abbrev pub given_term : Bool → List ℕ → Option (List ℕ)
given_term true term = Some term
given_term false term = None

abbrev pub given_name : Commits → Option ℕ → List (List ℕ)
given_name commits None = []
given_name commits (Some p) = hex_of commits p ∷ []

abbrev pub names_of : Commits → Option ℕ → List ℕ → List (List ℕ)
names_of commits bad goods = given_name commits bad ++ map (λ p. hex_of commits p) goods

-- a start as its command line
abbrev pub start_word : Commits → Sides → Bool → Bool → Option ℕ → List ℕ → LogWord
start_word commits sides first_parent terms_given bad goods =
    log_word.Start first_parent (given_term terms_given sides.new) (given_term terms_given sides.old)
    (names_of commits bad goods)

-- the command lines of entries, in order
abbrev pub words_of_entries : Commits → Sides → List Entry → List LogWord
words_of_entries commits sides [] = []
words_of_entries commits sides (Start first_parent terms_given bad goods ∷ entries) =
    start_word commits sides first_parent terms_given bad goods ∷ words_of_entries commits sides entries
words_of_entries commits sides (Marked m p ∷ entries) = MarkWord (word_of_mark sides m)
    (hex_of commits p) ∷ words_of_entries commits sides entries
words_of_entries commits sides (other ∷ entries) = words_of_entries commits sides entries

-- a byte that stands for itself in a word, outside of quotes and between them
abbrev pub is_plain : ℕ → Bool
is_plain b = not (b == 32) && (not (b == 9) && (not (b == 39) && (not (b == 92) && not (b == 10))))

-- a word that is read as it stands
pub record IsPlainWord (word : List ℕ) : Type 0 where
  pub some : word ≡ [] → ⊥
  pub plain : list_all is_plain word ≡ true
  pub no_dash : first_is_dash word ≡ false

-- a word that names a mark
pub record IsMarkWord (word : List ℕ) : Type 0 where
  pub is_plain_word : IsPlainWord word
  pub no_start : is_word (codes "start") word ≡ false

abbrev pub has_no_end : List ℕ → Bool
has_no_end text = list_all (λ b. not (b == 10)) text

-- what the lines of a log need to be read back: no subject goes on behind an LF, and the terms are accepted
pub record AreReadable (commits : Commits) (sides : Sides) : Type 0 where
  pub subjects : (p : ℕ) → has_no_end (slice_index_or commits.subjects p []) ≡ true
  pub accepted : term_fault sides.new sides.old ≡ None

-- a marked place has a name
abbrev pub AreNamed : Commits → List Entry → Type 0
AreNamed commits [] = Unit {0}
AreNamed commits (Marked m p ∷ entries) = (slice_index_or commits.names p [] ≡ [] → ⊥) × AreNamed commits entries
AreNamed commits (other ∷ entries) = AreNamed commits entries

-- what is known after entries
abbrev pub known_after_all : Known → List Entry → Known
known_after_all known [] = known
known_after_all known (entry ∷ entries) = known_after_all (known_after known entry) entries
