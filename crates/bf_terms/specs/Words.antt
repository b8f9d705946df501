-- Which words may name the two sides of a search (git-bisect(1), "Alternate terms"). The length and the letters of a
-- term are bounds of this product.
use Rattle.std.specs.Prelude.{ℕ, Bool, not, ◌&&◌, ◌||◌, ◌==◌, nat_lt, nat_le, if◌then◌else◌, List, [], ◌∷◌, length, codes, Option, Some, None}
use Rattle.std.specs.List.{list_any, list_all, starts_with}
use Rattle.std.specs.Cmp.Lexicographic.{pointwise}
use Rattle.bf_terms.specs.declared.terms.TermFault.{TermFault}
use Rattle.bf_terms.specs.declared.terms.TermFault.TheVariants.{New, Old, Same}

abbrev pub is_word : List ℕ → List ℕ → Bool
is_word text word = pointwise ◌==◌ text word

-- whether a byte lies in a range
abbrev pub is_within : ℕ → ℕ → ℕ → Bool
is_within low high byte = nat_le low byte && nat_le byte high

-- an ASCII letter, a digit or `-`
abbrev pub is_term_byte : ℕ → Bool
is_term_byte byte = is_within 65 90 byte || is_within 97 122 byte || is_within 48 57 byte || (byte == 45)

-- the words that are commands of git bisect, or read as one
abbrev pub is_command : List ℕ → Bool
is_command text =
    is_word text (codes "help") || is_word text (codes "start") || is_word text (codes "skip") || is_word text (codes "next")
    || is_word text (codes "reset") || is_word text (codes "visualize") || is_word text (codes "view") || is_word text (codes "replay")
    || is_word text (codes "log") || is_word text (codes "run") || is_word text (codes "terms")

-- 1 to 40 bytes
abbrev pub has_length : List ℕ → Bool
has_length text = nat_lt 0 (length text) && nat_le (length text) 40

abbrev pub begins_with_dash : List ℕ → Bool
begins_with_dash text = starts_with ◌==◌ text (codes "-")

-- 1 to 40 such bytes, of which the first is no `-`
abbrev pub has_form : List ℕ → Bool
has_form text = has_length text && list_all is_term_byte text && not (begins_with_dash text)

-- a term has this form, and is no command
abbrev pub is_term : List ℕ → Bool
is_term text = has_form text && not (is_command text)

-- a term for one side is no standard word of the other
abbrev pub is_new_term : List ℕ → Bool
is_new_term text = is_term text && not (is_word text (codes "good")) && not (is_word text (codes "old"))

abbrev pub is_old_term : List ℕ → Bool
is_old_term text = is_term text && not (is_word text (codes "bad")) && not (is_word text (codes "new"))

-- why two words are no terms of a search: the new one, then the old one, then that they are the same
abbrev pub term_fault : List ℕ → List ℕ → Option TermFault
term_fault new old =
    if not (is_new_term new) then Some New
    else if not (is_old_term old) then Some Old
    else if is_word new old then Some Same
    else None
