-- Names of commits (gitrevisions(7)): a base, which names a commit, and steps from there to one of its ancestors.
use Rattle.std.specs.Prelude.{◌≡◌, ℕ, zero, suc, ◌+◌, ◌==◌, Bool, not, ◌&&◌, ◌||◌, nat_le, if◌then◌else◌, List, [], ◌∷◌, ◌++◌, length, take, drop}
use Rattle.std.specs.Prelude.{map, filter, codes, Option, Some, None, is_some, option_and_then, Result, Ok, Err}
use Rattle.std.specs.Cmp.Lexicographic.{pointwise}
use Rattle.std.specs.List.{before_first, list_all, position, range_with_len, slice_get, slice_index_or, starts_with}
use Rattle.std.specs.Option.{ok_or, option_map, option_map_or, option_or}
use Rattle.std.specs.Char.{eq_ignore_ascii_case, is_ascii_hexdigit}
use Rattle.hex.specs.Hex.{encode_lower}
use Rattle.bf_oid.specs.declared.object.Oid.{Oid}
use Rattle.bf_oid.specs.Object.{oid_of_hex}
use Rattle.bf_graph.specs.Graph.{parents_of}
use Rattle.bf_history.specs.Meanings.{History, place_named, ref_in}
use Rattle.bf_io.specs.Decimal.{decimal_value}
use Rattle.bf_search.specs.Reach.{places, reaches}
use Rattle.bf_names.specs.declared.fault.NameFault.{NameFault}
use Rattle.bf_names.specs.declared.fault.NameFault.TheVariants.{Unknown, Ambiguous, NoParent, BadForm, NoMemory}
use Rattle.bf_names.specs.declared.step.Step.{Step}
use Rattle.bf_names.specs.declared.step.Step.TheVariants.{Ancestor, Parent}
use Rattle.bf_grammar.specs.Forms.{◌>>=◌}

-- ---- the form of a name

-- the first index at which one text stands in another
abbrev pub first_at : List ℕ → List ℕ → Option ℕ
first_at part text = position (λ at. starts_with ◌==◌ (drop at text) part) (range_with_len 0 (length text))

abbrev pub stands_in : List ℕ → List ℕ → Bool
stands_in part text = is_some (first_at part text)

-- a `~` or a `^` begins a step
abbrev pub is_sign : ℕ → Bool
is_sign byte = byte == 126 || byte == 94

-- the base: what stands before the first step
abbrev pub base_of : List ℕ → List ℕ
base_of text = before_first is_sign text

-- a base isn't empty, and has no space, no `:` and no `@{`
abbrev pub is_base : List ℕ → Bool
is_base base =
    not (length base == 0 || stands_in (codes " ") base || stands_in (codes ":") base || stands_in (codes "@{") base)

-- the texts of the steps, each from its sign up to the next
unfoldable pub step_texts : List ℕ → List (List ℕ)
step_texts [] = []
step_texts (byte ∷ rest) =
    if is_sign byte then (byte ∷ before_first is_sign rest) ∷ step_texts rest else step_texts rest

-- the number behind a sign, below 2 ^ 64; 1 where there is none
abbrev pub number_of : List ℕ → Option ℕ
number_of digits = if length digits == 0 then Some 1 else decimal_value digits

-- The step that a text writes: to an ancestor of this generation, or to the parent of this number. Behind a `^`, `{}` and
-- `{commit}` mean the commit itself, as 0 does.
unfoldable pub step_of : List ℕ → Option Step
step_of [] = None
step_of (sign ∷ rest) =
    if sign == 126 then option_map Ancestor (number_of rest)
    else if pointwise ◌==◌ rest (codes "{}") || pointwise ◌==◌ rest (codes "{commit}") then Some (Parent 0)
    else option_map Parent (number_of rest)

-- the steps of all texts, where each text writes one
unfoldable pub steps_written : List (List ℕ) → Option (List Step)
steps_written [] = Some []
steps_written (text ∷ texts) =
    option_and_then (λ step. option_map (λ steps. step ∷ steps) (steps_written texts)) (step_of text)

-- the steps of a name, where its form is good
unfoldable pub steps_of : List ℕ → Result (List Step) NameFault
steps_of text = if is_base (base_of text) then ok_or (steps_written (step_texts text)) BadForm else Err BadForm

-- ---- the commit that a base names

-- the refs that a base may mean, in the order in which they are tried; the last one is the head of a remote
abbrev pub meanings : List ℕ → List (List ℕ)
meanings base =
    base
    ∷ (codes "refs/" ++ base)
    ∷ (codes "refs/tags/" ++ base)
    ∷ (codes "refs/heads/" ++ base)
    ∷ (codes "refs/remotes/" ++ base)
    ∷ (codes "refs/remotes/" ++ base ++ codes "/HEAD")
    ∷ []

-- where the first of these refs leads that is set
abbrev pub first_set : List (List ℕ × ℕ) → List (List ℕ) → Option ℕ
first_set refs [] = None
first_set refs (name ∷ names) = option_or (ref_in refs name) (first_set refs names)

-- 4 to 39 hexadecimal digits may abbreviate the name of a commit; nothing abbreviates one from before it was exported
abbrev pub is_abbreviation : List ℕ → Bool
is_abbreviation base = nat_le 4 (length base) && nat_le (length base) 39 && list_all is_ascii_hexdigit base

-- whether a name in hexadecimal digits begins with these, in either case
abbrev pub begins_with : List ℕ → Oid → Bool
begins_with digits name = starts_with eq_ignore_ascii_case (encode_lower name.0) digits

-- the places of the names that begin with these digits
unfoldable pub abbreviated : List Oid → List ℕ → List ℕ
abbreviated names digits =
    filter (λ place. begins_with digits (slice_index_or names place (record { 0 = [] })))
    (range_with_len 0 (length names))

abbrev pub only_one : List ℕ → Result ℕ NameFault
only_one [] = Err Unknown
only_one (place ∷ []) = Ok place
only_one places = Err (Ambiguous (length places))

abbrev pub by_digits : History → List ℕ → Result ℕ NameFault
by_digits history base =
    if not history.original_names && is_abbreviation base then only_one (abbreviated history.names base) else Err Unknown

-- 40 digits name a commit alone; any other base may name a ref, and else abbreviate the name of a commit
abbrev pub by_name : History → List ℕ → Option Oid → Result ℕ NameFault
by_name history base (Some name) = ok_or (place_named history.names name) Unknown
by_name history base None =
    option_map_or (λ place. Ok place) (first_set history.refs (meanings base)) (by_digits history base)

-- `@` alone means `HEAD`
abbrev pub spelled_out : List ℕ → List ℕ
spelled_out base = if pointwise ◌==◌ base (codes "@") then codes "HEAD" else base

unfoldable pub place_of_base : History → List ℕ → Result ℕ NameFault
place_of_base history base = by_name history (spelled_out base) (oid_of_hex (spelled_out base))

-- ---- the steps from there

-- the ancestor of a generation, along first parents; that of generation 0 is the commit itself
unfoldable pub ancestor : List (List ℕ) → ℕ → ℕ → Option ℕ
ancestor graph zero place = Some place
ancestor graph (suc n) place = option_and_then (ancestor graph n) (slice_get (parents_of graph place) 0)

-- the parent of a number, from 1; 0 stays at the commit
abbrev pub parent : List (List ℕ) → ℕ → ℕ → Option ℕ
parent graph zero place = Some place
parent graph (suc n) place = slice_get (parents_of graph place) n

abbrev pub after_step : List (List ℕ) → Step → ℕ → Option ℕ
after_step graph (Ancestor n) place = ancestor graph n place
after_step graph (Parent n) place = parent graph n place

unfoldable pub after_steps : List (List ℕ) → List Step → ℕ → Result ℕ NameFault
after_steps graph [] place = Ok place
after_steps graph (step ∷ steps) place = ok_or (after_step graph step place) NoParent >>= after_steps graph steps

-- ---- names and ranges

-- the commit that a text and its steps mean
abbrev pub place_of : History → List ℕ → List Step → Result ℕ NameFault
place_of history text steps =
    place_of_base history (base_of text) >>= after_steps history.parents steps

-- The place of the commit that a name means, or how it is refused: first for its form, then for its base, then for a
-- step.
unfoldable pub name : History → List ℕ → Result ℕ NameFault
name history text = steps_of text >>= place_of history text

-- by place, whether one place reaches it and another doesn't
abbrev pub row_between : List (List ℕ) → ℕ → ℕ → List Bool
row_between graph from to = map (λ q. reaches graph to q && not (reaches graph from q)) (places graph)

-- the right side of a range begins with no dot, and two dots don't stand in it again
unfoldable pub right_steps : List ℕ → Result (List Step) NameFault
right_steps text = if starts_with ◌==◌ text (codes ".") || stands_in (codes "..") text then Err BadForm else steps_of text

-- A range `A..B` means what B reaches and A doesn't. The form of both sides is tried first, then A is found, then B.
unfoldable pub between : History → List ℕ → List ℕ → Result (List Bool) NameFault
between history left right = do
  before ← steps_of left
  after ← right_steps right
  from ← place_of history left before
  to ← place_of history right after
  Ok (row_between history.parents from to)

abbrev pub range_at : History → List ℕ → Option ℕ → Result (List Bool) NameFault
range_at history text (Some at) = between history (take at text) (drop (at + 2) text)
range_at history text None = name history text >>= λ place. Ok (map (λ q. q == place) (places history.parents))

-- By place, whether a text means it: where two dots stand in it, as a range at the first two; else as a name, which means
-- one place alone.
unfoldable pub range : History → List ℕ → Result (List Bool) NameFault
range history text = range_at history text (first_at (codes "..") text)

-- A call fails as is meant, or memory ran out.
abbrev pub Fails : {X : Type 0} → NameFault → Result X NameFault → Type 0
Fails NoMemory meant = Unit {0}
Fails fault meant = meant ≡ Err fault

-- A call gives what is meant, or memory ran out.
abbrev pub Means : {X : Type 0} → Result X NameFault → Result X NameFault → Type 0
Means (Ok x) meant = meant ≡ Ok x
Means (Err fault) meant = Fails fault meant
