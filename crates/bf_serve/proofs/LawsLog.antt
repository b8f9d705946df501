-- The log goes on: each text of it is whole lines, and the lines of further entries follow those that stand.
use Rattle.std.proofs.Common.{◌≡◌, ◌⊎◌, inl, inr, ⊎_elim, ℕ, Bool, true, false, cond, not, ◌&&◌, List, [], ◌∷◌, ◌++◌, length, drop, refl, sym, ap, subst, ◌∙◌, append_assoc}
use Rattle.std.proofs.lemmas.List.{append-nil}
use Rattle.std.specs.Prelude.{codes, nat_lt}
use Rattle.std.specs.List.{flat_map}
use Rattle.bf_history.specs.Meanings.{History}
use Rattle.bf_log.specs.Written.{known_after_all}
use Rattle.bf_log.proofs.JoinedLogs.{lines_joined, log_joined}
use Rattle.bf_output.specs.Beginning.{Begun, commits_of, log_on}
use Rattle.bf_reading.specs.Reading.{lines_of}
use Rattle.bf_search.specs.declared.entries.Entry.{Entry}
use Rattle.bf_search.specs.declared.entries.Entry.TheVariants.{Start, Marked, SkippedBase, FirstBadFound, OnlySkippedLeft}
use Rattle.bf_search.specs.Run.{Run}
use Rattle.bf_state.specs.Runs.{GoesOn}
use Rattle.bf_terms.specs.Texts.{Commits, Sides, Known, comment_of, entry_lines, first_words, has_status, known_after, label_of, log_from, mark_lines, possible_words, skipped_left_lines, start_lines, status_line, text_line, waiting_text, word_of_mark, hex_of}
use Rattle.bf_serve.specs.declared.opening.Opening.{Opening}
use Rattle.bf_serve.specs.Serving.{opening_of}
use Rattle.bf_serve.specs.Turns.{further, further_log, told_on}

-- ---- texts of whole lines

abbrev IsWhole : List ℕ → Type 0
IsWhole text = (text ≡ []) ⊎ ((x : List ℕ) × (text ≡ x ++ 10 ∷ []))

whole_line : (x : List ℕ) → IsWhole (text_line x)
whole_line x = inr (x, refl)

whole_end : (x y : List ℕ) → IsWhole (x ++ text_line y)
whole_end x y = inr (x ++ y, sym (append_assoc x y (10 ∷ [])))

whole_append : (a b : List ℕ) → IsWhole a → IsWhole b → IsWhole (a ++ b)
whole_append a b one other =
    ⊎_elim
    (λ (none : b ≡ []). subst IsWhole (sym (ap (λ (t : List ℕ). a ++ t) none ∙ append-nil a)) one)
    (λ (y : (x : List ℕ) × (b ≡ x ++ 10 ∷ [])). inr (a ++ y.0, ap (λ (t : List ℕ). a ++ t) y.1 ∙ sym (append_assoc a y.0 (10 ∷ []))))
    other

whole_flat : {X : Type 0} (f : X → List ℕ) (xs : List X) → ((x : X) → IsWhole (f x)) → IsWhole (flat_map f xs)
whole_flat f [] h = inl refl
whole_flat f (x ∷ xs) h = whole_append (f x) (flat_map f xs) (h x) (whole_flat f xs h)

whole_if : (b : Bool) (x : List ℕ) → IsWhole (cond b (text_line x) [])
whole_if true x = whole_line x
whole_if false x = inl refl

comment_whole : (commits : Commits) (words : List ℕ) (p : ℕ) → IsWhole (comment_of commits words p)
comment_whole commits words p = whole_line (codes "# " ++ words ++ codes ": " ++ label_of commits p)

entry_whole : (commits : Commits) (sides : Sides) (entry : Entry) → IsWhole (entry_lines commits sides entry)
unfolding entry_lines start_lines mark_lines skipped_left_lines
entry_whole commits sides (Start first_parent terms_given bad goods) = inr (_, refl)
entry_whole commits sides (Marked m p) =
    whole_end (comment_of commits (word_of_mark sides m) p ++ (codes "git bisect " ++ word_of_mark sides m ++ codes " ")) (hex_of commits p)
entry_whole commits sides (SkippedBase p) = comment_whole commits (codes "skipped merge base") p
entry_whole commits sides (FirstBadFound p) = comment_whole commits (first_words sides) p
entry_whole commits sides (OnlySkippedLeft ps) =
    whole_append (codes "# only skipped commits left to test\n") (flat_map (comment_of commits (possible_words sides)) ps)
    (inr (codes "# only skipped commits left to test", refl))
    (whole_flat (comment_of commits (possible_words sides)) ps (λ p. comment_whole commits (possible_words sides) p))

status_whole : (sides : Sides) (known : Known) (entry : Entry) → IsWhole (status_line sides known entry)
status_whole sides known entry =
    whole_if (has_status entry && not (known.bad && nat_lt 0 (length known.goods))) (codes "# status: " ++ waiting_text sides known.bad (length known.goods))

log_whole : (commits : Commits) (sides : Sides) (known : Known) (entries : List Entry) → IsWhole (log_from commits sides known entries)
unfolding log_from
log_whole commits sides known [] = inl refl
log_whole commits sides known (entry ∷ entries) =
    whole_append (entry_lines commits sides entry ++ status_line sides (known_after known entry) entry)
    (log_from commits sides (known_after known entry) entries)
    (whole_append (entry_lines commits sides entry) (status_line sides (known_after known entry) entry) (entry_whole commits sides entry)
    (status_whole sides (known_after known entry) entry))
    (log_whole commits sides (known_after known entry) entries)

lines_behind : (a b : List ℕ) → IsWhole a → lines_of (a ++ b) ≡ lines_of a ++ lines_of b
unfolding lines_of
lines_behind a b whole =
    ⊎_elim
    (λ (none : a ≡ []). ap (λ (t : List ℕ). lines_of (t ++ b)) none ∙ sym (ap (λ (t : List ℕ). lines_of t ++ lines_of b) none))
    (λ (x : (y : List ℕ) × (a ≡ y ++ 10 ∷ [])).
    ap (λ (t : List ℕ). lines_of (t ++ b)) x.1 ∙ ap lines_of (append_assoc x.0 (10 ∷ []) b) ∙ lines_joined x.0 b
    ∙ sym (ap (λ (t : List ℕ). lines_of t ++ lines_of b) x.1))
    whole

-- ---- the log goes on

drop_none : {X : Type 0} (xs : List X) → drop 0 xs ≡ xs
drop_none [] = refl
drop_none (x ∷ xs) = refl

drop_front : {X : Type 0} (xs ys : List X) → drop (length xs) (xs ++ ys) ≡ ys
drop_front [] ys = drop_none ys
drop_front (x ∷ xs) ys = drop_front xs ys

known_joined : (known : Known) (xs ys : List Entry) → known_after_all known (xs ++ ys) ≡ known_after_all (known_after_all known xs) ys
known_joined known [] ys = refl
known_joined known (x ∷ xs) ys = known_joined (known_after known x) xs ys

-- the entries of the longer run are those of the other and the further ones
pub with_further : (old new : Run) → GoesOn old.entries new.entries → new.entries ≡ old.entries ++ further old new
with_further old new goes =
    goes.goes_on
    ∙ ap (λ (es : List Entry). old.entries ++ es) (sym (ap (drop (length old.entries)) goes.goes_on ∙ drop_front old.entries goes.rest))

-- what an opening knows behind the further entries is what it would know at once
pub opening_goes_on : (is_lenient : Bool) (first : Begun) (old new : Run) → GoesOn old.entries new.entries
    → told_on (opening_of is_lenient first old) old new ≡ opening_of is_lenient first new
opening_goes_on is_lenient first old new goes =
    let more : List Entry = further old new in
    let knows : known_after_all (known_after_all first.known (first.entries ++ old.entries)) more ≡ known_after_all first.known (first.entries ++ new.entries)
    = sym (known_joined first.known (first.entries ++ old.entries) more)
    ∙ ap (known_after_all first.known) (append_assoc first.entries old.entries more)
    ∙ ap (λ (es : List Entry). known_after_all first.known (first.entries ++ es)) (sym (with_further old new goes)) in
    ap (λ (k : Known). record { terms = first.sides; known = k; lenient = is_lenient }) knows

-- the lines of the log with those of the further entries
pub log_goes_on : (history : History) (is_lenient : Bool) (first : Begun) (o : Opening) (old new : Run) → o ≡ opening_of is_lenient first old
    → GoesOn old.entries new.entries
    → lines_of (log_on history first old.entries) ++ lines_of (further_log (commits_of history) o old new) ≡ lines_of (log_on history first new.entries)
log_goes_on history is_lenient first o old new opened goes =
    let commits : Commits = commits_of history in
    let more : List Entry = further old new in
    ap (λ (x : Opening). lines_of (log_on history first old.entries) ++ lines_of (further_log commits x old new)) opened
    ∙ sym (lines_behind (log_on history first old.entries) (log_from commits first.sides (known_after_all first.known (first.entries ++ old.entries)) more)
    (log_whole commits first.sides first.known (first.entries ++ old.entries)))
    ∙ ap lines_of (sym (log_joined commits first.sides first.known (first.entries ++ old.entries) more))
    ∙ ap (λ (es : List Entry). lines_of (log_from commits first.sides first.known es)) (append_assoc first.entries old.entries more)
    ∙ ap (λ (es : List Entry). lines_of (log_on history first es)) (sym (with_further old new goes))

-- a run with the same entries has no further lines
drop_all : {X : Type 0} (xs : List X) → drop (length xs) xs ≡ []
drop_all [] = refl
drop_all (x ∷ xs) = drop_all xs

pub none_further : (commits : Commits) (o : Opening) (old new : Run) → new.entries ≡ old.entries → lines_of (further_log commits o old new) ≡ []
unfolding lines_of log_from
none_further commits o old new same =
    ap (λ (es : List Entry). lines_of (log_from commits o.terms o.known es)) (ap (drop (length old.entries)) same ∙ drop_all old.entries)
