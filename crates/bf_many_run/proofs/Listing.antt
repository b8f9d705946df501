-- The searches of a list, line by line.
use Rattle.std.proofs.Common.{◌≡◌, ℕ, ◌+◌, ◌≤◌, Bool, true, false, cond, ◌==◌, ◌||◌, List, [], ◌∷◌, ◌++◌, length, map, nat_lt, Option, Some, None, Result, Ok, Err, refl, sym, ap, subst, ◌∙◌, inl, inr, arith, append_assoc, append-nil}
use Rattle.std.specs.List.{All}
use Rattle.std.specs.Result.{is_err}
use Rattle.std.proofs.lemmas.List.{length-append, map-append}
use Rattle.std.proofs.lemmas.List.Elements.{All-push}
use Rattle.std.proofs.lemmas.Bool.{cases_Bool, eqb-true, ltb-false}
use Rattle.bf_commands.specs.Many.{asks_for_more, is_wrong_line, refused_from, searches_of, words_of_line}
use Rattle.bf_reading.specs.Reading.{lines_of}
use Rattle.bf_words.specs.declared.request.Request.{Request}
use Rattle.bf_words.specs.Words.{read_from, request, word_at}
use Rattle.bf_words.specs.Options.{verb_of}
use Rattle.bf_many_run.specs.declared.list.ListFault.{ListFault}
use Rattle.bf_many_run.specs.declared.list.ListFault.TheVariants.{Line, NoMemory}
use Rattle.bf_many_run.specs.declared.list.ListLine.{ListLine}
use Rattle.bf_many_run.specs.Lists.{IsAskedBy, IsLineFault, IsListFault, IsListOf, IsReadLine, words_in}

-- ---- one line

not_the_last : (n : ℕ) → n ≤ 64 → (n == 65) ≡ false
not_the_last n few =
    elim (cases_Bool (n == 65)) [ inl same ↦ let e : n ≡ 65 = eqb-true n 65 same in absurd (omega (arith, e, few)) | inr other ↦ other ]

or_false : (a b : Bool) → a ≡ false → b ≡ false → (a || b) ≡ false
or_false false false h k = refl
or_false true b h k = cc h
or_false false true h k = cc k

or_last : (a b : Bool) → b ≡ true → (a || b) ≡ true
or_last true b h = refl
or_last false b h = h

-- a line that is read, and asks for no more
pub right_line : (n : ℕ) (words : List (List ℕ)) (r : Request) → n ≤ 64 → request words ≡ Ok r → asks_for_more words ≡ false
    → is_wrong_line n words ≡ false
right_line n words r few asked plain = or_false (n == 65) (is_err (request words) || asks_for_more words) (not_the_last n few) (rw asked plain)

-- one that asks for more
pub wrong_options : (n : ℕ) (words : List (List ℕ)) (r : Request) → request words ≡ Ok r → asks_for_more words ≡ true → is_wrong_line n words ≡ true
wrong_options n words r asked more = or_last (n == 65) (is_err (request words) || asks_for_more words) (rw asked more)

-- one whose words are at fault
pub wrong_words : (n : ℕ) (words : List (List ℕ)) (word : ℕ) → request words ≡ Err word → is_wrong_line n words ≡ true
wrong_words n words word fault = or_last (n == 65) (is_err (request words) || asks_for_more words) (rw fault refl)

-- the 65th
pub one_too_many : (n : ℕ) (words : List (List ℕ)) → n ≡ 65 → is_wrong_line n words ≡ true
one_too_many n words last = rw last refl

-- ---- line after line

after_right : (b : Bool) (n : ℕ) (o : Option ℕ) → b ≡ false → cond b (Some n) o ≡ o
after_right false n o h = refl
after_right true n o h = cc h

at_wrong : (b : Bool) (n : ℕ) (o : Option ℕ) → b ≡ true → cond b (Some n) o ≡ Some n
at_wrong true n o h = refl
at_wrong false n o h = cc h

pub line_taken : (n : ℕ) (words : List (List ℕ)) (lines : List (List (List ℕ))) → is_wrong_line n words ≡ false
    → refused_from n (words ∷ lines) ≡ refused_from (n + 1) lines
unfolding refused_from
line_taken n words lines right = after_right (is_wrong_line n words) n (refused_from (n + 1) lines) right

pub line_refused : (n : ℕ) (words : List (List ℕ)) (lines : List (List (List ℕ))) → is_wrong_line n words ≡ true
    → refused_from n (words ∷ lines) ≡ Some n
unfolding refused_from
line_refused n words lines wrong = at_wrong (is_wrong_line n words) n (refused_from (n + 1) lines) wrong

pub none_left : (n : ℕ) → refused_from n [] ≡ None
unfolding refused_from
none_left n = refl

-- ---- how long a line is

sized : (b : Bool) (words : List (List ℕ)) (rest : Result Request ℕ) (r : Request) → (b ≡ false → length words ≤ 1000000)
    → cond b (Err 1000000) rest ≡ Ok r → length words ≤ 1000000
sized true words rest r within e = cc e
sized false words rest r within e = within refl

-- a line that is read has at most so many words
pub read_is_short : (words : List (List ℕ)) (r : Request) → request words ≡ Ok r → length words ≤ 1000000
unfolding request
read_is_short words r e =
    sized (nat_lt 1000000 (length words)) words (read_from (verb_of (word_at words 0)) words) r (ltb-false 1000000 (length words)) e

-- ---- the list

-- the searches from a line on
searches_from : (rest line after : List ℕ) → lines_of rest ≡ line ∷ lines_of after → searches_of rest ≡ words_of_line line ∷ searches_of after
searches_from rest line after e = ap (λ (ls : List (List ℕ)). map words_of_line ls) e

searches_none : searches_of [] ≡ []
unfolding lines_of
searches_none = refl

-- a line that is refused is the first one of the list
pub fault_refused : (text rest line after : List ℕ) (count n : ℕ) (fault : ListFault)
    → refused_from 1 (searches_of text) ≡ refused_from (count + 1) (searches_of rest) → lines_of rest ≡ line ∷ lines_of after → n ≡ count + 1
    → IsLineFault n (words_of_line line) fault → IsListFault text fault
fault_refused text rest line after count n (Line l) so_far e number (is, wrong) =
    so_far
    ∙ ap (refused_from (count + 1)) (searches_from rest line after e)
    ∙ ap (λ (m : ℕ). refused_from m (words_of_line line ∷ searches_of after)) (sym number)
    ∙ line_refused n (words_of_line line) (searches_of after) wrong
    ∙ ap (λ (m : ℕ). Some m) (sym is)
fault_refused text rest line after count n NoMemory so_far e number is = tt

-- one line more of the list
module _ (text rest line after : List ℕ) (lines now : List ListLine) (l : ListLine) (n : ℕ) (e : lines_of rest ≡ line ∷ lines_of after)
    (number : n ≡ length lines + 1) (pushed : now ≡ lines ++ l ∷ []) (is : IsReadLine n line l) where
  longer : length now ≡ length lines + 1
  longer = ap (λ (xs : List ListLine). length xs) pushed ∙ length-append lines (l ∷ [])

  pub words_more : searches_of text ≡ map words_in lines ++ searches_of rest → searches_of text ≡ map words_in now ++ searches_of after
  words_more so_far =
      so_far
      ∙ ap (λ (ws : List (List (List ℕ))). map words_in lines ++ ws) (searches_from rest line after e)
      ∙ ap (λ (w : List (List ℕ)). map words_in lines ++ w ∷ searches_of after) (sym is.words)
      ∙ sym (append_assoc (map words_in lines) (words_in l ∷ []) (searches_of after))
      ∙ ap (λ (ws : List (List (List ℕ))). ws ++ searches_of after) (sym (ap (map words_in) pushed ∙ map-append words_in lines (l ∷ [])))

  pub asked_more : All IsAskedBy lines → All IsAskedBy now
  asked_more so_far = subst (λ (xs : List ListLine). All IsAskedBy xs) (sym pushed) (All-push IsAskedBy lines l so_far is.asked.asked)

  pub few_more : length now ≤ 64
  few_more = let a = is.asked.few in omega (arith, a, longer, number)

  pub right_more : refused_from 1 (searches_of text) ≡ refused_from (length lines + 1) (searches_of rest)
      → refused_from 1 (searches_of text) ≡ refused_from (length now + 1) (searches_of after)
  right_more so_far =
      so_far
      ∙ ap (refused_from (length lines + 1)) (searches_from rest line after e)
      ∙ ap (λ (m : ℕ). refused_from m (words_of_line line ∷ searches_of after)) (sym number)
      ∙ line_taken n (words_of_line line) (searches_of after)
      (subst (λ (w : List (List ℕ)). is_wrong_line n w ≡ false) is.words is.asked.right)
      ∙ ap (λ (m : ℕ). refused_from (m + 1) (searches_of after)) (number ∙ sym longer)

-- the whole list
pub all_listed : (text rest : List ℕ) (lines : List ListLine) → rest ≡ [] → searches_of text ≡ map words_in lines ++ searches_of rest
    → All IsAskedBy lines → length lines ≤ 64 → refused_from 1 (searches_of text) ≡ refused_from (length lines + 1) (searches_of rest)
    → IsListOf text lines
all_listed text rest lines none words asked few right = record {
  words = words ∙ ap (λ (t : List ℕ). map words_in lines ++ searches_of t) none
      ∙ ap (λ (ws : List (List (List ℕ))). map words_in lines ++ ws) searches_none ∙ append-nil (map words_in lines);
  asked = asked;
  few = few;
  right = right ∙ ap (λ (t : List ℕ). refused_from (length lines + 1) (searches_of t)) none
      ∙ ap (refused_from (length lines + 1)) searches_none ∙ none_left (length lines + 1);
}
