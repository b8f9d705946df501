-- A part of a log that ends with a command line is the log of a part of its entries.
use Rattle.std.proofs.Common.{◌≡◌, ℕ, suc, ◌==◌, ◌&&◌, not, nat_lt, cond, Bool, true, false, List, [], ◌∷◌, ◌++◌, length, map, codes, None, refl, sym, ap, ◌∙◌}
use Rattle.std.proofs.Common.{subst, arith, eqb-true, append_assoc, append-nil, ⊎_elim}
use Rattle.std.proofs.lemmas.Bool.{and_from, cond-false, cond-true, cases_Bool, lt-ltb}
use Rattle.std.specs.List.{flat_map, slice_index_or}
use Rattle.bf_search.specs.declared.entries.Entry.{Entry}
use Rattle.bf_search.specs.declared.entries.Entry.TheVariants.{Start, Marked, SkippedBase, FirstBadFound, OnlySkippedLeft}
use Rattle.bf_search.specs.declared.outcomes.Mark.{Mark}
use Rattle.bf_search.specs.declared.outcomes.Mark.TheVariants.{Good, Bad, Skip}
use Rattle.bf_search.specs.Bases.{has_place}
use Rattle.bf_terms.specs.Texts.{Commits, Sides, Known, hex_of, label_of, text_line, comment_of, word_of_mark, first_words, possible_words, skipped_left_lines}
use Rattle.bf_terms.specs.Texts.{mark_lines, entry_lines, known_after, with_good, has_status, status_line, waiting_text, log_from}
use Rattle.bf_reading.specs.Reading.{begin_with, lines_of, past_blanks, behind, command_text, read_line, read_log}
use Rattle.bf_log.specs.Written.{has_no_end, AreReadable, known_after_all}
use Rattle.bf_log.specs.Resolved.{AreRunEntries}
use Rattle.bf_log.specs.Cut.{is_command_line, ends_with_command, AreKnown, CutText, GoesOnText}
use Rattle.bf_log.proofs.Terms.{accepted_from}
use Rattle.bf_log.proofs.Plain.{no_end_append, no_end_from_plain, line_front}
use Rattle.bf_log.proofs.Back.{hex_no_end, label_no_end, mark_joined, mark_word, first_no_end, possible_no_end}
use Rattle.bf_log.proofs.JoinedLogs.{lines_joined, log_joined}
use Rattle.bf_log.proofs.Whole.{are_front, run_are, goes_on}
use Rattle.bf_graph.specs.Graph.{IsGraph}
use Rattle.bf_search.specs.Outcomes.{Outcomes}
use Rattle.bf_search.specs.State.{Search, IsSearchOver}
use Rattle.bf_search.specs.Run.{run}
use Rattle.bf_terms.specs.Texts.{nothing_known, log}
use Rattle.bf_log.specs.LogState.{retold}
use Rattle.bf_log.specs.Replay.{Setting}
use Rattle.bf_log.specs.Back.{Begin, start_of, told_of, IsReplayable, GoesOnFrom}

-- ---- lists of lines

abbrev ArePassed : List (List ℕ) → Type 0
ArePassed [] = Unit {0}
ArePassed (l ∷ ls) = (is_command_line (read_line l) ≡ false) × ArePassed ls

record Past (chunk rest front back : List (List ℕ)) : Type 0 where
  more : List (List ℕ)
  is : front ≡ chunk ++ more
  same : rest ≡ more ++ back
  ends : ends_with_command more ≡ true

-- a front that ends with a command line ends behind lines that are passed over
past : (chunk rest front back : List (List ℕ)) → ArePassed chunk → ends_with_command front ≡ true
    → chunk ++ rest ≡ front ++ back → Past chunk rest front back
past [] rest front back p e h = record { more = front; is = refl; same = h; ends = e }
past (c ∷ cs) rest [] back p e h = cc
past (c ∷ cs) rest (l ∷ []) back p e h =
    let head : c ≡ l = cc in
    let no : is_command_line (read_line l) ≡ false = ap (λ (x : List ℕ). is_command_line (read_line x)) (sym head)
    ∙ p.0 in
    cc
past (c ∷ cs) rest (l ∷ m ∷ ls) back p e h =
    let head : c ≡ l = cc in
    let tail : cs ++ rest ≡ (m ∷ ls) ++ back = cc in
    let q = past cs rest (m ∷ ls) back p.1 e tail in
    record {
      more = q.more;
      is = ap (λ (x : List ℕ). x ∷ (m ∷ ls)) (sym head)
          ∙ ap (λ (xs : List (List ℕ)). c ∷ xs) q.is;
      same = q.same;
      ends = q.ends;
    }

-- ---- the lines of entries

abbrev pub comment_line : Commits → List ℕ → ℕ → List ℕ
comment_line commits words p = codes "# " ++ words ++ codes ": " ++ label_of commits p

comment_lines : (commits : Commits) (words : List ℕ) (p : ℕ) (rest : List ℕ) → has_no_end words ≡ true
    → has_no_end (slice_index_or commits.subjects p []) ≡ true
    → lines_of (comment_of commits words p ++ rest) ≡ comment_line commits words p ∷ lines_of rest
comment_lines commits words p rest h k =
    ap lines_of (append_assoc (comment_line commits words p) (codes "\n") rest)
    ∙ line_front (comment_line commits words p) rest
    (no_end_append (codes "# " ++ words ++ codes ": ") (label_of commits p)
    (no_end_append (codes "# " ++ words) (codes ": ") h refl) (label_no_end commits p k))

comments_lines : (commits : Commits) (words : List ℕ) (ps : List ℕ) (rest : List ℕ) → has_no_end words ≡ true
    → ((p : ℕ) → has_no_end (slice_index_or commits.subjects p []) ≡ true)
    → lines_of (flat_map (comment_of commits words) ps ++ rest) ≡ map (λ p. comment_line commits words p)
    ps ++ lines_of rest
comments_lines commits words [] rest h k = refl
comments_lines commits words (p ∷ ps) rest h k =
    ap lines_of (append_assoc (comment_of commits words p) (flat_map (comment_of commits words) ps) rest)
    ∙ comment_lines commits words p (flat_map (comment_of commits words) ps ++ rest) h (k p)
    ∙ ap (λ (ls : List (List ℕ)). comment_line commits words p ∷ ls) (comments_lines commits words ps rest h k)

comments_passed : (commits : Commits) (words : List ℕ) (ps : List ℕ)
    → ArePassed (map (λ p. comment_line commits words p) ps)
unfolding command_text past_blanks behind
comments_passed commits words [] = tt
comments_passed commits words (p ∷ ps) = (refl, comments_passed commits words ps)

-- the lines of an entry of a run
abbrev pub line_list : Commits → Sides → Entry → List (List ℕ)
line_list commits sides (Marked m p) = comment_line commits (word_of_mark sides m)
    p ∷ (codes "git bisect " ++ (word_of_mark sides m ++ 32 ∷ hex_of commits p)) ∷ []
line_list commits sides (SkippedBase p) = comment_line commits (codes "skipped merge base") p ∷ []
line_list commits sides (FirstBadFound p) = comment_line commits (first_words sides) p ∷ []
line_list commits sides (OnlySkippedLeft ps) = codes "# only skipped commits left to test" ∷ map
    (λ p. comment_line commits (possible_words sides) p) ps
line_list commits sides (Start first_parent terms_given bad goods) = []

abbrev IsNoStart : Entry → Type 0
IsNoStart (Start first_parent terms_given bad goods) = ⊥
IsNoStart other = Unit {0}

entry_line_list : (commits : Commits) (sides : Sides) (entry : Entry) (rest : List ℕ) → AreReadable commits sides
    → IsNoStart entry → lines_of (entry_lines commits sides entry ++ rest) ≡ line_list commits sides entry ++ lines_of
    rest
unfolding entry_lines mark_lines skipped_left_lines
entry_line_list commits sides (Start first_parent terms_given bad goods) rest r n = absurd n
entry_line_list commits sides (SkippedBase p) rest r n = comment_lines commits (codes "skipped merge base") p rest
    refl (r.subjects p)
entry_line_list commits sides (FirstBadFound p) rest r n = comment_lines commits (first_words sides) p rest
    (first_no_end sides (no_end_from_plain sides.new (accepted_from sides r.accepted).new.is_plain_word.plain))
    (r.subjects p)
entry_line_list commits sides (OnlySkippedLeft ps) rest r n =
    ap lines_of (append_assoc (codes "# only skipped commits left to test\n")
    (flat_map (comment_of commits (possible_words sides)) ps) rest)
    ∙ line_front (codes "# only skipped commits left to test")
    (flat_map (comment_of commits (possible_words sides)) ps ++ rest) refl
    ∙ ap (λ (ls : List (List ℕ)). codes "# only skipped commits left to test" ∷ ls)
    (comments_lines commits (possible_words sides) ps rest
    (possible_no_end sides (no_end_from_plain sides.new (accepted_from sides r.accepted).new.is_plain_word.plain))
    r.subjects)
entry_line_list commits sides (Marked m p) rest r n =
    ap lines_of (ap (λ (x : List ℕ). x ++ rest) (append_assoc (comment_of commits v p)
    (codes "git bisect " ++ v ++ codes " ") (text_line (hex_of commits p)))
    ∙ append_assoc (comment_of commits v p) ((codes "git bisect " ++ v ++ codes " ") ++ text_line (hex_of commits p))
    rest)
    ∙ comment_lines commits v p (((codes "git bisect " ++ v ++ codes " ") ++ text_line (hex_of commits p)) ++ rest)
    no_end (r.subjects p)
    ∙ ap (λ (x : List ℕ). comment_line commits v p ∷ lines_of x) (mark_joined v (hex_of commits p) rest)
    ∙ ap (λ (ls : List (List ℕ)). comment_line commits v p ∷ ls)
    (line_front (codes "git bisect " ++ (v ++ 32 ∷ hex_of commits p)) rest
    (no_end_append (codes "git bisect ") (v ++ 32 ∷ hex_of commits p) refl
    (no_end_append v (32 ∷ hex_of commits p) no_end (hex_no_end commits p))))
  where
    v : List ℕ
    v = word_of_mark sides m

    no_end : has_no_end v ≡ true
    no_end = no_end_from_plain v (mark_word commits sides m r).is_plain_word.plain

-- ---- where both ends are known there is no status line

with_good_some : (goods : List ℕ) (p : ℕ) → nat_lt 0 (length goods) ≡ true
    → nat_lt 0 (length (with_good goods p)) ≡ true
with_good_some goods p h =
    ⊎_elim
    (λ yes. ap (λ (x : List ℕ). nat_lt 0 (length x)) (cond-true (has_place goods p) goods (goods ++ p ∷ []) yes) ∙ h)
    (λ no. ap (λ (x : List ℕ). nat_lt 0 (length x)) (cond-false (has_place goods p) goods (goods ++ p ∷ []) no)
    ∙ some goods)
    (cases_Bool (has_place goods p))
  where
    some : (xs : List ℕ) → nat_lt 0 (length (xs ++ p ∷ [])) ≡ true
    some [] = refl
    some (x ∷ xs) = lt-ltb 0 (suc (length (xs ++ p ∷ []))) (omega arith)

known_stays : (known : Known) (entry : Entry) → IsNoStart entry → AreKnown known → AreKnown (known_after known entry)
known_stays known (Start first_parent terms_given bad goods) n k = absurd n
known_stays known (Marked Good p) n k = record { bad = k.bad; goods = with_good_some known.goods p k.goods }
known_stays known (Marked Bad p) n k = record { bad = refl; goods = k.goods }
known_stays known (Marked Skip p) n k = k
known_stays known (SkippedBase p) n k = k
known_stays known (FirstBadFound p) n k = k
known_stays known (OnlySkippedLeft ps) n k = k

no_status : (sides : Sides) (known : Known) (entry : Entry) → AreKnown known → status_line sides known entry ≡ []
no_status sides known entry k = without (has_status entry) (known.bad && nat_lt 0 (length known.goods))
    (and_from known.bad (nat_lt 0 (length known.goods)) k.bad k.goods)
  where
    without : (a b : Bool) → b ≡ true → cond (a && not b)
        (text_line (codes "# status: " ++ waiting_text sides known.bad (length known.goods))) [] ≡ []
    without true true h = refl
    without false true h = refl
    without a false h = cc

-- ---- the text of a whole list of lines

abbrev text_of : List (List ℕ) → List ℕ
text_of lines = flat_map text_line lines

text_begun : (b : ℕ) (l : List ℕ) (ls : List (List ℕ)) → text_of (begin_with b (l ∷ ls)) ≡ b ∷ text_of (l ∷ ls)
text_begun b l ls = refl

-- a text of whole lines is that of its lines
whole_text : (x : List ℕ) → text_of (lines_of (x ++ 10 ∷ [])) ≡ x ++ 10 ∷ []
unfolding lines_of
whole_text [] = refl
whole_text (b ∷ bs) =
    ⊎_elim
    (λ yes. ap text_of (cond-true (b == 10) _ _ yes)
    ∙ ap (λ (c : ℕ). c ∷ text_of (lines_of (bs ++ 10 ∷ []))) (sym (eqb-true b 10 yes))
    ∙ ap (λ (t : List ℕ). b ∷ t) (whole_text bs))
    (λ no. ap text_of (cond-false (b == 10) _ _ no) ∙ begun (lines_of (bs ++ 10 ∷ [])) (whole_text bs))
    (cases_Bool (b == 10))
  where
    begun : (ls : List (List ℕ)) → text_of ls ≡ bs ++ 10 ∷ [] → text_of (begin_with b ls) ≡ b ∷ (bs ++ 10 ∷ [])
    begun [] h = absurd (no_text bs h)
      where
        no_text : (xs : List ℕ) → [] ≡ xs ++ 10 ∷ [] → ⊥
        no_text [] e = cc
        no_text (x ∷ xs) e = cc
    begun (l ∷ ls) h = ap (λ (t : List ℕ). b ∷ t) h

-- ---- the cut

pub log_lines : Commits → Sides → List Entry → List (List ℕ)
log_lines commits sides [] = []
log_lines commits sides (entry ∷ entries) = line_list commits sides entry ++ log_lines commits sides entries

head_no_start : (n : ℕ) (entry : Entry) (entries : List Entry) → AreRunEntries n (entry ∷ entries) → IsNoStart entry
head_no_start n (Start first_parent terms_given bad goods) entries h = absurd h
head_no_start n (Marked m p) entries h = tt
head_no_start n (SkippedBase p) entries h = tt
head_no_start n (FirstBadFound p) entries h = tt
head_no_start n (OnlySkippedLeft ps) entries h = tt

tail_are : (n : ℕ) (entry : Entry) (entries : List Entry) → AreRunEntries n (entry ∷ entries)
    → AreRunEntries n entries
tail_are n (Start first_parent terms_given bad goods) entries h = absurd h
tail_are n (Marked m p) entries h = h.1
tail_are n (SkippedBase p) entries h = h
tail_are n (FirstBadFound p) entries h = h
tail_are n (OnlySkippedLeft ps) entries h = h

log_lines_are : (n : ℕ) (commits : Commits) (sides : Sides) (known : Known) (entries : List Entry)
    → AreReadable commits sides → AreKnown known → AreRunEntries n entries
    → lines_of (log_from commits sides known entries) ≡ log_lines commits sides entries
unfolding log_from log_lines lines_of
log_lines_are n commits sides known [] r k h = refl
log_lines_are n commits sides known (entry ∷ entries) r k h =
    let no = head_no_start n entry entries h in
    let now = known_stays known entry no k in
    ap lines_of (append_assoc (entry_lines commits sides entry) (status_line sides (known_after known entry) entry)
    (log_from commits sides (known_after known entry) entries))
    ∙ ap (λ (t : List ℕ). lines_of (entry_lines commits sides
    entry ++ (t ++ log_from commits sides (known_after known entry) entries)))
    (no_status sides (known_after known entry) entry now)
    ∙ entry_line_list commits sides entry (log_from commits sides (known_after known entry) entries) r no
    ∙ ap (λ (ls : List (List ℕ)). line_list commits sides entry ++ ls)
    (log_lines_are n commits sides (known_after known entry) entries r now (tail_are n entry entries h))

-- entries up to a mark whose lines these are
pub record CutAt (commits : Commits) (sides : Sides) (entries : List Entry) (front : List (List ℕ)) : Type 0 where
  pub part : List Entry
  pub mark : Mark
  pub place : ℕ
  pub rest : List Entry
  pub split : entries ≡ part ++ Marked mark place ∷ rest
  pub lines : front ≡ log_lines commits sides (part ++ Marked mark place ∷ [])

cut_behind : (commits : Commits) (sides : Sides) (entry : Entry) (entries : List Entry) (front more : List (List ℕ))
    → front ≡ line_list commits sides entry ++ more → CutAt commits sides entries more
    → CutAt commits sides (entry ∷ entries) front
unfolding log_lines
cut_behind commits sides entry entries front more is c = record {
  part = entry ∷ c.part;
  mark = c.mark;
  place = c.place;
  rest = c.rest;
  split = ap (λ (es : List Entry). entry ∷ es) c.split;
  lines = is ∙ ap (λ (ls : List (List ℕ)). line_list commits sides entry ++ ls) c.lines;
}

-- behind the comment of a mark
at_command : (commits : Commits) (sides : Sides) (m : Mark) (p : ℕ) (entries : List Entry)
    (front back more : List (List ℕ))
    → ((others : List (List ℕ)) → ends_with_command others ≡ true → log_lines commits sides entries ≡ others ++ back
    → CutAt commits sides entries others)
    → front ≡ comment_line commits (word_of_mark sides m) p ∷ more
    → (codes "git bisect " ++ (word_of_mark sides m ++ 32 ∷ hex_of commits p)) ∷ log_lines commits sides
    entries ≡ more ++ back
    → ends_with_command more ≡ true → CutAt commits sides (Marked m p ∷ entries) front
unfolding log_lines
at_command commits sides m p entries front back [] ih f s t = cc
at_command commits sides m p entries front back (l ∷ []) ih f s t =
    let head : codes "git bisect " ++ (word_of_mark sides m ++ 32 ∷ hex_of commits p) ≡ l = cc in
    record {
      part = [];
      mark = m;
      place = p;
      rest = entries;
      split = refl;
      lines = f ∙ ap (λ (x : List ℕ). comment_line commits (word_of_mark sides m) p ∷ x ∷ []) (sym head);
    }
at_command commits sides m p entries front back (l ∷ k ∷ ls) ih f s t =
    let head : codes "git bisect " ++ (word_of_mark sides m ++ 32 ∷ hex_of commits p) ≡ l = cc in
    let tail : log_lines commits sides entries ≡ (k ∷ ls) ++ back = cc in
    cut_behind commits sides (Marked m p) entries front (k ∷ ls)
    (f ∙ ap (λ (x : List ℕ). comment_line commits (word_of_mark sides m) p ∷ x ∷ k ∷ ls) (sym head))
    (ih (k ∷ ls) t tail)

cut_lines : (n : ℕ) (commits : Commits) (sides : Sides) (entries : List Entry) (front back : List (List ℕ))
    → AreRunEntries n entries → ends_with_command front ≡ true → log_lines commits sides entries ≡ front ++ back
    → CutAt commits sides entries front
unfolding log_lines command_text past_blanks behind
cut_lines n commits sides [] [] back h e is = cc
cut_lines n commits sides [] (l ∷ ls) back h e is = cc
cut_lines n commits sides (Start first_parent terms_given bad goods ∷ entries) front back h e is = absurd h
cut_lines n commits sides (SkippedBase p ∷ entries) front back h e is =
    let q = past (line_list commits sides (SkippedBase p)) (log_lines commits sides entries) front back (refl, tt) e
    is in
    cut_behind commits sides (SkippedBase p) entries front q.more q.is
    (cut_lines n commits sides entries q.more back h q.ends q.same)
cut_lines n commits sides (FirstBadFound p ∷ entries) front back h e is =
    let q = past (line_list commits sides (FirstBadFound p)) (log_lines commits sides entries) front back (refl, tt) e
    is in
    cut_behind commits sides (FirstBadFound p) entries front q.more q.is
    (cut_lines n commits sides entries q.more back h q.ends q.same)
cut_lines n commits sides (OnlySkippedLeft ps ∷ entries) front back h e is =
    let q = past (line_list commits sides (OnlySkippedLeft ps)) (log_lines commits sides entries) front back
    (refl, comments_passed commits (possible_words sides) ps) e is in
    cut_behind commits sides (OnlySkippedLeft ps) entries front q.more q.is
    (cut_lines n commits sides entries q.more back h q.ends q.same)
cut_lines n commits sides (Marked m p ∷ entries) front back h e is =
    let q = past (comment_line commits (word_of_mark sides m) p ∷ [])
    ((codes "git bisect " ++ (word_of_mark sides m ++ 32 ∷ hex_of commits p)) ∷ log_lines commits sides entries)
    front back (refl, tt) e is in
    at_command commits sides m p entries front back q.more
    (λ others t tail. cut_lines n commits sides entries others back h.1 t tail) q.is q.same q.ends

-- ---- the cut of the text

cancel : (xs ys zs : List ℕ) → xs ++ ys ≡ xs ++ zs → ys ≡ zs
cancel [] ys zs h = h
cancel (x ∷ xs) ys zs h =
    let tail : xs ++ ys ≡ xs ++ zs = cc in
    cancel xs ys zs tail

known_all : (n : ℕ) (known : Known) (entries : List Entry) → AreRunEntries n entries → AreKnown known
    → AreKnown (known_after_all known entries)
known_all n known [] h k = k
known_all n known (entry ∷ entries) h k = known_all n (known_after known entry) entries (tail_are n entry entries h)
    (known_stays known entry (head_no_start n entry entries h) k)

-- the log of entries up to a mark ends with LF
mark_last : (commits : Commits) (sides : Sides) (known : Known) (part : List Entry) (m : Mark) (p : ℕ)
    → AreKnown (known_after_all known part)
    → log_from commits sides known (part ++ Marked m p ∷ [])
    ≡ (log_from commits sides known part ++ ((comment_of commits (word_of_mark sides m)
    p ++ (codes "git bisect " ++ word_of_mark sides m ++ codes " ")) ++ hex_of commits p)) ++ 10 ∷ []
unfolding log_from entry_lines mark_lines
mark_last commits sides known part m p k =
    log_joined commits sides known part (Marked m p ∷ [])
    ∙ ap (λ (t : List ℕ). log_from commits sides known
    part ++ (mark_lines commits (word_of_mark sides m) p ++ t ++ []))
    (no_status sides (known_after (known_after_all known part) (Marked m p)) (Marked m p)
    (known_stays (known_after_all known part) (Marked m p) tt k))
    ∙ last (log_from commits sides known part) (comment_of commits (word_of_mark sides m) p)
    (codes "git bisect " ++ word_of_mark sides m ++ codes " ") (hex_of commits p) (codes "\n")
  where
    last : (x c g h e : List ℕ) → x ++ ((c ++ g ++ (h ++ e)) ++ [] ++ []) ≡ (x ++ ((c ++ g) ++ h)) ++ e
    last x c g h e = simp (append_assoc, append-nil)

-- A front of the text that ends with a command line is the log of the entries up to a mark.
pub cut_text : (n : ℕ) (commits : Commits) (sides : Sides) (known : Known) (entries : List Entry)
    (front back : List ℕ) → AreReadable commits sides → AreKnown known → AreRunEntries n entries
    → ends_with_command (lines_of (front ++ 10 ∷ [])) ≡ true
    → log_from commits sides known entries ≡ front ++ 10 ∷ back
    → CutText commits sides known entries (front ++ 10 ∷ []) back
cut_text n commits sides known entries front back r k h e is = record {
  part = c.part;
  mark = c.mark;
  place = c.place;
  rest = c.rest;
  split = c.split;
  is_front = front_is;
  is_back = cancel (front ++ 10 ∷ []) back (log_from commits sides (known_after_all known upto) c.rest)
      (append_assoc front (10 ∷ []) back ∙ sym is ∙ ap (λ (es : List Entry). log_from commits sides known es)
      (c.split ∙ sym (append_assoc c.part (Marked c.mark c.place ∷ []) c.rest))
      ∙ log_joined commits sides known upto c.rest
      ∙ ap (λ (t : List ℕ). t ++ log_from commits sides (known_after_all known upto) c.rest) (sym front_is));
}
  where
    c : CutAt commits sides entries (lines_of (front ++ 10 ∷ []))
    c = cut_lines n commits sides entries (lines_of (front ++ 10 ∷ [])) (lines_of back) h e
        (sym (log_lines_are n commits sides known entries r k h) ∙ ap lines_of is ∙ lines_joined front back)

    upto : List Entry
    upto = c.part ++ Marked c.mark c.place ∷ []

    upto_are : AreRunEntries n upto
    upto_are = are_front n upto c.rest (subst (λ (es : List Entry). AreRunEntries n es)
        (c.split ∙ sym (append_assoc c.part (Marked c.mark c.place ∷ []) c.rest)) h)

    ends_so : AreKnown (known_after_all known c.part)
    ends_so = known_all n known c.part (are_front n c.part (Marked c.mark c.place ∷ []) upto_are) k

    body : List ℕ
    body = log_from commits sides known c.part ++ ((comment_of commits (word_of_mark sides c.mark)
        c.place ++ (codes "git bisect " ++ word_of_mark sides c.mark ++ codes " ")) ++ hex_of commits c.place)

    last : log_from commits sides known upto ≡ body ++ 10 ∷ []
    last = mark_last commits sides known c.part c.mark c.place ends_so

    front_is : front ++ 10 ∷ [] ≡ log_from commits sides known upto
    front_is =
        sym (whole_text front)
        ∙ ap text_of (c.lines ∙ sym (log_lines_are n commits sides known upto r k upto_are) ∙ ap lines_of last)
        ∙ whole_text body
        ∙ sym last

are_back : (n : ℕ) (xs ys : List Entry) → AreRunEntries n (xs ++ ys) → AreRunEntries n ys
are_back n [] ys h = h
are_back n (x ∷ xs) ys h = are_back n xs ys (tail_are n x (xs ++ ys) h)

-- where both ends are known, the text doesn't depend on what else is
pub text_alike : (n : ℕ) (commits : Commits) (sides : Sides) (one other : Known) (entries : List Entry) → AreKnown one
    → AreKnown other → AreRunEntries n entries → log_from commits sides one entries ≡ log_from commits sides other
    entries
unfolding log_from
text_alike n commits sides one other [] j k h = refl
text_alike n commits sides one other (entry ∷ entries) j k h =
    let no = head_no_start n entry entries h in
    let j_now = known_stays one entry no j in
    let k_now = known_stays other entry no k in
    ap (λ (t : List ℕ). entry_lines commits sides entry ++ t ++ log_from commits sides (known_after one entry)
    entries) (no_status sides (known_after one entry) entry j_now
    ∙ sym (no_status sides (known_after other entry) entry k_now))
    ∙ ap (λ (t : List ℕ). entry_lines commits sides entry ++ status_line sides (known_after other entry) entry ++ t)
    (text_alike n commits sides (known_after one entry) (known_after other entry) entries j_now k_now
    (tail_are n entry entries h))

-- Going on from a part of the printed text: the text up to the run, and a front of what the run printed that ends
-- with a command line.
pub text_goes_on : {F : Type 0} (setting : Setting F) (commits : Commits) (sides : Sides) (b : Begin)
    (known : Outcomes) (s : Search) (later before : List Entry) (front back : List ℕ)
    → IsReplayable setting commits sides b → IsGraph setting.graph → IsSearchOver setting.graph s
    → AreRunEntries (length setting.graph) later → AreKnown (known_after_all nothing_known (start_of b ∷ later))
    → retold setting.graph (told_of setting.graph b) later ≡ record { search = s; entries = before }
    → log_from commits sides (known_after_all nothing_known (start_of b ∷ later))
    (run setting.graph known None s).entries ≡ front ++ 10 ∷ back
    → ends_with_command (lines_of (front ++ 10 ∷ [])) ≡ true
    → GoesOnText setting commits sides known (log commits sides (start_of b ∷ later) ++ (front ++ 10 ∷ [])) back
    (run setting.graph known None s)
text_goes_on setting commits sides b known s later before front back given g over are both led is e = record {
  told = on.told;
  leads = record { lines = on.leads.lines; read = ap read_log text_is ∙ on.leads.read; replayed = on.leads.replayed };
  printed = λ now k.
      ap (λ (es : List Entry). log_from commits sides now es) on.same_rest
      ∙ text_alike (length setting.graph) commits sides now (known_after_all from upto) c.rest k
      (known_all (length setting.graph) from upto upto_are both) rest_are
      ∙ sym c.is_back;
  search = on.search;
  end = on.end;
}
  where
    entries : List Entry
    entries = (run setting.graph known None s).entries

    from : Known
    from = known_after_all nothing_known (start_of b ∷ later)

    entries_are : AreRunEntries (length setting.graph) entries
    entries_are = run_are setting.graph known g None s

    c : CutText commits sides from entries (front ++ 10 ∷ []) back
    c = cut_text (length setting.graph) commits sides from entries front back given.readable both entries_are e is

    upto : List Entry
    upto = c.part ++ Marked c.mark c.place ∷ []

    joined : AreRunEntries (length setting.graph) (upto ++ c.rest)
    joined = subst (λ (es : List Entry). AreRunEntries (length setting.graph) es)
        (c.split ∙ sym (append_assoc c.part (Marked c.mark c.place ∷ []) c.rest)) entries_are

    upto_are : AreRunEntries (length setting.graph) upto
    upto_are = are_front (length setting.graph) upto c.rest joined

    rest_are : AreRunEntries (length setting.graph) c.rest
    rest_are = are_back (length setting.graph) upto c.rest joined

    on : GoesOnFrom setting sides (log commits sides (start_of b ∷ (later ++ upto))) known
        (run setting.graph known None s) c.rest
    on = goes_on setting commits sides b given known s later before c.part c.rest c.mark c.place g over are led
        c.split

    text_is : log commits sides (start_of b ∷ later) ++ (front ++ 10 ∷ []) ≡ log commits sides
        (start_of b ∷ (later ++ upto))
    text_is =
        ap (λ (t : List ℕ). log commits sides (start_of b ∷ later) ++ t) c.is_front
        ∙ sym (log_joined commits sides nothing_known (start_of b ∷ later) upto)
