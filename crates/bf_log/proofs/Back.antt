-- Reading the lines that are written for entries gives their command lines and no others.
use Rattle.std.proofs.Common.{◌≡◌, ℕ, ◌==◌, ◌&&◌, not, nat_lt, cond, Bool, true, false, List, [], ◌∷◌, ◌++◌, length, map, codes, Option, Some, None, refl, sym}
use Rattle.std.proofs.Common.{ap, ◌∙◌, append_assoc, append-nil}
use Rattle.std.proofs.lemmas.Bool.{and_parts, and_from, cond-false, or_from}
use Rattle.std.proofs.lemmas.List.Concat.{flat_map-append}
use Rattle.std.proofs.lemmas.List.Folds.{list_all-append}
use Rattle.std.specs.List.{list_all, flat_map, slice_index_or}
use Rattle.std.specs.Fmt.{decimal}
use Rattle.bf_search.specs.declared.entries.Entry.{Entry}
use Rattle.bf_search.specs.declared.entries.Entry.TheVariants.{Start, Marked, SkippedBase, FirstBadFound, OnlySkippedLeft}
use Rattle.bf_search.specs.declared.outcomes.Mark.{Mark}
use Rattle.bf_search.specs.declared.outcomes.Mark.TheVariants.{Good, Bad, Skip}
use Rattle.bf_terms.specs.Texts.{Commits, Sides, hex_of, label_of, text_line, comment_of, quoted, word_of_mark, given_terms, option_words, end_lines, end_words}
use Rattle.bf_terms.specs.Texts.{start_lines, mark_lines, first_words, possible_words, skipped_left_lines, entry_lines, Known, known_after, waiting_for_old}
use Rattle.bf_terms.specs.Texts.{waiting_for_both, waiting_for_new, waiting_text, has_status, status_line, log_from}
use Rattle.bf_reading.specs.Reading.{lines_of, past_blanks, behind, command_text, is_word, first_is_dash, read_start, read_words, and_then, Line, PassedOver}
use Rattle.bf_reading.specs.Reading.{Command, line_of_word, read_line, read_log, said}
use Rattle.bf_reading.specs.declared.line.LogWord.{LogWord}
use Rattle.bf_reading.specs.declared.line.LogWord.TheVariants.{MarkWord}
use Rattle.bf_reading.specs.declared.line.LogWord.TheVariants as log_word
use Rattle.bf_reading.proofs.Starting.{read_names}
use Rattle.bf_log.specs.Written.{given_term, names_of, start_word, words_of_entries, is_plain, IsPlainWord, IsMarkWord, has_no_end, AreReadable, AreNamed}
use Rattle.bf_log.proofs.Terms.{accepted_from}
use Rattle.bf_log.proofs.Plain.{no_end_append, no_end_from_plain, hex_plain, hex_no_dash, hex_some, decimal_no_end, two_words, word_and_quoted, add_word, says}
use Rattle.bf_log.proofs.Plain.{said_lines, said_read, says_line}

-- ---- comments

-- a line that begins with # says nothing
says_hash : (t rest : List ℕ) → has_no_end t ≡ true → says (text_line (35 ∷ t) ++ rest) ≡ says rest
unfolding command_text past_blanks behind
says_hash t rest h = ap says (append_assoc (35 ∷ t) (codes "\n") rest) ∙ says_line (35 ∷ t) rest h

pub hex_no_end : (commits : Commits) (p : ℕ) → has_no_end (hex_of commits p) ≡ true
hex_no_end commits p = no_end_from_plain (hex_of commits p) (hex_plain (slice_index_or commits.names p []))

pub label_no_end : (commits : Commits) (p : ℕ) → has_no_end (slice_index_or commits.subjects p []) ≡ true
    → has_no_end (label_of commits p) ≡ true
label_no_end commits p h =
    no_end_append (codes "[" ++ hex_of commits p ++ codes "] ") (slice_index_or commits.subjects p [])
    (no_end_append (codes "[" ++ hex_of commits p) (codes "] ")
    (no_end_append (codes "[") (hex_of commits p) refl (hex_no_end commits p)) refl) h

says_comment : (commits : Commits) (words : List ℕ) (p : ℕ) (rest : List ℕ) → has_no_end words ≡ true
    → has_no_end (slice_index_or commits.subjects p []) ≡ true → says (comment_of commits words p ++ rest) ≡ says rest
says_comment commits words p rest h k =
    says_hash (codes " " ++ words ++ codes ": " ++ label_of commits p) rest
    (no_end_append (codes " " ++ words ++ codes ": ") (label_of commits p)
    (no_end_append (codes " " ++ words) (codes ": ") h refl) (label_no_end commits p k))

says_comments : (commits : Commits) (words : List ℕ) (ps : List ℕ) (rest : List ℕ) → has_no_end words ≡ true
    → ((p : ℕ) → has_no_end (slice_index_or commits.subjects p []) ≡ true)
    → says (flat_map (comment_of commits words) ps ++ rest) ≡ says rest
says_comments commits words [] rest h k = refl
says_comments commits words (p ∷ ps) rest h k =
    ap says (append_assoc (comment_of commits words p) (flat_map (comment_of commits words) ps) rest)
    ∙ says_comment commits words p (flat_map (comment_of commits words) ps ++ rest) h (k p)
    ∙ says_comments commits words ps rest h k

-- ---- marks

read_mark_words : (v w : List ℕ) → IsMarkWord v → IsPlainWord w → read_words (v ∷ w ∷ []) ≡ Some (MarkWord v w)
unfolding read_words
read_mark_words v w one two =
    cond-false (is_word (codes "start") v) _ _ one.no_start
    ∙ ap (λ (b : Bool). cond b None (Some (MarkWord v w)))
    (or_from (first_is_dash v) (first_is_dash w) one.is_plain_word.no_dash two.no_dash)

mark_line_is : (v w : List ℕ) → IsMarkWord v → IsPlainWord w
    → read_line (codes "git bisect " ++ (v ++ 32 ∷ w)) ≡ Command (MarkWord v w)
unfolding command_text past_blanks behind
mark_line_is v w one two =
    ap (λ (o : Option (List (List ℕ))). line_of_word (and_then o read_words)) (two_words v w one.is_plain_word two)
    ∙ ap line_of_word (read_mark_words v w one two)

-- the line of a mark, and what follows it
pub mark_joined : (v w rest : List ℕ) → ((codes "git bisect " ++ v ++ codes " ") ++ text_line w) ++ rest
    ≡ (codes "git bisect " ++ (v ++ 32 ∷ w)) ++ 10 ∷ rest
mark_joined v w rest = joined (codes "git bisect ") v (codes " ") w (codes "\n") rest
  where
    joined : (a b c d e f : List ℕ) → ((a ++ b ++ c) ++ (d ++ e)) ++ f ≡ (a ++ (b ++ (c ++ d))) ++ (e ++ f)
    joined a b c d e f = simp append_assoc

says_mark : (commits : Commits) (v : List ℕ) (p : ℕ) (rest : List ℕ) → IsMarkWord v → IsPlainWord (hex_of commits p)
    → has_no_end (slice_index_or commits.subjects p []) ≡ true
    → says (mark_lines commits v p ++ rest) ≡ add_word (Command (MarkWord v (hex_of commits p))) (says rest)
unfolding mark_lines
says_mark commits v p rest one two k =
    ap says (ap (λ (x : List ℕ). x ++ rest) (append_assoc (comment_of commits v p)
    (codes "git bisect " ++ v ++ codes " ") (text_line (hex_of commits p)))
    ∙ append_assoc (comment_of commits v p) ((codes "git bisect " ++ v ++ codes " ") ++ text_line (hex_of commits p))
    rest)
    ∙ says_comment commits v p (((codes "git bisect " ++ v ++ codes " ") ++ text_line (hex_of commits p)) ++ rest)
    no_end k
    ∙ ap says (mark_joined v (hex_of commits p) rest)
    ∙ says_line (codes "git bisect " ++ (v ++ 32 ∷ hex_of commits p)) rest
    (no_end_append (codes "git bisect ") (v ++ 32 ∷ hex_of commits p) refl
    (no_end_append v (32 ∷ hex_of commits p) no_end (hex_no_end commits p)))
    ∙ ap (λ (l : Line). add_word l (says rest)) (mark_line_is v (hex_of commits p) one two)
  where
    no_end : has_no_end v ≡ true
    no_end = no_end_from_plain v one.is_plain_word.plain

-- ---- starts

abbrev mode_list : Bool → List (List ℕ)
mode_list true = codes "--first-parent" ∷ []
mode_list false = []

abbrev term_list : Sides → Bool → List (List ℕ)
term_list sides true = codes "--term-new" ∷ sides.new ∷ codes "--term-old" ∷ sides.old ∷ []
term_list sides false = []

abbrev option_list : Sides → Bool → Bool → List (List ℕ)
option_list sides first_parent terms_given = mode_list first_parent ++ term_list sides terms_given

four : (a b c d : List ℕ) → a ++ b ++ c ++ d ≡ a ++ (b ++ (c ++ (d ++ [])))
four a b c d = simp (append_assoc, append-nil)

options_are : (sides : Sides) (first_parent terms_given : Bool)
    → option_words sides first_parent terms_given ≡ flat_map quoted (option_list sides first_parent terms_given)
unfolding given_terms
options_are sides true true = ap (λ (x : List ℕ). quoted (codes "--first-parent") ++ x)
    (four (quoted (codes "--term-new")) (quoted sides.new) (quoted (codes "--term-old")) (quoted sides.old))
options_are sides true false = refl
options_are sides false true = four (quoted (codes "--term-new")) (quoted sides.new) (quoted (codes "--term-old"))
    (quoted sides.old)
options_are sides false false = refl

good_names_are : (commits : Commits) (goods : List ℕ)
    → flat_map (λ p. quoted (hex_of commits p)) goods ≡ flat_map quoted (map (λ p. hex_of commits p) goods)
good_names_are commits [] = refl
good_names_are commits (p ∷ ps) = ap (λ (x : List ℕ). quoted (hex_of commits p) ++ x) (good_names_are commits ps)

names_are : (commits : Commits) (bad : Option ℕ) (goods : List ℕ)
    → end_words commits bad goods ≡ flat_map quoted (names_of commits bad goods)
unfolding end_words
names_are commits None goods = good_names_are commits goods
names_are commits (Some p) goods =
    ap (λ (x : List ℕ). quoted (hex_of commits p) ++ x) (good_names_are commits goods)

abbrev all_plain : List (List ℕ) → Bool
all_plain ws = list_all (λ w. list_all is_plain w) ws

good_names_plain : (commits : Commits) (goods : List ℕ) → all_plain (map (λ p. hex_of commits p) goods) ≡ true
good_names_plain commits [] = refl
good_names_plain commits (p ∷ ps) = and_from (list_all is_plain (hex_of commits p))
    (all_plain (map (λ p. hex_of commits p) ps)) (hex_plain (slice_index_or commits.names p []))
    (good_names_plain commits ps)

names_plain : (commits : Commits) (bad : Option ℕ) (goods : List ℕ) → all_plain (names_of commits bad goods) ≡ true
names_plain commits None goods = good_names_plain commits goods
names_plain commits (Some p) goods = good_names_plain commits (p ∷ goods)

options_plain : (sides : Sides) (first_parent terms_given : Bool) → list_all is_plain sides.new ≡ true
    → list_all is_plain sides.old ≡ true → all_plain (option_list sides first_parent terms_given) ≡ true
options_plain sides true true h k = and_from (list_all is_plain sides.new) (list_all is_plain sides.old && true) h
    (and_from (list_all is_plain sides.old) true k refl)
options_plain sides true false h k = refl
options_plain sides false true h k = and_from (list_all is_plain sides.new) (list_all is_plain sides.old && true) h
    (and_from (list_all is_plain sides.old) true k refl)
options_plain sides false false h k = refl

quoted_no_end : (ws : List (List ℕ)) → all_plain ws ≡ true → has_no_end (flat_map quoted ws) ≡ true
quoted_no_end [] h = refl
quoted_no_end (w ∷ ws) h =
    let parts = and_parts (list_all is_plain w) (all_plain ws) h in
    no_end_append (quoted w) (flat_map quoted ws) (no_end_append (codes " '" ++ w) (codes "'")
    (no_end_from_plain w parts.0) refl) (quoted_no_end ws parts.1)

good_names_no_dash : (commits : Commits) (goods : List ℕ)
    → list_all (λ w. not (first_is_dash w)) (map (λ p. hex_of commits p) goods) ≡ true
good_names_no_dash commits [] = refl
good_names_no_dash commits (p ∷ ps) =
    and_from (not (first_is_dash (hex_of commits p)))
    (list_all (λ w. not (first_is_dash w)) (map (λ p. hex_of commits p) ps))
    (ap not (hex_no_dash (slice_index_or commits.names p []))) (good_names_no_dash commits ps)

names_no_dash : (commits : Commits) (bad : Option ℕ) (goods : List ℕ)
    → list_all (λ w. not (first_is_dash w)) (names_of commits bad goods) ≡ true
names_no_dash commits None goods = good_names_no_dash commits goods
names_no_dash commits (Some p) goods = good_names_no_dash commits (p ∷ goods)

read_options : (sides : Sides) (first_parent terms_given : Bool) (names : List (List ℕ))
    → list_all (λ w. not (first_is_dash w)) names ≡ true
    → read_words (codes "start" ∷ (option_list sides first_parent terms_given ++ names)) ≡ Some
    (log_word.Start first_parent (given_term terms_given sides.new) (given_term terms_given sides.old) names)
unfolding read_words read_start behind
read_options sides true true names h = read_names true (Some sides.new) (Some sides.old) [] names h
read_options sides true false names h = read_names true None None [] names h
read_options sides false true names h = read_names false (Some sides.new) (Some sides.old) [] names h
read_options sides false false names h = read_names false None None [] names h

start_plain : IsPlainWord (codes "start")
start_plain = record { some = λ e. cc; plain = refl; no_dash = refl }

start_line_is : (sides : Sides) (first_parent terms_given : Bool) (names : List (List ℕ))
    → all_plain (option_list sides first_parent terms_given ++ names) ≡ true
    → list_all (λ w. not (first_is_dash w)) names ≡ true
    → read_line (codes "git bisect start" ++ flat_map quoted (option_list sides first_parent terms_given ++ names))
    ≡ Command (log_word.Start first_parent (given_term terms_given sides.new) (given_term terms_given sides.old)
    names)
unfolding command_text past_blanks behind
start_line_is sides first_parent terms_given names h k =
    ap (λ (o : Option (List (List ℕ))). line_of_word (and_then o read_words))
    (word_and_quoted (codes "start") (option_list sides first_parent terms_given ++ names) start_plain h)
    ∙ ap line_of_word (read_options sides first_parent terms_given names k)

start_joined : (front options ends rest : List ℕ) → (front ++ codes "git bisect start" ++ options ++ ends
    ++ codes "\n") ++ rest ≡ front ++ ((codes "git bisect start" ++ (options ++ ends)) ++ 10 ∷ rest)
start_joined front options ends rest = joined front (codes "git bisect start") options ends (codes "\n") rest
  where
    joined : (a b c d e f : List ℕ) → (a ++ b ++ c ++ d ++ e) ++ f ≡ a ++ ((b ++ (c ++ d)) ++ (e ++ f))
    joined a b c d e f = simp append_assoc

says_ends : (commits : Commits) (sides : Sides) (bad : Option ℕ) (goods : List ℕ) (rest : List ℕ)
    → AreReadable commits sides → says (end_lines commits sides bad goods ++ rest) ≡ says rest
unfolding end_lines
says_ends commits sides None goods rest r = says_comments commits sides.old goods rest
    (no_end_from_plain sides.old (accepted_from sides r.accepted).old.is_plain_word.plain) r.subjects
says_ends commits sides (Some p) goods rest r =
    ap says (append_assoc (comment_of commits sides.new p) (flat_map (comment_of commits sides.old) goods) rest)
    ∙ says_comment commits sides.new p (flat_map (comment_of commits sides.old) goods ++ rest)
    (no_end_from_plain sides.new (accepted_from sides r.accepted).new.is_plain_word.plain) (r.subjects p)
    ∙ says_comments commits sides.old goods rest (no_end_from_plain sides.old
    (accepted_from sides r.accepted).old.is_plain_word.plain) r.subjects

says_start : (commits : Commits) (sides : Sides) (first_parent terms_given : Bool) (bad : Option ℕ) (goods : List ℕ)
    (rest : List ℕ) → AreReadable commits sides
    → says (start_lines commits sides first_parent terms_given bad goods ++ rest) ≡ add_word
    (Command (start_word commits sides first_parent terms_given bad goods)) (says rest)
unfolding start_lines
says_start commits sides first_parent terms_given bad goods rest r =
    ap says (start_joined (end_lines commits sides bad goods) (option_words sides first_parent terms_given)
    (end_words commits bad goods) rest)
    ∙ says_ends commits sides bad goods ((codes "git bisect start"
    ++ (option_words sides first_parent terms_given ++ end_words commits bad goods)) ++ 10 ∷ rest) r
    ∙ ap (λ (x : List ℕ). says ((codes "git bisect start" ++ x) ++ 10 ∷ rest)) words_are
    ∙ says_line (codes "git bisect start" ++ flat_map quoted words) rest
    (no_end_append (codes "git bisect start") (flat_map quoted words) refl (quoted_no_end words plain))
    ∙ ap (λ (l : Line). add_word l (says rest)) (start_line_is sides first_parent terms_given
    (names_of commits bad goods) plain (names_no_dash commits bad goods))
  where
    words : List (List ℕ)
    words = option_list sides first_parent terms_given ++ names_of commits bad goods

    words_are : option_words sides first_parent terms_given ++ end_words commits bad goods ≡ flat_map quoted words
    words_are =
        ap (λ (x : List ℕ). x ++ end_words commits bad goods) (options_are sides first_parent terms_given)
        ∙ ap (λ (x : List ℕ). flat_map quoted (option_list sides first_parent terms_given) ++ x)
        (names_are commits bad goods)
        ∙ sym (flat_map-append quoted (option_list sides first_parent terms_given) (names_of commits bad goods))

    plain : all_plain words ≡ true
    plain =
        list_all-append (λ w. list_all is_plain w) (option_list sides first_parent terms_given)
        (names_of commits bad goods)
        ∙ and_from (all_plain (option_list sides first_parent terms_given)) (all_plain (names_of commits bad goods))
        (options_plain sides first_parent terms_given
        (accepted_from sides r.accepted).new.is_plain_word.plain (accepted_from sides
        r.accepted).old.is_plain_word.plain) (names_plain commits bad goods)

-- ---- entries

pub first_no_end : (sides : Sides) → has_no_end sides.new ≡ true → has_no_end (first_words sides) ≡ true
unfolding first_words
first_no_end sides h = no_end_append (codes "first " ++ sides.new) (codes " commit") h refl

pub possible_no_end : (sides : Sides) → has_no_end sides.new ≡ true → has_no_end (possible_words sides) ≡ true
unfolding possible_words
possible_no_end sides h = first_no_end sides h

skip_is_word : IsMarkWord (codes "skip")
skip_is_word = record { is_plain_word = record { some = λ e. cc; plain = refl; no_dash = refl }; no_start = refl }

pub mark_word : (commits : Commits) (sides : Sides) (m : Mark) → AreReadable commits sides
    → IsMarkWord (word_of_mark sides m)
mark_word commits sides Good r = (accepted_from sides r.accepted).old
mark_word commits sides Bad r = (accepted_from sides r.accepted).new
mark_word commits sides Skip r = skip_is_word

abbrev line_of_entry : Commits → Sides → Entry → Line
line_of_entry commits sides (Start first_parent terms_given bad goods) = Command
    (start_word commits sides first_parent terms_given bad goods)
line_of_entry commits sides (Marked m p) = Command (MarkWord (word_of_mark sides m) (hex_of commits p))
line_of_entry commits sides other = PassedOver

abbrev IsNamed : Commits → Entry → Type 0
IsNamed commits (Marked m p) = slice_index_or commits.names p [] ≡ [] → ⊥
IsNamed commits other = Unit {0}

says_entry : (commits : Commits) (sides : Sides) (entry : Entry) (rest : List ℕ) → AreReadable commits sides
    → IsNamed commits entry → says (entry_lines commits sides entry ++ rest) ≡ add_word
    (line_of_entry commits sides entry) (says rest)
unfolding entry_lines skipped_left_lines
says_entry commits sides (Start first_parent terms_given bad goods) rest r n = says_start commits sides first_parent
    terms_given bad goods rest r
says_entry commits sides (Marked m p) rest r n =
    says_mark commits (word_of_mark sides m) p rest (mark_word commits sides m r)
    (record {
      some = hex_some (slice_index_or commits.names p []) n;
      plain = hex_plain (slice_index_or commits.names p []);
      no_dash = hex_no_dash
          (slice_index_or commits.names p []);
    }) (r.subjects p)
says_entry commits sides (SkippedBase p) rest r n = says_comment commits (codes "skipped merge base") p rest refl
    (r.subjects p)
says_entry commits sides (FirstBadFound p) rest r n = says_comment commits (first_words sides) p rest
    (first_no_end sides (no_end_from_plain sides.new (accepted_from sides r.accepted).new.is_plain_word.plain))
    (r.subjects p)
says_entry commits sides (OnlySkippedLeft ps) rest r n =
    ap says (append_assoc (codes "# only skipped commits left to test\n")
    (flat_map (comment_of commits (possible_words sides)) ps) rest)
    ∙ says_hash (codes " only skipped commits left to test")
    (flat_map (comment_of commits (possible_words sides)) ps ++ rest) refl
    ∙ says_comments commits (possible_words sides) ps rest
    (possible_no_end sides (no_end_from_plain sides.new (accepted_from sides r.accepted).new.is_plain_word.plain))
    r.subjects

waiting_no_end : (sides : Sides) (bad : Bool) (n : ℕ) → has_no_end sides.new ≡ true → has_no_end sides.old ≡ true
    → has_no_end (waiting_text sides bad n) ≡ true
unfolding waiting_for_old waiting_for_both waiting_for_new
waiting_no_end sides true n h k =
    no_end_append (codes "waiting for " ++ sides.old ++ codes " commits, " ++ sides.new) (codes " commit known")
    (no_end_append (codes "waiting for " ++ sides.old ++ codes " commits, ") sides.new
    (no_end_append (codes "waiting for " ++ sides.old) (codes " commits, ") k refl) h) refl
waiting_no_end sides false n h k = by_count (n == 0)
  where
    by_count : (b : Bool) → has_no_end (cond b (waiting_for_both sides) (waiting_for_new sides n)) ≡ true
    by_count true =
        no_end_append (codes "waiting for both " ++ sides.old ++ codes " and " ++ sides.new) (codes " commits")
        (no_end_append (codes "waiting for both " ++ sides.old ++ codes " and ") sides.new
        (no_end_append (codes "waiting for both " ++ sides.old) (codes " and ") k refl) h) refl
    by_count false =
        no_end_append (codes "waiting for " ++ sides.new ++ codes " commit, " ++ decimal n ++ codes " " ++ sides.old)
        (codes " known")
        (no_end_append (codes "waiting for " ++ sides.new ++ codes " commit, " ++ decimal n ++ codes " ") sides.old
        (no_end_append (codes "waiting for " ++ sides.new ++ codes " commit, " ++ decimal n) (codes " ")
        (no_end_append (codes "waiting for " ++ sides.new ++ codes " commit, ") (decimal n)
        (no_end_append (codes "waiting for " ++ sides.new) (codes " commit, ") h refl) (decimal_no_end n)) refl) k)
        refl

says_maybe : (b : Bool) (t rest : List ℕ) → has_no_end t ≡ true
    → says (cond b (text_line (35 ∷ t)) [] ++ rest) ≡ says rest
says_maybe true t rest h = says_hash t rest h
says_maybe false t rest h = refl

says_status : (commits : Commits) (sides : Sides) (known : Known) (entry : Entry) (rest : List ℕ)
    → AreReadable commits sides → says (status_line sides known entry ++ rest) ≡ says rest
says_status commits sides known entry rest r =
    says_maybe (has_status entry && not (known.bad && nat_lt 0 (length known.goods)))
    (codes " status: " ++ waiting_text sides known.bad (length known.goods)) rest
    (no_end_append (codes " status: ") (waiting_text sides known.bad (length known.goods)) refl
    (waiting_no_end sides known.bad (length known.goods)
    (no_end_from_plain sides.new (accepted_from sides r.accepted).new.is_plain_word.plain)
    (no_end_from_plain sides.old (accepted_from sides r.accepted).old.is_plain_word.plain)))

said_entries : Commits → Sides → List Entry → Option (List LogWord)
said_entries commits sides [] = Some []
said_entries commits sides (entry ∷ entries) = add_word (line_of_entry commits sides entry)
    (said_entries commits sides entries)

said_entries-are : (commits : Commits) (sides : Sides) (entries : List Entry)
    → said_entries commits sides entries ≡ Some (words_of_entries commits sides entries)
unfolding said_entries
said_entries-are commits sides [] = refl
said_entries-are commits sides (Start first_parent terms_given bad goods ∷ entries) = ap
    (λ (o : Option (List LogWord)). add_word (Command (start_word commits sides first_parent terms_given bad goods))
    o) (said_entries-are commits sides entries)
said_entries-are commits sides (Marked m p ∷ entries) = ap
    (λ (o : Option (List LogWord)). add_word (Command (MarkWord (word_of_mark sides m) (hex_of commits p))) o)
    (said_entries-are commits sides entries)
said_entries-are commits sides (SkippedBase p ∷ entries) = said_entries-are commits sides entries
said_entries-are commits sides (FirstBadFound p ∷ entries) = said_entries-are commits sides entries
said_entries-are commits sides (OnlySkippedLeft ps ∷ entries) = said_entries-are commits sides entries

named_parts : (commits : Commits) (entry : Entry) (entries : List Entry) → AreNamed commits (entry ∷ entries)
    → IsNamed commits entry × AreNamed commits entries
named_parts commits (Start first_parent terms_given bad goods) entries h = (tt, h)
named_parts commits (Marked m p) entries h = h
named_parts commits (SkippedBase p) entries h = (tt, h)
named_parts commits (FirstBadFound p) entries h = (tt, h)
named_parts commits (OnlySkippedLeft ps) entries h = (tt, h)

says_log : (commits : Commits) (sides : Sides) (known : Known) (entries : List Entry) → AreReadable commits sides
    → AreNamed commits entries → says (log_from commits sides known entries) ≡ said_entries commits sides entries
unfolding log_from said_entries said_lines lines_of
says_log commits sides known [] r n = refl
says_log commits sides known (entry ∷ entries) r n =
    let parts = named_parts commits entry entries n in
    ap says (append_assoc (entry_lines commits sides entry) (status_line sides (known_after known entry) entry)
    (log_from commits sides (known_after known entry) entries))
    ∙ says_entry commits sides entry (status_line sides (known_after known entry) entry ++ log_from commits sides
    (known_after known entry) entries) r parts.0
    ∙ ap (λ (o : Option (List LogWord)). add_word (line_of_entry commits sides entry) o)
    (says_status commits sides (known_after known entry) entry
    (log_from commits sides (known_after known entry) entries) r
    ∙ says_log commits sides (known_after known entry) entries r parts.1)

-- Reading the lines of entries gives their command lines and no others.
pub log_read_back : (commits : Commits) (sides : Sides) (known : Known) (entries : List Entry)
    → AreReadable commits sides → AreNamed commits entries
    → said (read_log (log_from commits sides known entries)) ≡ Some (words_of_entries commits sides entries)
log_read_back commits sides known entries r n = said_read 1 _ ∙ says_log commits sides known entries r n
    ∙ said_entries-are commits sides entries
