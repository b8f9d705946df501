-- The lines of a log (git-bisect(1), "Bisect log and bisect replay") and of the answer of a search.
use Rattle.std.specs.Prelude.{ℕ, ◌==◌, Bool, true, false, ◌&&◌, not, nat_lt, List, [], ◌∷◌, ◌++◌, length, codes, Option, Some, None, is_some, if◌then◌else◌}
use Rattle.std.specs.List.{slice_index_or, flat_map}
use Rattle.std.specs.Fmt.{decimal}
use Rattle.hex.specs.Hex.{encode_lower}
use Rattle.bf_search.specs.declared.asks.Ask.{Ask}
use Rattle.bf_search.specs.declared.asks.Ask.TheVariants as ask
use Rattle.bf_search.specs.declared.entries.Entry.{Entry}
use Rattle.bf_search.specs.declared.entries.Entry.TheVariants.{Start, Marked, SkippedBase, FirstBadFound, OnlySkippedLeft}
use Rattle.bf_search.specs.declared.outcomes.Mark.{Mark}
use Rattle.bf_search.specs.declared.outcomes.Mark.TheVariants.{Good, Bad, Skip}
use Rattle.bf_search.specs.declared.outcomes.Outcome.{Outcome}
use Rattle.bf_search.specs.declared.outcomes.Outcome.TheVariants.{Exit, Killed}
use Rattle.bf_search.specs.Bases.{has_place}
use Rattle.bf_search.specs.Run.{End, Answered, Leg, Open, Aborted}

-- what the texts say of commits: their names and subjects, by place
pub record Commits : Type 0 where
  pub names : List (List ℕ)
  pub subjects : List (List ℕ)

-- the words for the two sides, as bad and good
pub record Sides : Type 0 where
  pub new : List ℕ
  pub old : List ℕ

abbrev pub standard_sides : Sides
standard_sides = record { new = codes "bad"; old = codes "good" }

-- the name of a commit in hexadecimal digits, and the name with the subject
abbrev pub hex_of : Commits → ℕ → List ℕ
hex_of commits p = encode_lower (slice_index_or commits.names p [])

abbrev pub label_of : Commits → ℕ → List ℕ
label_of commits p = codes "[" ++ hex_of commits p ++ codes "] " ++ slice_index_or commits.subjects p []

abbrev pub text_line : List ℕ → List ℕ
text_line text = text ++ codes "\n"

-- a comment that names a commit
abbrev pub comment_of : Commits → List ℕ → ℕ → List ℕ
comment_of commits words p = text_line (codes "# " ++ words ++ codes ": " ++ label_of commits p)

-- a word of the start line
abbrev pub quoted : List ℕ → List ℕ
quoted word = codes " '" ++ word ++ codes "'"

abbrev pub word_of_mark : Sides → Mark → List ℕ
word_of_mark sides Good = sides.old
word_of_mark sides Bad = sides.new
word_of_mark sides Skip = codes "skip"

abbrev pub given_bad : (ℕ → List ℕ) → Option ℕ → List ℕ
given_bad text None = []
given_bad text (Some p) = text p

-- the options of the start line: the mode, and the terms where they were given
abbrev pub mode_word : Bool → List ℕ
mode_word first_parent = if first_parent then quoted (codes "--first-parent") else []

unfoldable pub given_terms : Sides → List ℕ
given_terms sides = quoted (codes "--term-new") ++ quoted sides.new ++ quoted (codes "--term-old") ++ quoted sides.old

abbrev pub term_words : Sides → Bool → List ℕ
term_words sides terms_given = if terms_given then given_terms sides else []

abbrev pub option_words : Sides → Bool → Bool → List ℕ
option_words sides first_parent terms_given = mode_word first_parent ++ term_words sides terms_given

-- the ends of a start: as comments, and as words of its line
unfoldable pub end_lines : Commits → Sides → Option ℕ → List ℕ → List ℕ
end_lines commits sides bad goods = given_bad (comment_of commits sides.new) bad ++ flat_map (comment_of commits sides.old) goods

unfoldable pub end_words : Commits → Option ℕ → List ℕ → List ℕ
end_words commits bad goods = given_bad (λ p. quoted (hex_of commits p)) bad ++ flat_map (λ p. quoted (hex_of commits p)) goods

-- a start: its ends as comments, and the command with its options, the bad name and the good names
unfoldable pub start_lines : Commits → Sides → Bool → Bool → Option ℕ → List ℕ → List ℕ
start_lines commits sides first_parent terms_given bad goods =
    end_lines commits sides bad goods ++ codes "git bisect start" ++ option_words sides first_parent terms_given ++ end_words commits bad goods ++ codes "\n"

-- a mark: its commit as a comment, and the command
unfoldable pub mark_lines : Commits → List ℕ → ℕ → List ℕ
mark_lines commits word p = comment_of commits word p ++ (codes "git bisect " ++ word ++ codes " ") ++ text_line (hex_of commits p)

-- how a commit is called that is, or may be, the first of the new side
unfoldable pub first_words : Sides → List ℕ
first_words sides = codes "first " ++ sides.new ++ codes " commit"

unfoldable pub possible_words : Sides → List ℕ
possible_words sides = codes "possible " ++ first_words sides

-- the skipped candidates that are left
unfoldable pub skipped_left_lines : Commits → Sides → List ℕ → List ℕ
skipped_left_lines commits sides ps =
    codes "# only skipped commits left to test\n"
    ++ flat_map (comment_of commits (possible_words sides)) ps

-- the lines of an entry, without its status line
unfoldable pub entry_lines : Commits → Sides → Entry → List ℕ
entry_lines commits sides (Start first_parent terms_given bad goods) = start_lines commits sides first_parent terms_given bad goods
entry_lines commits sides (Marked mark p) = mark_lines commits (word_of_mark sides mark) p
entry_lines commits sides (SkippedBase p) = comment_of commits (codes "skipped merge base") p
entry_lines commits sides (FirstBadFound p) = comment_of commits (first_words sides) p
entry_lines commits sides (OnlySkippedLeft ps) = skipped_left_lines commits sides ps

-- which ends are known: whether a bad commit is, and the good ones, each once
pub record Known : Type 0 where
  pub bad : Bool
  pub goods : List ℕ

abbrev pub nothing_known : Known
nothing_known = record { bad = false; goods = [] }

abbrev pub with_good : List ℕ → ℕ → List ℕ
with_good goods p = if has_place goods p then goods else goods ++ p ∷ []

abbrev pub with_goods : List ℕ → List ℕ → List ℕ
with_goods goods [] = goods
with_goods goods (p ∷ ps) = with_goods (with_good goods p) ps

abbrev pub known_after : Known → Entry → Known
known_after known (Start first_parent terms_given bad goods) = record { bad = is_some bad; goods = with_goods [] goods }
known_after known (Marked Bad p) = record known { bad = true }
known_after known (Marked Good p) = record known { goods = with_good known.goods p }
known_after known other = known

-- what a search waits for
unfoldable pub waiting_for_old : Sides → List ℕ
waiting_for_old sides = codes "waiting for " ++ sides.old ++ codes " commits, " ++ sides.new ++ codes " commit known"

unfoldable pub waiting_for_both : Sides → List ℕ
waiting_for_both sides = codes "waiting for both " ++ sides.old ++ codes " and " ++ sides.new ++ codes " commits"

unfoldable pub waiting_for_new : Sides → ℕ → List ℕ
waiting_for_new sides good_count = codes "waiting for " ++ sides.new ++ codes " commit, " ++ decimal good_count ++ codes " " ++ sides.old ++ codes " known"

abbrev pub waiting_text : Sides → Bool → ℕ → List ℕ
waiting_text sides bad good_count =
    if bad then waiting_for_old sides else if good_count == 0 then waiting_for_both sides else waiting_for_new sides good_count

-- the status line, where an end is not known after a start or a mark
abbrev pub has_status : Entry → Bool
has_status (Start first_parent terms_given bad goods) = true
has_status (Marked mark p) = true
has_status other = false

abbrev pub status_line : Sides → Known → Entry → List ℕ
status_line sides known entry =
    if has_status entry && not (known.bad && nat_lt 0 (length known.goods))
    then text_line (codes "# status: " ++ waiting_text sides known.bad (length known.goods)) else []

-- the lines of a log
unfoldable pub log_from : Commits → Sides → Known → List Entry → List ℕ
log_from commits sides known [] = []
log_from commits sides known (entry ∷ entries) =
    entry_lines commits sides entry ++ status_line sides (known_after known entry) entry
    ++ log_from commits sides (known_after known entry) entries

abbrev pub log : Commits → Sides → List Entry → List ℕ
log commits sides entries = log_from commits sides nothing_known entries

-- how a test ended
abbrev pub outcome_text : Outcome → List ℕ
outcome_text (Exit status) = codes "exit " ++ decimal status
outcome_text Killed = codes "killed"

-- the lines that endings answer with
unfoldable pub merge_base_bad_lines : Commits → Sides → ℕ → List ℕ
merge_base_bad_lines commits sides p =
    codes "The merge base " ++ hex_of commits p ++ codes " is " ++ sides.new
    ++ codes ".\nThe change was undone between it and one of the " ++ sides.old ++ codes " commits.\n"

unfoldable pub not_ancestor_line : Commits → Sides → ℕ → List ℕ
not_ancestor_line commits sides p =
    codes "Some " ++ sides.old ++ codes " commits are not ancestors of the " ++ sides.new ++ codes " commit " ++ hex_of commits p ++ codes ".\n"

unfoldable pub both_sides_line : Commits → Sides → ℕ → List ℕ
both_sides_line commits sides p = hex_of commits p ++ codes " was both " ++ sides.old ++ codes " and " ++ sides.new ++ codes "\n"

unfoldable pub first_bad_line : Commits → Sides → ℕ → List ℕ
first_bad_line commits sides p = hex_of commits p ++ codes " is the first " ++ sides.new ++ codes " commit\n"

unfoldable pub only_skipped_lines : Commits → Sides → List ℕ → List ℕ
only_skipped_lines commits sides ps =
    codes "There are only 'skip'ped commits left to test.\nThe first " ++ sides.new ++ codes " commit could be any of:\n"
    ++ flat_map (λ p. text_line (hex_of commits p)) ps
    ++ codes "We cannot bisect more!\n"

unfoldable pub aborted_line : Commits → ℕ → Outcome → List ℕ
aborted_line commits p outcome = codes "bisect aborted: " ++ outcome_text outcome ++ codes " on " ++ text_line (hex_of commits p)

-- the lines that an ask answers with; one that waits says so by its waiting text alone
abbrev pub ask_lines : Commits → Sides → Ask → List ℕ
ask_lines commits sides ask.WaitBoth = []
ask_lines commits sides ask.WaitBad = []
ask_lines commits sides ask.WaitGood = []
ask_lines commits sides (ask.Test p) = text_line (codes "next: " ++ hex_of commits p)
ask_lines commits sides (ask.MergeBaseBad p) = merge_base_bad_lines commits sides p
ask_lines commits sides (ask.GoodNotAncestor p) = not_ancestor_line commits sides p
ask_lines commits sides (ask.BothSides p) = both_sides_line commits sides p
ask_lines commits sides (ask.FirstBad p) = first_bad_line commits sides p
ask_lines commits sides (ask.OnlySkipped ps) = only_skipped_lines commits sides ps

-- the lines of the answer of a run
unfoldable pub answer_lines : Commits → Sides → End → List ℕ
answer_lines commits sides (Answered a) = ask_lines commits sides a
answer_lines commits sides Leg = []
answer_lines commits sides (Open p) = []
answer_lines commits sides (Aborted p outcome) = aborted_line commits p outcome
