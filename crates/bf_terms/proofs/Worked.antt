-- Worked texts, by computation. The names of the commits here are single bytes.
use Rattle.std.specs.Prelude.{◌≡◌, true, false, [], ◌∷◌, codes, Some, None, refl, ◌++◌}
use Rattle.std.specs.Fmt.{digits}
use Rattle.hex.specs.Hex.{encode_with}
use Rattle.bf_search.specs.declared.asks.Ask.TheVariants as ask
use Rattle.bf_search.specs.declared.entries.Entry.TheVariants.{Start, Marked, FirstBadFound, OnlySkippedLeft}
use Rattle.bf_search.specs.declared.outcomes.Mark.TheVariants.{Good, Bad, Skip}
use Rattle.bf_search.specs.declared.outcomes.Outcome.TheVariants.{Exit}
use Rattle.bf_search.specs.Run.{Answered, Aborted}
use Rattle.bf_terms.specs.Texts.{Commits, standard_sides, waiting_for_old, waiting_for_both, given_terms, first_words, possible_words, end_lines, end_words}
use Rattle.bf_terms.specs.Texts.{start_lines, mark_lines, skipped_left_lines, entry_lines, log_from, log, first_bad_line, aborted_line, answer_lines}

three : Commits
three = record { names = (16 ∷ []) ∷ (17 ∷ []) ∷ (18 ∷ []) ∷ []; subjects = codes "c0" ∷ codes "c1" ∷ [] ∷ [] }

-- a whole log of a search between two known ends
found : log three standard_sides (Start false false (Some 2) (0 ∷ []) ∷ Marked Skip 1 ∷ OnlySkippedLeft (1 ∷ 2 ∷ []) ∷ [])
    ≡ codes "# bad: [12] \n# good: [10] c0\ngit bisect start '12' '10'\n# skip: [11] c1\ngit bisect skip 11\n"
    ++ codes "# only skipped commits left to test\n# possible first bad commit: [11] c1\n"
    ++ codes "# possible first bad commit: [12] \n"
unfolding three waiting_for_old waiting_for_both given_terms first_words possible_words entry_lines end_lines end_words start_lines mark_lines
    skipped_left_lines log_from encode_with
found = refl

-- a log without its ends says what it waits for
waits : log three standard_sides (Start false false None [] ∷ Marked Bad 2 ∷ Marked Good 0 ∷ [])
    ≡ codes "git bisect start\n# status: waiting for both good and bad commits\n# bad: [12] \ngit bisect bad 12\n"
    ++ codes "# status: waiting for good commits, bad commit known\n# good: [10] c0\ngit bisect good 10\n"
unfolding three waiting_for_old waiting_for_both given_terms first_words possible_words entry_lines end_lines end_words start_lines mark_lines
    skipped_left_lines log_from encode_with
waits = refl

-- other words for the two sides
worded : log three (record { new = codes "fixed"; old = codes "broken" }) (Start true true (Some 1) (0 ∷ []) ∷ FirstBadFound 1 ∷ [])
    ≡ codes "# fixed: [11] c1\n# broken: [10] c0\n"
    ++ codes "git bisect start '--first-parent' '--term-new' 'fixed' '--term-old' 'broken' '11' '10'\n"
    ++ codes "# first fixed commit: [11] c1\n"
unfolding three waiting_for_old waiting_for_both given_terms first_words possible_words entry_lines end_lines end_words start_lines mark_lines
    skipped_left_lines log_from encode_with
worded = refl

answered : answer_lines three standard_sides (Answered (ask.FirstBad 1)) ≡ codes "11 is the first bad commit\n"
unfolding three answer_lines first_bad_line aborted_line encode_with
answered = refl

aborted : answer_lines three standard_sides (Aborted 1 (Exit 128)) ≡ codes "bisect aborted: exit 128 on 11\n"
unfolding three answer_lines first_bad_line aborted_line encode_with digits
aborted = refl
