-- Worked replays, by computation. The names of the commits here are single bytes.
use Rattle.std.specs.Prelude.{◌≡◌, ℕ, Bool, false, List, [], ◌∷◌, codes, Option, Some, None, Result, Ok, Err, if◌then◌else◌, refl}
use Rattle.hex.specs.Hex.{encode_with}
use Rattle.bf_search.specs.declared.asks.Ask.TheVariants.{FirstBad}
use Rattle.bf_search.specs.declared.asks.Step.{Step}
use Rattle.bf_search.specs.declared.entries.Entry.{Entry}
use Rattle.bf_search.specs.declared.entries.Entry.TheVariants.{Start, Marked, SkippedBase, FirstBadFound}
use Rattle.bf_search.specs.declared.outcomes.Mark.TheVariants.{Skip}
use Rattle.bf_search.specs.Reach.{reaches_within, reaches, any_reaches}
use Rattle.bf_search.specs.Candidates.{is_candidate, candidates, candidate_row, weight, weights}
use Rattle.bf_search.specs.Choice.{best}
use Rattle.bf_search.specs.Bases.{common_places, merge_bases, reaches_all, check_bases, check}
use Rattle.bf_search.specs.State.{best_of, ask, mark}
use Rattle.bf_terms.specs.Texts.{Commits, Sides, standard_sides, waiting_for_old, waiting_for_both, waiting_for_new, given_terms, first_words, possible_words}
use Rattle.bf_terms.specs.Texts.{end_lines, end_words, start_lines, mark_lines, skipped_left_lines, entry_lines, log_from, log}
use Rattle.bf_reading.specs.Reading.{is_word, lines_of, past_blanks, behind, command_text, take_bytes, words_of, read_start, read_words, read_lines, read_log}
use Rattle.bf_reading.specs.declared.line.LogLine.{LogLine}
use Rattle.bf_log.specs.Replay.{Setting, ReplayFault, Name, NotStarted, Term, Replayed, places_of, replay_from, replay}

abbrev pub three : Commits
three = record { names = (16 ∷ []) ∷ (17 ∷ []) ∷ (18 ∷ []) ∷ []; subjects = codes "c0" ∷ codes "c1" ∷ [] ∷ [] }

abbrev pub place_at : List ℕ → Result ℕ Bool
place_at text = if is_word (codes "10") text then Ok 0 else if is_word (codes "11") text then Ok 1 else if is_word
    (codes "12") text then Ok 2 else Err false

abbrev pub fork : Setting Bool
fork = record { graph = [] ∷ (0 ∷ []) ∷ (0 ∷ []) ∷ []; place_of = place_at }

abbrev replayed_log : List ℕ → Result Replayed (ReplayFault Bool)
replayed_log text = on_read (read_log text)
  where
    on_read : Result (List LogLine) ℕ → Result Replayed (ReplayFault Bool)
    on_read (Ok lines) = replay fork lines
    on_read (Err line) = Err (Term line)

abbrev entries_of : Result Replayed (ReplayFault Bool) → List Entry
entries_of (Ok r) = r.told.entries
entries_of (Err fault) = []

abbrev step_of : Result Replayed (ReplayFault Bool) → Option Step
step_of (Ok r) = Some (ask fork.graph r.told.search).step
step_of (Err fault) = None

abbrev terms_after : Result Replayed (ReplayFault Bool) → Option Sides
terms_after (Ok r) = if r.terms_open then None else Some r.terms
terms_after (Err fault) = None

-- a run that skipped its merge base: the printed log leads to the state before the last ask
abbrev printed : List Entry
printed = Start false false (Some 1) (2 ∷ []) ∷ Marked Skip 0 ∷ SkippedBase 0 ∷ FirstBadFound 1 ∷ []

printed_entries : entries_of (replayed_log (log three standard_sides printed)) ≡ Start false false (Some 1)
    (2 ∷ []) ∷ Marked Skip 0 ∷ []
unfolding waiting_for_old waiting_for_both waiting_for_new given_terms first_words possible_words entry_lines
    end_lines end_words start_lines mark_lines skipped_left_lines log_from encode_with lines_of past_blanks
    behind command_text take_bytes words_of read_start read_words read_lines places_of replay_from
    reaches_within reaches any_reaches is_candidate candidates candidate_row weight weights best common_places
    merge_bases reaches_all check_bases check best_of ask mark
printed_entries = refl

printed_step : step_of (replayed_log (log three standard_sides printed)) ≡ Some
    (record { warned = 0 ∷ []; ask = FirstBad 1 })
unfolding waiting_for_old waiting_for_both waiting_for_new given_terms first_words possible_words entry_lines
    end_lines end_words start_lines mark_lines skipped_left_lines log_from encode_with lines_of past_blanks
    behind command_text take_bytes words_of read_start read_words read_lines places_of replay_from
    reaches_within reaches any_reaches is_candidate candidates candidate_row weight weights best common_places
    merge_bases reaches_all check_bases check best_of ask mark
printed_step = refl

-- open terms: a skip leaves them open, and the first new or old makes the terms
open_terms : terms_after (replayed_log (codes "git bisect start\ngit bisect skip 10\ngit bisect new 11\ngit bisect old 12\n")) ≡ Some
    (record { new = codes "new"; old = codes "old" })
unfolding lines_of past_blanks behind command_text take_bytes words_of read_start read_words read_lines
    places_of replay_from ask mark
open_terms = refl

closed_terms : replayed_log (codes "git bisect start\ngit bisect bad 11\ngit bisect old 12\n") ≡ Err (Term 3)
unfolding lines_of past_blanks behind command_text take_bytes words_of read_start read_words read_lines
    places_of replay_from ask mark
closed_terms = refl

-- the refusals, with their lines
not_started : replayed_log (codes "# a log\ngit bisect good 10\n") ≡ Err (NotStarted 2)
unfolding lines_of past_blanks behind command_text take_bytes words_of read_start read_words read_lines
    places_of replay_from ask mark
not_started = refl

nothing : replayed_log [] ≡ Err (NotStarted 1)
unfolding lines_of past_blanks behind command_text take_bytes words_of read_start read_words read_lines
    places_of replay_from ask mark
nothing = refl

no_name : replayed_log (codes "git bisect start 11\ngit bisect good 13\n") ≡ Err (Name 2 false)
unfolding lines_of past_blanks behind command_text take_bytes words_of read_start read_words read_lines
    places_of replay_from ask mark
no_name = refl

-- the terms of a start come before its names
terms_first : replayed_log (codes "git bisect start --term-new=good 13\n") ≡ Err (Term 1)
unfolding lines_of past_blanks behind command_text take_bytes words_of read_start read_words read_lines
    places_of replay_from ask mark
terms_first = refl
