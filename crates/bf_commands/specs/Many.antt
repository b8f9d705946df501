-- The command `many`: several searches over one history, each told as `simulate` tells it.
use Rattle.std.specs.Prelude.{ℕ, ◌+◌, Bool, ◌==◌, ◌||◌, if◌then◌else◌, List, [], ◌∷◌, ◌++◌, codes, is_some, map, length, nat_lt, Option, Some, None, Ok}
use Rattle.std.specs.Fmt.{decimal}
use Rattle.std.specs.Option.{option_map_or}
use Rattle.std.specs.Result.{is_err, result_map_both}
use Rattle.bf_history.specs.Meanings.{History}
use Rattle.bf_reading.specs.Reading.{lines_of}
use Rattle.bf_io.specs.declared.shelf.ShelfFile.{ShelfFile}
use Rattle.bf_terms.specs.Texts.{text_line}
use Rattle.bf_words.specs.declared.options.Choice.TheVariants.{Workers, Leg, Trace, Replay as ReplayOption}
use Rattle.bf_words.specs.declared.options.Form.TheVariants.{Count}
use Rattle.bf_words.specs.declared.verb.Verb.TheVariants.{Simulate}
use Rattle.bf_words.specs.FirstOption.{first_option}
use Rattle.bf_words.specs.Options.{count_of}
use Rattle.bf_words.specs.Words.{first_of, request, word_at}
use Rattle.bf_output.specs.declared.status.Status.{Status}
use Rattle.bf_output.specs.declared.status.Status.TheVariants as status
use Rattle.bf_output.specs.Beginning.{begun_with_skips}
use Rattle.bf_output.specs.Inputs.{IsStreamed, IsTextTold, IsToldUnless}
use Rattle.bf_output.specs.Refusals.{usage}
use Rattle.bf_output.specs.Simulate.{plan_of, ran, run_over}
use Rattle.bf_output.specs.Told.{Told, told_by}
use Rattle.bf_commands.specs.Orders.{wrong_count}
use Rattle.bf_grammar.specs.Forms.{◌>>=◌}

unfoldable pub list_refused : ℕ → Told
list_refused line = record {
  status = status.ListRefused line;
  text = text_line (codes "list refused at line " ++ decimal line);
}

-- ---- the words: how many workers there are, and the file

-- the number of workers, 1 to 64, where it is there and is none
abbrev pub wrong_workers : List (List ℕ) → Option ℕ
wrong_workers words = if nat_lt (length words) 2 || is_some (count_of (Count 64) (word_at words 1)) then None else Some 1

-- the number is tried first
abbrev pub wrong_word : List (List ℕ) → Option ℕ
wrong_word words = first_of (wrong_workers words ∷ wrong_count 3 words ∷ [])

-- ---- the lines of the file

abbrev pub with_byte : ℕ → List (List ℕ) → List (List ℕ)
with_byte byte [] = (byte ∷ []) ∷ []
with_byte byte (word ∷ words) = (byte ∷ word) ∷ words

-- the words of a line, parted by single blanks
unfoldable pub parted : List ℕ → List (List ℕ)
parted [] = [] ∷ []
parted (byte ∷ bytes) = if byte == 32 then [] ∷ parted bytes else with_byte byte (parted bytes)

-- a line is read as one of `simulate`, without that word
abbrev pub words_of_line : List ℕ → List (List ℕ)
words_of_line line = codes "simulate" ∷ parted line

abbrev pub searches_of : List ℕ → List (List (List ℕ))
searches_of bytes = map words_of_line (lines_of bytes)

-- whether these words give an option that a search among others has not
abbrev pub asks_for_more : List (List ℕ) → Bool
asks_for_more words = is_some (first_option Simulate (Workers ∷ Leg ∷ Trace ∷ ReplayOption ∷ []) words)

-- there are at most 64 searches, and each has words that are accepted
abbrev pub is_wrong_line : ℕ → List (List ℕ) → Bool
is_wrong_line n words = n == 65 || (is_err (request words) || asks_for_more words)

-- the number of the first line that is refused, or of the 65th
unfoldable pub refused_from : ℕ → List (List (List ℕ)) → Option ℕ
refused_from n [] = None
refused_from n (words ∷ lines) = if is_wrong_line n words then Some n else refused_from (n + 1) lines

-- ---- the searches

-- what `simulate` tells of the words of a line
abbrev pub searched : History → List (List ℕ) → Told
searched history words = told_by (result_map_both (λ r. r) usage (request words)
    >>= λ r. begun_with_skips r words None history
    >>= λ first. Ok (ran history first (run_over history first (plan_of r words))))

unfoldable pub search_line : ℕ → List ℕ
search_line n = text_line (codes "search " ++ decimal n)

-- the texts of all searches, each behind its number
unfoldable pub numbered : ℕ → List Told → List ℕ
numbered n [] = []
numbered n (told ∷ more) = search_line n ++ told.text ++ numbered (n + 1) more

-- a status, or the next one where it is that of a search that was done
abbrev pub or_status : Status → Status → Status
or_status status.Done other = other
or_status own other = own

-- the first status that is not that of a search that was done
unfoldable pub status_of_all : List Told → Status
status_of_all [] = status.Done
status_of_all (told ∷ more) = or_status told.status (status_of_all more)

abbrev pub told_of_all : List Told → Told
told_of_all tolds = record { status = status_of_all tolds; text = numbered 1 tolds }

-- ---- the whole

-- the first line that is refused, or what is told of all
abbrev pub told_of_list : History → List ℕ → Told
told_of_list history bytes =
    option_map_or list_refused (refused_from 1 (searches_of bytes)) (told_of_all (map (searched history) (searches_of bytes)))

-- the words come first, then the stream to its end, and then the file that word 2 names
abbrev pub IsManyOutput : List (List ℕ) → Option (List ShelfFile) → Option (List ℕ) → Told → Type 0
IsManyOutput words files stream told = IsToldUnless (wrong_word words) (λ told. IsStreamed (IsTextTold told_of_list words 2 files) stream told) told
