-- How the words of a `search` are read: as those of `next`, with `--lenient-exit` beside.
use Rattle.std.specs.Prelude.{ℕ, ◌+◌, nat_lt, true, if◌then◌else◌, List, [], ◌∷◌, ◌++◌, codes, drop, take, length, map, Option, Some, None, unwrap_or, Result, Ok, Err}
use Rattle.std.specs.Option.{option_map}
use Rattle.bf_history.specs.Meanings.{History}
use Rattle.bf_io.specs.declared.shelf.LoadFault.{LoadFault}
use Rattle.bf_io.specs.declared.shelf.LoadFault.TheVariants.{Missing}
use Rattle.bf_io.specs.declared.shelf.ShelfFile.{ShelfFile}
use Rattle.bf_output.specs.Beginning.{Begun, begun_with_skips}
use Rattle.bf_output.specs.Inputs.{file_of}
use Rattle.bf_output.specs.Told.{Told}
use Rattle.bf_words.specs.declared.options.Choice.TheVariants.{LenientExit}
use Rattle.bf_words.specs.declared.request.Request.{Request}
use Rattle.bf_words.specs.declared.verb.Verb.TheVariants.{Run}
use Rattle.bf_words.specs.FirstOption.{first_option}
use Rattle.bf_words.specs.Words.{request}

-- the words of a search: those that stand come before those of its own line, and `next` takes the place of the first word
abbrev pub words_to_begin : List (List ℕ) → List (List ℕ) → List (List ℕ)
words_to_begin pending words = codes "next" ∷ (pending ++ drop 1 words)

-- ---- --lenient-exit

-- where it is given, as `run` would read the words
abbrev pub lenient_at : List (List ℕ) → Option ℕ
lenient_at words = first_option Run (LenientExit ∷ []) words

-- words without the one of an index
abbrev pub without_word : List (List ℕ) → ℕ → List (List ℕ)
without_word words k = take k words ++ drop (k + 1) words

-- an index among the words without that of index k, as one of the whole line
abbrev pub index_past : ℕ → ℕ → ℕ
index_past k i = if nat_lt i k then i else i + 1

abbrev pub request_past : ℕ → Request → Request
request_past k asks = record asks {
  bad = option_map (index_past k) asks.bad;
  goods = map (index_past k) asks.goods;
  skips = map (index_past k) asks.skips;
  replay = option_map (index_past k) asks.replay;
  lenient = true;
}

abbrev pub read_past : ℕ → Result Request ℕ → Result Request ℕ
read_past k (Ok asks) = Ok (request_past k asks)
read_past k (Err word) = Err (index_past k word)

abbrev pub read_without : List (List ℕ) → Option ℕ → Result Request ℕ
read_without words None = request words
read_without words (Some k) = read_past k (request (without_word words k))

-- what the words of a search ask for, or the index of the word at fault; a line has at most so many words
unfoldable pub request_to_search : List (List ℕ) → Result Request ℕ
request_to_search words = if nat_lt 1000000 (length words) then Err 1000000 else read_without words (lenient_at words)

-- ---- --replay

-- the file that the words name, where these files stand
abbrev pub file_by : List ShelfFile → List (List ℕ) → Result Request ℕ → Result (List ℕ) LoadFault
file_by files words (Err word) = Err Missing
file_by files words (Ok asks) = file_of words (unwrap_or asks.replay 0) files

abbrev pub file_named_by : List ShelfFile → List (List ℕ) → Result (List ℕ) LoadFault
file_named_by files words = file_by files words (request_to_search words)

-- how a search begins; where its words name a file, this is what the shelf gives for it
abbrev pub begins_by : History → Result (List ℕ) LoadFault → List (List ℕ) → Request → Result Begun Told
begins_by history file words asks = begun_with_skips asks words (option_map (λ i. file) asks.replay) history
