-- What a line asks for.
use Rattle.std.specs.Prelude.{ℕ, ◌≤◌, ◌==◌, nat_le, nat_lt, ◌&&◌, if◌then◌else◌, List, [], ◌∷◌, codes, length, Option, Some, None, Result, Ok, Err, ⊤}
use Rattle.std.specs.List.{starts_with}
use Rattle.std.specs.Option.{ok_or}
use Rattle.bf_io.specs.Decimal.{decimal_value}
use Rattle.bf_reading.specs.Reading.{is_word}
use Rattle.bf_search.specs.declared.outcomes.Outcome.{Outcome}
use Rattle.bf_search.specs.declared.outcomes.Outcome.TheVariants.{Exit, Killed}
use Rattle.bf_terms.specs.Texts.{text_line}
use Rattle.bf_protocol.specs.declared.request.Asked.{Asked}
use Rattle.bf_protocol.specs.declared.request.Asked.TheVariants as asked
use Rattle.bf_protocol.specs.declared.request.Refusal.{Refusal}
use Rattle.bf_protocol.specs.declared.request.Refusal.TheVariants as refusal
use Rattle.bf_protocol.specs.declared.request.Verb.{Verb}
use Rattle.bf_protocol.specs.declared.request.Verb.TheVariants as verb

-- ---- the words of a line

abbrev pub with_byte : ℕ → List (List ℕ) → List (List ℕ)
with_byte byte [] = (byte ∷ []) ∷ []
with_byte byte (word ∷ words) = (byte ∷ word) ∷ words

-- a line, parted by single blanks
unfoldable pub parted : List ℕ → List (List ℕ)
parted [] = [] ∷ []
parted (byte ∷ bytes) = if byte == 32 then [] ∷ parted bytes else with_byte byte (parted bytes)

abbrev pub words_in : List ℕ → List (List ℕ)
words_in line = parted line

-- ---- what a word is in itself

-- the number that a word is, in decimal without leading zeros
abbrev pub number_in : List ℕ → Option ℕ
number_in word = if nat_lt 1 (length word) && starts_with ◌==◌ word (codes "0") then None else decimal_value word

abbrev pub from_one_to : ℕ → Option ℕ → Option ℕ
from_one_to most None = None
from_one_to most (Some n) = if nat_le 1 n && nat_le n most then Some n else None

-- the number from 1 to this one that a word is
abbrev pub number_to : ℕ → List ℕ → Option ℕ
number_to most word = from_one_to most (number_in word)

-- the worker that a word names
abbrev pub worker_of : List ℕ → Result ℕ Refusal
worker_of word = ok_or (number_to 1024 word) refusal.BadWorker

-- the search that a word names
abbrev pub search_of : List ℕ → Result ℕ Refusal
search_of word = ok_or (number_to 64 word) refusal.BadSearch

abbrev pub status_in : Option ℕ → Result Outcome Refusal
status_in None = Err refusal.BadOutcome
status_in (Some n) = if nat_le n 255 then Ok (Exit n) else Err refusal.BadOutcome

-- the outcome that a word names: a status from 0 to 255, or `killed`
abbrev pub outcome_of : List ℕ → Result Outcome Refusal
outcome_of word = if is_word (codes "killed") word then Ok Killed else status_in (number_in word)

-- ---- what the words behind the first ask for

-- a request for a number, unless the number is refused
abbrev pub asks_for : (ℕ → Asked) → Result ℕ Refusal → Result Asked Refusal
asks_for request (Ok number) = Ok (request number)
asks_for request (Err why) = Err why

abbrev pub pick_of : List (List ℕ) → Result Asked Refusal
pick_of (worker ∷ []) = asks_for asked.Pick (worker_of worker)
pick_of words = Err refusal.WrongNumberOfWords

abbrev pub post_of : List (List ℕ) → Result Asked Refusal
post_of (worker ∷ outcome ∷ []) = asks_for (λ w. asked.Post w (outcome_of outcome)) (worker_of worker)
post_of words = Err refusal.WrongNumberOfWords

abbrev pub give_of : List (List ℕ) → Result Asked Refusal
give_of (worker ∷ []) = asks_for asked.Give (worker_of worker)
give_of words = Err refusal.WrongNumberOfWords

abbrev pub learn_of : List (List ℕ) → Result Asked Refusal
learn_of (search ∷ commit ∷ outcome ∷ []) = asks_for (λ s. asked.Learn s (outcome_of outcome)) (search_of search)
learn_of words = Err refusal.WrongNumberOfWords

abbrev pub wanted_of : List (List ℕ) → Result Asked Refusal
wanted_of (commit ∷ []) = Ok asked.Wanted
wanted_of words = Err refusal.WrongNumberOfWords

abbrev pub certificate_of : List (List ℕ) → Result Asked Refusal
certificate_of (search ∷ []) = asks_for asked.Certificate (search_of search)
certificate_of words = Err refusal.WrongNumberOfWords

-- ---- what a line asks for

-- the kind of request that a word names
abbrev pub verb_of : List ℕ → Option Verb
verb_of word =
    if is_word (codes "words") word then Some verb.Words
    else if is_word (codes "search") word then Some verb.Search
    else if is_word (codes "pick") word then Some verb.Pick
    else if is_word (codes "post") word then Some verb.Post
    else if is_word (codes "give") word then Some verb.Give
    else if is_word (codes "learn") word then Some verb.Learn
    else if is_word (codes "wanted") word then Some verb.Wanted
    else if is_word (codes "certificate") word then Some verb.Certificate
    else None

-- what a request asks for, with these words behind the first
abbrev pub asked_with : Verb → List (List ℕ) → Result Asked Refusal
asked_with verb.Words words = Ok asked.Words
asked_with verb.Search words = Ok asked.Search
asked_with verb.Pick words = pick_of words
asked_with verb.Post words = post_of words
asked_with verb.Give words = give_of words
asked_with verb.Learn words = learn_of words
asked_with verb.Wanted words = wanted_of words
asked_with verb.Certificate words = certificate_of words

abbrev pub asked_if : Option Verb → List (List ℕ) → Result Asked Refusal
asked_if None words = Err refusal.UnknownRequest
asked_if (Some verb) words = asked_with verb words

-- what the words of a line ask for; each line has one word at least
abbrev pub asked_by : List (List ℕ) → Result Asked Refusal
asked_by [] = Err refusal.UnknownRequest
asked_by (word ∷ words) = asked_if (verb_of word) words

-- from 1 to this number
abbrev pub IsFromOneTo : ℕ → ℕ → Type 0
IsFromOneTo most n = (1 ≤ n) × (n ≤ most)

-- a worker is one of 1,024, and a search one of 64
abbrev pub HasNumbersWithin : Asked → Type 0
HasNumbersWithin asked.Words = ⊤
HasNumbersWithin asked.Search = ⊤
HasNumbersWithin (asked.Pick worker) = IsFromOneTo 1024 worker
HasNumbersWithin (asked.Post worker outcome) = IsFromOneTo 1024 worker
HasNumbersWithin (asked.Give worker) = IsFromOneTo 1024 worker
HasNumbersWithin (asked.Learn search outcome) = IsFromOneTo 64 search
HasNumbersWithin asked.Wanted = ⊤
HasNumbersWithin (asked.Certificate search) = IsFromOneTo 64 search

-- ---- refusals

-- why a request is refused
abbrev pub words_of_refusal : Refusal → List ℕ
words_of_refusal refusal.UnknownRequest = codes "unknown request"
words_of_refusal refusal.WrongNumberOfWords = codes "wrong number of words"
words_of_refusal refusal.BadWorker = codes "bad worker"
words_of_refusal refusal.BadSearch = codes "bad search"
words_of_refusal refusal.BadOutcome = codes "bad outcome"
words_of_refusal refusal.NoSuchSearch = codes "no such search"
words_of_refusal refusal.NoSuchCommit = codes "no such commit"
words_of_refusal refusal.TooManyWords = codes "too many words"
words_of_refusal refusal.TooManySearches = codes "too many searches"
words_of_refusal refusal.WorkerHasATest = codes "worker has a test"
words_of_refusal refusal.WorkerHasNoTest = codes "worker has no test"
words_of_refusal refusal.HasAnOutcome = codes "has an outcome"
words_of_refusal refusal.IsUnderTest = codes "is under test"
words_of_refusal refusal.NoCertificate = codes "no certificate"
words_of_refusal refusal.LineTooLong = codes "line too long"

abbrev pub refusal_line : Refusal → List ℕ
refusal_line why = text_line (words_of_refusal why)
