-- What the program tells of words that ask for a search is one commit after another.
use Rattle.std.proofs.Common.{◌≡◌, ℕ, true, List, Option, Some, None, Result, Ok, Err, IfOk, refl, sym}
use Rattle.bf_grammar.specs.Limits.{standard_limits}
use Rattle.bf_history.specs.Imports.{Loads}
use Rattle.bf_history.specs.Meanings.{History}
use Rattle.bf_io.specs.declared.shelf.LoadFault.{LoadFault}
use Rattle.bf_io.specs.declared.shelf.ShelfFile.{ShelfFile}
use Rattle.bf_replay.specs.Laws.{IsLoaded}
use Rattle.bf_words.specs.declared.request.Request.{Request}
use Rattle.bf_words.specs.declared.verb.Verb.{Verb}
use Rattle.bf_words.specs.declared.verb.Verb.TheVariants.{Simulate, Run, Next, Replay, Gen, Sample}
use Rattle.bf_words.specs.Words as asked
use Rattle.bf_output.specs.Beginning.{Begun, begun_with_skips}
use Rattle.bf_output.specs.Inputs.{IsFiledIf, IsStreamed, IsToldFrom, IsToldOr}
use Rattle.bf_output.specs.Logged.{searches}
use Rattle.bf_output.specs.Output.{Given, IsOver, IsOverFile, IsOutput, IsOutputOf, IsSearched, IsSearchOver, IsSearchTold}
use Rattle.bf_output.specs.Refusals.{usage}
use Rattle.bf_output.specs.Told.{Told}
use Rattle.bf_headline.proofs.Beginning.{ready}
use Rattle.bf_headline.proofs.Telling.{search_in_short}
use Rattle.bf_headline.specs.Telling.{IsSearchInShort}

abbrev FileGiven : Type 0
FileGiven = Option (Result (List ℕ) LoadFault)

-- ---- what is told of each step

of_begun : (A B : Begun → Told → Type 0) (step : Result Begun Told) (told : Told) → ((first : Begun) → step ≡ Ok first → A first told → B first told)
    → IsToldFrom A step told → IsToldFrom B step told
of_begun A B (Ok first) told more is = more first refl is
of_begun A B (Err refused) told more is = is

of_file : (A B : FileGiven → Told → Type 0) (words : List (List ℕ)) (replay : Option ℕ) (files : Option (List ShelfFile)) (told : Told)
    → ((file : FileGiven) → A file told → B file told) → IsFiledIf A words replay files told → IsFiledIf B words replay files told
of_file A B words None files told more is = more None is
of_file A B words (Some i) files told more (file, at, is) = (file, at, more (Some file) is)

of_stream : (A B : History → Told → Type 0) (bytes : List ℕ) (told : Told)
    → ((history : History) → Loads bytes standard_limits (Ok history) → A history told → B history told)
    → IsStreamed A (Some bytes) told → IsStreamed B (Some bytes) told
of_stream A B bytes told more (Ok history, loads, is) = (Ok history, loads, more history loads is)
of_stream A B bytes told more (Err fault, loads, is) = (Err fault, loads, is)

-- ---- the whole

module _ (given : Given) (bytes : List ℕ) (told : Told) (request : Request) where
  abbrev InShort : History → Begun → Told → Type 0
  InShort history first other = IsSearchInShort request.verb request given.words given.tested history first other

  begun_in_short : (history : History) (file : FileGiven) (first : Begun) → Loads bytes standard_limits (Ok history)
      → begun_with_skips request given.words file history ≡ Ok first
      → IsSearched request.verb request given.words given.tested history first told → InShort history first told
  begun_in_short history file first loads begins is =
      let loaded : IsLoaded history = (standard_limits, loads.0, loads.1, sym loads.3) in
      search_in_short history first (ready request given.words file history first loaded begins) request.verb request given.words given.tested told is

  over_file : (verb : Verb) → searches verb ≡ true → (history : History) (file : FileGiven)
      → IsOverFile verb request given.words given.tested file history told
      → IsToldFrom (IsSearched verb request given.words given.tested history) (begun_with_skips request given.words file history) told
  over_file Simulate e history file is = is
  over_file Run e history file is = is
  over_file Next e history file is = absurd (cc)
  over_file Replay e history file is = absurd (cc)
  over_file Gen e history file is = absurd (cc)
  over_file Sample e history file is = absurd (cc)

  over_stream : (verb : Verb) → searches verb ≡ true → IsOutputOf verb request given (Some bytes) told → IsStreamed (IsOver request given) (Some bytes) told
  over_stream Simulate e is = is
  over_stream Run e is = is
  over_stream Next e is = absurd (cc)
  over_stream Replay e is = absurd (cc)
  over_stream Gen e is = absurd (cc)
  over_stream Sample e is = absurd (cc)

  asked_in_short : searches request.verb ≡ true → IsOutputOf request.verb request given (Some bytes) told
      → IsStreamed (IsSearchOver InShort request given.words given.files) (Some bytes) told
  asked_in_short e is =
      of_stream (IsOver request given) (IsSearchOver InShort request given.words given.files) bytes told
      (λ history loads over.
      of_file (λ file other. IsOverFile request.verb request given.words given.tested file history other)
      (λ file other. IsToldFrom (InShort history) (begun_with_skips request given.words file history) other)
      given.words request.replay given.files told
      (λ file filed.
      of_begun (IsSearched request.verb request given.words given.tested history) (InShort history)
      (begun_with_skips request given.words file history) told
      (λ first begins searched. begun_in_short history file first loads begins searched)
      (over_file request.verb e history file filed))
      over)
      (over_stream request.verb e is)

by_words : (given : Given) (bytes : List ℕ) (told : Told) (read : Result Request ℕ) → IfOk read (λ request. searches request.verb ≡ true)
    → IsToldOr usage (λ (request : Request) (other : Told). IsOutputOf request.verb request given (Some bytes) other) read told
    → IsSearchTold (λ request history first other. IsSearchInShort request.verb request given.words given.tested history first other)
    read given (Some bytes) told
by_words given bytes told (Ok request) e is = asked_in_short given bytes told request e is
by_words given bytes told (Err word) e is = is

pub output_in_short : (given : Given) (bytes : List ℕ) (told : Told) → IfOk (asked.request given.words) (λ request. searches request.verb ≡ true)
    → IsOutput given (Some bytes) told
    → IsSearchTold (λ request history first other. IsSearchInShort request.verb request given.words given.tested history first other)
    (asked.request given.words) given (Some bytes) told
output_in_short given bytes told e is = by_words given bytes told (asked.request given.words) e is
