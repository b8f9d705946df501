-- What the program answers for its words, its stream and its files, in the order of its refusals: the words, the stream to its
-- end, the log that is replayed, the names, an end that is missing, and then the run.
use Rattle.std.specs.Prelude.{◌≡◌, ◌⊎◌, ℕ, Bool, true, false, IsTrue, List, Option, Some, is_some, Result, Ok, Err}
use Rattle.bf_history.specs.Meanings.{History}
use Rattle.bf_words.specs.declared.request.Request.{Request}
use Rattle.bf_words.specs.declared.verb.Verb.{Verb}
use Rattle.bf_words.specs.declared.verb.Verb.TheVariants.{Simulate, Run, Next, Replay, Gen, Sample}
use Rattle.bf_io.specs.declared.shelf.LoadFault.{LoadFault}
use Rattle.bf_io.specs.declared.shelf.ShelfFile.{ShelfFile}
use Rattle.bf_words.specs.Words.{request}
use Rattle.bf_output.specs.declared.status.Status.TheVariants as status
use Rattle.bf_output.specs.Beginning.{Begun, begun_with_skips}
use Rattle.bf_output.specs.Gen.{generated, made_stream}
use Rattle.bf_output.specs.Inputs.{IsFiledIf, IsStreamed, IsToldFrom, IsToldOr}
use Rattle.bf_output.specs.Next.{next_told}
use Rattle.bf_output.specs.Refusals.{usage}
use Rattle.bf_output.specs.Replay.{replay_told}
use Rattle.bf_output.specs.Sample.{sampled}
use Rattle.bf_output.specs.Simulate.{IsSimulated}
use Rattle.bf_output.specs.Shown.{TesterShown, IsPrepared}
use Rattle.bf_output.specs.Tested.{IsTestedRun, IsTestCut}
use Rattle.bf_output.specs.Told.{Told, told_by}

-- what the program is given beside its stream: its words, the files of its shelf, and what its tester shows
pub record Given : Type 0 where
  pub words : List (List ℕ)
  pub files : Option (List ShelfFile)  -- where the shelf tells them
  pub tested : TesterShown

abbrev pub given_to : List (List ℕ) → Option (List ShelfFile) → TesterShown → Given
given_to words files tested = record { words = words; files = files; tested = tested }

-- ---- over a history

-- what a search tells that has begun: over a plan that is written, or by tests; the other commands begin none
abbrev pub IsSearched : Verb → Request → List (List ℕ) → TesterShown → History → Begun → Told → Type 0
IsSearched Simulate request words tested history first told = IsSimulated request words history first told
IsSearched Run request words tested history first told =
    IsTestedRun request tested history first told
    ⊎ (IsTestCut status.WriteFault request tested history first told ⊎ IsTestCut status.NoMemory request tested history first told)
IsSearched other request words tested history first told = ⊥

-- what a command answers over a history and the file that it is given; `gen` looks at none
abbrev pub IsOverFile : Verb → Request → List (List ℕ) → TesterShown → Option (Result (List ℕ) LoadFault) → History → Told → Type 0
IsOverFile Simulate request words tested file history told =
    IsToldFrom (IsSearched Simulate request words tested history) (begun_with_skips request words file history) told
IsOverFile Run request words tested file history told =
    IsToldFrom (IsSearched Run request words tested history) (begun_with_skips request words file history) told
IsOverFile Next request words tested file history told = told ≡ told_by (next_told request words file history)
IsOverFile Replay request words tested file history told = told ≡ told_by (replay_told file history)
IsOverFile Gen request words tested file history told = told ≡ generated request
IsOverFile Sample request words tested file history told = told ≡ sampled request history

-- behind the log that the words name, or without one
abbrev pub IsOver : Request → Given → History → Told → Type 0
IsOver request given history told =
    IsFiledIf (λ file told. IsOverFile request.verb request given.words given.tested file history told) given.words request.replay given.files told

-- what is told of a search that words begin over a history, whatever command tells it
abbrev pub IsSearchOver : (History → Begun → Told → Type 0) → Request → List (List ℕ) → Option (List ShelfFile) → History → Told → Type 0
IsSearchOver IsTold request words files history told =
    IsFiledIf (λ file told. IsToldFrom (IsTold history) (begun_with_skips request words file history) told) words request.replay files told

-- ---- by the words

-- the commands that read the stream; the others have theirs from a number
abbrev pub reads_stream : Verb → Bool
reads_stream Gen = false
reads_stream Sample = false
reads_stream other = true

abbrev pub IsOutputOf : Verb → Request → Given → Option (List ℕ) → Told → Type 0
IsOutputOf Gen request given stream told = told ≡ generated request
IsOutputOf Sample request given stream told = IsStreamed (IsOver request given) (Some (made_stream request)) told
IsOutputOf other request given stream told = IsStreamed (IsOver request given) stream told

-- the words come first
abbrev pub IsOutput : Given → Option (List ℕ) → Told → Type 0
IsOutput given stream told = IsToldOr usage (λ (asked : Request) (other : Told). IsOutputOf asked.verb asked given stream other) (request given.words) told

-- a search that other words ask for, whatever command tells it
abbrev pub IsSearchTold : (Request → History → Begun → Told → Type 0) → Result Request ℕ → Given → Option (List ℕ) → Told → Type 0
IsSearchTold IsTold read given stream told =
    IsToldOr usage (λ (asked : Request) (other : Told). IsStreamed (IsSearchOver (IsTold asked) asked given.words given.files) stream other) read told

-- whether the words ask for a command that reads the stream
abbrev pub reads : Result Request ℕ → Bool
reads (Err word) = false
reads (Ok request) = reads_stream request.verb

-- whether the words ask for a file
abbrev pub asks_file : Result Request ℕ → Bool
asks_file (Err word) = false
asks_file (Ok request) = is_some request.replay

-- whether the words ask for a command that tests commits
abbrev pub is_run : Verb → Bool
is_run Run = true
is_run other = false

abbrev pub tests : Result Request ℕ → Bool
tests (Err word) = false
tests (Ok request) = is_run request.verb

-- whether the words ask for a trace
abbrev pub traces : Result Request ℕ → Bool
traces (Err word) = false
traces (Ok request) = request.trace

-- the tester is as it was, or the words ask for tests, and it took from them how it tests
abbrev pub IsUsedFor : Result Request ℕ → List (List ℕ) → TesterShown → TesterShown → Type 0
IsUsedFor (Err word) words before after = after ≡ before
IsUsedFor (Ok request) words before after = (after ≡ before) ⊎ (IsTrue (is_run request.verb) × IsPrepared request words before after)
