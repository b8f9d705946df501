-- Lists of searches, as the code has them.
use Rattle.std.specs.Prelude.{◌≡◌, ℕ, ◌≤◌, true, false, List, ◌∷◌, length, map, All, Some, None, Result, Ok, IfErr}
use Rattle.bf_commands.specs.Many.{is_wrong_line, parted, refused_from, searches_of, words_of_line}
use Rattle.bf_reading.specs.Reading.{lines_of}
use Rattle.bf_words.specs.declared.request.Request.{Request}
use Rattle.bf_words.specs.Words.{request}
use Rattle.bf_many_run.specs.declared.list.ListFault.{ListFault}
use Rattle.bf_many_run.specs.declared.list.ListFault.TheVariants.{Line, NoMemory}
use Rattle.bf_many_run.specs.declared.list.ListLine.{ListLine}

-- a text is this line and, behind its LF, the rest
abbrev pub IsFirstLine : List ℕ → List ℕ → List ℕ → Type 0
IsFirstLine text line rest = lines_of text ≡ line ∷ lines_of rest

-- a text is this word and, behind a blank, the rest
abbrev pub IsFirstWord : List ℕ → List ℕ → List ℕ → Type 0
IsFirstWord text word rest = parted text ≡ word ∷ parted rest

-- the words of a line
abbrev pub words_in : ListLine → List (List ℕ)
words_in line = line.words.items

-- what the line asks for is what its words do
abbrev pub IsAskedBy : ListLine → Type 0
IsAskedBy line = request (words_in line) ≡ Ok line.request

-- words of the line of this number that are not refused
pub record IsAskedAt (number : ℕ) (words : List (List ℕ)) (r : Request) : Type 0 where
  pub asked : request words ≡ Ok r
  pub few : number ≤ 64
  pub right : is_wrong_line number words ≡ false

-- so the search of a line
pub record IsReadLine (number : ℕ) (text : List ℕ) (line : ListLine) : Type 0 where
  pub words : words_in line ≡ words_of_line text
  pub asked : IsAskedAt number (words_in line) line.request

-- the searches of a text: none of its lines is refused
pub record IsListOf (text : List ℕ) (lines : List ListLine) : Type 0 where
  pub words : searches_of text ≡ map words_in lines
  pub asked : All IsAskedBy lines
  pub few : length lines ≤ 64
  pub right : refused_from 1 (searches_of text) ≡ None

-- the words of the line of this number are refused
abbrev pub IsLineFault : ℕ → List (List ℕ) → ListFault → Type 0
IsLineFault number words (Line line) = (line ≡ number) × (is_wrong_line number words ≡ true)
IsLineFault number words NoMemory = Unit {0}

-- the first line of a text that is refused has this number
abbrev pub IsListFault : List ℕ → ListFault → Type 0
IsListFault text (Line line) = refused_from 1 (searches_of text) ≡ Some line
IsListFault text NoMemory = Unit {0}

abbrev pub RefusesList : {X : Type 0} → List ℕ → Result X ListFault → Type 0
RefusesList text result = IfErr result (IsListFault text)
