-- From what the stream and the shelf gave to what is ready, and from there to what is told of it, whatever command tells it.
use Rattle.std.proofs.Common.{◌≡◌, ℕ, List, Option, Some, None, IfSome, option_map, Result, Ok, Err, IfOk, sym, subst, ◌∙◌}
use Rattle.std.proofs.lemmas.Bool.{false≢true}
use Rattle.std.specs.Borrow.{Bor}
use Rattle.bf_answers.specs.Answers.{IsWhole}
use Rattle.bf_answers.specs.declared.answer.Answer.{Answer}
use Rattle.bf_answers.specs.declared.answer.Fault.{Fault}
use Rattle.bf_answers.specs.declared.line.RequestLine.{RequestLine}
use Rattle.bf_answers.specs.declared.started.Ready.{Ready}
use Rattle.bf_answers.specs.declared.started.Ready.TheVariants.{Told as ToldAnswer, Search}
use Rattle.bf_answers.specs.Tellings.{begun_of, told_of}
use Rattle.bf_answers.proofs.Streamed.{imported, not_imported}
use Rattle.bf_begin.specs.declared.file.LogFile.{LogFile}
use Rattle.bf_begin.specs.Files.{file_given, given_of, IsFileAt, IsFileOf}
use Rattle.bf_grammar.specs.declared.fault.Limits.{Limits}
use Rattle.bf_grammar.specs.Limits.{standard_limits}
use Rattle.bf_history.specs.declared.fault.ImportFault.{ImportFault}
use Rattle.bf_history.specs.Imports.{MayImport}
use Rattle.bf_import.specs.Faults.{IsImportFault}
use Rattle.bf_history.specs.Meanings.{History}
use Rattle.bf_output.specs.Beginning.{Begun, begun_with_skips}
use Rattle.bf_output.specs.Inputs.{IsFiledIf, IsImported, IsReadUnder, IsStreamed, IsTextTold, IsToldFrom, IsToldOr, file_of}
use Rattle.bf_output.specs.Logs.{file_or_refusal}
use Rattle.bf_output.specs.Output.{IsSearchOver}
use Rattle.bf_output.specs.Refusals.{refusal}
use Rattle.bf_output.specs.Told.{Told}
use Rattle.bf_io.specs.declared.shelf.LoadFault.{LoadFault}
use Rattle.bf_io.specs.declared.shelf.ShelfFile.{ShelfFile}
use Rattle.bf_begin.specs.Opening.{IsBegunAs, IsBegunBehind, IsBegunFile, IsBegunLoaded, IsBegunOver, IsBegunStream, IsOf, IsReadFrom, IsReadyTold}

-- from the file that the shelf gave
behind : (replay : Option ℕ) (line : RequestLine) (files : Option (List ShelfFile)) (history : History) (file : Option LogFile) (ready : Ready)
    → IsFileOf files line.words.now replay file
    → IsBegunAs (begun_with_skips line.request.now line.words.now (option_map given_of file) history) history ready
    → IsBegunBehind replay line files history ready
behind None line files history file ready is begun =
    let P : Option LogFile → Type 0 = λ f. IsBegunAs (begun_with_skips line.request.now line.words.now (option_map given_of f) history) history ready in
    subst P is begun
behind (Some i) line None history None ready is begun = absurd (false≢true is)
behind (Some i) line None history (Some file) ready is begun = (given_of file, tt, begun)
behind (Some i) line (Some files) history None ready is begun = absurd (cc)
behind (Some i) line (Some files) history (Some file) ready is begun = (given_of file, cc, begun)

pub begun_over : (line : RequestLine) (files : Option (List ShelfFile)) (history : History) (file : Option LogFile) (lent : Option (Bor LogFile))
    (result : Result Ready Fault)
    → IsFileOf files line.words.now line.request.now.replay file → file_given lent ≡ option_map given_of file
    → IfOk result (IsBegunFile line lent history) → IfOk result (IsBegunOver line files history)
begun_over line files history file lent (Err fault) is given begun = tt
begun_over line files history file lent (Ok ready) is given begun =
    behind line.request.now.replay line files history file ready is
    (subst (λ (f : Option (Result (List ℕ) LoadFault)). IsBegunAs (begun_with_skips line.request.now line.words.now f history) history ready) given begun)

-- from what the stream gave
pub begun_loaded : (line : RequestLine) (files : Option (List ShelfFile)) (left : Option (List ℕ)) (history : History) (result : Result Ready Fault)
    → MayImport left standard_limits (Ok history) → IfOk result (IsBegunOver line files history) → IfOk result (IsBegunStream line files left)
begun_loaded line files left history (Err fault) may begun = tt
begun_loaded line files left history (Ok ready) may begun = (Ok history, imported left standard_limits history may, begun)

pub begun_refused : (line : RequestLine) (files : Option (List ShelfFile)) (left : Option (List ℕ)) (fault : ImportFault) (answer : Answer)
    → IsImported left standard_limits (Err fault) → told_of answer ≡ refusal fault → IsBegunStream line files left (ToldAnswer answer)
begun_refused line files left fault answer read is = (Err fault, read, is)

pub read_from : (left : Option (List ℕ)) (history : History) (result : Result Ready Fault) → MayImport left standard_limits (Ok history)
    → IfOk result (IsOf history) → IfOk result (IsReadFrom left)
read_from left history (Err fault) may of = tt
read_from left history (Ok (ToldAnswer answer)) may of = tt
read_from left history (Ok (Search started)) may of = subst (λ (h : History). MayImport left standard_limits (Ok h)) (sym of) may

-- ---- what is told of what is ready

module _ (IsTold : History → Begun → Told → Type 0) (line : RequestLine) (files : Option (List ShelfFile)) (ready : Ready) (told : Told)
    (tells : IsReadyTold IsTold ready told) where
  from_begun : (begun : Result Begun Told) (history : History) → IsBegunAs begun history ready → IsToldFrom (IsTold history) begun told
  from_begun begun history is = by ready is tells
    where
      by : (r : Ready) → IsBegunAs begun history r → IsReadyTold IsTold r told → IsToldFrom (IsTold history) begun told
      by (ToldAnswer answer) is tells = subst (λ (b : Result Begun Told). IsToldFrom (IsTold history) b told) (sym is) tells
      by (Search started) (is, same) tells =
          subst (λ (b : Result Begun Told). IsToldFrom (IsTold history) b told) (sym is)
          (subst (λ (h : History). IsTold h (begun_of started.first) told) same tells)

  told_behind : (replay : Option ℕ) (history : History) → IsBegunBehind replay line files history ready
      → IsFiledIf (λ file t. IsToldFrom (IsTold history) (begun_with_skips line.request.now line.words.now file history) t) line.words.now replay files told
  told_behind None history begun = from_begun _ history begun
  told_behind (Some i) history (file, at, begun) = (file, at, from_begun _ history begun)

  told_loaded : (result : Result History ImportFault) → IsBegunLoaded line files result ready
      → IsToldOr refusal (IsSearchOver IsTold line.request.now line.words.now files) result told
  told_loaded (Ok history) begun = told_behind line.request.now.replay history begun
  told_loaded (Err fault) begun = by ready begun tells
    where
      by : (r : Ready) → IsBegunLoaded line files (Err fault) r → IsReadyTold IsTold r told → told ≡ refusal fault
      by (ToldAnswer answer) begun tells = tells ∙ begun
      by (Search started) begun tells = absurd begun

  pub ready_told : (left : Option (List ℕ)) → IsBegunStream line files left ready
      → IsStreamed (IsSearchOver IsTold line.request.now line.words.now files) left told
  ready_told left (result, loads, begun) = (result, loads, told_loaded result begun)

-- ---- the text of a file

module _ (limits : Limits) (tell : History → List ℕ → Told) (left : Option (List ℕ)) (files : Option (List ShelfFile)) (words : List (List ℕ)) (i : ℕ) where
  -- what is told of a file that the shelf gave is told by the words
  pub text_over : (history : History) (file : LogFile) (told : Told) → MayImport left limits (Ok history) → IsFileAt files words i file
      → IsToldFrom (λ bytes t. t ≡ tell history bytes) (file_or_refusal (given_of file)) told
      → IsReadUnder limits (IsTextTold tell words i files) left told
  text_over history file told may is tells = (Ok history, imported left limits history may, (given_of file, at files is, tells))
    where
      at : (given : Option (List ShelfFile)) → IsFileAt given words i file → IfSome given (λ all. given_of file ≡ file_of words i all)
      at None is = tt
      at (Some all) is = is

  -- and so is the refusal of the stream
  pub text_refused : (fault : ImportFault) (answer : Answer) → MayImport left limits (Err fault) → IsImportFault fault
      → IsWhole answer.status → told_of answer ≡ refusal fault → IsReadUnder limits (IsTextTold tell words i files) left (told_of answer)
  text_refused fault answer may known whole is = (Err fault, not_imported left limits fault (told_of answer) may known whole is, is)

  -- so is what is answered to the text
  pub text_told : {E : Type 0} (history : History) (text : List ℕ) (result : Result Answer E)
      → IsReadUnder limits (IsTextTold tell words i files) left (tell history text) → IfOk result (λ a. told_of a ≡ tell history text)
      → IfOk result (λ a. IsReadUnder limits (IsTextTold tell words i files) left (told_of a))
  text_told history text (Err e) is said = tt
  text_told history text (Ok a) is said = subst (λ (t : Told). IsReadUnder limits (IsTextTold tell words i files) left t) (sym said) is
