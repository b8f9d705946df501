-- From what an import answers to what the program answers.
use Rattle.std.proofs.Common.{◌≡◌, ℕ, List, Option, Some, None, Result, Ok, Err, IfOk, sym, subst, ◌∙◌}
use Rattle.bf_grammar.specs.Limits.{standard_limits}
use Rattle.bf_history.specs.declared.fault.ImportFault.{ImportFault}
use Rattle.bf_history.specs.Imports.{MayImport}
use Rattle.bf_history.specs.Meanings.{History}
use Rattle.bf_words.specs.declared.request.Request.{Request}
use Rattle.bf_output.specs.Inputs.{IsImported, IsStreamed}
use Rattle.bf_output.specs.Output.{given_to, IsOver}
use Rattle.bf_output.specs.Refusals.{refusal}
use Rattle.bf_output.specs.Shown.{TesterShown}
use Rattle.bf_output.specs.Told.{Told}
use Rattle.bf_io.specs.declared.shelf.LoadFault.{LoadFault}
use Rattle.bf_io.specs.declared.shelf.ShelfFile.{ShelfFile}
use Rattle.std.specs.Option.{option_map}
use Rattle.bf_begin.specs.declared.file.LogFile.{LogFile}
use Rattle.bf_begin.specs.Files.{given_of, IsFileOf}
use Rattle.bf_answers.specs.declared.answer.Answer.{Answer}
use Rattle.bf_answers.specs.declared.answer.Fault.{Fault}
use Rattle.bf_answers.specs.declared.started.Ready.{Ready}
use Rattle.bf_answers.specs.declared.started.Ready.TheVariants.{Told as Told_, Search}
use Rattle.bf_answers.specs.Ready.{AllTold, IsToldBy}
use Rattle.bf_answers.specs.Tellings.{told_of}
use Rattle.bf_answers.proofs.Streamed.{streamed}

-- an answer that tells this
abbrev answer_of : Told → Answer
answer_of told = record { status = told.status; text = told.text }

pub all_loaded : (request : Request) (words : List (List ℕ)) (files : Option (List ShelfFile)) (left : Option (List ℕ)) (history : History)
    (result : Result Ready Fault)
    → MayImport left standard_limits (Ok history)
    → IfOk result (λ ready. AllTold request words ready (λ tested told. IsOver request (given_to words files tested) history told))
    → IfOk result (λ ready. AllTold request words ready (λ tested told. IsStreamed (IsOver request (given_to words files tested)) left told))
all_loaded request words files left history (Err cut) may over = tt
all_loaded request words files left history (Ok ready) may over = λ tested told tells.
    streamed (IsOver request (given_to words files tested)) left history (Ok (answer_of told)) may (over tested told tells)

pub all_refused : (request : Request) (words : List (List ℕ)) (files : Option (List ShelfFile)) (left : Option (List ℕ)) (fault : ImportFault) (answer : Answer)
    → IsImported left standard_limits (Err fault) → told_of answer ≡ refusal fault
    → AllTold request words (Told_ answer) (λ tested told. IsStreamed (IsOver request (given_to words files tested)) left told)
all_refused request words files left fault answer read is = λ tested told tells. (Err fault, read, tells ∙ is)

-- what says this is told so, whatever a tester shows
pub all_told_by : (request : Request) (words : List (List ℕ)) (meaning : Told) (result : Result Ready Fault) → IfOk result (λ ready. IsToldBy ready meaning)
    → IfOk result (λ ready. AllTold request words ready (λ tested told. told ≡ meaning))
all_told_by request words meaning (Err cut) is = tt
all_told_by request words meaning (Ok (Told_ answer)) is = λ tested told tells. tells ∙ is
all_told_by request words meaning (Ok (Search started)) is = absurd is

pub answer_told : (request : Request) (words : List (List ℕ)) (meaning : Told) (answer : Answer) → told_of answer ≡ meaning
    → AllTold request words (Told_ answer) (λ tested told. told ≡ meaning)
answer_told request words meaning answer is = λ tested told tells. tells ∙ is
