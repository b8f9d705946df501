-- From how a search begins to what is ready: the search, or its refusal.
use Rattle.std.proofs.Common.{◌≡◌, ℕ, List, [], Option, Some, None, Result, Ok, Err, IfOk, refl, sym, ap, subst, ◌∙◌}
use Rattle.std.proofs.lemmas.Bool.{false≢true}
use Rattle.std.specs.Option.{option_map}
use Rattle.bf_history.specs.Meanings.{History}
use Rattle.bf_words.specs.declared.request.Request.{Request}
use Rattle.bf_output.specs.Shown.{TesterShown}
use Rattle.bf_output.specs.Told.{Told}
use Rattle.bf_answers.specs.declared.answer.Fault.{Fault}
use Rattle.bf_answers.specs.declared.started.Ready.{Ready}
use Rattle.bf_answers.specs.declared.started.Ready.TheVariants.{Told as Told_, Search}
use Rattle.bf_answers.specs.Ready.{AllTold, IsToldBy, verb_of}
use Rattle.bf_output.specs.Beginning.{Begun}
use Rattle.bf_output.specs.Inputs.{IsFiledIf, IsToldFrom}
use Rattle.bf_output.specs.Output.{IsOver, IsOverFile, IsSearched, given_to}
use Rattle.bf_io.specs.declared.shelf.LoadFault.{LoadFault}
use Rattle.bf_io.specs.declared.shelf.ShelfFile.{ShelfFile}
use Rattle.bf_begin.specs.declared.file.LogFile.{LogFile}
use Rattle.bf_begin.specs.Files.{given_of, IsFileOf}
use Rattle.bf_answers.specs.declared.started.Beginning.{Beginning}
use Rattle.bf_answers.specs.declared.started.Means.{Means}
use Rattle.bf_words.specs.declared.verb.Verb.{Verb}
use Rattle.bf_answers.specs.Tellings.{begun_of, told_of}

-- a search that has begun is told as one that begins so
pub started_told : (request : Request) (words : List (List ℕ)) (meant : Result Begun Told) (history : History) (first : Beginning) (means : Means)
    → meant ≡ Ok (begun_of first)
    → (tested : TesterShown) (told : Told) → IsSearched (verb_of means) request words tested history (begun_of first) told
    → IsToldFrom (IsSearched (verb_of means) request words tested history) meant told
started_told request words meant history first means is = λ tested told tells.
    subst (λ (m : Result Begun Told). IsToldFrom (IsSearched (verb_of means) request words tested history) m told) (sym is) tells

-- a refusal is told as it is
pub refused_by : (request : Request) (words : List (List ℕ)) (meant : Result Begun Told) (verb : Verb) (history : History) (refusal : Told)
    (result : Result Ready Fault)
    → meant ≡ Err refusal → IfOk result (λ ready. IsToldBy ready refusal)
    → IfOk result (λ ready. AllTold request words ready (λ tested told. IsToldFrom (IsSearched verb request words tested history) meant told))
refused_by request words meant verb history refusal (Err cut) is told = tt
refused_by request words meant verb history refusal (Ok (Search started)) is told = absurd told
refused_by request words meant verb history refusal (Ok (Told_ answer)) is told = λ tested t tells.
    subst (λ (m : Result Begun Told). IsToldFrom (IsSearched verb request words tested history) m t) (sym is) (tells ∙ told)

-- from the file that the shelf gave
over_file : (replay : Option ℕ) (request : Request) (words : List (List ℕ)) (files : Option (List ShelfFile)) (tested : TesterShown) (history : History)
    (file : Option LogFile) (told : Told) → IsFileOf files words replay file
    → IsOverFile request.verb request words tested (option_map given_of file) history told
    → IsFiledIf (λ f t. IsOverFile request.verb request words tested f history t) words replay files told
over_file None request words files tested history file told is over =
    let P : Option LogFile → Type 0 = λ f. IsOverFile request.verb request words tested (option_map given_of f) history told in
    subst P is over
over_file (Some i) request words None tested history None told is over = absurd (false≢true is)
over_file (Some i) request words None tested history (Some file) told is over = (given_of file, tt, over)
over_file (Some i) request words (Some files) tested history None told is over = absurd (cc)
over_file (Some i) request words (Some files) tested history (Some file) told is over = (given_of file, cc, over)

pub all_over_file : (request : Request) (words : List (List ℕ)) (files : Option (List ShelfFile)) (history : History) (file : Option LogFile)
    (result : Result Ready Fault)
    → IsFileOf files words request.replay file
    → IfOk result (λ ready. AllTold request words ready (λ tested told. IsOverFile request.verb request words tested (option_map given_of file) history told))
    → IfOk result (λ ready. AllTold request words ready (λ tested told. IsOver request (given_to words files tested) history told))
all_over_file request words files history file (Err cut) is over = tt
all_over_file request words files history file (Ok ready) is over = λ tested told tells.
    over_file request.replay request words files tested history file told is (over tested told tells)
