-- From what was written to what a call answers.
use Rattle.std.proofs.Common.{◌≡◌, ◌≢◌, inl, inr, ℕ, ◌≤◌, IsTrue, is_none, List, ◌++◌, Option, Some, None, Result, Ok, Err, IfOk, IsErrOf, refl, sym, subst}
use Rattle.std.specs.Option.{IfSome}
use Rattle.std.specs.Result.{OnErr, OnOk}
use Rattle.std.proofs.lemmas.Bool.{false≢true}
use Rattle.bf_answers.specs.declared.answer.Answer.{Answer}
use Rattle.bf_answers.specs.declared.answer.Fault.{Fault}
use Rattle.bf_answers.specs.Answers.{Answers, IsWhole}
use Rattle.bf_answers.specs.Devices.{HasFailed, Met, ShelfMet}
use Rattle.bf_answers.specs.Tellings.{told_of}
use Rattle.bf_answers.proofs.Answering.{read_cause}
use Rattle.bf_answers.proofs.Streamed.{not_imported}
use Rattle.bf_commands.specs.Orders.{limits_asked}
use Rattle.bf_history.specs.declared.fault.ImportFault.{ImportFault}
use Rattle.bf_history.specs.Imports.{MayImport}
use Rattle.bf_history.specs.Meanings.{History}
use Rattle.bf_import.specs.Faults.{IsImportFault}
use Rattle.bf_import.specs.Rest.{Leaves}
use Rattle.bf_io.specs.Told.{Appends, AppendsFront}
use Rattle.bf_lines.specs.declared.fault.ServeFault.{ServeFault}
use Rattle.bf_lines.specs.declared.fault.ServeFault.TheVariants as faults
use Rattle.bf_lines.specs.Lines.{told}
use Rattle.bf_output.specs.declared.status.Status.{Status}
use Rattle.bf_output.specs.declared.status.Status.TheVariants as status
use Rattle.bf_output.specs.Inputs.{IsReadUnder}
use Rattle.bf_output.specs.Refusals.{refusal, usage}
use Rattle.bf_output.specs.Told.{Told}
use Rattle.bf_serve_run.specs.Command.{IsBegunBehind, IsCutOff, IsCutServing, IsServeComplete, IsServeOutput, IsServedAll, IsUntold, ServeAnswers}
use Rattle.bf_serve_run.specs.Command.{serves, status_of, to_serve, wrong_word}
use Rattle.bf_serve_run.specs.Serving.{WritesAll, WritesFront, WritesSome, shelf_until}

-- ---- causes

pub read_of : (met : Met) (result : Status) → ServeAnswers met result → result ≡ status.ReadFault → HasFailed met.source.faults
read_of met result (inl a) e = read_cause (to_serve met) met result a e
read_of met result (inr (inl cut)) e = (subst (IsCutServing met) e cut).0.1
read_of met result (inr (inr untold)) e = absurd (subst (IsUntold met) e untold)

pub no_file_of : (met : Met) (result : Status) → ServeAnswers met result → result ≡ status.ShelfFault → ⊥
no_file_of met result (inl a) e = false≢true (subst (Answers (to_serve met) met) e a).0.0
no_file_of met result (inr (inl cut)) e = subst (IsCutServing met) e cut
no_file_of met result (inr (inr untold)) e = subst (IsUntold met) e untold

pub complete_of : (met : Met) (s : Status) → ServeAnswers met s → (s ≡ status.WriteFault → HasFailed met.sink.faults)
    → ((place : ℕ) → s ≢ status.TestFault place) → IsServeComplete met s
complete_of met status.ReadFault a write test = λ r w. absurd (r (read_of met status.ReadFault a refl))
complete_of met status.ShelfFault a write test = λ r w. absurd (no_file_of met status.ShelfFault a refl)
complete_of met status.WriteFault a write test = λ r w. absurd (w (write refl))
complete_of met (status.TestFault place) a write test = λ r w. absurd (test place refl)
complete_of met status.NoMemory a write test = λ r w. inl refl
complete_of met status.Done (inl a) write test = λ r w. inr (inl a)
complete_of met status.Done (inr (inl cut)) write test = λ r w. absurd cut
complete_of met status.Done (inr (inr untold)) write test = λ r w. inr (inr untold)
complete_of met other (inl a) write test = λ r w. inr (inl a)
complete_of met other (inr (inl cut)) write test = λ r w. absurd cut
complete_of met other (inr (inr untold)) write test = λ r w. absurd untold

-- ---- the words

pub serves_by : (words : List (List ℕ)) → wrong_word words ≡ None → IsTrue (serves words)
serves_by words right = subst (λ (w : Option ℕ). IsTrue (is_none w)) (sym right) refl

refuses_by : (words : List (List ℕ)) (shelf : ShelfMet) (source : Option (List ℕ)) (word : ℕ) (t : Told) → wrong_word words ≡ Some word
    → t ≡ usage word → IsServeOutput words shelf source t
refuses_by words shelf source word t wrong is = rw wrong is

-- words that say which one is at fault are told so
pub tells_usage : (words : List (List ℕ)) (shelf : ShelfMet) (source : Option (List ℕ)) (word : ℕ) (answer : Result Answer Fault)
    → wrong_word words ≡ Some word → IfOk answer (λ a. told_of a ≡ usage word)
    → IfOk answer (λ a. IsServeOutput words shelf source (told_of a))
tells_usage words shelf source word (Ok answer) wrong is = refuses_by words shelf source word (told_of answer) wrong is
tells_usage words shelf source word (Err fault) wrong is = tt

-- ---- a stream that is refused

output_of : (words : List (List ℕ)) (shelf : ShelfMet) (source : Option (List ℕ)) (t : Told) → wrong_word words ≡ None
    → IsReadUnder (limits_asked words) (IsServedAll (limits_asked words) shelf source) source t → IsServeOutput words shelf source t
output_of words shelf source t right is = rw right is

pub tells_refusal : (words : List (List ℕ)) (shelf : ShelfMet) (source : Option (List ℕ)) (fault : ImportFault) (answer : Result Answer Fault)
    → wrong_word words ≡ None → MayImport source (limits_asked words) (Err fault) → IsImportFault fault → IfOk answer (λ a. IsWhole a.status)
    → IfOk answer (λ a. told_of a ≡ refusal fault) → IfOk answer (λ a. IsServeOutput words shelf source (told_of a))
tells_refusal words shelf source fault (Err cut) right may known whole is = tt
tells_refusal words shelf source fault (Ok answer) right may known whole is =
    output_of words shelf source (told_of answer) right
    (Err fault, not_imported source (limits_asked words) fault (told_of answer) may known whole is, is)

-- ---- requests that were served

all_over : (met : Met) (history : History) (rest : List ℕ) (source left : Option (List ℕ)) → wrong_word met.words ≡ None
    → met.source.left ≡ source → MayImport source (limits_asked met.words) (Ok history) → Leaves source (limits_asked met.words) rest left
    → WritesAll history met.shelf (told rest left) met.sink.before met.sink.after → ServeAnswers met status.Done
all_over met history rest None left right e may leaves writes = inr (inr (serves_by met.words right, e))
all_over met history rest (Some bytes) None right e may leaves writes = absurd leaves
all_over met history rest (Some bytes) (Some more) right e may leaves (text, whole, gained) =
    let all : Told = record { status = status.Done; text = text } in
    let limits = limits_asked met.words in
    let read : IsReadUnder limits (IsServedAll limits met.shelf (Some bytes)) (Some bytes) all = (Ok history, may, (refl, (rest ++ more, leaves, whole))) in
    let output : IsServeOutput met.words met.shelf met.source.left all =
    output_of met.words met.shelf met.source.left all right
    (subst (λ (s : Option (List ℕ)). IsReadUnder limits (IsServedAll limits met.shelf s) s all) (sym e) read) in
    inl (text, output, gained)

pub all_answered : (met : Met) (history : History) (rest : List ℕ) (left : Option (List ℕ)) → wrong_word met.words ≡ None
    → MayImport met.source.left (limits_asked met.words) (Ok history) → Leaves met.source.left (limits_asked met.words) rest left
    → WritesAll history met.shelf (told rest left) met.sink.before met.sink.after → ServeAnswers met status.Done
all_answered met history rest left right may leaves writes = all_over met history rest met.source.left left right refl may leaves writes

left_over : (met : Met) (history : History) (rest : List ℕ) (source left : Option (List ℕ)) → MayImport source (limits_asked met.words) (Ok history)
    → Leaves source (limits_asked met.words) rest left → WritesSome history met.shelf (told rest left) met.sink.before met.sink.after
    → IfSome source (λ bytes. (text : List ℕ) × IsBegunBehind (limits_asked met.words) met.shelf bytes text × Appends met.sink.before met.sink.after text)
left_over met history rest None left may leaves writes = tt
left_over met history rest (Some bytes) None may leaves writes = absurd leaves
left_over met history rest (Some bytes) (Some more) may leaves (text, some, gained) =
    (text, record { history = history; loads = may; input = rest ++ more; behind = leaves; served = some }, gained)

-- the source failed behind the stream
pub left_off : (met : Met) (history : History) (rest : List ℕ) (left : Option (List ℕ)) → wrong_word met.words ≡ None
    → MayImport met.source.left (limits_asked met.words) (Ok history) → Leaves met.source.left (limits_asked met.words) rest left
    → WritesSome history met.shelf (told rest left) met.sink.before met.sink.after → HasFailed met.source.faults
    → ServeAnswers met status.ReadFault
left_off met history rest left right may leaves writes rose =
    inr (inl ((serves_by met.words right, rose), left_over met history rest met.source.left left may leaves writes))

cut_over : (met : Met) (history : History) (rest : List ℕ) (source left : Option (List ℕ)) → MayImport source (limits_asked met.words) (Ok history)
    → Leaves source (limits_asked met.words) rest left → WritesFront history met.shelf (told rest left) met.sink.before met.sink.after
    → IfSome source (λ bytes. (now : ℕ) × (text : List ℕ) × (now ≤ met.shelf.faults.now)
    × IsBegunBehind (limits_asked met.words) (shelf_until met.shelf now) bytes text × AppendsFront met.sink.before met.sink.after text)
cut_over met history rest None left may leaves writes = tt
cut_over met history rest (Some bytes) None may leaves writes = absurd leaves
cut_over met history rest (Some bytes) (Some more) may leaves (now, text, before, some, gained) =
    (now, text, before, record { history = history; loads = may; input = rest ++ more; behind = leaves; served = some }, gained)

-- the sink failed behind it, or memory ran out
pub cut_off : (met : Met) (history : History) (rest : List ℕ) (left : Option (List ℕ)) → wrong_word met.words ≡ None
    → MayImport met.source.left (limits_asked met.words) (Ok history) → Leaves met.source.left (limits_asked met.words) rest left
    → WritesFront history met.shelf (told rest left) met.sink.before met.sink.after → IsCutOff met
cut_off met history rest left right may leaves writes =
    (serves_by met.words right, cut_over met history rest met.source.left left may leaves writes)

-- by what became of the requests
pub served_answer : (met : Met) (history : History) (rest : List ℕ) (left : Option (List ℕ)) (served : Result (Unit {0}) ServeFault) (s : Status)
    → wrong_word met.words ≡ None → MayImport met.source.left (limits_asked met.words) (Ok history) → Leaves met.source.left (limits_asked met.words) rest left
    → OnOk served (WritesAll history met.shelf (told rest left) met.sink.before met.sink.after)
    → (IsErrOf served faults.Read → WritesSome history met.shelf (told rest left) met.sink.before met.sink.after)
    → OnErr served (WritesFront history met.shelf (told rest left) met.sink.before met.sink.after)
    → (IsErrOf served faults.Read → HasFailed met.source.faults) → s ≡ status_of served → ServeAnswers met s
served_answer met history rest left (Ok done) s right may leaves all some front rose e =
    subst (ServeAnswers met) (sym e) (all_answered met history rest left right may leaves all)
served_answer met history rest left (Err faults.Read) s right may leaves all some front rose e =
    subst (ServeAnswers met) (sym e) (left_off met history rest left right may leaves (some refl) (rose refl))
served_answer met history rest left (Err faults.Write) s right may leaves all some front rose e =
    subst (ServeAnswers met) (sym e) (inr (inl (cut_off met history rest left right may leaves front)))
served_answer met history rest left (Err faults.NoMemory) s right may leaves all some front rose e =
    subst (ServeAnswers met) (sym e) (inr (inl (cut_off met history rest left right may leaves front)))
