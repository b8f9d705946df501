-- From what an import with contents answers to what the command answers.
use Rattle.std.proofs.Common.{◌≡◌, ℕ, false, List, [], Option, Some, None, Result, Ok, Err, IfOk, sym, ap, subst, ◌∙◌}
use Rattle.bf_grammar.specs.declared.fault.StreamFault.TheVariants as stream
use Rattle.bf_grammar.specs.Limits.{standard_limits}
use Rattle.bf_history.specs.Contents.{Content, MayFurnish}
use Rattle.bf_history.specs.declared.fault.ImportFault.{ImportFault}
use Rattle.bf_history.specs.declared.fault.ImportFault.TheVariants as faults
use Rattle.bf_history.specs.Meanings.{History}
use Rattle.bf_io.specs.declared.shelf.ShelfFile.{ShelfFile}
use Rattle.bf_tester.specs.declared.tester.Tester.{Ghosts}
use Rattle.bf_tester.specs.Grounds.{Ground}
use Rattle.bf_words.specs.declared.request.Request.{Request}
use Rattle.bf_output.specs.Output.{Given, IsOver, given_to}
use Rattle.bf_output.specs.Refusals.{refusal}
use Rattle.bf_output.specs.Shown.{TesterShown}
use Rattle.bf_output.specs.Told.{Told}
use Rattle.bf_answers.specs.declared.answer.Answer.{Answer}
use Rattle.bf_answers.specs.declared.answer.Fault.{Fault}
use Rattle.bf_answers.specs.declared.started.Ready.{Ready}
use Rattle.bf_answers.specs.declared.started.Ready.TheVariants.{Told as Told_, Search}
use Rattle.bf_answers.specs.Answers.{IsWhole}
use Rattle.bf_answers.specs.Ready.{AllTold}
use Rattle.bf_answers.specs.Tellings.{told_of}
use Rattle.bf_checkout.specs.declared.folder.Folder as folder
use Rattle.bf_checkout.specs.Checkouts.{grounds_of}
use Rattle.bf_checkout.specs.Shops.{Shop, faults_of, furnished}
use Rattle.bf_commands.specs.Checkout.{IsCheckedOut}
use Rattle.bf_checkout_run.specs.CheckingOut.{AreGroundsOf, IsFurnishedFor, IsFurnishedIf, IsLeftByAnswer}

-- what is told over the history of a content is told of the stream that loads it
loaded : (request : Request) (given : Given) (left : Option (List ℕ)) (content : Content) (told : Told) → MayFurnish left standard_limits (Ok content)
    → IsOver request given content.history told → IsCheckedOut request given left told
loaded request given None content told may is = (Ok content, tt, is)
loaded request given (Some bytes) content told may is = (Ok content, may, is)

pub all_loaded : (request : Request) (words : List (List ℕ)) (files : Option (List ShelfFile)) (left : Option (List ℕ)) (content : Content)
    (history : History) (result : Result Ready Fault) → MayFurnish left standard_limits (Ok content) → history ≡ content.history
    → IfOk result (λ ready. AllTold request words ready (λ tested told. IsOver request (given_to words files tested) history told))
    → IfOk result (λ ready. AllTold request words ready (λ tested told. IsCheckedOut request (given_to words files tested) left told))
all_loaded request words files left content history (Err cut) may same over = tt
all_loaded request words files left content history (Ok ready) may same over = λ tested told tells.
    loaded request (given_to words files tested) left content told may
    (subst (λ (h : History). IsOver request (given_to words files tested) h told) same (over tested told tells))

-- and so is the refusal of a stream
refused_of : (request : Request) (given : Given) (left : Option (List ℕ)) (fault : ImportFault) (told : Told) → MayFurnish left standard_limits (Err fault)
    → IsWhole told.status → told ≡ refusal fault → IsCheckedOut request given left told
refused_of request given None fault told may whole is = (Err fault, tt, is)
refused_of request given (Some bytes) faults.NoMemory told may whole is = absurd (subst (λ (t : Told). IsWhole t.status) is whole)
refused_of request given (Some bytes) (faults.Stream stream.Read) told may whole is = absurd (subst (λ (t : Told). IsWhole t.status) is whole)
refused_of request given (Some bytes) fault told may whole is = (Err fault, may, is)

pub all_refused : (request : Request) (words : List (List ℕ)) (files : Option (List ShelfFile)) (left : Option (List ℕ)) (fault : ImportFault)
    (answer : Answer) → MayFurnish left standard_limits (Err fault) → IsWhole answer.status → told_of answer ≡ refusal fault
    → AllTold request words (Told_ answer) (λ tested told. IsCheckedOut request (given_to words files tested) left told)
all_refused request words files left fault answer may whole is = λ tested told tells.
    refused_of request (given_to words files tested) left fault told may (subst (λ (t : Told). IsWhole t.status) (sym tells) whole) (tells ∙ is)

-- ---- what the workshop tests in

grounds_loaded : (left : Option (List ℕ)) (content : Content) (grounds : List Ground) → MayFurnish left standard_limits (Ok content)
    → grounds ≡ grounds_of content → AreGroundsOf left grounds
grounds_loaded None content grounds may same = tt
grounds_loaded (Some bytes) content grounds may same = (content, may, same)

-- ---- a workshop that is furnished

-- what a workshop shows, by its tester and its folder
abbrev pub shown : {T D : Type 0} → Ghosts T → folder.Ghosts D → Shop T D → TesterShown
shown testers folders shop = record {
  plan = testers.told shop.tester;
  command = testers.command shop.tester;
  is_lenient = testers.is_lenient shop.tester;
  answers = testers.answers shop.tester;
  faults = faults_of (testers.faults shop.tester) (folders.faults shop.folder);
  failed = shop.failed;
  is_split = testers.is_split shop.tester;
}

-- another content leaves that as it was
pub shown_furnished : {T D : Type 0} (testers : Ghosts T) (folders : folder.Ghosts D) (before after : Shop T D) → after ≡ furnished before after.content
    → shown testers folders after ≡ shown testers folders before
shown_furnished testers folders before after same = ap (shown testers folders) same

pub no_answers : {T D : Type 0} (testers : Ghosts T) (before after : Shop T D) → after ≡ furnished before after.content
    → testers.answers before.tester ≡ [] → testers.answers after.tester ≡ []
no_answers {T} {D} testers before after same none = ap (λ (shop : Shop T D). testers.answers shop.tester) same ∙ none

pub not_split : {T D : Type 0} (testers : Ghosts T) (before after : Shop T D) → after ≡ furnished before after.content
    → testers.is_split before.tester ≡ false → testers.is_split after.tester ≡ false
not_split {T} {D} testers before after same whole = ap (λ (shop : Shop T D). testers.is_split shop.tester) same ∙ whole

-- by its own content
pub furnished_own : {T D : Type 0} (before after : Shop T D) (content : Content) → after ≡ furnished before content → after ≡ furnished before after.content
furnished_own {T} {D} before after content same = same ∙ ap (furnished before) (sym (ap (λ (shop : Shop T D). shop.content) same))

pub grounds_furnished : {T D : Type 0} (before after : Shop T D) (given content : Content) → after ≡ furnished before given → given ≡ content
    → grounds_of after.content ≡ grounds_of content
grounds_furnished {T} {D} before after given content same of = ap (λ (shop : Shop T D). grounds_of shop.content) same ∙ ap grounds_of of

-- a search is furnished with a content, and an answer leaves the workshop
pub furnished_if : {T D : Type 0} (before after : Shop T D) (content : Content) (ready : Ready) → IsFurnishedIf before after content ready
    → after ≡ furnished before after.content
furnished_if {T} {D} before after content (Told_ answer) same =
    same ∙ ap (furnished before) (sym (ap (λ (shop : Shop T D). shop.content) same))
furnished_if before after content (Search started) same = furnished_own before after content same

pub left_if : {T D : Type 0} (before after : Shop T D) (content : Content) (ready : Ready) → IsFurnishedIf before after content ready
    → IsLeftByAnswer before after ready
left_if before after content (Told_ answer) same = same
left_if before after content (Search started) same = tt

pub grounds_if : {T D : Type 0} (left : Option (List ℕ)) (before after : Shop T D) (given content : Content) (ready : Ready)
    → MayFurnish left standard_limits (Ok content) → given ≡ content → IsFurnishedIf before after given ready
    → IsFurnishedFor left (grounds_of after.content) ready
grounds_if left before after given content (Told_ answer) may of same = tt
grounds_if left before after given content (Search started) may of same =
    grounds_loaded left content (grounds_of after.content) may (grounds_furnished before after given content same of)

-- an answer that was found leaves the workshop
pub left_told : {S : Type 0} (before after : S) (ready : Result Ready Fault) (found : Ready) (answer : Answer) → ready ≡ Ok found → found ≡ Told_ answer
    → IfOk ready (IsLeftByAnswer before after) → after ≡ before
left_told before after ready found answer is of left =
    subst (IsLeftByAnswer before after) of (subst (λ (r : Result Ready Fault). IfOk r (IsLeftByAnswer before after)) is left)
