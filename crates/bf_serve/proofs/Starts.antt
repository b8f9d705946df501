-- The words of a search, as they are read.
use Rattle.std.proofs.Common.{◌≡◌, ℕ, ◌<◌, ◌≤◌, Bool, true, false, cond, List, length, Option, Some, None, Result, Err, refl, sym, ap, subst, ◌∙◌, arith, ◌⊎◌}
use Rattle.std.proofs.Common.{inl, inr, [], Ok}
use Rattle.std.proofs.lemmas.Bool.{cond-true, cond-false, le-ltb, lt-ltb, ltb-true}
use Rattle.std.proofs.lemmas.Option.{same_Some}
use Rattle.std.specs.Prelude.{nat_lt, IsTrue}
use Rattle.std.specs.List.{position_or_len}
use Rattle.bf_words.specs.declared.options.Choice.{Choice}
use Rattle.bf_words.specs.declared.request.Request.{Request}
use Rattle.bf_words.specs.declared.request.WordFault.{WordFault}
use Rattle.bf_words.specs.declared.request.WordFault.TheVariants as faults
use Rattle.bf_words.specs.declared.verb.Verb.{Verb}
use Rattle.bf_words.specs.FirstOption.{first_option, is_given_in}
use Rattle.bf_words.specs.Roles.{roles_of}
use Rattle.bf_words.specs.Words.{IsRead}
use Rattle.bf_words.proofs.Within.{roles_as_long}
use Rattle.bf_serve.specs.Begins.{lenient_at, read_without, request_to_search, begins_by}
use Rattle.std.specs.Borrow.{Bor}
use Rattle.std.specs.Result.{IsErrAnd}
use Rattle.std.specs.Option.{IfSome, is_some, option_map, unwrap_or}
use Rattle.bf_answers.specs.declared.answer.Answer.{Answer}
use Rattle.bf_answers.specs.declared.answer.Stop.{Stop}
use Rattle.bf_answers.specs.declared.answer.Stop.TheVariants as stop
use Rattle.bf_answers.specs.declared.started.Beginning.{Beginning}
use Rattle.bf_answers.specs.Steps.{IsStep}
use Rattle.bf_answers.specs.Tellings.{begun_of, told_of}
use Rattle.bf_begin.specs.declared.file.LogFile.{LogFile}
use Rattle.bf_begin.specs.Files.{IsFileOf as IsLoaded, file_given, given_of}
use Rattle.bf_history.specs.Meanings.{History}
use Rattle.bf_io.specs.Causes.{Rose}
use Rattle.bf_io.specs.declared.shelf.LoadFault.{LoadFault}
use Rattle.bf_io.specs.declared.shelf.LoadFault.TheVariants.{Failed, Missing}
use Rattle.bf_io.specs.declared.shelf.ShelfFile.{ShelfFile}
use Rattle.bf_output.specs.Beginning.{Begun, begun_with_skips}
use Rattle.bf_output.specs.Inputs.{file_of}
use Rattle.bf_output.specs.Logs.{replayed_log}
use Rattle.bf_output.specs.Refusals.{file_fault}
use Rattle.bf_output.specs.Told.{Told}
use Rattle.bf_serve.specs.Steps.{Begins, BeginsBy, IsFileAt}
use Rattle.bf_serve.proofs.Answering.{is_given, told_answers}

at_some : (b : Bool) (n i : ℕ) → cond b (Some n) None ≡ Some i → (b ≡ true) × (n ≡ i)
at_some true n i e = (refl, same_Some n i e)
at_some false n i e = cc e

-- a word that gives an option is one of the words
pub option_within : (verb : Verb) (options : List Choice) (words : List (List ℕ)) (i : ℕ) → first_option verb options words ≡ Some i → i < length words
option_within verb options words i e =
    let roles = roles_of verb words in
    let at = position_or_len (is_given_in options) roles in
    let parts = at_some (nat_lt at (length roles)) at i e in
    omega (arith, ltb-true at (length roles) parts.0, parts.1, roles_as_long verb words)

read_as : (words : List (List ℕ)) (told r : Result Request ℕ) (result : Result Request WordFault) → r ≡ told → IsRead told result → IsRead r result
read_as words told r result same h = subst (λ (x : Result Request ℕ). IsRead x result) (sym same) h

-- a line of more words than there may be
pub too_long : (words : List (List ℕ)) → 1000000 < length words → IsRead (request_to_search words) (Err (faults.At 1000000))
unfolding request_to_search
too_long words more =
    cond-true (nat_lt 1000000 (length words)) (Err 1000000) (read_without words (lenient_at words)) (lt-ltb 1000000 (length words) more)

-- any other one
pub short_line : (words : List (List ℕ)) (at : Option ℕ) (result : Result Request WordFault) → length words ≤ 1000000 → lenient_at words ≡ at
    → IsRead (read_without words at) result → IsRead (request_to_search words) result
unfolding request_to_search
short_line words at result few found h =
    read_as words (read_without words at) (request_to_search words) result
    (cond-false (nat_lt 1000000 (length words)) (Err 1000000) (read_without words (lenient_at words)) (le-ltb 1000000 (length words) few)
    ∙ ap (read_without words) found) h

-- ---- how a search begins, with what the shelf gave

begins_so : (result : Result Beginning Stop) (meant : Result Begun Told) → IsStep begun_of result meant → Begins result meant
begins_so (Ok first) meant h = h
begins_so (Err (stop.Refused answer)) meant h = h.0
begins_so (Err stop.NoMemory) meant h = tt

-- a search that begins with the file that was loaded
pub begun_from : (files : Option (List ShelfFile)) (before now : ℕ) (history : History) (words : List (List ℕ)) (asks : Request) (loaded : Option LogFile)
    (given : Option (Bor LogFile)) (result : Result Beginning Stop) → IsLoaded files words asks.replay loaded → file_given given ≡ option_map given_of loaded
    → IsStep begun_of result (begun_with_skips asks words (file_given given) history) → BeginsBy files before now history words asks result
begun_from files before now history words asks loaded given result is same h =
    let g = is_given files before now words asks.replay loaded is in
    record {
      file = g.gave;
      from = g.from;
      step = begins_so result (begins_by history g.gave words asks)
          (subst (λ (f : Option (Result (List ℕ) LoadFault)). IsStep begun_of result (begun_with_skips asks words f history)) (same ∙ g.same) h);
    }

abbrev failed : Result (List ℕ) LoadFault
failed = Err Failed

fails_at : (history : History) (words : List (List ℕ)) (asks : Request) (replay : Option ℕ) → IsTrue (is_some replay)
    → begun_with_skips asks words (option_map (λ (i : ℕ). failed) replay) history ≡ Err file_fault
unfolding begun_with_skips replayed_log
fails_at history words asks None h = cc h
fails_at history words asks (Some i) h = refl

failed_given : (files : Option (List ShelfFile)) (words : List (List ℕ)) (i : ℕ) → IfSome files (λ all. (failed ≡ file_of words i all) ⊎ (failed ≡ Err Failed))
failed_given None words i = tt
failed_given (Some all) words i = inr refl

-- a search whose file the shelf did not give
pub begun_without : (files : Option (List ShelfFile)) (before now : ℕ) (history : History) (words : List (List ℕ)) (asks : Request) (answer : Answer)
    → IsTrue (is_some asks.replay) → Rose before now → told_of answer ≡ file_fault → BeginsBy files before now history words asks (Err (stop.Refused answer))
begun_without files before now history words asks answer named rose says = record {
  file = failed;
  from = record { given = failed_given files words (unwrap_or asks.replay 0); failed = λ e. rose };
  step = fails_at history words asks asks.replay named ∙ ap (λ (t : Told). Err t) (sym says);
}

abbrev given_at : Option (List ShelfFile) → List (List ℕ) → ℕ → Result (List ℕ) LoadFault
given_at None words i = Err Missing
given_at (Some all) words i = file_of words i all

missing_answers : given_at None [] 0 ≡ Err Failed → ⊥
missing_answers e = cc e

is_given_at : (files : Option (List ShelfFile)) (before now : ℕ) (words : List (List ℕ)) (i : ℕ) → IsFileAt files before now words i (given_at files words i)
is_given_at None before now words i = record { given = tt; failed = λ e. absurd (missing_answers e) }
is_given_at (Some all) before now words i = record { given = inl refl; failed = λ e. absurd (told_answers words i all e) }

-- where memory runs out
pub begun_no_memory : (files : Option (List ShelfFile)) (before now : ℕ) (history : History) (words : List (List ℕ)) (asks : Request)
    → BeginsBy files before now history words asks (Err stop.NoMemory)
begun_no_memory files before now history words asks = record {
  file = given_at files words (unwrap_or asks.replay 0);
  from = is_given_at files before now words (unwrap_or asks.replay 0);
  step = tt;
}

pub begun_memory : (files : Option (List ShelfFile)) (before now : ℕ) (history : History) (words : List (List ℕ)) (asks : Request)
    (result : Result Beginning Stop) → IsErrAnd result (λ (e : Stop). e ≡ stop.NoMemory) → BeginsBy files before now history words asks result
begun_memory files before now history words asks (Ok first) h = absurd h
begun_memory files before now history words asks (Err e) h =
    subst (λ (x : Stop). BeginsBy files before now history words asks (Err x)) (sym h) (begun_no_memory files before now history words asks)
