-- From what an import loaded, and what it kept, to what its caller is answered.
use Rattle.std.proofs.Common.{◌≡◌, ℕ, List, [], ◌∷◌, Option, Some, None, Result, Ok, Err, IfOk, refl, sym, ap, ◌∙◌, subst}
use Rattle.std.specs.Result.{IsErrAnd}
use Rattle.std.proofs.lemmas.Result.{err_from_is_err_and}
use Rattle.bf_grammar.specs.declared.command.Command.{Command}
use Rattle.bf_grammar.specs.declared.fault.Limits.{Limits}
use Rattle.bf_grammar.specs.declared.fault.StreamFault.{StreamFault}
use Rattle.bf_grammar.specs.declared.fault.StreamFault.TheVariants as stream
use Rattle.bf_grammar.specs.Forms.{◌>>=◌}
use Rattle.bf_history.specs.declared.fault.ImportFault.{ImportFault}
use Rattle.bf_history.specs.declared.fault.ImportFault.TheVariants as faults
use Rattle.bf_history.specs.Contents.{Blobs, Content, Furnishes, MayFurnish, after_command_over, blobs_behind, furnished}
use Rattle.bf_history.specs.Furnished.{IsFurnishedOver}
use Rattle.bf_history.specs.Imports as imports
use Rattle.bf_history.specs.Imports.{MayImport, loaded}
use Rattle.bf_history.specs.Keeping.{Kept, command_meant, kept_behind}
use Rattle.bf_history.specs.Meanings.{History, Loading, after_command}
use Rattle.bf_history.proofs.Furnishing.{command_there}
use Rattle.bf_import.specs.Loading.{IsFurnishedBy, Loaded, Loads, MayLoad, loaded_keeping}

module _ (limits : Limits) where
  -- with contents let go it is the history alone
  let_go : (loading : Loading) (commands : List Command) (end : Option StreamFault)
      → loaded_keeping limits None loading commands end ≡ (loaded limits loading commands end >>= λ history. Ok (history, None))
  unfolding loaded_keeping loaded
  let_go loading [] None = refl
  let_go loading [] (Some fault) = refl
  let_go loading (command ∷ commands) end = go (λ next. let_go next commands end) (after_command limits loading command)
    where
      go : ((next : Loading) → loaded_keeping limits None next commands end ≡ (loaded limits next commands end >>= λ history. Ok (history, None)))
          → (after : Result Loading ImportFault) → (after >>= λ next. loaded_keeping limits None next commands end)
          ≡ ((after >>= λ next. loaded limits next commands end) >>= λ history. Ok (history, None))
      go rest (Ok next) = rest next
      go rest (Err fault) = refl

  -- with contents kept it is the history with its blobs
  kept_all : (blobs : Blobs) (loading : Loading) (commands : List Command) (end : Option StreamFault)
      → loaded_keeping limits (Some blobs) loading commands end
      ≡ (furnished limits blobs loading commands end >>= λ content. Ok (content.history, Some content.blobs))
  unfolding loaded_keeping furnished
  kept_all blobs loading [] None = refl
  kept_all blobs loading [] (Some fault) = refl
  kept_all blobs loading (command ∷ commands) end =
      go (blobs_behind blobs command) (λ next. kept_all (blobs_behind blobs command) next commands end) (after_command_over limits blobs loading command)
    where
      go : (more : Blobs)
          → ((next : Loading) → loaded_keeping limits (Some more) next commands end
          ≡ (furnished limits more next commands end >>= λ content. Ok (content.history, Some content.blobs)))
          → (after : Result Loading ImportFault) → (after >>= λ next. loaded_keeping limits (Some more) next commands end)
          ≡ ((after >>= λ next. furnished limits more next commands end) >>= λ content. Ok (content.history, Some content.blobs))
      go more rest (Ok next) = rest next
      go more rest (Err fault) = refl

-- the history of what was loaded, and its content where contents were kept
abbrev history_in : Result Loaded ImportFault → Result History ImportFault
history_in (Ok (history, kept)) = Ok history
history_in (Err fault) = Err fault

abbrev content_in : Result Loaded ImportFault → Result Content ImportFault
content_in (Ok (history, Some blobs)) = Ok (record { history = history; blobs = blobs })
content_in (Ok (history, None)) = Err faults.NoMemory
content_in (Err fault) = Err fault

alone : (loaded : Result Loaded ImportFault) (result : Result History ImportFault) → loaded ≡ (result >>= λ h. Ok (h, None)) → history_in loaded ≡ result
alone loaded (Ok h) is = ap history_in is
alone loaded (Err fault) is = ap history_in is

both : (loaded : Result Loaded ImportFault) (result : Result Content ImportFault) → loaded ≡ (result >>= λ c. Ok (c.history, Some c.blobs))
    → content_in loaded ≡ result
both loaded (Ok content) is = ap content_in is
both loaded (Err fault) is = ap content_in is

-- ---- what callers are answered

pub history_answered : (left : Option (List ℕ)) (limits : Limits) (history : History) (kept : Kept) → MayLoad left limits None (Ok (history, kept))
    → MayImport left limits (Ok history)
history_answered None limits history kept may = tt
history_answered (Some bytes) limits history kept (commands, end, goes, is) =
    (commands, end, goes, alone (Ok (history, kept)) _ (is ∙ let_go limits _ commands end))

pub refusal_answered : (left : Option (List ℕ)) (limits : Limits) (fault : ImportFault) → MayLoad left limits None (Err fault)
    → MayImport left limits (Err fault)
refusal_answered None limits fault may = tt
refusal_answered (Some bytes) limits fault may = go fault may
  where
    told : (fault : ImportFault) → Loads bytes limits None (Err fault) → imports.Loads bytes limits (Err fault)
    told fault (commands, end, goes, is) = (commands, end, goes, alone (Err fault) _ (is ∙ let_go limits _ commands end))

    go : (fault : ImportFault) → MayLoad (Some bytes) limits None (Err fault) → MayImport (Some bytes) limits (Err fault)
    go (faults.Stream (stream.Syntax line)) may = told (faults.Stream (stream.Syntax line)) may
    go (faults.Stream (stream.Unsupported line)) may = told (faults.Stream (stream.Unsupported line)) may
    go (faults.Stream (stream.Truncated line)) may = told (faults.Stream (stream.Truncated line)) may
    go (faults.Stream (stream.NoDone line)) may = told (faults.Stream (stream.NoDone line)) may
    go (faults.Stream stream.Read) may = tt
    go (faults.Stream (stream.TooLarge what)) may = told (faults.Stream (stream.TooLarge what)) may
    go (faults.Stream stream.NoMemory) may = told (faults.Stream stream.NoMemory) may
    go (faults.BadFrom line) may = told (faults.BadFrom line) may
    go (faults.BadMark line) may = told (faults.BadMark line) may
    go (faults.BadPath line) may = told (faults.BadPath line) may
    go (faults.Unsupported line) may = told (faults.Unsupported line) may
    go (faults.NoContent line) may = told (faults.NoContent line) may
    go (faults.TooLarge what) may = told (faults.TooLarge what) may
    go faults.NoMemory may = tt

pub content_answered : (left : Option (List ℕ)) (limits : Limits) (history : History) (blobs : Blobs)
    → MayLoad left limits (Some []) (Ok (history, Some blobs)) → MayFurnish left limits (Ok (record { history = history; blobs = blobs }))
content_answered None limits history blobs may = tt
content_answered (Some bytes) limits history blobs (commands, end, goes, is) =
    (commands, end, goes, both (Ok (history, Some blobs)) _ (is ∙ kept_all limits [] _ commands end))

pub missing_answered : (left : Option (List ℕ)) (limits : Limits) (fault : ImportFault) → MayLoad left limits (Some []) (Err fault)
    → MayFurnish left limits (Err fault)
missing_answered None limits fault may = tt
missing_answered (Some bytes) limits fault may = go fault may
  where
    told : (fault : ImportFault) → Loads bytes limits (Some []) (Err fault) → Furnishes bytes limits (Err fault)
    told fault (commands, end, goes, is) = (commands, end, goes, both (Err fault) _ (is ∙ kept_all limits [] _ commands end))

    go : (fault : ImportFault) → MayLoad (Some bytes) limits (Some []) (Err fault) → MayFurnish (Some bytes) limits (Err fault)
    go (faults.Stream (stream.Syntax line)) may = told (faults.Stream (stream.Syntax line)) may
    go (faults.Stream (stream.Unsupported line)) may = told (faults.Stream (stream.Unsupported line)) may
    go (faults.Stream (stream.Truncated line)) may = told (faults.Stream (stream.Truncated line)) may
    go (faults.Stream (stream.NoDone line)) may = told (faults.Stream (stream.NoDone line)) may
    go (faults.Stream stream.Read) may = tt
    go (faults.Stream (stream.TooLarge what)) may = told (faults.Stream (stream.TooLarge what)) may
    go (faults.Stream stream.NoMemory) may = told (faults.Stream stream.NoMemory) may
    go (faults.BadFrom line) may = told (faults.BadFrom line) may
    go (faults.BadMark line) may = told (faults.BadMark line) may
    go (faults.BadPath line) may = told (faults.BadPath line) may
    go (faults.Unsupported line) may = told (faults.Unsupported line) may
    go (faults.NoContent line) may = told (faults.NoContent line) may
    go (faults.TooLarge what) may = told (faults.TooLarge what) may
    go faults.NoMemory may = tt

-- ---- at the exit of a `?`

pub refusal_passed_on : (left : Option (List ℕ)) (limits : Limits) (fault : ImportFault) (result : Result History ImportFault)
    → IsErrAnd result (λ other. other ≡ fault) → MayLoad left limits None (Err fault) → MayImport left limits result
refusal_passed_on left limits fault result exit may =
    let found = err_from_is_err_and result exit in
    subst (λ (r : Result History ImportFault). MayImport left limits r) (sym (found.1 ∙ ap (λ (f : ImportFault). Err f) found.2))
    (refusal_answered left limits fault may)

pub missing_passed_on : (left : Option (List ℕ)) (limits : Limits) (start : Blobs) (fault : ImportFault) (result : Result Content ImportFault) → start ≡ []
    → IsErrAnd result (λ other. other ≡ fault) → MayLoad left limits (Some start) (Err fault) → MayFurnish left limits result
missing_passed_on left limits start fault result none exit may =
    let found = err_from_is_err_and result exit in
    subst (λ (r : Result Content ImportFault). MayFurnish left limits r) (sym (found.1 ∙ ap (λ (f : ImportFault). Err f) found.2))
    (missing_answered left limits fault (subst (λ (b : Blobs). MayLoad left limits (Some b) (Err fault)) none may))

pub content_made : (left : Option (List ℕ)) (limits : Limits) (start : Blobs) (history loaded : History) (blobs : Blobs) (content : Content) → start ≡ []
    → history ≡ loaded → content ≡ record { history = history; blobs = blobs } → MayLoad left limits (Some start) (Ok (loaded, Some blobs))
    → MayFurnish left limits (Ok content)
content_made left limits start history loaded blobs content none same made may =
    subst (λ (c : Content). MayFurnish left limits (Ok c))
    (sym (made ∙ ap (λ (h : History). let c : Content = record { history = h; blobs = blobs } in c) same))
    (content_answered left limits loaded blobs (subst (λ (b : Blobs). MayLoad left limits (Some b) (Ok (loaded, Some blobs))) none may))

-- ---- contents

-- a command keeps that what is kept has all contents
pub still_furnished : (limits : Limits) (kept more : Kept) (loading next : Loading) (command : Command) → command_meant limits kept loading command ≡ Ok next
    → more ≡ kept_behind kept command → IsFurnishedBy kept loading → IsFurnishedBy more next
still_furnished limits None more loading next command meant keeps has = subst (λ (k : Kept). IsFurnishedBy k next) (sym keeps) tt
still_furnished limits (Some blobs) more loading next command meant keeps has =
    subst (λ (k : Kept). IsFurnishedBy k next) (sym keeps)
    (subst (λ (r : Result Loading ImportFault). IfOk r (IsFurnishedOver (blobs_behind blobs command))) meant
    (command_there limits blobs loading has command))
