-- How an import comes to the end of its stream, and what it leaves behind it.
use Rattle.std.proofs.Common.{◌≡◌, ℕ, ◌+◌, ◌≤◌, List, [], ◌∷◌, ◌++◌, length, drop, Option, Some, None, Result, Ok, Err, refl, sym, ap, subst, ◌∙◌}
use Rattle.std.specs.Option.{option_map}
use Rattle.std.specs.Result.{IsErrAnd, IfErr}
use Rattle.std.proofs.lemmas.Result.{err_from_is_err_and}
use Rattle.bf_grammar.specs.declared.command.Command.{Command}
use Rattle.bf_grammar.specs.declared.fault.Limits.{Limits}
use Rattle.bf_grammar.specs.Commands.{command_at}
use Rattle.bf_grammar.specs.Place.{Place, Gives, start_of}
use Rattle.bf_grammar.specs.declared.fault.StreamFault.TheVariants as stream
use Rattle.bf_history.specs.declared.fault.ImportFault.{ImportFault}
use Rattle.bf_history.specs.declared.fault.ImportFault.TheVariants as faults
use Rattle.bf_history.specs.Imports.{MayImport}
use Rattle.bf_history.specs.Keeping.{Kept}
use Rattle.bf_history.specs.Meanings.{History}
use Rattle.bf_stream.specs.Held.{Held, IsSpent, IsWhole, beyond_of, place_of, rest_in}
use Rattle.bf_stream.proofs.Resting.{rest_behind}
use Rattle.bf_io.specs.Causes.{FailsOnlyAt}
use Rattle.bf_import.specs.Faults.{IsFaultOf}
use Rattle.bf_import.specs.Growing.{Importing, nothing_imported}
use Rattle.bf_import.specs.Loading.{MayLoad, loaded_by}
use Rattle.bf_import.specs.Rest.{Ends, Leads, Leaves, behind_line, history_of}
use Rattle.bf_import.proofs.Answered.{refusal_answered}

abbrev Gave : Limits → Option Place → Option Place → Option Command → Type 0
Gave limits before after given = Gives (λ (c : Option Command). c) before after (Ok given) (command_at limits)

-- a command came
pub leads_more : (limits : Limits) (start before after : Option Place) (command : Command) → Leads limits start before
    → Gave limits before after (Some command) → Leads limits start after
leads_more limits start before after command leads gave there ends = leads there (ahead before gave)
  where
    behind : (p q : Place) → command_at limits p ≡ Ok (Some command, q) → Ends limits (Some q) there → Ends limits (Some p) there
    behind p q read (commands, last, stops, at) = (command ∷ commands, last, (q, read, stops), at)

    ahead : (before : Option Place) → Gave limits before after (Some command) → Ends limits before there
    ahead None gave = subst (λ (a : Option Place). Ends limits a there) gave ends
    ahead (Some p) (q, read, at) = behind p q read (subst (λ (a : Option Place). Ends limits a there) at ends)

-- no command came
pub leads_out : (limits : Limits) (start before after : Option Place) → Leads limits start before → Gave limits before after None → Ends limits start after
leads_out limits start before after leads gave = leads after (out before gave)
  where
    out : (before : Option Place) → Gave limits before after None → Ends limits before after
    out None gave = gave
    out (Some p) (q, read, at) = ([], q, read, at)

-- what is left behind a stream that was read out
pub left_behind : (limits : Limits) (left now : Option (List ℕ)) (start : Option Place) (importer : Importing) (held : Held) (before : Option (List ℕ))
    (rest : List ℕ) → start ≡ option_map (start_of limits.stream) left → before ≡ option_map (drop limits.stream) left
    → importer ≡ nothing_imported limits → Ends importer.limits start (place_of held now) → IsWhole held now → beyond_of held now ≡ before
    → IsSpent held → rest ≡ rest_in held → Leaves left limits rest now
left_behind limits left now start importer held before rest fresh all begun ends whole stays spent is =
    go left now (subst (λ (l : Limits). Ends l (option_map (start_of limits.stream) left) (place_of held now)) (ap (λ (i : Importing). i.limits) begun)
    (subst (λ (s : Option Place). Ends importer.limits s (place_of held now)) fresh ends)) whole (stays ∙ all)
  where
    told : (bytes left : List ℕ) → IsWhole held (Some left) → beyond_of held (Some left) ≡ Some (drop limits.stream bytes)
        → Ends limits (Some (start_of limits.stream bytes)) (place_of held (Some left)) → Leaves (Some bytes) limits rest (Some left)
    told bytes left whole past (commands, q, stops, at) =
        (commands, q, stops, ap (λ (r : List ℕ). r ++ left) is ∙ rest_behind held left q (drop limits.stream bytes) whole spent at past)

    go : (left now : Option (List ℕ)) → Ends limits (option_map (start_of limits.stream) left) (place_of held now) → IsWhole held now
        → beyond_of held now ≡ option_map (drop limits.stream) left → Leaves left limits rest now
    go None now ends whole past = tt
    go (Some bytes) None (commands, q, stops, at) whole past = absurd (cc)
    go (Some bytes) (Some left) ends whole past = told bytes left whole past ends

-- ---- what callers are answered

pub refusal_of_both : (left : Option (List ℕ)) (limits : Limits) (fault : ImportFault) (result : Result (History × List ℕ) ImportFault)
    → IsErrAnd result (λ other. other ≡ fault) → MayLoad left limits None (Err fault) → MayImport left limits (history_of result)
refusal_of_both left limits fault result exit may =
    let found = err_from_is_err_and result exit in
    subst (λ (r : Result (History × List ℕ) ImportFault). MayImport left limits (history_of r)) (sym (found.1 ∙ ap (λ (f : ImportFault). Err f) found.2))
    (refusal_answered left limits fault may)

pub refusal_of_history : (left : Option (List ℕ)) (limits : Limits) (fault : ImportFault) (result : Result History ImportFault)
    → IsErrAnd result (λ other. other ≡ fault) → MayImport left limits (Err fault) → MayImport left limits result
refusal_of_history left limits fault result exit may =
    let found = err_from_is_err_and result exit in
    subst (λ (r : Result History ImportFault). MayImport left limits r) (sym (found.1 ∙ ap (λ (f : ImportFault). Err f) found.2)) may

-- memory ran out, which is no fault of the source
pub memory_cause : {X : Type 0} (result : Result X ImportFault) (before now : ℕ) → IsErrAnd result (λ fault. fault ≡ faults.NoMemory) → before ≤ now
    → FailsOnlyAt (faults.Stream stream.Read) before now result
memory_cause {X = X} result before now exit later =
    let found = err_from_is_err_and result exit in
    record { later = later; failed = λ so. absurd (other (sym so ∙ found.1 ∙ ap (λ (f : ImportFault). Err f) found.2)) }
  where
    other : (let r : Result X ImportFault = Err (faults.Stream stream.Read) in r) ≡ Err faults.NoMemory → ⊥
    other is = absurd (cc)

-- where memory ran out, anything may have been loaded
pub memory_loads : {C : Type 0} (kept : C → Kept) (left : Option (List ℕ)) (limits : Limits) (start : Kept)
    (result : Result (Importing × C × List ℕ) ImportFault) → IsErrAnd result (λ fault. fault ≡ faults.NoMemory) → MayLoad left limits start (loaded_by kept result)
memory_loads {C = C} kept left limits start result exit =
    let found = err_from_is_err_and result exit in
    subst (λ (r : Result (Importing × C × List ℕ) ImportFault). MayLoad left limits start (loaded_by kept r))
    (sym (found.1 ∙ ap (λ (f : ImportFault). Err f) found.2)) (any left)
  where
    any : (left : Option (List ℕ)) → MayLoad left limits start (Err faults.NoMemory)
    any None = tt
    any (Some bytes) = tt

-- and want of memory is a fault of every import
pub memory_known : {X : Type 0} (kept : Kept) (result : Result X ImportFault) → IsErrAnd result (λ fault. fault ≡ faults.NoMemory)
    → IfErr result (IsFaultOf kept)
memory_known {X = X} kept result exit =
    let found = err_from_is_err_and result exit in
    subst (λ (r : Result X ImportFault). IfErr r (IsFaultOf kept)) (sym (found.1 ∙ ap (λ (f : ImportFault). Err f) found.2)) (any kept)
  where
    any : (kept : Kept) → IsFaultOf kept faults.NoMemory
    any None = tt
    any (Some blobs) = tt

-- ---- where a source stands that a reader gave back

pub left_at : (left : Option (List ℕ)) (limits : Limits) (rest : List ℕ) (now there : Option (List ℕ)) → there ≡ now → Leaves left limits rest now
    → Leaves left limits rest there
left_at left limits rest now there same leaves = subst (λ (n : Option (List ℕ)). Leaves left limits rest n) (sym same) leaves

pub cause_at : {X : Type 0} (result : Result X ImportFault) (before now there : ℕ) → there ≡ now → FailsOnlyAt (faults.Stream stream.Read) before now result
    → FailsOnlyAt (faults.Stream stream.Read) before there result
cause_at result before now there same cause = subst (λ (n : ℕ). FailsOnlyAt (faults.Stream stream.Read) before n result) (sym same) cause

pub cause_begun : {X : Type 0} (result : Result X ImportFault) (before begun now : ℕ) → begun ≡ before → FailsOnlyAt (faults.Stream stream.Read) begun now result
    → FailsOnlyAt (faults.Stream stream.Read) before now result
cause_begun result before begun now same cause = subst (λ (n : ℕ). FailsOnlyAt (faults.Stream stream.Read) n now result) same cause
