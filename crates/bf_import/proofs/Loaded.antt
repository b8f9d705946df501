-- What an import has loaded so far, and how it ends.
use Rattle.std.proofs.Common.{◌≡◌, ℕ, suc, ◌<◌, ◌≤◌, List, [], ◌∷◌, length, Option, Some, None, Result, Ok, Err, refl, sym, ◌∙◌, ap, subst, arith}
use Rattle.std.specs.Result.{IsErrAnd, IfErr}
use Rattle.std.specs.Option.{OnSome, option_map}
use Rattle.std.proofs.lemmas.Result.{err_from_is_err_and}
use Rattle.bf_grammar.specs.declared.command.Command.{Command}
use Rattle.bf_grammar.specs.declared.fault.Limits.{Limits}
use Rattle.bf_grammar.specs.declared.fault.StreamFault.{StreamFault}
use Rattle.bf_grammar.specs.declared.fault.StreamFault.TheVariants as stream
use Rattle.bf_grammar.specs.Commands.{command_at}
use Rattle.bf_grammar.specs.Place.{Place, Gives, start_of}
use Rattle.bf_grammar.proofs.Laws.{some_continuation}
use Rattle.bf_grammar.specs.Forms.{◌>>=◌}
use Rattle.bf_history.specs.declared.fault.ImportFault.{ImportFault}
use Rattle.bf_history.specs.declared.fault.ImportFault.TheVariants as faults
use Rattle.bf_history.specs.Imports.{Means}
use Rattle.bf_history.specs.Keeping.{Kept, command_meant, kept_behind}
use Rattle.bf_history.specs.Meanings.{Loading, nothing_loaded}
use Rattle.bf_import.specs.Faults.{IsFaultOf, IsOfMeaning, IsRefusal, IsSameKind, refusal_of_stream}
use Rattle.bf_import.specs.Growing.{Importing, nothing_imported}
use Rattle.bf_import.specs.Loading.{Loaded, Loads, LoadsFrom, LoadsOn, MayLoad, ended, loaded_keeping}
use Rattle.bf_import.proofs.Refusals.{meaning_refuses}
use Rattle.bf_io.specs.Causes.{Rose, FailsOnlyAt}

-- a meaning is never refused for a source that fails
no_source : (kept : Kept) → IsRefusal kept (faults.Stream stream.Read) → ⊥
no_source None own = own
no_source (Some blobs) own = own

nothing_yet : (limits : Limits) (start : Kept) (left : Option (List ℕ))
    → LoadsOn limits start left (option_map (start_of limits.stream) left) start (nothing_loaded limits)
nothing_yet limits start None = refl
nothing_yet limits start (Some bytes) = (start_of limits.stream bytes, refl, λ result from. from)

-- before the first command
pub loads_here : (limits : Limits) (start : Kept) (left : Option (List ℕ)) (here : Option Place) (importer : Importing)
    → here ≡ option_map (start_of limits.stream) left → importer ≡ nothing_imported limits → LoadsOn limits start left here start importer.loading
loads_here limits start left here importer fresh begun =
    subst (λ (h : Option Place). LoadsOn limits start left h start importer.loading) (sym fresh)
    (subst (λ (i : Importing). LoadsOn limits start left (option_map (start_of limits.stream) left) start i.loading) (sym begun)
    (nothing_yet limits start left))

module _ (limits : Limits) (start : Kept) (before after : Option Place) (kept : Kept) (loading : Loading) where
  abbrev Gave : Option Place → Result (Option Command) StreamFault → Type 0
  Gave here result = Gives (λ (c : Option Command). c) here after result (command_at limits)

  -- what loads from a place on, loads from the start on
  abbrev On : List ℕ → Place → Type 0
  On bytes p = (result : Result Loaded ImportFault) → LoadsFrom limits kept loading p result → Loads bytes limits start result

  -- the commands behind the next one
  abbrev rest_of : Kept → List Command → Option StreamFault → Result Loading ImportFault → Result Loaded ImportFault
  rest_of more commands end meant = meant >>= λ next. loaded_keeping limits more next commands end

  -- behind a command
  pub loads_more : (left : Option (List ℕ)) (next : Loading) (more : Kept) (command : Command) → LoadsOn limits start left before kept loading
      → Gave before (Ok (Some command)) → command_meant limits kept loading command ≡ Ok next → more ≡ kept_behind kept command
      → LoadsOn limits start left after more next
  unfolding loaded_keeping
  loads_more None next more command here gives meant keeps = subst (λ (m : Option Place). Gave m (Ok (Some command))) here gives
  loads_more (Some bytes) next more command (p, here, on) gives meant keeps =
      let (q, read, there) = subst (λ (m : Option Place). Gave m (Ok (Some command))) here gives in (
        q,
        there,
        λ result (commands, end, goes, is). on result (
          command ∷ commands,
          end,
          (q, read, goes),
          is ∙ ap (λ (k : Kept). loaded_keeping limits k next commands end) keeps ∙ ap (rest_of (kept_behind kept command) commands end) (sym meant),
        ),
      )

  -- at the end of the stream
  pub loads_all : (left : Option (List ℕ)) → LoadsOn limits start left before kept loading → Gave before (Ok None)
      → MayLoad left limits start (Ok (loading.history, kept))
  unfolding loaded_keeping
  loads_all None here gives = tt
  loads_all (Some bytes) (p, here, on) gives =
      let (q, read, there) = subst (λ (m : Option Place). Gave m (Ok None)) here gives in
      on (Ok (loading.history, kept)) ([], None, (q, read), refl)

  -- at a refusal of the stream
  stream_refused : (bytes : List ℕ) (fault : StreamFault) (p : Place) → On bytes p → command_at limits p ≡ Err fault
      → Loads bytes limits start (Err (faults.Stream fault))
  unfolding loaded_keeping
  stream_refused bytes fault p on is = on (Err (faults.Stream fault)) ([], Some fault, is, refl)

  told_refused : (bytes : List ℕ) (fault : StreamFault) (p : Place) → On bytes p → Gave (Some p) (Err fault)
      → MayLoad (Some bytes) limits start (Err (refusal_of_stream fault))
  told_refused bytes (stream.Syntax line) p on is = stream_refused bytes (stream.Syntax line) p on is
  told_refused bytes (stream.Unsupported line) p on is = stream_refused bytes (stream.Unsupported line) p on is
  told_refused bytes (stream.Truncated line) p on is = stream_refused bytes (stream.Truncated line) p on is
  told_refused bytes (stream.NoDone line) p on is = stream_refused bytes (stream.NoDone line) p on is
  told_refused bytes stream.Read p on is = tt
  told_refused bytes (stream.TooLarge what) p on is = stream_refused bytes (stream.TooLarge what) p on is
  told_refused bytes stream.NoMemory p on is = tt

  pub loads_refused : (left : Option (List ℕ)) (fault : StreamFault) → LoadsOn limits start left before kept loading → Gave before (Err fault)
      → MayLoad left limits start (Err (refusal_of_stream fault))
  loads_refused None fault here gives = tt
  loads_refused (Some bytes) fault (p, here, on) gives = told_refused bytes fault p on (subst (λ (m : Option Place). Gave m (Err fault)) here gives)

  -- at a command without a meaning
  command_refused : (bytes : List ℕ) (command : Command) (fault : ImportFault) (p : Place) → On bytes p → Gave (Some p) (Ok (Some command))
      → command_meant limits kept loading command ≡ Err fault → Loads bytes limits start (Err fault)
  unfolding loaded_keeping
  command_refused bytes command fault p on (q, read, there) meant =
      let (commands, end, goes) = some_continuation limits (suc (length q.rest)) q (omega arith) in
      on (Err fault) (command ∷ commands, end, (q, read, goes), ap (rest_of (kept_behind kept command) commands end) (sym meant))

  told_meant : {X : Type 0} (view : X → Loading) (bytes : List ℕ) (command : Command) (fault : ImportFault) (p : Place) → On bytes p
      → Gave (Some p) (Ok (Some command)) → IsRefusal kept fault → Means view (Err fault) (command_meant limits kept loading command)
      → MayLoad (Some bytes) limits start (Err fault)
  told_meant view bytes command (faults.Stream (stream.Syntax line)) p on gives own is =
      command_refused bytes command (faults.Stream (stream.Syntax line)) p on gives is
  told_meant view bytes command (faults.Stream (stream.Unsupported line)) p on gives own is =
      command_refused bytes command (faults.Stream (stream.Unsupported line)) p on gives is
  told_meant view bytes command (faults.Stream (stream.Truncated line)) p on gives own is =
      command_refused bytes command (faults.Stream (stream.Truncated line)) p on gives is
  told_meant view bytes command (faults.Stream (stream.NoDone line)) p on gives own is =
      command_refused bytes command (faults.Stream (stream.NoDone line)) p on gives is
  told_meant view bytes command (faults.Stream stream.Read) p on gives own is = tt
  told_meant view bytes command (faults.Stream (stream.TooLarge what)) p on gives own is =
      command_refused bytes command (faults.Stream (stream.TooLarge what)) p on gives is
  told_meant view bytes command (faults.Stream stream.NoMemory) p on gives own is =
      command_refused bytes command (faults.Stream stream.NoMemory) p on gives is
  told_meant view bytes command (faults.BadFrom line) p on gives own is = command_refused bytes command (faults.BadFrom line) p on gives is
  told_meant view bytes command (faults.BadMark line) p on gives own is = command_refused bytes command (faults.BadMark line) p on gives is
  told_meant view bytes command (faults.BadPath line) p on gives own is = command_refused bytes command (faults.BadPath line) p on gives is
  told_meant view bytes command (faults.Unsupported line) p on gives own is = command_refused bytes command (faults.Unsupported line) p on gives is
  told_meant view bytes command (faults.NoContent line) p on gives own is = command_refused bytes command (faults.NoContent line) p on gives is
  told_meant view bytes command (faults.TooLarge what) p on gives own is = command_refused bytes command (faults.TooLarge what) p on gives is
  told_meant view bytes command faults.NoMemory p on gives own is = tt

  loads_meant : {X : Type 0} (view : X → Loading) (left : Option (List ℕ)) (command : Command) (fault : ImportFault)
      → LoadsOn limits start left before kept loading
      → Gave before (Ok (Some command)) → Means view (Err fault) (command_meant limits kept loading command) → MayLoad left limits start (Err fault)
  loads_meant view None command fault here gives means = tt
  loads_meant view (Some bytes) command fault (p, here, on) gives means =
      told_meant view bytes command fault p on (subst (λ (m : Option Place). Gave m (Ok (Some command))) here gives)
      (meaning_refuses view limits kept loading command fault means) means

  -- the same at the exit of a `?`
  pub loads_stopped : {X : Type 0} (view : X → Loading) (left : Option (List ℕ)) (command : Command) (fault : ImportFault)
      (result : Result (Unit {0}) ImportFault) (last : Importing) (more : Kept)
      → IsErrAnd result (λ other. other ≡ fault)
      → LoadsOn limits start left before kept loading → Gave before (Ok (Some command))
      → Means view (Err fault) (command_meant limits kept loading command)
      → MayLoad left limits start (ended result last more)
  loads_stopped view left command fault result last more exit here gives means =
      let found = err_from_is_err_and result exit in
      subst (λ (r : Result (Unit {0}) ImportFault). MayLoad left limits start (ended r last more))
      (sym (found.1 ∙ ap (λ (f : ImportFault). Err f) found.2))
      (loads_meant view left command fault here gives means)

-- what a reader gave is read under the limits of the import
pub gave_under : (limits own : Limits) → own ≡ limits → (before after : Option Place) (given next : Option Command) → given ≡ next
    → Gives (λ (c : Option Command). c) before after (Ok given) (command_at own) → Gives (λ (c : Option Command). c) before after (Ok next) (command_at limits)
gave_under limits own same before after given next is gives =
    subst (λ (c : Option Command). Gives (λ (c : Option Command). c) before after (Ok c) (command_at limits)) is
    (subst (λ (l : Limits). Gives (λ (c : Option Command). c) before after (Ok given) (command_at l)) same gives)

-- an import that came to its end loads its bytes
pub loads_ended : (limits : Limits) (left : Option (List ℕ)) (here : Option Place) (importer : Importing) (start : Kept) (answer : Result Loaded ImportFault)
    → here ≡ option_map (start_of limits.stream) left → importer ≡ nothing_imported limits
    → ((begun : Kept) (bytes : Option (List ℕ)) → LoadsOn importer.limits begun bytes here start importer.loading
    → MayLoad bytes importer.limits begun answer)
    → MayLoad left limits start answer
loads_ended limits left here importer start answer fresh begun loads =
    let same : importer.limits ≡ limits = ap (λ (i : Importing). i.limits) begun in
    subst (λ (l : Limits). MayLoad left l start answer) same
    (loads start left (subst (λ (l : Limits). LoadsOn l start left here start importer.loading) (sym same)
    (loads_here limits start left here importer fresh begun)))

-- the limits of an import are those that it was given
pub meant_under : {X : Type 0} (view : X → Loading) (limits own : Limits) (kept : Kept) (loading : Loading) (command : Command)
    (result : Result X ImportFault) → own ≡ limits
    → Means view result (command_meant own kept loading command) → Means view result (command_meant limits kept loading command)
meant_under view limits own kept loading command result same means =
    subst (λ (m : Limits). Means view result (command_meant m kept loading command)) same means

-- ---- causes

-- a refusal of meaning is no fault of the source, and one of an import
of_import : (fault : ImportFault) → IsOfMeaning fault → IsFaultOf None fault
of_import (faults.Stream (stream.Syntax line)) own = tt
of_import (faults.Stream (stream.Unsupported line)) own = absurd own
of_import (faults.Stream (stream.Truncated line)) own = absurd own
of_import (faults.Stream (stream.NoDone line)) own = absurd own
of_import (faults.Stream stream.Read) own = absurd own
of_import (faults.Stream (stream.TooLarge what)) own = absurd own
of_import (faults.Stream stream.NoMemory) own = absurd own
of_import (faults.BadFrom line) own = own
of_import (faults.BadMark line) own = own
of_import (faults.BadPath line) own = own
of_import (faults.Unsupported line) own = own
of_import (faults.NoContent line) own = absurd own
of_import (faults.TooLarge what) own = own
of_import faults.NoMemory own = own

of_refusal : (kept : Kept) (fault : ImportFault) → IsRefusal kept fault → IsFaultOf kept fault
of_refusal None fault own = of_import fault own
of_refusal (Some blobs) (faults.Stream fault) own = of_import (faults.Stream fault) own
of_refusal (Some blobs) (faults.BadFrom line) own = own
of_refusal (Some blobs) (faults.BadMark line) own = own
of_refusal (Some blobs) (faults.BadPath line) own = own
of_refusal (Some blobs) (faults.Unsupported line) own = own
of_refusal (Some blobs) (faults.NoContent line) own = own
of_refusal (Some blobs) (faults.TooLarge what) own = own
of_refusal (Some blobs) faults.NoMemory own = own

pub own_stopped : {X : Type 0} (view : X → Loading) (limits : Limits) (kept : Kept) (loading : Loading) (command : Command) (fault : ImportFault)
    (result : Result (Unit {0}) ImportFault) (start : Kept) → IsErrAnd result (λ other. other ≡ fault)
    → Means view (Err fault) (command_meant limits kept loading command) → IsSameKind start kept → IfErr result (IsFaultOf start)
own_stopped view limits kept loading command fault result start exit means same =
    let found = err_from_is_err_and result exit in
    subst (λ (r : Result (Unit {0}) ImportFault). IfErr r (IsFaultOf start)) (sym (found.1 ∙ ap (λ (f : ImportFault). Err f) found.2))
    (same_kind start kept fault same (of_refusal kept fault (meaning_refuses view limits kept loading command fault means)))
  where
    same_kind : (start kept : Kept) (fault : ImportFault) → IsSameKind start kept → IsFaultOf kept fault → IsFaultOf start fault
    same_kind None None fault same own = own
    same_kind None (Some blobs) fault same own = absurd same
    same_kind (Some others) None fault same own = absurd same
    same_kind (Some others) (Some blobs) fault same own = own

refused_alone : (fault : StreamFault) → IsFaultOf None (refusal_of_stream fault)
refused_alone (stream.Syntax line) = tt
refused_alone (stream.Unsupported line) = tt
refused_alone (stream.Truncated line) = tt
refused_alone (stream.NoDone line) = tt
refused_alone stream.Read = tt
refused_alone (stream.TooLarge what) = tt
refused_alone stream.NoMemory = tt

pub own_refused : (kept : Kept) (fault : StreamFault) → IsFaultOf kept (refusal_of_stream fault)
own_refused None fault = refused_alone fault
own_refused (Some blobs) (stream.Syntax line) = tt
own_refused (Some blobs) (stream.Unsupported line) = tt
own_refused (Some blobs) (stream.Truncated line) = tt
own_refused (Some blobs) (stream.NoDone line) = tt
own_refused (Some blobs) stream.Read = tt
own_refused (Some blobs) (stream.TooLarge what) = tt
own_refused (Some blobs) stream.NoMemory = tt

abbrev fault_in : Result (Unit {0}) ImportFault → ImportFault
fault_in (Ok done) = faults.NoMemory
fault_in (Err fault) = fault

no_read : (kept : Kept) (fault : ImportFault) → IsRefusal kept fault
    → (let r : Result (Unit {0}) ImportFault = Err fault in r) ≡ Err (faults.Stream stream.Read) → ⊥
no_read kept fault own is = no_source kept (subst (IsRefusal kept) (ap fault_in is) own)

pub cause_stopped : {X : Type 0} (view : X → Loading) (limits : Limits) (kept : Kept) (loading : Loading) (command : Command) (fault : ImportFault)
    (result : Result (Unit {0}) ImportFault) (before now : ℕ) → before ≤ now → IsErrAnd result (λ other. other ≡ fault)
    → Means view (Err fault) (command_meant limits kept loading command) → FailsOnlyAt (faults.Stream stream.Read) before now result
cause_stopped view limits kept loading command fault result before now later exit means =
    let found = err_from_is_err_and result exit in
    subst (λ (r : Result (Unit {0}) ImportFault). FailsOnlyAt (faults.Stream stream.Read) before now r)
    (sym (found.1 ∙ ap (λ (f : ImportFault). Err f) found.2))
    (record { later = later; failed = λ is. absurd (no_read kept fault (meaning_refuses view limits kept loading command fault means) is) })

pub cause_refused : (fault : StreamFault) (answered : ImportFault) (before mid now : ℕ) → before ≤ mid → answered ≡ refusal_of_stream fault
    → FailsOnlyAt {T = Option Command} stream.Read mid now (Err fault)
    → FailsOnlyAt {T = Unit {0}} (faults.Stream stream.Read) before now (Err answered)
cause_refused fault answered before mid now later so cause = record {
  later = omega (arith, cause.later, later);
  failed = λ is. rose_before before mid now later (cause.failed (ap (λ (f : StreamFault). Err f) (is_read fault (sym so ∙ ap fault_in is))));
}
  where
    rose_before : (before mid now : ℕ) → before ≤ mid → Rose mid now → Rose before now
    rose_before before mid now later rose = omega (arith, later, rose)

    is_read : (fault : StreamFault) → refusal_of_stream fault ≡ faults.Stream stream.Read → fault ≡ stream.Read
    is_read (stream.Syntax line) is = absurd (cc)
    is_read (stream.Unsupported line) is = absurd (cc)
    is_read (stream.Truncated line) is = absurd (cc)
    is_read (stream.NoDone line) is = absurd (cc)
    is_read stream.Read is = refl
    is_read (stream.TooLarge what) is = absurd (cc)
    is_read stream.NoMemory is = absurd (cc)

-- an import is refused as the loading of its commands was
pub cause_kept : {X : Type 0} (fault : ImportFault) (before now : ℕ) (result : Result (Unit {0}) ImportFault) → result ≡ Err fault
    → FailsOnlyAt (faults.Stream stream.Read) before now result → FailsOnlyAt {T = X} (faults.Stream stream.Read) before now (Err fault)
cause_kept {X = X} fault before now result is cause = record {
  later = cause.later;
  failed = λ so. cause.failed (is ∙ ap (λ (f : ImportFault). Err f) (same so));
}
  where
    same : (let r : Result X ImportFault = Err fault in r) ≡ Err (faults.Stream stream.Read) → fault ≡ faults.Stream stream.Read
    same so = cc

-- contents are kept on, or let go on
pub kept_on : (start kept : Kept) (command : Command) (more : Kept) → more ≡ kept_behind kept command → IsSameKind start kept → IsSameKind start more
kept_on start kept command more is same = subst (IsSameKind start) (sym is) (go start kept same)
  where
    go : (start kept : Kept) → IsSameKind start kept → IsSameKind start (kept_behind kept command)
    go None None same = tt
    go None (Some blobs) same = same
    go (Some others) None same = same
    go (Some others) (Some blobs) same = tt

-- a command takes bytes
pub fewer_left : (given : Option Command) (command : Command) (now before : ℕ) → given ≡ Some command → OnSome given (now < before) → now < before
fewer_left given command now before is fewer = subst (λ (c : Option Command). OnSome c (now < before)) is fewer

pub same_itself : (kept : Kept) → IsSameKind kept kept
same_itself None = tt
same_itself (Some blobs) = tt
