-- The commit that a name means, part by part.
use Rattle.std.proofs.Common.{◌≡◌, ℕ, ◌<◌, ◌==◌, Bool, true, false, cond, List, [], ◌∷◌, Option, Some, None, All, IfSome, Result, Ok, Err, sym, ◌∙◌, ap, subst}
use Rattle.std.proofs.lemmas.List.Elements.{All-head, All-tail}
use Rattle.std.proofs.lemmas.Result.{err_from_is_err_and}
use Rattle.std.specs.Cmp.Lexicographic.{pointwise}
use Rattle.std.specs.Option.{ok_or, option_map_or, option_or}
use Rattle.std.specs.Result.{IsErrAnd}
use Rattle.bf_oid.specs.declared.object.Oid.{Oid}
use Rattle.bf_oid.specs.Object.{oid_of_hex}
use Rattle.bf_history.specs.Meanings.{History, place_named, ref_in}
use Rattle.bf_history.specs.Named.{value_of}
use Rattle.bf_names.specs.declared.fault.NameFault.{NameFault}
use Rattle.bf_names.specs.declared.fault.NameFault.TheVariants.{Unknown, Ambiguous, NoParent, BadForm, NoMemory}
use Rattle.bf_names.specs.Names.{Fails, Means, by_digits, by_name, first_set, meanings, place_of_base, spelled_out}
use Rattle.bf_grammar.specs.Forms.{◌>>=◌}

-- ---- what is meant, and what a call gives

pub means_same : {X : Type 0} (result meant : Result X NameFault) → result ≡ meant → Means result meant
means_same (Ok x) meant same = sym same
means_same (Err Unknown) meant same = sym same
means_same (Err (Ambiguous count)) meant same = sym same
means_same (Err NoParent) meant same = sym same
means_same (Err BadForm) meant same = sym same
means_same (Err NoMemory) meant same = tt

pub fails_then : {X Y : Type 0} (fault : NameFault) (meant : Result X NameFault) (next : X → Result Y NameFault) → Fails fault meant
    → Fails fault (meant >>= next)
fails_then Unknown meant next refused = ap (λ m. m >>= next) refused
fails_then (Ambiguous count) meant next refused = ap (λ m. m >>= next) refused
fails_then NoParent meant next refused = ap (λ m. m >>= next) refused
fails_then BadForm meant next refused = ap (λ m. m >>= next) refused
fails_then NoMemory meant next refused = tt

-- at the exit of a `?`
pub means_exit : {X Y : Type 0} (result : Result Y NameFault) (fault : NameFault) (meant : Result X NameFault) (next : X
    → Result Y NameFault) → IsErrAnd result (λ other. other ≡ fault)
    → Fails fault meant → Means result (meant >>= next)
means_exit {X} {Y} result fault meant next exit refused =
    let p = err_from_is_err_and result exit in
    subst (λ (r : Result Y NameFault). Means r (meant >>= next)) (sym p.1) (subst (λ (f : NameFault). Fails f (meant >>= next)) (sym p.2)
    (fails_then fault meant next refused))

-- behind a `?`
pub means_then : {X Y : Type 0} (result : Result Y NameFault) (meant : Result X NameFault) (next : X → Result Y NameFault) (x : X)
    → meant ≡ Ok x → Means result (next x) → Means result (meant >>= next)
means_then {X} result meant next x is means = subst (λ (m : Result X NameFault). Means result (m >>= next)) (sym is) means

-- ---- the base

pub place_of_base-name : (history : History) (base spelled : List ℕ) (name : Oid) → spelled ≡ spelled_out base
    → Some name ≡ oid_of_hex spelled
    → place_of_base history base ≡ ok_or (place_named history.names name) Unknown
unfolding place_of_base
place_of_base-name history base spelled name is digits =
    ap (λ text. by_name history text (oid_of_hex text)) (sym is) ∙ ap (λ (o : Option Oid). by_name history spelled o) (sym digits)

pub place_of_base-ref : (history : History) (base spelled : List ℕ) (place : Option ℕ) → spelled ≡ spelled_out base
    → None ≡ oid_of_hex spelled → place ≡ first_set history.refs (meanings spelled)
    → place_of_base history base ≡ option_map_or (λ found. Ok found) place (by_digits history spelled)
unfolding place_of_base
place_of_base-ref history base spelled place is other set =
    ap (λ text. by_name history text (oid_of_hex text)) (sym is) ∙ ap (λ (o : Option Oid). by_name history spelled o) (sym other) ∙ ap (λ o. option_map_or (λ found. Ok found) o (by_digits history spelled)) (sym set)

-- ---- a ref leads to a commit of the history

abbrev IsWithin : ℕ → Option ℕ → Type 0
IsWithin len place = IfSome place (λ p. p < len)

either_within : (len : ℕ) (one other : Option ℕ) → IsWithin len one → IsWithin len other → IsWithin len (option_or one other)
either_within len (Some p) other h k = h
either_within len None other h k = k

chosen_within : (len : ℕ) (same : Bool) (place : ℕ) (other : Option ℕ) → place < len → IsWithin len other → IsWithin len (cond same (Some place) other)
chosen_within len true place other h k = h
chosen_within len false place other h k = k

value_within : (same : List ℕ → List ℕ → Bool) (len : ℕ) (refs : List (List ℕ × ℕ)) (name : List ℕ) → All (λ ref. ref.1 < len) refs
    → IsWithin len (value_of same name refs)
value_within same len [] name h = tt
value_within same len (ref ∷ refs) name h =
    chosen_within len (same name ref.0) ref.1 (value_of same name refs) (All-head (λ ref. ref.1 < len) ref refs h)
    (value_within same len refs name (All-tail (λ ref. ref.1 < len) ref refs h))

set_within : (len : ℕ) (refs : List (List ℕ × ℕ)) (names : List (List ℕ)) → All (λ ref. ref.1 < len) refs → IsWithin len (first_set refs names)
set_within len refs [] h = tt
set_within len refs (name ∷ names) h =
    either_within len (ref_in refs name) (first_set refs names) (value_within (pointwise ◌==◌) len refs name h) (set_within len refs names h)

pub first_set-within : (len : ℕ) (refs : List (List ℕ × ℕ)) (base : List ℕ) (place : ℕ) → All (λ ref. ref.1 < len) refs
    → Some place ≡ first_set refs (meanings base) → place < len
first_set-within len refs base place h is = subst (IsWithin len) (sym is) (set_within len refs (meanings base) h)
