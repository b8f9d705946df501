-- How meanings are composed: what a call gives is joined from what its own calls give, each lemma for one step.
use Rattle.std.proofs.Common.{◌≡◌, ℕ, suc, ◌+◌, ◌<◌, ◌≤◌, List, [], ◌∷◌, ◌++◌, length, drop, get_or, Result, Ok, Err, refl, sym, ◌∙◌, ap, subst, append_assoc}
use Rattle.std.proofs.Common.{add-one}
use Rattle.std.specs.Result.{IsErrAnd}
use Rattle.std.proofs.Math.Seq.{drop-cons}
use Rattle.std.proofs.lemmas.List.{append-nil, drop_all}
use Rattle.std.proofs.lemmas.Result.{err_from_is_err_and}
use Rattle.bf_history.specs.declared.fault.ImportFault.{ImportFault}
use Rattle.bf_history.specs.declared.fault.ImportFault.TheVariants as faults
use Rattle.bf_history.specs.Imports.{Means}
use Rattle.bf_history.specs.Meanings.{each_of}
use Rattle.bf_grammar.specs.Forms.{◌>>=◌}

-- what is refused so is what the call gives
pub means_refused : {X Y : Type 0} (view : X → Y) (fault : ImportFault) (meant : Result Y ImportFault) → meant ≡ Err fault → Means view (Err fault) meant
means_refused view (faults.Stream fault) meant is = is
means_refused view (faults.BadFrom line) meant is = is
means_refused view (faults.BadMark line) meant is = is
means_refused view (faults.BadPath line) meant is = is
means_refused view (faults.Unsupported line) meant is = is
means_refused view (faults.NoContent line) meant is = is
means_refused view (faults.TooLarge what) meant is = is
means_refused view faults.NoMemory meant is = tt

-- a meaning that is refused alike is refused by the same call
pub means_alike : {X Y Z W : Type 0} (view : X → Y) (other : Z → W) (fault : ImportFault) (meant : Result Y ImportFault) (again : Result W ImportFault)
    → (meant ≡ Err fault → again ≡ Err fault) → Means view (Err fault) meant → Means other (Err fault) again
means_alike view other (faults.Stream fault) meant again alike means = alike means
means_alike view other (faults.BadFrom line) meant again alike means = alike means
means_alike view other (faults.BadMark line) meant again alike means = alike means
means_alike view other (faults.BadPath line) meant again alike means = alike means
means_alike view other (faults.Unsupported line) meant again alike means = alike means
means_alike view other (faults.NoContent line) meant again alike means = alike means
means_alike view other (faults.TooLarge what) meant again alike means = alike means
means_alike view other faults.NoMemory meant again alike means = tt

-- equal meanings are given alike
pub means_same : {X Y : Type 0} (view : X → Y) (result : Result X ImportFault) (meant again : Result Y ImportFault) → meant ≡ again → Means view result meant
    → Means view result again
means_same view result meant again same means = subst (λ (m : Result _ ImportFault). Means view result m) same means

-- what the exit of a `?` returns
pub means_at_exit : {X Y : Type 0} (view : X → Y) (meant : Result Y ImportFault) (fault : ImportFault) (result : Result X ImportFault)
    → IsErrAnd result (λ other. other ≡ fault) → Means view (Err fault) meant → Means view result meant
means_at_exit view meant fault result exit means =
    let found = err_from_is_err_and result exit in
    subst (λ (r : Result _ ImportFault). Means view r meant) (sym (found.1 ∙ ap (λ (f : ImportFault). Err f) found.2)) means

module _ {X Y Z W : Type 0} (view : X → Y) (other : Z → W) (meant : Result Y ImportFault) (next : Y → Result W ImportFault) where
  -- the first step failed, so the whole does
  pub means_stopped : (fault : ImportFault) → Means view (Err fault) meant → Means other (Err fault) (meant >>= next)
  means_stopped fault means = means_alike view other fault meant (meant >>= next) (λ is. ap (λ (m : Result Y ImportFault). m >>= next) is) means

  -- the same at the exit of a `?`
  pub means_passed_on : (fault : ImportFault) (result : Result Z ImportFault) → IsErrAnd result (λ other. other ≡ fault) → Means view (Err fault) meant
      → Means other result (meant >>= next)
  means_passed_on fault result exit means = means_at_exit other (meant >>= next) fault result exit (means_stopped fault means)

  -- the first step gave a value, and the next went on with it
  pub means_then : (x : X) (result : Result Z ImportFault) → Means view (Ok x) meant → Means other result (next (view x)) → Means other result (meant >>= next)
  means_then x result first second = means_same other result (next (view x)) (meant >>= next) (ap (λ (m : Result Y ImportFault). m >>= next) (sym first)) second

-- ---- each of some items, in order

-- so many items gave these values, and the others are to come
abbrev pub EachSoFar : {X Y : Type 0} → (X → Result Y ImportFault) → List X → ℕ → List Y → Type 0
EachSoFar value items index done = each_of value items ≡ (each_of value (drop index items) >>= λ rest. Ok (done ++ rest))

-- a value in front of those to come
in_front : {Y : Type 0} (done : List Y) (y : Y) (to_come : Result (List Y) ImportFault)
    → ((to_come >>= λ ys. Ok (y ∷ ys)) >>= λ rest. Ok (done ++ rest)) ≡ (to_come >>= λ rest. Ok ((done ++ y ∷ []) ++ rest))
in_front done y (Ok ys) = ap (λ (all : List _). Ok all) (sym (append_assoc done (y ∷ []) ys))
in_front done y (Err fault) = refl

module _ {X Y : Type 0} (value : X → Result Y ImportFault) (items : List X) (index : ℕ) (done : List Y) where
  -- the next item, and those behind it
  next_item : (x : X) → index < length items → x ≡ get_or items index x → drop index items ≡ x ∷ drop (index + 1) items
  next_item x lt here = drop-cons items index x lt ∙ ap (λ (y : X). y ∷ drop (suc index) items) (sym here) ∙ ap (λ (i : ℕ). x ∷ drop i items)
      (sym (add-one index))

  -- the next item gave its value
  pub each_more : (x : X) (y : Y) → index < length items → x ≡ get_or items index x → value x ≡ Ok y → EachSoFar value items index done
      → EachSoFar value items (index + 1) (done ++ y ∷ [])
  unfolding each_of
  each_more x y lt here is so_far =
      so_far
      ∙ ap (λ (xs : List X). each_of value xs >>= λ rest. Ok (done ++ rest)) (next_item x lt here)
      ∙ ap (λ (r : Result Y ImportFault). (r >>= λ first. each_of value (drop (index + 1) items) >>= λ ys. Ok (first ∷ ys)) >>= λ rest. Ok (done ++ rest)) is
      ∙ in_front done y (each_of value (drop (index + 1) items))

  -- the next item was refused, so all are
  pub each_refused : {Z W : Type 0} (view : Z → Y) (other : W → List Y) (x : X) (fault : ImportFault) (result : Result W ImportFault)
      → IsErrAnd result (λ refused. refused ≡ fault) → index < length items → x ≡ get_or items index x
      → Means view (Err fault) (value x) → EachSoFar value items index done → Means other result (each_of value items)
  unfolding each_of
  each_refused view other x fault result exit lt here means so_far =
      means_at_exit other (each_of value items) fault result exit
      (means_same other (Err fault) (each_of value (x ∷ drop (index + 1) items) >>= λ rest. Ok (done ++ rest)) (each_of value items)
      (sym (so_far ∙ ap (λ (xs : List X). each_of value xs >>= λ rest. Ok (done ++ rest)) (next_item x lt here)))
      (means_stopped other other (each_of value (x ∷ drop (index + 1) items)) (λ (rest : List Y). Ok (done ++ rest)) fault
      (means_stopped view other (value x) (λ (first : Y). each_of value (drop (index + 1) items) >>= λ ys. Ok (first ∷ ys)) fault means)))

  -- no item is left
  pub each_done : length items ≤ index → EachSoFar value items index done → each_of value items ≡ Ok done
  unfolding each_of
  each_done le so_far =
      so_far
      ∙ ap (λ (xs : List X). each_of value xs >>= λ rest. Ok (done ++ rest)) (drop_all index items le)
      ∙ ap (λ (all : List Y). Ok all) (append-nil done)
