-- Places that stand once stay as they are.
use Rattle.std.proofs.Common.{◌≡◌, ℕ, false, List, [], ◌∷◌, ◌++◌, sym, ap, ◌∙◌, append_assoc, append-nil, ⊎_elim}
use Rattle.std.proofs.lemmas.Bool.{cond-true, cond-false, cases_Bool}
use Rattle.bf_search.specs.Bases.{has_place}
use Rattle.bf_terms.specs.Texts.{with_goods}

-- places that stand neither there nor twice
abbrev Fresh : List ℕ → List ℕ → Type 0
Fresh acc [] = Unit {0}
Fresh acc (p ∷ ps) = (has_place acc p ≡ false) × Fresh (acc ++ p ∷ []) ps

fresh_kept : (acc ps : List ℕ) → Fresh acc ps → with_goods acc ps ≡ acc ++ ps
fresh_kept acc [] h = sym (append-nil acc)
fresh_kept acc (p ∷ ps) h =
    ap (λ (x : List ℕ). with_goods x ps) (cond-false (has_place acc p) acc (acc ++ p ∷ []) h.0)
    ∙ fresh_kept (acc ++ p ∷ []) ps h.1
    ∙ append_assoc acc (p ∷ []) ps

record Added (acc goods : List ℕ) : Type 0 where
  more : List ℕ
  is : with_goods acc goods ≡ acc ++ more
  fresh : Fresh acc more

added : (acc goods : List ℕ) → Added acc goods
added acc [] = record { more = []; is = sym (append-nil acc); fresh = tt }
added acc (p ∷ ps) =
    ⊎_elim
    (λ yes.
    let rest = added acc ps in
    record {
      more = rest.more;
      is = ap (λ (x : List ℕ). with_goods x ps)
          (cond-true (has_place acc p) acc (acc ++ p ∷ []) yes) ∙ rest.is;
      fresh = rest.fresh;
    })
    (λ no.
    let rest = added (acc ++ p ∷ []) ps in
    record {
      more = p ∷ rest.more;
      is = ap (λ (x : List ℕ). with_goods x ps) (cond-false (has_place acc p) acc (acc ++ p ∷ []) no) ∙ rest.is
          ∙ append_assoc acc (p ∷ []) rest.more;
      fresh = (no, rest.fresh);
    })
    (cases_Bool (has_place acc p))

-- each place once, once more
pub goods_again : (goods : List ℕ) → with_goods [] (with_goods [] goods) ≡ with_goods [] goods
goods_again goods =
    let a = added [] goods in
    ap (λ (x : List ℕ). with_goods [] x) a.is ∙ fresh_kept [] a.more a.fresh ∙ sym a.is
