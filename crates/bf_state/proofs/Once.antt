-- Lemmas on lists of good places, each of which stands there once.
use Rattle.std.proofs.Common.{◌≡◌, ◌≢◌, ℕ, ◌<◌, Bool, true, false, ◌||◌, ◌==◌, List, [], ◌∷◌, ◌++◌, length, get_or, refl, ap, sym, ◌∙◌, subst, ⊎_elim, eq-eqb}
use Rattle.std.proofs.lemmas.Bool.{cases_Bool, cond-true, cond-false, both_ways}
use Rattle.std.proofs.lemmas.List.{get_or_default}
use Rattle.std.proofs.lemmas.List.Elements.{All-push, All-head, All-tail}
use Rattle.std.proofs.lemmas.List.Folds.{list_any-append}
use Rattle.std.proofs.lemmas.List.Quantifiers.{all_pairs_push}
use Rattle.std.specs.List.{All, AllPairs}
use Rattle.bf_terms.specs.Texts.{with_good, with_goods}
use Rattle.bf_search.specs.Bases.{has_place}
use Rattle.bf_search.proofs.Turns.{has_place-true}

-- a place that is there changes nothing
pub with_good-known : (goods : List ℕ) (p : ℕ) → has_place goods p ≡ true → with_good goods p ≡ goods
with_good-known goods p h = cond-true (has_place goods p) goods (goods ++ p ∷ []) h

-- any other goes last
pub with_good-fresh : (goods : List ℕ) (p : ℕ) → has_place goods p ≡ false → with_good goods p ≡ goods ++ p ∷ []
with_good-fresh goods p h = cond-false (has_place goods p) goods (goods ++ p ∷ []) h

-- a test that adds nothing
pub or_false : (b : Bool) → (b || false) ≡ b
or_false true = refl
or_false false = refl

pub has_place-append : (goods : List ℕ) (p q : ℕ) → has_place (goods ++ p ∷ []) q ≡ (has_place goods q || (p == q))
has_place-append goods p q = list_any-append (λ r. r == q) goods (p ∷ []) ∙ ap (λ b. has_place goods q || b) (or_false (p == q))

-- afterwards it is there
pub has_place-with_good : (goods : List ℕ) (p : ℕ) → has_place (with_good goods p) p ≡ true
has_place-with_good goods p =
    ⊎_elim
    (λ known. ap (λ (ps : List ℕ). has_place ps p) (with_good-known goods p known) ∙ known)
    (λ fresh. ap (λ (ps : List ℕ). has_place ps p) (with_good-fresh goods p fresh) ∙ has_place-append goods p p ∙ or_true (has_place goods p) (eq-eqb p p refl))
    (cases_Bool (has_place goods p))
  where
    or_true : (b : Bool) {t : Bool} → t ≡ true → (b || t) ≡ true
    or_true true h = refl
    or_true false h = h

-- a place of the list is found in it
pub has_place-at : (goods : List ℕ) (k d : ℕ) → k < length goods → has_place goods (get_or goods k d) ≡ true
has_place-at goods k d l = has_place-true goods (get_or goods k d) (k, l, get_or_default goods k (get_or goods k d) d l)

pub All-with_good : (P : ℕ → Type 0) (goods : List ℕ) (p : ℕ) → All P goods → P p → All P (with_good goods p)
All-with_good P goods p all here =
    ⊎_elim
    (λ known. subst (λ (ps : List ℕ). All P ps) (sym (with_good-known goods p known)) all)
    (λ fresh. subst (λ (ps : List ℕ). All P ps) (sym (with_good-fresh goods p fresh)) (All-push P goods p all here))
    (cases_Bool (has_place goods p))

-- no place stands there twice
pub distinct-with_good : (goods : List ℕ) (p : ℕ) → AllPairs (λ q r. q ≢ r) goods → AllPairs (λ q r. q ≢ r) (with_good goods p)
distinct-with_good goods p apart =
    ⊎_elim
    (λ known. subst (λ (ps : List ℕ). AllPairs (λ q r. q ≢ r) ps) (sym (with_good-known goods p known)) apart)
    (λ fresh. subst (λ (ps : List ℕ). AllPairs (λ q r. q ≢ r) ps) (sym (with_good-fresh goods p fresh))
    (all_pairs_push (λ q r. q ≢ r) goods p apart
    (λ k d l e. both_ways (has_place goods p) fresh (subst (λ (x : ℕ). has_place goods x ≡ true) e (has_place-at goods k d l)))))
    (cases_Bool (has_place goods p))

pub All-with_goods : (P : ℕ → Type 0) (kept more : List ℕ) → All P kept → All P more → All P (with_goods kept more)
All-with_goods P kept [] all each = all
All-with_goods P kept (p ∷ ps) all each = All-with_goods P (with_good kept p) ps (All-with_good P kept p all (All-head P p ps each)) (All-tail P p ps each)

pub distinct-with_goods : (kept more : List ℕ) → AllPairs (λ q r. q ≢ r) kept → AllPairs (λ q r. q ≢ r) (with_goods kept more)
distinct-with_goods kept [] apart = apart
distinct-with_goods kept (p ∷ ps) apart = distinct-with_goods (with_good kept p) ps (distinct-with_good kept p apart)
