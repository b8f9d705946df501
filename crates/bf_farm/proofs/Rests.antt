-- A list of which some were taken from the front.
use Rattle.std.proofs.Common.{◌≡◌, List, [], ◌∷◌, ◌++◌, length, All, Contains, refl, sym, ap, subst, ◌∙◌, append_assoc, arith}
use Rattle.std.proofs.lemmas.List.{append-nil}
use Rattle.std.proofs.lemmas.List.Elements.{All-contains, Contains-append_right}

-- what holds of all holds of the next one
pub next_of_rest : {X : Type 0} (P : X → Type 0) (whole taken rest more : List X) (x : X) → taken ++ rest ≡ whole → rest ≡ x ∷ more → All P whole → P x
next_of_rest P whole taken rest more x is at all =
    All-contains P whole x all
    (subst (λ l. Contains l x) is (Contains-append_right taken rest x (subst (λ l. Contains l x) (sym at) (0, omega arith, refl))))

-- the next one is taken
pub one_taken : {X : Type 0} (whole taken rest more : List X) (x : X) → taken ++ rest ≡ whole → rest ≡ x ∷ more → (taken ++ x ∷ []) ++ more ≡ whole
one_taken whole taken rest more x is at = append_assoc taken (x ∷ []) more ∙ ap (λ l. taken ++ l) (sym at) ∙ is

nothing : {X : Type 0} (xs : List X) → length xs ≡ 0 → xs ≡ []
nothing [] e = refl
nothing (x ∷ xs) e = absurd (omega arith)

-- all were taken
pub all_taken : {X : Type 0} (whole taken rest : List X) → taken ++ rest ≡ whole → length rest ≡ 0 → taken ≡ whole
all_taken whole taken rest is none = sym (append-nil taken) ∙ ap (λ l. taken ++ l) (sym (nothing rest none)) ∙ is
