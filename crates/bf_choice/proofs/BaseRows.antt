-- Lemmas on rows that are joined, and on rows of marked places.
use Rattle.std.proofs.Common.{◌≡◌, ℕ, ◌<◌, Bool, false, not, ◌&&◌, ltb, List, length, replicate, Some, None, ap, sym, ◌∙◌, ⊎_elim, arith}
use Rattle.std.proofs.lemmas.Bool.{cases_lt, cond-true, lt-ltb}
use Rattle.std.proofs.lemmas.Bool.Decides.{same_from_decides}
use Rattle.std.proofs.lemmas.List.{length-replicate, get_or_past}
use Rattle.std.proofs.lemmas.List.Sums.{fails_before_first}
use Rattle.std.proofs.lemmas.Option.{none-some}
use Rattle.std.proofs.lemmas.Simd.{length-zip2, get_or-zip2}
use Rattle.std.specs.List.{All, Contains, position, position_or_len}
use Rattle.std.specs.Simd.Lanes.{zip2}
use Rattle.bf_search.specs.Candidates.{is_in}
use Rattle.bf_search.specs.Bases.{has_place}
use Rattle.bf_search.proofs.Turns.{has_place-true}
use Rattle.bf_reach.specs.Marks.{marked}
use Rattle.bf_reach.proofs.Marking.{marked-tells, marked-true, none_marked}
use Rattle.bf_choice.proofs.Listed.{Contains-from_has_place}

pub length-joined : (join : Bool → Bool → Bool) (old other new : List Bool) → length old ≡ length other → new ≡ zip2 join old other → length new ≡ length old
length-joined join old other new same h = ap length h ∙ length-zip2 join old other same

-- a place of one row that another does not have
pub is_in-without : (old other new : List Bool) → length old ≡ length other → new ≡ zip2 (λ mine theirs. mine && not theirs) old other → (q : ℕ)
    → is_in new q ≡ (is_in old q && not (is_in other q))
is_in-without old other new same h q =
    ap (λ row. is_in row q) h
    ∙ ⊎_elim
    (λ l. get_or-zip2 (λ mine theirs. mine && not theirs) old other q false false false l (omega arith))
    (λ past.
    get_or_past (zip2 (λ mine theirs. mine && not theirs) old other) q false (omega (arith, length-zip2 (λ mine theirs. mine && not theirs) old other same))
    ∙ ap (λ b. b && not (is_in other q)) (sym (get_or_past old q false past)))
    (cases_lt q (length old))

-- a place is marked where it is in the list
pub is_in-marked : (n : ℕ) (ps : List ℕ) (q : ℕ) → All (λ p. p < n) ps → is_in (marked (replicate n false) ps) q ≡ has_place ps q
is_in-marked n ps q all =
    same_from_decides {P = Contains ps q} (is_in (marked (replicate n false) ps) q) (has_place ps q) (
      λ h. ⊎_elim (λ k. absurd (none_marked n q k)) (λ k. k) (marked-tells (replicate n false) ps q h),
      λ k. marked-true (replicate n false) ps q
          (rw (length-replicate n false) all) k,
    )
    (Contains-from_has_place ps q, has_place-true ps q)

-- a row has no first true place where each place is false
pub none_true : (row : List Bool) → None ≡ position (λ value. value) row → (q : ℕ) → is_in row q ≡ false
none_true row h q =
    ⊎_elim
    (λ some.
    let found : position (λ value. value) row ≡ Some (position_or_len (λ value. value) row) = cond-true
    (ltb (position_or_len (λ value. value) row) (length row)) (Some (position_or_len (λ value. value) row)) None
    (lt-ltb (position_or_len (λ value. value) row) (length row) some) in
    absurd (none-some (position_or_len (λ value. value) row) (h ∙ found)))
    (λ none. ⊎_elim (λ l. fails_before_first (λ value. value) row q false (omega arith)) (λ past. get_or_past row q false past) (cases_lt q (length row)))
    (cases_lt (position_or_len (λ value. value) row) (length row))
