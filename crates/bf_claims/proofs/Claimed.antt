-- What the lines of a head claim is in its rows.
use Rattle.std.proofs.Common.{◌≡◌, ℕ, zero, suc, ◌<◌, ◌==◌, cond, Bool, true, false, ◌||◌, List, [], ◌∷◌, ◌++◌, length, replicate, set, Option, Some, None, refl, sym, ap, ◌∙◌, subst, ⊎_elim, eq-eqb}
use Rattle.std.specs.Prelude.{option_and_then}
use Rattle.std.specs.List.{list_any}
use Rattle.std.specs.Option.{option_map}
use Rattle.std.proofs.lemmas.Bool.{cases_eq, ne_eqb}
use Rattle.std.proofs.lemmas.List.{get_or-set_same, get_or-set_other, length-replicate, length-set}
use Rattle.std.proofs.lemmas.List.Folds.{list_any-append}
use Rattle.std.proofs.lemmas.Option.{none-some, same_Some}
use Rattle.bf_oid.specs.declared.object.Oid.{Oid}
use Rattle.bf_search.specs.Candidates.{is_in}
use Rattle.bf_claims.specs.declared.claim.Claim.{Claim}
use Rattle.bf_claims.specs.declared.claim.Claim.TheVariants.{Nothing, Bad, Good, Skipped, StillBad, StillGood}
use Rattle.bf_claims.specs.declared.head.Head.{Head}
use Rattle.bf_claims.specs.declared.kind.Kind.{Kind}
use Rattle.bf_claims.specs.Claims.{claim_of}
use Rattle.bf_claims.specs.Heads.{no_head, take_claim, take_line, with_bad, with_good}
use Rattle.bf_claims.specs.Kinds.{may_follow, rank_of}
use Rattle.bf_claims.specs.Lines.{kind_in, without_end}
use Rattle.bf_claims.specs.Standing.{claim_in, claims_bad, claims_good, is_bad, is_good}

-- the rows with a claim
abbrev pub bad_with : Claim → List Bool → List Bool
bad_with (Bad p) row = set row p true
bad_with other row = row

abbrev pub good_with : Claim → List Bool → List Bool
good_with (Good p) row = set row p true
good_with other row = row

-- ---- one line

-- what a line says is a claim, and the rows are those with it
pub record IsTaken (said : Option Claim) (head next : Head) : Type 0 where
  pub claim : Claim
  pub is : said ≡ Some claim
  pub bad : next.bad ≡ bad_with claim head.bad
  pub good : next.good ≡ good_with claim head.good

unless : (b : Bool) (x y : Head) → cond b None (Some x) ≡ Some y → x ≡ y
unless true x y h = absurd (none-some y h)
unless false x y h = same_Some x y h

unless_then : (b : Bool) (f : Head → Head) (x y : Head) → option_map f (cond b None (Some x)) ≡ Some y → f x ≡ y
unless_then true f x y h = absurd (none-some y h)
unless_then false f x y h = same_Some (f x) y h

still_bad : (b again : Bool) (x y : Head) → cond b (cond again None (Some x)) None ≡ Some y → x ≡ y
still_bad true again x y h = unless again x y h
still_bad false again x y h = absurd (none-some y h)

still_good : (b again : Bool) (x y : Head) → cond b None (cond again None (Some x)) ≡ Some y → x ≡ y
still_good true again x y h = absurd (none-some y h)
still_good false again x y h = unless again x y h

abbrev IsWith : Claim → Head → Head → Type 0
IsWith claim head next = (next.bad ≡ bad_with claim head.bad) × (next.good ≡ good_with claim head.good)

same_rows : (x y : Head) → x ≡ y → (y.bad ≡ x.bad) × (y.good ≡ x.good)
same_rows x y e = (sym (ap (λ (h : Head). h.bad) e), sym (ap (λ (h : Head). h.good) e))

claim_taken : (claim : Claim) (head next : Head) → take_claim head claim ≡ Some next → IsWith claim head next
claim_taken Nothing head next h = same_rows head next (same_Some head next h)
claim_taken (Bad p) head next h =
    let named = record head { named = set head.named p true } in
    same_rows (with_bad p named) next (unless_then (is_in head.named p) (with_bad p) named next h)
claim_taken (Good p) head next h =
    let named = record head { named = set head.named p true } in
    same_rows (with_good p named) next (unless_then (is_in head.named p) (with_good p) named next h)
claim_taken (Skipped p) head next h =
    let named = record head { named = set head.named p true } in
    same_rows named next (unless (is_in head.named p) named next h)
claim_taken (StillBad p) head next h =
    let again = record head { again = set head.again p true } in
    same_rows again next (still_bad (is_in head.bad p) (is_in head.again p) again next h)
claim_taken (StillGood p) head next h =
    let again = record head { again = set head.again p true } in
    same_rows again next (still_good (is_in head.bad p) (is_in head.again p) again next h)

by_claim : (may : Bool) (said : Option Claim) (rank : ℕ) (head next : Head)
    → cond may (option_and_then (take_claim (record head { rank = rank })) said) None ≡ Some next → IsTaken said head next
by_claim false said rank head next h = absurd (none-some next h)
by_claim true None rank head next h = absurd (none-some next h)
by_claim true (Some claim) rank head next h =
    let rows = claim_taken claim (record head { rank = rank }) next h in
    record { claim = claim; is = refl; bad = rows.0; good = rows.1 }

by_kind : (names : List Oid) (split : Option (Kind × List ℕ)) (head next : Head)
    → option_and_then (λ (s : Kind × List ℕ). cond (may_follow head.rank s.0) (option_and_then (take_claim (record head { rank = rank_of s.0 })) (claim_of names s.0 s.1)) None) split ≡ Some next
    → IsTaken (option_and_then (λ (s : Kind × List ℕ). claim_of names s.0 s.1) split) head next
by_kind names None head next h = absurd (none-some next h)
by_kind names (Some s) head next h = by_claim (may_follow head.rank s.0) (claim_of names s.0 s.1) (rank_of s.0) head next h

pub line_taken : (names : List Oid) (head next : Head) (line : List ℕ) → take_line names head line ≡ Some next → IsTaken (claim_in names line) head next
unfolding take_line
line_taken names head next line h = by_kind names (option_and_then kind_in (without_end line)) head next h

-- ---- all lines so far

-- the rows say what the lines claim, of so many commits
pub record IsClaimed (names : List Oid) (len : ℕ) (lines : List (List ℕ)) (head : Head) : Type 0 where
  pub bad_len : length head.bad ≡ len
  pub good_len : length head.good ≡ len
  pub bad : (p : ℕ) → p < len → is_in head.bad p ≡ claims_bad names lines p
  pub good : (p : ℕ) → p < len → is_in head.good p ≡ claims_good names lines p

none_set : (len p : ℕ) → is_in (replicate len false) p ≡ false
none_set zero p = refl
none_set (suc len) zero = refl
none_set (suc len) (suc p) = none_set len p

pub nothing_claimed : (names : List Oid) (len : ℕ) → IsClaimed names len [] (no_head len)
nothing_claimed names len = record {
  bad_len = length-replicate len false;
  good_len = length-replicate len false;
  bad = λ p l. none_set len p;
  good = λ p l. none_set len p;
}

or_no : (b : Bool) → b ≡ (b || false)
or_no true = refl
or_no false = refl

or_yes : (b : Bool) → true ≡ (b || true)
or_yes true = refl
or_yes false = refl

set_tells : (row : List Bool) (p q : ℕ) → q < length row → is_in (set row p true) q ≡ (is_in row q || (p == q))
set_tells row p q l =
    ⊎_elim
    (λ e.
    subst (λ (x : ℕ). is_in (set row x true) q ≡ (is_in row q || (x == q))) e
    (get_or-set_same row q true false l ∙ or_yes (is_in row q) ∙ ap (λ (b : Bool). is_in row q || b) (sym (eq-eqb q q refl))))
    (λ n.
    get_or-set_other row p q true false n
    ∙ or_no (is_in row q)
    ∙ ap (λ (b : Bool). is_in row q || b) (sym (ne_eqb p q (λ e. n (sym e)))))
    (cases_eq q p)

bad_tells : (claim : Claim) (row : List Bool) (q : ℕ) → q < length row → is_in (bad_with claim row) q ≡ (is_in row q || is_bad q (Some claim))
bad_tells Nothing row q l = or_no (is_in row q)
bad_tells (Bad p) row q l = set_tells row p q l
bad_tells (Good p) row q l = or_no (is_in row q)
bad_tells (Skipped p) row q l = or_no (is_in row q)
bad_tells (StillBad p) row q l = or_no (is_in row q)
bad_tells (StillGood p) row q l = or_no (is_in row q)

good_tells : (claim : Claim) (row : List Bool) (q : ℕ) → q < length row → is_in (good_with claim row) q ≡ (is_in row q || is_good q (Some claim))
good_tells Nothing row q l = or_no (is_in row q)
good_tells (Bad p) row q l = or_no (is_in row q)
good_tells (Good p) row q l = set_tells row p q l
good_tells (Skipped p) row q l = or_no (is_in row q)
good_tells (StillBad p) row q l = or_no (is_in row q)
good_tells (StillGood p) row q l = or_no (is_in row q)

bad_long : (claim : Claim) (row : List Bool) → length (bad_with claim row) ≡ length row
bad_long Nothing row = refl
bad_long (Bad p) row = length-set row p true
bad_long (Good p) row = refl
bad_long (Skipped p) row = refl
bad_long (StillBad p) row = refl
bad_long (StillGood p) row = refl

good_long : (claim : Claim) (row : List Bool) → length (good_with claim row) ≡ length row
good_long Nothing row = refl
good_long (Bad p) row = refl
good_long (Good p) row = length-set row p true
good_long (Skipped p) row = refl
good_long (StillBad p) row = refl
good_long (StillGood p) row = refl

-- a row that says what lines claim, with one more of them
one_more : (says : List ℕ → Bool) (lines : List (List ℕ)) (line : List ℕ) (row : List Bool) (p : ℕ) → is_in row p ≡ list_any says lines
    → (is_in row p || says line) ≡ list_any says (lines ++ line ∷ [])
one_more says lines line row p is =
    ap (λ (b : Bool). b || says line) is
    ∙ ap (λ (b : Bool). list_any says lines || b) (or_no (says line))
    ∙ sym (list_any-append says lines (line ∷ []))

pub line_claimed : (names : List Oid) (len : ℕ) (lines : List (List ℕ)) (line : List ℕ) (head next : Head) → IsClaimed names len lines head
    → IsTaken (claim_in names line) head next → IsClaimed names len (lines ++ line ∷ []) next
line_claimed names len lines line head next so taken = record {
  bad_len = ap length taken.bad ∙ bad_long taken.claim head.bad ∙ so.bad_len;
  good_len = ap length taken.good ∙ good_long taken.claim head.good ∙ so.good_len;
  bad = λ p l.
      ap (λ (row : List Bool). is_in row p) taken.bad
      ∙ bad_tells taken.claim head.bad p (subst (λ (n : ℕ). p < n) (sym so.bad_len) l)
      ∙ ap (λ (said : Option Claim). is_in head.bad p || is_bad p said) (sym taken.is)
      ∙ one_more (λ (text : List ℕ). is_bad p (claim_in names text)) lines line head.bad p (so.bad p l);
  good = λ p l.
      ap (λ (row : List Bool). is_in row p) taken.good
      ∙ good_tells taken.claim head.good p (subst (λ (n : ℕ). p < n) (sym so.good_len) l)
      ∙ ap (λ (said : Option Claim). is_in head.good p || is_good p said) (sym taken.is)
      ∙ one_more (λ (text : List ℕ). is_good p (claim_in names text)) lines line head.good p (so.good p l);
}
