-- What is held whole where a stream ends, and what is left behind it.
use Rattle.std.proofs.Common.{◌≡◌, ℕ, ◌+◌, ◌-◌, ◌≤◌, min, Bool, true, false, cond, List, [], ◌∷◌, ◌++◌, length, take, drop, Option, Some, None, Result, Ok, Err, refl, sym}
use Rattle.std.proofs.Common.{ap, subst, ◌∙◌, ◌⊎◌, inl, inr, append_assoc, append-nil, length-drop, arith}
use Rattle.std.specs.Prelude.{◌==◌, nat_lt}
use Rattle.std.proofs.lemmas.Bool.{cases_lt, eqb-true, false≢true}
use Rattle.std.proofs.lemmas.List.{take-append-drop, take_rest}
use Rattle.bf_grammar.specs.declared.fault.Limit.TheVariants.{Stream}
use Rattle.bf_grammar.specs.declared.fault.Limits.{Limits}
use Rattle.bf_grammar.specs.declared.fault.StreamFault.{StreamFault}
use Rattle.bf_grammar.specs.declared.fault.StreamFault.TheVariants.{TooLarge}
use Rattle.bf_grammar.specs.Place.{Place, Gives, and_then}
use Rattle.bf_grammar.specs.Lines.{Front, Nothing, Whole, Long, at_command, front, front_line, has_end_of_line, is_line, next_front, past_line}
use Rattle.bf_grammar.proofs.Onward.{next_front-is}
use Rattle.bf_grammar.proofs.Repeating.{same_place, same_value}
use Rattle.bf_stream.specs.Held.{Held, IsSpent, IsWhole, beyond_of, past_held_line, past_limit, place_in, place_of, rest_in}
use Rattle.bf_stream.proofs.Ends.{end_at, length-front_line}
use Rattle.bf_stream.proofs.Holding.{whole-past}

empty : (l : List ℕ) → (length l == 0) ≡ true → l ≡ []
empty [] is = refl
empty (x ∷ l) is = let none : length (x ∷ l) ≡ 0 = eqb-true (length (x ∷ l)) 0 is in absurd (omega arith)

-- ---- where no line stands, no byte is left

long_stands : (text : List ℕ) → Long text ≡ Nothing → ⊥
long_stands text is = absurd (cc)

whole_stands : (text : List ℕ) → Whole text ≡ Nothing → ⊥
whole_stands text is = absurd (cc)

none_chosen : (p m : Place) (text : List ℕ) (long ended more none : Bool) → (none ≡ true → p.rest ≡ [])
    → cond {A = Result (Front × Place) StreamFault} long (Ok (Long text, p))
    (cond ended (Ok (Whole text, p)) (cond more (Err (TooLarge Stream)) (cond none (Ok (Nothing, p)) (Ok (Whole p.rest, p))))) ≡ Ok (Nothing, m)
    → m.rest ≡ []
none_chosen p m text true ended more none is found = absurd (long_stands text (same_value (Long text) Nothing p m found))
none_chosen p m text false true more none is found = absurd (whole_stands text (same_value (Whole text) Nothing p m found))
none_chosen p m text false false true none is found = absurd (cc)
none_chosen p m text false false false true is found = ap (λ (q : Place). q.rest) (sym (same_place Nothing Nothing p m found)) ∙ is refl
none_chosen p m text false false false false is found = absurd (whole_stands p.rest (same_value (Whole p.rest) Nothing p m found))

front_nothing : (limits : Limits) (p m : Place) → front limits p ≡ Ok (Nothing, m) → m.rest ≡ []
front_nothing limits p m found =
    none_chosen p m (front_line p.rest) (nat_lt limits.line (length (front_line p.rest))) (has_end_of_line p.rest) p.more (length p.rest == 0)
    (empty p.rest) found

nothing_in_front : (limits : Limits) (p q : Place) → at_command limits p ≡ Ok (false, q) → q.rest ≡ []
unfolding at_command
nothing_in_front limits p q is = go (next_front true limits p) refl is
  where
    go : (r : Result (Front × Place) StreamFault) → next_front true limits p ≡ r → and_then r is_line ≡ Ok (false, q) → q.rest ≡ []
    go (Ok (Nothing, m)) at goes =
        let there : m ≡ q = same_place false false m q goes in
        ap (λ (r : Place). r.rest) (sym there) ∙ front_nothing limits m m (next_front-is true limits Nothing p m at)
    go (Ok (Whole text, m)) at goes = absurd (false≢true (sym (same_value true false m q goes)))
    go (Ok (Long text, m)) at goes = absurd (cc)
    go (Err fault) at goes = absurd (cc)

front_of_nothing : (xs ys : List ℕ) → xs ++ ys ≡ [] → ys ≡ []
front_of_nothing [] ys is = is
front_of_nothing (x ∷ xs) ys is = absurd (cc)

-- at the end of the input, nothing of the source comes behind what is held
pub whole_at_end : (limits : Limits) (before : Option Place) (held : Held) (left : Option (List ℕ))
    → Gives (λ (b : Bool). b) before (place_of held left) (Ok false) (at_command limits) → IsWhole held left
whole_at_end limits before held None gives = inr tt
whole_at_end limits None held (Some left) gives = absurd (cc)
whole_at_end limits (Some p) held (Some left) (q, read, there) =
    let here : place_in held left ≡ q = cc in
    inr (front_of_nothing held.bytes (take held.quota left) (ap (λ (r : Place). r.rest) here ∙ nothing_in_front limits p q read))

-- ---- what is left behind the line in front

abbrev rest_at : Option Place → List ℕ
rest_at None = []
rest_at (Some p) = p.rest

-- where the line in front of a place is held whole, what is held behind it and what the source has left are all that
-- stands behind it, up to the limit and beyond
pub rest_behind : (held : Held) (left : List ℕ) (p : Place) (beyond : List ℕ) → IsWhole held (Some left) → IsSpent held → place_of held (Some left) ≡ Some p
    → beyond_of held (Some left) ≡ Some beyond → rest_in held ++ left ≡ drop (length (front_line p.rest) + 1) p.rest ++ beyond
unfolding past_limit
rest_behind held left p beyond whole spent here past =
    let at : place_in held left ≡ p = cc in
    let more : held.beyond ++ drop held.quota left ≡ beyond = cc in
    let ahead : List ℕ = drop (length (front_line held.bytes) + 1) held.bytes in
    let lines : ahead ++ take held.quota left ≡ drop (length (front_line p.rest) + 1) p.rest =
    ap rest_at (whole-past held (Some left) whole) ∙ ap (λ (q : Place). drop (length (front_line q.rest) + 1) q.rest) at in
    joined ahead held.beyond left held.quota spent ∙ ap (λ (l : List ℕ). ahead ++ take held.quota left ++ l) more ∙ ap (λ (l : List ℕ). l ++ beyond) lines
  where
    joined : (ahead seen left : List ℕ) (quota : ℕ) → (seen ≡ []) ⊎ (quota ≡ 0)
        → ahead ++ seen ++ left ≡ ahead ++ take quota left ++ (seen ++ drop quota left)
    joined ahead seen left quota (inl none) =
        ap (λ (s : List ℕ). ahead ++ s ++ left) none
        ∙ ap (λ (l : List ℕ). l ++ left) (append-nil ahead)
        ∙ ap (λ (l : List ℕ). ahead ++ l) (sym (take-append-drop quota left))
        ∙ sym (append_assoc ahead (take quota left) (drop quota left))
        ∙ sym (ap (λ (s : List ℕ). ahead ++ take quota left ++ (s ++ drop quota left)) none)
    joined ahead seen left quota (inr spent) =
        append_assoc ahead seen left
        ∙ sym (ap (λ (l : List ℕ). l ++ (seen ++ left)) (append-nil ahead))
        ∙ sym (ap (λ k. ahead ++ take k left ++ (seen ++ drop k left)) spent)

-- ---- the bytes that a window holds behind the line in front

copied : (held : Held) (bytes : List ℕ) (end behind : ℕ) (copy : List ℕ) → bytes ≡ held.bytes → end ≡ end_at bytes → behind ≡ min (end + 1) (length bytes)
    → copy ≡ take (length bytes - behind) (drop behind bytes) → copy ≡ drop (length (front_line held.bytes) + 1) held.bytes
copied held bytes end behind copy b e at is =
    is ∙ take_rest bytes behind ∙ ap (λ n. drop n bytes) (at ∙ ap (λ n. min (n + 1) (length bytes)) e) ∙ all bytes
    ∙ ap (λ (l : List ℕ). drop (length (front_line l) + 1) l) b
  where
    all : (l : List ℕ) → drop (min (end_at l + 1) (length l)) l ≡ drop (length (front_line l) + 1) l
    all l =
        let size : length (front_line l) ≡ end_at l = length-front_line l in
        elim (cases_lt (end_at l) (length l)) [
          | inl lt ↦ ap (λ n. drop n l) (let same : min (end_at l + 1) (length l) ≡ length (front_line l) + 1 = omega arith in same)
          | inr ge ↦ gone l (min (end_at l + 1) (length l)) (omega arith) ∙ sym (gone l (length (front_line l) + 1) (omega arith))
        ]
      where
        gone : (l : List ℕ) (n : ℕ) → length l ≤ n → drop n l ≡ []
        gone l n le = nil (drop n l) (omega (arith, length-drop n l))
          where
            nil : (l : List ℕ) → length l ≡ 0 → l ≡ []
            nil [] e = refl
            nil (x ∷ l) e = absurd (omega arith)

pub rest_none : (held : Held) (bytes : List ℕ) (end behind : ℕ) (copy : List ℕ) → bytes ≡ held.bytes → end ≡ end_at bytes
    → behind ≡ min (end + 1) (length bytes) → copy ≡ take (length bytes - behind) (drop behind bytes) → held.beyond ≡ [] → copy ≡ rest_in held
rest_none held bytes end behind copy b e at is none =
    copied held bytes end behind copy b e at is
    ∙ sym (append-nil (drop (length (front_line held.bytes) + 1) held.bytes))
    ∙ ap (λ (l : List ℕ). drop (length (front_line held.bytes) + 1) held.bytes ++ l) (sym none)

pub rest_some : (held : Held) (bytes : List ℕ) (end behind : ℕ) (copy rest : List ℕ) (byte : ℕ) → bytes ≡ held.bytes → end ≡ end_at bytes
    → behind ≡ min (end + 1) (length bytes) → copy ≡ take (length bytes - behind) (drop behind bytes) → held.beyond ≡ byte ∷ [] → rest ≡ copy ++ byte ∷ []
    → rest ≡ rest_in held
rest_some held bytes end behind copy rest byte b e at is some more =
    more ∙ ap (λ (l : List ℕ). l ++ byte ∷ []) (copied held bytes end behind copy b e at is)
    ∙ ap (λ (l : List ℕ). drop (length (front_line held.bytes) + 1) held.bytes ++ l) (sym some)
