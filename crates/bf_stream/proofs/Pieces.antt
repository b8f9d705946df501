-- Data parts that are taken piece by piece.
use Rattle.std.proofs.Common.{◌≡◌, ℕ, ◌+◌, ◌-◌, ◌<◌, ◌≤◌, Bool, true, false, cond, List, [], ◌∷◌, ◌++◌, length, take, drop, get_or, count_by}
use Rattle.std.proofs.Common.{Option, Some, None, Ok, Err, refl, sym, ap, subst, ◌∙◌, arith, inl, inr, append_assoc, length-drop, length-append}
use Rattle.std.proofs.Common.{if◌then◌else◌}
use Rattle.std.specs.Option.{option_map}
use Rattle.std.specs.Io.KnownBytes.{IsAtEnd}
use Rattle.std.proofs.lemmas.Bool.{cases_lt, cond-true, cond-false, le-leb, lt-leb, le-ltb, or_from, or_left}
use Rattle.std.proofs.lemmas.List.{append-nil, take-append-le, drop-drop, get_or_append_left}
use Rattle.std.proofs.lemmas.List.Sums.{sum_by-append}
use Rattle.std.proofs.lemmas.Option.{same_Some, none-some}
use Rattle.std.proofs.Math.Seq.{take-add}
use Rattle.bf_grammar.specs.declared.fault.Limit.TheVariants.{Stream}
use Rattle.bf_grammar.specs.declared.fault.StreamFault.TheVariants.{Truncated, TooLarge}
use Rattle.bf_grammar.specs.Place.{Place, is_end_of_line, moved, and_then, pure, Gives}
use Rattle.bf_grammar.specs.Lines.{bytes_at, skip_end_of_line}
use Rattle.bf_stream.specs.Data.{bytes_from}
use Rattle.bf_stream.specs.Going.{GoesOnAs}
use Rattle.bf_stream.specs.Held.{Held, place_in, place_of, moved_held}
use Rattle.bf_stream.proofs.Fronts.{nothing_left}
use Rattle.bf_stream.proofs.Going.{Read, same_option, gives_fault_where, gives_value_where, goes_on_where, gives_going_on}
use Rattle.bf_stream.proofs.Holding.{place_of-moved}

-- ---- a place, by what is held

pub rest_at_end : (held : Held) (left : Option (List ℕ)) → held.past ≡ false → IsAtEnd left → (q : Place) → place_of held left ≡ Some q
    → (q.rest ≡ held.bytes) × (q.more ≡ false)
rest_at_end held None within at q is = absurd (none-some q is)
rest_at_end held (Some left) within at q is =
    let e : place_in held left ≡ q = same_Some _ _ is in (
      sym (ap (λ (r : Place). r.rest) e) ∙ nothing_left held left at,
      sym (ap (λ (r : Place). r.more) e) ∙ or_from _ _ within (le-ltb held.quota (length left) (omega (arith, ap length at))),
    )

pub rest_at_past : (held : Held) (left : Option (List ℕ)) → held.past ≡ true → held.quota ≡ 0 → (q : Place) → place_of held left ≡ Some q
    → (q.rest ≡ held.bytes) × (q.more ≡ true)
rest_at_past held None past spent q is = absurd (none-some q is)
rest_at_past held (Some left) past spent q is =
    let e : place_in held left ≡ q = same_Some _ _ is in (
      sym (ap (λ (r : Place). r.rest) e) ∙ ap (λ n. held.bytes ++ take n left) spent ∙ append-nil held.bytes,
      sym (ap (λ (r : Place). r.more) e) ∙ or_left _ _ past,
    )

-- what is held is the front of what is left
pub held_front : (held : Held) (left : Option (List ℕ)) (q : Place) → place_of held left ≡ Some q → (behind : List ℕ) × (q.rest ≡ held.bytes ++ behind)
held_front held None q is = absurd (none-some q is)
held_front held (Some left) q is = (take held.quota left, sym (ap (λ (r : Place). r.rest) (let e : place_in held left ≡ q = same_Some _ _ is in e)))

pub front_taken : (held : Held) (left : Option (List ℕ)) (q : Place) (k : ℕ) → place_of held left ≡ Some q → k ≤ length held.bytes
    → (take k q.rest ≡ take k held.bytes) × (k ≤ length q.rest)
front_taken held left q k is le =
    let front = held_front held left q is in
    (ap (take k) front.1 ∙ take-append-le k held.bytes front.0 le, omega (arith, ap length front.1, length-append held.bytes front.0))

-- ---- moving on

place_same : (p : Place) (a b : ℕ) (x y : List ℕ) → a ≡ b → x ≡ y → ◌≡◌ {A = Place} (record p { line = a; rest = x }) (record p { line = b; rest = y })
place_same p a b x y e f = ap (λ n. record p { line = n; rest = x }) e ∙ ap (λ l. record p { line = b; rest = l }) f

pub moved_none : (p : Place) → moved 0 p ≡ p
moved_none p = let e : p.line + 0 ≡ p.line = omega arith in ap (λ n. record p { line = n }) e

pub moved_moved : (a b : ℕ) (p : Place) → moved b (moved a p) ≡ moved (a + b) p
moved_moved a b p =
    let counted : count_by is_end_of_line (take (a + b) p.rest) ≡ count_by is_end_of_line (take a p.rest) + count_by is_end_of_line (take b (drop a p.rest)) =
    ap (count_by is_end_of_line) (take-add a b p.rest) ∙ sum_by-append (λ x. cond (is_end_of_line x) 1 0) (take a p.rest) (take b (drop a p.rest)) in
    place_same p (p.line + count_by is_end_of_line (take a p.rest) + count_by is_end_of_line (take b (drop a p.rest)))
    (p.line + count_by is_end_of_line (take (a + b) p.rest)) (drop b (drop a p.rest)) (drop (a + b) p.rest) (omega arith) (drop-drop b a p.rest)

-- ---- bytes

abbrev taken_on : List ℕ → Read (List ℕ) → Read (List ℕ)
taken_on taken r = and_then r (λ more. pure (taken ++ more))

pub bytes_end : (line n : ℕ) (taken : List ℕ) (q : Place) → 0 < n → q.rest ≡ [] → q.more ≡ false → bytes_from line taken n q ≡ Err (Truncated line)
unfolding bytes_at
bytes_end line n taken q some none more =
    ap (taken_on taken) (cond-false _ _ _ (lt-leb n (length q.rest) (omega (arith, ap length none))) ∙ cond-false _ _ _ more)

pub bytes_past : (line n : ℕ) (taken : List ℕ) (q : Place) → 0 < n → q.rest ≡ [] → q.more ≡ true → bytes_from line taken n q ≡ Err (TooLarge Stream)
unfolding bytes_at
bytes_past line n taken q some none more =
    ap (taken_on taken) (cond-false _ _ _ (lt-leb n (length q.rest) (omega (arith, ap length none))) ∙ cond-true _ _ _ more)

pub bytes_none : (line : ℕ) (taken : List ℕ) (q : Place) → bytes_from line taken 0 q ≡ Ok (taken, q)
unfolding bytes_at
bytes_none line taken q =
    ap (taken_on taken) (cond-true _ _ _ (le-leb 0 (length q.rest) (omega arith)))
    ∙ ap (λ (l : List ℕ). let r : Read (List ℕ) = Ok (l, moved 0 q) in r) (append-nil taken)
    ∙ ap (λ (p : Place). let r : Read (List ℕ) = Ok (taken, p) in r) (moved_none q)

pub bytes_moved : (line n k : ℕ) (taken : List ℕ) (q : Place) → k ≤ n → k ≤ length q.rest
    → bytes_from line taken n q ≡ bytes_from line (taken ++ take k q.rest) (n - k) (moved k q)
unfolding bytes_at
bytes_moved line n k taken q le within =
    let size = length-drop k q.rest in
    let sum : k + (n - k) ≡ n = omega arith in
    let longer = taken ++ take k q.rest in
    elim (cases_lt (length q.rest) n) [
      | inl short ↦
          ap (taken_on taken) (cond-false _ _ _ (lt-leb n (length q.rest) short))
          ∙ refused taken longer q.more
          ∙ sym (ap (taken_on longer) (cond-false _ _ _ (lt-leb (n - k) (length (drop k q.rest)) (omega arith))))
      | inr enough ↦
          ap (taken_on taken) (cond-true _ _ _ (le-leb n (length q.rest) enough))
          ∙ ap (λ (m : ℕ). let r : Read (List ℕ) = Ok (taken ++ take m q.rest, moved m q) in r) (sym sum)
          ∙ ap (λ (l : List ℕ). let r : Read (List ℕ) = Ok (taken ++ l, moved (k + (n - k)) q) in r) (take-add k (n - k) q.rest)
          ∙ ap (λ (l : List ℕ). let r : Read (List ℕ) = Ok (l, moved (k + (n - k)) q) in r)
          (sym (append_assoc taken (take k q.rest) (take (n - k) (drop k q.rest))))
          ∙ ap (λ (p : Place). let r : Read (List ℕ) = Ok (longer ++ take (n - k) (drop k q.rest), p) in r) (sym (moved_moved k (n - k) q))
          ∙ sym (ap (taken_on longer) (cond-true _ _ _ (le-leb (n - k) (length (drop k q.rest)) (omega arith))))
    ]
  where
    refused : (a b : List ℕ) (more : Bool) → taken_on a (cond more (Err (TooLarge Stream)) (Err (Truncated line))) ≡ taken_on b
        (cond more (Err (TooLarge Stream)) (Err (Truncated line)))
    refused a b true = refl
    refused a b false = refl

-- a piece of what is held was taken
pub piece_taken : (line n k : ℕ) (old new : List ℕ) (before after : Option Place) (held next : Held) (left : Option (List ℕ)) → place_of held left ≡ before
    → next ≡ moved_held k held → k ≤ n → k ≤ length held.bytes
    → new ≡ old ++ take k held.bytes → place_of next left ≡ after → GoesOnAs (bytes_from line old n) (bytes_from line new (n - k)) before after
piece_taken line n k old new before after held next left at is le within grown there =
    goes_on_where (bytes_from line old n) (bytes_from line new (n - k)) before after (moved k)
    (sym there ∙ ap (λ (h : Held). place_of h left) is ∙ place_of-moved k held left within ∙ ap (option_map (moved k)) at)
    (λ q here. let front = front_taken held left q k (at ∙ here) within in
    bytes_moved line n k old q le front.1 ∙ ap (λ (l : List ℕ). bytes_from line l (n - k) (moved k q)) (ap (λ (l : List ℕ). old ++ l) front.0 ∙ sym grown))

-- all is taken
pub all_taken : (line n : ℕ) (taken : List ℕ) (left : ℕ) (before after : Option Place) → GoesOnAs (bytes_at line n) (bytes_from line taken left) before after
    → left ≡ 0 → Gives (λ (bytes : List ℕ). bytes) before after (Ok taken) (bytes_at line n)
all_taken line n taken left before after a none =
    gives_going_on (λ (bytes : List ℕ). bytes) (bytes_at line n) (bytes_from line taken left) before after after (Ok taken) a
    (gives_value_where (λ (bytes : List ℕ). bytes) after after taken (bytes_from line taken left) (λ p. p) (same_option after)
    (λ q is. ap (λ m. bytes_from line taken m q) none ∙ bytes_none line taken q))

-- ---- one LF behind data

skip_ends_at : (q : Place) (rest : List ℕ) → 0 < length rest → is_end_of_line (get_or rest 0 0) ≡ true
    → skip_end_of_line (record q { rest = rest }) ≡ Ok (tt, moved 1 (record q { rest = rest }))
unfolding skip_end_of_line
skip_ends_at q [] some ends = absurd (omega arith)
skip_ends_at q (byte ∷ rest) some ends = cond-true _ _ _ ends

skip_goes_at : (q : Place) (rest : List ℕ) → 0 < length rest → is_end_of_line (get_or rest 0 0) ≡ false
    → skip_end_of_line (record q { rest = rest }) ≡ Ok (tt, record q { rest = rest })
unfolding skip_end_of_line
skip_goes_at q [] some ends = absurd (omega arith)
skip_goes_at q (byte ∷ rest) some ends = cond-false _ _ _ ends

skip_none_at : (q : Place) → skip_end_of_line (record q { rest = [] })
    ≡ (if q.more then (let r : Read (Unit {0}) = Err (TooLarge Stream) in r) else Ok (tt, record q { rest = [] }))
unfolding skip_end_of_line
skip_none_at q = refl

pub with_rest : (q : Place) (rest : List ℕ) → q.rest ≡ rest → ◌≡◌ {A = Place} (record q { rest = rest }) q
with_rest q rest e = ap (λ l. record q { rest = l }) (sym e)

pub skip_ends : (held : Held) (left : Option (List ℕ)) (before after : Option Place) → place_of held left ≡ before → after ≡ option_map (moved 1) before
    → 0 < length held.bytes → is_end_of_line (get_or held.bytes 0 0) ≡ true → Gives (λ (done : Unit {0}). done) before after (Ok tt) skip_end_of_line
skip_ends held left before after at goes some ends =
    gives_value_where (λ (done : Unit {0}). done) before after tt skip_end_of_line (moved 1) goes
    (λ q here. let front = held_front held left q (at ∙ here) in
    subst (λ (p : Place). skip_end_of_line p ≡ Ok (tt, moved 1 p)) (with_rest q (held.bytes ++ front.0) front.1)
    (skip_ends_at q (held.bytes ++ front.0) (omega (arith, length-append held.bytes front.0))
    (ap is_end_of_line (get_or_append_left held.bytes front.0 0 0 some) ∙ ends)))

pub skip_goes : (held : Held) (left : Option (List ℕ)) (before : Option Place) → place_of held left ≡ before → 0 < length held.bytes
    → is_end_of_line (get_or held.bytes 0 0) ≡ false → Gives (λ (done : Unit {0}). done) before before (Ok tt) skip_end_of_line
skip_goes held left before at some goes =
    gives_value_where (λ (done : Unit {0}). done) before before tt skip_end_of_line (λ p. p) (same_option before)
    (λ q here. let front = held_front held left q (at ∙ here) in
    subst (λ (p : Place). skip_end_of_line p ≡ Ok (tt, p)) (with_rest q (held.bytes ++ front.0) front.1)
    (skip_goes_at q (held.bytes ++ front.0) (omega (arith, length-append held.bytes front.0))
    (ap is_end_of_line (get_or_append_left held.bytes front.0 0 0 some) ∙ goes)))

pub skip_end : (held : Held) (left : Option (List ℕ)) (before : Option Place) → place_of held left ≡ before → held.bytes ≡ [] → held.past ≡ false → IsAtEnd left
    → Gives (λ (done : Unit {0}). done) before before (Ok tt) skip_end_of_line
skip_end held left before at none within ended =
    gives_value_where (λ (done : Unit {0}). done) before before tt skip_end_of_line (λ p. p) (same_option before)
    (λ q here. let spent = rest_at_end held left within ended q (at ∙ here) in
    subst (λ (p : Place). skip_end_of_line p ≡ Ok (tt, p)) (with_rest q [] (spent.0 ∙ none)) (skip_none_at q ∙ cond-false _ _ _ spent.1))

pub skip_past : (held : Held) (left : Option (List ℕ)) (before after : Option Place) → place_of held left ≡ before → held.bytes ≡ [] → held.past ≡ true
    → held.quota ≡ 0 → Gives (λ (done : Unit {0}). done) before after (Err (TooLarge Stream)) skip_end_of_line
skip_past held left before after at none past spent_quota =
    gives_fault_where (λ (done : Unit {0}). done) before after (TooLarge Stream) skip_end_of_line
    (λ q here. let spent = rest_at_past held left past spent_quota q (at ∙ here) in
    subst (λ (p : Place). skip_end_of_line p ≡ Err (TooLarge Stream)) (with_rest q [] (spent.0 ∙ none)) (skip_none_at q ∙ cond-true _ _ _ spent.1))
