-- What a window holds, against the place where a reading stands.
use Rattle.std.proofs.Common.{◌≡◌, ℕ, ◌+◌, ◌-◌, ◌<◌, ◌≤◌, List, [], ◌++◌, length, take, drop, count_by, Option, Some, None, refl, sym, ap, ◌∙◌}
use Rattle.std.proofs.Common.{arith, inl, inr, ◌⊎◌, IsTrue}
use Rattle.std.specs.Option.{option_map, IfSome}
use Rattle.std.proofs.lemmas.List.{take_all, drop_all, append-nil, drop-append-le, take-append-le}
use Rattle.bf_grammar.specs.Place.{Place, is_end_of_line, moved}
use Rattle.bf_grammar.specs.Lines.{front_line, has_end_of_line, past_line}
use Rattle.bf_stream.specs.Held.{Held, HasLine, IsAll, place_in, place_of, moved_held, past_held_line}
use Rattle.bf_stream.proofs.Ends.{end_at, end_at-le, end_at-lt, front_line-append, length-front_line, count-line, count-front_line, drop-part}

-- ---- parts of what is held

held_is : (held : Held) (a b : ℕ) (x y : List ℕ) → a ≡ b → x ≡ y → ◌≡◌ {A = Held} (record held { line = a; bytes = x }) (record held { line = b; bytes = y })
held_is held a b x y p q = ap (λ n. record held { line = n; bytes = x }) p ∙ ap (λ l. record held { line = b; bytes = l }) q

pub part-advanced : (items : List ℕ) (start end count : ℕ)
    → take (end - (start + count)) (drop (start + count) items) ≡ drop count (take (end - start) (drop start items))
part-advanced items start end count =
    let size : end - (start + count) ≡ end - start - count = omega arith in
    ap (λ n. take n (drop (start + count) items)) size ∙ sym (drop-part count (end - start) start items)

pub past_held_line-ended : (held : Held) (end : ℕ) → end ≡ end_at held.bytes → end < length held.bytes
    → ◌≡◌ {A = Held} (record held { line = held.line + 1; bytes = drop (end + 1) held.bytes }) (past_held_line held)
past_held_line-ended held end e lt =
    let size : end + 1 ≡ length (front_line held.bytes) + 1 = ap (λ n. n + 1) (e ∙ sym (length-front_line held.bytes)) in
    let count : 1 ≡ count_by is_end_of_line (take (length (front_line held.bytes) + 1) held.bytes) =
    sym (count-line held.bytes (omega arith)) ∙ ap (λ n. count_by is_end_of_line (take n held.bytes)) (ap (λ n. n + 1) (sym e) ∙ size) in
    held_is held _ _ _ _ (ap (λ n. held.line + n) count) (ap (λ n. drop n held.bytes) size)

pub past_held_line-open : (held : Held) (end : ℕ) → end ≡ end_at held.bytes → length held.bytes ≤ end
    → ◌≡◌ {A = Held} (record held { line = held.line + 0; bytes = drop (length held.bytes) held.bytes }) (past_held_line held)
past_held_line-open held end e le =
    let short : end_at held.bytes ≤ length held.bytes = end_at-le held.bytes in
    let size : length (front_line held.bytes) ≡ end_at held.bytes = length-front_line held.bytes in
    let all : take (end_at held.bytes) held.bytes ≡ held.bytes = take_all _ held.bytes (omega arith) in
    let more : take (length (front_line held.bytes) + 1) held.bytes ≡ held.bytes = take_all _ held.bytes (omega arith) in
    let count : 0 ≡ count_by is_end_of_line (take (length (front_line held.bytes) + 1) held.bytes) =
    sym (count-front_line held.bytes) ∙ ap (count_by is_end_of_line) (all ∙ sym more) in
    held_is held _ _ _ _ (ap (λ n. held.line + n) count)
    (drop_all _ held.bytes (omega arith) ∙ sym (drop_all (length (front_line held.bytes) + 1) held.bytes (omega arith)))

-- ---- the place

place_is : (p : Place) (a b : ℕ) (x y : List ℕ) → a ≡ b → x ≡ y
    → ◌≡◌ {A = Option Place} (Some (record p { line = a; rest = x })) (Some (record p { line = b; rest = y }))
place_is p a b x y e f = ap (λ n. Some (record p { line = n; rest = x })) e ∙ ap (λ l. Some (record p { line = b; rest = l })) f

-- the place, some held bytes further on
pub place_of-moved : (n : ℕ) (held : Held) (left : Option (List ℕ)) → n ≤ length held.bytes
    → place_of (moved_held n held) left ≡ option_map (moved n) (place_of held left)
place_of-moved n held None le = refl
place_of-moved n held (Some left) le =
    let behind = take held.quota left in
    place_is (place_in held left) _ _ _ _
    (ap (λ l. held.line + count_by is_end_of_line l) (sym (take-append-le n held.bytes behind le)))
    (sym (drop-append-le n held.bytes behind le))

-- the same where all is held, for any number
pub place_of-moved_all : (n : ℕ) (held : Held) (left : Option (List ℕ)) → IsAll held left
    → place_of (moved_held n held) left ≡ option_map (moved n) (place_of held left)
place_of-moved_all n held None all = refl
place_of-moved_all n held (Some left) all =
    let behind = take held.quota left in
    let none : behind ≡ [] = all in
    let whole : held.bytes ++ behind ≡ held.bytes = ap (λ l. held.bytes ++ l) none ∙ append-nil held.bytes in
    place_is (place_in held left) _ _ _ _
    (ap (λ l. held.line + count_by is_end_of_line (take n l)) (sym whole))
    (ap (λ l. drop n held.bytes ++ l) none ∙ append-nil (drop n held.bytes) ∙ ap (drop n) (sym whole))

-- the line in front of the window is that of the place
pub whole-line : (held : Held) (left : Option (List ℕ)) → IsTrue (has_end_of_line held.bytes) ⊎ IsAll held left
    → IfSome (place_of held left) (λ p. front_line held.bytes ≡ front_line p.rest)
whole-line held None whole = tt
whole-line held (Some left) whole =
    elim whole [
      | inl ends ↦ sym (front_line-append held.bytes (take held.quota left) (end_at-lt held.bytes ends))
      | inr all ↦ ap front_line (sym (append-nil held.bytes) ∙ ap (λ l. held.bytes ++ l) (sym all))
    ]

pub HasLine-line : (held : Held) (left : Option (List ℕ)) → HasLine held left → IfSome (place_of held left) (λ p. front_line held.bytes ≡ front_line p.rest)
HasLine-line held left has = whole-line held left has.whole

-- for a text that is given as a front of the window
pub HasLine-text : (held : Held) (bytes text : List ℕ) (end : ℕ) → bytes ≡ held.bytes → end ≡ end_at bytes → text ≡ take end bytes
    → (left : Option (List ℕ)) → HasLine held left → IfSome (place_of held left) (λ p. text ≡ front_line p.rest)
HasLine-text held bytes text end b e t None has = tt
HasLine-text held bytes text end b e t (Some left) has =
    t ∙ ap (λ n. take n bytes) e ∙ ap front_line b ∙ HasLine-line held (Some left) has

pub whole-past : (held : Held) (left : Option (List ℕ)) → IsTrue (has_end_of_line held.bytes) ⊎ IsAll held left
    → place_of (past_held_line held) left ≡ option_map past_line (place_of held left)
whole-past held None whole = refl
whole-past held (Some left) whole =
    let n = length (front_line held.bytes) + 1 in
    let same : front_line held.bytes ≡ front_line (held.bytes ++ take held.quota left) = whole-line held (Some left) whole in
    let p : Place = place_in held left in
    let here : place_of (past_held_line held) (Some left) ≡ option_map (moved n) (place_of held (Some left)) =
    elim whole [
      | inl ends ↦
          let lt : end_at held.bytes < length held.bytes = end_at-lt held.bytes ends in
          place_of-moved n held (Some left) (omega (arith, length-front_line held.bytes))
      | inr all ↦ place_of-moved_all n held (Some left) all
    ] in
    here ∙ ap (λ (l : List ℕ). Some (moved (length l + 1) p)) same

pub HasLine-past : (held : Held) (left : Option (List ℕ)) → HasLine held left → place_of (past_held_line held) left ≡ option_map past_line (place_of held left)
HasLine-past held left has = whole-past held left has.whole

-- the view of a window whose start moved on
pub view-advanced : (w : Held) (items : List ℕ) (start end count lines : ℕ) → w.bytes ≡ take (end - start) (drop start items)
    → ◌≡◌ {A = Held} (record w { line = w.line + lines; bytes = take (end - (start + count)) (drop (start + count) items) })
    (record w { line = w.line + lines; bytes = drop count w.bytes })
view-advanced w items start end count lines e =
    held_is w _ _ _ _ refl (part-advanced items start end count ∙ ap (drop count) (sym e))

-- the place, where the window went behind the line in front
pub past_held_line-place : (old new : Held) → new ≡ past_held_line old → (left : Option (List ℕ)) → HasLine old left
    → place_of new left ≡ option_map past_line (place_of old left)
past_held_line-place old new e left has = ap (λ (h : Held). place_of h left) e ∙ HasLine-past old left has

pub past_held_line-then : (old new : Held) (bytes : List ℕ) (end : ℕ) → bytes ≡ old.bytes → end ≡ end_at bytes → end < length bytes
    → new ≡ record old { line = old.line + 1; bytes = drop (end + 1) old.bytes } → new ≡ past_held_line old
past_held_line-then old new bytes end b e lt n =
    n ∙ past_held_line-ended old end (e ∙ ap end_at b) (omega (arith, ap length b))

pub past_held_line-else : (old new : Held) (bytes : List ℕ) (end : ℕ) → bytes ≡ old.bytes → end ≡ end_at bytes → length bytes ≤ end
    → new ≡ record old { line = old.line + 0; bytes = drop (length bytes) old.bytes } → new ≡ past_held_line old
past_held_line-else old new bytes end b e le n =
    n ∙ ap (λ (l : List ℕ). record old { line = old.line + 0; bytes = drop (length l) old.bytes }) b ∙ past_held_line-open old end (e ∙ ap end_at b)
    (omega (arith, ap length b))
