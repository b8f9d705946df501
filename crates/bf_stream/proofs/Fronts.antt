-- What stands in front of a place, by what its window holds.
use Rattle.std.proofs.Common.{◌≡◌, ℕ, suc, zero, ◌+◌, ◌-◌, ◌<◌, ◌≤◌, true, false, ◌||◌, ◌==◌, nat_lt, List, [], ◌++◌, length, take, Option, Some, None, Result}
use Rattle.std.proofs.Common.{Ok, Err, refl, sym, ap, subst, ◌∙◌, arith, inl, inr, length-append, if◌then◌else◌}
use Rattle.std.specs.Io.KnownBytes.{IsAtEnd}
use Rattle.std.proofs.lemmas.Bool.{cond-true, cond-false, lt-ltb, le-ltb, eq-eqb, ne_eqb, cond_both, ltb-true, ltb-false, eqb-true, eqb-false, or_from, or_left}
use Rattle.std.proofs.lemmas.List.{take_all, append-nil, take-append-le, take-take, nil_from_length}
use Rattle.std.proofs.Math.Seq.{take-nil}
use Rattle.bf_grammar.specs.declared.fault.Limit.TheVariants.{Stream}
use Rattle.bf_grammar.specs.declared.fault.Limits.{Limits}
use Rattle.bf_grammar.specs.declared.fault.StreamFault.{StreamFault}
use Rattle.bf_grammar.specs.declared.fault.StreamFault.TheVariants.{TooLarge}
use Rattle.bf_grammar.specs.Place.{Place, and_then, pure, ◌>>=◌}
use Rattle.bf_grammar.specs.Lines.{Front, Nothing, Whole, Long, front, front_line}
use Rattle.bf_stream.specs.declared.front.Ahead.{Ahead}
use Rattle.bf_stream.specs.declared.front.Ahead.TheVariants as ahead
use Rattle.bf_stream.specs.Filling.{Gains, Ends, Passes}
use Rattle.bf_stream.specs.Fronts.{cut, seen, sized, ended, passed, Finds}
use Rattle.bf_stream.specs.Held.{Held, HasLine, place_in, place_of, remaining}
use Rattle.bf_stream.proofs.Going.{Read}
use Rattle.bf_stream.proofs.Ends.{end_at, end_at-le, end_at-append_lt, end_at-append_all, front_line-append, length-front_line, has-from_lt, lacks-from_end}

-- the five ways in which a place has a front
front-long : (limits : Limits) (p : Place) → limits.line < end_at p.rest → front limits p ≡ Ok (Long (front_line p.rest), p)
front-long limits p lt = cond-true _ _ _ (lt-ltb limits.line (length (front_line p.rest)) (omega (arith, length-front_line p.rest)))

front-whole : (limits : Limits) (p : Place) → end_at p.rest ≤ limits.line → end_at p.rest < length p.rest → front limits p ≡ Ok (Whole (front_line p.rest), p)
front-whole limits p le lt = cond-false _ _ _ (le-ltb limits.line (length (front_line p.rest)) (omega (arith, length-front_line p.rest))) ∙ cond-true _ _ _
    (has-from_lt p.rest lt)

front-open : (limits : Limits) (p : Place) → end_at p.rest ≡ length p.rest → length p.rest ≤ limits.line
    → front limits p ≡ (if p.more then (let r : Read Front = Err (TooLarge Stream) in r) else if length p.rest == 0 then Ok (Nothing, p) else Ok
    (Whole p.rest, p))
front-open limits p e le = cond-false _ _ _ (le-ltb limits.line (length (front_line p.rest)) (omega (arith, length-front_line p.rest))) ∙ cond-false _ _ _
    (lacks-from_end p.rest e)

front-past : (limits : Limits) (p : Place) → end_at p.rest ≡ length p.rest → length p.rest ≤ limits.line → p.more ≡ true
    → front limits p ≡ Err (TooLarge Stream)
front-past limits p e le more = front-open limits p e le ∙ cond-true _ _ _ more

front-none : (limits : Limits) (p : Place) → p.rest ≡ [] → p.more ≡ false → front limits p ≡ Ok (Nothing, p)
front-none limits p none more =
    let size : length p.rest ≡ 0 = ap length none in
    front-open limits p (omega (arith, end_at-le p.rest)) (omega arith) ∙ cond-false _ _ _ more ∙ cond-true _ _ _ (eq-eqb _ _ size)

pub front-last : (limits : Limits) (p : Place) → end_at p.rest ≡ length p.rest → length p.rest ≤ limits.line → 0 < length p.rest → p.more ≡ false
    → front limits p ≡ Ok (Whole p.rest, p)
front-last limits p e le some more = front-open limits p e le ∙ cond-false _ _ _ more ∙ cond-false _ _ _ (ne_eqb (length p.rest) 0 (λ z. omega arith))

-- the same, cut
cut_is : (limits : Limits) (p : Place) (f : Front) → front limits p ≡ Ok (f, p) → (front limits >>= λ found. pure (cut found)) p ≡ Ok (cut f, p)
cut_is limits p f is = ap (λ (r : Read Front). and_then r (λ found. pure (cut found))) is

-- ---- the same in a window

finds_in : (limits : Limits) (held : Held) (left : List ℕ) (f : Front) (a : Ahead) → front limits (place_in held left) ≡ Ok (f, place_in held left)
    → cut f ≡ seen held a → (a ≡ ahead.Whole → HasLine held (Some left))
    → Finds (front limits) (place_of held (Some left)) held (Some left) (Ok a)
finds_in limits held left f a is same line = record {
  gives = (place_in held left, cut_is limits (place_in held left) f is ∙ ap (λ (g : Front). let r : Read Front = Ok (g, place_in held left) in r) same, refl);
  line = line;
}

finds_none : (limits : Limits) (held : Held) (a : Ahead) → (a ≡ ahead.Whole → HasLine held None) → Finds (front limits) (place_of held None) held None (Ok a)
finds_none limits held a line = record { gives = refl; line = line }

-- a line whose LF is held
pub has_line-ended : (held : Held) (left : Option (List ℕ)) → end_at held.bytes < length held.bytes → HasLine held left
has_line-ended held left lt = record { some = omega arith; whole = inl (has-from_lt held.bytes lt) }

found_ended : (limits : Limits) (held : Held) (left : Option (List ℕ)) → end_at held.bytes < length held.bytes
    → Finds (front limits) (place_of held left) held left (Ok (sized limits.line (end_at held.bytes)))
found_ended limits held None lt = finds_none limits held _ (λ _. has_line-ended held None lt)
found_ended limits held (Some left) lt =
    let behind = take held.quota left in
    let at : end_at (held.bytes ++ behind) ≡ end_at held.bytes = end_at-append_lt held.bytes behind lt in
    let text : front_line (held.bytes ++ behind) ≡ front_line held.bytes = front_line-append held.bytes behind lt in
    cond_both (nat_lt limits.line (end_at held.bytes)) ahead.Long ahead.Whole (λ a. Finds (front limits) (place_of held (Some left)) held (Some left) (Ok a))
    (λ t. let long : limits.line < end_at held.bytes = ltb-true _ _ t in
    finds_in limits held left (Long (front_line (held.bytes ++ behind))) ahead.Long (front-long limits (place_in held left) (omega arith))
    (ap (λ l. Long (take 16 l)) text) (λ e. absurd (cc)))
    (λ f. let short : end_at held.bytes ≤ limits.line = ltb-false _ _ f in
    finds_in limits held left (Whole (front_line (held.bytes ++ behind))) ahead.Whole
    (front-whole limits (place_in held left) (omega arith) (omega (arith, length-append held.bytes behind))) (ap Whole text)
    (λ _. has_line-ended held (Some left) lt))

-- a front of a line that is too long
found_long : (limits : Limits) (held : Held) (left : Option (List ℕ)) → end_at held.bytes ≡ length held.bytes → limits.line < length held.bytes
    → 16 ≤ length held.bytes → Finds (front limits) (place_of held left) held left (Ok ahead.Long)
found_long limits held None lacks long enough = finds_none limits held _ (λ e. absurd (cc))
found_long limits held (Some left) lacks long enough =
    let behind = take held.quota left in
    let at : end_at (held.bytes ++ behind) ≡ length held.bytes + end_at behind = end_at-append_all held.bytes behind lacks in
    let whole : front_line held.bytes ≡ held.bytes = take_all (end_at held.bytes) held.bytes (omega arith) in
    let rest : List ℕ = held.bytes ++ behind in
    let text : take 16 (front_line rest) ≡ take 16 (front_line held.bytes) =
    take-take 16 (end_at rest) rest (omega arith) ∙ take-append-le 16 held.bytes behind enough ∙ sym (ap (take 16) whole) in
    finds_in limits held left (Long (front_line rest)) ahead.Long (front-long limits (place_in held left) (omega arith)) (ap Long text) (λ e. absurd (cc))

-- all that is left
pub nothing_left : (held : Held) (left : List ℕ) → left ≡ [] → held.bytes ++ take held.quota left ≡ held.bytes
nothing_left held left none = ap (λ l. held.bytes ++ take held.quota l) none ∙ ap (λ l. held.bytes ++ l) (take-nil held.quota) ∙ append-nil held.bytes

not_zero : (n : ℕ) → (n ≡ 0 → ⊥) → 0 < n
not_zero n some = omega arith

-- a line that is told has some bytes
ended-some : (most size : ℕ) → ended most size ≡ ahead.Whole → 0 < size
ended-some most zero is = absurd (cc)
ended-some most (suc size) is = omega arith

found_at_end : (limits : Limits) (held : Held) (left : Option (List ℕ)) → end_at held.bytes ≡ length held.bytes → held.past ≡ false → IsAtEnd left
    → Finds (front limits) (place_of held left) held left (Ok (ended limits.line (length held.bytes)))
found_at_end limits held None lacks within at = finds_none limits held _
    (λ whole. record { some = ended-some limits.line (length held.bytes) whole; whole = inr tt })
found_at_end limits held (Some left) lacks within at =
    let rest : List ℕ = held.bytes ++ take held.quota left in
    let same : rest ≡ held.bytes = nothing_left held left at in
    let size : length rest ≡ length held.bytes = ap length same in
    let ends : end_at rest ≡ length held.bytes = ap end_at same ∙ lacks in
    let more : (held.past || nat_lt held.quota (length left)) ≡ false = or_from _ _ within (le-ltb held.quota (length left) (omega (arith, ap length at))) in
    let P : Ahead → Type 0 = λ a. Finds (front limits) (place_of held (Some left)) held (Some left) (Ok a) in
    cond_both (length held.bytes == 0) ahead.Nothing (sized limits.line (length held.bytes)) P
    (λ t. let none : length held.bytes ≡ 0 = eqb-true _ _ t in
    finds_in limits held left Nothing ahead.Nothing (front-none limits (place_in held left) (nil_from_length rest (omega arith)) more) refl (λ e. absurd (cc)))
    (λ f. let some : 0 < length held.bytes = not_zero (length held.bytes) (eqb-false _ _ f) in
    cond_both (nat_lt limits.line (length held.bytes)) ahead.Long ahead.Whole P
    (λ t. let long : limits.line < length held.bytes = ltb-true _ _ t in
    finds_in limits held left (Long (front_line rest)) ahead.Long (front-long limits (place_in held left) (omega arith))
    (ap (λ (l : List ℕ). Long (take 16 (front_line l))) same) (λ e. absurd (cc)))
    (λ g. let short : length held.bytes ≤ limits.line = ltb-false _ _ g in
    finds_in limits held left (Whole rest) ahead.Whole (front-last limits (place_in held left) (omega arith) (omega arith) (omega arith) more)
    (ap Whole (same ∙ sym (take_all (end_at held.bytes) held.bytes (omega arith))))
    (λ _. record { some = some; whole = inr (ap (take held.quota) at ∙ take-nil held.quota) })))

-- all that may be read of a longer stream
found_past : (limits : Limits) (held : Held) (left : Option (List ℕ)) → end_at held.bytes ≡ length held.bytes → held.past ≡ true → held.quota ≡ 0
    → Finds (front limits) (place_of held left) held left (passed limits.line (length held.bytes))
found_past limits held None lacks past spent =
    cond_both (nat_lt limits.line (length held.bytes)) (let r : Result Ahead StreamFault = Ok ahead.Long in r) (Err (TooLarge Stream))
    (λ r. Finds (front limits) (place_of held None) held None r)
    (λ t. finds_none limits held ahead.Long (λ e. absurd (cc))) (λ f. record { gives = tt; line = tt })
found_past limits held (Some left) lacks past spent =
    let rest : List ℕ = held.bytes ++ take held.quota left in
    let same : rest ≡ held.bytes = ap (λ n. held.bytes ++ take n left) spent ∙ append-nil held.bytes in
    let size : length rest ≡ length held.bytes = ap length same in
    let ends : end_at rest ≡ length held.bytes = ap end_at same ∙ lacks in
    cond_both (nat_lt limits.line (length held.bytes)) (let r : Result Ahead StreamFault = Ok ahead.Long in r) (Err (TooLarge Stream))
    (λ r. Finds (front limits) (place_of held (Some left)) held (Some left) r)
    (λ t. let long : limits.line < length held.bytes = ltb-true _ _ t in
    finds_in limits held left (Long (front_line rest)) ahead.Long (front-long limits (place_in held left) (omega arith))
    (ap (λ (l : List ℕ). Long (take 16 (front_line l))) same) (λ e. absurd (cc)))
    (λ f. let short : length held.bytes ≤ limits.line = ltb-false _ _ f in
    record {
      gives = ap (λ (r : Read Front). and_then r (λ found. pure (cut found)))
          (front-past limits (place_in held left) (omega arith) (omega arith) (or_left _ _ past));
      line = tt;
    })

-- ---- the exits of the search

pub answer_ended : (limits : Limits) (before : Option Place) (held : Held) (left : Option (List ℕ)) (bytes : List ℕ) (end : ℕ) (r : Ahead)
    → place_of held left ≡ before
    → bytes ≡ held.bytes → end ≡ end_at bytes → end < length bytes → r ≡ sized limits.line end → Finds (front limits) before held left (Ok r)
answer_ended limits before held left bytes end r at b e lt is =
    let same : end ≡ end_at held.bytes = e ∙ ap end_at b in
    let there : end_at held.bytes < length held.bytes = omega (arith, ap length b) in
    subst (λ (p : Option Place). Finds (front limits) p held left (Ok r)) at
    (subst (λ (a : Ahead). Finds (front limits) (place_of held left) held left (Ok a)) (sym (is ∙ ap (sized limits.line) same))
    (found_ended limits held left there))

pub answer_long : (limits : Limits) (before : Option Place) (held : Held) (left : Option (List ℕ)) (bytes : List ℕ) (end : ℕ) → place_of held left ≡ before
    → bytes ≡ held.bytes → end ≡ end_at bytes → length bytes ≤ end → limits.line < length bytes → 16 ≤ length bytes
    → Finds (front limits) before held left (Ok ahead.Long)
answer_long limits before held left bytes end at b e le long enough =
    let size : length bytes ≡ length held.bytes = ap length b in
    let same : end ≡ end_at held.bytes = e ∙ ap end_at b in
    subst (λ (p : Option Place). Finds (front limits) p held left (Ok ahead.Long)) at
    (found_long limits held left (omega (arith, end_at-le held.bytes)) (omega arith) (omega arith))

pub answer_end : (limits : Limits) (before : Option Place) (old new : Held) (left : Option (List ℕ)) (bytes : List ℕ) (end : ℕ) (r : Ahead)
    → place_of new left ≡ before
    → bytes ≡ old.bytes → end ≡ end_at bytes → length bytes ≤ end → Ends old new left → r ≡ ended limits.line (length bytes)
    → Finds (front limits) before new left (Ok r)
answer_end limits before old new left bytes end r at b e le ends is =
    let held : bytes ≡ new.bytes = b ∙ sym (ap (λ (h : Held). h.bytes) ends.held) in
    let size : length bytes ≡ length new.bytes = ap length held in
    let same : end ≡ end_at new.bytes = e ∙ ap end_at held in
    subst (λ (p : Option Place). Finds (front limits) p new left (Ok r)) at
    (subst (λ (a : Ahead). Finds (front limits) (place_of new left) new left (Ok a)) (sym (is ∙ ap (ended limits.line) size))
    (found_at_end limits new left (omega (arith, end_at-le new.bytes)) (ap (λ (h : Held). h.past) ends.held ∙ ends.within) ends.ended))

pub answer_past : (limits : Limits) (before : Option Place) (old new : Held) (left : Option (List ℕ)) (bytes : List ℕ) (end : ℕ) (r : Result Ahead StreamFault)
    → place_of new left ≡ before
    → bytes ≡ old.bytes → end ≡ end_at bytes → length bytes ≤ end → Passes old new → r ≡ passed limits.line (length bytes)
    → Finds (front limits) before new left r
answer_past limits before old new left bytes end r at b e le passes is =
    let held : bytes ≡ new.bytes = b ∙ sym (ap (λ (h : Held). h.bytes) passes.held) in
    let size : length bytes ≡ length new.bytes = ap length held in
    let same : end ≡ end_at new.bytes = e ∙ ap end_at held in
    subst (λ (p : Option Place). Finds (front limits) p new left r) at
    (subst (λ (a : Result Ahead StreamFault). Finds (front limits) (place_of new left) new left a) (sym (is ∙ ap (passed limits.line) size))
    (found_past limits new left (omega (arith, end_at-le new.bytes)) (ap (λ (h : Held). h.past) passes.held)
    (ap (λ (h : Held). h.quota) passes.held ∙ passes.spent)))

-- what was searched before more bytes came
pub known_more : (old new : Held) (bytes : List ℕ) (end : ℕ) (more : List ℕ) → bytes ≡ old.bytes → end ≡ end_at bytes → length bytes ≤ end → Gains old new more
    → length bytes ≤ end_at new.bytes
known_more old new bytes end more b e le gains =
    let size : length bytes ≡ length old.bytes = ap length b in
    let same : end ≡ end_at old.bytes = e ∙ ap end_at b in
    let lacks : end_at old.bytes ≡ length old.bytes = omega (arith, end_at-le old.bytes) in
    let grown : end_at new.bytes ≡ length old.bytes + end_at more = ap (λ (h : Held). end_at h.bytes) gains.held ∙ end_at-append_all old.bytes more lacks in
    omega arith

pub remaining_more : (old new : Held) (more : List ℕ) → Gains old new more → (remaining new ≡ remaining old) × (new.quota < old.quota)
remaining_more old new more gains =
    let bytes : length new.bytes ≡ length old.bytes + length more = ap (λ (h : Held). length h.bytes) gains.held ∙ length-append old.bytes more in
    let quota : new.quota ≡ old.quota - length more = ap (λ (h : Held). h.quota) gains.held in
    (omega (arith, gains.fits), omega (arith, gains.fits, gains.some))
