-- What a window holds after one more read.
use Rattle.std.proofs.Common.{◌≡◌, ℕ, zero, suc, ◌+◌, ◌-◌, ◌<◌, ◌≤◌, Bool, true, false, ◌||◌, ltb, get_or, List, [], ◌∷◌, ◌++◌, length, take, drop, Option, Some, None, Result, Ok, Err, refl, sym}
use Rattle.std.proofs.Common.{ap, ◌∙◌, ◌⊎◌, subst, arith, inl, inr, length-drop, length-append, append_assoc}
use Rattle.std.specs.Option.{option_map, option_to_list}
use Rattle.bf_grammar.specs.Place.{start_of}
use Rattle.std.specs.Result.{IsErr}
use Rattle.std.proofs.lemmas.Bool.{cases_lt, lt-ltb, le-ltb, false≢true}
use Rattle.std.proofs.lemmas.List.{drop-take, drop-drop, length-take-le}
use Rattle.std.proofs.Math.Seq.{take-append-add, take-add, take-nil, drop-append-add}
use Rattle.bf_io.specs.Told.{Takes}
use Rattle.bf_io.specs.declared.device.Failed.{Failed}
use Rattle.bf_stream.specs.declared.window.Filled.{Filled}
use Rattle.bf_stream.specs.Filling.{Gains, Fills, Passes}
use Rattle.bf_stream.specs.Held.{Held, beyond_of, nothing_held, past_limit, place_of}
use Rattle.bf_stream.specs.Window.{is_seen}

-- bytes behind a part, which were read there
pub part-grown : (old new : List ℕ) (start end n : ℕ) → start ≤ end → take end new ≡ take end old
    → take (end + n - start) (drop start new) ≡ take (end - start) (drop start old) ++ take n (drop end new)
part-grown old new start end n le before =
    let size : end + n - start ≡ end - start + n = omega arith in
    let at : start + (end - start) ≡ end = omega arith in
    let front : take (end - start) (drop start new) ≡ take (end - start) (drop start old) =
    sym (drop-take start (end - start) new) ∙ ap (λ k. drop start (take k new)) at ∙ ap (drop start) before
    ∙ sym (ap (λ k. drop start (take k old)) at) ∙ drop-take start (end - start) old in
    ap (λ k. take k (drop start new)) size
    ∙ take-add (end - start) n (drop start new)
    ∙ ap (λ l. l ++ take n (drop (end - start) (drop start new))) front
    ∙ ap (λ l. take (end - start) (drop start old) ++ take n l) (drop-drop (end - start) start new ∙ ap (λ k. drop k new) at)

ltb-less : (a n b : ℕ) → n ≤ a → ltb a (n + b) ≡ ltb (a - n) b
ltb-less a n b le =
    elim (cases_lt (a - n) b) [
      | inl lt ↦ lt-ltb a (n + b) (omega arith) ∙ sym (lt-ltb (a - n) b lt)
      | inr ge ↦ le-ltb a (n + b) (omega arith) ∙ sym (le-ltb (a - n) b ge)
    ]

-- the place stays, where the window gains what the source loses
pub Gains-place : (old new : Held) (left left' : Option (List ℕ)) (bytes : List ℕ) → Gains old new bytes → Takes left left' bytes
    → place_of new left' ≡ place_of old left
Gains-place old new None left' bytes gains took = rw took refl
Gains-place old new (Some left) None bytes gains took = absurd took
Gains-place old new (Some left) (Some left') bytes gains took =
    let n = length bytes in
    let sum : old.quota ≡ n + (old.quota - n) = omega (arith, gains.fits) in
    let rest : old.bytes ++ take old.quota left ≡ old.bytes ++ bytes ++ take (old.quota - n) left' =
    ap (λ (l : List ℕ). old.bytes ++ take old.quota l) took
    ∙ ap (λ k. old.bytes ++ take k (bytes ++ left')) sum
    ∙ ap (λ l. old.bytes ++ l) (take-append-add bytes left' (old.quota - n))
    ∙ sym (append_assoc old.bytes bytes (take (old.quota - n) left')) in
    let more : ltb old.quota (length left) ≡ ltb (old.quota - n) (length left') =
    ap (λ (l : List ℕ). ltb old.quota (length l)) took ∙ ap (ltb old.quota) (length-append bytes left') ∙ ltb-less old.quota n (length left') gains.fits in
    let line = old.line in
    ap (λ (h : Held). place_of h (Some left')) gains.held
    ∙ sym (ap (λ (b : Bool). Some (record {
      line = line;
      rest = old.bytes ++ bytes ++ take (old.quota - n) left';
      more = old.past || b;
      done_due = old.done_due;
    })) more)
    ∙ sym (ap (λ (l : List ℕ). Some (record { line = line; rest = l; more = old.past || ltb old.quota (length left); done_due = old.done_due })) rest)

part-kept : (old new : List ℕ) (start size : ℕ) → take (start + size) new ≡ take (start + size) old → take size (drop start new) ≡ take size (drop start old)
part-kept old new start size before = sym (drop-take start size new) ∙ ap (drop start) before ∙ drop-take start size old

pub Fills-err : (old new : Held) (left : Option (List ℕ)) (r : Result Filled Failed) → IsErr r → new ≡ old → Fills old new left r
Fills-err old new left (Ok x) err same = absurd (false≢true err)
Fills-err old new left (Err x) err same = same

-- a window whose bytes were moved, and to which nothing was read
pub view-kept : (w : Held) (old mid new : List ℕ) (size start start' : ℕ) → w.bytes ≡ take size (drop start old)
    → take size (drop start' mid) ≡ take size (drop start old) → take (start' + size) new ≡ take (start' + size) mid
    → ◌≡◌ {A = Held} (record w { bytes = take (start' + size - start') (drop start' new) }) w
view-kept w old mid new size start start' bytes part before =
    let same : start' + size - start' ≡ size = omega arith in
    ap (λ l. record w { bytes = l })
    (ap (λ n. take n (drop start' new)) same ∙ part-kept mid new start' size before ∙ part ∙ sym bytes)

-- a window whose bytes were moved, and behind which n bytes were read
pub view-grown : (w : Held) (old mid new : List ℕ) (size start start' n : ℕ) → w.bytes ≡ take size (drop start old)
    → take size (drop start' mid) ≡ take size (drop start old) → take (start' + size) new ≡ take (start' + size) mid
    → 0 < n → n ≤ w.quota → start' + size + n ≤ length new
    → Gains w (record w { bytes = take (start' + size + n - start') (drop start' new); quota = w.quota - n }) (take n (drop (start' + size) new))
view-grown w old mid new size start start' n bytes part before some fits within =
    let read : List ℕ = take n (drop (start' + size) new) in
    let long : length read ≡ n = length-take-le n (drop (start' + size) new) (omega (arith, length-drop (start' + size) new)) in
    let same : start' + size - start' ≡ size = omega arith in
    let grown : take (start' + size + n - start') (drop start' new) ≡ w.bytes ++ read =
    part-grown mid new start' (start' + size) n (omega arith) before ∙ ap (λ l. l ++ read) (ap (λ k. take k (drop start' mid)) same ∙ part ∙ sym bytes) in
    record {
      some = omega arith;
      fits = omega arith;
      held = ap (λ l. record w { bytes = l; quota = w.quota - n }) grown ∙ ap (λ k. record w { bytes = w.bytes ++ read; quota = w.quota - k }) (sym long);
    }

pub Ends-place : (old new : Held) (left left' : Option (List ℕ)) → new ≡ old → Takes left left' [] → place_of new left' ≡ place_of old left
Ends-place old new None left' same took = rw took refl
Ends-place old new (Some left) None same took = absurd took
Ends-place old new (Some left) (Some left') same took = ap (λ (h : Held). place_of h (Some left')) same ∙ sym (ap (λ (l : List ℕ). place_of old (Some l)) took)

-- ---- the bytes behind the limit stay

-- where nothing was read
pub kept-beyond : (old new : Held) (left left' : Option (List ℕ)) → new ≡ old → left' ≡ left → beyond_of new left' ≡ beyond_of old left
kept-beyond old new left left' same kept = ap (λ (h : Held). beyond_of h left') same ∙ ap (beyond_of old) kept

pub Ends-beyond : (old new : Held) (left left' : Option (List ℕ)) → new ≡ old → Takes left left' [] → beyond_of new left' ≡ beyond_of old left
Ends-beyond old new None left' same took = kept-beyond old new None left' same took
Ends-beyond old new (Some left) None same took = absurd took
Ends-beyond old new (Some left) (Some left') same took = kept-beyond old new (Some left) (Some left') same (ap (λ (l : List ℕ). Some l) (sym took))

-- where the window gains what the source loses
pub Gains-beyond : (old new : Held) (left left' : Option (List ℕ)) (bytes : List ℕ) → Gains old new bytes → Takes left left' bytes
    → beyond_of new left' ≡ beyond_of old left
unfolding past_limit
Gains-beyond old new None left' bytes gains took = rw took refl
Gains-beyond old new (Some left) None bytes gains took = absurd took
Gains-beyond old new (Some left) (Some left') bytes gains took =
    let n = length bytes in
    let sum : old.quota ≡ n + (old.quota - n) = omega (arith, gains.fits) in
    let rest : drop old.quota left ≡ drop (old.quota - n) left' =
    ap (drop old.quota) took ∙ ap (λ k. drop k (bytes ++ left')) sum ∙ drop-append-add bytes left' (old.quota - n) in
    ap (λ (h : Held). beyond_of h (Some left')) gains.held ∙ sym (ap (λ (l : List ℕ). Some (old.beyond ++ l)) rest)

-- where a byte behind the limit was seen
pub seen-beyond : (old new : Held) (left left' : Option (List ℕ)) (byte : ℕ) → old.beyond ≡ [] → old.quota ≡ 0
    → new ≡ record old { past = true; beyond = byte ∷ [] } → Takes left left' (byte ∷ []) → beyond_of new left' ≡ beyond_of old left
unfolding past_limit
seen-beyond old new None left' byte none spent seen took = rw took refl
seen-beyond old new (Some left) None byte none spent seen took = absurd took
seen-beyond old new (Some left) (Some left') byte none spent seen took =
    ap (λ (h : Held). beyond_of h (Some left')) seen
    ∙ ap (λ k. Some (byte ∷ [] ++ drop k left')) spent
    ∙ ap (λ (l : List ℕ). Some l) (sym took)
    ∙ sym (ap (λ (b : List ℕ). Some (b ++ drop old.quota left)) none ∙ ap (λ k. Some (drop k left)) spent)

pub seen-place : (old new : Held) (left left' : Option (List ℕ)) (byte : ℕ) → old.past ≡ false → old.quota ≡ 0
    → new ≡ record old { past = true; beyond = byte ∷ [] } → Takes left left' (byte ∷ []) → place_of new left' ≡ place_of old left
seen-place old new None left' byte within spent seen took = rw took refl
seen-place old new (Some left) None byte within spent seen took = absurd took
seen-place old new (Some left) (Some left') byte within spent seen took =
    let rest : take old.quota left' ≡ take old.quota left = ap (λ k. take k left') spent ∙ sym (ap (λ k. take k left) spent) in
    let more : (old.past || ltb old.quota (length left)) ≡ true =
    ap (λ (b : Bool). b || ltb old.quota (length left)) within ∙ lt-ltb old.quota (length left) (omega (arith, spent, ap length took)) in
    let line = old.line in
    ap (λ (h : Held). place_of h (Some left')) seen
    ∙ ap (λ (l : List ℕ). Some (record { line = line; rest = old.bytes ++ l; more = true; done_due = old.done_due })) rest
    ∙ sym (ap (λ (b : Bool). Some (record { line = line; rest = old.bytes ++ take old.quota left; more = b; done_due = old.done_due })) more)

-- one byte at most was asked for, and some came
pub one_taken : (left left' : Option (List ℕ)) (n : ℕ) (buf : List ℕ) → length buf ≡ 1 → (n ≡ 0 → ⊥) → Takes left left' (take n buf)
    → Takes left left' (get_or buf 0 0 ∷ [])
one_taken left left' n [] one some took = absurd (omega arith)
one_taken left left' zero (x ∷ xs) one some took = absurd (some refl)
one_taken left left' (suc n) (x ∷ xs) one some took = subst (λ (l : List ℕ). Takes left left' (x ∷ l)) (none xs n (omega arith)) took
  where
    none : (xs : List ℕ) (n : ℕ) → length xs ≡ 0 → take n xs ≡ []
    none [] n e = take-nil n
    none (x ∷ xs) n e = absurd (omega arith)

-- the byte behind the limit was seen before
pub past_already : (h : Held) → h.past ≡ true → h.quota ≡ 0 → Passes h h
past_already h past spent = record { beyond = h.beyond; held = ap (λ (b : Bool). record h { past = b }) past; spent = spent }

pub spent_seen : (seen : Option ℕ) (quota : ℕ) → (is_seen seen ≡ true → quota ≡ 0) → (option_to_list seen ≡ []) ⊎ (quota ≡ 0)
spent_seen None quota spent = inl refl
spent_seen (Some byte) quota spent = inr (spent refl)

-- before the first read
pub nothing-place : (limit : ℕ) (left : Option (List ℕ)) → place_of (nothing_held limit) left ≡ option_map (start_of limit) left
nothing-place limit None = refl
nothing-place limit (Some left) = refl

pub nothing-beyond : (limit : ℕ) (left : Option (List ℕ)) → beyond_of (nothing_held limit) left ≡ option_map (drop limit) left
unfolding past_limit
nothing-beyond limit None = refl
nothing-beyond limit (Some left) = refl
