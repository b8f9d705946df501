-- Delimited data, which is taken line by line, and a line piece by piece.
use Rattle.std.proofs.Common.{◌≡◌, ℕ, ◌+◌, ◌-◌, ◌<◌, ◌≤◌, min, Bool, true, false, ◌||◌, ◌&&◌, not, cond, nat_lt, List, [], ◌++◌, length, take, Option, Some}
use Rattle.std.proofs.Common.{None, Ok, Err, ◌⊎◌, IsTrue, refl, sym, ap, subst, ◌∙◌, arith, inl, inr, append_assoc, length-append, if◌then◌else◌}
use Rattle.std.specs.Option.{option_map, IfSome}
use Rattle.std.specs.Io.KnownBytes.{IsAtEnd}
use Rattle.std.proofs.lemmas.Bool.{cases_lt, cond-true, cond-false, le-ltb, lt-ltb, ltb-true, ltb-false, ne_eqb, and_from, and_left, and_right, or_from}
use Rattle.std.proofs.lemmas.Bool.{or_left, or_right, not_from_true, not_from_false}
use Rattle.std.proofs.lemmas.List.{length-take, take_all, take-append-le, drop_at}
use Rattle.std.proofs.lemmas.List.Folds.{list_any-append}
use Rattle.std.proofs.Math.Seq.{take-append-add, take-nil}
use Rattle.bf_grammar.specs.declared.fault.Limit.TheVariants.{Data, Stream}
use Rattle.bf_grammar.specs.declared.fault.Limits.{Limits}
use Rattle.bf_grammar.specs.declared.fault.StreamFault.{StreamFault}
use Rattle.bf_grammar.specs.declared.fault.StreamFault.TheVariants.{Truncated, TooLarge}
use Rattle.bf_grammar.specs.Place.{Place, Reading, is_end_of_line, moved, and_then, pure, Gives, goes_on, repeat}
use Rattle.bf_grammar.specs.Lines.{front_line, has_end_of_line, is_text, past_line, delimited_line, delimited_at}
use Rattle.bf_grammar.proofs.Composing.{fails_alike}
use Rattle.bf_grammar.proofs.Repeating.{repeat-is}
use Rattle.bf_grammar.proofs.Onward.{delimited_takes}
use Rattle.bf_stream.specs.Going.{GoesOnAs}
use Rattle.bf_stream.specs.Data.{past_delimiter, content_line, TakesContent}
use Rattle.bf_stream.specs.Filling.{Ends, Passes}
use Rattle.bf_stream.specs.Held.{Held, IsAll, place_of, moved_held, past_held_line}
use Rattle.bf_stream.proofs.Ends.{end_at, end_at-le, end_at-append_lt, end_at-append_all, length-front_line, has-from_lt, lacks-from_end}
use Rattle.bf_stream.proofs.Holding.{place_of-moved, whole-line, whole-past}
use Rattle.bf_stream.proofs.Going.{Read, same_option, gives_fault_where, gives_value_where, goes_on_where, goes_on_trans, gives_going_on}
use Rattle.bf_stream.proofs.Pieces.{rest_at_end, rest_at_past, held_front, moved_moved, with_rest}

by_test : (b : Bool) (P : Bool → Type 0) → (b ≡ true → P true) → (b ≡ false → P false) → P b
by_test true P t f = t refl
by_test false P t f = f refl

-- ---- the delimiter

front_at : (held : Held) (left : Option (List ℕ)) → IsTrue (has_end_of_line held.bytes) ⊎ IsAll held left → (q : Place) → place_of held left ≡ Some q
    → front_line held.bytes ≡ front_line q.rest
front_at held left whole q at = subst (λ (o : Option Place). IfSome o (λ p. front_line held.bytes ≡ front_line p.rest)) at (whole-line held left whole)

delimiter_core : (delimiter : List ℕ) (held new : Held) (left : Option (List ℕ)) (before : Option Place) (r : Bool) → place_of held left ≡ before
    → IsTrue (has_end_of_line held.bytes) ⊎ IsAll held left
    → ((q : Place) → place_of held left ≡ Some q → (has_end_of_line q.rest || not q.more) ≡ true) → r ≡ is_text delimiter (front_line held.bytes)
    → new ≡ cond r (past_held_line held) held
    → Gives (λ (last : Bool). last) before (place_of new left) (Ok r) (past_delimiter delimiter)
delimiter_core delimiter held new left before true at whole ends is moves =
    gives_value_where (λ (last : Bool). last) before (place_of new left) true (past_delimiter delimiter) past_line
    (ap (λ (h : Held). place_of h left) moves ∙ whole-past held left whole ∙ ap (option_map past_line) at)
    (λ q here. cond-true _ _ _ (and_from _ _ (ap (is_text delimiter) (sym (front_at held left whole q (at ∙ here))) ∙ sym is) (ends q (at ∙ here))))
delimiter_core delimiter held new left before false at whole ends is moves =
    gives_value_where (λ (last : Bool). last) before (place_of new left) false (past_delimiter delimiter) (λ p. p)
    (ap (λ (h : Held). place_of h left) moves ∙ at ∙ same_option before)
    (λ q here. cond-false _ _ _ (and_left _ _ (ap (is_text delimiter) (sym (front_at held left whole q (at ∙ here))) ∙ sym is)))

pub delimiter_ended : (delimiter : List ℕ) (held new : Held) (left : Option (List ℕ)) (before : Option Place) (bytes : List ℕ) (end : ℕ) (r : Bool)
    → place_of held left ≡ before → bytes ≡ held.bytes → end ≡ end_at bytes → end < length bytes
    → r ≡ is_text delimiter (front_line held.bytes) → new ≡ cond r (past_held_line held) held
    → Gives (λ (last : Bool). last) before (place_of new left) (Ok r) (past_delimiter delimiter)
delimiter_ended delimiter held new left before bytes end r at b e lt is moves =
    let same : end ≡ end_at held.bytes = e ∙ ap end_at b in
    let there : end_at held.bytes < length held.bytes = omega (arith, ap length b) in
    delimiter_core delimiter held new left before r at (inl (has-from_lt held.bytes there))
    (λ q here. let front = held_front held left q here in
    let longer : end_at (held.bytes ++ front.0) < length (held.bytes ++ front.0) = omega
    (arith, end_at-append_lt held.bytes front.0 there, length-append held.bytes front.0) in
    or_left _ _ (ap has_end_of_line front.1 ∙ has-from_lt (held.bytes ++ front.0) longer)) is moves

pub delimiter_end : (delimiter : List ℕ) (old held new : Held) (left : Option (List ℕ)) (before : Option Place) (r : Bool) → place_of held left ≡ before
    → Ends old held left
    → r ≡ is_text delimiter (front_line held.bytes) → new ≡ cond r (past_held_line held) held
    → Gives (λ (last : Bool). last) before (place_of new left) (Ok r) (past_delimiter delimiter)
delimiter_end delimiter old held new left before r at ends is moves =
    let within : held.past ≡ false = ap (λ (h : Held). h.past) ends.held ∙ ends.within in
    delimiter_core delimiter held new left before r at (inr (all held left ends.ended))
    (λ q here. or_right _ _ (not_from_false _ (rest_at_end held left within ends.ended q here).1)) is moves
  where
    all : (h : Held) (l : Option (List ℕ)) → IsAtEnd l → IsAll h l
    all h None ended = tt
    all h (Some l) ended = ap (take h.quota) ended ∙ take-nil h.quota

-- a line that is longer than the delimiter
pub delimiter_longer : (delimiter : List ℕ) (held : Held) (left : Option (List ℕ)) (before : Option Place) (bytes : List ℕ) (end : ℕ)
    → place_of held left ≡ before → bytes ≡ held.bytes → end ≡ end_at bytes → length bytes ≤ end
    → length delimiter < length bytes → Gives (λ (last : Bool). last) before (place_of held left) (Ok false) (past_delimiter delimiter)
delimiter_longer delimiter held left before bytes end at b e le longer =
    let size : length bytes ≡ length held.bytes = ap length b in
    let same : end ≡ end_at held.bytes = e ∙ ap end_at b in
    let lacks : end_at held.bytes ≡ length held.bytes = omega (arith, end_at-le held.bytes) in
    gives_value_where (λ (last : Bool). last) before (place_of held left) false (past_delimiter delimiter) (λ p. p) (at ∙ same_option before)
    (λ q here. let front = held_front held left q (at ∙ here) in
    let far : end_at q.rest ≡ length held.bytes + end_at front.0 = ap end_at front.1 ∙ end_at-append_all held.bytes front.0 lacks in
    cond-false _ _ _ (and_left _ _ (and_right _ _ (ne_eqb (length (front_line q.rest)) (length delimiter) (λ z. omega (arith, length-front_line q.rest))))))

-- a line that doesn't end within what may be read
pub delimiter_past : (delimiter : List ℕ) (old held : Held) (left : Option (List ℕ)) (before : Option Place) (bytes : List ℕ) (end : ℕ)
    → place_of held left ≡ before → bytes ≡ old.bytes → end ≡ end_at bytes → length bytes ≤ end
    → Passes old held → Gives (λ (last : Bool). last) before (place_of held left) (Ok false) (past_delimiter delimiter)
delimiter_past delimiter old held left before bytes end at b e le passes =
    let kept : bytes ≡ held.bytes = b ∙ sym (ap (λ (h : Held). h.bytes) passes.held) in
    let size : length bytes ≡ length held.bytes = ap length kept in
    let same : end ≡ end_at held.bytes = e ∙ ap end_at kept in
    let lacks : end_at held.bytes ≡ length held.bytes = omega (arith, end_at-le held.bytes) in
    gives_value_where (λ (last : Bool). last) before (place_of held left) false (past_delimiter delimiter) (λ p. p) (at ∙ same_option before)
    (λ q here. let spent = rest_at_past held left (ap (λ (h : Held). h.past) passes.held) (ap (λ (h : Held). h.quota) passes.held ∙ passes.spent) q
    (at ∙ here) in
    cond-false _ _ _ (and_right _ _ (or_from _ _ (ap has_end_of_line spent.0 ∙ lacks-from_end held.bytes lacks) (not_from_true _ spent.1))))

-- ---- a line of content

abbrev content_of : Limits → ℕ → ℕ → List ℕ → Bool → Bool → Place → Read (List ℕ)
content_of limits line size content ends more after =
    if nat_lt limits.part size then Err (TooLarge Data) else if ends then Ok (content, after) else if more then Err (TooLarge Stream) else Err (Truncated line)

pub content_none : (limits : Limits) (line : ℕ) (content : List ℕ) (q : Place) → length content ≤ limits.part → q.rest ≡ []
    → content_line limits line content q ≡ cond q.more (Err (TooLarge Stream)) (Err (Truncated line))
content_none limits line content q within none =
    cond-false _ _ _ (le-ltb limits.part (length content + length (take (length (front_line q.rest) + 1) q.rest))
    (omega (arith, length-take (length (front_line q.rest) + 1) q.rest, ap length none)))
    ∙ cond-false _ _ _ (ap has_end_of_line none)

pub content_end : (limits : Limits) (line : ℕ) (content : List ℕ) (before after : Option Place) (held : Held) (left : Option (List ℕ))
    → place_of held left ≡ before → length content ≤ limits.part → held.bytes ≡ [] → held.past ≡ false → IsAtEnd left
    → Gives (λ (c : List ℕ). c) before after (Err (Truncated line)) (content_line limits line content)
content_end limits line content before after held left at within none open_end ended =
    gives_fault_where (λ (c : List ℕ). c) before after (Truncated line) (content_line limits line content)
    (λ q here. let spent = rest_at_end held left open_end ended q (at ∙ here) in content_none limits line content q within (spent.0 ∙ none) ∙ cond-false _ _ _
    spent.1)

pub content_past : (limits : Limits) (line : ℕ) (content : List ℕ) (before after : Option Place) (held : Held) (left : Option (List ℕ))
    → place_of held left ≡ before → length content ≤ limits.part → held.bytes ≡ [] → held.past ≡ true → held.quota ≡ 0
    → Gives (λ (c : List ℕ). c) before after (Err (TooLarge Stream)) (content_line limits line content)
content_past limits line content before after held left at within none past spent_quota =
    gives_fault_where (λ (c : List ℕ). c) before after (TooLarge Stream) (content_line limits line content)
    (λ q here. let spent = rest_at_past held left past spent_quota q (at ∙ here) in content_none limits line content q within (spent.0 ∙ none) ∙ cond-true _ _ _
    spent.1)

-- a piece that is held is no longer than the line with its LF
piece_within : (bytes behind : List ℕ) → min (end_at bytes + 1) (length bytes) ≤ length (take (length (front_line (bytes ++ behind)) + 1) (bytes ++ behind))
piece_within bytes behind =
    let all = length-append bytes behind in
    let size = length-take (length (front_line (bytes ++ behind)) + 1) (bytes ++ behind) in
    let front = length-front_line (bytes ++ behind) in
    elim (cases_lt (end_at bytes) (length bytes)) [
      | inl lt ↦ let at = end_at-append_lt bytes behind lt in omega arith
      | inr le ↦ let at = end_at-append_all bytes behind (omega (arith, end_at-le bytes)) in omega arith
    ]

pub content_large : (limits : Limits) (line : ℕ) (content bytes : List ℕ) (piece : ℕ) (before after : Option Place) (held : Held) (left : Option (List ℕ))
    → place_of held left ≡ before → bytes ≡ held.bytes → piece ≡ min (end_at bytes + 1) (length bytes)
    → limits.part < length content + piece → Gives (λ (c : List ℕ). c) before after (Err (TooLarge Data)) (content_line limits line content)
content_large limits line content bytes piece before after held left at b is large =
    gives_fault_where (λ (c : List ℕ). c) before after (TooLarge Data) (content_line limits line content)
    (λ q here. let front = held_front held left q (at ∙ here) in
    let rest : q.rest ≡ bytes ++ front.0 = front.1 ∙ ap (λ l. l ++ front.0) (sym b) in
    let size : length (take (length (front_line q.rest) + 1) q.rest) ≡ length (take (length (front_line (bytes ++ front.0)) + 1) (bytes ++ front.0)) = ap
    (λ (l : List ℕ). length (take (length (front_line l) + 1) l)) rest in
    cond-true _ _ _ (lt-ltb limits.part (length content + length (take (length (front_line q.rest) + 1) q.rest)) (omega (arith, piece_within bytes front.0))))

-- the whole line
content_all : (limits : Limits) (line : ℕ) (content bytes behind : List ℕ) (q : Place) → q.rest ≡ bytes ++ behind → end_at bytes < length bytes
    → length content + (end_at bytes + 1) ≤ limits.part
    → content_line limits line content q ≡ Ok (content ++ take (end_at bytes + 1) bytes, moved (end_at bytes + 1) q)
content_all limits line content bytes behind q rest lt within =
    let at : end_at (bytes ++ behind) ≡ end_at bytes = end_at-append_lt bytes behind lt in
    let front : length (front_line q.rest) + 1 ≡ end_at bytes + 1 = ap (λ n. n + 1)
    (ap (λ (l : List ℕ). length (front_line l)) rest ∙ length-front_line (bytes ++ behind) ∙ at) in
    let text : take (length (front_line q.rest) + 1) q.rest ≡ take (end_at bytes + 1) bytes =
    ap (λ n. take n q.rest) front ∙ ap (take (end_at bytes + 1)) rest ∙ take-append-le (end_at bytes + 1) bytes behind (omega arith) in
    let longer : end_at (bytes ++ behind) < length (bytes ++ behind) = omega (arith, length-append bytes behind) in
    cond-false _ _ _ (le-ltb limits.part (length content + length (take (length (front_line q.rest) + 1) q.rest))
    (omega (arith, ap length text, length-take (end_at bytes + 1) bytes)))
    ∙ cond-true _ _ _ (ap has_end_of_line rest ∙ has-from_lt (bytes ++ behind) longer)
    ∙ ap (λ (l : List ℕ). let r : Read (List ℕ) = Ok (content ++ l, past_line q) in r) text
    ∙ ap (λ n. let r : Read (List ℕ) = Ok (content ++ take (end_at bytes + 1) bytes, moved n q) in r) front

-- a front of the line
content_more_at : (limits : Limits) (line : ℕ) (content bytes behind : List ℕ) (q : Place) → end_at bytes ≡ length bytes
    → content_line limits line content (record q { rest = bytes ++ behind }) ≡ content_line limits line (content ++ bytes)
    (moved (length bytes) (record q { rest = bytes ++ behind }))
content_more_at limits line content bytes behind q lacks =
    let rest : List ℕ = bytes ++ behind in
    let n = length bytes in
    let p : Place = record q { rest = rest } in
    let m : Place = moved n p in
    let left : m.rest ≡ behind = drop_at bytes behind n refl in
    let here : length (front_line rest) ≡ n + end_at behind = length-front_line rest ∙ end_at-append_all bytes behind lacks in
    let there : length (front_line m.rest) ≡ end_at behind = ap (λ (l : List ℕ). length (front_line l)) left ∙ length-front_line behind in
    let further : length (front_line rest) + 1 ≡ n + (length (front_line m.rest) + 1) = omega arith in
    let text : take (length (front_line rest) + 1) rest ≡ bytes ++ take (length (front_line m.rest) + 1) m.rest =
    ap (λ k. take k rest) further ∙ take-append-add bytes behind (length (front_line m.rest) + 1) ∙ ap (λ l. bytes ++ take (length (front_line m.rest) + 1) l)
    (sym left) in
    let value : content ++ take (length (front_line rest) + 1) rest ≡ content ++ bytes ++ take (length (front_line m.rest) + 1) m.rest =
    ap (λ l. content ++ l) text ∙ sym (append_assoc content bytes (take (length (front_line m.rest) + 1) m.rest)) in
    let size : length content + length (take (length (front_line rest) + 1) rest) ≡ length (content ++ bytes) + length
    (take (length (front_line m.rest) + 1) m.rest) =
    omega (arith, ap length text, length-append bytes (take (length (front_line m.rest) + 1) m.rest), length-append content bytes) in
    let ends : has_end_of_line rest ≡ has_end_of_line m.rest =
    list_any-append is_end_of_line bytes behind ∙ ap (λ b. b || has_end_of_line behind) (lacks-from_end bytes lacks) ∙ sym (ap has_end_of_line left) in
    let after : past_line p ≡ past_line m = ap (λ k. moved k p) further ∙ sym (moved_moved n (length (front_line m.rest) + 1) p) in
    ap (λ k. content_of limits line k (content ++ take (length (front_line rest) + 1) rest) (has_end_of_line rest) q.more (past_line p)) size
    ∙ ap (λ (l : List ℕ). content_of limits line (length (content ++ bytes) + length (take (length (front_line m.rest) + 1) m.rest)) l (has_end_of_line rest)
    q.more (past_line p)) value
    ∙ ap (λ (b : Bool). content_of limits line (length (content ++ bytes) + length (take (length (front_line m.rest) + 1) m.rest))
    (content ++ bytes ++ take (length (front_line m.rest) + 1) m.rest) b q.more (past_line p)) ends
    ∙ ap (λ (r : Place). content_of limits line (length (content ++ bytes) + length (take (length (front_line m.rest) + 1) m.rest))
    (content ++ bytes ++ take (length (front_line m.rest) + 1) m.rest) (has_end_of_line m.rest) q.more r) after

content_more : (limits : Limits) (line : ℕ) (content bytes behind : List ℕ) (q : Place) → q.rest ≡ bytes ++ behind → end_at bytes ≡ length bytes
    → content_line limits line content q ≡ content_line limits line (content ++ bytes) (moved (length bytes) q)
content_more limits line content bytes behind q rest lacks =
    subst (λ (p : Place). content_line limits line content p ≡ content_line limits line (content ++ bytes) (moved (length bytes) p))
    (with_rest q (bytes ++ behind) rest)
    (content_more_at limits line content bytes behind q lacks)

pub content_piece : (limits : Limits) (line : ℕ) (content new bytes : List ℕ) (end piece : ℕ) (before : Option Place) (held next : Held)
    (left : Option (List ℕ)) → place_of held left ≡ before → bytes ≡ held.bytes → end ≡ end_at bytes → piece ≡ min (end + 1) (length bytes)
    → length content ≤ limits.part → piece ≤ limits.part - length content → new ≡ content ++ take piece bytes → next ≡ moved_held piece held
    → TakesContent limits line content new before (place_of next left) (Ok (nat_lt end (length bytes)))
content_piece limits line content new bytes end piece before held next left at b e is within fits grown moves =
    let size : length bytes ≡ length held.bytes = ap length b in
    let goes : place_of next left ≡ option_map (moved piece) before =
    ap (λ (h : Held). place_of h left) moves ∙ place_of-moved piece held left (omega arith) ∙ ap (option_map (moved piece)) at in
    by_test (nat_lt end (length bytes)) (λ (done : Bool). TakesContent limits line content new before (place_of next left) (Ok done))
    (λ t. let lt : end < length bytes = ltb-true _ _ t in
    let whole : piece ≡ end_at bytes + 1 = omega arith in
    gives_value_where (λ (c : List ℕ). c) before (place_of next left) new (content_line limits line content) (moved piece) goes
    (λ q here. let front = held_front held left q (at ∙ here) in
    content_all limits line content bytes front.0 q (front.1 ∙ ap (λ l. l ++ front.0) (sym b)) (omega arith) (omega arith)
    ∙ ap (λ k. let r : Read (List ℕ) = Ok (content ++ take k bytes, moved k q) in r) (sym whole)
    ∙ ap (λ (l : List ℕ). let r : Read (List ℕ) = Ok (l, moved piece q) in r) (sym grown)))
    (λ f. let ge : length bytes ≤ end = ltb-false _ _ f in
    let lacks : end_at bytes ≡ length bytes = omega (arith, end_at-le bytes) in
    let whole : piece ≡ length bytes = omega arith in
    let taken : new ≡ content ++ bytes = grown ∙ ap (λ l. content ++ l) (take_all piece bytes (omega arith)) in
    goes_on_where (content_line limits line content) (content_line limits line new) before (place_of next left) (moved piece) goes
    (λ q here. let front = held_front held left q (at ∙ here) in
    content_more limits line content bytes front.0 q (front.1 ∙ ap (λ l. l ++ front.0) (sym b)) lacks
    ∙ ap (λ k. content_line limits line (content ++ bytes) (moved k q)) (sym whole)
    ∙ ap (λ (l : List ℕ). content_line limits line l (moved piece q)) (sym taken)))

-- ---- line by line

abbrev Step : Type 0
Step = List ℕ ⊎ List ℕ

abbrev go_on : Read (List ℕ) → Read Step
go_on r = and_then r (λ more. pure (inl more))

abbrev next_step : Limits → ℕ → List ℕ → Bool → Reading Step
next_step limits line content last q = if last then Ok (inr content, q) else go_on (content_line limits line content q)

content_where : (limits : Limits) (line : ℕ) (large ends more : Bool) (content : List ℕ) (after : Place)
    → cond {A = Read Step} large (Err (TooLarge Data)) (cond ends (Ok (inl content, after)) (cond more (Err (TooLarge Stream)) (Err (Truncated line)))) ≡ go_on
    (cond large (Err (TooLarge Data)) (cond ends (Ok (content, after)) (cond more (Err (TooLarge Stream)) (Err (Truncated line)))))
content_where limits line true ends more content after = refl
content_where limits line false true more content after = refl
content_where limits line false false true content after = refl
content_where limits line false false false content after = refl

last_where : (limits : Limits) (line : ℕ) (content : List ℕ) (p : Place) (last : Bool)
    → cond {A = Read Step} last (Ok (inr content, past_line p)) (go_on (content_line limits line content p)) ≡ and_then
    (cond last (Ok (true, past_line p)) (Ok (false, p))) (next_step limits line content)
last_where limits line content p true = refl
last_where limits line content p false = refl

line_is : (limits : Limits) (line : ℕ) (delimiter content : List ℕ) (p : Place)
    → delimited_line limits line delimiter content p ≡ and_then (past_delimiter delimiter p) (next_step limits line content)
line_is limits line delimiter content p =
    let last : Bool = is_text delimiter (front_line p.rest) && (has_end_of_line p.rest || not p.more) in
    ap (λ (r : Read Step). cond last (Ok (inr content, past_line p)) r)
    (content_where limits line (nat_lt limits.part (length content + length (take (length (front_line p.rest) + 1) p.rest))) (has_end_of_line p.rest) p.more
    (content ++ take (length (front_line p.rest) + 1) p.rest) (past_line p))
    ∙ last_where limits line content p last

repeat_step : (limits : Limits) (line : ℕ) (delimiter content : List ℕ) (r : Read Bool) (p : Place) → past_delimiter delimiter p ≡ r
    → repeat (delimited_line limits line delimiter) content p ≡ goes_on (repeat (delimited_line limits line delimiter))
    (and_then r (next_step limits line content))
repeat_step limits line delimiter content r p is =
    repeat-is (delimited_line limits line delimiter) (delimited_takes limits line delimiter) content p
    ∙ ap (goes_on (repeat (delimited_line limits line delimiter)))
    (line_is limits line delimiter content p ∙ ap (λ (g : Read Bool). and_then g (next_step limits line content)) is)

module _ (limits : Limits) (line : ℕ) (delimiter : List ℕ) where
  pub lines_here : (bytes : List ℕ) (place : Option Place) → bytes ≡ []
      → GoesOnAs (delimited_at limits line delimiter) (repeat (delimited_line limits line delimiter) bytes) place place
  unfolding delimited_at
  lines_here bytes None none = refl
  lines_here bytes (Some p) none = (p, ap (λ (l : List ℕ). repeat (delimited_line limits line delimiter) l p) (sym none), refl)

  pub lines_end : (content : List ℕ) (before mid after : Option Place)
      → GoesOnAs (delimited_at limits line delimiter) (repeat (delimited_line limits line delimiter) content) before mid
      → Gives (λ (last : Bool). last) mid after (Ok true) (past_delimiter delimiter)
      → Gives (λ (bytes : List ℕ). bytes) before after (Ok content) (delimited_at limits line delimiter)
  lines_end content before mid after a gives =
      gives_going_on (λ (bytes : List ℕ). bytes) (delimited_at limits line delimiter) (repeat (delimited_line limits line delimiter) content) before mid after
      (Ok content) a (go mid gives)
    where
      go : (m : Option Place) → Gives (λ (last : Bool). last) m after (Ok true) (past_delimiter delimiter)
          → Gives (λ (bytes : List ℕ). bytes) m after (Ok content) (repeat (delimited_line limits line delimiter) content)
      go None goes = goes
      go (Some p) (q, is, goes) = (q, repeat_step limits line delimiter content (Ok (true, q)) p is, goes)

  pub lines_more : (content new : List ℕ) (before mid between after : Option Place)
      → GoesOnAs (delimited_at limits line delimiter) (repeat (delimited_line limits line delimiter) content) before mid
      → Gives (λ (last : Bool). last) mid between (Ok false) (past_delimiter delimiter)
      → Gives (λ (done : Unit {0}). new) between after (Ok tt) (content_line limits line content)
      → GoesOnAs (delimited_at limits line delimiter) (repeat (delimited_line limits line delimiter) new) before after
  lines_more content new before mid between after a gives more =
      goes_on_trans (delimited_at limits line delimiter) (repeat (delimited_line limits line delimiter) content)
      (repeat (delimited_line limits line delimiter) new) before mid after a (go mid gives)
    where
      then_more : (p q : Place) → past_delimiter delimiter p ≡ Ok (false, q)
          → Gives (λ (done : Unit {0}). new) (Some q) after (Ok tt) (content_line limits line content)
          → GoesOnAs (repeat (delimited_line limits line delimiter) content) (repeat (delimited_line limits line delimiter) new) (Some p) after
      then_more p q is (r, read, there) = (
        r,
        repeat_step limits line delimiter content (Ok (false, q)) p is ∙ ap
            (λ (g : Read (List ℕ)). goes_on (repeat (delimited_line limits line delimiter)) (go_on g)) read,
        there,
      )

      go : (m : Option Place) → Gives (λ (last : Bool). last) m between (Ok false) (past_delimiter delimiter)
          → GoesOnAs (repeat (delimited_line limits line delimiter) content) (repeat (delimited_line limits line delimiter) new) m after
      go None goes = subst (λ (b : Option Place). Gives (λ (done : Unit {0}). new) b after (Ok tt) (content_line limits line content)) goes more
      go (Some p) (q, is, goes) = then_more p q is (subst
          (λ (b : Option Place). Gives (λ (done : Unit {0}). new) b after (Ok tt) (content_line limits line content)) goes more)

  pub lines_stopped : (content : List ℕ) (before mid between after : Option Place) (fault : StreamFault)
      → GoesOnAs (delimited_at limits line delimiter) (repeat (delimited_line limits line delimiter) content) before mid
      → Gives (λ (last : Bool). last) mid between (Err fault) (past_delimiter delimiter)
      → Gives (λ (bytes : List ℕ). bytes) before after (Err fault) (delimited_at limits line delimiter)
  lines_stopped content before mid between after fault a gives =
      gives_going_on (λ (bytes : List ℕ). bytes) (delimited_at limits line delimiter) (repeat (delimited_line limits line delimiter) content) before mid after
      (Err fault) a (go mid gives)
    where
      go : (m : Option Place) → Gives (λ (last : Bool). last) m between (Err fault) (past_delimiter delimiter)
          → Gives (λ (bytes : List ℕ). bytes) m after (Err fault) (repeat (delimited_line limits line delimiter) content)
      go None fails = tt
      go (Some p) fails = fails_alike fault (past_delimiter delimiter p) (repeat (delimited_line limits line delimiter) content p)
          (λ is. repeat_step limits line delimiter content (Err fault) p is) fails

  pub lines_refused : (content new : List ℕ) (before mid between after end : Option Place) (fault : StreamFault)
      → GoesOnAs (delimited_at limits line delimiter) (repeat (delimited_line limits line delimiter) content) before mid
      → Gives (λ (last : Bool). last) mid between (Ok false) (past_delimiter delimiter)
      → Gives (λ (done : Unit {0}). new) between after (Err fault) (content_line limits line content)
      → Gives (λ (bytes : List ℕ). bytes) before end (Err fault) (delimited_at limits line delimiter)
  lines_refused content new before mid between after end fault a gives more =
      gives_going_on (λ (bytes : List ℕ). bytes) (delimited_at limits line delimiter) (repeat (delimited_line limits line delimiter) content) before mid end
      (Err fault) a (go mid gives)
    where
      go : (m : Option Place) → Gives (λ (last : Bool). last) m between (Ok false) (past_delimiter delimiter)
          → Gives (λ (bytes : List ℕ). bytes) m end (Err fault) (repeat (delimited_line limits line delimiter) content)
      go None goes = tt
      go (Some p) (q, is, goes) =
          fails_alike fault (content_line limits line content q) (repeat (delimited_line limits line delimiter) content p)
          (λ read. repeat_step limits line delimiter content (Ok (false, q)) p is ∙ ap
          (λ (g : Read (List ℕ)). goes_on (repeat (delimited_line limits line delimiter)) (go_on g)) read)
          (subst (λ (b : Option Place). Gives (λ (done : Unit {0}). new) b after (Err fault) (content_line limits line content)) goes more)
