-- How what is found in front of what is held is the line in front of all that is left.
use Rattle.std.proofs.Common.{◌≡◌, ℕ, ◌+◌, ◌<◌, ◌≤◌, ◌==◌, Bool, true, false, List, [], ◌∷◌, ◌++◌, length, take, drop, Option, Some, None, Result, Ok, Err}
use Rattle.std.proofs.Common.{OnErr, refl, sym, ap, subst, ◌∙◌, arith, append_assoc, append-nil}
use Rattle.std.proofs.Math.Seq.{take-length}
use Rattle.std.specs.List.{list_any}
use Rattle.std.specs.Io.KnownBytes.{IsAtEnd}
use Rattle.std.proofs.lemmas.Bool.{cond-false, or_parts, or_from, eq-eqb, false≢true}
use Rattle.memchr.specs.Find.{IsFirstByte, is_byte}
use Rattle.std.proofs.lemmas.List.{take_rest, take-append-drop, length-take-le}
use Rattle.bf_reading.proofs.Cutting.{cut_at, none_before, none_at_all}
use Rattle.bf_lines.specs.declared.lines.Found.TheVariants as found
use Rattle.bf_lines.specs.declared.lines.Length.{Length}
use Rattle.bf_lines.specs.declared.lines.Length.TheVariants.{Short, Long}
use Rattle.bf_lines.specs.Lines.{Fills, HasNoEnd, IsEnd, IsFound, IsLine, Loses, NextIs, Passes, begun_with, ended_lines, is_end, long_if, told}
use Rattle.bf_lines.proofs.Filling.{drop-all}

none_append : (xs ys : List ℕ) → HasNoEnd xs → HasNoEnd ys → HasNoEnd (xs ++ ys)
none_append [] ys first second = second
none_append (x ∷ xs) ys first second =
    let parts = or_parts (is_end x) (list_any is_end xs) first in or_from _ _ parts.0 (none_append xs ys parts.1 second)

-- what holds of each fault
pub err_as : {T E : Type 0} (r : Result T E) (P : Type 0) → P → OnErr r P
err_as (Ok x) P holds = tt
err_as (Err e) P holds = holds

-- ---- the lines of an input

pub line_ended : (line rest : List ℕ) → HasNoEnd line → ended_lines (line ++ 10 ∷ rest) ≡ line ∷ ended_lines rest
unfolding ended_lines
line_ended [] rest none = refl
line_ended (b ∷ bs) rest none =
    let parts = or_parts (is_end b) (list_any is_end bs) none in
    cond-false (is_end b) ([] ∷ ended_lines (bs ++ 10 ∷ rest)) (begun_with b (ended_lines (bs ++ 10 ∷ rest))) parts.0
    ∙ ap (begun_with b) (line_ended bs rest parts.1)

pub none_ended : (torn : List ℕ) → HasNoEnd torn → ended_lines torn ≡ []
unfolding ended_lines
none_ended [] none = refl
none_ended (b ∷ bs) none =
    let parts = or_parts (is_end b) (list_any is_end bs) none in
    cond-false (is_end b) ([] ∷ ended_lines bs) (begun_with b (ended_lines bs)) parts.0 ∙ ap (begun_with b) (none_ended bs parts.1)

-- ---- where the first LF stands

pub end_found : (bytes : List ℕ) (at : ℕ) → IsFirstByte (is_byte 10) bytes (Some at) → IsEnd bytes at
end_found bytes at found = record {
  within = omega (arith, found.0.high);
  none = none_before (λ b. b == 10) bytes at found;
  here = λ lt. cut_at 10 bytes at found ∙ ap (λ (l : List ℕ). take at bytes ++ 10 ∷ l) (take_rest bytes (at + 1));
}

pub end_nowhere : (bytes : List ℕ) → IsFirstByte (is_byte 10) bytes None → IsEnd bytes (length bytes)
end_nowhere bytes nowhere = record {
  within = omega arith;
  none = ap (list_any is_end) (take-length bytes) ∙ none_at_all (λ b. b == 10) bytes nowhere;
  here = λ lt. absurd (omega arith);
}

pub end_none : (bytes : List ℕ) (end : ℕ) → IsEnd bytes end → length bytes ≤ end → HasNoEnd bytes
end_none bytes end is le =
    let whole : end ≡ length bytes = omega (arith, is.within) in sym (ap (λ n. list_any is_end (take n bytes)) whole ∙ ap (list_any is_end) (take-length bytes)) ∙ is.none

-- the same of what is held, where these are its bytes
pub at_front : (bytes held : List ℕ) (end : ℕ) → bytes ≡ held → IsEnd bytes end → IsEnd held end
at_front bytes held end is found = subst (λ (l : List ℕ). IsEnd l end) is found

-- where no LF is held, nothing is kept for one
pub none_held : (P : Type 0) (bytes held start : List ℕ) (end : ℕ) → bytes ≡ held → held ≡ start → IsEnd bytes end → length bytes ≤ end
    → list_any is_end start ≡ true → P
none_held P bytes held start end is same found le some = absurd (false≢true (sym (end_none bytes end found le) ∙ ap (list_any is_end) (is ∙ same) ∙ some))

-- ---- what was found

pub found_long : (held : List ℕ) (left : Option (List ℕ)) (end : ℕ) → IsEnd held end → 65535 < end → IsFound held left found.Long
found_long held left end is long = (end, long, is.within, is.none)

pub found_line : (held : List ℕ) (left : Option (List ℕ)) (end : ℕ) → IsEnd held end → end ≤ 65535 → end < length held → IsFound held left (found.Line end)
found_line held left end is short lt = record { short = short; ended = lt; end = is }

-- where a read gave nothing, nothing else is held
nothing_came : (held new : List ℕ) (left now : Option (List ℕ)) (n : ℕ) → Fills held new left now (Ok n) → n ≡ 0 → (new ≡ held) × IsAtEnd now
nothing_came held new left now n (bytes, grown, long, took, ends) none =
    (grown ∙ ap (λ (l : List ℕ). held ++ l) (empty bytes (long ∙ none)) ∙ append-nil held, ends none)
  where
    empty : (l : List ℕ) → length l ≡ 0 → l ≡ []
    empty [] e = refl
    empty (x ∷ l) e = absurd (omega arith)

pub found_nothing : (held new : List ℕ) (left now : Option (List ℕ)) (end n : ℕ) → IsEnd held end → length held ≤ end → Fills held new left now (Ok n)
    → n ≡ 0 → IsFound new now found.Nothing
found_nothing held new left now end n is le fills none =
    let came = nothing_came held new left now n fills none in (subst HasNoEnd (sym came.0) (end_none held end is le), came.1)

-- ---- the line in front

pub next_short : (held : List ℕ) (size : ℕ) (left : Option (List ℕ)) (line : List ℕ) → IsLine held size → line ≡ take size held
    → NextIs (told held left) (told (drop (size + 1) held) left) line (Some Short)
next_short held size None line is same = refl
next_short held size (Some left) line is same = (
  subst HasNoEnd (sym same) is.end.none,
  ap (λ (h : List ℕ). h ++ left) (is.end.here is.ended)
      ∙ append_assoc (take size held) (10 ∷ drop (size + 1) held) left
      ∙ ap (λ (l : List ℕ). l ++ 10 ∷ (drop (size + 1) held ++ left)) (sym same),
)

-- the end of what is told has no LF
no_end_left : (held left : List ℕ) → HasNoEnd held → left ≡ [] → HasNoEnd (held ++ left)
no_end_left held left none ends = subst (λ (l : List ℕ). HasNoEnd (held ++ l)) (sym ends) (subst HasNoEnd (sym (append-nil held)) none)

pub next_nothing : (held now : List ℕ) (left : Option (List ℕ)) (line : List ℕ) → HasNoEnd held → IsAtEnd left → now ≡ []
    → NextIs (told held left) (told now left) line None
next_nothing held now None line none ends gone = refl
next_nothing held now (Some left) line none ends gone = (no_end_left held left none ends, ap (λ (h : List ℕ). h ++ left) gone ∙ ends)

-- a line that was passed over has all bytes that were seen of it
long_front : (xs ys line rest : List ℕ) → HasNoEnd xs → xs ++ ys ≡ line ++ 10 ∷ rest → length xs ≤ length line
long_front [] ys line rest none is = omega arith
long_front (x ∷ xs) ys [] rest none is =
    let same : x ≡ 10 = cc in absurd (false≢true (sym (or_parts (is_end x) (list_any is_end xs) none).0 ∙ eq-eqb x 10 same))
long_front (x ∷ xs) ys (l ∷ line) rest none is =
    let tails : xs ++ ys ≡ line ++ 10 ∷ rest = cc in
    let shorter : length xs ≤ length line = long_front xs ys line rest (or_parts (is_end x) (list_any is_end xs) none).1 tails in
    omega arith

next_long : (held : List ℕ) (left now : Option (List ℕ)) (line : List ℕ) → IsFound held left found.Long → Passes (told held left) now true
    → NextIs (told held left) now line (Some Long)
next_long held None now line is passes = passes
next_long held (Some left) None line is passes = absurd passes
next_long held (Some left) (Some rest) line (n, long, within, none) (text, (has_none, all)) =
    let parts : take n held ++ (drop n held ++ left) ≡ text ++ 10 ∷ rest =
    sym (append_assoc (take n held) (drop n held) left) ∙ ap (λ (h : List ℕ). h ++ left) (take-append-drop n held) ∙ all in
    let size : length (take n held) ≡ n = length-take-le n held within in
    let shorter : length (take n held) ≤ length text = long_front (take n held) (drop n held ++ left) text rest none parts in
    (text, omega arith, (has_none, all))

-- where nothing more ends, no line was read
next_torn : (all now : Option (List ℕ)) (line : List ℕ) → Passes all now false → NextIs all now line None
next_torn None now line passes = passes
next_torn (Some all) None line passes = passes
next_torn (Some all) (Some rest) line passes = passes

-- what is told of a line that was passed over
pub next_passed : (held : List ℕ) (left now : Option (List ℕ)) (line : List ℕ) (ended : Bool) (next : Option Length) → next ≡ long_if ended
    → IsFound held left found.Long → Passes (told held left) now ended → NextIs (told held left) now line next
next_passed held left now line ended next is found passes =
    subst (λ (n : Option Length). NextIs (told held left) now line n) (sym is) (go ended passes)
  where
    go : (ended : Bool) → Passes (told held left) now ended → NextIs (told held left) now line (long_if ended)
    go true passes = next_long held left now line found passes
    go false passes = next_torn (told held left) now line passes

-- ---- a line that is passed over

pub loses_none : (all : Option (List ℕ)) → Loses all all
loses_none None = refl
loses_none (Some all) = ([], refl, refl)

pub passes_end : (before : Option (List ℕ)) (held : List ℕ) (left : Option (List ℕ)) (end : ℕ) → IsEnd held end → end < length held
    → Loses before (told held left) → Passes before (told (drop (end + 1) held) left) true
passes_end None held None end is lt loses = refl
passes_end None held (Some left) end is lt loses = absurd (cc)
passes_end (Some all) held None end is lt loses = absurd loses
passes_end (Some all) held (Some left) end is lt (lost, none, at) = (
  lost ++ take end held,
  (
    none_append lost (take end held) none is.none,
    at
        ∙ ap (λ (h : List ℕ). lost ++ (h ++ left)) (is.here lt)
        ∙ ap (λ (l : List ℕ). lost ++ l) (append_assoc (take end held) (10 ∷ drop (end + 1) held) left)
        ∙ sym (append_assoc lost (take end held) (10 ∷ (drop (end + 1) held ++ left))),
  ),
)

-- all that was held is lost
loses_more : (before : Option (List ℕ)) (held : List ℕ) (left : Option (List ℕ)) (end : ℕ) → IsEnd held end → length held ≤ end
    → Loses before (told held left) → Loses before (told (drop (end + 1) held) left)
loses_more None held None end is le loses = refl
loses_more None held (Some left) end is le loses = absurd (cc)
loses_more (Some all) held None end is le loses = absurd loses
loses_more (Some all) held (Some left) end is le (lost, none, at) =
    let gone : drop (end + 1) held ≡ [] = drop-all (end + 1) held (omega arith) in (
      lost ++ held,
      none_append lost held none (end_none held end is le),
      at ∙ sym (append_assoc lost held left) ∙ ap (λ (d : List ℕ). lost ++ held ++ (d ++ left)) (sym gone),
    )

pub lost_all : (before : Option (List ℕ)) (bytes held now : List ℕ) (left : Option (List ℕ)) (end : ℕ) → bytes ≡ held → IsEnd bytes end → length bytes ≤ end
    → now ≡ drop (end + 1) held → Loses before (told held left) → Loses before (told now left)
lost_all before bytes held now left end is found le gone loses =
    subst (λ (l : List ℕ). Loses before (told l left)) (sym gone)
    (loses_more before held left end (at_front bytes held end is found) (omega (arith, ap length is)) loses)

pub passes_last : (before : Option (List ℕ)) (held new : List ℕ) (left now : Option (List ℕ)) (n : ℕ) → held ≡ [] → Fills held new left now (Ok n) → n ≡ 0
    → Loses before (told new now) → Passes before (told new now) false
passes_last None held new left None n nothing fills none loses = refl
passes_last None held new left (Some now) n nothing fills none loses = absurd (cc)
passes_last (Some all) held new left None n nothing fills none loses = absurd loses
passes_last (Some all) held new left (Some now) n nothing fills none (lost, has_none, at) =
    let came = nothing_came held new left (Some now) n fills none in
    let rest : new ++ now ≡ [] = ap (λ (h : List ℕ). h ++ now) (came.0 ∙ nothing) ∙ came.1 in
    (subst HasNoEnd (sym (at ∙ ap (λ (l : List ℕ). lost ++ l) rest ∙ append-nil lost)) has_none, rest)
