-- An LF at the end of a log changes nothing of what is read.
use Rattle.std.proofs.Common.{◌≡◌, ◌⊎◌, ℕ, ◌+◌, ◌==◌, cond, Bool, true, false, List, [], ◌∷◌, ◌++◌, inl, inr, refl, ap, ◌∙◌}
use Rattle.bf_reading.specs.Reading.{begin_with, lines_of, past_blanks, behind, command_text, read_line, add_line, read_lines, read_log}

-- the lines are the same, or an empty one follows them
abbrev EndsAlike : List (List ℕ) → List (List ℕ) → Type 0
EndsAlike lines ended = (ended ≡ lines) ⊎ (ended ≡ lines ++ [] ∷ [])

begun_alike : (b : ℕ) (lines ended : List (List ℕ)) → EndsAlike lines ended → EndsAlike (begin_with b lines) (begin_with b ended)
begun_alike b lines ended (inl e) = inl (ap (begin_with b) e)
begun_alike b [] ended (inr e) = inl (ap (begin_with b) e)
begun_alike b (line ∷ lines) ended (inr e) = inr (ap (begin_with b) e)

put_alike : (lines ended : List (List ℕ)) → EndsAlike lines ended → EndsAlike ([] ∷ lines) ([] ∷ ended)
put_alike lines ended (inl e) = inl (ap (λ (ls : List (List ℕ)). [] ∷ ls) e)
put_alike lines ended (inr e) = inr (ap (λ (ls : List (List ℕ)). [] ∷ ls) e)

added_alike : (c : Bool) (b : ℕ) (lines ended : List (List ℕ)) → EndsAlike lines ended
    → EndsAlike (cond c ([] ∷ lines) (begin_with b lines)) (cond c ([] ∷ ended) (begin_with b ended))
added_alike true b lines ended h = put_alike lines ended h
added_alike false b lines ended h = begun_alike b lines ended h

ended_alike : (text : List ℕ) → EndsAlike (lines_of text) (lines_of (text ++ 10 ∷ []))
unfolding lines_of
ended_alike [] = inr refl
ended_alike (b ∷ bs) = added_alike (b == 10) b (lines_of bs) (lines_of (bs ++ 10 ∷ [])) (ended_alike bs)

-- an empty line is passed over
passed_over : (n : ℕ) (lines : List (List ℕ)) → read_lines n (lines ++ [] ∷ []) ≡ read_lines n lines
unfolding read_lines command_text past_blanks behind
passed_over n [] = refl
passed_over n (line ∷ lines) = ap (add_line n (read_line line)) (passed_over (n + 1) lines)

read_alike : (lines ended : List (List ℕ)) → EndsAlike lines ended → read_lines 1 ended ≡ read_lines 1 lines
read_alike lines ended (inl e) = ap (read_lines 1) e
read_alike lines ended (inr e) = ap (read_lines 1) e ∙ passed_over 1 lines

pub read_ended : (text : List ℕ) → read_log (text ++ 10 ∷ []) ≡ read_log text
read_ended text = read_alike (lines_of text) (lines_of (text ++ 10 ∷ [])) (ended_alike text)
