-- Places in a stream, and readings of them: a reading goes from a place to a value and the place behind it, or
-- to the refusal that stands there. Nothing here knows of windows or of pieces.
use Rattle.std.specs.Prelude.{◌≡◌, ℕ, suc, zero, ◌+◌, Bool, false, ◌==◌, nat_lt, List, take, drop, length, count_by, Option, Some, None, Result, Ok, Err, ◌⊎◌}
use Rattle.std.proofs.Common.{inl, inr}
use Rattle.bf_grammar.specs.declared.fault.StreamFault.{StreamFault}
use Rattle.bf_grammar.specs.declared.fault.StreamFault.TheVariants as faults

-- where a reading stands: the line, the bytes from there up to the limit on the stream, whether the stream has
-- more behind that limit, and whether `feature done` was read
pub record Place : Type 0 where
  pub line : ℕ
  pub rest : List ℕ
  pub more : Bool
  pub done_due : Bool

abbrev pub is_end_of_line : ℕ → Bool
is_end_of_line byte = byte == 10

-- the front of the bytes, where so many may be read
abbrev pub start_of : ℕ → List ℕ → Place
start_of limit bytes = record { line = 1; rest = take limit bytes; more = nat_lt limit (length bytes); done_due = false }

-- the place n bytes further on: each LF among them begins a line
abbrev pub moved : ℕ → Place → Place
moved n p = record p { line = p.line + count_by is_end_of_line (take n p.rest); rest = drop n p.rest }

abbrev pub Reading : Type 0 → Type 0
Reading X = Place → Result (X × Place) StreamFault

-- a value without reading
abbrev pub pure : {X : Type 0} → X → Reading X
pure x p = Ok (x, p)

-- a refusal at the line of the place
abbrev pub refuse : {X : Type 0} → (ℕ → StreamFault) → Reading X
refuse fault p = Err (fault p.line)

-- the next step of a reading, where the first gave a value
abbrev pub and_then : {X Y : Type 0} → Result (X × Place) StreamFault → (X → Reading Y) → Result (Y × Place) StreamFault
and_then (Ok (x, p)) next = next x p
and_then (Err fault) next = Err fault

infixl 10 ◌>>=◌
-- one reading, and from where it ended another
abbrev pub ◌>>=◌ : {X Y : Type 0} → Reading X → (X → Reading Y) → Reading Y
(first >>= next) p = and_then (first p) next

-- a value of a text in front, or the refusal of that text
abbrev pub lifted : {X : Type 0} → Result X StreamFault → Reading X
lifted (Ok x) p = Ok (x, p)
lifted (Err fault) p = Err fault

-- A step of a repetition goes on with a new value, or ends. The turns are the bytes that are left, and one
-- more: a step that goes on takes at least a byte.
abbrev pub goes_on : {A X : Type 0} → (A → Reading X) → Result ((A ⊎ X) × Place) StreamFault → Result (X × Place) StreamFault
goes_on again (Ok (inl a, p)) = again a p
goes_on again (Ok (inr x, p)) = Ok (x, p)
goes_on again (Err fault) = Err fault

abbrev pub repeated : {A X : Type 0} → StreamFault → (A → Reading (A ⊎ X)) → ℕ → A → Reading X
repeated spent step zero a p = Err spent
repeated spent step (suc turns) a p = goes_on (repeated spent step turns) (step a p)

-- a step again and again, until it ends
abbrev pub repeat : {A X : Type 0} → (A → Reading (A ⊎ X)) → A → Reading X
repeat step a p = repeated faults.Read step (suc (length p.rest)) a p

-- Between two places, where they are known, a call gave what the reading gives. A place that isn't known stays so.
-- A fault of the source and want of memory may come anywhere.
abbrev pub Fails : {X : Type 0} → StreamFault → Result X StreamFault → Type 0
Fails faults.Read read = Unit {0}
Fails faults.NoMemory read = Unit {0}
Fails fault read = read ≡ Err fault

abbrev pub Gives : {X Y : Type 0} → (X → Y) → Option Place → Option Place → Result X StreamFault → Reading Y → Type 0
Gives view None after (Ok x) read = after ≡ None
Gives view None after (Err fault) read = Unit {0}
Gives view (Some p) after (Ok x) read = (q : Place) × (read p ≡ Ok (view x, q)) × (after ≡ Some q)
Gives view (Some p) after (Err fault) read = Fails fault (read p)
