-- What a call does to the bytes of a device, where they are told. What is told stays told, and what is
-- not told stays so.
use Rattle.std.specs.Prelude.{◌≡◌, ℕ, List, ◌++◌, take, Option, Some, None, Result, MatchResult}
use Rattle.std.specs.Option.{option_map}
use Rattle.std.specs.Io.KnownBytes.{IsAtEnd}
use Rattle.std.specs.Io.KnownBytes as known

-- ---- a source, by the bytes that it has left

-- the told bytes begin with these, and lose them
abbrev pub Takes : Option (List ℕ) → Option (List ℕ) → List ℕ → Type 0
Takes None new bytes = new ≡ None
Takes (Some xs) None bytes = ⊥
Takes (Some xs) (Some ys) bytes = xs ≡ bytes ++ ys

-- a read took the bytes that it put at the front of the buffer, and none only where nothing is left;
-- one that failed took none
abbrev pub ReadTakes : {E : Type 0} → Option (List ℕ) → Option (List ℕ) → Result ℕ E → List ℕ → Type 0
ReadTakes old new result buf =
    MatchResult result (λ n. Takes old new (take n buf) × (n ≡ 0 → IsAtEnd new)) (λ _. new ≡ old)

-- ---- a sink, by the bytes that it holds

-- what is told and then these bytes
abbrev pub followed_by : Option (List ℕ) → List ℕ → Option (List ℕ)
followed_by told bytes = option_map (λ xs. xs ++ bytes) told

-- the bytes stay as they are
abbrev pub Keeps : Option (List ℕ) → Option (List ℕ) → Type 0
Keeps old new = new ≡ old

-- the bytes gain these at the end
abbrev pub Appends : Option (List ℕ) → Option (List ℕ) → List ℕ → Type 0
Appends old new bytes = new ≡ followed_by old bytes

-- the bytes gain some front of these, which may be none or all of them
abbrev pub AppendsFront : Option (List ℕ) → Option (List ℕ) → List ℕ → Type 0
AppendsFront old new bytes = (n : ℕ) × Appends old new (take n bytes)

-- a write appended the first bytes of the piece, as many as it answers; one that failed appended none
abbrev pub WriteAppends : {E : Type 0} → Option (List ℕ) → Option (List ℕ) → Result ℕ E → List ℕ → Type 0
WriteAppends old new result piece =
    MatchResult result (λ n. Appends old new (take n piece)) (λ _. Keeps old new)

-- ---- a reader and a writer of the system, by what they tell

-- the reader lost the bytes that the read gave
abbrev pub Consumes : {R E : Type 0} → (R → Option (List ℕ)) → R → R → Result ℕ E → List ℕ → Type 0
Consumes remaining old new result buf = known.ReadConsumes (remaining old) (remaining new) result buf

-- the writer gained the bytes that the write took
abbrev pub Gains : {W E : Type 0} → (W → Option (List ℕ)) → W → W → Result ℕ E → List ℕ → Type 0
Gains contents old new result piece = known.WriteAppends (contents old) (contents new) result piece
