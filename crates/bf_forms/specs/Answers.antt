-- What the parsers of the lines of a stream answer.
use Rattle.std.specs.Prelude.{◌≡◌, ℕ, Bool, true, false, List, drop, Option, MatchOption, Result, Ok, Err, MatchResult, IsErrOf}
use Rattle.std.specs.Borrow.{Bor}
use Rattle.bf_grammar.specs.Forms.{behind_email, has_name_and_email}
use Rattle.bf_grammar.specs.declared.fault.StreamFault.{StreamFault}
use Rattle.bf_grammar.specs.declared.fault.StreamFault.TheVariants.{Read, NoMemory}

-- a part of the line as the definition has it, or its refusal
abbrev pub IsPart : Result (List ℕ) StreamFault → Result (Bor (List ℕ)) StreamFault → Type 0
IsPart wanted result = MatchResult result (λ part. wanted ≡ Ok part.now) (λ fault. wanted ≡ Err fault)

-- a part that stands where the test holds, and no part where it fails
abbrev pub IsPartWhere : Bool → List ℕ → Option (Bor (List ℕ)) → Type 0
IsPartWhere test part result = MatchOption result (test ≡ false) (λ found. (test ≡ true) × (found.now ≡ part))

-- a refusal comes from the text of the line: neither from the source nor from memory
abbrev pub IsOfText : {X : Type 0} → Result X StreamFault → Type 0
IsOfText result = (IsErrOf result Read → ⊥) × (IsErrOf result NoMemory → ⊥)

-- what stands in the place of the time in an ident, where the name and the email are in their form
abbrev pub IsTimeIn : List ℕ → Option (Bor (List ℕ)) → Type 0
IsTimeIn ident result = IsPartWhere (has_name_and_email ident) (drop 1 (behind_email ident)) result
