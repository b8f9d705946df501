-- What a look at a flag knows.
use Rattle.std.specs.Prelude.{◌≡◌, ℕ, Bool, true, false}

pub record Look : Type 0 where
  pub seen : Bool  -- whether a look found the flag raised
  pub bare : Bool  -- whether there is no flag
  pub looks : ℕ  -- how many looks there were, up to the last value of 64 bits

-- there is a flag, and a look found it raised
abbrev pub SawRaised : Look → Type 0
SawRaised look = (look.seen ≡ true) × (look.bare ≡ false)
