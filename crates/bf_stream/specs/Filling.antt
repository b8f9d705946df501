-- What one more read does to what a window holds.
use Rattle.std.specs.Prelude.{◌≡◌, ℕ, ◌-◌, ◌<◌, ◌≤◌, true, false, List, [], ◌++◌, length, take, drop, Option, Result, Ok, Err}
use Rattle.std.specs.Io.KnownBytes.{IsAtEnd}
use Rattle.bf_io.specs.declared.device.Failed.{Failed}
use Rattle.bf_io.specs.Told.{ReadTakes}
use Rattle.bf_stream.specs.declared.window.Filled.{Filled}
use Rattle.bf_stream.specs.declared.window.Filled.TheVariants.{More, End, Past}
use Rattle.bf_stream.specs.Held.{Held}

-- the window gained these bytes, which count against what may still be read
pub record Gains (old new : Held) (bytes : List ℕ) : Type 0 where
  pub some : 0 < length bytes
  pub fits : length bytes ≤ old.quota
  pub held : new ≡ record old { bytes = old.bytes ++ bytes; quota = old.quota - length bytes }

-- the source had no byte left
pub record Ends (old new : Held) (left : Option (List ℕ)) : Type 0 where
  pub held : new ≡ old
  pub within : old.past ≡ false
  pub ended : IsAtEnd left

-- the window has all that may be read, and the source has more: a byte of it was seen
pub record Passes (old new : Held) : Type 0 where
  pub beyond : List ℕ
  pub held : new ≡ record old { past = true; beyond = beyond }
  pub spent : old.quota ≡ 0

abbrev pub Fills : Held → Held → Option (List ℕ) → Result Filled Failed → Type 0
Fills old new left (Ok More) = (bytes : List ℕ) × Gains old new bytes
Fills old new left (Ok End) = Ends old new left
Fills old new left (Ok Past) = Passes old new
Fills old new left (Err _) = new ≡ old

-- a byte is held; or none is left; or none may be read, of a longer stream
abbrev pub IsReady : Held → Option (List ℕ) → Result Filled Failed → Type 0
IsReady held left (Ok More) = 0 < length held.bytes
IsReady held left (Ok End) = (held.bytes ≡ []) × (held.past ≡ false) × IsAtEnd left
IsReady held left (Ok Past) = (held.bytes ≡ []) × (held.past ≡ true) × (held.quota ≡ 0)
IsReady held left (Err _) = Unit {0}

-- a read put bytes behind this place of the items
abbrev pub ReadsBehind : ℕ → Option (List ℕ) → Option (List ℕ) → Result ℕ Failed → List ℕ → Type 0
ReadsBehind at left left_now result items = ReadTakes left left_now result (drop at items)

-- so many items from one place are now at another place
abbrev pub KeepsPart : ℕ → ℕ → List ℕ → ℕ → List ℕ → Type 0
KeepsPart size start items at moved = take size (drop at moved) ≡ take size (drop start items)
