-- A device in memory, and what its calls are to do.
use Rattle.std.specs.Prelude.{ℕ, min, Bool, ◌==◌, List, ◌++◌, length, take}
use Rattle.std.specs.List.{list_any}
use Rattle.bf_io.specs.Causes.{raised}

pub record Scripted : Type 0 where
  pub bytes : List ℕ  -- those that a source has left, or that a sink holds
  pub piece : ℕ  -- the most bytes that a call moves
  pub fails : List ℕ  -- the numbers of the calls that fail, counted from 1
  pub calls : ℕ  -- the calls so far
  pub faults : ℕ  -- the calls so far that failed

-- a device by its parts
abbrev pub device : List ℕ → ℕ → List ℕ → ℕ → ℕ → Scripted
device bytes piece fails calls faults = record {
  bytes = bytes;
  piece = piece;
  fails = fails;
  calls = calls;
  faults = faults;
}

-- a device before its first call
abbrev pub new_device : List ℕ → ℕ → List ℕ → Scripted
new_device bytes piece fails = device bytes piece fails 0 0

-- whether a number is one of these
abbrev pub is_among : List ℕ → ℕ → Bool
is_among numbers number = list_any (λ n. n == number) numbers

-- whether the next call fails
abbrev pub fails_next : Scripted → Bool
fails_next device = is_among device.fails (raised device.calls)

-- the device after a call that failed
abbrev pub after_fault : Scripted → Scripted
after_fault device = record device { calls = raised device.calls; faults = raised device.faults }

-- the device after a call that left it with these bytes
abbrev pub after_call : Scripted → List ℕ → Scripted
after_call device bytes = record device { bytes = bytes; calls = raised device.calls }

-- how many bytes a source gives where there is so much room
abbrev pub given_into : ℕ → Scripted → ℕ
given_into room source = min source.piece (min room (length source.bytes))

-- a sink after a call that took so many bytes of a piece
abbrev pub after_taking : Scripted → ℕ → List ℕ → Scripted
after_taking sink n piece = after_call sink (sink.bytes ++ take n piece)
