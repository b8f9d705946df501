-- A text without the part in front of it.
use Rattle.std.specs.Prelude.{◌≡◌, ℕ, List, ◌∷◌}
use Rattle.bf_reading.specs.Reading.{lines_of}
use Rattle.bf_protocol.specs.Requests.{parted}

-- a text is this word and, behind a blank, the rest
abbrev pub IsFirstWord : List ℕ → List ℕ → List ℕ → Type 0
IsFirstWord text word rest = parted text ≡ word ∷ parted rest

-- a text is this line and, behind its LF, the rest
abbrev pub IsFirstLine : List ℕ → List ℕ → List ℕ → Type 0
IsFirstLine text line rest = lines_of text ≡ line ∷ lines_of rest
