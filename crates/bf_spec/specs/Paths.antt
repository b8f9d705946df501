-- The place of what was found.
use Rattle.std.specs.Prelude.{ℕ, Option, Some, None}
use Rattle.bf_spec.specs.declared.walk.Found.{Found}

abbrev pub place_in : Option Found → Option ℕ
place_in None = None
place_in (Some found) = Some found.place
