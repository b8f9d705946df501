-- The best choice so far.
use Rattle.std.specs.Prelude.{Option, Some, None, nat_le, if◌then◌else◌}
use Rattle.bf_choice.specs.declared.choosing.Choice.{Choice}

-- the earlier choice, unless the later one has a greater value
abbrev pub better_of : Option Choice → Choice → Choice
better_of None later = later
better_of (Some earlier) later = if nat_le later.value earlier.value then earlier else later
