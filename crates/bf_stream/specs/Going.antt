-- Readings that go on behind what was taken so far.
use Rattle.std.specs.Prelude.{◌≡◌, Option, Some, None}
use Rattle.bf_grammar.specs.Place.{Place, Reading}

-- a reading goes on as another from the place after
abbrev pub GoesOnAs : {X : Type 0} → Reading X → Reading X → Option Place → Option Place → Type 0
GoesOnAs first next None after = after ≡ None
GoesOnAs first next (Some p) after = (q : Place) × (first p ≡ next q) × (after ≡ Some q)
