-- The names of contents that stand inline.
use Rattle.std.specs.Prelude.{◌≡◌}
use Rattle.bf_grammar.specs.declared.command.DataRef.{DataRef}
use Rattle.bf_grammar.specs.declared.command.DataRef.TheVariants.{Mark, Name, Inline}
use Rattle.bf_oid.specs.declared.object.Kind.TheVariants as kind
use Rattle.bf_oid.specs.declared.object.Oid.{Oid}
use Rattle.bf_oid.specs.Object.{name_of}

-- the name is that of the content, where it stands inline
abbrev pub IsNameOf : Oid → DataRef → Type 0
IsNameOf name (Inline bytes) = name ≡ record { 0 = name_of kind.Blob bytes }
IsNameOf name (Mark number) = Unit {0}
IsNameOf name (Name other) = Unit {0}
