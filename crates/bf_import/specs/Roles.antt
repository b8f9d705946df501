-- What targets are for.
use Rattle.std.specs.Prelude.{ℕ}
use Rattle.bf_history.specs.declared.fault.ImportFault.{ImportFault}
use Rattle.bf_history.specs.declared.fault.ImportFault.TheVariants.{BadFrom, Unsupported}
use Rattle.bf_import.specs.declared.targets.Role.{Role}
use Rattle.bf_import.specs.declared.targets.Role.TheVariants.{Commit, Tagged}

-- what is said of a mark of something else than a commit
abbrev pub said_of : Role → ℕ → ImportFault
said_of Commit line = BadFrom line
said_of Tagged line = Unsupported line
