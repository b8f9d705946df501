-- What a tester shows of itself.
use Rattle.std.specs.Prelude.{◌≡◌}
use Rattle.bf_tester.specs.declared.tester.Tester.{Ghosts}

-- a tester shows the same command, answers and faults as it did, was split off or not, and reads outcomes as it did
pub record ShowsSame {T : Type 0} (by : Ghosts T) (old new : T) : Type 0 where
  pub answers : by.answers new ≡ by.answers old
  pub command : by.command new ≡ by.command old
  pub faults : by.faults new ≡ by.faults old
  pub failed : by.failed new ≡ by.failed old
  pub is_split : by.is_split new ≡ by.is_split old
  pub is_lenient : by.is_lenient new ≡ by.is_lenient old
