-- The limits of the program, and how the commits of a stream are named.
use Rattle.std.specs.Prelude.{◌≤◌, true, false}
use Rattle.bf_grammar.specs.declared.fault.Limits.{Limits}

abbrev pub standard_limits : Limits
standard_limits = record {
  line = 65535;
  part = 67108864;
  stream = 1073741824;
  commits = 100000;
  entries = 40000000;
  original_names = false;
}

-- the same limits, where the commits keep the names that they had before they were exported
abbrev pub with_original_names : Limits → Limits
with_original_names limits = record limits { original_names = true }

-- no limit is above that of the program
pub record IsWithin (limits : Limits) : Type 0 where
  pub line : limits.line ≤ 65535
  pub part : limits.part ≤ 67108864
  pub stream : limits.stream ≤ 1073741824
  pub commits : limits.commits ≤ 100000
  pub entries : limits.entries ≤ 40000000
