-- What a tester tests in.
use Rattle.std.specs.Prelude.{ℕ, List}
use Rattle.bf_oid.specs.declared.object.Oid.{Oid}

-- a file that stands in a folder: the components of its path, and its bytes
pub record File : Type 0 where
  pub path : List (List ℕ)
  pub bytes : List ℕ

-- the content of a commit: the name of its tree, and its files
pub record Ground : Type 0 where
  pub tree : Oid
  pub files : List File
