-- What the laws of a history with its contents say.
use Rattle.std.specs.Prelude.{◌≡◌, ℕ, List, All, Result, Ok, Err}
use Rattle.bf_grammar.specs.declared.fault.Limits.{Limits}
use Rattle.bf_oid.specs.declared.object.Kind.TheVariants as kind
use Rattle.bf_oid.specs.declared.object.Oid.{Oid}
use Rattle.bf_oid.specs.Object.{name_of}
use Rattle.bf_history.specs.declared.fault.ImportFault.{ImportFault}
use Rattle.bf_history.specs.declared.fault.ImportFault.TheVariants.{NoContent}
use Rattle.bf_history.specs.Contents.{Content, Furnishes, IsFurnished}
use Rattle.bf_history.specs.Imports.{Loads}

-- but for a file that lacks its content, bytes load over their blobs as they do without
abbrev pub LoadsAlike : List ℕ → Limits → Result Content ImportFault → Type 0
LoadsAlike bytes limits (Ok content) = Loads bytes limits (Ok content.history)
LoadsAlike bytes limits (Err (NoContent line)) = Unit {0}
LoadsAlike bytes limits (Err fault) = Loads bytes limits (Err fault)

-- a blob stands under the name of its bytes
abbrev pub IsNamed : Oid × List ℕ → Type 0
IsNamed blob = blob.0.0 ≡ name_of kind.Blob blob.1

-- so do all blobs, and all files have what they need
pub record IsWhole (content : Content) : Type 0 where
  pub files : IsFurnished content
  pub named : All IsNamed content.blobs

-- what is loaded with its blobs is what is loaded without
abbrev pub HasOneHistory : List ℕ → Limits → Type 0
HasOneHistory bytes limits = (result : Result Content ImportFault) → Furnishes bytes limits result → LoadsAlike bytes limits result

-- what is loaded with its blobs is whole
abbrev pub HasAllContents : List ℕ → Limits → Type 0
HasAllContents bytes limits = (content : Content) → Furnishes bytes limits (Ok content) → IsWhole content
