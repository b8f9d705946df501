-- The name of a git object: SHA-1 (FIPS 180-4) of its kind, its length in decimal, and its body.
use Rattle.std.specs.Prelude.{ℕ, ◌==◌, List, [], ◌∷◌, ◌++◌, length, codes, Option, Some, None, Result, Ok, Err, if◌then◌else◌}
use Rattle.std.specs.Fmt.{decimal}
use Rattle.sha1.specs.Sha1.{sha1}
use Rattle.hex.specs.Hex.{decode_of}
use Rattle.hex.specs.declared.error.FromHexError.{FromHexError}
use Rattle.bf_oid.specs.declared.object.Kind.{Kind}
use Rattle.bf_oid.specs.declared.object.Kind.TheVariants.{Blob, Tree, Commit}
use Rattle.bf_oid.specs.declared.object.Oid.{Oid}

abbrev pub kind_text : Kind → List ℕ
kind_text Blob = codes "blob"
kind_text Tree = codes "tree"
kind_text Commit = codes "commit"

-- what is hashed before the body
abbrev pub object_header : Kind → ℕ → List ℕ
object_header kind size = kind_text kind ++ codes " " ++ decimal size ++ 0 ∷ []

-- the name of the object of this kind with this body
abbrev pub name_of : Kind → List ℕ → List ℕ
name_of kind body = sha1 (object_header kind (length body) ++ body)

-- the name that 40 hexadecimal digits of either case write
abbrev pub name_where : Result (List ℕ) FromHexError → Option Oid
name_where (Ok bytes) = Some (record { 0 = bytes })
name_where (Err fault) = None

abbrev pub oid_of_hex : List ℕ → Option Oid
oid_of_hex text = if length text == 40 then name_where (decode_of text) else None
