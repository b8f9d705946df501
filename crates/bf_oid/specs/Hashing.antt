-- The name of an object, made from pieces of its body.
use Rattle.std.specs.Prelude.{ℕ, List, ◌++◌}
use Rattle.sha1.specs.Sha1.{Holds}
use Rattle.bf_oid.specs.declared.object.Kind.{Kind}
use Rattle.bf_oid.specs.Object.{object_header}
use Rattle.bf_oid.specs.declared.hasher.ObjectHasher.{ObjectHasher}

-- the hasher was started for an object of this kind and length, and has taken this body so far
unfoldable pub Hashes : ObjectHasher → Kind → ℕ → List ℕ → Type 0
Hashes hasher kind size body = Holds hasher.sha (object_header kind size ++ body)
