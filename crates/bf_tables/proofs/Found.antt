-- What is found under a name, and what is added under one that is not there.
use Rattle.std.proofs.Common.{◌≡◌, ℕ, Bool, true, false, List, [], ◌∷◌, ◌++◌, Option, Some, is_some, if◌then◌else◌, refl, ap}
use Rattle.std.specs.Map.{lookup}
use Rattle.indexmap.specs.IndexMap.{insert_entry}
use Rattle.bf_oid.specs.declared.object.Oid.{Oid}
use Rattle.bf_history.specs.Contents.{Blobs, blob_named, has_blob, is_name, with_blob}
use Rattle.bf_history.specs.Named.{value_of}

-- a map finds what the blobs have
pub found : (name : Oid) (blobs : Blobs) → lookup (is_name name) blobs ≡ blob_named blobs name
found name [] = refl
found name (blob ∷ blobs) = ap (λ (rest : Option (List ℕ)). if is_name name blob.0 then Some blob.1 else rest) (found name blobs)

-- a name that is not there goes last
pub added : (name : Oid) (bytes : List ℕ) (blobs : Blobs) → has_blob blobs name ≡ false → insert_entry is_name blobs name bytes ≡ with_blob blobs name bytes
added name bytes blobs none = rw none (last blobs none)
  where
    last : (blobs : Blobs) → has_blob blobs name ≡ false → insert_entry is_name blobs name bytes ≡ blobs ++ (name, bytes) ∷ []
    last [] none = refl
    last (blob ∷ blobs) none = go (is_name name blob.0) (last blobs) none
      where
        go : (b : Bool) → (has_blob blobs name ≡ false → insert_entry is_name blobs name bytes ≡ blobs ++ (name, bytes) ∷ [])
            → is_some (if b then Some blob.1 else value_of is_name name blobs) ≡ false
            → (if b then (blob.0, bytes) ∷ blobs else blob ∷ insert_entry is_name blobs name bytes) ≡ blob ∷ blobs ++ (name, bytes) ∷ []
        go true rest none = absurd (cc)
        go false rest none = ap (λ (more : Blobs). blob ∷ more) (rest none)

pub there : (name : Oid) (bytes : List ℕ) (blobs : Blobs) → has_blob blobs name ≡ true → blobs ≡ with_blob blobs name bytes
there name bytes blobs has = rw has refl
