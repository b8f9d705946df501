-- What a path is made of (git-fast-import(1), `filemodify`).
use Rattle.std.specs.Prelude.{ℕ, Bool, false, ◌==◌, ◌&&◌, not, nat_lt, nat_le, List, [], ◌∷◌, length, Option, Some, None, if◌then◌else◌}
use Rattle.std.specs.List.{list_all, slice_split, join_with_byte}

abbrev pub is_slash : ℕ → Bool
is_slash byte = byte == 47

-- a byte other than NUL and the slash
abbrev pub is_name_byte : ℕ → Bool
is_name_byte byte = nat_lt 0 byte && nat_lt byte 256 && not (is_slash byte)

-- the empty name, `.` and `..`
abbrev pub is_dots : List ℕ → Bool
is_dots name = nat_le (length name) 2 && list_all (λ byte. byte == 46) name

abbrev pub is_component : List ℕ → Bool
is_component name = list_all is_name_byte name && not (is_dots name)

-- one component or more
abbrev pub is_path : List (List ℕ) → Bool
is_path path = nat_lt 0 (length path) && list_all is_component path

-- the components, joined by slashes
abbrev pub path_text : List (List ℕ) → List ℕ
path_text path = join_with_byte 47 path

-- the path whose components stand between the slashes of a text
abbrev pub path_of : List ℕ → Option (List (List ℕ))
path_of text = if is_path (slice_split is_slash text) then Some (slice_split is_slash text) else None
