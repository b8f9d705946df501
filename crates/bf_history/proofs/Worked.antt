-- Worked meanings, by computation. The names of the commits here are single bytes.
use Rattle.std.specs.Prelude.{◌≡◌, ℕ, true, false, ◌==◌, List, [], ◌∷◌, codes, Ok, Err, refl}
use Rattle.std.specs.Str.{is_utf8}
use Rattle.bf_io.specs.Decimal.{decimal_value}
use Rattle.hex.specs.Hex.{decode_pairs}
use Rattle.bf_oid.specs.declared.object.Mode.TheVariants.{Plain, Module}
use Rattle.bf_oid.specs.declared.object.Kind.TheVariants.{Blob}
use Rattle.bf_oid.specs.declared.object.Oid.{Oid}
use Rattle.bf_oid.specs.Object.{name_of}
use Rattle.bf_grammar.specs.declared.command.Change.TheVariants.{Modify}
use Rattle.bf_grammar.specs.declared.command.DataRef.TheVariants as dataref
use Rattle.bf_grammar.specs.Limits.{standard_limits}
use Rattle.bf_history.specs.declared.fault.ImportFault.TheVariants.{BadFrom, BadMark, BadPath, NoContent, Unsupported}
use Rattle.bf_history.specs.declared.marked.Marked.TheVariants as marked
use Rattle.bf_history.specs.Bodies.{subject_of}
use Rattle.bf_history.specs.Contents.{behind_change, edit_over, edits_over, has_content, is_there}
use Rattle.bf_history.specs.Meanings.{path_at, Loading, nothing_loaded, place_of_target, content_named, ref_of_target}
use Rattle.bf_paths.specs.Quoting.{path_value}
use Rattle.bf_history.specs.Named.{with_value, without_value}

-- a ref that is set again keeps its place in the list, and one that goes leaves no hole
kept : with_value {V = ℕ} ◌==◌ 1 5 ((1, 3) ∷ (2, 4) ∷ []) ≡ (1, 5) ∷ (2, 4) ∷ []
kept = refl

closed : without_value {V = ℕ} ◌==◌ 1 ((1, 3) ∷ (2, 4) ∷ []) ≡ (2, 4) ∷ []
closed = refl

-- the subject is the first line with a byte, without its LF
titled : subject_of (codes "\n\nfirst\nsecond\n") ≡ codes "first"
titled = refl

untitled : subject_of (codes "\n\n") ≡ []
untitled = refl

-- ---- targets

with_marks : Loading
with_marks = record (nothing_loaded standard_limits) {
  marks = (1, marked.Commit 7) ∷ (2, marked.Tag) ∷ [];
}

by_mark : place_of_target BadFrom with_marks (record { line = 9; text = codes ":1" }) ≡ Ok 7
unfolding with_marks place_of_target decimal_value
by_mark = refl

of_a_tag : place_of_target Unsupported with_marks (record { line = 9; text = codes ":2" }) ≡ Err (Unsupported 9)
unfolding with_marks place_of_target decimal_value
of_a_tag = refl

no_mark : place_of_target Unsupported with_marks (record { line = 9; text = codes ":3" }) ≡ Err (BadFrom 9)
unfolding with_marks place_of_target decimal_value
no_mark = refl

-- the mark 0 is no mark, and names no ref either
mark_zero : place_of_target BadFrom with_marks (record { line = 9; text = codes ":0" }) ≡ Err (BadFrom 9)
unfolding with_marks place_of_target ref_of_target decimal_value
mark_zero = refl

no_commit_of_the_name : place_of_target BadFrom with_marks (record { line = 9; text = codes "0000000000000000000000000000000000000000" }) ≡ Err (Unsupported 9)
unfolding with_marks place_of_target decode_pairs
no_commit_of_the_name = refl

present_commit : ref_of_target (codes "refs/heads/a^0") ≡ codes "refs/heads/a"
unfolding ref_of_target
present_commit = refl

-- ---- contents

inline_module : content_named [] 4 Module (dataref.Inline []) ≡ Err (BadMark 4)
unfolding content_named
inline_module = refl

commit_as_content : content_named with_marks.marks 4 Plain (dataref.Mark 1) ≡ Err (BadMark 4)
unfolding with_marks content_named
commit_as_content = refl

-- ---- contents of files

abbrev seven : Oid
seven = record { 0 = 7 ∷ [] }

-- a name of digits needs a blob so far
without_its_blob : is_there [] (dataref.Name seven) ≡ false
without_its_blob = refl

with_its_blob : is_there ((seven, codes "x") ∷ []) (dataref.Name seven) ≡ true
with_its_blob = refl

-- a submodule needs neither a content nor a path in UTF-8
submodule : has_content [] Module (dataref.Name seven) ((255 ∷ []) ∷ []) ≡ true
submodule = refl

-- a later inline part is no blob so far
inline_behind : is_utf8 (codes "a") ≡ true
    → edits_over [] [] (Modify 4 Plain (dataref.Name seven) (codes "a") ∷ Modify 5 Plain (dataref.Inline (codes "x")) (codes "b") ∷ []) ≡ Err (NoContent 4)
unfolding edits_over edit_over content_named path_at path_value
inline_behind text = rw text refl

-- an earlier one is
inline_before : (bytes : List ℕ) → behind_change [] (Modify 4 Plain (dataref.Inline bytes) (codes "b")) ≡ (record { 0 = name_of Blob bytes }, bytes) ∷ []
inline_before bytes = refl

-- a bad path is told before what the file lacks
bad_path_first : edits_over [] [] (Modify 4 Plain (dataref.Name seven) (codes "a/") ∷ []) ≡ Err (BadPath 4)
unfolding edits_over edit_over content_named path_at path_value
bad_path_first = refl
