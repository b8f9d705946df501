-- What the folder of a commit holds.
use Rattle.std.specs.Prelude.{ℕ, not, List, map, filter}
use Rattle.bf_forest.specs.declared.entries.FileEntry.{FileEntry}
use Rattle.bf_forest.specs.Files.{Files}
use Rattle.bf_forest.specs.Trees.{tree_name}
use Rattle.bf_tester.specs.Grounds.{File, Ground}
use Rattle.bf_history.specs.Contents.{Blobs, Content, bytes_named, files_of, tree_of}
use Rattle.bf_history.specs.Meanings.{is_module}

-- The files of a tree that are checked out, by path, each with the bytes of its blob. A submodule has no file of its own, and
-- a link is a plain file that holds its target.
abbrev pub checked_out : Blobs → Files → List File
checked_out blobs files =
    map (λ (file : FileEntry). record { path = file.path; bytes = bytes_named blobs file.oid })
    (filter (λ (file : FileEntry). not (is_module file.mode)) files)

-- the files of the commit at a place, by path, each with its bytes; none past the end
abbrev pub checkout : Content → ℕ → List File
checkout content place = checked_out content.blobs (files_of content place)

-- by place, the name of the tree of each commit, and the files that are checked out of it
abbrev pub grounds_of : Content → List Ground
grounds_of content =
    map (λ files. record { tree = record { 0 = tree_name files }; files = checked_out content.blobs files }) content.history.files
