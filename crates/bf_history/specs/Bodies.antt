-- The bodies of commits (git's format of a commit), and their subjects.
use Rattle.std.specs.Prelude.{ℕ, List, [], ◌∷◌, ◌++◌, codes, Option, Some, None, if◌then◌else◌}
use Rattle.std.specs.List.{flat_map}
use Rattle.hex.specs.Hex.{encode_lower}
use Rattle.bf_oid.specs.declared.object.Oid.{Oid}
use Rattle.bf_grammar.specs.declared.command.Header.{Header}
use Rattle.bf_grammar.specs.Place.{is_end_of_line}
use Rattle.bf_grammar.specs.Lines.{front_line}

-- a line of a body
abbrev pub body_line : List ℕ → List ℕ → List ℕ
body_line word text = word ++ codes " " ++ text ++ codes "\n"

abbrev pub optional_line : List ℕ → Option (List ℕ) → List ℕ
optional_line word None = []
optional_line word (Some text) = body_line word text

-- without an author the committer stands for it
abbrev pub or_committer : Option (List ℕ) → List ℕ → List ℕ
or_committer None committer = committer
or_committer (Some author) committer = author

abbrev pub author_of : Header → List ℕ
author_of header = or_committer header.author header.committer

-- its tree, its parents, who wrote it and who committed it, its encoding, an empty line, and its message
unfoldable pub commit_body : List ℕ → List Oid → Header → List ℕ
commit_body tree parents header =
    body_line (codes "tree") (encode_lower tree)
    ++ flat_map (λ (parent : Oid). body_line (codes "parent") (encode_lower parent.0)) parents
    ++ body_line (codes "author") (author_of header)
    ++ body_line (codes "committer") header.committer
    ++ optional_line (codes "encoding") header.encoding
    ++ codes "\n"
    ++ header.message

-- the first line of a message that has a byte, without its LF
abbrev pub without_empty_lines : List ℕ → List ℕ
without_empty_lines [] = []
without_empty_lines (byte ∷ rest) = if is_end_of_line byte then without_empty_lines rest else byte ∷ rest

abbrev pub subject_of : List ℕ → List ℕ
subject_of message = front_line (without_empty_lines message)
