-- The name of a commit, and the pieces in which its body is hashed.
use Rattle.std.specs.Prelude.{◌≡◌, ℕ, ◌+◌, ◌*◌, ◌≤◌, ◌^◌, MatchOption, List, [], ◌++◌, length, map, codes, Option, Some, None, unwrap_or}
use Rattle.std.specs.List.{slice_index_or, flat_map}
use Rattle.hex.specs.Hex.{encode_lower}
use Rattle.bf_grammar.specs.declared.command.Header.{Header}
use Rattle.bf_oid.specs.declared.object.Kind.TheVariants as kind
use Rattle.bf_oid.specs.declared.object.Oid.{Oid}
use Rattle.bf_oid.specs.Hashing.{Hashes}
use Rattle.bf_oid.specs.Object.{name_of}
use Rattle.bf_commits.specs.declared.body.Body.{Body}
use Rattle.bf_history.specs.Bodies.{author_of, commit_body}
use Rattle.bf_history.specs.Meanings.{original_of}

-- the name of the commit at a place
abbrev pub name_at : List Oid → ℕ → Oid
name_at names place = slice_index_or names place (record { 0 = [] })

-- the name that git gives the commit of a tree whose parents are at these places of the names
abbrev pub hashed_name : List ℕ → List ℕ → List Oid → Header → Oid
hashed_name tree parents names header = record { 0 = name_of kind.Commit (commit_body tree (map (name_at names) parents) header) }

-- the name of a commit: the one that it had before it was exported, where that is kept
abbrev pub commit_name : List ℕ → List ℕ → List Oid → Header → Oid
commit_name tree parents names header = unwrap_or (original_of header) (hashed_name tree parents names header)

-- the bytes of a body so far: those that were hashed, and behind them those that are held
pub record IsBody (body : Body) (size : ℕ) (text : List ℕ) : Type 0 where
  pub front : List ℕ
  pub hashed : Hashes body.hasher kind.Commit size front
  pub whole : text ≡ front ++ body.held.items

-- between two states these bytes joined the body
abbrev pub Adds : Body → Body → List ℕ → Type 0
Adds before after bytes = (size : ℕ) (text : List ℕ) → IsBody before size text → IsBody after size (text ++ bytes)

-- the lines of the parents at these places, each behind the LF of the line before it
abbrev pub parent_lines : List Oid → List ℕ → List ℕ
parent_lines names parents = flat_map (λ place. codes "\nparent " ++ encode_lower (name_at names place).0) parents

-- a line that may be missing, behind the LF of the line before it
abbrev pub encoding_line : Option (List ℕ) → List ℕ
encoding_line None = []
encoding_line (Some text) = codes "\nencoding " ++ text

-- the lines of a header, each behind the LF of the line before it, an empty line and the message
abbrev pub header_lines : Header → List ℕ
header_lines header =
    (codes "\nauthor " ++ author_of header)
    ++ (codes "\ncommitter " ++ header.committer)
    ++ encoding_line header.encoding
    ++ (codes "\n\n" ++ header.message)

-- the length of the body of a commit with so many parents; a name has 40 digits
abbrev pub body_length : ℕ → Header → ℕ
body_length parents header = 45 + 48 * parents + length (header_lines header)

-- a length, where a u64 holds it
abbrev pub IsLength : Option ℕ → ℕ → Type 0
IsLength told length = MatchOption told (2 ^ 64 ≤ length) (λ bytes. bytes ≡ length)
