-- Pieces of a body that are hashed one after another, and the body that they are together.
use Rattle.std.proofs.Common.{◌≡◌, ℕ, ◌+◌, ◌*◌, ◌<◌, List, [], ◌∷◌, ◌++◌, length, length-append, append_assoc, append-nil, map, get_or, take, codes, Option, Some, None}
use Rattle.std.proofs.Common.{refl, sym, ◌∙◌, ap, subst, arith}
use Rattle.std.specs.List.{flat_map}
use Rattle.std.proofs.lemmas.List.Folds.{flat_map-map}
use Rattle.std.proofs.lemmas.List.{take_more, flat_map_more}
use Rattle.hex.specs.Hex.{encode_lower}
use Rattle.bf_grammar.specs.declared.command.Header.{Header}
use Rattle.bf_oid.specs.declared.object.Oid.{Oid}
use Rattle.bf_oid.specs.declared.object.Kind.{Kind}
use Rattle.bf_oid.specs.declared.object.Kind.TheVariants as kind
use Rattle.bf_oid.specs.Hashing.{Hashes}
use Rattle.bf_oid.specs.Object.{name_of}
use Rattle.bf_commits.specs.declared.body.Body.{Body}
use Rattle.bf_history.specs.Bodies.{body_line, optional_line, author_of, commit_body}
use Rattle.bf_commits.specs.Naming.{Adds, IsBody, encoding_line, header_lines, name_at, parent_lines}

-- what is added one after the other is added together
pub adds_then : (a b c : Body) (x y : List ℕ) → Adds a b x → Adds b c y → Adds a c (x ++ y)
adds_then a b c x y first second size text is =
    subst (λ (bytes : List ℕ). IsBody c size bytes) (append_assoc text x y) (second size (text ++ x) (first size text is))

-- a body of which all is hashed has its name
pub finished : (body : Body) (text : List ℕ) (oid : Oid) → IsBody body (length text) (text ++ []) → body.held.items ≡ []
    → ((kind : Kind) (front : List ℕ) → Hashes body.hasher kind (length front) front → oid.0 ≡ name_of kind front) → oid.0 ≡ name_of kind.Commit text
finished body text oid is none named =
    let same : is.front ≡ text = sym (append-nil is.front) ∙ ap (λ (held : List ℕ). is.front ++ held) (sym none) ∙ sym is.whole ∙ append-nil text in
    named kind.Commit text (subst (Hashes body.hasher kind.Commit (length text)) same is.hashed)

-- ends of lines that stand before each line, and not behind it
module _ (end lines turned rest : List ℕ) (before : end ++ (lines ++ rest) ≡ turned ++ (end ++ rest)) where
  line_turned : (text : List ℕ) → ((text ++ end) ++ lines) ++ rest ≡ (text ++ turned) ++ (end ++ rest)
  line_turned text = simp append_assoc (ap (λ (bytes : List ℕ). text ++ bytes) before)

lines_turned : (names : List Oid) (parents : List ℕ) (rest : List ℕ)
    → codes "\n" ++ (flat_map (λ (place : ℕ). body_line (codes "parent") (encode_lower (name_at names place).0)) parents ++ rest) ≡ parent_lines names parents
    ++ (codes "\n" ++ rest)
lines_turned names [] rest = refl
lines_turned names (place ∷ parents) rest =
    let lines = flat_map (λ (place : ℕ). body_line (codes "parent") (encode_lower (name_at names place).0)) parents in
    ap (λ (bytes : List ℕ). codes "\nparent " ++ bytes)
    (line_turned (codes "\n") lines (parent_lines names parents) rest (lines_turned names parents rest) (encode_lower (name_at names place).0))

encoding_turned : (encoding : Option (List ℕ)) (rest : List ℕ)
    → codes "\n" ++ (optional_line (codes "encoding") encoding ++ rest) ≡ encoding_line encoding ++ (codes "\n" ++ rest)
encoding_turned None rest = refl
encoding_turned (Some text) rest = ap (λ (bytes : List ℕ). codes "\nencoding " ++ bytes) (append_assoc text (codes "\n") rest)

module _ (end lines optional turned encoding : List ℕ) (before : (rest : List ℕ) → end ++ (lines ++ rest) ≡ turned ++ (end ++ rest))
    (ahead : (rest : List ℕ) → end ++ (optional ++ rest) ≡ encoding ++ (end ++ rest)) where
  all_turned : (tree author committer message : List ℕ)
      → tree ++ turned ++ ((end ++ author) ++ (end ++ committer) ++ encoding ++ ((end ++ end) ++ message)) ≡ (tree ++ end) ++ lines ++ (author ++ end)
      ++ (committer ++ end) ++ optional ++ end ++ message
  all_turned tree author committer message =
      simp append_assoc (ap (λ (bytes : List ℕ). tree ++ bytes)
      (ap (λ (bytes : List ℕ). turned ++ (end ++ (author ++ (end ++ (committer ++ bytes))))) (sym (ahead (end ++ message)))
      ∙ sym (before (author ++ (end ++ (committer ++ (end ++ (optional ++ (end ++ message)))))))))

-- the pieces of a body are the body
pub pieces_are : (tree : List ℕ) (names : List Oid) (parents : List ℕ) (header : Header)
    → (codes "tree " ++ encode_lower tree) ++ parent_lines names parents ++ header_lines header ≡ commit_body tree (map (name_at names) parents) header
unfolding commit_body
pieces_are tree names parents header =
    let line = λ (parent : Oid). body_line (codes "parent") (encode_lower parent.0) in
    let lines = flat_map line (map (name_at names) parents) in
    let optional = optional_line (codes "encoding") header.encoding in
    all_turned (codes "\n") lines optional (parent_lines names parents) (encoding_line header.encoding)
    (λ rest. ap (λ (bytes : List ℕ). codes "\n" ++ (bytes ++ rest)) (flat_map-map line (name_at names) parents) ∙ lines_turned names parents rest)
    (encoding_turned header.encoding)
    (codes "tree " ++ encode_lower tree) (codes "author " ++ author_of header) (codes "committer " ++ header.committer) header.message

-- one line more
lines_more : (names : List Oid) (parents : List ℕ) (n : ℕ) → n < length parents
    → parent_lines names (take (n + 1) parents) ≡ parent_lines names (take n parents)
    ++ (codes "\nparent " ++ encode_lower (name_at names (get_or parents n 0)).0)
lines_more names parents n there =
    ap (parent_lines names) (take_more parents n 0 there)
    ∙ sym (flat_map_more (λ (place : ℕ). codes "\nparent " ++ encode_lower (name_at names place).0) [] (take n parents) (get_or parents n 0))

module _ (names : List Oid) (parents : List ℕ) (n : ℕ) (there : n < length parents) where
  pub adds_more : (a b c : Body) → Adds a b (parent_lines names (take n parents))
      → Adds b c (codes "\nparent " ++ encode_lower (name_at names (get_or parents n 0)).0) → Adds a c (parent_lines names (take (n + 1) parents))
  adds_more a b c before line =
      subst (Adds a c) (sym (lines_more names parents n there))
      (adds_then a b c (parent_lines names (take n parents)) (codes "\nparent " ++ encode_lower (name_at names (get_or parents n 0)).0) before line)

  pub longer : length (parent_lines names (take n parents)) ≡ 48 * n → length (encode_lower (name_at names (get_or parents n 0)).0) ≡ 40
      → length (parent_lines names (take (n + 1) parents)) ≡ 48 * (n + 1)
  longer before digits =
      ap length (lines_more names parents n there)
      ∙ length-append (parent_lines names (take n parents)) (codes "\nparent " ++ encode_lower (name_at names (get_or parents n 0)).0)
      ∙ omega (arith, before, digits)

-- how long the body is
pub pieces_long : (tree : List ℕ) (names : List Oid) (parents : List ℕ) (header : Header) → length (encode_lower tree) ≡ 40
    → length (parent_lines names parents) ≡ 48 * length parents
    → length ((codes "tree " ++ encode_lower tree) ++ parent_lines names parents ++ header_lines header) ≡ 45 + 48 * length parents + length
    (header_lines header)
pieces_long tree names parents header digits lines =
    length-append ((codes "tree " ++ encode_lower tree) ++ parent_lines names parents) (header_lines header)
    ∙ ap (λ (n : ℕ). n + length (header_lines header)) (length-append (codes "tree " ++ encode_lower tree) (parent_lines names parents))
    ∙ omega (arith, digits, lines)
