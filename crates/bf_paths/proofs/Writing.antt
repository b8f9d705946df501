-- A path is read back from its quoted text.
use Rattle.std.proofs.Common.{◌≡◌, ℕ, zero, suc, ◌+◌, ◌-◌, ◌*◌, ◌/◌, ◌%◌, ◌<◌, ◌≤◌, Bool, true, false, ◌&&◌, ◌||◌, ◌==◌, ltb, leb, eqb, List, [], ◌∷◌, ◌++◌}
use Rattle.std.proofs.Common.{length, Option, Some, None, refl, sym, ap, ◌∙◌, append_assoc, cond, arith, rules, ◌⊎◌, inl, inr}
use Rattle.std.specs.List.{flat_map, list_all}
use Rattle.std.specs.Option.{option_map, option_and_then}
use Rattle.std.proofs.lemmas.Bool.{and_parts, ltb-true, cases_Bool, le-leb, lt-leb, ne_eqb, cond-true, cond-false}
use Rattle.std.proofs.lemmas.Bool.Decides.{nat_tests}
use Rattle.bf_paths.specs.declared.spelling.Piece.{Piece}
use Rattle.bf_paths.specs.declared.spelling.Piece.TheVariants.{Byte, Closed, Bad}
use Rattle.bf_paths.specs.Components.{is_component, is_path, path_text, path_of}
use Rattle.bf_paths.specs.Quoting.{letter_value, letter_of, is_octal, octal_number, octal_piece, letter_piece, escape_piece, piece_of, unquoted, behind_piece}
use Rattle.bf_paths.specs.Quoting.{plain, path_value, octal_digits, spelled, spelled_by, quoted}
use Rattle.bf_paths.proofs.Splitting.{are_bytes, are_bytes-path_text, path_of-path_text}

-- the letter of a byte stands for it
letter_value-letter_of : (byte letter : ℕ) → letter_of byte ≡ Some letter → letter_value letter ≡ Some byte
unfolding letter_value letter_of
letter_value-letter_of byte letter h = grind (arith, nat_tests)

octal_first : (byte : ℕ) → byte < 256 → letter_value (48 + byte / 64) ≡ None
unfolding letter_value
octal_first byte h =
    let low : byte / 64 < 4 = omega arith in
    grind (arith, nat_tests)

octal_back : (byte : ℕ) → byte < 256 → octal_number (48 + byte / 64) (48 + byte / 8 % 8) (48 + byte % 8) ≡ byte
octal_back byte h = omega arith

piece-octal : (byte : ℕ) (rest : List ℕ) → byte < 256 → piece_of (92 ∷ octal_digits byte ++ rest) ≡ Byte byte 4
unfolding piece_of escape_piece octal_piece
piece-octal byte rest h =
    let first = octal_first byte h in
    let back = octal_back byte h in
    let low : byte / 64 < 4 = omega arith in
    let middle : byte / 8 % 8 < 8 = omega arith in
    let last : byte % 8 < 8 = omega arith in
    rw first (rw back (grind (arith, nat_tests)))

piece-letter : (byte letter : ℕ) (rest : List ℕ) → letter_of byte ≡ Some letter → piece_of (92 ∷ letter ∷ rest) ≡ Byte byte 2
unfolding piece_of escape_piece
piece-letter byte letter rest h = ap (λ o. letter_piece o (letter ∷ rest)) (letter_value-letter_of byte letter h)

piece-plain : (byte : ℕ) (rest : List ℕ) → letter_of byte ≡ None → piece_of (byte ∷ rest) ≡ Byte byte 1
unfolding piece_of letter_of
piece-plain byte rest h = grind (arith, nat_tests)

-- a spelling is read as its byte
reads_by : (byte : ℕ) (o : Option ℕ) (rest : List ℕ) → letter_of byte ≡ o → byte < 256
    → unquoted (spelled_by o byte ++ rest) 0 ≡ option_map (λ bytes. byte ∷ bytes) (unquoted rest 0)
reads_by byte (Some letter) rest e h = ap (λ p. behind_piece p (unquoted (letter ∷ rest))) (piece-letter byte letter rest e)
reads_by byte None rest e h =
    elim (cases_Bool (ltb byte 32 || leb 127 byte)) [
      | inl t ↦ rw t (ap (λ p. behind_piece p (unquoted (octal_digits byte ++ rest))) (piece-octal byte rest h))
      | inr f ↦ rw f (ap (λ p. behind_piece p (unquoted rest)) (piece-plain byte rest e))
    ]

reads : (byte : ℕ) (rest : List ℕ) → byte < 256 → unquoted (spelled byte ++ rest) 0 ≡ option_map (λ bytes. byte ∷ bytes) (unquoted rest 0)
unfolding spelled
reads byte rest h = reads_by byte (letter_of byte) rest refl h

reads_end : unquoted (34 ∷ []) 0 ≡ Some []
unfolding piece_of
reads_end = refl

reads_all : (bytes : List ℕ) → are_bytes bytes ≡ true → unquoted (flat_map spelled bytes ++ 34 ∷ []) 0 ≡ Some bytes
reads_all [] h = reads_end
reads_all (byte ∷ bytes) h =
    ap (λ t. unquoted t 0) (append_assoc (spelled byte) (flat_map spelled bytes) (34 ∷ []))
    ∙ reads byte (flat_map spelled bytes ++ 34 ∷ []) (ltb-true byte 256 (and_parts _ _ h).0)
    ∙ ap (option_map (λ more. byte ∷ more)) (reads_all bytes (and_parts _ _ h).1)

pub path_value-quoted : (p : List (List ℕ)) → is_path p ≡ true → path_value (quoted p) ≡ Some p
unfolding path_value quoted
path_value-quoted p h =
    ap (option_and_then path_of) (reads_all (path_text p) (are_bytes-path_text p (and_parts _ _ h).1)) ∙ path_of-path_text p h
