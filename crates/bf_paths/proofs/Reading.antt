-- What a text between quotes spells, piece by piece.
use Rattle.std.proofs.Common.{◌≡◌, ℕ, zero, suc, ◌+◌, ◌-◌, ◌<◌, ◌≤◌, List, [], ◌∷◌, ◌++◌, length, take, drop, get_or, Option, Some, None, refl, sym, ap, ◌∙◌}
use Rattle.std.proofs.Common.{append_assoc, length-drop, arith}
use Rattle.std.specs.Option.{option_map}
use Rattle.std.proofs.lemmas.List.{drop-drop, drop_all, append-nil}
use Rattle.bf_paths.specs.declared.spelling.Piece.{Piece}
use Rattle.bf_paths.specs.declared.spelling.Piece.TheVariants.{Byte, Closed, Bad}
use Rattle.bf_paths.specs.Quoting.{unquoted, behind_piece, piece_of}

-- bytes of an escape are passed over
pub unquoted-passed : (text : List ℕ) (n : ℕ) → unquoted text n ≡ unquoted (drop n text) 0
unquoted-passed text zero = refl
unquoted-passed [] (suc n) = refl
unquoted-passed (byte ∷ text) (suc n) = unquoted-passed text n

-- the bytes so far, and what the rest spells
abbrev pub followed_by : List ℕ → Option (List ℕ) → Option (List ℕ)
followed_by bytes rest = option_map (λ more. bytes ++ more) rest

followed_by-push : (bytes : List ℕ) (byte : ℕ) (rest : Option (List ℕ))
    → followed_by bytes (option_map (λ more. byte ∷ more) rest) ≡ followed_by (bytes ++ byte ∷ []) rest
followed_by-push bytes byte None = refl
followed_by-push bytes byte (Some more) = ap Some (sym (append_assoc bytes (byte ∷ []) more))

pub followed_by-nil : (rest : Option (List ℕ)) → followed_by [] rest ≡ rest
followed_by-nil None = refl
followed_by-nil (Some more) = refl

at_piece : (text : List ℕ) (piece : Piece) → 0 < length text → piece_of text ≡ piece → unquoted text 0 ≡ behind_piece piece (unquoted (drop 1 text))
at_piece [] piece h e = absurd (omega arith)
at_piece (byte ∷ text) piece h e = ap (λ p. behind_piece p (unquoted text)) e

-- a byte was read
pub unquoted_more : (text : List ℕ) (at value count : ℕ) (bytes : List ℕ) (whole : Option (List ℕ)) → at < length text → 0 < count
    → piece_of (drop at text) ≡ Byte value count → followed_by bytes (unquoted (drop at text) 0) ≡ whole
    → followed_by (bytes ++ value ∷ []) (unquoted (drop (at + count) text) 0) ≡ whole
unquoted_more text at value count bytes whole h some e so_far =
    let here : 0 < length (drop at text) = omega (arith, length-drop at text) in
    let piece = at_piece (drop at text) (Byte value count) here e in
    let passed = unquoted-passed (drop 1 (drop at text)) (count - 1) in
    let same : at + (1 + (count - 1)) ≡ at + count = omega arith in
    let behind : drop (count - 1) (drop 1 (drop at text)) ≡ drop (at + count) text =
    drop-drop (count - 1) 1 (drop at text) ∙ drop-drop (1 + (count - 1)) at text ∙ ap (λ n. drop n text) same in
    sym (followed_by-push bytes value (unquoted (drop (at + count) text) 0))
    ∙ ap (λ rest. followed_by bytes (option_map (λ more. value ∷ more) rest)) (sym (passed ∙ ap (λ t. unquoted t 0) behind))
    ∙ ap (followed_by bytes) (sym piece) ∙ so_far

-- the closing quote was read
pub unquoted_closed : (text : List ℕ) (at : ℕ) (bytes : List ℕ) (whole : Option (List ℕ)) → at < length text
    → piece_of (drop at text) ≡ Closed → followed_by bytes (unquoted (drop at text) 0) ≡ whole → whole ≡ Some bytes
unquoted_closed text at bytes whole h e so_far =
    let here : 0 < length (drop at text) = omega (arith, length-drop at text) in
    sym so_far ∙ ap (followed_by bytes) (at_piece (drop at text) Closed here e) ∙ ap Some (append-nil bytes)

-- what stands there is not in its form
pub unquoted_bad : (text : List ℕ) (at : ℕ) (bytes : List ℕ) (whole : Option (List ℕ)) → at < length text
    → piece_of (drop at text) ≡ Bad → followed_by bytes (unquoted (drop at text) 0) ≡ whole → whole ≡ None
unquoted_bad text at bytes whole h e so_far =
    let here : 0 < length (drop at text) = omega (arith, length-drop at text) in
    sym so_far ∙ ap (followed_by bytes) (at_piece (drop at text) Bad here e)

-- the text ended without a closing quote
pub unquoted_open : (text : List ℕ) (at : ℕ) (bytes : List ℕ) (whole : Option (List ℕ)) → length text ≤ at
    → followed_by bytes (unquoted (drop at text) 0) ≡ whole → whole ≡ None
unquoted_open text at bytes whole h so_far = sym so_far ∙ ap (λ t. followed_by bytes (unquoted t 0)) (drop_all at text h)
