-- Lemmas on reading an answer line by line.
use Rattle.std.proofs.Common.{◌≡◌, ℕ, ◌+◌, true, false, List, [], ◌∷◌, codes, Option, Some, None, Result, Err, refl, ap, ◌∙◌}
use Rattle.std.proofs.lemmas.Bool.{cond-true, cond-false}
use Rattle.bf_oid.specs.declared.object.Oid.{Oid}
use Rattle.bf_cert.specs.declared.cert.Cert.{Cert}
use Rattle.bf_cert.specs.Lines.{lines_of}
use Rattle.bf_cert.specs.Reading.{go_on}
use Rattle.bf_claims.specs.declared.head.Head.{Head}
use Rattle.bf_claims.specs.Heads.{take_line}
use Rattle.bf_claims.specs.Kinds.{is_text}
use Rattle.bf_claims.specs.Reading.{read_behind, read_head}

abbrev on : List Oid → List (List ℕ) → ℕ → List (List ℕ) → Option Head → Result Cert ℕ
on names graph before lines taken = go_on (before + 1) taken (λ next. read_head names graph (before + 1) next lines)

-- the first line of a certificate
pub at_certificate : (names : List Oid) (graph : List (List ℕ)) (before : ℕ) (head : Head) (line : List ℕ) (lines : List (List ℕ))
    → is_text line (codes "certificate 1\n") ≡ true → read_head names graph before head (line ∷ lines) ≡ read_behind names graph before head (line ∷ lines)
unfolding read_head
at_certificate names graph before head line lines is =
    cond-true (is_text line (codes "certificate 1\n")) (read_behind names graph before head (line ∷ lines)) (on names graph before lines (take_line names head line)) is

taken : (names : List Oid) (graph : List (List ℕ)) (before : ℕ) (head : Head) (line : List ℕ) (lines : List (List ℕ))
    → is_text line (codes "certificate 1\n") ≡ false → read_head names graph before head (line ∷ lines) ≡ on names graph before lines (take_line names head line)
unfolding read_head
taken names graph before head line lines not =
    cond-false (is_text line (codes "certificate 1\n")) (read_behind names graph before head (line ∷ lines)) (on names graph before lines (take_line names head line)) not

-- any other line
pub past_line : (names : List Oid) (graph : List (List ℕ)) (before : ℕ) (head next : Head) (line : List ℕ) (lines : List (List ℕ))
    → is_text line (codes "certificate 1\n") ≡ false → take_line names head line ≡ Some next
    → read_head names graph before head (line ∷ lines) ≡ read_head names graph (before + 1) next lines
past_line names graph before head next line lines not is =
    taken names graph before head line lines not ∙ ap (on names graph before lines) is

-- one that may not stand there
pub at_fault : (names : List Oid) (graph : List (List ℕ)) (before : ℕ) (head : Head) (line : List ℕ) (lines : List (List ℕ))
    → is_text line (codes "certificate 1\n") ≡ false → take_line names head line ≡ None
    → read_head names graph before head (line ∷ lines) ≡ Err (before + 1)
at_fault names graph before head line lines not is =
    taken names graph before head line lines not ∙ ap (on names graph before lines) is

-- no line
pub no_certificate : (names : List Oid) (graph : List (List ℕ)) (before : ℕ) (head : Head) → read_head names graph before head (lines_of []) ≡ Err (before + 1)
unfolding read_head lines_of
no_certificate names graph before head = refl
