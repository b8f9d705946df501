-- Reading an answer line by line.
use Rattle.std.specs.Prelude.{ℕ, ◌+◌, ◌≤◌, nat_lt, if◌then◌else◌, List, [], ◌∷◌, length, take, drop, codes, Option, Some, None, Result, Ok, Err}
use Rattle.bf_oid.specs.declared.object.Oid.{Oid}
use Rattle.bf_reading.specs.Reading.{behind}
use Rattle.bf_cert.specs.declared.cert.Cert.{Cert}
use Rattle.bf_cert.specs.declared.fault.CertFault.{CertFault}
use Rattle.bf_cert.specs.declared.fault.CertFault.TheVariants as fault
use Rattle.bf_cert.specs.Lines.{lines_of}
use Rattle.bf_cert.specs.Reading.{go_on, read_text, read_version}
use Rattle.bf_claims.specs.declared.head.Head.{Head}
use Rattle.bf_claims.specs.Heads.{judged, no_head, take_line}
use Rattle.bf_claims.specs.Kinds.{is_last, is_text}
use Rattle.bf_claims.specs.Sums.{is_sum}

-- a certificate that was read behind so many lines, beside what these claim
abbrev pub beside : Head → ℕ → Result Cert ℕ → Result Cert ℕ
beside head before (Ok cert) = judged head before cert
beside head before (Err line) = Err (before + line)

-- the certificate that begins behind so many lines, where it may stand there
unfoldable pub read_behind : List Oid → List (List ℕ) → ℕ → Head → List (List ℕ) → Result Cert ℕ
read_behind names graph before head lines =
    if is_last head.rank then beside head before (read_version names graph lines) else Err (before + 1)

-- further lines behind so many, up to the certificate and with it
unfoldable pub read_head : List Oid → List (List ℕ) → ℕ → Head → List (List ℕ) → Result Cert ℕ
read_head names graph before head [] = Err (before + 1)
read_head names graph before head (line ∷ lines) =
    if is_text line (codes "certificate 1\n") then read_behind names graph before head (line ∷ lines)
    else go_on (before + 1) (take_line names head line) (λ next. read_head names graph (before + 1) next lines)

-- the second line has the sum of all lines behind it
unfoldable pub read_summed : List Oid → List (List ℕ) → List ℕ → Result Cert ℕ
read_summed names graph text =
    if nat_lt (length text) 69 then Err 2
    else if is_sum (take 69 text) (drop 69 text)
    then read_head names graph 2 (no_head (length graph)) (lines_of (drop 69 text))
    else Err 2

-- an answer from its second line on, or else a certificate
abbrev pub read_either : List Oid → List (List ℕ) → Option (List ℕ) → List ℕ → Result Cert ℕ
read_either names graph (Some text) bytes = read_summed names graph text
read_either names graph None bytes = read_text names graph bytes

-- The certificate of a file, or the number of the line at which its reading stops. An answer's certificate is read to its end before
-- it is laid beside what stands above it.
abbrev pub read_file : List Oid → List (List ℕ) → List ℕ → Result Cert ℕ
read_file names graph bytes = read_either names graph (behind (codes "farmdawn-answer 1\n") bytes) bytes

-- ---- how a call answers

-- a line at fault has at most this number
abbrev pub IsLineUpTo : ℕ → CertFault → Type 0
IsLineUpTo most (fault.Line line) = line ≤ most
IsLineUpTo most fault.NoMemory = Unit {0}
