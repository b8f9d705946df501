-- What holds of the certificates that are told, and of what is told of a certificate.
use Rattle.std.specs.Prelude.{◌≡◌, ◌⊎◌, ℕ, List, codes, length, Some, None, Ok, Err}
use Rattle.bf_cert.specs.declared.cert.Cert.{Cert}
use Rattle.bf_cert.specs.Certificates.{Holds}
use Rattle.bf_cert.specs.Faults.{AreSaid, IsFirstFault}
use Rattle.bf_cert.specs.Lines.{AreNames, cert_lines, cert_text, lines_of}
use Rattle.bf_certify.specs.Checking.{file_told}
use Rattle.bf_commands.specs.Certify.{IsRunCertified}
use Rattle.bf_claims.specs.Reading.{read_file}
use Rattle.bf_commands.specs.Check.{cert_holds, cert_refused, checked}
use Rattle.bf_history.specs.Meanings.{History}
use Rattle.bf_output.specs.Beginning.{Begun}
use Rattle.bf_output.specs.Told.{Told}
use Rattle.bf_reading.specs.Reading.{behind}
use Rattle.bf_output.specs.declared.status.Status.TheVariants.{Done}
use Rattle.bf_search.specs.declared.asks.Ask.TheVariants.{FirstBad}
use Rattle.bf_search.specs.Run.{Answered, Run}
use Rattle.bf_search.specs.State.{Search}

-- ---- what `check` tells of a text

-- the text is that of a certificate that holds, which its lines say, and whose bad commit is named
pub record IsAccepted (history : History) (bytes : List ℕ) (told : Told) : Type 0 where
  pub cert : Cert
  pub text : bytes ≡ cert_text history.names cert
  pub said : AreSaid history.names (lines_of bytes) (cert_lines cert)
  pub holds : Holds history.parents cert
  pub tells : told ≡ cert_holds history cert.bad

-- the first line is named with which it is the beginning of none
pub record IsRefused (history : History) (bytes : List ℕ) (told : Told) : Type 0 where
  pub line : ℕ
  pub fails : IsFirstFault history.names history.parents (lines_of bytes) line
  pub tells : told ≡ cert_refused line

-- of each text one of the two is told
abbrev pub AreChecked : Type 0
AreChecked = (history : History) (bytes : List ℕ) → IsAccepted history bytes (checked history bytes) ⊎ IsRefused history bytes (checked history bytes)

-- ---- what `check` tells of a file

-- the certificate that is read of it holds, and its bad commit is named
pub record IsHeld (history : History) (bytes : List ℕ) (told : Told) : Type 0 where
  pub cert : Cert
  pub read : read_file history.names history.parents bytes ≡ Ok cert
  pub holds : Holds history.parents cert
  pub tells : told ≡ cert_holds history cert.bad

-- the line is named at which its reading stops
pub record IsStopped (history : History) (bytes : List ℕ) (told : Told) : Type 0 where
  pub line : ℕ
  pub read : read_file history.names history.parents bytes ≡ Err line
  pub tells : told ≡ cert_refused line

-- of each file one of the two is told
abbrev pub AreFilesTold : Type 0
AreFilesTold =
    (history : History) (bytes : List ℕ) → IsHeld history bytes (file_told history bytes) ⊎ IsStopped history bytes (file_told history bytes)

-- what does not begin as an answer is told of as a certificate
abbrev pub AreCertificatesTold : Type 0
AreCertificatesTold =
    (history : History) (bytes : List ℕ) → behind (codes "farmdawn-answer 1\n") bytes ≡ None → file_told history bytes ≡ checked history bytes

-- ---- what `certify` tells

-- `check` tells of the text that it is a certificate which holds for the bad commit of the search
pub record IsAcceptedFor (history : History) (s : Search) (told : Told) : Type 0 where
  pub done : told.status ≡ Done
  pub place : ℕ
  pub bad : s.bad ≡ Some place
  pub accepted : file_told history told.text ≡ cert_holds history place

-- Where a run ended with the first bad commit, `check` over the same history, whose names lead back to its commits, accepts what
-- `certify` tells of it.
abbrev pub AreAccepted : Type 0
AreAccepted =
    (history : History) (first : Begun) (run : Run) (place : ℕ) (told : Told)
    → AreNames history.names
    → length history.names ≡ length history.parents
    → run.end ≡ Answered (FirstBad place)
    → IsRunCertified history first run told
    → IsAcceptedFor history run.search told
