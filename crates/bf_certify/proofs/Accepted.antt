-- A certificate that is told is accepted, and of each text what is told is right.
use Rattle.std.proofs.Common.{◌≡◌, ◌⊎◌, inl, inr, ℕ, List, codes, length, Option, None, Result, Ok, Err, refl, sym, ap, ◌∙◌, subst}
use Rattle.bf_cert.specs.declared.cert.Cert.{Cert}
use Rattle.bf_cert.specs.declared.fault.CertFault.TheVariants.{Line as LineFails}
use Rattle.bf_cert.specs.Certificates.{IsWithin}
use Rattle.bf_cert.specs.Lines.{AreNames, cert_text}
use Rattle.bf_cert.specs.Reading.{read_text}
use Rattle.bf_cert.proofs.Saying.{told_text, written_reads}
use Rattle.bf_cert.proofs.Telling.{read_told, refusal_told}
use Rattle.bf_certify.specs.Checking.{file_told}
use Rattle.bf_certify.specs.Laws.{AreAccepted, AreCertificatesTold, AreChecked, AreFilesTold, IsAccepted, IsAcceptedFor, IsHeld, IsRefused, IsStopped}
use Rattle.bf_claims.proofs.Holding.{file_holds}
use Rattle.bf_claims.specs.Reading.{read_either, read_file}
use Rattle.bf_commands.specs.Certify.{IsCertOf, IsCertTold}
use Rattle.bf_commands.specs.Check.{told_of_read}
use Rattle.bf_history.specs.Meanings.{History}
use Rattle.bf_output.specs.Told.{Told}
use Rattle.bf_oid.specs.declared.object.Oid.{Oid}
use Rattle.bf_reading.specs.Reading.{behind}
use Rattle.bf_search.specs.Run.{End}
use Rattle.bf_search.specs.State.{Search}

-- a file that does not begin as an answer is read as a certificate
pub certificates_told : AreCertificatesTold
certificates_told history bytes none =
    ap (λ (answer : Option (List ℕ)). told_of_read history (read_either history.names history.parents answer bytes)) none

-- and so is the text of a certificate
no_answer : (names : List Oid) (cert : Cert) → behind (codes "farmdawn-answer 1\n") (cert_text names cert) ≡ None
unfolding behind cert_text
no_answer names cert = refl

accepted_of : (history : History) (s : Search) (told : Told) → AreNames history.names → length history.names ≡ length history.parents
    → IsCertOf history s told → IsAcceptedFor history s told
accepted_of history s told names long is = record {
  done = ap (λ (t : Told). t.status) is.tells;
  place = is.cert.bad;
  bad = is.made.bad;
  accepted =
      ap (λ (t : Told). file_told history t.text) is.tells
      ∙ certificates_told history (cert_text history.names is.cert) (no_answer history.names is.cert)
      ∙ ap (told_of_read history)
      (written_reads history.names history.parents is.cert names (subst (λ (n : ℕ). IsWithin n is.cert) (sym long) is.within) is.holds);
}

pub accepted : AreAccepted
accepted history first run place told names long found is =
    accepted_of history run.search told names long (subst (λ (end : End). IsCertTold history first run end told) found is)

pub are_checked : AreChecked
are_checked history bytes = by (read_text history.names history.parents bytes) refl
  where
    by : (read : Result Cert ℕ) → read_text history.names history.parents bytes ≡ read
        → IsAccepted history bytes (told_of_read history read) ⊎ IsRefused history bytes (told_of_read history read)
    by (Ok cert) is =
        let told = read_told history.names history.parents bytes cert is in
        inl (record {
          cert = cert;
          text = told_text history.names history.parents bytes cert told;
          said = told.said;
          holds = told.holds;
          tells = refl;
        })
    by (Err n) is = inr (record {
      line = n;
      fails = refusal_told history.names history.parents bytes (LineFails n) is;
      tells = refl;
    })

pub files_told : AreFilesTold
files_told history bytes = by (read_file history.names history.parents bytes) refl
  where
    by : (read : Result Cert ℕ) → read_file history.names history.parents bytes ≡ read
        → IsHeld history bytes (told_of_read history read) ⊎ IsStopped history bytes (told_of_read history read)
    by (Ok cert) is = inl (record { cert = cert; read = is; holds = file_holds history.names history.parents bytes cert is; tells = refl })
    by (Err n) is = inr (record { line = n; read = is; tells = refl })
