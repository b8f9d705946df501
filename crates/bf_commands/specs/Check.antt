-- The command `check`: whether a file is a certificate that holds.
use Rattle.std.specs.Prelude.{ℕ, List, ◌++◌, codes, Result, Ok, Err}
use Rattle.std.specs.Fmt.{decimal}
use Rattle.bf_cert.specs.declared.cert.Cert.{Cert}
use Rattle.bf_cert.specs.Lines.{digits_of}
use Rattle.bf_cert.specs.Reading.{read_text}
use Rattle.bf_history.specs.Meanings.{History}
use Rattle.bf_terms.specs.Texts.{text_line}
use Rattle.bf_output.specs.declared.status.Status.TheVariants as status
use Rattle.bf_output.specs.Told.{Told}

unfoldable pub cert_holds : History → ℕ → Told
cert_holds history bad = record {
  status = status.Done;
  text = text_line (codes "certificate holds for " ++ digits_of history.names bad);
}

unfoldable pub cert_refused : ℕ → Told
cert_refused line = record {
  status = status.CertRefused line;
  text = text_line (codes "certificate fails at line " ++ decimal line);
}

-- the bad commit of a certificate that was read, or the first line at fault
abbrev pub told_of_read : History → Result Cert ℕ → Told
told_of_read history (Ok cert) = cert_holds history cert.bad
told_of_read history (Err line) = cert_refused line

-- what is told of a text: it is read line by line
abbrev pub checked : History → List ℕ → Told
checked history bytes = told_of_read history (read_text history.names history.parents bytes)
