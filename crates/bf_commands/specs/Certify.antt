-- The command `certify`: a search whose certificate is printed in place of its log and its answer.
use Rattle.std.specs.Prelude.{◌≡◌, ℕ, List, length, Option}
use Rattle.bf_cert.specs.declared.cert.Cert.{Cert}
use Rattle.bf_cert.specs.Certificates.{Holds, IsWithin}
use Rattle.bf_cert.specs.Lines.{cert_text}
use Rattle.bf_cert.specs.Made.{IsMade}
use Rattle.bf_history.specs.Meanings.{History}
use Rattle.bf_search.specs.declared.asks.Ask.TheVariants.{FirstBad}
use Rattle.bf_search.specs.Run.{End, Answered, Run}
use Rattle.bf_search.specs.State.{Search}
use Rattle.bf_words.specs.declared.request.Request.{Request}
use Rattle.bf_words.specs.declared.verb.Verb.{Verb}
use Rattle.bf_words.specs.declared.verb.Verb.TheVariants.{Simulate, Run as RunVerb}
use Rattle.bf_output.specs.declared.status.Status.TheVariants as status
use Rattle.bf_output.specs.Beginning.{Begun}
use Rattle.bf_output.specs.Output.{Given, IsSearchTold}
use Rattle.bf_output.specs.Simulate.{plan_of, run_over}
use Rattle.bf_output.specs.Shown.{TesterShown}
use Rattle.bf_output.specs.Tested.{IsTestedAs, told_of_run}
use Rattle.bf_output.specs.Told.{Told}
use Rattle.bf_commands.specs.Orders.{request_to_certify}

-- ---- what is told of a run

-- the certificate that is made of a search: it is of commits, and holds
pub record IsCertOf (history : History) (s : Search) (told : Told) : Type 0 where
  pub cert : Cert
  pub made : IsMade history.parents s cert
  pub holds : Holds history.parents cert
  pub within : IsWithin (length history.parents) cert
  pub tells : told ≡ record { status = status.Done; text = cert_text history.names cert }

-- a run that ended with the first bad commit is told by the certificate of the search that it reached, and each other one as ever
abbrev pub IsCertTold : History → Begun → Run → End → Told → Type 0
IsCertTold history first run (Answered (FirstBad p)) told = IsCertOf history run.search told
IsCertTold history first run other told = told ≡ told_of_run history first run

abbrev pub IsRunCertified : History → Begun → Run → Told → Type 0
IsRunCertified history first run told = IsCertTold history first run run.end told

-- ---- over a plan, or by tests

abbrev pub IsCertified : Verb → Request → List (List ℕ) → TesterShown → History → Begun → Told → Type 0
IsCertified Simulate request words tested history first told = IsRunCertified history first (run_over history first (plan_of request words)) told
IsCertified RunVerb request words tested history first told = IsTestedAs (λ legs. IsRunCertified history first) request tested history first told
IsCertified other request words tested history first told = ⊥

-- ---- from the words on

abbrev pub IsCertifyOutput : Given → Option (List ℕ) → Told → Type 0
IsCertifyOutput given stream told = IsSearchTold (λ request. IsCertified request.verb request given.words given.tested) (request_to_certify given.words) given stream told
