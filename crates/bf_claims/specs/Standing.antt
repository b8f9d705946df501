-- What stands in an answer that is taken.
use Rattle.std.specs.Prelude.{◌≡◌, ℕ, ◌<◌, ◌==◌, Bool, true, false, List, ◌++◌, length, map, codes, Option, Some}
use Rattle.std.specs.List.{list_any}
use Rattle.bf_oid.specs.declared.object.Oid.{Oid}
use Rattle.bf_search.specs.Bases.{has_place}
use Rattle.bf_cert.specs.declared.cert.Cert.{Cert}
use Rattle.bf_cert.specs.Certificates.{Holds}
use Rattle.bf_cert.specs.Lines.{◌>>=◌, cert_lines, line_text, lines_of}
use Rattle.bf_claims.specs.declared.claim.Claim.{Claim}
use Rattle.bf_claims.specs.declared.claim.Claim.TheVariants.{Bad, Good}
use Rattle.bf_claims.specs.Claims.{claim_of}
use Rattle.bf_claims.specs.Lines.{kind_in, without_end}
use Rattle.bf_claims.specs.Sums.{sum_line}

-- what a line claims; none where it is in no form
abbrev pub claim_in : List Oid → List ℕ → Option Claim
claim_in names line = without_end line >>= kind_in >>= λ split. claim_of names split.0 split.1

-- whether a claim is that a commit was bad, or good
abbrev pub is_bad : ℕ → Option Claim → Bool
is_bad p (Some (Bad q)) = q == p
is_bad p other = false

abbrev pub is_good : ℕ → Option Claim → Bool
is_good p (Some (Good q)) = q == p
is_good p other = false

-- whether one of these lines claims so
abbrev pub claims_bad : List Oid → List (List ℕ) → ℕ → Bool
claims_bad names lines p = list_any (λ line. is_bad p (claim_in names line)) lines

abbrev pub claims_good : List Oid → List (List ℕ) → ℕ → Bool
claims_good names lines p = list_any (λ line. is_good p (claim_in names line)) lines

-- Below its sum stand the lines of a head and those of a certificate that holds. The head claims that the bad commit of the certificate
-- was bad, and the good ones are those that it claims to be good.
pub record IsAnswer (names : List Oid) (graph : List (List ℕ)) (bytes : List ℕ) (cert : Cert) : Type 0 where
  pub below : List ℕ
  pub text : bytes ≡ codes "farmdawn-answer 1\n" ++ (sum_line below ++ below)
  pub head : List (List ℕ)
  pub lines : lines_of below ≡ head ++ map (line_text names) (cert_lines cert)
  pub bad : claims_bad names head cert.bad ≡ true
  pub goods : (p : ℕ) → p < length graph → has_place cert.goods p ≡ claims_good names head p
  pub holds : Holds graph cert
