-- What the lines that stand before the certificate claim of commits.
use Rattle.std.specs.Prelude.{ℕ, ◌<◌, ◌==◌, nat_lt, Bool, true, false, ◌&&◌, if◌then◌else◌, List, length, codes, Option, Some, None}
use Rattle.std.specs.Option.{option_map}
use Rattle.bf_oid.specs.declared.object.Oid.{Oid}
use Rattle.bf_reading.specs.Reading.{behind}
use Rattle.bf_cert.specs.Lines.{◌>>=◌, name_in_front}
use Rattle.bf_claims.specs.declared.claim.Claim.{Claim}
use Rattle.bf_claims.specs.declared.claim.Claim.TheVariants.{Nothing, Bad, Good, Skipped, StillBad, StillGood}
use Rattle.bf_claims.specs.declared.kind.Kind.{Kind}
use Rattle.bf_claims.specs.declared.kind.Kind.TheVariants.{CalledBad, CalledGood, Outcome, Against, Confirmed}
use Rattle.bf_claims.specs.Forms.{has_form, tally_in}
use Rattle.bf_claims.specs.Lines.{status_in}

-- a line that names no commit claims nothing, where it has its form
unfoldable pub no_claim : Kind → List ℕ → Option Claim
no_claim kind text = if has_form kind text then Some Nothing else None

-- whether the test of a commit that was called bad, or good, may have ended with this status
abbrev pub is_as_called : Bool → ℕ → Bool
is_as_called true status = nat_lt 0 status && nat_lt status 125
is_as_called false status = status == 0

-- the place of a commit that was called bad, or good; the status of its test may stand behind it, and says the same
unfoldable pub called : List Oid → Bool → List ℕ → Option ℕ
called names is_bad text =
    name_in_front names text
    >>= λ name.
    if length name.1 == 0 then Some name.0
    else status_in name.1 >>= λ status. if is_as_called is_bad status then Some name.0 else None

-- what a test that ended with this status claims of its commit
abbrev pub claim_by : ℕ → ℕ → Option Claim
claim_by p status =
    if status == 0 then Some (Good p)
    else if nat_lt status 125 then Some (Bad p)
    else if status == 125 then Some (Skipped p)
    else None

unfoldable pub outcome : List Oid → List ℕ → Option Claim
outcome names text = name_in_front names text >>= λ name. status_in name.1 >>= λ status. claim_by name.0 status

-- the outcome of a test that contradicts the answer was good or bad
unfoldable pub against : List Oid → List ℕ → Option Claim
against names text =
    name_in_front names text >>= λ name. status_in name.1 >>= λ status. if nat_lt status 125 then Some Nothing else None

-- what is claimed of a commit that was tested again, by what stands behind ` bad ` or ` good `
abbrev pub tested_again : ℕ → Option (List ℕ) → Option (List ℕ) → Option Claim
tested_again p (Some tally) good = option_map (λ runs. StillBad p) (tally_in tally)
tested_again p None (Some tally) = option_map (λ runs. StillGood p) (tally_in tally)
tested_again p None None = None

unfoldable pub confirmed : List Oid → List ℕ → Option Claim
confirmed names text =
    name_in_front names text >>= λ name. tested_again name.0 (behind (codes " bad ") name.1) (behind (codes " good ") name.1)

-- what a line of this kind claims by what stands behind its first word
unfoldable pub claim_of : List Oid → Kind → List ℕ → Option Claim
claim_of names CalledBad text = option_map Bad (called names true text)
claim_of names CalledGood text = option_map Good (called names false text)
claim_of names Outcome text = outcome names text
claim_of names Against text = against names text
claim_of names Confirmed text = confirmed names text
claim_of names other text = no_claim other text

-- the place of a claim is a commit, of so many
abbrev pub IsClaimWithin : ℕ → Claim → Type 0
IsClaimWithin len Nothing = Unit {0}
IsClaimWithin len (Bad p) = p < len
IsClaimWithin len (Good p) = p < len
IsClaimWithin len (Skipped p) = p < len
IsClaimWithin len (StillBad p) = p < len
IsClaimWithin len (StillGood p) = p < len
