-- What the lines that stand before the certificate have claimed.
use Rattle.std.specs.Prelude.{◌≡◌, ℕ, ◌+◌, Bool, true, false, if◌then◌else◌, List, length, replicate, slice_set, Option, Some, None, Result, Ok, Err}
use Rattle.std.specs.Option.{option_map}
use Rattle.bf_oid.specs.declared.object.Oid.{Oid}
use Rattle.bf_search.specs.Candidates.{is_in}
use Rattle.bf_cert.specs.declared.cert.Cert.{Cert}
use Rattle.bf_cert.specs.Lines.{◌>>=◌}
use Rattle.bf_claims.specs.declared.claim.Claim.{Claim}
use Rattle.bf_claims.specs.declared.claim.Claim.TheVariants.{Nothing, Bad, Good, Skipped, StillBad, StillGood}
use Rattle.bf_claims.specs.declared.head.Head.{Head}
use Rattle.bf_claims.specs.Claims.{claim_of}
use Rattle.bf_claims.specs.Goods.{strange}
use Rattle.bf_claims.specs.Kinds.{may_follow, rank_of}
use Rattle.bf_claims.specs.Lines.{kind_in, without_end}

-- no line, over so many commits
abbrev pub no_head : ℕ → Head
no_head len = record { rank = 0; named = replicate len false; bad = replicate len false; good = replicate len false; again = replicate len false }

-- its rows are of so many commits
pub record IsHead (len : ℕ) (head : Head) : Type 0 where
  pub named : length head.named ≡ len
  pub bad : length head.bad ≡ len
  pub good : length head.good ≡ len
  pub again : length head.again ≡ len

-- with a commit of which something is claimed; none where something was
abbrev pub with_name : Head → ℕ → Option Head
with_name head p = if is_in head.named p then None else Some (record head { named = slice_set head.named p true })

abbrev pub with_bad : ℕ → Head → Head
with_bad p head = record head { bad = slice_set head.bad p true }

abbrev pub with_good : ℕ → Head → Head
with_good p head = record head { good = slice_set head.good p true }

-- with a commit that was tested again; none where it was told before
abbrev pub with_again : ℕ → Head → Option Head
with_again p head = if is_in head.again p then None else Some (record head { again = slice_set head.again p true })

-- A commit that was tested again is as bad or good as the lines above say: those that are bad are claimed to be so.
abbrev pub take_claim : Head → Claim → Option Head
take_claim head Nothing = Some head
take_claim head (Bad p) = option_map (with_bad p) (with_name head p)
take_claim head (Good p) = option_map (with_good p) (with_name head p)
take_claim head (Skipped p) = with_name head p
take_claim head (StillBad p) = if is_in head.bad p then with_again p head else None
take_claim head (StillGood p) = if is_in head.bad p then None else with_again p head

-- with one line more; none where it may not stand there
unfoldable pub take_line : List Oid → Head → List ℕ → Option Head
take_line names head line =
    without_end line
    >>= kind_in
    >>= λ split.
    if may_follow head.rank split.0
    then (claim_of names split.0 split.1 >>= take_claim (record head { rank = rank_of split.0 }))
    else None

-- ---- the certificate behind so many lines

-- how many of its lines come up to the first good one, and with it
abbrev pub goods_front : Bool → ℕ
goods_front first_parent = if first_parent then 4 else 3

abbrev pub judged_goods : ℕ → Cert → Option ℕ → Result Cert ℕ
judged_goods before cert None = Ok cert
judged_goods before cert (Some index) = Err (before + goods_front cert.first_parent + index)

-- its bad commit is claimed to be bad, and its good ones are those that are claimed to be good
unfoldable pub judged : Head → ℕ → Cert → Result Cert ℕ
judged head before cert =
    if is_in head.bad cert.bad then judged_goods before cert (strange head.good 0 cert.goods) else Err (before + 2)
