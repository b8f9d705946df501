-- Lemmas on how many lines a text has.
use Rattle.std.proofs.Common.{◌≡◌, ℕ, suc, ◌+◌, ◌≤◌, ◌==◌, cond, Bool, true, false, List, [], ◌∷◌, ◌++◌, length, map, Some, Result, Ok, Err, ap, sym, ◌∙◌, arith, length-append}
use Rattle.std.proofs.lemmas.List.{length-map}
use Rattle.std.specs.Result.{IfOk}
use Rattle.bf_oid.specs.declared.object.Oid.{Oid}
use Rattle.bf_cert.specs.declared.cert.Cert.{Cert}
use Rattle.bf_cert.specs.declared.cert.CertStep.{CertStep}
use Rattle.bf_cert.specs.declared.fault.CertFault.{CertFault}
use Rattle.bf_cert.specs.declared.fault.CertFault.TheVariants.{Line as LineFails, NoMemory}
use Rattle.bf_cert.specs.Faults.{IsFaultOf}
use Rattle.bf_cert.specs.Lines.{begin_with, lines_of, line_of, cert_lines}
use Rattle.bf_cert.specs.Reading.{read_text, Gives}
use Rattle.bf_cert.proofs.Telling.{IsTold, read_told}
use Rattle.bf_claims.specs.Reading.{IsLineUpTo}

one_line : (e : Bool) (b : ℕ) (lines : List (List ℕ)) → length (cond e ((b ∷ []) ∷ lines) (begin_with b lines)) ≤ length lines + 1
one_line true b lines = omega arith
one_line false b [] = omega arith
one_line false b (line ∷ lines) = omega arith

-- as many lines as bytes at most
pub few_lines : (text : List ℕ) → length (lines_of text) ≤ length text
unfolding lines_of
few_lines [] = omega arith
few_lines (b ∷ bs) = omega (arith, one_line (b == 10) b (lines_of bs), few_lines bs)

pub fault_line : (names : List Oid) (graph : List (List ℕ)) (text : List ℕ) (fault : CertFault) → IsFaultOf names graph text fault
    → IsLineUpTo (length text + 1) fault
fault_line names graph text (LineFails n) h = omega (arith, h.number, ap length h.parted, length-append h.front h.rest, few_lines text)
fault_line names graph text NoMemory h = tt

-- any kinds of lines, of which each good commit has one
good_lines : {L : Type 0} (good : ℕ → L) (reach : CertStep → L) (end : L) (mode : List L) (goods : List ℕ) (steps : List CertStep)
    → length goods ≤ suc (suc (length (((mode ++ map good goods) ++ map reach steps) ++ end ∷ [])))
good_lines good reach end mode goods steps =
    omega (
      arith,
      length-append ((mode ++ map good goods) ++ map reach steps) (end ∷ []),
      length-append (mode ++ map good goods) (map reach steps),
      length-append mode (map good goods),
      length-map goods good,
    )

all_lines : (cert : Cert) → length cert.goods ≤ length (cert_lines cert)
all_lines cert = good_lines _ _ _ _ cert.goods cert.steps

-- as many good commits as bytes at most
few_goods : (names : List Oid) (graph : List (List ℕ)) (text : List ℕ) (cert : Cert) → read_text names graph text ≡ Ok cert → length cert.goods ≤ length text
few_goods names graph text cert is =
    let told : IsTold names graph (lines_of text) cert = read_told names graph text cert is in
    let same : length (lines_of text) ≡ length (cert_lines cert) =
    sym (length-map (lines_of text) (line_of names)) ∙ ap length told.said ∙ length-map (cert_lines cert) Some in
    omega (arith, few_lines text, same, all_lines cert)

pub goods_within : (names : List Oid) (graph : List (List ℕ)) (text : List ℕ) (result : Result Cert CertFault) → Gives result (read_text names graph text)
    → IfOk result (λ cert. length cert.goods ≤ length text)
goods_within names graph text (Ok cert) is = few_goods names graph text cert is
goods_within names graph text (Err fault) is = tt
