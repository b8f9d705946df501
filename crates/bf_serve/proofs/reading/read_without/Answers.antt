use Rattle.std.proofs.Common.{Err, subst, arith}
use Rattle.bf_words.specs.declared.request.WordFault.{WordFault}
use Rattle.bf_words.specs.Words.{IsRead, request}
use Rattle.bf_words.proofs.Within.{fault_within, read_within}
use Rattle.bf_serve.proofs.reading.read_without.Goals as goal

pub request_past-requires : goal.request_past-requires
request_past-requires c = read_within c.as_slice.result.now c.in-Ok.request c.in-Ok.ensures

pub index_past-requires : goal.index_past-requires
index_past-requires c =
    let within = fault_within c.as_slice.result.now c.in-Err-At.word
    (subst (λ (fault : WordFault). IsRead (request c.as_slice.result.now) (Err fault)) c.in-Err-At.field-0-is c.in-Err-At.ensures) in
    omega (arith, within, c.in-Err-At.word-is)
