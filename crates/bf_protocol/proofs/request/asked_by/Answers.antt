use Rattle.std.proofs.Common.{Result, IfOk, subst, sym}
use Rattle.bf_protocol.specs.declared.request.Asked.{Asked}
use Rattle.bf_protocol.specs.declared.request.Refusal.{Refusal}
use Rattle.bf_protocol.specs.Requests.{HasNumbersWithin}
use Rattle.bf_protocol.proofs.Asking.{asked_within}
use Rattle.bf_protocol.proofs.request.asked_by.Goals as goal

pub returns-in-Some-clause-numbers : goal.returns-in-Some-clause-numbers
returns-in-Some-clause-numbers c =
    subst (λ (r : Result Asked Refusal). IfOk r HasNumbersWithin) (sym c.asked_with.ensures) (asked_within c.in-Some.verb _)
