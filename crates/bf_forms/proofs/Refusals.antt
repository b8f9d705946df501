-- What is known of a refusal that a `?` hands on.
use Rattle.std.proofs.Common.{◌≡◌, Result, Err, sym, ◌∙◌, ap, subst, MatchResult}
use Rattle.std.specs.Result.{IsErrAnd}
use Rattle.std.proofs.lemmas.Result.{err_from_is_err_and}
use Rattle.bf_grammar.specs.declared.fault.StreamFault.{StreamFault}

pub refused : {X : Type 0} (result : Result X StreamFault) (fault : StreamFault) (reads : X → Type 0) (refuses : StreamFault → Type 0)
    → IsErrAnd result (λ y. y ≡ fault) → refuses fault → MatchResult result reads refuses
refused result fault reads refuses is says =
    let p = err_from_is_err_and result is in
    subst (λ (r : Result _ StreamFault). MatchResult r reads refuses) (sym (p.1 ∙ ap (λ y. Err y) p.2)) says
