-- Each list of bytes has one reading as a stream.
use Rattle.std.proofs.Common.{◌≡◌, ◌≢◌, ℕ, suc, zero, ◌<◌, List, [], ◌∷◌, length, Option, Some, None, Result, Ok, Err, refl, sym, ◌∙◌, ap, ap₂, subst, arith}
use Rattle.bf_grammar.specs.declared.command.Command.{Command}
use Rattle.bf_grammar.specs.declared.fault.Limits.{Limits}
use Rattle.bf_grammar.specs.declared.fault.StreamFault.{StreamFault}
use Rattle.bf_grammar.specs.declared.fault.StreamFault.TheVariants as faults
use Rattle.bf_grammar.specs.Place.{Place}
use Rattle.bf_grammar.specs.Commands.{command_at}
use Rattle.bf_grammar.specs.Stream.{Continues}
use Rattle.bf_grammar.proofs.Repeating.{same_place, same_value}
use Rattle.bf_grammar.proofs.Onward.{Read}
use Rattle.bf_grammar.proofs.Taking.{command_takes}
use Rattle.bf_grammar.proofs.Faults.{no_such_fault}

-- a stream that ends here has no command here
ends_here : (limits : Limits) (p : Place) (end : Option StreamFault) (c : Command) (q : Place) → Continues limits p [] end
    → command_at limits p ≡ Ok (Some c, q) → ⊥
ends_here limits p None c q (r, ends) is = let e = same_value {X = Option Command} None (Some c) r q (sym ends ∙ is) in cc
ends_here limits p (Some fault) c q refused is = cc

abbrev fault_or : {X : Type 0} → StreamFault → Result X StreamFault → StreamFault
fault_or other (Ok x) = other
fault_or other (Err fault) = fault

abbrev value_or : {X : Type 0} → X → Option X → X
value_or other None = other
value_or other (Some x) = x

-- it ends in one way
one_end : (limits : Limits) (p : Place) (end other : Option StreamFault) → Continues limits p [] end → Continues limits p [] other → end ≡ other
one_end limits p None None first second = refl
one_end limits p None (Some other) (q, ends) refused = absurd (cc)
one_end limits p (Some fault) None refused (q, ends) = absurd (cc)
one_end limits p (Some fault) (Some other) refused again = ap (λ (r : Read (Option Command)). Some (fault_or fault r)) (sym refused ∙ again)

pub one_continuation : (limits : Limits) (commands others : List Command) (end other : Option StreamFault) (p : Place) → Continues limits p commands end
    → Continues limits p others other → (commands ≡ others) × (end ≡ other)
one_continuation limits [] [] end other p first second = (refl, one_end limits p end other first second)
one_continuation limits [] (d ∷ others) end other p first (r, is, goes) = absurd (ends_here limits p end d r first is)
one_continuation limits (c ∷ commands) [] end other p (q, is, goes) second = absurd (ends_here limits p other c q second is)
one_continuation limits (c ∷ commands) (d ∷ others) end other p (q, is, goes) (r, also, more) =
    let gave : (let a : Read (Option Command) = Ok (Some c, q) in a) ≡ Ok (Some d, r) = sym is ∙ also in
    let here : q ≡ r = same_place (Some c) (Some d) q r gave in
    let same : c ≡ d = ap (value_or c) (same_value (Some c) (Some d) q r gave) in
    let rest : (commands ≡ others) × (end ≡ other) = one_continuation limits commands others end other r
    (subst (λ (m : Place). Continues limits m commands end) here goes) more in
    (ap₂ ◌∷◌ same rest.0, rest.1)

-- all bytes have a reading: each command takes at least a byte
pub some_continuation : (limits : Limits) (turns : ℕ) (p : Place) → length p.rest < turns
    → (commands : List Command) × (end : Option StreamFault) × Continues limits p commands end
some_continuation limits zero p few = absurd (omega arith)
some_continuation limits (suc turns) p few = go (some_continuation limits turns) (command_at limits p) refl
  where
    go : ((q : Place) → length q.rest < turns → (commands : List Command) × (end : Option StreamFault) × Continues limits q commands end)
        → (r : Read (Option Command)) → command_at limits p ≡ r → (commands : List Command) × (end : Option StreamFault) × Continues limits p commands end
    go again (Ok (Some c, q)) is =
        let h : length q.rest < length p.rest = command_takes limits c p q is in
        let (commands, end, goes) = again q (omega arith) in
        (c ∷ commands, end, (q, is, goes))
    go again (Ok (None, q)) is = ([], None, (q, is))
    go again (Err fault) is = ([], Some fault, is)

-- a refusal behind any commands is the stream's own
pub own_end : (limits : Limits) (commands : List Command) (fault : StreamFault) (p : Place) → Continues limits p commands (Some fault)
    → (fault ≢ faults.Read) × (fault ≢ faults.NoMemory)
own_end limits [] fault p refused = no_such_fault limits p fault refused
own_end limits (c ∷ commands) fault p (q, is, goes) = own_end limits commands fault q goes
