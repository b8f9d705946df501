-- Readings, place by place.
use Rattle.std.proofs.Common.{◌≡◌, Option, Some, None, Result, Ok, Err, refl, subst, ◌∙◌}
use Rattle.std.specs.Option.{option_map}
use Rattle.bf_grammar.specs.declared.fault.StreamFault.{StreamFault}
use Rattle.bf_grammar.specs.Place.{Place, Reading, Gives}
use Rattle.bf_grammar.proofs.Composing.{fails_here, gives_unknown, gives_moved}
use Rattle.bf_stream.specs.Going.{GoesOnAs}

-- what a reading gives at a place
abbrev pub Read : Type 0 → Type 0
Read X = Result (X × Place) StreamFault

pub same_option : (o : Option Place) → o ≡ option_map (λ p. p) o
same_option None = refl
same_option (Some p) = refl

pub gives_fault_where : {X Z : Type 0} (view : Z → X) (before after : Option Place) (fault : StreamFault) (read : Reading X)
    → ((q : Place) → before ≡ Some q → read q ≡ Err fault) → Gives view before after (Err fault) read
gives_fault_where view None after fault read fails = tt
gives_fault_where view (Some p) after fault read fails = fails_here fault (read p) (fails p refl)

pub gives_value_where : {X Z : Type 0} (view : Z → X) (before after : Option Place) (x : Z) (read : Reading X) (step : Place → Place)
    → after ≡ option_map step before → ((q : Place) → before ≡ Some q → read q ≡ Ok (view x, step q)) → Gives view before after (Ok x) read
gives_value_where view None after x read step goes gives = goes
gives_value_where view (Some p) after x read step goes gives = (step p, gives p refl, goes)

pub goes_on_where : {X : Type 0} (first next : Reading X) (before after : Option Place) (step : Place → Place) → after ≡ option_map step before
    → ((q : Place) → before ≡ Some q → first q ≡ next (step q)) → GoesOnAs first next before after
goes_on_where first next None after step goes same = goes
goes_on_where first next (Some p) after step goes same = (step p, same p refl, goes)

pub goes_on_here : {X : Type 0} (read : Reading X) (place : Option Place) → GoesOnAs read read place place
goes_on_here read None = refl
goes_on_here read (Some p) = (p, refl, refl)

pub goes_on_trans : {X : Type 0} (first mid next : Reading X) (before between after : Option Place) → GoesOnAs first mid before between
    → GoesOnAs mid next between after → GoesOnAs first next before after
goes_on_trans first mid next None between after a b = subst (λ (m : Option Place). GoesOnAs mid next m after) a b
goes_on_trans first mid next (Some p) between after (q, same, goes) b = go (subst (λ (m : Option Place). GoesOnAs mid next m after) goes b)
  where
    go : GoesOnAs mid next (Some q) after → GoesOnAs first next (Some p) after
    go (r, again, there) = (r, same ∙ again, there)

pub gives_going_on : {X Z : Type 0} (view : Z → X) (first next : Reading X) (before mid after : Option Place) (r : Result Z StreamFault)
    → GoesOnAs first next before mid → Gives view mid after r next → Gives view before after r first
gives_going_on view first next None mid after r a b = gives_unknown view view after r next first (subst (λ (m : Option Place). Gives view m after r next) a b)
gives_going_on view first next (Some p) mid after r (q, same, goes) b = gives_moved view p q after r next first same
    (subst (λ (m : Option Place). Gives view m after r next) goes b)
