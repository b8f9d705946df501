-- How readings are composed: what a function gives is joined from what its calls give, each lemma for one step.
use Rattle.std.proofs.Common.{◌≡◌, Option, Some, None, Result, Ok, Err, refl, sym, ◌∙◌, ap, subst}
use Rattle.std.specs.Option.{option_map}
use Rattle.bf_grammar.specs.declared.fault.StreamFault.{StreamFault}
use Rattle.bf_grammar.specs.declared.fault.StreamFault.TheVariants as faults
use Rattle.bf_grammar.specs.Place.{Place, Reading, and_then, pure, lifted, ◌>>=◌, Fails, Gives}
use Rattle.bf_grammar.specs.Lines.{past_line, take_line}

-- a refusal of a reading is what the call gives
pub fails_here : {X : Type 0} (fault : StreamFault) (read : Result X StreamFault) → read ≡ Err fault → Fails fault read
fails_here (faults.Syntax line) read is = is
fails_here (faults.Unsupported line) read is = is
fails_here (faults.Truncated line) read is = is
fails_here (faults.NoDone line) read is = is
fails_here faults.Read read is = tt
fails_here (faults.TooLarge what) read is = is
fails_here faults.NoMemory read is = tt

-- what fails one reading fails each that gives the same refusals
pub fails_alike : {X Y : Type 0} (fault : StreamFault) (read : Result X StreamFault) (other : Result Y StreamFault) → (read ≡ Err fault → other ≡ Err fault)
    → Fails fault read → Fails fault other
fails_alike (faults.Syntax line) read other alike fails = alike fails
fails_alike (faults.Unsupported line) read other alike fails = alike fails
fails_alike (faults.Truncated line) read other alike fails = alike fails
fails_alike (faults.NoDone line) read other alike fails = alike fails
fails_alike faults.Read read other alike fails = tt
fails_alike (faults.TooLarge what) read other alike fails = alike fails
fails_alike faults.NoMemory read other alike fails = tt

-- where no place is known, only that it stays unknown is said
pub gives_unknown : {X Y Z : Type 0} (view : Z → X) (other : Z → Y) (after : Option Place) (result : Result Z StreamFault) (read : Reading X)
    (again : Reading Y) → Gives view None after result read → Gives other None after result again
gives_unknown view other after (Ok x) read again gives = gives
gives_unknown view other after (Err fault) read again gives = gives

-- a reading from one place is another reading from another place
pub gives_moved : {X Z : Type 0} (view : Z → X) (p q : Place) (after : Option Place) (result : Result Z StreamFault) (read again : Reading X) → again p ≡ read q
    → Gives view (Some q) after result read → Gives view (Some p) after result again
gives_moved view p q after (Ok x) read again same (r, is, goes) = (r, same ∙ is, goes)
gives_moved view p q after (Err fault) read again same fails = fails_alike fault (read q) (again p) (λ is. same ∙ is) fails

-- equal readings give alike
pub gives_same : {X Z : Type 0} (view : Z → X) (before after : Option Place) (result : Result Z StreamFault) (read again : Reading X) → read ≡ again
    → Gives view before after result read → Gives view before after result again
gives_same view before after result read again same gives = subst (λ (r : Reading _). Gives view before after result r) same gives

-- memory ran out
pub gives_no_memory : {X Z : Type 0} (view : Z → X) (before after : Option Place) (read : Reading X) → Gives view before after (Err faults.NoMemory) read
gives_no_memory view None after read = tt
gives_no_memory view (Some p) after read = tt

-- nothing is read
pub gives_pure : {X Z : Type 0} (view : Z → X) (place : Option Place) (x : Z) (value : X) → view x ≡ value → Gives view place place (Ok x) (pure value)
gives_pure view None x value is = refl
gives_pure view (Some p) x value is = (p, ap (λ (v : _). Ok (v, p)) (sym is), refl)

-- the text in front was refused
pub gives_refused : {X Y Z : Type 0} (view : Z → Y) (place after : Option Place) (fault : StreamFault) (next : X → Reading Y)
    → Gives view place after (Err fault) (lifted (Err fault) >>= next)
gives_refused view None after fault next = tt
gives_refused view (Some p) after fault next = fails_here fault (Err fault) refl

-- the same, and nothing follows
pub gives_lifted_fault : {X Z : Type 0} (view : Z → X) (place after : Option Place) (fault : StreamFault)
    → Gives view place after (Err fault) (lifted (Err fault))
gives_lifted_fault view None after fault = tt
gives_lifted_fault view (Some p) after fault = fails_here fault (Err fault) refl

module _ {X Y Z W : Type 0} (view : Z → X) (other : W → Y) (before mid after : Option Place) (read : Reading X) (next : X → Reading Y) where
  -- the first step failed, so the whole does
  pub gives_stopped : (fault : StreamFault) → Gives view before mid (Err fault) read → Gives other before after (Err fault) (read >>= next)
  gives_stopped fault gives = gives_stopped_at before gives
    where
      gives_stopped_at : (place : Option Place) → Gives view place mid (Err fault) read → Gives other place after (Err fault) (read >>= next)
      gives_stopped_at None gives = tt
      gives_stopped_at (Some p) gives = fails_alike fault (read p) (and_then (read p) next)
          (λ is. ap (λ (r : Result (X × Place) StreamFault). and_then r next) is) gives

  -- the first step gave a value, and the next went on from there
  pub gives_then : (x : Z) (result : Result W StreamFault) → Gives view before mid (Ok x) read → Gives other mid after result (next (view x))
      → Gives other before after result (read >>= next)
  gives_then x result first second = gives_then_at before first
    where
      gives_then_at : (place : Option Place) → Gives view place mid (Ok x) read → Gives other place after result (read >>= next)
      gives_then_at None first = gives_unknown other other after result (next (view x)) (read >>= next)
          (subst (λ (m : Option Place). Gives other m after result (next (view x))) first second)
      gives_then_at (Some p) (q, is, goes) = gives_moved other p q after result (next (view x)) (read >>= next)
          (ap (λ (r : Result (X × Place) StreamFault). and_then r next) is)
          (subst (λ (m : Option Place). Gives other m after result (next (view x))) goes second)

-- a line was taken
pub gives_past_line : {Y W : Type 0} (view : W → Y) (before mid after : Option Place) (result : Result W StreamFault) (next : Unit {0} → Reading Y)
    → mid ≡ option_map past_line before → Gives view mid after result (next tt) → Gives view before after result (take_line >>= next)
gives_past_line view None mid after result next goes second = gives_unknown view view after result (next tt) (take_line >>= next)
    (subst (λ (m : Option Place). Gives view m after result (next tt)) goes second)
gives_past_line view (Some p) mid after result next goes second = gives_moved view p (past_line p) after result (next tt) (take_line >>= next) refl
    (subst (λ (m : Option Place). Gives view m after result (next tt)) goes second)
