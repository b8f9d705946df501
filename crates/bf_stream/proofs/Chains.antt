-- How what calls of a cursor gave is joined to what a reading of several steps gives, each lemma for one step.
use Rattle.std.proofs.Common.{◌≡◌, ◌≤◌, ℕ, List, Option, Result, Ok, Err, refl, sym, ◌∙◌, ap, subst, arith}
use Rattle.std.specs.Result.{IsErrAnd}
use Rattle.std.proofs.lemmas.Result.{err_from_is_err_and}
use Rattle.bf_grammar.specs.declared.fault.Limits.{Limits}
use Rattle.bf_grammar.specs.declared.fault.StreamFault.{StreamFault}
use Rattle.bf_grammar.specs.declared.fault.StreamFault.TheVariants.{Read, NoMemory}
use Rattle.bf_grammar.specs.Place.{Reading, Gives, pure, lifted, ◌>>=◌}
use Rattle.bf_grammar.specs.Lines.{with_line}
use Rattle.bf_grammar.proofs.Composing.{gives_stopped, gives_then, gives_pure, gives_same, gives_lifted_fault, gives_no_memory}
use Rattle.bf_grammar.proofs.Parts.{LineIs, gives_line}
use Rattle.bf_stream.specs.declared.cursor.Cursor.{Cursor}
use Rattle.bf_stream.specs.Cursor.{Advances, KeepsBeyond, Reads, beyond_at, faults_at, left_to_read, limits_of, place_at}

-- a loop went on from one state of a cursor to another
pub record Goes {S : Type 0} (left : S → Option (List ℕ)) (faults : S → ℕ) (old new : Cursor S) : Type 0 where
  pub turns : left_to_read new ≤ left_to_read old
  pub limits : limits_of new ≡ limits_of old
  pub source : new.source.ghost_name ≡ old.source.ghost_name
  pub beyond : beyond_at left new ≡ beyond_at left old
  pub later : faults_at faults old ≤ faults_at faults new

pub goes_here : {S : Type 0} (left : S → Option (List ℕ)) (faults : S → ℕ) (a : Cursor S) → Goes left faults a a
goes_here left faults a = record { turns = omega arith; limits = refl; source = refl; beyond = refl; later = omega arith }

pub goes_further : {S X : Type 0} {left : S → Option (List ℕ)} {faults : S → ℕ} {a b c : Cursor S} {result : Result X StreamFault} → Goes left faults a b → Advances faults b c result
    → KeepsBeyond left b c → Goes left faults a c
goes_further goes advances beyond = record {
  turns = omega (arith, goes.turns, advances.turns);
  limits = advances.limits ∙ goes.limits;
  source = advances.source ∙ goes.source;
  beyond = beyond ∙ goes.beyond;
  later = omega (arith, goes.later, advances.cause.later);
}

-- two steps one after the other, as one reading
abbrev pub steps : {X Y : Type 0} → (Limits → Reading X) → (X → Limits → Reading Y) → Limits → Reading Y
steps first next limits = first limits >>= λ x. next x limits

-- the first step gave a value, and the next went on from there
pub reads_then : {S X Y : Type 0} {left : S → Option (List ℕ)} {faults : S → ℕ} {a b c : Cursor S} {first : Limits → Reading X} {x : X}
    {result : Result Y StreamFault} (next : X → Limits → Reading Y)
    → Reads left faults a b (Ok x) first
    → Reads left faults b c result (next x)
    → Reads left faults a c result (steps first next)
reads_then {S = S} {left = left} {faults = faults} {a = a} {b = b} {c = c} {first = first} {x = x} {result = result} next one two = record {
  gives = gives_then (λ x. x) (λ x. x) (place_at left a) (place_at left b) (place_at left c) (first (limits_of a)) (λ x. next x (limits_of a)) x result
      one.gives
      (subst (λ (limits : Limits). Gives (λ x. x) (place_at left b) (place_at left c) result (next x limits)) one.limits two.gives);
  turns = omega (arith, one.turns, two.turns);
  cause = record {
    later = omega (arith, one.cause.later, two.cause.later);
    failed = λ is. omega (arith, one.cause.later, two.cause.failed is);
  };
  limits = two.limits ∙ one.limits;
  source = two.source ∙ one.source;
  beyond = two.beyond ∙ one.beyond;
}

-- the first step failed, so the whole does
pub reads_stopped : {S X Y : Type 0} {left : S → Option (List ℕ)} {faults : S → ℕ} {a b : Cursor S} {first : Limits → Reading X} {fault : StreamFault}
    (next : X → Limits → Reading Y)
    → Reads left faults a b (Err fault) first
    → Reads left faults a b (Err fault) (steps first next)
reads_stopped {left = left} {a = a} {b = b} {first = first} {fault = fault} next one = record {
  gives = gives_stopped (λ x. x) (λ x. x) (place_at left a) (place_at left b) (place_at left b) (first (limits_of a)) (λ x. next x (limits_of a)) fault
      one.gives;
  turns = one.turns;
  cause = record { later = one.cause.later; failed = λ is. one.cause.failed (let same : fault ≡ Read = cc in ap (λ f. Err f) same) };
  limits = one.limits;
  source = one.source;
  beyond = one.beyond;
}

-- what was given, and how the cursor advanced
pub reads_as : {S X : Type 0} {left : S → Option (List ℕ)} {faults : S → ℕ} {a b : Cursor S} {result : Result X StreamFault} {reading : Limits → Reading X}
    → Gives (λ x. x) (place_at left a) (place_at left b) result (reading (limits_of a))
    → Advances faults a b result
    → KeepsBeyond left a b
    → Reads left faults a b result reading
reads_as gives advances beyond = record {
  gives = gives;
  turns = advances.turns;
  cause = advances.cause;
  limits = advances.limits;
  source = advances.source;
  beyond = beyond;
}

-- the same fault, in the place of another value
pub advances_stopped : {S X Y : Type 0} {faults : S → ℕ} {a b : Cursor S} {fault : StreamFault} → Advances {X = X} faults a b (Err fault)
    → Advances {X = Y} faults a b (Err fault)
advances_stopped {fault = fault} advances = record {
  turns = advances.turns;
  cause = record { later = advances.cause.later; failed = λ is. advances.cause.failed (let same : fault ≡ Read = cc in ap (λ f. Err f) same) };
  limits = advances.limits;
  source = advances.source;
}

-- nothing is read
pub reads_pure : {S X : Type 0} (left : S → Option (List ℕ)) (faults : S → ℕ) (a : Cursor S) (x : X) → Reads left faults a a (Ok x) (λ _. pure x)
reads_pure left faults a x = record {
  gives = gives_pure (λ x. x) (place_at left a) x x refl;
  turns = omega arith;
  cause = record { later = omega arith; failed = λ is. absurd (cc) };
  limits = refl;
  source = refl;
  beyond = refl;
}

-- nothing is read, and what is given goes by the limits
pub reads_by : {S X : Type 0} (left : S → Option (List ℕ)) (faults : S → ℕ) (a : Cursor S) (form : Limits → X) (x : X) → x ≡ form (limits_of a)
    → Reads left faults a a (Ok x) (λ limits. pure (form limits))
reads_by left faults a form x is = record {
  gives = gives_pure (λ x. x) (place_at left a) x (form (limits_of a)) is;
  turns = omega arith;
  cause = record { later = omega arith; failed = λ is. absurd (cc) };
  limits = refl;
  source = refl;
  beyond = refl;
}

-- what is not read from the stream was refused
pub reads_refused : {S X : Type 0} (left : S → Option (List ℕ)) (faults : S → ℕ) (a : Cursor S) (fault : StreamFault) → (fault ≡ Read → ⊥)
    → Reads {X = X} left faults a a (Err fault) (λ _. lifted (Err fault))
reads_refused left faults a fault other = record {
  gives = gives_lifted_fault (λ x. x) (place_at left a) (place_at left a) fault;
  turns = omega arith;
  cause = record { later = omega arith; failed = λ is. absurd (other (cc)) };
  limits = refl;
  source = refl;
  beyond = refl;
}

-- what a text in front says, and what follows
pub reads_said : {S X Y : Type 0} {left : S → Option (List ℕ)} {faults : S → ℕ} {a b : Cursor S} {result : Result Y StreamFault} (says : Result X StreamFault)
    (x : X) (next : X → Limits → Reading Y)
    → says ≡ Ok x
    → Reads left faults a b result (next x)
    → Reads left faults a b result (λ limits. lifted says >>= λ x. next x limits)
reads_said {left = left} {faults = faults} {a = a} {b = b} {result = result} says x next is reads =
    subst (λ (said : Result _ StreamFault). Reads left faults a b result (λ limits. lifted said >>= λ x. next x limits)) (sym is) reads

-- the same where the text in front is refused
pub reads_unsaid : {S X Y : Type 0} (left : S → Option (List ℕ)) (faults : S → ℕ) (a : Cursor S) (says : Result X StreamFault) (fault : StreamFault)
    (next : X → Limits → Reading Y)
    → says ≡ Err fault
    → (fault ≡ Read → ⊥)
    → Reads left faults a a (Err fault) (λ limits. lifted says >>= λ x. next x limits)
reads_unsaid left faults a says fault next is other =
    subst (λ (said : Result _ StreamFault). Reads left faults a a (Err fault) (λ limits. lifted said >>= λ x. next x limits)) (sym is)
    (reads_stopped next (reads_refused left faults a fault other))

-- memory ran out
pub reads_no_memory : {S X : Type 0} (left : S → Option (List ℕ)) (faults : S → ℕ) (a : Cursor S) (reading : Limits → Reading X)
    → Reads left faults a a (Err NoMemory) reading
reads_no_memory left faults a reading = record {
  gives = gives_no_memory (λ x. x) (place_at left a) (place_at left a) (reading (limits_of a));
  turns = omega arith;
  cause = record { later = omega arith; failed = λ is. absurd (cc) };
  limits = refl;
  source = refl;
  beyond = refl;
}

-- the line in front has this number and this text, so a reading that is given them reads so
pub reads_line : {S X : Type 0} {left : S → Option (List ℕ)} {faults : S → ℕ} {a b : Cursor S} {result : Result X StreamFault} (number : ℕ) (text : List ℕ)
    (read : ℕ → List ℕ → Limits → Reading X)
    → LineIs (place_at left a) number text
    → Reads left faults a b result (read number text)
    → Reads left faults a b result (λ limits. with_line (λ line text. read line text limits))
reads_line {left = left} {a = a} {b = b} {result = result} number text read is reads = record {
  gives = gives_line (place_at left a) (place_at left b) number text result (λ line text. read line text (limits_of a)) is reads.gives;
  turns = reads.turns;
  cause = reads.cause;
  limits = reads.limits;
  source = reads.source;
  beyond = reads.beyond;
}

-- equal readings read alike
pub reads_same : {S X : Type 0} {left : S → Option (List ℕ)} {faults : S → ℕ} {a b : Cursor S} {result : Result X StreamFault} {first : Limits → Reading X}
    (other : Limits → Reading X)
    → first (limits_of a) ≡ other (limits_of a)
    → Reads left faults a b result first
    → Reads left faults a b result other
reads_same {left = left} {a = a} {b = b} {result = result} {first = first} other same reads = record {
  gives = gives_same (λ x. x) (place_at left a) (place_at left b) result (first (limits_of a)) (other (limits_of a)) same reads.gives;
  turns = reads.turns;
  cause = reads.cause;
  limits = reads.limits;
  source = reads.source;
  beyond = reads.beyond;
}

-- what holds of a fault holds of what a `?` hands on of it
pub handed_on : {X : Type 0} (P : Result X StreamFault → Type 0) (result : Result X StreamFault) (fault : StreamFault) → IsErrAnd result (λ y. y ≡ fault)
    → P (Err fault) → P result
handed_on P result fault is holds = let p = err_from_is_err_and result is in subst P (sym (p.1 ∙ ap (λ fault. Err fault) p.2)) holds

pub reads_handed_on : {S X : Type 0} {left : S → Option (List ℕ)} {faults : S → ℕ} {a b : Cursor S} {reading : Limits → Reading X} {fault : StreamFault}
    (result : Result X StreamFault)
    → IsErrAnd result (λ y. y ≡ fault)
    → Reads left faults a b (Err fault) reading
    → Reads left faults a b result reading
reads_handed_on {left = left} {faults = faults} {a = a} {b = b} {reading = reading} {fault = fault} result is reads =
    handed_on (λ r. Reads left faults a b r reading) result fault is reads
