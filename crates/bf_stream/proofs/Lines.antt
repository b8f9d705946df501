-- What a part of one line gives, by what the calls of the cursor gave.
use Rattle.std.proofs.Common.{◌≡◌, ℕ, Bool, true, false, List, Option, Some, None, Result, Ok, Err, refl, sym, ap, subst, cond, arith}
use Rattle.std.specs.Option.{IfSome}
use Rattle.std.specs.Bool.{OnTrue}
use Rattle.bf_grammar.specs.declared.fault.Limits.{Limits}
use Rattle.bf_grammar.specs.declared.fault.StreamFault.{StreamFault}
use Rattle.bf_grammar.specs.declared.fault.StreamFault.TheVariants.{Read, Unsupported}
use Rattle.bf_grammar.specs.Place.{Reading, Gives, pure, refuse, lifted, ◌>>=◌}
use Rattle.bf_grammar.specs.Lines.{front_line, take_line, with_line}
use Rattle.bf_grammar.specs.Commands.{line_as, optional, some}
use Rattle.bf_grammar.proofs.Parts.{LineIs}
use Rattle.bf_stream.specs.declared.cursor.Cursor.{Cursor}
use Rattle.bf_stream.specs.Cursor.{Reads, TextIs, place_at, line_of, looks_for}
use Rattle.bf_stream.specs.Held.{Held, place_of}
use Rattle.bf_stream.proofs.Chains.{reads_then, reads_stopped, reads_pure, reads_said, reads_unsaid, reads_line}

-- what holds where a test is true
pub at_true : (test : Bool) (P : Type 0) → test ≡ true → OnTrue test P → P
at_true true P is holds = holds
at_true false P is holds = absurd (cc)

line_held : (held : Held) (left : Option (List ℕ)) (number : ℕ) (text : List ℕ) → number ≡ held.line
    → IfSome (place_of held left) (λ p. text ≡ front_line p.rest) → LineIs (place_of held left) number text
line_held held None number text is reads = tt
line_held held (Some bytes) number text is reads = (is, reads)

-- the line in front of a cursor is the line in front of its place
pub line_is : {S : Type 0} (left : S → Option (List ℕ)) (a : Cursor S) (number : ℕ) (text : List ℕ) → number ≡ line_of a → TextIs left a text
    → LineIs (place_at left a) number text
line_is left a number text is reads = line_held a.window (left a.source.now) number text is reads

-- the line in front was refused
pub line_refused : {S X Y : Type 0} {left : S → Option (List ℕ)} {faults : S → ℕ} {a : Cursor S} (form : ℕ → List ℕ → Result X StreamFault)
    (next : ℕ → List ℕ → X → Limits → Reading Y) (number : ℕ) (text : List ℕ) (fault : StreamFault)
    → LineIs (place_at left a) number text → form number text ≡ Err fault → (fault ≡ Read → ⊥)
    → Reads left faults a a (Err fault) (λ limits. with_line (λ line text. lifted (form line text) >>= λ x. next line text x limits))
line_refused {left = left} {faults = faults} {a = a} form next number text fault is refused other =
    reads_line number text (λ line text limits. lifted (form line text) >>= λ x. next line text x limits) is
    (reads_unsaid left faults a (form number text) fault (next number text) refused other)

-- the line in front says x, and what follows goes on
pub line_read : {S X Y : Type 0} {left : S → Option (List ℕ)} {faults : S → ℕ} {a b : Cursor S} {result : Result Y StreamFault}
    (form : ℕ → List ℕ → Result X StreamFault) (next : ℕ → List ℕ → X → Limits → Reading Y) (number : ℕ) (text : List ℕ) (x : X)
    → LineIs (place_at left a) number text → form number text ≡ Ok x → Reads left faults a b result (next number text x)
    → Reads left faults a b result (λ limits. with_line (λ line text. lifted (form line text) >>= λ x. next line text x limits))
line_read form next number text x is says reads =
    reads_line number text (λ line text limits. lifted (form line text) >>= λ x. next line text x limits) is
    (reads_said (form number text) x (next number text) says reads)

-- a line that says x was taken
pub line_taken : {S X : Type 0} {left : S → Option (List ℕ)} {faults : S → ℕ} {a b : Cursor S} (form : ℕ → List ℕ → Result X StreamFault) (number : ℕ)
    (text : List ℕ) (x : X)
    → LineIs (place_at left a) number text → form number text ≡ Ok x → Reads left faults a b (Ok tt) (λ _. take_line)
    → Reads left faults a b (Ok x) (λ _. line_as form)
line_taken {left = left} {faults = faults} {b = b} form number text x is says taken =
    line_read form (λ line text x limits. take_line >>= λ _. pure x) number text x is says
    (reads_then (λ _ _. pure x) taken (reads_pure left faults b x))

-- the line in front was taken, and that is all
pub line_alone : {S X : Type 0} {left : S → Option (List ℕ)} {faults : S → ℕ} {a b : Cursor S} (x : X) → Reads left faults a b (Ok tt) (λ _. take_line)
    → Reads left faults a b (Ok x) (λ _. take_line >>= λ _. pure x)
line_alone {left = left} {faults = faults} {b = b} x taken = reads_then (λ _ _. pure x) taken (reads_pure left faults b x)

-- the line in front was taken, and what stands behind it was read
pub behind_read : {S X : Type 0} {left : S → Option (List ℕ)} {faults : S → ℕ} {a b c : Cursor S} {read : Limits → Reading X} {x : X}
    → Reads left faults a b (Ok tt) (λ _. take_line) → Reads left faults b c (Ok x) read
    → Reads left faults a c (Ok (Some x)) (λ limits. take_line >>= λ _. some (read limits))
behind_read {left = left} {faults = faults} {c = c} {read = read} {x = x} taken reads =
    reads_then (λ _ limits. some (read limits)) taken (reads_then (λ x _. pure (Some x)) reads (reads_pure left faults c (Some x)))

-- the same where it is refused
pub behind_stopped : {S X : Type 0} {left : S → Option (List ℕ)} {faults : S → ℕ} {a b c : Cursor S} {read : Limits → Reading X} {fault : StreamFault}
    → Reads left faults a b (Ok tt) (λ _. take_line) → Reads left faults b c (Err fault) read
    → Reads left faults a c (Err fault) (λ limits. take_line >>= λ _. some (read limits))
behind_stopped {read = read} taken reads = reads_then (λ _ limits. some (read limits)) taken (reads_stopped (λ x _. pure (Some x)) reads)

-- a part that may stand
module _ {S X : Type 0} {left : S → Option (List ℕ)} {faults : S → ℕ} {a b : Cursor S} (word : List ℕ) (form : ℕ → List ℕ → Result X StreamFault) where
  pub optional_stopped : {fault : StreamFault} → Reads left faults a b (Err fault) (looks_for word)
      → Reads left faults a b (Err fault) (λ limits. optional limits word form)
  optional_stopped looked = reads_stopped (λ there _. cond there (some (line_as form)) (pure None)) looked

  pub optional_absent : Reads left faults a b (Ok false) (looks_for word) → Reads left faults a b (Ok None) (λ limits. optional limits word form)
  optional_absent looked = reads_then (λ there _. cond there (some (line_as form)) (pure None)) looked (reads_pure left faults b None)

  pub optional_there : {c : Cursor S} {result : Result (Option X) StreamFault} → Reads left faults a b (Ok true) (looks_for word)
      → Reads left faults b c result (λ _. some (line_as form)) → Reads left faults a c result (λ limits. optional limits word form)
  optional_there looked reads = reads_then (λ there _. cond there (some (line_as form)) (pure None)) looked reads

  pub optional_refused : (number : ℕ) (text : List ℕ) (fault : StreamFault) → Reads left faults a b (Ok true) (looks_for word)
      → LineIs (place_at left b) number text → form number text ≡ Err fault → (fault ≡ Read → ⊥)
      → Reads left faults a b (Err fault) (λ limits. optional limits word form)
  optional_refused number text fault looked is refused other =
      optional_there looked (reads_stopped (λ x _. pure (Some x))
      (line_refused form (λ _ _ x _. take_line >>= (λ _. pure x)) number text fault is refused other))

  pub optional_taken : {c : Cursor S} (number : ℕ) (text : List ℕ) (x : X) → Reads left faults a b (Ok true) (looks_for word)
      → LineIs (place_at left b) number text → form number text ≡ Ok x → Reads left faults b c (Ok tt) (λ _. take_line)
      → Reads left faults a c (Ok (Some x)) (λ limits. optional limits word form)
  optional_taken {c = c} number text x looked is says taken =
      optional_there looked (reads_then (λ x _. pure (Some x)) (line_taken form number text x is says taken) (reads_pure left faults c (Some x)))

-- the refusal of the line in front
pub refused_here : {S X : Type 0} (left : S → Option (List ℕ)) (faults : S → ℕ) (a : Cursor S) (number : ℕ) → number ≡ line_of a
    → Reads {X = X} left faults a a (Err (Unsupported number)) (λ _. refuse Unsupported)
refused_here {X = X} left faults a number is = record {
  gives = refused_at X a.window (left a.source.now) number is;
  turns = omega arith;
  cause = record { later = omega arith; failed = λ is. absurd (cc) };
  limits = refl;
  source = refl;
  beyond = refl;
}
  where
    refused_at : (X : Type 0) (held : Held) (left : Option (List ℕ)) (number : ℕ) → number ≡ held.line
        → Gives (λ (x : X). x) (place_of held left) (place_of held left) (Err (Unsupported number)) (refuse Unsupported)
    refused_at X held None number is = tt
    refused_at X held (Some bytes) number is = ap (λ n. Err (Unsupported n)) (sym is)

-- a value that is another
pub reads_value : {S X : Type 0} (left : S → Option (List ℕ)) (faults : S → ℕ) (a : Cursor S) (x y : X) → x ≡ y → Reads left faults a a (Ok x) (λ _. pure y)
reads_value left faults a x y is = subst (λ (z : _). Reads left faults a a (Ok x) (λ _. pure z)) is (reads_pure left faults a x)

-- the same reading of a value that is another
pub reads_of : {A S X : Type 0} {left : S → Option (List ℕ)} {faults : S → ℕ} {a b : Cursor S} {result : Result X StreamFault} (read : A → Limits → Reading X)
    (x y : A) → x ≡ y → Reads left faults a b result (read x) → Reads left faults a b result (read y)
reads_of {left = left} {faults = faults} {a = a} {b = b} {result = result} read x y is reads = subst (λ (z : _). Reads left faults a b result (read z)) is reads
