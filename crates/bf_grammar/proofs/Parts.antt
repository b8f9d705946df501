-- What a part of a command gives, by what its calls give.
use Rattle.std.proofs.Common.{◌≡◌, ℕ, true, false, List, Option, Some, None, Result, Ok, Err, refl, sym, ◌∙◌, ap}
use Rattle.std.specs.Option.{option_map, IfSome}
use Rattle.bf_grammar.specs.declared.fault.Limits.{Limits}
use Rattle.bf_grammar.specs.declared.fault.StreamFault.{StreamFault}
use Rattle.bf_grammar.specs.Place.{Place, Reading, pure, lifted, ◌>>=◌, Gives}
use Rattle.bf_grammar.specs.Lines.{front_line, past_line, take_line, with_line, at_word, must_be_at}
use Rattle.bf_grammar.specs.Commands.{line_as, optional, required}
use Rattle.bf_grammar.proofs.Composing.{gives_unknown, gives_moved, gives_pure, gives_refused, gives_stopped, gives_then, gives_past_line, gives_same}

-- the line in front of a place has this number and this text
abbrev pub LineIs : Option Place → ℕ → List ℕ → Type 0
LineIs place number text = IfSome place (λ p. (number ≡ p.line) × (text ≡ front_line p.rest))

pub gives_line : {X : Type 0} (place after : Option Place) (number : ℕ) (text : List ℕ) (result : Result X StreamFault) (read : ℕ → List ℕ → Reading X)
    → LineIs place number text → Gives (λ x. x) place after result (read number text) → Gives (λ x. x) place after result (with_line read)
gives_line None after number text result read is gives = gives_unknown (λ x. x) (λ x. x) after result (read number text) (with_line read) gives
gives_line (Some p) after number text result read is gives =
    gives_moved (λ x. x) p p after result (read number text) (with_line read)
    (ap (λ n. read n (front_line p.rest) p) (sym is.0) ∙ ap (λ t. read number t p) (sym is.1)) gives

-- the line in front was refused
pub line_refused : {X Y : Type 0} (place after : Option Place) (number : ℕ) (text : List ℕ) (fault : StreamFault) (form : ℕ → List ℕ → Result X StreamFault)
    (next : ℕ → List ℕ → X → Reading Y) → LineIs place number text → form number text ≡ Err fault
    → Gives (λ x. x) place after (Err fault) (with_line (λ line text. lifted (form line text) >>= next line text))
line_refused place after number text fault form next is refused =
    gives_line place after number text (Err fault) (λ line text. lifted (form line text) >>= next line text) is
    (gives_same (λ x. x) place after (Err fault) (lifted (Err fault) >>= next number text) (lifted (form number text) >>= next number text)
    (ap (λ (r : Result _ StreamFault). lifted r >>= next number text) (sym refused)) (gives_refused (λ x. x) place after fault (next number text)))

-- the line in front says x, and what follows goes on
pub line_read : {X Y : Type 0} (place after : Option Place) (number : ℕ) (text : List ℕ) (x : X) (result : Result Y StreamFault)
    (form : ℕ → List ℕ → Result X StreamFault) (next : ℕ → List ℕ → X → Reading Y) → LineIs place number text → form number text ≡ Ok x
    → Gives (λ y. y) place after result (next number text x)
    → Gives (λ y. y) place after result (with_line (λ line text. lifted (form line text) >>= next line text))
line_read place after number text x result form next is says gives =
    gives_line place after number text result (λ line text. lifted (form line text) >>= next line text) is
    (gives_same (λ y. y) place after result (next number text x) (lifted (form number text) >>= next number text)
    (ap (λ (r : Result _ StreamFault). lifted r >>= next number text) (sym says)) gives)

-- a line that says x was taken
pub line_taken : {X : Type 0} (place mid : Option Place) (number : ℕ) (text : List ℕ) (x : X) (form : ℕ → List ℕ → Result X StreamFault)
    → LineIs place number text → form number text ≡ Ok x → mid ≡ option_map past_line place → Gives (λ y. y) place mid (Ok x) (line_as form)
line_taken place mid number text x form is says goes =
    line_read place mid number text x (Ok x) form (λ line text x. take_line >>= (λ _. pure x)) is says
    (gives_past_line (λ y. y) place mid mid (Ok x) (λ _. pure x) goes (gives_pure (λ y. y) mid x x refl))

module _ {X : Type 0} (limits : Limits) (word : List ℕ) (form : ℕ → List ℕ → Result X StreamFault) (before mid : Option Place) where
  pub optional_stopped : (after : Option Place) (fault : StreamFault) → Gives (λ x. x) before mid (Err fault) (at_word limits word)
      → Gives (λ x. x) before after (Err fault) (optional limits word form)
  optional_stopped after fault gives = gives_stopped (λ x. x) (λ x. x) before mid after (at_word limits word) _ fault gives

  pub optional_absent : Gives (λ x. x) before mid (Ok false) (at_word limits word) → Gives (λ x. x) before mid (Ok None) (optional limits word form)
  optional_absent gives = gives_then (λ x. x) (λ x. x) before mid mid (at_word limits word) _ false (Ok None) gives (gives_pure (λ x. x) mid None None refl)

  pub optional_refused : (after : Option Place) (number : ℕ) (text : List ℕ) (fault : StreamFault) → Gives (λ x. x) before mid (Ok true) (at_word limits word)
      → LineIs mid number text → form number text ≡ Err fault → Gives (λ x. x) before after (Err fault) (optional limits word form)
  optional_refused after number text fault gives is refused =
      gives_then (λ x. x) (λ x. x) before mid after (at_word limits word) _ true (Err fault) gives
      (gives_stopped (λ x. x) (λ x. x) mid after after (line_as form) (λ x. pure (Some x)) fault
      (line_refused mid after number text fault form (λ _ _ x. take_line >>= (λ _. pure x)) is refused))

  pub optional_taken : (after : Option Place) (number : ℕ) (text : List ℕ) (x : X) → Gives (λ x. x) before mid (Ok true) (at_word limits word)
      → LineIs mid number text → form number text ≡ Ok x → after ≡ option_map past_line mid
      → Gives (λ x. x) before after (Ok (Some x)) (optional limits word form)
  optional_taken after number text x gives is says goes =
      gives_then (λ x. x) (λ x. x) before mid after (at_word limits word) _ true (Ok (Some x)) gives
      (gives_then (λ x. x) (λ x. x) mid after after (line_as form) (λ x. pure (Some x)) x (Ok (Some x)) (line_taken mid after number text x form is says goes)
      (gives_pure (λ x. x) after (Some x) (Some x) refl))

  pub required_stopped : (after : Option Place) (fault : StreamFault) → Gives (λ x. x) before mid (Err fault) (must_be_at limits word)
      → Gives (λ x. x) before after (Err fault) (required limits word (line_as form))
  required_stopped after fault gives = gives_stopped (λ x. x) (λ x. x) before mid after (must_be_at limits word) (λ _. line_as form) fault gives

  pub required_refused : (after : Option Place) (number : ℕ) (text : List ℕ) (fault : StreamFault) → Gives (λ x. x) before mid (Ok tt) (must_be_at limits word)
      → LineIs mid number text → form number text ≡ Err fault → Gives (λ x. x) before after (Err fault) (required limits word (line_as form))
  required_refused after number text fault gives is refused =
      gives_then (λ x. x) (λ x. x) before mid after (must_be_at limits word) (λ _. line_as form) tt (Err fault) gives
      (line_refused mid after number text fault form (λ _ _ x. take_line >>= (λ _. pure x)) is refused)

  pub required_taken : (after : Option Place) (number : ℕ) (text : List ℕ) (x : X) → Gives (λ x. x) before mid (Ok tt) (must_be_at limits word)
      → LineIs mid number text → form number text ≡ Ok x → after ≡ option_map past_line mid
      → Gives (λ x. x) before after (Ok x) (required limits word (line_as form))
  required_taken after number text x gives is says goes =
      gives_then (λ x. x) (λ x. x) before mid after (must_be_at limits word) (λ _. line_as form) tt (Ok x) gives
      (line_taken mid after number text x form is says goes)
