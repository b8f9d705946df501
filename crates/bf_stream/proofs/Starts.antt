-- What the lines of data parts and changes, the first line of a command and the end of the input give.
use Rattle.std.proofs.Common.{◌≡◌, ℕ, Bool, true, false, cond, List, Option, Some, None, Result, Ok, Err, refl, sym, ◌∙◌, ap}
use Rattle.std.proofs.Common.{codes, arith}
use Rattle.bf_grammar.specs.declared.command.Change.{Change}
use Rattle.bf_grammar.specs.declared.command.Change.TheVariants.{Modify, Delete, DeleteAll}
use Rattle.bf_grammar.specs.declared.command.Command.{Command}
use Rattle.bf_grammar.specs.declared.command.ContentForm.{ContentForm}
use Rattle.bf_grammar.specs.declared.command.DataForm.{DataForm}
use Rattle.bf_grammar.specs.declared.command.DataRef.{DataRef}
use Rattle.bf_grammar.specs.declared.command.Head.{Head}
use Rattle.bf_grammar.specs.declared.fault.Limits.{Limits}
use Rattle.bf_grammar.specs.declared.fault.StreamFault.{StreamFault}
use Rattle.bf_grammar.specs.declared.fault.StreamFault.TheVariants.{Syntax, Read, NoDone}
use Rattle.bf_oid.specs.declared.object.Mode.{Mode}
use Rattle.bf_grammar.specs.Place.{Place, Reading, Gives, pure, lifted, ◌>>=◌}
use Rattle.bf_grammar.specs.Lines.{is_text, take_line}
use Rattle.bf_grammar.specs.Forms.{where_so, data_form, modified_path}
use Rattle.bf_grammar.specs.Commands.{content_at, announced_at, dataref_at, command_of, done_is_due, end_of_input}
use Rattle.bf_grammar.proofs.Parts.{LineIs}
use Rattle.bf_stream.specs.declared.cursor.Cursor.{Cursor}
use Rattle.bf_stream.specs.Cursor.{Reads, place_at, limits_of, line_of, is_due}
use Rattle.bf_stream.specs.Held.{Held, place_in, place_of}
use Rattle.bf_stream.proofs.Chains.{reads_then, reads_stopped, reads_pure, reads_said, reads_unsaid, reads_line, reads_same}
use Rattle.bf_stream.specs.Parts.{content_named}
use Rattle.bf_stream.proofs.Lines.{reads_value}

-- what follows a line `M`, `D` or `deleteall` that is read, and the first line of a command
abbrev pub modify_next : ℕ → List ℕ → Mode × ContentForm → Limits → Reading Change
modify_next line text form limits = take_line >>= (λ _. dataref_at limits form.1 >>= (λ dataref. pure (Modify line form.0 dataref (modified_path text))))

abbrev pub delete_next : ℕ → List ℕ → List ℕ → Limits → Reading Change
delete_next line text path limits = take_line >>= (λ _. pure (Delete line path))

abbrev pub delete_all_form : ℕ → List ℕ → Result (Unit {0}) StreamFault
delete_all_form line text = where_so {X = Unit {0}} (is_text (codes "deleteall") text) (Syntax line) tt

abbrev pub delete_all_next : ℕ → List ℕ → Unit {0} → Limits → Reading Change
delete_all_next line text _ limits = take_line >>= (λ _. pure (DeleteAll line))

abbrev pub command_next : ℕ → List ℕ → Head → Limits → Reading (Option Command)
command_next line text first limits = command_of limits line text first

-- a file whose line was taken, and its content
module _ {S : Type 0} {left : S → Option (List ℕ)} {faults : S → ℕ} {a b c : Cursor S} (line : ℕ) (text : List ℕ) (mode : Mode) (form : ContentForm)
    (taken : Reads left faults a b (Ok tt) (λ _. take_line)) where
  pub modify_stopped : {fault : StreamFault} → Reads left faults b c (Err fault) (content_named form)
      → Reads left faults a c (Err fault) (modify_next line text (mode, form))
  modify_stopped reads =
      reads_then (λ _ limits. dataref_at limits form >>= (λ dataref. pure (Modify line mode dataref (modified_path text)))) taken
      (reads_stopped (λ dataref _. pure (Modify line mode dataref (modified_path text))) reads)

  pub modify_read : {dataref : DataRef} (path : List ℕ) → path ≡ modified_path text → Reads left faults b c (Ok dataref) (content_named form)
      → Reads left faults a c (Ok (Modify line mode dataref path)) (modify_next line text (mode, form))
  modify_read {dataref = dataref} path is reads =
      reads_then (λ _ limits. dataref_at limits form >>= (λ dataref. pure (Modify line mode dataref (modified_path text)))) taken
      (reads_then (λ dataref _. pure (Modify line mode dataref (modified_path text))) reads
      (reads_value left faults c (Modify line mode dataref path) (Modify line mode dataref (modified_path text)) (ap (λ p. Modify line mode dataref p) is)))

-- what follows a line `data` that is read
abbrev data_next : ℕ → List ℕ → DataForm → Limits → Reading (List ℕ)
data_next line text form limits = take_line >>= (λ _. content_at limits line text form)

module _ {S : Type 0} {left : S → Option (List ℕ)} {faults : S → ℕ} {a : Cursor S} (number : ℕ) (text : List ℕ) (is : LineIs (place_at left a) number text)
  where
    -- the line `data` in front is refused
    pub announced_refused : (fault : StreamFault) → data_form (limits_of a) number text ≡ Err fault → (fault ≡ Read → ⊥)
        → Reads left faults a a (Err fault) announced_at
    unfolding announced_at
    announced_refused fault refused other =
        reads_line number text (λ line text limits. lifted (data_form limits line text) >>= λ form. data_next line text form limits) is
        (reads_same {first = λ limits. lifted (data_form (limits_of a) number text) >>= λ form. data_next number text form limits}
        (λ limits. lifted (data_form limits number text) >>= λ form. data_next number text form limits) refl
        (reads_unsaid left faults a (data_form (limits_of a) number text) fault (data_next number text) refused other))

    -- the line `data` in front was taken, and then what it announces
    pub announced_read : {b c : Cursor S} {result : Result (List ℕ) StreamFault} (form : DataForm) → data_form (limits_of a) number text ≡ Ok form
        → Reads left faults a b (Ok tt) (λ _. take_line)
        → Reads left faults b c result (λ limits. content_at limits number text form) → Reads left faults a c result announced_at
    unfolding announced_at
    announced_read form says taken reads =
        reads_line number text (λ line text limits. lifted (data_form limits line text) >>= λ form. data_next line text form limits) is
        (reads_same {first = λ limits. lifted (data_form (limits_of a) number text) >>= λ form. data_next number text form limits}
        (λ limits. lifted (data_form limits number text) >>= λ form. data_next number text form limits) refl
        (reads_said (data_form (limits_of a) number text) form (data_next number text) says
        (reads_then (λ _ limits. content_at limits number text form) taken reads)))

-- the line `feature done` was taken, and from now on the stream must end with `done`
pub feature_done : {S : Type 0} {left : S → Option (List ℕ)} {faults : S → ℕ} {a b c : Cursor S} (command : Command)
    → Reads left faults a b (Ok tt) (λ _. take_line) → Reads left faults b c (Ok tt) (λ _. done_is_due)
    → Reads left faults a c (Ok (Some command)) (λ _. take_line >>= λ _. done_is_due >>= λ _. pure (Some command))
feature_done {left = left} {faults = faults} {c = c} command taken due =
    reads_then (λ _ _. done_is_due >>= λ _. pure (Some command)) taken (reads_then (λ _ _. pure (Some command)) due (reads_pure left faults c (Some command)))

end_at_due : (place : Place) → place.done_due ≡ true → end_of_input place ≡ Err (NoDone place.line)
end_at_due place due = ap (λ (b : Bool). cond {A = Result (Option Command × Place) StreamFault} b (Err (NoDone place.line)) (Ok (None, place))) due

end_at_free : (place : Place) → place.done_due ≡ false → end_of_input place ≡ Ok (None, place)
end_at_free place free = ap (λ (b : Bool). cond {A = Result (Option Command × Place) StreamFault} b (Err (NoDone place.line)) (Ok (None, place))) free

-- the end of the input, where `done` is due, and where it isn't
end_due : (held : Held) (left : Option (List ℕ)) (after : Option Place) (number : ℕ) → held.done_due ≡ true → number ≡ held.line
    → Gives (λ x. x) (place_of held left) after (Err (NoDone number)) end_of_input
end_due held None after number due is = tt
end_due held (Some left) after number due is = end_at_due (place_in held left) due ∙ ap (λ n. Err (NoDone n)) (sym is)

end_free : (held : Held) (left : Option (List ℕ)) → held.done_due ≡ false → Gives (λ x. x) (place_of held left) (place_of held left) (Ok None) end_of_input
end_free held None free = refl
end_free held (Some left) free = (place_in held left, end_at_free (place_in held left) free, refl)

-- the same, as a cursor stands there
pub ends_due : {S : Type 0} (left : S → Option (List ℕ)) (faults : S → ℕ) (a : Cursor S) (number : ℕ) → is_due a ≡ true → number ≡ line_of a
    → Reads left faults a a (Err (NoDone number)) (λ _. end_of_input)
ends_due left faults a number due is = record {
  gives = end_due a.window (left a.source.now) (place_at left a) number due is;
  turns = omega arith;
  cause = record { later = omega arith; failed = λ is. absurd (cc) };
  limits = refl;
  source = refl;
  beyond = refl;
}

pub ends_free : {S : Type 0} (left : S → Option (List ℕ)) (faults : S → ℕ) (a : Cursor S) → is_due a ≡ false
    → Reads left faults a a (Ok None) (λ _. end_of_input)
ends_free left faults a free = record {
  gives = end_free a.window (left a.source.now) free;
  turns = omega arith;
  cause = record { later = omega arith; failed = λ is. absurd (cc) };
  limits = refl;
  source = refl;
  beyond = refl;
}
