use Rattle.std.proofs.Common.{◌≡◌, ℕ, Bool, true, false, List, Result, Ok, Err, Option, Some, is_some, refl, sym, ◌∙◌, ap, codes}
use Rattle.std.specs.List.{list_any, starts_with, before_first, after_first}
use Rattle.std.specs.Prelude.{◌==◌, ◌++◌, drop, IfSome}
use Rattle.bf_grammar.specs.declared.fault.StreamFault.TheVariants.{Syntax}
use Rattle.std.specs.Borrow.{Bor}
use Rattle.bf_oid.specs.declared.object.Mode.{Mode}
use Rattle.bf_grammar.specs.declared.command.ContentForm.{ContentForm}
use Rattle.bf_grammar.specs.declared.fault.StreamFault.{StreamFault}
use Rattle.bf_grammar.specs.Forms.{is_space, text_after, mode_of, content_of, behind_mode, modify_form, modified_path, where_so}
use Rattle.bf_grammar.specs.Forms as forms
use Rattle.bf_forms.specs.Changes.{Modifies}
use Rattle.bf_forms.proofs.Refusals.{refused}
use Rattle.bf_forms.proofs.changes.modify_line.Goals as goal

-- what follows the word of a line, where it is there
behind_is : (test : Bool) (fault : StreamFault) (whole part : List ℕ) → where_so test fault whole ≡ Ok part → part ≡ whole
behind_is true fault whole part is = cc
behind_is false fault whole part is = absurd (cc)

-- a line whose mode is read and which has three words is what its content says
words_say : (line : ℕ) (text body : List ℕ) (mode : Mode) → text_after line (codes "M") text ≡ Ok body → mode_of line (before_first is_space body) ≡ Ok mode
    → list_any is_space body ≡ true → list_any is_space (behind_mode body) ≡ true
    → (said : Result ContentForm StreamFault) → content_of line (before_first is_space (behind_mode body)) ≡ said
    → modify_form line text ≡ forms.◌>>=◌ said (λ content. Ok (mode, content))
unfolding modify_form
words_say line text body mode reads names one two said is = rw (reads, names, one, two, is) refl

-- the two texts behind the first two words, where they are there
texts_are : (body : List ℕ) (first second : Option (Bor (List ℕ))) (rest path : Bor (List ℕ))
    → first ≡ Some rest → is_some first ≡ list_any is_space body → IfSome first (λ text. text.now ≡ after_first is_space body)
    → second ≡ Some path → is_some second ≡ list_any is_space rest.now → IfSome second (λ text. text.now ≡ after_first is_space rest.now)
    → (list_any is_space body ≡ true) × (rest.now ≡ behind_mode body) × (list_any is_space (behind_mode body) ≡ true)
    × (path.now ≡ after_first is_space (behind_mode body))
texts_are body first second rest path is found after is_second found_second after_second =
    let behind : rest.now ≡ behind_mode body = rw is at after in (
      sym found ∙ ap is_some is,
      behind,
      ap (list_any is_space) (sym behind) ∙ (sym found_second ∙ ap is_some is_second),
      (rw is_second at after_second) ∙ ap
          (after_first is_space) behind,
    )

pub returns-in_err-content-clause-value : goal.returns-in_err-content-clause-value
returns-in_err-content-clause-value c =
    let line = c.args.line in
    let body = c.in_ok-text_after.field-0.now in
    let texts = texts_are body c.cut.result.1 c.cut-2.result.1 c.in-Some.rest c.in-Some-path.path c.in-Some.is c.cut.ensures.found c.cut.ensures.after
    c.in-Some-path.is c.cut-2.ensures.found c.cut-2.ensures.after in
    refused c.from_residual-in_err-content.result c.in_err-content.field-0.0 (Modifies line c.args.text.now)
    (λ fault. modify_form line c.args.text.now ≡ Err fault) c.from_residual-in_err-content.ensures.1
    (words_say line c.args.text.now body c.in_ok-mode.mode c.in_ok-text_after.ensures.value
    (ap (mode_of line) (sym c.cut.ensures.before) ∙ sym c.in_ok-mode.ensures.value) texts.0 texts.2
    (Err c.in_err-content.field-0.0)
    (ap (λ (text : List ℕ). content_of line (before_first is_space text)) (sym texts.1) ∙
    (ap (content_of line) (sym c.cut-2.ensures.before) ∙ sym c.in_err-content.ensures.value)))

pub returns-clause-value : goal.returns-clause-value
returns-clause-value c =
    let line = c.args.line in
    let body = c.in_ok-text_after.field-0.now in
    let texts = texts_are body c.cut.result.1 c.cut-2.result.1 c.in-Some.rest c.in-Some-path.path c.in-Some.is c.cut.ensures.found c.cut.ensures.after
    c.in-Some-path.is c.cut-2.ensures.found c.cut-2.ensures.after in (
      words_say line c.args.text.now body c.in_ok-mode.mode c.in_ok-text_after.ensures.value
          (ap (mode_of line) (sym c.cut.ensures.before) ∙ sym c.in_ok-mode.ensures.value) texts.0 texts.2
          (Ok c.in_ok-content.content)
          (ap (λ (text : List ℕ). content_of line (before_first is_space text)) (sym texts.1) ∙
          (ap (content_of line) (sym c.cut-2.ensures.before) ∙ sym c.in_ok-content.ensures.value)),
      texts.3 ∙ ap (λ (text : List ℕ). after_first is_space (behind_mode text))
          (behind_is (starts_with ◌==◌ c.args.text.now (codes "M" ++ codes " ")) (Syntax line) (drop 2 c.args.text.now) body c.in_ok-text_after.ensures.value),
    )
