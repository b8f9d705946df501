use Rattle.std.proofs.Common.{◌≡◌, ℕ, true, false, List, Err, refl, sym, ◌∙◌, codes}
use Rattle.bf_grammar.specs.declared.command.Head.TheVariants as head
use Rattle.bf_grammar.specs.Lines.{is_text, has_word}
use Rattle.bf_grammar.specs.Forms.{head_of, named_head}
use Rattle.bf_forms.specs.FirstLines.{Begins}
use Rattle.bf_forms.proofs.Refusals.{refused}
use Rattle.bf_forms.proofs.first_lines.first_line.Goals as goal

named_commit : (line : ℕ) (text : List ℕ) → is_text (codes "done") text ≡ false → is_text (codes "blob") text ≡ false → has_word (codes "commit") text ≡ true
    → head_of line text ≡ named_head line (codes "commit") head.Commit text
unfolding head_of
named_commit line text done blob commit = rw (done, blob, commit) refl

named_tag : (line : ℕ) (text : List ℕ) → is_text (codes "done") text ≡ false → is_text (codes "blob") text ≡ false → has_word (codes "commit") text ≡ false
    → has_word (codes "tag") text ≡ true → head_of line text ≡ named_head line (codes "tag") head.Tag text
unfolding head_of
named_tag line text done blob commit tag = rw (done, blob, commit, tag) refl

named_reset : (line : ℕ) (text : List ℕ) → is_text (codes "done") text ≡ false → is_text (codes "blob") text ≡ false → has_word (codes "commit") text ≡ false
    → has_word (codes "tag") text ≡ false → has_word (codes "reset") text ≡ true → head_of line text ≡ named_head line (codes "reset") head.Reset text
unfolding head_of
named_reset line text done blob commit tag reset = rw (done, blob, commit, tag, reset) refl

pub returns-in_err-name_in-clause-value : goal.returns-in_err-name_in-clause-value
returns-in_err-name_in-clause-value c =
    refused c.from_residual.result c.in_err-name_in.field-0.0 (Begins c.args.line c.args.text.now) (λ fault. head_of c.args.line c.args.text.now ≡ Err fault)
    c.from_residual.ensures.1
    (named_commit c.args.line c.args.text.now (sym c.is_text.ensures ∙ c.if-is_text.false) (sym c.is_text-else-is_text.ensures ∙ c.if-is_text-2.false)
    (sym c.has_word.ensures ∙ c.if-has_word.true) ∙ c.in_err-name_in.ensures.value head.Commit)

pub returns-in_err-name_in-2-clause-value : goal.returns-in_err-name_in-2-clause-value
returns-in_err-name_in-2-clause-value c =
    refused c.from_residual-in_err-name_in-2.result c.in_err-name_in-2.field-0.0 (Begins c.args.line c.args.text.now)
    (λ fault. head_of c.args.line c.args.text.now ≡ Err fault) c.from_residual-in_err-name_in-2.ensures.1
    (named_tag c.args.line c.args.text.now (sym c.is_text.ensures ∙ c.if-is_text.false) (sym c.is_text-else-is_text.ensures ∙ c.if-is_text-2.false)
    (sym c.has_word.ensures ∙ c.if-has_word.false) (sym c.has_word-else-has_word.ensures ∙ c.if-has_word-2.true) ∙ c.in_err-name_in-2.ensures.value
    head.Tag)

pub returns-in_err-name_in-3-clause-value : goal.returns-in_err-name_in-3-clause-value
returns-in_err-name_in-3-clause-value c =
    refused c.from_residual-in_err-name_in-3.result c.in_err-name_in-3.field-0.0 (Begins c.args.line c.args.text.now)
    (λ fault. head_of c.args.line c.args.text.now ≡ Err fault) c.from_residual-in_err-name_in-3.ensures.1
    (named_reset c.args.line c.args.text.now (sym c.is_text.ensures ∙ c.if-is_text.false) (sym c.is_text-else-is_text.ensures ∙ c.if-is_text-2.false)
    (sym c.has_word.ensures ∙ c.if-has_word.false) (sym c.has_word-else-has_word.ensures ∙ c.if-has_word-2.false)
    (sym c.has_word-else-has_word-2.ensures ∙ c.if-has_word-3.true) ∙ c.in_err-name_in-3.ensures.value head.Reset)

pub returns-in_ok-name_in-clause-value : goal.returns-in_ok-name_in-clause-value
returns-in_ok-name_in-clause-value c = (
  named_commit c.args.line c.args.text.now (sym c.is_text.ensures ∙ c.if-is_text.false) (sym c.is_text-else-is_text.ensures ∙ c.if-is_text-2.false)
      (sym c.has_word.ensures ∙ c.if-has_word.true) ∙ c.in_ok-name_in.ensures.value.0 head.Commit,
  c.in_ok-name_in.ensures.value.1,
)

pub returns-in_ok-name_in-2-clause-value : goal.returns-in_ok-name_in-2-clause-value
returns-in_ok-name_in-2-clause-value c = (
  named_tag c.args.line c.args.text.now (sym c.is_text.ensures ∙ c.if-is_text.false) (sym c.is_text-else-is_text.ensures ∙ c.if-is_text-2.false)
      (sym c.has_word.ensures ∙ c.if-has_word.false) (sym c.has_word-else-has_word.ensures ∙ c.if-has_word-2.true) ∙ c.in_ok-name_in-2.ensures.value.0
      head.Tag,
  c.in_ok-name_in-2.ensures.value.1,
)

pub returns-in_ok-name_in-3-clause-value : goal.returns-in_ok-name_in-3-clause-value
returns-in_ok-name_in-3-clause-value c = (
  named_reset c.args.line c.args.text.now (sym c.is_text.ensures ∙ c.if-is_text.false) (sym c.is_text-else-is_text.ensures ∙ c.if-is_text-2.false)
      (sym c.has_word.ensures ∙ c.if-has_word.false) (sym c.has_word-else-has_word.ensures ∙ c.if-has_word-2.false)
      (sym c.has_word-else-has_word-2.ensures ∙ c.if-has_word-3.true) ∙ c.in_ok-name_in-3.ensures.value.0 head.Reset,
  c.in_ok-name_in-3.ensures.value.1,
)
