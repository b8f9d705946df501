use Rattle.std.proofs.Common.{ℕ, Result, Ok, ◌++◌, codes, sym, ◌∙◌, ap}
use Rattle.bf_history.specs.declared.fault.ImportFault.{ImportFault}
use Rattle.bf_history.specs.declared.fault.ImportFault.TheVariants.{Unsupported}
use Rattle.bf_history.specs.declared.marked.Marked.TheVariants as marked
use Rattle.bf_history.specs.Meanings.{Loading, place_of_target, with_ref, with_mark, after_tag}
use Rattle.bf_history.proofs.Meant.{means_passed_on}
use Rattle.bf_import.specs.Growing.{Importing}
use Rattle.bf_import.proofs.Carried.{tag_set}
use Rattle.bf_import.proofs.importer.Importer.take_tag.Goals as goal
use Rattle.bf_grammar.specs.Forms.{◌>>=◌}

pub returns-in_err-place-clause-loading : goal.returns-in_err-place-clause-loading
unfolding after_tag
returns-in_err-place-clause-loading c =
    let loading = c.args.self.now.loading in
    let next = λ (place : ℕ). let r : Result Loading ImportFault = Ok
    (record { history = with_ref (codes "refs/tags/" ++ c.args.name.now) place loading.history; marks = with_mark c.args.mark marked.Tag loading.marks }) in
    r in
    means_passed_on (λ (place : ℕ). place) (λ _. loading) (place_of_target Unsupported loading c.args.from.now) next c.in_err-place.field-0.0
    c.from_residual.result c.from_residual.ensures.1 c.in_err-place.ensures.place

pub returns-clause-loading : goal.returns-clause-loading
unfolding after_tag
returns-clause-loading c =
    let loading = c.args.self.now.loading in
    let next = λ (place : ℕ). let r : Result Loading ImportFault = Ok
    (record { history = with_ref (codes "refs/tags/" ++ c.args.name.now) place loading.history; marks = with_mark c.args.mark marked.Tag loading.marks }) in
    r in
    ap (λ (m : Result ℕ ImportFault). m >>= next) c.in_ok-place.ensures.place
    ∙ ap (λ (l : Loading). let r : Result Loading ImportFault = Ok l in r)
    (sym (tag_set c.args.self.now c.set_ref.new.self c.set_mark.new.self c.args.name.now c.in_ok-full.full c.in_ok-place.place c.args.mark c.in_ok-full.ensures
    c.in_ok-set_ref.ensures c.in_ok-set_mark.ensures))

pub returns-clause-limits : goal.returns-clause-limits
returns-clause-limits c = ap (λ (i : Importing). i.limits) c.in_ok-set_mark.ensures ∙ ap (λ (i : Importing). i.limits) c.in_ok-set_ref.ensures
