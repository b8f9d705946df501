use Rattle.std.proofs.Common.{ℕ, Result, Ok, sym, ◌∙◌, ap}
use Rattle.bf_history.specs.declared.fault.ImportFault.{ImportFault}
use Rattle.bf_history.specs.declared.fault.ImportFault.TheVariants.{BadFrom, NoMemory}
use Rattle.std.proofs.Common.{Some}
use Rattle.bf_history.specs.Meanings.{Loading, place_of_target, is_no_name, with_ref, after_reset}
use Rattle.bf_history.proofs.Meant.{means_same, means_at_exit, means_passed_on}
use Rattle.bf_import.specs.Growing.{Importing}
use Rattle.bf_import.proofs.Carried.{reset_cleared, reset_on}
use Rattle.bf_import.proofs.importer.Importer.reset_to.Goals as goal
use Rattle.bf_grammar.specs.Forms.{◌>>=◌}

pub returns-then-is_no_name-clause-loading : goal.returns-then-is_no_name-clause-loading
returns-then-is_no_name-clause-loading c =
    reset_cleared c.args.self.now.loading c.args.branch c.args.target.now
    (sym (ap is_no_name c.as_slice.ensures) ∙ sym c.is_no_name.ensures ∙ c.if-is_no_name.true)
    ∙ ap (λ (i : Importing). let r : Result Loading ImportFault = Ok i.loading in r) (sym c.remove_ref.ensures)

pub returns-in_err-place-clause-loading : goal.returns-in_err-place-clause-loading
returns-in_err-place-clause-loading c =
    let loading = c.args.self.now.loading in
    let view = λ (_ : Unit {0}). loading in
    let next = λ (place : ℕ). let r : Result Loading ImportFault = Ok (record loading { history = with_ref c.args.branch place loading.history }) in r in
    means_same view c.from_residual.result (place_of_target BadFrom loading c.args.target.now >>= next)
    (after_reset loading c.args.branch (Some c.args.target.now))
    (reset_on loading c.args.branch c.args.target.now (sym (ap is_no_name c.as_slice.ensures) ∙ sym c.is_no_name.ensures ∙ c.if-is_no_name.false))
    (means_passed_on (λ (place : ℕ). place) view (place_of_target BadFrom loading c.args.target.now) next c.in_err-place.field-0.0 c.from_residual.result
    c.from_residual.ensures.1 c.in_err-place.ensures.place)

pub returns-in_err-set_ref-clause-loading : goal.returns-in_err-set_ref-clause-loading
returns-in_err-set_ref-clause-loading c =
    means_at_exit (λ (_ : Unit {0}). c.set_ref.new.self.loading) (after_reset c.args.self.now.loading c.args.branch (Some c.args.target.now)) NoMemory
    c.from_residual-in_err-set_ref.result c.from_residual-in_err-set_ref.ensures.1 tt

pub returns-clause-loading : goal.returns-clause-loading
returns-clause-loading c =
    let loading = c.args.self.now.loading in
    let next = λ (place : ℕ). let r : Result Loading ImportFault = Ok (record loading { history = with_ref c.args.branch place loading.history }) in r in
    sym (reset_on loading c.args.branch c.args.target.now (sym (ap is_no_name c.as_slice.ensures) ∙ sym c.is_no_name.ensures ∙ c.if-is_no_name.false))
    ∙ ap (λ (m : Result ℕ ImportFault). m >>= next) c.in_ok-place.ensures.place
    ∙ ap (λ (i : Importing). let r : Result Loading ImportFault = Ok i.loading in r) (sym c.in_ok-set_ref.ensures)
