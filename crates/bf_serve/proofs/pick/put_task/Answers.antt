use Rattle.std.proofs.Common.{ℕ, List, ◌++◌, length, sym, ap, ◌∙◌}
use Rattle.std.proofs.lemmas.Bool.{ltb-false}
use Rattle.std.proofs.lemmas.Option.{slice_get_past}
use Rattle.std.specs.List.{slice_get}
use Rattle.bf_oid.specs.declared.object.Oid.{Oid}
use Rattle.bf_protocol.specs.Events.{Test, reply_text}
use Rattle.bf_serve.proofs.Picked.{no_digits}
use Rattle.bf_serve.proofs.Texts.{on_ok}
use Rattle.bf_serve.proofs.pick.put_task.Goals as goal

pub returns-in-None : goal.returns-in-None
returns-in-None c =
    let past = ltb-false c.args.place (length c.names.result.now) (sym c.in-None.ensures.lookup.0) in
    on_ok c.put_test-in-None.result
    (λ h. h ∙ ap (λ (digits : List ℕ). c.args.out.now ++ reply_text (Test c.args.number digits))
    (sym (no_digits c.args.history.now c.args.place
    (ap (λ (names : List Oid). slice_get names c.args.place) (sym c.names.ensures.value)
    ∙ slice_get_past c.names.result.now c.args.place past))))
    c.put_test-in-None.ensures
