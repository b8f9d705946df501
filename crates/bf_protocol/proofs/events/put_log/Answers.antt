use Rattle.std.proofs.Common.{List, ℕ, ◌++◌, sym, ap, ◌∙◌}
use Rattle.bf_protocol.proofs.Texts.{log_lines, on_ok}
use Rattle.bf_protocol.proofs.events.put_log.Goals as goal

pub returns : goal.returns
returns c =
    on_ok c.put_lines.result (λ h. h ∙ ap (λ (t : List ℕ). c.args.out.now ++ t) (sym (log_lines c.args.search c.args.text.now)))
    c.put_lines.ensures
