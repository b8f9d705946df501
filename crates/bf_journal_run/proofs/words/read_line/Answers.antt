use Rattle.std.proofs.Common.{ℕ, ap, sym, ◌∙◌, Result, Ok}
use Rattle.bf_commands.specs.Journal.{in_legs}
use Rattle.bf_grammar.specs.Forms.{◌>>=◌}
use Rattle.bf_words.specs.declared.request.Request.{Request}
use Rattle.bf_journal_run.proofs.Asking.{refused_legs}
use Rattle.bf_journal_run.proofs.words.read_line.Goals as goal

pub returns-in-Ok : goal.returns-in-Ok
returns-in-Ok c = ap (λ (o : Result Request ℕ). o >>= λ r. Ok (in_legs r)) c.in-Ok.ensures ∙ ap (λ (r : Request). Ok r) (sym c.in_legs.ensures)

pub returns-in-Err : goal.returns-in-Err
returns-in-Err c = refused_legs _ c.in-Err.fault c.in-Err.ensures
