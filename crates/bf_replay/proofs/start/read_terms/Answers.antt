use Rattle.bf_log.specs.Replay.{terms_of}
use Rattle.bf_replay.specs.Meaning.{text_of}
use Rattle.bf_replay.proofs.Folding.{terms_refused}
use Rattle.bf_replay.proofs.start.read_terms.Goals as goal

pub returns-in-Err : goal.returns-in-Err
returns-in-Err c =
    let taken = rw (c.term_or-new.ensures, c.term_or-old.ensures) at c.in-Err.ensures.taken in
    record {
      terms = tt;
      refused = rw c.term_refusal.ensures (terms_refused c.args.line
          (terms_of (text_of c.args.new) (text_of c.args.old)) _ c.in-Err.fault taken);
    }
