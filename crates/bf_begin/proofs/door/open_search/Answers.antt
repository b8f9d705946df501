use Rattle.bf_begin.proofs.Opening.{begun_loaded, begun_over, begun_refused, read_from}
use Rattle.bf_begin.proofs.door.open_search.Goals as goal

pub returns-in-Over-clause-begins : goal.returns-in-Over-clause-begins
returns-in-Over-clause-begins g c =
    let files = g.F.Shelf.files c.args.shelf.now in
    let opened = rw c.in-Over.is at c.in_ok-opened.ensures.opened in
    begun_loaded c.args.line files (g.S.Source.left c.args.stream.now) c.in-Over.history c.start.result opened.0
    (begun_over c.args.line files c.in-Over.history c.in-Over.file c.lent.result c.start.result opened.1 c.lent.ensures c.start.ensures.begins)

pub returns-in-Over-clause-history : goal.returns-in-Over-clause-history
returns-in-Over-clause-history g c =
    let opened = rw c.in-Over.is at c.in_ok-opened.ensures.opened in
    read_from (g.S.Source.left c.args.stream.now) c.in-Over.history c.start.result opened.0 c.start.ensures.own

pub returns-in-Refused-clause-begins : goal.returns-in-Refused-clause-begins
returns-in-Refused-clause-begins g c =
    let opened = rw c.in-Refused.is at c.in_ok-opened.ensures.opened in
    begun_refused c.args.line (g.F.Shelf.files c.args.shelf.now) (g.S.Source.left c.args.stream.now) opened.0 c.in-Refused.answer opened.1 opened.2

pub returns-in-Refused-clause-sound : goal.returns-in-Refused-clause-sound
returns-in-Refused-clause-sound g c = (rw c.in-Refused.is at c.in_ok-opened.ensures.opened).3
