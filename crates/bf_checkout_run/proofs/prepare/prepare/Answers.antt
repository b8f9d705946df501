use Rattle.std.proofs.Common.{Ok, ◌∙◌}
use Rattle.bf_checkout_run.proofs.Furnishing.{all_loaded, all_refused, furnished_if, grounds_if, left_if}
use Rattle.bf_checkout_run.proofs.prepare.prepare.Goals as goal

pub returns-in_ok-ready-in-Ok-clause-tells : goal.returns-in_ok-ready-in-Ok-clause-tells
returns-in_ok-ready-in-Ok-clause-tells g c =
    all_loaded c.args.line.request.now c.args.line.words.now (g.F.Shelf.files c.args.shelf.now) (g.S.Source.left c.args.stream.now) c.in-Ok.content
    c.in_ok-history-in-Ok.history (Ok c.in_ok-ready-in-Ok.ready) (rw c.standard.ensures at c.in-Ok.ensures.content)
    (c.in_ok-history-in-Ok.ensures ∙ c.history.ensures.value) c.in_ok-ready-in-Ok.ensures.tells

pub returns-in_ok-ready-in-Ok-clause-shop : goal.returns-in_ok-ready-in-Ok-clause-shop
returns-in_ok-ready-in-Ok-clause-shop g c =
    furnished_if c.args.shop.now c.furnish_for.new.shop _ c.in_ok-ready-in-Ok.ready c.furnish_for.ensures

pub returns-in_ok-ready-in-Ok-clause-left : goal.returns-in_ok-ready-in-Ok-clause-left
returns-in_ok-ready-in-Ok-clause-left g c = left_if c.args.shop.now c.furnish_for.new.shop _ c.in_ok-ready-in-Ok.ready c.furnish_for.ensures

pub returns-in_ok-ready-in-Ok-clause-grounds : goal.returns-in_ok-ready-in-Ok-clause-grounds
returns-in_ok-ready-in-Ok-clause-grounds g c =
    grounds_if (g.S.Source.left c.args.stream.now) c.args.shop.now c.furnish_for.new.shop _ c.in-Ok.content c.in_ok-ready-in-Ok.ready
    (rw c.standard.ensures at c.in-Ok.ensures.content) c.in_ok-shared-in-Ok.ensures.ok c.furnish_for.ensures

pub returns-in_ok-refusal-in-Err-clause-tells : goal.returns-in_ok-refusal-in-Err-clause-tells
returns-in_ok-refusal-in-Err-clause-tells g c =
    all_refused c.args.line.request.now c.args.line.words.now (g.F.Shelf.files c.args.shelf.now) (g.S.Source.left c.args.stream.now) c.in-Err.fault
    c.in_ok-refusal-in-Err.field-0 (rw c.standard.ensures at c.in-Err.ensures.content) c.in_ok-refusal-in-Err.ensures.whole c.in_ok-refusal-in-Err.ensures.tells
