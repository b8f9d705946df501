use Rattle.std.proofs.Common.{◌∙◌, subst, sym}
use Rattle.bf_many.specs.declared.answers.ManyPick.{ManyPick}
use Rattle.bf_many.specs.Cores.{Picks}
use Rattle.bf_output.specs.Beginning.{commits_of}
use Rattle.bf_serve.specs.declared.session.Lull.TheVariants as lulls
use Rattle.bf_serve.specs.declared.session.Session.{Session}
use Rattle.bf_serve.specs.Serving.{pick_turn}
use Rattle.bf_serve.specs.Steps.{Serves, searches_in}
use Rattle.bf_serve.proofs.Picked.{all_over, all_taken, served_rest, served_task}
use Rattle.bf_serve.proofs.Texts.{on_ok}
use Rattle.bf_serve.proofs.session.Session.pick.Goals as goal

pub returns-in-Work : goal.returns-in-Work
returns-in-Work c =
    on_ok c.put_task.result
    (λ h. served_task c.args.self.now c.pick.new.self c.args.worker c.in-Work.search c.in-Work.place c.args.out.now c.put_task.new.out c.requires
    (sym c.is_busy.ensures ∙ c.if-is_busy.false) c.in_default.is
    (subst (λ (found : ManyPick). Picks c.args.self.now.many c.args.worker c.pick.new.self found) c.in-Work.is c.in_ok-search.ensures.picks)
    c.pick.ensures.consumed h)
    c.put_task.ensures

pub returns-in-NotYet : goal.returns-in-NotYet
returns-in-NotYet c =
    on_ok c.rest.result
    (λ h. subst (λ (new : Session). Serves (pick_turn (commits_of c.args.self.now.history.now) (searches_in c.args.self.now) c.args.worker)
    c.args.self.now new c.args.out.now c.rest.new.out) (sym c.rest.ensures.session)
    (served_rest c.args.self.now c.pick.new.self c.args.worker lulls.Wait c.args.out.now c.rest.new.out c.requires
    (sym c.is_busy.ensures ∙ c.if-is_busy.false) (all_taken c.args.self.now c.requires (c.in_ok-search.ensures.not_yet.0 c.in-NotYet.is))
    (subst (λ (found : ManyPick). Picks c.args.self.now.many c.args.worker c.pick.new.self found) c.in-NotYet.is c.in_ok-search.ensures.picks)
    c.pick.ensures.consumed h))
    c.rest.ensures.text

pub returns-in-Ended : goal.returns-in-Ended
returns-in-Ended c =
    on_ok c.rest-in-Ended.result
    (λ h. subst (λ (new : Session). Serves (pick_turn (commits_of c.args.self.now.history.now) (searches_in c.args.self.now) c.args.worker)
    c.args.self.now new c.args.out.now c.rest-in-Ended.new.out) (sym c.rest-in-Ended.ensures.session)
    (served_rest c.args.self.now c.pick.new.self c.args.worker lulls.Over c.args.out.now c.rest-in-Ended.new.out c.requires
    (sym c.is_busy.ensures ∙ c.if-is_busy.false) (all_over c.args.self.now c.requires (c.in_ok-search.ensures.ended.0 c.in-Ended.is))
    (subst (λ (found : ManyPick). Picks c.args.self.now.many c.args.worker c.pick.new.self found) c.in-Ended.is c.in_ok-search.ensures.picks)
    c.pick.ensures.consumed h))
    c.rest-in-Ended.ensures.text
