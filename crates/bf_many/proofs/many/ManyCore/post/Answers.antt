use Rattle.std.proofs.Common.{◌≡◌, true, List, set, sym, subst, rules}
use Rattle.bf_core.specs.Machine.{KeepsGuesses, Machine, StaysBeside}
use Rattle.bf_many.specs.Cores.{AreSameButNodes, ChangesOne, is_claimed}
use Rattle.bf_many.proofs.Claimed.{changed_claimed, same_claimed, withdrawn_in}
use Rattle.bf_many.proofs.many.ManyCore.post.Goals as goal

pub returns-clause-withdrawn : goal.returns-clause-withdrawn
returns-clause-withdrawn c =
    withdrawn_in c.self.inside.cores.items c.args.search c.args.worker c.args.place c.post.new.self c.in_ok-withdrawn.withdrawn.workers.items
    (subst (λ (l : List Machine). is_claimed l c.args.search c.args.worker c.args.place ≡ true) (sym c.self.view_is) c.requires)
    c.in_ok-withdrawn.ensures.withdrawn

pub returns-in_err-withdrawn-clause-err : goal.returns-in_err-withdrawn-clause-err
returns-in_err-withdrawn-clause-err c =
    let all : AreSameButNodes c.self.inside.cores.items (set c.self.inside.cores.items c.args.search c.post.new.self)
    = same_claimed c.self.inside.cores.items c.args.search c.args.worker c.args.place c.index_mut.result.now c.post.new.self
    (subst (λ (l : List Machine). is_claimed l c.args.search c.args.worker c.args.place ≡ true) (sym c.self.view_is) c.requires)
    c.index_mut.ensures.value c.in_err-withdrawn.ensures.err in
    let same : AreSameButNodes c.args.self.now (set c.self.inside.cores.items c.args.search c.post.new.self)
    = subst (λ (l : List Machine). AreSameButNodes l (set c.self.inside.cores.items c.args.search c.post.new.self)) c.self.view_is all in
    search rules

pub returns-clause-beside : goal.returns-clause-beside
returns-clause-beside c =
    let So : Machine → Machine → Type 0 = λ before after. StaysBeside before c.args.place after in
    subst (λ (l : List Machine). ChangesOne So l c.args.search (set c.self.inside.cores.items c.args.search c.post.new.self)) c.self.view_is
    (changed_claimed So c.self.inside.cores.items c.args.search c.args.worker c.args.place c.index_mut.result.now c.post.new.self
    (subst (λ (l : List Machine). is_claimed l c.args.search c.args.worker c.args.place ≡ true) (sym c.self.view_is) c.requires)
    c.index_mut.ensures.value c.in_ok-withdrawn.ensures.beside)

pub returns-clause-nodes : goal.returns-clause-nodes
returns-clause-nodes c =
    subst (λ (l : List Machine). ChangesOne KeepsGuesses l c.args.search (set c.self.inside.cores.items c.args.search c.post.new.self)) c.self.view_is
    (changed_claimed KeepsGuesses c.self.inside.cores.items c.args.search c.args.worker c.args.place c.index_mut.result.now c.post.new.self
    (subst (λ (l : List Machine). is_claimed l c.args.search c.args.worker c.args.place ≡ true) (sym c.self.view_is) c.requires)
    c.index_mut.ensures.value c.in_ok-withdrawn.ensures.nodes)
