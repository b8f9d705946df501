use Rattle.std.proofs.Common.{List, set, sym, subst, rules}
use Rattle.bf_core.specs.Machine.{KeepsGuesses, Machine, StaysBeside, IsLearnt}
use Rattle.bf_many.specs.Cores.{AreSameButNodes, ChangesOne, IsFreeIn}
use Rattle.bf_many.proofs.Claimed.{changed_at, same_at, withdrawn_at}
use Rattle.bf_many.proofs.many.ManyCore.learn.Goals as goal

pub returns-clause-withdrawn : goal.returns-clause-withdrawn
returns-clause-withdrawn c =
    let free : IsFreeIn c.self.inside.cores.items c.args.search c.args.place
    = subst (λ (l : List Machine). IsFreeIn l c.args.search c.args.place) (sym c.self.view_is) c.requires in
    withdrawn_at c.self.inside.cores.items c.args.search free.core c.learn.new.self c.in_ok-withdrawn.withdrawn.workers.items free.at
    c.in_ok-withdrawn.ensures.withdrawn

pub returns-in_err-withdrawn-clause-err : goal.returns-in_err-withdrawn-clause-err
returns-in_err-withdrawn-clause-err c =
    let free : IsFreeIn c.self.inside.cores.items c.args.search c.args.place
    = subst (λ (l : List Machine). IsFreeIn l c.args.search c.args.place) (sym c.self.view_is) c.requires in
    let all : AreSameButNodes c.self.inside.cores.items (set c.self.inside.cores.items c.args.search c.learn.new.self)
    = same_at c.self.inside.cores.items c.args.search free.core c.index_mut.result.now c.learn.new.self free.at
    c.index_mut.ensures.value c.in_err-withdrawn.ensures.err in
    let same : AreSameButNodes c.args.self.now (set c.self.inside.cores.items c.args.search c.learn.new.self)
    = subst (λ (l : List Machine). AreSameButNodes l (set c.self.inside.cores.items c.args.search c.learn.new.self)) c.self.view_is all in
    search rules

pub returns-clause-learnt : goal.returns-clause-learnt
returns-clause-learnt c =
    let So : Machine → Machine → Type 0 = λ before after. IsLearnt before c.args.place c.args.outcome after in
    let free : IsFreeIn c.self.inside.cores.items c.args.search c.args.place
    = subst (λ (l : List Machine). IsFreeIn l c.args.search c.args.place) (sym c.self.view_is) c.requires in
    subst (λ (l : List Machine). ChangesOne So l c.args.search (set c.self.inside.cores.items c.args.search c.learn.new.self)) c.self.view_is
    (changed_at So c.self.inside.cores.items c.args.search free.core c.index_mut.result.now c.learn.new.self free.at
    c.index_mut.ensures.value c.in_ok-withdrawn.ensures.learnt)

pub returns-clause-beside : goal.returns-clause-beside
returns-clause-beside c =
    let So : Machine → Machine → Type 0 = λ before after. StaysBeside before c.args.place after in
    let free : IsFreeIn c.self.inside.cores.items c.args.search c.args.place
    = subst (λ (l : List Machine). IsFreeIn l c.args.search c.args.place) (sym c.self.view_is) c.requires in
    subst (λ (l : List Machine). ChangesOne So l c.args.search (set c.self.inside.cores.items c.args.search c.learn.new.self)) c.self.view_is
    (changed_at So c.self.inside.cores.items c.args.search free.core c.index_mut.result.now c.learn.new.self free.at
    c.index_mut.ensures.value c.in_ok-withdrawn.ensures.beside)

pub returns-clause-nodes : goal.returns-clause-nodes
returns-clause-nodes c =
    let So : Machine → Machine → Type 0 = λ before after. KeepsGuesses before after in
    let free : IsFreeIn c.self.inside.cores.items c.args.search c.args.place
    = subst (λ (l : List Machine). IsFreeIn l c.args.search c.args.place) (sym c.self.view_is) c.requires in
    subst (λ (l : List Machine). ChangesOne So l c.args.search (set c.self.inside.cores.items c.args.search c.learn.new.self)) c.self.view_is
    (changed_at So c.self.inside.cores.items c.args.search free.core c.index_mut.result.now c.learn.new.self free.at
    c.index_mut.ensures.value c.in_ok-withdrawn.ensures.nodes)
