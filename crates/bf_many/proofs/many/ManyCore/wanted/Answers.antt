use Rattle.std.proofs.Common.{◌≡◌, List, IfOk, drop, length, sym, ap, subst, ◌∙◌, arith}
use Rattle.std.proofs.lemmas.List.{take_at}
use Rattle.std.proofs.lemmas.List.Elements.{length_all_zip}
use Rattle.bf_core.specs.Machine.{IsSameButNodes, Machine}
use Rattle.bf_many.specs.Cores.{AreCores, AreWanting}
use Rattle.bf_many.proofs.Stepping.{same_cores}
use Rattle.bf_many.proofs.many.ManyCore.wanted.Goals as goal

pub invariant_of-self : goal.invariant_of-self
invariant_of-self c =
    let before : AreCores c.as_mut_slice.result.now = subst AreCores (sym c.as_mut_slice.ensures.value) c.self.invariant in
    let after : AreCores c.wanting.new.cores = same_cores c.as_mut_slice.result.now c.wanting.new.cores c.wanting.ensures.same before in
    let long : length c.wanting.new.cores ≡ length c.self.inside.cores.items
    = sym (length_all_zip IsSameButNodes c.as_mut_slice.result.now c.wanting.new.cores c.wanting.ensures.same)
    ∙ ap (λ (l : List Machine). length l) c.as_mut_slice.ensures.value in
    let whole : length c.wanting.new.cores ≡ c.self.inside.cores.len = omega (arith, long, c.self.inside.cores.ok.0) in
    subst AreCores (sym (take_at c.wanting.new.cores (drop (length c.wanting.new.cores) c.self.inside.cores.items) c.self.inside.cores.len whole)) after

pub returns-clause-wanted : goal.returns-clause-wanted
returns-clause-wanted c =
    subst (λ (l : List Machine). IfOk c.wanting.result (λ searches. AreWanting l c.args.place searches.items))
    (c.as_mut_slice.ensures.value ∙ c.self.view_is) c.wanting.ensures.wanted
