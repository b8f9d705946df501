use Rattle.std.proofs.Common.{ℕ, List, sym, subst, ◌∙◌, arith}
use Rattle.bf_reach.specs.Marks.{Marks}
use Rattle.bf_reach.proofs.Marking.{Marks-start, Marks-skip, Marks-more, Marks-down}
use Rattle.bf_reach.proofs.reach.Reach.walk.Goals as goal

pub loop-place-init : goal.loop-place-init
loop-place-init c = Marks-start _ _ _ c.requires.marks

pub get-requires : goal.get-requires
get-requires c = omega (arith, c.loop-place.invariant.same_length)

pub loop-place-preserved-then-get : goal.loop-place-preserved-then-get
loop-place-preserved-then-get c =
    rw c.mark_all.ensures (Marks-more _ _ c.parents.ensures.parents (omega arith) (sym c.get.ensures ∙ c.if-get.true) c.parents.ensures.earlier
    c.loop-place.invariant)

pub loop-place-preserved : goal.loop-place-preserved
loop-place-preserved c = Marks-skip _ (omega arith) (sym c.get.ensures ∙ c.if-get.false) c.loop-place.invariant

pub returns : goal.returns
returns c = subst (λ (g : List (List ℕ)). Marks g c.args.out.now c.loop-place.out c.args.low) c.self.view_is (Marks-down (omega arith) c.loop-place.invariant)
