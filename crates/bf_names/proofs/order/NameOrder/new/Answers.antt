use Rattle.std.proofs.Common.{rules, ◌≡◌, List, length, subst, ap, arith}
use Rattle.std.proofs.lemmas.List.Sorted.{answers_always, ranks_by}
use Rattle.std.proofs.lemmas.Cmp.{nat_list_cmp_total}
use Rattle.std.specs.Cmp.Lexicographic.{slice_cmp}
use Rattle.std.specs.Ordering.{is_lt, nat_cmp}
use Rattle.std.specs.List.Sorted.{IsPermutation}
use Rattle.bf_names.specs.declared.order.Spelled.{Spelled}
use Rattle.bf_names.proofs.Found.{spelled_more, as_long, spelled_all}
use Rattle.bf_names.proofs.order.NameOrder.new.Goals as goal

pub loop-place-preserved : goal.loop-place-preserved
loop-place-preserved c =
    spelled_more c.args.names.now c.loop-place.place _ _ _ _ (omega (arith, c.requires, c.loop-place-test.true)) c.loop-place.invariant c.spell.ensures
    c.in_ok-push.ensures.items

pub invariant_of-result : goal.invariant_of-result
invariant_of-result c =
    omega (
      arith,
      c.sort_unstable_by.ensures.len,
      as_long c.args.names.now c.loop-place.place _ c.loop-place.invariant,
      c.loop-place.auto.place-end,
      c.ranges.len.fits,
    )

pub returns : goal.returns
returns c =
    let all : c.loop-place.place ≡ length c.args.names.now = omega (arith, c.requires, c.loop-place-test.false, c.loop-place.auto.place-end) in
    record {
      all = subst (λ (xs : List Spelled). IsPermutation xs c.sort_unstable_by.new.self.items)
          (spelled_all c.args.names.now c.loop-place.place _ all c.loop-place.invariant) c.sort_unstable_by.ensures.permutation;
      ascend = c.sort_unstable_by.ensures.sorted (λ (name other : Spelled). is_lt (slice_cmp nat_cmp name.digits other.digits))
          (ranks_by nat_list_cmp_total (λ (name : Spelled). name.digits))
          (answers_always _ _ _ (λ f a r g h. let told : r ≡ slice_cmp nat_cmp a.0.now.digits a.1.0.now.digits = search rules in ap is_lt told));
    }
