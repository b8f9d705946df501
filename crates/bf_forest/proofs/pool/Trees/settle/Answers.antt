use Rattle.std.proofs.Common.{◌≡◌, ℕ, ◌<◌, List, [], length, Option, Some, sym, ap, ◌∙◌, subst, arith}
use Rattle.std.proofs.lemmas.List.{nil_from_length}
use Rattle.bf_forest.specs.declared.edits.Edit.{Edit}
use Rattle.bf_forest.specs.declared.opened.OpenDirectory.{OpenDirectory}
use Rattle.bf_forest.specs.Files.{edited}
use Rattle.bf_forest.specs.Opened.{IsOpened, inner_weight, HasSome, heft, weight}
use Rattle.bf_forest.specs.Rests.{slots_in}
use Rattle.bf_forest.specs.Slots.{base_files}
use Rattle.bf_forest.specs.Trees.{edited_tree}
use Rattle.bf_forest.proofs.Joining.{kept_trans}
use Rattle.bf_forest.proofs.Advanced.{stacked_later, advance_over}
use Rattle.bf_forest.proofs.Walking.{IsAdvance, IsStacked, stays_trans, stacked_start, stacked_base, stacked_push, stacked_made, stacked_end, stacked_under}
use Rattle.bf_forest.proofs.Walking.{stacked_pop, tree_stays, height, height_more, stacked_height}
use Rattle.bf_forest.proofs.pool.Trees.settle.Goals as goal

pub loop-top-init : goal.loop-top-init
loop-top-init c =
    let start = c.args.self.now in
    let files = edited_tree start.trees c.args.tree c.args.edits.now in
    let P : List OpenDirectory → Type 0 = λ v. IsStacked start files v start c.in_ok-top.top in
    subst P (sym c.new-below.ensures.items) (stacked_start start files c.in_ok-top.top
    (c.in_ok-top.ensures.opened, c.in_ok-top.ensures.base, c.in_ok-top.ensures.empty))

pub advance-requires : goal.advance-requires
advance-requires c =
    c.loop-top.invariant.6

pub returns-in_err-base-clause-kept : goal.returns-in_err-base-clause-kept
returns-in_err-base-clause-kept c =
    let start = c.args.self.now in
    (stacked_later start (edited_tree start.trees c.args.tree c.args.edits.now) c.loop-top.below.items c.loop-top.self c.advance.new.self c.loop-top.top
    c.loop-top.invariant c.advance.ensures.kept).1

pub open-requires-in-Some : goal.open-requires-in-Some
open-requires-in-Some c =
    let start = c.args.self.now in
    let files = edited_tree start.trees c.args.tree c.args.edits.now in
    let below = c.loop-top.below.items in
    let now = c.loop-top.self in
    let old = c.loop-top.top in
    let next = c.advance.new.self in
    let top = c.advance.new.top in
    let h = c.loop-top.invariant in
    let P : Option (Option ℕ × List Edit) → Type 0 = λ v. IsAdvance now next old top v in
    let go : IsAdvance now next old top (Some (c.in-Some.base, c.in-Some.pending)) = subst P c.in-Some.is
    (c.in_ok-base.ensures.advanced, c.in_ok-base.ensures.frame, c.advance.ensures.kept, c.advance.ensures.trees) in
    let H : Option (Option ℕ × List Edit) → Type 0 = HasSome in
    let some : 0 < length c.in-Some.pending = subst H c.in-Some.is c.in_ok-base.ensures.some in
    let size = ap length c.as_slice.ensures in
    record {
      base = stacked_base start files below now next old top c.in-Some.base c.in-Some.pending h go;
      some = omega (arith, some, size);
    }

pub returns-in_err-inner-in-Some-clause-kept : goal.returns-in_err-inner-in-Some-clause-kept
returns-in_err-inner-in-Some-clause-kept c =
    let start = c.args.self.now in
    (stacked_later start (edited_tree start.trees c.args.tree c.args.edits.now) c.loop-top.below.items c.loop-top.self c.advance.new.self c.loop-top.top
    c.loop-top.invariant c.advance.ensures.kept).1

pub returns-in_err-push-in-Some-clause-kept : goal.returns-in_err-push-in-Some-clause-kept
returns-in_err-push-in-Some-clause-kept c =
    let start = c.args.self.now in
    (stacked_later start (edited_tree start.trees c.args.tree c.args.edits.now) c.loop-top.below.items c.loop-top.self c.advance.new.self c.loop-top.top
    c.loop-top.invariant c.advance.ensures.kept).1

pub loop-top-smaller-in-Some : goal.loop-top-smaller-in-Some
loop-top-smaller-in-Some c =
    let start = c.args.self.now in
    let files = edited_tree start.trees c.args.tree c.args.edits.now in
    let below = c.loop-top.below.items in
    let now = c.loop-top.self in
    let old = c.loop-top.top in
    let next = c.advance.new.self in
    let top = c.advance.new.top in
    let h = c.loop-top.invariant in
    let inner : c.in_ok-base.field-0 ≡ Some (c.in-Some.base, c.in-Some.pending) = c.in-Some.is in
    let P : Option (Option ℕ × List Edit) → Type 0 = HasSome in
    let some : 0 < length c.in-Some.pending = subst P inner c.in_ok-base.ensures.some in
    let list = ap (height next.table) c.in_ok-push-in-Some.ensures.items ∙ height_more next.table below top in
    let same = stacked_height start files below now next old h c.advance.ensures.kept in
    let light = ap inner_weight inner in
    let size = ap length c.as_slice.ensures in
    let heavy = ap weight c.as_slice.ensures in
    omega (arith, some, list, same, light, size, heavy, c.in_ok-base.ensures.heft, c.in_ok-inner-in-Some.ensures.heft)

pub loop-top-preserved-in-Some : goal.loop-top-preserved-in-Some
loop-top-preserved-in-Some c =
    let start = c.args.self.now in
    let files = edited_tree start.trees c.args.tree c.args.edits.now in
    let below = c.loop-top.below.items in
    let now = c.loop-top.self in
    let old = c.loop-top.top in
    let next = c.advance.new.self in
    let top = c.advance.new.top in
    let h = c.loop-top.invariant in
    let P : Option (Option ℕ × List Edit) → Type 0 = λ v. IsAdvance now next old top v in
    let go : IsAdvance now next old top (Some (c.in-Some.base, c.in-Some.pending)) = subst P c.in-Some.is
    (c.in_ok-base.ensures.advanced, c.in_ok-base.ensures.frame, c.advance.ensures.kept, c.advance.ensures.trees) in
    let inner = c.in_ok-inner-in-Some.inner in
    let base = c.in-Some.base in
    let pending = c.in-Some.pending in
    let Q : List Edit → Type 0 = λ v. IsOpened next.trees (edited (base_files next.trees base) v) (slots_in next.table inner.rest) in
    let R : List OpenDirectory → Type 0 = λ v. IsStacked start files v next inner in
    subst R (sym c.in_ok-push-in-Some.ensures.items)
    (stacked_push start files below now next old top inner base pending h go
    (subst Q c.as_slice.ensures c.in_ok-inner-in-Some.ensures.opened, c.in_ok-inner-in-Some.ensures.base, c.in_ok-inner-in-Some.ensures.empty))

pub returns-in_default-clause-made : goal.returns-in_default-clause-made
returns-in_default-clause-made c =
    let start = c.args.self.now in
    let files = edited_tree start.trees c.args.tree c.args.edits.now in
    let below = c.loop-top.below.items in
    let now = c.loop-top.self in
    let old = c.loop-top.top in
    let next = c.advance.new.self in
    let top = c.advance.new.top in
    let h = c.loop-top.invariant in
    let go = advance_over now next old top c.in_ok-base.field-0 c.in-None.is
    (c.in_ok-base.ensures.advanced, c.in_ok-base.ensures.frame, c.advance.ensures.kept, c.advance.ensures.trees) c.in_ok-base.ensures.spent in
    let none : below ≡ [] = nil_from_length below (sym c.loop-top.below.ok.0 ∙ c.in_default.ensures.cases.0) in
    stacked_end start files below now next old top h go.0 go.1 none

pub returns-in_default-clause-within : goal.returns-in_default-clause-within
returns-in_default-clause-within c =
    c.in_ok-base.ensures.frame.1

pub returns-in_default-clause-kept : goal.returns-in_default-clause-kept
returns-in_default-clause-kept c =
    let start = c.args.self.now in
    (stacked_later start (edited_tree start.trees c.args.tree c.args.edits.now) c.loop-top.below.items c.loop-top.self c.advance.new.self c.loop-top.top
    c.loop-top.invariant c.advance.ensures.kept).1

pub close-requires : goal.close-requires
close-requires c =
    let start = c.args.self.now in
    let files = edited_tree start.trees c.args.tree c.args.edits.now in
    let below = c.loop-top.below.items in
    let now = c.loop-top.self in
    let old = c.loop-top.top in
    let next = c.advance.new.self in
    let top = c.advance.new.top in
    let h = c.loop-top.invariant in
    let go = advance_over now next old top c.in_ok-base.field-0 c.in-None.is
    (c.in_ok-base.ensures.advanced, c.in_ok-base.ensures.frame, c.advance.ensures.kept, c.advance.ensures.trees) c.in_ok-base.ensures.spent in
    record {
      node = stacked_made start files below now next old top h go.0 go.1;
      within = c.in_ok-base.ensures.frame.1;
    }

pub returns-in_err-number-in-None-clause-kept : goal.returns-in_err-number-in-None-clause-kept
returns-in_err-number-in-None-clause-kept c =
    let start = c.args.self.now in
    let one = stacked_later start (edited_tree start.trees c.args.tree c.args.edits.now) c.loop-top.below.items c.loop-top.self c.advance.new.self
    c.loop-top.top
    c.loop-top.invariant c.advance.ensures.kept in
    kept_trans start.trees c.advance.new.self.trees c.close.new.self.trees one.1 c.close.ensures.kept

pub wait_over-requires : goal.wait_over-requires
wait_over-requires c =
    let start = c.args.self.now in
    let files = edited_tree start.trees c.args.tree c.args.edits.now in
    let below = c.loop-top.below.items in
    let now = c.loop-top.self in
    let old = c.loop-top.top in
    let next = c.advance.new.self in
    let top = c.advance.new.top in
    let h = c.loop-top.invariant in
    let closed = c.close.new.self in
    let stays = stays_trans now next closed c.advance.ensures.kept (tree_stays next closed c.close.ensures.kept c.close.ensures.table) in
    stacked_under start files below c.pop.new.self.items now closed old c.in-Some-pop.outer h c.in-Some-pop.ensures.items stays

pub returns-in_err-wait_over-in-None-clause-kept : goal.returns-in_err-wait_over-in-None-clause-kept
returns-in_err-wait_over-in-None-clause-kept c =
    let start = c.args.self.now in
    let one = stacked_later start (edited_tree start.trees c.args.tree c.args.edits.now) c.loop-top.below.items c.loop-top.self c.advance.new.self
    c.loop-top.top
    c.loop-top.invariant c.advance.ensures.kept in
    kept_trans start.trees c.close.new.self.trees c.wait_over.new.self.trees
    (kept_trans start.trees c.advance.new.self.trees c.close.new.self.trees one.1 c.close.ensures.kept) c.wait_over.ensures.kept.1

pub loop-top-smaller : goal.loop-top-smaller
loop-top-smaller c =
    let start = c.args.self.now in
    let files = edited_tree start.trees c.args.tree c.args.edits.now in
    let below = c.loop-top.below.items in
    let now = c.loop-top.self in
    let old = c.loop-top.top in
    let next = c.advance.new.self in
    let top = c.advance.new.top in
    let h = c.loop-top.invariant in
    let closed = c.close.new.self in
    let last = c.wait_over.new.self in
    let less = c.pop.new.self.items in
    let outer = c.in-Some-pop.outer in
    let stays = stays_trans now closed last (stays_trans now next closed c.advance.ensures.kept
    (tree_stays next closed c.close.ensures.kept c.close.ensures.table)) c.wait_over.ensures.kept in
    let same = stacked_height start files below now last old h stays in
    let list = ap (height last.table) c.in-Some-pop.ensures.items ∙ height_more last.table less outer in
    let rest = ap (λ v. heft (slots_in last.table v)) c.in_ok-wait_over-in-None.ensures.rest in
    omega (arith, same, list, rest)

pub loop-top-preserved : goal.loop-top-preserved
loop-top-preserved c =
    let start = c.args.self.now in
    let files = edited_tree start.trees c.args.tree c.args.edits.now in
    let below = c.loop-top.below.items in
    let now = c.loop-top.self in
    let old = c.loop-top.top in
    let next = c.advance.new.self in
    let top = c.advance.new.top in
    let h = c.loop-top.invariant in
    let go = advance_over now next old top c.in_ok-base.field-0 c.in-None.is
    (c.in_ok-base.ensures.advanced, c.in_ok-base.ensures.frame, c.advance.ensures.kept, c.advance.ensures.trees) c.in_ok-base.ensures.spent in
    stacked_pop start files below c.pop.new.self.items now next c.close.new.self c.wait_over.new.self old top c.in-Some-pop.outer c.wait_over.new.outer
    c.in_ok-number-in-None.number
    h go.0 go.1 c.in-Some-pop.ensures.items c.in_ok-number-in-None.ensures.closed c.close.ensures.kept c.close.ensures.table
    c.in_ok-wait_over-in-None.ensures.entry c.in_ok-wait_over-in-None.ensures.within c.wait_over.ensures.kept c.wait_over.ensures.trees
    c.in_ok-wait_over-in-None.ensures.rest
