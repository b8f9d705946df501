use Rattle.std.proofs.Common.{◌≡◌, ℕ, ◌<◌, List, Bool, [], Option, Some, None, get_or, set, ap, sym, subst, ◌∙◌, refl, arith}
use Rattle.std.proofs.lemmas.List.{set-get_or, take_all}
use Rattle.std.specs.Option.{IfSome}
use Rattle.bf_choice.specs.declared.sharing.SharedRows.{SharedRows}
use Rattle.bf_choice.specs.BlockRows.{numbered_row, number_in, block_row, joined_row}
use Rattle.bf_choice.proofs.Rows.{joined_row-start, joined_row-more, joined_row-none, joined_row-whole}
use Rattle.bf_choice.proofs.SharedNumbers.{joined-step}
use Rattle.bf_choice.proofs.sharing.SharedRows.join_parents.Goals as goal
use Rattle.bf_choice.proofs.sharing.SharedRows.join_parents.Goals.{in-Some, in_default}

pub loop-parent-init : goal.loop-parent-init
loop-parent-init c = (
  sym (set-get_or c.args.self.now.blocks c.args.self.now.taken [])
      ∙ ap (λ (row : List Bool). set c.args.self.now.blocks c.args.self.now.taken row) (c.requires.own ∙ joined_row-start c.args.graph.now c.args.start c.args.place),
  refl,
  refl,
)

pub loop-parent-preserved : goal.loop-parent-preserved
loop-parent-preserved c =
    let parent : ℕ = get_or c.parents-parent-items.result.now c.loop-parent.parent-index 0 in
    let earlier : parent < c.args.place = c.parents-parent-items.ensures.earlier c.loop-parent.parent-index 0 c.loop-parent-test.true in
    let same : number_in c.args.start c.loop-parent.self.numbers.items parent ≡ number_in c.args.start c.args.self.now.numbers.items parent =
    ap (λ numbers. number_in c.args.start numbers.items parent) c.loop-parent.invariant.2 in
    let filled : numbered_row c.args.self.now.blocks (number_in c.args.start c.args.self.now.numbers.items parent) ≡ block_row c.args.graph.now c.args.start parent =
    c.requires.filled.filled parent earlier (omega (arith, earlier, c.requires.place)) in
    let taken : IfSome (number_in c.args.start c.args.self.now.numbers.items parent) (λ n. n < c.args.self.now.taken) =
    c.requires.filled.taken parent earlier (omega (arith, earlier, c.requires.place)) in
    elim c.match-number.branch [
      | in-Some w ↦
          let is : number_in c.args.start c.args.self.now.numbers.items parent ≡ Some w.in-Some.number = sym same ∙ sym w.in-Some.ensures in (
            ap (λ (s : SharedRows). s.blocks) w.self-is ∙ w.or_row.ensures
                ∙ joined-step c.args.self.now.blocks c.loop-parent.self.blocks c.args.self.now.taken c.loop-parent.self.taken w.in-Some.number _
                (block_row c.args.graph.now c.args.start parent) _ c.requires.room c.loop-parent.invariant.1 c.loop-parent.invariant.0
                (subst (λ (x : Option ℕ). IfSome x (λ n. n < c.args.self.now.taken)) is taken)
                (sym (ap (numbered_row c.args.self.now.blocks) is) ∙ filled)
                (joined_row-more c.args.graph.now c.args.start c.args.place c.parents-parent-items.result.now c.loop-parent.parent-index c.loop-parent-test.true),
            ap (λ (s : SharedRows). s.taken) w.self-is ∙ c.loop-parent.invariant.1,
            ap (λ (s : SharedRows). s.numbers) w.self-is ∙ c.loop-parent.invariant.2,
          )
      | in_default w ↦
          let is : number_in c.args.start c.args.self.now.numbers.items parent ≡ None = sym same ∙ sym w.in_default.ensures in (
            ap (λ (s : SharedRows). s.blocks) w.self-is ∙ c.loop-parent.invariant.0
                ∙ ap (λ (row : List Bool). set c.args.self.now.blocks c.args.self.now.taken row)
                (joined_row-none c.args.graph.now c.args.start c.args.place c.parents-parent-items.result.now c.loop-parent.parent-index c.loop-parent-test.true
                (sym (ap (numbered_row c.args.self.now.blocks) is) ∙ filled)),
            ap (λ (s : SharedRows). s.taken) w.self-is ∙ c.loop-parent.invariant.1,
            ap (λ (s : SharedRows). s.numbers) w.self-is ∙ c.loop-parent.invariant.2,
          )
    ]

pub returns-clause-blocks : goal.returns-clause-blocks
returns-clause-blocks c =
    c.loop-parent.invariant.0
    ∙ ap (λ (row : List Bool). set c.args.self.now.blocks c.args.self.now.taken row)
    (ap (joined_row c.args.graph.now c.args.start c.args.place) (take_all c.loop-parent.parent-index c.parents-parent-items.result.now (omega (arith, c.loop-parent-test.false))
    ∙ c.parents-parent-items.ensures.parents)
    ∙ joined_row-whole c.args.graph.now c.args.start c.args.place c.requires.graph)
