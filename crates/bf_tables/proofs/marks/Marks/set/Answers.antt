use Rattle.std.proofs.Common.{◌≡◌, ◌==◌, [], ◌∷◌, ◌++◌, length, Some, None, sym, ap, ◌∙◌, subst, arith}
use Rattle.bf_history.specs.Named.{with_value}
use Rattle.bf_tables.specs.Indices.{index_in, IsJoined, AreIndexed}
use Rattle.bf_tables.proofs.Indexed.{lacks, lacking_with, alone, alone_with, lead_set, have_set, lead_new, have_new}
use Rattle.bf_tables.proofs.marks.Marks.set.Goals as goal

pub invariant_of-self : goal.invariant_of-self
invariant_of-self c =
    let entries = c.self.inside.entries.items in
    let index_of = index_in c.self.inside.indices.near.items c.self.inside.indices.far in
    let number = c.args.number in
    let index = c.in-Some.index in
    let some : index_of number ≡ Some index = sym (sym c.in-Some.is ∙ c.of.ensures) in
    let there = c.self.invariant.0 number index some in (
      lead_set index_of entries c.self.invariant.0 c.self.invariant.1 number there.0 c.args.what index there.1,
      have_set index_of entries c.self.invariant.0 c.self.invariant.1 number there.0 c.args.what index there.1,
    )

pub returns-in-Some-clause-ok : goal.returns-in-Some-clause-ok
returns-in-Some-clause-ok c =
    let entries = c.self.inside.entries.items in
    let index_of = index_in c.self.inside.indices.near.items c.self.inside.indices.far in
    let number = c.args.number in
    let index = c.in-Some.index in
    let some : index_of number ≡ Some index = sym (sym c.in-Some.is ∙ c.of.ensures) in
    let there = c.self.invariant.0 number index some in
    let one = alone index_of entries c.self.invariant.1 number index some in
    sym (alone_with number there.0 c.args.what index entries there.1 one) ∙ ap (with_value ◌==◌ number c.args.what) c.self.view_is

pub invariant_of-self-2 : goal.invariant_of-self-2
invariant_of-self-2 c =
    let entries = c.self.inside.entries.items in
    let index_of = index_in c.self.inside.indices.near.items c.self.inside.indices.far in
    let next = index_in c.add.new.self.near.items c.add.new.self.far in
    let number = c.args.number in
    let none : index_of number ≡ None = sym (sym c.in_default.is ∙ c.of.ensures) in
    let last : c.in_ok-index.index ≡ length entries = omega
    (arith, c.in_ok-index.ensures.0, c.len.ensures, c.in_ok-reserve.ensures.len, c.self.inside.entries.ok.0) in
    let joined : IsJoined number (length entries) index_of next = subst (λ index. IsJoined number index index_of next) last c.in_ok-add.ensures.ok in
    let all : c.push_reserved.new.self.items ≡ entries ++ (number, c.args.what) ∷ [] =
    c.push_reserved.ensures.items ∙ ap (λ es. es ++ (number, c.args.what) ∷ []) c.in_ok-reserve.ensures.items in
    subst (AreIndexed next) (sym all) (
      lead_new index_of entries c.self.invariant.0 c.self.invariant.1 next number c.args.what none joined,
      have_new index_of entries c.self.invariant.0 c.self.invariant.1 next number c.args.what none joined,
    )

pub returns-clause-ok : goal.returns-clause-ok
returns-clause-ok c =
    let entries = c.self.inside.entries.items in
    let index_of = index_in c.self.inside.indices.near.items c.self.inside.indices.far in
    let number = c.args.number in
    let none : index_of number ≡ None = sym (sym c.in_default.is ∙ c.of.ensures) in
    c.push_reserved.ensures.items ∙ ap (λ es. es ++ (number, c.args.what) ∷ []) c.in_ok-reserve.ensures.items
    ∙ sym (lacking_with number c.args.what entries (lacks index_of entries c.self.invariant.1 number none))
    ∙ ap (with_value ◌==◌ number c.args.what) c.self.view_is
