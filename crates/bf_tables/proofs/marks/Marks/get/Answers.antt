use Rattle.std.proofs.Common.{◌≡◌, ℕ, length, slice_get, Some, None, refl, sym, ap, ◌∙◌, arith}
use Rattle.std.proofs.lemmas.Option.{slice_get_read}
use Rattle.bf_history.specs.declared.marked.Marked.{Marked}
use Rattle.bf_history.specs.Meanings.{mark_in}
use Rattle.bf_tables.specs.Indices.{index_in}
use Rattle.bf_tables.proofs.Indexed.{lacks, lacking_value, alone, alone_value, within}
use Rattle.bf_tables.proofs.marks.Marks.get.Goals as goal

pub returns-in_default : goal.returns-in_default
returns-in_default c =
    let entries = c.self.inside.entries.items in
    let index_of = index_in c.self.inside.indices.near.items c.self.inside.indices.far in
    let number = c.args.number in
    let none : index_of number ≡ None = sym (sym c.in_default.is ∙ c.of.ensures) in
    sym (lacking_value number entries (lacks index_of entries c.self.invariant.1 number none)) ∙ ap (λ marks. mark_in marks number) c.self.view_is

pub index-requires : goal.index-requires
index-requires c =
    let entries = c.self.inside.entries.items in
    let index_of = index_in c.self.inside.indices.near.items c.self.inside.indices.far in
    let number = c.args.number in
    let some : index_of number ≡ Some c.in-Some.index = sym (sym c.in-Some.is ∙ c.of.ensures) in
    let there = c.self.invariant.0 number c.in-Some.index some in
    let less = within entries c.in-Some.index (number, there.0) there.1 in
    omega (arith, less, c.self.inside.entries.ok.0)

pub returns : goal.returns
returns c =
    let entries = c.self.inside.entries.items in
    let index_of = index_in c.self.inside.indices.near.items c.self.inside.indices.far in
    let number = c.args.number in
    let index = c.in-Some.index in
    let some : index_of number ≡ Some index = sym (sym c.in-Some.is ∙ c.of.ensures) in
    let there = c.self.invariant.0 number index some in
    let less = within entries index (number, there.0) there.1 in
    let at : slice_get entries index ≡ Some c.index.result.now = slice_get_read entries (length entries) index c.index.result.now refl less c.index.ensures in
    let all : Some c.index.result.now ≡ Some (number, there.0) = sym at ∙ there.1 in
    let entry : c.index.result.now ≡ (number, there.0) = cc in
    let one = alone index_of entries c.self.invariant.1 number index some in
    ap (λ (v : ℕ × Marked). Some v.1) entry ∙ sym (alone_value number there.0 index entries there.1 one)
    ∙ ap (λ marks. mark_in marks number) c.self.view_is
