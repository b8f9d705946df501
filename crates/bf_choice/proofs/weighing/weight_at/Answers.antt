use Rattle.std.proofs.Common.{◌≡◌, ℕ, ◌<◌, List, get_or, length, ap, sym, ◌∙◌, arith}
use Rattle.bf_choice.specs.Numbering.{number_of}
use Rattle.bf_choice.proofs.Numbered.{length-candidate_numbers, candidate_numbers-at, number_of-strict}
use Rattle.bf_choice.proofs.Weighed.{size_of_number-yes}
use Rattle.bf_choice.proofs.weighing.weight_at.Goals as goal

pub bounds-numbers-place : goal.bounds-numbers-place
bounds-numbers-place c = omega (arith, ap (λ (ns : List ℕ). length ns) c.requires.numbers ∙ length-candidate_numbers c.args.mask.now)

pub bounds-sizes-numbers : goal.bounds-sizes-numbers
bounds-sizes-numbers c =
    let number : get_or c.args.numbers.now c.args.place 0 ≡ number_of c.args.mask.now c.args.place = ap (λ (ns : List ℕ). get_or ns c.args.place 0)
    c.requires.numbers ∙ candidate_numbers-at c.args.mask.now c.args.place c.requires.place in
    let below : number_of c.args.mask.now c.args.place < number_of c.args.mask.now (length c.args.mask.now) = number_of-strict c.args.mask.now c.args.place
    (length c.args.mask.now) c.requires.place (sym c.get.ensures ∙ c.if-get.true) in
    omega arith

pub returns-then-get : goal.returns-then-get
returns-then-get c =
    ap (λ (n : ℕ). get_or c.args.sizes.now n 0) (ap (λ (ns : List ℕ). get_or ns c.args.place 0) c.requires.numbers ∙ candidate_numbers-at c.args.mask.now
    c.args.place c.requires.place)
    ∙ sym (size_of_number-yes c.args.mask.now c.args.sizes.now c.args.place (sym c.get.ensures ∙ c.if-get.true))
