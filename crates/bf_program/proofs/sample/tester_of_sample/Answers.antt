use Rattle.std.proofs.Common.{ℕ, List, IsTrue, sym, subst, ◌∙◌}
use Rattle.std.specs.List.{All}
use Rattle.bf_tester.specs.Plans.{is_letter}
use Rattle.bf_program.proofs.Sampling.{letters_are, tells_sample}
use Rattle.bf_program.proofs.sample.tester_of_sample.Goals as goal

pub new-requires : goal.new-requires
new-requires c =
    subst (λ (ls : List ℕ). All (λ letter. IsTrue (is_letter letter)) ls) (sym (c.as_slice.ensures.value ∙ c.in_ok-letters.ensures))
    (letters_are c.args.count)

pub returns-clause-told : goal.returns-clause-told
returns-clause-told c = tells_sample _ c.args.count _ c.new.result (c.as_slice.ensures.value ∙ c.in_ok-letters.ensures) c.new.ensures.told
