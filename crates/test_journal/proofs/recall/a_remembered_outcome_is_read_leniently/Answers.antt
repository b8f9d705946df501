use Rattle.std.proofs.Common.{rules, ◌≡◌, List, [], ◌∷◌, refl, sym, subst}
use Rattle.bf_tester.specs.declared.answer.Answer.{Answer}
use Rattle.bf_journal.specs.Remembered.{AreNew}
use Rattle.test_journal.proofs.recall.a_remembered_outcome_is_read_leniently.Goals as goal

both_new : (remembered : List Answer) (a b : Answer) → remembered ≡ [] → a.place ≡ 4 → b.place ≡ 3 → AreNew remembered (a ∷ b ∷ [])
both_new remembered a b none four three =
    subst (λ (r : List Answer). AreNew r (a ∷ b ∷ [])) (sym none) (refl, ((rw four (rw three refl)), tt))

pub remember-requires-clause-new : goal.remember-requires-clause-new
remember-requires-clause-new g c κs = both_new c.new-tester.result.remembered c.kept.result c.kept-2.result (search rules) c.kept.ensures c.kept-2.ensures
