-- What the words ask for, where they are accepted.
use Rattle.std.proofs.Common.{◌≡◌, ℕ, List, Result, Ok, Err, IfOk, refl, subst}
use Rattle.bf_answers.specs.Steps.{HasPlan}
use Rattle.bf_commands.specs.declared.order.Order.TheVariants.{Checkout}
use Rattle.bf_commands.proofs.Behind.{asks_run, behind_read, followed, plan_behind}
use Rattle.bf_searches.proofs.Planning.{plan_read}
use Rattle.bf_words.specs.declared.request.Request.{Request}
use Rattle.bf_words.specs.declared.request.WordFault.{WordFault}
use Rattle.bf_words.specs.declared.verb.Verb.TheVariants.{Run}
use Rattle.bf_words.specs.Words.{IsRead}
use Rattle.bf_checkout_run.specs.CheckingOut.{asked_by}

pub all_run : (words : List (List ℕ)) (result : Result Request WordFault) → IsRead (asked_by words) result → IfOk result (λ r. r.verb ≡ Run)
all_run words (Err fault) read = tt
all_run words (Ok r) read = asks_run Checkout words r (λ verb. refl) read

pub all_planned : (words : List (List ℕ)) (result : Result Request WordFault) → IsRead (asked_by words) result → IfOk result (λ r. HasPlan r words)
all_planned words (Err fault) read = tt
all_planned words (Ok r) read =
    let line = behind_read words r (followed Checkout words r read).1 in
    subst (λ (x : Request). HasPlan x words) line.moved (plan_behind words line.inner.plan (plan_read _ line.inner line.read))
