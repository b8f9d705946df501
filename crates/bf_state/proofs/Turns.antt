-- The turns of the recursion of open paths are never spent: no place is asked twice along a path.
use Rattle.std.proofs.Common.{◌≡◌, ℕ, zero, suc, ◌<◌, Bool, true, false, List, [], length, Option, Some, None, refl, ap, ◌∙◌, arith}
use Rattle.bf_graph.specs.Graph.{IsGraph}
use Rattle.bf_search.specs.declared.asks.Ask.{Ask}
use Rattle.bf_search.specs.declared.asks.Ask.TheVariants.{WaitBoth, WaitBad, WaitGood, Test, MergeBaseBad, GoodNotAncestor, BothSides, FirstBad, OnlySkipped}
use Rattle.bf_search.specs.declared.outcomes.Mark.{Mark}
use Rattle.bf_search.specs.declared.outcomes.Mark.TheVariants.{Good, Bad}
use Rattle.bf_search.specs.declared.outcomes.Outcome.{Outcome}
use Rattle.bf_search.specs.declared.outcomes.Verdict.{Verdict}
use Rattle.bf_search.specs.declared.outcomes.Verdict.TheVariants.{Mark as MarkOf, Abort}
use Rattle.bf_search.specs.Outcomes.{Outcomes, verdict_of}
use Rattle.bf_search.specs.State.{Search, IsSearchOver, ask, mark}
use Rattle.bf_search.specs.LeftToAsk.{left_to_ask}
use Rattle.bf_search.proofs.Turns.{left_to_ask-falls, left_to_ask-le, IsSearchOver-marked}
use Rattle.bf_search.specs.declared.farm.Claim.{Claim}
use Rattle.bf_search.specs.OpenPaths.{OpenPath, is_claimed, better, followed_by, after_verdict, after_claim, after_look, after_step, path_turn, left_of}
use Rattle.bf_search.specs.OpenPaths.{best_within, best_open}

abbrev Go : Type 0
Go = Search → Option OpenPath

verdict_agrees : (go other : Go) (t : Search) (p : ℕ) (v : Verdict) → ((m : Mark) → go (mark t m p) ≡ other (mark t m p))
    → after_verdict go t p v ≡ after_verdict other t p v
verdict_agrees go other t p Abort h = refl
verdict_agrees go other t p (MarkOf m) h = ap (λ (o : Option OpenPath). followed_by m o) (h m)

claim_agrees : (graph : List (List ℕ)) (go other : Go) (t : Search) (p : ℕ) (b : Bool) → ((m : Mark) → go (mark t m p) ≡ other (mark t m p))
    → after_claim graph go t p b ≡ after_claim graph other t p b
claim_agrees graph go other t p false h = refl
claim_agrees graph go other t p true h =
    ap (λ (o : Option OpenPath). better (followed_by Good o) (followed_by Bad (go (mark t Bad p)))) (h Good)
    ∙ ap (λ (o : Option OpenPath). better (followed_by Good (other (mark t Good p))) (followed_by Bad o)) (h Bad)

look_agrees : (graph : List (List ℕ)) (claims : List Claim) (go other : Go) (t : Search) (p : ℕ) (o : Option Outcome)
    → ((m : Mark) → go (mark t m p) ≡ other (mark t m p)) → after_look graph claims go t p o ≡ after_look graph claims other t p o
look_agrees graph claims go other t p None h = claim_agrees graph go other t p (is_claimed claims p) h
look_agrees graph claims go other t p (Some outcome) h = verdict_agrees go other t p (verdict_of outcome) h

step_agrees : (graph : List (List ℕ)) (known : Outcomes) (claims : List Claim) (go other : Go) (t : Search) (a : Ask)
    → ((p : ℕ) (m : Mark) → a ≡ Test p → go (mark t m p) ≡ other (mark t m p))
    → after_step graph known claims go t a ≡ after_step graph known claims other t a
step_agrees graph known claims go other t (Test p) h = look_agrees graph claims go other t p (known p) (λ m. h p m refl)
step_agrees graph known claims go other t (FirstBad p) h = refl
step_agrees graph known claims go other t (OnlySkipped ps) h = refl
step_agrees graph known claims go other t WaitBoth h = refl
step_agrees graph known claims go other t WaitBad h = refl
step_agrees graph known claims go other t WaitGood h = refl
step_agrees graph known claims go other t (MergeBaseBad p) h = refl
step_agrees graph known claims go other t (GoodNotAncestor p) h = refl
step_agrees graph known claims go other t (BothSides p) h = refl

-- with turns to spare their number plays no part
pub steady : (graph : List (List ℕ)) (known : Outcomes) (claims : List Claim) → IsGraph graph → (n m : ℕ) (s : Search) → IsSearchOver graph s
    → left_to_ask graph s < n → left_to_ask graph s < m
    → best_within n graph known claims s ≡ best_within m graph known claims s
unfolding best_within
steady graph known claims g zero m s over a b = absurd (omega arith)
steady graph known claims g (suc n) zero s over a b = absurd (omega arith)
steady graph known claims g (suc n) (suc m) s over a b =
    step_agrees graph known claims (best_within n graph known claims) (best_within m graph known claims) (ask graph s).search (ask graph s).step.ask
    (λ p k h.
    let fewer : left_to_ask graph (mark (ask graph s).search k p) < left_to_ask graph s = left_to_ask-falls graph s k p g over h in
    steady graph known claims g n m (mark (ask graph s).search k p) (IsSearchOver-marked graph s k p g over h) (omega arith) (omega arith))

-- The recursion goes on turn by turn, without a count.
pub best_open-is : (graph : List (List ℕ)) (known : Outcomes) (claims : List Claim) (s : Search) → IsGraph graph → IsSearchOver graph s
    → best_open graph known claims s ≡ path_turn graph known claims (best_open graph known claims) s
unfolding best_within best_open
best_open-is graph known claims s g over =
    step_agrees graph known claims (best_within (length graph) graph known claims) (best_within (suc (length graph)) graph known claims) (ask graph s).search
    (ask graph s).step.ask
    (λ p k h.
    let fewer : left_to_ask graph (mark (ask graph s).search k p) < left_to_ask graph s = left_to_ask-falls graph s k p g over h in
    steady graph known claims g (length graph) (suc (length graph)) (mark (ask graph s).search k p) (IsSearchOver-marked graph s k p g over h)
    (omega (arith, left_to_ask-le graph s)) (omega (arith, left_to_ask-le graph s)))

-- without claims the first place that is asked and not known is open
pub unclaimed_is_open : (graph : List (List ℕ)) (known : Outcomes) (s : Search) (p : ℕ) → (ask graph s).step.ask ≡ Test p → known p ≡ None
    → best_open graph known [] s ≡ Some (record { marks = []; place = p; left = left_of graph (ask graph s).search })
unfolding best_within best_open
unclaimed_is_open graph known s p h k =
    ap (λ (a : Ask). after_step graph known [] (best_within (length graph) graph known []) (ask graph s).search a) h
    ∙ ap (λ (o : Option Outcome). after_look graph [] (best_within (length graph) graph known []) (ask graph s).search p o) k
