-- The path of the recursion is the best of all open paths, not only of those that the recursion looks at.
use Rattle.std.proofs.Common.{◌≡◌, ℕ, zero, suc, ◌<◌, ◌≤◌, ◌⊎◌, Bool, true, false, ◌&&◌, ◌||◌, ◌==◌, List, [], ◌∷◌, length, Option, Some, None, cond, refl, sym}
use Rattle.std.proofs.Common.{ap, ◌∙◌, subst, inl, inr, ⊎_elim, arith, eqb-true, eq-eqb}
use Rattle.std.proofs.lemmas.Bool.{cases_Bool, both_ways, cond-true, cond-false, ltb-true, ltb-false}
use Rattle.std.specs.Prelude.{nat_lt}
use Rattle.bf_graph.specs.Graph.{IsGraph}
use Rattle.bf_search.specs.declared.asks.Ask.{Ask}
use Rattle.bf_search.specs.declared.asks.Ask.TheVariants.{WaitBoth, WaitBad, WaitGood, Test, MergeBaseBad, GoodNotAncestor, BothSides, FirstBad, OnlySkipped}
use Rattle.bf_search.specs.declared.outcomes.Mark.{Mark}
use Rattle.bf_search.specs.declared.outcomes.Mark.TheVariants.{Good, Bad, Skip}
use Rattle.bf_search.specs.declared.outcomes.Outcome.{Outcome}
use Rattle.bf_search.specs.declared.outcomes.Verdict.{Verdict}
use Rattle.bf_search.specs.declared.outcomes.Verdict.TheVariants.{Mark as MarkOf, Abort}
use Rattle.bf_search.specs.Outcomes.{Outcomes, verdict_of}
use Rattle.bf_search.specs.State.{Search, IsSearchOver, ask, mark}
use Rattle.bf_search.specs.LeftToAsk.{left_to_ask}
use Rattle.bf_search.proofs.Turns.{left_to_ask-falls, left_to_ask-le, IsSearchOver-marked}
use Rattle.bf_search.specs.declared.farm.Claim.{Claim}
use Rattle.bf_search.specs.OpenPaths.{OpenPath, left_of, good_first, is_better, is_claimed, better, followed_by, after_verdict, after_claim, after_look}
use Rattle.bf_search.specs.OpenPaths.{after_step, best_within, best_open, Allows, Leads, IsOpenPath, IsNoWorse}
use Rattle.bf_state.proofs.Shrinking.{left-asked-same, left-marked, left-along}

abbrev behind : Mark → OpenPath → OpenPath
behind m path = record path { marks = m ∷ path.marks }

-- ---- the order

same_head : (m : Mark) (a b : List Mark) → good_first (m ∷ a) (m ∷ b) ≡ good_first a b
same_head Good a b = refl
same_head Bad a b = refl
same_head Skip a b = refl

no_worse_behind : (m : Mark) (a b : OpenPath) → IsNoWorse a b → IsNoWorse (behind m a) (behind m b)
no_worse_behind m a b (inl more) = inl more
no_worse_behind m a b (inr (left, inl short)) = inr (left, inl (omega arith))
no_worse_behind m a b (inr (left, inr (long, inl good))) = inr (left, inr (omega arith, inl (same_head m a.marks b.marks ∙ good)))
no_worse_behind m a b (inr (left, inr (long, inr same))) = inr (left, inr (omega arith, inr (ap (λ (ms : List Mark). m ∷ ms) same)))

tells : (x y z w f : Bool) → f ≡ false → (x || (y && (z || (w && f)))) ≡ true → (x ≡ true) ⊎ ((y ≡ true) × (z ≡ true))
tells true y z w f e h = inl refl
tells false true true w f e h = inr (refl, refl)
tells false true false true f e h = absurd (both_ways f e h)
tells false true false false f e h = cc
tells false false z w f e h = cc

tells_not : (x y z w f : Bool) → (x || (y && (z || (w && f)))) ≡ false → (x ≡ false) × ((y ≡ false) ⊎ (z ≡ false))
tells_not true y z w f h = cc
tells_not false false z w f h = (refl, inl refl)
tells_not false true false w f h = (refl, inr refl)
tells_not false true true w f h = cc

-- what it says that a path that begins with bad is better than one that begins with good
bad_wins : (a b : OpenPath) → is_better (behind Bad a) (behind Good b) ≡ true → (b.left < a.left) ⊎ ((a.left ≡ b.left) × (length a.marks < length b.marks))
bad_wins a b h =
    ⊎_elim
    (λ more. inl (ltb-true b.left a.left more))
    (λ (p : ((a.left == b.left) ≡ true) × (nat_lt (suc (length a.marks)) (suc (length b.marks)) ≡ true)).
    inr (eqb-true a.left b.left p.0, let l = ltb-true (suc (length a.marks)) (suc (length b.marks)) p.1 in omega arith))
    (tells (nat_lt b.left a.left) (a.left == b.left) (nat_lt (suc (length a.marks)) (suc (length b.marks))) (suc (length a.marks) == suc (length b.marks))
    (good_first (Bad ∷ a.marks) (Good ∷ b.marks)) refl h)

-- and that it is not
good_wins : (a b : OpenPath) → is_better (behind Bad a) (behind Good b) ≡ false → (a.left < b.left) ⊎ ((a.left ≡ b.left) × (length b.marks ≤ length a.marks))
good_wins a b h =
    let parts = tells_not (nat_lt b.left a.left) (a.left == b.left) (nat_lt (suc (length a.marks)) (suc (length b.marks)))
    (suc (length a.marks) == suc (length b.marks)) (good_first (Bad ∷ a.marks) (Good ∷ b.marks)) h in
    let few : a.left ≤ b.left = ltb-false b.left a.left parts.0 in
    ⊎_elim
    (λ other. inl (strictly other few))
    (λ long. let l = ltb-false (suc (length a.marks)) (suc (length b.marks)) long in split few (omega arith))
    parts.1
  where
    strictly : (a.left == b.left) ≡ false → a.left ≤ b.left → a.left < b.left
    strictly e l = ⊎_elim
        (λ (lt : a.left < b.left). lt) (λ (same : a.left ≡ b.left). absurd (both_ways (a.left == b.left) e (eq-eqb a.left b.left same))) (le_cases l)
      where
        le_cases : a.left ≤ b.left → (a.left < b.left) ⊎ (a.left ≡ b.left)
        le_cases l = ⊎_elim (λ yes. inl (ltb-true a.left b.left yes)) (λ fails. let m = ltb-false a.left b.left fails in inr (omega arith))
            (cases_Bool (nat_lt a.left b.left))

    split : a.left ≤ b.left → length b.marks ≤ length a.marks → (a.left < b.left) ⊎ ((a.left ≡ b.left) × (length b.marks ≤ length a.marks))
    split l m = ⊎_elim (λ yes. inl (ltb-true a.left b.left yes)) (λ fails. let n = ltb-false a.left b.left fails in inr (omega arith, m))
        (cases_Bool (nat_lt a.left b.left))

-- numbers that decide an order before the marks do
strictly_better : (a b path : OpenPath) → (b.left < a.left) ⊎ ((a.left ≡ b.left) × (length a.marks < length b.marks)) → IsNoWorse b path
    → IsNoWorse (behind Bad a) (behind Good path)
strictly_better a b path (inl more) (inl h) = inl (omega arith)
strictly_better a b path (inl more) (inr h) = inl (omega (arith, h.0))
strictly_better a b path (inr (left, short)) (inl h) = inl (omega arith)
strictly_better a b path (inr (left, short)) (inr (e, inl h)) = inr (omega arith, inl (omega arith))
strictly_better a b path (inr (left, short)) (inr (e, inr h)) = inr (omega arith, inl (omega (arith, h.0)))

-- with good at the first difference it is enough that the numbers are no worse
shortest_first : (b a path : OpenPath) → (a.left < b.left) ⊎ ((a.left ≡ b.left) × (length b.marks ≤ length a.marks)) → IsNoWorse a path
    → IsNoWorse (behind Good b) (behind Bad path)
shortest_first b a path (inl more) (inl h) = inl (omega arith)
shortest_first b a path (inl more) (inr h) = inl (omega (arith, h.0))
shortest_first b a path (inr (left, short)) (inl h) = inl (omega arith)
shortest_first b a path (inr (left, short)) (inr (e, inl h)) = inr (omega arith, inl (omega arith))
shortest_first b a path (inr (left, short)) (inr (e, inr h)) = by_length (omega (arith, h.0))
  where
    by_length : length b.marks ≤ length path.marks → IsNoWorse (behind Good b) (behind Bad path)
    by_length l =
        ⊎_elim
        (λ yes. let m = ltb-true (length b.marks) (length path.marks) yes in inr (omega arith, inl (omega arith)))
        (λ fails. let m = ltb-false (length b.marks) (length path.marks) fails in inr (omega arith, inr (omega arith, inl refl)))
        (cases_Bool (nat_lt (length b.marks) (length path.marks)))

-- what is chosen is no worse than the one guess's path, and no worse than the other's
abbrev Beats : Option OpenPath → OpenPath → Type 0
Beats chosen path = (best : OpenPath) × (chosen ≡ Some best) × IsNoWorse best path

beats_good : (other : Option OpenPath) (b path : OpenPath) → IsNoWorse b path → Beats (better (Some (behind Good b)) (followed_by Bad other)) (behind Good path)
beats_good None b path h = (behind Good b, refl, no_worse_behind Good b path h)
beats_good (Some a) b path h =
    ⊎_elim
    (λ yes. (
      behind Bad a,
      cond-true (is_better (behind Bad a) (behind Good b)) (Some (behind Bad a)) (Some (behind Good b)) yes,
      strictly_better a b path
          (bad_wins a b yes) h,
    ))
    (λ fails. (
      behind Good b,
      cond-false (is_better (behind Bad a) (behind Good b)) (Some (behind Bad a)) (Some (behind Good b)) fails,
      no_worse_behind Good b
          path h,
    ))
    (cases_Bool (is_better (behind Bad a) (behind Good b)))

beats_bad : (other : Option OpenPath) (a path : OpenPath) → IsNoWorse a path → Beats (better (followed_by Good other) (Some (behind Bad a))) (behind Bad path)
beats_bad None a path h = (behind Bad a, refl, no_worse_behind Bad a path h)
beats_bad (Some b) a path h =
    ⊎_elim
    (λ yes. (behind Bad a, cond-true (is_better (behind Bad a) (behind Good b)) (Some (behind Bad a)) (Some (behind Good b)) yes, no_worse_behind Bad a path h))
    (λ fails. (
      behind Good b,
      cond-false (is_better (behind Bad a) (behind Good b)) (Some (behind Bad a)) (Some (behind Good b)) fails,
      shortest_first b a path
          (good_wins a b fails) h,
    ))
    (cases_Bool (is_better (behind Bad a) (behind Good b)))

-- ---- the recursion

module _ (graph : List (List ℕ)) (known : Outcomes) (claims : List Claim) (g : IsGraph graph) where
  abbrev Go : Type 0
  Go = Search → Option OpenPath

  step-is : (go : Go) (s : Search) (q : ℕ) (o : Option Outcome) → (ask graph s).step.ask ≡ Test q → known q ≡ o
      → after_step graph known claims go (ask graph s).search (ask graph s).step.ask ≡ after_look graph claims go (ask graph s).search q o
  step-is go s q o h k =
      ap (λ a. after_step graph known claims go (ask graph s).search a) h ∙ ap (λ (x : Option Outcome). after_look graph claims go (ask graph s).search q x) k

  beats_along : {x y : Option OpenPath} (path : OpenPath) → x ≡ y → Beats y path → Beats x path
  beats_along path e (best, is, h) = (best, e ∙ is, h)

  -- an open path here beats each one that goes on
  beats_shorter : (s : Search) (m : Mark) (q : ℕ) (ms : List Mark) (p left : ℕ) → (ask graph s).step.ask ≡ Test q
      → Leads graph known (mark (ask graph s).search m q) ms p left
      → IsNoWorse (record { marks = []; place = q; left = left_of graph (ask graph s).search }) (record { marks = m ∷ ms; place = p; left = left })
  beats_shorter s m q ms p left h rest = by_left
      (omega (arith, left-along graph known (mark (ask graph s).search m q) ms p left g rest, left-marked graph s m q g h, left-asked-same graph s q g h))
    where
      by_left : left ≤ left_of graph (ask graph s).search
          → IsNoWorse (record { marks = []; place = q; left = left_of graph (ask graph s).search }) (record { marks = m ∷ ms; place = p; left = left })
      by_left l =
          ⊎_elim
          (λ yes. inl (ltb-true left (left_of graph (ask graph s).search) yes))
          (λ fails. let n = ltb-false left (left_of graph (ask graph s).search) fails in inr (omega arith, inl (omega arith)))
          (cases_Bool (nat_lt left (left_of graph (ask graph s).search)))

  guess_beats : (go : Go) (s : Search) (m : Mark) (q : ℕ) (ms : List Mark) (p left : ℕ) (b : Bool) → (ask graph s).step.ask ≡ Test q → Allows None m
      → Leads graph known (mark (ask graph s).search m q) ms p left
      → Beats (go (mark (ask graph s).search m q)) (record { marks = ms; place = p; left = left })
      → Beats (after_claim graph go (ask graph s).search q b) (record { marks = m ∷ ms; place = p; left = left })
  guess_beats go s m q ms p left false h allows rest child =
      (record { marks = []; place = q; left = left_of graph (ask graph s).search }, refl, beats_shorter s m q ms p left h rest)
  guess_beats go s Good q ms p left true h allows rest (b, is, child) =
      beats_along (record { marks = Good ∷ ms; place = p; left = left })
      (ap (λ (o : Option OpenPath). better (followed_by Good o) (followed_by Bad (go (mark (ask graph s).search Bad q)))) is)
      (beats_good (go (mark (ask graph s).search Bad q)) b (record { marks = ms; place = p; left = left }) child)
  guess_beats go s Bad q ms p left true h allows rest (b, is, child) =
      beats_along (record { marks = Bad ∷ ms; place = p; left = left })
      (ap (λ (o : Option OpenPath). better (followed_by Good (go (mark (ask graph s).search Good q))) (followed_by Bad o)) is)
      (beats_bad (go (mark (ask graph s).search Good q)) b (record { marks = ms; place = p; left = left }) child)
  guess_beats go s Skip q ms p left true h allows rest child = absurd allows

  look_beats : (go : Go) (s : Search) (m : Mark) (q : ℕ) (ms : List Mark) (p left : ℕ) (o : Option Outcome) → (ask graph s).step.ask ≡ Test q → Allows o m
      → Leads graph known (mark (ask graph s).search m q) ms p left
      → Beats (go (mark (ask graph s).search m q)) (record { marks = ms; place = p; left = left })
      → Beats (after_look graph claims go (ask graph s).search q o) (record { marks = m ∷ ms; place = p; left = left })
  look_beats go s m q ms p left None h allows rest child = guess_beats go s m q ms p left (is_claimed claims q) h allows rest child
  look_beats go s m q ms p left (Some outcome) h allows rest (b, is, child) =
      beats_along (record { marks = m ∷ ms; place = p; left = left })
      (ap (λ (v : Verdict). after_verdict go (ask graph s).search q v) allows ∙ ap (λ (o : Option OpenPath). followed_by m o) is)
      (behind m b, refl, no_worse_behind m b (record { marks = ms; place = p; left = left }) child)

  within_beats : (n : ℕ) (s : Search) (ms : List Mark) (p left : ℕ) → IsSearchOver graph s → left_to_ask graph s < n → Leads graph known s ms p left
      → known p ≡ None → is_claimed claims p ≡ false
      → Beats (best_within n graph known claims s) (record { marks = ms; place = p; left = left })
  unfolding best_within
  within_beats zero s ms p left over few leads unknown unclaimed = absurd (omega arith)
  within_beats (suc n) s [] p left over few leads unknown unclaimed = (
    record { marks = []; place = p; left = left_of graph (ask graph s).search },
    step-is (best_within n graph known claims) s p None leads.0 unknown ∙ ap
        (λ (b : Bool). after_claim graph (best_within n graph known claims) (ask graph s).search p b) unclaimed,
    inr (sym leads.1, inr (refl, inr refl)),
  )
  within_beats (suc n) s (m ∷ ms) p left over few leads unknown unclaimed =
      beats_along (record { marks = m ∷ ms; place = p; left = left }) (step-is (best_within n graph known claims) s leads.0 (known leads.0) leads.1 refl)
      (look_beats (best_within n graph known claims) s m leads.0 ms p left (known leads.0) leads.1 leads.2 leads.3
      (within_beats n (mark (ask graph s).search m leads.0) ms p left (IsSearchOver-marked graph s m leads.0 g over leads.1)
      (omega (arith, left_to_ask-falls graph s m leads.0 g over leads.1)) leads.3 unknown unclaimed))

  -- No open path is better than the one that the recursion finds, and it finds one where there is one.
  pub best_is_best : (s : Search) (path : OpenPath) → IsSearchOver graph s → IsOpenPath graph known claims s path → Beats (best_open graph known claims s) path
  unfolding best_open
  best_is_best s path over is =
      within_beats (suc (length graph)) s path.marks path.place path.left over (omega (arith, left_to_ask-le graph s)) is.leads is.unknown is.unclaimed

-- ---- what the recursion finds is an open path

module _ (graph : List (List ℕ)) (known : Outcomes) (claims : List Claim) where
  abbrev IsOpenIn : Search → Option OpenPath → Type 0
  IsOpenIn s found = (path : OpenPath) → found ≡ Some path → IsOpenPath graph known claims s path

  open_behind : (s : Search) (m : Mark) (q : ℕ) (found : Option OpenPath) → (ask graph s).step.ask ≡ Test q → Allows (known q) m
      → IsOpenIn (mark (ask graph s).search m q) found → IsOpenIn s (followed_by m found)
  open_behind s m q None h allows child = λ path e. cc
  open_behind s m q (Some inner) h allows child = λ path e.
      let same : record inner { marks = m ∷ inner.marks } ≡ path = cc in
      let is : IsOpenPath graph known claims (mark (ask graph s).search m q) inner = child inner refl in
      subst (λ (x : OpenPath). IsOpenPath graph known claims s x) same
      (record { leads = (q, h, allows, is.leads); unknown = is.unknown; unclaimed = is.unclaimed })

  open_better : (s : Search) (a b : Option OpenPath) → IsOpenIn s a → IsOpenIn s b → IsOpenIn s (better a b)
  open_better s None b one other = other
  open_better s (Some x) None one other = one
  open_better s (Some x) (Some y) one other = by_test (is_better y x)
    where
      by_test : (t : Bool) → IsOpenIn s (cond t (Some y) (Some x))
      by_test true = other
      by_test false = one

  open_claim : (go : Search → Option OpenPath) (s : Search) (q : ℕ) (b : Bool) → (ask graph s).step.ask ≡ Test q → known q ≡ None → is_claimed claims q ≡ b
      → ((t : Search) → IsOpenIn t (go t))
      → IsOpenIn s (after_claim graph go (ask graph s).search q b)
  open_claim go s q false h k free each = λ path e.
      let same : record { marks = []; place = q; left = left_of graph (ask graph s).search } ≡ path = cc in
      subst (λ (x : OpenPath). IsOpenPath graph known claims s x) same (record { leads = (h, refl); unknown = k; unclaimed = free })
  open_claim go s q true h k taken each =
      open_better s (followed_by Good (go (mark (ask graph s).search Good q))) (followed_by Bad (go (mark (ask graph s).search Bad q)))
      (open_behind s Good q (go (mark (ask graph s).search Good q)) h (subst (λ (o : Option Outcome). Allows o Good) (sym k) tt)
      (each (mark (ask graph s).search Good q)))
      (open_behind s Bad q (go (mark (ask graph s).search Bad q)) h (subst (λ (o : Option Outcome). Allows o Bad) (sym k) tt)
      (each (mark (ask graph s).search Bad q)))

  open_verdict : (go : Search → Option OpenPath) (s : Search) (q : ℕ) (outcome : Outcome) (v : Verdict) → (ask graph s).step.ask ≡ Test q
      → known q ≡ Some outcome → verdict_of outcome ≡ v → ((t : Search) → IsOpenIn t (go t))
      → IsOpenIn s (after_verdict go (ask graph s).search q v)
  open_verdict go s q outcome Abort h k is each = λ path e. cc
  open_verdict go s q outcome (MarkOf m) h k is each =
      open_behind s m q (go (mark (ask graph s).search m q)) h (subst (λ (o : Option Outcome). Allows o m) (sym k) is) (each (mark (ask graph s).search m q))

  open_look : (go : Search → Option OpenPath) (s : Search) (q : ℕ) (o : Option Outcome) → (ask graph s).step.ask ≡ Test q → known q ≡ o
      → ((t : Search) → IsOpenIn t (go t))
      → IsOpenIn s (after_look graph claims go (ask graph s).search q o)
  open_look go s q None h k each = open_claim go s q (is_claimed claims q) h k refl each
  open_look go s q (Some outcome) h k each = open_verdict go s q outcome (verdict_of outcome) h k refl each

  open_step : (go : Search → Option OpenPath) (s : Search) (a : Ask) → (ask graph s).step.ask ≡ a → ((t : Search) → IsOpenIn t (go t))
      → IsOpenIn s (after_step graph known claims go (ask graph s).search a)
  open_step go s (Test q) h each = open_look go s q (known q) h refl each
  open_step go s (FirstBad p) h each = λ path e. cc
  open_step go s (OnlySkipped ps) h each = λ path e. cc
  open_step go s WaitBoth h each = λ path e. cc
  open_step go s WaitBad h each = λ path e. cc
  open_step go s WaitGood h each = λ path e. cc
  open_step go s (MergeBaseBad p) h each = λ path e. cc
  open_step go s (GoodNotAncestor p) h each = λ path e. cc
  open_step go s (BothSides p) h each = λ path e. cc

  within_open : (n : ℕ) (s : Search) → IsOpenIn s (best_within n graph known claims s)
  unfolding best_within
  within_open zero s = λ path e. cc
  within_open (suc n) s = open_step (best_within n graph known claims) s (ask graph s).step.ask refl (within_open n)

  pub best_is_open : (s : Search) (path : OpenPath) → best_open graph known claims s ≡ Some path → IsOpenPath graph known claims s path
  unfolding best_open
  best_is_open s path e = within_open (suc (length graph)) s path e
