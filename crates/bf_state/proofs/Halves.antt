-- Halving: among candidates in one line each good or bad mark halves them.
use Rattle.std.proofs.Common.{◌≡◌, ℕ, zero, suc, ◌+◌, ◌*◌, ◌^◌, ◌<◌, ◌≤◌, ◌⊎◌, Bool, true, ◌&&◌, cond, List, [], ◌∷◌, length, Option, Some, None, refl, sym, ap}
use Rattle.std.proofs.Common.{◌∙◌, subst, inl, inr, arith}
use Rattle.std.proofs.Math.Nat.{pow-suc}
use Rattle.std.proofs.lemmas.List.Elements.{All-head, All-tail}
use Rattle.std.specs.List.{All}
use Rattle.std.specs.Option.{IfSome}
use Rattle.bf_graph.specs.Graph.{IsGraph}
use Rattle.bf_search.specs.declared.asks.Ask.{Ask}
use Rattle.bf_search.specs.declared.asks.Ask.TheVariants.{WaitBoth, WaitBad, WaitGood, Test, MergeBaseBad, GoodNotAncestor, BothSides, FirstBad, OnlySkipped}
use Rattle.bf_search.specs.declared.outcomes.Outcome.{Outcome}
use Rattle.bf_search.specs.declared.outcomes.Mark.{Mark}
use Rattle.bf_search.specs.declared.outcomes.Mark.TheVariants.{Good, Bad, Skip}
use Rattle.bf_search.specs.declared.outcomes.Verdict.{Verdict}
use Rattle.bf_search.specs.declared.outcomes.Verdict.TheVariants.{Mark as MarkOf, Abort}
use Rattle.bf_search.specs.Bases.{check}
use Rattle.bf_search.specs.Candidates.{is_in, is_candidate, candidates}
use Rattle.bf_search.specs.Guesses.{is_candidate_below, is_candidate_of}
use Rattle.bf_search.specs.OpenPaths.{left_of}
use Rattle.bf_search.specs.Outcomes.{Outcomes, verdict_of}
use Rattle.bf_search.specs.Reach.{places, in_mode, Reaches, reaches}
use Rattle.bf_search.specs.State.{Search, IsSearchOver, best_of, ask_candidates, ask_checked, ask_ends, ask, mark}
use Rattle.bf_search.specs.Run.{Run, marked_one, after_verdict, after_look, after_step, after_ask, turn, run_within, run}
use Rattle.bf_search.proofs.Turns.{Asking, asking, IsSearchOver-marked}
use Rattle.bf_state.proofs.Parted.{guesses_part}
use Rattle.bf_state.specs.Halving.{IsLine, NoneSkipped, IsGoodOrBad}
use Rattle.bf_state.proofs.Lines.{first_of, parts_count, best_halves, reached_count}
use Rattle.bf_state.proofs.OnePath.{among_chosen, settled, stays_checked}
use Rattle.bf_state.proofs.Rows.{after_bad}
use Rattle.bf_state.proofs.Shrinking.{candidate_before}

abbrev Go : Type 0
Go = Option ℕ → Search → Run

-- ---- one ask

record Chosen (graph : List (List ℕ)) (s : Search) (q : ℕ) : Type 0 where
  bad : ℕ
  bad_is : s.bad ≡ Some bad
  chosen : best_of graph s bad ≡ Some q

chosen_of : (graph : List (List ℕ)) (s : Search) (o : Option ℕ) (goods : List ℕ) (q : ℕ) → s.bad ≡ o → s.checked ≡ true
    → (ask_ends graph s o goods).step.ask ≡ Test q → Chosen graph s q
chosen_of graph s None [] q b c h = cc
chosen_of graph s None (good ∷ goods) q b c h = cc
chosen_of graph s (Some bad) [] q b c h = cc
chosen_of graph s (Some bad) (good ∷ goods) q b c h = record {
  bad = bad;
  bad_is = b;
  chosen = among_chosen s bad [] (candidates graph bad s.goods s.first_parent) (best_of graph s bad) q
      (sym (ap (λ (v : Bool). (cond v (ask_candidates graph s bad []) (ask_checked graph s bad (check graph bad s.goods s.skips))).step.ask) c) ∙ h);
}

chosen_by : (graph : List (List ℕ)) (s : Search) (q : ℕ) → s.checked ≡ true → (ask graph s).step.ask ≡ Test q → Chosen graph s q
unfolding ask
chosen_by graph s q c h = chosen_of graph s s.bad s.goods q refl c h

-- what an ask leaves after good and after bad
record Halved (graph : List (List ℕ)) (s : Search) (q : ℕ) : Type 0 where
  half : ℕ
  some : 1 ≤ half
  low : half + half ≤ left_of graph s
  high : left_of graph s ≤ half + half + 1
  good_low : half ≤ left_of graph (mark (ask graph s).search Good q)
  bad_low : half ≤ left_of graph (mark (ask graph s).search Bad q)
  both : left_of graph (mark (ask graph s).search Good q) + left_of graph (mark (ask graph s).search Bad q) ≡ left_of graph s

halved : (graph : List (List ℕ)) (s : Search) (q : ℕ) → IsGraph graph → IsSearchOver graph s → s.checked ≡ true → NoneSkipped s → IsLine graph s
    → (ask graph s).step.ask ≡ Test q → Halved graph s q
unfolding left_of
halved graph s q g over c unskipped line h = record {
  half = best.0;
  some = best.1;
  low = omega (arith, best.2, whole);
  high = omega (arith, best.3, whole);
  good_low = omega (arith, best.5, whole, parts, reached);
  bad_low = omega (arith, best.4, reached);
  both = parts;
}
  where
    a : Asking graph s (ask graph s) q
    a = asking graph s q g h

    found : Chosen graph s q
    found = chosen_by graph s q c h

    bad : ℕ
    bad = found.bad

    some_same : {x y : ℕ} → Some x ≡ Some y → x ≡ y
    some_same e = cc

    Has : ℕ → Bool
    Has p = is_candidate graph bad s.goods s.first_parent p

    has_is : (p : ℕ) → is_candidate_of graph s p ≡ Has p
    has_is p = ap (λ (o : Option ℕ). is_candidate_below graph o s p) found.bad_is

    in_line : (p r : ℕ) → Has p ≡ true → Has r ≡ true → Reaches (in_mode graph s.first_parent) p r ⊎ Reaches (in_mode graph s.first_parent) r p
    in_line p r k l = line p r (has_is p ∙ k) (has_is r ∙ l)

    here : Has q ≡ true
    here = sym (has_is q) ∙ (settled graph s q h c).1

    bad_place : bad < length graph
    bad_place = subst (λ (o : Option ℕ). IfSome o (λ p. p < length graph)) found.bad_is over.bad

    not_bad : q ≡ bad → ⊥
    not_bad e = a.asks_for.not_bad (e ∙ some_same (sym found.bad_is ∙ a.asks_for.bad_is))

    best : (half : ℕ) × (1 ≤ half) × (half + half ≤ first_of Has (length graph)) × (first_of Has (length graph) ≤ half + half + 1)
        × (half ≤ first_of Has (suc q)) × (half + first_of Has (suc q) ≤ first_of Has (length graph))
    best = best_halves graph s bad g q in_line unskipped found.chosen a.asks_for.within bad_place here not_bad

    whole : first_of (λ p. is_candidate_of graph s p) (length graph) ≡ first_of Has (length graph)
    whole = λ i. first_of (λ p. has_is p i) (length graph)

    reached : first_of (λ p. is_candidate_of graph (mark (ask graph s).search Bad q) p) (length graph) ≡ first_of Has (suc q)
    reached =
        (λ i. first_of (λ p. after_bad graph s q p g h i) (length graph))
        ∙ (λ i. first_of (λ p. has_is p i && reaches (in_mode graph s.first_parent) q p) (length graph))
        ∙ reached_count graph s bad g q in_line a.asks_for.within here

    parts : first_of (λ p. is_candidate_of graph (mark (ask graph s).search Good q) p) (length graph) + first_of
        (λ p. is_candidate_of graph (mark (ask graph s).search Bad q) p) (length graph) ≡ first_of (λ p. is_candidate_of graph s p) (length graph)
    parts = parts_count (λ p. is_candidate_of graph s p) (λ p. is_candidate_of graph (mark (ask graph s).search Good q) p)
        (λ p. is_candidate_of graph (mark (ask graph s).search Bad q) p) (places graph) (λ p. guesses_part graph s q p g h)

-- ---- powers of two

doubled : (n whole half left : ℕ) → 1 ≤ half → half + half ≤ whole → whole ≤ half + half + 1 → left + half ≤ whole → 2 ^ n < 2 * left → 2 ^ suc n < 2 * whole
doubled zero whole half left some low high few h = omega (arith, pow-suc 2 0, zero_power)
  where
    zero_power : 2 ^ 0 ≡ 1
    zero_power = refl
doubled (suc n) whole half left some low high few h = by_number (2 ^ n) (pow-suc 2 n) (pow-suc 2 (suc n))
  where
    by_number : (y : ℕ) → 2 ^ suc n ≡ y * 2 → 2 ^ suc (suc n) ≡ 2 ^ suc n * 2 → 2 ^ suc (suc n) < 2 * whole
    by_number y e f = omega arith

-- ---- the run

module _ (graph : List (List ℕ)) (known : Outcomes) (g : IsGraph graph) where
  record Lined (s : Search) : Type 0 where
    over : IsSearchOver graph s
    checked : s.checked ≡ true
    unskipped : NoneSkipped s
    line : IsLine graph s

  abbrev Bounded : Search → Run → Type 0
  Bounded s r = All (λ (pair : ℕ × Outcome). IsGoodOrBad pair.1) r.used → 1 ≤ left_of graph s → 2 ^ length r.used < 2 * left_of graph s

  bounded_none : (s : Search) → 1 ≤ left_of graph s → 2 ^ 0 < 2 * left_of graph s
  bounded_none s some = let e : 2 ^ 0 ≡ 1 = refl in omega arith

  marked_good : (t : Search) (q : ℕ) → (mark t Good q).skips ≡ t.skips
  unfolding mark
  marked_good t q = refl

  marked_bad : (t : Search) (q : ℕ) → (mark t Bad q).skips ≡ t.skips
  unfolding mark
  marked_bad t q = refl

  mode_good : (t : Search) (q : ℕ) → (mark t Good q).first_parent ≡ t.first_parent
  unfolding mark
  mode_good t q = refl

  mode_bad : (t : Search) (q : ℕ) → (mark t Bad q).first_parent ≡ t.first_parent
  unfolding mark
  mode_bad t q = refl

  lined_child : (s : Search) (m : Mark) (q : ℕ) → Lined s → (ask graph s).step.ask ≡ Test q → (mark (ask graph s).search m q).skips ≡ (ask graph s).search.skips
      → (mark (ask graph s).search m q).first_parent ≡ (ask graph s).search.first_parent → Lined (mark (ask graph s).search m q)
  lined_child s m q lined h same_skips same_mode = record {
    over = IsSearchOver-marked graph s m q g lined.over h;
    checked = stays_checked graph s m q g h (settled graph s q h lined.checked).0;
    unskipped = λ p. ap (λ (ks : List Bool). is_in ks p) (same_skips ∙ (asking graph s q g h).same.skips) ∙ lined.unskipped p;
    line = λ p r k l.
        subst (λ (f : Bool). Reaches (in_mode graph f) p r ⊎ Reaches (in_mode graph f) r p) (sym (same_mode ∙ (asking graph s q g h).same.first_parent))
        (lined.line p r (candidate_before graph s m q p g h k) (candidate_before graph s m q r g h l));
  }

  bounded_mark : (go : Go) (left : Option ℕ) (s : Search) (q : ℕ) (outcome : Outcome) (m : Mark) → Lined s → (ask graph s).step.ask ≡ Test q
      → (MarkOf m ≡ MarkOf Good) ⊎ (MarkOf m ≡ MarkOf Bad)
      → ((t : Search) → Lined t → Bounded t (go (marked_one left) t))
      → All (λ (pair : ℕ × Outcome). IsGoodOrBad pair.1) (go (marked_one left) (mark (ask graph s).search m q)).used
      → 2 ^ suc (length (go (marked_one left) (mark (ask graph s).search m q)).used) < 2 * left_of graph s
  bounded_mark go left s q outcome Skip lined h (inl e) each all = cc
  bounded_mark go left s q outcome Skip lined h (inr e) each all = cc
  bounded_mark go left s q outcome Good lined h kind each all =
      let parts : Halved graph s q = halved graph s q g lined.over lined.checked lined.unskipped lined.line h in
      doubled (length (go (marked_one left) (mark (ask graph s).search Good q)).used) (left_of graph s) parts.half
      (left_of graph (mark (ask graph s).search Good q)) parts.some parts.low parts.high (omega (arith, parts.both, parts.bad_low))
      (each (mark (ask graph s).search Good q) (lined_child s Good q lined h (marked_good (ask graph s).search q) (mode_good (ask graph s).search q)) all
      (omega (arith, parts.some, parts.good_low)))
  bounded_mark go left s q outcome Bad lined h kind each all =
      let parts : Halved graph s q = halved graph s q g lined.over lined.checked lined.unskipped lined.line h in
      doubled (length (go (marked_one left) (mark (ask graph s).search Bad q)).used) (left_of graph s) parts.half
      (left_of graph (mark (ask graph s).search Bad q)) parts.some parts.low parts.high (omega (arith, parts.both, parts.good_low))
      (each (mark (ask graph s).search Bad q) (lined_child s Bad q lined h (marked_bad (ask graph s).search q) (mode_bad (ask graph s).search q)) all
      (omega (arith, parts.some, parts.bad_low)))

  bounded_verdict : (go : Go) (left : Option ℕ) (s : Search) (q : ℕ) (outcome : Outcome) (v : Verdict) → Lined s → (ask graph s).step.ask ≡ Test q
      → (v ≡ MarkOf Good) ⊎ (v ≡ MarkOf Bad)
      → ((t : Search) → Lined t → Bounded t (go (marked_one left) t))
      → All (λ (pair : ℕ × Outcome). IsGoodOrBad pair.1) (after_verdict go left (ask graph s).search q outcome v).used
      → 2 ^ suc (length (after_verdict go left (ask graph s).search q outcome v).used) < 2 * left_of graph s
  bounded_verdict go left s q outcome Abort lined h (inl e) each all = cc
  bounded_verdict go left s q outcome Abort lined h (inr e) each all = cc
  bounded_verdict go left s q outcome (MarkOf m) lined h kind each all = bounded_mark go left s q outcome m lined h kind each all

  bounded_look : (go : Go) (left : Option ℕ) (s : Search) (q : ℕ) (o : Option Outcome) → Lined s → (ask graph s).step.ask ≡ Test q
      → ((t : Search) → Lined t → Bounded t (go (marked_one left) t))
      → Bounded s (after_look known go left (ask graph s).search q o)
  bounded_look go left s q None lined h each = λ all some. bounded_none s some
  bounded_look go left s q (Some outcome) lined h each = λ all some.
      let rest : Run = after_verdict go left (ask graph s).search q outcome (verdict_of outcome) in
      bounded_verdict go left s q outcome (verdict_of outcome) lined h (All-head (λ (pair : ℕ × Outcome). IsGoodOrBad pair.1) (q, outcome) rest.used all) each
      (All-tail (λ (pair : ℕ × Outcome). IsGoodOrBad pair.1) (q, outcome) rest.used all)

  bounded_step : (go : Go) (left : Option ℕ) (s : Search) (a : Ask) → Lined s → (ask graph s).step.ask ≡ a
      → ((t : Search) → Lined t → Bounded t (go (marked_one left) t)) → Bounded s (after_step known go left (ask graph s).search a)
  bounded_step go left s (Test q) lined h each = bounded_look go left s q (known q) lined h each
  bounded_step go left s (FirstBad p) lined h each = λ all some. bounded_none s some
  bounded_step go left s (OnlySkipped ps) lined h each = λ all some. bounded_none s some
  bounded_step go left s WaitBoth lined h each = λ all some. bounded_none s some
  bounded_step go left s WaitBad lined h each = λ all some. bounded_none s some
  bounded_step go left s WaitGood lined h each = λ all some. bounded_none s some
  bounded_step go left s (MergeBaseBad p) lined h each = λ all some. bounded_none s some
  bounded_step go left s (GoodNotAncestor p) lined h each = λ all some. bounded_none s some
  bounded_step go left s (BothSides p) lined h each = λ all some. bounded_none s some

  bounded_ask : (go : Go) (left : Option ℕ) (s : Search) → Lined s → ((t : Search) → Lined t → Bounded t (go (marked_one left) t))
      → Bounded s (after_ask known go left (ask graph s))
  bounded_ask go left s lined each = λ all some. bounded_step go left s (ask graph s).step.ask lined refl each all some

  bounded_turn : (go : Go) (left : Option ℕ) (s : Search) → Lined s → ((t : Search) → Lined t → Bounded t (go (marked_one left) t))
      → Bounded s (turn graph known go left s)
  bounded_turn go (Some zero) s lined each = λ all some. bounded_none s some
  bounded_turn go (Some (suc k)) s lined each = bounded_ask go (Some (suc k)) s lined each
  bounded_turn go None s lined each = bounded_ask go None s lined each

  bounded_within : (n : ℕ) (left : Option ℕ) (s : Search) → Lined s → Bounded s (run_within n graph known left s)
  unfolding run_within
  bounded_within zero left s lined = λ all some. bounded_none s some
  bounded_within (suc n) left s lined = bounded_turn (run_within n graph known) left s lined (λ t l. bounded_within n (marked_one left) t l)

  pub run_halves : (left : Option ℕ) (s : Search) → IsSearchOver graph s → s.checked ≡ true → NoneSkipped s → IsLine graph s
      → All (λ (pair : ℕ × Outcome). IsGoodOrBad pair.1) (run graph known left s).used → 1 ≤ left_of graph s
      → 2 ^ length (run graph known left s).used < 2 * left_of graph s
  unfolding run
  run_halves left s over c unskipped line all some = bounded_within (suc (length graph)) left s
      (record { over = over; checked = c; unskipped = unskipped; line = line }) all some
