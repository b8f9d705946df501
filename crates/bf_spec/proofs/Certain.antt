-- Where the check has passed, and the places that may be asked have no outcome but skips, some path asks for each of them.
use Rattle.std.proofs.Common.{◌≡◌, ℕ, zero, suc, ◌<◌, ◌≤◌, ◌⊎◌, Bool, true, false, ◌||◌, ◌==◌, cond, leb, List, [], ◌∷◌, length, Option, Some, None}
use Rattle.std.proofs.Common.{get_or, slice_index, slice_set, not, refl, sym, ap, ◌∙◌, subst, inl, inr, ⊎_elim, arith, eqb-true, eq-eqb, IfSome}
use Rattle.std.proofs.lemmas.List.Elements.{All-contains}
use Rattle.std.specs.Arc.{arc_value}
use Rattle.std.proofs.lemmas.List.{get_or-set_other}
use Rattle.std.proofs.lemmas.Bool.{and_from, and_parts, not-true, ne_eqb, both_ways, cases_eq, cases_Bool, cond-true, cond-false, le-leb}
use Rattle.std.specs.List.{Contains, find, list_all}
use Rattle.bf_graph.specs.Graph.{IsGraph}
use Rattle.bf_search.specs.declared.asks.Ask.TheVariants.{Test, FirstBad}
use Rattle.bf_search.specs.declared.outcomes.Mark.TheVariants.{Good, Bad, Skip}
use Rattle.bf_search.specs.declared.outcomes.Outcome.{Outcome}
use Rattle.bf_search.specs.declared.outcomes.Verdict.{Verdict}
use Rattle.bf_search.specs.declared.outcomes.Verdict.TheVariants.{Mark as MarkOf, Abort}
use Rattle.bf_search.specs.Candidates.{is_in, is_candidate, candidate_row, candidates, weights}
use Rattle.bf_search.specs.Choice.{best, count_in, eligible, first_greatest, is_eligible, value_of}
use Rattle.bf_search.specs.Guesses.{is_candidate_below, is_candidate_of}
use Rattle.bf_search.specs.LeftToAsk.{left_to_ask}
use Rattle.bf_search.specs.OpenPaths.{left_of, Allows}
use Rattle.bf_search.specs.Outcomes.{Outcomes, outcomes_of_table, verdict_of}
use Rattle.bf_search.specs.State.{Search, Asked, IsSearchOver, ask, ask_among, ask_best, best_of, is_place, mark, without_test}
use Rattle.bf_search.proofs.CandidateLemmas.{IsCandidate-from_test, is_in-candidate_row, length-candidate_row}
use Rattle.bf_search.proofs.Modes.{IsGraph-in_mode}
use Rattle.bf_search.proofs.Reaching.{Reaches-le}
use Rattle.bf_search.proofs.Turns.{Asking, asking, IsSearchOver-marked, left_to_ask-falls}
use Rattle.bf_choice.proofs.Leading.{may_be_asked}
use Rattle.bf_choice.proofs.Listed.{Contains-filter_range}
use Rattle.bf_state.specs.Ends.{HasEnds}
use Rattle.bf_state.proofs.Asks.{known_ends}
use Rattle.bf_state.proofs.Causes.{next_has_ends}
use Rattle.bf_state.proofs.Firsts.{only_has}
use Rattle.bf_state.proofs.OnePath.{settled, stays_checked}
use Rattle.bf_state.proofs.Parted.{guesses_part}
use Rattle.bf_state.proofs.Passing.{length-mask}
use Rattle.bf_state.proofs.Shrinking.{candidate_before}
use Rattle.bf_spec.specs.declared.node.Node.{Node}
use Rattle.bf_spec.specs.Nodes.{AreNodes, IsNode}
use Rattle.bf_spec.specs.Sights.{IsSight}
use Rattle.bf_spec.specs.Ways.{AreUntold, IsAsked, IsSure, MayBeAsked, is_told, says_more, may_be_asked as node_may}
use Rattle.bf_spec.proofs.Asking.{in_mask}
use Rattle.bf_spec.proofs.Growing.{sight_of, read_as}
use Rattle.bf_spec.proofs.Sights.{stays_in}
use Rattle.bf_spec.proofs.Walking.{NodeFacts, node_facts}

-- ---- the best of some places

record Greatest (value : ℕ → ℕ) (ps : List ℕ) : Type 0 where
  place : ℕ
  among : Contains ps place
  most : (q : ℕ) → Contains ps q → value q ≤ value place

greatest : (value : ℕ → ℕ) (p : ℕ) (ps : List ℕ) → Greatest value (p ∷ ps)
greatest value p [] = record {
  place = p;
  among = (0, omega arith, refl);
  most = λ q h. subst (λ (x : ℕ). value x ≤ value p) (only_has p q h) (omega arith);
}
greatest value p (r ∷ ps) = of_rest (greatest value r ps) (cases (value (greatest value r ps).place) (value p))
  where
    cases : (a b : ℕ) → (a ≤ b) ⊎ (b ≤ a)
    cases a b = grind arith

    of_rest : (g : Greatest value (r ∷ ps)) → (value g.place ≤ value p) ⊎ (value p ≤ value g.place) → Greatest value (p ∷ r ∷ ps)
    of_rest g (inl l) = record {
      place = p;
      among = (0, omega arith, refl);
      most = λ q h. first q l g h;
    }
      where
        first : (q : ℕ) → value g.place ≤ value p → Greatest value (r ∷ ps) → Contains (p ∷ r ∷ ps) q → value q ≤ value p
        first q l x (zero, k, e) = subst (λ (y : ℕ). value y ≤ value p) e (omega arith)
        first q l x (suc j, k, e) = let m = g.most q (j, omega (arith, k), e) in omega (arith, m, l)
    of_rest g (inr l) = record {
      place = g.place;
      among = (suc g.among.0, let k = g.among.1 in omega (arith, k), g.among.2);
      most = λ q h. later q l g h;
    }
      where
        later : (q : ℕ) → value p ≤ value g.place → Greatest value (r ∷ ps) → Contains (p ∷ r ∷ ps) q → value q ≤ value g.place
        later q l x (zero, k, e) = subst (λ (y : ℕ). value y ≤ value g.place) e l
        later q l x (suc j, k, e) = g.most q (j, omega (arith, k), e)

all_pass : (P : ℕ → Bool) (ps : List ℕ) → ((q : ℕ) → Contains ps q → P q ≡ true) → list_all P ps ≡ true
all_pass P [] h = refl
all_pass P (p ∷ ps) h =
    and_from (P p) (list_all P ps) (h p (0, omega arith, refl)) (all_pass P ps (λ q c. h q (suc c.0, let l = c.1 in omega (arith, l), c.2)))

-- where one passes the first that passes is found
some_found : (P : ℕ → Bool) (ps : List ℕ) (x : ℕ) → Contains ps x → P x ≡ true → (y : ℕ) × (find P ps ≡ Some y)
some_found P [] x c h = let l = c.1 in absurd (omega (arith, l))
some_found P (p ∷ ps) x c h = by_first (cases_Bool (P p)) (λ d. some_found P ps x d h)
  where
    later : Contains (p ∷ ps) x → P p ≡ false → Contains ps x
    later (zero, l, e) fails = absurd (both_ways (P p) fails (ap P e ∙ h))
    later (suc k, l, e) fails = (k, omega (arith, l), e)

    by_first : (P p ≡ true) ⊎ (P p ≡ false) → (Contains ps x → (y : ℕ) × (find P ps ≡ Some y)) → (y : ℕ) × (find P (p ∷ ps) ≡ Some y)
    by_first (inl passes) next = (p, cond-true (P p) (Some p) (find P ps) passes)
    by_first (inr fails) next = let rest = next (later c fails) in (rest.0, cond-false (P p) (Some p) (find P ps) fails ∙ rest.1)

some_greatest : (value : ℕ → ℕ) (ps : List ℕ) (x : ℕ) → Contains ps x → (q : ℕ) × (first_greatest value ps ≡ Some q)
some_greatest value [] x c = let l = c.1 in absurd (omega (arith, l))
some_greatest value (p ∷ ps) x c =
    let g = greatest value p ps in
    some_found (λ y. list_all (λ q. leb (value q) (value y)) (p ∷ ps)) (p ∷ ps) g.place g.among
    (all_pass (λ q. leb (value q) (value g.place)) (p ∷ ps) (λ q h. le-leb (value q) (value g.place) (g.most q h)))

some_best : (graph : List (List ℕ)) (s : Search) (bad x : ℕ) → x < length graph
    → is_eligible (candidate_row graph bad s.goods s.first_parent) bad s.skips x ≡ true → (q : ℕ) × (best_of graph s bad ≡ Some q)
unfolding best_of best
some_best graph s bad x within e =
    let row = candidate_row graph bad s.goods s.first_parent in
    let long = length-candidate_row graph bad s.goods s.first_parent in
    some_greatest (λ p. value_of (count_in row) (slice_index (weights graph row s.first_parent) p)) (eligible row bad s.skips) x
    (Contains-filter_range (λ p. is_eligible row bad s.skips p) 0 (length row) x (omega arith) (omega (arith, long, within)) e)

-- ---- a test is asked

one_test : (b : Bool) (s : Search) (bad q : ℕ) (warned ps : List ℕ) → (b ≡ true → ⊥)
    → (cond b (without_test s warned (FirstBad bad)) (ask_best s warned ps (Some q))).step.ask ≡ Test q
one_test true s bad q warned ps other = absurd (other refl)
one_test false s bad q warned ps other = refl

among_test : (s : Search) (bad q x : ℕ) (warned ps : List ℕ) → Contains ps x → (x ≡ bad → ⊥) → (ask_among s bad warned ps (Some q)).step.ask ≡ Test q
among_test s bad q x warned [] c other = let l = c.1 in absurd (omega (arith, l))
among_test s bad q x warned (p ∷ []) c other =
    one_test (p == bad) s bad q warned (p ∷ []) (λ e. other (sym (only_has p x c) ∙ eqb-true p bad e))
among_test s bad q x warned (p ∷ r ∷ ps) c other = refl

listed : (graph : List (List ℕ)) (bad : ℕ) (goods : List ℕ) (first_parent : Bool) (x : ℕ) → x < length graph
    → is_candidate graph bad goods first_parent x ≡ true → Contains (candidates graph bad goods first_parent) x
unfolding candidates
listed graph bad goods first_parent x within h =
    Contains-filter_range (λ p. is_candidate graph bad goods first_parent p) 0 (length graph) x (omega arith) (omega (arith, within)) h

asks_test : (graph : List (List ℕ)) (s : Search) (x : ℕ) → x < length graph → HasEnds s → s.checked ≡ true → MayBeAsked graph s x
    → (q : ℕ) × ((ask graph s).step.ask ≡ Test q)
asks_test graph s x within ends checked may = (
  found.0,
  ap (λ (a : Asked). a.step.ask) asked ∙ among_test s ends.bad found.0 x [] (candidates graph ends.bad s.goods s.first_parent)
      (listed graph ends.bad s.goods s.first_parent x within candidate) other,
)
  where
    candidate : is_candidate graph ends.bad s.goods s.first_parent x ≡ true
    candidate = ap (λ (o : Option ℕ). is_candidate_below graph o s x) (sym ends.bad_is) ∙ may.candidate

    other : x ≡ ends.bad → ⊥
    other e = may.not_bad (ends.bad_is ∙ ap (λ (b : ℕ). Some b) (sym e))

    found : (q : ℕ) × (best_of graph s ends.bad ≡ Some q)
    found = some_best graph s ends.bad x within
        (may_be_asked (candidate_row graph ends.bad s.goods s.first_parent) s.skips ends.bad x
        (is_in-candidate_row graph ends.bad s.goods s.first_parent x within ∙ candidate) other may.not_skipped)

    asked : ask graph s ≡ ask_among s ends.bad [] (candidates graph ends.bad s.goods s.first_parent) (Some found.0)
    asked =
        known_ends graph s ends.bad ends.bad_is ends.some_good
        ∙ cond-true s.checked _ _ checked
        ∙ ap (λ (o : Option ℕ). ask_among s ends.bad [] (candidates graph ends.bad s.goods s.first_parent) o) found.1

-- ---- behind a mark

below_alike : (graph : List (List ℕ)) (bad : Option ℕ) (s t : Search) (x : ℕ) → s.goods ≡ t.goods → s.first_parent ≡ t.first_parent
    → is_candidate_below graph bad s x ≡ is_candidate_below graph bad t x
below_alike graph None s t x g f = refl
below_alike graph (Some bad) s t x g f = λ i. is_candidate graph bad (g i) (f i) x

not_before : (row : List Bool) (p q : ℕ) → is_in (slice_set row p true) q ≡ false → is_in row q ≡ false
not_before row p q h = by_value (cases_Bool (is_in row q))
  where
    by_value : (is_in row q ≡ true) ⊎ (is_in row q ≡ false) → is_in row q ≡ false
    by_value (inl there) = absurd (both_ways (is_in (slice_set row p true) q) h (stays_in row p q there))
    by_value (inr lacks) = lacks

module _ (graph : List (List ℕ)) (s : Search) (q : ℕ) (g : IsGraph graph) (h : (ask graph s).step.ask ≡ Test q) where
  abbrev t : Search
  t = (ask graph s).search

  a : Asking graph s (ask graph s) q
  a = asking graph s q g h

  same_place : (x y : ℕ) → Some x ≡ Some y → x ≡ y
  same_place x y e = cc e

  kept_good : (x : ℕ) → is_candidate_of graph (mark t Good q) x ≡ true → MayBeAsked graph s x → MayBeAsked graph (mark t Good q) x
  unfolding mark
  kept_good x k may = record {
    candidate = k;
    not_bad = λ e. may.not_bad (sym a.same.bad ∙ e);
    not_skipped = ap (λ (row : List Bool). is_in row x) a.same.skips ∙ may.not_skipped;
  }

  kept_bad : (x : ℕ) → (q ≡ x → ⊥) → is_candidate_of graph (mark t Bad q) x ≡ true → MayBeAsked graph s x → MayBeAsked graph (mark t Bad q) x
  unfolding mark
  kept_bad x other k may = record {
    candidate = k;
    not_bad = λ e. other (same_place q x e);
    not_skipped = ap (λ (row : List Bool). is_in row x) a.same.skips ∙ may.not_skipped;
  }

  was_good : (r : ℕ) → MayBeAsked graph (mark t Good q) r → MayBeAsked graph s r
  unfolding mark
  was_good r may = record {
    candidate = candidate_before graph s Good q r g h may.candidate;
    not_bad = λ e. may.not_bad (a.same.bad ∙ e);
    not_skipped = ap (λ (row : List Bool). is_in row r) (sym a.same.skips) ∙ may.not_skipped;
  }

  was_bad : (r : ℕ) → MayBeAsked graph (mark t Bad q) r → MayBeAsked graph s r
  unfolding mark
  was_bad r may = record {
    candidate = candidate_before graph s Bad q r g h may.candidate;
    not_bad = λ e. a.asks_for.not_bad (between (same_place r a.asks_for.bad (sym e ∙ a.asks_for.bad_is)));
    not_skipped = ap (λ (row : List Bool). is_in row r) (sym a.same.skips) ∙ may.not_skipped;
  }
    where
      below : r ≤ q
      below = Reaches-le (IsGraph-in_mode graph t.first_parent g) (IsCandidate-from_test graph q t.goods t.first_parent r g may.candidate).reached

      between : r ≡ a.asks_for.bad → q ≡ a.asks_for.bad
      between e = let above = Reaches-le g a.asks_for.reached in omega (arith, above, below, e)

  candidate_alike : (r : ℕ) → is_candidate_of graph (mark t Skip q) r ≡ is_candidate_of graph s r
  unfolding mark
  candidate_alike r =
      ap (λ (bad : Option ℕ). is_candidate_below graph bad (mark t Skip q) r) a.same.bad
      ∙ below_alike graph s.bad (mark t Skip q) s r a.same.goods a.same.first_parent

  kept_skip : (x : ℕ) → (q ≡ x → ⊥) → MayBeAsked graph s x → MayBeAsked graph (mark t Skip q) x
  unfolding mark
  kept_skip x other may = record {
    candidate = candidate_alike x ∙ may.candidate;
    not_bad = λ e. may.not_bad (sym a.same.bad ∙ e);
    not_skipped = get_or-set_other t.skips q x true false (λ e. other (sym e)) ∙ ap (λ (row : List Bool). is_in row x) a.same.skips ∙ may.not_skipped;
  }

  was_skip : (r : ℕ) → MayBeAsked graph (mark t Skip q) r → MayBeAsked graph s r
  unfolding mark
  was_skip r may = record {
    candidate = sym (candidate_alike r) ∙ may.candidate;
    not_bad = λ e. may.not_bad (a.same.bad ∙ e);
    not_skipped = ap (λ (row : List Bool). is_in row r) (sym a.same.skips) ∙ not_before t.skips q r may.not_skipped;
  }

  pub asked_may : s.checked ≡ true → MayBeAsked graph s q
  asked_may checked = record {
    candidate = (settled graph s q h checked).1;
    not_bad = λ e. a.asks_for.not_bad (same_place q a.asks_for.bad (sym e ∙ a.asks_for.bad_is));
    not_skipped = a.asks_for.not_skipped;
  }

-- ---- a path

some_part : (one other : Bool) → (one || other) ≡ true → (one ≡ true) ⊎ (other ≡ true)
some_part true other h = inl refl
some_part false true h = inr refl
some_part false false h = inr h

only_skip : (v : Verdict) → says_more v ≡ false → v ≡ MarkOf Skip
only_skip (MarkOf Skip) h = refl
only_skip (MarkOf Good) h = cc h
only_skip (MarkOf Bad) h = cc h
only_skip Abort h = cc h

module _ (graph : List (List ℕ)) (known : Outcomes) (x : ℕ) (g : IsGraph graph) (within : x < length graph) where
  -- a search with no more told than skips of what may be asked, and x among that
  record IsOpen (s : Search) : Type 0 where
    over : IsSearchOver graph s
    ends : HasEnds s
    checked : s.checked ≡ true
    untold : AreUntold graph known s
    may : MayBeAsked graph s x

  asked_next : (turns : ℕ) (s : Search) → left_to_ask graph s < suc turns → IsOpen s
      → ((next : Search) → left_to_ask graph next < turns → IsOpen next → IsAsked graph known next x) → IsAsked graph known s x
  asked_next turns s few sure rests = by_place test.0 test.1 (cases_eq test.0 x)
    where
      test : (q : ℕ) × ((ask graph s).step.ask ≡ Test q)
      test = asks_test graph s x within sure.ends sure.checked sure.may

      by_good : (q : ℕ) (h : (ask graph s).step.ask ≡ Test q) → known q ≡ None → is_candidate_of graph (mark (ask graph s).search Good q) x ≡ true
          → IsAsked graph known s x
      by_good q h unknown k =
          let falls = left_to_ask-falls graph s Good q g sure.over h in
          let rest = rests (mark (ask graph s).search Good q) (omega (arith, falls, few)) (record {
            over = IsSearchOver-marked graph s Good q g sure.over h;
            ends = next_has_ends graph s Good q sure.ends;
            checked = stays_checked graph s Good q g h (settled graph s q h sure.checked).0;
            untold = λ r may. sure.untold r (was_good graph s q g h r may);
            may = kept_good graph s q g h x k sure.may;
          }) in
          (Good ∷ rest.0, rest.1, (q, h, subst (λ (o : Option Outcome). Allows o Good) (sym unknown) tt, rest.2))

      by_bad : (q : ℕ) (h : (ask graph s).step.ask ≡ Test q) → known q ≡ None → (q ≡ x → ⊥) → is_candidate_of graph (mark (ask graph s).search Bad q) x ≡ true
          → IsAsked graph known s x
      by_bad q h unknown other k =
          let falls = left_to_ask-falls graph s Bad q g sure.over h in
          let rest = rests (mark (ask graph s).search Bad q) (omega (arith, falls, few)) (record {
            over = IsSearchOver-marked graph s Bad q g sure.over h;
            ends = next_has_ends graph s Bad q sure.ends;
            checked = stays_checked graph s Bad q g h (settled graph s q h sure.checked).0;
            untold = λ r may. sure.untold r (was_bad graph s q g h r may);
            may = kept_bad graph s q g h x other k sure.may;
          }) in
          (Bad ∷ rest.0, rest.1, (q, h, subst (λ (o : Option Outcome). Allows o Bad) (sym unknown) tt, rest.2))

      by_skip : (q : ℕ) (h : (ask graph s).step.ask ≡ Test q) → (q ≡ x → ⊥) → Allows (known q) Skip → IsAsked graph known s x
      by_skip q h other allows =
          let falls = left_to_ask-falls graph s Skip q g sure.over h in
          let rest = rests (mark (ask graph s).search Skip q) (omega (arith, falls, few)) (record {
            over = IsSearchOver-marked graph s Skip q g sure.over h;
            ends = next_has_ends graph s Skip q sure.ends;
            checked = stays_checked graph s Skip q g h (settled graph s q h sure.checked).0;
            untold = λ r may. sure.untold r (was_skip graph s q g h r may);
            may = kept_skip graph s q g h x other sure.may;
          }) in
          (Skip ∷ rest.0, rest.1, (q, h, allows, rest.2))

      by_outcome : (o : Option Outcome) (q : ℕ) (h : (ask graph s).step.ask ≡ Test q) → (q ≡ x → ⊥) → known q ≡ o → is_told o ≡ false
          → IsAsked graph known s x
      by_outcome None q h other e untold =
          let parts = guesses_part graph s q x g h in
          ⊎_elim (by_good q h e) (by_bad q h e other) (some_part _ _ (parts.all ∙ sure.may.candidate))
      by_outcome (Some outcome) q h other e untold =
          by_skip q h other (subst (λ (o : Option Outcome). Allows o Skip) (sym e) (only_skip (verdict_of outcome) untold))

      by_place : (q : ℕ) (h : (ask graph s).step.ask ≡ Test q) → (q ≡ x) ⊎ (q ≡ x → ⊥) → IsAsked graph known s x
      by_place q h (inl same) = ([], left_of graph (ask graph s).search, (h ∙ ap (λ (p : ℕ). Test p) same, refl))
      by_place q h (inr other) = by_outcome (known q) q h other refl (sure.untold q (asked_may graph s q g h sure.checked))

  asked_within : (turns : ℕ) (s : Search) → left_to_ask graph s < turns → IsOpen s → IsAsked graph known s x
  asked_within zero s few sure = absurd (omega (arith, few))
  asked_within (suc turns) s few sure = asked_next turns s few sure (λ next less open'. asked_within turns next less open')

  pub surely_asked : (s : Search) → IsSearchOver graph s → HasEnds s → s.checked ≡ true → AreUntold graph known s → MayBeAsked graph s x
      → IsAsked graph known s x
  surely_asked s over ends checked untold may =
      asked_within (suc (left_to_ask graph s)) s (omega arith) (record { over = over; ends = ends; checked = checked; untold = untold; may = may })

-- ---- at a node

-- a candidate is a place of the graph
candidate_within : (graph : List (List ℕ)) (s : Search) (x : ℕ) → IsGraph graph → IsSearchOver graph s → is_candidate_of graph s x ≡ true → x < length graph
candidate_within graph s x g over h = by_bad s.bad h over.bad
  where
    by_bad : (o : Option ℕ) → is_candidate_below graph o s x ≡ true → IfSome o (λ bad. bad < length graph) → x < length graph
    by_bad None h below = cc h
    by_bad (Some bad) h below =
        let low = Reaches-le (IsGraph-in_mode graph s.first_parent g) (IsCandidate-from_test graph bad s.goods s.first_parent x g h).reached in
        omega (arith, low, below)

not_there : (o : Option ℕ) (x : ℕ) → (o ≡ Some x → ⊥) → not (is_place o x) ≡ true
not_there None x h = refl
not_there (Some b) x h = ap not (ne_eqb b x (λ e. h (ap (λ (y : ℕ). Some y) e)))

is_there : (o : Option ℕ) (x : ℕ) → not (is_place o x) ≡ true → o ≡ Some x → ⊥
is_there o x h e = both_ways (is_place o x) (not-true (is_place o x) h) (ap (λ (y : Option ℕ). is_place y x) e ∙ eq-eqb x x refl)

module _ (graph : List (List ℕ)) (node : Node) (f : NodeFacts graph node) (sight : IsSight graph node.state.search node.sight) where
  in_sight : (x : ℕ) → x < length graph → is_in (arc_value node.sight.mask) x ≡ is_candidate_of graph node.state.search x
  in_sight x within = ap (λ (row : List Bool). is_in row x) sight.mask ∙ in_mask graph node.state.search x within

  may_then : (x : ℕ) → MayBeAsked graph node.state.search x → node_may node x ≡ true
  may_then x may =
      and_from _ _
      (and_from _ _ (in_sight x (candidate_within graph node.state.search x f.parents f.over may.candidate) ∙ may.candidate)
      (not_there node.state.search.bad x may.not_bad))
      (ap not may.not_skipped)

  may_from : (x : ℕ) → x < length graph → node_may node x ≡ true → MayBeAsked graph node.state.search x
  may_from x within h =
      let outer = and_parts _ _ h in
      let inner = and_parts _ _ outer.0 in
      record {
        candidate = sym (in_sight x within) ∙ inner.0;
        not_bad = is_there node.state.search.bad x inner.1;
        not_skipped = not-true _ outer.1;
      }

pub walk_sure : (graph : List (List ℕ)) (table : List (Option Outcome)) (x : ℕ) (nodes : List Node) (i : ℕ) (node : Node) → AreNodes graph nodes
    → i < length nodes → node ≡ get_or nodes i node → x < length graph → IsSure table node x → (d : Node)
    → IsAsked graph (outcomes_of_table table) (get_or nodes i d).state.search x
walk_sure graph table x nodes i node t l e within sure d =
    subst (λ (n : Node). IsAsked graph (outcomes_of_table table) n.state.search x) (sym (read_as nodes i node d l e))
    (surely_asked graph (outcomes_of_table table) x f.parents within node.state.search f.over here.ends sure.checked
    (λ q may. sure.untold q (may_then graph node f seen q may)) (may_from graph node f seen x within sure.may))
  where
    f : NodeFacts graph node
    f = node_facts graph nodes node t (i, l, sym e)

    seen : IsSight graph node.state.search node.sight
    seen = sight_of graph nodes node t (i, l, sym e)

    here : IsNode graph t.session t.root node
    here = All-contains (IsNode graph t.session t.root) nodes node t.tree.each (i, l, sym e)

-- a node has a truth value for each place, twice
pub skips_within : (graph : List (List ℕ)) (nodes : List Node) (i : ℕ) (node : Node) → AreNodes graph nodes → i < length nodes
    → node ≡ get_or nodes i node → length node.state.search.skips ≡ length (arc_value node.sight.mask)
skips_within graph nodes i node t l e =
    (node_facts graph nodes node t (i, l, sym e)).over.skips
    ∙ sym (length-mask graph node.state.search (arc_value node.sight.mask) (sight_of graph nodes node t (i, l, sym e)).mask)
