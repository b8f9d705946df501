-- Open paths: which place to test next, while other workers test the places that were asked before.
use Rattle.std.specs.Prelude.{◌≡◌, ◌⊎◌, ℕ, ◌<◌, zero, suc, Bool, true, false, ◌&&◌, ◌||◌, ◌==◌, nat_lt, if◌then◌else◌, List, [], ◌∷◌, length, count_by, Option, Some, None}
use Rattle.std.specs.List.{list_any}
use Rattle.bf_search.specs.declared.asks.Ask.{Ask}
use Rattle.bf_search.specs.declared.asks.Ask.TheVariants.{Test}
use Rattle.bf_search.specs.declared.farm.Claim.{Claim}
use Rattle.bf_search.specs.declared.outcomes.Mark.{Mark}
use Rattle.bf_search.specs.declared.outcomes.Mark.TheVariants.{Good, Bad, Skip}
use Rattle.bf_search.specs.declared.outcomes.Outcome.{Outcome}
use Rattle.bf_search.specs.declared.outcomes.Verdict.{Verdict}
use Rattle.bf_search.specs.declared.outcomes.Verdict.TheVariants.{Mark as MarkOf, Abort}
use Rattle.bf_search.specs.Reach.{places}
use Rattle.bf_search.specs.Outcomes.{Outcomes, verdict_of}
use Rattle.bf_search.specs.State.{Search, ask, mark}
use Rattle.bf_search.specs.Guesses.{is_candidate_of}

-- whether a claim stands on a place
abbrev pub is_claimed : List Claim → ℕ → Bool
is_claimed claims p = list_any (λ c. c.place == p) claims

-- how many candidates a search has left
unfoldable pub left_of : List (List ℕ) → Search → ℕ
left_of graph s = count_by (λ p. is_candidate_of graph s p) (places graph)

-- an open path: its marks, the place that it asks, and how many candidates are left there
pub record OpenPath : Type 0 where
  pub marks : List Mark
  pub place : ℕ
  pub left : ℕ

-- ---- which path is the better one

-- whether the first list of marks has good where the two first differ, and the other has bad
abbrev pub good_first : List Mark → List Mark → Bool
good_first (Good ∷ ms) (Good ∷ ns) = good_first ms ns
good_first (Bad ∷ ms) (Bad ∷ ns) = good_first ms ns
good_first (Skip ∷ ms) (Skip ∷ ns) = good_first ms ns
good_first (Good ∷ ms) (Bad ∷ ns) = true
good_first ms ns = false

-- whether it is the shorter one or, of two that are as long, has good first
abbrev pub comes_before : List Mark → List Mark → Bool
comes_before ms ns = nat_lt (length ms) (length ns) || ((length ms == length ns) && good_first ms ns)

-- Whether the first path is the better one: it has more candidates left or, of two that have as many, comes before.
abbrev pub is_better : OpenPath → OpenPath → Bool
is_better a b = nat_lt b.left a.left || ((a.left == b.left) && comes_before a.marks b.marks)

-- the better of two paths, where there are two
abbrev pub better : Option OpenPath → Option OpenPath → Option OpenPath
better None b = b
better (Some a) None = Some a
better (Some a) (Some b) = if is_better b a then Some b else Some a

-- ---- the best open path

-- a path behind one mark more
abbrev pub followed_by : Mark → Option OpenPath → Option OpenPath
followed_by m None = None
followed_by m (Some path) = Some (record path { marks = m ∷ path.marks })

-- a known abort ends the path, and any other verdict is its next mark
abbrev pub after_verdict : (Search → Option OpenPath) → Search → ℕ → Verdict → Option OpenPath
after_verdict go s p Abort = None
after_verdict go s p (MarkOf m) = followed_by m (go (mark s m p))

-- an unknown outcome is guessed where its place is claimed; elsewhere the path is open
abbrev pub after_claim : List (List ℕ) → (Search → Option OpenPath) → Search → ℕ → Bool → Option OpenPath
after_claim graph go s p false = Some (record { marks = []; place = p; left = left_of graph s })
after_claim graph go s p true = better (followed_by Good (go (mark s Good p))) (followed_by Bad (go (mark s Bad p)))

abbrev pub after_look : List (List ℕ) → List Claim → (Search → Option OpenPath) → Search → ℕ → Option Outcome → Option OpenPath
after_look graph claims go s p (Some outcome) = after_verdict go s p (verdict_of outcome)
after_look graph claims go s p None = after_claim graph go s p (is_claimed claims p)

-- a test is looked up among the known outcomes; after any other ask there is no path
abbrev pub after_step : List (List ℕ) → Outcomes → List Claim → (Search → Option OpenPath) → Search → Ask → Option OpenPath
after_step graph known claims go s (Test p) = after_look graph claims go s p (known p)
after_step graph known claims go s other = None

-- one turn: the search asks, and its path is open or goes on
abbrev pub path_turn : List (List ℕ) → Outcomes → List Claim → (Search → Option OpenPath) → Search → Option OpenPath
path_turn graph known claims go s = after_step graph known claims go (ask graph s).search (ask graph s).step.ask

-- the best open path, in at most so many turns
unfoldable pub best_within : ℕ → List (List ℕ) → Outcomes → List Claim → Search → Option OpenPath
best_within zero graph known claims s = None
best_within (suc turns) graph known claims s = path_turn graph known claims (best_within turns graph known claims) s

-- The best open path from a search. No place is asked twice along a path, so its turns are never spent.
unfoldable pub best_open : List (List ℕ) → Outcomes → List Claim → Search → Option OpenPath
best_open graph known claims s = best_within (suc (length graph)) graph known claims s

-- the place that it asks
abbrev pub place_of : Option OpenPath → Option ℕ
place_of None = None
place_of (Some path) = Some path.place

-- ---- all paths

-- A known outcome forces the mark, and an unknown one is guessed good or bad.
abbrev pub Allows : Option Outcome → Mark → Type 0
Allows (Some outcome) m = verdict_of outcome ≡ MarkOf m
Allows None Good = Unit {0}
Allows None Bad = Unit {0}
Allows None Skip = ⊥

-- The marks lead from a search to an ask for this place, with so many candidates left there.
abbrev pub Leads : List (List ℕ) → Outcomes → Search → List Mark → ℕ → ℕ → Type 0
Leads graph known s [] p left = ((ask graph s).step.ask ≡ Test p) × (left ≡ left_of graph (ask graph s).search)
Leads graph known s (m ∷ ms) p left =
    (q : ℕ) × ((ask graph s).step.ask ≡ Test q) × Allows (known q) m × Leads graph known (mark (ask graph s).search m q) ms p left

-- A path is open where the place that it asks has neither outcome nor claim.
pub record IsOpenPath (graph : List (List ℕ)) (known : Outcomes) (claims : List Claim) (s : Search) (path : OpenPath) : Type 0 where
  pub leads : Leads graph known s path.marks path.place path.left
  pub unknown : known path.place ≡ None
  pub unclaimed : is_claimed claims path.place ≡ false

-- it is the shorter one or, of two that are as long, has good first or is the same
abbrev pub ComesNoLater : List Mark → List Mark → Type 0
ComesNoLater ms ns = (length ms < length ns) ⊎ ((length ms ≡ length ns) × ((good_first ms ns ≡ true) ⊎ (ms ≡ ns)))

-- the first path is no worse than the other: the other is not the better one
abbrev pub IsNoWorse : OpenPath → OpenPath → Type 0
IsNoWorse a b = (b.left < a.left) ⊎ ((a.left ≡ b.left) × ComesNoLater a.marks b.marks)
