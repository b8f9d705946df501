-- Worked examples of the headline in short, computed.
use Rattle.std.proofs.Common.{◌≡◌, ℕ, Bool, false, List, [], ◌∷◌, None, refl}
use Rattle.bf_search.specs.declared.asks.Ask.TheVariants.{MergeBaseBad, GoodNotAncestor, BothSides, FirstBad, OnlySkipped}
use Rattle.bf_search.specs.declared.entries.Entry.TheVariants.{Marked, SkippedBase, FirstBadFound, OnlySkippedLeft}
use Rattle.bf_search.specs.declared.outcomes.Mark.TheVariants.{Good, Bad, Skip}
use Rattle.bf_search.specs.declared.outcomes.Outcome.TheVariants.{Exit, Killed}
use Rattle.bf_headline.specs.Headline.{Graph, Standing, Answered, Open, Aborted, reaches_in, ask, mark, run_in, one_at_a_time, planned}

-- at first nothing is skipped
abbrev between : Bool → ℕ → List ℕ → Standing
between first_parent bad goods = record {
  first_parent = first_parent;
  bad = bad;
  goods = goods;
  skips = false ∷ false ∷ false ∷ false ∷ false ∷ [];
  checked = false;
  bad_asked = false;
}

-- five commits in a line
abbrev line : Graph
line = [] ∷ (0 ∷ []) ∷ (1 ∷ []) ∷ (2 ∷ []) ∷ (3 ∷ []) ∷ []

-- two commits over one
abbrev fork : Graph
fork = [] ∷ (0 ∷ []) ∷ (0 ∷ []) ∷ []

-- the best of four candidates is the second
line_halved : one_at_a_time line (planned (Exit 0 ∷ Exit 0 ∷ Exit 1 ∷ Exit 1 ∷ [])) (between false 4 (0 ∷ [])) ≡ record {
  entries = Marked Bad 2 ∷ Marked Good 1 ∷ FirstBadFound 2 ∷ [];
  used = (2, Exit 1) ∷ (1, Exit 0) ∷ [];
  end = Answered (FirstBad 2);
}
unfolding reaches_in ask mark run_in
line_halved = refl

-- all that are left are skipped
line_skipped : one_at_a_time line (planned []) (between false 3 (0 ∷ [])) ≡ record {
  entries = Marked Skip 1 ∷ Marked Skip 2 ∷ OnlySkippedLeft (1 ∷ 2 ∷ 3 ∷ []) ∷ [];
  used = (1, Exit 125) ∷ (2, Exit 125) ∷ [];
  end = Answered (OnlySkipped (1 ∷ 2 ∷ 3 ∷ []));
}
unfolding reaches_in ask mark run_in
line_skipped = refl

-- an outcome that aborts is used, and not marked
line_aborted : one_at_a_time line (planned (Exit 0 ∷ Exit 0 ∷ Killed ∷ [])) (between false 4 (0 ∷ [])) ≡ record {
  entries = [];
  used = (2, Killed) ∷ [];
  end = Aborted 2 Killed;
}
unfolding reaches_in ask mark run_in
line_aborted = refl

-- where no outcome is known the run waits
line_unknown : one_at_a_time line (λ p. None) (between false 4 (0 ∷ [])) ≡ record { entries = []; used = []; end = Open 2 }
unfolding reaches_in ask mark run_in
line_unknown = refl

-- a good commit above the bad one: the bad one is the merge base
line_crossed : one_at_a_time line (λ p. None) (between false 2 (3 ∷ [])) ≡ record { entries = []; used = []; end = Answered (GoodNotAncestor 2) }
unfolding reaches_in ask mark run_in
line_crossed = refl

-- a commit that is both leaves no candidate
line_met : one_at_a_time line (λ p. None) (between false 2 (2 ∷ [])) ≡ record { entries = []; used = []; end = Answered (BothSides 2) }
unfolding reaches_in ask mark run_in
line_met = refl

-- the merge base is tested first
base_good : one_at_a_time fork (planned (Exit 0 ∷ [])) (between false 1 (2 ∷ [])) ≡ record {
  entries = Marked Good 0 ∷ FirstBadFound 1 ∷ [];
  used = (0, Exit 0) ∷ [];
  end = Answered (FirstBad 1);
}
unfolding reaches_in ask mark run_in
base_good = refl

base_bad : one_at_a_time fork (planned (Exit 1 ∷ [])) (between false 1 (2 ∷ [])) ≡ record {
  entries = Marked Bad 0 ∷ [];
  used = (0, Exit 1) ∷ [];
  end = Answered (MergeBaseBad 0);
}
unfolding reaches_in ask mark run_in
base_bad = refl

-- a skipped base is warned of
base_skipped : one_at_a_time fork (planned (Exit 125 ∷ [])) (between false 1 (2 ∷ [])) ≡ record {
  entries = Marked Skip 0 ∷ SkippedBase 0 ∷ FirstBadFound 1 ∷ [];
  used = (0, Exit 125) ∷ [];
  end = Answered (FirstBad 1);
}
unfolding reaches_in ask mark run_in
base_skipped = refl
