-- What the entries of a log tell: the state that they lead to, with the warnings that came on the way.
use Rattle.std.specs.Prelude.{ℕ, Bool, false, List, [], ◌∷◌, ◌++◌, length, replicate, Option, None}
use Rattle.bf_search.specs.Ends.{end_entries}
use Rattle.bf_search.specs.declared.entries.Entry.{Entry}
use Rattle.bf_search.specs.declared.entries.Entry.TheVariants.{Start, Marked}
use Rattle.bf_search.specs.declared.outcomes.Mark.{Mark}
use Rattle.bf_search.specs.State.{Search, ask, mark}
use Rattle.bf_search.specs.Run.{Run, End, Answered, Leg, Open, Aborted, warnings}
use Rattle.bf_terms.specs.Texts.{with_goods}

-- a search, and the entries that led to it
pub record LogState : Type 0 where
  pub search : Search
  pub entries : List Entry

-- the search that begins with these ends, each good place once (stands in bf_state; both belong to bf_search)
abbrev pub begun : ℕ → Bool → Option ℕ → List ℕ → Search
begun len first_parent bad goods = record {
  first_parent = first_parent;
  bad = bad;
  goods = with_goods [] goods;
  skips = replicate len false;
  checked = false;
  expected = None;
  bad_asked = false;
}

-- a start begins anew
abbrev pub started : List (List ℕ) → Bool → Bool → Option ℕ → List ℕ → LogState
started graph first_parent terms_given bad goods = record {
  search = begun (length graph) first_parent bad goods;
  entries = Start first_parent terms_given bad (with_goods [] goods) ∷ [];
}

-- a mark is an ask and then the mark; the warnings of the ask come before it
abbrev pub marked_on : List (List ℕ) → LogState → Mark → ℕ → LogState
marked_on graph told m p = record {
  search = mark (ask graph told.search).search m p;
  entries = told.entries ++ (warnings (ask graph told.search).step.warned ++ Marked m p ∷ []);
}

-- every other entry tells nothing
abbrev pub take_entry : List (List ℕ) → LogState → Entry → LogState
take_entry graph told (Start first_parent terms_given bad goods) = started graph first_parent terms_given bad goods
take_entry graph told (Marked m p) = marked_on graph told m p
take_entry graph told other = told

unfoldable pub retold : List (List ℕ) → LogState → List Entry → LogState
retold graph told [] = told
retold graph told (entry ∷ entries) = retold graph (take_entry graph told entry) entries

-- one ask further
abbrev pub asked_on : List (List ℕ) → LogState → LogState
asked_on graph told = record {
  search = (ask graph told.search).search;
  entries = told.entries ++ (warnings (ask graph told.search).step.warned ++ end_entries
      (ask graph told.search).step.ask);
}

-- a run that ended with its leg stands behind its last mark; every other one has asked once more
abbrev pub closed : List (List ℕ) → End → LogState → LogState
closed graph Leg told = told
closed graph (Answered a) told = asked_on graph told
closed graph (Open p) told = asked_on graph told
closed graph (Aborted p outcome) told = asked_on graph told

-- a run, told from a search that these entries led to
abbrev pub told_by : List Entry → Run → LogState
told_by before run = record { search = run.search; entries = before ++ run.entries }
