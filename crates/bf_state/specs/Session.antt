-- A search with what belongs to it: how many commits there are, and the words for its two sides.
use Rattle.std.specs.Prelude.{◌≡◌, ◌≢◌, ℕ, ◌<◌, Bool, false, List, [], length, replicate, All, IfSome, Option, None}
use Rattle.bf_search.specs.declared.asks.Step.{Step}
use Rattle.bf_search.specs.declared.outcomes.Mark.{Mark}
use Rattle.std.specs.List.{AllPairs}
use Rattle.bf_terms.specs.Texts.{Sides, with_goods}
use Rattle.bf_search.specs.State.{Search, ask, mark}

pub record Session : Type 0 where
  pub len : ℕ
  pub terms : Sides
  pub terms_open : Bool
  pub search : Search

abbrev pub with_search : Session → Search → Session
with_search session s = record session { search = s }

-- the session after an ask, and the step of that ask
abbrev pub after_ask : List (List ℕ) → Session → Session
after_ask graph session = with_search session (ask graph session.search).search

abbrev pub asked_step : List (List ℕ) → Session → Step
asked_step graph session = (ask graph session.search).step

-- the skipped bases that this ask warns of
abbrev pub bases_warned_of : List (List ℕ) → Session → List ℕ
bases_warned_of graph session = (asked_step graph session).warned

-- the session after a mark, and after an ask and then a mark
abbrev pub after_mark : Session → Mark → ℕ → Session
after_mark session m p = with_search session (mark session.search m p)

abbrev pub after_take : List (List ℕ) → Session → Mark → ℕ → Session
after_take graph session m p = with_search session (mark (ask graph session.search).search m p)

-- the places of a search are below len, and no good place stands twice
pub record IsSearchBelow (len : ℕ) (s : Search) : Type 0 where
  pub bad : IfSome s.bad (λ bad. bad < len)
  pub goods : All (λ good. good < len) s.goods
  pub distinct : AllPairs (λ p q. p ≢ q) s.goods
  pub skips : length s.skips ≡ len
  pub expected : IfSome s.expected (λ p. p < len)

-- the search that begins with these ends, each good place once
abbrev pub begun : ℕ → Bool → Option ℕ → List ℕ → Search
begun len first_parent bad goods = record {
  first_parent = first_parent;
  bad = bad;
  goods = with_goods [] goods;
  skips = replicate len false;
  checked = false;
  expected = None;
  bad_asked = false;
}

-- a session over so many commits whose search begins with these ends
abbrev pub IsNewSession : ℕ → Sides → Bool → Bool → Option ℕ → List ℕ → Session → Type 0
IsNewSession len terms terms_open first_parent bad goods session =
    session
    ≡ record { len = len; terms = terms; terms_open = terms_open; search = begun len first_parent bad goods }
