-- A search as a node keeps it: that of a shared state with some marks more.
use Rattle.std.specs.Prelude.{ℕ, ◌<◌, Bool, List, [], ◌∷◌, All, Option}
use Rattle.bf_search.specs.State.{Search, mark}
use Rattle.bf_state.specs.Session.{Session, with_search, IsSearchBelow}
use Rattle.bf_spec.specs.declared.kept.Marking.{Marking}

-- a search after these marks, one after the other
unfoldable pub marked_all : Search → List Marking → Search
marked_all s [] = s
marked_all s (m ∷ ms) = marked_all (mark s m.mark m.place) ms

abbrev pub after_marks : Session → List Marking → Session
after_marks session ms = with_search session (marked_all session.search ms)

-- the search after these marks of a state, with what asks left
abbrev pub search_of : Search → List Marking → Option ℕ → Bool → Option ℕ → Bool → Search
search_of s ms bad checked expected bad_asked =
    record (marked_all s ms) { bad = bad; checked = checked; expected = expected; bad_asked = bad_asked }

abbrev pub session_of : Session → List Marking → Option ℕ → Bool → Option ℕ → Bool → Session
session_of base ms bad checked expected bad_asked = with_search base (search_of base.search ms bad checked expected bad_asked)

-- all places are below the length of the state
pub record IsKept (base : Session) (ms : List Marking) (bad : Option ℕ) (checked : Bool) (expected : Option ℕ) (bad_asked : Bool) : Type 0 where
  pub below : IsSearchBelow base.len (search_of base.search ms bad checked expected bad_asked)
  pub marks : All (λ m. m.place < base.len) ms
