-- How a search begins: with the ends that words name or with a log that is replayed, and the commits that --skip names.
use Rattle.std.specs.Prelude.{ℕ, Bool, ◌&&◌, nat_lt, if◌then◌else◌, List, [], ◌∷◌, ◌++◌, length, map, Option, Some, None, is_some, unwrap_or, Result, Ok, Err}
use Rattle.std.specs.Result.{result_map_both}
use Rattle.bf_oid.specs.declared.object.Oid.{Oid}
use Rattle.bf_history.specs.Meanings.{History}
use Rattle.bf_names.specs.Names.{name, range}
use Rattle.bf_search.specs.declared.entries.Entry.{Entry}
use Rattle.bf_search.specs.declared.entries.Entry.TheVariants.{Start, Marked}
use Rattle.bf_search.specs.declared.outcomes.Mark.TheVariants.{Skip}
use Rattle.bf_search.specs.Candidates.{places_of}
use Rattle.bf_search.specs.State.{Search, ask, mark}
use Rattle.bf_search.specs.Run.{warnings}
use Rattle.bf_state.specs.Session.{begun}
use Rattle.bf_log.specs.Replay.{Replayed}
use Rattle.bf_log.specs.Written.{known_after_all}
use Rattle.bf_io.specs.declared.shelf.LoadFault.{LoadFault}
use Rattle.bf_terms.specs.Texts.{Commits, Sides, Known, nothing_known, standard_sides, log_from, with_goods}
use Rattle.bf_words.specs.declared.request.Request.{Request}
use Rattle.bf_words.specs.Words.{word_at}
use Rattle.bf_output.specs.Logs.{replayed_log}
use Rattle.bf_output.specs.Refusals.{name_refused, waiting}
use Rattle.bf_output.specs.Told.{Told}
use Rattle.bf_grammar.specs.Forms.{◌>>=◌}

-- what the texts say of the commits of a history
abbrev pub commits_of : History → Commits
commits_of history = record { names = map (λ (name : Oid). name.0) history.names; subjects = history.subjects }

-- a search that has begun: the words for its sides, which ends the log that stands already makes known, the search, and
-- the entries that follow that log
pub record Begun : Type 0 where
  pub sides : Sides
  pub known : Known
  pub search : Search
  pub entries : List Entry

-- the lines of a log that goes on from the one that stands already
abbrev pub log_on : History → Begun → List Entry → List ℕ
log_on history first entries = log_from (commits_of history) first.sides first.known (first.entries ++ entries)

-- ---- names

-- the place that the word of an index names, or the refusal of that word
abbrev pub named : History → List (List ℕ) → ℕ → Result ℕ Told
named history words i = result_map_both (λ p. p) (name_refused i) (name history (word_at words i))

abbrev pub named_if_given : History → List (List ℕ) → Option ℕ → Result (Option ℕ) Told
named_if_given history words None = Ok None
named_if_given history words (Some i) = named history words i >>= λ p. Ok (Some p)

-- what each word gives, one after the other, up to the first that is refused
unfoldable pub gathered : (ℕ → Result (List ℕ) Told) → List ℕ → Result (List ℕ) Told
gathered give [] = Ok []
gathered give (i ∷ is) = give i >>= λ xs. gathered give is >>= λ ps. Ok (xs ++ ps)

-- that place alone
abbrev pub one_named : History → List (List ℕ) → ℕ → Result (List ℕ) Told
one_named history words i = named history words i >>= λ p. Ok (p ∷ [])

-- by place, whether a word of --skip means it, or the refusal of that word
abbrev pub meant : History → List (List ℕ) → ℕ → Result (List Bool) Told
meant history words i = result_map_both (λ row. row) (name_refused i) (range history (word_at words i))

-- the places that a word of --skip means, by place
abbrev pub places_meant : History → List (List ℕ) → ℕ → Result (List ℕ) Told
places_meant history words i = meant history words i >>= λ row. Ok (places_of row)

-- ---- the beginning

-- a search between ends; of equal good places the first is kept
abbrev pub between_ends : Request → ℕ → Option ℕ → List ℕ → Begun
between_ends request len bad goods = record {
  sides = unwrap_or request.terms standard_sides;
  known = nothing_known;
  search = begun len request.first_parent bad goods;
  entries = Start request.first_parent (is_some request.terms) bad (with_goods [] goods) ∷ [];
}

-- the bad word is tried first, then the good ones in their order
unfoldable pub begun_by_words : Request → List (List ℕ) → History → Result Begun Told
begun_by_words request words history =
    named_if_given history words request.bad
    >>= λ bad. gathered (one_named history words) request.goods
    >>= λ goods. Ok (between_ends request (length history.parents) bad goods)

-- a search that goes on from a replayed log, whose lines stand already
abbrev pub begun_behind : Replayed → Begun
begun_behind replayed = record {
  sides = replayed.terms;
  known = known_after_all nothing_known replayed.told.entries;
  search = replayed.told.search;
  entries = [];
}

-- by the words, or where they name a log by its file
abbrev pub begun_by : Request → List (List ℕ) → Option (Result (List ℕ) LoadFault) → History → Result Begun Told
begun_by request words None history = begun_by_words request words history
begun_by request words (Some file) history = replayed_log history file >>= λ replayed. Ok (begun_behind replayed)

-- A place is skipped, whatever is asked. The skipped merge bases that are passed over come before its own entry.
abbrev pub with_skip : List (List ℕ) → Begun → ℕ → Begun
with_skip graph first p = record first {
  search = mark (ask graph first.search).search Skip p;
  entries = first.entries ++ (warnings (ask graph first.search).step.warned ++ Marked Skip p ∷ []);
}

unfoldable pub with_skips : List (List ℕ) → Begun → List ℕ → Begun
with_skips graph first [] = first
with_skips graph first (p ∷ ps) = with_skips graph (with_skip graph first p) ps

-- a search with both ends; the others wait for one
abbrev pub has_ends : Search → Bool
has_ends s = is_some s.bad && nat_lt 0 (length s.goods)

abbrev pub with_ends : Begun → Result Begun Told
with_ends first =
    if has_ends first.search then Ok first else Err (waiting first.sides (is_some first.search.bad) (length first.search.goods))

-- the ends or the log are tried first, then the words of --skip in their order, and then whether an end is missing
unfoldable pub begun_with_skips : Request → List (List ℕ) → Option (Result (List ℕ) LoadFault) → History → Result Begun Told
begun_with_skips request words file history =
    begun_by request words file history
    >>= λ first. gathered (places_meant history words) request.skips
    >>= λ ps. with_ends first
    >>= λ whole. Ok (with_skips history.parents whole ps)
