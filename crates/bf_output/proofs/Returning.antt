-- The log of a run gives its state back, and the run goes on from the parts of its log.
use Rattle.std.proofs.Common.{◌≡◌, ℕ, true, List, [], ◌∷◌, ◌++◌, length, Option, Some, None, Result, Ok, refl, sym, ap, subst, ◌∙◌, append_assoc}
use Rattle.std.proofs.lemmas.List.{append-nil}
use Rattle.bf_graph.specs.Graph.{IsGraph}
use Rattle.bf_history.specs.Meanings.{History}
use Rattle.bf_replay.specs.Laws.{IsLoaded}
use Rattle.bf_replay.proofs.Replayable.{file_of_history, history_kept, replayable}
use Rattle.bf_log.specs.Back.{start_of, GivesBack, LeadsTo}
use Rattle.bf_log.specs.Cut.{AreKnown, GoesOnText}
use Rattle.bf_log.specs.Resolved.{AreRunEntries}
use Rattle.bf_log.specs.Replay.{Replayed}
use Rattle.bf_log.specs.LogState.{LogState, retold}
use Rattle.bf_log.specs.Written.{known_after_all}
use Rattle.bf_log.proofs.Cut.{text_alike, text_goes_on}
use Rattle.bf_log.proofs.Whole.{gives_back, log_leads, run_are}
use Rattle.bf_replay.specs.Meaning.{setting_of}
use Rattle.bf_search.specs.declared.entries.Entry.{Entry}
use Rattle.bf_search.specs.Outcomes.{Outcomes}
use Rattle.bf_search.specs.Run.{Run, run}
use Rattle.bf_io.specs.declared.shelf.LoadFault.{LoadFault}
use Rattle.bf_terms.specs.Texts.{Sides, Known, nothing_known, log_from, log}
use Rattle.bf_words.specs.declared.request.Request.{Request}
use Rattle.bf_words.specs.Words as asked
use Rattle.bf_output.specs.Beginning.{Begun, begun_behind, begun_with_skips, commits_of, has_ends, log_on, with_skips}
use Rattle.bf_output.specs.Returning.{LogGivesBack, GoesOnFromStart, GoesOnFromParts, HasTerms}
use Rattle.bf_output.proofs.Accepted.{terms_read}
use Rattle.bf_output.proofs.Begins.{is_begun, are_named}
use Rattle.bf_output.proofs.Loading.{IsWhole, whole_loaded}
use Rattle.bf_output.proofs.Replayed.{IsReplayed, goes_on_behind, file_leads, file_accepted}
use Rattle.bf_output.proofs.Skips.{AreSkips, are_skips}
use Rattle.bf_output.proofs.Started.{IsStarted, started_by}

whole_of : (history : History) → IsLoaded history → IsWhole history
whole_of history (limits, commands, end, is) = whole_loaded limits commands end history is

module _ (history : History) (loaded : IsLoaded history) where
  graph : IsGraph history.parents
  graph = (whole_of history loaded).graph

  -- ---- by words

  started : (request : Request) (words : List (List ℕ)) (first : Begun) → HasTerms request
      → begun_with_skips request words None history ≡ Ok first → IsStarted history first
  started request words first terms is =
      let b = is_begun request words None history first (whole_of history loaded) is in
      let n = are_named request words history b.bare (whole_of history loaded) b.by in
      subst (IsStarted history) b.is
      (started_by request history terms n.bad n.goods b.places b.bare n.bad_below n.goods_below n.is b.ends b.within)

  -- the text of a search that has started
  text_of : (first : Begun) (s : IsStarted history first) (entries : List Entry)
      → log (commits_of history) first.sides (start_of s.start ∷ (s.later ++ entries)) ≡ log_on history first entries
  text_of first s entries = λ i. log_from (commits_of history) first.sides (sym s.nothing i) (sym s.entries i ++ entries)

  started_back : (first : Begun) → IsStarted history first → (known : Outcomes) (left : Option ℕ)
      → LogGivesBack None history first (run history.parents known left first.search)
  started_back first s known left =
      let r : Run = run history.parents known left first.search in
      subst (λ (text : List ℕ). GivesBack (setting_of history) first.sides text first.entries r) (text_of first s r.entries)
      (gives_back (setting_of history) (commits_of history) first.sides s.start
      (replayable history first.sides s.start (history_kept history loaded) s.sides s.ends)
      known left first.search s.later first.entries graph s.are s.lead)

  start_text : (first : Begun) (s : IsStarted history first) → log (commits_of history) first.sides (start_of s.start ∷ s.later) ≡ log_on history first []
  start_text first s =
      ap (λ (es : List Entry). log (commits_of history) first.sides (start_of s.start ∷ es)) (sym (append-nil s.later)) ∙ text_of first s []

  known_there : (first : Begun) (s : IsStarted history first)
      → known_after_all nothing_known (start_of s.start ∷ s.later) ≡ known_after_all first.known first.entries
  known_there first s = λ i. known_after_all (sym s.nothing i) (sym s.entries i)

  started_on : (first : Begun) → IsStarted history first → (known : Outcomes)
      → GoesOnFromParts history first known (run history.parents known None first.search)
  started_on first s known = λ front back is ends.
      let r : Run = run history.parents known None first.search in
      subst (λ (text : List ℕ). GoesOnText (setting_of history) (commits_of history) first.sides known (text ++ (front ++ 10 ∷ [])) back r) (start_text first s)
      (text_goes_on (setting_of history) (commits_of history) first.sides s.start known first.search s.later first.entries front back
      (replayable history first.sides s.start (history_kept history loaded) s.sides s.ends) graph s.over s.are s.both s.lead
      (ap (λ (k : Known). log_from (commits_of history) first.sides k r.entries) (known_there first s) ∙ is) ends)

  started_from : (first : Begun) → IsStarted history first → (known : Outcomes)
      → GoesOnFromStart history first known (run history.parents known None first.search)
  started_from first s known = record {
    told = record { search = first.search; entries = first.entries };
    leads = subst (λ (text : List ℕ). LeadsTo (setting_of history) first.sides text (record { search = first.search; entries = first.entries }))
        (start_text first s)
        (subst (λ (told : LogState). LeadsTo (setting_of history) first.sides (log (commits_of history) first.sides (start_of s.start ∷ s.later)) told) s.lead
        (log_leads (setting_of history) (commits_of history) first.sides s.start
        (replayable history first.sides s.start (history_kept history loaded) s.sides s.ends) s.later s.are));
    printed = λ now k.
        text_alike (length history.parents) (commits_of history) first.sides now (known_after_all first.known first.entries)
        (run history.parents known None first.search).entries k (subst AreKnown (known_there first s) s.both)
        (run_are history.parents known graph None first.search);
    search = refl;
    end = refl;
  }

  -- ---- behind a file

  behind : (file : Result (List ℕ) LoadFault) (replayed : Replayed) (places : List ℕ) → (r : IsReplayed history file replayed)
      → has_ends replayed.told.search ≡ true
      → AreSkips history.parents (begun_behind replayed) (with_skips history.parents (begun_behind replayed) places)
      → (known : Outcomes) (left : Option ℕ)
      → LogGivesBack (Some file) history (with_skips history.parents (begun_behind replayed) places)
      (run history.parents known left (with_skips history.parents (begun_behind replayed) places).search)
  behind file replayed places r ends s known left =
      subst (λ (f : Result (List ℕ) LoadFault). LogGivesBack (Some f) history first there) (sym r.loaded) (replayed.told.entries, back)
    where
      first : Begun
      first = with_skips history.parents (begun_behind replayed) places

      there : Run
      there = run history.parents known left first.search

      same : first.entries ≡ s.more
      same = s.entries

      lead : retold history.parents replayed.told first.entries ≡ record { search = first.search; entries = replayed.told.entries ++ first.entries }
      lead = ap (retold history.parents replayed.told) same ∙ s.lead replayed.told.entries
          ∙ ap (λ (es : List Entry). record { search = first.search; entries = replayed.told.entries ++ es }) (sym same)

      printed : GivesBack (setting_of history) replayed.terms
          (r.bytes ++ 10 ∷ log_from (commits_of history) replayed.terms first.known (first.entries ++ there.entries))
          (replayed.told.entries ++ first.entries) there
      printed = file_of_history history replayed.terms first.known r.bytes replayed.told known left first.search first.entries
          (replayed.told.entries ++ first.entries) loaded graph (file_accepted history file replayed r)
          (subst (AreRunEntries (length history.parents)) (sym same) s.are) (file_leads history file replayed r ends) lead

      back : GivesBack (setting_of history) first.sides ((r.bytes ++ 10 ∷ []) ++ log_on history first there.entries) (replayed.told.entries ++ first.entries)
          there
      back = subst (λ (text : List ℕ). GivesBack (setting_of history) first.sides text (replayed.told.entries ++ first.entries) there)
          (sym (append_assoc r.bytes (10 ∷ []) (log_on history first there.entries)))
          (subst (λ (sides : Sides). GivesBack (setting_of history) sides
          (r.bytes ++ 10 ∷ log_from (commits_of history) sides first.known (first.entries ++ there.entries)) (replayed.told.entries ++ first.entries) there)
          (sym s.same_sides) printed)

  behind_file : (request : Request) (words : List (List ℕ)) (file : Result (List ℕ) LoadFault) (first : Begun)
      → begun_with_skips request words (Some file) history ≡ Ok first → (known : Outcomes) (left : Option ℕ)
      → LogGivesBack (Some file) history first (run history.parents known left first.search)
  behind_file request words file first is known left =
      let b = is_begun request words (Some file) history first (whole_of history loaded) is in
      let on = goes_on_behind history file b.bare b.by in
      let ends : has_ends on.replayed.told.search ≡ true = ap (λ (x : Begun). has_ends x.search) on.is ∙ b.ends in
      subst (λ (x : Begun). LogGivesBack (Some file) history x (run history.parents known left x.search))
      (ap (λ (x : Begun). with_skips history.parents x b.places) on.is ∙ b.is)
      (behind file on.replayed b.places on.log ends (are_skips history.parents (begun_behind on.replayed) b.places b.within) known left)

pub given_back : (request : Request) (words : List (List ℕ)) (file : Option (Result (List ℕ) LoadFault)) (history : History) (first : Begun)
    (known : Outcomes) (left : Option ℕ) → HasTerms request → IsLoaded history
    → begun_with_skips request words file history ≡ Ok first → LogGivesBack file history first (run history.parents known left first.search)
given_back request words None history first known left terms loaded is =
    started_back history loaded first (started history loaded request words first terms is) known left
given_back request words (Some file) history first known left terms loaded is =
    behind_file history loaded request words file first is known left

pub gone_on_from_start : (request : Request) (words : List (List ℕ)) (history : History) (first : Begun) (known : Outcomes)
    → HasTerms request → IsLoaded history → begun_with_skips request words None history ≡ Ok first
    → GoesOnFromStart history first known (run history.parents known None first.search)
gone_on_from_start request words history first known terms loaded is =
    started_from history loaded first (started history loaded request words first terms is) known

pub gone_on_from_parts : (request : Request) (words : List (List ℕ)) (history : History) (first : Begun) (known : Outcomes)
    → HasTerms request → IsLoaded history → begun_with_skips request words None history ≡ Ok first
    → GoesOnFromParts history first known (run history.parents known None first.search)
gone_on_from_parts request words history first known terms loaded is =
    started_on history loaded first (started history loaded request words first terms is) known

-- ---- of words that are read

pub log_gives_back : (request : Request) (words : List (List ℕ)) (file : Option (Result (List ℕ) LoadFault)) (history : History) (first : Begun)
    (known : Outcomes) (left : Option ℕ) → asked.request words ≡ Ok request → IsLoaded history
    → begun_with_skips request words file history ≡ Ok first → LogGivesBack file history first (run history.parents known left first.search)
log_gives_back request words file history first known left read =
    given_back request words file history first known left (terms_read words request read)

pub goes_on_from_start : (request : Request) (words : List (List ℕ)) (history : History) (first : Begun) (known : Outcomes)
    → asked.request words ≡ Ok request → IsLoaded history → begun_with_skips request words None history ≡ Ok first
    → GoesOnFromStart history first known (run history.parents known None first.search)
goes_on_from_start request words history first known read =
    gone_on_from_start request words history first known (terms_read words request read)

pub goes_on_from_parts : (request : Request) (words : List (List ℕ)) (history : History) (first : Begun) (known : Outcomes)
    → asked.request words ≡ Ok request → IsLoaded history → begun_with_skips request words None history ≡ Ok first
    → GoesOnFromParts history first known (run history.parents known None first.search)
goes_on_from_parts request words history first known read =
    gone_on_from_parts request words history first known (terms_read words request read)
