-- A log over a kept history is read and replayed as it was meant.
use Rattle.std.proofs.Common.{◌≡◌, ℕ, ◌<◌, ◌≤◌, true, List, [], ◌∷◌, ◌++◌, length, get_or, Option, None, Result, Ok, IfOk, subst, ap, sym, ◌∙◌, arith, ⊎_elim}
use Rattle.std.proofs.Math.ListN.{get_or-eq_default}
use Rattle.std.proofs.lemmas.Bool.{cases_lt}
use Rattle.std.specs.List.{All}
use Rattle.hex.specs.Hex.{encode_lower}
use Rattle.bf_oid.specs.declared.object.Oid.{Oid}
use Rattle.bf_history.specs.declared.fault.ImportFault.{ImportFault}
use Rattle.bf_history.specs.Meanings.{History, nothing_loaded, name_at}
use Rattle.bf_graph.specs.Graph.{IsGraph}
use Rattle.bf_log.specs.Back.{Begin, IsReplayable, LeadsTo, GivesBack}
use Rattle.bf_log.specs.Resolved.{AreResolved, AreRunEntries}
use Rattle.bf_log.specs.LogState.{LogState, retold}
use Rattle.bf_log.specs.Written.{has_no_end, AreNamed}
use Rattle.bf_log.proofs.JoinedLogs.{file_gives_back}
use Rattle.bf_log.proofs.Whole.{are_append, run_are}
use Rattle.bf_names.specs.Names.{name}
use Rattle.bf_replay.specs.Meaning.{setting_of}
use Rattle.bf_search.specs.declared.entries.Entry.{Entry}
use Rattle.bf_search.specs.declared.entries.Entry.TheVariants.{Start, Marked, SkippedBase, FirstBadFound, OnlySkippedLeft}
use Rattle.bf_search.specs.Outcomes.{Outcomes}
use Rattle.bf_search.specs.Run.{run}
use Rattle.bf_search.specs.State.{Search}
use Rattle.bf_terms.specs.Words.{term_fault}
use Rattle.bf_terms.specs.Texts.{Known, Sides, hex_of, log_from}
use Rattle.bf_replay.specs.Kept.{IsOneLine, IsKept, commits_of}
use Rattle.bf_replay.specs.Laws.{IsLoaded, AreSides, AreEnds}
use Rattle.bf_replay.proofs.Keeping.{loaded_kept, nothing_kept}
use Rattle.bf_replay.proofs.Naming.{digits_mean, bytes_at}

pub history_kept : (history : History) → IsLoaded history → IsKept history
history_kept history (limits, commands, end, is) =
    let P : Result History ImportFault → Type 0 = λ result. IfOk result IsKept in
    subst P is (loaded_kept limits (nothing_loaded limits) commands end (nothing_kept limits))

line_at : (subjects : List (List ℕ)) → All IsOneLine subjects → (p : ℕ) → has_no_end (get_or subjects p []) ≡ true
line_at subjects lines p =
    ⊎_elim (λ h. lines p [] h) (λ h. ap has_no_end (get_or-eq_default subjects [] h)) (cases_lt p (length subjects))

not_twenty : (bytes : List ℕ) → length bytes ≡ 20 → bytes ≡ [] → ⊥
not_twenty bytes long e = let none : length bytes ≡ 0 = ap length e in omega (arith, long, none)

below_names : (history : History) → IsKept history → (p : ℕ) → p < length history.parents → p < length history.names
below_names history k p h = let same = k.counted in omega (arith, same)

name_there : (history : History) → IsKept history → (p : ℕ) → p < length history.parents → get_or (commits_of history).names p [] ≡ [] → ⊥
name_there history k p h none =
    not_twenty (name_at history p).0 (k.whole p (record { 0 = [] }) (below_names history k p h)).long (sym (bytes_at history.names p) ∙ none)

place_there : (history : History) → IsKept history → (p : ℕ) → p < length history.parents → name history (hex_of (commits_of history) p) ≡ Ok p
place_there history k p h =
    let within = below_names history k p h in
    ap (λ bytes. name history (encode_lower bytes)) (bytes_at history.names p)
    ∙ digits_mean history (name_at history p) p (k.whole p (record { 0 = [] }) within) (k.found p within)

pub replayable : (history : History) (sides : Sides) (b : Begin) → IsKept history → AreSides sides b → AreEnds history b
    → IsReplayable (setting_of history) (commits_of history) sides b
replayable history sides b k s e = record {
  readable = record { subjects = line_at history.subjects k.one_line; accepted = s.accepted };
  fits = s.fits;
  named = name_there history k;
  placed = place_there history k;
  bad = e.bad;
  goods = e.goods;
}

-- ---- the entries of a run name commits of the history

run_named : (n : ℕ) (history : History) (es : List Entry) → AreRunEntries n es
    → ((p : ℕ) → p < n → get_or (commits_of history).names p [] ≡ [] → ⊥) → AreNamed (commits_of history) es
run_named n history [] are named = tt
run_named n history (Start first_parent terms_given bad goods ∷ es) are named = absurd are
run_named n history (Marked m p ∷ es) are named = (named p are.0, run_named n history es are.1 named)
run_named n history (SkippedBase p ∷ es) are named = run_named n history es are named
run_named n history (FirstBadFound p ∷ es) are named = run_named n history es are named
run_named n history (OnlySkippedLeft ps ∷ es) are named = run_named n history es are named

run_resolved : (n : ℕ) (history : History) (es : List Entry) → AreRunEntries n es
    → ((p : ℕ) → p < n → name history (hex_of (commits_of history) p) ≡ Ok p) → AreResolved (setting_of history) (commits_of history) es
run_resolved n history [] are placed = tt
run_resolved n history (Start first_parent terms_given bad goods ∷ es) are placed = absurd are
run_resolved n history (Marked m p ∷ es) are placed = (placed p are.0, run_resolved n history es are.1 placed)
run_resolved n history (SkippedBase p ∷ es) are placed = run_resolved n history es are placed
run_resolved n history (FirstBadFound p ∷ es) are placed = run_resolved n history es are placed
run_resolved n history (OnlySkippedLeft ps ∷ es) are placed = run_resolved n history es are placed

pub file_of_history : (history : History) (sides : Sides) (now : Known) (file : List ℕ) (told : LogState) (known : Outcomes)
    (left : Option ℕ) (s : Search) (later before : List Entry) → IsLoaded history → IsGraph history.parents
    → term_fault sides.new sides.old ≡ None → AreRunEntries (length history.parents) later
    → LeadsTo (setting_of history) sides (file ++ 10 ∷ []) told
    → retold history.parents told later ≡ record { search = s; entries = before }
    → GivesBack (setting_of history) sides
    (file ++ 10 ∷ log_from (commits_of history) sides now (later ++ (run history.parents known left s).entries))
    before (run history.parents known left s)
file_of_history history sides now file told known left s later before loaded g accepted are led is =
    let k = history_kept history loaded in
    let all = are_append (length history.parents) later (run history.parents known left s).entries are (run_are history.parents known g left s) in
    file_gives_back (setting_of history) (commits_of history) sides now file told known left s later before
    (record { subjects = line_at history.subjects k.one_line; accepted = accepted })
    (run_named (length history.parents) history (later ++ (run history.parents known left s).entries) all (name_there history k))
    (run_resolved (length history.parents) history (later ++ (run history.parents known left s).entries) all (place_there history k))
    led is
