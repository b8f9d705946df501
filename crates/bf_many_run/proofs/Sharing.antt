-- Searches whose commits shared workers tested.
use Rattle.std.proofs.Common.{◌≡◌, ℕ, ◌+◌, ◌<◌, ◌≤◌, false, List, [], ◌∷◌, ◌++◌, length, get_or, take, drop, replicate, Option, Some, None, unwrap_or, refl, sym, ap, subst, ◌∙◌, arith}
use Rattle.std.specs.List.{All}
use Rattle.std.proofs.lemmas.List.{length-replicate, take_at, take_more}
use Rattle.std.proofs.lemmas.List.Elements.{All-cons, All-head, All-nil, All-tail, length_all_zip}
use Rattle.bf_answers.specs.Tellings.{told_of}
use Rattle.bf_farm.specs.Reports.{Manner}
use Rattle.bf_farm.specs.Testers.{KeepsManner}
use Rattle.bf_history.specs.Meanings.{History}
use Rattle.bf_many.specs.Cores.{CanStart}
use Rattle.bf_many.specs.declared.search.ReadySearch.{ReadySearch}
use Rattle.bf_many.specs.Teams.{AreTablesOf, AreTestersOf, AreWhole, KeepManner}
use Rattle.bf_oid.specs.declared.object.Oid.{Oid}
use Rattle.bf_output.specs.Told.{Told}
use Rattle.bf_runs.proofs.Fresh.{fresh_follows, fresh_in}
use Rattle.bf_search.specs.declared.outcomes.Outcome.{Outcome}
use Rattle.bf_tester.specs.declared.tester.Tester.{Ghosts}
use Rattle.bf_many_run.specs.declared.slots.BegunSearch.{BegunSearch}
use Rattle.bf_many_run.specs.declared.slots.ListSlot.{ListSlot}
use Rattle.bf_many_run.specs.declared.slots.ListSlot.TheVariants.{Refused, Begun as BegunSlot}
use Rattle.bf_many_run.specs.Groups.{AllCanTell, AreBegun, CanTell, IsBegunBy, all_told, fresh_search, plan_in, searches_in, told_over}

-- ---- what they start from

pub searches_more : (len : ℕ) (slots more : List ListSlot) → searches_in len (slots ++ more) ≡ searches_in len slots ++ searches_in len more
searches_more len [] more = refl
searches_more len (Refused a ∷ slots) more = searches_more len slots more
searches_more len (BegunSlot b ∷ slots) more = ap (λ (l : List ReadySearch). fresh_search len b ∷ l) (searches_more len slots more)

pub few_searches : (len : ℕ) (slots : List ListSlot) → length (searches_in len slots) ≤ length slots
few_searches len [] = omega arith
few_searches len (Refused a ∷ slots) = let h = few_searches len slots in omega arith
few_searches len (BegunSlot b ∷ slots) = let h = few_searches len slots in omega arith

module _ {T : Type 0} (by : Ghosts T) where
  can_start : (history : History) (len : ℕ) (b : BegunSearch) (t : T) → len ≡ length history.parents → IsBegunBy by history b t
      → CanStart (length history.parents) (fresh_search len b)
  can_start history len b t same is = record {
    state = sym is.len;
    table = length-replicate len None ∙ same ∙ sym is.len;
    ends = is.ends;
  }

  pub all_start : (history : History) (len : ℕ) (slots : List ListSlot) (testers : List T) → len ≡ length history.parents → AreBegun by history slots testers
      → All (CanStart (length history.parents)) (searches_in len slots)
  all_start history len [] [] same are = All-nil (CanStart (length history.parents))
  all_start history len [] (t ∷ testers) same are = absurd are
  all_start history len (Refused a ∷ slots) testers same are = all_start history len slots testers same are.1
  all_start history len (BegunSlot b ∷ slots) [] same are = absurd are
  all_start history len (BegunSlot b ∷ slots) (t ∷ testers) same are =
      All-cons (CanStart (length history.parents)) (fresh_search len b) (searches_in len slots) (can_start history len b t same are.0)
      (all_start history len slots testers same are.1)

  -- shared workers may start from them
  pub shared_case : (history : History) (len : ℕ) (slots : List ListSlot) (testers : List T) (graph : List (List ℕ)) (names : List Oid)
      (searches : List ReadySearch) → graph ≡ history.parents → length names ≡ length history.parents → len ≡ length history.parents
      → searches ≡ searches_in len slots → length slots ≤ 64 → AreBegun by history slots testers
      → (length searches ≤ 64) × All (CanStart (length graph)) searches × (length names ≡ length graph)
  shared_case history len slots testers graph names searches same named size are few begun =
      let short = few_searches len slots in
      let within : length (searches_in len slots) ≤ 64 = omega arith in (
        subst (λ (l : List ReadySearch). length l ≤ 64) (sym are) within,
        subst (λ (g : List (List ℕ)). All (CanStart (length g)) searches) (sym same)
            (subst (λ (l : List ReadySearch). All (CanStart (length history.parents)) l) (sym are) (all_start history len slots testers size begun)),
        named ∙ ap (λ (g : List (List ℕ)). length g) (sym same),
      )

  -- nothing is known of their commits
  pub none_known : (history : History) (len : ℕ) (slots : List ListSlot) (testers : List T) → AreBegun by history slots testers
      → AreTestersOf by history.names testers (searches_in len slots)
  none_known history len [] [] are = tt
  none_known history len [] (t ∷ testers) are = absurd are
  none_known history len (Refused a ∷ slots) testers are = none_known history len slots testers are.1
  none_known history len (BegunSlot b ∷ slots) [] are = absurd are
  none_known history len (BegunSlot b ∷ slots) (t ∷ testers) are = (
    record {
      answered = fresh_in history.names (by.answers t) len (replicate len None) refl;
      planned = fresh_follows (by.told t) len (replicate len None) refl;
    },
    none_known history len slots testers are.1,
  )

  pub all_whole : (history : History) (slots : List ListSlot) (testers : List T) → AreBegun by history slots testers → AreWhole by testers
  all_whole history [] [] are = All-nil (λ t. by.is_split t ≡ false)
  all_whole history [] (t ∷ testers) are = absurd are
  all_whole history (Refused a ∷ slots) testers are = all_whole history slots testers are.1
  all_whole history (BegunSlot b ∷ slots) [] are = absurd are
  all_whole history (BegunSlot b ∷ slots) (t ∷ testers) are =
      All-cons (λ u. by.is_split u ≡ false) t testers are.0.is_split (all_whole history slots testers are.1)

  -- ---- what the workers found out

  told_kept : (t u : T) → KeepsManner by t u → by.told u ≡ by.told t
  told_kept t u kept = ap (λ (m : Manner). m.told) kept

  can_tell : (history : History) (b : BegunSearch) (t u : T) (table : List (Option Outcome)) → IsBegunBy by history b t → KeepsManner by t u
      → by.is_split u ≡ false → AreTablesOf by history.names (u ∷ []) (table ∷ []) → length table ≡ length history.parents
      → CanTell by history b u table
  can_tell history b t u table is kept whole tables long = record {
    len = is.len;
    ends = is.ends;
    trace = is.trace;
    plan = subst (λ (o : Option (List Outcome)). o ≡ Some (unwrap_or o [])) (sym (told_kept t u kept)) is.plan;
    is_split = whole;
    long = long;
    known = record { answered = tables.0.answered; planned = tables.0.planned };
  }

  pub all_can_tell : (history : History) (slots : List ListSlot) (old new : List T) (tables : List (List (Option Outcome)))
      → AreBegun by history slots old → KeepManner by old new → AreWhole by new → AreTablesOf by history.names new tables
      → All (λ (table : List (Option Outcome)). length table ≡ length history.parents) tables → AllCanTell by history slots new tables
  all_can_tell history [] old new tables are kept whole found long = tt
  all_can_tell history (Refused a ∷ slots) old new tables are kept whole found long =
      (are.0, all_can_tell history slots old new tables are.1 kept whole found long)
  all_can_tell history (BegunSlot b ∷ slots) [] new tables are kept whole found long = absurd are
  all_can_tell history (BegunSlot b ∷ slots) (t ∷ old) [] tables are kept whole found long = absurd kept
  all_can_tell history (BegunSlot b ∷ slots) (t ∷ old) (u ∷ new) [] are kept whole found long = absurd found
  all_can_tell history (BegunSlot b ∷ slots) (t ∷ old) (u ∷ new) (table ∷ tables) are kept whole found long = (
    can_tell history b t u table are.0 kept.0 (All-head (λ w. by.is_split w ≡ false) u new whole) (found.0, tt)
        (All-head (λ (x : List (Option Outcome)). length x ≡ length history.parents) table tables long),
    all_can_tell history slots old new tables are.1 kept.1 (All-tail (λ w. by.is_split w ≡ false) u new whole) found.1
        (All-tail (λ (x : List (Option Outcome)). length x ≡ length history.parents) table tables long),
  )

  -- they tell what they told
  pub told_alike : (history : History) (slots : List ListSlot) (old new : List T) → KeepManner by old new
      → all_told by history slots new ≡ all_told by history slots old
  unfolding all_told
  told_alike history [] old new kept = refl
  told_alike history (Refused a ∷ slots) old new kept = ap (λ (l : List Told). told_of a ∷ l) (told_alike history slots old new kept)
  told_alike history (BegunSlot b ∷ slots) [] [] kept = refl
  told_alike history (BegunSlot b ∷ slots) [] (u ∷ new) kept = absurd kept
  told_alike history (BegunSlot b ∷ slots) (t ∷ old) [] kept = absurd kept
  told_alike history (BegunSlot b ∷ slots) (t ∷ old) (u ∷ new) kept =
      ap (λ (l : List Told). told_over history b (plan_in by u) ∷ l) (told_alike history slots old new kept.1)
      ∙ ap (λ (o : Option (List Outcome)). told_over history b (unwrap_or o []) ∷ all_told by history slots old) (told_kept t u kept.0)

-- one slot more
pub slots_more : (len : ℕ) (slots : List ListSlot) (i : ℕ) (slot : ListSlot) (old new : List ReadySearch) → i < length slots → slot ≡ get_or slots i slot
    → old ≡ searches_in len (take i slots) → new ≡ old ++ searches_in len (slot ∷ []) → new ≡ searches_in len (take (i + 1) slots)
slots_more len slots i slot old new below is so_far pushed =
    pushed
    ∙ ap (λ (l : List ReadySearch). l ++ searches_in len (slot ∷ [])) so_far
    ∙ ap (λ (s : ListSlot). searches_in len (take i slots) ++ searches_in len (s ∷ [])) is
    ∙ sym (searches_more len (take i slots) (get_or slots i slot ∷ []))
    ∙ ap (searches_in len) (sym (take_more slots i slot below))

-- a vector that was lent as a slice
after_loan : {X : Type 0} (old lent new : List X) (n : ℕ) → lent ≡ old → length lent ≡ length new → n ≡ length old
    → take n (new ++ drop (length new) old) ≡ new
after_loan old lent new n same long count =
    take_at new (drop (length new) old) n (sym long ∙ ap (λ (l : List _). length l) same ∙ sym count)

module _ {T : Type 0} (by : Ghosts T) (history : History) (slots : List ListSlot) (testers lent new : List T) (n : ℕ) (same : lent ≡ testers)
    (count : n ≡ length testers) (begun : AreBegun by history slots testers) where
  -- the testers that are lent
  pub testers_lent : (len : ℕ) (names : List Oid) (searches : List ReadySearch) → names ≡ history.names → searches ≡ searches_in len slots
      → AreTestersOf by names lent searches
  testers_lent len names searches named are =
      subst (λ (ns : List Oid). AreTestersOf by ns lent searches) (sym named)
      (subst (λ (l : List T). AreTestersOf by history.names l searches) (sym same)
      (subst (λ (l : List ReadySearch). AreTestersOf by history.names testers l) (sym are) (none_known by history len slots testers begun)))

  pub whole_lent : AreWhole by lent
  whole_lent = subst (λ (l : List T). AreWhole by l) (sym same) (all_whole by history slots testers begun)

  module _ (kept : KeepManner by lent new) where
    back : take n (new ++ drop (length new) testers) ≡ new
    back = after_loan testers lent new n same (length_all_zip (KeepsManner by) lent new kept) count

    kept_all : KeepManner by testers new
    kept_all = subst (λ (l : List T). KeepManner by l new) same kept

    -- what they found out of the commits of each
    pub shared_known : (names : List Oid) (graph : List (List ℕ)) (tables : List (List (Option Outcome))) → names ≡ history.names
        → graph ≡ history.parents → AreWhole by new → AreTablesOf by names new tables
        → All (λ (table : List (Option Outcome)). length table ≡ length graph) tables
        → AllCanTell by history slots (take n (new ++ drop (length new) testers)) tables
    shared_known names graph tables named built whole found long =
        subst (λ (l : List T). AllCanTell by history slots l tables) (sym back)
        (all_can_tell by history slots testers new tables begun kept_all whole
        (subst (λ (ns : List Oid). AreTablesOf by ns new tables) named found)
        (subst (λ (g : List (List ℕ)). All (λ (table : List (Option Outcome)). length table ≡ length g) tables) built long))

    -- and what all of them tell
    pub shared_told : all_told by history slots (take n (new ++ drop (length new) testers)) ≡ all_told by history slots testers
    shared_told = ap (λ (l : List T). all_told by history slots l) back ∙ told_alike by history slots testers new kept_all
