-- The texts of several searches, one behind the other, and the first status that is not that of a search that was done.
use Rattle.std.proofs.Common.{◌≡◌, ℕ, ◌+◌, ◌<◌, ◌≤◌, List, [], ◌∷◌, ◌++◌, length, Option, refl, sym, ap, subst, ◌∙◌, append_assoc, append-nil, arith}
use Rattle.bf_answers.specs.Answers.{IsWhole}
use Rattle.bf_answers.specs.declared.answer.Answer.{Answer}
use Rattle.bf_answers.specs.Tellings.{told_of}
use Rattle.bf_commands.specs.Many.{numbered, or_status, search_line, status_of_all, told_of_all}
use Rattle.bf_history.specs.Meanings.{History}
use Rattle.bf_output.specs.declared.status.Status.{Status}
use Rattle.bf_output.specs.declared.status.Status.TheVariants as status
use Rattle.bf_output.specs.Told.{Told}
use Rattle.bf_search.specs.declared.outcomes.Outcome.{Outcome}
use Rattle.bf_tester.specs.declared.tester.Tester.{Ghosts}
use Rattle.bf_many_run.specs.declared.slots.ListSlot.{ListSlot}
use Rattle.bf_many_run.specs.declared.slots.ListSlot.TheVariants.{Refused, Begun as BegunSlot}
use Rattle.bf_many_run.specs.declared.text.Texts.{Texts}
use Rattle.bf_many_run.specs.Groups.{AllCanTell, CanTellSlot, TellsSlot, all_told, behind}
use Rattle.bf_many_run.specs.Texts.{AddsText, SaysTexts}

-- these are the texts of the first of all searches, and the rest are still to be told
pub record IsFrontOf (all : List Told) (texts : Texts) (rest : List Told) : Type 0 where
  pub status : or_status texts.status (status_of_all rest) ≡ status_of_all all
  pub text : texts.text ++ numbered (texts.count + 1) rest ≡ numbered 1 all
  pub whole : IsWhole texts.status

-- ---- the status

or_done : (own : Status) → or_status own status.Done ≡ own
or_done status.Done = refl
or_done own = refl

or_later : (a b c : Status) → or_status (or_status a b) c ≡ or_status a (or_status b c)
or_later status.Done b c = refl
or_later a b c = refl

or_whole : (own other : Status) → IsWhole own → IsWhole other → IsWhole (or_status own other)
or_whole status.Done other own_whole other_whole = other_whole
or_whole own other own_whole other_whole = own_whole

-- ---- the texts

-- at first nothing is told
pub none_told : (texts : Texts) (all : List Told) → texts.count ≡ 0 → texts.status ≡ status.Done → texts.text ≡ [] → IsFrontOf all texts all
none_told texts all count is none = record {
  status = ap (λ (s : Status). or_status s (status_of_all all)) is;
  text = ap (λ (t : List ℕ). t ++ numbered (texts.count + 1) all) none ∙ ap (λ (n : ℕ). numbered (n + 1) all) count;
  whole = subst IsWhole (sym is) tt;
}

-- one search more is told
pub told_more : (all rest : List Told) (answer : Answer) (old new : Texts) → IsFrontOf all old (told_of answer ∷ rest) → AddsText old answer new
    → IsWhole answer.status → IsFrontOf all new rest
unfolding numbered status_of_all
told_more all rest answer old new is adds whole = record {
  status = ap (λ (s : Status). or_status s (status_of_all rest)) adds.status ∙ or_later old.status answer.status (status_of_all rest) ∙ is.status;
  text =
      ap (λ (t : List ℕ). t ++ numbered (new.count + 1) rest) adds.text
      ∙ ap (λ (n : ℕ). (old.text ++ search_line (old.count + 1) ++ answer.text) ++ numbered (n + 1) rest) adds.count
      ∙ ap (λ (t : List ℕ). t ++ numbered (old.count + 1 + 1) rest) (append_assoc old.text (search_line (old.count + 1)) answer.text)
      ∙ append_assoc old.text (search_line (old.count + 1) ++ answer.text) (numbered (old.count + 1 + 1) rest)
      ∙ is.text;
  whole = subst IsWhole (sym adds.status) (or_whole old.status answer.status is.whole whole);
}

-- all are told
pub all_told_of : (all : List Told) (texts : Texts) (answer : Answer) → IsFrontOf all texts [] → SaysTexts texts answer → told_of answer ≡ told_of_all all
unfolding numbered status_of_all
all_told_of all texts answer is (same_status, same_text) = λ i. record {
  status = (same_status ∙ sym (or_done texts.status) ∙ is.status) i;
  text = (same_text ∙ sym (append-nil texts.text) ∙ is.text) i;
}

pub whole_of : (all : List Told) (texts : Texts) (answer : Answer) → IsFrontOf all texts [] → SaysTexts texts answer → IsWhole answer.status
whole_of all texts answer is (same_status, same_text) = subst IsWhole (sym same_status) is.whole

-- ---- slot by slot

module _ {T : Type 0} (by : Ghosts T) (history : History) where
  -- the next slot may be told
  pub next_slot : (slot : ListSlot) (slots : List ListSlot) (testers : List T) (tables : List (List (Option Outcome)))
      → AllCanTell by history (slot ∷ slots) testers tables → CanTellSlot by history slot testers tables
  next_slot (Refused a) slots testers tables can = can.0
  next_slot (BegunSlot b) slots [] tables can = absurd can
  next_slot (BegunSlot b) slots (t ∷ testers) [] can = absurd can
  next_slot (BegunSlot b) slots (t ∷ testers) (table ∷ tables) can = can.0

  -- and then those behind it
  slots_behind : (slot : ListSlot) (slots : List ListSlot) (testers : List T) (tables : List (List (Option Outcome)))
      → AllCanTell by history (slot ∷ slots) testers tables → AllCanTell by history slots (behind slot testers) (behind slot tables)
  slots_behind (Refused a) slots testers tables can = can.1
  slots_behind (BegunSlot b) slots [] tables can = absurd can
  slots_behind (BegunSlot b) slots (t ∷ testers) [] can = absurd can
  slots_behind (BegunSlot b) slots (t ∷ testers) (table ∷ tables) can = can.1

  slot_told : (slot : ListSlot) (slots : List ListSlot) (testers : List T) (answer : Answer) → TellsSlot by history slot testers answer
      → all_told by history (slot ∷ slots) testers ≡ told_of answer ∷ all_told by history slots (behind slot testers)
  unfolding all_told
  slot_told (Refused a) slots testers answer tells = ap (λ (t : Told). t ∷ all_told by history slots testers) (sym tells)
  slot_told (BegunSlot b) slots [] answer tells = absurd tells
  slot_told (BegunSlot b) slots (t ∷ testers) answer tells = ap (λ (x : Told). x ∷ all_told by history slots testers) (sym tells)

  -- the slots so far are told, and the rest may be
  pub record IsTelling (all : List Told) (texts : Texts) (slots : List ListSlot) (testers : List T) (tables : List (List (Option Outcome))) : Type 0 where
    pub front : IsFrontOf all texts (all_told by history slots testers)
    pub ready : AllCanTell by history slots testers tables
    pub few : texts.count + length slots ≤ 64

  pub telling_begun : (texts : Texts) (slots rest : List ListSlot) (testers left : List T) (tables found : List (List (Option Outcome)))
      → texts.count ≡ 0 → texts.status ≡ status.Done → texts.text ≡ [] → rest ≡ slots → left ≡ testers → found ≡ tables
      → AllCanTell by history slots testers tables → length slots ≤ 64
      → IsTelling (all_told by history slots testers) texts rest left found
  telling_begun texts slots rest testers left tables found count is none same_slots same_testers same_tables can few =
      rw (same_slots, same_testers, same_tables) (record {
        front = none_told texts (all_told by history slots testers) count is none;
        ready = can;
        few = omega arith;
      })

  pub telling_more : (all : List Told) (old new : Texts) (rest : List ListSlot) (slot : ListSlot) (slots : List ListSlot) (testers left : List T)
      (tables found : List (List (Option Outcome))) (answer : Answer) → IsTelling all old rest testers tables → rest ≡ slot ∷ slots
      → left ≡ behind slot testers → found ≡ behind slot tables → TellsSlot by history slot testers answer → IsWhole answer.status
      → AddsText old answer new → IsTelling all new slots left found
  telling_more all old new rest slot slots testers left tables found answer is at now then tells whole adds =
      let here : IsTelling all old (slot ∷ slots) testers tables = subst (λ (l : List ListSlot). IsTelling all old l testers tables) at is in
      subst (λ (l : List T). IsTelling all new slots l found) (sym now)
      (subst (λ (l : List (List (Option Outcome))). IsTelling all new slots (behind slot testers) l) (sym then) (record {
        front = told_more all (all_told by history slots (behind slot testers)) answer old new
            (subst (λ (l : List Told). IsFrontOf all old l) (slot_told slot slots testers answer tells) here.front) adds whole;
        ready = slots_behind slot slots testers tables here.ready;
        few = let a = here.few in let b = adds.count in omega arith;
      }))

  -- all are told
  pub telling_over : (all : List Told) (texts : Texts) (rest : List ListSlot) (testers : List T) (tables : List (List (Option Outcome)))
      → IsTelling all texts rest testers tables → length rest ≡ 0 → IsFrontOf all texts []
  unfolding all_told
  telling_over all texts [] testers tables is none = is.front
  telling_over all texts (s ∷ rest) testers tables is none = absurd (omega arith)

  -- there is room for the next one
  pub room_for_next : (all : List Told) (texts : Texts) (rest : List ListSlot) (slot : ListSlot) (slots : List ListSlot) (testers : List T)
      (tables : List (List (Option Outcome))) → IsTelling all texts rest testers tables → rest ≡ slot ∷ slots → texts.count < 64
  room_for_next all texts rest slot slots testers tables is at =
      let a = is.few in
      let b = ap (λ (l : List ListSlot). length l) at in
      omega arith

  pub next_ready : (all : List Told) (texts : Texts) (rest : List ListSlot) (slot : ListSlot) (slots : List ListSlot) (testers : List T)
      (tables : List (List (Option Outcome))) → IsTelling all texts rest testers tables → rest ≡ slot ∷ slots
      → CanTellSlot by history slot testers tables
  next_ready all texts rest slot slots testers tables is at =
      next_slot slot slots testers tables (subst (λ (l : List ListSlot). AllCanTell by history l testers tables) at is.ready)
