-- A file of a log and the lines that are printed behind it are one log.
use Rattle.std.proofs.Common.{◌≡◌, ℕ, ◌+◌, ◌==◌, cond, Bool, true, false, List, [], ◌∷◌, ◌++◌, map, Option, Some, None, Result, Ok, Err, refl, sym, ap, ◌∙◌}
use Rattle.std.proofs.Common.{append_assoc}
use Rattle.bf_search.specs.declared.entries.Entry.{Entry}
use Rattle.bf_terms.specs.Texts.{Commits, Sides, Known, entry_lines, status_line, known_after, log_from}
use Rattle.bf_log.specs.LogState.{LogState, retold}
use Rattle.bf_reading.specs.Reading.{begin_with, add_byte, lines_of, Line, PassedOver, Command, NoForm, read_line, add_line, read_lines, said}
use Rattle.bf_reading.specs.declared.line.LogWord.{LogWord}
use Rattle.bf_reading.specs.declared.line.LogLine.{LogLine}
use Rattle.bf_log.specs.Written.{AreReadable, AreNamed, words_of_entries, known_after_all}
use Rattle.bf_log.specs.Replay.{Setting, ReplayFault, Replayed, if_ok, take_line, replay_from}
use Rattle.bf_log.specs.Resolved.{AreResolved}
use Rattle.bf_log.proofs.Terms.{accepted_from}
use Rattle.bf_log.specs.Back.{LeadsTo, GivesBack}
use Rattle.bf_search.specs.Outcomes.{Outcomes}
use Rattle.bf_search.specs.State.{Search}
use Rattle.bf_search.specs.Run.{run}
use Rattle.bf_log.proofs.Back.{log_read_back}
use Rattle.bf_log.proofs.EntryWalks.{run_tells}
use Rattle.bf_log.proofs.Whole.{retold_append}
use Rattle.bf_log.proofs.Plain.{said_lines, said_read}
use Rattle.bf_log.proofs.Replaying.{replay_retold}

-- ---- lines

record BegunLines (lines : List (List ℕ)) : Type 0 where
  first : List ℕ
  others : List (List ℕ)
  is : lines ≡ first ∷ others

add_begun : (b : ℕ) (lines more : List (List ℕ)) → BegunLines lines → add_byte b (lines ++ more) ≡ add_byte b lines ++ more
add_begun b lines more h =
    ap (λ (ls : List (List ℕ)). add_byte b (ls ++ more)) h.is
    ∙ by_end (b == 10)
    ∙ ap (λ (ls : List (List ℕ)). add_byte b ls ++ more) (sym h.is)
  where
    by_end : (e : Bool) → cond e ([] ∷ h.first ∷ (h.others ++ more)) ((b ∷ h.first) ∷ (h.others ++ more)) ≡ cond e
        ([] ∷ h.first ∷ h.others) ((b ∷ h.first) ∷ h.others) ++ more
    by_end true = refl
    by_end false = refl

begun_by : (b : ℕ) (lines : List (List ℕ)) → BegunLines (add_byte b lines)
begun_by b lines = by_end (b == 10) lines
  where
    by_end : (e : Bool) (ls : List (List ℕ)) → BegunLines (cond e ([] ∷ ls) (begin_with b ls))
    by_end true ls = record { first = []; others = ls; is = refl }
    by_end false [] = record { first = b ∷ []; others = []; is = refl }
    by_end false (l ∷ ls) = record { first = b ∷ l; others = ls; is = refl }

whole_begun : (x : List ℕ) → BegunLines (lines_of (x ++ 10 ∷ []))
unfolding lines_of
whole_begun [] = record { first = []; others = []; is = refl }
whole_begun (b ∷ bs) = begun_by b (lines_of (bs ++ 10 ∷ []))

-- behind an LF the lines begin anew
pub lines_joined : (x y : List ℕ) → lines_of (x ++ 10 ∷ y) ≡ lines_of (x ++ 10 ∷ []) ++ lines_of y
unfolding lines_of
lines_joined [] y = refl
lines_joined (b ∷ bs) y = ap (λ (ls : List (List ℕ)). add_byte b ls) (lines_joined bs y)
    ∙ add_begun b (lines_of (bs ++ 10 ∷ [])) (lines_of y) (whole_begun bs)

-- ---- reading

-- the lines that are read behind others
abbrev ReadBehind : ℕ → List (List ℕ) → List (List ℕ) → List LogLine → List LogWord → Type 0
ReadBehind n xs ys front words = (back : List LogLine) × (read_lines n (xs ++ ys) ≡ Ok (front ++ back))
    × (map (λ (l : LogLine). l.word) back ≡ words)

read_here : (r : Result (List LogLine) ℕ) (words : List LogWord) → said r ≡ Some words
    → (lines : List LogLine) × (r ≡ Ok lines) × (map (λ (l : LogLine). l.word) lines ≡ words)
read_here (Err n) words h = cc
read_here (Ok lines) words h = (lines, refl, cc)

behind_line : (n : ℕ) (line : Line) (xs ys : List (List ℕ)) (r : Result (List LogLine) ℕ) (ls : List LogLine)
    (words : List LogWord) → add_line n line r ≡ Ok ls
    → ((others : List LogLine) → r ≡ Ok others → ReadBehind (n + 1) xs ys others words)
    → (back : List LogLine) × (add_line n line (read_lines (n + 1) (xs ++ ys)) ≡ Ok (ls ++ back))
    × (map (λ (l : LogLine). l.word) back ≡ words)
behind_line n PassedOver xs ys r ls words h ih = ih ls h
behind_line n NoForm xs ys r ls words h ih = cc
behind_line n (Command w) xs ys (Err m) ls words h ih = cc
behind_line n (Command w) xs ys (Ok others) ls words h ih =
    let rest = ih others refl in
    let is : ls ≡ record { line = n; word = w } ∷ others = cc in (
      rest.0,
      ap (λ (r : Result (List LogLine) ℕ). add_line n (Command w) r) rest.1
          ∙ ap (λ (x : List LogLine). Ok (x ++ rest.0)) (sym is),
      rest.2,
    )

read_behind : (n : ℕ) (xs ys : List (List ℕ)) (front : List LogLine) (words : List LogWord)
    → read_lines n xs ≡ Ok front → said_lines ys ≡ Some words → ReadBehind n xs ys front words
unfolding read_lines
read_behind n [] ys front words h k =
    let here = read_here (read_lines n ys) words (said_read n ys ∙ k) in
    let none : front ≡ [] = cc in
    (here.0, here.1 ∙ ap (λ (ls : List LogLine). Ok (ls ++ here.0)) (sym none), here.2)
read_behind n (x ∷ xs) ys front words h k = behind_line n (read_line x) xs ys (read_lines (n + 1) xs) front words h
    (λ ls is. read_behind (n + 1) xs ys ls words is k)

-- ---- replaying

abbrev Rejoined : {F : Type 0} → Setting F → Option Replayed → List LogLine → List LogLine → Replayed → Type 0
Rejoined setting before front back r = replay_from setting before (front ++ back) ≡ replay_from setting (Some r) back

step_joined : {F : Type 0} (setting : Setting F) (x : Result Replayed (ReplayFault F)) (front back : List LogLine)
    (r : Replayed)
    → if_ok x (λ y. replay_from setting (Some y) front) ≡ Ok r
    → ((y : Replayed) → replay_from setting (Some y) front ≡ Ok r → Rejoined setting (Some y) front back r)
    → if_ok x (λ y. replay_from setting (Some y) (front ++ back)) ≡ replay_from setting (Some r) back
step_joined setting (Err fault) front back r h ih = cc
step_joined setting (Ok y) front back r h ih = ih y h

-- replaying goes on behind what was replayed
pub replay_joined : {F : Type 0} (setting : Setting F) (before : Option Replayed) (front back : List LogLine)
    (r : Replayed) → replay_from setting before front ≡ Ok r → Rejoined setting before front back r
unfolding replay_from
replay_joined setting None [] back r h = cc
replay_joined setting (Some x) [] back r h =
    let same : x ≡ r = cc in
    ap (λ (y : Replayed). replay_from setting (Some y) back) same
replay_joined setting None (l ∷ front) back r h = step_joined setting (take_line setting None l.line l.word) front
    back r h (λ y k. replay_joined setting (Some y) front back r k)
replay_joined setting (Some x) (l ∷ front) back r h = step_joined setting (take_line setting (Some x) l.line l.word)
    front back r h (λ y k. replay_joined setting (Some y) front back r k)

-- A file that leads to a state, with an LF at its end, and the lines of entries behind it lead where the entries lead
-- from there.
pub file_leads : {F : Type 0} (setting : Setting F) (commits : Commits) (sides : Sides) (known : Known)
    (file : List ℕ) (told : LogState) (entries : List Entry)
    → AreReadable commits sides → AreNamed commits entries → AreResolved setting commits entries
    → LeadsTo setting sides (file ++ 10 ∷ []) told
    → LeadsTo setting sides (file ++ 10 ∷ log_from commits sides known entries) (retold setting.graph told entries)
file_leads setting commits sides known file told entries readable named resolved led =
    let lines_said : said_lines (lines_of (log_from commits sides known entries)) ≡ Some
    (words_of_entries commits sides entries) = sym (said_read 1 (lines_of (log_from commits sides known entries)))
    ∙ log_read_back commits sides known entries readable named in
    let both = read_behind 1 (lines_of (file ++ 10 ∷ [])) (lines_of (log_from commits sides known entries)) led.lines
    (words_of_entries commits sides entries) led.read lines_said in
    record {
      lines = led.lines ++ both.0;
      read = ap (λ (ls : List (List ℕ)). read_lines 1 ls) (lines_joined file (log_from commits sides known entries))
          ∙ both.1;
      replayed = replay_joined setting None led.lines both.0
          (record { told = told; terms = sides; terms_open = false }) led.replayed
          ∙ replay_retold setting commits sides told entries both.0 (accepted_from sides readable.accepted).terms
          resolved both.2;
    }

-- A file and the lines that a run prints behind it give the state of the run back.
pub file_gives_back : {F : Type 0} (setting : Setting F) (commits : Commits) (sides : Sides) (now : Known)
    (file : List ℕ) (told : LogState) (known : Outcomes) (left : Option ℕ) (s : Search) (later before : List Entry)
    → AreReadable commits sides → AreNamed commits (later ++ (run setting.graph known left s).entries)
    → AreResolved setting commits (later ++ (run setting.graph known left s).entries)
    → LeadsTo setting sides (file ++ 10 ∷ []) told
    → retold setting.graph told later ≡ record { search = s; entries = before }
    → GivesBack setting sides (file ++ 10 ∷ log_from commits sides now
    (later ++ (run setting.graph known left s).entries)) before (run setting.graph known left s)
file_gives_back setting commits sides now file told known left s later before readable named resolved led is =
    let l = file_leads setting commits sides now file told (later ++ (run setting.graph known left s).entries)
    readable named resolved led in
    let e : retold setting.graph told (later ++ (run setting.graph known left s).entries) ≡ retold setting.graph
    (record { search = s; entries = before }) (run setting.graph known left s).entries =
    retold_append setting.graph told later (run setting.graph known left s).entries
    ∙ ap (λ (t : LogState). retold setting.graph t (run setting.graph known left s).entries) is in
    record {
      told = retold setting.graph (record { search = s; entries = before }) (run setting.graph known left s).entries;
      leads = record {
        lines = l.lines;
        read = l.read;
        replayed = l.replayed
            ∙ ap (λ (t : LogState). Ok (record { told = t; terms = sides; terms_open = false })) e;
      };
      same = run_tells setting.graph known left s before;
    }

-- ---- writing

-- Later entries are written from what is known after the earlier ones.
pub log_joined : (commits : Commits) (sides : Sides) (known : Known) (xs ys : List Entry)
    → log_from commits sides known (xs ++ ys) ≡ log_from commits sides known xs ++ log_from commits sides
    (known_after_all known xs) ys
unfolding log_from
log_joined commits sides known [] ys = refl
log_joined commits sides known (x ∷ xs) ys =
    ap (λ (t : List ℕ). entry_lines commits sides x ++ status_line sides (known_after known x) x ++ t)
    (log_joined commits sides (known_after known x) xs ys)
    ∙ sym (append_assoc (entry_lines commits sides x ++ status_line sides (known_after known x) x)
    (log_from commits sides (known_after known x) xs)
    (log_from commits sides (known_after_all (known_after known x) xs) ys))
