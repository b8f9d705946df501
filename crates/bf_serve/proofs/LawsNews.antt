-- What is told of one search among what is told of all.
use Rattle.std.proofs.Common.{◌≡◌, ℕ, Bool, true, false, cond, ◌&&◌, ◌==◌, List, [], ◌∷◌, ◌++◌, map, refl, ap, ◌∙◌, eq-eqb}
use Rattle.std.proofs.lemmas.List.{append-nil}
use Rattle.std.specs.Cmp.Lexicographic.{pointwise, same_text}
use Rattle.bf_history.specs.Meanings.{History}
use Rattle.bf_output.specs.Beginning.{Begun, commits_of, log_on}
use Rattle.bf_output.specs.Simulate.{status_of_end}
use Rattle.bf_output.specs.Statuses.{number_of}
use Rattle.bf_protocol.specs.Events.{News, Log, Left, Answer, Ended, Needless}
use Rattle.bf_reading.specs.Reading.{lines_of}
use Rattle.bf_search.specs.Run.{End}
use Rattle.bf_state.specs.Runs.{is_open}
use Rattle.bf_terms.specs.Texts.{Commits, Sides, answer_lines}
use Rattle.bf_many.specs.Many.{FarmMachine}
use Rattle.bf_serve.specs.declared.opening.Opening.{Opening}
use Rattle.bf_serve.specs.declared.remaining.Remaining.{Remaining}
use Rattle.bf_serve.specs.Laws.{OfAnswer, OfLog, Part, Status, parts_told, parts_of, parts_of_end, logged, needless_told}
use Rattle.bf_serve.specs.Searches.{left_in, needless, run_of}
use Rattle.bf_serve.specs.Turns.{changed_left, changed_needless, ended_by, first_news, further_log, left_told, news_of, newly_ended, told_lines}

-- what news tell of a search: the lines of its log, its end, and the last list of needless workers behind a list
pub record Tells (s : ℕ) (news : List News) (lines : List (List ℕ)) (ends : List Part) (last : List ℕ → List ℕ) : Type 0 where
  pub log : logged s news ≡ lines
  pub end : parts_told s news ≡ ends
  pub needless : (before : List ℕ) → needless_told s before news ≡ last before

abbrev pub IsSilent : ℕ → List News → Type 0
IsSilent s news = Tells s news [] [] (λ before. before)

-- ---- news behind news

line_if : {X : Type 0} (c : Bool) (line : X) (whole a b : List X) → whole ≡ a ++ b → cond c (line ∷ whole) whole ≡ cond c (line ∷ a) a ++ b
line_if true line whole a b h = ap (λ l. line ∷ l) h
line_if false line whole a b h = h

pub logged_joined : (s : ℕ) (a b : List News) → logged s (a ++ b) ≡ logged s a ++ logged s b
unfolding logged
logged_joined s [] b = refl
logged_joined s (Log k line ∷ a) b = line_if (k == s) line (logged s (a ++ b)) (logged s a) (logged s b) (logged_joined s a b)
logged_joined s (Left k left away ∷ a) b = logged_joined s a b
logged_joined s (Answer k line ∷ a) b = logged_joined s a b
logged_joined s (Ended k status ∷ a) b = logged_joined s a b
logged_joined s (Needless k workers ∷ a) b = logged_joined s a b

pub parts_joined : (s : ℕ) (a b : List News) → parts_told s (a ++ b) ≡ parts_told s a ++ parts_told s b
unfolding parts_told
parts_joined s [] b = refl
parts_joined s (Log k line ∷ a) b = line_if (k == s) (OfLog line) (parts_told s (a ++ b)) (parts_told s a) (parts_told s b) (parts_joined s a b)
parts_joined s (Left k left away ∷ a) b = parts_joined s a b
parts_joined s (Answer k line ∷ a) b = line_if (k == s) (OfAnswer line) (parts_told s (a ++ b)) (parts_told s a) (parts_told s b) (parts_joined s a b)
parts_joined s (Ended k status ∷ a) b = line_if (k == s) (Status status) (parts_told s (a ++ b)) (parts_told s a) (parts_told s b) (parts_joined s a b)
parts_joined s (Needless k workers ∷ a) b = parts_joined s a b

pub needless_joined : (s : ℕ) (before : List ℕ) (a b : List News) → needless_told s before (a ++ b) ≡ needless_told s (needless_told s before a) b
unfolding needless_told
needless_joined s before [] b = refl
needless_joined s before (Log k line ∷ a) b = needless_joined s before a b
needless_joined s before (Left k left away ∷ a) b = needless_joined s before a b
needless_joined s before (Answer k line ∷ a) b = needless_joined s before a b
needless_joined s before (Ended k status ∷ a) b = needless_joined s before a b
needless_joined s before (Needless k workers ∷ a) b = needless_joined s (cond (k == s) workers before) a b

tells_joined : (s : ℕ) (a b : List News) (lines more : List (List ℕ)) (ends others : List Part) (last next : List ℕ → List ℕ)
    → Tells s a lines ends last → Tells s b more others next → Tells s (a ++ b) (lines ++ more) (ends ++ others) (λ before. next (last before))
tells_joined s a b lines more ends others last next one other = record {
  log = logged_joined s a b ∙ ap (λ (l : List (List ℕ)). l ++ logged s b) one.log ∙ ap (λ (l : List (List ℕ)). lines ++ l) other.log;
  end = parts_joined s a b ∙ ap (λ (l : List Part). l ++ parts_told s b) one.end ∙ ap (λ (l : List Part). ends ++ l) other.end;
  needless = λ before. needless_joined s before a b ∙ ap (λ (l : List ℕ). needless_told s l b) (one.needless before) ∙ other.needless (last before);
}

pub silent_none : (s : ℕ) → IsSilent s []
unfolding logged parts_told needless_told
silent_none s = record { log = refl; end = refl; needless = λ before. refl }

pub silent_joined : (s : ℕ) (a b : List News) → IsSilent s a → IsSilent s b → IsSilent s (a ++ b)
silent_joined s a b one other = tells_joined s a b [] [] [] [] (λ before. before) (λ before. before) one other

-- silence behind what is told
tells_behind : (s : ℕ) (a b : List News) (lines : List (List ℕ)) (ends : List Part) (last : List ℕ → List ℕ) → Tells s a lines ends last → IsSilent s b
    → Tells s (a ++ b) lines ends last
tells_behind s a b lines ends last one other =
    let both = tells_joined s a b lines [] ends [] last (λ before. before) one other in
    record { log = both.log ∙ append-nil lines; end = both.end ∙ append-nil ends; needless = both.needless }

silent_each : {X : Type 0} (s : ℕ) (tell : X → News) (xs : List X) → ((x : X) → IsSilent s (tell x ∷ [])) → IsSilent s (map tell xs)
silent_each s tell [] h = silent_none s
silent_each s tell (x ∷ xs) h = silent_joined s (tell x ∷ []) (map tell xs) (h x) (silent_each s tell xs h)

-- ---- each piece, of another search

module _ (s k : ℕ) (apart : (k == s) ≡ false) where
  silent_log : (line : List ℕ) → IsSilent s (Log k line ∷ [])
  unfolding logged parts_told needless_told
  silent_log line = record {
    log = ap (λ (c : Bool). cond c (line ∷ []) []) apart;
    end = ap (λ (c : Bool). cond c (OfLog line ∷ []) []) apart;
    needless = λ before. refl;
  }

  silent_answer : (line : List ℕ) → IsSilent s (Answer k line ∷ [])
  unfolding logged parts_told needless_told
  silent_answer line = record { log = refl; end = ap (λ (c : Bool). cond c (OfAnswer line ∷ []) []) apart; needless = λ before. refl }

  silent_ended : (status : ℕ) → IsSilent s (Ended k status ∷ [])
  unfolding logged parts_told needless_told
  silent_ended status = record { log = refl; end = ap (λ (c : Bool). cond c (Status status ∷ []) []) apart; needless = λ before. refl }

  silent_needless : (workers : List ℕ) → IsSilent s (Needless k workers ∷ [])
  unfolding logged parts_told needless_told
  silent_needless workers = record { log = refl; end = refl; needless = λ before. ap (λ (c : Bool). cond c workers before) apart }

pub silent_left : (s k : ℕ) (now : Remaining) → IsSilent s (left_told k now)
unfolding logged parts_told needless_told
silent_left s k now = record { log = refl; end = refl; needless = λ before. refl }

silent_changed_left : (s k : ℕ) (old new : Remaining) → IsSilent s (changed_left k old new)
silent_changed_left s k old new = by ((old.left == new.left) && (old.away == new.away))
  where
    by : (c : Bool) → IsSilent s (cond c [] (left_told k new))
    by true = silent_none s
    by false = silent_left s k new

silent_end : (s : ℕ) (commits : Commits) (k : ℕ) (sides : Sides) (end : End) → (k == s) ≡ false → IsSilent s (ended_by commits k sides end)
silent_end s commits k sides end apart = by (is_open end)
  where
    by : (c : Bool) → IsSilent s (cond c [] (told_lines (Answer k) (answer_lines commits sides end) ++ Ended k (number_of (status_of_end end)) ∷ []))
    by true = silent_none s
    by false = silent_joined s (told_lines (Answer k) (answer_lines commits sides end)) (Ended k (number_of (status_of_end end)) ∷ [])
        (silent_each s (Answer k) (lines_of (answer_lines commits sides end)) (silent_answer s k apart))
        (silent_ended s k apart (number_of (status_of_end end)))

silent_newly : (s : ℕ) (commits : Commits) (k : ℕ) (sides : Sides) (old new : End) → (k == s) ≡ false → IsSilent s (newly_ended commits k sides old new)
silent_newly s commits k sides old new apart = by (is_open old)
  where
    by : (c : Bool) → IsSilent s (cond c (ended_by commits k sides new) [])
    by true = silent_end s commits k sides new apart
    by false = silent_none s

silent_changed_needless : (s k : ℕ) (old new : List ℕ) → (k == s) ≡ false → IsSilent s (changed_needless k old new)
silent_changed_needless s k old new apart = by (pointwise ◌==◌ old new)
  where
    by : (c : Bool) → IsSilent s (cond c [] (Needless k new ∷ []))
    by true = silent_none s
    by false = silent_needless s k apart new

pub news_of_other : (s k : ℕ) (history : History) (o : Opening) (old new : FarmMachine) → (k == s) ≡ false → IsSilent s (news_of history k o old new)
news_of_other s k history o old new apart =
    let commits : Commits = commits_of history in
    let log : List News = told_lines (Log k) (further_log commits o (run_of old) (run_of new)) in
    let left : List News = changed_left k (left_in old) (left_in new) in
    let ended : List News = newly_ended commits k o.terms (run_of old).end (run_of new).end in
    silent_joined s (log ++ left ++ ended) (changed_needless k (needless old) (needless new))
    (silent_joined s (log ++ left) ended
    (silent_joined s log left (silent_each s (Log k) (lines_of (further_log commits o (run_of old) (run_of new))) (silent_log s k apart))
    (silent_changed_left s k (left_in old) (left_in new)))
    (silent_newly s commits k o.terms (run_of old).end (run_of new).end apart))
    (silent_changed_needless s k (needless old) (needless new) apart)

pub first_of_other : (s k : ℕ) (history : History) (first : Begun) (m : FarmMachine) → (k == s) ≡ false → IsSilent s (first_news history k first m)
first_of_other s k history first m apart =
    let log : List News = told_lines (Log k) (log_on history first (run_of m).entries) in
    silent_joined s (log ++ left_told k (left_in m)) (ended_by (commits_of history) k first.sides (run_of m).end)
    (silent_joined s log (left_told k (left_in m)) (silent_each s (Log k) (lines_of (log_on history first (run_of m).entries)) (silent_log s k apart))
    (silent_left s k (left_in m)))
    (silent_end s (commits_of history) k first.sides (run_of m).end apart)

-- ---- each piece, of the search itself

tells_lines : (s : ℕ) (lines : List (List ℕ)) → Tells s (map (Log s) lines) lines (map OfLog lines) (λ before. before)
unfolding logged parts_told needless_told
tells_lines s [] = silent_none s
tells_lines s (line ∷ lines) =
    tells_joined s (Log s line ∷ []) (map (Log s) lines) (line ∷ []) lines (OfLog line ∷ []) (map OfLog lines) (λ before. before) (λ before. before)
    (record {
      log = ap (λ (c : Bool). cond c (line ∷ []) []) (eq-eqb s s refl);
      end = ap (λ (c : Bool). cond c (OfLog line ∷ []) []) (eq-eqb s s refl);
      needless = λ before. refl;
    })
    (tells_lines s lines)

tells_answer : (s : ℕ) (lines : List (List ℕ)) → Tells s (map (Answer s) lines) [] (map OfAnswer lines) (λ before. before)
unfolding logged parts_told needless_told
tells_answer s [] = silent_none s
tells_answer s (line ∷ lines) =
    tells_joined s (Answer s line ∷ []) (map (Answer s) lines) [] [] (OfAnswer line ∷ []) (map OfAnswer lines) (λ before. before) (λ before. before)
    (record { log = refl; end = ap (λ (c : Bool). cond c (OfAnswer line ∷ []) []) (eq-eqb s s refl); needless = λ before. refl }) (tells_answer s lines)

tells_end : (s : ℕ) (commits : Commits) (sides : Sides) (end : End)
    → Tells s (ended_by commits s sides end) [] (parts_of_end commits sides end) (λ before. before)
unfolding logged parts_told needless_told
tells_end s commits sides end = by (is_open end)
  where
    by : (c : Bool)
        → Tells s (cond c [] (told_lines (Answer s) (answer_lines commits sides end) ++ Ended s (number_of (status_of_end end)) ∷ [])) []
        (cond c [] (map OfAnswer (lines_of (answer_lines commits sides end)) ++ Status (number_of (status_of_end end)) ∷ [])) (λ before. before)
    by true = silent_none s
    by false =
        let status : ℕ = number_of (status_of_end end) in
        tells_joined s (told_lines (Answer s) (answer_lines commits sides end)) (Ended s status ∷ []) [] []
        (map OfAnswer (lines_of (answer_lines commits sides end))) (Status status ∷ []) (λ before. before) (λ before. before)
        (tells_answer s (lines_of (answer_lines commits sides end)))
        (record { log = refl; end = ap (λ (c : Bool). cond c (Status status ∷ []) []) (eq-eqb s s refl); needless = λ before. refl })

-- what newly stands of an end
abbrev pub new_parts : Commits → Sides → End → End → List Part
new_parts commits sides old new = cond (is_open old) (parts_of_end commits sides new) []

tells_newly : (s : ℕ) (commits : Commits) (sides : Sides) (old new : End)
    → Tells s (newly_ended commits s sides old new) [] (new_parts commits sides old new) (λ before. before)
tells_newly s commits sides old new = by (is_open old)
  where
    by : (c : Bool) → Tells s (cond c (ended_by commits s sides new) []) [] (cond c (parts_of_end commits sides new) []) (λ before. before)
    by true = tells_end s commits sides new
    by false = silent_none s

-- the list behind a change
abbrev pub last_behind : List ℕ → List ℕ → List ℕ → List ℕ
last_behind old new before = cond (pointwise ◌==◌ old new) before new

tells_needless : (s : ℕ) (old new : List ℕ) → Tells s (changed_needless s old new) [] [] (last_behind old new)
unfolding logged parts_told needless_told
tells_needless s old new = by (pointwise ◌==◌ old new)
  where
    by : (c : Bool) → Tells s (cond c [] (Needless s new ∷ [])) [] [] (λ before. cond c before new)
    by true = silent_none s
    by false = record { log = refl; end = refl; needless = λ before. ap (λ (c : Bool). cond c new before) (eq-eqb s s refl) }

pub last_is : (old new : List ℕ) → last_behind old new old ≡ new
last_is old new = by (pointwise ◌==◌ old new) refl
  where
    by : (c : Bool) → c ≡ pointwise ◌==◌ old new → cond c old new ≡ new
    by true e = same_text old new e
    by false e = refl

pub news_of_own : (s : ℕ) (history : History) (o : Opening) (old new : FarmMachine)
    → Tells s (news_of history s o old new) (lines_of (further_log (commits_of history) o (run_of old) (run_of new)))
    (map OfLog (lines_of (further_log (commits_of history) o (run_of old) (run_of new)))
    ++ new_parts (commits_of history) o.terms (run_of old).end (run_of new).end) (last_behind (needless old) (needless new))
news_of_own s history o old new =
    let commits : Commits = commits_of history in
    let text : List ℕ = further_log commits o (run_of old) (run_of new) in
    let left : List News = changed_left s (left_in old) (left_in new) in
    let ended : List News = newly_ended commits s o.terms (run_of old).end (run_of new).end in
    let ends : List Part = new_parts commits o.terms (run_of old).end (run_of new).end in
    let last : List ℕ → List ℕ = last_behind (needless old) (needless new) in
    let logs : List Part = map OfLog (lines_of text) in
    let whole = tells_joined s (told_lines (Log s) text ++ left ++ ended) (changed_needless s (needless old) (needless new)) (lines_of text ++ []) []
    (logs ++ ends) [] (λ before. before) last
    (tells_joined s (told_lines (Log s) text ++ left) ended (lines_of text) [] logs ends (λ before. before) (λ before. before)
    (tells_behind s (told_lines (Log s) text) left (lines_of text) logs (λ before. before) (tells_lines s (lines_of text))
    (silent_changed_left s s (left_in old) (left_in new)))
    (tells_newly s commits o.terms (run_of old).end (run_of new).end))
    (tells_needless s (needless old) (needless new)) in
    record {
      log = whole.log ∙ append-nil (lines_of text ++ []) ∙ append-nil (lines_of text);
      end = whole.end ∙ append-nil (logs ++ ends);
      needless = whole.needless;
    }

pub first_of_own : (s : ℕ) (history : History) (first : Begun) (m : FarmMachine)
    → Tells s (first_news history s first m) (lines_of (log_on history first (run_of m).entries))
    (parts_of history first (run_of m)) (λ before. before)
first_of_own s history first m =
    let text : List ℕ = log_on history first (run_of m).entries in
    let ends : List Part = parts_of_end (commits_of history) first.sides (run_of m).end in
    let whole = tells_joined s (told_lines (Log s) text ++ left_told s (left_in m)) (ended_by (commits_of history) s first.sides (run_of m).end)
    (lines_of text) [] (map OfLog (lines_of text)) ends (λ before. before) (λ before. before)
    (tells_behind s (told_lines (Log s) text) (left_told s (left_in m)) (lines_of text) (map OfLog (lines_of text)) (λ before. before)
    (tells_lines s (lines_of text))
    (silent_left s s (left_in m)))
    (tells_end s (commits_of history) first.sides (run_of m).end) in
    record { log = whole.log ∙ append-nil (lines_of text); end = whole.end; needless = whole.needless }
