-- What is told of a search whose machine has changed, and what a giving back leaves.
use Rattle.std.proofs.Common.{◌≡◌, ℕ, zero, suc, ◌+◌, ◌<◌, ◌==◌, ◌&&◌, Bool, true, false, cond, List, [], ◌∷◌, ◌++◌, length, drop, set, Some, None, refl, sym, ap, subst, ◌∙◌, eq-eqb, arith}
use Rattle.std.specs.List.{slice_get}
use Rattle.bf_history.specs.Meanings.{History}
use Rattle.bf_log.specs.Written.{known_after_all}
use Rattle.bf_many.specs.Many.{FarmMachine}
use Rattle.bf_output.specs.Beginning.{commits_of}
use Rattle.bf_protocol.specs.Events.{News, Log, events_text}
use Rattle.bf_reading.specs.Reading.{lines_of}
use Rattle.bf_search.specs.declared.farm.Event.TheVariants.{Give as Given}
use Rattle.bf_search.specs.Farm.{Farm, step, without}
use Rattle.bf_search.specs.Run.{End, Run}
use Rattle.bf_state.specs.Runs.{is_open}
use Rattle.bf_terms.specs.Texts.{Commits, Sides, log_from}
use Rattle.bf_serve.specs.declared.opening.Opening.{Opening}
use Rattle.bf_serve.specs.declared.remaining.Remaining.{Remaining}
use Rattle.bf_serve.specs.declared.session.Session.{Session}
use Rattle.bf_serve.specs.Searches.{left_in, needless, run_of}
use Rattle.bf_serve.specs.Serving.{stepped}
use Rattle.bf_serve.specs.Steps.{Remembers, TellsChange, TellsRun, others_than}
use Rattle.bf_serve.specs.Turns.{changed_left, changed_needless, end_told, further_log, left_told, newly_ended, run_news, told_lines, told_on}
use Rattle.bf_serve.proofs.Needless.{given_needless}
use Rattle.bf_serve.proofs.Picking.{stepped_is}
use Rattle.bf_serve.proofs.Texts.{then_told}

-- ---- the same run tells nothing

drop_all : {X : Type 0} (xs : List X) → drop (length xs) xs ≡ []
drop_all [] = refl
drop_all (x ∷ xs) = drop_all xs

no_log : (commits : Commits) (o : Opening) (r : Run) → further_log commits o r r ≡ []
unfolding log_from
no_log commits o r = ap (log_from commits o.terms o.known) (drop_all r.entries)

no_lines : (tell : List ℕ → News) (text : List ℕ) → text ≡ [] → told_lines tell text ≡ []
unfolding lines_of
no_lines tell text none = ap (told_lines tell) none

same_left : (s : ℕ) (r : Remaining) → changed_left s r r ≡ []
same_left s r = by (r.left == r.left) (eq-eqb r.left r.left refl) (r.away == r.away) (eq-eqb r.away r.away refl)
  where
    by : (a : Bool) → a ≡ true → (b : Bool) → b ≡ true → cond (a && b) [] (left_told s r) ≡ []
    by true e true f = refl
    by true e false f = cc f
    by false e b f = cc e

same_end : (commits : Commits) (s : ℕ) (sides : Sides) (end : End) → newly_ended commits s sides end end ≡ []
same_end commits s sides end = by (is_open end)
  where
    by : (b : Bool) → cond b (cond b [] (end_told commits s sides end)) [] ≡ []
    by true = refl
    by false = refl

same_run : (history : History) (s : ℕ) (o : Opening) (old m : FarmMachine) → run_of m ≡ run_of old → left_in m ≡ left_in old → run_news history s o old m ≡ []
same_run history s o old m run left =
    ap (λ (r : Run). told_lines (Log s) (further_log (commits_of history) o (run_of old) r) ++ changed_left s (left_in old) (left_in m)
    ++ newly_ended (commits_of history) s o.terms (run_of old).end r.end) run
    ∙ ap (λ (t : List News). t ++ changed_left s (left_in old) (left_in m) ++ newly_ended (commits_of history) s o.terms (run_of old).end (run_of old).end)
    (no_lines (Log s) (further_log (commits_of history) o (run_of old) (run_of old)) (no_log (commits_of history) o (run_of old)))
    ∙ ap (λ (t : List News). t ++ newly_ended (commits_of history) s o.terms (run_of old).end (run_of old).end)
    (ap (changed_left s (left_in old)) left ∙ same_left s (left_in old))
    ∙ same_end (commits_of history) s o.terms (run_of old).end

told_same : (o : Opening) (r q : Run) → q ≡ r → told_on o r q ≡ o
told_same o r q same = ap (told_on o r) same ∙ none
  where
    none : told_on o r r ≡ o
    none = ap (λ es. record o { known = known_after_all o.known es }) (drop_all r.entries)

pub some_is : {X : Type 0} {x y : X} → Some x ≡ Some y → x ≡ y
some_is e = cc e

set_same : {X : Type 0} (xs : List X) (k : ℕ) (x : X) → slice_get xs k ≡ Some x → set xs k x ≡ xs
set_same [] k x h = refl
set_same {X} (y ∷ ys) zero x h = ap (λ (z : X). z ∷ ys) (sym (some_is h))
set_same {X} (y ∷ ys) (suc k) x h = ap (λ (l : List X). y ∷ l) (set_same ys k x h)

-- ---- what a session tells

pub told_change : (s mid new : Session) (k : ℕ) (o after : Opening) (before now : FarmMachine) (workers : List ℕ) (remaining : Remaining)
    (text t u : List ℕ) → TellsRun s.history.now (k + 1) before now o after text t remaining
    → mid.openings.items ≡ set s.openings.items k after → mid.needless.items ≡ s.needless.items
    → mid.left.items ≡ set s.left.items k remaining → mid.many ≡ s.many
    → mid.pending.items ≡ s.pending.items → mid.history.now ≡ s.history.now → mid.reach.now ≡ s.reach.now
    → Remembers mid new k (needless before) workers t u → workers ≡ needless now
    → TellsChange s new k o before now text u
told_change s mid new k o after before now workers remaining text t u run openings idle left many pending history reach kept is = record {
  tells = then_told (run_news s.history.now (k + 1) o before now) (changed_needless (k + 1) (needless before) (needless now)) text t u run.tells
      (kept.tells ∙ ap (λ (w : List ℕ). t ++ events_text (changed_needless (k + 1) (needless before) w)) is);
  openings = kept.openings ∙ openings ∙ ap (set s.openings.items k) run.opening;
  needless = kept.needless ∙ ap (λ (l : List (List ℕ)). set l k workers) idle ∙ ap (set s.needless.items k) is;
  left = kept.left ∙ left ∙ ap (set s.left.items k) run.left;
  lull = kept.lull;
  many = kept.many ∙ many;
  pending = kept.pending ∙ pending;
  history = kept.history ∙ history;
  reach = kept.reach ∙ reach;
}

given_farm : (m : FarmMachine) (worker p : ℕ) (farm : Farm) → step m.setting m.farm (Given worker p) ≡ Some farm
    → record m.farm { claims = without m.farm.claims worker } ≡ farm
given_farm m worker p farm h = by _ h
  where
    by : (b : Bool) → cond b (Some (record m.farm { claims = without m.farm.claims worker })) None ≡ Some farm
        → record m.farm { claims = without m.farm.claims worker } ≡ farm
    by true e = cc e
    by false e = cc e

-- a giving back is told by its workers alone
pub told_given : (s new : Session) (k worker p : ℕ) (o : Opening) (m : FarmMachine) (farm : Farm) (text u : List ℕ)
    → step m.setting m.farm (Given worker p) ≡ Some farm → slice_get s.openings.items k ≡ Some o
    → slice_get s.left.items k ≡ Some (left_in m)
    → Remembers s new k (needless m) (others_than worker (needless m)) text u
    → TellsChange s new k o m (stepped m (Given worker p)) text u
told_given s new k worker p o m farm text u legal opened left kept =
    let now : FarmMachine = record m { farm = record m.farm { claims = without m.farm.claims worker } } in
    let is : stepped m (Given worker p) ≡ now
    = stepped_is m (Given worker p) farm legal ∙ ap (λ (f : Farm). record m { farm = f }) (sym (given_farm m worker p farm legal)) in
    subst (λ (x : FarmMachine). TellsChange s new k o m x text u) (sym is) (record {
      tells = kept.tells
          ∙ ap (λ (w : List ℕ). text ++ events_text (changed_needless (k + 1) (needless m) w)) (given_needless m worker)
          ∙ ap (λ (n : List News). text ++ events_text (n ++ changed_needless (k + 1) (needless m) (needless now)))
          (sym (same_run s.history.now (k + 1) o m now refl refl));
      openings = kept.openings ∙ sym (set_same s.openings.items k o opened)
          ∙ ap (set s.openings.items k) (sym (told_same o (run_of m) (run_of now) refl));
      needless = kept.needless ∙ ap (set s.needless.items k) (given_needless m worker);
      left = kept.left ∙ sym (set_same s.left.items k (left_in m) left);
      lull = kept.lull;
      many = kept.many;
      pending = kept.pending;
      history = kept.history;
      reach = kept.reach;
    })

pub found_at : {X : Type 0} (xs : List X) (k : ℕ) → k < length xs → (x : X) × (slice_get xs k ≡ Some x)
found_at [] k l = absurd (omega (arith, l))
found_at (x ∷ xs) zero l = (x, refl)
found_at (x ∷ xs) (suc k) l = found_at xs k (omega (arith, l))
