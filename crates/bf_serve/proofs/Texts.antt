-- The texts of what is told.
use Rattle.std.proofs.Common.{◌≡◌, ℕ, Bool, true, false, cond, not, refl, List, [], ◌∷◌, ◌++◌, Result, Ok, Err, OnOk, sym, ap, ◌∙◌, append_assoc}
use Rattle.std.proofs.lemmas.List.{append-nil}
use Rattle.std.proofs.lemmas.List.Concat.{flat_map-append}
use Rattle.bf_protocol.specs.Events.{News, event_line, events_text}
use Rattle.bf_search.specs.Run.{End}
use Rattle.bf_state.specs.Runs.{is_open}
use Rattle.bf_terms.specs.Texts.{Commits, Sides}
use Rattle.bf_serve.specs.Turns.{end_told, ended_by, newly_ended}

pub events_joined : (a b : List News) → events_text (a ++ b) ≡ events_text a ++ events_text b
events_joined a b = flat_map-append event_line a b

pub one_event : (n : News) → event_line n ≡ events_text (n ∷ [])
one_event n = sym (append-nil (event_line n))

-- what holds where a call succeeds
pub on_ok : {X E : Type 0} {P Q : Type 0} (r : Result X E) → (P → Q) → OnOk r P → OnOk r Q
on_ok (Ok x) f h = f h
on_ok (Err e) f h = tt

-- some news, and more behind them
pub then_told : (a b : List News) (o t u : List ℕ) → t ≡ o ++ events_text a → u ≡ t ++ events_text b → u ≡ o ++ events_text (a ++ b)
then_told a b o t u one two =
    two ∙ ap (λ (x : List ℕ). x ++ events_text b) one ∙ append_assoc o (events_text a) (events_text b)
    ∙ ap (λ (x : List ℕ). o ++ x) (sym (events_joined a b))

-- the news, and the reply behind them
pub then_replied : (a : List News) (reply o t u : List ℕ) → t ≡ o ++ events_text a → u ≡ t ++ reply → u ≡ o ++ (events_text a ++ reply)
then_replied a reply o t u one two = two ∙ ap (λ (x : List ℕ). x ++ reply) one ∙ append_assoc o (events_text a) reply

-- a search that has its end tells it, and one that waits has none
pub end_is_told : (commits : Commits) (s : ℕ) (sides : Sides) (end : End) → is_open end ≡ false → end_told commits s sides end ≡ ended_by commits s sides end
end_is_told commits s sides end over = ap (λ (b : Bool). cond b [] (end_told commits s sides end)) (sym over)

pub no_end_told : (commits : Commits) (s : ℕ) (sides : Sides) (end : End) → is_open end ≡ true → [] ≡ ended_by commits s sides end
no_end_told commits s sides end waits = ap (λ (b : Bool). cond b [] (end_told commits s sides end)) (sym waits)

-- a search that had its end before tells it no more
pub told_before : (commits : Commits) (s : ℕ) (sides : Sides) (old new : End) → is_open old ≡ false → [] ≡ newly_ended commits s sides old new
told_before commits s sides old new over = ap (λ (b : Bool). cond b (ended_by commits s sides new) []) (sym over)

pub told_now : (commits : Commits) (s : ℕ) (sides : Sides) (old new : End) → is_open old ≡ true → ended_by commits s sides new ≡ newly_ended commits s sides old new
told_now commits s sides old new waits = ap (λ (b : Bool). cond b (ended_by commits s sides new) []) (sym waits)

pub not_true : (b : Bool) → not b ≡ true → b ≡ false
not_true true h = cc h
not_true false h = refl

pub not_false : (b : Bool) → not b ≡ false → b ≡ true
not_false true h = refl
not_false false h = cc h
