-- A board that tells of answers alone still does after an event that does.
use Rattle.std.proofs.Common.{◌≡◌, ◌⊎◌, inl, inr, ℕ, zero, suc, Bool, true, false, List, [], ◌∷◌, ◌++◌, get_or, set, length, All, Contains, Option, Some, None}
use Rattle.std.proofs.Common.{refl, sym, ap, subst, ◌∙◌, arith}
use Rattle.std.proofs.lemmas.List.Elements.{All-push, All-contains, All-contains_itself, Contains-append_left, Contains-append_right}
use Rattle.std.proofs.lemmas.List.{length-set}
use Rattle.std.specs.List.{slice_get}
use Rattle.bf_oid.specs.declared.object.Oid.{Oid}
use Rattle.bf_search.specs.declared.farm.Event.{Event}
use Rattle.bf_search.specs.declared.farm.Event.TheVariants as events
use Rattle.bf_search.specs.declared.outcomes.Outcome.{Outcome}
use Rattle.bf_search.specs.Farm.{Setting, Farm, step}
use Rattle.bf_search.specs.Outcomes.{outcomes_of_table}
use Rattle.bf_farm.specs.Cores.{CoreView, IsSameStart}
use Rattle.bf_tester.specs.declared.answer.Answer.{Answer}
use Rattle.bf_tester.specs.declared.answer.TestReply.{TestReply}
use Rattle.bf_tester.specs.declared.answer.TestReply.TheVariants as replies
use Rattle.bf_tester.specs.Replies.{answer_of, answers_after, FollowsPlan}
use Rattle.bf_farm.specs.Boards.{BoardView, Does, DoesIf, IsSameBoard}
use Rattle.bf_farm.specs.Reports.{IsAnswered, AreAmong, TableIn}
use Rattle.bf_farm.specs.Sound.{IsSound, IsSoundPost, IsSoundEvent, ArePartOf, GivesBack}
use Rattle.bf_farm.proofs.History.{chosen}

-- the table after an event
abbrev table_with : Event → List (Option Outcome) → List (Option Outcome)
table_with (events.Post worker p outcome) table = set table p (Some outcome)
table_with (events.Claim worker p) table = table
table_with (events.Give worker p) table = table

table_after : (setting : Setting) (farm next : Farm) (e : Event) → step setting farm e ≡ Some next → next.table ≡ table_with e farm.table
table_after setting farm next (events.Claim worker p) h = sym (ap (λ (f : Farm). f.table) (chosen _ _ next h))
table_after setting farm next (events.Post worker p outcome) h = sym (ap (λ (f : Farm). f.table) (chosen _ _ next h))
table_after setting farm next (events.Give worker p) h = sym (ap (λ (f : Farm). f.table) (chosen _ _ next h))

set_cases : (t : List (Option Outcome)) (p q : ℕ) (put found : Outcome) → get_or (set t p (Some put)) q None ≡ Some found
    → ((q ≡ p) × (found ≡ put)) ⊎ (get_or t q None ≡ Some found)
set_cases [] p q put found h = inr h
set_cases (x ∷ t) zero zero put found h = inl (refl, cc)
set_cases (x ∷ t) zero (suc q) put found h = inr h
set_cases (x ∷ t) (suc p) zero put found h = inr h
set_cases (x ∷ t) (suc p) (suc q) put found h =
    elim (set_cases t p q put found h) [ inl e ↦ inl (ap (λ (n : ℕ). suc n) e.0, e.1) | inr e ↦ inr e ]

table_sound : (told : Option (List Outcome)) (names : List Oid) (answers : List Answer) (table : List (Option Outcome)) (e : Event)
    → IsSoundEvent told names answers e
    → ((p : ℕ) (outcome : Outcome) → outcomes_of_table table p ≡ Some outcome → IsSoundPost told names answers p outcome)
    → (p : ℕ) (outcome : Outcome) → outcomes_of_table (table_with e table) p ≡ Some outcome → IsSoundPost told names answers p outcome
table_sound told names answers table (events.Claim worker q) sound before = before
table_sound told names answers table (events.Give worker q) sound before = before
table_sound told names answers table (events.Post worker q put) sound before = λ p outcome h.
    elim (set_cases table q p put outcome h) [
      | inl e ↦ subst (λ (n : ℕ). IsSoundPost told names answers n outcome) (sym e.0)
          (subst (λ (o : Outcome). IsSoundPost told names answers q o) (sym e.1) sound)
      | inr e ↦ before p outcome e
    ]

sound_does : (told : Option (List Outcome)) (names : List Oid) (answers : List Answer) (old new : BoardView) (e : Event)
    → Does old new e → IsSoundEvent told names answers e → IsSound told names answers old → IsSound told names answers new
sound_does told names answers old new e does event sound = record {
  table = λ p outcome h.
      table_sound told names answers old.core.farm.table e event sound.table p outcome
      (subst (λ (t : List (Option Outcome)). outcomes_of_table t p ≡ Some outcome) (table_after old.core.setting old.core.farm new.core.farm e does.done) h);
  posts = subst (λ (l : List Event). All (λ x. IsSoundEvent told names answers x) l) (sym does.noted)
      (All-push (λ (x : Event). IsSoundEvent told names answers x) old.events e sound.posts event);
}

sound_same : (told : Option (List Outcome)) (names : List Oid) (answers : List Answer) (old new : BoardView)
    → IsSameBoard old new → IsSound told names answers old → IsSound told names answers new
sound_same told names answers old new same sound = record {
  table = λ p outcome h. sound.table p outcome (subst (λ (t : List (Option Outcome)). outcomes_of_table t p ≡ Some outcome)
      (ap (λ (x : CoreView). x.farm.table) same.core) h);
  posts = subst (λ (l : List Event). All (λ x. IsSoundEvent told names answers x) l) (sym same.events) sound.posts;
}

pub sound_if : (told : Option (List Outcome)) (names : List Oid) (answers : List Answer) (legal : Bool) (old new : BoardView) (e : Event)
    → DoesIf legal old new e → IsSoundEvent told names answers e → IsSound told names answers old → IsSound told names answers new
sound_if told names answers true old new e does event sound = sound_does told names answers old new e does event sound
sound_if told names answers false old new e same event sound = sound_same told names answers old new same sound

pub start_if : (legal : Bool) (old new : BoardView) (e : Event) → DoesIf legal old new e → IsSameStart old.core new.core
start_if true old new e does = does.start
start_if false old new e same = record { setting = ap (λ (x : CoreView). x.setting) same.core; first = ap (λ (x : CoreView). x.first) same.core }

pub first_if : (legal : Bool) (old new : BoardView) (e : Event) → DoesIf legal old new e → new.first ≡ old.first
first_if true old new e does = does.first
first_if false old new e same = same.first

table_len : (e : Event) (table : List (Option Outcome)) → length (table_with e table) ≡ length table
table_len (events.Claim worker p) table = refl
table_len (events.Post worker p outcome) table = length-set table p (Some outcome)
table_len (events.Give worker p) table = refl

pub len_if : (legal : Bool) (old new : BoardView) (e : Event) → DoesIf legal old new e → length new.core.farm.table ≡ length old.core.farm.table
len_if true old new e does =
    ap (λ (t : List (Option Outcome)). length t) (table_after old.core.setting old.core.farm new.core.farm e does.done) ∙ table_len e old.core.farm.table
len_if false old new e same = ap (λ (x : CoreView). length x.farm.table) same.core

pub sound_given : (told : Option (List Outcome)) (names : List Oid) (answers : List Answer) (old new : BoardView)
    → GivesBack old new → IsSound told names answers old → IsSound told names answers new
sound_given told names answers old new given sound = record {
  table = λ p outcome h. sound.table p outcome (subst (λ (t : List (Option Outcome)). outcomes_of_table t p ≡ Some outcome) given.table h);
  posts = given.posts told names answers sound.posts;
}

pub start_of : (b : BoardView) → IsSameStart b.core b.core
start_of b = record { setting = refl; first = refl }

pub start_then : (a b c : BoardView) → IsSameStart a.core b.core → IsSameStart b.core c.core → IsSameStart a.core c.core
start_then a b c x y = record { setting = y.setting ∙ x.setting; first = y.first ∙ x.first }

-- an answer of a part of the answers
pub sound_part : (told : Option (List Outcome)) (names : List Oid) (answers part : List Answer) (p : ℕ) (outcome : Outcome)
    → ArePartOf told answers part → IsAnswered names part p outcome → IsSoundPost told names answers p outcome
sound_part told names answers part p outcome is answered = record {
  answered = record {
    name = answered.name;
    named = answered.named;
    given = All-contains (λ (a : Answer). Contains answers a) part (answer_of p answered.name outcome) is.among answered.given;
  };
  planned = All-contains (λ (a : Answer). FollowsPlan told a.place a.outcome) part (answer_of p answered.name outcome) is.planned answered.given;
}

-- ---- more answers

among_append : (more part : List Answer) → AreAmong (part ++ more) part
among_append more part = λ k d l. Contains-append_left part more (get_or part k d) (All-contains_itself part k d l)

pub among_before : (new old more : List Answer) → new ≡ old ++ more → AreAmong new old
among_before new old more e = subst (λ (l : List Answer). AreAmong l old) (sym e) (among_append more old)

pub among_after : (new old more : List Answer) → new ≡ old ++ more → AreAmong new more
among_after new old more e =
    subst (λ (l : List Answer). AreAmong l more) (sym e) (λ k d l. Contains-append_right old more (get_or more k d) (All-contains_itself more k d l))

pub among_itself : (answers : List Answer) → AreAmong answers answers
among_itself answers = All-contains_itself answers

pub among_then : (a b c : List Answer) → AreAmong c b → AreAmong b a → AreAmong c a
among_then a b c x y = λ k d l. All-contains (λ (v : Answer). Contains c v) b (get_or a k d) x (y k d l)

pub among_same : (new old : List Answer) → new ≡ old → AreAmong new old
among_same new old e = subst (λ (l : List Answer). AreAmong l old) (sym e) (among_itself old)

-- no reply to a test loses an answer
pub among_replied : (reply : TestReply) (new old : List Answer) (p : ℕ) (name : Oid) → new ≡ answers_after reply old p name → AreAmong new old
among_replied (replies.Done outcome) new old p name e = among_before new old (answer_of p name outcome ∷ []) e
among_replied replies.Dropped new old p name e = among_same new old e
among_replied replies.Failed new old p name e = among_same new old e
among_replied replies.NoMemory new old p name e = among_same new old e

answered_wider : (names : List Oid) (more answers : List Answer) (p : ℕ) (outcome : Outcome) → AreAmong more answers
    → IsAnswered names answers p outcome → IsAnswered names more p outcome
answered_wider names more answers p outcome among h = record {
  name = h.name;
  named = h.named;
  given = All-contains (λ (v : Answer). Contains more v) answers (answer_of p h.name outcome) among h.given;
}

pub table_wider : (names : List Oid) (more answers : List Answer) (table : List (Option Outcome)) → AreAmong more answers
    → TableIn names answers table → TableIn names more table
table_wider names more answers table among known = λ p outcome h. answered_wider names more answers p outcome among (known p outcome h)

post_wider : (told : Option (List Outcome)) (names : List Oid) (more answers : List Answer) (p : ℕ) (outcome : Outcome) → AreAmong more answers
    → IsSoundPost told names answers p outcome → IsSoundPost told names more p outcome
post_wider told names more answers p outcome among h = record { answered = answered_wider names more answers p outcome among h.answered; planned = h.planned }

event_wider : (told : Option (List Outcome)) (names : List Oid) (more answers : List Answer) (e : Event) → AreAmong more answers
    → IsSoundEvent told names answers e → IsSoundEvent told names more e
event_wider told names more answers (events.Claim worker p) among h = tt
event_wider told names more answers (events.Give worker p) among h = tt
event_wider told names more answers (events.Post worker p outcome) among h = post_wider told names more answers p outcome among h

pub sound_wider : (told : Option (List Outcome)) (names : List Oid) (more answers : List Answer) (b : BoardView) → AreAmong more answers
    → IsSound told names answers b → IsSound told names more b
sound_wider told names more answers b among h = record {
  table = λ p outcome e. post_wider told names more answers p outcome among (h.table p outcome e);
  posts = λ k d l. event_wider told names more answers (get_or b.events k d) among (h.posts k d l);
}

-- a test that was done, and whose outcome was posted
pub sound_tested : (told : Option (List Outcome)) (names : List Oid) (answers more : List Answer) (legal : Bool) (old new : BoardView) (worker p : ℕ)
    (outcome : Outcome) (name : Oid)
    → more ≡ answers ++ answer_of p name outcome ∷ [] → slice_get names p ≡ Some name → FollowsPlan told p outcome
    → DoesIf legal old new (events.Post worker p outcome) → IsSound told names answers old → IsSound told names more new
sound_tested told names answers more legal old new worker p outcome name e named planned does sound =
    sound_if told names more legal old new (events.Post worker p outcome) does
    (record {
      answered = record {
        name = name;
        named = named;
        given = All-contains (λ (a : Answer). Contains more a) (answer_of p name outcome ∷ []) (answer_of p name outcome)
            (among_after more answers (answer_of p name outcome ∷ []) e) (0, omega arith, refl);
      };
      planned = planned;
    })
    (sound_wider told names more answers old (among_before more answers (answer_of p name outcome ∷ []) e) sound)

-- a place given back after a test that was not done
pub sound_untested : (told : Option (List Outcome)) (names : List Oid) (answers more : List Answer) (legal : Bool) (old new : BoardView) (worker p : ℕ)
    → more ≡ answers → DoesIf legal old new (events.Give worker p) → IsSound told names answers old → IsSound told names more new
sound_untested told names answers more legal old new worker p e does sound =
    subst (λ (l : List Answer). IsSound told names l new) (sym e) (sound_if told names answers legal old new (events.Give worker p) does tt sound)
