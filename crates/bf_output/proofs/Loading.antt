-- What a stream loads: each parent of a commit is earlier, and the refs and marks lead to commits that are there.
use Rattle.std.proofs.Common.{◌≡◌, ℕ, ◌+◌, ◌<◌, ◌≤◌, ◌==◌, Bool, true, false, cond, List, [], ◌∷◌, ◌++◌, length, codes, Option, Some, None, IfSome}
use Rattle.std.proofs.Common.{unwrap_or, Result, Ok, Err, IfOk, refl, sym, ap, subst, ◌∙◌, arith, length-append}
use Rattle.std.proofs.lemmas.List.Elements.{All-nil, All-cons}
use Rattle.std.proofs.lemmas.List.Quantifiers.{position-Some}
use Rattle.std.specs.List.{All, position}
use Rattle.std.specs.Option.{ok_or, option_to_list}
use Rattle.bf_forest.specs.declared.edits.Edit.{Edit}
use Rattle.bf_forest.specs.Files.{Files, edited, is_same}
use Rattle.bf_forest.specs.Trees.{with_directories}
use Rattle.bf_grammar.specs.declared.command.Command.{Command}
use Rattle.bf_grammar.specs.declared.command.Command.TheVariants as command
use Rattle.bf_grammar.specs.declared.command.Commit as given
use Rattle.bf_grammar.specs.declared.command.Header.{Header}
use Rattle.bf_grammar.specs.declared.command.Target.{Target}
use Rattle.bf_grammar.specs.declared.fault.Limits.{Limits}
use Rattle.bf_grammar.specs.declared.fault.StreamFault.{StreamFault}
use Rattle.bf_grammar.specs.declared.fault.StreamFault.TheVariants.{Syntax}
use Rattle.bf_oid.specs.declared.object.Oid.{Oid}
use Rattle.bf_grammar.specs.Forms.{colon_number, ◌>>=◌}
use Rattle.bf_oid.specs.Object.{oid_of_hex}
use Rattle.bf_graph.specs.Graph.{IsGraph}
use Rattle.bf_graph.proofs.Layouts.{IsGraph-nil, IsGraph-push}
use Rattle.bf_history.specs.declared.fault.ImportFault.{ImportFault}
use Rattle.bf_history.specs.declared.fault.ImportFault.TheVariants.{Stream, BadFrom, Unsupported}
use Rattle.bf_history.specs.declared.marked.Marked.{Marked}
use Rattle.bf_history.specs.declared.marked.Marked.TheVariants as marked
use Rattle.bf_history.specs.Imports.{loaded}
use Rattle.bf_history.specs.Meanings.{History, Loading, Commit, nothing_loaded, each_of, mark_in, ref_in, place_named, commit_marked, place_by}
use Rattle.bf_history.specs.Meanings.{place_of_target, edit_of, begins_with, files_from, commit_on, stood, with_commit, place_of_commit, within_limits}
use Rattle.bf_history.specs.Meanings.{after_named, lacks_name, with_ref, without_ref, with_mark, after_commit, after_reset, after_tag, after_command, is_no_name}
use Rattle.bf_history.specs.Named.{value_of, with_value, without_value}
use Rattle.bf_history.proofs.Steps.{last_step, within_same}

-- ---- values under names

abbrev pub AreAll : {K V : Type 0} → (V → Type 0) → List (K × V) → Type 0
AreAll P [] = Unit {0}
AreAll P (given ∷ rest) = P given.1 × AreAll P rest

one_or : {V : Type 0} (P : V → Type 0) (b : Bool) (v : V) (o : Option V) → P v → IfSome o P → IfSome (cond b (Some v) o) P
one_or P true v o h k = h
one_or P false v o h k = k

either_all : {K V : Type 0} (P : V → Type 0) (b : Bool) (xs ys : List (K × V)) → AreAll P xs → AreAll P ys → AreAll P (cond b xs ys)
either_all P true xs ys h k = h
either_all P false xs ys h k = k

pub value_is : {K V : Type 0} (P : V → Type 0) (same : K → K → Bool) (name : K) (values : List (K × V)) → AreAll P values
    → IfSome (value_of same name values) P
value_is P same name [] h = tt
value_is P same name (given ∷ rest) h = one_or P (same name given.0) given.1 (value_of same name rest) h.0 (value_is P same name rest h.1)

with_value_are : {K V : Type 0} (P : V → Type 0) (same : K → K → Bool) (name : K) (value : V) (values : List (K × V)) → P value
    → AreAll P values → AreAll P (with_value same name value values)
with_value_are P same name value [] v h = (v, tt)
with_value_are P same name value (given ∷ rest) v h =
    either_all P (same name given.0) ((given.0, value) ∷ rest) (given ∷ with_value same name value rest) (v, h.1)
    (h.0, with_value_are P same name value rest v h.1)

without_value_are : {K V : Type 0} (P : V → Type 0) (same : K → K → Bool) (name : K) (values : List (K × V)) → AreAll P values
    → AreAll P (without_value same name values)
without_value_are P same name [] h = tt
without_value_are P same name (given ∷ rest) h =
    either_all P (same name given.0) rest (given ∷ without_value same name rest) h.1 (h.0, without_value_are P same name rest h.1)

more_are : {K V : Type 0} (P Q : V → Type 0) → ((v : V) → P v → Q v) → (values : List (K × V)) → AreAll P values → AreAll Q values
more_are P Q more [] h = tt
more_are P Q more (given ∷ rest) h = (more given.1 h.0, more_are P Q more rest h.1)

-- ---- histories and what marks stand for

-- each parent is earlier, each commit has a name, and the refs lead to commits
pub record IsWhole (history : History) : Type 0 where
  pub graph : IsGraph history.parents
  pub counted : length history.parents ≡ length history.names
  pub refs : AreAll (λ p. p < length history.parents) history.refs

abbrev IsThere : ℕ → Marked → Type 0
IsThere n (marked.Commit place) = place < n
IsThere n (marked.Blob name) = Unit {0}
IsThere n marked.Tag = Unit {0}

record IsSound (loading : Loading) : Type 0 where
  whole : IsWhole loading.history
  marks : AreAll (IsThere (length loading.history.parents)) loading.marks

still_there : (n m : ℕ) → n ≤ m → (what : Marked) → IsThere n what → IsThere m what
still_there n m le (marked.Commit place) h = omega (arith, h)
still_there n m le (marked.Blob name) h = tt
still_there n m le marked.Tag h = tt

-- ---- targets

if_some : {E : Type 0} (P : ℕ → Type 0) (o : Option ℕ) (fault : E) → IfSome o P → IfOk (ok_or o fault) P
if_some P (Some p) fault h = h
if_some P None fault h = tt

pub position_below : {X : Type 0} (p : X → Bool) (d : X) (xs : List X) → IfSome (position p xs) (λ i. i < length xs)
position_below p d xs = by_place (position p xs) (λ i e. (position-Some p xs i d e).0)
  where
    by_place : (o : Option ℕ) → ((i : ℕ) → o ≡ Some i → i < length xs) → IfSome o (λ i. i < length xs)
    by_place (Some i) h = h i refl
    by_place None h = tt

-- the place of a name is one of the history
pub named_below : (history : History) (name : Oid) → IsWhole history → IfSome (place_named history.names name) (λ p. p < length history.parents)
named_below history name w =
    subst (λ n. IfSome (place_named history.names name) (λ p. p < n)) (sym w.counted)
    (position_below (λ (other : Oid). is_same name.0 other.0) name history.names)

mark_there : (n : ℕ) (other : ℕ → ImportFault) (line : ℕ) (o : Option Marked) → IfSome o (IsThere n) → IfOk (commit_marked other line o) (λ p. p < n)
mark_there n other line (Some (marked.Commit place)) h = h
mark_there n other line (Some (marked.Blob name)) h = tt
mark_there n other line (Some marked.Tag) h = tt
mark_there n other line None h = tt

place_there : (other : ℕ → ImportFault) (loading : Loading) (target : Target) (number : Option ℕ) (name : Option Oid) → IsSound loading
    → IfOk (place_by other loading target number name) (λ p. p < length loading.history.parents)
place_there other loading target (Some number) name s =
    mark_there (length loading.history.parents) other target.line (mark_in loading.marks number)
    (value_is (IsThere (length loading.history.parents)) ◌==◌ number loading.marks s.marks)
place_there other loading target None (Some name) s =
    if_some (λ p. p < length loading.history.parents) (place_named loading.history.names name) _ (named_below loading.history name s.whole)
place_there other loading target None None s =
    if_some (λ p. p < length loading.history.parents) (ref_in loading.history.refs _) _
    (value_is (λ p. p < length loading.history.parents) is_same _ loading.history.refs s.whole.refs)

target_there : (other : ℕ → ImportFault) (loading : Loading) (target : Target) → IsSound loading
    → IfOk (place_of_target other loading target) (λ p. p < length loading.history.parents)
unfolding place_of_target
target_there other loading target s = place_there other loading target (colon_number target.text) (oid_of_hex target.text) s

two_there : (n : ℕ) (a : Result ℕ ImportFault) (b : Result (List ℕ) ImportFault) → IfOk a (λ p. p < n) → IfOk b (λ ps. All (λ p. p < n) ps)
    → IfOk (a >>= λ p. b >>= λ ps. Ok (p ∷ ps)) (λ ps. All (λ p. p < n) ps)
two_there n (Ok p) (Ok ps) h k = All-cons (λ p. p < n) p ps h k
two_there n (Ok p) (Err fault) h k = tt
two_there n (Err fault) b h k = tt

each_there : (n : ℕ) (value : Target → Result ℕ ImportFault) → ((target : Target) → IfOk (value target) (λ p. p < n)) → (targets : List Target)
    → IfOk (each_of value targets) (λ ps. All (λ p. p < n) ps)
unfolding each_of
each_there n value h [] = All-nil (λ p. p < n)
each_there n value h (target ∷ targets) =
    two_there n (value target) (each_of value targets) (h target) (each_there n value h targets)

some_there : (n : ℕ) (a : Result ℕ ImportFault) → IfOk a (λ p. p < n) → IfOk (a >>= λ place. Ok (Some place)) (λ o. IfSome o (λ p. p < n))
some_there n (Ok p) h = h
some_there n (Err fault) h = tt

first_there : (loading : Loading) (branch : List ℕ) (from : Option Target) → IsSound loading
    → IfOk (begins_with loading branch from) (λ o. IfSome o (λ p. p < length loading.history.parents))
first_there loading branch None s = value_is (λ p. p < length loading.history.parents) is_same branch loading.history.refs s.whole.refs
first_there loading branch (Some target) s =
    some_there (length loading.history.parents) (place_of_target BadFrom loading target) (target_there BadFrom loading target s)

-- ---- one more commit

record IsGrown (before after : History) (place : ℕ) : Type 0 where
  whole : IsWhole after
  more : length before.parents ≤ length after.parents
  there : place < length after.parents

stood_grown : (history : History) (directories : List Files) (commit : Commit) → IsWhole history
    → All (λ p. p < length history.parents) commit.parents → (found : Option ℕ) → IfSome found (λ p. p < length history.parents)
    → IsGrown history (stood history directories found commit) (unwrap_or found (length history.names))
stood_grown history directories commit w within (Some place) h = record {
  whole = record { graph = w.graph; counted = w.counted; refs = w.refs };
  more = omega arith;
  there = h;
}
stood_grown history directories commit w within None h =
    let one_more : length (history.parents ++ commit.parents ∷ []) ≡ length history.parents + 1 = length-append history.parents (commit.parents ∷ []) in
    record {
      whole = record {
        graph = IsGraph-push history.parents commit.parents w.graph within;
        counted = one_more ∙ ap (λ n. n + 1) w.counted ∙ sym (length-append history.names (commit.name ∷ []));
        refs = more_are (λ p. p < length history.parents) (λ p. p < length (history.parents ++ commit.parents ∷ []))
            (λ p below. omega (arith, below, one_more)) history.refs w.refs;
      };
      more = omega (arith, one_more);
      there = omega (arith, one_more, w.counted);
    }

commit_grown : (history : History) (commit : Commit) → IsWhole history → All (λ p. p < length history.parents) commit.parents
    → IsGrown history (with_commit history commit) (place_of_commit history commit)
unfolding with_commit place_of_commit
commit_grown history commit w within =
    stood_grown history (with_directories history.directories commit.files) commit w within (place_named history.names commit.name)
    (named_below history commit.name w)

-- ---- commands

next_step : {D Y : Type 0} (d : Result D ImportFault) (f : D → Y) (Q : D → Type 0) (P : Y → Type 0) → IfOk d Q → ((w : D) → Q w → P (f w))
    → IfOk (d >>= λ w. Ok (f w)) P
next_step (Ok w) f Q P q h = h w q
next_step (Err e) f Q P q h = tt

four_steps : {A B C D Y : Type 0} (a : Result A ImportFault) (b : Result B ImportFault) (c : Result C ImportFault)
    (d : A → B → C → Result D ImportFault) (f : A → B → C → D → Y) (Q : A → Type 0) (R : B → Type 0) (P : Y → Type 0)
    → IfOk a Q → IfOk b R → ((x : A) (y : B) (z : C) (w : D) → Q x → R y → d x y z ≡ Ok w → P (f x y z w))
    → IfOk (a >>= λ x. b >>= λ y. c >>= λ z. d x y z >>= λ w. Ok (f x y z w)) P
four_steps (Ok x) (Ok y) (Ok z) d f Q R P q r h = last_step (d x y z) (f x y z) P (λ w is. h x y z w q r is)
four_steps (Ok x) (Ok y) (Err e) d f Q R P q r h = tt
four_steps (Ok x) (Err e) c d f Q R P q r h = tt
four_steps (Err e) b c d f Q R P q r h = tt

-- the parents of a commit, the first before the others
parents_there : (n : ℕ) (first : Option ℕ) (others : List ℕ) → IfSome first (λ p. p < n) → All (λ p. p < n) others
    → All (λ p. p < n) (option_to_list first ++ others)
parents_there n (Some p) others h k = All-cons (λ p. p < n) p others h k
parents_there n None others h k = k

with_ref_whole : (name : List ℕ) (place : ℕ) (history : History) → IsWhole history → place < length history.parents → IsWhole (with_ref name place history)
with_ref_whole name place history w there = record {
  graph = w.graph;
  counted = w.counted;
  refs = with_value_are (λ p. p < length history.parents) is_same name place history.refs there w.refs;
}

without_ref_whole : (name : List ℕ) (history : History) → IsWhole history → IsWhole (without_ref name history)
without_ref_whole name history w = record {
  graph = w.graph;
  counted = w.counted;
  refs = without_value_are (λ p. p < length history.parents) is_same name history.refs w.refs;
}

with_mark_are : (n : ℕ) (mark : Option ℕ) (what : Marked) (marks : List (ℕ × Marked)) → IsThere n what → AreAll (IsThere n) marks
    → AreAll (IsThere n) (with_mark mark what marks)
with_mark_are n None what marks h k = k
with_mark_are n (Some number) what marks h k = with_value_are (IsThere n) ◌==◌ number what marks h k

made : Loading → Header → Option ℕ → List ℕ → List Edit → Commit
made loading header first others edits = commit_on loading.history (option_to_list first ++ others) (edited (files_from loading.history first) edits) header

after_named_sound : (limits : Limits) (loading : Loading) (given : given.Commit) → IsSound loading
    → IfOk (after_named limits loading given (each_of (edit_of loading.marks) given.changes)) IsSound
unfolding made commit_on
after_named_sound limits loading given s =
    four_steps (begins_with loading given.branch given.from) (each_of (place_of_target BadFrom loading) given.merges)
    (each_of (edit_of loading.marks) given.changes)
    (λ first others edits. within_limits limits (with_commit loading.history (made loading given.header first others edits)))
    (λ first others edits history. record {
      history = with_ref given.branch (place_of_commit loading.history (made loading given.header first others edits)) history;
      marks = with_mark given.mark (marked.Commit (place_of_commit loading.history (made loading given.header first others edits))) loading.marks;
    })
    (λ first. IfSome first (λ p. p < length loading.history.parents)) (λ others. All (λ p. p < length loading.history.parents) others) IsSound
    (first_there loading given.branch given.from s)
    (each_there (length loading.history.parents) (place_of_target BadFrom loading) (λ target. target_there BadFrom loading target s) given.merges)
    (λ first others edits history one rest is.
    let place : ℕ = place_of_commit loading.history (made loading given.header first others edits) in
    let grown : IsGrown loading.history (with_commit loading.history (made loading given.header first others edits)) place =
    commit_grown loading.history (made loading given.header first others edits) s.whole
    (parents_there (length loading.history.parents) first others one rest) in
    let after : IsGrown loading.history history place = subst (λ h. IsGrown loading.history h place)
    (within_same limits (with_commit loading.history (made loading given.header first others edits)) history is) grown in
    record {
      whole = with_ref_whole given.branch place history after.whole after.there;
      marks = with_mark_are (length history.parents) given.mark (marked.Commit place) loading.marks after.there
          (more_are (IsThere (length loading.history.parents)) (IsThere (length history.parents))
          (still_there (length loading.history.parents) (length history.parents) after.more) loading.marks s.marks);
    })

either_sound : (b : Bool) (one other : Result Loading ImportFault) → IfOk one IsSound → IfOk other IsSound → IfOk (cond b one other) IsSound
either_sound true one other h k = h
either_sound false one other h k = k

after_commit_sound : (limits : Limits) (loading : Loading) (given : given.Commit) → IsSound loading
    → IfOk (after_commit limits loading given) IsSound
unfolding after_commit
after_commit_sound limits loading given s =
    either_sound (lacks_name limits loading.history given.header) (Err (Stream (Syntax given.line)))
    (after_named limits loading given (each_of (edit_of loading.marks) given.changes)) tt (after_named_sound limits loading given s)

after_reset_sound : (loading : Loading) (branch : List ℕ) (from : Option Target) → IsSound loading → IfOk (after_reset loading branch from) IsSound
unfolding after_reset
after_reset_sound loading branch None s = record { whole = without_ref_whole branch loading.history s.whole; marks = s.marks }
after_reset_sound loading branch (Some target) s =
    either_sound (is_no_name target.text) (Ok (record loading { history = without_ref branch loading.history }))
    (place_of_target BadFrom loading target >>= λ place. Ok (record loading { history = with_ref branch place loading.history }))
    (record { whole = without_ref_whole branch loading.history s.whole; marks = s.marks })
    (next_step (place_of_target BadFrom loading target) (λ place. record loading { history = with_ref branch place loading.history })
    (λ p. p < length loading.history.parents) IsSound (target_there BadFrom loading target s)
    (λ place there. record { whole = with_ref_whole branch place loading.history s.whole there; marks = s.marks }))

after_tag_sound : (loading : Loading) (name : List ℕ) (mark : Option ℕ) (target : Target) → IsSound loading
    → IfOk (after_tag loading name mark target) IsSound
unfolding after_tag
after_tag_sound loading name mark target s =
    next_step (place_of_target Unsupported loading target)
    (λ place. record { history = with_ref (codes "refs/tags/" ++ name) place loading.history; marks = with_mark mark marked.Tag loading.marks })
    (λ p. p < length loading.history.parents) IsSound (target_there Unsupported loading target s)
    (λ place there. record {
      whole = with_ref_whole (codes "refs/tags/" ++ name) place loading.history s.whole there;
      marks = with_mark_are (length loading.history.parents) mark marked.Tag loading.marks tt s.marks;
    })

command_sound : (limits : Limits) (loading : Loading) (c : Command) → IsSound loading → IfOk (after_command limits loading c) IsSound
unfolding after_command
command_sound limits loading (command.Blob line mark content) s = record {
  whole = s.whole;
  marks = with_mark_are (length loading.history.parents) mark (marked.Blob _) loading.marks tt s.marks;
}
command_sound limits loading (command.Commit given) s = after_commit_sound limits loading given s
command_sound limits loading (command.Tag line name mark from) s = after_tag_sound loading name mark from s
command_sound limits loading (command.Reset line branch from) s = after_reset_sound loading branch from s
command_sound limits loading (command.Progress line) s = s
command_sound limits loading (command.Feature line) s = s

-- ---- streams

behind : (r : Result Loading ImportFault) (next : Loading → Result History ImportFault) → IfOk r IsSound
    → ((x : Loading) → IsSound x → IfOk (next x) IsWhole) → IfOk (r >>= next) IsWhole
behind (Ok x) next h goes_on = goes_on x h
behind (Err e) next h goes_on = tt

loaded_whole : (limits : Limits) (loading : Loading) (commands : List Command) (end : Option StreamFault) → IsSound loading
    → IfOk (loaded limits loading commands end) IsWhole
unfolding loaded
loaded_whole limits loading [] None s = s.whole
loaded_whole limits loading [] (Some fault) s = tt
loaded_whole limits loading (c ∷ commands) end s =
    behind (after_command limits loading c) (λ next. loaded limits next commands end) (command_sound limits loading c s)
    (λ next sound. loaded_whole limits next commands end sound)

nothing_sound : (limits : Limits) → IsSound (nothing_loaded limits)
nothing_sound limits = record { whole = record { graph = IsGraph-nil; counted = refl; refs = tt }; marks = tt }

-- what a stream loads is whole
pub whole_loaded : (limits : Limits) (commands : List Command) (end : Option StreamFault) (history : History)
    → loaded limits (nothing_loaded limits) commands end ≡ Ok history → IsWhole history
whole_loaded limits commands end history is =
    let P : Result History ImportFault → Type 0 = λ result. IfOk result IsWhole in
    subst P is (loaded_whole limits (nothing_loaded limits) commands end (nothing_sound limits))
