-- The answers of workers are their posts, each as often.
use Rattle.std.proofs.Common.{◌≡◌, ◌≢◌, inl, inr, ℕ, zero, suc, ◌+◌, ◌<◌, ◌≤◌, Bool, true, false, not, cond, ◌==◌, List, [], ◌∷◌, ◌++◌, length, get_or, map, take}
use Rattle.std.proofs.Common.{Option, Some, None, refl, sym, ap, ◌∙◌, subst, append_assoc, arith, eqb-true, eq-eqb, ⊎_elim}
use Rattle.std.proofs.lemmas.Bool.{cases_Bool, both_ways, cond-true, cond-false}
use Rattle.std.proofs.lemmas.Grind.{flat_map-append}
use Rattle.std.proofs.lemmas.List.{append-nil, append_cancel_left, map-append, take_more}
use Rattle.std.proofs.lemmas.List.Elements.{All-nil, All-cons, All-head, All-tail, All-append, All-push, All-map, All-contains_itself}
use Rattle.std.proofs.lemmas.List.Sorted.{IsPermutation-refl, IsPermutation-trans, IsPermutation-append_left, IsPermutation-append_right}
use Rattle.std.proofs.lemmas.List.Sorted.{IsPermutation-append_comm}
use Rattle.std.proofs.lemmas.Option.{get_or_from_slice_get, slice_get_cases, slice_get_within}
use Rattle.std.specs.List.{All, filter, flat_map, slice_get}
use Rattle.std.specs.List.Sorted.{IsPermutation}
use Rattle.std.specs.Option.{IfSome, SomeIff, is_none}
use Rattle.bf_oid.specs.declared.object.Oid.{Oid}
use Rattle.bf_search.specs.declared.farm.Event.{Event}
use Rattle.bf_search.specs.declared.farm.Event.TheVariants as events
use Rattle.bf_search.specs.declared.outcomes.Outcome.{Outcome}
use Rattle.bf_search.specs.Outcomes.{outcomes_of_table}
use Rattle.bf_tester.specs.declared.answer.Answer.{Answer}
use Rattle.bf_tester.specs.declared.tester.Tester.{Ghosts}
use Rattle.bf_tester.specs.Replies.{answer_of}
use Rattle.bf_farm.specs.declared.worker.Worker.{Worker}
use Rattle.bf_farm.specs.Answering.{lacking, pair_of}
use Rattle.bf_farm.specs.Doers.{AreDoneBy, IsOneOf, worker_of}
use Rattle.bf_farm.specs.Ends.{TestsOn, failed_test, test_of}
use Rattle.bf_farm.specs.Posts.{post_in, posts_of, post_by, posts_by, AreNamed, ArePostsInOrder, ArePosts, GainsPosts, IsNextAnswer, SeesEvent}
use Rattle.bf_farm.specs.Sound.{IsSoundEvent, IsSoundPost}
use Rattle.bf_farm.specs.Workers.{AreWorkersOf, AreAllPosted, answers_of}
use Rattle.bf_farm.proofs.Parts.{all_left, all_right}
use Rattle.bf_farm.proofs.Soundness.{sound_part}

abbrev pub Pair : Type 0
Pair = ℕ × Outcome

-- ---- one worker

-- its next answer was posted
pub sees_next : (names : List Oid) (answers : List Answer) (seen p : ℕ) (outcome : Outcome) → IsNextAnswer names answers seen p outcome
    → (posts : List Pair) → ArePostsInOrder names posts (take seen answers) → ArePostsInOrder names (posts ++ (p, outcome) ∷ []) (take (seen + 1) answers)
sees_next names answers seen p outcome h posts before =
    let a : Answer = answer_of p h.name outcome in
    let one : take (seen + 1) answers ≡ take seen answers ++ a ∷ [] =
    take_more answers seen a (slice_get_within answers seen a h.next)
    ∙ ap (λ (x : Answer). take seen answers ++ x ∷ []) (get_or_from_slice_get answers seen a a h.next) in
    subst (λ (l : List Answer). ArePostsInOrder names (posts ++ (p, outcome) ∷ []) l) (sym one) (record {
      named = All-push (λ (x : Answer). slice_get names x.place ≡ Some x.name) (take seen answers) a before.named h.named;
      same = ap (λ (l : List Pair). l ++ (p, outcome) ∷ []) before.same ∙ sym (map-append pair_of (take seen answers) (a ∷ []));
    })

-- an event that posts it
pub sees_own : (names : List Oid) (answers : List Answer) (number p : ℕ) (outcome : Outcome) (seen : ℕ) (P : Type 0) (now : Option ℕ)
    → SomeIff now P (seen + 1) → IsNextAnswer names answers seen p outcome
    → IfSome now (SeesEvent names answers number (events.Post number p outcome) seen)
sees_own names answers number p outcome seen P None counted h = tt
sees_own names answers number p outcome seen P (Some now) counted h = λ posts before.
    subst (λ (n : ℕ). ArePostsInOrder names (posts ++ post_by number (events.Post number p outcome)) (take n answers)) (sym counted.1)
    (subst (λ (l : List Pair). ArePostsInOrder names (posts ++ l) (take (seen + 1) answers))
    (sym (cond-true (number == number) ((p, outcome) ∷ []) [] (eq-eqb number number refl)))
    (sees_next names answers seen p outcome h posts before))

-- ---- what holds of the posts of each worker holds of all posts

posts_of_each : (n : ℕ) (P : Pair → Type 0) (es : List Event) → AreDoneBy n es → ((number : ℕ) → IsOneOf n number → All P (posts_by number es))
    → All (λ e. All P (post_in e)) es
posts_of_each n P [] done each = All-nil (λ (e : Event). All P (post_in e))
posts_of_each n P (e ∷ es) done each =
    All-cons (λ (x : Event). All P (post_in x)) e es
    (subst (λ (l : List Pair). All P l) (cond-true (worker_of e == worker_of e) (post_in e) [] (eq-eqb (worker_of e) (worker_of e) refl))
    (all_left P (post_by (worker_of e) e) (posts_by (worker_of e) es)
    (each (worker_of e) (All-head (λ (x : Event). IsOneOf n (worker_of x)) e es done))))
    (posts_of_each n P es (All-tail (λ (x : Event). IsOneOf n (worker_of x)) e es done)
    (λ number one. all_right P (post_by number e) (posts_by number es) (each number one)))

abbrev Sound : Option (List Outcome) → List Oid → List Answer → Pair → Type 0
Sound told names answers pair = IsSoundPost told names answers pair.0 pair.1

-- so events whose posts are the answers of workers tell of these alone
pub sound_posts : {T : Type 0} (by : Ghosts T) (workers : List (Worker T)) (names : List Oid) (es : List Event) (told : Option (List Outcome))
    (answers : List Answer) → AreAllPosted by workers names es → AreWorkersOf by told answers workers → All (λ e. IsSoundEvent told names answers e) es
sound_posts {T} by workers names es told answers posted parts =
    λ i d l. event (get_or es i d) (posts_of_each (length workers) (Sound told names answers) es posted.done each i d l)
  where
    event : (e : Event) → All (Sound told names answers) (post_in e) → IsSoundEvent told names answers e
    event (events.Claim worker p) h = tt
    event (events.Give worker p) h = tt
    event (events.Post worker p outcome) h = All-head (Sound told names answers) (p, outcome) [] h

    of_worker : (k : ℕ) (w : Worker T) → k < length workers → All (Sound told names answers) (posts_by (suc k) es)
    of_worker k w l =
        let own : List Answer = by.answers (get_or workers k w).tester in
        let h : ArePostsInOrder names (posts_by (suc k) es) own = posted.each k w l in
        subst (λ (ps : List Pair). All (Sound told names answers) ps) (sym h.same)
        (All-map (Sound told names answers) pair_of own
        (λ j d m. sound_part told names answers own (get_or own j d).place (get_or own j d).outcome (parts k w l)
        (record { name = (get_or own j d).name; named = h.named j d m; given = All-contains_itself own j d m })))

    each : (number : ℕ) → IsOneOf (length workers) number → All (Sound told names answers) (posts_by number es)
    each zero one = absurd (omega (arith, one.least))
    each (suc k) one = elim (slice_get_cases workers k).1 [
      | inl h ↦ of_worker k h.0 h.1
      | inr h ↦ absurd (omega (arith, one.most, h.0))
    ]

-- ---- the posts of all workers together

abbrev others : ℕ → List Event → List Event
others number es = filter (λ e. not (worker_of e == number)) es

abbrev is_of : ℕ → Event → Bool
is_of number e = worker_of e == number

part_more : (b : Bool) (e : Event) (posts mine : List Pair) (rest : List Event) → IsPermutation posts (mine ++ posts_of rest)
    → IsPermutation (post_in e ++ posts) ((cond b (post_in e) [] ++ mine) ++ posts_of (cond (not b) (e ∷ rest) rest))
part_more true e posts mine rest h =
    subst (λ (l : List Pair). IsPermutation (post_in e ++ posts) l) (sym (append_assoc (post_in e) mine (posts_of rest)))
    (IsPermutation-append_right (post_in e) posts (mine ++ posts_of rest) h)
part_more false e posts mine rest h =
    IsPermutation-trans (post_in e ++ posts) ((post_in e ++ mine) ++ posts_of rest) (mine ++ (post_in e ++ posts_of rest))
    (subst (λ (l : List Pair). IsPermutation (post_in e ++ posts) l) (sym (append_assoc (post_in e) mine (posts_of rest)))
    (IsPermutation-append_right (post_in e) posts (mine ++ posts_of rest) h))
    (subst (λ (l : List Pair). IsPermutation ((post_in e ++ mine) ++ posts_of rest) l) (append_assoc mine (post_in e) (posts_of rest))
    (IsPermutation-append_left (posts_of rest) (post_in e ++ mine) (mine ++ post_in e) (IsPermutation-append_comm (post_in e) mine)))

-- the posts of one worker, and those of the others
part_of_one : (number : ℕ) (es : List Event) → IsPermutation (posts_of es) (posts_by number es ++ posts_of (others number es))
part_of_one number [] = IsPermutation-refl []
part_of_one number (e ∷ es) = part_more (is_of number e) e (posts_of es) (posts_by number es) (others number es) (part_of_one number es)

other_more : (b : Bool) (m number : ℕ) (e : Event) (es rest : List Event) → (worker_of e == number) ≡ b → m ≢ number → posts_by m rest ≡ posts_by m es
    → posts_by m (cond (not b) (e ∷ rest) rest) ≡ post_by m e ++ posts_by m es
other_more false m number e es rest is apart h = ap (λ (l : List Pair). post_by m e ++ l) h
other_more true m number e es rest is apart h =
    h ∙ ap (λ (l : List Pair). l ++ posts_by m es) (sym (not_its e (λ same. apart (sym same ∙ eqb-true (worker_of e) number is))))
  where
    not_its : (x : Event) → worker_of x ≢ m → post_by m x ≡ []
    not_its x differ =
        ⊎_elim (λ same. absurd (differ (eqb-true (worker_of x) m same))) (λ other. cond-false (worker_of x == m) (post_in x) [] other)
        (cases_Bool (worker_of x == m))

-- the others have the posts of each other worker
others_post : (m number : ℕ) (es : List Event) → m ≢ number → posts_by m (others number es) ≡ posts_by m es
others_post m number [] apart = refl
others_post m number (e ∷ es) apart = other_more (is_of number e) m number e es (others number es) refl apart (others_post m number es apart)

-- workers that are numbered behind one, and so many
record IsAmongNext (from count number : ℕ) : Type 0 where
  least : from < number
  most : number ≤ from + count

next_more : (b : Bool) (from count : ℕ) (e : Event) (rest : List Event) → (worker_of e == suc from) ≡ b → IsAmongNext from (suc count) (worker_of e)
    → All (λ x. IsAmongNext (suc from) count (worker_of x)) rest → All (λ x. IsAmongNext (suc from) count (worker_of x)) (cond (not b) (e ∷ rest) rest)
next_more true from count e rest is at h = h
next_more false from count e rest is at h =
    All-cons (λ (x : Event). IsAmongNext (suc from) count (worker_of x)) e rest
    (let apart : worker_of e ≢ suc from = λ same. both_ways (worker_of e == suc from) is (eq-eqb (worker_of e) (suc from) same) in
    record { least = omega (arith, at.least, apart); most = omega (arith, at.most) })
    h

others_next : (from count : ℕ) (es : List Event) → All (λ e. IsAmongNext from (suc count) (worker_of e)) es
    → All (λ e. IsAmongNext (suc from) count (worker_of e)) (others (suc from) es)
others_next from count [] h = All-nil (λ (e : Event). IsAmongNext (suc from) count (worker_of e))
others_next from count (e ∷ es) h =
    next_more (is_of (suc from) e) from count e (others (suc from) es) refl (All-head (λ (x : Event). IsAmongNext from (suc count) (worker_of x)) e es h)
    (others_next from count es (All-tail (λ (x : Event). IsAmongNext from (suc count) (worker_of x)) e es h))

by_none : (from : ℕ) (es : List Event) → All (λ e. IsAmongNext from 0 (worker_of e)) es → posts_of es ≡ []
by_none from [] h = refl
by_none from (e ∷ es) h =
    let at : IsAmongNext from 0 (worker_of e) = All-head (λ (x : Event). IsAmongNext from 0 (worker_of x)) e es h in
    absurd (omega (arith, at.least, at.most))

joined : {X : Type 0} (f : X → List Pair) (xs : List X) (from : ℕ) (es : List Event) → All (λ e. IsAmongNext from (length xs) (worker_of e)) es
    → ((k number : ℕ) (d : X) → number ≡ suc (from + k) → k < length xs → posts_by number es ≡ f (get_or xs k d))
    → IsPermutation (posts_of es) (flat_map f xs)
joined f [] from es all same = subst (λ (l : List Pair). IsPermutation (posts_of es) l) (by_none from es all) (IsPermutation-refl (posts_of es))
joined f (x ∷ xs) from es all same =
    IsPermutation-trans (posts_of es) (posts_by (suc from) es ++ posts_of (others (suc from) es)) (f x ++ flat_map f xs) (part_of_one (suc from) es)
    (subst (λ (l : List Pair). IsPermutation (posts_by (suc from) es ++ posts_of (others (suc from) es)) (l ++ flat_map f xs))
    (same 0 (suc from) x (omega arith) (omega arith))
    (IsPermutation-append_right (posts_by (suc from) es) (posts_of (others (suc from) es)) (flat_map f xs)
    (joined f xs (suc from) (others (suc from) es) (others_next from (length xs) es all)
    (λ k number d is l. others_post number (suc from) es (λ e. absurd (omega (arith, e, is))) ∙ same (suc k) number d (omega (arith, is)) (omega (arith, l))))))

pairs_of_all : {X : Type 0} (f : X → List Answer) (xs : List X) → flat_map (λ x. map pair_of (f x)) xs ≡ map pair_of (flat_map f xs)
pairs_of_all f [] = refl
pairs_of_all f (x ∷ xs) = ap (λ (l : List Pair). map pair_of (f x) ++ l) (pairs_of_all f xs) ∙ sym (map-append pair_of (f x) (flat_map f xs))

all_joined : {X A : Type 0} (P : A → Type 0) (f : X → List A) (xs : List X) → All (λ x. All P (f x)) xs → All P (flat_map f xs)
all_joined P f [] h = All-nil P
all_joined P f (x ∷ xs) h = All-append P (f x) (flat_map f xs) (All-head (λ y. All P (f y)) x xs h) (all_joined P f xs (All-tail (λ y. All P (f y)) x xs h))

-- the answers of all workers are the posts of all
pub all_are_posts : {T : Type 0} (by : Ghosts T) (workers : List (Worker T)) (names : List Oid) (es : List Event) → AreAllPosted by workers names es
    → ArePosts names (posts_of es) (answers_of by workers)
all_are_posts {T} by workers names es posted = record {
  named = all_joined (λ (a : Answer). slice_get names a.place ≡ Some a.name) (λ (w : Worker T). by.answers w.tester) workers
      (λ k d l. (posted.each k d l).named);
  same = subst (λ (l : List Pair). IsPermutation (posts_of es) l) (pairs_of_all (λ (w : Worker T). by.answers w.tester) workers)
      (joined (λ (w : Worker T). map pair_of (by.answers w.tester)) workers 0 es
      (λ k d l. let at = posted.done k d l in record { least = omega (arith, at.least); most = omega (arith, at.most) })
      (λ k number d is l. subst (λ (n : ℕ). posts_by n es ≡ map pair_of (by.answers (get_or workers k d).tester)) (omega (arith, is))
      (posted.each k d l).same));
}

-- ---- then the calling thread tests

posts_of_failed : (failed : Option ℕ) → posts_of (failed_test failed) ≡ []
posts_of_failed None = refl
posts_of_failed (Some p) = refl

pub posts_of_tests : (gained : List Answer) (failed : Option ℕ) → posts_of (flat_map test_of gained ++ failed_test failed) ≡ map pair_of gained
posts_of_tests [] failed = posts_of_failed failed
posts_of_tests (a ∷ gained) failed = ap (λ (l : List Pair). pair_of a ∷ l) (posts_of_tests gained failed)

abbrev Named : List Oid → Answer → Type 0
Named names a = slice_get names a.place ≡ Some a.name

named_part : (names : List Oid) (table : List (Option Outcome)) (used : List Answer) → AreNamed names used → AreNamed names (lacking table used)
named_part names table [] h = h
named_part names table (a ∷ used) h =
    kept (is_none (outcomes_of_table table a.place)) (All-head (Named names) a used h) (named_part names table used (All-tail (Named names) a used h))
  where
    kept : (b : Bool) → Named names a → AreNamed names (lacking table used) → AreNamed names (cond b (a ∷ lacking table used) (lacking table used))
    kept true one rest = All-cons (Named names) a (lacking table used) one rest
    kept false one rest = rest

-- at first nothing was posted
pub gains_no_posts : (names : List Oid) (answers : List Answer) (es : List Event) → es ≡ [] → GainsPosts names answers answers es
gains_no_posts names answers es none = record {
  gained = [];
  added = sym (append-nil answers);
  posted = record {
    named = All-nil (λ (a : Answer). slice_get names a.place ≡ Some a.name);
    same = subst (λ (l : List Event). IsPermutation (posts_of l) []) (sym none) (IsPermutation-refl []);
  };
}

-- the tests of the answers that a run used are posts too
pub posts_then_tests : (names : List Oid) (before answers after used : List Answer) (table : List (Option Outcome)) (old new : List Event) (failed : Option ℕ)
    → GainsPosts names before answers old → TestsOn old answers new after failed → after ≡ answers ++ lacking table used → AreNamed names used
    → GainsPosts names before after new
posts_then_tests names before answers after used table old new failed h tests gains named = record {
  gained = h.gained ++ tests.gained;
  added = tests.added ∙ ap (λ (l : List Answer). l ++ tests.gained) h.added ∙ append_assoc before h.gained tests.gained;
  posted = record {
    named = All-append (λ (a : Answer). slice_get names a.place ≡ Some a.name) h.gained tests.gained h.posted.named
        (subst (λ (l : List Answer). AreNamed names l)
        (sym (append_cancel_left answers tests.gained (lacking table used) (sym tests.added ∙ gains)))
        (named_part names table used named));
    same = subst (λ (l : List Pair). IsPermutation l (map pair_of (h.gained ++ tests.gained))) (sym posts)
        (subst (λ (l : List Pair). IsPermutation (posts_of old ++ map pair_of tests.gained) l) (sym (map-append pair_of h.gained tests.gained))
        (IsPermutation-append_left (map pair_of tests.gained) (posts_of old) (map pair_of h.gained) h.posted.same));
  };
}
  where
    posts : posts_of new ≡ posts_of old ++ map pair_of tests.gained
    posts =
        ap (λ (l : List Event). posts_of l) tests.tested
        ∙ flat_map-append post_in old (flat_map test_of tests.gained ++ failed_test failed)
        ∙ ap (λ (l : List Pair). posts_of old ++ l) (posts_of_tests tests.gained failed)
