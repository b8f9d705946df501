-- A search that is kept as that of a state with some marks more.
use Rattle.std.proofs.Common.{◌≡◌, ℕ, ◌+◌, ◌<◌, ◌≤◌, Bool, true, false, ◌&&◌, not, arith, List, [], ◌∷◌, ◌++◌, length, drop, get_or, Option, refl, sym, ap, ◌∙◌, subst, add-one}
use Rattle.std.proofs.Math.Seq.{drop-cons}
use Rattle.std.proofs.lemmas.List.{drop_all}
use Rattle.std.proofs.lemmas.List.Elements.{All-push}
use Rattle.std.proofs.lemmas.List.Sums.{length-filter}
use Rattle.std.specs.List.{All, count_by, filter}
use Rattle.std.specs.Simd.Lanes.{zip2}
use Rattle.bf_search.specs.declared.outcomes.Mark.{Mark}
use Rattle.bf_search.specs.declared.outcomes.Mark.TheVariants.{Good, Bad, Skip}
use Rattle.bf_search.specs.State.{Search, ask, mark}
use Rattle.bf_state.specs.Session.{Session, with_search, after_ask, after_mark, IsSearchBelow}
use Rattle.bf_state.specs.Steps.{tested, followed}
use Rattle.bf_state.proofs.Asks.{ask_leaves}
use Rattle.bf_spec.specs.declared.kept.Marking.{Marking}
use Rattle.bf_spec.specs.Kept.{marked_all, search_of, session_of, IsKept}

marked_push : (s : Search) (ms : List Marking) (m : Marking) → marked_all s (ms ++ m ∷ []) ≡ mark (marked_all s ms) m.mark m.place
unfolding marked_all
marked_push s [] m = refl
marked_push s (n ∷ ms) m = marked_push (mark s n.mark n.place) ms m

-- a search with what asks left in another one
abbrev rest_of : Search → Search → Search
rest_of s u = record s { bad = u.bad; checked = u.checked; expected = u.expected; bad_asked = u.bad_asked }

-- what a mark leaves else does not depend on it
by_mark : (s k : Search) (m : Mark) (p : ℕ) (passed : Bool) (asked : Option ℕ)
    → rest_of (mark s m p) (followed (mark (rest_of s k) m p) passed asked) ≡ followed (mark (rest_of s k) m p) passed asked
unfolding mark
by_mark s k Good p passed asked = refl
by_mark s k Bad p passed asked = refl
by_mark s k Skip p passed asked = refl

mark_alike : (s k : Search) (m : Mark) (p : ℕ) (passed : Bool) (asked : Option ℕ) → k ≡ rest_of s k
    → rest_of (mark s m p) (followed (mark k m p) passed asked) ≡ followed (mark k m p) passed asked
mark_alike s k m p passed asked same =
    subst (λ (t : Search). rest_of (mark s m p) (followed (mark t m p) passed asked) ≡ followed (mark t m p) passed asked) (sym same)
    (by_mark s k m p passed asked)

next_search : (graph : List (List ℕ)) (s : Search) (ms : List Marking) (k : Search) (m : Mark) (p : ℕ) (u : Search) → k ≡ rest_of (marked_all s ms) k
    → u ≡ (ask graph (mark k m p)).search → rest_of (marked_all s (ms ++ record { mark = m; place = p } ∷ [])) u ≡ u
next_search graph s ms k m p u kept is =
    let left : u ≡ followed (mark k m p) (ask graph (mark k m p)).search.checked (tested (ask graph (mark k m p)).step.ask) = is ∙ ask_leaves graph (mark k m p) in
    ap (λ (t : Search). rest_of t u) (marked_push s ms (record { mark = m; place = p }))
    ∙ subst (λ (v : Search). rest_of (mark (marked_all s ms) m p) v ≡ v) (sym left)
    (mark_alike (marked_all s ms) k m p (ask graph (mark k m p)).search.checked (tested (ask graph (mark k m p)).step.ask) kept)

-- a state that has asked after one more mark of a kept search
next_session : (graph : List (List ℕ)) (base : Session) (ms : List Marking) (bad : Option ℕ) (checked : Bool) (expected : Option ℕ) (bad_asked : Bool)
    (m : Mark) (p : ℕ) (state : Session) → state ≡ after_ask graph (after_mark (session_of base ms bad checked expected bad_asked) m p)
    → session_of base (ms ++ record { mark = m; place = p } ∷ []) state.search.bad state.search.checked state.search.expected state.search.bad_asked ≡ state
next_session graph base ms bad checked expected bad_asked m p state is =
    let k : Search = search_of base.search ms bad checked expected bad_asked in
    ap (λ (s : Search). with_search base s) (next_search graph base.search ms k m p state.search refl (ap (λ (v : Session). v.search) is))
    ∙ ap (λ (s : Search). with_search base s) (ap (λ (v : Session). v.search) is) ∙ sym is

-- a state that is kept alone
pub alone_kept : (base state : Session) (ms : List Marking) → base ≡ state → ms ≡ [] → IsSearchBelow state.len state.search
    → IsKept base ms state.search.bad state.search.checked state.search.expected state.search.bad_asked
unfolding marked_all
alone_kept base state ms b m below =
    subst (λ (v : Session). IsKept v ms state.search.bad state.search.checked state.search.expected state.search.bad_asked) (sym b)
    (subst (λ (xs : List Marking). IsKept state xs state.search.bad state.search.checked state.search.expected state.search.bad_asked) (sym m)
    (record { below = below; marks = λ i d l. absurd (omega (arith, l)) }))

pub alone_is : (base state : Session) (ms : List Marking) → base ≡ state → ms ≡ []
    → session_of base ms state.search.bad state.search.checked state.search.expected state.search.bad_asked ≡ state
unfolding marked_all
alone_is base state ms b m =
    ap (λ (v : Session). session_of v ms state.search.bad state.search.checked state.search.expected state.search.bad_asked) b
    ∙ ap (λ (xs : List Marking). session_of state xs state.search.bad state.search.checked state.search.expected state.search.bad_asked) m

-- one that is kept with one mark more
pub longer_is : (graph : List (List ℕ)) (base copy : Session) (ms all : List Marking) (bad : Option ℕ) (checked : Bool) (expected : Option ℕ)
    (bad_asked : Bool) (m : Mark) (p : ℕ) (self state : Session) → copy ≡ base → all ≡ ms ++ record { mark = m; place = p } ∷ []
    → session_of base ms bad checked expected bad_asked ≡ self → state ≡ after_ask graph (after_mark self m p)
    → session_of copy all state.search.bad state.search.checked state.search.expected state.search.bad_asked ≡ state
longer_is graph base copy ms all bad checked expected bad_asked m p self state b a v is =
    ap (λ (w : Session). session_of w all state.search.bad state.search.checked state.search.expected state.search.bad_asked) b
    ∙ ap (λ (xs : List Marking). session_of base xs state.search.bad state.search.checked state.search.expected state.search.bad_asked) a
    ∙ next_session graph base ms bad checked expected bad_asked m p state (is ∙ ap (λ (w : Session). after_ask graph (after_mark w m p)) (sym v))

pub longer_kept : (copy : Session) (all : List Marking) (state : Session)
    → session_of copy all state.search.bad state.search.checked state.search.expected state.search.bad_asked ≡ state
    → IsSearchBelow state.len state.search → All (λ m. m.place < copy.len) all
    → IsKept copy all state.search.bad state.search.checked state.search.expected state.search.bad_asked
longer_kept copy all state is below marks = record { below = subst (λ (v : Session). IsSearchBelow v.len v.search) (sym is) below; marks = marks }

pub longer_marks : (base copy self : Session) (ms all : List Marking) (m : Mark) (p : ℕ) → copy ≡ base → base.len ≡ self.len
    → all ≡ ms ++ record { mark = m; place = p } ∷ [] → All (λ m. m.place < base.len) ms → p < self.len → All (λ m. m.place < copy.len) all
longer_marks base copy self ms all m p b l a old within =
    subst (λ (v : Session). All (λ m. m.place < v.len) all) (sym b)
    (subst (λ (xs : List Marking). All (λ m. m.place < base.len) xs) (sym a)
    (All-push (λ m. m.place < base.len) ms (record { mark = m; place = p }) old (omega (arith, within, l))))

-- ---- marks one after the other

here_and_rest : (ms : List Marking) (i : ℕ) (d : Marking) → i < length ms → drop i ms ≡ get_or ms i d ∷ drop (i + 1) ms
here_and_rest ms i d h = rw add-one (drop-cons ms i d h)

pub one_mark : (s : Search) (ms : List Marking) (i : ℕ) (d : Marking) → i < length ms
    → marked_all s (drop i ms) ≡ marked_all (mark s (get_or ms i d).mark (get_or ms i d).place) (drop (i + 1) ms)
unfolding marked_all
one_mark s ms i d h = ap (marked_all s) (here_and_rest ms i d h)

pub no_mark : (s : Search) (ms : List Marking) (i : ℕ) → length ms ≤ i → marked_all s (drop i ms) ≡ s
unfolding marked_all
no_mark s ms i h = ap (marked_all s) (drop_all i ms h)

-- ---- rows

-- two rows are the same where each has no place that the other one lacks
same_rows : (a b : List Bool) → length a ≡ length b → length (filter (λ v. v) (zip2 (λ mine theirs. mine && not theirs) a b)) ≡ 0
    → length (filter (λ v. v) (zip2 (λ mine theirs. mine && not theirs) b a)) ≡ 0 → a ≡ b
same_rows [] [] l c d = refl
same_rows [] (y ∷ ys) l c d = absurd (omega (arith, l))
same_rows (x ∷ xs) [] l c d = absurd (omega (arith, l))
same_rows (true ∷ xs) (true ∷ ys) l c d = ap (λ (r : List Bool). true ∷ r) (same_rows xs ys (omega (arith, l)) c d)
same_rows (true ∷ xs) (false ∷ ys) l c d = absurd (omega (arith, c))
same_rows (false ∷ xs) (true ∷ ys) l c d = absurd (omega (arith, d))
same_rows (false ∷ xs) (false ∷ ys) l c d = ap (λ (r : List Bool). false ∷ r) (same_rows xs ys (omega (arith, l)) c d)

pub are_same : (row other rest back : List Bool) (n k : ℕ) → length row ≡ length other → rest ≡ row → back ≡ other
    → n ≡ count_by (λ v. v) (zip2 (λ mine theirs. mine && not theirs) rest other) → n ≡ 0 → k ≡ count_by (λ v. v) (zip2 (λ mine theirs. mine && not theirs) back row) → k ≡ 0
    → row ≡ other
are_same row other rest back n k l r b c z d y =
    same_rows row other l
    (length-filter (λ v. v) (zip2 (λ mine theirs. mine && not theirs) row other)
    ∙ ap (λ (xs : List Bool). count_by (λ v. v) (zip2 (λ mine theirs. mine && not theirs) xs other)) (sym r) ∙ sym c ∙ z)
    (length-filter (λ v. v) (zip2 (λ mine theirs. mine && not theirs) other row)
    ∙ ap (λ (xs : List Bool). count_by (λ v. v) (zip2 (λ mine theirs. mine && not theirs) xs row)) (sym b) ∙ sym d ∙ y)
