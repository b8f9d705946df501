-- The places that entries mark, one entry after another, and their answers.
use Rattle.std.proofs.Common.{◌≡◌, ℕ, zero, suc, ◌<◌, ◌+◌, List, [], ◌∷◌, ◌++◌, length, take, get_or, Option, Some, All, sym, ap, ◌∙◌, subst, arith}
use Rattle.std.proofs.lemmas.List.{append-nil, map-append}
use Rattle.std.proofs.lemmas.List.Elements.{All-nil, All-cons, All-push}
use Rattle.std.specs.List.{slice_get}
use Rattle.bf_oid.specs.declared.object.Oid.{Oid}
use Rattle.bf_search.specs.declared.entries.Entry.{Entry}
use Rattle.bf_search.specs.declared.entries.Entry.TheVariants.{Start, Marked, SkippedBase, FirstBadFound, OnlySkippedLeft}
use Rattle.bf_search.specs.declared.outcomes.Outcome.{Outcome}
use Rattle.bf_search.specs.Outcomes.{outcomes_of_table}
use Rattle.bf_tester.specs.declared.answer.Answer.{Answer}
use Rattle.bf_farm.specs.Used.{marked_places, IsAnswerAt, AreAnswersAt}

behind : (x : Entry) (a b : List Entry) (c : List ℕ) → marked_places a ≡ marked_places b ++ c → marked_places (x ∷ a) ≡ marked_places (x ∷ b) ++ c
behind (Start first_parent given bad goods) a b c h = h
behind (Marked m p) a b c h = ap (λ (l : List ℕ). p ∷ l) h
behind (SkippedBase p) a b c h = h
behind (FirstBadFound p) a b c h = h
behind (OnlySkippedLeft ps) a b c h = h

marks_step : (es : List Entry) (i : ℕ) (e : Entry) → i < length es → e ≡ get_or es i e
    → marked_places (take (suc i) es) ≡ marked_places (take i es) ++ marked_places (e ∷ [])
marks_step [] i e l is = absurd (omega arith)
marks_step (x ∷ es) zero e l is = ap (λ (y : Entry). marked_places (y ∷ [])) (sym is)
marks_step (x ∷ es) (suc i) e l is = behind x (take (suc i) es) (take i es) (marked_places (e ∷ [])) (marks_step es i e (omega arith) is)

pub marks_next : (es : List Entry) (i : ℕ) (e : Entry) → i < length es → e ≡ get_or es i e
    → marked_places (take (i + 1) es) ≡ marked_places (take i es) ++ marked_places (e ∷ [])
marks_next es i e l is =
    let one : suc i ≡ i + 1 = omega arith in
    subst (λ (n : ℕ). marked_places (take n es) ≡ marked_places (take i es) ++ marked_places (e ∷ [])) one (marks_step es i e l is)

-- the marks of the first entry, and of the rest
first_marks : (P : ℕ → Type 0) (x : Entry) (es : List Entry) → All P (marked_places (x ∷ es)) → All P (marked_places (x ∷ []))
first_marks P (Start first_parent given bad goods) es h = All-nil P
first_marks P (Marked m p) es h = All-cons P p [] (h 0 p (omega arith)) (All-nil P)
first_marks P (SkippedBase p) es h = All-nil P
first_marks P (FirstBadFound p) es h = All-nil P
first_marks P (OnlySkippedLeft ps) es h = All-nil P

other_marks : (P : ℕ → Type 0) (x : Entry) (es : List Entry) → All P (marked_places (x ∷ es)) → All P (marked_places es)
other_marks P (Start first_parent given bad goods) es h = h
other_marks P (Marked m p) es h = λ k d l. h (suc k) d (omega arith)
other_marks P (SkippedBase p) es h = h
other_marks P (FirstBadFound p) es h = h
other_marks P (OnlySkippedLeft ps) es h = h

pub known_at : (P : ℕ → Type 0) (es : List Entry) (i : ℕ) (e : Entry) → i < length es → e ≡ get_or es i e → All P (marked_places es)
    → All P (marked_places (e ∷ []))
known_at P [] i e l is h = absurd (omega arith)
known_at P (x ∷ es) zero e l is h = subst (λ (y : Entry). All P (marked_places (y ∷ []))) (sym is) (first_marks P x es h)
known_at P (x ∷ es) (suc i) e l is h = known_at P es i e (omega arith) is (other_marks P x es h)

-- one answer more
pub answer_more : (names : List Oid) (table : List (Option Outcome)) (ps : List ℕ) (answers : List Answer) (p : ℕ) (a : Answer)
    → AreAnswersAt names table ps answers → IsAnswerAt names table p a → AreAnswersAt names table (ps ++ p ∷ []) (answers ++ a ∷ [])
answer_more names table ps answers p a h is = record {
  places = map-append (λ (x : Answer). x.place) answers (a ∷ []) ∙ ap (λ (l : List ℕ). l ++ a.place ∷ []) h.places ∙ ap (λ (q : ℕ). ps ++ q ∷ []) is.place;
  outcomes = All-push (λ (x : Answer). outcomes_of_table table x.place ≡ Some x.outcome) answers a h.outcomes is.outcome;
  named = All-push (λ (x : Answer). slice_get names x.place ≡ Some x.name) answers a h.named is.name;
}

pub no_answer_more : (names : List Oid) (table : List (Option Outcome)) (ps : List ℕ) (answers : List Answer) → AreAnswersAt names table ps answers
    → AreAnswersAt names table (ps ++ []) answers
no_answer_more names table ps answers h = subst (λ (l : List ℕ). AreAnswersAt names table l answers) (sym (append-nil ps)) h
