-- Lemmas on the layout of a graph: the list at a place, and what a push adds.
use Rattle.std.proofs.Common.{◌≡◌, ℕ, zero, suc, ◌+◌, ◌-◌, ◌<◌, ◌≤◌, List, [], ◌∷◌, ◌++◌, length, get_or, take, drop, refl, ap, sym, ◌∙◌, ⊎_elim, arith}
use Rattle.std.proofs.Common.{length-append}
use Rattle.std.proofs.lemmas.Bool.{cases_order}
use Rattle.std.proofs.lemmas.List.{drop_at, take-append-le, drop-append-le, take_all, length-drop, get_or_append_left, get_or_push, get_or_past, length_push}
use Rattle.std.proofs.lemmas.List.Elements.{All-nil}
use Rattle.std.specs.List.{All}
use Rattle.bf_graph.specs.Graph.{parents_of, IsGraph}
use Rattle.bf_graph.specs.Layout.{lists_from, EndsRise, IsLaidOut}

pub length-lists_from : (start : ℕ) (ends all : List ℕ) → length (lists_from start ends all) ≡ length ends
length-lists_from start [] all = refl
length-lists_from start (e ∷ es) all = grind (arith, length-lists_from e es all)

-- the list at a place lies between the end before it and its own
pub lists_from-at : (start : ℕ) (ends all : List ℕ) (p : ℕ) → p < length ends
    → get_or (lists_from start ends all) p [] ≡ take (get_or ends p 0 - get_or (start ∷ ends) p 0) (drop (get_or (start ∷ ends) p 0) all)
lists_from-at start [] all p h = absurd (omega arith)
lists_from-at start (e ∷ es) all zero h = refl
lists_from-at start (e ∷ es) all (suc p) h = lists_from-at e es all p (omega arith)

pub EndsRise-le : (start : ℕ) (ends : List ℕ) (last : ℕ) → EndsRise start ends last → start ≤ last
EndsRise-le start [] last h = omega arith
EndsRise-le start (e ∷ es) last h = omega (arith, EndsRise-le e es last h.1)

pub EndsRise-at : (start : ℕ) (ends : List ℕ) (last p : ℕ) → EndsRise start ends last → p < length ends
    → (get_or (start ∷ ends) p 0 ≤ get_or ends p 0) × (get_or ends p 0 ≤ last)
EndsRise-at start [] last p h k = absurd (omega arith)
EndsRise-at start (e ∷ es) last zero h k = (h.0, EndsRise-le e es last h.1)
EndsRise-at start (e ∷ es) last (suc p) h k = EndsRise-at e es last p h.1 (omega arith)

pub EndsRise-push : (start : ℕ) (ends : List ℕ) (last n : ℕ) → EndsRise start ends last → EndsRise start (ends ++ (last + n) ∷ []) (last + n)
EndsRise-push start [] last n h = (omega arith, refl)
EndsRise-push start (e ∷ es) last n h = (h.0, EndsRise-push e es last n h.1)

-- what lies before the end of a list stays when more is added
between-append : (start end : ℕ) (all more : List ℕ) → start ≤ end → end ≤ length all
    → take (end - start) (drop start (all ++ more)) ≡ take (end - start) (drop start all)
between-append start end all more h k =
    rw (drop-append-le start all more (omega arith)) (take-append-le (end - start) (drop start all) more (omega (arith, length-drop start all)))

pub lists_from-push : (start : ℕ) (ends all more : List ℕ) → EndsRise start ends (length all)
    → lists_from start (ends ++ (length all + length more) ∷ []) (all ++ more) ≡ lists_from start ends all ++ more ∷ []
lists_from-push start [] all more h =
    let there : drop start (all ++ more) ≡ more = drop_at all more start (sym h) in
    let whole : take (length all + length more - start) more ≡ more = take_all _ more (omega arith) in
    rw there (ap (λ (x : List ℕ). x ∷ []) whole)
lists_from-push start (e ∷ es) all more h =
    rw (between-append start e all more h.0 (EndsRise-le e es (length all) h.1))
    (ap (λ (x : List (List ℕ)). take (e - start) (drop start all) ∷ x) (lists_from-push e es all more h.1))

pub IsGraph-nil : IsGraph []
IsGraph-nil = record { earlier = λ p. All-nil _ }

pub IsGraph-push : (graph : List (List ℕ)) (parents : List ℕ) → IsGraph graph → All (λ p. p < length graph) parents → IsGraph (graph ++ parents ∷ [])
IsGraph-push graph parents g h = record { earlier = at }
  where
    at : (p : ℕ) → All (λ q. q < p) (parents_of (graph ++ parents ∷ []) p)
    at p =
        ⊎_elim
        (λ e. rw (get_or_push graph parents [] p (sym e)) (rw e h))
        (λ c.
        ⊎_elim
        (λ l. rw (get_or_append_left graph (parents ∷ []) [] p l) (g.earlier p))
        (λ l. rw (get_or_past (graph ++ parents ∷ []) p [] (omega (arith, length_push graph parents))) (All-nil _))
        c)
        (cases_order p (length graph))

-- what a push leaves, from what it did to the two lists
pub record Pushed (ends all parents new_ends new_all : List ℕ) : Type 0 where
  pub lists : lists_from 0 new_ends new_all ≡ lists_from 0 ends all ++ parents ∷ []
  pub layout : IsLaidOut new_ends new_all

pub pushed : (ends all parents new_ends new_all : List ℕ) (end : ℕ) → IsLaidOut ends all → All (λ p. p < length ends) parents → length ends < 4294967295
    → new_all ≡ all ++ parents → end ≡ length new_all → new_ends ≡ ends ++ end ∷ [] → Pushed ends all parents new_ends new_all
pushed ends all parents new_ends new_all end laid earlier room grown at put =
    let e : end ≡ length all + length parents = at ∙ ap length grown ∙ length-append all parents in
    let ends_are : new_ends ≡ ends ++ (length all + length parents) ∷ [] = put ∙ ap (λ (n : ℕ). ends ++ n ∷ []) e in
    let lists_are : lists_from 0 new_ends new_all ≡ lists_from 0 ends all ++ parents ∷ [] =
    ap (λ (es : List ℕ). lists_from 0 es new_all) ends_are ∙ ap (λ (xs : List ℕ). lists_from 0 (ends ++ (length all + length parents) ∷ []) xs) grown ∙
    lists_from-push 0 ends all parents laid.rise in
    record {
      lists = lists_are;
      layout = record {
        rise = rw (grown, ends_are, length-append all parents) (EndsRise-push 0 ends (length all) (length parents) laid.rise);
        few = rw (ends_are, length_push ends (length all + length parents)) (omega arith);
        graph = rw lists_are (IsGraph-push (lists_from 0 ends all) parents laid.graph (rw (length-lists_from 0 ends all) earlier));
      };
    }
