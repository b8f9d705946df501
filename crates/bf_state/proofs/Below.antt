-- Lemmas on the places of a search, and on what a mark leaves of them.
use Rattle.std.proofs.Common.{◌≡◌, ℕ, ◌<◌, Bool, true, false, ◌&&◌, List, length, [], set, Option, Some, None, Result, Ok, Err, refl, sym, subst, arith}
use Rattle.std.proofs.lemmas.List.{length-replicate}
use Rattle.std.specs.List.{All}
use Rattle.std.specs.Option.{IfSome}
use Rattle.std.specs.Result.{OnOk, OnErr}
use Rattle.bf_terms.specs.Texts.{with_good}
use Rattle.bf_search.specs.declared.outcomes.Mark.{Mark}
use Rattle.bf_search.specs.declared.outcomes.Mark.TheVariants.{Good, Bad, Skip}
use Rattle.bf_search.specs.Bases.{has_place}
use Rattle.bf_search.specs.State.{Search, IsSearchOver, mark, is_expected}
use Rattle.bf_state.specs.Session.{Session, with_search, IsSearchBelow, begun}
use Rattle.bf_state.specs.Steps.{followed, with_marked_good}
use Rattle.bf_state.proofs.Once.{has_place-with_good, All-with_good, distinct-with_good, All-with_goods, distinct-with_goods, with_good-known}

-- a search over the places of a graph
pub IsSearchOver-from_below : (graph : List (List ℕ)) (len : ℕ) (s : Search) → length graph ≡ len → IsSearchBelow len s → IsSearchOver graph s
IsSearchOver-from_below graph len s e below =
    let b : IsSearchBelow (length graph) s = subst (λ (n : ℕ). IsSearchBelow n s) (sym e) below in
    record { bad = b.bad; goods = b.goods; skips = b.skips; expected = b.expected }

pub below_with_good : (len : ℕ) (s : Search) (p : ℕ) → IsSearchBelow len s → p < len → IsSearchBelow len (record s { goods = with_good s.goods p })
below_with_good len s p b here = record {
  bad = b.bad;
  goods = All-with_good (λ good. good < len) s.goods p b.goods here;
  distinct = distinct-with_good s.goods p b.distinct;
  skips = b.skips;
  expected = b.expected;
}

pub below_added : (len : ℕ) (s : Search) (p : ℕ) (goods : List ℕ) {T E : Type 0} (r : Result T E) → IsSearchBelow len s → p < len
    → OnOk r (goods ≡ with_good s.goods p) → OnErr r (goods ≡ s.goods) → IsSearchBelow len (record s { goods = goods })
below_added len s p goods (Ok x) b here ok err = subst (λ (gs : List ℕ). IsSearchBelow len (record s { goods = gs })) (sym ok) (below_with_good len s p b here)
below_added len s p goods (Err x) b here ok err = subst (λ (gs : List ℕ). IsSearchBelow len (record s { goods = gs })) (sym err) b

pub below_begun : (len : ℕ) (first_parent : Bool) (bad : Option ℕ) (goods : List ℕ) → IfSome bad (λ p. p < len) → All (λ good. good < len) goods
    → IsSearchBelow len (begun len first_parent bad goods)
below_begun len first_parent bad goods b g = record {
  bad = b;
  goods = All-with_goods (λ good. good < len) [] goods (λ k d l. absurd (omega arith)) g;
  distinct = distinct-with_goods [] goods (λ i j d l m. absurd (omega arith));
  skips = length-replicate len false;
  expected = tt;
}

-- ---- what a mark leaves

pub settled_good : (v : Session) (p : ℕ) (asked : Bool) → has_place v.search.goods p ≡ true → asked ≡ is_expected v.search p
    → with_search v (record v.search { checked = v.search.checked && asked; expected = None; bad_asked = false }) ≡ with_search v (mark v.search Good p)
unfolding mark
settled_good v p asked known a = λ i. with_search v (record v.search { goods = kept i; checked = v.search.checked && a i; expected = None; bad_asked = false })
  where
    kept : v.search.goods ≡ with_good v.search.goods p
    kept = sym (with_good-known v.search.goods p known)

pub settled_bad : (v : Session) (p : ℕ) (asked : Bool) → asked ≡ is_expected v.search p
    → with_search v (record v.search { bad = Some p; checked = v.search.checked && asked; expected = None; bad_asked = asked }) ≡ with_search v
    (mark v.search Bad p)
unfolding mark
settled_bad v p asked a = λ i. with_search v (record v.search { bad = Some p; checked = v.search.checked && a i; expected = None; bad_asked = a i })

pub settled_skip : (v : Session) (p : ℕ) → with_search v (record v.search { skips = set v.search.skips p true; expected = None }) ≡ with_search v
    (mark v.search Skip p)
unfolding mark
settled_skip v p = refl

-- a place that is marked good and stands among the good ones is marked in the same way
pub mark_added : (s : Search) (m : Mark) (p : ℕ) → mark (with_marked_good s m p) m p ≡ mark s m p
unfolding mark
mark_added s Good p = λ i. record s {
  goods = with_good-known (with_good s.goods p) p (has_place-with_good s.goods p) i;
  checked = s.checked && is_expected s p;
  expected = None;
  bad_asked = false;
}
mark_added s Bad p = refl
mark_added s Skip p = refl

-- what an ask leaves is left in the same way beside one more good place
pub follow_added : (s : Search) (m : Mark) (p : ℕ) (checked : Bool) (expected : Option ℕ)
    → followed (with_marked_good s m p) checked expected ≡ with_marked_good (followed s checked expected) m p
follow_added s Good p checked expected = refl
follow_added s Bad p checked expected = refl
follow_added s Skip p checked expected = refl
