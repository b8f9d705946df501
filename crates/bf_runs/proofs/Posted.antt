-- The posts of one leg more.
use Rattle.std.proofs.Common.{◌≡◌, ℕ, List, [], ◌∷◌, ◌++◌, map, Some, sym, ap, subst, ◌∙◌}
use Rattle.std.proofs.lemmas.Grind.{flat_map-append}
use Rattle.std.proofs.lemmas.List.{flat_map_more, map-append}
use Rattle.std.proofs.lemmas.List.Elements.{All-nil, All-append}
use Rattle.std.proofs.lemmas.List.Sorted.{IsPermutation-append, IsPermutation-refl}
use Rattle.std.specs.List.{flat_map, slice_get}
use Rattle.std.specs.List.Sorted.{IsPermutation}
use Rattle.bf_farm.specs.Answering.{pair_of}
use Rattle.bf_farm.specs.Posts.{post_in, posts_of, ArePosts, GainsPosts}
use Rattle.bf_oid.specs.declared.object.Oid.{Oid}
use Rattle.bf_search.specs.declared.farm.Event.{Event}
use Rattle.bf_search.specs.declared.outcomes.Outcome.{Outcome}
use Rattle.bf_tester.specs.declared.answer.Answer.{Answer}
use Rattle.bf_runs.specs.Legs.{IsTestedBy}

-- nothing was answered, and nothing posted
pub nothing_posted : (names : List Oid) (answers : List Answer) → answers ≡ [] → ArePosts names [] answers
nothing_posted names answers none = subst (λ (l : List Answer). ArePosts names [] l) (sym none) (record {
  named = All-nil (λ (a : Answer). slice_get names a.place ≡ Some a.name);
  same = IsPermutation-refl [];
})

posts_more : (names : List Oid) (before after : List Answer) (old new : List Event) → ArePosts names (posts_of old) before → GainsPosts names before after new
    → ArePosts names (posts_of (old ++ new)) after
posts_more names before after old new h more = subst (λ (l : List Answer). ArePosts names (posts_of (old ++ new)) l) (sym more.added) (record {
  named = All-append (λ (a : Answer). slice_get names a.place ≡ Some a.name) before more.gained h.named more.posted.named;
  same = subst (λ (l : List (ℕ × Outcome)). IsPermutation l (map pair_of (before ++ more.gained))) (sym (flat_map-append post_in old new))
      (subst (λ (l : List (ℕ × Outcome)). IsPermutation (posts_of old ++ posts_of new) l) (sym (map-append pair_of before more.gained))
      (IsPermutation-append (posts_of old) (map pair_of before) (posts_of new) (map pair_of more.gained) h.same more.posted.same));
})

pub tested_more : (names : List Oid) (before after : List Answer) (whole : List (List Event)) (leg : List Event) → IsTestedBy names before whole
    → GainsPosts names before after leg → IsTestedBy names after (whole ++ leg ∷ [])
tested_more names before after whole leg h more =
    subst (λ (es : List Event). ArePosts names (posts_of es) after) (flat_map_more (λ (es : List Event). es) [] whole leg)
    (posts_more names before after (flat_map (λ (es : List Event). es) whole) leg h more)
