use Rattle.std.proofs.Common.{◌≡◌, ℕ, List, [], ◌∷◌, ◌++◌, refl, sym, subst}
use Rattle.std.proofs.lemmas.List.Elements.{All-nil, All-cons}
use Rattle.bf_many.specs.declared.search.ReadySearch.{ReadySearch}
use Rattle.bf_examples.specs.Searches.{AreFresh, IsFresh}
use Rattle.bf_examples.proofs.sharing.two.Goals as goal

pushed : (a b : ReadySearch) (none one two : List ReadySearch) → none ≡ [] → one ≡ none ++ a ∷ [] → two ≡ one ++ b ∷ [] → two ≡ a ∷ b ∷ []
pushed a b none one two e f g = cc

pair : (n : ℕ) (a b : ReadySearch) (searches : List ReadySearch) → IsFresh n a → IsFresh n b → searches ≡ a ∷ b ∷ [] → AreFresh n searches
pair n a b searches first second is =
    let each = All-cons (IsFresh n) a (b ∷ []) first (All-cons (IsFresh n) b [] second (All-nil (IsFresh n))) in
    subst (λ (l : List ReadySearch). AreFresh n l) (sym is) (record { two = refl; each = each })

pub returns : goal.returns
returns c = pair _ c.in_ok-first.first c.in_ok-second.second _ c.in_ok-first.ensures c.in_ok-second.ensures
    (pushed _ _ _ _ _ c.new-searches.ensures.items c.in_ok-push.ensures.items c.in_ok-push-2.ensures.items)
