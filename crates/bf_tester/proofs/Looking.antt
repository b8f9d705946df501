-- What looks at a flag say together.
use Rattle.std.proofs.Common.{◌≡◌, ◌≤◌, Bool, true, false, ◌||◌, refl, sym, ap, ◌∙◌, arith}
use Rattle.bf_io.specs.Causes.{raised}
use Rattle.bf_tester.specs.Looks.{Look, SawRaised}
use Rattle.bf_tester.specs.Replies.{is_dropped}
use Rattle.bf_tester.specs.Waits.{LooksOn, DropsByLooks}
use Rattle.bf_tester.specs.declared.answer.TestReply.{TestReply}
use Rattle.bf_tester.specs.declared.answer.TestReply.TheVariants.{Dropped}

nothing_more : (a b : Bool) → ((a || false) || b) ≡ (a || b)
nothing_more true b = refl
nothing_more false b = refl

as_before : (a : Bool) → a ≡ (a || false)
as_before true = refl
as_before false = refl

-- no look
pub looks_at_none : (a : Look) → LooksOn a a false
looks_at_none a = record { looked = omega arith; seen = as_before a.seen; bare = refl; quiet = λ e. refl }

-- one look
pub looks_once : (a b : Look) (found : Bool) → a.looks ≤ b.looks → b.seen ≡ (a.seen || found) → b.bare ≡ a.bare
    → (b.bare ≡ true → (found ≡ false) × (b.seen ≡ false)) → LooksOn a b found
looks_once a b found later seen bare quiet = record { looked = later; seen = seen; bare = bare; quiet = λ e. (quiet (bare ∙ e)).0 }

-- looks that found nothing, and more of them
pub looks_further : (a b c : Look) (found : Bool) → LooksOn a b false → LooksOn b c found → LooksOn a c found
looks_further a b c found h more = record {
  looked = omega (arith, h.looked, more.looked);
  seen = more.seen ∙ ap (λ (x : Bool). x || found) h.seen ∙ nothing_more a.seen found;
  bare = more.bare ∙ h.bare;
  quiet = λ e. more.quiet (h.bare ∙ e);
}

-- a first look that found nothing, and more of them
pub looks_and_more : (a b c : Look) (reply : TestReply) → b.looks ≡ raised a.looks → b.seen ≡ (a.seen || false) → b.bare ≡ a.bare
    → LooksOn b c (is_dropped reply) → DropsByLooks a c reply
looks_and_more a b c reply looks seen bare h = record {
  looked = omega (arith, looks, h.looked);
  seen = h.seen ∙ ap (λ (x : Bool). x || is_dropped reply) seen ∙ nothing_more a.seen (is_dropped reply);
  bare = h.bare ∙ bare;
  quiet = λ e. h.quiet (bare ∙ e);
}

raised_then : (a : Bool) → (a || true) ≡ true
raised_then true = refl
raised_then false = refl

not_bare : (bare : Bool) → (bare ≡ true → true ≡ false) → bare ≡ false
not_bare true clash = clash refl
not_bare false clash = refl

-- looks by which a request was dropped
pub looks_saw : (a b : Look) (reply : TestReply) → LooksOn a b (is_dropped reply) → reply ≡ Dropped → SawRaised b
looks_saw a b reply h e = (
  h.seen ∙ ap (λ (r : TestReply). a.seen || is_dropped r) e ∙ raised_then a.seen,
  not_bare b.bare (λ bare. sym (ap (λ (r : TestReply). is_dropped r) e) ∙ h.quiet (sym h.bare ∙ bare)),
)
