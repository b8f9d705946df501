-- The conditions of the laws can be met: a history of three commits, and a start on it.
use Rattle.std.proofs.Common.{◌≡◌, ℕ, zero, suc, ◌<◌, true, false, [], ◌∷◌, Ok, refl, arith}
use Rattle.std.proofs.lemmas.List.Elements.{All-cons, All-nil}
use Rattle.std.specs.List.{slice_index_or}
use Rattle.hex.specs.Hex.{encode_with}
use Rattle.bf_terms.specs.Texts.{hex_of, standard_sides, nothing_known}
use Rattle.bf_log.specs.Written.{has_no_end, known_after_all}
use Rattle.bf_log.specs.Back.{Begin, start_of, IsReplayable}
use Rattle.bf_log.specs.Cut.{AreKnown}
use Rattle.bf_log.proofs.Terms.{Accepted, accepted_from}
use Rattle.bf_log.proofs.WorkedReplays.{three, fork}

begin : Begin
begin = record { first_parent = false; terms_given = false; bad = 1; goods = 2 ∷ [] }

terms : Accepted standard_sides
terms = accepted_from standard_sides refl

subject : (p : ℕ) → has_no_end (slice_index_or three.subjects p []) ≡ true
subject zero = refl
subject (suc zero) = refl
subject (suc (suc zero)) = refl
subject (suc (suc (suc p))) = refl

name : (p : ℕ) → p < 3 → slice_index_or three.names p [] ≡ [] → ⊥
name zero l e = cc
name (suc zero) l e = cc
name (suc (suc zero)) l e = cc
name (suc (suc (suc p))) l e = absurd (omega arith)

place : (p : ℕ) → p < 3 → fork.place_of (hex_of three p) ≡ Ok p
unfolding encode_with
place zero l = refl
place (suc zero) l = refl
place (suc (suc zero)) l = refl
place (suc (suc (suc p))) l = absurd (omega arith)

replayable : IsReplayable fork three standard_sides begin
unfolding begin
replayable = record {
  readable = record { subjects = subject; accepted = refl };
  fits = refl;
  named = name;
  placed = place;
  bad = omega arith;
  goods = All-cons (λ p. p < 3) 2 [] (omega arith) (All-nil (λ p. p < 3));
}

both_known : AreKnown (known_after_all nothing_known (start_of begin ∷ []))
unfolding begin
both_known = record { bad = refl; goods = refl }
