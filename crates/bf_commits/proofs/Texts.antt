-- Whether bytes are UTF-8, from what a reading of them as text answers.
use Rattle.std.proofs.Common.{◌≡◌, ℕ, Bool, true, false, List, Result, Ok, Err, refl, sym, ◌∙◌}
use Rattle.std.specs.Result.{MatchResult, is_ok}
use Rattle.std.specs.Str.{IsUtf8, is_utf8}
use Rattle.std.proofs.lemmas.Str.{IsUtf8-from_is_utf8, is_utf8-from_IsUtf8}

no_text : (bytes : List ℕ) → ¬ (IsUtf8 bytes) → (b : Bool) → is_utf8 bytes ≡ b → false ≡ is_utf8 bytes
no_text bytes none true is = absurd (none (IsUtf8-from_is_utf8 bytes is))
no_text bytes none false is = sym is

pub is_text_told : {S E : Type 0} (A : S → Type 0) (B : E → Type 0) (bytes : List ℕ) (read : Result S E) (told : Bool) → told ≡ is_ok read
    → MatchResult read (λ s. A s × IsUtf8 bytes) (λ e. ¬ (IsUtf8 bytes) × B e) → told ≡ is_utf8 bytes
is_text_told A B bytes (Ok s) told is (same, text) = is ∙ sym (is_utf8-from_IsUtf8 bytes text)
is_text_told A B bytes (Err e) told is (none, rest) = is ∙ no_text bytes none (is_utf8 bytes) refl
