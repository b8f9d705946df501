-- Dots in a text that is looked at byte by byte.
use Rattle.std.proofs.Common.{◌≡◌, Bool, true, false, ◌&&◌, refl}

-- a text with two dots is no ref, whatever its bytes are
pub never_with_dots : (bytes : Bool) → bytes && false ≡ false
never_with_dots true = refl
never_with_dots false = refl
