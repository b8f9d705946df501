-- A name is read back from the digits that write it.
use Rattle.std.proofs.Common.{◌≡◌, ℕ, List, length, Some, ap, arith}
use Rattle.hex.proofs.HexLemmas.{length-encode_with, decode_of-encode_lower}
use Rattle.hex.specs.Hex.{IsBytes, encode_lower, lower_digits}
use Rattle.bf_oid.specs.Object.{oid_of_hex, name_where}

pub oid_of_hex-encode_lower : (bytes : List ℕ) → length bytes ≡ 20 → IsBytes bytes → oid_of_hex (encode_lower bytes) ≡ Some (record { 0 = bytes })
oid_of_hex-encode_lower bytes long h =
    let forty : length (encode_lower bytes) ≡ 40 = omega (arith, length-encode_with lower_digits bytes, long) in
    rw forty (rw forty at (ap name_where (decode_of-encode_lower bytes h)))
