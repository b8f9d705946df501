-- What each call does to the words, and what that is for the rows of 512 that they hold.
use Rattle.std.proofs.Common.{◌≡◌, ◌≢◌, ℕ, ◌+◌, ◌*◌, ◌/◌, ◌%◌, ◌^◌, ◌<◌, ◌≤◌, Bool, true, false, ◌||◌, eqb, List, [], length, get_or, set, drop, replicate, sym}
use Rattle.std.proofs.Common.{ap, subst, ◌∙◌, arith, ⊎_elim, count_by, count_ones, bit_or}
use Rattle.std.specs.Int.{bit_at}
use Rattle.std.specs.Simd.Lanes.{zip2, chunk, put_chunk}
use Rattle.std.specs.List.{sum_by, All}
use Rattle.std.proofs.lemmas.Simd.{length-chunk, length-zip2, get_or-zip2, get_or-chunk, get_or-put_chunk_below, get_or-put_chunk_at, get_or-put_chunk_above}
use Rattle.std.proofs.lemmas.List.{ext_get_or, get_or-set_same, get_or-set_other, get_or-drop, get_or_past, get_or-replicate, length-set, length-replicate}
use Rattle.std.proofs.lemmas.List.FromFn.{length-map-range_with_len, get_or-map-range_with_len}
use Rattle.std.proofs.lemmas.Bool.{cases_lt, cases_eq}
use Rattle.bf_reach.specs.Bits.{has_bit, bits}
use Rattle.bf_reach.specs.Bitwise.{or_bitwise}
use Rattle.bf_reach.specs.Blocks.{row_at, empty_row, row_bits, block_rows}
use Rattle.bf_reach.proofs.BitRows.{length-bits, get_or-bits, bits_is, has_bit-zeros, trues_whole}

-- ---- the rows of the words

pub length-block_rows : (rows : ℕ) (words : List ℕ) → length (block_rows rows words) ≡ rows
unfolding block_rows
length-block_rows rows words = length-map-range_with_len (row_bits words) 0 rows

pub get_or-block_rows : (rows : ℕ) (words : List ℕ) (r : ℕ) (d : List Bool) → r < rows → get_or (block_rows rows words) r d ≡ row_bits words r
unfolding block_rows
get_or-block_rows rows words r d h = get_or-map-range_with_len (row_bits words) 0 rows r r d h (omega arith)

pub rows_are : (rows : ℕ) (words : List ℕ) (blocks : List (List Bool)) → length blocks ≡ rows → ((r : ℕ) → r < rows → get_or blocks r [] ≡ row_bits words r)
    → block_rows rows words ≡ blocks
rows_are rows words blocks long at = ext_get_or [] (block_rows rows words) blocks (length-block_rows rows words ∙ sym long)
    (λ r h.
    let within : r < rows = subst (λ n. r < n) (length-block_rows rows words) h in
    get_or-block_rows rows words r [] within ∙ sym (at r within))

pub columns-block_rows : (rows : ℕ) (words : List ℕ) → All (λ row. length row ≡ 512) (block_rows rows words)
columns-block_rows rows words k d h =
    let within : k < rows = subst (λ n. k < n) (length-block_rows rows words) h in
    ap length (get_or-block_rows rows words k d within) ∙ length-bits 512 (drop (8 * k) words)

-- a place of a row is a bit of the words
has_bit-drop : (words : List ℕ) (r k : ℕ) → has_bit (drop (8 * r) words) k ≡ has_bit words (512 * r + k)
has_bit-drop words r k =
    let word : 8 * r + k / 64 ≡ (512 * r + k) / 64 = omega arith in
    let place : k % 64 ≡ (512 * r + k) % 64 = omega arith in
    ap (λ w. eqb (bit_at w (k % 64)) 1) (get_or-drop (8 * r) words (k / 64) 0 ∙ ap (λ j. get_or words j 0) word)
    ∙ ap (λ j. eqb (bit_at (get_or words ((512 * r + k) / 64) 0) j) 1) place

pub get_or-row_bits : (words : List ℕ) (r k : ℕ) → k < 512 → get_or (row_bits words r) k false ≡ has_bit words (512 * r + k)
get_or-row_bits words r k h = get_or-bits 512 (drop (8 * r) words) k false h ∙ has_bit-drop words r k

pub length-row_bits : (words : List ℕ) (r : ℕ) → length (row_bits words r) ≡ 512
length-row_bits words r = length-bits 512 (drop (8 * r) words)

row_is : (words : List ℕ) (r : ℕ) (row : List Bool) → length row ≡ 512 → ((k : ℕ) → k < 512 → get_or row k false ≡ has_bit words (512 * r + k))
    → row ≡ row_bits words r
row_is words r row long at = bits_is 512 (drop (8 * r) words) row long (λ k h. at k h ∙ sym (has_bit-drop words r k))

-- one row is written, and the bits outside it stay
pub row_written : (rows : ℕ) (words now : List ℕ) (blocks : List (List Bool)) (r : ℕ) (row : List Bool) → block_rows rows words ≡ blocks → r < rows
    → row_bits now r ≡ row
    → ((s k : ℕ) → s ≢ r → k < 512 → has_bit now (512 * s + k) ≡ has_bit words (512 * s + k)) → block_rows rows now ≡ set blocks r row
row_written rows words now blocks r row view within made kept =
    let long : length blocks ≡ rows = sym (ap length view) ∙ length-block_rows rows words in
    rows_are rows now (set blocks r row) (length-set blocks r row ∙ long) (λ s h. ⊎_elim
    (λ same. ap (λ i. get_or (set blocks r row) i []) same ∙ get_or-set_same blocks r row [] (omega arith) ∙ sym made ∙ ap (row_bits now) (sym same))
    (λ other.
    get_or-set_other blocks r s row [] other ∙ ap (λ b. get_or b s []) (sym view) ∙ get_or-block_rows rows words s [] h
    ∙ row_is now s (row_bits words s) (length-row_bits words s) (λ k low. get_or-row_bits words s k low ∙ sym (kept s k other low)))
    (cases_eq s r))

-- ---- all places false

pub length-empty_row : length empty_row ≡ 512
unfolding empty_row
length-empty_row = length-replicate 512 false

pub value_at-empty_row : (k : ℕ) → k < 512 → get_or empty_row k false ≡ false
unfolding empty_row
value_at-empty_row k h = get_or-replicate 512 k false false h

pub rows_empty : (rows : ℕ) (now : List ℕ) (n : ℕ) → now ≡ replicate n 0 → block_rows rows now ≡ replicate rows empty_row
rows_empty rows now n e = ap (block_rows rows) e ∙ rows_are rows (replicate n 0) (replicate rows empty_row) (length-replicate rows empty_row)
    (λ r h. get_or-replicate rows r empty_row [] h ∙ row_is (replicate n 0) r empty_row length-empty_row
    (λ k low. value_at-empty_row k low ∙ sym (has_bit-zeros n (512 * r + k))))

-- ---- one place

pub place_set : (rows : ℕ) (words now : List ℕ) (blocks : List (List Bool)) (r column : ℕ) → block_rows rows words ≡ blocks → r < rows → column < 512
    → has_bit now (512 * r + column) ≡ true → ((k : ℕ) → k ≢ 512 * r + column → has_bit now k ≡ has_bit words k)
    → block_rows rows now ≡ set blocks r (set (row_at blocks r) column true)
place_set rows words now blocks r column view within low same others =
    let old : row_at blocks r ≡ row_bits words r = ap (λ b. get_or b r []) (sym view) ∙ get_or-block_rows rows words r [] within in
    row_written rows words now blocks r (set (row_at blocks r) column true) view within
    (sym (ap (λ row. set row column true) old
    ∙ row_is now r (set (row_bits words r) column true) (length-set (row_bits words r) column true ∙ length-row_bits words r) (λ k h. ⊎_elim
    (λ here. ap (λ i. get_or (set (row_bits words r) column true) i false) here ∙ get_or-set_same (row_bits words r) column true false
    (omega (arith, length-row_bits words r)) ∙ sym same ∙ ap (λ i. has_bit now (512 * r + i)) (sym here))
    (λ apart. get_or-set_other (row_bits words r) column k true false apart ∙ get_or-row_bits words r k h ∙ sym
    (others (512 * r + k) (λ e. apart (omega arith))))
    (cases_eq k column))))
    (λ s k other h. others (512 * s + k) (λ e. other (omega arith)))

-- ---- one row into another

bit_of : (words : List ℕ) (k j i : ℕ) → k / 64 ≡ j → k % 64 ≡ i → has_bit words k ≡ eqb (bit_at (get_or words j 0) i) 1
bit_of words k j i word place = ap (λ n. eqb (bit_at (get_or words n 0) (k % 64)) 1) word ∙ ap (λ n. eqb (bit_at (get_or words j 0) n) 1) place

or_word : (words : List ℕ) (into from i : ℕ) → 8 * into + 8 ≤ length words → 8 * from + 8 ≤ length words → i < 8
    → get_or (put_chunk (8 * into) words (zip2 bit_or (chunk (8 * into) 8 words) (chunk (8 * from) 8 words))) (8 * into + i) 0 ≡ bit_or
    (get_or words (8 * into + i) 0) (get_or words (8 * from + i) 0)
or_word words into from i into_room from_room h =
    let mine : length (chunk (8 * into) 8 words) ≡ 8 = length-chunk (8 * into) 8 words into_room in
    let theirs : length (chunk (8 * from) 8 words) ≡ 8 = length-chunk (8 * from) 8 words from_room in
    let made = zip2 bit_or (chunk (8 * into) 8 words) (chunk (8 * from) 8 words) in
    let made_len : length made ≡ 8 = length-zip2 bit_or (chunk (8 * into) 8 words) (chunk (8 * from) 8 words) (mine ∙ sym theirs) ∙ mine in
    get_or-put_chunk_at (8 * into) words made i 0 (omega arith) (omega arith)
    ∙ get_or-zip2 bit_or (chunk (8 * into) 8 words) (chunk (8 * from) 8 words) i 0 0 0 (omega arith) (omega arith)
    ∙ ap (λ w. bit_or w (get_or (chunk (8 * from) 8 words) i 0)) (get_or-chunk (8 * into) 8 words i 0 h)
    ∙ ap (bit_or (get_or words (8 * into + i) 0)) (get_or-chunk (8 * from) 8 words i 0 h)

word_kept : (words : List ℕ) (into from j : ℕ) → 8 * into + 8 ≤ length words → 8 * from + 8 ≤ length words → j / 8 ≢ into
    → get_or (put_chunk (8 * into) words (zip2 bit_or (chunk (8 * into) 8 words) (chunk (8 * from) 8 words))) j 0 ≡ get_or words j 0
word_kept words into from j into_room from_room other =
    let mine : length (chunk (8 * into) 8 words) ≡ 8 = length-chunk (8 * into) 8 words into_room in
    let theirs : length (chunk (8 * from) 8 words) ≡ 8 = length-chunk (8 * from) 8 words from_room in
    let made = zip2 bit_or (chunk (8 * into) 8 words) (chunk (8 * from) 8 words) in
    let made_len : length made ≡ 8 = length-zip2 bit_or (chunk (8 * into) 8 words) (chunk (8 * from) 8 words) (mine ∙ sym theirs) ∙ mine in
    ⊎_elim
    (λ below. get_or-put_chunk_below (8 * into) words made j 0 below)
    (λ above. get_or-put_chunk_above (8 * into) words made j 0 (omega arith))
    (cases_lt j (8 * into))

pub row_joined : (rows : ℕ) (words now : List ℕ) (blocks : List (List Bool)) (into from : ℕ) → block_rows rows words ≡ blocks → length words ≡ 8 * rows
    → into < rows → from < rows → ((i : ℕ) → get_or words i 0 < 2 ^ 64)
    → now ≡ put_chunk (8 * into) words (zip2 bit_or (chunk (8 * into) 8 words) (chunk (8 * from) 8 words))
    → block_rows rows now ≡ set blocks into (zip2 ◌||◌ (row_at blocks into) (row_at blocks from))
row_joined rows words now blocks into from view long into_in from_in fits e =
    let made : List ℕ = put_chunk (8 * into) words (zip2 bit_or (chunk (8 * into) 8 words) (chunk (8 * from) 8 words)) in
    let mine : row_at blocks into ≡ row_bits words into = ap (λ b. get_or b into []) (sym view) ∙ get_or-block_rows rows words into [] into_in in
    let theirs : row_at blocks from ≡ row_bits words from = ap (λ b. get_or b from []) (sym view) ∙ get_or-block_rows rows words from [] from_in in
    let eights : length (row_bits words into) ≡ length (row_bits words from) = length-row_bits words into ∙ sym (length-row_bits words from) in
    ap (block_rows rows) e ∙ row_written rows words made blocks into (zip2 ◌||◌ (row_at blocks into) (row_at blocks from)) view into_in
    (sym (ap (λ row. zip2 ◌||◌ row (row_at blocks from)) mine ∙ ap (zip2 ◌||◌ (row_bits words into)) theirs
    ∙ row_is made into (zip2 ◌||◌ (row_bits words into) (row_bits words from))
    (length-zip2 ◌||◌ (row_bits words into) (row_bits words from) eights ∙ length-row_bits words into) (λ k h.
    let word : (512 * into + k) / 64 ≡ 8 * into + k / 64 = omega arith in
    let place : (512 * into + k) % 64 ≡ k % 64 = omega arith in
    let source : (512 * from + k) / 64 ≡ 8 * from + k / 64 = omega arith in
    let source_place : (512 * from + k) % 64 ≡ k % 64 = omega arith in
    get_or-zip2 ◌||◌ (row_bits words into) (row_bits words from) k false false false (omega (arith, length-row_bits words into))
    (omega (arith, length-row_bits words from))
    ∙ ap (λ b. b || get_or (row_bits words from) k false)
    (get_or-row_bits words into k h ∙ bit_of words (512 * into + k) (8 * into + k / 64) (k % 64) word place)
    ∙ ap (λ b. eqb (bit_at (get_or words (8 * into + k / 64) 0) (k % 64)) 1 || b)
    (get_or-row_bits words from k h ∙ bit_of words (512 * from + k) (8 * from + k / 64) (k % 64) source source_place)
    ∙ sym (bit_of made (512 * into + k) (8 * into + k / 64) (k % 64) word place
    ∙ ap (λ w. eqb (bit_at w (k % 64)) 1) (or_word words into from (k / 64) (omega arith) (omega arith) (omega arith))
    ∙ or_bitwise.bit (get_or words (8 * into + k / 64) 0) (get_or words (8 * from + k / 64) 0) (k % 64) (fits (8 * from + k / 64)) (omega arith)))))
    (λ s k other h.
    let apart : (512 * s + k) / 64 / 8 ≡ s = omega arith in
    ap (λ w. eqb (bit_at w ((512 * s + k) % 64)) 1)
    (word_kept words into from ((512 * s + k) / 64) (omega arith) (omega arith) (λ same. other (sym apart ∙ same))))

-- ---- how many places of a row are true

pub row_count : (rows : ℕ) (words : List ℕ) (blocks : List (List Bool)) (r n : ℕ) → block_rows rows words ≡ blocks → length words ≡ 8 * rows → r < rows
    → ((i : ℕ) → get_or words i 0 < 2 ^ 64)
    → n ≡ sum_by count_ones (chunk (8 * r) 8 words) → n ≡ count_by (λ b. b) (row_at blocks r)
row_count rows words blocks r n view long within fits ones =
    let row : List ℕ = chunk (8 * r) 8 words in
    let eight : length row ≡ 8 = length-chunk (8 * r) 8 words (omega arith) in
    let whole : 64 * length row ≡ 512 = omega arith in
    let row_fits : (i : ℕ) → get_or row i 0 < 2 ^ 64 = λ i. ⊎_elim
    (λ low. subst (λ w. w < 2 ^ 64) (sym (get_or-chunk (8 * r) 8 words i 0 low)) (fits (8 * r + i)))
    (λ past. subst (λ w. w < 2 ^ 64) (sym (get_or_past row i 0 (omega arith))) (omega arith))
    (cases_lt i 8) in
    let same : bits 512 row ≡ row_bits words r = bits_is 512 (drop (8 * r) words) (bits 512 row) (length-bits 512 row) (λ k h.
    get_or-bits 512 row k false h ∙ ap (λ w. eqb (bit_at w (k % 64)) 1)
    (get_or-chunk (8 * r) 8 words (k / 64) 0 (omega arith) ∙ sym (get_or-drop (8 * r) words (k / 64) 0))) in
    ones ∙ sym (trues_whole row row_fits) ∙ ap (λ m. count_by (λ b. b) (bits m row)) whole ∙ ap (count_by (λ b. b))
    (same ∙ sym (get_or-block_rows rows words r [] within) ∙ ap (λ b. get_or b r []) view)
