-- How a search that words begin has begun: its ends or its log, and then the skips.
use Rattle.std.proofs.Common.{◌≡◌, ℕ, ◌<◌, cond, Bool, true, false, List, [], ◌∷◌, length, Option, Some, None, IfSome, Result, Ok, Err, IfOk, refl, subst}
use Rattle.std.proofs.lemmas.List.Elements.{All-append, All-cons, All-filter, All-nil}
use Rattle.std.specs.List.{All, range_with_len}
use Rattle.std.specs.Result.{result_map_both}
use Rattle.bf_history.specs.Meanings.{History}
use Rattle.bf_names.specs.declared.fault.NameFault.{NameFault}
use Rattle.bf_names.specs.Names.{name, range}
use Rattle.bf_search.specs.Candidates.{is_in, places_of}
use Rattle.bf_search.proofs.Turns.{range_within}
use Rattle.bf_io.specs.declared.shelf.LoadFault.{LoadFault}
use Rattle.bf_words.specs.declared.request.Request.{Request}
use Rattle.bf_words.specs.Words.{word_at}
use Rattle.bf_output.specs.Beginning.{Begun, named, named_if_given, gathered, one_named, meant, places_meant}
use Rattle.bf_output.specs.Beginning.{between_ends, begun_by_words, begun_by, has_ends, with_ends, with_skips, begun_with_skips}
use Rattle.bf_output.specs.Refusals.{name_refused}
use Rattle.bf_output.specs.Told.{Told}
use Rattle.bf_output.proofs.Loading.{IsWhole}
use Rattle.bf_output.proofs.Places.{name_below, range_row}
use Rattle.bf_grammar.specs.Forms.{◌>>=◌}

then_ok : {X Y : Type 0} (P : X → Type 0) (Q : Y → Type 0) (a : Result X Told) (next : X → Result Y Told) → IfOk a P
    → ((x : X) → P x → IfOk (next x) Q) → IfOk (a >>= next) Q
then_ok P Q (Ok x) next h k = k x h
then_ok P Q (Err told) next h k = tt

unless_refused : {X : Type 0} (P : X → Type 0) (word : ℕ) (r : Result X NameFault) → IfOk r P → IfOk (result_map_both (λ (x : X). x) (name_refused word) r) P
unless_refused P word (Ok x) h = h
unless_refused P word (Err fault) h = tt

module _ (history : History) (w : IsWhole history) (words : List (List ℕ)) where
  abbrev IsPlace : ℕ → Type 0
  IsPlace p = p < length history.parents

  named_below : (i : ℕ) → IfOk (named history words i) IsPlace
  named_below i = unless_refused IsPlace i (name history (word_at words i)) (name_below history w (word_at words i))

  given_below : (given : Option ℕ) → IfOk (named_if_given history words given) (λ bad. IfSome bad IsPlace)
  given_below None = tt
  given_below (Some i) =
      then_ok IsPlace (λ (bad : Option ℕ). IfSome bad IsPlace) (named history words i) (λ p. Ok (Some p)) (named_below i) (λ p below. below)

  gathered_below : (give : ℕ → Result (List ℕ) Told) → ((i : ℕ) → IfOk (give i) (All IsPlace)) → (is : List ℕ) → IfOk (gathered give is) (All IsPlace)
  unfolding gathered
  gathered_below give h [] = All-nil IsPlace
  gathered_below give h (i ∷ is) =
      then_ok (All IsPlace) (All IsPlace) (give i) _ (h i)
      (λ xs here. then_ok (All IsPlace) (All IsPlace) (gathered give is) _ (gathered_below give h is)
      (λ ps there. All-append IsPlace xs ps here there))

  all_below : (is : List ℕ) → IfOk (gathered (one_named history words) is) (All IsPlace)
  all_below is =
      gathered_below (one_named history words)
      (λ i. then_ok IsPlace (All IsPlace) (named history words i) (λ p. Ok (p ∷ [])) (named_below i) (λ p below. All-cons IsPlace p [] below (All-nil IsPlace)))
      is

  row_below : (row : List Bool) → length row ≡ length history.parents → All IsPlace (places_of row)
  row_below row e =
      subst (λ n. All (λ p. p < n) (places_of row)) e
      (All-filter (λ p. is_in row p) (λ p. p < length row) (range_with_len 0 (length row)) (range_within (length row)))

  meant_row : (i : ℕ) → IfOk (meant history words i) (λ row. length row ≡ length history.parents)
  meant_row i = unless_refused (λ (row : List Bool). length row ≡ length history.parents) i (range history (word_at words i))
      (range_row history w (word_at words i))

  meant_below : (is : List ℕ) → IfOk (gathered (places_meant history words) is) (All IsPlace)
  meant_below is =
      gathered_below (places_meant history words)
      (λ i. then_ok (λ (row : List Bool). length row ≡ length history.parents) (All IsPlace) (meant history words i) (λ row. Ok (places_of row)) (meant_row i)
      row_below)
      is

-- ---- the skips behind a beginning

-- a beginning with both ends, and the skips behind it
pub record IsBegun (request : Request) (words : List (List ℕ)) (file : Option (Result (List ℕ) LoadFault)) (history : History) (first : Begun) : Type 0 where
  pub bare : Begun
  pub places : List ℕ
  pub by : begun_by request words file history ≡ Ok bare
  pub within : All (λ p. p < length history.parents) places
  pub ends : has_ends bare.search ≡ true
  pub is : with_skips history.parents bare places ≡ first

ended : (both : Bool) (bare first : Begun) (refusal : Told) (graph : List (List ℕ)) (ps : List ℕ)
    → (cond both (Ok bare) (Err refusal) >>= λ whole. Ok (with_skips graph whole ps)) ≡ Ok first → (both ≡ true) × (with_skips graph bare ps ≡ first)
ended true bare first refusal graph ps e = (refl, cc e)
ended false bare first refusal graph ps e = cc e

skipped : (request : Request) (words : List (List ℕ)) (file : Option (Result (List ℕ) LoadFault)) (history : History) (first : Begun)
    (a : Result Begun Told) (b : Result (List ℕ) Told) → begun_by request words file history ≡ a → IfOk b (All (λ p. p < length history.parents))
    → (a >>= λ bare. b >>= λ ps. with_ends bare >>= λ whole. Ok (with_skips history.parents whole ps)) ≡ Ok first
    → IsBegun request words file history first
skipped request words file history first (Err told) b by within e = cc e
skipped request words file history first (Ok bare) (Err told) by within e = cc e
skipped request words file history first (Ok bare) (Ok ps) by within e =
    let both = ended (has_ends bare.search) bare first _ history.parents ps e in
    record { bare = bare; places = ps; by = by; within = within; ends = both.0; is = both.1 }

pub is_begun : (request : Request) (words : List (List ℕ)) (file : Option (Result (List ℕ) LoadFault)) (history : History) (first : Begun)
    → IsWhole history → begun_with_skips request words file history ≡ Ok first → IsBegun request words file history first
unfolding begun_with_skips
is_begun request words file history first w e =
    skipped request words file history first (begun_by request words file history) (gathered (places_meant history words) request.skips) refl
    (meant_below history w words request.skips) e

-- ---- the ends that words name

pub record AreNamed (request : Request) (history : History) (bare : Begun) : Type 0 where
  pub bad : Option ℕ
  pub goods : List ℕ
  pub bad_below : IfSome bad (λ p. p < length history.parents)
  pub goods_below : All (λ p. p < length history.parents) goods
  pub is : between_ends request (length history.parents) bad goods ≡ bare

ends_named : (request : Request) (history : History) (bare : Begun) (a : Result (Option ℕ) Told) (b : Result (List ℕ) Told)
    → IfOk a (λ bad. IfSome bad (λ p. p < length history.parents)) → IfOk b (All (λ p. p < length history.parents))
    → (a >>= λ bad. b >>= λ goods. Ok (between_ends request (length history.parents) bad goods)) ≡ Ok bare
    → AreNamed request history bare
ends_named request history bare (Err told) b h k e = cc e
ends_named request history bare (Ok bad) (Err told) h k e = cc e
ends_named request history bare (Ok bad) (Ok goods) h k e = record { bad = bad; goods = goods; bad_below = h; goods_below = k; is = cc e }

pub are_named : (request : Request) (words : List (List ℕ)) (history : History) (bare : Begun) → IsWhole history
    → begun_by_words request words history ≡ Ok bare → AreNamed request history bare
unfolding begun_by_words
are_named request words history bare w e =
    ends_named request history bare (named_if_given history words request.bad) (gathered (one_named history words) request.goods)
    (given_below history w words request.bad) (all_below history w words request.goods) e
