-- The places that names mean are those of the history, and a range has a row of its length.
use Rattle.std.proofs.Common.{◌≡◌, ℕ, zero, suc, ◌<◌, ◌==◌, not, ◌&&◌, ◌||◌, map, Bool, true, false, cond, List, [], ◌∷◌, length, take, drop, codes, Option, Some, None}
use Rattle.std.proofs.Common.{IfSome, Result, Ok, Err, IfOk, ◌+◌, refl, subst, sym, arith}
use Rattle.std.proofs.lemmas.List.Elements.{All-filter, All-head, All-tail}
use Rattle.std.proofs.lemmas.List.FromFn.{length-map-range_with_len}
use Rattle.std.specs.List.{All, range_with_len, slice_get}
use Rattle.std.specs.Cmp.Lexicographic.{pointwise}
use Rattle.std.specs.Option.{ok_or, option_and_then, option_map, option_map_or, option_or}
use Rattle.bf_forest.specs.Files.{is_same}
use Rattle.bf_oid.specs.declared.object.Oid.{Oid}
use Rattle.bf_oid.specs.Object.{oid_of_hex}
use Rattle.bf_graph.specs.Graph.{IsGraph, parents_of}
use Rattle.bf_history.specs.Meanings.{History, place_named, ref_in}
use Rattle.bf_names.specs.declared.fault.NameFault.{NameFault}
use Rattle.bf_names.specs.declared.fault.NameFault.TheVariants.{Unknown, NoParent, BadForm}
use Rattle.bf_names.specs.Names.{is_base, number_of, step_of, steps_written, step_texts, steps_of, right_steps, first_set}
use Rattle.bf_names.specs.Names.{meanings, is_abbreviation, abbreviated, only_one, by_digits, by_name, spelled_out, place_of_base, ancestor, parent}
use Rattle.bf_names.specs.Names.{after_step, after_steps, place_of, name, between, first_at, range_at, range, base_of}
use Rattle.bf_search.specs.Reach.{places, reaches}
use Rattle.bf_search.proofs.Turns.{range_within}
use Rattle.bf_output.proofs.Loading.{IsWhole, value_is, named_below}
use Rattle.bf_grammar.specs.Forms.{◌>>=◌}

-- ---- the steps of a name

got_below : (P : ℕ → Type 0) (xs : List ℕ) (i : ℕ) → All P xs → IfSome (slice_get xs i) P
got_below P [] i h = tt
got_below P (x ∷ xs) zero h = All-head P x xs h
got_below P (x ∷ xs) (suc i) h = got_below P xs i (All-tail P x xs h)

and_then_below : (n : ℕ) (o : Option ℕ) (next : ℕ → Option ℕ) → IfSome o (λ p. p < n) → ((p : ℕ) → p < n → IfSome (next p) (λ q. q < n))
    → IfSome (option_and_then next o) (λ q. q < n)
and_then_below n (Some p) next h k = k p h
and_then_below n None next h k = tt

some_ok : {X F : Type 0} (P : X → Type 0) (o : Option X) (fault : F) → IfSome o P → IfOk (ok_or o fault) P
some_ok P (Some x) fault h = h
some_ok P None fault h = tt

then_ok : {X Y : Type 0} (P : X → Type 0) (Q : Y → Type 0) (a : Result X NameFault) (next : X → Result Y NameFault) → IfOk a P
    → ((x : X) → P x → IfOk (next x) Q) → IfOk (a >>= next) Q
then_ok P Q (Ok x) next h k = k x h
then_ok P Q (Err fault) next h k = tt

any_ok : {X Y : Type 0} (Q : Y → Type 0) (a : Result X NameFault) (next : X → Result Y NameFault) → ((x : X) → IfOk (next x) Q) → IfOk (a >>= next) Q
any_ok Q (Ok x) next k = k x
any_ok Q (Err fault) next k = tt

cond_ok : {X F : Type 0} (P : X → Type 0) (b : Bool) (one other : Result X F) → IfOk one P → IfOk other P → IfOk (cond b one other) P
cond_ok P true one other h k = h
cond_ok P false one other h k = k

either_some : {X : Type 0} (P : X → Type 0) (b : Bool) (one other : Option X) → IfSome one P → IfSome other P → IfSome (cond b one other) P
either_some P true one other h k = h
either_some P false one other h k = k

mapped_some : {X : Type 0} (P : X → Type 0) (f : ℕ → X) (o : Option ℕ) → ((n : ℕ) → P (f n)) → IfSome (option_map f o) P
mapped_some P f (Some n) h = h n
mapped_some P f None h = tt

module _ (graph : List (List ℕ)) (g : IsGraph graph) where
  parent_below : (place i : ℕ) → place < length graph → IfSome (slice_get (parents_of graph place) i) (λ p. p < length graph)
  parent_below place i h =
      got_below (λ p. p < length graph) (parents_of graph place) i (λ k d l. omega (arith, g.earlier place k d l, h))

  ancestor_below : (n place : ℕ) → place < length graph → IfSome (ancestor graph n place) (λ p. p < length graph)
  unfolding ancestor
  ancestor_below zero place h = h
  ancestor_below (suc n) place h =
      and_then_below (length graph) (slice_get (parents_of graph place) 0) (ancestor graph n) (parent_below place 0 h)
      (λ p below. ancestor_below n p below)

  -- a step, and steps, that lead from places to places
  abbrev Leads : {S : Type 0} → (S → ℕ → Option ℕ) → S → Type 0
  Leads after step = (place : ℕ) → place < length graph → IfSome (after step place) (λ p. p < length graph)

  abbrev AllLead : {S : Type 0} → (S → ℕ → Result ℕ NameFault) → S → Type 0
  AllLead after steps = (place : ℕ) → place < length graph → IfOk (after steps place) (λ p. p < length graph)

  parent_leads : (n : ℕ) (place : ℕ) → place < length graph → IfSome (parent graph n place) (λ p. p < length graph)
  parent_leads zero place h = h
  parent_leads (suc n) place h = parent_below place n h

  step_leads : (text : List ℕ) → IfSome (step_of text) (Leads (after_step graph))
  unfolding step_of
  step_leads [] = tt
  step_leads (sign ∷ rest) =
      either_some (Leads (after_step graph)) (sign == 126) _ _
      (mapped_some (Leads (after_step graph)) _ (number_of rest) ancestor_below)
      (either_some (Leads (after_step graph)) (pointwise ◌==◌ rest (codes "{}") || pointwise ◌==◌ rest (codes "{commit}")) _ _ (parent_leads 0)
      (mapped_some (Leads (after_step graph)) _ (number_of rest) parent_leads))

  both_lead : {S : Type 0} (after : S → ℕ → Option ℕ) (all : List S → ℕ → Result ℕ NameFault) (o : Option S) (os : Option (List S))
      → ((step : S) (steps : List S) (place : ℕ) → all (step ∷ steps) place ≡ (ok_or (after step place) NoParent >>= all steps))
      → IfSome o (Leads after) → IfSome os (AllLead all)
      → IfSome (option_and_then (λ step. option_map (λ steps. step ∷ steps) os) o) (AllLead all)
  both_lead after all None os same h k = tt
  both_lead after all (Some step) None same h k = tt
  both_lead after all (Some step) (Some steps) same h k = λ place below.
      subst (λ (r : Result ℕ NameFault). IfOk r (λ p. p < length graph)) (sym (same step steps place))
      (then_ok (λ p. p < length graph) (λ p. p < length graph) (ok_or (after step place) NoParent) (all steps)
      (some_ok (λ p. p < length graph) (after step place) NoParent (h place below)) k)

  steps_lead : (texts : List (List ℕ)) → IfSome (steps_written texts) (AllLead (after_steps graph))
  unfolding steps_written after_steps
  steps_lead [] = λ place h. h
  steps_lead (text ∷ texts) =
      both_lead (after_step graph) (after_steps graph) (step_of text) (steps_written texts) (λ step steps place. refl) (step_leads text) (steps_lead texts)

  pub written_lead : (text : List ℕ) → IfOk (steps_of text) (AllLead (after_steps graph))
  unfolding steps_of
  written_lead text =
      cond_ok (AllLead (after_steps graph)) (is_base (base_of text)) (ok_or (steps_written (step_texts text)) BadForm) (Err BadForm)
      (some_ok (AllLead (after_steps graph)) (steps_written (step_texts text)) BadForm (steps_lead (step_texts text))) tt

-- ---- the base of a name

either_below : (n : ℕ) (one other : Option ℕ) → IfSome one (λ p. p < n) → IfSome other (λ p. p < n) → IfSome (option_or one other) (λ p. p < n)
either_below n (Some p) other h k = h
either_below n None other h k = k

only_below : (n : ℕ) (places : List ℕ) → All (λ p. p < n) places → IfOk (only_one places) (λ p. p < n)
only_below n [] h = tt
only_below n (p ∷ []) h = All-head (λ q. q < n) p [] h
only_below n (p ∷ q ∷ places) h = tt

module _ (history : History) (w : IsWhole history) where
  abbrev IsPlace : ℕ → Type 0
  IsPlace p = p < length history.parents

  set_below : (names : List (List ℕ)) → IfSome (first_set history.refs names) IsPlace
  set_below [] = tt
  set_below (ref ∷ refs) =
      either_below (length history.parents) (ref_in history.refs ref) (first_set history.refs refs)
      (value_is IsPlace is_same ref history.refs w.refs) (set_below refs)

  abbreviated_below : (digits : List ℕ) → All IsPlace (abbreviated history.names digits)
  unfolding abbreviated
  abbreviated_below digits =
      All-filter _ IsPlace (range_with_len 0 (length history.names))
      (subst (λ n. All (λ p. p < n) (range_with_len 0 (length history.names))) (sym w.counted) (range_within (length history.names)))

  digits_below : (base : List ℕ) → IfOk (by_digits history base) IsPlace
  digits_below base =
      cond_ok IsPlace (not history.original_names && is_abbreviation base) (only_one (abbreviated history.names base)) (Err Unknown)
      (only_below (length history.parents) (abbreviated history.names base) (abbreviated_below base)) tt

  ref_below : (base : List ℕ) (o : Option ℕ) → IfSome o IsPlace → IfOk (option_map_or (λ place. Ok place) o (by_digits history base)) IsPlace
  ref_below base (Some p) h = h
  ref_below base None h = digits_below base

  spelled_below : (base : List ℕ) (whole : Option Oid) → IfOk (by_name history base whole) IsPlace
  spelled_below base (Some found) = some_ok IsPlace (place_named history.names found) Unknown (named_below history found w)
  spelled_below base None = ref_below base (first_set history.refs (meanings base)) (set_below (meanings base))

  base_below : (base : List ℕ) → IfOk (place_of_base history base) IsPlace
  unfolding place_of_base
  base_below base = spelled_below (spelled_out base) (oid_of_hex (spelled_out base))

  -- what a name means is a commit of the history
  pub name_below : (text : List ℕ) → IfOk (name history text) IsPlace
  unfolding name
  name_below text =
      then_ok (AllLead history.parents w.graph (after_steps history.parents)) IsPlace (steps_of text) (place_of history text)
      (written_lead history.parents w.graph text)
      (λ steps lead. then_ok IsPlace IsPlace (place_of_base history (base_of text)) (after_steps history.parents steps)
      (base_below (base_of text)) lead)

  -- ---- ranges

  abbrev IsRow : List Bool → Type 0
  IsRow row = length row ≡ length history.parents

  between_row : (left right : List ℕ) → IfOk (between history left right) IsRow
  unfolding between
  between_row left right =
      any_ok IsRow (steps_of left) _ (λ before.
      any_ok IsRow (right_steps right) _ (λ after.
      any_ok IsRow (place_of history left before) _ (λ from.
      any_ok IsRow (place_of history right after) _ (λ to.
      length-map-range_with_len (λ q. reaches history.parents to q && not (reaches history.parents from q)) 0 (length history.parents)))))

  at_row : (text : List ℕ) (dots : Option ℕ) → IfOk (range_at history text dots) IsRow
  at_row text (Some at) = between_row (take at text) (drop (at + 2) text)
  at_row text None =
      any_ok IsRow (name history text) (λ place. Ok (map (λ q. q == place) (places history.parents)))
      (λ place. length-map-range_with_len (λ q. q == place) 0 (length history.parents))

  -- what a range means is told of each commit of the history
  pub range_row : (text : List ℕ) → IfOk (range history text) IsRow
  unfolding range
  range_row text = at_row text (first_at (codes "..") text)
