-- What is meant by a name or a range is never want of memory.
use Rattle.std.proofs.Common.{◌≢◌, ℕ, ◌+◌, ◌==◌, map, not, ◌&&◌, take, drop, codes, Bool, true, false, List, [], ◌∷◌, Option, Some, None, Result, Ok, Err, subst, if◌then◌else◌}
use Rattle.std.specs.Option.{ok_or, option_map_or}
use Rattle.bf_oid.specs.declared.object.Oid.{Oid}
use Rattle.bf_oid.specs.Object.{oid_of_hex}
use Rattle.bf_history.specs.Meanings.{History, place_named}
use Rattle.bf_search.specs.Reach.{places}
use Rattle.bf_names.specs.declared.fault.NameFault.{NameFault}
use Rattle.bf_names.specs.declared.fault.NameFault.TheVariants.{Unknown, Ambiguous, NoParent, BadForm, NoMemory}
use Rattle.bf_names.specs.declared.step.Step.{Step}
use Rattle.bf_names.specs.Names.{steps_of, is_base, base_of, steps_written, step_texts, is_abbreviation, abbreviated, only_one, by_digits}
use Rattle.bf_names.specs.Names.{by_name, first_set, meanings, spelled_out, place_of_base, after_step, after_steps, place_of, name}
use Rattle.bf_names.specs.Names.{right_steps, between, range_at, range, first_at}
use Rattle.bf_grammar.specs.Forms.{◌>>=◌}

abbrev IsMeant : {X : Type 0} → Result X NameFault → Type 0
IsMeant (Err NoMemory) = ⊥
IsMeant other = Unit {0}

pub meant_otherwise : {X : Type 0} (r : Result X NameFault) → IsMeant r → r ≢ Err NoMemory
meant_otherwise r h e = subst IsMeant e h

meant_next : {X Y : Type 0} (r : Result X NameFault) (next : X → Result Y NameFault) → IsMeant r → ((x : X) → IsMeant (next x)) → IsMeant (r >>= next)
meant_next (Ok x) next h n = n x
meant_next (Err Unknown) next h n = tt
meant_next (Err (Ambiguous count)) next h n = tt
meant_next (Err NoParent) next h n = tt
meant_next (Err BadForm) next h n = tt
meant_next (Err NoMemory) next h n = h

meant_either : {X : Type 0} (b : Bool) (x y : Result X NameFault) → IsMeant x → IsMeant y → IsMeant (if b then x else y)
meant_either true x y h k = h
meant_either false x y h k = k

meant_or : {X : Type 0} (o : Option X) (fault : NameFault) → IsMeant {X = X} (Err fault) → IsMeant (ok_or o fault)
meant_or (Some x) fault h = tt
meant_or None fault h = h

meant_steps : (text : List ℕ) → IsMeant (steps_of text)
unfolding steps_of
meant_steps text = meant_either (is_base (base_of text)) (ok_or (steps_written (step_texts text)) BadForm) (Err BadForm) (meant_or (steps_written (step_texts text)) BadForm tt) tt

meant_only : (places : List ℕ) → IsMeant (only_one places)
meant_only [] = tt
meant_only (place ∷ []) = tt
meant_only (place ∷ other ∷ places) = tt

meant_digits : (history : History) (base : List ℕ) → IsMeant (by_digits history base)
meant_digits history base =
    meant_either (not history.original_names && is_abbreviation base) (only_one (abbreviated history.names base)) (Err Unknown)
    (meant_only (abbreviated history.names base)) tt

meant_ref : (history : History) (base : List ℕ) (place : Option ℕ) → IsMeant (option_map_or (λ found. Ok found) place (by_digits history base))
meant_ref history base (Some place) = tt
meant_ref history base None = meant_digits history base

meant_name : (history : History) (base : List ℕ) (whole : Option Oid) → IsMeant (by_name history base whole)
meant_name history base (Some found) = meant_or (place_named history.names found) Unknown tt
meant_name history base None = meant_ref history base (first_set history.refs (meanings base))

meant_base : (history : History) (base : List ℕ) → IsMeant (place_of_base history base)
unfolding place_of_base
meant_base history base = meant_name history (spelled_out base) (oid_of_hex (spelled_out base))

meant_walk : (graph : List (List ℕ)) (steps : List Step) (place : ℕ) → IsMeant (after_steps graph steps place)
unfolding after_steps
meant_walk graph [] place = tt
meant_walk graph (step ∷ steps) place =
    meant_next (ok_or (after_step graph step place) NoParent) (after_steps graph steps)
    (meant_or (after_step graph step place) NoParent tt) (meant_walk graph steps)

meant_place : (history : History) (text : List ℕ) (steps : List Step) → IsMeant (place_of history text steps)
meant_place history text steps =
    meant_next (place_of_base history (base_of text)) (after_steps history.parents steps)
    (meant_base history (base_of text)) (meant_walk history.parents steps)

pub name_is_meant : (history : History) (text : List ℕ) → IsMeant (name history text)
unfolding name
name_is_meant history text = meant_next (steps_of text) (place_of history text) (meant_steps text) (meant_place history text)

meant_right : (text : List ℕ) → IsMeant (right_steps text)
unfolding right_steps
meant_right text = meant_either _ (Err BadForm) (steps_of text) tt (meant_steps text)

meant_between : (history : History) (left right : List ℕ) → IsMeant (between history left right)
unfolding between
meant_between history left right =
    meant_next (steps_of left) _ (meant_steps left)
    (λ before. meant_next (right_steps right) _ (meant_right right)
    (λ after. meant_next (place_of history left before) _ (meant_place history left before)
    (λ from. meant_next (place_of history right after) _ (meant_place history right after) (λ to. tt))))

meant_range : (history : History) (text : List ℕ) (dots : Option ℕ) → IsMeant (range_at history text dots)
meant_range history text (Some at) = meant_between history (take at text) (drop (at + 2) text)
meant_range history text None = meant_next (name history text) (λ place. Ok (map (λ q. q == place) (places history.parents))) (name_is_meant history text) (λ place. tt)

pub range_is_meant : (history : History) (text : List ℕ) → IsMeant (range history text)
unfolding range
range_is_meant history text = meant_range history text (first_at (codes "..") text)
