-- The numbers of a request are within their bounds.
use Rattle.std.proofs.Common.{◌≡◌, ℕ, Bool, true, false, cond, ◌&&◌, List, [], ◌∷◌, Option, Some, None, IfOk, refl}
use Rattle.std.proofs.lemmas.Bool.{and_parts, leb-true}
use Rattle.std.specs.Prelude.{nat_le}
use Rattle.std.specs.Option.{ok_or}
use Rattle.bf_protocol.specs.declared.request.Asked.{Asked}
use Rattle.bf_protocol.specs.declared.request.Asked.TheVariants as asked
use Rattle.bf_protocol.specs.declared.request.Refusal.{Refusal}
use Rattle.bf_protocol.specs.declared.request.Refusal.TheVariants as refusal
use Rattle.bf_protocol.specs.declared.request.Verb.{Verb}
use Rattle.bf_protocol.specs.declared.request.Verb.TheVariants as verb
use Rattle.bf_protocol.specs.Requests.{HasNumbersWithin, IsFromOneTo, asked_with, asks_for, certificate_of, from_one_to, give_of, learn_of, number_in, number_to, outcome_of, pick_of, post_of, wanted_of}

-- a request for a number up to this one has its numbers within
abbrev Takes : ℕ → (ℕ → Asked) → Type 0
Takes most request = (n : ℕ) → IsFromOneTo most n → HasNumbersWithin (request n)

within_if : (most n : ℕ) (request : ℕ → Asked) (why : Refusal) → Takes most request → (b : Bool) → (nat_le 1 n && nat_le n most) ≡ b
    → IfOk (asks_for request (ok_or (cond b (Some n) None) why)) HasNumbersWithin
within_if most n request why takes true is =
    let parts = and_parts (nat_le 1 n) (nat_le n most) is in takes n (leb-true 1 n parts.0, leb-true n most parts.1)
within_if most n request why takes false is = tt

within_from : (most : ℕ) (request : ℕ → Asked) (why : Refusal) → Takes most request → (number : Option ℕ)
    → IfOk (asks_for request (ok_or (from_one_to most number) why)) HasNumbersWithin
within_from most request why takes None = tt
within_from most request why takes (Some n) = within_if most n request why takes (nat_le 1 n && nat_le n most) refl

within : (most : ℕ) (request : ℕ → Asked) (why : Refusal) → Takes most request → (word : List ℕ)
    → IfOk (asks_for request (ok_or (number_to most word) why)) HasNumbersWithin
within most request why takes word = within_from most request why takes (number_in word)

pick_within : (words : List (List ℕ)) → IfOk (pick_of words) HasNumbersWithin
pick_within [] = tt
pick_within (worker ∷ []) = within 1024 asked.Pick refusal.BadWorker (λ n h. h) worker
pick_within (worker ∷ word ∷ words) = tt

post_within : (words : List (List ℕ)) → IfOk (post_of words) HasNumbersWithin
post_within [] = tt
post_within (worker ∷ []) = tt
post_within (worker ∷ outcome ∷ []) = within 1024 (λ w. asked.Post w (outcome_of outcome)) refusal.BadWorker (λ n h. h) worker
post_within (worker ∷ outcome ∷ word ∷ words) = tt

give_within : (words : List (List ℕ)) → IfOk (give_of words) HasNumbersWithin
give_within [] = tt
give_within (worker ∷ []) = within 1024 asked.Give refusal.BadWorker (λ n h. h) worker
give_within (worker ∷ word ∷ words) = tt

learn_within : (words : List (List ℕ)) → IfOk (learn_of words) HasNumbersWithin
learn_within [] = tt
learn_within (search ∷ []) = tt
learn_within (search ∷ commit ∷ []) = tt
learn_within (search ∷ commit ∷ outcome ∷ []) = within 64 (λ s. asked.Learn s (outcome_of outcome)) refusal.BadSearch (λ n h. h) search
learn_within (search ∷ commit ∷ outcome ∷ word ∷ words) = tt

wanted_within : (words : List (List ℕ)) → IfOk (wanted_of words) HasNumbersWithin
wanted_within [] = tt
wanted_within (commit ∷ []) = tt
wanted_within (commit ∷ word ∷ words) = tt

certificate_within : (words : List (List ℕ)) → IfOk (certificate_of words) HasNumbersWithin
certificate_within [] = tt
certificate_within (search ∷ []) = within 64 asked.Certificate refusal.BadSearch (λ n h. h) search
certificate_within (search ∷ word ∷ words) = tt

pub asked_within : (v : Verb) (words : List (List ℕ)) → IfOk (asked_with v words) HasNumbersWithin
asked_within verb.Words words = tt
asked_within verb.Search words = tt
asked_within verb.Pick words = pick_within words
asked_within verb.Post words = post_within words
asked_within verb.Give words = give_within words
asked_within verb.Learn words = learn_within words
asked_within verb.Wanted words = wanted_within words
asked_within verb.Certificate words = certificate_within words
