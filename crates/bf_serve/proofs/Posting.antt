-- What a post and a giving back leave.
use Rattle.std.proofs.Common.{◌≡◌, ℕ, List, ◌++◌, Option, Some, None, Result, Ok, Err, ap, ◌∙◌}
use Rattle.std.specs.List.{slice_get}
use Rattle.bf_many.specs.declared.answers.Held.{Held}
use Rattle.bf_many.specs.Cores.{machines_of}
use Rattle.bf_many.specs.Many.{FarmMachine, held_by}
use Rattle.bf_protocol.specs.declared.request.Refusal.{Refusal}
use Rattle.bf_protocol.specs.declared.request.Refusal.TheVariants.{WorkerHasNoTest}
use Rattle.bf_protocol.specs.Events.{Refused, reply_text}
use Rattle.bf_protocol.specs.Requests.{refusal_line}
use Rattle.bf_search.specs.declared.farm.Event.TheVariants.{Post as Posted, Give as Given}
use Rattle.bf_search.specs.declared.outcomes.Outcome.{Outcome}
use Rattle.bf_serve.specs.declared.opening.Opening.{Opening}
use Rattle.bf_serve.specs.declared.session.Session.{Session}
use Rattle.bf_serve.specs.Searches.{read_by}
use Rattle.bf_serve.specs.Serving.{changed, give_turn, given, given_in, post_turn, posted, posted_as, posted_in, refused_as, stepped}
use Rattle.bf_serve.specs.Steps.{IsServing, Serves, searches_in}
use Rattle.bf_serve.proofs.Sessions.{as_turn, served_refused}

pub served_post : (s new : Session) (worker : ℕ) (outcome : Result Outcome Refusal) (held : Held) (before after : List ℕ)
    → held_by (machines_of s.many) worker ≡ Some held → Serves (posted_as s.history.now (searches_in s) worker held outcome) s new before after
    → Serves (post_turn s.history.now (searches_in s) worker outcome) s new before after
served_post s new worker outcome held before after has h =
    as_turn (post_turn s.history.now (searches_in s) worker outcome) (posted_as s.history.now (searches_in s) worker held outcome) s new before after
    (ap (posted s.history.now (searches_in s) worker outcome) has) h

pub served_not_posted : (s : Session) (worker : ℕ) (outcome : Result Outcome Refusal) (before after : List ℕ) → IsServing s
    → held_by (machines_of s.many) worker ≡ None → after ≡ before ++ reply_text (Refused (refusal_line WorkerHasNoTest))
    → Serves (post_turn s.history.now (searches_in s) worker outcome) s s before after
served_not_posted s worker outcome before after is none text =
    as_turn (post_turn s.history.now (searches_in s) worker outcome) (refused_as (searches_in s) WorkerHasNoTest) s s before after
    (ap (posted s.history.now (searches_in s) worker outcome) none) (served_refused s (refusal_line WorkerHasNoTest) before after is text)

pub served_no_outcome : (s : Session) (worker : ℕ) (refusal : Refusal) (held : Held) (before after : List ℕ) → IsServing s
    → after ≡ before ++ reply_text (Refused (refusal_line refusal))
    → Serves (posted_as s.history.now (searches_in s) worker held (Err refusal)) s s before after
served_no_outcome s worker refusal held before after is text = served_refused s (refusal_line refusal) before after is text

pub served_posted : (s new : Session) (worker : ℕ) (held : Held) (outcome : Outcome) (o : Opening) (m : FarmMachine) (before after : List ℕ)
    → slice_get s.openings.items held.search ≡ Some o → slice_get (machines_of s.many) held.search ≡ Some m
    → Serves (changed s.history.now (searches_in s) held.search o m (stepped m (Posted worker held.place (read_by o outcome)))) s new before after
    → Serves (posted_as s.history.now (searches_in s) worker held (Ok outcome)) s new before after
served_posted s new worker held outcome o m before after opened at h =
    as_turn (posted_as s.history.now (searches_in s) worker held (Ok outcome))
    (changed s.history.now (searches_in s) held.search o m (stepped m (Posted worker held.place (read_by o outcome)))) s new before after
    (ap (λ (x : Option Opening). posted_in s.history.now (searches_in s) worker held outcome x (slice_get (machines_of s.many) held.search)) opened
    ∙ ap (posted_in s.history.now (searches_in s) worker held outcome (Some o)) at) h

pub served_not_given : (s : Session) (worker : ℕ) (before after : List ℕ) → IsServing s
    → held_by (machines_of s.many) worker ≡ None → after ≡ before ++ reply_text (Refused (refusal_line WorkerHasNoTest))
    → Serves (give_turn s.history.now (searches_in s) worker) s s before after
served_not_given s worker before after is none text =
    as_turn (give_turn s.history.now (searches_in s) worker) (refused_as (searches_in s) WorkerHasNoTest) s s before after
    (ap (given s.history.now (searches_in s) worker) none) (served_refused s (refusal_line WorkerHasNoTest) before after is text)

pub served_given : (s new : Session) (worker : ℕ) (held : Held) (o : Opening) (m : FarmMachine) (before after : List ℕ)
    → held_by (machines_of s.many) worker ≡ Some held
    → slice_get s.openings.items held.search ≡ Some o → slice_get (machines_of s.many) held.search ≡ Some m
    → Serves (changed s.history.now (searches_in s) held.search o m (stepped m (Given worker held.place))) s new before after
    → Serves (give_turn s.history.now (searches_in s) worker) s new before after
served_given s new worker held o m before after has opened at h =
    as_turn (give_turn s.history.now (searches_in s) worker)
    (changed s.history.now (searches_in s) held.search o m (stepped m (Given worker held.place))) s new before after
    (ap (given s.history.now (searches_in s) worker) has
    ∙ ap (λ (x : Option Opening). given_in s.history.now (searches_in s) worker held x (slice_get (machines_of s.many) held.search)) opened
    ∙ ap (given_in s.history.now (searches_in s) worker held (Some o)) at) h
