-- A stream grows by its next commits.
use Rattle.std.proofs.Common.{◌≡◌, ℕ, zero, suc, ◌+◌, ◌-◌, ◌≤◌, List, ◌++◌, Option, Result, Ok, Err, OnErr, refl, sym, ap, ◌∙◌, arith, add-zero, add-one}
use Rattle.std.proofs.Common.{append_assoc, append-nil}
use Rattle.bf_gen.specs.Streams.{next_state, state_of, commit_text, stream}
use Rattle.bf_gen.specs.Steps.{states_on, commits_from}
use Rattle.bf_io.specs.Told.{Appends, AppendsFront}
use Rattle.bf_io.proofs.Told.{Appends-nil, Appends-trans, AppendsFront-all, AppendsFront-first, AppendsFront-second}

pub commits_more : (state first count : ℕ)
    → commits_from state first (count + 1) ≡ commits_from state first count ++ commit_text (states_on state count) (first + count)
unfolding commits_from
commits_more state first count = rw (add-one count) refl

pub states_more : (state count : ℕ) → states_on state (count + 1) ≡ next_state (states_on state count)
unfolding states_on
states_more state count = rw (add-one count) refl

pub states : (number done count : ℕ) → state_of number (done + count) ≡ states_on (state_of number done) count
unfolding states_on state_of
states number done zero = ap (state_of number) (add-zero done)
states number done (suc count) =
    let next : done + suc count ≡ suc (done + count) = omega arith in
    ap (state_of number) next ∙ ap next_state (states number done count)

pub grows : (number done count : ℕ) → stream number (done + count) ≡ stream number done ++ commits_from (state_of number done) done count
unfolding stream commits_from
grows number done zero = ap (stream number) (add-zero done) ∙ sym (append-nil (stream number done))
grows number done (suc count) =
    let next : done + suc count ≡ suc (done + count) = omega arith in
    ap (stream number) next
    ∙ ap (λ l. l ++ commit_text (state_of number (done + count)) (done + count)) (grows number done count)
    ∙ append_assoc (stream number done) (commits_from (state_of number done) done count) (commit_text (state_of number (done + count)) (done + count))
    ∙ ap (λ s. stream number done ++ (commits_from (state_of number done) done count ++ commit_text s (done + count))) (states number done count)

-- the stream up to a later commit
pub grows_to : (number done end : ℕ) → done ≤ end → stream number end ≡ stream number done ++ commits_from (state_of number done) done (end - done)
grows_to number done end h = let sum : end ≡ done + (end - done) = omega arith in ap (stream number) sum ∙ grows number done (end - done)

pub states_to : (number done end : ℕ) → done ≤ end → state_of number end ≡ states_on (state_of number done) (end - done)
states_to number done end h = let sum : end ≡ done + (end - done) = omega arith in ap (state_of number) sum ∙ states number done (end - done)

-- what is written up to a commit is a front of the stream
pub front_to : (before after : Option (List ℕ)) (number done end : ℕ) → done ≤ end → Appends before after (stream number done)
    → AppendsFront before after (stream number end)
front_to before after number done end h p =
    rw (grows_to number done end h) (AppendsFront-first before after (stream number done) (commits_from (state_of number done) done (end - done))
    (AppendsFront-all before after (stream number done) p))

-- and so is a front of the next commits behind it
pub front_in : (before between after : Option (List ℕ)) (number done next end : ℕ) (text : List ℕ) → done ≤ next → next ≤ end
    → Appends before between (stream number done)
    → text ≡ commits_from (state_of number done) done (next - done) → AppendsFront between after text → AppendsFront before after (stream number end)
front_in before between after number done next end text h k p is q =
    let whole = AppendsFront-second before between after (stream number done) text p q in
    let same : stream number next ≡ stream number done ++ text = grows_to number done next h ∙ ap (λ l. stream number done ++ l) (sym is) in
    let rest = commits_from (state_of number next) next (end - next) in
    rw (grows_to number next end k, same) (AppendsFront-first before after (stream number done ++ text) rest whole)

pub whole_to : (before between after : Option (List ℕ)) (number done next : ℕ) (text : List ℕ) → done ≤ next → Appends before between (stream number done)
    → text ≡ commits_from (state_of number done) done (next - done) → Appends between after text → Appends before after (stream number next)
whole_to before between after number done next text h p is q =
    let same : stream number next ≡ stream number done ++ text = grows_to number done next h ∙ ap (λ l. stream number done ++ l) (sym is) in
    rw same (Appends-trans before between after (stream number done) text p q)

-- ---- the first commits of some

pub none_yet : (old : List ℕ) (state first : ℕ) → old ≡ old ++ commits_from state first (first - first)
unfolding commits_from
none_yet old state first = let none : first - first ≡ 0 = omega arith in rw none (sym (append-nil old))

pub no_step : (state first : ℕ) → state ≡ states_on state (first - first)
unfolding states_on
no_step state first = let none : first - first ≡ 0 = omega arith in rw none refl

pub next_text : (old before new : List ℕ) (start state first commit : ℕ) → first ≤ commit → before ≡ old ++ commits_from start first (commit - first)
    → state ≡ states_on start (commit - first) → new ≡ before ++ commit_text state commit → new ≡ old ++ commits_from start first (commit + 1 - first)
next_text old before new start state first commit h before_is state_is new_is =
    let count = commit - first in
    let next : commit + 1 - first ≡ count + 1 = omega arith in
    let place : first + count ≡ commit = omega arith in
    let here : commit_text state commit ≡ commit_text (states_on start count) (first + count) =
    ap (λ s. commit_text s commit) state_is ∙ ap (λ c. commit_text (states_on start count) c) (sym place) in
    let more : commits_from start first count ++ commit_text state commit ≡ commits_from start first (commit + 1 - first) =
    ap (λ l. commits_from start first count ++ l) here ∙ sym (commits_more start first count) ∙ ap (commits_from start first) (sym next) in
    new_is ∙ ap (λ l. l ++ commit_text state commit) before_is ∙ append_assoc old (commits_from start first count) (commit_text state commit)
    ∙ ap (λ l. old ++ l) more

pub next_states : (start state after first commit : ℕ) → first ≤ commit → state ≡ states_on start (commit - first) → after ≡ next_state state
    → after ≡ states_on start (commit + 1 - first)
next_states start state after first commit h state_is after_is =
    let next : commit + 1 - first ≡ (commit - first) + 1 = omega arith in
    after_is ∙ ap next_state state_is ∙ sym (states_more start (commit - first)) ∙ ap (states_on start) (sym next)

-- nothing is written at first
pub nothing_yet : (told : Option (List ℕ)) (number : ℕ) → Appends told told (stream number 0)
unfolding stream
nothing_yet told number = Appends-nil told

pub at_error : {T E P : Type 0} (result : Result T E) → P → OnErr result P
at_error (Ok x) p = tt
at_error (Err e) p = p

-- a text gained a piece, and then the rest
pub behind : (old piece middle rest new : List ℕ) → middle ≡ old ++ piece → new ≡ middle ++ rest → new ≡ old ++ (piece ++ rest)
behind old piece middle rest new first further = further ∙ ap (λ l. l ++ rest) first ∙ append_assoc old piece rest
