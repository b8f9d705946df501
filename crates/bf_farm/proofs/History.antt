-- The history of a board: one event more, and the claims that stand then.
use Rattle.std.proofs.Common.{◌≡◌, inl, inr, ℕ, ◌<◌, ◌≤◌, ◌+◌, suc, Bool, true, false, not, ◌&&◌, ◌||◌, ◌==◌, cond, List, [], ◌∷◌, ◌++◌, length, All, Option, Some, None}
use Rattle.std.proofs.Common.{refl, sym, ap, subst, ◌∙◌, arith, length-append, eqb-true}
use Rattle.std.specs.List.{find}
use Rattle.std.specs.Option.{option_map}
use Rattle.std.proofs.lemmas.Bool.{and_parts, or_cases}
use Rattle.std.proofs.lemmas.Grind.{flat_map-append}
use Rattle.std.proofs.lemmas.List.{append-nil}
use Rattle.std.proofs.lemmas.List.Elements.{All-nil, All-push, All-head, All-tail, All-filter}
use Rattle.std.proofs.lemmas.List.Filters.{length-filter_both}
use Rattle.bf_search.specs.declared.farm.Claim.{Claim}
use Rattle.bf_search.specs.declared.farm.Event.{Event}
use Rattle.bf_search.specs.declared.farm.Event.TheVariants as events
use Rattle.bf_search.specs.declared.outcomes.Outcome.{Outcome}
use Rattle.bf_search.specs.Farm.{Setting, Farm, step, after_events, has_claim, stands, without, is_best, best_place}
use Rattle.bf_core.specs.Machine.{Machine, IsStep, ClaimsWork}
use Rattle.bf_core.specs.declared.answers.Pick.{Pick}
use Rattle.bf_core.specs.declared.answers.Pick.TheVariants.{Work}
use Rattle.bf_farm.specs.Boards.{BoardView, LeadsTo, unclaimed, claimed_by, Does, DoesIf, IsLed, is_claimed}
use Rattle.bf_farm.specs.Doers.{AreDoneBy, IsOneOf, worker_of}
use Rattle.bf_farm.specs.Posts.{post_in, posts_of}
use Rattle.bf_farm.specs.Sound.{IsSoundEvent, GivesBack}

-- what follows one event more
pub after_one_more : (setting : Setting) (start : Option Farm) (es : List Event) (e : Event) (farm next : Farm)
    → after_events setting start es ≡ Some farm → step setting farm e ≡ Some next → after_events setting start (es ++ e ∷ []) ≡ Some next
after_one_more setting start [] e farm next led done =
    subst (λ (s : Option Farm). after_events setting s (e ∷ []) ≡ Some next) (sym led) done
after_one_more setting None (x ∷ es) e farm next led done = cc
after_one_more setting (Some f) (x ∷ es) e farm next led done = after_one_more setting (step setting f x) es e farm next led done

-- ---- the claims that stand

pub chosen : (b : Bool) (x next : Farm) → cond b (Some x) None ≡ Some next → x ≡ next
chosen true x next e = cc
chosen false x next e = cc

at_most : (claims : List Claim) (worker : ℕ) → length (without claims worker) ≤ length claims
at_most claims worker = omega (
  arith,
  length-filter_both (λ (c : Claim). not (c.worker == worker)) (λ (c : Claim). not (not (c.worker == worker)))
      (λ c. refl) claims,
)

fewer_after : (b q s : Bool) (c : Claim) (rest claims : List Claim) → ((b && q) || s) ≡ true → length rest ≤ length claims
    → (s ≡ true → length rest < length claims) → length (cond (not b) (c ∷ rest) rest) < suc (length claims)
fewer_after true q s c rest claims h most more = omega arith
fewer_after false q s c rest claims h most more = let l : length rest < length claims = more h in omega arith

-- a claim that stands is among the claims
pub fewer : (claims : List Claim) (worker p : ℕ) → stands claims worker p ≡ true → length (without claims worker) < length claims
fewer [] worker p h = cc
fewer (c ∷ claims) worker p h =
    fewer_after (c.worker == worker) (c.place == p) (stands claims worker p) c (without claims worker) claims h (at_most claims worker)
    (fewer claims worker p)

pub claims_after_claim : (setting : Setting) (farm next : Farm) (worker p : ℕ) → step setting farm (events.Claim worker p) ≡ Some next
    → length next.claims ≡ length farm.claims + 1
claims_after_claim setting farm next worker p e =
    let same = chosen (not (has_claim farm.claims worker) && is_best (best_place setting farm) p)
    (record farm { claims = farm.claims ++ (record { worker = worker; place = p }) ∷ [] }) next e in
    subst (λ (f : Farm). length f.claims ≡ length farm.claims + 1) same
    (omega (arith, length-append farm.claims ((record { worker = worker; place = p }) ∷ [])))

pub claims_after_post : (setting : Setting) (farm next : Farm) (worker p : ℕ) (outcome : Outcome) → stands farm.claims worker p ≡ true
    → step setting farm (events.Post worker p outcome) ≡ Some next → length next.claims < length farm.claims
claims_after_post setting farm next worker p outcome h e =
    subst (λ (f : Farm). length f.claims < length farm.claims) (chosen (stands farm.claims worker p) _ next e) (fewer farm.claims worker p h)

pub claims_after_give : (setting : Setting) (farm next : Farm) (worker p : ℕ) → stands farm.claims worker p ≡ true
    → step setting farm (events.Give worker p) ≡ Some next → length next.claims < length farm.claims
claims_after_give setting farm next worker p h e =
    subst (λ (f : Farm). length f.claims < length farm.claims) (chosen (stands farm.claims worker p) _ next e) (fewer farm.claims worker p h)

-- a worker for whom no claim is found has none
found : (b : Bool) (c : Claim) (rest : Option Claim) (s : Bool) → option_map (λ (k : Claim). k.place) (cond b (Some c) rest) ≡ None
    → (option_map (λ (k : Claim). k.place) rest ≡ None → s ≡ false) → (b || s) ≡ false
found true c rest s e h = cc
found false c rest s e h = h e

pub no_claim : (claims : List Claim) (worker : ℕ) → claimed_by claims worker ≡ None → has_claim claims worker ≡ false
no_claim [] worker e = refl
no_claim (c ∷ claims) worker e = found (c.worker == worker) c (find (λ (k : Claim). k.worker == worker) claims) (has_claim claims worker) e
    (no_claim claims worker)

-- ---- a core after an event

pub leads_more : (old new : Setting) (first : List (Option Outcome)) (es more : List Event) (e : Event) (farm next : Farm)
    → LeadsTo old first es farm → step old farm e ≡ Some next → new ≡ old → more ≡ es ++ e ∷ [] → LeadsTo new first more next
leads_more old new first es more e farm next led done same noted =
    subst (λ (s : Setting). LeadsTo s first more next) (sym same)
    (subst (λ (l : List Event). LeadsTo old first l next) (sym noted) (after_one_more old (Some (unclaimed first)) es e farm next led done))

pub claimed : (old new : Machine) (worker p : ℕ) (pick : Pick) → ClaimsWork old worker new pick → pick ≡ Work p → IsStep old (events.Claim worker p) new
claimed old new worker p pick work is = subst (λ (k : Pick). ClaimsWork old worker new k) is work

-- any event leaves at most one claim more
pub claims_after : (setting : Setting) (farm next : Farm) (e : Event) → step setting farm e ≡ Some next → length next.claims ≤ length farm.claims + 1
claims_after setting farm next (events.Claim worker p) h = let more = claims_after_claim setting farm next worker p h in omega arith
claims_after setting farm next (events.Post worker p outcome) h =
    subst (λ (f : Farm). length f.claims ≤ length farm.claims + 1) (chosen (stands farm.claims worker p) _ next h)
    (let most = at_most farm.claims worker in omega arith)
claims_after setting farm next (events.Give worker p) h =
    subst (λ (f : Farm). length f.claims ≤ length farm.claims + 1) (chosen (stands farm.claims worker p) _ next h)
    (let most = at_most farm.claims worker in omega arith)

-- ---- who has claims

-- the claims are those of so many workers
abbrev pub AreClaimedBy : ℕ → List Claim → Type 0
AreClaimedBy workers claims = All (λ (c : Claim). IsOneOf workers c.worker) claims

pub claims_by : (workers : ℕ) (setting : Setting) (farm next : Farm) (e : Event) → step setting farm e ≡ Some next → IsOneOf workers (worker_of e)
    → AreClaimedBy workers farm.claims → AreClaimedBy workers next.claims
claims_by workers setting farm next (events.Claim worker p) done by before =
    subst (λ (f : Farm). AreClaimedBy workers f.claims) (chosen _ _ next done)
    (All-push (λ (c : Claim). IsOneOf workers c.worker) farm.claims (record { worker = worker; place = p }) before by)
claims_by workers setting farm next (events.Post worker p outcome) done by before =
    subst (λ (f : Farm). AreClaimedBy workers f.claims) (chosen _ _ next done)
    (All-filter (λ (c : Claim). not (c.worker == worker)) (λ (c : Claim). IsOneOf workers c.worker) farm.claims before)
claims_by workers setting farm next (events.Give worker p) done by before =
    subst (λ (f : Farm). AreClaimedBy workers f.claims) (chosen _ _ next done)
    (All-filter (λ (c : Claim). not (c.worker == worker)) (λ (c : Claim). IsOneOf workers c.worker) farm.claims before)

claims_led : (workers : ℕ) (setting : Setting) (start : Option Farm) (es : List Event) (farm : Farm) → after_events setting start es ≡ Some farm
    → AreDoneBy workers es → ((f : Farm) → start ≡ Some f → AreClaimedBy workers f.claims) → AreClaimedBy workers farm.claims
claims_led workers setting start [] farm led by first = first farm led
claims_led workers setting None (e ∷ es) farm led by first = absurd (cc led)
claims_led workers setting (Some f) (e ∷ es) farm led by first =
    claims_led workers setting (step setting f e) es farm led (All-tail (λ (x : Event). IsOneOf workers (worker_of x)) e es by)
    (λ g done. claims_by workers setting f g e done (All-head (λ (x : Event). IsOneOf workers (worker_of x)) e es by) (first f refl))

-- a claim that stands is one of them
pub standing_by : (workers : ℕ) (claims : List Claim) (worker p : ℕ) → stands claims worker p ≡ true → AreClaimedBy workers claims → IsOneOf workers worker
standing_by workers [] worker p here all = absurd (cc here)
standing_by workers (c ∷ claims) worker p here all =
    elim (or_cases ((c.worker == worker) && (c.place == p)) (stands claims worker p) here) [
      | inl this ↦ subst (λ (w : ℕ). IsOneOf workers w) (eqb-true c.worker worker (and_parts _ _ this).0)
          (All-head (λ (x : Claim). IsOneOf workers x.worker) c claims all)
      | inr later ↦ standing_by workers claims worker p later (All-tail (λ (x : Claim). IsOneOf workers x.worker) c claims all)
    ]

-- a claim that stands is that of a worker who did something
claimed_by_one : (workers : ℕ) (b : BoardView) (worker p : ℕ) → IsLed b → AreDoneBy workers b.events → is_claimed b worker p ≡ true → IsOneOf workers worker
claimed_by_one workers b worker p led by here =
    standing_by workers b.core.farm.claims worker p here
    (claims_led workers b.core.setting (Some (unclaimed b.first)) b.events b.core.farm led by
    (λ f e. subst (λ (g : Farm). AreClaimedBy workers g.claims) (some_farm (unclaimed b.first) f e) (All-nil (λ (c : Claim). IsOneOf workers c.worker))))
  where
    some_farm : (x y : Farm) → Some x ≡ Some y → x ≡ y
    some_farm x y e = cc e

done_more : (workers : ℕ) (old new : BoardView) (e : Event) → IsOneOf workers (worker_of e) → Does old new e → AreDoneBy workers old.events
    → AreDoneBy workers new.events
done_more workers old new e by does before =
    subst (λ (l : List Event). AreDoneBy workers l) (sym does.noted) (All-push (λ (x : Event). IsOneOf workers (worker_of x)) old.events e before by)

pub done_if : (workers : ℕ) (legal : Bool) (old new : BoardView) (e : Event) → IsOneOf workers (worker_of e) → DoesIf legal old new e
    → AreDoneBy workers old.events → AreDoneBy workers new.events
done_if workers true old new e by does before = done_more workers old new e by does before
done_if workers false old new e by same before = subst (λ (l : List Event). AreDoneBy workers l) (sym same.events) before

-- ---- claims given back

pub done_where : (b : Bool) (old new : BoardView) (e : Event) → DoesIf b old new e → b ≡ true → Does old new e
done_where b old new e does is = subst (λ (v : Bool). DoesIf v old new e) is does

give_keeps_table : (setting : Setting) (farm next : Farm) (worker p : ℕ) → step setting farm (events.Give worker p) ≡ Some next → next.table ≡ farm.table
give_keeps_table setting farm next worker p e =
    subst (λ (f : Farm). f.table ≡ farm.table) (chosen (stands farm.claims worker p) (record farm { claims = without farm.claims worker }) next e) refl

pub gives_none : (b : BoardView) → GivesBack b b
gives_none b = record { start = record { setting = refl; first = refl }; first = refl; table = refl; posts = λ told names answers h. h; workers = λ workers h. h; same_posts = refl }

pub gives_more : (a b c : BoardView) (worker p : ℕ) → IsLed b → is_claimed b worker p ≡ true → GivesBack a b → Does b c (events.Give worker p) → GivesBack a c
gives_more a b c worker p led here given does = record {
  start = record { setting = does.start.setting ∙ given.start.setting; first = does.start.first ∙ given.start.first };
  first = does.first ∙ given.first;
  table = give_keeps_table b.core.setting b.core.farm c.core.farm worker p does.done ∙ given.table;
  posts = λ told names answers h.
      subst (λ (l : List Event). All (λ e. IsSoundEvent told names answers e) l) (sym does.noted)
      (All-push (λ (e : Event). IsSoundEvent told names answers e) b.events (events.Give worker p) (given.posts told names answers h) tt);
  workers = λ workers h.
      let before = given.workers workers h in
      done_more workers b c (events.Give worker p) (claimed_by_one workers b worker p led before here) does before;
  same_posts = ap (λ (l : List Event). posts_of l) does.noted ∙ flat_map-append post_in b.events (events.Give worker p ∷ [])
      ∙ append-nil (posts_of b.events) ∙ given.same_posts;
}

pub fewer_given : (a b : BoardView) (worker p : ℕ) → Does a b (events.Give worker p) → stands a.core.farm.claims worker p ≡ true
    → length b.core.farm.claims < length a.core.farm.claims
fewer_given a b worker p does h = claims_after_give a.core.setting a.core.farm b.core.farm worker p h does.done
