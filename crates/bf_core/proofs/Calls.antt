-- What the calls of a core leave.
use Rattle.std.proofs.Common.{◌≡◌, ◌≢◌, ℕ, ◌<◌, ◌↔◌, true, false, not, ◌&&◌, eqb-true, List, [], ◌∷◌, ◌++◌, length, set, Option, Some, None, refl, sym, ap, ◌∙◌, subst, arith}
use Rattle.std.proofs.lemmas.Bool.{and_parts, cond-false, false_from_ne_true, not-true}
use Rattle.std.proofs.lemmas.List.{length-set}
use Rattle.bf_graph.specs.Graph.{IsGraph}
use Rattle.bf_search.specs.declared.entries.Entry.{Entry}
use Rattle.bf_search.specs.declared.farm.Claim.{Claim}
use Rattle.bf_search.specs.declared.farm.Ending.{Ending}
use Rattle.bf_search.specs.declared.farm.Ending.TheVariants as endings
use Rattle.bf_search.specs.declared.farm.Event.TheVariants.{Claim as Claimed, Post as Posted, Give as Given}
use Rattle.bf_search.specs.declared.outcomes.Outcome.{Outcome}
use Rattle.bf_search.specs.declared.outcomes.Mark.{Mark}
use Rattle.bf_search.specs.Outcomes.{Outcomes, outcomes_of_table}
use Rattle.bf_search.specs.State.{Search, IsSearchOver, ask, mark}
use Rattle.bf_search.specs.Run.{End, Answered, Leg, Open, Aborted, Run}
use Rattle.bf_search.specs.OpenPaths.{Leads, best_open, place_of}
use Rattle.bf_search.proofs.Turns.{asking}
use Rattle.bf_search.specs.Farm.{Setting, Farm, consumed, place_at, best_place, is_best, has_claim, stands, without, step}
use Rattle.bf_state.specs.Runs.{is_open}
use Rattle.bf_state.specs.Session.{Session, with_search}
use Rattle.bf_spec.specs.Walks.{Tells}
use Rattle.bf_spec.specs.Tree.{Guesses}
use Rattle.bf_state.specs.Ends.{marks_of}
use Rattle.bf_core.specs.declared.consuming.Consumed.{Consumed}
use Rattle.bf_core.specs.Claims.{AreClaims, IsFree}
use Rattle.bf_core.specs.Consuming.{IsRunOn, IsSameRun, Begins, Consumes, best_at, Asks, IsUnwanted, IsCore}
use Rattle.bf_core.specs.Machine.{Machine, seen, setting_of, farm_of, run_of, IsConsumed, IsSameButNodes, IsStep, IsLearnt, WantsOutcome, IsAllTaken, LeavesClaim, MayClaim, IsWithdrawn, IsUnmoved, IsLegOver}
use Rattle.bf_core.proofs.Opened.{best_is_free}
use Rattle.bf_core.proofs.Joining.{told_open, same_is_run}
use Rattle.bf_core.proofs.Beside.{seq_stays, told_alike, none_is_open, leg_told}
use Rattle.bf_state.proofs.Causes.{leg_ends, leg_made}
use Rattle.bf_core.proofs.Standing.{part_put, put_elsewhere, put_back, claims_without, claims_posted, claims_pushed, no_claims, step_post}
use Rattle.bf_core.proofs.Standing.{step_give, step_claim}

pub consumed_of : (first : Session) (leg : ℕ) (table : List (Option Outcome)) (claims : List Claim) (run : Consumed) → IsCore first leg table claims run
    → IsConsumed (seen first leg table claims run)
consumed_of first leg table claims run h = record { entries = h.run.entries; state = h.run.state; ending = h.run.ending }

pub waits : (core : Machine) → IsConsumed core → (core.ending ≡ None) ↔ (is_open (run_of core).end ≡ true)
waits core h = none_is_open core.ending (run_of core).end h.ending

pub leg_over : (first : Session) (leg : ℕ) (table : List (Option Outcome)) (claims : List Claim) (run : Consumed) → IsCore first leg table claims run
    → (run.ending ≡ Some endings.Leg) ↔ IsLegOver (seen first leg table claims run)
leg_over first leg table claims run h =
    let whole : Run = consumed (setting_of (seen first leg table claims run)) table in
    let told = leg_told run.ending whole.end h.run.ending in (
      λ e. let over = leg_ends run.tree.graph (outcomes_of_table table) h.parents first.search leg h.over (told.0 e) in record
          { has_end = over.0; made = ap (λ (es : List Entry). length (marks_of es)) h.run.entries ∙ over.1 },
      λ over. told.1 (leg_made run.tree.graph (outcomes_of_table table) h.parents first.search leg h.over over.has_end
          (ap (λ (es : List Entry). length (marks_of es)) (sym h.run.entries) ∙ over.made)),
    )

-- ---- a start

-- what a core keeps, from its first run
pub starts : (graph : List (List ℕ)) (state : Session) (table : List (Option Outcome)) (leg : ℕ) (tree : Guesses) (run : Consumed) → IsGraph graph
    → IsSearchOver graph state.search → length table ≡ length graph
    → tree.graph ≡ graph → tree.session ≡ with_search state tree.root.search → tree.root ≡ ask graph state.search → Begins tree table leg run
    → IsCore state leg table [] run × (run.tree.graph ≡ graph)
starts graph state table leg tree run g over len on_graph on_session asked begins =
    let first : with_search tree.session state.search ≡ state = ap (λ (s : Session). with_search s state.search) on_session in
    let h : IsRunOn (record { graph = tree.graph; start = state.search; leg = leg }) (with_search tree.session state.search) table run
    = begins state.search (subst IsGraph (sym on_graph) g) (subst (λ (x : List (List ℕ)). IsSearchOver x state.search) (sym on_graph) over)
    (asked ∙ ap (λ (x : List (List ℕ)). ask x state.search) (sym on_graph)) in
    let e : run.tree.graph ≡ tree.graph = h.graph in
    let all : run.tree.graph ≡ graph = e ∙ on_graph in (
      record {
        parents = subst IsGraph (sym all) g;
        over = subst (λ (x : List (List ℕ)). IsSearchOver x state.search) (sym all) over;
        len = len ∙ ap (λ (x : List (List ℕ)). length x) (sym all);
        run = subst (λ (x : List (List ℕ)). IsRunOn (record { graph = x; start = state.search; leg = leg }) state table run) (sym e)
            (subst (λ (s : Session). IsRunOn (record { graph = tree.graph; start = state.search; leg = leg }) s table run) first h);
        standing = no_claims table;
      },
      all,
    )

-- ---- a giving back

pub core_given : (first : Session) (leg : ℕ) (table : List (Option Outcome)) (claims left : List Claim) (run : Consumed) (worker : ℕ)
    → left ≡ without claims worker → IsCore first leg table claims run → IsCore first leg table left run
core_given first leg table claims left run worker e h =
    record {
      parents = h.parents;
      over = h.over;
      len = h.len;
      run = h.run;
      standing = subst (λ (cs : List Claim). AreClaims table cs) (sym e)
          (claims_without table claims worker h.standing);
    }

pub gives : (old : Machine) (left : List Claim) (worker p : ℕ) → stands old.claims worker p ≡ true → left ≡ without old.claims worker
    → IsStep old (Given worker p) (record old { claims = left })
gives old left worker p h e = record {
  farm = step_give (setting_of old) (farm_of old) worker p h ∙ ap (λ (cs : List Claim). Some (record (farm_of old) { claims = cs })) (sym e);
  setting = refl;
  first = refl;
}

-- ---- a pick

place_closed : (setting : Setting) (farm : Farm) (run : Run) (end : End) → is_open end ≡ false → place_at setting farm run end ≡ None
place_closed setting farm run (Open p) h = cc
place_closed setting farm run (Answered a) h = refl
place_closed setting farm run Leg h = refl
place_closed setting farm run (Aborted p outcome) h = refl

-- the best place from the root is the best open place
pub best_is : (o : Option Ending) (first : Session) (leg : ℕ) (table : List (Option Outcome)) (claims : List Claim) (run : Consumed) → run.ending ≡ o
    → IsCore first leg table claims run
    → best_at o run.tree table claims ≡ best_place (setting_of (seen first leg table claims run)) (farm_of (seen first leg table claims run))
best_is None first leg table claims run e h =
    let setting : Setting = setting_of (seen first leg table claims run) in
    let whole : Run = consumed setting table in
    let place = told_open whole.end (subst (λ (o : Option Ending). Tells o whole.end) e h.run.ending) in
    ap (λ (s : Search). place_of (best_open run.tree.graph (outcomes_of_table table) claims s)) (h.run.waits place.0 place.1).search
    ∙ ap (λ (end : End). place_at setting (farm_of (seen first leg table claims run)) whole end) (sym place.1)
best_is (Some ending) first leg table claims run e h =
    let setting : Setting = setting_of (seen first leg table claims run) in
    let whole : Run = consumed setting table in
    let told : Tells (Some ending) whole.end = subst (λ (o : Option Ending). Tells o whole.end) e h.run.ending in
    sym (place_closed setting (farm_of (seen first leg table claims run)) whole whole.end told.1)

-- the place of a pick is free
pub best_free : (first : Session) (leg : ℕ) (table : List (Option Outcome)) (claims : List Claim) (run : Consumed) (o : Option Ending) (p : ℕ)
    → IsCore first leg table claims run → best_at o run.tree table claims ≡ Some p
    → IsFree (length run.tree.graph) (outcomes_of_table table) claims p
best_free first leg table claims run None p h e = best_is_free run.tree.graph (outcomes_of_table table) claims h.parents run.tree.root.search p e
best_free first leg table claims run (Some ending) p h e = cc

-- nodes play no part in what a core keeps
pub core_same : (first : Session) (leg : ℕ) (table : List (Option Outcome)) (claims : List Claim) (old new : Consumed) → IsSameRun old new
    → IsCore first leg table claims old → IsCore first leg table claims new
core_same first leg table claims old new same h = record {
  parents = subst IsGraph (sym same.tree.graph) h.parents;
  over = subst (λ (x : List (List ℕ)). IsSearchOver x first.search) (sym same.tree.graph) h.over;
  len = h.len ∙ ap (λ (x : List (List ℕ)). length x) (sym same.tree.graph);
  run = subst (λ (x : List (List ℕ)). IsRunOn (record { graph = x; start = first.search; leg = leg }) first table new) (sym same.tree.graph)
      (same_is_run (record { graph = old.tree.graph; start = first.search; leg = leg }) first
      (consumed (record { graph = old.tree.graph; start = first.search; leg = leg }) table) old new same h.run);
  standing = h.standing;
}

pub core_picked : (first : Session) (leg : ℕ) (table : List (Option Outcome)) (claims more : List Claim) (old new : Consumed) (worker p : ℕ)
    → has_claim claims worker ≡ false → IsCore first leg table claims old → IsSameRun old new
    → best_at old.ending old.tree table claims ≡ Some p → more ≡ claims ++ record { worker = worker; place = p } ∷ [] → IsCore first leg table more new
core_picked first leg table claims more old new worker p idle h same best e =
    let free = best_free first leg table claims old old.ending p h best in
    let k = core_same first leg table claims old new same h in
    record {
      parents = k.parents;
      over = k.over;
      len = k.len;
      run = k.run;
      standing = subst (λ (cs : List Claim). AreClaims table cs) (sym e)
          (claims_pushed table claims worker p h.standing idle free.unclaimed (let l = free.within in omega (arith, h.len)) free.unknown);
    }

pub same_seen : (first : Session) (leg : ℕ) (table t : List (Option Outcome)) (claims cs : List Claim) (old new : Consumed) → IsSameRun old new → t ≡ table
    → seen first leg t cs new ≡ record (seen first leg table claims old) { claims = cs; paths = new.tree.paths }
same_seen first leg table t claims cs old new same e = λ i. record {
  graph = same.tree.graph i;
  first = first;
  leg = leg;
  table = e i;
  claims = cs;
  entries = same.entries i;
  state = same.state i;
  ending = same.ending i;
  paths = new.tree.paths;
}

pub picks : (first : Session) (leg : ℕ) (table : List (Option Outcome)) (claims more : List Claim) (old new : Consumed) (worker p : ℕ)
    → has_claim claims worker ≡ false → IsCore first leg table claims old → IsSameRun old new
    → best_at old.ending old.tree table claims ≡ Some p → more ≡ claims ++ record { worker = worker; place = p } ∷ []
    → IsStep (seen first leg table claims old) (Claimed worker p) (seen first leg table more new)
picks first leg table claims more old new worker p idle h same best e = record {
  farm = step_claim (setting_of (seen first leg table claims old)) (farm_of (seen first leg table claims old)) worker p idle
      (sym (best_is old.ending first leg table claims old refl h) ∙ best)
      ∙ ap (λ (cs : List Claim). Some (record { table = table; claims = cs })) (sym e);
  setting = ap (λ (x : List (List ℕ)). record { graph = x; start = first.search; leg = leg }) same.tree.graph;
  first = refl;
}

pub all_taken : (first : Session) (leg : ℕ) (table : List (Option Outcome)) (claims : List Claim) (run : Consumed) → IsCore first leg table claims run
    → run.ending ≡ None → best_at run.ending run.tree table claims ≡ None
    → IsAllTaken (seen first leg table claims run)
all_taken first leg table claims run h e none = record { goes_on = e; none_open = sym (best_is run.ending first leg table claims run refl h) ∙ none }

-- ---- a claim that is refused

told_best : (o : Option ℕ) (p : ℕ) → is_best o p ≡ true → o ≡ Some p
told_best None p h = cc
told_best (Some q) p h = ap (λ (x : ℕ). Some x) (eqb-true q p h)

step_refused : (setting : Setting) (farm : Farm) (worker p : ℕ) → (not (has_claim farm.claims worker) && is_best (best_place setting farm) p) ≡ false
    → step setting farm (Claimed worker p) ≡ None
step_refused setting farm worker p fails =
    cond-false (not (has_claim farm.claims worker) && is_best (best_place setting farm) p)
    (Some (record farm { claims = farm.claims ++ record { worker = worker; place = p } ∷ [] })) None fails

-- a legal claim is of a free place, while the run goes on
legal_may : (first : Session) (leg : ℕ) (table : List (Option Outcome)) (claims : List Claim) (run : Consumed) (worker p : ℕ) (o : Option Ending)
    → run.ending ≡ o → IsCore first leg table claims run → has_claim claims worker ≡ false → best_at o run.tree table claims ≡ Some p
    → MayClaim (seen first leg table claims run) worker p
legal_may first leg table claims run worker p None e h idle best = record {
  goes_on = e;
  idle = idle;
  free = subst (λ (n : ℕ). IsFree n (outcomes_of_table table) claims p) (sym h.len) (best_free first leg table claims run None p h best);
}
legal_may first leg table claims run worker p (Some ending) e h idle best = cc

-- a claim that may not be legal is not
pub hindered : (first : Session) (leg : ℕ) (table : List (Option Outcome)) (claims : List Claim) (run : Consumed) (worker p : ℕ)
    → IsCore first leg table claims run → ¬ MayClaim (seen first leg table claims run) worker p
    → step (setting_of (seen first leg table claims run)) (farm_of (seen first leg table claims run)) (Claimed worker p) ≡ None
hindered first leg table claims run worker p h may_not =
    let setting : Setting = setting_of (seen first leg table claims run) in
    let farm : Farm = farm_of (seen first leg table claims run) in
    step_refused setting farm worker p (false_from_ne_true (not (has_claim claims worker) && is_best (best_place setting farm) p)
    (λ passes.
    let both = and_parts (not (has_claim claims worker)) (is_best (best_place setting farm) p) passes in
    may_not (legal_may first leg table claims run worker p run.ending refl h (not-true (has_claim claims worker) both.0)
    (best_is run.ending first leg table claims run refl h ∙ told_best (best_place setting farm) p both.1))))

-- a claim that was refused at once has changed nothing
pub refused_at_once : (core : Machine) (worker p : ℕ) → LeavesClaim core worker p core
refused_at_once core worker p = record { nodes = record { same = refl; kept = λ path h. h }; at_once = λ h. refl }

-- one that was refused as the best open place is another
pub refused_as_other : (old new : Machine) (worker p : ℕ) → MayClaim old worker p → IsSameButNodes old new → LeavesClaim old worker p new
refused_as_other old new worker p may same = record { nodes = same; at_once = λ h. absurd (h may) }

-- ---- an outcome that is put into the table

module _ (first : Session) (leg : ℕ) (table : List (Option Outcome)) (claims : List Claim) (old new : Consumed) (p : ℕ) (outcome : Outcome)
    (h : IsCore first leg table claims old) (unknown : outcomes_of_table table p ≡ None)
    (goes_on : Consumes old (set table p (Some outcome)) new) where
  abbrev setting : Setting
  setting = record { graph = old.tree.graph; start = first.search; leg = leg }

  after : IsRunOn setting first (set table p (Some outcome)) new
  after = goes_on setting first table h.parents h.over (part_put table p outcome unknown) h.run

  core_put : (left : List Claim) → AreClaims (set table p (Some outcome)) left → IsCore first leg (set table p (Some outcome)) left new
  core_put left standing = record {
    parents = subst IsGraph (sym after.graph) h.parents;
    over = subst (λ (x : List (List ℕ)). IsSearchOver x first.search) (sym after.graph) h.over;
    len = length-set table p (Some outcome) ∙ h.len ∙ ap (λ (x : List (List ℕ)). length x) (sym after.graph);
    run = subst (λ (x : List (List ℕ)). IsRunOn (record { graph = x; start = first.search; leg = leg }) first (set table p (Some outcome)) new)
        (sym after.graph) after;
    standing = standing;
  }

  same_setting : (left : List Claim) → setting_of (seen first leg (set table p (Some outcome)) left new) ≡ setting_of (seen first leg table claims old)
  same_setting left = ap (λ (x : List (List ℕ)). record { graph = x; start = first.search; leg = leg }) after.graph

  unmoved : (left : List Claim) → (run_of (seen first leg table claims old)).end ≢ Open p
      → IsUnmoved (seen first leg table claims old) (seen first leg (set table p (Some outcome)) left new)
  unmoved left other =
      let same : consumed setting (set table p (Some outcome)) ≡ consumed setting table
      = seq_stays setting.graph (outcomes_of_table table) (outcomes_of_table (set table p (Some outcome)))
      (part_put table p outcome unknown) leg setting.start
      (λ q e. put_elsewhere table p q outcome (λ here. other (e ∙ ap (λ (x : ℕ). Open x) here))) in
      record {
        entries = after.entries ∙ ap (λ (r : Run). r.entries) same ∙ sym h.run.entries;
        state = after.state ∙ ap (λ (r : Run). with_search first r.search) same ∙ sym h.run.state;
        ending = told_alike new.ending old.ending (consumed setting table).end (subst (λ (r : Run). Tells new.ending r.end) same after.ending) h.run.ending;
      }

-- what an outcome leaves that is put beside the claims that are left
pub record IsPut (first : Session) (leg : ℕ) (table : List (Option Outcome)) (claims : List Claim) (old : Consumed) (p : ℕ) (outcome : Outcome)
    (now : List (Option Outcome)) (left : List Claim) (new : Consumed) : Type 0 where
  pub core : IsCore first leg now left new
  pub setting : setting_of (seen first leg now left new) ≡ setting_of (seen first leg table claims old)
  pub beside : (run_of (seen first leg table claims old)).end ≢ Open p → IsUnmoved (seen first leg table claims old) (seen first leg now left new)

pub puts : (first : Session) (leg : ℕ) (table : List (Option Outcome)) (claims : List Claim) (old : Consumed) (p : ℕ) (outcome : Outcome)
    (now : List (Option Outcome)) (left : List Claim) (new : Consumed) → IsCore first leg table claims old → outcomes_of_table table p ≡ None
    → AreClaims (set table p (Some outcome)) left → now ≡ set table p (Some outcome) → Consumes old now new
    → IsPut first leg table claims old p outcome now left new
puts first leg table claims old p outcome now left new h unknown standing put goes_on =
    let on : Consumes old (set table p (Some outcome)) new = subst (λ (t : List (Option Outcome)). Consumes old t new) put goes_on in
    subst (λ (t : List (Option Outcome)). IsPut first leg table claims old p outcome t left new) (sym put)
    (record {
      core = core_put first leg table claims old new p outcome h unknown on left standing;
      setting = same_setting first leg table claims old new p outcome h unknown on left;
      beside = unmoved first leg table claims old new p outcome h unknown on left;
    })

-- where a claim ended for it
pub posts : (first : Session) (leg : ℕ) (table : List (Option Outcome)) (claims : List Claim) (old : Consumed) (worker p : ℕ) (outcome : Outcome)
    (now : List (Option Outcome)) (left : List Claim) (new : Consumed) → stands claims worker p ≡ true → now ≡ set table p (Some outcome)
    → left ≡ without claims worker → IsPut first leg table claims old p outcome now left new
    → IsStep (seen first leg table claims old) (Posted worker p outcome) (seen first leg now left new)
posts first leg table claims old worker p outcome now left new st put e it = record {
  farm = step_post (setting_of (seen first leg table claims old)) (farm_of (seen first leg table claims old)) worker p outcome st
      ∙ ap (λ (cs : List Claim). Some (record { table = set table p (Some outcome); claims = cs })) (sym e)
      ∙ ap (λ (t : List (Option Outcome)). Some (record { table = t; claims = left })) (sym put);
  setting = it.setting;
  first = refl;
}

-- where no claim ended
pub learns : (first : Session) (leg : ℕ) (table : List (Option Outcome)) (claims : List Claim) (old : Consumed) (p : ℕ) (outcome : Outcome)
    (now : List (Option Outcome)) (new : Consumed) → now ≡ set table p (Some outcome) → IsPut first leg table claims old p outcome now claims new
    → IsLearnt (seen first leg table claims old) p outcome (seen first leg now claims new)
learns first leg table claims old p outcome now new put it = record {
  farm = ap (λ (t : List (Option Outcome)). record { table = t; claims = claims }) put;
  setting = it.setting;
  first = refl;
}

-- the claims that a post leaves
pub claims_left : (table : List (Option Outcome)) (claims left : List Claim) (worker p : ℕ) (outcome : Outcome) → AreClaims table claims
    → stands claims worker p ≡ true → left ≡ without claims worker → AreClaims (set table p (Some outcome)) left
claims_left table claims left worker p outcome h st e =
    subst (λ (cs : List Claim). AreClaims (set table p (Some outcome)) cs) (sym e) (claims_posted table claims worker p outcome h st)

pub place_put : (table now : List (Option Outcome)) (p : ℕ) (outcome : Outcome) → p < length table → now ≡ set table p (Some outcome) → p < length now
place_put table now p outcome l put = subst (λ (t : List (Option Outcome)). p < length t) (sym put) (omega (arith, l, length-set table p (Some outcome)))

-- an outcome that was taken out again
pub taken_back : (table now back : List (Option Outcome)) (p : ℕ) (outcome : Outcome) → outcomes_of_table table p ≡ None → now ≡ set table p (Some outcome)
    → back ≡ set now p None → back ≡ table
taken_back table now back p outcome unknown put e = e ∙ ap (λ (t : List (Option Outcome)). set t p None) put ∙ put_back table p outcome unknown

-- ---- whose tests are wanted

pub withdraws : (first : Session) (leg : ℕ) (table : List (Option Outcome)) (claims : List Claim) (run : Consumed) (worker : ℕ)
    → IsUnwanted run table claims worker ↔ IsWithdrawn (seen first leg table claims run) worker
withdraws first leg table claims run worker = (
  λ h. record { claim = h.claim; among = h.among; by = h.by; dropped = λ wanted. h.unwanted wanted.goes_on wanted.asked },
  λ h. record { claim = h.claim; among = h.among; by = h.by; unwanted = λ none asked. h.dropped (record { goes_on = none; asked = asked }) },
)

-- a path leads to a place of the graph
leads_within : (graph : List (List ℕ)) (known : Outcomes) (s : Search) (marks : List Mark) (p left : ℕ) → IsGraph graph → Leads graph known s marks p left
    → p < length graph
leads_within graph known s [] p left g h = (asking graph s p g h.0).asks_for.within
leads_within graph known s (m ∷ marks) p left g h = leads_within graph known (mark (ask graph s).search m h.0) marks p left g h.3

-- so no path wants a place beyond it
pub wants_within : (first : Session) (leg : ℕ) (table : List (Option Outcome)) (claims : List Claim) (run : Consumed) (p : ℕ)
    → IsCore first leg table claims run → WantsOutcome (seen first leg table claims run) p → p < length table
wants_within first leg table claims run p h wants =
    let asked = wants.wanted.asked in
    let within : p < length run.tree.graph
    = leads_within run.tree.graph (outcomes_of_table table) run.state.search asked.0 p asked.1 h.parents asked.2 in
    omega (arith, within, h.len)

-- where the outcome of a place is not known, it is wanted where some path asks for the place
pub wants_asks : (first : Session) (leg : ℕ) (table : List (Option Outcome)) (claims : List Claim) (run : Consumed) (p : ℕ)
    → outcomes_of_table table p ≡ None → Asks run table p ↔ WantsOutcome (seen first leg table claims run) p
wants_asks first leg table claims run p unknown = (
  λ h. record { unknown = unknown; wanted = record { goes_on = h.goes_on; asked = h.asked } },
  λ h. record { goes_on = h.wanted.goes_on; asked = h.wanted.asked },
)
