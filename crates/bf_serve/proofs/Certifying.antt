-- The certificate of a search that ended with the first bad commit.
use Rattle.std.proofs.Common.{◌≡◌, ℕ, zero, suc, ◌-◌, ◌<◌, ◌≤◌, List, [], ◌∷◌, ◌++◌, length, Option, Some, None, refl, sym, ap, subst, ◌∙◌, arith}
use Rattle.std.proofs.lemmas.List.{length-map}
use Rattle.std.specs.List.{slice_get}
use Rattle.std.specs.Option.{unwrap_or}
use Rattle.bf_cert.specs.declared.cert.Cert.{Cert}
use Rattle.bf_cert.specs.Certificates.{needed_parents}
use Rattle.bf_cert.specs.Lines.{cert_text}
use Rattle.bf_cert.specs.Made.{AsksFirstBad, IsMade, made_steps}
use Rattle.bf_cert.proofs.Making.{asks_again}
use Rattle.bf_core.specs.Machine.{IsConsumed, Machine}
use Rattle.bf_many.specs.Cores.{machine_of, machines_of}
use Rattle.bf_many.specs.Many.{FarmMachine}
use Rattle.bf_many.proofs.Lists.{get-map}
use Rattle.bf_protocol.specs.declared.request.Refusal.TheVariants.{NoCertificate, NoSuchSearch}
use Rattle.bf_protocol.specs.Events.{Certified, Refused, reply_text}
use Rattle.bf_protocol.specs.Requests.{refusal_line}
use Rattle.bf_search.specs.declared.asks.Ask.{Ask}
use Rattle.bf_search.specs.declared.asks.Ask.TheVariants.{WaitBoth, WaitBad, WaitGood, Test, MergeBaseBad, GoodNotAncestor, BothSides, FirstBad, OnlySkipped}
use Rattle.bf_search.specs.declared.farm.Ending.{Ending}
use Rattle.bf_search.specs.declared.farm.Ending.TheVariants as endings
use Rattle.bf_search.specs.declared.outcomes.Outcome.{Outcome}
use Rattle.bf_search.specs.declared.outcomes.Verdict.{Verdict}
use Rattle.bf_search.specs.declared.outcomes.Verdict.TheVariants.{Mark, Abort}
use Rattle.bf_search.specs.Farm.{end_of}
use Rattle.bf_search.specs.Outcomes.{Outcomes, outcomes_of_table, verdict_of}
use Rattle.bf_search.specs.Run.{Aborted, Answered, End, Leg, Open, Run, after_look, after_step, after_verdict, leg_of, marked_one, one_at_a_time, run, run_within, with_used}
use Rattle.bf_search.specs.State.{Search, ask, mark}
use Rattle.bf_spec.specs.Walks.{Tells}
use Rattle.bf_state.specs.Session.{Session as Standing}
use Rattle.bf_serve.specs.declared.session.Session.{Session}
use Rattle.bf_serve.specs.Searches.{run_of}
use Rattle.bf_serve.specs.Serving.{certificate_turn, certified_at, certified_in, made_cert, refused_as}
use Rattle.bf_serve.specs.Steps.{IsOver, IsServing, Serves, searches_in}
use Rattle.bf_serve.proofs.Sessions.{as_turn, served_refused}

-- ---- a run that ends with the first bad commit has found it

module _ (graph : List (List ℕ)) (known : Outcomes) (p : ℕ) where
  -- where a run ends with the first bad commit, its search has found it
  abbrev Finds : Run → Type 0
  Finds r = r.end ≡ Answered (FirstBad p) → AsksFirstBad graph r.search

  by_verdict : (go : Option ℕ → Search → Run) (left : Option ℕ) (s : Search) (q : ℕ) (outcome : Outcome) (v : Verdict)
      → ((l : Option ℕ) (t : Search) → Finds (go l t)) → Finds (with_used q outcome (after_verdict go left s q outcome v))
  by_verdict go left s q outcome Abort h = λ e. cc
  by_verdict go left s q outcome (Mark m) h = h (marked_one left) (mark s m q)

  by_look : (go : Option ℕ → Search → Run) (left : Option ℕ) (s : Search) (q : ℕ) (o : Option Outcome)
      → ((l : Option ℕ) (t : Search) → Finds (go l t)) → Finds (after_look known go left s q o)
  by_look go left s q None h = λ e. cc
  by_look go left s q (Some outcome) h = by_verdict go left s q outcome (verdict_of outcome) h

  by_step : (go : Option ℕ → Search → Run) (left : Option ℕ) (s : Search) (a : Ask) → (ask graph s).step.ask ≡ a
      → ((l : Option ℕ) (t : Search) → Finds (go l t)) → Finds (after_step known go left (ask graph s).search a)
  by_step go left s (Test q) is h = by_look go left (ask graph s).search q (known q) h
  by_step go left s (FirstBad q) is h = λ e. asks_again graph s q is
  by_step go left s (OnlySkipped qs) is h = λ e. cc
  by_step go left s WaitBoth is h = λ e. cc
  by_step go left s WaitBad is h = λ e. cc
  by_step go left s WaitGood is h = λ e. cc
  by_step go left s (MergeBaseBad q) is h = λ e. cc
  by_step go left s (GoodNotAncestor q) is h = λ e. cc
  by_step go left s (BothSides q) is h = λ e. cc

  by_turns : (turns : ℕ) (left : Option ℕ) (s : Search) → Finds (run_within turns graph known left s)
  unfolding run_within
  by_turns zero left s = λ e. cc
  by_turns (suc turns) (Some zero) s = λ e. cc
  by_turns (suc turns) (Some (suc k)) s =
      by_step (run_within turns graph known) (Some (suc k)) s (ask graph s).step.ask refl (λ l t. by_turns turns l t)
  by_turns (suc turns) None s =
      by_step (run_within turns graph known) None s (ask graph s).step.ask refl (λ l t. by_turns turns l t)

  pub finds : (s : Search) (leg : ℕ) → Finds (one_at_a_time graph s known leg)
  unfolding run
  finds s leg = by_turns (suc (length graph)) (leg_of leg) s

-- ---- of a core

told_end : (o : Option Ending) (e : Ending) (end : End) → Tells o end → o ≡ Some e → end_of e ≡ end
told_end None e end tells h = cc h
told_end (Some x) e end tells h = ap end_of (sym (some_is h)) ∙ tells.0
  where
    some_is : {a b : Ending} → Some a ≡ Some b → a ≡ b
    some_is h = cc h

pub core_found : (graph : List (List ℕ)) (core : Machine) (state : Standing) (p : ℕ) → IsOver graph (machine_of core) → IsConsumed core
    → core.ending ≡ Some (endings.FirstBad p) → state ≡ core.state → AsksFirstBad graph state.search
core_found graph core state p over consumed found same =
    let m : FarmMachine = machine_of core in
    let end : (run_of m).end ≡ Answered (FirstBad p) = sym (told_end core.ending (endings.FirstBad p) (run_of m).end consumed.ending found) in
    subst (λ (s : Standing). AsksFirstBad graph s.search) (sym (same ∙ consumed.state))
    (subst (λ (x : List (List ℕ)). AsksFirstBad x (run_of m).search) over.graph_is
    (finds m.setting.graph (outcomes_of_table m.farm.table) p m.setting.start m.setting.leg end))

-- the certificate is the one that is made of the search
some_place : (o : Option ℕ) (p : ℕ) → o ≡ Some p → p ≡ unwrap_or o 0
some_place o p h = sym (ap (λ (x : Option ℕ). unwrap_or x 0) h)

pub cert_is : (graph : List (List ℕ)) (s : Search) (cert : Cert) → IsMade graph s cert → cert ≡ made_cert graph s
cert_is graph s cert made =
    let bad : cert.bad ≡ unwrap_or s.bad 0 = some_place s.bad cert.bad made.bad in
    let needed : needed_parents graph cert ≡ needed_parents graph (record { bad = unwrap_or s.bad 0; first_parent = s.first_parent; goods = s.goods; steps = [] })
    = λ i. needed_parents graph (record { bad = bad i; first_parent = made.first_parent i; goods = s.goods; steps = [] }) in
    let steps : cert.steps ≡ made_steps graph s.goods (needed_parents graph (record { bad = unwrap_or s.bad 0; first_parent = s.first_parent; goods = s.goods; steps = [] }))
    = made.steps ∙ ap (made_steps graph s.goods) needed in
    λ i. record { bad = bad i; first_parent = made.first_parent i; goods = made.goods i; steps = steps i }

get_none : {X : Type 0} (xs : List X) (k : ℕ) → length xs ≤ k → slice_get xs k ≡ None
get_none [] k le = refl
get_none (x ∷ xs) zero le = absurd (omega (arith, le))
get_none (x ∷ xs) (suc k) le = get_none xs k (omega (arith, le))

pub served_no_such : (s : Session) (n : ℕ) (before after : List ℕ) → IsServing s → 1 ≤ n → length s.openings.items < n
    → after ≡ before ++ reply_text (Refused (refusal_line NoSuchSearch))
    → Serves (certificate_turn s.history.now (searches_in s) n) s s before after
served_no_such s n before after is one more text =
    as_turn (certificate_turn s.history.now (searches_in s) n) (refused_as (searches_in s) NoSuchSearch) s s before after
    (ap (certified_in s.history.now (searches_in s) n)
    (get_none (machines_of s.many) (n - 1)
    (let e = is.each in let long = length-map s.many machine_of in omega (arith, one, more, e, long))))
    (served_refused s (refusal_line NoSuchSearch) before after is text)

core_turn : (s : Session) (n k : ℕ) (core : Machine) → k ≡ n - 1 → slice_get s.many k ≡ Some core
    → certificate_turn s.history.now (searches_in s) n
    ≡ certified_at s.history.now (searches_in s) n (run_of (machine_of core)).search (run_of (machine_of core)).end
core_turn s n k core number at =
    ap (λ (i : ℕ). certified_in s.history.now (searches_in s) n (slice_get (machines_of s.many) i)) (sym number)
    ∙ ap (certified_in s.history.now (searches_in s) n) (get-map machine_of s.many k core at)

pub served_certified : (s : Session) (n k p : ℕ) (core : Machine) (state : Standing) (cert : Cert) (before after : List ℕ) → IsServing s → k ≡ n - 1
    → slice_get s.many k ≡ Some core → IsOver s.reach.now (machine_of core) → IsConsumed core → core.ending ≡ Some (endings.FirstBad p)
    → state ≡ core.state → IsMade s.reach.now state.search cert
    → after ≡ before ++ reply_text (Certified n (cert_text s.history.now.names cert))
    → Serves (certificate_turn s.history.now (searches_in s) n) s s before after
served_certified s n k p core state cert before after is number at over consumed found same made text =
    let m : FarmMachine = machine_of core in
    let end : (run_of m).end ≡ Answered (FirstBad p) = sym (told_end core.ending (endings.FirstBad p) (run_of m).end consumed.ending found) in
    let cert_same : cert ≡ made_cert s.history.now.parents (run_of m).search
    = cert_is s.reach.now state.search cert made ∙ ap (λ (x : Standing). made_cert s.reach.now x.search) (same ∙ consumed.state)
    ∙ ap (λ (g : List (List ℕ)). made_cert g (run_of m).search) is.reach in
    as_turn (certificate_turn s.history.now (searches_in s) n)
    (certified_at s.history.now (searches_in s) n (run_of m).search (Answered (FirstBad p))) s s before after
    (core_turn s n k core number at ∙ ap (certified_at s.history.now (searches_in s) n (run_of m).search) end)
    (record {
      text = text ∙ ap (λ (c : Cert). before ++ reply_text (Certified n (cert_text s.history.now.names c))) cert_same;
      searches = refl;
      history = refl;
      serving = is;
    })

-- an end that is none with the first bad commit
none_at : (s : Session) (n : ℕ) (search : Search) (o : Option Ending) (end : End) → Tells o end → ((p : ℕ) → o ≡ Some (endings.FirstBad p) → ⊥)
    → certified_at s.history.now (searches_in s) n search end ≡ refused_as (searches_in s) NoCertificate
none_at s n search o (Open p) tells other = refl
none_at s n search o Leg tells other = refl
none_at s n search o (Aborted p outcome) tells other = refl
none_at s n search o (Answered (FirstBad p)) tells other = absurd (found o tells other)
  where
    of_end : (e : Ending) → end_of e ≡ Answered (FirstBad p) → e ≡ endings.FirstBad p
    of_end (endings.FirstBad q) h = cc h
    of_end (endings.OnlySkipped qs) h = cc h
    of_end (endings.MergeBaseBad q) h = cc h
    of_end (endings.GoodNotAncestor q) h = cc h
    of_end (endings.BothSides q) h = cc h
    of_end (endings.Aborted q outcome) h = cc h
    of_end endings.Leg h = cc h
    of_end (endings.TestFault q) h = cc h

    found : (x : Option Ending) → Tells x (Answered (FirstBad p)) → ((q : ℕ) → x ≡ Some (endings.FirstBad q) → ⊥) → ⊥
    found None tells none = cc tells
    found (Some e) tells none = none p (ap (λ (x : Ending). Some x) (of_end e tells.0))
none_at s n search o (Answered WaitBoth) tells other = refl
none_at s n search o (Answered WaitBad) tells other = refl
none_at s n search o (Answered WaitGood) tells other = refl
none_at s n search o (Answered (Test p)) tells other = refl
none_at s n search o (Answered (MergeBaseBad p)) tells other = refl
none_at s n search o (Answered (GoodNotAncestor p)) tells other = refl
none_at s n search o (Answered (BothSides p)) tells other = refl
none_at s n search o (Answered (OnlySkipped ps)) tells other = refl

pub served_uncertified : (s : Session) (n k : ℕ) (core : Machine) (before after : List ℕ) → IsServing s → k ≡ n - 1
    → slice_get s.many k ≡ Some core → IsConsumed core → ((p : ℕ) → core.ending ≡ Some (endings.FirstBad p) → ⊥)
    → after ≡ before ++ reply_text (Refused (refusal_line NoCertificate))
    → Serves (certificate_turn s.history.now (searches_in s) n) s s before after
served_uncertified s n k core before after is number at consumed other text =
    as_turn (certificate_turn s.history.now (searches_in s) n) (refused_as (searches_in s) NoCertificate) s s before after
    (core_turn s n k core number at
    ∙ none_at s n (run_of (machine_of core)).search core.ending (run_of (machine_of core)).end consumed.ending other)
    (served_refused s (refusal_line NoCertificate) before after is text)
