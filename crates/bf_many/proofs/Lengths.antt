-- No event changes how many outcomes a table has room for.
use Rattle.std.proofs.Common.{◌≡◌, ℕ, zero, suc, Bool, true, false, cond, List, [], ◌∷◌, length, map, set, All, Option, Some, None, sym, ap, subst, ◌∙◌, arith}
use Rattle.std.proofs.lemmas.List.{length-set}
use Rattle.std.proofs.lemmas.List.Elements.{All-cons, All-head, All-tail}
use Rattle.std.specs.List.{slice_get}
use Rattle.bf_search.specs.declared.farm.Event.{Event}
use Rattle.bf_search.specs.declared.farm.Event.TheVariants.{Claim, Post, Give}
use Rattle.bf_search.specs.declared.outcomes.Outcome.{Outcome}
use Rattle.bf_search.specs.Farm.{Farm, Setting, step}
use Rattle.bf_core.specs.Machine.{Machine}
use Rattle.bf_many.specs.declared.answers.ManyEvent.{ManyEvent}
use Rattle.bf_many.specs.declared.search.ReadySearch.{ReadySearch}
use Rattle.bf_many.specs.Many.{FarmMachine, Leads}
use Rattle.bf_many.specs.Cores.{CanStart, machines_of, starts_of}

abbrev long : FarmMachine → ℕ
long s = length s.farm.table

chosen : (b : Bool) (x y : Farm) → cond b (Some x) None ≡ Some y → x ≡ y
chosen true x y h = cc h
chosen false x y h = cc h

step_long : (setting : Setting) (farm after : Farm) (event : Event) → step setting farm event ≡ Some after → length after.table ≡ length farm.table
step_long setting farm after (Claim worker p) legal = ap (λ (f : Farm). length f.table) (sym (chosen _ _ after legal))
step_long setting farm after (Post worker p outcome) legal =
    ap (λ (f : Farm). length f.table) (sym (chosen _ _ after legal)) ∙ length-set farm.table p (Some outcome)
step_long setting farm after (Give worker p) legal = ap (λ (f : Farm). length f.table) (sym (chosen _ _ after legal))

set_long : (searches : List FarmMachine) (k : ℕ) (own s : FarmMachine) → slice_get searches k ≡ Some own → long s ≡ long own
    → map long (set searches k s) ≡ map long searches
set_long [] k own s at same = cc at
set_long (x ∷ searches) zero own s at same =
    let here : x ≡ own = cc at in
    ap (λ (n : ℕ). n ∷ map long searches) (same ∙ ap long (sym here))
set_long (x ∷ searches) (suc k) own s at same = ap (λ (l : List ℕ). long x ∷ l) (set_long searches k own s at same)

leads_long : (events : List ManyEvent) (old new : List FarmMachine) → Leads old events new → map long new ≡ map long old
leads_long [] old new leads = ap (λ (l : List FarmMachine). map long l) leads
leads_long (e ∷ events) old new leads =
    let a = leads.1.advances in
    leads_long events leads.0 new leads.2
    ∙ ap (λ (l : List FarmMachine). map long l) a.rest
    ∙ set_long old e.search a.own (record a.own { farm = a.farm }) a.at (step_long a.own.setting a.own.farm a.farm e.event a.legal)

starts_long : (graph : List (List ℕ)) (searches : List ReadySearch) (n : ℕ) → All (CanStart n) searches → All (λ m. m ≡ n) (map long (starts_of graph searches))
starts_long graph [] n each = λ k d l. absurd (omega (arith, l))
starts_long graph (s ∷ searches) n each =
    let here = All-head (CanStart n) s searches each in
    All-cons (λ m. m ≡ n) (length s.table) (map long (starts_of graph searches)) (here.table ∙ sym here.state)
    (starts_long graph searches n (All-tail (CanStart n) s searches each))

tables_long : (cores : List Machine) (n : ℕ) → All (λ m. m ≡ n) (map long (machines_of cores))
    → All (λ (t : List (Option Outcome)). length t ≡ n) (map (λ (core : Machine). core.table) cores)
tables_long [] n each = λ k d l. absurd (omega (arith, l))
tables_long (core ∷ cores) n each =
    All-cons (λ (t : List (Option Outcome)). length t ≡ n) core.table (map (λ (c : Machine). c.table) cores)
    (All-head (λ m. m ≡ n) (length core.table) (map long (machines_of cores)) each)
    (tables_long cores n (All-tail (λ m. m ≡ n) (length core.table) (map long (machines_of cores)) each))

-- so each table has an outcome or none for each place
pub long_after : (graph : List (List ℕ)) (searches : List ReadySearch) (cores : List Machine) (tables : List (List (Option Outcome))) (events : List ManyEvent)
    → All (CanStart (length graph)) searches → Leads (starts_of graph searches) events (machines_of cores)
    → tables ≡ map (λ (core : Machine). core.table) cores → All (λ t. length t ≡ length graph) tables
long_after graph searches cores tables events each leads are =
    let starts = starts_long graph searches (length graph) each in
    let same = leads_long events (starts_of graph searches) (machines_of cores) leads in
    let cores_long = tables_long cores (length graph) (subst (λ (l : List ℕ). All (λ m. m ≡ length graph) l) (sym same) starts) in
    subst (λ (l : List (List (Option Outcome))). All (λ t. length t ≡ length graph) l) (sym are) cores_long
