-- What a report promises beyond its run: the answers gained, and that each test halves the candidates.
use Rattle.std.proofs.Common.{◌≡◌, ℕ, suc, ◌<◌, ◌*◌, ◌^◌, Bool, true, false, cond, List, [], ◌∷◌, ◌++◌, length, map, Option, Some, refl, sym, ap, ◌∙◌, subst}
use Rattle.std.proofs.Common.{arith}
use Rattle.std.proofs.lemmas.List.{length-map}
use Rattle.std.proofs.lemmas.List.Elements.{All-filter, All-map}
use Rattle.std.specs.List.{All, slice_get}
use Rattle.std.specs.Option.{is_none}
use Rattle.bf_oid.specs.declared.object.Oid.{Oid}
use Rattle.bf_search.specs.declared.outcomes.Outcome.{Outcome}
use Rattle.bf_search.specs.Farm.{Setting, consumed}
use Rattle.bf_search.specs.OpenPaths.{left_of}
use Rattle.bf_search.specs.Outcomes.{outcomes_of_pairs, outcomes_of_table}
use Rattle.bf_search.specs.Run.{Run, leg_of}
use Rattle.bf_state.specs.Session.{Session}
use Rattle.bf_state.specs.Halving.{IsGoodOrBad}
use Rattle.bf_state.proofs.Halves.{run_halves}
use Rattle.bf_core.specs.Machine.{IsOverGraph}
use Rattle.bf_tester.specs.declared.answer.Answer.{Answer}
use Rattle.bf_tester.specs.Replies.{answer_of}
use Rattle.bf_farm.specs.declared.report.Report.{Report}
use Rattle.bf_farm.specs.Answering.{pair_of, run_on, lacking, IsReport, Halves}
use Rattle.bf_farm.specs.Cores.{CoreView, run_of, IsSameStart}
use Rattle.bf_farm.specs.Gains.{lacking_pairs, IsGained}

abbrev Pair : Type 0
Pair = ℕ × Outcome

-- ---- the answers gained

name_is : (names : List Oid) (a b : Answer) → a.place ≡ b.place → slice_get names a.place ≡ Some a.name → slice_get names b.place ≡ Some b.name
    → a.name ≡ b.name
name_is names a b at one two = cc (at, one, two)

same_answer : (a b : Answer) → a.place ≡ b.place → a.name ≡ b.name → a.outcome ≡ b.outcome → a ≡ b
same_answer a b place name outcome = λ i. answer_of (place i) (name i) (outcome i)

-- answers by the same names are the same where their pairs are
same_answers : (names : List Oid) (xs ys : List Answer) → All (λ a. slice_get names a.place ≡ Some a.name) xs
    → All (λ a. slice_get names a.place ≡ Some a.name) ys → map pair_of xs ≡ map pair_of ys → xs ≡ ys
same_answers names [] [] one two e = refl
same_answers names [] (b ∷ ys) one two e = cc e
same_answers names (a ∷ xs) [] one two e = cc e
same_answers names (a ∷ xs) (b ∷ ys) one two e =
    let heads : pair_of a ≡ pair_of b = cc e in
    let place : a.place ≡ b.place = ap (λ (pair : Pair). pair.0) heads in
    let outcome : a.outcome ≡ b.outcome = ap (λ (pair : Pair). pair.1) heads in
    let tails : map pair_of xs ≡ map pair_of ys = cc e in
    let named : a.name ≡ b.name = name_is names a b place (one 0 a (omega arith)) (two 0 b (omega arith)) in
    ap (λ (x : Answer). x ∷ xs) (same_answer a b place named outcome)
    ∙ ap (λ (l : List Answer). b ∷ l)
    (same_answers names xs ys (λ k d l. one (suc k) d (omega arith)) (λ k d l. two (suc k) d (omega arith)) tails)

pairs_of_lacking : (table : List (Option Outcome)) (used : List Answer) → map pair_of (lacking table used) ≡ lacking_pairs table (map pair_of used)
pairs_of_lacking table [] = refl
pairs_of_lacking table (a ∷ used) = step (is_none (outcomes_of_table table a.place)) (lacking table used)
    (lacking_pairs table (map pair_of used)) (pairs_of_lacking table used)
  where
    step : (b : Bool) (xs : List Answer) (ps : List Pair) → map pair_of xs ≡ ps → map pair_of (cond b (a ∷ xs) xs) ≡ cond b (pair_of a ∷ ps) ps
    step true xs ps e = ap (λ (l : List Pair). pair_of a ∷ l) e
    step false xs ps e = e

pub lacking_told : (names : List Oid) (first : List (Option Outcome)) (before after : List Answer) (core : CoreView) (session : Session) (report : Report)
    → IsGained names first before core after → IsReport core.setting session names report → report.table ≡ core.farm.table
    → after ≡ before ++ lacking first report.used.items
lacking_told names first before after core session report h is table =
    let used : (run_of core).used ≡ map pair_of report.used.items
    = sym (is.used ∙ ap (λ (r : Run). r.used) is.table ∙ ap (λ (t : List (Option Outcome)). (consumed core.setting t).used) table) in
    h.added ∙ ap (λ (l : List Answer). before ++ l)
    (same_answers names h.gained (lacking first report.used.items) h.named
    (All-filter (λ (a : Answer). is_none (outcomes_of_table first a.place)) (λ (a : Answer). slice_get names a.place ≡ Some a.name) report.used.items is.named)
    (h.lacked ∙ ap (λ (l : List Pair). lacking_pairs first l) used ∙ sym (pairs_of_lacking first report.used.items)))

-- ---- halving

pub halves_told : (setting : Setting) (session : Session) (names : List Oid) (report : Report) → IsOverGraph setting → IsReport setting session names report
    → Halves setting report
halves_told setting session names report over is = λ checked unskipped line all some.
    let few : 2 ^ length (run_on setting report.used.items).used < 2 * left_of setting.graph setting.start
    = run_halves setting.graph (outcomes_of_pairs (map pair_of report.used.items)) over.parents (leg_of setting.leg) setting.start over.places checked
    unskipped line
    (subst (λ (l : List Pair). All (λ pair. IsGoodOrBad pair.1) l) is.used
    (All-map (λ (pair : Pair). IsGoodOrBad pair.1) pair_of report.used.items all)) some in
    subst (λ (n : ℕ). 2 ^ n < 2 * left_of setting.graph setting.start)
    (sym (ap (λ (l : List Pair). length l) is.used) ∙ length-map report.used.items pair_of) few

pub over_before : (old new : CoreView) → IsSameStart old new → IsOverGraph new.setting → IsOverGraph old.setting
over_before old new start over = subst (λ (s : Setting). IsOverGraph s) start.setting over
