-- Leaps along first parents.
use Rattle.std.proofs.Common.{◌≡◌, ℕ, zero, suc, ◌+◌, ◌-◌, ◌<◌, ◌≤◌, List, length, get_or, Option, Some, None, refl, sym, ◌∙◌, ap, arith}
use Rattle.std.specs.List.{slice_get}
use Rattle.std.specs.Option.{option_and_then}
use Rattle.bf_graph.specs.Graph.{parents_of}
use Rattle.bf_names.specs.declared.leap.Leap.{Leap}
use Rattle.bf_names.specs.Leaps.{AreFirstLeaps, IsLeap}
use Rattle.bf_names.specs.Names.{ancestor}
use Rattle.bf_names.proofs.Walking.{ancestor-parent, ancestor-suc, ancestor-zero}

-- ---- so many generations, and then so many more

onward : (graph : List (List ℕ)) (a b end : ℕ) (o : Option ℕ)
    → ((place : ℕ) → ancestor graph a place ≡ Some end → ancestor graph (a + b) place ≡ ancestor graph b end)
    → option_and_then (ancestor graph a) o ≡ Some end
    → option_and_then (ancestor graph (a + b)) o ≡ ancestor graph b end
onward graph a b end (Some place) more is = more place is
onward graph a b end None more is = cc

first_steps : (graph : List (List ℕ)) (a b place end : ℕ) → ancestor graph a place ≡ Some end
    → ancestor graph (a + b) place ≡ ancestor graph b end
first_steps graph zero b place end is =
    let same : Some place ≡ Some end = sym (ancestor-zero graph 0 place (omega arith)) ∙ is in
    let at : place ≡ end = cc in
    let e : 0 + b ≡ b = omega arith in
    ap (λ n. ancestor graph n place) e ∙ ap (ancestor graph b) at
first_steps graph (suc a) b place end is =
    let parent = slice_get (parents_of graph place) 0 in
    let e : suc a + b ≡ suc (a + b) = omega arith in
    ap (λ n. ancestor graph n place) e
    ∙ ancestor-suc graph (a + b) place parent refl
    ∙ onward graph a b end parent (λ q. first_steps graph a b q end) (sym (ancestor-suc graph a place parent refl) ∙ is)

-- ---- what leaps there are

pub leap_none : (graph : List (List ℕ)) (place : ℕ) → IsLeap graph place (record { steps = 0; place = place })
leap_none graph place = record { leads = ancestor-zero graph 0 place (omega arith); earlier = omega arith }

pub leap_parent : (graph : List (List ℕ)) (place parent : ℕ) → slice_get (parents_of graph place) 0 ≡ Some parent → parent < place
    → IsLeap graph place (record { steps = 1; place = parent })
leap_parent graph place parent is earlier = record {
  leads = ancestor-parent graph 1 place parent (omega arith) (sym is) ∙ ancestor-zero graph 0 parent (omega arith);
  earlier = omega (arith, earlier);
}

pub leap_joined : (graph : List (List ℕ)) (place parent : ℕ) (first second : Leap)
    → slice_get (parents_of graph place) 0 ≡ Some parent → parent < place
    → IsLeap graph parent first → IsLeap graph first.place second
    → IsLeap graph place (record { steps = 1 + first.steps + second.steps; place = second.place })
leap_joined graph place parent first second is earlier one other = record {
  leads = ancestor-parent graph (1 + first.steps + second.steps) place parent (omega arith) (sym is)
      ∙ ap (λ n. ancestor graph n parent) (omega arith)
      ∙ first_steps graph first.steps second.steps parent first.place one.leads
      ∙ other.leads;
  earlier = omega (arith, earlier, one.earlier, other.earlier);
}

-- what the list has of the first parent, and of where the leap from there ends, makes a leap
pub leap_known : (graph : List (List ℕ)) (leaps : List Leap) (place parent : ℕ) (none : Leap) → AreFirstLeaps graph leaps
    → slice_get (parents_of graph place) 0 ≡ Some parent → parent < place → place ≡ length leaps
    → IsLeap graph place (record {
      steps = 1 + (get_or leaps parent none).steps + (get_or leaps (get_or leaps parent none).place none).steps;
      place = (get_or leaps (get_or leaps parent none).place none).place;
    })
leap_known graph leaps place parent none each is earlier known =
    let first = get_or leaps parent none in
    let one : IsLeap graph parent first = each parent none (omega (arith, earlier, known)) in
    leap_joined graph place parent first (get_or leaps first.place none) is earlier one
    (each first.place none (omega (arith, earlier, known, one.earlier)))

-- ---- what a leap does for a walk

pub leapt : (graph : List (List ℕ)) (n place : ℕ) (leap : Leap) → IsLeap graph place leap → leap.steps ≤ n
    → ancestor graph n place ≡ ancestor graph (n - leap.steps) leap.place
leapt graph n place leap is within =
    let e : n ≡ leap.steps + (n - leap.steps) = omega (arith, within) in
    ap (λ m. ancestor graph m place) e ∙ first_steps graph leap.steps (n - leap.steps) place leap.place is.leads
