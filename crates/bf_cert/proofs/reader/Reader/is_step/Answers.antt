use Rattle.std.proofs.Common.{◌≡◌, ◌<◌, ℕ, Bool, ◌&&◌, List, length, sym, ap, subst, ◌∙◌}
use Rattle.bf_graph.specs.Graph.{parents_of}
use Rattle.bf_search.specs.Bases.{has_place}
use Rattle.bf_search.specs.Candidates.{is_in}
use Rattle.bf_cert.specs.Reading.{Reading, listed}
use Rattle.bf_cert.proofs.reader.Reader.is_step.Goals as goal

pub returns-then-get : goal.returns-then-get
returns-then-get c =
    let within : c.args.step.from < length c.self.inside.listed = subst (λ n. c.args.step.from < n) (sym (ap (λ (r : Reading). r.len) c.self.view_is))
    c.requires.from in
    let is_listed : has_place (listed c.args.self.now) c.args.step.from ≡ is_in c.self.inside.listed c.args.step.from = sym
    (c.self.invariant.listed c.args.step.from within ∙ ap (λ (r : Reading). has_place (listed r) c.args.step.from) c.self.view_is) in
    c.has_parent.ensures
    ∙ sym (ap (λ (b : Bool). b && has_place (parents_of c.args.graph.now c.args.step.from) c.args.step.place)
    (is_listed ∙ sym c.get.ensures ∙ c.if-get.true))

pub returns-else-get : goal.returns-else-get
returns-else-get c =
    let within : c.args.step.from < length c.self.inside.listed = subst (λ n. c.args.step.from < n) (sym (ap (λ (r : Reading). r.len) c.self.view_is))
    c.requires.from in
    let is_listed : has_place (listed c.args.self.now) c.args.step.from ≡ is_in c.self.inside.listed c.args.step.from = sym
    (c.self.invariant.listed c.args.step.from within ∙ ap (λ (r : Reading). has_place (listed r) c.args.step.from) c.self.view_is) in
    c.if-get.false
    ∙ sym (ap (λ (b : Bool). b && has_place (parents_of c.args.graph.now c.args.step.from) c.args.step.place)
    (is_listed ∙ sym c.get.ensures ∙ c.if-get.false))
