use Rattle.std.proofs.Common.{ℕ, ◌<◌, List, length, ap, ◌∙◌, arith}
use Rattle.std.specs.List.{All, list_all}
use Rattle.bf_search.specs.Bases.{has_place}
use Rattle.bf_cert.specs.Certificates.{listed_by}
use Rattle.bf_cert.specs.Reading.{Reading, reaches_parents}
use Rattle.bf_cert.proofs.Listing.{cert_of, all_listed}
use Rattle.bf_cert.proofs.reader.Reader.reaches_parents.Goals as goal

pub returns : goal.returns
returns c =
    let within : All (λ p. p < length c.self.inside.listed) c.parents_in_mode.result.now = λ k d l. omega
    (arith, c.parents_in_mode.ensures.earlier k d l, c.self.invariant.within.bad) in
    c.are_in.ensures
    ∙ all_listed c.self.inside.listed (cert_of c.self.inside.bad c.self.inside.first_parent c.self.inside.goods c.self.inside.steps)
    c.parents_in_mode.result.now within c.self.invariant
    ∙ ap (λ (ps : List ℕ). list_all (λ p. has_place (listed_by c.self.inside.goods c.self.inside.steps) p) ps)
    (rw c.graph.ensures at c.parents_in_mode.ensures.parents)
    ∙ ap (λ (r : Reading). reaches_parents c.args.graph.now r) c.self.view_is
