use Rattle.std.proofs.Common.{◌≡◌, ℕ, List, refl, sym, ap, ◌∙◌, subst}
use Rattle.std.proofs.lemmas.Result.{IfOk-weaker}
use Rattle.bf_forest.specs.Nodes.{files_in, is_node, stood}
use Rattle.bf_forest.specs.Opened.{IsBase}
use Rattle.bf_forest.specs.Slots.{base_files}
use Rattle.bf_forest.proofs.Copied.{in_order}
use Rattle.bf_forest.proofs.Pooled.{node-nil, node-listing, node-filled}
use Rattle.bf_forest.proofs.pool.Trees.tail.Goals as goal

pub returns-in-None-clause-base : goal.returns-in-None-clause-base
returns-in-None-clause-base c =
    let now = c.args.self.now in
    let P : List ℕ → Type 0 = IsBase now.trees now.table in
    subst P (sym c.new.ensures) ((refl, refl), refl)

pub returns-in-None-clause-node : goal.returns-in-None-clause-node
returns-in-None-clause-node c =
    let now = c.args.self.now in
    ap (λ v. is_node now.trees (stood now.table v)) c.new.ensures ∙ node-nil now.trees

pub returns-in-Some-clause-base : goal.returns-in-Some-clause-base
returns-in-Some-clause-base c =
    let now = c.args.self.now in
    let numbers = c.node.result.now in
    let entries = stood now.table numbers in
    let P : List ℕ → Type 0 = IsBase now.trees now.table in
    let known : IsBase now.trees now.table numbers = (
      (c.node.ensures.within, in_order now.trees entries (node-listing now.trees entries c.node.ensures.node)),
      node-filled now.trees entries
          c.node.ensures.node,
    ) in
    IfOk-weaker c.of.result (λ tail. tail ≡ c.as_slice.result.now) _ (λ tail e. subst P (sym (e ∙ c.as_slice.ensures)) known) c.of.ensures

pub returns-in-Some-clause-files : goal.returns-in-Some-clause-files
returns-in-Some-clause-files c =
    let now = c.args.self.now in
    let numbers = c.node.result.now in
    let entries = stood now.table numbers in
    IfOk-weaker c.of.result (λ tail. tail ≡ c.as_slice.result.now) _
    (λ tail e. ap (λ v. files_in now.trees (stood now.table v)) (e ∙ c.as_slice.ensures) ∙ c.node.ensures.files ∙ sym (ap (base_files now.trees) c.in-Some.is))
    c.of.ensures

pub returns-in-Some-clause-node : goal.returns-in-Some-clause-node
returns-in-Some-clause-node c =
    let now = c.args.self.now in
    let numbers = c.node.result.now in
    let entries = stood now.table numbers in
    IfOk-weaker c.of.result (λ tail. tail ≡ c.as_slice.result.now) _
    (λ tail e. ap (λ v. is_node now.trees (stood now.table v)) (e ∙ c.as_slice.ensures) ∙ c.node.ensures.node) c.of.ensures
