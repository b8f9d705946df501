use Rattle.std.proofs.Common.{◌++◌, List, ap, ◌∙◌, subst}
use Rattle.std.specs.List.{Contains, slice_index_or}
use Rattle.std.proofs.lemmas.List.Elements.{Contains-get_or}
use Rattle.bf_spec.specs.declared.node.Node.{Node}
use Rattle.bf_spec.specs.Nodes.{path_of}
use Rattle.bf_spec.specs.Reroot.{begins}
use Rattle.bf_spec.proofs.Rerooting.{begins_long, filter_from, IsKept, kept_by, kept_tree}
use Rattle.bf_spec.proofs.reroot.reroot.Goals as goal

pub cut_all-requires : goal.cut_all-requires
cut_all-requires c = λ k d l.
    begins_long c.args.prefix.now _ (filter_from (λ n. begins c.args.prefix.now (path_of n)) c.args.nodes.now.items _
    (subst (λ (xs : List Node). Contains xs (slice_index_or c.keep.new.nodes.items k d)) c.keep.ensures (Contains-get_or c.keep.new.nodes.items k d l))).1

pub returns-clause-tree : goal.returns-clause-tree
returns-clause-tree c = λ graph session root t.
    kept_tree graph session root c.args.prefix.now c.args.nodes.now.items c.cut_all.new.nodes.items
    (kept_by c.args.prefix.now c.args.nodes.now.items c.keep.new.nodes.items c.cut_all.new.nodes.items c.keep.ensures c.cut_all.ensures.len
    c.cut_all.ensures.cut) c.requires t

pub returns-clause-paths : goal.returns-clause-paths
returns-clause-paths c = λ path.
    let k : IsKept c.args.prefix.now c.args.nodes.now.items c.cut_all.new.nodes.items = kept_by c.args.prefix.now c.args.nodes.now.items c.keep.new.nodes.items
    c.cut_all.new.nodes.items c.keep.ensures c.cut_all.ensures.len c.cut_all.ensures.cut in (
      λ h. let from = k.each h.node h.among in record { node = from.0; among = from.1; has = from.2 ∙ ap (λ p. c.args.prefix.now ++ p) h.has },
      λ h. k.all path
          h,
    )
