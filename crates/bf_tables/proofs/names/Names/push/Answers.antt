use Rattle.std.proofs.Common.{[], ◌∷◌, ◌++◌, if◌then◌else◌, is_none, not, ap, ◌∙◌}
use Rattle.bf_history.specs.Meanings.{place_named}
use Rattle.bf_tables.specs.Named.{with_name}
use Rattle.bf_tables.proofs.Positions.{any_is_some, is_same_name}
use Rattle.bf_tables.proofs.names.Names.push.Goals as goal

pub returns-clause-added : goal.returns-clause-added
returns-clause-added c =
    c.in_ok-added.ensures.added
    ∙ ap not (any_is_some (is_same_name c.args.name) c.self.inside.set.keys)
    ∙ ap (λ names. is_none (place_named names c.args.name)) c.self.view_is

pub returns-clause-ok : goal.returns-clause-ok
returns-clause-ok c =
    c.in_ok-added.ensures.keys
    ∙ ap (λ there. if there then c.self.inside.set.keys else c.self.inside.set.keys ++ c.args.name ∷ [])
    (any_is_some (is_same_name c.args.name) c.self.inside.set.keys)
    ∙ ap (λ names. with_name names c.args.name) c.self.view_is
