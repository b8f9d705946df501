use Rattle.std.proofs.Common.{ap, ◌∙◌}
use Rattle.bf_state.specs.Session.{Session}
use Rattle.bf_replay.specs.Meaning.{text_of}
use Rattle.bf_replay.proofs.Folding.{bad_within, goods_within, begun_is}
use Rattle.bf_replay.proofs.start.begin.Goals as goal

pub new-requires-clause-bad : goal.new-requires-clause-bad
new-requires-clause-bad c = rw (c.ends-bad.ensures.bad, c.len.ensures.len) (bad_within _ c.args.places.now c.requires)

pub new-requires-clause-goods : goal.new-requires-clause-goods
new-requires-clause-goods c = rw (c.ends-bad.ensures.goods, c.len.ensures.len)
    (goods_within _ c.args.places.now c.requires)

pub returns-clause-replayed : goal.returns-clause-replayed
returns-clause-replayed c =
    begun_is c.args.setting.history.now.parents c.args.terms c.args.start.first_parent (text_of c.args.start.new)
    (text_of c.args.start.old) c.args.start.revs.now
    c.args.places.now c.len.result c.leaves_terms_open.result c.names_terms.result c.ends-bad.result.0
    c.ends-bad.result.1.now c.in_ok-to_places.field-0
    c.in_ok-state.state c.push.new.self.items c.new-entries.result.items
    c.in_ok-state.ensures c.len.ensures.len c.leaves_terms_open.ensures c.names_terms.ensures c.ends-bad.ensures.bad
    c.ends-bad.ensures.goods
    (c.in_ok-to_places.ensures ∙ ap (λ (s : Session). s.search.goods) c.state.view_is) c.new-entries.ensures.items
    c.in_ok-push.ensures.items
