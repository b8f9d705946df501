use Rattle.std.proofs.Common.{◌∙◌, ap, length, sym}
use Rattle.bf_state.specs.Session.{Session}
use Rattle.bf_state.proofs.Within.{warned_in_session}
use Rattle.bf_replay.proofs.Folding.{marked_within, below_same}
use Rattle.bf_replay.proofs.mark.take_mark.Goals as goal

pub returns-clause-within : goal.returns-clause-within
returns-clause-within c =
    let len = ap (λ (s : Session). s.len) c.in_ok-mark.ensures.state ∙ c.requires.len in
    marked_within (length c.args.setting.history.now.parents) c.args.before.entries.items c.push_marked.new.entries.items
    c.as_slice.result.now c.in_ok-mark.mark c.in_ok-place.place c.requires.within
    (rw (c.as_slice.ensures.value, c.in_ok-warned.ensures.warned)
    (below_same c.read_mark.new.state.len (length c.args.setting.history.now.parents) _ len
    (warned_in_session c.args.setting.reach.now c.read_mark.new.state (ap length c.requires.reach ∙ sym len)
    c.len-places.ensures.below)))
    c.in_ok-place.ensures.within c.in_ok-push_marked.ensures
