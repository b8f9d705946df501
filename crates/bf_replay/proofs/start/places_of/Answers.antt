use Rattle.std.proofs.Common.{◌≡◌, ◌<◌, [], length, Ok, ◌∙◌, sym, ap}
use Rattle.std.specs.List.{All}
use Rattle.std.proofs.lemmas.Result.{err_from_is_err_and}
use Rattle.std.proofs.lemmas.List.Elements.{All-nil, All-push}
use Rattle.bf_log.specs.Replay.{named, places_of}
use Rattle.bf_names.specs.Names.{name}
use Rattle.bf_replay.specs.Meaning.{setting_of}
use Rattle.bf_replay.specs.Refusals.{IsRefusal}
use Rattle.bf_replay.proofs.Folding.{behind_places, behind_none, name_placed, name_refused, all_placed}
use Rattle.bf_replay.proofs.start.places_of.Goals as goal

pub loop-name-init : goal.loop-name-init
loop-name-init c = record {
  goes_on = rw c.new-places.ensures.items (behind_none
      (places_of (setting_of c.args.setting.history.now) c.args.line c.args.names.now));
  within = rw c.new-places.ensures.items (All-nil (λ place. place < length c.args.setting.history.now.parents));
}

pub returns-in_err-place_named-clause-refused : goal.returns-in_err-place_named-clause-refused
returns-in_err-place_named-clause-refused c =
    let p = err_from_is_err_and c.from_residual.result c.from_residual.ensures.1 in
    let refused : IsRefusal c.in_err-place_named.field-0.0
    (named c.args.line (name c.args.setting.history.now c.name-item.result)) = rw c.as_slice.ensures at
    c.in_err-place_named.ensures.refused in
    rw (p.1, p.2, c.loop-name.invariant.goes_on)
    (name_refused (setting_of c.args.setting.history.now) c.args.line c.args.names.now c.loop-name.name-index
    c.name-item.result c.loop-name.places.items
    c.loop-name-test.true c.name-item.is c.in_err-place_named.field-0.0 refused)

pub loop-name-preserved : goal.loop-name-preserved
loop-name-preserved c =
    let place : named c.args.line (name c.args.setting.history.now c.name-item.result) ≡ Ok
    c.in_ok-place_named.field-0 = rw c.as_slice.ensures at c.in_ok-place_named.ensures.place in
    record {
      goes_on = c.loop-name.invariant.goes_on
          ∙ name_placed (setting_of c.args.setting.history.now) c.args.line c.args.names.now c.loop-name.name-index
          c.name-item.result c.loop-name.places.items
          c.loop-name-test.true c.name-item.is c.push.new.self.items c.in_ok-place_named.field-0 place
          c.in_ok-push.ensures.items;
      within = rw c.in_ok-push.ensures.items (All-push (λ place. place < length c.args.setting.history.now.parents)
          c.loop-name.places.items c.in_ok-place_named.field-0
          c.loop-name.invariant.within c.in_ok-place_named.ensures.within);
    }

pub returns-clause-places : goal.returns-clause-places
returns-clause-places c = c.loop-name.invariant.goes_on
    ∙ all_placed (setting_of c.args.setting.history.now) c.args.line c.args.names.now c.loop-name.name-index
    c.loop-name.places.items c.loop-name-test.false
