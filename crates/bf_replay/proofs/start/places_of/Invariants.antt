use Rattle.std.proofs.Common.{◌≡◌, ◌<◌, length, drop}
use Rattle.std.specs.List.{All}
use Rattle.bf_log.specs.Replay.{places_of}
use Rattle.bf_replay.specs.Meaning.{setting_of}
use Rattle.bf_replay.proofs.Folding.{behind_places}
use Rattle.bf_replay.proofs.start.places_of.Given as goal

abbrev pub invariant-loop-name : goal.invariant-loop-name
invariant-loop-name l = record {
  goes_on : places_of (setting_of l.setting.history.now) l.line l.names ≡ behind_places l.places.items
      (places_of (setting_of l.setting.history.now) l.line (drop l.name-index l.names));
  within : All (λ place. place < length l.setting.history.now.parents) l.places.items;
}
