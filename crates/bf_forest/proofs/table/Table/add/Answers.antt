use Rattle.std.proofs.Common.{◌≡◌, ◌<◌, length, slice_get, Some}
use Rattle.std.proofs.lemmas.Result.{IfOk-weaker}
use Rattle.bf_forest.specs.declared.table.Stored.{Stored}
use Rattle.bf_forest.specs.Nodes.{entry_at}
use Rattle.bf_forest.specs.Stored.{entries_in}
use Rattle.bf_forest.proofs.Storing.{keys_stay, keys_joined, table_stays, table_joined, stored_within, stored_at}
use Rattle.bf_forest.proofs.table.Table.add.Goals as goal

pub invariant_of-self : goal.invariant_of-self
invariant_of-self c = keys_stay c.self.inside.keys.keys c.number_of_key.new.keys.keys c.self.inside.stored.keys c.number_of_key.ensures.kept c.self.invariant

pub returns-in_err-key-clause-kept : goal.returns-in_err-key-clause-kept
returns-in_err-key-clause-kept c =
    table_stays c.self.inside.keys.keys c.number_of_key.new.keys.keys c.self.inside.stored.keys c.args.self.now c.number_of_key.ensures.kept c.self.invariant
    c.self.view_is

pub invariant_of-self-2 : goal.invariant_of-self-2
invariant_of-self-2 c =
    let s : Stored = record { key = c.in_ok-key.key; content = c.content_of-content.result } in
    keys_joined c.self.inside.keys.keys c.number_of_key.new.keys.keys c.self.inside.stored.keys c.number_of_stored.new.entries.keys s c.args.entry.key
    c.number_of_key.ensures.kept c.self.invariant c.number_of_stored.ensures.kept c.in_ok-key.ensures.at

pub returns-clause-kept : goal.returns-clause-kept
returns-clause-kept c =
    let s : Stored = record { key = c.in_ok-key.key; content = c.content_of-content.result } in
    table_joined c.self.inside.keys.keys c.number_of_key.new.keys.keys c.self.inside.stored.keys c.number_of_stored.new.entries.keys s c.args.self.now
    c.number_of_key.ensures.kept c.self.invariant c.number_of_stored.ensures.kept c.self.view_is

pub returns-clause-within : goal.returns-clause-within
returns-clause-within c =
    let s : Stored = record { key = c.in_ok-key.key; content = c.content_of-content.result } in
    let stored = c.number_of_stored.new.entries.keys in
    let keys = c.number_of_key.new.keys.keys in
    IfOk-weaker c.number_of_stored.result (λ number. slice_get stored number ≡ Some s) (λ number. number < length (entries_in keys stored))
    (λ number at. stored_within keys stored number s at) c.number_of_stored.ensures.at

pub returns-clause-entry : goal.returns-clause-entry
returns-clause-entry c =
    let s : Stored = record { key = c.in_ok-key.key; content = c.content_of-content.result } in
    let stored = c.number_of_stored.new.entries.keys in
    let keys = c.number_of_key.new.keys.keys in
    IfOk-weaker c.number_of_stored.result (λ number. slice_get stored number ≡ Some s) (λ number. entry_at (entries_in keys stored) number ≡ c.args.entry)
    (λ number at. stored_at keys stored number s c.args.entry at c.in_ok-key.ensures.at c.content_of-content.ensures) c.number_of_stored.ensures.at
