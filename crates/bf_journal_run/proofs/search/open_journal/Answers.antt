use Rattle.std.proofs.Common.{ℕ, sym, ap, length, ◌∙◌, IfOk, IfSome}
use Rattle.bf_commands.specs.Journal.{Opens}
use Rattle.bf_commands.specs.Journal.OpenedJournal.{Kept, Other}
use Rattle.bf_journal_run.specs.Legs.{met_disk}
use Rattle.bf_journal.specs.Disk.{LeavesOnly}
use Rattle.bf_journal.specs.Journal.{IsAsOpened}
use Rattle.bf_journal_run.proofs.Concluding.{as_meant, left_alone, long_journal, own_journal, sound_journal, same_identity, unopened_yet}
use Rattle.bf_oid.specs.declared.object.Oid.{Oid}
use Rattle.bf_journal_run.proofs.search.open_journal.Goals as goal

pub returns-clause-kept : goal.returns-clause-kept
returns-clause-kept g c =
    as_meant (λ (i : Oid) (n : ℕ). IfOk c.open.result (λ journal. Opens (met_disk g.J.Disk c.args.disk.now c.open.new.disk) i n (Kept journal.kept)))
    _ _ _ _ (same_identity _ _ _ _ _ _ c.in_ok-identity.ensures c.names-names.ensures.value c.command_of.ensures)
    (c.len.ensures.len ∙ sym c.names-names.ensures.len ∙ ap length c.names-names.ensures.value)
    c.open.ensures.kept

pub returns-clause-other : goal.returns-clause-other
returns-clause-other g c = λ kept e.
    as_meant (λ (i : Oid) (n : ℕ). Opens (met_disk g.J.Disk c.args.disk.now c.open.new.disk) i n (Other kept))
    _ _ _ _ (same_identity _ _ _ _ _ _ c.in_ok-identity.ensures c.names-names.ensures.value c.command_of.ensures)
    (c.len.ensures.len ∙ sym c.names-names.ensures.len ∙ ap length c.names-names.ensures.value)
    (c.open.ensures.mismatch kept e)

pub returns-in_err-identity-clause-any_moment : goal.returns-in_err-identity-clause-any_moment
returns-in_err-identity-clause-any_moment g c = unopened_yet g.J.Disk g.met.J.Disk.only_now c.args.disk.now _ _

pub returns-clause-alone : goal.returns-clause-alone
returns-clause-alone g c = λ kept e.
    left_alone g.J.Disk c.args.disk.now c.open.new.disk (c.open.ensures.untouched kept e) (c.open.ensures.settled kept e) (c.open.ensures.no_more kept e)

pub returns-clause-any_moment : goal.returns-clause-any_moment
returns-clause-any_moment g c =
    let disk = g.J.Disk in
    as_meant (λ (i : Oid) (n : ℕ). IfSome (disk.told c.args.disk.now) (λ bytes. LeavesOnly disk.moment disk.left_since c.args.disk.now c.open.new.disk
    (IsAsOpened (disk.may_leave c.args.disk.now) i n bytes)))
    _ _ _ _ (same_identity _ _ _ _ _ _ c.in_ok-identity.ensures c.names-names.ensures.value c.command_of.ensures)
    (c.len.ensures.len ∙ sym c.names-names.ensures.len ∙ ap length c.names-names.ensures.value)
    c.open.ensures.any_moment

pub returns-clause-run : goal.returns-clause-run
returns-clause-run g c =
    own_journal c.open.result _ _ (same_identity _ _ _ _ _ _ c.in_ok-identity.ensures c.names-names.ensures.value c.command_of.ensures) c.open.ensures.journal

pub returns-clause-sound : goal.returns-clause-sound
returns-clause-sound g c = sound_journal c.open.result _ c.open.ensures.journal

pub returns-clause-commits : goal.returns-clause-commits
returns-clause-commits g c =
    long_journal c.open.result _ _ (c.len.ensures.len ∙ sym c.names-names.ensures.len ∙ ap length c.names-names.ensures.value) c.open.ensures.places
