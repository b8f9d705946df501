use Rattle.bf_journal_run.specs.Kept.{StandsForOne}
use Rattle.std.proofs.Common.{inl, sym, ◌∙◌}
use Rattle.bf_journal_run.proofs.Keeping.{nothing_put, one_put, vacant_place}
use Rattle.bf_journal_run.proofs.keep.keep.Goals as goal

pub returns-then-is_some-clause-any_moment : goal.returns-then-is_some-clause-any_moment
returns-then-is_some-clause-any_moment g c =
    nothing_put g.J.Disk (StandsForOne c.args.journal.now c.args.place c.args.known) g.met.J.Disk.only_now _ c.args.disk.now c.args.journal.now
    (λ image stands. inl stands) c.requires.fits.settled c.requires.fits.bytes

pub returns-in-None-clause-any_moment : goal.returns-in-None-clause-any_moment
returns-in-None-clause-any_moment g c =
    nothing_put g.J.Disk (StandsForOne c.args.journal.now c.args.place c.args.known) g.met.J.Disk.only_now _ c.args.disk.now c.args.journal.now
    (λ image stands. inl stands) c.requires.fits.settled c.requires.fits.bytes

pub returns-in-Some-clause-any_moment : goal.returns-in-Some-clause-any_moment
returns-in-Some-clause-any_moment g c =
    one_put g.J.Disk _ c.args.disk.now c.put.new.disk c.args.journal.now c.args.place c.in-Some.outcome c.args.known c.requires.within
    (vacant_place c.kept.result c.is_some.result c.kept.ensures c.is_some.ensures c.if-is_some.false)
    (sym c.to_keep.ensures ∙ c.in-Some.is) c.put.ensures.any_moment
