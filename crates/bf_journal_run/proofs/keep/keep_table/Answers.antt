use Rattle.std.proofs.Common.{refl, inl, ◌∙◌, arith}
use Rattle.bf_journal_run.specs.Kept.{IsToKeep}
use Rattle.bf_journal_run.proofs.Keeping.{kept_first, kept_next, more_put, nothing_since, part_itself}
use Rattle.bf_search.specs.Outcomes.{outcomes_of_table}
use Rattle.bf_journal_run.proofs.keep.keep_table.Goals as goal

pub loop-place-init : goal.loop-place-init
loop-place-init g c = record {
  to = kept_first c.args.journal.now.kept c.args.table.now;
  run = (refl, refl);
  sound = c.requires.sound;
  fits = c.requires.fits;
  told = refl;
  any_moment = nothing_since g.J.Disk g.met.J.Disk.only_now c.args.disk.now c.args.journal.now c.args.journal.now.kept (IsToKeep c.args.table.now)
      (part_itself (outcomes_of_table c.args.journal.now.kept)) (λ p outcome was. inl was) c.requires.fits.settled c.requires.fits.bytes;
  later = omega arith;
}

pub returns-in_err-keep-clause-any_moment : goal.returns-in_err-keep-clause-any_moment
returns-in_err-keep-clause-any_moment g c =
    let so_far = c.loop-place.invariant in
    more_put g.J.Disk c.args.disk.now c.loop-place.disk c.keep.new.disk c.args.journal.now c.loop-place.journal c.loop-place.place c.args.table.now
    c.get.result so_far.told so_far.run c.get.ensures so_far.to so_far.any_moment c.keep.ensures.any_moment

pub loop-place-preserved : goal.loop-place-preserved
loop-place-preserved g c =
    let so_far = c.loop-place.invariant in
    record {
      to = kept_next c.loop-place.place c.args.journal.now.kept c.args.table.now c.loop-place.journal.kept c.keep.new.journal.kept c.get.result c.get.ensures
          c.in_ok-keep.ensures.kept so_far.to;
      run = (c.keep.ensures.run.0 ∙ so_far.run.0, c.keep.ensures.run.1 ∙ so_far.run.1);
      sound = c.in_ok-keep.ensures.sound;
      fits = c.in_ok-keep.ensures.fits;
      told = c.keep.ensures.told ∙ so_far.told;
      any_moment = more_put g.J.Disk c.args.disk.now c.loop-place.disk c.keep.new.disk c.args.journal.now c.loop-place.journal c.loop-place.place
          c.args.table.now c.get.result so_far.told so_far.run c.get.ensures so_far.to so_far.any_moment c.keep.ensures.any_moment;
      later = omega (arith, so_far.later, c.keep.ensures.failed.later);
    }
