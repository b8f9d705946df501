use Rattle.std.proofs.Common.{Result, Ok, refl}
use Rattle.bf_grammar.specs.declared.command.Command.TheVariants.{Blob, Tag, Reset, Progress, Feature}
use Rattle.bf_history.specs.declared.fault.ImportFault.{ImportFault}
use Rattle.bf_history.specs.Meanings.{after_command}
use Rattle.bf_import.proofs.Carried.{commanded, commanded_commit, keeps_all, keeps_blob, keeps_commit}
use Rattle.bf_import.proofs.importer.Importer.take.Goals as goal

pub returns-in-Blob-clause-loading : goal.returns-in-Blob-clause-loading
unfolding after_command
returns-in-Blob-clause-loading g c =
    commanded (λ _. c.take_blob.new.self.loading) c.args.self.now.limits (g.C.Contents.kept c.args.contents.now) c.args.self.now.loading c.args.command
    (Blob _ c.in-Blob.mark c.in-Blob.content) c.take_blob.result c.in-Blob.is tt c.take_blob.ensures.loading

pub returns-in-Commit-clause-loading : goal.returns-in-Commit-clause-loading
returns-in-Commit-clause-loading g c =
    commanded_commit (λ _. c.take_commit.new.self.loading) c.args.self.now.limits (g.C.Contents.kept c.args.contents.now) c.args.self.now.loading
    c.args.command c.in-Commit.commit c.take_commit.result c.in-Commit.is c.take_commit.ensures.loading

pub returns-in-Tag-clause-loading : goal.returns-in-Tag-clause-loading
unfolding after_command
returns-in-Tag-clause-loading g c =
    commanded (λ _. c.take_tag.new.self.loading) c.args.self.now.limits (g.C.Contents.kept c.args.contents.now) c.args.self.now.loading c.args.command
    (Tag c.in-Tag.line c.in-Tag.name c.in-Tag.mark c.in-Tag.from) c.take_tag.result c.in-Tag.is tt c.take_tag.ensures.loading

pub returns-in-Reset-clause-loading : goal.returns-in-Reset-clause-loading
unfolding after_command
returns-in-Reset-clause-loading g c =
    commanded (λ _. c.take_reset.new.self.loading) c.args.self.now.limits (g.C.Contents.kept c.args.contents.now) c.args.self.now.loading c.args.command
    (Reset _ c.in-Reset.branch c.in-Reset.from) c.take_reset.result c.in-Reset.is tt c.take_reset.ensures.loading

pub returns-in-Progress-clause-loading : goal.returns-in-Progress-clause-loading
unfolding after_command
returns-in-Progress-clause-loading g c =
    let done : Result (Unit {0}) ImportFault = Ok tt in
    commanded (λ (_ : Unit {0}). c.args.self.now.loading) c.args.self.now.limits (g.C.Contents.kept c.args.contents.now) c.args.self.now.loading c.args.command
    (Progress c.in-Progress.line) done c.in-Progress.is tt refl

pub returns-in-Feature-clause-loading : goal.returns-in-Feature-clause-loading
unfolding after_command
returns-in-Feature-clause-loading g c =
    let done : Result (Unit {0}) ImportFault = Ok tt in
    commanded (λ (_ : Unit {0}). c.args.self.now.loading) c.args.self.now.limits (g.C.Contents.kept c.args.contents.now) c.args.self.now.loading c.args.command
    (Feature c.in-Feature.line) done c.in-Feature.is tt refl

pub returns-in-Blob-clause-kept : goal.returns-in-Blob-clause-kept
returns-in-Blob-clause-kept g c =
    keeps_blob c.take_blob.result (g.C.Contents.kept c.args.contents.now) (g.C.Contents.kept c.take_blob.new.contents) c.args.command
    _ c.in-Blob.mark c.in-Blob.content c.in-Blob.is c.take_blob.ensures.kept

pub returns-in-Commit-clause-kept : goal.returns-in-Commit-clause-kept
returns-in-Commit-clause-kept g c =
    keeps_commit c.take_commit.result (g.C.Contents.kept c.args.contents.now) (g.C.Contents.kept c.take_commit.new.contents) c.args.command
    c.in-Commit.commit c.in-Commit.is c.take_commit.ensures.kept

pub returns-in-Tag-clause-kept : goal.returns-in-Tag-clause-kept
returns-in-Tag-clause-kept g c =
    keeps_all c.take_tag.result (g.C.Contents.kept c.args.contents.now) c.args.command
    (Tag c.in-Tag.line c.in-Tag.name c.in-Tag.mark c.in-Tag.from) c.in-Tag.is tt

pub returns-in-Reset-clause-kept : goal.returns-in-Reset-clause-kept
returns-in-Reset-clause-kept g c =
    keeps_all c.take_reset.result (g.C.Contents.kept c.args.contents.now) c.args.command
    (Reset _ c.in-Reset.branch c.in-Reset.from) c.in-Reset.is tt

pub returns-in-Progress-clause-kept : goal.returns-in-Progress-clause-kept
returns-in-Progress-clause-kept g c =
    let done : Result (Unit {0}) ImportFault = Ok tt in
    keeps_all done (g.C.Contents.kept c.args.contents.now) c.args.command (Progress c.in-Progress.line) c.in-Progress.is tt

pub returns-in-Feature-clause-kept : goal.returns-in-Feature-clause-kept
returns-in-Feature-clause-kept g c =
    let done : Result (Unit {0}) ImportFault = Ok tt in
    keeps_all done (g.C.Contents.kept c.args.contents.now) c.args.command (Feature c.in-Feature.line) c.in-Feature.is tt
