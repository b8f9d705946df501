use Rattle.bf_grammar.specs.Commands.{headed_at}
use Rattle.bf_stream.proofs.Chains.{reads_pure, reads_handed_on}
use Rattle.std.proofs.Common.{codes, ◌∙◌, ap, subst, Ok, Err}
use Rattle.bf_grammar.specs.declared.command.Head.TheVariants as head
use Rattle.bf_grammar.specs.Forms.{head_of, name_after}
use Rattle.bf_forms.specs.declared.first_lines.FirstLine.{FirstLine}
use Rattle.bf_forms.specs.FirstLines.{head_in, NameIs}
use Rattle.bf_stream.specs.Parts.{commit_from, tag_from, reset_from}
use Rattle.bf_grammar.specs.declared.command.Command.TheVariants.{Feature}
use Rattle.bf_stream.proofs.Starts.{command_next, feature_done}
use Rattle.bf_stream.proofs.Lines.{line_is, line_refused, line_read, line_alone, behind_read, behind_stopped, reads_of}
use Rattle.bf_stream.proofs.reader.Reader.command_in_front.Goals as goal

pub returns-in_err-first_line-clause-reads : goal.returns-in_err-first_line-clause-reads
unfolding headed_at
returns-in_err-first_line-clause-reads g c =
    let is = line_is g.S.Source.left c.args.self.now.cursor c.line_number-line.result c.line.result.now c.line_number-line.ensures.number
    (c.line.ensures.text c.requires) in
    reads_handed_on _ c.from_residual.ensures.1 (line_refused head_of command_next c.line_number-line.result c.line.result.now c.in_err-first_line.field-0.0 is
    c.in_err-first_line.ensures.value (λ e. c.in_err-first_line.ensures.own.0 (ap (λ y. Err y) e)))

pub returns-in-Done-clause-reads : goal.returns-in-Done-clause-reads
unfolding headed_at
returns-in-Done-clause-reads g c =
    let is = line_is g.S.Source.left c.args.self.now.cursor c.line_number-line.result c.line.result.now c.line_number-line.ensures.number
    (c.line.ensures.text c.requires) in
    line_read head_of command_next c.line_number-line.result c.line.result.now head.Done is
    (c.in_ok-first_line.ensures.value.0 ∙ ap (λ (read : FirstLine). Ok (head_in read)) c.in-Done.is) (reads_pure _ _ _ _)

pub returns-in_err-blob-in-Blob-clause-reads : goal.returns-in_err-blob-in-Blob-clause-reads
unfolding headed_at
returns-in_err-blob-in-Blob-clause-reads g c =
    let is = line_is g.S.Source.left c.args.self.now.cursor c.line_number-line.result c.line.result.now c.line_number-line.ensures.number
    (c.line.ensures.text c.requires) in
    reads_handed_on _ c.from_residual-in_err-blob-in-Blob.ensures.1
    (line_read head_of command_next c.line_number-line.result c.line.result.now head.Blob is
    (c.in_ok-first_line.ensures.value.0 ∙ ap (λ (read : FirstLine). Ok (head_in read)) c.in-Blob.is)
    (behind_stopped (c.take_line.ensures.line c.requires).reads c.in_err-blob-in-Blob.ensures))

pub returns-in_ok-blob-in-Blob-clause-reads : goal.returns-in_ok-blob-in-Blob-clause-reads
unfolding headed_at
returns-in_ok-blob-in-Blob-clause-reads g c =
    let is = line_is g.S.Source.left c.args.self.now.cursor c.line_number-line.result c.line.result.now c.line_number-line.ensures.number
    (c.line.ensures.text c.requires) in
    line_read head_of command_next c.line_number-line.result c.line.result.now head.Blob is
    (c.in_ok-first_line.ensures.value.0 ∙ ap (λ (read : FirstLine). Ok (head_in read)) c.in-Blob.is)
    (behind_read (c.take_line.ensures.line c.requires).reads c.in_ok-blob-in-Blob.ensures)

pub returns-in_err-commit-in-Commit-clause-reads : goal.returns-in_err-commit-in-Commit-clause-reads
unfolding headed_at
returns-in_err-commit-in-Commit-clause-reads g c =
    let is = line_is g.S.Source.left c.args.self.now.cursor c.line_number-line.result c.line.result.now c.line_number-line.ensures.number
    (c.line.ensures.text c.requires) in
    let name = c.in_ok-branch-in-Commit.ensures ∙ subst (λ (read : FirstLine). NameIs c.line.result.now read) c.in-Commit.is
    c.in_ok-first_line.ensures.value.1 in
    reads_handed_on _ c.from_residual-in_err-commit-in-Commit.ensures.1
    (line_read head_of command_next c.line_number-line.result c.line.result.now head.Commit is
    (c.in_ok-first_line.ensures.value.0 ∙ ap (λ (read : FirstLine). Ok (head_in read)) c.in-Commit.is)
    (behind_stopped (c.take_line-in-Commit.ensures.line c.requires).reads
    (reads_of (commit_from c.line_number-line.result) c.in_ok-branch-in-Commit.branch (name_after (codes "commit") c.line.result.now) name
    c.in_err-commit-in-Commit.ensures)))

pub returns-in_ok-commit-in-Commit-clause-reads : goal.returns-in_ok-commit-in-Commit-clause-reads
unfolding headed_at
returns-in_ok-commit-in-Commit-clause-reads g c =
    let is = line_is g.S.Source.left c.args.self.now.cursor c.line_number-line.result c.line.result.now c.line_number-line.ensures.number
    (c.line.ensures.text c.requires) in
    let name = c.in_ok-branch-in-Commit.ensures ∙ subst (λ (read : FirstLine). NameIs c.line.result.now read) c.in-Commit.is
    c.in_ok-first_line.ensures.value.1 in
    line_read head_of command_next c.line_number-line.result c.line.result.now head.Commit is
    (c.in_ok-first_line.ensures.value.0 ∙ ap (λ (read : FirstLine). Ok (head_in read)) c.in-Commit.is)
    (behind_read (c.take_line-in-Commit.ensures.line c.requires).reads
    (reads_of (commit_from c.line_number-line.result) c.in_ok-branch-in-Commit.branch (name_after (codes "commit") c.line.result.now) name
    c.in_ok-commit-in-Commit.ensures))

pub returns-in_err-tag-in-Tag-clause-reads : goal.returns-in_err-tag-in-Tag-clause-reads
unfolding headed_at
returns-in_err-tag-in-Tag-clause-reads g c =
    let is = line_is g.S.Source.left c.args.self.now.cursor c.line_number-line.result c.line.result.now c.line_number-line.ensures.number
    (c.line.ensures.text c.requires) in
    let name = c.in_ok-name-in-Tag.ensures ∙ subst (λ (read : FirstLine). NameIs c.line.result.now read) c.in-Tag.is c.in_ok-first_line.ensures.value.1 in
    reads_handed_on _ c.from_residual-in_err-tag-in-Tag.ensures.1
    (line_read head_of command_next c.line_number-line.result c.line.result.now head.Tag is
    (c.in_ok-first_line.ensures.value.0 ∙ ap (λ (read : FirstLine). Ok (head_in read)) c.in-Tag.is)
    (behind_stopped (c.take_line-in-Tag.ensures.line c.requires).reads
    (reads_of (tag_from c.line_number-line.result) c.in_ok-name-in-Tag.name (name_after (codes "tag") c.line.result.now) name c.in_err-tag-in-Tag.ensures)))

pub returns-in_ok-tag-in-Tag-clause-reads : goal.returns-in_ok-tag-in-Tag-clause-reads
unfolding headed_at
returns-in_ok-tag-in-Tag-clause-reads g c =
    let is = line_is g.S.Source.left c.args.self.now.cursor c.line_number-line.result c.line.result.now c.line_number-line.ensures.number
    (c.line.ensures.text c.requires) in
    let name = c.in_ok-name-in-Tag.ensures ∙ subst (λ (read : FirstLine). NameIs c.line.result.now read) c.in-Tag.is c.in_ok-first_line.ensures.value.1 in
    line_read head_of command_next c.line_number-line.result c.line.result.now head.Tag is
    (c.in_ok-first_line.ensures.value.0 ∙ ap (λ (read : FirstLine). Ok (head_in read)) c.in-Tag.is)
    (behind_read (c.take_line-in-Tag.ensures.line c.requires).reads
    (reads_of (tag_from c.line_number-line.result) c.in_ok-name-in-Tag.name (name_after (codes "tag") c.line.result.now) name c.in_ok-tag-in-Tag.ensures))

pub returns-in_err-reset-in-Reset-clause-reads : goal.returns-in_err-reset-in-Reset-clause-reads
unfolding headed_at
returns-in_err-reset-in-Reset-clause-reads g c =
    let is = line_is g.S.Source.left c.args.self.now.cursor c.line_number-line.result c.line.result.now c.line_number-line.ensures.number
    (c.line.ensures.text c.requires) in
    let name = c.in_ok-branch-in-Reset.ensures ∙ subst (λ (read : FirstLine). NameIs c.line.result.now read) c.in-Reset.is c.in_ok-first_line.ensures.value.1 in
    reads_handed_on _ c.from_residual-in_err-reset-in-Reset.ensures.1
    (line_read head_of command_next c.line_number-line.result c.line.result.now head.Reset is
    (c.in_ok-first_line.ensures.value.0 ∙ ap (λ (read : FirstLine). Ok (head_in read)) c.in-Reset.is)
    (behind_stopped (c.take_line-in-Reset.ensures.line c.requires).reads
    (reads_of (reset_from c.line_number-line.result) c.in_ok-branch-in-Reset.branch (name_after (codes "reset") c.line.result.now) name
    c.in_err-reset-in-Reset.ensures)))

pub returns-in_ok-reset-in-Reset-clause-reads : goal.returns-in_ok-reset-in-Reset-clause-reads
unfolding headed_at
returns-in_ok-reset-in-Reset-clause-reads g c =
    let is = line_is g.S.Source.left c.args.self.now.cursor c.line_number-line.result c.line.result.now c.line_number-line.ensures.number
    (c.line.ensures.text c.requires) in
    let name = c.in_ok-branch-in-Reset.ensures ∙ subst (λ (read : FirstLine). NameIs c.line.result.now read) c.in-Reset.is c.in_ok-first_line.ensures.value.1 in
    line_read head_of command_next c.line_number-line.result c.line.result.now head.Reset is
    (c.in_ok-first_line.ensures.value.0 ∙ ap (λ (read : FirstLine). Ok (head_in read)) c.in-Reset.is)
    (behind_read (c.take_line-in-Reset.ensures.line c.requires).reads
    (reads_of (reset_from c.line_number-line.result) c.in_ok-branch-in-Reset.branch (name_after (codes "reset") c.line.result.now) name
    c.in_ok-reset-in-Reset.ensures))

pub returns-in-Progress-clause-reads : goal.returns-in-Progress-clause-reads
unfolding headed_at
returns-in-Progress-clause-reads g c =
    let is = line_is g.S.Source.left c.args.self.now.cursor c.line_number-line.result c.line.result.now c.line_number-line.ensures.number
    (c.line.ensures.text c.requires) in
    line_read head_of command_next c.line_number-line.result c.line.result.now head.Progress is
    (c.in_ok-first_line.ensures.value.0 ∙ ap (λ (read : FirstLine). Ok (head_in read)) c.in-Progress.is)
    (line_alone _ (c.take_line-in-Progress.ensures.line c.requires).reads)

pub returns-in-Feature-clause-reads : goal.returns-in-Feature-clause-reads
unfolding headed_at
returns-in-Feature-clause-reads g c =
    let is = line_is g.S.Source.left c.args.self.now.cursor c.line_number-line.result c.line.result.now c.line_number-line.ensures.number
    (c.line.ensures.text c.requires) in
    line_read head_of command_next c.line_number-line.result c.line.result.now head.Feature is
    (c.in_ok-first_line.ensures.value.0 ∙ ap (λ (read : FirstLine). Ok (head_in read)) c.in-Feature.is)
    (line_alone _ (c.take_line-in-Feature.ensures.line c.requires).reads)

pub returns-in-FeatureDone-clause-reads : goal.returns-in-FeatureDone-clause-reads
unfolding headed_at
returns-in-FeatureDone-clause-reads g c =
    let is = line_is g.S.Source.left c.args.self.now.cursor c.line_number-line.result c.line.result.now c.line_number-line.ensures.number
    (c.line.ensures.text c.requires) in
    line_read head_of command_next c.line_number-line.result c.line.result.now head.FeatureDone is
    (c.in_ok-first_line.ensures.value.0 ∙ ap (λ (read : FirstLine). Ok (head_in read)) c.in-FeatureDone.is)
    (feature_done (Feature c.line_number-line.result) (c.take_line-in-FeatureDone.ensures.line c.requires).reads c.make_done_due.ensures)
