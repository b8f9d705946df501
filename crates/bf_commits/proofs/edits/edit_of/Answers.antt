use Rattle.std.proofs.Common.{ℕ, List, Err, sym, ◌∙◌, ap, subst}
use Rattle.bf_history.specs.Imports.{Means}
use Rattle.bf_history.specs.Meanings.{path_at}
use Rattle.bf_commits.proofs.Changes.{content_refused, path_refused, file_set, file_lacks, removal_refused, removed, cleared, inline_named}
use Rattle.bf_commits.proofs.edits.edit_of.Goals as goal

pub returns-in_err-path-in-Delete-clause-edit : goal.returns-in_err-path-in-Delete-clause-edit
returns-in_err-path-in-Delete-clause-edit g c =
    removal_refused (g.C.Contents.kept c.args.contents.now) c.args.marks.now c.in-Delete.line c.in-Delete.path c.args.change c.in-Delete.is
    c.in_err-path-in-Delete.field-0.0 c.from_residual-in_err-path-in-Delete.result c.from_residual-in_err-path-in-Delete.ensures.1
    (subst (λ (text : List ℕ). Means (λ (p : List (List ℕ)). p) (Err c.in_err-path-in-Delete.field-0.0) (path_at c.in-Delete.line text))
    c.as_slice-in-Delete.ensures c.in_err-path-in-Delete.ensures)

pub returns-in_ok-path-in-Delete-clause-edit : goal.returns-in_ok-path-in-Delete-clause-edit
returns-in_ok-path-in-Delete-clause-edit g c =
    removed (g.C.Contents.kept c.args.contents.now) c.args.marks.now c.in-Delete.line c.in-Delete.path c.args.change c.in-Delete.is
    c.in_ok-path-in-Delete.path
    (ap (λ (text : List ℕ). path_at c.in-Delete.line text) (sym c.as_slice-in-Delete.ensures) ∙ c.in_ok-path-in-Delete.ensures)

pub returns-in_err-oid-in-Modify-clause-edit : goal.returns-in_err-oid-in-Modify-clause-edit
returns-in_err-oid-in-Modify-clause-edit g c =
    content_refused (g.C.Contents.kept c.args.contents.now) c.args.marks.now c.in-Modify.line c.in-Modify.mode c.in-Modify.dataref c.in-Modify.path
    c.args.change c.in-Modify.is
    c.in_err-oid-in-Modify.field-0.0 c.from_residual.result c.from_residual.ensures.1 c.in_err-oid-in-Modify.ensures

pub returns-in_err-path-in-Modify-clause-edit : goal.returns-in_err-path-in-Modify-clause-edit
returns-in_err-path-in-Modify-clause-edit g c =
    path_refused (g.C.Contents.kept c.args.contents.now) c.args.marks.now c.in-Modify.line c.in-Modify.mode c.in-Modify.dataref c.in-Modify.path
    c.args.change c.in-Modify.is
    c.in_ok-oid-in-Modify.oid c.in_ok-oid-in-Modify.ensures c.in_err-path-in-Modify.field-0.0 c.from_residual-in_err-path-in-Modify.result
    c.from_residual-in_err-path-in-Modify.ensures.1
    (subst (λ (text : List ℕ). Means (λ (p : List (List ℕ)). p) (Err c.in_err-path-in-Modify.field-0.0) (path_at c.in-Modify.line text)) c.as_slice.ensures
    c.in_err-path-in-Modify.ensures)

pub add_inline-requires : goal.add_inline-requires
add_inline-requires g c =
    inline_named c.args.marks.now c.in-Modify.line c.in-Modify.mode c.in-Modify.dataref c.in_ok-oid-in-Modify.oid c.in_ok-oid-in-Modify.ensures

pub returns-then-lacks-clause-edit : goal.returns-then-lacks-clause-edit
returns-then-lacks-clause-edit g c =
    file_lacks (g.C.Contents.kept c.args.contents.now) c.args.marks.now c.in-Modify.line c.in-Modify.mode c.in-Modify.dataref c.in-Modify.path
    c.args.change c.in-Modify.is
    c.in_ok-oid-in-Modify.oid c.in_ok-oid-in-Modify.ensures c.in_ok-path-in-Modify.path
    (ap (λ (text : List ℕ). path_at c.in-Modify.line text) (sym c.as_slice.ensures) ∙ c.in_ok-path-in-Modify.ensures) (sym c.if-lacks.ensures)

pub returns-in_ok-add_inline-in-Modify-clause-edit : goal.returns-in_ok-add_inline-in-Modify-clause-edit
returns-in_ok-add_inline-in-Modify-clause-edit g c =
    file_set (g.C.Contents.kept c.args.contents.now) c.args.marks.now c.in-Modify.line c.in-Modify.mode c.in-Modify.dataref c.in-Modify.path
    c.args.change c.in-Modify.is
    c.in_ok-oid-in-Modify.oid c.in_ok-oid-in-Modify.ensures c.in_ok-path-in-Modify.path
    (ap (λ (text : List ℕ). path_at c.in-Modify.line text) (sym c.as_slice.ensures) ∙ c.in_ok-path-in-Modify.ensures) (sym c.if-lacks.ensures)

pub returns-in-DeleteAll-clause-edit : goal.returns-in-DeleteAll-clause-edit
returns-in-DeleteAll-clause-edit g c =
    cleared (g.C.Contents.kept c.args.contents.now) c.args.marks.now c.in-DeleteAll.line c.args.change c.in-DeleteAll.is
