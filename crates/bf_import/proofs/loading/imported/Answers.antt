use Rattle.std.proofs.Common.{rules, ℕ, List, Result, Ok, Err, ap, sym, subst, ◌∙◌}
use Rattle.bf_history.specs.declared.fault.ImportFault.{ImportFault}
use Rattle.bf_history.specs.Meanings.{History}
use Rattle.bf_stream.specs.Standing.{reader_faults, reader_place}
use Rattle.bf_import.specs.Growing.{Importing}
use Rattle.bf_import.specs.Loading.{Loaded, MayLoad, ended}
use Rattle.bf_import.proofs.Loaded.{loads_ended, cause_kept}
use Rattle.bf_import.proofs.Resting.{cause_at, cause_begun, left_at, left_behind, memory_cause, memory_known, memory_loads}
use Rattle.bf_import.proofs.loading.imported.Goals as goal

pub returns-in_ok-rest-in-Ok-clause-loads : goal.returns-in_ok-rest-in-Ok-clause-loads
returns-in_ok-rest-in-Ok-clause-loads g c =
    let left = g.S.Source.left c.args.source.now in
    let more = g.C.Contents.kept c.load-loaded.new.contents in
    subst (λ (h : History). MayLoad left c.args.limits (g.C.Contents.kept c.args.contents) (Ok (h, more)))
    (sym (ap (λ (i : Importing). i.loading.history) c.importer.view_is))
    (subst (λ (r : Result Loaded ImportFault). MayLoad left c.args.limits (g.C.Contents.kept c.args.contents) r)
    (ap (λ (r : Result (Unit {0}) ImportFault). ended r c.load-loaded.new.importer more) c.in-Ok.is)
    (loads_ended c.args.limits left (reader_place g.S.Source.left c.with_window-reader.result) c.in_ok-importer.importer
    (g.C.Contents.kept c.args.contents) (ended c.load-loaded.result c.load-loaded.new.importer more)
    c.with_window-reader.ensures.opens.place c.in_ok-importer.ensures c.load-loaded.ensures.loads))

pub returns-in-Err-clause-loads : goal.returns-in-Err-clause-loads
returns-in-Err-clause-loads g c =
    let left = g.S.Source.left c.args.source.now in
    let more = g.C.Contents.kept c.load-loaded.new.contents in
    subst (λ (r : Result Loaded ImportFault). MayLoad left c.args.limits (g.C.Contents.kept c.args.contents) r)
    (ap (λ (r : Result (Unit {0}) ImportFault). ended r c.load-loaded.new.importer more) c.in-Err.is)
    (loads_ended c.args.limits left (reader_place g.S.Source.left c.with_window-reader.result) c.in_ok-importer.importer
    (g.C.Contents.kept c.args.contents) (ended c.load-loaded.result c.load-loaded.new.importer more)
    c.with_window-reader.ensures.opens.place c.in_ok-importer.ensures c.load-loaded.ensures.loads)

pub returns-in_ok-rest-in-Ok-clause-cause : goal.returns-in_ok-rest-in-Ok-clause-cause
returns-in_ok-rest-in-Ok-clause-cause g c = record {
  later = search (rules, c.load-loaded.ensures.cause.later, c.with_window-reader.ensures.opens.count);
  failed = λ so. absurd (cc);
}

-- the source stands where the reader left it
pub returns-in-Err-clause-cause : goal.returns-in-Err-clause-cause
returns-in-Err-clause-cause g c =
    let here = c.source-1.given.1 (sym (c.close.ensures.same ∙ c.load-loaded.ensures.source ∙ c.with_window-reader.ensures.same)) ∙ c.close.ensures.value in
    cause_at {X = Importing × g.row.C.Denot × List ℕ} (Err c.in-Err.fault) (g.S.Source.faults c.args.source.now)
    (reader_faults g.S.Source.faults c.load-loaded.new.reader) (g.S.Source.faults c.source-1.given.0) (ap g.S.Source.faults here)
    (cause_kept c.in-Err.fault (g.S.Source.faults c.args.source.now) (reader_faults g.S.Source.faults c.load-loaded.new.reader) c.load-loaded.result
    c.in-Err.is (cause_begun c.load-loaded.result _ _ _ c.with_window-reader.ensures.opens.count c.load-loaded.ensures.cause))

pub returns-in_ok-rest-in-Ok-clause-rest : goal.returns-in_ok-rest-in-Ok-clause-rest
returns-in_ok-rest-in-Ok-clause-rest g c =
    let ends = rw c.in-Ok.is at c.load-loaded.ensures.ends in
    let here = c.source-1.given.1 (sym (c.close.ensures.same ∙ c.load-loaded.ensures.source ∙ c.with_window-reader.ensures.same)) ∙ c.close.ensures.value in
    left_at (g.S.Source.left c.args.source.now) c.args.limits c.in_ok-rest-in-Ok.field-0 (g.S.Source.left c.load-loaded.new.reader.cursor.source.now)
    (g.S.Source.left c.source-1.given.0) (ap g.S.Source.left here)
    (left_behind c.args.limits (g.S.Source.left c.args.source.now) (g.S.Source.left c.load-loaded.new.reader.cursor.source.now)
    (reader_place g.S.Source.left c.with_window-reader.result) c.in_ok-importer.importer
    c.load-loaded.new.reader.cursor.window _ c.in_ok-rest-in-Ok.field-0 c.with_window-reader.ensures.opens.place c.with_window-reader.ensures.opens.beyond
    c.in_ok-importer.ensures ends.ends ends.whole ends.beyond c.rest-rest.ensures.spent
    (rw c.in_ok-rest-in-Ok.was at c.rest-rest.ensures.rest))

pub returns-in_err-rest-in-Ok-clause-cause : goal.returns-in_err-rest-in-Ok-clause-cause
returns-in_err-rest-in-Ok-clause-cause g c =
    let here = c.source-1.given.1 (sym (c.close.ensures.same ∙ c.load-loaded.ensures.source ∙ c.with_window-reader.ensures.same)) ∙ c.close.ensures.value in
    let begun = cause_begun c.load-loaded.result _ _ _ c.with_window-reader.ensures.opens.count c.load-loaded.ensures.cause in
    cause_at c.from_residual-in_err-rest-in-Ok.result (g.S.Source.faults c.args.source.now) (reader_faults g.S.Source.faults c.load-loaded.new.reader)
    (g.S.Source.faults c.source-1.given.0) (ap g.S.Source.faults here)
    (memory_cause c.from_residual-in_err-rest-in-Ok.result (g.S.Source.faults c.args.source.now) (reader_faults g.S.Source.faults c.load-loaded.new.reader)
    c.from_residual-in_err-rest-in-Ok.ensures.1 begun.later)

pub returns-in_err-rest-in-Ok-clause-loads : goal.returns-in_err-rest-in-Ok-clause-loads
returns-in_err-rest-in-Ok-clause-loads g c =
    memory_loads g.C.Contents.kept (g.S.Source.left c.args.source.now) c.args.limits (g.C.Contents.kept c.args.contents)
    c.from_residual-in_err-rest-in-Ok.result c.from_residual-in_err-rest-in-Ok.ensures.1

pub returns-in_err-rest-in-Ok-clause-known : goal.returns-in_err-rest-in-Ok-clause-known
returns-in_err-rest-in-Ok-clause-known g c =
    memory_known (g.C.Contents.kept c.args.contents) c.from_residual-in_err-rest-in-Ok.result c.from_residual-in_err-rest-in-Ok.ensures.1
