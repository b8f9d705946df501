use Rattle.std.proofs.Common.{◌∙◌, Option, sym, subst}
use Rattle.std.specs.Option.{option_copied}
use Rattle.bf_search.specs.declared.farm.Ending.{Ending}
use Rattle.bf_search.specs.Farm.{consumed}
use Rattle.bf_spec.specs.Walks.{Tells}
use Rattle.bf_farm.proofs.Telling.{marked_known, ending_known, answers_of_run, reports}
use Rattle.bf_farm.proofs.report.report_of.Goals as goal

pub used_of-requires-clause-marked : goal.used_of-requires-clause-marked
used_of-requires-clause-marked c =
    marked_known c.args.board.core.setting c.args.board.core.farm.table c.into_parts-parts.result.0.table c.as_slice.result.now
    c.into_parts-parts.ensures.table (c.as_slice.ensures.value ∙ c.into_parts-parts.ensures.entries)

pub used_of-requires-clause-aborting : goal.used_of-requires-clause-aborting
used_of-requires-clause-aborting c =
    let end = (consumed c.args.board.core.setting c.args.board.core.farm.table).end in
    ending_known c.args.board.core.setting c.args.board.core.farm.table c.into_parts-parts.result.0.table (option_copied c.as_ref.result)
    c.into_parts-parts.ensures.table (subst (λ (o : Option Ending). Tells o end) (sym c.as_ref.ensures.value) c.into_parts-parts.ensures.ending)

pub returns-clause-report : goal.returns-clause-report
returns-clause-report c =
    let end = (consumed c.args.board.core.setting c.args.board.core.farm.table).end in
    reports c.args.board.core.setting c.args.board.core.first c.args.names.now c.args.board.core.farm.table _ c.into_parts-parts.ensures.entries
    c.into_parts-parts.ensures.state (c.ending_of.ensures end c.into_parts-parts.ensures.ending c.requires.stops) c.into_parts-parts.ensures.table
    (answers_of_run c.args.board.core.setting c.args.names.now c.args.board.core.farm.table c.into_parts-parts.result.0.table c.as_slice.result.now
    (option_copied c.as_ref.result) c.in_ok-used.used.items c.into_parts-parts.ensures.table (c.as_slice.ensures.value ∙ c.into_parts-parts.ensures.entries)
    (subst (λ (o : Option Ending). Tells o end) (sym c.as_ref.ensures.value) c.into_parts-parts.ensures.ending) c.in_ok-used.ensures)
    c.into_parts-parts.ensures.over
