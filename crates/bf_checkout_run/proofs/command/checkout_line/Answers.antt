use Rattle.std.proofs.Common.{◌≡◌, Err, inl, refl, ap, ◌∙◌}
use Rattle.bf_answers.specs.Devices.{Met, met, met_shelf, met_sink, met_source}
use Rattle.bf_answers.proofs.Concluding.{sound_answer, sound_started}
use Rattle.bf_output.specs.Output.{is_run}
use Rattle.bf_searches.proofs.Untested.{search_began}
use Rattle.bf_checkout_run.proofs.Furnishing.{left_told, no_answers, not_split, shown, shown_furnished}
use Rattle.bf_checkout_run.proofs.Searched.{between, failed_at_once, grounds_since, no_grounds, run_reads, searched, test_since, told_at_once, used_since}
use Rattle.bf_checkout_run.proofs.command.checkout_line.Given.{Over}
use Rattle.bf_checkout_run.proofs.command.checkout_line.Goals as goal

-- ---- a search

abbrev met_search : (g : Over) → goal.After-search g → Met
met_search g c =
    met c.args.line.words.now (met_source g.S.Source c.args.stream.now c.prepare.new.stream) (met_shelf g.F.Shelf c.args.shelf.now c.prepare.new.shelf)
    (between (shown g.U.Tester g.D.Folder c.args.shop.now) (shown g.U.Tester g.D.Folder c.search.new.tester))
    (met_sink g.K.Sink c.args.out.now c.search.new.out)

pub returns-in-Ok-Search-clause-answers : goal.returns-in-Ok-Search-clause-answers
returns-in-Ok-Search-clause-answers g c =
    searched (met_search g c) c.args.line.request.now c.search.result c.in-Ok-Search.started c.prepare.result c.in-Ok-Search.field-0
    (shown g.U.Tester g.D.Folder c.prepare.new.shop)
    (shown_furnished g.U.Tester g.D.Folder c.args.shop.now c.prepare.new.shop c.prepare.ensures.shop)
    c.in-Ok-Search.is c.in-Ok-Search.field-0-is c.prepare.ensures.tells c.prepare.ensures.sound c.search.ensures.own c.search.ensures.told

pub returns-in-Ok-Search-clause-test : goal.returns-in-Ok-Search-clause-test
returns-in-Ok-Search-clause-test g c =
    test_since (is_run c.args.line.request.now.verb) (shown g.U.Tester g.D.Folder c.prepare.new.shop) (shown g.U.Tester g.D.Folder c.args.shop.now)
    (shown g.U.Tester g.D.Folder c.search.new.tester) c.search.result
    (shown_furnished g.U.Tester g.D.Folder c.args.shop.now c.prepare.new.shop c.prepare.ensures.shop) c.search.ensures.test

pub returns-in-Ok-Search-clause-used : goal.returns-in-Ok-Search-clause-used
returns-in-Ok-Search-clause-used g c =
    used_since c.args.line.request.now c.args.line.words.now (shown g.U.Tester g.D.Folder c.prepare.new.shop)
    (shown g.U.Tester g.D.Folder c.args.shop.now) (shown g.U.Tester g.D.Folder c.search.new.tester)
    (shown_furnished g.U.Tester g.D.Folder c.args.shop.now c.prepare.new.shop c.prepare.ensures.shop) c.search.ensures.used

pub returns-in-Ok-Search-clause-untested : goal.returns-in-Ok-Search-clause-untested
returns-in-Ok-Search-clause-untested g c = λ refused.
    let line = c.args.line in
    let started = c.in-Ok-Search.started in
    let before = shown g.U.Tester g.D.Folder c.args.shop.now in
    let after = shown g.U.Tester g.D.Folder c.search.new.tester in
    absurd {A = after ≡ before} (search_began line.request.now.verb line.request.now line.words.now (is_run line.request.now.verb)
    (between (shown g.U.Tester g.D.Folder c.prepare.new.shop) after) started _ _ c.search.result
    (sound_started line.request.now c.prepare.result c.in-Ok-Search.field-0 started c.in-Ok-Search.is c.in-Ok-Search.field-0-is c.prepare.ensures.sound)
    c.search.ensures.told refused)

pub returns-in-Ok-Search-clause-untouched : goal.returns-in-Ok-Search-clause-untouched
returns-in-Ok-Search-clause-untouched g c = λ refused.
    let line = c.args.line in
    let started = c.in-Ok-Search.started in
    let after = shown g.U.Tester g.D.Folder c.search.new.tester in
    absurd {A = c.search.new.tester ≡ c.args.shop.now} (search_began line.request.now.verb line.request.now line.words.now (is_run line.request.now.verb)
    (between (shown g.U.Tester g.D.Folder c.prepare.new.shop) after) started _ _ c.search.result
    (sound_started line.request.now c.prepare.result c.in-Ok-Search.field-0 started c.in-Ok-Search.is c.in-Ok-Search.field-0-is c.prepare.ensures.sound)
    c.search.ensures.told refused)

pub returns-in-Ok-Search-clause-grounds : goal.returns-in-Ok-Search-clause-grounds
returns-in-Ok-Search-clause-grounds g c =
    grounds_since (g.S.Source.left c.args.stream.now) (g.U.Tester.answers c.search.new.tester.tester) _ _ c.prepare.result c.in-Ok-Search.field-0
    c.in-Ok-Search.started c.in-Ok-Search.is c.in-Ok-Search.field-0-is c.prepare.ensures.grounds c.search.ensures.grounds

-- ---- an answer without a test

abbrev met_told : (g : Over) → goal.After-say_answer g → Met
met_told g c =
    met c.args.line.words.now (met_source g.S.Source c.args.stream.now c.prepare.new.stream) (met_shelf g.F.Shelf c.args.shelf.now c.prepare.new.shelf)
    (between (shown g.U.Tester g.D.Folder c.args.shop.now) (shown g.U.Tester g.D.Folder c.prepare.new.shop))
    (met_sink g.K.Sink c.args.out.now c.say_answer.new.out)

pub say_answer-requires : goal.say_answer-requires
say_answer-requires g c = record {
  whole =
      sound_answer c.args.line.request.now c.prepare.result c.in-Ok-Told.field-0 c.in-Ok-Told.answer c.in-Ok-Told.is c.in-Ok-Told.field-0-is
      c.prepare.ensures.sound;
}

pub returns-in-Ok-Told-clause-answers : goal.returns-in-Ok-Told-clause-answers
returns-in-Ok-Told-clause-answers g c =
    told_at_once (met_told g c) c.args.line.request.now c.say_answer.result c.prepare.result c.in-Ok-Told.field-0 c.in-Ok-Told.answer
    (shown_furnished g.U.Tester g.D.Folder c.args.shop.now c.prepare.new.shop c.prepare.ensures.shop)
    c.in-Ok-Told.is c.in-Ok-Told.field-0-is c.prepare.ensures.tells c.prepare.ensures.sound c.say_answer.ensures.told

pub returns-in-Ok-Told-clause-test : goal.returns-in-Ok-Told-clause-test
returns-in-Ok-Told-clause-test g c = λ place e. absurd (c.say_answer.ensures.no_test place e)

pub returns-in-Ok-Told-clause-used : goal.returns-in-Ok-Told-clause-used
returns-in-Ok-Told-clause-used g c =
    let now = shown g.U.Tester g.D.Folder c.prepare.new.shop in
    used_since c.args.line.request.now c.args.line.words.now now (shown g.U.Tester g.D.Folder c.args.shop.now) now
    (shown_furnished g.U.Tester g.D.Folder c.args.shop.now c.prepare.new.shop c.prepare.ensures.shop) (inl refl)

pub returns-in-Ok-Told-clause-untested : goal.returns-in-Ok-Told-clause-untested
returns-in-Ok-Told-clause-untested g c = λ refused.
    shown_furnished g.U.Tester g.D.Folder c.args.shop.now c.prepare.new.shop c.prepare.ensures.shop

pub returns-in-Ok-Told-clause-untouched : goal.returns-in-Ok-Told-clause-untouched
returns-in-Ok-Told-clause-untouched g c = λ refused.
    left_told c.args.shop.now c.prepare.new.shop c.prepare.result c.in-Ok-Told.field-0 c.in-Ok-Told.answer c.in-Ok-Told.is c.in-Ok-Told.field-0-is
    c.prepare.ensures.left

pub returns-in-Ok-Told-clause-is_split : goal.returns-in-Ok-Told-clause-is_split
returns-in-Ok-Told-clause-is_split g c = not_split g.U.Tester c.args.shop.now c.prepare.new.shop c.prepare.ensures.shop c.requires.whole

pub returns-in-Ok-Told-clause-grounds : goal.returns-in-Ok-Told-clause-grounds
returns-in-Ok-Told-clause-grounds g c =
    no_grounds (g.S.Source.left c.args.stream.now) _ _ (no_answers g.U.Tester c.args.shop.now c.prepare.new.shop c.prepare.ensures.shop c.requires.fresh)

-- ---- a device that failed

abbrev met_failed : (g : Over) → goal.After-say_answer-in-Err g → Met
met_failed g c =
    met c.args.line.words.now (met_source g.S.Source c.args.stream.now c.prepare.new.stream) (met_shelf g.F.Shelf c.args.shelf.now c.prepare.new.shelf)
    (between (shown g.U.Tester g.D.Folder c.args.shop.now) (shown g.U.Tester g.D.Folder c.prepare.new.shop))
    (met_sink g.K.Sink c.args.out.now c.say_answer-in-Err.new.out)

pub returns-in-Err-clause-answers : goal.returns-in-Err-clause-answers
returns-in-Err-clause-answers g c =
    failed_at_once (met_failed g c) c.args.line.request.now c.say_answer-in-Err.result c.in-Err.fault
    (shown_furnished g.U.Tester g.D.Folder c.args.shop.now c.prepare.new.shop c.prepare.ensures.shop)
    (λ e. (run_reads c.args.line.request.now c.requires.run, c.prepare.ensures.cause.failed (c.in-Err.is ∙ ap Err e)))
    (λ e. (c.prepare.ensures.asks (c.in-Err.is ∙ ap Err e), c.prepare.ensures.file.failed (c.in-Err.is ∙ ap Err e)))
    c.say_answer-in-Err.ensures.told

pub returns-in-Err-clause-test : goal.returns-in-Err-clause-test
returns-in-Err-clause-test g c = λ place e. absurd (c.say_answer-in-Err.ensures.no_test place e)

pub returns-in-Err-clause-used : goal.returns-in-Err-clause-used
returns-in-Err-clause-used g c =
    let now = shown g.U.Tester g.D.Folder c.prepare.new.shop in
    used_since c.args.line.request.now c.args.line.words.now now (shown g.U.Tester g.D.Folder c.args.shop.now) now
    (shown_furnished g.U.Tester g.D.Folder c.args.shop.now c.prepare.new.shop c.prepare.ensures.shop) (inl refl)

pub returns-in-Err-clause-untested : goal.returns-in-Err-clause-untested
returns-in-Err-clause-untested g c = λ refused.
    shown_furnished g.U.Tester g.D.Folder c.args.shop.now c.prepare.new.shop c.prepare.ensures.shop

pub returns-in-Err-clause-is_split : goal.returns-in-Err-clause-is_split
returns-in-Err-clause-is_split g c = not_split g.U.Tester c.args.shop.now c.prepare.new.shop c.prepare.ensures.shop c.requires.whole

pub returns-in-Err-clause-grounds : goal.returns-in-Err-clause-grounds
returns-in-Err-clause-grounds g c =
    no_grounds (g.S.Source.left c.args.stream.now) _ _ (no_answers g.U.Tester c.args.shop.now c.prepare.new.shop c.prepare.ensures.shop c.requires.fresh)
