use Rattle.std.proofs.Common.{◌≡◌, ℕ, true, false, Result, refl, ap, sym, subst, ◌∙◌}
use Rattle.bf_answers.specs.Answers.{Answers, IsFailedTest}
use Rattle.bf_answers.specs.Devices.{Met, given_in, met, met_shelf, met_sink, met_source}
use Rattle.bf_answers.proofs.Answering.{read_cause, shelf_cause}
use Rattle.bf_answers.proofs.Complete.{complete}
use Rattle.bf_answers.proofs.Concluding.{said_answer}
use Rattle.bf_answers.proofs.Streamed.{word_told}
use Rattle.bf_commands.specs.Checkout.{IsCheckedOut}
use Rattle.bf_output.specs.Output.{IsUsedFor, asks_file, reads, tests}
use Rattle.bf_searches.proofs.Using.{unused_for}
use Rattle.bf_words.specs.declared.request.Request.{Request}
use Rattle.bf_checkout_run.specs.CheckingOut.{asked_by, checking_out, to_checkout}
use Rattle.bf_checkout_run.proofs.Furnishing.{shown}
use Rattle.bf_checkout_run.proofs.Searched.{between, no_grounds, run_reads}
use Rattle.bf_checkout_run.proofs.command.checkout.Given.{Over}
use Rattle.bf_checkout_run.proofs.command.checkout.Goals as goal

-- ---- words that ask for a run

abbrev met_in : (g : Over) → goal.Joined-request g → Met
met_in g c =
    met c.args.words.now (met_source g.S.Source c.args.stream.now c.checkout_line-status.new.stream)
    (met_shelf g.F.Shelf c.args.shelf.now c.checkout_line-status.new.shelf)
    (between (shown g.U.Tester g.D.Folder c.args.shop.now) (shown g.U.Tester g.D.Folder c.checkout_line-status.new.shop))
    (met_sink g.K.Sink c.args.out.now c.checkout_line-status.new.out)

pub returns-in-Ok-clause-answers : goal.returns-in-Ok-clause-answers
returns-in-Ok-clause-answers g c =
    let all : Met = met_in g c in
    subst (λ (r : Result Request ℕ). Answers (checking_out r all) all c.checkout_line-status.result) (sym c.in-Ok.ensures.read)
    c.checkout_line-status.ensures.answers

pub returns-in-Ok-clause-complete : goal.returns-in-Ok-clause-complete
returns-in-Ok-clause-complete g c =
    complete (to_checkout (met_in g c)) (met_in g c) c.checkout_line-status.result (returns-in-Ok-clause-answers g c) c.checkout_line-status.ensures.write
    (λ place e. (c.checkout_line-status.ensures.test place e).rose)

pub returns-in-Ok-clause-read : goal.returns-in-Ok-clause-read
returns-in-Ok-clause-read g c =
    read_cause (to_checkout (met_in g c)) (met_in g c) c.checkout_line-status.result (returns-in-Ok-clause-answers g c)

pub returns-in-Ok-clause-file : goal.returns-in-Ok-clause-file
returns-in-Ok-clause-file g c =
    shelf_cause (to_checkout (met_in g c)) (met_in g c) c.checkout_line-status.result (returns-in-Ok-clause-answers g c)

pub returns-in-Ok-clause-test : goal.returns-in-Ok-clause-test
returns-in-Ok-clause-test g c = λ place e.
    let shops = (met_in g c).tester in
    subst (λ (r : Result Request ℕ). IsFailedTest (tests r) shops.before.faults shops.after place) (sym c.in-Ok.ensures.read)
    (c.checkout_line-status.ensures.test place e)

pub returns-in-Ok-clause-used : goal.returns-in-Ok-clause-used
returns-in-Ok-clause-used g c =
    let shops = (met_in g c).tester in
    subst (λ (r : Result Request ℕ). IsUsedFor r c.args.words.now shops.before shops.after) (sym c.in-Ok.ensures.read)
    c.checkout_line-status.ensures.used

pub returns-in-Ok-clause-unread : goal.returns-in-Ok-clause-unread
returns-in-Ok-clause-unread g c = λ e.
    let reads_it : true ≡ false = sym (run_reads c.in-Ok.request c.in-Ok.ensures.run) ∙ ap reads (sym c.in-Ok.ensures.read) ∙ e in
    cc reads_it

pub returns-in-Ok-clause-unloaded : goal.returns-in-Ok-clause-unloaded
returns-in-Ok-clause-unloaded g c = λ e. c.checkout_line-status.ensures.unloaded (ap asks_file (sym c.in-Ok.ensures.read) ∙ e)

pub returns-in-Ok-clause-unfurnished : goal.returns-in-Ok-clause-unfurnished
returns-in-Ok-clause-unfurnished g c = λ e.
    let reads_it : true ≡ false = sym (run_reads c.in-Ok.request c.in-Ok.ensures.run) ∙ ap reads (sym c.in-Ok.ensures.read) ∙ e in
    cc reads_it

-- ---- words that are at fault

abbrev met_refused : (g : Over) → goal.After-say_answer g → Met
met_refused g c =
    met c.args.words.now (met_source g.S.Source c.args.stream.now c.args.stream.now) (met_shelf g.F.Shelf c.args.shelf.now c.args.shelf.now)
    (between (shown g.U.Tester g.D.Folder c.args.shop.now) (shown g.U.Tester g.D.Folder c.args.shop.now))
    (met_sink g.K.Sink c.args.out.now c.say_answer.new.out)

pub returns-in-Err-clause-answers : goal.returns-in-Err-clause-answers
returns-in-Err-clause-answers g c =
    let all : Met = met_refused g c in
    said_answer (to_checkout all) all c.say_answer.result c.word_refusal.result refl
    (word_told (λ q t. IsCheckedOut q (given_in all) (g.S.Source.left c.args.stream.now) t) (asked_by c.args.words.now) c.in-Err.fault
    c.word_refusal.result c.in-Err.ensures.read c.word_refusal.ensures.tells)
    c.word_refusal.ensures.whole (λ e. absurd (c.word_refusal.ensures.memory.0 e)) (λ e. absurd (c.word_refusal.ensures.memory.1 e))
    c.say_answer.ensures.told

pub returns-in-Err-clause-complete : goal.returns-in-Err-clause-complete
returns-in-Err-clause-complete g c =
    complete (to_checkout (met_refused g c)) (met_refused g c) c.say_answer.result (returns-in-Err-clause-answers g c) c.say_answer.ensures.write
    (λ place e. absurd (c.say_answer.ensures.no_test place e))

pub returns-in-Err-clause-read : goal.returns-in-Err-clause-read
returns-in-Err-clause-read g c = read_cause (to_checkout (met_refused g c)) (met_refused g c) c.say_answer.result (returns-in-Err-clause-answers g c)

pub returns-in-Err-clause-file : goal.returns-in-Err-clause-file
returns-in-Err-clause-file g c = shelf_cause (to_checkout (met_refused g c)) (met_refused g c) c.say_answer.result (returns-in-Err-clause-answers g c)

pub returns-in-Err-clause-test : goal.returns-in-Err-clause-test
returns-in-Err-clause-test g c = λ place e. absurd (c.say_answer.ensures.no_test place e)

pub returns-in-Err-clause-used : goal.returns-in-Err-clause-used
returns-in-Err-clause-used g c = unused_for _ _ _

pub returns-in-Err-clause-grounds : goal.returns-in-Err-clause-grounds
returns-in-Err-clause-grounds g c = no_grounds (g.S.Source.left c.args.stream.now) _ _ c.requires.fresh
