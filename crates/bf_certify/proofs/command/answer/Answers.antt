use Rattle.std.proofs.Common.{◌≡◌, ℕ, true, false, Result, IfOk, ap, sym, subst, ◌∙◌}
use Rattle.bf_answers.specs.Answers.{IsCaused}
use Rattle.bf_answers.specs.Devices.{met_tester}
use Rattle.bf_answers.specs.Tellings.{told_of}
use Rattle.bf_answers.proofs.Streamed.{word_told}
use Rattle.bf_certify.proofs.Asking.{accepted, search_reads}
use Rattle.bf_commands.specs.Certify.{IsCertified}
use Rattle.bf_commands.specs.Orders.{request_to_certify}
use Rattle.bf_output.specs.Inputs.{IsStreamed}
use Rattle.bf_output.specs.Output.{IsSearchOver, IsSearchTold, IsUsedFor, asks_file, given_to, reads, tests}
use Rattle.bf_output.specs.Shown.{shown_by}
use Rattle.bf_words.specs.declared.request.Request.{Request}
use Rattle.bf_certify.proofs.command.answer.Goals as goal

pub certify_line-requires-clause-search : goal.certify_line-requires-clause-search
certify_line-requires-clause-search g c = λ κs within. (accepted c.args.words.now c.in-Ok.request c.in-Ok.ensures).search

pub certify_line-requires-clause-plan : goal.certify_line-requires-clause-plan
certify_line-requires-clause-plan g c = λ κs within. (accepted c.args.words.now c.in-Ok.request c.in-Ok.ensures).plan

pub certify_line-requires-clause-whole : goal.certify_line-requires-clause-whole
certify_line-requires-clause-whole g c = λ κs within. (accepted c.args.words.now c.in-Ok.request c.in-Ok.ensures).whole

pub certify_line-requires-clause-plain : goal.certify_line-requires-clause-plain
certify_line-requires-clause-plain g c = λ κs within. (accepted c.args.words.now c.in-Ok.request c.in-Ok.ensures).plain

pub returns-in-Ok-clause-tells : goal.returns-in-Ok-clause-tells
returns-in-Ok-clause-tells g c =
    let given = given_to c.args.words.now (g.F.Shelf.files c.args.shelf.now) (shown_by g.T.Tester c.certify_line.new.tester) in
    subst (λ (r : Result Request ℕ). IfOk c.certify_line.result (λ a. IsSearchTold (λ q. IsCertified q.verb q given.words given.tested) r given
    (g.S.Source.left c.args.stream.now) (told_of a)))
    (sym c.in-Ok.ensures) c.certify_line.ensures.tells

pub returns-in-Ok-clause-cause : goal.returns-in-Ok-clause-cause
returns-in-Ok-clause-cause g c =
    let tester = met_tester g.T.Tester c.args.tester.now c.certify_line.new.tester in
    subst (λ (r : Result Request ℕ). IfOk c.certify_line.result (λ a. IsCaused (tests r) tester a)) (sym c.in-Ok.ensures) c.certify_line.ensures.cause

pub returns-in-Ok-clause-reads : goal.returns-in-Ok-clause-reads
returns-in-Ok-clause-reads g c = λ e.
    ap reads c.in-Ok.ensures ∙ search_reads c.in-Ok.request.verb (accepted c.args.words.now c.in-Ok.request c.in-Ok.ensures).search

pub returns-in-Ok-clause-loads : goal.returns-in-Ok-clause-loads
returns-in-Ok-clause-loads g c = λ e. ap asks_file c.in-Ok.ensures ∙ c.certify_line.ensures.asks e

pub returns-in-Ok-clause-used : goal.returns-in-Ok-clause-used
returns-in-Ok-clause-used g c =
    let before = shown_by g.T.Tester c.args.tester.now in
    let after = shown_by g.T.Tester c.certify_line.new.tester in
    subst (λ (r : Result Request ℕ). IsUsedFor r c.args.words.now before after) (sym c.in-Ok.ensures) c.certify_line.ensures.used

pub returns-in-Ok-clause-unread : goal.returns-in-Ok-clause-unread
returns-in-Ok-clause-unread g c = λ e.
    let reads_it : true ≡ false = sym (search_reads c.in-Ok.request.verb (accepted c.args.words.now c.in-Ok.request c.in-Ok.ensures).search)
    ∙ ap reads (sym c.in-Ok.ensures) ∙ e in
    cc reads_it

pub returns-in-Ok-clause-unloaded : goal.returns-in-Ok-clause-unloaded
returns-in-Ok-clause-unloaded g c = λ e. c.certify_line.ensures.unloaded (ap asks_file (sym c.in-Ok.ensures) ∙ e)

pub returns-in-Err-clause-tells : goal.returns-in-Err-clause-tells
returns-in-Err-clause-tells g c =
    let given = given_to c.args.words.now (g.F.Shelf.files c.args.shelf.now) (shown_by g.T.Tester c.args.tester.now) in
    word_told (λ q t. IsStreamed (IsSearchOver (IsCertified q.verb q given.words given.tested) q given.words given.files) (g.S.Source.left c.args.stream.now) t)
    (request_to_certify c.args.words.now) c.in-Err.fault c.word_refusal.result c.in-Err.ensures c.word_refusal.ensures.tells
