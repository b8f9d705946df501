use Rattle.bf_checkout_run.proofs.Words.{all_planned, all_run}
use Rattle.bf_checkout_run.proofs.asked.asked_by.Goals as goal

pub returns-clause-run : goal.returns-clause-run
returns-clause-run c = all_run c.args.words.now c.read_words_for.result c.read_words_for.ensures

pub returns-clause-plan : goal.returns-clause-plan
returns-clause-plan c = all_planned c.args.words.now c.read_words_for.result c.read_words_for.ensures
