use Rattle.bf_reading.proofs.Cutting.{behind_one, behind_other}
use Rattle.bf_reading.proofs.start.behind_either.Goals as goal

pub returns-in-Some : goal.returns-in-Some
returns-in-Some c = behind_one c.args.one.now c.args.other.now c.args.text.now c.in-Some.rest.now c.in-Some.ensures.cases.0 c.in-Some.ensures.cases.1

pub returns-in-None : goal.returns-in-None
returns-in-None c = behind_other c.args.one.now c.args.other.now c.args.text.now c.strip_prefix-in-None.result c.in-None.ensures.cases
    c.strip_prefix-in-None.ensures.cases
