-- What a call of `certify` asks for.
use Rattle.bf_answers.specs.Answers.{Command, asking}
use Rattle.bf_answers.specs.Devices.{Met, given_in}
use Rattle.bf_commands.specs.Certify.{IsCertifyOutput}
use Rattle.bf_commands.specs.Orders.{request_to_certify}

-- the command of these words
abbrev pub to_certify : Met → Command
to_certify met = asking (request_to_certify met.words) (IsCertifyOutput (given_in met) met.source.left)
