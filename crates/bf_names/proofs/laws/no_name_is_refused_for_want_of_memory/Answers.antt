use Rattle.bf_names.specs.Names.{name, range}
use Rattle.bf_names.proofs.Meant.{meant_otherwise, name_is_meant, range_is_meant}
use Rattle.bf_names.proofs.laws.no_name_is_refused_for_want_of_memory.Goals as goal

pub returns-clause-names : goal.returns-clause-names
returns-clause-names c = λ history text. meant_otherwise (name history text) (name_is_meant history text)

pub returns-clause-ranges : goal.returns-clause-ranges
returns-clause-ranges c = λ history text. meant_otherwise (range history text) (range_is_meant history text)
