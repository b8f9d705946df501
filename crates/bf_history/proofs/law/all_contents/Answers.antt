use Rattle.std.proofs.Common.{Result, IfOk, [], sym, subst}
use Rattle.std.proofs.lemmas.List.Elements.{All-nil}
use Rattle.bf_history.specs.Contents.{Content}
use Rattle.bf_history.specs.Laws.{IsNamed, IsWhole}
use Rattle.bf_history.specs.Meanings.{nothing_loaded}
use Rattle.bf_history.specs.declared.fault.ImportFault.{ImportFault}
use Rattle.bf_history.proofs.Furnishing.{nothing_lacks, all_there}
use Rattle.bf_history.proofs.law.all_contents.Goals as goal

pub returns : goal.returns
returns c = λ bytes limits content (commands, end, goes, is).
    subst (λ (r : Result Content ImportFault). IfOk r IsWhole) (sym is)
    (all_there limits [] (nothing_loaded limits) commands end (nothing_lacks limits) (All-nil IsNamed))
