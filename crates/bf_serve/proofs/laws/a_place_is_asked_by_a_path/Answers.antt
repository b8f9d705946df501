use Rattle.bf_serve.proofs.LawsAsking.{asked_in, in_asked}
use Rattle.bf_serve.proofs.laws.a_place_is_asked_by_a_path.Goals as goal

pub returns : goal.returns
returns c = λ m p g over. (λ asked. asked_in m p g asked, λ is. in_asked m p g over is)
