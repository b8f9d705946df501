use Rattle.std.proofs.Common.{[], ◌∷◌, ◌<◌, drop, sym, arith}
use Rattle.bf_words.specs.declared.options.Choice.TheVariants.{Leg, Trace}
use Rattle.bf_certify.proofs.Asking.{line_followed, option_within, refused_as}
use Rattle.bf_certify.proofs.words.read_to_certify.Goals as goal

pub log_word-requires-clause-some : goal.log_word-requires-clause-some
log_word-requires-clause-some c = (line_followed c.args.words.now c.in-Ok.request c.in-Ok.ensures).some

pub log_word-requires-clause-size : goal.log_word-requires-clause-size
log_word-requires-clause-size c = (line_followed c.args.words.now c.in-Ok.request c.in-Ok.ensures).short

pub overflow_add-result : goal.overflow_add-result
overflow_add-result c =
    let small : c.in-Some.index < 1000000 = option_within c.in-Ok.request.verb (Leg ∷ Trace ∷ []) (drop 1 c.args.words.now) c.in-Some.index
    (sym c.in-Some.ensures) (line_followed c.args.words.now c.in-Ok.request c.in-Ok.ensures).short in
    omega (arith, small)

pub returns-in-Err : goal.returns-in-Err
returns-in-Err c = refused_as c.args.words.now c.in-Err.fault c.in-Err.ensures
