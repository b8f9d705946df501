use Rattle.std.proofs.Common.{◌∷◌, []}
use Rattle.bf_forms.proofs.Fronts.{behind_both}
use Rattle.bf_forms.proofs.cuts.behind_word.Goals as goal

pub returns : goal.returns
returns c =
    let first = c.in_ok-strip_prefix.ensures.cases in
    behind_both c.args.word.now (32 ∷ []) c.args.text.now c.in_ok-strip_prefix.field-0.now c.strip_prefix-2.result first.0 first.1
    c.strip_prefix-2.ensures.cases
