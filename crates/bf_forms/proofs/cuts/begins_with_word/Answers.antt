use Rattle.bf_forms.proofs.Words.{word_at_front, word_not_at_front}
use Rattle.bf_forms.proofs.cuts.begins_with_word.Goals as goal

pub returns-else-text-word : goal.returns-else-text-word
returns-else-text-word c = word_at_front c.args.word.now c.args.text.now c.starts_with.result c.starts_with.ensures.value c.if-starts_with.true
    c.if-text-word.false

pub returns-else-starts_with : goal.returns-else-starts_with
returns-else-starts_with c = word_not_at_front c.args.word.now c.args.text.now c.starts_with.result c.starts_with.ensures.value c.if-starts_with.false
