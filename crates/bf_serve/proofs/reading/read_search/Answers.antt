use Rattle.std.proofs.Common.{[], ◌∷◌, Some, None, sym, ◌∙◌}
use Rattle.bf_words.specs.declared.options.Choice.TheVariants.{LenientExit}
use Rattle.bf_words.specs.declared.verb.Verb.TheVariants.{Run}
use Rattle.bf_serve.proofs.Starts.{option_within, short_line, too_long}
use Rattle.bf_serve.proofs.reading.read_search.Goals as goal

pub returns-then-words-gt-MOST_WORDS : goal.returns-then-words-gt-MOST_WORDS
returns-then-words-gt-MOST_WORDS c = too_long c.args.words.now c.if-words-gt-MOST_WORDS.true

pub read_without-requires-clause-at : goal.read_without-requires-clause-at
read_without-requires-clause-at c = option_within Run (LenientExit ∷ []) c.args.words.now c.in-Some.at (sym c.first_option.ensures ∙ c.in-Some.is)

pub returns-in-None : goal.returns-in-None
returns-in-None c =
    short_line c.args.words.now None c.read_words.result c.if-words-gt-MOST_WORDS.false (sym c.first_option.ensures ∙ c.in-None.is) c.read_words.ensures

pub returns-in-Some : goal.returns-in-Some
returns-in-Some c =
    short_line c.args.words.now (Some c.in-Some.at) c.read_without.result c.if-words-gt-MOST_WORDS.false
    (sym c.first_option.ensures ∙ c.in-Some.is) c.read_without.ensures
