-- The places that an entry, an ask or an ending names are places of so many commits.
use Rattle.std.specs.Prelude.{ℕ, ◌<◌, All}
use Rattle.std.specs.Option.{ForSome}
use Rattle.bf_search.specs.declared.asks.Ask.{Ask}
use Rattle.bf_search.specs.declared.asks.Ask.TheVariants as ask
use Rattle.bf_search.specs.declared.entries.Entry.{Entry}
use Rattle.bf_search.specs.declared.entries.Entry.TheVariants as entry
use Rattle.bf_search.specs.declared.farm.Ending.{Ending}
use Rattle.bf_search.specs.declared.farm.Ending.TheVariants as ending

-- all places of an entry
abbrev pub IsEntryWithin : ℕ → Entry → Type 0
IsEntryWithin len (entry.Start first_parent terms_given bad goods) = ForSome bad (λ p. p < len) × All (λ p. p < len) goods
IsEntryWithin len (entry.Marked mark p) = p < len
IsEntryWithin len (entry.SkippedBase p) = p < len
IsEntryWithin len (entry.FirstBadFound p) = p < len
IsEntryWithin len (entry.OnlySkippedLeft ps) = All (λ p. p < len) ps

-- all places of an ask
abbrev pub IsAskWithin : ℕ → Ask → Type 0
IsAskWithin len ask.WaitBoth = Unit {0}
IsAskWithin len ask.WaitBad = Unit {0}
IsAskWithin len ask.WaitGood = Unit {0}
IsAskWithin len (ask.Test p) = p < len
IsAskWithin len (ask.MergeBaseBad p) = p < len
IsAskWithin len (ask.GoodNotAncestor p) = p < len
IsAskWithin len (ask.BothSides p) = p < len
IsAskWithin len (ask.FirstBad p) = p < len
IsAskWithin len (ask.OnlySkipped ps) = All (λ p. p < len) ps

-- all places of an ending
abbrev pub IsEndingWithin : ℕ → Ending → Type 0
IsEndingWithin len (ending.FirstBad p) = p < len
IsEndingWithin len (ending.OnlySkipped ps) = All (λ p. p < len) ps
IsEndingWithin len (ending.MergeBaseBad p) = p < len
IsEndingWithin len (ending.GoodNotAncestor p) = p < len
IsEndingWithin len (ending.BothSides p) = p < len
IsEndingWithin len (ending.Aborted p outcome) = p < len
IsEndingWithin len ending.Leg = Unit {0}
IsEndingWithin len (ending.TestFault p) = p < len
