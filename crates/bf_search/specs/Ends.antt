-- The entries that end a log.
use Rattle.std.specs.Prelude.{List, [], ◌∷◌}
use Rattle.bf_search.specs.declared.asks.Ask.{Ask}
use Rattle.bf_search.specs.declared.asks.Ask.TheVariants as ask
use Rattle.bf_search.specs.declared.entries.Entry.{Entry}
use Rattle.bf_search.specs.declared.entries.Entry.TheVariants.{FirstBadFound, OnlySkippedLeft}

-- the entry of an ask that ends a search
abbrev pub end_entries : Ask → List Entry
end_entries ask.WaitBoth = []
end_entries ask.WaitBad = []
end_entries ask.WaitGood = []
end_entries (ask.Test p) = []
end_entries (ask.MergeBaseBad p) = []
end_entries (ask.GoodNotAncestor p) = []
end_entries (ask.BothSides p) = []
end_entries (ask.FirstBad p) = FirstBadFound p ∷ []
end_entries (ask.OnlySkipped ps) = OnlySkippedLeft ps ∷ []
