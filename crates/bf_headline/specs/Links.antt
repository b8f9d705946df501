-- What the words of the headline in short stand for among those of a search.
use Rattle.std.specs.Prelude.{◌≡◌, ℕ, Some}
use Rattle.bf_search.specs.Run.{End, Answered, Open, Aborted, Run}
use Rattle.bf_search.specs.declared.outcomes.Mark.{Mark}
use Rattle.bf_search.specs.declared.outcomes.Mark.TheVariants.{Good, Bad, Skip}
use Rattle.bf_search.specs.State.{Search, Asked, mark}
use Rattle.bf_headline.specs.Headline as short

-- what a search with this bad commit knows
abbrev pub standing_of : Search → ℕ → short.Standing
standing_of s bad = record {
  first_parent = s.first_parent;
  bad = bad;
  goods = s.goods;
  skips = s.skips;
  checked = s.checked;
  bad_asked = s.bad_asked;
}

-- an ask is as the short one
pub record IsSameAsk (s : Search) (bad : ℕ) (long : Asked) (brief : short.Asked) : Type 0 where
  pub asks : long.step.ask ≡ brief.ask
  pub warns : long.step.warned ≡ brief.warned
  pub state : standing_of long.search bad ≡ record (standing_of s bad) { checked = brief.checked }
  pub bad_is : long.search.bad ≡ s.bad

-- the bad commit after a mark
abbrev pub bad_after : Mark → ℕ → ℕ → ℕ
bad_after Good bad p = bad
bad_after Bad bad p = p
bad_after Skip bad p = bad

-- a mark leaves what the short one leaves
pub record IsSameMark (s : Search) (bad : ℕ) (m : Mark) (p : ℕ) : Type 0 where
  pub state : standing_of (mark s m p) (bad_after m bad p) ≡ short.mark (standing_of s bad) m p
  pub bad_is : (mark s m p).bad ≡ Some (bad_after m bad p)

abbrev pub end_of : short.End → End
end_of (short.Answered a) = Answered a
end_of (short.Open p) = Open p
end_of (short.Aborted p outcome) = Aborted p outcome

-- a run is as the short one
pub record IsSame (long : Run) (brief : short.Run) : Type 0 where
  pub entries : long.entries ≡ brief.entries
  pub used : long.used ≡ brief.used
  pub end : long.end ≡ end_of brief.end
