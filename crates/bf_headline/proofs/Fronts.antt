-- A run in short is what a run comes to, so a front of a run is a front in short.
use Rattle.std.proofs.Common.{◌≡◌, ℕ, false, List, ◌++◌, refl, ap, sym, ◌∙◌}
use Rattle.bf_search.specs.declared.entries.Entry.{Entry}
use Rattle.bf_search.specs.Run.{End, Answered, Leg, Open, Aborted, Run}
use Rattle.bf_state.specs.Runs.{GoesOn, is_open}
use Rattle.bf_headline.specs.Headline as short
use Rattle.bf_headline.specs.Links.{end_of, IsSame}

-- a run as a short one; one that ends with its leg is none
brief_end : End → short.End
brief_end (Answered a) = short.Answered a
brief_end Leg = short.Open 0
brief_end (Open p) = short.Open p
brief_end (Aborted p outcome) = short.Aborted p outcome

end_again : (e : short.End) → brief_end (end_of e) ≡ e
unfolding brief_end
end_again (short.Answered a) = refl
end_again (short.Open p) = refl
end_again (short.Aborted p outcome) = refl

brief_of : Run → short.Run
brief_of run = record { entries = run.entries; used = run.used; end = brief_end run.end }

brief-is : (run : Run) (brief : short.Run) → IsSame run brief → brief ≡ brief_of run
unfolding brief_of
brief-is run brief same =
    let end : brief.end ≡ brief_end run.end = sym (end_again brief.end) ∙ ap brief_end (sym same.end) in
    λ i. record { entries = sym same.entries i; used = sym same.used i; end = end i }

not_open : (e : short.End) → ((p : ℕ) → e ≡ short.Open p → ⊥) → is_open (end_of e) ≡ false
not_open (short.Answered a) h = refl
not_open (short.Open p) h = absurd (h p refl)
not_open (short.Aborted p outcome) h = refl

pub front_in_short : (run whole : Run) (brief all : short.Run) → IsSame run brief → IsSame whole all → GoesOn run.entries whole.entries
    → (is_open run.end ≡ false → run ≡ whole) → short.IsFrontOf brief all
front_in_short run whole brief all same same_all begins ended = record {
  rest = begins.rest;
  front = sym same_all.entries ∙ begins.goes_on ∙ ap (λ (es : List Entry). es ++ begins.rest) same.entries;
  ended = λ h.
      brief-is run brief same
      ∙ ap brief_of (ended (ap is_open same.end ∙ not_open brief.end h))
      ∙ sym (brief-is whole all same_all);
}
