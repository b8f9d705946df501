-- A search that words for its ends began, with its skips: its entries are a start and entries of a run.
use Rattle.std.proofs.Common.{◌≡◌, ℕ, ◌<◌, true, false, is_some, nat_lt, List, [], ◌∷◌, length, Option, Some, None, IfSome, unwrap_or, refl, sym, ap, subst, ◌∙◌}
use Rattle.std.proofs.lemmas.Bool.{and_parts, both_ways}
use Rattle.std.proofs.lemmas.List.Elements.{All-nil}
use Rattle.std.specs.List.{All}
use Rattle.bf_history.specs.Meanings.{History}
use Rattle.bf_replay.specs.Laws.{AreSides, AreEnds}
use Rattle.bf_log.specs.Back.{Begin, start_of, told_of}
use Rattle.bf_log.specs.Cut.{AreKnown}
use Rattle.bf_log.specs.Resolved.{AreRunEntries, FitsStart}
use Rattle.bf_log.specs.LogState.{LogState, retold}
use Rattle.bf_log.specs.Written.{known_after_all}
use Rattle.bf_log.proofs.Goods.{goods_again}
use Rattle.bf_search.specs.declared.entries.Entry.{Entry}
use Rattle.bf_search.specs.declared.entries.Entry.TheVariants.{Start}
use Rattle.bf_search.specs.State.{IsSearchOver}
use Rattle.bf_state.proofs.Below.{below_begun, IsSearchOver-from_below}
use Rattle.bf_state.proofs.Once.{All-with_goods}
use Rattle.bf_terms.specs.Texts.{Sides, nothing_known, standard_sides, with_goods}
use Rattle.bf_words.specs.declared.request.Request.{Request}
use Rattle.bf_output.specs.Beginning.{Begun, between_ends, has_ends, with_skips}
use Rattle.bf_output.proofs.Accepted.{AreAccepted}
use Rattle.bf_output.proofs.Skips.{AreSkips, are_skips}

-- the entries are those of a start with both ends and of a run, and lead to the search
pub record IsStarted (history : History) (first : Begun) : Type 0 where
  pub start : Begin
  pub later : List Entry
  pub sides : AreSides first.sides start
  pub ends : AreEnds history start
  pub entries : first.entries ≡ start_of start ∷ later
  pub are : AreRunEntries (length history.parents) later
  pub nothing : first.known ≡ nothing_known
  pub both : AreKnown (known_after_all nothing_known (start_of start ∷ later))
  pub lead : retold history.parents (told_of history.parents start) later ≡ record { search = first.search; entries = first.entries }
  pub over : IsSearchOver history.parents first.search

sides_fit : (terms : Option Sides) → FitsStart (unwrap_or terms standard_sides) (is_some terms)
sides_fit None = refl
sides_fit (Some sides) = tt

sides_accepted : (terms : Option Sides) → IfSome terms AreAccepted → AreAccepted (unwrap_or terms standard_sides)
sides_accepted None h = refl
sides_accepted (Some sides) h = h

module _ (request : Request) (history : History) (accepted : IfSome request.terms AreAccepted) where
  start : ℕ → List ℕ → Begin
  start p goods = record {
    first_parent = request.first_parent;
    terms_given = is_some request.terms;
    bad = p;
    goods = with_goods [] goods;
  }

  bare_of : ℕ → List ℕ → Begun
  bare_of p goods = between_ends request (length history.parents) (Some p) goods

  told_again : (p : ℕ) (goods : List ℕ) → told_of history.parents (start p goods) ≡ record
      { search = (bare_of p goods).search; entries = (bare_of p goods).entries }
  unfolding start bare_of
  told_again p goods =
      ap (λ (gs : List ℕ). record {
        search = record {
          first_parent = request.first_parent;
          bad = Some p;
          goods = gs;
          skips = (bare_of p goods).search.skips;
          checked = false;
          expected = None;
          bad_asked = false;
        };
        entries = Start request.first_parent (is_some request.terms) (Some p) gs ∷ [];
      }) (goods_again goods)

  started_with : (p : ℕ) (goods places : List ℕ) → p < length history.parents → All (λ q. q < length history.parents) goods
      → nat_lt 0 (length (with_goods [] goods)) ≡ true → All (λ q. q < length history.parents) places
      → IsStarted history (with_skips history.parents (bare_of p goods) places)
  unfolding start bare_of
  started_with p goods places bad_below goods_below some within = record {
    start = start p goods;
    later = s.more;
    sides = subst (λ (x : Sides). AreSides x (start p goods)) (sym s.same_sides)
        (record { accepted = sides_accepted request.terms accepted; fits = sides_fit request.terms });
    ends = record {
      bad = bad_below;
      goods = All-with_goods (λ q. q < length history.parents) [] goods (All-nil (λ q. q < length history.parents)) goods_below;
    };
    entries = s.entries;
    are = s.are;
    nothing = s.same_known;
    both = subst AreKnown (sym (s.tell_nothing (record { bad = true; goods = with_goods [] (with_goods [] goods) })))
        (record { bad = refl; goods = ap (λ (gs : List ℕ). nat_lt 0 (length gs)) (goods_again goods) ∙ some });
    lead = ap (λ (t : LogState). retold history.parents t s.more) (told_again p goods)
        ∙ s.lead (bare_of p goods).entries
        ∙ ap (λ (es : List Entry). record { search = (with_skips history.parents (bare_of p goods) places).search; entries = es }) (sym s.entries);
    over = s.over (IsSearchOver-from_below history.parents (length history.parents) (bare_of p goods).search refl
        (below_begun (length history.parents) request.first_parent (Some p) goods bad_below goods_below));
  }
    where
      s : AreSkips history.parents (bare_of p goods) (with_skips history.parents (bare_of p goods) places)
      s = are_skips history.parents (bare_of p goods) places within

  pub started_by : (bad : Option ℕ) (goods places : List ℕ) (bare : Begun) → IfSome bad (λ q. q < length history.parents)
      → All (λ q. q < length history.parents) goods → between_ends request (length history.parents) bad goods ≡ bare
      → has_ends bare.search ≡ true → All (λ q. q < length history.parents) places
      → IsStarted history (with_skips history.parents bare places)
  unfolding bare_of
  started_by None goods places bare h k is both within =
      let no : has_ends bare.search ≡ false = ap (λ (b : Begun). has_ends b.search) (sym is) in
      absurd (both_ways (has_ends bare.search) no both)
  started_by (Some p) goods places bare h k is both within =
      let whole : has_ends (between_ends request (length history.parents) (Some p) goods).search ≡ true = ap (λ (b : Begun). has_ends b.search) is ∙ both in
      subst (λ (b : Begun). IsStarted history (with_skips history.parents b places)) is
      (started_with p goods places h k (and_parts true (nat_lt 0 (length (with_goods [] goods))) whole).1 within)
