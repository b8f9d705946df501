use Rattle.std.proofs.Common.{ℕ, ◌+◌, ◌<◌, List, map, All, sym, ap, subst, ◌∙◌}
use Rattle.bf_serve.proofs.Learning.{served_wanted, wanting_below}
use Rattle.bf_serve.proofs.Texts.{on_ok}
use Rattle.bf_serve.proofs.session.Session.wanted.Goals as goal

pub numbers_of-requires : goal.numbers_of-requires
numbers_of-requires c =
    subst (λ (found : List ℕ). All (λ k. k < 64) found) (sym c.as_slice.ensures.value)
    (wanting_below c.args.self.now c.in-Some.place c.in_ok-searches.searches.items c.requires c.in_ok-searches.ensures.wanted)

pub returns : goal.returns
returns c =
    on_ok c.put_wanted.result
    (λ h. served_wanted c.args.self.now c.wanted.new.self c.args.commit.now c.in-Some.place c.in_ok-searches.searches.items c.as_slice-2.result.now
    c.args.out.now c.put_wanted.new.out c.requires (sym c.place_of_commit.ensures.value ∙ c.in-Some.is) c.wanted.ensures.same
    c.in_ok-searches.ensures.ascending c.in_ok-searches.ensures.wanted
    (c.as_slice-2.ensures ∙ c.in_ok-numbers.ensures ∙ ap (map (λ (k : ℕ). k + 1)) c.as_slice.ensures.value) h)
    c.put_wanted.ensures
