use Rattle.std.proofs.Common.{ℕ, List, ◌++◌, ◌∷◌, [], None, refl, ap, subst, ◌∙◌, arith}
use Rattle.bf_answers.specs.Tellings.{begun_of}
use Rattle.bf_core.specs.Machine.{IsConsumed}
use Rattle.bf_many.proofs.Picking.{all_at}
use Rattle.bf_runs.proofs.Sequences.{over_graph}
use Rattle.bf_state.specs.Session.{IsSearchBelow, Session as Standing}
use Rattle.bf_serve.specs.declared.opening.Opening.{Opening}
use Rattle.bf_serve.proofs.Openings.{added_is, over_added}
use Rattle.bf_serve.proofs.Openings.{served_begun}
use Rattle.bf_serve.proofs.Texts.{on_ok}
use Rattle.bf_serve.proofs.session.Session.open.Goals as goal

pub put_first_news-requires-clause-over : goal.put_first_news-requires-clause-over
put_first_news-requires-clause-over c =
    over_added c.args.self.now c.add.new.self (begun_of c.args.first) c.len-search.result c.core-core.result.now c.requires.serving
    (added_is c.args.self.now c.add.new.self (record { state = c.args.first.state; table = c.in_ok-table.table }) c.len.result c.requires.serving
    c.in_ok-add.ensures.added c.in_ok-table.ensures c.len.ensures.len)
    (omega (arith, c.len-search.ensures, c.args.self.now.openings.ok.0)) c.core-core.ensures
    (over_graph c.args.self.now.history.now.parents c.args.first.state.len c.args.first.state.search
    (subst (λ (x : Standing). IsSearchBelow x.len x.search) c.state.view_is c.state.invariant) c.requires.len)

pub put_first_news-requires-clause-consumed : goal.put_first_news-requires-clause-consumed
put_first_news-requires-clause-consumed c =
    all_at IsConsumed c.add.new.self c.len-search.result c.core-core.result.now c.in_ok-add.ensures.consumed c.core-core.ensures

pub returns : goal.returns
returns c =
    let o : Opening = record { terms = c.in_ok-try_clone.field-0; known = c.args.first.known; lenient = c.args.lenient } in
    on_ok c.put_started.result
    (λ h. served_begun c.args.self.now
    (record c.args.self.now { many = c.add.new.self; openings = c.push.new.self; needless = c.push-2.new.self; left = c.push-3.new.self; pending = c.new-3.result; lull = None })
    (begun_of c.args.first) c.args.lenient o c.put_first_news.new.opening c.core-core.result.now c.len-search.result
    c.in_ok-remaining.remaining c.args.out.now c.put_first_news.new.out c.put_started.new.out c.requires.serving refl refl
    (omega (arith, c.len-search.ensures, c.args.self.now.openings.ok.0))
    (let few = c.requires.few in omega (arith, few, c.len-search.ensures, c.args.self.now.openings.ok.0))
    c.in_ok-push.ensures.items refl
    (added_is c.args.self.now c.add.new.self (record { state = c.args.first.state; table = c.in_ok-table.table }) c.len.result c.requires.serving
    c.in_ok-add.ensures.added c.in_ok-table.ensures c.len.ensures.len)
    c.in_ok-add.ensures.consumed
    (over_graph c.args.self.now.history.now.parents c.args.first.state.len c.args.first.state.search
    (subst (λ (x : Standing). IsSearchBelow x.len x.search) c.state.view_is c.state.invariant) c.requires.len)
    c.core-core.ensures
    (c.in_ok-push-2.ensures.items ∙ ap (λ (workers : List ℕ). c.args.self.now.needless.items ++ workers ∷ []) c.new-2.ensures)
    c.in_ok-push-3.ensures.items c.new-3.ensures.items refl
    (c.in_ok-remaining.ensures (begun_of c.args.first) (record {
      terms = c.in_ok-try_clone.ensures ∙ ap (λ (x : Standing). x.terms) c.state.view_is;
      known = refl;
      entries_are = c.as_slice.ensures.value;
    })) h)
    c.put_started.ensures
