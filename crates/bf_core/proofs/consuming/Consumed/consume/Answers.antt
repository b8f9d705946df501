use Rattle.std.proofs.Common.{◌↔◌, ℕ, Vec, Global, sym, ◌∙◌}
use Rattle.std.specs.List.{Contains}
use Rattle.bf_search.specs.Outcomes.{outcomes_of_table}
use Rattle.bf_search.specs.Run.{Run, run}
use Rattle.bf_core.specs.declared.consuming.Consumed.{Consumed}
use Rattle.bf_core.specs.Claims.{IsSameTree, IsIdleWorker}
use Rattle.bf_core.proofs.Picking.{idle_worker_along}
use Rattle.bf_core.proofs.Joining.{IsWalk, asked_along, iff_trans, if_ok_map, same_tree_trans, same_run_of, same_run_trans, walk_of, on_ok, on_err, none_of, ended_consumes}
use Rattle.bf_core.proofs.Joining.{waiting_consumes, joined_nodes, unwanted_workers, ended_workers}
use Rattle.bf_core.proofs.consuming.Consumed.consume.Goals as goal

pub returns-then-is_some-clause-run : goal.returns-then-is_some-clause-run
returns-then-is_some-clause-run c = on_ok c.withdrawn.result
    (ended_consumes c.args.self.now (record c.args.self.now { tree = c.withdrawn.new.tree }) c.args.table.now (sym c.is_some.ensures ∙ c.if-is_some.true)
    (same_run_of c.args.self.now c.withdrawn.new.tree c.withdrawn.ensures.tree))

pub returns-then-is_some-clause-unwanted : goal.returns-then-is_some-clause-unwanted
returns-then-is_some-clause-unwanted c =
    if_ok_map {P = λ (workers : Vec ℕ Global). (w : ℕ) → Contains workers.items w
    ↔ IsIdleWorker c.args.self.now.tree c.args.table.now c.has_ended-ended.result c.args.claims.now w}
    c.withdrawn.result
    (λ workers h w. iff_trans (h w)
    (iff_trans (idle_worker_along c.args.self.now.tree c.withdrawn.new.tree c.args.table.now c.has_ended-ended.result c.args.claims.now w
    c.withdrawn.ensures.tree)
    (ended_workers (record c.args.self.now { tree = c.withdrawn.new.tree }) c.args.table.now
    (asked_along c.args.self.now c.withdrawn.new.tree c.withdrawn.ensures.tree c.requires.asked) c.args.claims.now c.has_ended-ended.result w
    c.requires.claims.unknown c.has_ended-ended.ensures)))
    c.withdrawn.ensures.idle

pub returns-in_err-workers-clause-err : goal.returns-in_err-workers-clause-err
returns-in_err-workers-clause-err c =
    on_err c.from_residual-in_err-workers.result
    (same_run_of c.args.self.now c.withdrawn-2.new.tree
    (same_tree_trans c.args.self.now.tree c.run.new.self c.withdrawn-2.new.tree
    (record {
      graph = c.in_ok-walked.ensures.graph;
      session = c.in_ok-walked.ensures.session;
      root = c.in_ok-walked.ensures.root;
      kept =
          c.in_ok-walked.ensures.kept;
    }) c.in_err-workers.ensures.tree))

pub returns-in_err-commit-clause-err : goal.returns-in_err-commit-clause-err
returns-in_err-commit-clause-err c =
    on_err c.from_residual-in_err-commit.result
    (same_run_trans c.args.self.now (record c.args.self.now { tree = c.withdrawn-2.new.tree }) c.commit.new.self
    (same_run_of c.args.self.now c.withdrawn-2.new.tree
    (same_tree_trans c.args.self.now.tree c.run.new.self c.withdrawn-2.new.tree
    (record {
      graph = c.in_ok-walked.ensures.graph;
      session = c.in_ok-walked.ensures.session;
      root = c.in_ok-walked.ensures.root;
      kept =
          c.in_ok-walked.ensures.kept;
    }) c.in_ok-workers.ensures.tree))
    c.in_err-commit.ensures.err)

-- ---- after the walk, the workers and the commit

mid : goal.In_ok-commit → Consumed
mid c = record c.args.self.now { tree = c.withdrawn-2.new.tree }

same_mid : (c : goal.In_ok-commit) → IsSameTree c.args.self.now.tree c.withdrawn-2.new.tree
same_mid c =
    same_tree_trans c.args.self.now.tree c.run.new.self c.withdrawn-2.new.tree
    (record {
      graph = c.in_ok-walked.ensures.graph;
      session = c.in_ok-walked.ensures.session;
      root = c.in_ok-walked.ensures.root;
      kept =
          c.in_ok-walked.ensures.kept;
    }) c.in_ok-workers.ensures.tree

the_run : goal.In_ok-commit → Run
the_run c = run c.args.self.now.tree.graph (outcomes_of_table c.args.table.now) c.args.self.now.left c.args.self.now.tree.root.search

walk : (c : goal.In_ok-commit) → IsWalk c.withdrawn-2.new.tree (outcomes_of_table c.args.table.now) c.args.self.now.left c.in_ok-walked.walked (the_run c)
unfolding the_run
walk c =
    walk_of c.args.self.now.tree c.withdrawn-2.new.tree (outcomes_of_table c.args.table.now) c.args.self.now.left c.in_ok-walked.walked (same_mid c)
    c.in_ok-walked.ensures.entries c.in_ok-walked.ensures.ending c.in_ok-walked.ensures.state c.in_ok-walked.ensures.path
    c.in_ok-walked.ensures.there c.in_ok-walked.ensures.asked

pub returns-clause-run : goal.returns-clause-run
unfolding the_run mid
returns-clause-run c =
    waiting_consumes c.args.self.now (mid c) c.commit.new.self c.args.table.now c.in_ok-walked.walked (the_run c)
    (none_of c.args.self.now.ending (sym c.is_some.ensures ∙ c.if-is_some.false))
    (same_run_of c.args.self.now c.withdrawn-2.new.tree (same_mid c)) (walk c) c.in_ok-commit.ensures.ok

pub returns-clause-unwanted : goal.returns-clause-unwanted
unfolding the_run mid
returns-clause-unwanted c = λ w.
    iff_trans (c.in_ok-workers.ensures.idle w)
    (iff_trans (idle_worker_along c.run.new.self c.withdrawn-2.new.tree c.args.table.now c.has_ended-ended-2.result c.args.claims.now w
    c.in_ok-workers.ensures.tree)
    (unwanted_workers (mid c) c.commit.new.self c.args.table.now c.args.claims.now c.in_ok-walked.walked (the_run c) c.has_ended-ended-2.result w (walk c)
    c.in_ok-commit.ensures.ok c.requires.claims.unknown c.has_ended-ended-2.ensures))

pub returns-clause-nodes : goal.returns-clause-nodes
unfolding the_run mid
returns-clause-nodes c =
    joined_nodes c.args.self.now (mid c) c.commit.new.self c.in_ok-walked.walked (the_run c) (outcomes_of_table c.args.table.now)
    (same_run_of c.args.self.now c.withdrawn-2.new.tree (same_mid c)) (walk c) c.in_ok-commit.ensures.ok
