use Rattle.std.proofs.Common.{◌≡◌, List, ◌++◌, length, sym, ap, subst, ◌∙◌}
use Rattle.bf_search.specs.declared.farm.Event.{Event}
use Rattle.bf_farm.specs.declared.worker.Worker.{Worker}
use Rattle.bf_farm.specs.Doers.{AreDoneBy}
use Rattle.bf_farm.specs.Posts.{ArePosts, posts_of}
use Rattle.bf_farm.specs.Workers.{AreAllPosted, answers_of}
use Rattle.bf_farm.proofs.Posting.{Pair, sound_posts, all_are_posts}
use Rattle.bf_farm.proofs.Reporting.{sound_start}
use Rattle.bf_farm.proofs.Soundness.{sound_given}
use Rattle.bf_farm.proofs.farm.board_again.Given as given
use Rattle.bf_farm.proofs.farm.board_again.Goals as goal

-- the answers of the team are the posts of its events
posted : (g : given.Over) (c : goal.After-give_all g)
    → AreAllPosted g.T.Tester c.args.team.now.workers.items c.args.case.names.now c.as_slice-events.result.now
posted g c =
    subst (λ (l : List (Worker g.row.T.Denot)). AreAllPosted g.T.Tester l c.args.case.names.now c.as_slice-events.result.now) c.as_slice.ensures.value
    (c.are_all_posted.ensures c.if-not-are_all_posted.false)

-- these events were done again, and no others
redone : (g : given.Over) (c : goal.After-give_all g) → c.replay.new.board.events ≡ c.as_slice-events.result.now
redone g c = c.in_ok-replay.ensures.done ∙ ap (λ (l : List Event). l ++ c.as_slice-events.result.now) c.in_ok-board.ensures.events

pub returns-clause-sound : goal.returns-clause-sound
returns-clause-sound g c = λ told answers parts known plan.
    sound_given told c.args.case.names.now answers c.replay.new.board c.give_all.new.self c.give_all.ensures.given
    (c.in_ok-replay.ensures.sound told c.args.case.names.now answers
    (sound_posts g.T.Tester c.args.team.now.workers.items c.args.case.names.now c.as_slice-events.result.now told answers (posted g c) parts)
    (sound_start told c.args.case.names.now answers c.in_ok-board.board c.args.case.table c.in_ok-board.ensures.farm c.in_ok-board.ensures.events known plan))

pub returns-clause-workers : goal.returns-clause-workers
returns-clause-workers g c =
    c.give_all.ensures.given.workers (length c.args.team.now.workers.items)
    (subst (λ (es : List Event). AreDoneBy (length c.args.team.now.workers.items) es) (sym (redone g c)) (posted g c).done)

pub returns-clause-posted : goal.returns-clause-posted
returns-clause-posted g c =
    subst (λ (ps : List Pair). ArePosts c.args.case.names.now ps (answers_of g.T.Tester c.args.team.now.workers.items))
    (sym (c.give_all.ensures.given.same_posts ∙ ap posts_of (redone g c)))
    (all_are_posts g.T.Tester c.args.team.now.workers.items c.args.case.names.now c.as_slice-events.result.now (posted g c))
