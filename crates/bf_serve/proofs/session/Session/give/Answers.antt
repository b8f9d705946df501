use Rattle.std.proofs.Common.{◌≡◌, ℕ, List, length, refl, sym, ap, subst, ◌∙◌, arith}
use Rattle.std.proofs.lemmas.Option.{slice_get_read}
use Rattle.bf_core.specs.Machine.{farm_of}
use Rattle.bf_many.specs.Cores.{machine_of}
use Rattle.bf_many.proofs.Lists.{get-map}
use Rattle.bf_search.specs.declared.farm.Event.TheVariants.{Give as Given}
use Rattle.bf_serve.specs.Searches.{needless}
use Rattle.bf_serve.specs.Serving.{stepped}
use Rattle.bf_serve.specs.Steps.{Remembers, others_than}
use Rattle.bf_serve.proofs.Changing.{found_at, some_is, told_given}
use Rattle.bf_serve.proofs.Holding.{held_below, held_claimed}
use Rattle.bf_serve.proofs.Posting.{served_given}
use Rattle.bf_serve.proofs.Sessions.{did, idle_at, left_at, needless_long, served_change}
use Rattle.bf_serve.proofs.Texts.{on_ok}
use Rattle.bf_serve.proofs.session.Session.give.Goals as goal

pub give-requires : goal.give-requires
give-requires c = held_claimed c.args.self.now.many c.args.worker c.in-Some.field-0 (sym c.held_by.ensures ∙ c.in-Some.is)

pub index-requires : goal.index-requires
index-requires c =
    let l = held_below c.args.self.now.many c.args.worker c.in-Some.field-0 (sym c.held_by.ensures ∙ c.in-Some.is) in
    let e = needless_long c.args.self.now c.requires in
    omega (arith, l, e, c.args.self.now.needless.ok.0)

pub remember-requires-clause-below : goal.remember-requires-clause-below
remember-requires-clause-below c =
    let l = held_below c.args.self.now.many c.args.worker c.in-Some.field-0 (sym c.held_by.ensures ∙ c.in-Some.is) in
    let e = needless_long c.args.self.now c.requires in
    omega (arith, l, e)

pub returns : goal.returns
returns c =
    let s = c.args.self.now in
    let k = c.in-Some.field-0.search in
    let p = c.in-Some.field-0.place in
    let has = sym c.held_by.ensures ∙ c.in-Some.is in
    let l = held_below s.many c.args.worker c.in-Some.field-0 has in
    let long = needless_long s c.requires in
    let each = c.requires.each in
    let does = c.give.ensures.event in
    let core = does.before in
    let m = machine_of core in
    let event = Given c.args.worker p in
    let to = did s c.give.new.self k core event c.requires does.at does in
    let found = found_at s.openings.items k (omega (arith, l, each)) in
    let there = idle_at s k core c.requires does.at in
    let idle : c.index.result.now ≡ needless m
    = some_is (sym (slice_get_read s.needless.items (length s.needless.items) k c.index.result.now refl (omega (arith, l, long)) c.index.ensures) ∙ there) in
    let others : c.in_ok-others.others ≡ others_than c.args.worker (needless m)
    = c.in_ok-others.ensures ∙ ap (others_than c.args.worker) (c.as_slice-needless.ensures ∙ idle) in
    on_ok c.put_done.result
    (λ h. served_given s c.remember.new.self c.args.worker c.in-Some.field-0 found.0 m c.args.out.now c.put_done.new.out has found.1
    (get-map machine_of s.many k core does.at)
    (served_change s c.remember.new.self c.give.new.self k core (stepped m event) found.0 c.args.out.now c.remember.new.out c.put_done.new.out
    c.requires to c.give.ensures.consumed
    (told_given (record s { many = c.give.new.self }) c.remember.new.self k c.args.worker p found.0 m (farm_of does.after) c.args.out.now
    c.remember.new.out does.so.farm found.1 (left_at s k core c.requires does.at)
    (subst (λ (ws : List ℕ). Remembers (record s { many = c.give.new.self }) c.remember.new.self k (needless m) ws c.args.out.now c.remember.new.out)
    others (c.in_ok-remember.ensures (needless m) there)))
    h))
    c.put_done.ensures
