use Rattle.std.proofs.Common.{arith, Err, Ok, Some, None, Option, refl, subst, sym, ◌∙◌}
use Rattle.bf_grammar.specs.declared.command.Command.{Command}
use Rattle.bf_grammar.specs.declared.fault.Limits.{Limits}
use Rattle.bf_grammar.specs.Commands.{command_at}
use Rattle.bf_grammar.specs.Place.{Gives}
use Rattle.bf_history.specs.declared.fault.ImportFault.{ImportFault}
use Rattle.bf_stream.specs.Standing.{IsOverBy, is_over, reader_faults, reader_place}
use Rattle.bf_import.specs.Faults.{IsFaultOf}
use Rattle.bf_import.specs.Loading.{MayLoad}
use Rattle.bf_import.proofs.Answered.{still_furnished}
use Rattle.bf_import.proofs.Loaded.{loads_more, loads_all, loads_refused, loads_stopped, gave_under, meant_under, own_stopped, own_refused, cause_stopped}
use Rattle.bf_import.proofs.Loaded.{cause_refused, kept_on, same_itself}
use Rattle.bf_import.proofs.Resting.{leads_more, leads_out}
use Rattle.bf_import.proofs.loading.load.Goals as goal

pub commands-init : goal.commands-init
commands-init g c = record {
  loads = λ start bytes here. here;
  furnished = λ has. has;
  same_kind = same_itself (g.C.Contents.kept c.args.contents.now);
  limits = refl;
  read_under = c.requires.limits;
  going_on = c.requires.going_on;
  leads = λ there ends. ends;
  beyond = refl;
  source = refl;
  later = omega arith;
}

pub returns-in_err-take-in-Some-clause-loads : goal.returns-in_err-take-in-Some-clause-loads
returns-in_err-take-in-Some-clause-loads g c =
    let limits = c.args.importer.now.limits in
    let kept = g.C.Contents.kept c.commands.contents in
    let before = reader_place g.S.Source.left c.commands.reader in
    let after = reader_place g.S.Source.left c.next.new.self in
    λ start bytes here.
    loads_stopped limits start before after kept c.commands.importer.loading (λ (_ : Unit {0}). c.take.new.self.loading) bytes c.in-Some.command
    c.in_err-take-in-Some.field-0.0 c.from_residual.result c.take.new.self (g.C.Contents.kept c.take.new.contents) c.from_residual.ensures.1
    (c.commands.invariant.loads start bytes here)
    (gave_under limits _ c.commands.invariant.read_under before after c.in-Ok.next (Some c.in-Some.command) c.in-Some.is c.in-Ok.ensures.reads.gives)
    (meant_under (λ (_ : Unit {0}). c.take.new.self.loading) limits c.commands.importer.limits kept c.commands.importer.loading c.in-Some.command
    (Err c.in_err-take-in-Some.field-0.0) c.commands.invariant.limits c.in_err-take-in-Some.ensures.loading)

pub returns-in_err-take-in-Some-clause-cause : goal.returns-in_err-take-in-Some-clause-cause
returns-in_err-take-in-Some-clause-cause g c =
    cause_stopped (λ (_ : Unit {0}). c.take.new.self.loading) c.commands.importer.limits (g.C.Contents.kept c.commands.contents)
    c.commands.importer.loading c.in-Some.command
    c.in_err-take-in-Some.field-0.0 c.from_residual.result
    (reader_faults g.S.Source.faults c.args.reader.now) (reader_faults g.S.Source.faults c.next.new.self)
    (omega (arith, c.commands.invariant.later, c.in-Ok.ensures.reads.cause.later)) c.from_residual.ensures.1 c.in_err-take-in-Some.ensures.loading

pub returns-in_err-take-in-Some-clause-known : goal.returns-in_err-take-in-Some-clause-known
returns-in_err-take-in-Some-clause-known g c =
    own_stopped (λ (_ : Unit {0}). c.take.new.self.loading) c.commands.importer.limits (g.C.Contents.kept c.commands.contents)
    c.commands.importer.loading c.in-Some.command
    c.in_err-take-in-Some.field-0.0 c.from_residual.result (g.C.Contents.kept c.args.contents.now) c.from_residual.ensures.1
    c.in_err-take-in-Some.ensures.loading c.commands.invariant.same_kind

pub commands-preserved : goal.commands-preserved
commands-preserved g c =
    let limits = c.args.importer.now.limits in
    let kept = g.C.Contents.kept c.commands.contents in
    let more = g.C.Contents.kept c.take.new.contents in
    let before = reader_place g.S.Source.left c.commands.reader in
    let after = reader_place g.S.Source.left c.next.new.self in
    let meant = meant_under (λ (_ : Unit {0}). c.take.new.self.loading) limits c.commands.importer.limits kept c.commands.importer.loading c.in-Some.command
    (Ok c.in_ok-take-in-Some.field-0) c.commands.invariant.limits c.in_ok-take-in-Some.ensures.loading in
    record {
      loads = λ start bytes here.
          loads_more limits start before after kept c.commands.importer.loading bytes c.take.new.self.loading more c.in-Some.command
          (c.commands.invariant.loads start bytes here)
          (gave_under limits _ c.commands.invariant.read_under before after c.in-Ok.next (Some c.in-Some.command) c.in-Some.is c.in-Ok.ensures.reads.gives)
          meant c.in_ok-take-in-Some.ensures.kept;
      furnished = λ has.
          still_furnished limits kept more c.commands.importer.loading c.take.new.self.loading c.in-Some.command meant c.in_ok-take-in-Some.ensures.kept
          (c.commands.invariant.furnished has);
      same_kind = kept_on (g.C.Contents.kept c.args.contents.now) kept c.in-Some.command more c.in_ok-take-in-Some.ensures.kept
          c.commands.invariant.same_kind;
      limits = c.in_ok-take-in-Some.ensures.limits ∙ c.commands.invariant.limits;
      read_under = c.in-Ok.ensures.reads.limits ∙ c.commands.invariant.read_under;
      going_on = subst (λ (given : Option Command). IsOverBy (Ok given) (is_over c.next.new.self)) c.in-Some.is c.in-Ok.ensures.over;
      leads = leads_more limits (reader_place g.S.Source.left c.args.reader.now) before after c.in-Some.command c.commands.invariant.leads
          (gave_under limits _ c.commands.invariant.read_under before after c.in-Ok.next (Some c.in-Some.command) c.in-Some.is c.in-Ok.ensures.reads.gives);
      beyond = c.in-Ok.ensures.reads.beyond ∙ c.commands.invariant.beyond;
      source = c.in-Ok.ensures.reads.source ∙ c.commands.invariant.source;
      later = omega (arith, c.commands.invariant.later, c.in-Ok.ensures.reads.cause.later);
    }

pub returns-in-None-clause-loads : goal.returns-in-None-clause-loads
returns-in-None-clause-loads g c =
    let limits = c.args.importer.now.limits in
    let before = reader_place g.S.Source.left c.commands.reader in
    let after = reader_place g.S.Source.left c.next.new.self in
    λ start bytes here.
    loads_all limits start before after (g.C.Contents.kept c.commands.contents) c.commands.importer.loading bytes
    (c.commands.invariant.loads start bytes here)
    (gave_under limits _ c.commands.invariant.read_under before after c.in-Ok.next None c.in-None.is c.in-Ok.ensures.reads.gives)

pub returns-in-None-clause-ends : goal.returns-in-None-clause-ends
returns-in-None-clause-ends g c =
    let limits = c.args.importer.now.limits in
    let before = reader_place g.S.Source.left c.commands.reader in
    let after = reader_place g.S.Source.left c.next.new.self in
    record {
      ends = leads_out limits (reader_place g.S.Source.left c.args.reader.now) before after c.commands.invariant.leads
          (gave_under limits _ c.commands.invariant.read_under before after c.in-Ok.next None c.in-None.is c.in-Ok.ensures.reads.gives);
      whole = rw c.in-None.is at c.in-Ok.ensures.whole;
      beyond = c.in-Ok.ensures.reads.beyond ∙ c.commands.invariant.beyond;
    }

pub returns-in-None-clause-furnished : goal.returns-in-None-clause-furnished
returns-in-None-clause-furnished g c = c.commands.invariant.furnished

pub returns-in-Err-clause-loads : goal.returns-in-Err-clause-loads
returns-in-Err-clause-loads g c =
    let limits = c.args.importer.now.limits in
    let before = reader_place g.S.Source.left c.commands.reader in
    let after = reader_place g.S.Source.left c.next.new.self in
    λ start bytes here.
    subst (λ (f : ImportFault). MayLoad bytes limits start (Err f)) (sym c.refused.ensures)
    (loads_refused limits start before after (g.C.Contents.kept c.commands.contents) c.commands.importer.loading bytes c.in-Err.fault
    (c.commands.invariant.loads start bytes here)
    (subst (λ (l : Limits). Gives (λ (command : Option Command). command) before after (Err c.in-Err.fault) (command_at l)) c.commands.invariant.read_under
    c.in-Err.ensures.reads.gives))

pub returns-in-Err-clause-cause : goal.returns-in-Err-clause-cause
returns-in-Err-clause-cause g c =
    cause_refused c.in-Err.fault c.refused.result (reader_faults g.S.Source.faults c.args.reader.now) (reader_faults g.S.Source.faults c.commands.reader)
    (reader_faults g.S.Source.faults c.next.new.self) c.commands.invariant.later c.refused.ensures c.in-Err.ensures.reads.cause

pub returns-in-Err-clause-known : goal.returns-in-Err-clause-known
returns-in-Err-clause-known g c =
    subst (IsFaultOf (g.C.Contents.kept c.args.contents.now)) (sym c.refused.ensures) (own_refused (g.C.Contents.kept c.args.contents.now) c.in-Err.fault)
