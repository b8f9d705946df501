-- How a log is refused, as the definition of replay has it. Of want of memory nothing is said.
use Rattle.std.specs.Prelude.{◌≡◌, ℕ, Result, Err, IfErr}
use Rattle.bf_terms.specs.declared.terms.TermFault.{TermFault}
use Rattle.bf_terms.specs.declared.terms.TermFault.TheVariants as terms
use Rattle.bf_names.specs.declared.fault.NameFault.{NameFault}
use Rattle.bf_replay.specs.declared.fault.ReplayFault.{ReplayFault}
use Rattle.bf_replay.specs.declared.fault.ReplayFault.TheVariants as faults
use Rattle.bf_log.specs.Replay as replay

abbrev pub IsRefusal : {X : Type 0} → ReplayFault → Result X (replay.ReplayFault NameFault) → Type 0
IsRefusal (faults.Name line fault) replayed = replayed ≡ Err (replay.Name line fault)
IsRefusal (faults.NotStarted line) replayed = replayed ≡ Err (replay.NotStarted line)
IsRefusal (faults.Term line) replayed = replayed ≡ Err (replay.Term line)
IsRefusal faults.NoMemory replayed = Unit {0}

-- a call that replays a part of a log: where it fails, the part is refused so, or memory was wanting
abbrev pub Refuses : {X Y : Type 0} → Result Y ReplayFault → Result X (replay.ReplayFault NameFault) → Type 0
Refuses result replayed = IfErr result (λ fault. IsRefusal fault replayed)

-- how terms that are refused refuse the line
abbrev pub term_refusal : ℕ → TermFault → ReplayFault
term_refusal line terms.New = faults.Term line
term_refusal line terms.Old = faults.Term line
term_refusal line terms.Same = faults.Term line
term_refusal line terms.NoMemory = faults.NoMemory
