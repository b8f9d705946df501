-- A log that is replayed: its file is loaded, read and replayed, in this order.
use Rattle.std.specs.Prelude.{ℕ, List, Result, Ok, Err}
use Rattle.std.specs.Result.{result_map_both}
use Rattle.bf_grammar.specs.declared.fault.Limit.TheVariants.{Log}
use Rattle.bf_grammar.specs.Forms.{◌>>=◌}
use Rattle.bf_history.specs.Meanings.{History}
use Rattle.bf_log.specs.Replay.{Replayed, ReplayFault, Name, NotStarted, Term}
use Rattle.bf_names.specs.declared.fault.NameFault.{NameFault}
use Rattle.bf_reading.specs.Reading.{read_log}
use Rattle.bf_replay.specs.Meaning.{replay_in}
use Rattle.bf_io.specs.declared.shelf.LoadFault.{LoadFault}
use Rattle.bf_io.specs.declared.shelf.LoadFault.TheVariants.{Missing, TooLong, Failed, NoMemory}
use Rattle.bf_output.specs.Refusals.{too_large, log_refused, no_file, file_fault, no_memory}
use Rattle.bf_output.specs.Told.{Told}

abbrev pub file_or_refusal : Result (List ℕ) LoadFault → Result (List ℕ) Told
file_or_refusal (Ok bytes) = Ok bytes
file_or_refusal (Err Missing) = Err no_file
file_or_refusal (Err TooLong) = Err (too_large Log)
file_or_refusal (Err Failed) = Err file_fault
file_or_refusal (Err NoMemory) = Err no_memory

abbrev pub replayed_or_refusal : Result Replayed (ReplayFault NameFault) → Result Replayed Told
replayed_or_refusal (Ok replayed) = Ok replayed
replayed_or_refusal (Err (Name line fault)) = Err (log_refused line)
replayed_or_refusal (Err (NotStarted line)) = Err (log_refused line)
replayed_or_refusal (Err (Term line)) = Err (log_refused line)

unfoldable pub replayed_log : History → Result (List ℕ) LoadFault → Result Replayed Told
replayed_log history file =
    file_or_refusal file
    >>= λ bytes. result_map_both (λ lines. lines) log_refused (read_log bytes)
    >>= λ lines. replayed_or_refusal (replay_in history lines)
