-- The command `replay`: the normal log of a log, and the state that it leads to.
use Rattle.std.specs.Prelude.{ℕ, List, ◌++◌, Option, Some, None, Result, Ok, Err}
use Rattle.bf_history.specs.Meanings.{History}
use Rattle.bf_log.specs.StateLines.{state_lines}
use Rattle.bf_log.specs.Replay.{Replayed}
use Rattle.bf_search.specs.Candidates.{places_of}
use Rattle.bf_io.specs.declared.shelf.LoadFault.{LoadFault}
use Rattle.bf_terms.specs.Texts.{log}
use Rattle.bf_output.specs.declared.status.Status.TheVariants as status
use Rattle.bf_output.specs.Beginning.{commits_of}
use Rattle.bf_output.specs.Logs.{replayed_log}
use Rattle.bf_output.specs.Refusals.{no_file}
use Rattle.bf_output.specs.Told.{Told}
use Rattle.bf_grammar.specs.Forms.{◌>>=◌}

abbrev pub normal_log : History → Replayed → Told
normal_log history replayed = record {
  status = status.Done;
  text = log (commits_of history) replayed.terms replayed.told.entries
      ++ state_lines (commits_of history) replayed.terms replayed.told.search.bad replayed.told.search.goods
      (places_of replayed.told.search.skips);
}

-- a file that no word names is missing
abbrev pub replay_told : Option (Result (List ℕ) LoadFault) → History → Result Told Told
replay_told None history = Err no_file
replay_told (Some file) history = replayed_log history file >>= λ replayed. Ok (normal_log history replayed)
