-- The command `next`: what a search would test next.
use Rattle.std.specs.Prelude.{ℕ, List, ◌++◌, Option, Result, Ok}
use Rattle.bf_search.specs.Ends.{end_entries}
use Rattle.bf_history.specs.Meanings.{History}
use Rattle.bf_search.specs.declared.asks.Step.{Step}
use Rattle.bf_search.specs.State as searches
use Rattle.bf_search.specs.Run.{warnings}
use Rattle.bf_io.specs.declared.shelf.LoadFault.{LoadFault}
use Rattle.bf_terms.specs.Texts.{ask_lines}
use Rattle.bf_words.specs.declared.request.Request.{Request}
use Rattle.bf_output.specs.Beginning.{Begun, commits_of, log_on, begun_with_skips}
use Rattle.bf_output.specs.Simulate.{status_of_ask}
use Rattle.bf_output.specs.Told.{Told}
use Rattle.bf_grammar.specs.Forms.{◌>>=◌}

-- one ask: its log has the skipped merge bases that it passes over, and its end
abbrev pub asked_once : History → Begun → Step → Told
asked_once history first step = record {
  status = status_of_ask step.ask;
  text = log_on history first (warnings step.warned ++ end_entries step.ask)
      ++ ask_lines (commits_of history) first.sides step.ask;
}

unfoldable pub next_told : Request → List (List ℕ) → Option (Result (List ℕ) LoadFault) → History → Result Told Told
next_told request words file history =
    begun_with_skips request words file history
    >>= λ first. Ok (asked_once history first (searches.ask history.parents first.search).step)
