-- What a replay means over a history.
use Rattle.std.specs.Prelude.{◌≡◌, ℕ, Bool, List, Result, Option, Some, None, All}
use Rattle.std.specs.Borrow.{Bor}
use Rattle.bf_history.specs.Meanings.{History}
use Rattle.bf_search.specs.Within.{IsEntryWithin}
use Rattle.bf_names.specs.Names.{name}
use Rattle.bf_names.specs.declared.fault.NameFault.{NameFault}
use Rattle.bf_reading.specs.declared.line.LogLine.{LogLine}
use Rattle.bf_state.specs.Session.{Session}
use Rattle.bf_terms.specs.Texts.{Sides}
use Rattle.bf_log.specs.Replay as replay
use Rattle.bf_replay.specs.declared.fold.Replayed.{Replayed}

-- names mean what they mean in the history
abbrev pub setting_of : History → replay.Setting NameFault
setting_of history = record { graph = history.parents; place_of = λ text. name history text }

-- what a log led to, as the definition has it
abbrev pub replayed_of : Replayed → replay.Replayed
replayed_of r = record {
  told = record { search = r.state.search; entries = r.entries.items };
  terms = r.state.terms;
  terms_open = r.state.terms_open;
}

abbrev pub replayed_before : Option Replayed → Option replay.Replayed
replayed_before None = None
replayed_before (Some r) = Some (replayed_of r)

-- the state is one over so many commits
abbrev pub HasLength : ℕ → Replayed → Type 0
HasLength len r = r.state.len ≡ len

-- the entries name places of so many commits
abbrev pub AreWithin : ℕ → Replayed → Type 0
AreWithin len r = All (IsEntryWithin len) r.entries.items

-- a text that may be there, as it is lent
abbrev pub text_of : Option (Bor (List ℕ)) → Option (List ℕ)
text_of None = None
text_of (Some text) = Some text.now

-- a session with other terms, and with a mark behind it
abbrev pub with_terms : Session → Sides → Session
with_terms session terms = record session { terms = terms }

abbrev pub with_open : Session → Bool → Session
with_open session terms_open = record session { terms_open = terms_open }

-- what a log leads to over a history, or how it is refused
abbrev pub replay_in : History → List LogLine → Result replay.Replayed (replay.ReplayFault NameFault)
replay_in history lines = replay.replay (setting_of history) lines
