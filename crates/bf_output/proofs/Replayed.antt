-- A search that goes on from a file: the file with an LF at its end leads to where it goes on.
use Rattle.std.proofs.Common.{◌≡◌, ℕ, Bool, true, is_some, ◌&&◌, nat_lt, List, [], ◌∷◌, ◌++◌, length, Option, Some, None, Result, Ok, Err, refl, ap, ◌∙◌}
use Rattle.std.specs.Result.{result_map_both}
use Rattle.bf_history.specs.Meanings.{History}
use Rattle.bf_log.specs.Back.{LeadsTo}
use Rattle.bf_log.specs.Replay.{Replayed, ReplayFault, Name, NotStarted, Term}
use Rattle.bf_names.specs.declared.fault.NameFault.{NameFault}
use Rattle.bf_reading.specs.declared.line.LogLine.{LogLine}
use Rattle.bf_reading.specs.Reading.{read_log}
use Rattle.bf_replay.specs.Meaning.{setting_of, replay_in}
use Rattle.bf_io.specs.declared.shelf.LoadFault.{LoadFault}
use Rattle.bf_io.specs.declared.shelf.LoadFault.TheVariants.{Missing, TooLong, Failed, NoMemory}
use Rattle.bf_terms.specs.Words.{term_fault}
use Rattle.bf_output.specs.Beginning.{Begun, begun_behind, has_ends}
use Rattle.bf_output.specs.Logs.{replayed_or_refusal, replayed_log}
use Rattle.bf_output.specs.Refusals.{log_refused}
use Rattle.bf_output.specs.Told.{Told}
use Rattle.bf_output.proofs.Closing.{accepted_replayed, closed_replayed}
use Rattle.bf_output.proofs.Ended.{read_ended}
use Rattle.bf_grammar.specs.Forms.{◌>>=◌}

-- the bytes of a file lead to this
pub record IsReplayed (history : History) (file : Result (List ℕ) LoadFault) (replayed : Replayed) : Type 0 where
  pub bytes : List ℕ
  pub loaded : file ≡ Ok bytes
  pub lines : List LogLine
  pub read : read_log bytes ≡ Ok lines
  pub leads : replay_in history lines ≡ Ok replayed

unrefused : (r : Result Replayed (ReplayFault NameFault)) (replayed : Replayed) → replayed_or_refusal r ≡ Ok replayed → r ≡ Ok replayed
unrefused (Ok x) replayed e = let same : x ≡ replayed = cc e in ap (λ (y : Replayed). Ok y) same
unrefused (Err (Name line fault)) replayed e = cc e
unrefused (Err (NotStarted line)) replayed e = cc e
unrefused (Err (Term line)) replayed e = cc e

behind_lines : (history : History) (bytes : List ℕ) (replayed : Replayed) (read : Result (List LogLine) ℕ) → read_log bytes ≡ read
    → (result_map_both (λ (lines : List LogLine). lines) log_refused read >>= λ lines. replayed_or_refusal (replay_in history lines)) ≡ Ok replayed
    → IsReplayed history (Ok bytes) replayed
behind_lines history bytes replayed (Err line) is e = cc e
behind_lines history bytes replayed (Ok lines) is e = record {
  bytes = bytes;
  loaded = refl;
  lines = lines;
  read = is;
  leads = unrefused (replay_in history lines) replayed e;
}

pub is_replayed : (history : History) (file : Result (List ℕ) LoadFault) (replayed : Replayed) → replayed_log history file ≡ Ok replayed
    → IsReplayed history file replayed
unfolding replayed_log
is_replayed history (Ok bytes) replayed e = behind_lines history bytes replayed (read_log bytes) refl e
is_replayed history (Err Missing) replayed e = cc e
is_replayed history (Err TooLong) replayed e = cc e
is_replayed history (Err Failed) replayed e = cc e
is_replayed history (Err NoMemory) replayed e = cc e

-- what a search that goes on from a log is
pub record GoesOnBehind (history : History) (file : Result (List ℕ) LoadFault) (bare : Begun) : Type 0 where
  pub replayed : Replayed
  pub log : IsReplayed history file replayed
  pub is : begun_behind replayed ≡ bare

behind_log : (history : History) (file : Result (List ℕ) LoadFault) (bare : Begun) (r : Result Replayed Told) → replayed_log history file ≡ r
    → (r >>= λ replayed. Ok (begun_behind replayed)) ≡ Ok bare → GoesOnBehind history file bare
behind_log history file bare (Err told) is e = cc e
behind_log history file bare (Ok replayed) is e = record { replayed = replayed; log = is_replayed history file replayed is; is = cc e }

pub goes_on_behind : (history : History) (file : Result (List ℕ) LoadFault) (bare : Begun)
    → (replayed_log history file >>= λ replayed. Ok (begun_behind replayed)) ≡ Ok bare → GoesOnBehind history file bare
goes_on_behind history file bare e = behind_log history file bare (replayed_log history file) refl e

some_bad : (bad : Option ℕ) (goods : Bool) → (is_some bad && goods) ≡ true → (p : ℕ) × (bad ≡ Some p)
some_bad (Some p) goods h = (p, refl)
some_bad None goods h = cc h

-- a file that leads to both ends leads there with its terms, also with an LF at its end
pub file_leads : (history : History) (file : Result (List ℕ) LoadFault) (replayed : Replayed) (r : IsReplayed history file replayed)
    → has_ends replayed.told.search ≡ true → LeadsTo (setting_of history) replayed.terms (r.bytes ++ 10 ∷ []) replayed.told
file_leads history file replayed r ends =
    let bad = some_bad replayed.told.search.bad (nat_lt 0 (length replayed.told.search.goods)) ends in
    record {
      lines = r.lines;
      read = read_ended r.bytes ∙ r.read;
      replayed = r.leads ∙ ap (λ (b : Bool). Ok (record { told = replayed.told; terms = replayed.terms; terms_open = b }))
          (closed_replayed (setting_of history) r.lines replayed bad.0 r.leads bad.1);
    }

pub file_accepted : (history : History) (file : Result (List ℕ) LoadFault) (replayed : Replayed) → IsReplayed history file replayed
    → term_fault replayed.terms.new replayed.terms.old ≡ None
file_accepted history file replayed r = accepted_replayed (setting_of history) r.lines replayed r.leads
