-- The texts of events.
use Rattle.std.proofs.Common.{◌≡◌, ℕ, List, [], ◌∷◌, ◌++◌, map, Result, Ok, Err, OnOk}
use Rattle.std.proofs.lemmas.List.{append-nil}
use Rattle.std.proofs.lemmas.List.Concat.{flat_map-append}
use Rattle.std.proofs.lemmas.List.Folds.{flat_map-map}
use Rattle.std.specs.Prelude.{codes}
use Rattle.bf_reading.specs.Reading.{lines_of}
use Rattle.bf_protocol.specs.Events.{News, Log, Answer, event_line, events_text, numbered_lines}

pub events_joined : (a b : List News) → events_text (a ++ b) ≡ events_text a ++ events_text b
events_joined a b = flat_map-append event_line a b

pub one_event : (news : News) → events_text (news ∷ []) ≡ event_line news
one_event news = append-nil (event_line news)

pub log_lines : (s : ℕ) (text : List ℕ) → events_text (map (Log s) (lines_of text)) ≡ numbered_lines (codes "log ") s text
log_lines s text = flat_map-map event_line (Log s) (lines_of text)

pub answer_lines : (s : ℕ) (text : List ℕ) → events_text (map (Answer s) (lines_of text)) ≡ numbered_lines (codes "answer ") s text
answer_lines s text = flat_map-map event_line (Answer s) (lines_of text)

-- what holds where a call succeeds
pub on_ok : {X E : Type 0} {P Q : Type 0} (r : Result X E) → (P → Q) → OnOk r P → OnOk r Q
on_ok (Ok x) f h = f h
on_ok (Err e) f h = tt
