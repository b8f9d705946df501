-- What the calls write is what is told.
use Rattle.std.proofs.Common.{◌≡◌, ℕ, List, [], ◌∷◌, ◌++◌, drop, refl, sym, ap, ◌∙◌}
use Rattle.bf_history.specs.Meanings.{History}
use Rattle.bf_log.specs.Written.{known_after_all}
use Rattle.bf_log.proofs.JoinedLogs.{log_joined}
use Rattle.bf_many.specs.Many.{FarmMachine}
use Rattle.bf_output.specs.Beginning.{Begun, commits_of, log_on}
use Rattle.bf_protocol.specs.Events.{News, Log, Left, event_line, events_text}
use Rattle.bf_search.specs.declared.entries.Entry.{Entry}
use Rattle.bf_terms.specs.Texts.{Known, Sides, known_after, log_from}
use Rattle.bf_serve.specs.declared.opening.Opening.{Opening}
use Rattle.bf_serve.specs.declared.remaining.Remaining.{Remaining}
use Rattle.bf_serve.specs.declared.standing.Progress.{Progress}
use Rattle.bf_serve.specs.Searches.{left_in, run_of}
use Rattle.bf_serve.specs.Steps.{StandsAt, StartsAs, TellsBegun, TellsRun}
use Rattle.bf_serve.specs.Turns.{changed_left, ended_by, further, further_log, left_told, newly_ended, told_lines}
use Rattle.bf_serve.proofs.Texts.{one_event, then_told}

known_joined : (k : Known) (xs ys : List Entry) → known_after_all k (xs ++ ys) ≡ known_after_all (known_after_all k xs) ys
known_joined k [] ys = refl
known_joined k (x ∷ xs) ys = known_joined (known_after k x) xs ys

-- the entries that are behind those before
pub further_is : (old m : FarmMachine) (standing : Progress) (entries : List Entry) → StandsAt old standing → entries ≡ drop standing.entries (run_of m).entries
    → entries ≡ further (run_of old) (run_of m)
further_is old m standing entries stands is = is ∙ ap (λ (n : ℕ). drop n (run_of m).entries) stands.entries

-- what is told of the run of a search
pub run_told : (history : History) (s : ℕ) (o new : Opening) (old m : FarmMachine) (standing : Progress) (entries : List Entry) (lines : List ℕ)
    (remaining : Remaining) (ended : List News) (before t1 t2 t3 : List ℕ) → StandsAt old standing
    → entries ≡ drop standing.entries (run_of m).entries → lines ≡ log_from (commits_of history) o.terms o.known entries
    → new ≡ record o { known = known_after_all o.known entries } → remaining ≡ left_in m
    → t1 ≡ before ++ events_text (told_lines (Log s) lines) → t2 ≡ t1 ++ events_text (changed_left s standing.remaining remaining)
    → t3 ≡ t2 ++ events_text ended → ended ≡ newly_ended (commits_of history) s o.terms (run_of old).end (run_of m).end
    → TellsRun history s old m o new before t3 remaining
run_told history s o new old m standing entries lines remaining ended before t1 t2 t3 stands behind written opened left h1 h2 h3 ends =
    let rest : entries ≡ further (run_of old) (run_of m) = further_is old m standing entries stands behind in
    let log : List News = told_lines (Log s) (further_log (commits_of history) o (run_of old) (run_of m)) in
    let left_news : List News = changed_left s (left_in old) (left_in m) in
    let one : t1 ≡ before ++ events_text log
    = h1 ∙ ap (λ (t : List ℕ). before ++ events_text (told_lines (Log s) t)) (written ∙ ap (log_from (commits_of history) o.terms o.known) rest) in
    let two : t2 ≡ t1 ++ events_text left_news
    = h2 ∙ ap (λ (r : Remaining). t1 ++ events_text (changed_left s r remaining)) stands.left
    ∙ ap (λ (r : Remaining). t1 ++ events_text (changed_left s (left_in old) r)) left in
    let three : t3 ≡ t2 ++ events_text (newly_ended (commits_of history) s o.terms (run_of old).end (run_of m).end)
    = h3 ∙ ap (λ (n : List News). t2 ++ events_text n) ends in
    record {
      tells = then_told (log ++ left_news) (newly_ended (commits_of history) s o.terms (run_of old).end (run_of m).end) before t2 t3
          (then_told log left_news before t1 t2 one two) three;
      opening = opened ∙ ap (λ (es : List Entry). record o { known = known_after_all o.known es }) rest;
      left = left;
    }

-- what is told of a search that begins
pub begun_told : (history : History) (s : ℕ) (first : Begun) (o mid new : Opening) (m : FarmMachine) (entries more : List Entry) (text lines : List ℕ)
    (remaining : Remaining) (before t1 t2 t3 : List ℕ) → StartsAs o entries first
    → text ≡ log_from (commits_of history) o.terms o.known entries → mid ≡ record o { known = known_after_all o.known entries }
    → lines ≡ text ++ log_from (commits_of history) mid.terms mid.known more → new ≡ record mid { known = known_after_all mid.known more }
    → more ≡ (run_of m).entries → remaining ≡ left_in m → t1 ≡ before ++ events_text (told_lines (Log s) lines)
    → t2 ≡ t1 ++ event_line (Left s remaining.left remaining.away)
    → t3 ≡ t2 ++ events_text (ended_by (commits_of history) s new.terms (run_of m).end)
    → TellsBegun history s first m o new before t3 remaining
begun_told history s first o mid new m entries more text lines remaining before t1 t2 t3 starts first_text middle written last run_entries left h1 h2 h3 =
    let C = commits_of history in
    let known : mid.known ≡ known_after_all first.known first.entries
    = ap (λ (x : Opening). x.known) middle ∙ ap (λ (k : Known). known_after_all k entries) starts.known
    ∙ ap (known_after_all first.known) starts.entries_are in
    let mid_terms : mid.terms ≡ first.sides = ap (λ (x : Opening). x.terms) middle ∙ starts.terms in
    let new_terms : new.terms ≡ first.sides = ap (λ (x : Opening). x.terms) last ∙ mid_terms in
    let text_is : text ≡ log_from C first.sides first.known first.entries
    = first_text ∙ ap (λ (w : Sides). log_from C w o.known entries) starts.terms
    ∙ ap (λ (k : Known). log_from C first.sides k entries) starts.known
    ∙ ap (log_from C first.sides first.known) starts.entries_are in
    let lines_are : lines ≡ log_on history first (run_of m).entries
    = written ∙ ap (λ (t : List ℕ). t ++ log_from C mid.terms mid.known more) text_is
    ∙ ap (λ (w : Sides). log_from C first.sides first.known first.entries ++ log_from C w mid.known more) mid_terms
    ∙ ap (λ (k : Known). log_from C first.sides first.known first.entries ++ log_from C first.sides k more) known
    ∙ ap (λ (es : List Entry). log_from C first.sides first.known first.entries
    ++ log_from C first.sides (known_after_all first.known first.entries) es) run_entries
    ∙ sym (log_joined C first.sides first.known first.entries (run_of m).entries) in
    let log : List News = told_lines (Log s) (log_on history first (run_of m).entries) in
    let one : t1 ≡ before ++ events_text log = h1 ∙ ap (λ (t : List ℕ). before ++ events_text (told_lines (Log s) t)) lines_are in
    let two : t2 ≡ t1 ++ events_text (left_told s (left_in m))
    = h2 ∙ ap (λ (t : List ℕ). t1 ++ t) (one_event (Left s remaining.left remaining.away))
    ∙ ap (λ (r : Remaining). t1 ++ events_text (left_told s r)) left in
    let three : t3 ≡ t2 ++ events_text (ended_by C s first.sides (run_of m).end)
    = h3 ∙ ap (λ (w : Sides). t2 ++ events_text (ended_by C s w (run_of m).end)) new_terms in
    record {
      tells = then_told (log ++ left_told s (left_in m)) (ended_by C s first.sides (run_of m).end) before t2 t3
          (then_told log (left_told s (left_in m)) before t1 t2 one two) three;
      opening = last ∙ (λ i. record {
        terms = mid_terms i;
        known = (ap (λ (k : Known). known_after_all k more) known ∙ ap (known_after_all (known_after_all first.known first.entries)) run_entries
            ∙ sym (known_joined first.known first.entries (run_of m).entries)) i;
        lenient = ap (λ (x : Opening). x.lenient) middle i;
      });
      left = left;
    }
