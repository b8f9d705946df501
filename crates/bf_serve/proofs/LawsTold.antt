-- What is told of one search is its log, its end and its needless workers, also behind a request that changed its machine.
use Rattle.std.proofs.Common.{◌≡◌, ℕ, zero, suc, ◌+◌, Bool, true, false, cond, List, [], ◌∷◌, ◌++◌, map, Some, refl, sym, ap, subst, ◌∙◌, append_assoc}
use Rattle.std.proofs.lemmas.List.{append-nil}
use Rattle.std.specs.List.{slice_get}
use Rattle.bf_history.specs.Meanings.{History}
use Rattle.bf_io.specs.declared.shelf.ShelfFile.{ShelfFile}
use Rattle.bf_many.specs.Many.{FarmMachine}
use Rattle.bf_output.specs.Beginning.{Begun, commits_of, log_on}
use Rattle.bf_output.specs.Simulate.{status_of_end}
use Rattle.bf_output.specs.Statuses.{number_of}
use Rattle.bf_protocol.specs.Events.{News}
use Rattle.bf_reading.specs.Reading.{lines_of}
use Rattle.bf_search.specs.Farm.{Farm}
use Rattle.bf_search.specs.Outcomes.{outcomes_of_table}
use Rattle.bf_search.specs.Run.{End, Run}
use Rattle.bf_state.specs.Runs.{GoesOn, is_open}
use Rattle.bf_state.proofs.Tables.{seq_ends_alike, seq_goes_on}
use Rattle.bf_terms.specs.Texts.{Commits, Sides, answer_lines}
use Rattle.bf_serve.specs.declared.opening.Opening.{Opening}
use Rattle.bf_serve.specs.Laws.{HasBegun, OfAnswer, OfLog, Part, Status, logged, needless_told, parts_of, parts_of_end, parts_told}
use Rattle.bf_serve.specs.Searches.{needless, run_of}
use Rattle.bf_serve.specs.Serving.{opening_of}
use Rattle.bf_serve.specs.Turns.{further_log, news_of, told_on}
use Rattle.bf_serve.proofs.LawsLog.{log_goes_on, none_further, opening_goes_on}
use Rattle.bf_serve.proofs.LawsNews.{IsSilent, Tells, parts_joined, last_behind, last_is, logged_joined, needless_joined, new_parts, news_of_own}
use Rattle.bf_serve.proofs.LawsSteps.{IsSameBehind, KnowsOn}

-- what was told of a search is its log, its end and its needless workers
pub record IsToldOf (history : History) (files : List ShelfFile) (given : List (List (List ℕ))) (news : List News) (k : ℕ) (o : Opening)
    (m : FarmMachine) : Type 0 where
  pub begun : HasBegun history files given k o m
  pub log : logged (k + 1) news ≡ lines_of (log_on history begun.first (run_of m).entries)
  pub end : parts_told (k + 1) news ≡ parts_of history begun.first (run_of m)
  pub needless : needless_told (k + 1) [] news ≡ needless m

-- more words were given since
later_words : (given more : List (List (List ℕ))) (k : ℕ) (words : List (List ℕ)) → slice_get given k ≡ Some words → slice_get (given ++ more) k ≡ Some words
later_words [] more k words h = cc h
later_words (x ∷ given) more zero words h = h
later_words (x ∷ given) more (suc k) words h = later_words given more k words h

pub told_beside : (history : History) (files : List ShelfFile) (given more_given : List (List (List ℕ))) (news more : List News) (k : ℕ) (o : Opening)
    (m : FarmMachine) → IsToldOf history files given news k o m → IsSilent (k + 1) more
    → IsToldOf history files (given ++ more_given) (news ++ more) k o m
told_beside history files given more_given news more k o m was silent = record {
  begun = record {
    words = was.begun.words;
    said = later_words given more_given k was.begun.words was.begun.said;
    asks = was.begun.asks;
    first = was.begun.first;
    reads = was.begun.reads;
    begins = was.begun.begins;
    setting = was.begun.setting;
    opened = was.begun.opened;
  };
  log = logged_joined (k + 1) news more ∙ ap (λ (l : List (List ℕ)). logged (k + 1) news ++ l) silent.log ∙ append-nil (logged (k + 1) news) ∙ was.log;
  end = parts_joined (k + 1) news more ∙ ap (λ (l : List Part). parts_told (k + 1) news ++ l) silent.end ∙ append-nil (parts_told (k + 1) news) ∙ was.end;
  needless = needless_joined (k + 1) [] news more ∙ silent.needless (needless_told (k + 1) [] news) ∙ was.needless;
}

-- a machine with the same run and the same needless workers
pub told_same : (history : History) (files : List ShelfFile) (given : List (List (List ℕ))) (news : List News) (k : ℕ) (o : Opening) (own m : FarmMachine)
    → IsToldOf history files given news k o own → IsSameBehind own m → IsToldOf history files given (news ++ []) k o m
told_same history files given news k o own m was same =
    subst (λ (l : List News). IsToldOf history files given l k o m) (sym (append-nil news)) (record {
      begun = record {
        words = was.begun.words;
        said = was.begun.said;
        asks = was.begun.asks;
        first = was.begun.first;
        reads = was.begun.reads;
        begins = was.begun.begins;
        setting = same.setting ∙ was.begun.setting;
        opened = was.begun.opened ∙ ap (opening_of was.begun.asks.lenient was.begun.first) (sym same.run);
      };
      log = was.log ∙ ap (λ (r : Run). lines_of (log_on history was.begun.first r.entries)) (sym same.run);
      end = was.end ∙ ap (parts_of history was.begun.first) (sym same.run);
      needless = was.needless ∙ sym same.needless;
    })

-- what newly stands of a run, behind what stood: its log goes on, and then its end comes
each_joined : (xs ys : List (List ℕ)) → map OfLog (xs ++ ys) ≡ map OfLog xs ++ map OfLog ys
each_joined [] ys = refl
each_joined (x ∷ xs) ys = ap (λ (l : List Part). OfLog x ∷ l) (each_joined xs ys)

waits_on : (log more whole : List (List ℕ)) (old new : List Part) → old ≡ [] → log ++ more ≡ whole
    → (map OfLog log ++ old) ++ (map OfLog more ++ new) ≡ map OfLog whole ++ new
waits_on log more whole old new none joined =
    ap (λ (l : List Part). (map OfLog log ++ l) ++ (map OfLog more ++ new)) none
    ∙ ap (λ (l : List Part). l ++ (map OfLog more ++ new)) (append-nil (map OfLog log))
    ∙ sym (append_assoc (map OfLog log) (map OfLog more) new)
    ∙ ap (λ (l : List Part). l ++ new) (sym (each_joined log more) ∙ ap (λ (l : List (List ℕ)). map OfLog l) joined)

stays_over : (log more whole : List (List ℕ)) (old new : List Part) → more ≡ [] → new ≡ old → log ++ more ≡ whole
    → (map OfLog log ++ old) ++ (map OfLog more ++ []) ≡ map OfLog whole ++ new
stays_over log more whole old new none same joined =
    let whole_is : log ≡ whole = sym (append-nil log) ∙ ap (λ (l : List (List ℕ)). log ++ l) (sym none) ∙ joined in
    ap (λ (l : List (List ℕ)). (map OfLog log ++ old) ++ (map OfLog l ++ [])) none
    ∙ append-nil (map OfLog log ++ old)
    ∙ ap (λ (l : List (List ℕ)). map OfLog l ++ old) whole_is
    ∙ ap (λ (l : List Part). map OfLog whole ++ l) (sym same)

none_of_end : (b : Bool) (parts : List Part) → b ≡ true → cond b [] parts ≡ []
none_of_end true parts e = refl
none_of_end false parts e = cc e

parts_go_on : (commits : Commits) (sides : Sides) (old new : End) (log more whole : List (List ℕ)) (b : Bool) → is_open old ≡ b
    → (b ≡ false → (more ≡ []) × (new ≡ old)) → log ++ more ≡ whole
    → (map OfLog log ++ parts_of_end commits sides old) ++ (map OfLog more ++ cond b (parts_of_end commits sides new) [])
    ≡ map OfLog whole ++ parts_of_end commits sides new
parts_go_on commits sides old new log more whole true waits same joined =
    waits_on log more whole (parts_of_end commits sides old) (parts_of_end commits sides new)
    (none_of_end (is_open old) (map OfAnswer (lines_of (answer_lines commits sides old)) ++ Status (number_of (status_of_end old)) ∷ []) waits) joined
parts_go_on commits sides old new log more whole false over same joined =
    stays_over log more whole (parts_of_end commits sides old) (parts_of_end commits sides new) (same refl).0
    (ap (parts_of_end commits sides) (same refl).1) joined

module _ (history : History) (files : List ShelfFile) (given : List (List (List ℕ))) (news : List News) (k : ℕ) (o : Opening) (old : FarmMachine) (farm : Farm)
    (was : IsToldOf history files given news k o old) (on : KnowsOn old farm) where
  abbrev pub new : FarmMachine
  new = record old { farm = farm }

  goes : GoesOn (run_of old).entries (run_of new).entries
  goes = seq_goes_on old.setting.graph old.setting.start (outcomes_of_table old.farm.table) (outcomes_of_table farm.table) old.setting.leg on

  same_run : is_open (run_of old).end ≡ false → run_of new ≡ run_of old
  same_run over =
      seq_ends_alike old.setting.graph old.setting.start (outcomes_of_table old.farm.table) (outcomes_of_table farm.table) old.setting.leg on over

  abbrev further_lines : List (List ℕ)
  further_lines = lines_of (further_log (commits_of history) o (run_of old) (run_of new))

  stays_alike : is_open (run_of old).end ≡ false → (further_lines ≡ []) × ((run_of new).end ≡ (run_of old).end)
  stays_alike over = (
    none_further (commits_of history) o (run_of old) (run_of new) (ap (λ (r : Run). r.entries) (same_run over)),
    ap (λ (r : Run). r.end) (same_run over),
  )

  abbrev pub more : List News
  more = news_of history (k + 1) o old new

  abbrev first : Begun
  first = was.begun.first

  own : Tells (k + 1) more further_lines
      (map OfLog further_lines ++ new_parts (commits_of history) o.terms (run_of old).end (run_of new).end) (last_behind (needless old) (needless new))
  own = news_of_own (k + 1) history o old new

  log_on_more : lines_of (log_on history first (run_of old).entries) ++ further_lines ≡ lines_of (log_on history first (run_of new).entries)
  log_on_more = log_goes_on history was.begun.asks.lenient first o (run_of old) (run_of new) was.begun.opened goes

  pub told_on_more : IsToldOf history files given (news ++ more) k (told_on o (run_of old) (run_of new)) new
  told_on_more = record {
    begun = record {
      words = was.begun.words;
      said = was.begun.said;
      asks = was.begun.asks;
      first = first;
      reads = was.begun.reads;
      begins = was.begun.begins;
      setting = was.begun.setting;
      opened = ap (λ (x : Opening). told_on x (run_of old) (run_of new)) was.begun.opened
          ∙ opening_goes_on was.begun.asks.lenient first (run_of old) (run_of new) goes;
    };
    log = logged_joined (k + 1) news more ∙ ap (λ (l : List (List ℕ)). l ++ logged (k + 1) more) was.log
        ∙ ap (λ (l : List (List ℕ)). lines_of (log_on history first (run_of old).entries) ++ l) own.log
        ∙ log_on_more;
    end = parts_joined (k + 1) news more ∙ ap (λ (l : List Part). l ++ parts_told (k + 1) more) was.end
        ∙ ap (λ (l : List Part). parts_of history first (run_of old) ++ l)
        (own.end ∙ ap (λ (x : Opening). map OfLog further_lines ++ new_parts (commits_of history) x.terms (run_of old).end (run_of new).end) was.begun.opened)
        ∙ parts_go_on (commits_of history) first.sides (run_of old).end (run_of new).end (lines_of (log_on history first (run_of old).entries)) further_lines
        (lines_of (log_on history first (run_of new).entries)) (is_open (run_of old).end) refl stays_alike log_on_more;
    needless = needless_joined (k + 1) [] news more ∙ own.needless (needless_told (k + 1) [] news)
        ∙ ap (last_behind (needless old) (needless new)) was.needless ∙ last_is (needless old) (needless new);
  }
