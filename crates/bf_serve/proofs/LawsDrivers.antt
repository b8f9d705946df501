-- Two drivers whose searches began alike and know the same outcomes were told the same.
use Rattle.std.proofs.Common.{◌≡◌, ℕ, ◌+◌, List, Option, None, Result, Ok, sym, ap, ◌∙◌}
use Rattle.bf_history.specs.Meanings.{History}
use Rattle.bf_io.specs.declared.shelf.LoadFault.{LoadFault}
use Rattle.bf_io.specs.declared.shelf.ShelfFile.{ShelfFile}
use Rattle.bf_many.specs.Many.{FarmMachine}
use Rattle.bf_output.specs.Beginning.{Begun, begun_with_skips, log_on}
use Rattle.bf_protocol.specs.Events.{News}
use Rattle.bf_reading.specs.Reading.{lines_of}
use Rattle.bf_search.specs.Farm.{Setting, consumed}
use Rattle.bf_search.specs.Outcomes.{outcomes_of_table}
use Rattle.bf_search.specs.Run.{Run, run}
use Rattle.bf_words.specs.declared.request.Request.{Request}
use Rattle.bf_serve.specs.declared.opening.Opening.{Opening}
use Rattle.bf_serve.specs.Begins.{request_to_search}
use Rattle.bf_serve.specs.Laws.{BeganAlike, HasBegun, IsEndTold, IsLogTold, KnowTheSame, file_begun, logged, parts_of, parts_told}
use Rattle.bf_serve.specs.Searches.{run_of}
use Rattle.bf_serve.specs.Serving.{machine_at_start}

ok_is : {X E : Type 0} (r : Result X E) (x y : X) → r ≡ Ok x → r ≡ Ok y → x ≡ y
ok_is r x y e f = cc (e, f)

module _ (history : History) (files shelf : List ShelfFile) (given said : List (List (List ℕ))) (j k : ℕ) (o p : Opening) (m n : FarmMachine)
    (one : HasBegun history files given j o m) (other : HasBegun history shelf said k p n)
    (alike : BeganAlike files shelf one.words other.words one.asks other.asks) (same : KnowTheSame m n) where
  same_asks : one.asks ≡ other.asks
  same_asks = ok_is (request_to_search one.words) one.asks other.asks one.reads (ap request_to_search alike.words_are ∙ other.reads)

  pub same_first : one.first ≡ other.first
  same_first =
      ok_is (begun_with_skips one.asks one.words (file_begun files one.words one.asks) history) one.first other.first one.begins
      (ap (λ (asks : Request). begun_with_skips asks one.words (file_begun files one.words one.asks) history) same_asks
      ∙ ap (λ (words : List (List ℕ)). begun_with_skips other.asks words (file_begun files one.words one.asks) history) alike.words_are
      ∙ ap (λ (file : Option (Result (List ℕ) LoadFault)). begun_with_skips other.asks other.words file history) alike.file
      ∙ other.begins)

  same_run : run history.parents (outcomes_of_table m.farm.table) None one.first.search
      ≡ run history.parents (outcomes_of_table n.farm.table) None one.first.search
  same_run i = run history.parents (λ q. same q i) None one.first.search

  pub same_runs : run_of m ≡ run_of n
  same_runs =
      ap (λ (t : Setting). consumed t m.farm.table) one.setting
      ∙ same_run
      ∙ ap (λ (b : Begun). consumed (machine_at_start history.parents b.search).setting n.farm.table) same_first
      ∙ sym (ap (λ (t : Setting). consumed t n.farm.table) other.setting)

pub same_log : (history : History) (files shelf : List ShelfFile) (given said : List (List (List ℕ))) (news others : List News) (j k : ℕ) (o p : Opening)
    (m n : FarmMachine)
    (one : IsLogTold history files given news j o m) (other : IsLogTold history shelf said others k p n)
    → BeganAlike files shelf one.begun.words other.begun.words one.begun.asks other.begun.asks → KnowTheSame m n → logged (j + 1) news ≡ logged (k + 1) others
same_log history files shelf given said news others j k o p m n one other alike same =
    one.log
    ∙ ap (λ (b : Begun). lines_of (log_on history b (run_of m).entries))
    (same_first history files shelf given said j k o p m n one.begun other.begun alike same)
    ∙ ap (λ (r : Run). lines_of (log_on history other.begun.first r.entries))
    (same_runs history files shelf given said j k o p m n one.begun other.begun alike same)
    ∙ sym other.log

pub same_end : (history : History) (files shelf : List ShelfFile) (given said : List (List (List ℕ))) (news others : List News) (j k : ℕ) (o p : Opening)
    (m n : FarmMachine)
    (one : IsEndTold history files given news j o m) (other : IsEndTold history shelf said others k p n)
    → BeganAlike files shelf one.begun.words other.begun.words one.begun.asks other.begun.asks → KnowTheSame m n
    → parts_told (j + 1) news ≡ parts_told (k + 1) others
same_end history files shelf given said news others j k o p m n one other alike same =
    one.parts
    ∙ ap (λ (b : Begun). parts_of history b (run_of m)) (same_first history files shelf given said j k o p m n one.begun other.begun alike same)
    ∙ ap (parts_of history other.begun.first) (same_runs history files shelf given said j k o p m n one.begun other.begun alike same)
    ∙ sym other.parts
