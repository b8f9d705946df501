-- A tester that remembers, by the ghost members of the one below it.
use Rattle.bf_journal.specs.Recalling.{Recalling}
use Rattle.bf_journal.specs.Remembered.{told_over}
use Rattle.bf_tester.specs.declared.tester.Tester.{Ghosts}

abbrev pub recall_by : {T : Type 0} → Ghosts T → Ghosts (Recalling T)
recall_by by = record {
  told = λ t. told_over (by.is_lenient t.inner) t.remembered (by.told t.inner);
  command = λ t. by.command t.inner;
  answers = λ t. t.answers;
  faults = λ t. by.faults t.inner;
  failed = λ t. by.failed t.inner;
  is_split = λ t. by.is_split t.inner;
  is_lenient = λ t. by.is_lenient t.inner;
  grounds = λ t. by.grounds t.inner;
  recalled = λ t. t.remembered;
}
