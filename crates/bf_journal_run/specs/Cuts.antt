-- What cuts a kept run short, by what failed.
use Rattle.bf_io.specs.declared.device.SinkFault.{SinkFault}
use Rattle.bf_io.specs.declared.device.SinkFault.TheVariants as sinks
use Rattle.bf_journal.specs.declared.journal.JournalFault.{JournalFault}
use Rattle.bf_journal.specs.declared.journal.JournalFault.TheVariants as journals
use Rattle.bf_journal_run.specs.declared.cut.Cut.{Cut}
use Rattle.bf_journal_run.specs.declared.cut.Cut.TheVariants.{Journal, Output, NoMemory}

abbrev pub cut_of_sink : SinkFault → Cut
cut_of_sink sinks.Failed = Output
cut_of_sink sinks.NoMemory = NoMemory

-- a journal that is open is not refused as another run's
abbrev pub cut_of_journal : JournalFault → Cut
cut_of_journal journals.Failed = Journal
cut_of_journal (journals.Mismatch kept) = Journal
cut_of_journal journals.NoMemory = NoMemory
