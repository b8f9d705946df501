-- The numbers and the stages with which the program ends, and the words of its refusals.
use Rattle.std.specs.Prelude.{ℕ, List, ◌++◌, codes}
use Rattle.std.specs.Fmt.{decimal}
use Rattle.bf_grammar.specs.declared.fault.Limit.{Limit}
use Rattle.bf_grammar.specs.declared.fault.Limit.TheVariants as limit
use Rattle.bf_names.specs.declared.fault.NameFault.{NameFault}
use Rattle.bf_names.specs.declared.fault.NameFault.TheVariants as name
use Rattle.bf_output.specs.declared.status.Status.{Status}
use Rattle.bf_output.specs.declared.status.Status.TheVariants.{Done, Usage, OnlySkipped, MergeBaseBad, GoodNotAncestor, BothSides, Aborted}
use Rattle.bf_output.specs.declared.status.Status.TheVariants.{StreamRefused, NameRefused, TooLarge, LogRefused, TestFault, ReadFault, WriteFault}
use Rattle.bf_output.specs.declared.status.Status.TheVariants.{ShelfFault, NoMemory, NoFile, Waiting}
use Rattle.bf_output.specs.declared.status.Status.TheVariants.{NoContent, CertRefused, JournalRefused, JournalFault, ListRefused}
use Rattle.bf_output.specs.declared.status.StreamKind.{StreamKind}
use Rattle.bf_output.specs.declared.status.StreamKind.TheVariants as kind

abbrev pub number_of : Status → ℕ
number_of Done = 0
number_of (Usage word) = 1
number_of OnlySkipped = 2
number_of MergeBaseBad = 3
number_of GoodNotAncestor = 4
number_of BothSides = 5
number_of Aborted = 6
number_of (StreamRefused line refusal) = 7
number_of (NameRefused word fault) = 8
number_of (TooLarge what) = 9
number_of (LogRefused line) = 10
number_of (TestFault place) = 11
number_of ReadFault = 12
number_of WriteFault = 13
number_of ShelfFault = 14
number_of NoMemory = 15
number_of NoFile = 16
number_of Waiting = 17
number_of (NoContent line) = 19
number_of (CertRefused line) = 20
number_of (JournalRefused kept) = 21
number_of JournalFault = 22
number_of (ListRefused line) = 23

-- at which stage a call came to its end
pub data Stage : Type 0 where
  Refused : Stage  -- what it was given is refused, or there is too little of it: before a search
  Unread : Stage  -- a device gave no stream, or no file: before a search
  Ended : Stage  -- its search came to an end, or its command did what it was asked
  Cut : Stage  -- a test, a write or a journal failed, or memory ran out

-- each status that is not named here is a refusal
abbrev pub stage_of : Status → Stage
stage_of Done = Ended
stage_of OnlySkipped = Ended
stage_of MergeBaseBad = Ended
stage_of GoodNotAncestor = Ended
stage_of BothSides = Ended
stage_of Aborted = Ended
stage_of ReadFault = Unread
stage_of ShelfFault = Unread
stage_of (TestFault place) = Cut
stage_of WriteFault = Cut
stage_of NoMemory = Cut
stage_of JournalFault = Cut
stage_of other = Refused

abbrev pub words_of_kind : StreamKind → List ℕ
words_of_kind kind.Syntax = codes "syntax"
words_of_kind kind.Unsupported = codes "unsupported"
words_of_kind kind.Truncated = codes "truncated"
words_of_kind kind.NoDone = codes "no done"
words_of_kind kind.BadFrom = codes "bad from"
words_of_kind kind.BadMark = codes "bad mark"
words_of_kind kind.BadPath = codes "bad path"

abbrev pub word_of_limit : Limit → List ℕ
word_of_limit limit.Line = codes "line"
word_of_limit limit.Data = codes "data"
word_of_limit limit.Stream = codes "stream"
word_of_limit limit.Commits = codes "commits"
word_of_limit limit.Entries = codes "entries"
word_of_limit limit.Log = codes "log"

abbrev pub words_of_name_fault : NameFault → List ℕ
words_of_name_fault name.Unknown = codes "unknown"
words_of_name_fault (name.Ambiguous count) = codes "ambiguous " ++ decimal count
words_of_name_fault name.NoParent = codes "no parent"
words_of_name_fault name.BadForm = codes "bad form"
words_of_name_fault name.NoMemory = codes "out of memory"
