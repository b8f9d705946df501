-- The refusals of the program, each with its status and its line.
use Rattle.std.specs.Prelude.{ℕ, Bool, [], ◌++◌, codes}
use Rattle.std.specs.Fmt.{decimal}
use Rattle.bf_grammar.specs.declared.fault.Limit.{Limit}
use Rattle.bf_grammar.specs.declared.fault.StreamFault.{StreamFault}
use Rattle.bf_grammar.specs.declared.fault.StreamFault.TheVariants as stream
use Rattle.bf_history.specs.declared.fault.ImportFault.{ImportFault}
use Rattle.bf_history.specs.declared.fault.ImportFault.TheVariants as faults
use Rattle.bf_names.specs.declared.fault.NameFault.{NameFault}
use Rattle.bf_terms.specs.Texts.{Sides, text_line, waiting_text}
use Rattle.bf_output.specs.declared.status.Status.TheVariants as status
use Rattle.bf_output.specs.declared.status.StreamKind.{StreamKind}
use Rattle.bf_output.specs.declared.status.StreamKind.TheVariants as kind
use Rattle.bf_output.specs.Statuses.{words_of_kind, word_of_limit, words_of_name_fault}
use Rattle.bf_output.specs.Told.{Told}

unfoldable pub usage : ℕ → Told
usage word = record { status = status.Usage word; text = text_line (codes "usage fault at word " ++ decimal word) }

unfoldable pub refused_at : ℕ → StreamKind → Told
refused_at line kind = record {
  status = status.StreamRefused line kind;
  text = text_line (codes "stream refused at line " ++ decimal line ++ codes ": " ++ words_of_kind kind);
}

unfoldable pub too_large : Limit → Told
too_large what = record { status = status.TooLarge what; text = text_line (codes "too large: " ++ word_of_limit what) }

unfoldable pub name_refused : ℕ → NameFault → Told
name_refused word fault = record {
  status = status.NameRefused word fault;
  text = text_line (codes "name refused at word " ++ decimal word ++ codes ": " ++ words_of_name_fault fault);
}

-- an end is missing: whether the bad one is known, and how many good ones are
unfoldable pub waiting : Sides → Bool → ℕ → Told
waiting sides bad good_count = record { status = status.Waiting; text = text_line (waiting_text sides bad good_count) }

abbrev pub read_fault : Told
read_fault = record { status = status.ReadFault; text = codes "read fault\n" }

unfoldable pub log_refused : ℕ → Told
log_refused line = record { status = status.LogRefused line; text = text_line (codes "log refused at line " ++ decimal line) }

unfoldable pub no_content : ℕ → Told
no_content line = record { status = status.NoContent line; text = text_line (codes "no content at line " ++ decimal line) }

abbrev pub no_file : Told
no_file = record { status = status.NoFile; text = codes "no such file\n" }

abbrev pub file_fault : Told
file_fault = record { status = status.ShelfFault; text = codes "file fault\n" }

-- no line says that memory ran out
abbrev pub no_memory : Told
no_memory = record { status = status.NoMemory; text = [] }

abbrev pub refusal_of_stream : StreamFault → Told
refusal_of_stream (stream.Syntax line) = refused_at line kind.Syntax
refusal_of_stream (stream.Unsupported line) = refused_at line kind.Unsupported
refusal_of_stream (stream.Truncated line) = refused_at line kind.Truncated
refusal_of_stream (stream.NoDone line) = refused_at line kind.NoDone
refusal_of_stream stream.Read = read_fault
refusal_of_stream (stream.TooLarge what) = too_large what
refusal_of_stream stream.NoMemory = no_memory

abbrev pub refusal : ImportFault → Told
refusal (faults.Stream fault) = refusal_of_stream fault
refusal (faults.BadFrom line) = refused_at line kind.BadFrom
refusal (faults.BadMark line) = refused_at line kind.BadMark
refusal (faults.BadPath line) = refused_at line kind.BadPath
refusal (faults.Unsupported line) = refused_at line kind.Unsupported
refusal (faults.NoContent line) = no_content line
refusal (faults.TooLarge what) = too_large what
refusal faults.NoMemory = no_memory
