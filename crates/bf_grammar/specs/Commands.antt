-- The commands of a stream (git-fast-import(1)), part by part.
use Rattle.std.specs.Prelude.{ℕ, Bool, true, false, List, [], ◌∷◌, ◌++◌, codes, Option, Some, None, Result, Ok, Err, if◌then◌else◌, ◌⊎◌}
use Rattle.std.proofs.Common.{inl, inr}
use Rattle.bf_grammar.specs.declared.command.Change.{Change}
use Rattle.bf_grammar.specs.declared.command.Change.TheVariants.{Modify, Delete, DeleteAll}
use Rattle.bf_grammar.specs.declared.command.Command.{Command}
use Rattle.bf_grammar.specs.declared.command.Command.TheVariants.{Blob, Commit, Tag, Reset, Progress, Feature}
use Rattle.bf_grammar.specs.declared.command.Header.{Header}
use Rattle.bf_grammar.specs.declared.command.ContentForm.{ContentForm}
use Rattle.bf_grammar.specs.declared.command.ContentForm.TheVariants as content
use Rattle.bf_grammar.specs.declared.command.DataForm.{DataForm}
use Rattle.bf_grammar.specs.declared.command.DataForm.TheVariants.{Counted, Delimited}
use Rattle.bf_grammar.specs.declared.command.DataRef.{DataRef}
use Rattle.bf_grammar.specs.declared.command.DataRef.TheVariants as dataref
use Rattle.bf_grammar.specs.declared.command.Head.{Head}
use Rattle.bf_grammar.specs.declared.command.Head.TheVariants as head
use Rattle.bf_grammar.specs.declared.command.Target.{Target}
use Rattle.bf_grammar.specs.declared.fault.Limits.{Limits}
use Rattle.bf_grammar.specs.declared.fault.StreamFault.{StreamFault}
use Rattle.bf_grammar.specs.declared.fault.StreamFault.TheVariants.{Syntax, Unsupported, NoDone}
use Rattle.bf_grammar.specs.Place.{Reading, pure, refuse, lifted, ◌>>=◌, repeat}
use Rattle.bf_grammar.specs.Lines.{is_text, take_line, with_line, at_word, must_be_at, at_command, skip_end_of_line, bytes_at, delimited_at}
use Rattle.bf_grammar.specs.Forms.{where_so, mark_of, text_after, ident_of, encoding_of, data_form, delimiter_in, modify_form, modified_path, head_of}
use Rattle.bf_grammar.specs.Forms.{name_after}

-- what the line in front says, and its end
abbrev pub line_as : {X : Type 0} → (ℕ → List ℕ → Result X StreamFault) → Reading X
line_as form = with_line (λ line text. do
  x ← lifted (form line text)
  _ ← take_line
  pure x)

-- a part that may stand, and one that must
abbrev pub optional : {X : Type 0} → Limits → List ℕ → (ℕ → List ℕ → Result X StreamFault) → Reading (Option X)
optional limits word form = do
  there ← at_word limits word
  if there then line_as form >>= (λ x. pure (Some x)) else pure None

abbrev pub required : {X : Type 0} → Limits → List ℕ → Reading X → Reading X
required limits word part = must_be_at limits word >>= λ _. part

unfoldable pub mark_at : Limits → Reading (Option ℕ)
mark_at limits = optional limits (codes "mark") mark_of

-- what is asked for is kept, and else dropped
abbrev pub where_asked : {X : Type 0} → Bool → Option X → Option X
where_asked true kept = kept
where_asked false kept = None

-- the name that an object had before it was exported, where such names are asked for
unfoldable pub original_oid_at : Limits → Reading (Option (List ℕ))
original_oid_at limits =
    optional limits (codes "original-oid") (λ line. text_after line (codes "original-oid")) >>= (λ text. pure (where_asked limits.original_names text))

unfoldable pub author_at : Limits → List ℕ → Reading (Option (List ℕ))
author_at limits word = optional limits word (λ line. ident_of line word)

unfoldable pub committer_at : Limits → Reading (List ℕ)
committer_at limits = required limits (codes "committer") (line_as (λ line. ident_of line (codes "committer")))

unfoldable pub encoding_at : Limits → Reading (Option (List ℕ))
encoding_at limits = optional limits (codes "encoding") encoding_of

-- a signature is not taken
unfoldable pub no_signature_at : Limits → Reading (Unit {0})
no_signature_at limits = do
  there ← at_word limits (codes "gpgsig")
  if there then refuse Unsupported else pure tt

-- `from <target>` or `merge <target>`
abbrev pub target_of : List ℕ → ℕ → List ℕ → Result Target StreamFault
target_of word line text = target_where line (text_after line word text)
  where
    target_where : ℕ → Result (List ℕ) StreamFault → Result Target StreamFault
    target_where line (Ok text) = Ok (record { line = line; text = text })
    target_where line (Err fault) = Err fault

unfoldable pub target_at : Limits → List ℕ → Reading (Option Target)
target_at limits word = optional limits word (target_of word)

unfoldable pub from_at : Limits → Reading Target
from_at limits = required limits (codes "from") (line_as (target_of (codes "from")))

-- the bytes of a data part, by the form of its line
abbrev pub content_at : Limits → ℕ → List ℕ → DataForm → Reading (List ℕ)
content_at limits line text (Counted n) = bytes_at line n
content_at limits line text Delimited = delimited_at limits line (delimiter_in text)

-- the bytes that the line in front announces
unfoldable pub announced_at : Limits → Reading (List ℕ)
announced_at limits = with_line (λ line text. do
  form ← lifted (data_form limits line text)
  _ ← take_line
  content_at limits line text form)

unfoldable pub data_at : Limits → Reading (List ℕ)
data_at limits = do
  _ ← must_be_at limits (codes "data")
  bytes ← announced_at limits
  _ ← skip_end_of_line
  pure bytes

-- one more item, or the end of the items
abbrev pub one_more : {X : Type 0} → List X → Option X → Reading (List X ⊎ List X)
one_more items (Some item) = pure (inl (items ++ item ∷ []))
one_more items None = pure (inr items)

abbrev pub all_of : {X : Type 0} → Reading (Option X) → Reading (List X)
all_of item = repeat (λ items. item >>= one_more items) []

unfoldable pub merges_at : Limits → Reading (List Target)
merges_at limits = all_of (target_at limits (codes "merge"))

-- the content of a changed file
abbrev pub dataref_at : Limits → ContentForm → Reading DataRef
dataref_at limits (content.Mark mark) = pure (dataref.Mark mark)
dataref_at limits (content.Name name) = pure (dataref.Name name)
dataref_at limits content.Inline = data_at limits >>= λ bytes. pure (dataref.Inline bytes)

unfoldable pub modify_at : Limits → Reading Change
modify_at limits = with_line (λ line text. do
  form ← lifted (modify_form line text)
  _ ← take_line
  dataref ← dataref_at limits form.1
  pure (Modify line form.0 dataref (modified_path text)))

unfoldable pub delete_at : Reading Change
delete_at = with_line (λ line text. do
  path ← lifted (text_after line (codes "D") text)
  _ ← take_line
  pure (Delete line path))

unfoldable pub delete_all_at : Reading Change
delete_all_at = with_line (λ line text. do
  _ ← lifted (where_so {X = Unit {0}} (is_text (codes "deleteall") text) (Syntax line) tt)
  _ ← take_line
  pure (DeleteAll line))

abbrev pub some : {X : Type 0} → Reading X → Reading (Option X)
some read = read >>= λ x. pure (Some x)

unfoldable pub change_at : Limits → Reading (Option Change)
change_at limits = do
  modifies ← at_word limits (codes "M")
  if modifies then some (modify_at limits) else do
    deletes ← at_word limits (codes "D")
    if deletes then some delete_at else do
      clears ← at_word limits (codes "deleteall")
      if clears then some delete_all_at else pure None

unfoldable pub changes_at : Limits → Reading (List Change)
changes_at limits = all_of (change_at limits)

unfoldable pub blob_at : Limits → ℕ → Reading Command
blob_at limits line = do
  mark ← mark_at limits
  _ ← original_oid_at limits
  content ← data_at limits
  pure (Blob line mark content)

-- the name that a commit had, who wrote it, who committed it, its encoding and its message
unfoldable pub header_at : Limits → Reading Header
header_at limits = do
  original ← original_oid_at limits
  author ← author_at limits (codes "author")
  committer ← committer_at limits
  encoding ← encoding_at limits
  _ ← no_signature_at limits
  message ← data_at limits
  pure (record { original = original; author = author; committer = committer; encoding = encoding; message = message })

unfoldable pub commit_at : Limits → ℕ → List ℕ → Reading Command
commit_at limits line branch = do
  mark ← mark_at limits
  header ← header_at limits
  from ← target_at limits (codes "from")
  merges ← merges_at limits
  changes ← changes_at limits
  pure (Commit (record {
    line = line;
    branch = branch;
    mark = mark;
    header = header;
    from = from;
    merges = merges;
    changes = changes;
  }))

unfoldable pub tag_at : Limits → ℕ → List ℕ → Reading Command
tag_at limits line name = do
  mark ← mark_at limits
  from ← from_at limits
  _ ← original_oid_at limits
  _ ← author_at limits (codes "tagger")
  _ ← data_at limits
  pure (Tag line name mark from)

unfoldable pub reset_at : Limits → ℕ → List ℕ → Reading Command
reset_at limits line branch = do
  from ← target_at limits (codes "from")
  pure (Reset line branch from)

-- from now on the stream must end with `done`
abbrev pub done_is_due : Reading (Unit {0})
done_is_due p = Ok (tt, record p { done_due = true })

-- the command whose first line is in front
abbrev pub command_of : Limits → ℕ → List ℕ → Head → Reading (Option Command)
command_of limits line text head.Done = pure None
command_of limits line text head.Blob = take_line >>= λ _. some (blob_at limits line)
command_of limits line text head.Commit = take_line >>= λ _. some (commit_at limits line (name_after (codes "commit") text))
command_of limits line text head.Tag = take_line >>= λ _. some (tag_at limits line (name_after (codes "tag") text))
command_of limits line text head.Reset = take_line >>= λ _. some (reset_at limits line (name_after (codes "reset") text))
command_of limits line text head.Progress = take_line >>= λ _. pure (Some (Progress line))
command_of limits line text head.Feature = take_line >>= λ _. pure (Some (Feature line))
command_of limits line text head.FeatureDone = take_line >>= λ _. done_is_due >>= λ _. pure (Some (Feature line))

-- the end of the input
abbrev pub end_of_input : Reading (Option Command)
end_of_input p = if p.done_due then Err (NoDone p.line) else Ok (None, p)

-- the command that the line in front begins
unfoldable pub headed_at : Limits → Reading (Option Command)
headed_at limits = with_line (λ line text. lifted (head_of line text) >>= command_of limits line text)

-- the next command, or none at the end of the stream
unfoldable pub command_at : Limits → Reading (Option Command)
command_at limits = do
  there ← at_command limits
  if there then headed_at limits else end_of_input
