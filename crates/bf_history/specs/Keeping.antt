-- What an import keeps of the contents that pass: nothing, or the blobs so far.
use Rattle.std.specs.Prelude.{ℕ, Bool, false, not, List, Option, Some, None, Result, fold}
use Rattle.std.specs.Option.{option_map}
use Rattle.bf_grammar.specs.declared.command.Change.{Change}
use Rattle.bf_grammar.specs.declared.command.Command.{Command}
use Rattle.bf_grammar.specs.declared.command.DataRef.{DataRef}
use Rattle.bf_grammar.specs.declared.fault.Limits.{Limits}
use Rattle.bf_oid.specs.declared.object.Mode.{Mode}
use Rattle.bf_oid.specs.declared.object.Oid.{Oid}
use Rattle.bf_forest.specs.declared.edits.Edit.{Edit}
use Rattle.bf_history.specs.declared.fault.ImportFault.{ImportFault}
use Rattle.bf_history.specs.declared.marked.Marked.{Marked}
use Rattle.bf_history.specs.Contents.{Blobs, after_command_over, behind_change, blobs_behind, edit_over, edits_over, has_content, with_blob, with_inline}
use Rattle.bf_history.specs.Meanings.{Loading, after_command, each_of, edit_of}

abbrev pub Kept : Type 0
Kept = Option Blobs

abbrev pub kept_with : Kept → Oid → List ℕ → Kept
kept_with kept name bytes = option_map (λ blobs. with_blob blobs name bytes) kept

abbrev pub kept_behind : Kept → Command → Kept
kept_behind kept command = option_map (λ blobs. blobs_behind blobs command) kept

abbrev pub kept_behind_change : Kept → Change → Kept
kept_behind_change kept change = option_map (λ blobs. behind_change blobs change) kept

abbrev pub kept_behind_all : Kept → List Change → Kept
kept_behind_all kept changes = option_map (λ blobs. fold behind_change blobs changes) kept

abbrev pub kept_with_inline : Kept → DataRef → Kept
kept_with_inline kept content = option_map (λ blobs. with_inline blobs content) kept

-- a file lacks what it needs; where nothing is kept, none does
abbrev pub lacks : Kept → Mode → DataRef → List (List ℕ) → Bool
lacks None mode content path = false
lacks (Some blobs) mode content path = not (has_content blobs mode content path)

-- the edits of changes, and what a command does
abbrev pub edit_meant : Kept → List (ℕ × Marked) → Change → Result Edit ImportFault
edit_meant None marks change = edit_of marks change
edit_meant (Some blobs) marks change = edit_over blobs marks change

abbrev pub edits_meant : Kept → List (ℕ × Marked) → List Change → Result (List Edit) ImportFault
edits_meant None marks changes = each_of (edit_of marks) changes
edits_meant (Some blobs) marks changes = edits_over blobs marks changes

abbrev pub command_meant : Limits → Kept → Loading → Command → Result Loading ImportFault
command_meant limits None loading command = after_command limits loading command
command_meant limits (Some blobs) loading command = after_command_over limits blobs loading command
