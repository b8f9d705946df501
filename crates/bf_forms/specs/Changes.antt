-- The line of a change (git-fast-import(1)), as it is read.
use Rattle.std.specs.Prelude.{◌≡◌, ℕ, List, codes, Result, Ok, Err, MatchResult}
use Rattle.bf_grammar.specs.declared.fault.StreamFault.{StreamFault}
use Rattle.bf_grammar.specs.declared.fault.StreamFault.TheVariants.{Syntax}
use Rattle.bf_grammar.specs.Lines.{is_text}
use Rattle.bf_grammar.specs.Forms.{where_so, modify_form, modified_path}
use Rattle.bf_forms.specs.declared.changes.ModifyLine.{ModifyLine}

-- the mode, the content and the path of a line `M`
abbrev pub Modifies : ℕ → List ℕ → ModifyLine → Type 0
Modifies line text read = (modify_form line text ≡ Ok (read.mode, read.content)) × (read.path.now ≡ modified_path text)

-- a line `M` as it is read, or its refusal
abbrev pub IsModifyLine : ℕ → List ℕ → Result ModifyLine StreamFault → Type 0
IsModifyLine line text result = MatchResult result (λ read. Modifies line text read) (λ fault. modify_form line text ≡ Err fault)

-- a line that is `deleteall` alone, or its refusal
abbrev pub deletes_all : ℕ → List ℕ → Result (Unit {0}) StreamFault
deletes_all line text = where_so (is_text (codes "deleteall") text) (Syntax line) tt
