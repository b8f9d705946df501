-- The line `data` of a data part (git-fast-import(1)), as it is read.
use Rattle.std.specs.Prelude.{◌≡◌, ℕ, List, Result, Ok, Err, MatchResult}
use Rattle.bf_io.specs.Decimal.{decimal_value}
use Rattle.bf_grammar.specs.declared.command.DataForm.{DataForm}
use Rattle.bf_grammar.specs.declared.command.DataForm.TheVariants as form
use Rattle.bf_grammar.specs.declared.fault.Limits.{Limits}
use Rattle.bf_grammar.specs.declared.fault.StreamFault.{StreamFault}
use Rattle.bf_grammar.specs.Forms.{data_form, delimiter_in, counted}
use Rattle.bf_forms.specs.declared.parts.DataLine.{DataLine}
use Rattle.bf_forms.specs.declared.parts.DataLine.TheVariants.{Counted, Delimited}

-- the form of a line, without its delimiter
abbrev pub form_in : DataLine → DataForm
form_in (Counted count) = form.Counted count
form_in (Delimited delimiter) = form.Delimited

-- the delimiter in a line, where it has one
abbrev pub DelimiterIs : List ℕ → DataLine → Type 0
DelimiterIs text (Counted count) = Unit {0}
DelimiterIs text (Delimited delimiter) = delimiter.now ≡ delimiter_in text

-- a line announces its bytes so
abbrev pub Announces : Limits → ℕ → List ℕ → DataLine → Type 0
Announces limits line text read = (data_form limits line text ≡ Ok (form_in read)) × DelimiterIs text read

-- a line `data` as it is read, or its refusal
abbrev pub IsDataLine : Limits → ℕ → List ℕ → Result DataLine StreamFault → Type 0
IsDataLine limits line text result =
    MatchResult result (λ read. Announces limits line text read) (λ fault. data_form limits line text ≡ Err fault)

-- a count of bytes, or its refusal
abbrev pub IsCount : Limits → ℕ → List ℕ → Result ℕ StreamFault → Type 0
IsCount limits line digits result =
    MatchResult result (λ count. counted limits line (decimal_value digits) ≡ Ok (form.Counted count))
    (λ fault. counted limits line (decimal_value digits) ≡ Err fault)
