-- The forms of the texts in the lines of a stream (git-fast-import(1)).
use Rattle.std.specs.Prelude.{ℕ, ◌+◌, Bool, false, ◌==◌, ◌&&◌, ◌||◌, not, nat_lt, nat_le, List, [], ◌∷◌, ◌++◌, length, drop, codes, Option, Some}
use Rattle.std.specs.Prelude.{None, Result, Ok, Err, if◌then◌else◌}
use Rattle.std.specs.List.{list_any, list_all, starts_with, before_first, after_first, ends_with}
use Rattle.bf_io.specs.Decimal.{decimal_value}
use Rattle.bf_oid.specs.Object.{oid_of_hex}
use Rattle.bf_grammar.specs.declared.fault.Limit.TheVariants.{Data}
use Rattle.bf_grammar.specs.declared.fault.Limits.{Limits}
use Rattle.bf_grammar.specs.declared.fault.StreamFault.{StreamFault}
use Rattle.bf_grammar.specs.declared.fault.StreamFault.TheVariants.{Syntax, Unsupported, TooLarge}
use Rattle.bf_oid.specs.declared.object.Mode.{Mode}
use Rattle.bf_oid.specs.declared.object.Mode.TheVariants.{Plain, Exec, Link, Module}
use Rattle.bf_oid.specs.declared.object.Oid.{Oid}
use Rattle.bf_grammar.specs.Lines.{is_text, has_word}
use Rattle.bf_grammar.specs.declared.command.ContentForm.{ContentForm}
use Rattle.bf_grammar.specs.declared.command.ContentForm.TheVariants as content
use Rattle.bf_grammar.specs.declared.command.DataForm.{DataForm}
use Rattle.bf_grammar.specs.declared.command.DataForm.TheVariants.{Counted, Delimited}
use Rattle.bf_grammar.specs.declared.command.Head.{Head}
use Rattle.bf_grammar.specs.declared.command.Head.TheVariants as head
use Rattle.std.specs.Char.{is_ascii_digit}
use Rattle.std.specs.Option.{ok_or}

infixl 10 ◌>>=◌
-- the next step, where the first gave a value
abbrev pub ◌>>=◌ : {X Y E : Type 0} → Result X E → (X → Result Y E) → Result Y E
Ok x >>= next = next x
Err fault >>= next = Err fault

-- a value, or the refusal where the test fails
abbrev pub where_so : {X : Type 0} → Bool → StreamFault → X → Result X StreamFault
where_so test fault x = if test then Ok x else Err fault

abbrev pub is_space : ℕ → Bool
is_space byte = byte == 32

-- what follows the first word of a line and its SP
abbrev pub text_after : ℕ → List ℕ → List ℕ → Result (List ℕ) StreamFault
text_after line word text =
    where_so (starts_with ◌==◌ text (word ++ codes " ")) (Syntax line) (drop (length word + 1) text)

-- <ref> and <name>: bytes above 32 and other than 127, with none of ~ ^ : ? * [ \ and without ..
abbrev pub is_ref_byte : ℕ → Bool
is_ref_byte byte = nat_lt 32 byte && not (byte == 127) && not (byte == 92) && not (list_any (λ special. byte == special) (codes "~^:?*["))

abbrev pub has_two_dots : List ℕ → Bool
has_two_dots [] = false
has_two_dots (byte ∷ rest) = starts_with ◌==◌ (byte ∷ rest) (codes "..") || has_two_dots rest

abbrev pub is_ref : List ℕ → Bool
is_ref text = nat_lt 0 (length text) && list_all is_ref_byte text && not (has_two_dots text)

-- a number of a mark: 1 to 2^64 - 1
abbrev pub nonzero : Option ℕ → Option ℕ
nonzero None = None
nonzero (Some n) = if n == 0 then None else Some n

-- a mark as it is named: a colon and its number
abbrev pub colon_number : List ℕ → Option ℕ
colon_number [] = None
colon_number (byte ∷ digits) = if byte == 58 then nonzero (decimal_value digits) else None

-- `mark :<n>`
unfoldable pub mark_of : ℕ → List ℕ → Result ℕ StreamFault
mark_of line text = do
  body ← text_after line (codes "mark") text
  ok_or (colon_number body) (Syntax line)

-- <ident>: an optional name that ends with SP, <email>, SP and a time. Name and email have no < > NUL.
abbrev pub is_less : ℕ → Bool
is_less byte = byte == 60

abbrev pub is_greater : ℕ → Bool
is_greater byte = byte == 62

abbrev pub is_nul : ℕ → Bool
is_nul byte = byte == 0

abbrev pub name_in : List ℕ → List ℕ
name_in ident = before_first is_less ident

abbrev pub email_in : List ℕ → List ℕ
email_in ident = before_first is_greater (after_first is_less ident)

abbrev pub behind_email : List ℕ → List ℕ
behind_email ident = after_first is_greater (after_first is_less ident)

abbrev pub is_name : List ℕ → Bool
is_name name = (length name == 0 || ends_with ◌==◌ name (codes " ")) && not (list_any (λ byte. is_greater byte || is_nul byte) name)

abbrev pub is_email : List ℕ → Bool
is_email email = not (list_any (λ byte. is_less byte || is_nul byte) email)

abbrev pub has_name_and_email : List ℕ → Bool
has_name_and_email ident =
    list_any is_less ident && list_any is_greater (after_first is_less ident)
    && is_name (name_in ident) && is_email (email_in ident) && starts_with ◌==◌ (behind_email ident) (codes " ")

-- the time: 1 to 18 digits of seconds, SP, a sign, and four digits of value at most 1400
abbrev pub is_at_most : ℕ → Option ℕ → Bool
is_at_most limit None = false
is_at_most limit (Some n) = nat_le n limit

abbrev pub is_seconds : List ℕ → Bool
is_seconds text = nat_lt 0 (length text) && nat_le (length text) 18 && list_all is_ascii_digit text

abbrev pub is_zone : List ℕ → Bool
is_zone [] = false
is_zone (sign ∷ digits) = (sign == 43 || sign == 45) && (length digits == 4) && is_at_most 1400 (decimal_value digits)

abbrev pub is_time : List ℕ → Bool
is_time text = is_seconds (before_first is_space text) && list_any is_space text && is_zone (after_first is_space text)

unfoldable pub ident_of : ℕ → List ℕ → List ℕ → Result (List ℕ) StreamFault
ident_of line word text = do
  ident ← text_after line word text
  whole ← where_so (has_name_and_email ident) (Syntax line) ident
  where_so (is_time (drop 1 (behind_email whole))) (Unsupported line) whole

-- `encoding <text>`, which is not empty
unfoldable pub encoding_of : ℕ → List ℕ → Result (List ℕ) StreamFault
encoding_of line text = do
  encoding ← text_after line (codes "encoding") text
  where_so (nat_lt 0 (length encoding)) (Syntax line) encoding

-- `data <count>` or `data <<DELIM`
abbrev pub counted : Limits → ℕ → Option ℕ → Result DataForm StreamFault
counted limits line None = Err (Syntax line)
counted limits line (Some n) = where_so (nat_le n limits.part) (TooLarge Data) (Counted n)

unfoldable pub data_form : Limits → ℕ → List ℕ → Result DataForm StreamFault
data_form limits line text = do
  body ← text_after line (codes "data") text
  if starts_with ◌==◌ body (codes "<<") then where_so (nat_lt 2 (length body)) (Syntax line) Delimited
      else counted limits line (decimal_value body)

-- what follows `data <<`
abbrev pub delimiter_in : List ℕ → List ℕ
delimiter_in text = drop 7 text

-- `M <mode> <dataref> <path>`
abbrev pub is_one_of : List (List ℕ) → List ℕ → Bool
is_one_of words text = list_any (λ word. is_text word text) words

abbrev pub mode_of : ℕ → List ℕ → Result Mode StreamFault
mode_of line text =
    if is_one_of (codes "100644" ∷ codes "644" ∷ []) text then Ok Plain
    else if is_one_of (codes "100755" ∷ codes "755" ∷ []) text then Ok Exec
    else if is_text (codes "120000") text then Ok Link
    else if is_text (codes "160000") text then Ok Module
    else if is_one_of (codes "040000" ∷ codes "40000" ∷ []) text then Err (Unsupported line)
    else Err (Syntax line)

abbrev pub named_content : ℕ → Option Oid → Result ContentForm StreamFault
named_content line None = Err (Syntax line)
named_content line (Some name) = Ok (content.Name name)

abbrev pub marked_content : ℕ → List ℕ → Option ℕ → Result ContentForm StreamFault
marked_content line word (Some mark) = Ok (content.Mark mark)
marked_content line word None = named_content line (oid_of_hex word)

abbrev pub content_of : ℕ → List ℕ → Result ContentForm StreamFault
content_of line word = if is_text (codes "inline") word then Ok content.Inline else marked_content line word (colon_number word)

-- the words behind `M `: the mode, the dataref and the path, which is the rest
abbrev pub behind_mode : List ℕ → List ℕ
behind_mode body = after_first is_space body

unfoldable pub modify_form : ℕ → List ℕ → Result (Mode × ContentForm) StreamFault
modify_form line text = do
  body ← text_after line (codes "M") text
  mode ← mode_of line (before_first is_space body)
  rest ← where_so (list_any is_space body && list_any is_space (behind_mode body)) (Syntax line) (behind_mode body)
  content ← content_of line (before_first is_space rest)
  Ok (mode, content)

abbrev pub modified_path : List ℕ → List ℕ
modified_path text = after_first is_space (behind_mode (drop 2 text))

-- the first line of a command
abbrev pub unsupported_words : List (List ℕ)
unsupported_words =
    codes "C" ∷ codes "R" ∷ codes "N" ∷ codes "ls" ∷ codes "cat-blob" ∷ codes "get-mark" ∷ codes "alias"
    ∷ codes "checkpoint" ∷ codes "gpgsig" ∷ []

abbrev pub is_unsupported : List ℕ → Bool
is_unsupported text = list_any (λ word. has_word word text) unsupported_words

-- a word and a <ref>
abbrev pub named_head : ℕ → List ℕ → Head → List ℕ → Result Head StreamFault
named_head line word head text = do
  name ← text_after line word text
  where_so (is_ref name) (Syntax line) head

abbrev pub feature_of : ℕ → List ℕ → Result Head StreamFault
feature_of line feature =
    if is_text (codes "done") feature then Ok head.FeatureDone
    else where_so (is_text (codes "date-format=raw") feature) (Unsupported line) head.Feature

unfoldable pub head_of : ℕ → List ℕ → Result Head StreamFault
head_of line text =
    if is_text (codes "done") text then Ok head.Done
    else if is_text (codes "blob") text then Ok head.Blob
    else if has_word (codes "commit") text then named_head line (codes "commit") head.Commit text
    else if has_word (codes "tag") text then named_head line (codes "tag") head.Tag text
    else if has_word (codes "reset") text then named_head line (codes "reset") head.Reset text
    else if has_word (codes "progress") text then text_after line (codes "progress") text >>= (λ _. Ok head.Progress)
    else if has_word (codes "option") text then text_after line (codes "option") text >>= (λ _. Ok head.Feature)
    else if has_word (codes "feature") text then text_after line (codes "feature") text >>= feature_of line
    else if is_unsupported text then Err (Unsupported line)
    else Err (Syntax line)

-- what follows the word of a `commit`, `tag` or `reset`
abbrev pub name_after : List ℕ → List ℕ → List ℕ
name_after word text = drop (length word + 1) text
