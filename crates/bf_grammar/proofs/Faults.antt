-- The refusals that stand in a stream are its own: no reading says that the source failed or that memory ran out.
use Rattle.std.proofs.Common.{◌≡◌, ◌≢◌, ℕ, suc, zero, ◌+◌, ◌<◌, Bool, true, false, cond, List, [], ◌∷◌, ◌++◌, length, take, Option, Some, None, Result, Ok, Err}
use Rattle.std.proofs.Common.{refl, subst, ◌⊎◌, inl, inr, arith}
use Rattle.std.specs.Prelude.{drop, if◌then◌else◌, nat_lt, nat_le, ◌==◌, ◌&&◌, ◌||◌, not, codes}
use Rattle.std.specs.List.{list_any, starts_with, before_first}
use Rattle.std.specs.Option.{ok_or}
use Rattle.bf_io.specs.Decimal.{decimal_value}
use Rattle.bf_oid.specs.Object.{oid_of_hex}
use Rattle.bf_grammar.specs.declared.command.Change.TheVariants.{Modify, Delete, DeleteAll}
use Rattle.bf_grammar.specs.declared.command.Command.TheVariants.{Reset}
use Rattle.bf_grammar.specs.declared.command.ContentForm.{ContentForm}
use Rattle.bf_grammar.specs.declared.command.ContentForm.TheVariants as content
use Rattle.bf_grammar.specs.declared.command.DataForm.{DataForm}
use Rattle.bf_grammar.specs.declared.command.DataForm.TheVariants.{Counted, Delimited}
use Rattle.bf_grammar.specs.declared.command.DataRef.TheVariants as dataref
use Rattle.bf_grammar.specs.declared.command.Head.{Head}
use Rattle.bf_grammar.specs.declared.command.Head.TheVariants as head
use Rattle.bf_grammar.specs.declared.fault.Limit.TheVariants.{Data}
use Rattle.bf_grammar.specs.declared.fault.Limits.{Limits}
use Rattle.bf_grammar.specs.declared.fault.StreamFault.{StreamFault}
use Rattle.bf_grammar.specs.declared.fault.StreamFault.TheVariants as faults
use Rattle.bf_oid.specs.declared.object.Mode.TheVariants.{Plain, Exec, Link, Module}
use Rattle.bf_oid.specs.declared.object.Oid.{Oid}
use Rattle.bf_grammar.specs.Place.{Place, is_end_of_line, Reading, and_then, pure, refuse, lifted, ◌>>=◌, goes_on, repeated, repeat}
use Rattle.bf_grammar.specs.Lines.{Front, Nothing, Whole, Long, front, front_line, is_text, has_word, has_end_of_line, take_line, past_passed_over}
use Rattle.bf_grammar.specs.Lines.{is_passed_over, next_front, is_at, at_word, missing, must_be_at, is_line, at_command, with_line, skip_end_of_line, bytes_at}
use Rattle.bf_grammar.specs.Lines.{delimited_line, delimited_at}
use Rattle.bf_grammar.specs.Forms as forms
use Rattle.bf_grammar.specs.Forms.{where_so, text_after, is_ref, colon_number, mark_of, has_name_and_email, is_time, behind_email, ident_of, encoding_of}
use Rattle.bf_grammar.specs.Forms.{counted, data_form, delimiter_in, is_one_of, mode_of, named_content, marked_content, content_of, behind_mode, modify_form}
use Rattle.bf_grammar.specs.Forms.{modified_path, is_unsupported, named_head, feature_of, head_of, name_after, is_space}
use Rattle.bf_grammar.specs.Commands.{line_as, optional, required, mark_at, original_oid_at, author_at, committer_at, encoding_at, no_signature_at, target_of}
use Rattle.bf_grammar.specs.Commands.{target_at, from_at, content_at, announced_at, data_at, one_more, all_of, merges_at, dataref_at, modify_at, delete_at}
use Rattle.bf_grammar.specs.Commands.{delete_all_at, some, change_at, changes_at, blob_at, header_at, commit_at, tag_at, reset_at, command_of, end_of_input}
use Rattle.bf_grammar.specs.Commands.{headed_at, command_at}
use Rattle.bf_grammar.proofs.Repeating.{TakesSome}
use Rattle.bf_grammar.proofs.Onward.{Read, pass_over, passed_over_takes, delimited_takes, merges_take, changes_take}

-- a fault that a stream itself has
abbrev pub IsOwn : StreamFault → Type 0
IsOwn faults.Read = ⊥
IsOwn faults.NoMemory = ⊥
IsOwn fault = Unit {0}

pub own_is_not : (fault : StreamFault) → IsOwn fault → (fault ≢ faults.Read) × (fault ≢ faults.NoMemory)
own_is_not (faults.Syntax line) own = (λ is. absurd (cc), λ is. absurd (cc))
own_is_not (faults.Unsupported line) own = (λ is. absurd (cc), λ is. absurd (cc))
own_is_not (faults.Truncated line) own = (λ is. absurd (cc), λ is. absurd (cc))
own_is_not (faults.NoDone line) own = (λ is. absurd (cc), λ is. absurd (cc))
own_is_not faults.Read own = absurd own
own_is_not (faults.TooLarge what) own = (λ is. absurd (cc), λ is. absurd (cc))
own_is_not faults.NoMemory own = absurd own

-- where a result is a refusal, it is one of the stream itself
abbrev pub RefusesOwn : {X : Type 0} → Result X StreamFault → Type 0
RefusesOwn (Ok x) = Unit {0}
RefusesOwn (Err fault) = IsOwn fault

own-cond : {X : Type 0} (test : Bool) (r s : Result X StreamFault) → RefusesOwn r → RefusesOwn s → RefusesOwn (cond test r s)
own-cond true r s first second = first
own-cond false r s first second = second

-- the forms of texts
own-where_so : {X : Type 0} (test : Bool) (fault : StreamFault) (x : X) → IsOwn fault → RefusesOwn (where_so test fault x)
own-where_so test fault x own = own-cond test (Ok x) (Err fault) tt own

own-ok_or : {X : Type 0} (found : Option X) (fault : StreamFault) → IsOwn fault → RefusesOwn (ok_or found fault)
own-ok_or (Some x) fault own = tt
own-ok_or None fault own = own

own-form_then : {X Y : Type 0} (r : Result X StreamFault) (next : X → Result Y StreamFault) → RefusesOwn r → ((x : X) → RefusesOwn (next x))
    → RefusesOwn (forms.◌>>=◌ r next)
own-form_then (Ok x) next first second = second x
own-form_then (Err fault) next first second = first

own-text_after : (line : ℕ) (word text : List ℕ) → RefusesOwn (text_after line word text)
own-text_after line word text = own-where_so (starts_with ◌==◌ text (word ++ codes " ")) (faults.Syntax line) _ tt

own-mark_of : (line : ℕ) (text : List ℕ) → RefusesOwn (mark_of line text)
unfolding mark_of
own-mark_of line text = own-form_then (text_after line (codes "mark") text) _ (own-text_after line (codes "mark") text)
    (λ body. own-ok_or (colon_number body) (faults.Syntax line) tt)

own-ident_of : (line : ℕ) (word text : List ℕ) → RefusesOwn (ident_of line word text)
unfolding ident_of
own-ident_of line word text =
    own-form_then (text_after line word text) _ (own-text_after line word text)
    (λ ident. own-form_then (where_so (has_name_and_email ident) (faults.Syntax line) ident) _
    (own-where_so (has_name_and_email ident) (faults.Syntax line) ident tt)
    (λ whole. own-where_so (is_time (drop 1 (behind_email whole))) (faults.Unsupported line) whole tt))

own-encoding_of : (line : ℕ) (text : List ℕ) → RefusesOwn (encoding_of line text)
unfolding encoding_of
own-encoding_of line text = own-form_then (text_after line (codes "encoding") text) _ (own-text_after line (codes "encoding") text)
    (λ encoding. own-where_so (nat_lt 0 (length encoding)) (faults.Syntax line) encoding tt)

own-counted : (limits : Limits) (line : ℕ) (n : Option ℕ) → RefusesOwn (counted limits line n)
own-counted limits line None = tt
own-counted limits line (Some n) = own-where_so (nat_le n limits.part) (faults.TooLarge Data) (Counted n) tt

own-data_form : (limits : Limits) (line : ℕ) (text : List ℕ) → RefusesOwn (data_form limits line text)
unfolding data_form
own-data_form limits line text =
    own-form_then (text_after line (codes "data") text) _ (own-text_after line (codes "data") text)
    (λ body. own-cond (starts_with ◌==◌ body (codes "<<")) _ _ (own-where_so (nat_lt 2 (length body)) (faults.Syntax line) Delimited tt)
    (own-counted limits line (decimal_value body)))

own-mode_of : (line : ℕ) (text : List ℕ) → RefusesOwn (mode_of line text)
own-mode_of line text =
    own-cond (is_one_of (codes "100644" ∷ codes "644" ∷ []) text) (Ok Plain) _ tt
    (own-cond (is_one_of (codes "100755" ∷ codes "755" ∷ []) text) (Ok Exec) _ tt
    (own-cond (is_text (codes "120000") text) (Ok Link) _ tt
    (own-cond (is_text (codes "160000") text) (Ok Module) _ tt
    (own-cond (is_one_of (codes "040000" ∷ codes "40000" ∷ []) text) (Err (faults.Unsupported line)) (Err (faults.Syntax line)) tt tt))))

own-named_content : (line : ℕ) (name : Option Oid) → RefusesOwn (named_content line name)
own-named_content line None = tt
own-named_content line (Some name) = tt

own-marked_content : (line : ℕ) (word : List ℕ) (mark : Option ℕ) → RefusesOwn (marked_content line word mark)
own-marked_content line word (Some mark) = tt
own-marked_content line word None = own-named_content line (oid_of_hex word)

own-content_of : (line : ℕ) (word : List ℕ) → RefusesOwn (content_of line word)
own-content_of line word = own-cond (is_text (codes "inline") word) (Ok content.Inline) _ tt (own-marked_content line word (colon_number word))

own-modify_form : (line : ℕ) (text : List ℕ) → RefusesOwn (modify_form line text)
unfolding modify_form
own-modify_form line text =
    own-form_then (text_after line (codes "M") text) _ (own-text_after line (codes "M") text)
    (λ body. own-form_then (mode_of line (before_first is_space body)) _ (own-mode_of line (before_first is_space body))
    (λ mode. own-form_then (where_so (list_any is_space body && list_any is_space (behind_mode body)) (faults.Syntax line) (behind_mode body)) _
    (own-where_so (list_any is_space body && list_any is_space (behind_mode body)) (faults.Syntax line) (behind_mode body) tt)
    (λ rest. own-form_then (content_of line (before_first is_space rest)) _ (own-content_of line (before_first is_space rest)) (λ content. tt))))

own-named_head : (line : ℕ) (word : List ℕ) (first : Head) (text : List ℕ) → RefusesOwn (named_head line word first text)
own-named_head line word first text = own-form_then (text_after line word text) _ (own-text_after line word text)
    (λ name. own-where_so (is_ref name) (faults.Syntax line) first tt)

own-feature_of : (line : ℕ) (feature : List ℕ) → RefusesOwn (feature_of line feature)
own-feature_of line feature = own-cond (is_text (codes "done") feature) (Ok head.FeatureDone) _ tt
    (own-where_so (is_text (codes "date-format=raw") feature) (faults.Unsupported line) head.Feature tt)

own-head_of : (line : ℕ) (text : List ℕ) → RefusesOwn (head_of line text)
unfolding head_of
own-head_of line text =
    own-cond (is_text (codes "done") text) (Ok head.Done) _ tt
    (own-cond (is_text (codes "blob") text) (Ok head.Blob) _ tt
    (own-cond (has_word (codes "commit") text) _ _ (own-named_head line (codes "commit") head.Commit text)
    (own-cond (has_word (codes "tag") text) _ _ (own-named_head line (codes "tag") head.Tag text)
    (own-cond (has_word (codes "reset") text) _ _ (own-named_head line (codes "reset") head.Reset text)
    (own-cond (has_word (codes "progress") text) _ _
    (own-form_then (text_after line (codes "progress") text) _ (own-text_after line (codes "progress") text) (λ _. tt))
    (own-cond (has_word (codes "option") text) _ _
    (own-form_then (text_after line (codes "option") text) _ (own-text_after line (codes "option") text) (λ _. tt))
    (own-cond (has_word (codes "feature") text) _ _
    (own-form_then (text_after line (codes "feature") text) _ (own-text_after line (codes "feature") text) (own-feature_of line))
    (own-cond (is_unsupported text) (Err (faults.Unsupported line)) (Err (faults.Syntax line)) tt tt))))))))

own-target_of : (word : List ℕ) (line : ℕ) (text : List ℕ) → RefusesOwn (target_of word line text)
own-target_of word line text = go (starts_with ◌==◌ text (word ++ codes " ")) refl
  where
    go : (test : Bool) → starts_with ◌==◌ text (word ++ codes " ") ≡ test → RefusesOwn (target_of word line text)
    go true is = rw is tt
    go false is = rw is tt

-- readings, and what they are composed of
abbrev pub Own : {X : Type 0} → Reading X → Type 0
Own read = (p : Place) → RefusesOwn (read p)

own-lifted : {X : Type 0} (result : Result X StreamFault) → RefusesOwn result → Own (lifted result)
own-lifted (Ok x) own p = tt
own-lifted (Err fault) own p = own

own-then : {X Y : Type 0} (read : Reading X) (next : X → Reading Y) → Own read → ((x : X) → Own (next x)) → Own (read >>= next)
own-then {X} {Y} read next first second p = go (read p) (first p)
  where
    go : (r : Read X) → RefusesOwn r → RefusesOwn (and_then r next)
    go (Ok (x, q)) own = second x q
    go (Err fault) own = own

own-if : {X : Type 0} (test : Bool) (read other : Reading X) → Own read → Own other → Own (cond test read other)
own-if true read other first second = first
own-if false read other first second = second

own-with_line : {X : Type 0} (read : ℕ → List ℕ → Reading X) → ((line : ℕ) (text : List ℕ) → Own (read line text)) → Own (with_line read)
own-with_line read each p = each p.line (front_line p.rest) p

own-take_line : Own take_line
own-take_line p = tt

own-line : {X Y : Type 0} (form : ℕ → List ℕ → Result X StreamFault) (next : ℕ → List ℕ → X → Reading Y)
    → ((line : ℕ) (text : List ℕ) → RefusesOwn (form line text)) → ((line : ℕ) (text : List ℕ) (x : X) → Own (next line text x))
    → Own (with_line (λ line text. lifted (form line text) >>= (λ x. take_line >>= (λ _. next line text x))))
own-line form next forms each =
    own-with_line (λ line text. lifted (form line text) >>= (λ x. take_line >>= (λ _. next line text x)))
    (λ line text. own-then (lifted (form line text)) (λ x. take_line >>= (λ _. next line text x)) (own-lifted (form line text) (forms line text))
    (λ x. own-then take_line (λ _. next line text x) own-take_line (λ _. each line text x)))

-- a repetition whose steps take bytes never runs out of turns
module _ {A X : Type 0} (step : A → Reading (A ⊎ X)) (takes : TakesSome step) (each : (a : A) → Own (step a)) where
  own-repeated : (n : ℕ) (a : A) (p : Place) → length p.rest < n → RefusesOwn (repeated faults.Read step n a p)
  own-repeated zero a p few = absurd (omega arith)
  own-repeated (suc n) a p few = go (own-repeated n) (step a p) refl (each a p)
    where
      go : ((b : A) (q : Place) → length q.rest < n → RefusesOwn (repeated faults.Read step n b q)) → (r : Read (A ⊎ X)) → step a p ≡ r → RefusesOwn r
          → RefusesOwn (goes_on (repeated faults.Read step n) r)
      go again (Ok (inl b, q)) is own = again b q (let h : length q.rest < length p.rest = takes a b p q is in omega arith)
      go again (Ok (inr x, q)) is own = tt
      go again (Err fault) is own = own

  own-repeat : (a : A) → Own (repeat step a)
  own-repeat a p = own-repeated (suc (length p.rest)) a p (omega arith)

-- the front
own-front : (limits : Limits) → Own (front limits)
own-front limits p =
    own-cond (nat_lt limits.line (length (front_line p.rest))) _ _ tt
    (own-cond (has_end_of_line p.rest) _ _ tt (own-cond p.more _ _ tt (own-cond (length p.rest == 0) _ _ tt tt)))

own-past_passed_over : (empty_too : Bool) (limits : Limits) (f : Front) → Own (past_passed_over empty_too limits f)
own-past_passed_over empty_too limits Nothing p = tt
own-past_passed_over empty_too limits (Whole text) p = own-cond (is_passed_over empty_too text) _ _ tt tt
own-past_passed_over empty_too limits (Long text) p = own-cond (is_passed_over false text) _ _ tt tt

own-next_front : (empty_too : Bool) (limits : Limits) → Own (next_front empty_too limits)
unfolding next_front
own-next_front empty_too limits = own-repeat (pass_over empty_too limits) (passed_over_takes empty_too limits)
    (λ _. own-then (front limits) (past_passed_over empty_too limits) (own-front limits) (own-past_passed_over empty_too limits)) tt

own-is_at : (word : List ℕ) (f : Front) → Own (is_at word f)
own-is_at word Nothing p = tt
own-is_at word (Whole text) p = tt
own-is_at word (Long text) p = own-cond (has_word word text) _ _ tt tt

own-at_word : (limits : Limits) (word : List ℕ) → Own (at_word limits word)
unfolding at_word
own-at_word limits word = own-then (next_front false limits) (is_at word) (own-next_front false limits) (own-is_at word)

own-is_line : (f : Front) → Own (is_line f)
own-is_line Nothing = λ p. tt
own-is_line (Whole text) = λ p. tt
own-is_line (Long text) = λ p. tt

own-at_command : (limits : Limits) → Own (at_command limits)
unfolding at_command
own-at_command limits = own-then (next_front true limits) is_line (own-next_front true limits) own-is_line

own-missing : (X : Type 0) (f : Front) → Own (missing {X = X} f)
own-missing X Nothing = λ p. tt
own-missing X (Whole text) = λ p. tt
own-missing X (Long text) = λ p. tt

own-where : {X : Type 0} (limits : Limits) (word : List ℕ) (read other : Reading X) → Own read → Own other
    → Own (at_word limits word >>= (λ there. if there then read else other))
own-where limits word read other first second = own-then (at_word limits word) (λ there. if there then read else other) (own-at_word limits word)
    (λ there. own-if there read other first second)

own-must_be_at : (limits : Limits) (word : List ℕ) → Own (must_be_at limits word)
unfolding must_be_at
own-must_be_at limits word = own-where limits word (pure tt) (next_front false limits >>= missing) (λ p. tt)
    (own-then (next_front false limits) missing (own-next_front false limits) (own-missing (Unit {0})))

-- data parts
own-bytes_at : (line n : ℕ) → Own (bytes_at line n)
unfolding bytes_at
own-bytes_at line n p = own-cond (nat_le n (length p.rest)) _ _ tt (own-cond p.more _ _ tt tt)

own-skip_end_of_line : Own skip_end_of_line
unfolding skip_end_of_line
own-skip_end_of_line p = go p.line p.rest p.more p.done_due
  where
    go : (line : ℕ) (rest : List ℕ) (more done_due : Bool)
        → RefusesOwn (skip_end_of_line (record { line = line; rest = rest; more = more; done_due = done_due }))
    go line [] more done_due = own-cond more _ _ tt tt
    go line (byte ∷ rest) more done_due = own-cond (is_end_of_line byte) _ _ tt tt

own-delimited_line : (limits : Limits) (line : ℕ) (delimiter content : List ℕ) → Own (delimited_line limits line delimiter content)
own-delimited_line limits line delimiter content p =
    own-cond (is_text delimiter (front_line p.rest) && (has_end_of_line p.rest || not p.more)) _ _ tt
    (own-cond (nat_lt limits.part (length content + length (take (length (front_line p.rest) + 1) p.rest))) _ _ tt
    (own-cond (has_end_of_line p.rest) _ _ tt (own-cond p.more _ _ tt tt)))

own-delimited_at : (limits : Limits) (line : ℕ) (delimiter : List ℕ) → Own (delimited_at limits line delimiter)
unfolding delimited_at
own-delimited_at limits line delimiter = own-repeat (delimited_line limits line delimiter) (delimited_takes limits line delimiter)
    (own-delimited_line limits line delimiter) []

own-content_at : (limits : Limits) (line : ℕ) (text : List ℕ) (form : DataForm) → Own (content_at limits line text form)
own-content_at limits line text (Counted n) = own-bytes_at line n
own-content_at limits line text Delimited = own-delimited_at limits line (delimiter_in text)

own-announced_at : (limits : Limits) → Own (announced_at limits)
unfolding announced_at
own-announced_at limits = own-line (data_form limits) (content_at limits) (own-data_form limits) (own-content_at limits)

own-data_at : (limits : Limits) → Own (data_at limits)
unfolding data_at
own-data_at limits =
    own-then (must_be_at limits (codes "data")) _ (own-must_be_at limits (codes "data"))
    (λ _. own-then (announced_at limits) _ (own-announced_at limits)
    (λ bytes. own-then skip_end_of_line (λ _. pure bytes) own-skip_end_of_line (λ _ p. tt)))

-- parts of one line
own-line_as : {X : Type 0} (form : ℕ → List ℕ → Result X StreamFault) → ((line : ℕ) (text : List ℕ) → RefusesOwn (form line text)) → Own (line_as form)
own-line_as form forms = own-line form (λ line text x. pure x) forms (λ line text x p. tt)

own-some : {X : Type 0} (read : Reading X) → Own read → Own (some read)
own-some read own = own-then read (λ x. pure (Some x)) own (λ x p. tt)

own-optional : {X : Type 0} (limits : Limits) (word : List ℕ) (form : ℕ → List ℕ → Result X StreamFault)
    → ((line : ℕ) (text : List ℕ) → RefusesOwn (form line text)) → Own (optional limits word form)
own-optional limits word form forms = own-where limits word (some (line_as form)) (pure None) (own-some (line_as form) (own-line_as form forms)) (λ p. tt)

own-required : {X : Type 0} (limits : Limits) (word : List ℕ) (part : Reading X) → Own part → Own (required limits word part)
own-required limits word part own = own-then (must_be_at limits word) (λ _. part) (own-must_be_at limits word) (λ _. own)

own-mark_at : (limits : Limits) → Own (mark_at limits)
unfolding mark_at
own-mark_at limits = own-optional limits (codes "mark") mark_of own-mark_of

own-original_oid_at : (limits : Limits) → Own (original_oid_at limits)
unfolding original_oid_at
own-original_oid_at limits =
    own-then (optional limits (codes "original-oid") (λ line. text_after line (codes "original-oid"))) _
    (own-optional limits (codes "original-oid") (λ line. text_after line (codes "original-oid")) (λ line. own-text_after line (codes "original-oid")))
    (λ text p. tt)

own-author_at : (limits : Limits) (word : List ℕ) → Own (author_at limits word)
unfolding author_at
own-author_at limits word = own-optional limits word (λ line. ident_of line word) (λ line. own-ident_of line word)

own-committer_at : (limits : Limits) → Own (committer_at limits)
unfolding committer_at
own-committer_at limits =
    own-required limits (codes "committer") (line_as (λ line. ident_of line (codes "committer")))
    (own-line_as (λ line. ident_of line (codes "committer")) (λ line. own-ident_of line (codes "committer")))

own-encoding_at : (limits : Limits) → Own (encoding_at limits)
unfolding encoding_at
own-encoding_at limits = own-optional limits (codes "encoding") encoding_of own-encoding_of

own-no_signature_at : (limits : Limits) → Own (no_signature_at limits)
unfolding no_signature_at
own-no_signature_at limits = own-where limits (codes "gpgsig") (refuse faults.Unsupported) (pure tt) (λ p. tt) (λ p. tt)

own-target_at : (limits : Limits) (word : List ℕ) → Own (target_at limits word)
unfolding target_at
own-target_at limits word = own-optional limits word (target_of word) (own-target_of word)

own-from_at : (limits : Limits) → Own (from_at limits)
unfolding from_at
own-from_at limits = own-required limits (codes "from") (line_as (target_of (codes "from")))
    (own-line_as (target_of (codes "from")) (own-target_of (codes "from")))

-- lists of items
own-one_more : {X : Type 0} (items : List X) (found : Option X) → Own (one_more items found)
own-one_more items (Some item) = λ p. tt
own-one_more items None = λ p. tt

own-all_of : {X : Type 0} (item : Reading (Option X)) → TakesSome (λ items. item >>= one_more items) → Own item → Own (all_of item)
own-all_of item takes own = own-repeat (λ items. item >>= one_more items) takes (λ items. own-then item (one_more items) own (own-one_more items)) []

own-merges_at : (limits : Limits) → Own (merges_at limits)
unfolding merges_at
own-merges_at limits = own-all_of (target_at limits (codes "merge")) (merges_take limits) (own-target_at limits (codes "merge"))

own-dataref_at : (limits : Limits) (form : ContentForm) → Own (dataref_at limits form)
own-dataref_at limits (content.Mark mark) = λ p. tt
own-dataref_at limits (content.Name name) = λ p. tt
own-dataref_at limits content.Inline = own-then (data_at limits) (λ bytes. pure (dataref.Inline bytes)) (own-data_at limits) (λ bytes p. tt)

own-modify_at : (limits : Limits) → Own (modify_at limits)
unfolding modify_at
own-modify_at limits =
    own-line modify_form (λ line text form. dataref_at limits form.1 >>= (λ d. pure (Modify line form.0 d (modified_path text)))) own-modify_form
    (λ line text form. own-then (dataref_at limits form.1) (λ d. pure (Modify line form.0 d (modified_path text))) (own-dataref_at limits form.1) (λ d p. tt))

own-delete_at : Own delete_at
unfolding delete_at
own-delete_at = own-line (λ line text. text_after line (codes "D") text) (λ line text path. pure (Delete line path))
    (λ line text. own-text_after line (codes "D") text) (λ line text path p. tt)

own-delete_all_at : Own delete_all_at
unfolding delete_all_at
own-delete_all_at =
    own-line (λ line text. where_so {X = Unit {0}} (is_text (codes "deleteall") text) (faults.Syntax line) tt) (λ line text _. pure (DeleteAll line))
    (λ line text. own-where_so {X = Unit {0}} (is_text (codes "deleteall") text) (faults.Syntax line) tt tt) (λ line text _ p. tt)

own-change_at : (limits : Limits) → Own (change_at limits)
unfolding change_at
own-change_at limits =
    own-where limits (codes "M") (some (modify_at limits)) _ (own-some (modify_at limits) (own-modify_at limits))
    (own-where limits (codes "D") (some delete_at) _ (own-some delete_at own-delete_at)
    (own-where limits (codes "deleteall") (some delete_all_at) (pure None) (own-some delete_all_at own-delete_all_at) (λ p. tt)))

own-changes_at : (limits : Limits) → Own (changes_at limits)
unfolding changes_at
own-changes_at limits = own-all_of (change_at limits) (changes_take limits) (own-change_at limits)

-- commands
own-blob_at : (limits : Limits) (line : ℕ) → Own (blob_at limits line)
unfolding blob_at
own-blob_at limits line =
    own-then (mark_at limits) _ (own-mark_at limits)
    (λ mark. own-then (original_oid_at limits) _ (own-original_oid_at limits)
    (λ _. own-then (data_at limits) _ (own-data_at limits) (λ content p. tt)))

own-header_at : (limits : Limits) → Own (header_at limits)
unfolding header_at
own-header_at limits =
    own-then (original_oid_at limits) _ (own-original_oid_at limits)
    (λ original. own-then (author_at limits (codes "author")) _ (own-author_at limits (codes "author"))
    (λ author. own-then (committer_at limits) _ (own-committer_at limits)
    (λ committer. own-then (encoding_at limits) _ (own-encoding_at limits)
    (λ encoding. own-then (no_signature_at limits) _ (own-no_signature_at limits)
    (λ _. own-then (data_at limits) _ (own-data_at limits)
    (λ message p. tt))))))

own-commit_at : (limits : Limits) (line : ℕ) (branch : List ℕ) → Own (commit_at limits line branch)
unfolding commit_at
own-commit_at limits line branch =
    own-then (mark_at limits) _ (own-mark_at limits)
    (λ mark. own-then (header_at limits) _ (own-header_at limits)
    (λ header. own-then (target_at limits (codes "from")) _ (own-target_at limits (codes "from"))
    (λ from. own-then (merges_at limits) _ (own-merges_at limits)
    (λ merges. own-then (changes_at limits) _ (own-changes_at limits)
    (λ changes p. tt)))))

own-tag_at : (limits : Limits) (line : ℕ) (name : List ℕ) → Own (tag_at limits line name)
unfolding tag_at
own-tag_at limits line name =
    own-then (mark_at limits) _ (own-mark_at limits)
    (λ mark. own-then (from_at limits) _ (own-from_at limits)
    (λ from. own-then (original_oid_at limits) _ (own-original_oid_at limits)
    (λ _. own-then (author_at limits (codes "tagger")) _ (own-author_at limits (codes "tagger"))
    (λ _. own-then (data_at limits) _ (own-data_at limits) (λ _ p. tt)))))

own-reset_at : (limits : Limits) (line : ℕ) (branch : List ℕ) → Own (reset_at limits line branch)
unfolding reset_at
own-reset_at limits line branch = own-then (target_at limits (codes "from")) (λ from. pure (Reset line branch from)) (own-target_at limits (codes "from"))
    (λ from p. tt)

own-with_first : {X : Type 0} (read : Reading X) → Own read → Own (take_line >>= (λ _. some read))
own-with_first read own = own-then take_line (λ _. some read) own-take_line (λ _. own-some read own)

own-command_of : (limits : Limits) (line : ℕ) (text : List ℕ) (first : Head) → Own (command_of limits line text first)
own-command_of limits line text head.Done = λ p. tt
own-command_of limits line text head.Blob = own-with_first (blob_at limits line) (own-blob_at limits line)
own-command_of limits line text head.Commit = own-with_first (commit_at limits line (name_after (codes "commit") text))
    (own-commit_at limits line (name_after (codes "commit") text))
own-command_of limits line text head.Tag = own-with_first (tag_at limits line (name_after (codes "tag") text))
    (own-tag_at limits line (name_after (codes "tag") text))
own-command_of limits line text head.Reset = own-with_first (reset_at limits line (name_after (codes "reset") text))
    (own-reset_at limits line (name_after (codes "reset") text))
own-command_of limits line text head.Progress = λ p. tt
own-command_of limits line text head.Feature = λ p. tt
own-command_of limits line text head.FeatureDone = λ p. tt

own-headed_at : (limits : Limits) → Own (headed_at limits)
unfolding headed_at
own-headed_at limits =
    own-with_line (λ line text. lifted (head_of line text) >>= command_of limits line text)
    (λ line text. own-then (lifted (head_of line text)) (command_of limits line text) (own-lifted (head_of line text) (own-head_of line text))
    (own-command_of limits line text))

own-command_at : (limits : Limits) → Own (command_at limits)
unfolding command_at
own-command_at limits = own-then (at_command limits) _ (own-at_command limits)
    (λ there. own-if there (headed_at limits) end_of_input (own-headed_at limits) (λ p. own-cond p.done_due _ _ tt tt))

-- where a command is refused, the refusal is one of the stream itself
pub no_such_fault : (limits : Limits) (p : Place) (fault : StreamFault) → command_at limits p ≡ Err fault → (fault ≢ faults.Read) × (fault ≢ faults.NoMemory)
no_such_fault limits p fault is = own_is_not fault (subst RefusesOwn is (own-command_at limits p))
