-- No part of a command goes back, and a command takes at least a byte.
use Rattle.std.proofs.Common.{◌≡◌, ℕ, ◌<◌, ◌≤◌, Bool, true, false, cond, List, [], length, Option, Some, None, Result, Ok, Err}
use Rattle.std.specs.Prelude.{codes}
use Rattle.bf_grammar.specs.declared.command.Change.TheVariants.{Modify, Delete, DeleteAll}
use Rattle.bf_grammar.specs.declared.command.Command.{Command}
use Rattle.bf_grammar.specs.declared.command.Command.TheVariants.{Blob, Tag, Reset, Progress, Feature}
use Rattle.bf_grammar.specs.declared.command.Head.{Head}
use Rattle.bf_grammar.specs.declared.command.Head.TheVariants as head
use Rattle.bf_grammar.specs.declared.fault.Limits.{Limits}
use Rattle.bf_grammar.specs.declared.fault.StreamFault.{StreamFault}
use Rattle.bf_grammar.specs.declared.fault.StreamFault.TheVariants as faults
use Rattle.bf_grammar.specs.Place.{Place, Reading, pure, refuse, lifted, ◌>>=◌}
use Rattle.bf_grammar.specs.Lines.{front_line, is_text, take_line, at_command}
use Rattle.bf_grammar.specs.Forms.{where_so, mark_of, text_after, ident_of, encoding_of, modify_form, modified_path, head_of, name_after}
use Rattle.bf_grammar.specs.Commands.{line_as, optional, mark_at, original_oid_at, author_at, committer_at, encoding_at, no_signature_at, target_of, target_at}
use Rattle.bf_grammar.specs.Commands.{from_at, data_at, one_more, all_of, merges_at, dataref_at, modify_at, delete_at, delete_all_at, some, change_at}
use Rattle.bf_grammar.specs.Commands.{changes_at, blob_at, header_at, commit_at, tag_at, reset_at, done_is_due, command_of, end_of_input, headed_at, command_at}
use Rattle.bf_grammar.proofs.Repeating.{NeverBack, same_place, same_value, never_back-pure, never_back-lifted, never_back-then, never_back-if}
use Rattle.bf_grammar.proofs.Repeating.{never_back-repeat}
use Rattle.bf_grammar.proofs.Onward.{Read, same_rest, TakesThereIfSome, never_back-refuse, never_back-take_line, never_back-with_line, never_back-at_command}
use Rattle.bf_grammar.proofs.Onward.{takes-take_line, takes_there-then, never_back-line_as, never_back-some, never_back-where, never_back-optional}
use Rattle.bf_grammar.proofs.Onward.{never_back-required, never_back-line, never_back-data_at, never_back-dataref_at, takes_if_some-none}
use Rattle.bf_grammar.proofs.Onward.{takes_if_some-at_command}

pub never_back-mark_at : (limits : Limits) → NeverBack (mark_at limits)
unfolding mark_at
never_back-mark_at limits = never_back-optional limits (codes "mark") mark_of

pub never_back-original_oid_at : (limits : Limits) → NeverBack (original_oid_at limits)
unfolding original_oid_at
never_back-original_oid_at limits = never_back-then (optional limits (codes "original-oid") (λ line. text_after line (codes "original-oid"))) _
    (never_back-optional limits (codes "original-oid") (λ line. text_after line (codes "original-oid"))) (λ text. never_back-pure _)

pub never_back-author_at : (limits : Limits) (word : List ℕ) → NeverBack (author_at limits word)
unfolding author_at
never_back-author_at limits word = never_back-optional limits word (λ line. ident_of line word)

pub never_back-committer_at : (limits : Limits) → NeverBack (committer_at limits)
unfolding committer_at
never_back-committer_at limits = never_back-required limits (codes "committer") (line_as (λ line. ident_of line (codes "committer")))
    (never_back-line_as (λ line. ident_of line (codes "committer")))

pub never_back-encoding_at : (limits : Limits) → NeverBack (encoding_at limits)
unfolding encoding_at
never_back-encoding_at limits = never_back-optional limits (codes "encoding") encoding_of

pub never_back-no_signature_at : (limits : Limits) → NeverBack (no_signature_at limits)
unfolding no_signature_at
never_back-no_signature_at limits = never_back-where limits (codes "gpgsig") (refuse faults.Unsupported) (pure tt) (never_back-refuse faults.Unsupported)
    (never_back-pure tt)

pub never_back-target_at : (limits : Limits) (word : List ℕ) → NeverBack (target_at limits word)
unfolding target_at
never_back-target_at limits word = never_back-optional limits word (target_of word)

pub never_back-from_at : (limits : Limits) → NeverBack (from_at limits)
unfolding from_at
never_back-from_at limits = never_back-required limits (codes "from") (line_as (target_of (codes "from"))) (never_back-line_as (target_of (codes "from")))

-- lists of items
never_back-one_more : {X : Type 0} (items : List X) (found : Option X) → NeverBack (one_more items found)
never_back-one_more items (Some item) = never_back-pure _
never_back-one_more items None = never_back-pure _

pub never_back-all_of : {X : Type 0} (item : Reading (Option X)) → NeverBack item → NeverBack (all_of item)
never_back-all_of item back = never_back-repeat (λ items. item >>= one_more items)
    (λ items. never_back-then item (one_more items) back (never_back-one_more items)) []

pub never_back-merges_at : (limits : Limits) → NeverBack (merges_at limits)
unfolding merges_at
never_back-merges_at limits = never_back-all_of (target_at limits (codes "merge")) (never_back-target_at limits (codes "merge"))

pub never_back-modify_at : (limits : Limits) → NeverBack (modify_at limits)
unfolding modify_at
never_back-modify_at limits =
    never_back-line modify_form (λ line text form. dataref_at limits form.1 >>= (λ d. pure (Modify line form.0 d (modified_path text))))
    (λ line text form. never_back-then (dataref_at limits form.1) (λ d. pure (Modify line form.0 d (modified_path text))) (never_back-dataref_at limits form.1)
    (λ d. never_back-pure (Modify line form.0 d (modified_path text))))

pub never_back-delete_at : NeverBack delete_at
unfolding delete_at
never_back-delete_at = never_back-line (λ line text. text_after line (codes "D") text) (λ line text path. pure (Delete line path))
    (λ line text path. never_back-pure (Delete line path))

pub never_back-delete_all_at : NeverBack delete_all_at
unfolding delete_all_at
never_back-delete_all_at = never_back-line (λ line text. where_so {X = Unit {0}} (is_text (codes "deleteall") text) (faults.Syntax line) tt)
    (λ line text _. pure (DeleteAll line)) (λ line text _. never_back-pure (DeleteAll line))

pub never_back-change_at : (limits : Limits) → NeverBack (change_at limits)
unfolding change_at
never_back-change_at limits =
    never_back-where limits (codes "M") (some (modify_at limits)) _ (never_back-some (modify_at limits) (never_back-modify_at limits))
    (never_back-where limits (codes "D") (some delete_at) _ (never_back-some delete_at never_back-delete_at)
    (never_back-where limits (codes "deleteall") (some delete_all_at) (pure None) (never_back-some delete_all_at never_back-delete_all_at)
    (never_back-pure None)))

pub never_back-changes_at : (limits : Limits) → NeverBack (changes_at limits)
unfolding changes_at
never_back-changes_at limits = never_back-all_of (change_at limits) (never_back-change_at limits)

-- commands behind their first line
pub never_back-blob_at : (limits : Limits) (line : ℕ) → NeverBack (blob_at limits line)
unfolding blob_at
never_back-blob_at limits line =
    never_back-then (mark_at limits) _ (never_back-mark_at limits)
    (λ mark. never_back-then (original_oid_at limits) _ (never_back-original_oid_at limits)
    (λ _. never_back-then (data_at limits) _ (never_back-data_at limits) (λ content. never_back-pure (Blob line mark content))))

pub never_back-header_at : (limits : Limits) → NeverBack (header_at limits)
unfolding header_at
never_back-header_at limits =
    never_back-then (original_oid_at limits) _ (never_back-original_oid_at limits)
    (λ original. never_back-then (author_at limits (codes "author")) _ (never_back-author_at limits (codes "author"))
    (λ author. never_back-then (committer_at limits) _ (never_back-committer_at limits)
    (λ committer. never_back-then (encoding_at limits) _ (never_back-encoding_at limits)
    (λ encoding. never_back-then (no_signature_at limits) _ (never_back-no_signature_at limits)
    (λ _. never_back-then (data_at limits) _ (never_back-data_at limits)
    (λ message. never_back-pure _))))))

pub never_back-commit_at : (limits : Limits) (line : ℕ) (branch : List ℕ) → NeverBack (commit_at limits line branch)
unfolding commit_at
never_back-commit_at limits line branch =
    never_back-then (mark_at limits) _ (never_back-mark_at limits)
    (λ mark. never_back-then (header_at limits) _ (never_back-header_at limits)
    (λ header. never_back-then (target_at limits (codes "from")) _ (never_back-target_at limits (codes "from"))
    (λ from. never_back-then (merges_at limits) _ (never_back-merges_at limits)
    (λ merges. never_back-then (changes_at limits) _ (never_back-changes_at limits)
    (λ changes. never_back-pure _)))))

pub never_back-tag_at : (limits : Limits) (line : ℕ) (name : List ℕ) → NeverBack (tag_at limits line name)
unfolding tag_at
never_back-tag_at limits line name =
    never_back-then (mark_at limits) _ (never_back-mark_at limits)
    (λ mark. never_back-then (from_at limits) _ (never_back-from_at limits)
    (λ from. never_back-then (original_oid_at limits) _ (never_back-original_oid_at limits)
    (λ _. never_back-then (author_at limits (codes "tagger")) _ (never_back-author_at limits (codes "tagger"))
    (λ _. never_back-then (data_at limits) _ (never_back-data_at limits) (λ _. never_back-pure (Tag line name mark from))))))

pub never_back-reset_at : (limits : Limits) (line : ℕ) (branch : List ℕ) → NeverBack (reset_at limits line branch)
unfolding reset_at
never_back-reset_at limits line branch = never_back-then (target_at limits (codes "from")) (λ from. pure (Reset line branch from))
    (never_back-target_at limits (codes "from")) (λ from. never_back-pure (Reset line branch from))

pub never_back-done_is_due : NeverBack done_is_due
never_back-done_is_due x p q is = same_rest (record p { done_due = true }) q (same_place tt x (record p { done_due = true }) q is)

never_back-with_first : {X : Type 0} (read : Reading X) → NeverBack read → NeverBack (take_line >>= (λ _. some read))
never_back-with_first read back = never_back-then take_line (λ _. some read) never_back-take_line (λ _. never_back-some read back)

pub never_back-command_of : (limits : Limits) (line : ℕ) (text : List ℕ) (first : Head) → NeverBack (command_of limits line text first)
never_back-command_of limits line text head.Done = never_back-pure None
never_back-command_of limits line text head.Blob = never_back-with_first (blob_at limits line) (never_back-blob_at limits line)
never_back-command_of limits line text head.Commit = never_back-with_first (commit_at limits line (name_after (codes "commit") text))
    (never_back-commit_at limits line (name_after (codes "commit") text))
never_back-command_of limits line text head.Tag = never_back-with_first (tag_at limits line (name_after (codes "tag") text))
    (never_back-tag_at limits line (name_after (codes "tag") text))
never_back-command_of limits line text head.Reset = never_back-with_first (reset_at limits line (name_after (codes "reset") text))
    (never_back-reset_at limits line (name_after (codes "reset") text))
never_back-command_of limits line text head.Progress = never_back-then take_line (λ _. pure (Some (Progress line))) never_back-take_line
    (λ _. never_back-pure (Some (Progress line)))
never_back-command_of limits line text head.Feature = never_back-then take_line (λ _. pure (Some (Feature line))) never_back-take_line
    (λ _. never_back-pure (Some (Feature line)))
never_back-command_of limits line text head.FeatureDone =
    never_back-then take_line (λ _. done_is_due >>= (λ _. pure (Some (Feature line)))) never_back-take_line
    (λ _. never_back-then done_is_due (λ _. pure (Some (Feature line))) never_back-done_is_due (λ _. never_back-pure (Some (Feature line))))

pub never_back-headed_at : (limits : Limits) → NeverBack (headed_at limits)
unfolding headed_at
never_back-headed_at limits =
    never_back-with_line (λ line text. lifted (head_of line text) >>= command_of limits line text)
    (λ line text. never_back-then (lifted (head_of line text)) (command_of limits line text) (never_back-lifted (head_of line text))
    (never_back-command_of limits line text))

pub never_back-end_of_input : NeverBack end_of_input
never_back-end_of_input x p q is = go p.done_due is
  where
    go : (due : Bool) → cond {A = Read (Option Command)} due (Err (faults.NoDone p.line)) (Ok (None, p)) ≡ Ok (x, q) → length q.rest ≤ length p.rest
    go true is = absurd (cc)
    go false is = same_rest p q (same_place None x p q is)

pub never_back-command_at : (limits : Limits) → NeverBack (command_at limits)
unfolding command_at
never_back-command_at limits = never_back-then (at_command limits) _ (never_back-at_command limits)
    (λ there. never_back-if there (headed_at limits) end_of_input (never_back-headed_at limits) never_back-end_of_input)

-- a command whose first line is in front takes that line
takes_with_line : {X : Type 0} (next : Reading (Option X)) → NeverBack next → TakesThereIfSome (take_line >>= (λ _. next))
takes_with_line next back x = takes_there-then take_line (λ _. next) takes-take_line (λ _. back) (Some x)

takes_with_line-some : {X : Type 0} (read : Reading X) → NeverBack read → TakesThereIfSome (take_line >>= (λ _. some read))
takes_with_line-some read back = takes_with_line (some read) (never_back-some read back)

takes-command_of : (limits : Limits) (line : ℕ) (text : List ℕ) (first : Head) → TakesThereIfSome (command_of limits line text first)
takes-command_of limits line text head.Done = λ c p q there is. takes_if_some-none c p q is
takes-command_of limits line text head.Blob = takes_with_line-some (blob_at limits line) (never_back-blob_at limits line)
takes-command_of limits line text head.Commit = takes_with_line-some (commit_at limits line (name_after (codes "commit") text))
    (never_back-commit_at limits line (name_after (codes "commit") text))
takes-command_of limits line text head.Tag = takes_with_line-some (tag_at limits line (name_after (codes "tag") text))
    (never_back-tag_at limits line (name_after (codes "tag") text))
takes-command_of limits line text head.Reset = takes_with_line-some (reset_at limits line (name_after (codes "reset") text))
    (never_back-reset_at limits line (name_after (codes "reset") text))
takes-command_of limits line text head.Progress = takes_with_line (pure (Some (Progress line))) (never_back-pure (Some (Progress line)))
takes-command_of limits line text head.Feature = takes_with_line (pure (Some (Feature line))) (never_back-pure (Some (Feature line)))
takes-command_of limits line text head.FeatureDone =
    takes_with_line (done_is_due >>= (λ _. pure (Some (Feature line))))
    (never_back-then done_is_due (λ _. pure (Some (Feature line))) never_back-done_is_due (λ _. never_back-pure (Some (Feature line))))

takes_if_some-lifted : {X Y : Type 0} (result : Result X StreamFault) (next : X → Reading (Option Y)) → ((x : X) → TakesThereIfSome (next x))
    → TakesThereIfSome (lifted result >>= next)
takes_if_some-lifted (Ok x) next each y p q there is = each x y p q there is
takes_if_some-lifted (Err fault) next each y p q there is = absurd (cc)

takes-headed_at : (limits : Limits) → TakesThereIfSome (headed_at limits)
unfolding headed_at
takes-headed_at limits c p = takes_if_some-lifted (head_of p.line (front_line p.rest)) (command_of limits p.line (front_line p.rest))
    (takes-command_of limits p.line (front_line p.rest)) c p

-- no command is at the end
none_at_end : (due : Bool) (fault : StreamFault) (c : Command) (p q : Place) → cond {A = Read (Option Command)} due (Err fault) (Ok (None, p)) ≡ Ok (Some c, q)
    → length q.rest < length p.rest
none_at_end true fault c p q is = absurd (cc)
none_at_end false fault c p q is = absurd (let e = same_value {X = Option Command} None (Some c) p q is in cc)

-- a command takes at least a byte
pub command_takes : (limits : Limits) (c : Command) (p q : Place) → command_at limits p ≡ Ok (Some c, q) → length q.rest < length p.rest
unfolding command_at
command_takes limits = takes_if_some-at_command limits (headed_at limits) end_of_input (takes-headed_at limits) (λ c p q. none_at_end p.done_due _ c p q)
