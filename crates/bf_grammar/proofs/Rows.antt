-- Worked streams, by computation: each is these commands, and ends so.
use Rattle.std.specs.Prelude.{ℕ, Option, List, [], ◌∷◌, ◌++◌, codes, Some, None, false, refl}
use Rattle.bf_grammar.specs.declared.command.Change.TheVariants.{Modify, Delete, DeleteAll}
use Rattle.bf_grammar.specs.declared.command.Command.{Command}
use Rattle.bf_grammar.specs.declared.command.Command.TheVariants.{Blob, Commit, Tag, Reset, Progress, Feature}
use Rattle.bf_grammar.specs.declared.command.DataRef.TheVariants.{Inline, Mark, Name}
use Rattle.bf_grammar.specs.declared.fault.Limit.TheVariants.{Line, Data, Stream}
use Rattle.bf_grammar.specs.declared.fault.Limits.{Limits}
use Rattle.bf_grammar.specs.declared.fault.StreamFault.TheVariants.{Syntax, Unsupported, Truncated, NoDone, TooLarge}
use Rattle.bf_oid.specs.declared.object.Mode.TheVariants.{Plain, Exec}
use Rattle.bf_grammar.specs.Limits.{standard_limits, with_original_names}
use Rattle.bf_grammar.specs.Lines.{next_front, at_word, must_be_at, at_command, skip_end_of_line, bytes_at, delimited_at}
use Rattle.bf_grammar.specs.Forms.{mark_of, ident_of, encoding_of, data_form, modify_form, head_of}
use Rattle.bf_grammar.specs.Commands.{mark_at, original_oid_at, author_at, committer_at, encoding_at, no_signature_at, target_at, from_at, data_at}
use Rattle.bf_grammar.specs.Commands.{announced_at, merges_at, modify_at, delete_at, delete_all_at, change_at, changes_at, blob_at, header_at, commit_at}
use Rattle.bf_grammar.specs.Commands.{tag_at, reset_at, headed_at, command_at}
use Rattle.bf_grammar.specs.Stream.{IsStream}
use Rattle.bf_io.specs.Decimal.{decimal_value}
use Rattle.hex.specs.Hex.{decode_pairs}

-- all that the rows compute with
grammar : Unit {0}
unfolding command_at headed_at at_command next_front at_word must_be_at head_of blob_at header_at commit_at tag_at reset_at mark_at mark_of original_oid_at
    author_at committer_at encoding_at encoding_of no_signature_at ident_of data_at announced_at data_form decimal_value bytes_at delimited_at skip_end_of_line
    target_at from_at merges_at changes_at change_at modify_at modify_form delete_at delete_all_at decode_pairs
grammar = tt

-- a blob, a comment and an empty line, and the end by `done`
short : IsStream (codes "blob\nmark :7\ndata 2\nhi\n# no\n\nprogress x\ndone\nrubbish") standard_limits (Blob 1 (Some 7) (codes "hi") ∷ Progress 7 ∷ []) None
unfolding grammar
short = (_, refl, (_, refl, (_, refl)))

nothing : IsStream [] standard_limits [] None
unfolding grammar
nothing = (_, refl)

-- a data part that is cut short
cut : IsStream (codes "commit refs/heads/main\ncommitter A <a@b> 0 +0000\ndata 10\nabc\n") standard_limits [] (Some (Truncated 3))
unfolding grammar
cut = refl

-- a commit with a file in it, and a feature that wants `done`
filed : IsStream (codes "feature done\ncommit refs/heads/x\ncommitter <> 1 -1400\ndata <<E\nm\nE\nM 644 inline a\ndata 1\nzD") standard_limits (Feature 1 ∷ [])
    (Some (Syntax 9))
unfolding grammar
filed = (_, refl, refl)

commit : IsStream (codes "commit refs/heads/x\ncommitter <> 1 -1400\ndata <<E\nm\nE\nM 644 inline a\ndata 1\nz") standard_limits (Commit (record {
  line = 1;
  branch = codes "refs/heads/x";
  mark = None;
  header = record { original = None; author = None; committer = codes "<> 1 -1400"; encoding = None; message = codes "m\n" };
  from = None;
  merges = [];
  changes = Modify 6 Plain (Inline (codes "z")) (codes "a") ∷ [];
}) ∷ []) None
unfolding grammar
commit = (_, refl, (_, refl))

-- a commit keeps the name that it had, whatever its text, where that is asked for alone
named : Option (List ℕ) → List Command
named original = Commit (record {
  line = 1;
  branch = codes "refs/heads/x";
  mark = None;
  header = record { original = original; author = None; committer = codes "<> 1 -1400"; encoding = None; message = codes "m" };
  from = None;
  merges = [];
  changes = [];
}) ∷ []

dropped_name : IsStream (codes "commit refs/heads/x\noriginal-oid abc\ncommitter <> 1 -1400\ndata 1\nm") standard_limits (named None) None
unfolding grammar named
dropped_name = (_, refl, (_, refl))

kept_name : IsStream (codes "commit refs/heads/x\noriginal-oid abc\ncommitter <> 1 -1400\ndata 1\nm")
    (with_original_names standard_limits) (named (Some (codes "abc"))) None
unfolding grammar named
kept_name = (_, refl, (_, refl))

-- a commit of an export without contents, with all its parts
exported_text : List ℕ
exported_text =
    codes "commit refs/heads/main\nmark :4\nauthor Bo <b@e> 1700000100 -0530\ncommitter Ann Lee <a@e> 1700000400 +0100\n"
    ++ codes "data 6\nmerge\nfrom :3\nmerge :2\nmerge refs/heads/x\n"
    ++ codes "M 100755 e69de29bb2d1d6434b8b29ae775ad8c2e48c5391 b c\nM 100644 :9 d\nD hello.txt\ndeleteall\n\n"

exported : IsStream exported_text standard_limits
    (Commit (record {
      line = 1;
      branch = codes "refs/heads/main";
      mark = Some 4;
      header = record {
        original = None;
        author = Some (codes "Bo <b@e> 1700000100 -0530");
        committer = codes "Ann Lee <a@e> 1700000400 +0100";
        encoding = None;
        message = codes
            "merge\n";
      };
      from = Some (record { line = 7; text = codes ":3" });
      merges = record { line = 8; text = codes ":2" } ∷ record { line = 9; text = codes "refs/heads/x" } ∷ [];
      changes = Modify 10 Exec (Name (record {
        0 = 230 ∷ 157 ∷ 226 ∷ 155 ∷ 178 ∷ 209 ∷ 214 ∷ 67 ∷ 75 ∷ 139 ∷ 41 ∷ 174 ∷ 119 ∷ 90 ∷ 216 ∷ 194 ∷ 228 ∷ 140 ∷ 83
            ∷ 145 ∷ [];
      })) (codes "b c") ∷ Modify 11 Plain (Mark 9) (codes "d") ∷ Delete 12 (codes "hello.txt") ∷ DeleteAll 13 ∷ [];
    }) ∷ []) None
unfolding grammar exported_text
exported = (_, refl, (_, refl))

-- Comments between parts are passed over. Inside data they are data.
comments : IsStream (codes "# a\nblob\n# b\nmark :1\n#\ndata <<E\n# c\nE\n# d") standard_limits (Blob 2 (Some 1) (codes "# c\n") ∷ []) None
unfolding grammar
comments = (_, refl, (_, refl))

-- one LF behind a data part belongs to it, a second one is an empty line, which ends the commit
two_ends : IsStream (codes "commit refs/heads/x\ncommitter <> 1 -1400\ndata 1\nm\n\nfrom :1\n") standard_limits (Commit (record {
  line = 1;
  branch = codes "refs/heads/x";
  mark = None;
  header = record { original = None; author = None; committer = codes "<> 1 -1400"; encoding = None; message = codes "m" };
  from = None;
  merges = [];
  changes = [];
}) ∷ []) (Some (Syntax 6))
unfolding grammar
two_ends = (_, refl, refl)

-- where a part must stand, an empty line is refused
empty_line : IsStream (codes "blob\n\ndata 0\n") standard_limits [] (Some (Syntax 2))
unfolding grammar
empty_line = refl

-- a second `from` ends the commit, and is no command
second_from : IsStream (codes "commit refs/heads/x\ncommitter <> 1 -1400\ndata 1\nm\nfrom :1\nfrom :2\n") standard_limits (Commit (record {
  line = 1;
  branch = codes "refs/heads/x";
  mark = None;
  header = record { original = None; author = None; committer = codes "<> 1 -1400"; encoding = None; message = codes "m" };
  from = Some (record { line = 5; text = codes ":1" });
  merges = [];
  changes = [];
}) ∷ []) (Some (Syntax 6))
unfolding grammar
second_from = (_, refl, refl)

-- a signature is refused behind the committer; before it, it stands where the committer must stand
signed : IsStream (codes "commit refs/heads/x\ncommitter <> 1 -1400\ngpgsig sha1 x\n") standard_limits [] (Some (Unsupported 3))
unfolding grammar
signed = refl

signed_early : IsStream (codes "commit refs/heads/x\ngpgsig sha1 x\n") standard_limits [] (Some (Syntax 2))
unfolding grammar
signed_early = refl

-- the last line may end without LF
no_end_of_line : IsStream (codes "blob\ndata 0") standard_limits (Blob 1 None [] ∷ []) None
unfolding grammar
no_end_of_line = (_, refl, (_, refl))

delimiter_without_end : IsStream (codes "blob\ndata <<E\nE") standard_limits (Blob 1 None [] ∷ []) None
unfolding grammar
delimiter_without_end = (_, refl, (_, refl))

open_delimiter : IsStream (codes "blob\ndata <<E\nx\n") standard_limits [] (Some (Truncated 2))
unfolding grammar
open_delimiter = refl

-- a tag names what it tags
tag_of_nothing : IsStream (codes "tag v1\noriginal-oid x\n") standard_limits [] (Some (Syntax 2))
unfolding grammar
tag_of_nothing = refl

-- a tag, whose tagger and message are dropped, and refs that are set
tag_and_reset : IsStream (codes "tag v1\nmark :5\nfrom :1\ntagger T <t@e> 0 +0000\ndata 2\nhi\nreset refs/heads/a\nfrom 00\nreset refs/heads/b\n")
    standard_limits (Tag 1 (codes "v1") (Some 5) (record { line = 3; text = codes ":1" }) ∷ Reset 7 (codes "refs/heads/a")
    (Some (record { line = 8; text = codes "00" })) ∷ Reset 9 (codes "refs/heads/b") None ∷ []) None
unfolding grammar
tag_and_reset = (_, refl, (_, refl, (_, refl, (_, refl))))

-- the mode of a folder is refused whatever follows it
folder : IsStream (codes "commit refs/heads/x\ncommitter <> 1 -1400\ndata 0\nM 040000 x\n") standard_limits [] (Some (Unsupported 4))
unfolding grammar
folder = refl

-- no mark is 0
mark_zero : IsStream (codes "blob\nmark :0\n") standard_limits [] (Some (Syntax 2))
unfolding grammar
mark_zero = refl

-- a zone of more than fourteen hours
zone : IsStream (codes "commit refs/heads/x\ncommitter <> 1 -1401\n") standard_limits [] (Some (Unsupported 2))
unfolding grammar
zone = refl

-- A line that is too long is refused, a comment too. Behind a whole command it stands for the next one, unless it
-- is a part of the command.
narrow : Limits
narrow = record { line = 8; part = 3; stream = 24; commits = 1; entries = 1; original_names = false }

long_comment : IsStream (codes "reset r\n#23456789\n") narrow [] (Some (TooLarge Line))
unfolding grammar narrow
long_comment = refl

long_part : IsStream (codes "reset r\nfrom :789\n") narrow [] (Some (TooLarge Line))
unfolding grammar narrow
long_part = refl

long_command : IsStream (codes "reset r\nprogress x\n") narrow (Reset 1 (codes "r") None ∷ []) (Some (TooLarge Line))
unfolding grammar narrow
long_command = (_, refl, refl)

-- a line and a data part that are as long as their limits
whole_line : IsStream (codes "reset rr\n") narrow (Reset 1 (codes "rr") None ∷ []) None
unfolding grammar narrow
whole_line = (_, refl, (_, refl))

whole_data : IsStream (codes "blob\ndata 3\nabc") narrow (Blob 1 None (codes "abc") ∷ []) None
unfolding grammar narrow
whole_data = (_, refl, (_, refl))

-- data that ends where the limit on the stream does, without a byte behind it and with one
at_the_limit : IsStream (codes "reset r\n\n\n\n\nblob\ndata 0\n") narrow (Reset 1 (codes "r") None ∷ Blob 6 None [] ∷ []) None
unfolding grammar narrow
at_the_limit = (_, refl, (_, refl, (_, refl)))

past_the_limit : IsStream (codes "reset r\n\n\n\n\nblob\ndata 0\n\n") narrow (Reset 1 (codes "r") None ∷ []) (Some (TooLarge Stream))
unfolding grammar narrow
past_the_limit = (_, refl, refl)

-- a count above the limit, and delimited data that passes it
too_large : IsStream (codes "blob\ndata 67108865\n") standard_limits [] (Some (TooLarge Data))
unfolding grammar
too_large = refl

delimited_too_large : IsStream (codes "blob\ndata <<E\nabc\nE\n") narrow [] (Some (TooLarge Data))
unfolding grammar narrow
delimited_too_large = refl

-- refusals in the first line
unsupported : IsStream (codes "checkpoint\n") standard_limits [] (Some (Unsupported 1))
unfolding grammar
unsupported = refl

no_done : IsStream (codes "feature done\n") standard_limits (Feature 1 ∷ []) (Some (NoDone 2))
unfolding grammar
no_done = (_, refl, refl)

open_email : IsStream (codes "commit refs/heads/x\ncommitter A <a@b 0 +0000\n") standard_limits [] (Some (Syntax 2))
unfolding grammar
open_email = refl

dotted_ref : IsStream (codes "reset refs/heads/a..b\n") standard_limits [] (Some (Syntax 1))
unfolding grammar
dotted_ref = refl

spaced_ref : IsStream (codes "commit refs/heads/a b\n") standard_limits [] (Some (Syntax 1))
unfolding grammar
spaced_ref = refl
