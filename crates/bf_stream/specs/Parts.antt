-- The parts of commands that are given more than the limits, which they take last.
use Rattle.std.specs.Prelude.{ℕ, List, Option}
use Rattle.bf_grammar.specs.declared.command.Command.{Command}
use Rattle.bf_grammar.specs.declared.command.ContentForm.{ContentForm}
use Rattle.bf_grammar.specs.declared.command.DataRef.{DataRef}
use Rattle.bf_grammar.specs.declared.command.Target.{Target}
use Rattle.bf_grammar.specs.declared.fault.Limits.{Limits}
use Rattle.bf_grammar.specs.Forms.{ident_of}
use Rattle.bf_grammar.specs.Place.{Reading}
use Rattle.bf_grammar.specs.Commands.{author_at, line_as, target_at, target_of, dataref_at, blob_at, commit_at, tag_at, reset_at}

-- who made something, behind this word
abbrev pub ident_behind : List ℕ → Limits → Reading (Option (List ℕ))
ident_behind word limits = author_at limits word

-- who made something, by the line in front, which has this word
abbrev pub ident_in : List ℕ → Limits → Reading (List ℕ)
ident_in word limits = line_as (λ line. ident_of line word)

-- a commit, behind this word
abbrev pub target_behind : List ℕ → Limits → Reading (Option Target)
target_behind word limits = target_at limits word

-- a commit, by the line in front, which has this word
abbrev pub target_in : List ℕ → Limits → Reading Target
target_in word limits = line_as (target_of word)

-- the content that a line `M` names so
abbrev pub content_named : ContentForm → Limits → Reading DataRef
content_named form limits = dataref_at limits form

-- what follows the first line of a command, which is this one
abbrev pub blob_from : ℕ → Limits → Reading Command
blob_from line limits = blob_at limits line

abbrev pub commit_from : ℕ → List ℕ → Limits → Reading Command
commit_from line branch limits = commit_at limits line branch

abbrev pub tag_from : ℕ → List ℕ → Limits → Reading Command
tag_from line name limits = tag_at limits line name

abbrev pub reset_from : ℕ → List ℕ → Limits → Reading Command
reset_from line branch limits = reset_at limits line branch
