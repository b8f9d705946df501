-- The first line of a command (git-fast-import(1)), as it is read.
use Rattle.std.specs.Prelude.{◌≡◌, ℕ, List, codes, Result, Ok, Err, MatchResult}
use Rattle.std.specs.Borrow.{Bor}
use Rattle.bf_grammar.specs.declared.command.Head.{Head}
use Rattle.bf_grammar.specs.declared.command.Head.TheVariants as head
use Rattle.bf_grammar.specs.declared.fault.StreamFault.{StreamFault}
use Rattle.bf_grammar.specs.Forms.{head_of, named_head, name_after, feature_of}
use Rattle.bf_forms.specs.declared.first_lines.FirstLine.{FirstLine}
use Rattle.bf_forms.specs.declared.first_lines.FirstLine.TheVariants as first

-- what a line begins, without its name
abbrev pub head_in : FirstLine → Head
head_in first.Done = head.Done
head_in first.Blob = head.Blob
head_in (first.Commit name) = head.Commit
head_in (first.Tag name) = head.Tag
head_in (first.Reset name) = head.Reset
head_in first.Progress = head.Progress
head_in first.Feature = head.Feature
head_in first.FeatureDone = head.FeatureDone

-- the ref or the name in a line, where it has one
abbrev pub NameIs : List ℕ → FirstLine → Type 0
NameIs text first.Done = Unit {0}
NameIs text first.Blob = Unit {0}
NameIs text (first.Commit name) = name.now ≡ name_after (codes "commit") text
NameIs text (first.Tag name) = name.now ≡ name_after (codes "tag") text
NameIs text (first.Reset name) = name.now ≡ name_after (codes "reset") text
NameIs text first.Progress = Unit {0}
NameIs text first.Feature = Unit {0}
NameIs text first.FeatureDone = Unit {0}

-- a line begins this command
abbrev pub Begins : ℕ → List ℕ → FirstLine → Type 0
Begins line text read = (head_of line text ≡ Ok (head_in read)) × NameIs text read

-- the first line of a command as it is read, or its refusal
abbrev pub IsFirstLine : ℕ → List ℕ → Result FirstLine StreamFault → Type 0
IsFirstLine line text result = MatchResult result (λ read. Begins line text read) (λ fault. head_of line text ≡ Err fault)

-- the ref or the name behind the word of a line, or its refusal
abbrev pub IsNameIn : ℕ → List ℕ → List ℕ → Result (Bor (List ℕ)) StreamFault → Type 0
IsNameIn line word text result =
    MatchResult result (λ name. ((begun : Head) → named_head line word begun text ≡ Ok begun) × (name.now ≡ name_after word text))
    (λ fault. (begun : Head) → named_head line word begun text ≡ Err fault)

-- a feature that is taken, or its refusal
abbrev pub IsFeature : ℕ → List ℕ → Result FirstLine StreamFault → Type 0
IsFeature line feature result =
    MatchResult result (λ read. (feature_of line feature ≡ Ok (head_in read)) × ((text : List ℕ) → NameIs text read))
    (λ fault. feature_of line feature ≡ Err fault)
