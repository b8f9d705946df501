-- A tester that tests each commit in a folder with its files.
use Rattle.std.specs.Prelude.{ℕ, ◌+◌, ◌-◌, ◌^◌, min, List, All, Contains, Option}
use Rattle.bf_tester.specs.declared.answer.Answer.{Answer}
use Rattle.bf_tester.specs.declared.answer.Tested.{Tested}
use Rattle.bf_tester.specs.Tests.{test_of}
use Rattle.bf_history.specs.Contents.{Content, tree_of}

-- the tester below, its folder, the content that commits are tested in, and the place of the latest failed test
pub record Shop (T D : Type 0) : Type 0 where
  pub tester : T
  pub folder : D
  pub content : Content
  pub failed : Option ℕ

-- What the type keeps: the place of every answer was tested in a folder, with the tree that the content has there.
pub record AreTestedIn (content : Content) (tested : List Tested) (answers : List Answer) : Type 0 where
  pub each : All (λ answer. Contains tested (test_of answer.place (tree_of content answer.place))) answers

-- the faults of tester and folder together, up to the last value of 64 bits
abbrev pub faults_of : ℕ → ℕ → ℕ
faults_of tester folder = min (tester + folder) (2 ^ 64 - 1)

-- a workshop with another content
abbrev pub furnished : {T D : Type 0} → Shop T D → Content → Shop T D
furnished shop content = record shop { content = content }
