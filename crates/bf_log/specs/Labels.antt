-- What the writer is given, as the definition of the texts has it.
use Rattle.std.specs.Prelude.{◌≡◌, length, map}
use Rattle.bf_oid.specs.declared.object.Oid.{Oid}
use Rattle.bf_terms.specs.Texts as texts
use Rattle.bf_log.specs.declared.label.Commits.{Commits}
use Rattle.bf_log.specs.declared.label.Sides.{Sides}

abbrev pub commits_of : Commits → texts.Commits
commits_of commits = record { names = map (λ (name : Oid). name.0) commits.names.now; subjects = commits.subjects.now }

abbrev pub sides_of : Sides → texts.Sides
sides_of sides = record { new = sides.new.now; old = sides.old.now }

-- there is a subject for each name
pub record AreCommits (commits : Commits) : Type 0 where
  pub same : length commits.subjects.now ≡ length commits.names.now
