use Rattle.std.proofs.Common.{◌≡◌, true, false, not, Option, Some, None, is_none, is_some, refl, sym, ◌∙◌, ap}
use Rattle.bf_history.specs.Meanings.{lacks_name, original_of}
use Rattle.bf_import.proofs.growth.Growth.lacks_name.Goals as goal

there : {X : Type 0} (found : Option X) → is_some found ≡ not (is_none found)
there (Some x) = refl
there None = refl

pub returns-then-not-keeps_original_names : goal.returns-then-not-keeps_original_names
unfolding lacks_name
returns-then-not-keeps_original_names c =
    let unasked : c.args.self.now.limits.original_names ≡ false = sym c.keeps_original_names.ensures.asked ∙ c.if-not-keeps_original_names.true in
    rw unasked refl

pub returns-in-Some : goal.returns-in-Some
unfolding lacks_name
returns-in-Some c =
    let asked : c.args.self.now.limits.original_names ≡ true = sym c.keeps_original_names.ensures.asked ∙ c.if-not-keeps_original_names.false in
    let own : original_of c.args.header.now ≡ Some c.in-Some.name = sym c.original_name.ensures ∙ c.in-Some.is in
    rw (asked, own) (c.is_some.ensures ∙ ap is_some c.place_named.ensures.value ∙ there _)

pub returns-in-None : goal.returns-in-None
unfolding lacks_name
returns-in-None c =
    let asked : c.args.self.now.limits.original_names ≡ true = sym c.keeps_original_names.ensures.asked ∙ c.if-not-keeps_original_names.false in
    let none : original_of c.args.header.now ≡ None = sym c.original_name.ensures ∙ c.in-None.is in
    rw (asked, none) refl
