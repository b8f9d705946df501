-- The replies to requests are the output to them.
use Rattle.std.proofs.Common.{◌≡◌, ◌⊎◌, inl, inr, ℕ, ◌≤◌, Bool, true, false, List, [], ◌∷◌, ◌++◌, length, All, Option, Some, Result, Err, refl, sym, ap, subst, ◌∙◌}
use Rattle.std.specs.List.{flat_map}
use Rattle.std.specs.Option.{IfSome}
use Rattle.std.proofs.lemmas.Bool.{le-ltb}
use Rattle.std.proofs.lemmas.List.Elements.{All-head, All-tail}
use Rattle.bf_answers.specs.Devices.{HasNotFailed, ShelfMet}
use Rattle.bf_history.specs.Meanings.{History}
use Rattle.bf_io.specs.declared.shelf.LoadFault.{LoadFault}
use Rattle.bf_io.specs.declared.shelf.LoadFault.TheVariants.{Failed}
use Rattle.bf_io.specs.declared.shelf.ShelfFile.{ShelfFile}
use Rattle.bf_serve.specs.Searches.{Searches, no_search}
use Rattle.bf_serve.specs.Serving.{file_in, served, turn, turn_text}
use Rattle.bf_serve.specs.Turns.{Turn}
use Rattle.bf_serve_run.specs.Laws.{IsShort, RepliesAreTheOutput}
use Rattle.bf_serve_run.specs.Serving.{AreServed, IsTurn, IsTurnIf, IsTurnOn}

-- of two cases the one that may be
first_of : {A B : Type 0} → (B → ⊥) → A ⊎ B → A
first_of never (inl a) = a
first_of never (inr b) = absurd (never b)

-- a turn on a line that is not too long, beside these files
turn_is : (history : History) (shelf : ShelfMet) (files : List ShelfFile) (searches : Searches) (line : List ℕ) (t : Turn) → shelf.files ≡ Some files
    → HasNotFailed shelf.faults → length line ≤ 65535 → IsTurn history shelf searches line t
    → t ≡ turn history (file_in files searches line) searches line
turn_is history shelf files searches line t told never short is =
    let on : IsTurnOn history shelf searches line t =
    subst (λ (b : Bool). IsTurnIf b history shelf searches line t) (le-ltb 65535 (length line) short) is in
    let given : (on.file ≡ file_in files searches line) ⊎ (on.file ≡ Err Failed) =
    subst (λ (fs : Option (List ShelfFile)). IfSome fs (λ all. (on.file ≡ file_in all searches line) ⊎ (on.file ≡ Err Failed))) told on.from.given in
    let file : on.file ≡ file_in files searches line = first_of (λ e. never (on.from.failed e)) given in
    on.is ∙ ap (λ (f : Result (List ℕ) LoadFault). turn history f searches line) file

replies_of : (history : History) (shelf : ShelfMet) (files : List ShelfFile) (searches : Searches) (lines : List (List ℕ)) (replies : List ℕ)
    → shelf.files ≡ Some files → HasNotFailed shelf.faults → All IsShort lines → AreServed history shelf searches lines replies
    → replies ≡ flat_map turn_text (served history files searches lines)
unfolding AreServed served
replies_of history shelf files searches [] replies told never short none = none
replies_of history shelf files searches (line ∷ lines) replies told never short (t, later, is, rest, e) =
    let one = turn_is history shelf files searches line t told never (All-head IsShort line lines short) is in
    let others : later ≡ flat_map turn_text (served history files t.searches lines) =
    replies_of history shelf files t.searches lines later told never (All-tail IsShort line lines short) rest in
    e ∙ ap (λ (l : List ℕ). turn_text t ++ l) others
    ∙ ap (λ (u : Turn). turn_text u ++ flat_map turn_text (served history files u.searches lines)) one

pub replies_are_the_output : RepliesAreTheOutput
replies_are_the_output history shelf files lines replies told never short served_so =
    replies_of history shelf files no_search lines replies told never short served_so
