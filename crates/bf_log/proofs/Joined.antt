-- Texts that are added one after another.
use Rattle.std.proofs.Common.{◌≡◌, ℕ, List, ◌++◌, Result, ◌∙◌, ap, ◌∷◌, append_assoc}
use Rattle.bf_terms.specs.Texts as texts
use Rattle.bf_terms.specs.Texts.{log_from}
use Rattle.bf_search.specs.declared.entries.Entry.{Entry}
use Rattle.std.specs.Result.{OnOk}
use Rattle.std.proofs.lemmas.Result.{on_ok_weaker}

-- one more text
pub more : (o a b x y : List ℕ) → x ≡ o ++ a → y ≡ x ++ b → y ≡ o ++ (a ++ b)
more o a b x y first second = second ∙ ap (λ (t : List ℕ). t ++ b) first ∙ append_assoc o a b

-- the last text, whose call is handed on
pub last : {E : Type 0} (o a b x y : List ℕ) (result : Result (Unit {0}) E) → x ≡ o ++ a → OnOk result (y ≡ x ++ b) → OnOk result (y ≡ o ++ (a ++ b))
last o a b x y result first second = on_ok_weaker result (λ h. more o a b x y first h) second

-- one more entry, with its status line
pub entry_more : (commits : texts.Commits) (sides : texts.Sides) (known now : texts.Known) (entry : Entry) (rest : List Entry) (o x y : List ℕ)
    → x ≡ o ++ texts.entry_lines commits sides entry → now ≡ texts.known_after known entry → y ≡ x ++ texts.status_line sides now entry
    → y ++ log_from commits sides now rest ≡ o ++ log_from commits sides known (entry ∷ rest)
unfolding log_from
entry_more commits sides known now entry rest o x y first learnt second =
    ap (λ (t : List ℕ). t ++ log_from commits sides now rest) (more o _ _ x y first second)
    ∙ append_assoc o (texts.entry_lines commits sides entry ++ texts.status_line sides now entry) (log_from commits sides now rest)
    ∙ ap (λ (k : texts.Known). o ++ (texts.entry_lines commits sides entry ++ texts.status_line sides k entry ++ log_from commits sides k rest)) learnt
