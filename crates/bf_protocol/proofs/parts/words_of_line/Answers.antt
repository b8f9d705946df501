use Rattle.std.proofs.Common.{List, ℕ, ◌∷◌, [], ◌++◌, ap, sym, ◌∙◌}
use Rattle.bf_protocol.specs.Requests.{parted}
use Rattle.bf_protocol.proofs.Parting.{one_more}
use Rattle.bf_protocol.proofs.parts.words_of_line.Goals as goal

pub loop-word-preserved : goal.loop-word-preserved
loop-word-preserved c =
    one_more c.loop-word.words.items (parted c.in-Some.after.now) c.in-Some.word.now _ c.push.new.self.items
    (c.loop-word.invariant ∙ ap (λ (l : List (List ℕ)). c.loop-word.words.items ++ l) c.in-Some.ensures.word)
    (c.in_ok-push.ensures.items ∙ ap (λ (w : List ℕ). c.loop-word.words.items ++ w ∷ []) c.in_ok-from_slice.ensures)

pub returns : goal.returns
returns c =
    c.in_ok-push-2.ensures.items
    ∙ ap (λ (w : List ℕ). c.loop-word.words.items ++ w ∷ []) c.in_ok-from_slice-2.ensures
    ∙ sym (c.loop-word.invariant ∙ ap (λ (l : List (List ℕ)). c.loop-word.words.items ++ l) c.in_default.ensures.word)
