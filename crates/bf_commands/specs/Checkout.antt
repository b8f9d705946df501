-- The command `checkout`: a search that tests each commit in a folder that holds exactly its files.
use Rattle.std.specs.Prelude.{ℕ, List, IfSome, Option, Result}
use Rattle.bf_grammar.specs.Limits.{standard_limits}
use Rattle.bf_history.specs.Contents.{Content, Furnishes}
use Rattle.bf_history.specs.declared.fault.ImportFault.{ImportFault}
use Rattle.bf_words.specs.declared.request.Request.{Request}
use Rattle.bf_output.specs.Inputs.{IsToldOr}
use Rattle.bf_output.specs.Output.{Given, IsOver}
use Rattle.bf_output.specs.Refusals.{refusal, usage}
use Rattle.bf_output.specs.Told.{Told}

-- The stream is read to its end, with its contents; where its bytes are not told, it has some content. Over that the search is told
-- as that of `run`, by what the workshop shows in place of the tester. A file that lacks its content is refused like every other
-- fault of the stream.
abbrev pub IsCheckedOut : Request → Given → Option (List ℕ) → Told → Type 0
IsCheckedOut request given stream told =
    (result : Result Content ImportFault) × IfSome stream (λ bytes. Furnishes bytes standard_limits result)
    × IsToldOr refusal (λ (content : Content) (other : Told). IsOver request given content.history other) result told

abbrev pub IsCheckoutFor : Result Request ℕ → Given → Option (List ℕ) → Told → Type 0
IsCheckoutFor read given stream told = IsToldOr usage (λ request told. IsCheckedOut request given stream told) read told
