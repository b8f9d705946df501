-- What a call of `checkout` asks for, and what its workshop tests in.
use Rattle.std.specs.Prelude.{◌≡◌, ◌≢◌, ℕ, List, [], Option, Some, None, Result, Ok}
use Rattle.bf_grammar.specs.Limits.{standard_limits}
use Rattle.bf_history.specs.Contents.{Content, Furnishes}
use Rattle.bf_io.specs.declared.shelf.ShelfFile.{ShelfFile}
use Rattle.bf_tester.specs.declared.answer.Answer.{Answer as Answered}
use Rattle.bf_tester.specs.Grounds.{Ground}
use Rattle.bf_words.specs.declared.request.Request.{Request}
use Rattle.bf_output.specs.Output.{given_to}
use Rattle.bf_answers.specs.declared.line.RequestLine.{RequestLine}
use Rattle.bf_answers.specs.declared.started.Ready.{Ready}
use Rattle.bf_answers.specs.declared.started.Ready.TheVariants.{Search, Told}
use Rattle.bf_answers.specs.Answers.{Command, asking}
use Rattle.bf_answers.specs.Devices.{Met, given_in}
use Rattle.bf_answers.specs.Ready.{AllTold}
use Rattle.bf_checkout.specs.Checkouts.{grounds_of}
use Rattle.bf_checkout.specs.Shops.{Shop, furnished}
use Rattle.bf_commands.specs.declared.order.Order.TheVariants.{Checkout}
use Rattle.bf_commands.specs.Checkout.{IsCheckedOut, IsCheckoutFor}
use Rattle.bf_commands.specs.Orders.{request_of}

-- ---- what the words ask for

abbrev pub asked_by : List (List ℕ) → Result Request ℕ
asked_by words = request_of Checkout words

-- the command of words that ask for this
abbrev pub checking_out : Result Request ℕ → Met → Command
checking_out asked met = asking asked (IsCheckoutFor asked (given_in met) met.source.left)

abbrev pub to_checkout : Met → Command
to_checkout met = checking_out (asked_by met.words) met

-- the answer of a line over the stream, or the search that is to be tested
abbrev pub TellsCheckout : RequestLine → Option (List ShelfFile) → Option (List ℕ) → Ready → Type 0
TellsCheckout line files left ready =
    AllTold line.request.now line.words.now ready (λ tested told.
    IsCheckedOut line.request.now (given_to line.words.now files tested) left told)

-- ---- what the workshop tests in

-- these are the trees and the files of a content that the stream loads, where it tells its bytes
abbrev pub AreGroundsOf : Option (List ℕ) → List Ground → Type 0
AreGroundsOf None grounds = Unit {0}
AreGroundsOf (Some bytes) grounds =
    (content : Content) × Furnishes bytes standard_limits (Ok content) × (grounds ≡ grounds_of content)

-- so are those of a workshop that has answers
abbrev pub HasGroundsOf : Option (List ℕ) → List Answered → List Ground → Type 0
HasGroundsOf left answers grounds = answers ≢ [] → AreGroundsOf left grounds

-- and those of a search that is to be tested
abbrev pub IsFurnishedFor : Option (List ℕ) → List Ground → Ready → Type 0
IsFurnishedFor left grounds (Told answer) = Unit {0}
IsFurnishedFor left grounds (Search started) = AreGroundsOf left grounds

-- what becomes of a workshop by what is ready: a search gives it the content to test in, an answer leaves it
abbrev pub IsFurnishedIf : {T D : Type 0} → Shop T D → Shop T D → Content → Ready → Type 0
IsFurnishedIf before after content (Told answer) = after ≡ before
IsFurnishedIf before after content (Search started) = after ≡ furnished before content

-- an answer leaves it
abbrev pub IsLeftByAnswer : {S : Type 0} → S → S → Ready → Type 0
IsLeftByAnswer before after (Told answer) = after ≡ before
IsLeftByAnswer before after (Search started) = Unit {0}
