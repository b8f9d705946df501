-- What a call of the whole program has to do, by the command that its first word gives.
use Rattle.std.specs.Prelude.{◌≡◌, ℕ, Bool, false, List, [], Option, Some, None, Result}
use Rattle.bf_output.specs.declared.status.Status.{Status}
use Rattle.bf_output.specs.Output.{IsUsedFor, asks_file, reads}
use Rattle.bf_output.specs.Shown.{TesterShown}
use Rattle.bf_io.specs.declared.shelf.ShelfFile.{ShelfFile}
use Rattle.bf_journal.specs.declared.disk.Disk.{Ghosts}
use Rattle.bf_tester.specs.declared.answer.Answer.{Answer}
use Rattle.bf_words.specs.declared.request.Request.{Request}
use Rattle.bf_words.specs.Words.{request, word_at}
use Rattle.bf_answers.specs.Answers.{IsCarriedOut, IsUntested}
use Rattle.bf_answers.specs.Devices.{Met, TesterMet}
use Rattle.bf_program.specs.Answers.{asked_in}
use Rattle.bf_certify.specs.Checking.{checks_file, to_check}
use Rattle.bf_certify.specs.Certifying.{to_certify}
use Rattle.bf_checkout_run.specs.CheckingOut.{asked_by, to_checkout}
use Rattle.bf_journal_run.specs.Held.{IsHeldBy}
use Rattle.bf_journal_run.specs.Journalling.{IsRecalledBy, to_journal}
use Rattle.bf_many_run.specs.Command.{loads_list, to_many}
use Rattle.bf_serve_run.specs.Command.{IsServed, serves}
use Rattle.bf_commands.specs.declared.order.Order.{Order}
use Rattle.bf_commands.specs.declared.order.Order.TheVariants.{Certify, Check, Checkout, Journal, Many, Serve}
use Rattle.bf_commands.specs.Journal.{DiskMet, request_to_journal}
use Rattle.bf_commands.specs.Orders.{order_of, request_to_certify}

-- the order of a line: its first word gives it
abbrev pub order_in : List (List ℕ) → Option Order
order_in words = order_of (word_at words 0)

-- ---- the devices that a line asks for

pub record Asks : Type 0 where
  pub stream : Bool  -- its bytes
  pub file : Bool  -- one of the shelf
  pub shop : Bool  -- folders to test in
  pub disk : Bool  -- that keeps a journal

abbrev pub asks : Bool → Bool → Bool → Bool → Asks
asks stream file shop disk = record { stream = stream; file = file; shop = shop; disk = disk }

-- by its words, at each order; a line without one asks as `bisect_main` does
abbrev pub asks_of : Option Order → List (List ℕ) → Asks
asks_of None words = asks (reads (request words)) (asks_file (request words)) false false
asks_of (Some Certify) words = asks (reads (request_to_certify words)) (asks_file (request_to_certify words)) false false
asks_of (Some Check) words = asks (checks_file words) (checks_file words) false false
asks_of (Some Checkout) words = asks (reads (asked_by words)) (asks_file (asked_by words)) (reads (asked_by words)) false
asks_of (Some Journal) words = asks (reads (request_to_journal words)) (asks_file (request_to_journal words)) false (reads (request_to_journal words))
asks_of (Some Many) words = asks (loads_list words) (loads_list words) false false
asks_of (Some Serve) words = asks (serves words) (serves words) false false

abbrev pub asks_in : List (List ℕ) → Asks
asks_in words = asks_of (order_in words) words

-- ---- what a call met

-- The devices of every command, the workshop that tests commits in folders, and the disk of a journal. What the tester
-- remembers in the end, and what it showed before, once it remembered that.
pub record FarmMet : Type 1 where
  pub met : Met
  pub shop : TesterMet
  pub disk : DiskMet
  pub recalled : List Answer
  pub recalling : TesterShown

abbrev pub farm_met : Met → TesterMet → DiskMet → List Answer → TesterShown → FarmMet
farm_met met shop disk recalled recalling = record { met = met; shop = shop; disk = disk; recalled = recalled; recalling = recalling }

-- a command that tests in folders has the workshop for its tester
abbrev pub in_folders : FarmMet → Met
in_folders farm = record farm.met { tester = farm.shop }

-- ---- what becomes of the testers

-- what becomes of the tester and of the workshop, and what the tester remembers in the end
pub record AreUsed (Uses UsesShop Recalls : Type 0) : Type 0 where
  pub used : Uses
  pub shop_used : UsesShop
  pub recalled : Recalls

-- they are as they were, and nothing is remembered
abbrev pub AreUnused : FarmMet → Type 0
AreUnused farm = AreUsed (IsUntested farm.met.tester) (IsUntested farm.shop) (farm.recalled ≡ [])

-- the tester is used as these words ask, and nothing is remembered
abbrev pub IsTesterUsed : Result Request ℕ → FarmMet → Type 0
IsTesterUsed asked farm =
    AreUsed (IsUsedFor asked farm.met.words farm.met.tester.before farm.met.tester.after) (IsUntested farm.shop) (farm.recalled ≡ [])

-- so is the workshop
abbrev pub IsShopUsed : Result Request ℕ → FarmMet → Type 0
IsShopUsed asked farm =
    AreUsed (IsUntested farm.met.tester) (IsUsedFor asked farm.met.words farm.shop.before farm.shop.after) (farm.recalled ≡ [])

-- so is the tester, once it remembered what the journal of these words kept
abbrev pub IsRecallUsed : Result Request ℕ → FarmMet → Type 0
IsRecallUsed asked farm =
    AreUsed (IsUsedFor asked farm.met.words farm.recalling farm.met.tester.after) (IsUntested farm.shop)
    (IsRecalledBy farm.disk asked farm.met.words farm.met.source.left farm.met.tester.after.answers farm.recalled)

-- ---- what a call did

-- by its order; a line without one is that of `bisect_main`
abbrev pub IsDone : Option Order → FarmMet → Status → Type 0
IsDone None farm result = IsCarriedOut (asked_in farm.met) farm.met result × IsTesterUsed (request farm.met.words) farm
IsDone (Some Certify) farm result = IsCarriedOut (to_certify farm.met) farm.met result × IsTesterUsed (request_to_certify farm.met.words) farm
IsDone (Some Check) farm result = IsCarriedOut (to_check farm.met) farm.met result × AreUnused farm
IsDone (Some Checkout) farm result = IsCarriedOut (to_checkout (in_folders farm)) (in_folders farm) result × IsShopUsed (asked_by farm.met.words) farm
IsDone (Some Journal) farm result = IsCarriedOut (to_journal farm.met farm.disk) farm.met result × IsRecallUsed (request_to_journal farm.met.words) farm
IsDone (Some Many) farm result = IsCarriedOut (to_many farm.met) farm.met result × AreUnused farm
IsDone (Some Serve) farm result = IsServed farm.met result × AreUnused farm

-- With whatever status: only a journal touches the disk, once its search began, and then a crash leaves no less than was kept.
abbrev pub IsDiskHeld : {J : Type 0} → Ghosts J → J → J → Option Order → List (List ℕ) → Option (List ℕ) → Option (List ShelfFile) → List Answer → Type 0
IsDiskHeld by before after (Some Journal) words left files answers =
    IsHeldBy by before after (request_to_journal words) words left files answers
IsDiskHeld by before after other words left files answers = after ≡ before
