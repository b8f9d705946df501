-- The requests behind a stream, and their replies.
use Rattle.std.specs.Prelude.{◌≡◌, ℕ, ◌≤◌, nat_lt, Bool, true, false, List, [], ◌∷◌, ◌++◌, length, Option, Result}
use Rattle.std.specs.Option.{IfSome}
use Rattle.bf_answers.specs.Devices.{ShelfMet, met_shelf}
use Rattle.bf_history.specs.Meanings.{History}
use Rattle.bf_io.specs.Told.{Appends, AppendsFront}
use Rattle.bf_io.specs.declared.shelf.LoadFault.{LoadFault}
use Rattle.bf_io.specs.declared.shelf.Shelf as shelves
use Rattle.bf_lines.specs.Lines.{ended_lines}
use Rattle.bf_protocol.specs.Events.{ready_line}
use Rattle.bf_protocol.specs.declared.request.Refusal.TheVariants.{LineTooLong}
use Rattle.bf_protocol.specs.Requests.{words_in}
use Rattle.bf_serve.specs.Begins.{words_to_begin}
use Rattle.bf_serve.specs.Searches.{Searches, no_search}
use Rattle.bf_serve.specs.Serving.{refused_as, turn, turn_text}
use Rattle.bf_serve.specs.Steps.{IsFileOf, searches_in}
use Rattle.bf_serve.specs.Turns.{Turn}
use Rattle.bf_serve_run.specs.declared.server.Server.{Server}

-- ---- one request

-- so many bytes are too many for a request
abbrev pub is_too_long : List ℕ → Bool
is_too_long line = nat_lt 65535 (length line)

-- one request, with what the shelf gives for the name in it, where there is one
pub record IsTurnOn (history : History) (shelf : ShelfMet) (searches : Searches) (line : List ℕ) (t : Turn) : Type 0 where
  pub file : Result (List ℕ) LoadFault
  pub from : IsFileOf shelf.files shelf.faults.before shelf.faults.now (words_to_begin searches.pending (words_in line)) file
  pub is : t ≡ turn history file searches line

-- a line that is too long is refused, and changes nothing
abbrev pub IsTurnIf : Bool → History → ShelfMet → Searches → List ℕ → Turn → Type 0
IsTurnIf true history shelf searches line t = t ≡ refused_as searches LineTooLong
IsTurnIf false history shelf searches line t = IsTurnOn history shelf searches line t

-- one line, and what stands behind it
abbrev pub IsTurn : History → ShelfMet → Searches → List ℕ → Turn → Type 0
IsTurn history shelf searches line t = IsTurnIf (is_too_long line) history shelf searches line t

-- ---- one after the other

-- From these searches on, these requests get these replies, one behind the other.
unfoldable pub AreServed : History → ShelfMet → Searches → List (List ℕ) → List ℕ → Type 0
AreServed history shelf searches [] replies = replies ≡ []
AreServed history shelf searches (line ∷ lines) replies =
    (t : Turn) × (later : List ℕ) × IsTurn history shelf searches line t × AreServed history shelf t.searches lines later
    × (replies ≡ turn_text t ++ later)

-- The first line, and behind it the replies to all requests of an input: to each of its lines that ends with LF.
pub record IsServedWhole (history : History) (shelf : ShelfMet) (input text : List ℕ) : Type 0 where
  pub replies : List ℕ
  pub served : AreServed history shelf no_search (ended_lines input) replies
  pub text_is : text ≡ ready_line (length history.parents) ++ replies

-- The first line, and behind it the replies to the first requests of an input.
pub record IsServedSome (history : History) (shelf : ShelfMet) (input text : List ℕ) : Type 0 where
  pub done : List (List ℕ)
  pub later : List (List ℕ)
  pub split : ended_lines input ≡ done ++ later
  pub replies : List ℕ
  pub served : AreServed history shelf no_search done replies
  pub text_is : text ≡ ready_line (length history.parents) ++ replies

-- ---- what is written, where the input is told

abbrev pub WritesAll : History → ShelfMet → Option (List ℕ) → Option (List ℕ) → Option (List ℕ) → Type 0
WritesAll history shelf input before after =
    IfSome input (λ bytes. (text : List ℕ) × IsServedWhole history shelf bytes text × Appends before after text)

abbrev pub WritesSome : History → ShelfMet → Option (List ℕ) → Option (List ℕ) → Option (List ℕ) → Type 0
WritesSome history shelf input before after =
    IfSome input (λ bytes. (text : List ℕ) × IsServedSome history shelf bytes text × Appends before after text)

-- the shelf until some later moment
abbrev pub shelf_until : ShelfMet → ℕ → ShelfMet
shelf_until shelf now = record shelf { faults = record { before = shelf.faults.before; now = now } }

abbrev pub WritesFront : History → ShelfMet → Option (List ℕ) → Option (List ℕ) → Option (List ℕ) → Type 0
WritesFront history shelf input before after =
    IfSome input (λ bytes. (now : ℕ) × (text : List ℕ) × (now ≤ shelf.faults.now) × IsServedSome history (shelf_until shelf now) bytes text
    × AppendsFront before after text)

-- ---- steps

-- what a server replied to a line, and left, by what its shelf is
pub record Replied {F : Type 0} (by : shelves.Ghosts F) (old new : Server) (shelf shelf_now : F) (line text : List ℕ) : Type 0 where
  pub history : new.session.history.now ≡ old.session.history.now
  pub files : by.files shelf_now ≡ by.files shelf
  pub later : by.faults shelf ≤ by.faults shelf_now
  pub t : Turn
  pub is : IsTurn old.session.history.now (met_shelf by shelf shelf_now) (searches_in old.session) line t
  pub searches : searches_in new.session ≡ t.searches
  pub text_is : text ≡ turn_text t

abbrev pub Says : {F : Type 0} → shelves.Ghosts F → Server × F → Server × F → List ℕ → List ℕ → Type 0
Says by (old, shelf) (new, shelf_now) line text = Replied by old new shelf shelf_now line text
