-- What was served. How one line is answered is handed on: `says`, from one state to another.
use Rattle.std.specs.Prelude.{◌≡◌, ℕ, ◌<◌, ◌≤◌, List, [], ◌∷◌, ◌++◌, length, Option, Some, None}
use Rattle.std.specs.Option.{IfSome}
use Rattle.bf_io.specs.Told.{Appends, AppendsFront}
use Rattle.bf_lines.specs.declared.lines.Length.{Length}
use Rattle.bf_lines.specs.declared.lines.Length.TheVariants.{Short, Long}
use Rattle.bf_lines.specs.Lines.{ended_lines}

-- a line gets this reply, from one state to another
abbrev pub Says : Type 0 → Type 1
Says A = A → A → List ℕ → List ℕ → Type 0

-- these lines get these replies, one behind the other
unfoldable pub AreAnswered : {A : Type 0} → Says A → A → List (List ℕ) → A → List ℕ → Type 0
AreAnswered says old [] new text = (new ≡ old) × (text ≡ [])
AreAnswered {A = A} says old (line ∷ lines) new text =
    (mid : A) × (reply : List ℕ) × (replies : List ℕ) × says old mid line reply × AreAnswered says mid lines new replies × (text ≡ reply ++ replies)

-- the first lines of an input got these replies, whatever stands behind them
pub record AreServed {A : Type 0} (says : Says A) (input : List ℕ) (start state : A) (text : List ℕ) : Type 0 where
  pub done : List (List ℕ)
  pub later : List (List ℕ)
  pub split : ended_lines input ≡ done ++ later
  pub answered : AreAnswered says start done state text

-- all lines of an input were answered, in order, and what is held gained the replies
abbrev pub ServesAll : {A : Type 0} → Says A → Option (List ℕ) → A → A → Option (List ℕ) → Option (List ℕ) → Type 0
ServesAll says input start state held held_now =
    IfSome input (λ bytes. (text : List ℕ) × AreAnswered says start (ended_lines bytes) state text × Appends held held_now text)

-- its first lines were answered, in order, each with its whole reply
abbrev pub ServesSome : {A : Type 0} → Says A → Option (List ℕ) → A → A → Option (List ℕ) → Option (List ℕ) → Type 0
ServesSome says input start state held held_now =
    IfSome input (λ bytes. (text : List ℕ) × AreServed says bytes start state text × Appends held held_now text)

-- some front of the replies to its first lines was written, up to a state of which this holds
abbrev pub ServesFront : {A : Type 0} → Says A → (A → Type 0) → Option (List ℕ) → A → Option (List ℕ) → Option (List ℕ) → Type 0
ServesFront {A = A} says Is input start held held_now =
    IfSome input (λ bytes. (state : A) × (text : List ℕ) × Is state × AreServed says bytes start state text × AppendsFront held held_now text)

-- what stands beside a state had at most as many faults then as it has now
abbrev pub IsBefore : {A B : Type 0} → (B → ℕ) → B → A × B → Type 0
IsBefore faults now (state, beside) = faults beside ≤ faults now

-- ---- steps

-- the reply to a line that was read so: one that is too long was passed over, and its reply is that of each such line
abbrev pub IsReply : {A : Type 0} → Says A → A → A → List ℕ → Length → List ℕ → Type 0
IsReply says old new line Short text = says old new line text
IsReply says old new line Long text = (long : List ℕ) → 65535 < length long → says old new long text

-- the lines of an input up to what is left now were answered
pub record Served {A : Type 0} (says : Says A) (all rest : List ℕ) (start state : A) (held held_now : Option (List ℕ)) : Type 0 where
  pub done : List (List ℕ)
  pub text : List ℕ
  pub split : ended_lines all ≡ done ++ ended_lines rest
  pub answered : AreAnswered says start done state text
  pub written : Appends held held_now text

abbrev pub IsServed : {A : Type 0} → Says A → Option (List ℕ) → Option (List ℕ) → A → A → Option (List ℕ) → Option (List ℕ) → Type 0
IsServed says None now start state held held_now = now ≡ None
IsServed says (Some all) None start state held held_now = ⊥
IsServed says (Some all) (Some rest) start state held held_now = Served says all rest start state held held_now
