-- From what was said to each line to the replies to all.
use Rattle.std.proofs.Common.{◌≡◌, ◌⊎◌, ℕ, ◌≤◌, ◌<◌, Bool, true, false, List, [], ◌∷◌, ◌++◌, length, Option, Result, Ok, Err, refl, sym, ap, subst, ◌∙◌, arith}
use Rattle.std.specs.Option.{IfSome}
use Rattle.std.specs.Result.{OnErr, OnOk}
use Rattle.std.proofs.lemmas.Bool.{le-ltb, lt-ltb}
use Rattle.bf_answers.specs.Devices.{ShelfMet, met_shelf}
use Rattle.bf_history.specs.Meanings.{History}
use Rattle.bf_io.specs.Causes.{Rose}
use Rattle.bf_io.specs.declared.shelf.LoadFault.TheVariants.{Failed}
use Rattle.bf_io.specs.declared.shelf.Shelf as shelves
use Rattle.bf_io.specs.declared.shelf.ShelfFile.{ShelfFile}
use Rattle.bf_lines.specs.Serving.{AreAnswered}
use Rattle.bf_serve.specs.Searches.{Searches}
use Rattle.bf_protocol.specs.Events.{Refused, reply_text}
use Rattle.bf_protocol.specs.Requests.{refusal_line}
use Rattle.bf_protocol.specs.declared.request.Refusal.TheVariants.{LineTooLong}
use Rattle.bf_serve.specs.Serving.{file_in, refused_as, turn, turn_text}
use Rattle.bf_serve.specs.Steps.{Answers, searches_in}
use Rattle.bf_serve.specs.Turns.{Turn}
use Rattle.bf_serve_run.specs.declared.server.Server.{Server}
use Rattle.bf_serve_run.specs.Serving.{AreServed, IsTurn, IsTurnIf, IsTurnOn, Says, is_too_long}

pub on_ok : {X E A B : Type 0} (r : Result X E) → (A → B) → OnOk r A → OnOk r B
on_ok (Ok x) f h = f h
on_ok (Err e) f h = tt

pub on_err : {X E A B : Type 0} (r : Result X E) → (A → B) → OnErr r A → OnErr r B
on_err (Ok x) f h = tt
on_err (Err e) f h = f h

pub if_err : {X E A : Type 0} (r : Result X E) → A → OnErr r A
if_err (Ok x) h = tt
if_err (Err e) h = h

pub rose_in : (before first now last : ℕ) → first ≤ before → now ≤ last → Rose before now → Rose first last
rose_in before first now last earlier later rose = omega (arith, earlier, later, rose)

-- a turn beside a shelf is one beside it for longer
turn_if_in : (too_long : Bool) (history : History) (wide narrow : ShelfMet) (searches : Searches) (line : List ℕ) (t : Turn)
    → IsTurnIf too_long history narrow searches line t
    → narrow.files ≡ wide.files → wide.faults.before ≤ narrow.faults.before → narrow.faults.now ≤ wide.faults.now
    → IsTurnIf too_long history wide searches line t
turn_if_in true history wide narrow searches line t is same before now = is
turn_if_in false history wide narrow searches line t is same before now = record {
  file = is.file;
  from = record {
    given = subst (λ (fs : Option (List ShelfFile)). IfSome fs (λ all. (is.file ≡ file_in all searches line) ⊎ (is.file ≡ Err Failed)))
        same is.from.given;
    failed = λ e. rose_in narrow.faults.before wide.faults.before narrow.faults.now wide.faults.now before now (is.from.failed e);
  };
  is = is.is;
}

turn_in : (history : History) (wide narrow : ShelfMet) (searches : Searches) (line : List ℕ) (t : Turn) → IsTurn history narrow searches line t
    → narrow.files ≡ wide.files → wide.faults.before ≤ narrow.faults.before → narrow.faults.now ≤ wide.faults.now
    → IsTurn history wide searches line t
turn_in history wide narrow searches line t is same before now = turn_if_in (is_too_long line) history wide narrow searches line t is same before now

-- ---- one line

-- the server answered a line as its session did
pub short_said : {F : Type 0} (by : shelves.Ghosts F) (old new : Server) (shelf shelf_now : F) (line before after : List ℕ) → length line ≤ 65535
    → before ≡ [] → by.files shelf_now ≡ by.files shelf → by.faults shelf ≤ by.faults shelf_now
    → Answers (by.files shelf) (by.faults shelf) (by.faults shelf_now) line old.session new.session before after
    → Says by (old, shelf) (new, shelf_now) line after
short_said by old new shelf shelf_now line before after short none files later answers =
    let t : Turn = turn old.session.history.now answers.file (searches_in old.session) line in
    let one : IsTurnOn old.session.history.now (met_shelf by shelf shelf_now) (searches_in old.session) line t =
    record { file = answers.file; from = answers.from; is = refl } in
    let fits : is_too_long line ≡ false = le-ltb 65535 (length line) short in
    record {
      history = answers.serves.history;
      files = files;
      later = later;
      t = t;
      is = subst (λ (b : Bool). IsTurnIf b old.session.history.now (met_shelf by shelf shelf_now) (searches_in old.session) line t) (sym fits) one;
      searches = answers.serves.searches;
      text_is = answers.serves.text ∙ ap (λ (b : List ℕ). b ++ turn_text t) none;
    }

-- or it refused a line that is too long
pub long_said : {F : Type 0} (by : shelves.Ghosts F) (server : Server) (shelf : F) (before after : List ℕ) → before ≡ []
    → after ≡ before ++ reply_text (Refused (refusal_line LineTooLong)) → (line : List ℕ) → 65535 < length line
    → Says by (server, shelf) (server, shelf) line after
long_said by server shelf before after none is line long =
    let t : Turn = refused_as (searches_in server.session) LineTooLong in
    let past : is_too_long line ≡ true = lt-ltb 65535 (length line) long in
    record {
      history = refl;
      files = refl;
      later = omega arith;
      t = t;
      is = subst (λ (b : Bool). IsTurnIf b server.session.history.now (met_shelf by shelf shelf) (searches_in server.session) line t) (sym past) refl;
      searches = refl;
      text_is = is ∙ ap (λ (b : List ℕ). b ++ turn_text t) none;
    }

-- ---- all lines

module _ {F : Type 0} (by : shelves.Ghosts F) where
  -- the faults of the shelf do not fall
  later_faults : (lines : List (List ℕ)) (old new : Server) (shelf shelf_now : F) (text : List ℕ)
      → AreAnswered (Says by) (old, shelf) lines (new, shelf_now) text → by.faults shelf ≤ by.faults shelf_now
  unfolding AreAnswered
  later_faults [] old new shelf shelf_now text (same, none) =
      let e : by.faults shelf_now ≡ by.faults shelf = ap (λ (p : Server × F). by.faults p.1) same in
      omega (arith, e)
  later_faults (line ∷ lines) old new shelf shelf_now text ((mid, between), reply, replies, said, answered, is) =
      let rest = later_faults lines mid new between shelf_now replies answered in
      omega (arith, said.later, rest)

  -- the replies are those of turns, one behind the other
  pub replies_served : (lines : List (List ℕ)) (history : History) (wide : ShelfMet) (old new : Server) (shelf shelf_now : F) (text : List ℕ)
      → AreAnswered (Says by) (old, shelf) lines (new, shelf_now) text → old.session.history.now ≡ history
      → by.files shelf ≡ wide.files → wide.faults.before ≤ by.faults shelf → by.faults shelf_now ≤ wide.faults.now
      → AreServed history wide (searches_in old.session) lines text
  unfolding AreAnswered AreServed
  replies_served [] history wide old new shelf shelf_now text (same, none) over files before now = none
  replies_served (line ∷ lines) history wide old new shelf shelf_now text ((mid, between), reply, replies, said, answered, is) over files before now =
      let rest = later_faults lines mid new between shelf_now replies answered in
      let one : IsTurn history wide (searches_in old.session) line said.t =
      turn_in history wide (met_shelf by shelf between) (searches_in old.session) line said.t
      (subst (λ (h : History). IsTurn h (met_shelf by shelf between) (searches_in old.session) line said.t) over said.is)
      files before (omega (arith, rest, now)) in
      let more : AreServed history wide (searches_in mid.session) lines replies =
      replies_served lines history wide mid new between shelf_now replies answered (said.history ∙ over) (said.files ∙ files)
      (omega (arith, before, said.later)) now in (
        said.t,
        replies,
        one,
        subst (λ (s : Searches). AreServed history wide s lines replies) said.searches more,
        is ∙ ap (λ (r : List ℕ). r ++ replies) said.text_is,
      )
