-- From what was served behind the first line to what was written.
use Rattle.std.proofs.Common.{◌≡◌, ℕ, List, [], ◌++◌, length, Option, Some, None, refl, ap, subst, ◌∙◌, arith}
use Rattle.bf_answers.specs.Devices.{ShelfMet, met_shelf}
use Rattle.bf_history.specs.Meanings.{History}
use Rattle.bf_io.specs.Told.{Appends, AppendsFront}
use Rattle.bf_io.specs.declared.shelf.Shelf as shelves
use Rattle.bf_io.proofs.Told.{Appends-trans, AppendsFront-first, AppendsFront-none, AppendsFront-second}
use Rattle.bf_lines.specs.Lines.{ended_lines}
use Rattle.bf_lines.specs.Serving.{AreAnswered, IsBefore, ServesAll, ServesFront, ServesSome}
use Rattle.bf_lines.specs.Serving as lines
use Rattle.bf_protocol.specs.Events.{ready_line}
use Rattle.bf_serve.specs.Searches.{Searches, no_search}
use Rattle.bf_serve.specs.Steps.{searches_in}
use Rattle.bf_serve_run.specs.declared.server.Server.{Server}
use Rattle.bf_serve_run.specs.Serving.{AreServed, IsServedSome, Says, WritesAll, WritesFront, WritesSome, shelf_until}
use Rattle.bf_serve_run.proofs.Replying.{replies_served}

-- the first line, as it was put
pub ready_as : (commits : ℕ) (history : History) (start put slice : List ℕ) → start ≡ [] → put ≡ start ++ ready_line commits
    → commits ≡ length history.parents → slice ≡ put → slice ≡ ready_line (length history.parents)
ready_as commits history start put slice none is count same =
    same ∙ is ∙ ap (λ (s : List ℕ). s ++ ready_line commits) none ∙ ap ready_line count

-- a server that starts has no search, over this history
pub record IsStart (history : History) (server : Server) : Type 0 where
  pub over : server.session.history.now ≡ history
  pub none : searches_in server.session ≡ no_search

none_served : (history : History) (shelf : ShelfMet) (searches : Searches) → AreServed history shelf searches [] []
unfolding AreServed
none_served history shelf searches = refl

module _ {F : Type 0} (by : shelves.Ghosts F) (history : History) (old new : Server) (shelf shelf_now : F) (start : IsStart history old) where
  -- the replies to requests that were answered from the start
  served_from : (requests : List (List ℕ)) (text : List ℕ) → AreAnswered (Says by) (old, shelf) requests (new, shelf_now) text
      → AreServed history (met_shelf by shelf shelf_now) no_search requests text
  served_from requests text answered =
      subst (λ (s : Searches). AreServed history (met_shelf by shelf shelf_now) s requests text) start.none
      (replies_served by requests history (met_shelf by shelf shelf_now) old new shelf shelf_now text answered start.over refl
      (omega arith) (omega arith))

  pub some_served : (bytes text : List ℕ) → lines.AreServed (Says by) bytes (old, shelf) (new, shelf_now) text
      → IsServedSome history (met_shelf by shelf shelf_now) bytes (ready_line (length history.parents) ++ text)
  some_served bytes text is = record {
    done = is.done;
    later = is.later;
    split = is.split;
    replies = text;
    served = served_from is.done text is.answered;
    text_is = refl;
  }

  pub writes_all : (input before mid after : Option (List ℕ)) → Appends before mid (ready_line (length history.parents))
      → ServesAll (Says by) input (old, shelf) (new, shelf_now) mid after → WritesAll history (met_shelf by shelf shelf_now) input before after
  writes_all None before mid after ready serves = tt
  writes_all (Some bytes) before mid after ready (text, answered, writes) = (
    ready_line (length history.parents) ++ text,
    record { replies = text; served = served_from (ended_lines bytes) text answered; text_is = refl },
    Appends-trans before mid after (ready_line (length history.parents)) text ready writes,
  )

  pub writes_some : (input before mid after : Option (List ℕ)) → Appends before mid (ready_line (length history.parents))
      → ServesSome (Says by) input (old, shelf) (new, shelf_now) mid after → WritesSome history (met_shelf by shelf shelf_now) input before after
  writes_some None before mid after ready serves = tt
  writes_some (Some bytes) before mid after ready (text, is, writes) = (
    ready_line (length history.parents) ++ text,
    some_served bytes text is,
    Appends-trans before mid after (ready_line (length history.parents)) text ready writes,
  )

-- a front of what stood at some moment
pub writes_front : {F : Type 0} (by : shelves.Ghosts F) (history : History) (old : Server) (shelf shelf_now : F) (start : IsStart history old)
    (input before mid after : Option (List ℕ)) → Appends before mid (ready_line (length history.parents))
    → ServesFront (Says by) (IsBefore by.faults shelf_now) input (old, shelf) mid after → WritesFront history (met_shelf by shelf shelf_now) input before after
writes_front by history old shelf shelf_now start None before mid after ready serves = tt
writes_front by history old shelf shelf_now start (Some bytes) before mid after ready ((new, between), text, earlier, is, writes) = (
  by.faults between,
  ready_line (length history.parents) ++ text,
  earlier,
  some_served by history old new shelf between start bytes text is,
  AppendsFront-second before mid after (ready_line (length history.parents)) text ready writes,
)

-- a front of the first line
pub front_of_first : (history : History) (shelf : ShelfMet) (input before after : Option (List ℕ))
    → AppendsFront before after (ready_line (length history.parents)) → WritesFront history shelf input before after
front_of_first history shelf None before after front = tt
front_of_first history shelf (Some bytes) before after front = (
  shelf.faults.now,
  ready_line (length history.parents) ++ [],
  omega arith,
  record {
    done = [];
    later = ended_lines bytes;
    split = refl;
    replies = [];
    served = none_served history (shelf_until shelf shelf.faults.now) no_search;
    text_is = refl;
  },
  AppendsFront-first before after (ready_line (length history.parents)) [] front,
)

-- nothing was written
pub front_of_none : (history : History) (shelf : ShelfMet) (input before : Option (List ℕ)) → WritesFront history shelf input before before
front_of_none history shelf input before =
    front_of_first history shelf input before before (AppendsFront-none before (ready_line (length history.parents)))
