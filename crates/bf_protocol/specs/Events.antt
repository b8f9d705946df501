-- The lines of events and of replies.
use Rattle.std.specs.Prelude.{ℕ, List, [], ◌∷◌, ◌++◌, codes}
use Rattle.std.specs.Fmt.{decimal}
use Rattle.std.specs.List.{flat_map}
use Rattle.bf_reading.specs.Reading.{lines_of}
use Rattle.bf_terms.specs.Texts.{text_line}

-- what is told of the search of a number
pub data News : Type 0 where
  Log : ℕ → List ℕ → News  -- a further line of its log
  Left : ℕ → ℕ → ℕ → News  -- how many commits may still be its first bad one, and how many of them are skipped
  Answer : ℕ → List ℕ → News  -- a line of its answer
  Ended : ℕ → ℕ → News  -- it has its end, with this status
  Needless : ℕ → List ℕ → News  -- the workers whose commits no path of it asks for

-- the reply to a request
pub data Reply : Type 0 where
  Started : ℕ → Reply  -- the search of this number was begun
  Test : ℕ → List ℕ → Reply  -- a commit, whose name has these digits, is to be tested for a search
  Wait : Reply  -- there is no test for now
  Over : Reply  -- there is no test any more
  Done : Reply  -- what was asked was done
  WantedBy : List ℕ → Reply  -- the searches that ask for a commit
  Certified : ℕ → List ℕ → Reply  -- the certificate of a search
  Refused : List ℕ → Reply  -- nothing was done, for the reason of this line, which has its LF

-- a word, a number and a text as a line
abbrev pub numbered : List ℕ → ℕ → List ℕ → List ℕ
numbered word number text = text_line (word ++ decimal number ++ codes " " ++ text)

-- each line of a text behind a word and a number
abbrev pub numbered_lines : List ℕ → ℕ → List ℕ → List ℕ
numbered_lines word number text = flat_map (numbered word number) (lines_of text)

-- each number behind a blank
abbrev pub each_number : List ℕ → List ℕ
each_number numbers = flat_map (λ number. codes " " ++ decimal number) numbers

-- a word and numbers as a line
abbrev pub numbers_line : List ℕ → List ℕ → List ℕ
numbers_line word numbers = text_line (word ++ each_number numbers)

-- the first line of all: the version of the protocol, and how many commits there are
abbrev pub ready_line : ℕ → List ℕ
ready_line commits = numbers_line (codes "ready") (1 ∷ commits ∷ [])

abbrev pub event_line : News → List ℕ
event_line (Log search line) = numbered (codes "log ") search line
event_line (Left search left away) = numbers_line (codes "left") (search ∷ left ∷ away ∷ [])
event_line (Answer search line) = numbered (codes "answer ") search line
event_line (Ended search status) = numbers_line (codes "end") (search ∷ status ∷ [])
event_line (Needless search workers) = numbers_line (codes "needless") (search ∷ workers)

abbrev pub events_text : List News → List ℕ
events_text news = flat_map event_line news

abbrev pub reply_text : Reply → List ℕ
reply_text (Started search) = numbers_line (codes "search") (search ∷ [])
reply_text (Test search digits) = numbered (codes "test ") search digits
reply_text Wait = codes "wait\n"
reply_text Over = codes "over\n"
reply_text Done = codes "ok\n"
reply_text (WantedBy searches) = numbers_line (codes "wanted") searches
reply_text (Certified search text) = numbered_lines (codes "certificate ") search text ++ codes "ok\n"
reply_text (Refused line) = codes "refused " ++ line
