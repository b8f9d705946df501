-- The kinds of the lines that stand before the certificate, and their order.
use Rattle.std.specs.Prelude.{ℕ, ◌==◌, Bool, true, false, ◌&&◌, nat_lt, nat_le, if◌then◌else◌, List, codes, Option, Some, None}
use Rattle.std.specs.Option.{option_or}
use Rattle.std.specs.Cmp.Lexicographic.{pointwise}
use Rattle.bf_claims.specs.declared.kind.Kind.{Kind}
use Rattle.bf_claims.specs.declared.kind.Kind.TheVariants.{Word, Folder, TermNew, TermOld, Build, Retry, Repeat, Made, Machine, Choice, CalledBad, CalledGood, Outcome, Against, Confirmed}

-- a text is this one
abbrev pub is_text : List ℕ → List ℕ → Bool
is_text text word = pointwise ◌==◌ text word

-- the kinds of the lines on the command, by the word that they begin with
unfoldable pub command_kind : List ℕ → Option Kind
command_kind word =
    if is_text (codes "word") word then Some Word
    else if is_text (codes "folder") word then Some Folder
    else if is_text (codes "term-new") word then Some TermNew
    else if is_text (codes "term-old") word then Some TermOld
    else if is_text (codes "build") word then Some Build
    else None

-- of those on how it was tested
unfoldable pub manner_kind : List ℕ → Option Kind
manner_kind word =
    if is_text (codes "retry") word then Some Retry
    else if is_text (codes "repeat") word then Some Repeat
    else if is_text (codes "made") word then Some Made
    else if is_text (codes "machine") word then Some Machine
    else if is_text (codes "option") word then Some Choice
    else None

-- of those that name a commit
unfoldable pub commit_kind : List ℕ → Option Kind
commit_kind word =
    if is_text (codes "called-bad") word then Some CalledBad
    else if is_text (codes "called-good") word then Some CalledGood
    else if is_text (codes "outcome") word then Some Outcome
    else if is_text (codes "against") word then Some Against
    else if is_text (codes "confirmed") word then Some Confirmed
    else None

unfoldable pub kind_named : List ℕ → Option Kind
kind_named word = option_or (option_or (command_kind word) (manner_kind word)) (commit_kind word)

-- the rank of a kind in the order of lines, from 1
abbrev pub rank_of : Kind → ℕ
rank_of Word = 1
rank_of Folder = 2
rank_of TermNew = 3
rank_of TermOld = 4
rank_of Build = 5
rank_of Retry = 6
rank_of Repeat = 7
rank_of Made = 8
rank_of Machine = 9
rank_of Choice = 10
rank_of CalledBad = 11
rank_of CalledGood = 12
rank_of Outcome = 13
rank_of Against = 14
rank_of Confirmed = 15

-- there may be several lines of these
abbrev pub is_repeated : Kind → Bool
is_repeated Word = true
is_repeated Choice = true
is_repeated CalledGood = true
is_repeated Outcome = true
is_repeated Against = true
is_repeated Confirmed = true
is_repeated other = false

-- the rank of the next line that an answer has to have: a word, the bad commit, and a good one
abbrev pub needed_behind : ℕ → ℕ
needed_behind last =
    if nat_lt last 1 then 1
    else if nat_lt last 11 then 11
    else if nat_lt last 12 then 12
    else 15

-- whether a line may stand behind one of this rank
unfoldable pub may_follow : ℕ → Kind → Bool
may_follow last kind =
    if last == rank_of kind then is_repeated kind
    else nat_lt last (rank_of kind) && nat_le (rank_of kind) (needed_behind last)

-- whether the certificate may stand behind a line of this rank
abbrev pub is_last : ℕ → Bool
is_last last = nat_le 12 last
