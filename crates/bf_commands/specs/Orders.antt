-- The words of the commands that stand before those of a search, and of those that have words of their own.
use Rattle.std.specs.Prelude.{ℕ, Bool, true, false, nat_lt, if◌then◌else◌, List, [], ◌∷◌, length, drop, codes, Option, Some, None, Result, Ok, Err}
use Rattle.std.specs.Option.{option_map_or}
use Rattle.bf_grammar.specs.declared.fault.Limits.{Limits}
use Rattle.bf_grammar.specs.Forms.{◌>>=◌}
use Rattle.bf_grammar.specs.Limits.{standard_limits, with_original_names}
use Rattle.bf_words.specs.declared.options.Choice.TheVariants.{Leg, Trace}
use Rattle.bf_words.specs.declared.request.Request.{Request}
use Rattle.bf_words.specs.declared.verb.Verb.{Verb}
use Rattle.bf_words.specs.declared.verb.Verb.TheVariants.{Simulate, Run}
use Rattle.bf_output.specs.Output.{is_run}
use Rattle.bf_words.specs.FirstOption.{first_option}
use Rattle.bf_words.specs.Options.{is_text, verb_of}
use Rattle.bf_words.specs.Words.{next_index, request_behind, word_at}
use Rattle.bf_commands.specs.declared.order.Order.{Order}
use Rattle.bf_commands.specs.declared.order.Order.TheVariants.{Certify, Check, Checkout, Journal, Many, Serve}

unfoldable pub order_of : List ℕ → Option Order
order_of word =
    if is_text (codes "certify") word then Some Certify
    else if is_text (codes "check") word then Some Check
    else if is_text (codes "checkout") word then Some Checkout
    else if is_text (codes "journal") word then Some Journal
    else if is_text (codes "many") word then Some Many
    else if is_text (codes "serve") word then Some Serve
    else None

-- ---- a command that stands before another one

abbrev pub is_search : Verb → Bool
is_search Simulate = true
is_search Run = true
is_search other = false

-- whether a command may stand behind it
abbrev pub is_followed : Order → Option Verb → Bool
is_followed Certify (Some verb) = is_search verb
is_followed Checkout (Some verb) = is_run verb
is_followed Journal (Some verb) = is_run verb
is_followed other verb = false

-- What the words behind it ask for. Another command there is at fault before all else.
unfoldable pub request_of : Order → List (List ℕ) → Result Request ℕ
request_of order words = if is_followed order (verb_of (word_at words 1)) then request_behind words else Err 1

-- ---- `certify`, which prints no legs and no trace

-- the first word that asks for one is at fault
abbrev pub without_log : List (List ℕ) → Request → Result Request ℕ
without_log words request =
    option_map_or (λ i. Err (next_index i)) (first_option request.verb (Leg ∷ Trace ∷ []) (drop 1 words)) (Ok request)

-- it is refused once all other words are accepted
abbrev pub request_to_certify : List (List ℕ) → Result Request ℕ
request_to_certify words = request_of Certify words >>= without_log words

-- ---- how commits are named

-- the option stands behind the command: each commit has the name that it had before it was exported
abbrev pub asks_original_names : List (List ℕ) → Bool
asks_original_names words = is_text (codes "--original-names") (word_at words 1)

-- the limits on the stream, and how its commits are named
abbrev pub limits_asked : List (List ℕ) → Limits
limits_asked words = if asks_original_names words then with_original_names standard_limits else standard_limits

-- ---- words of a known number

-- the index of the word that is missing, or of the first further one, where there must be so many
abbrev pub wrong_count : ℕ → List (List ℕ) → Option ℕ
wrong_count count words =
    if nat_lt (length words) count then Some (length words) else if nat_lt count (length words) then Some count else None
