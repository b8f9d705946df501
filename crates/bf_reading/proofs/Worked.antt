-- Worked readings, by computation.
use Rattle.std.specs.Prelude.{◌≡◌, true, false, [], ◌∷◌, codes, Some, None, Ok, Err, refl}
use Rattle.bf_reading.specs.declared.line.LogWord.TheVariants.{Start, MarkWord}
use Rattle.bf_reading.specs.Reading.{lines_of, past_blanks, behind, command_text, take_bytes, words_of, read_start, read_words, read_lines, read_log}

-- comments, other lines and blanks in front; a last line without LF
printed : read_log (codes
    "# bad: [12] \n# good: [10] c0\ngit bisect start '12' '10'\n# skip: [11] c1\ngit bisect skip 11\n \t git-bisect\tgood  1'0'\nhello\n\ngit bisect bad 12")
    ≡ Ok (record { line = 3; word = Start false (None) (None) (codes "12" ∷ codes "10" ∷ []) }
    ∷ record { line = 5; word = MarkWord (codes "skip") (codes "11") }
    ∷ record { line = 6; word = MarkWord (codes "good") (codes "10") }
    ∷ record { line = 9; word = MarkWord (codes "bad") (codes "12") } ∷ [])
unfolding lines_of past_blanks behind command_text take_bytes words_of read_start read_words read_lines
printed = refl

-- options in any order, in either spelling; the last of two counts
options : read_log (codes "git bisect 'start' a --term-bad=x --first-parent '--term-new' y --no-checkout b --term-old --\n")
    ≡ Ok (record { line = 1; word = Start true (Some (codes "y")) (Some (codes "--")) (codes "a" ∷ codes "b" ∷ []) } ∷ [])
unfolding lines_of past_blanks behind command_text take_bytes words_of read_start read_words read_lines
options = refl

ends_with_dashes : read_log (codes "git bisect start --term-good= a --\n") ≡ Ok (record { line = 1; word = Start false (None) (Some []) (codes "a" ∷ []) } ∷ [])
unfolding lines_of past_blanks behind command_text take_bytes words_of read_start read_words read_lines
ends_with_dashes = refl

-- quotes and escapes: `\'` and `\!` are the second byte, any other backslash is one itself
quotes : words_of (codes "a'b c'\\''d'\\!\\x '' \\\\") ≡ Some (codes "ab c'd!\\x" ∷ [] ∷ codes "\\\\" ∷ [])
unfolding take_bytes words_of
quotes = refl

-- of two backslashes before a quote the second one is read with it
two_backslashes : words_of (codes "\\\\'e") ≡ Some (codes "\\'e" ∷ [])
unfolding take_bytes words_of
two_backslashes = refl

-- lines in no form
open_quote : read_log (codes "\ngit bisect good 'a\n") ≡ Err 2
unfolding lines_of past_blanks behind command_text take_bytes words_of read_start read_words read_lines
open_quote = refl

no_word : read_log (codes "git bisect \t\n") ≡ Err 1
unfolding lines_of past_blanks behind command_text take_bytes words_of read_start read_words read_lines
no_word = refl

two_names : read_log (codes "git bisect good a b\ngit bisect bad") ≡ Err 1
unfolding lines_of past_blanks behind command_text take_bytes words_of read_start read_words read_lines
two_names = refl

no_value : read_log (codes "git bisect start a --term-new") ≡ Err 1
unfolding lines_of past_blanks behind command_text take_bytes words_of read_start read_words read_lines
no_value = refl

behind_dashes : read_log (codes "git bisect start -- a") ≡ Err 1
unfolding lines_of past_blanks behind command_text take_bytes words_of read_start read_words read_lines
behind_dashes = refl

other_option : read_log (codes "git bisect bad a\ngit bisect good -a") ≡ Err 2
unfolding lines_of past_blanks behind command_text take_bytes words_of read_start read_words read_lines
other_option = refl

-- no command lines
passed_over : read_log (codes "git bisect\ngit bisectgood a\ngit  bisect good a\n# git bisect good a\n") ≡ Ok []
unfolding lines_of past_blanks behind command_text take_bytes words_of read_start read_words read_lines
passed_over = refl
