-- What the fields of a window mean, and what always holds of them.
use Rattle.std.specs.Prelude.{◌≡◌, ℕ, ◌+◌, ◌-◌, ◌≤◌, ◌^◌, Bool, true, false, List, take, drop, vec_len, Option, Some, None}
use Rattle.std.specs.List.{position_or_len}
use Rattle.std.specs.Option.{option_to_list}
use Rattle.bf_grammar.specs.Place.{is_end_of_line}
use Rattle.bf_stream.specs.declared.window.Window.TheInside.{Inside}
use Rattle.bf_stream.specs.Held.{Held, IsPlain}

abbrev pub held_bytes : Inside → List ℕ
held_bytes w = take (w.end - w.start) (drop w.start w.buf.items)

-- whether a byte behind the limit was seen
abbrev pub is_seen : Option ℕ → Bool
is_seen None = false
is_seen (Some byte) = true

abbrev pub held_in : Inside → Held
held_in w = record {
  line = w.line;
  bytes = held_bytes w;
  quota = w.quota;
  past = is_seen w.beyond;
  beyond = option_to_list w.beyond;
  done_due = w.done_due;
}

-- The numbers of lines fit, the quota is spent where a byte behind it was seen, no LF is among the known bytes, and
-- where the line in front is told to be plain, they are that line.
pub record IsSound (w : Inside) : Type 0 where
  pub order : w.start ≤ w.end
  pub within : w.end ≤ vec_len w.buf
  pub size : vec_len w.buf ≡ 65536
  pub count : w.line + (w.end - w.start) + w.quota ≤ 2 ^ 62
  pub spent : is_seen w.beyond ≡ true → w.quota ≡ 0
  pub known : w.known ≤ position_or_len is_end_of_line (held_bytes w)
  pub plain : w.plain ≡ true → IsPlain (held_bytes w) (take w.known (held_bytes w))
