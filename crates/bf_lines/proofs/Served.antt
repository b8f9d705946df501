-- What was served so far, and how it goes on and ends.
use Rattle.std.proofs.Common.{◌≡◌, ℕ, List, [], ◌∷◌, ◌++◌, Option, Some, None, Result, Ok, Err, OnErr, refl, sym, ap, subst, ◌∙◌, append_assoc, append-nil}
use Rattle.std.specs.Io.KnownBytes.{IsAtEnd}
use Rattle.bf_io.specs.Told.{Appends, AppendsFront, Keeps}
use Rattle.bf_io.proofs.Told.{Appends-nil, Appends-trans, AppendsFront-all, AppendsFront-second}
use Rattle.bf_lines.specs.declared.lines.Length.{Length}
use Rattle.bf_lines.specs.declared.lines.Length.TheVariants.{Short, Long}
use Rattle.bf_lines.specs.Lines.{NextIs, ended_lines, told}
use Rattle.bf_lines.specs.Serving.{AreAnswered, IsReply, IsServed, Says, Served, ServesAll, ServesFront, ServesSome}
use Rattle.bf_lines.proofs.Finding.{line_ended, none_ended}

module _ {A : Type 0} (says : Says A) where
  answered_none : (state : A) → AreAnswered says state [] state []
  unfolding AreAnswered
  answered_none state = (refl, refl)

  -- one more line was answered
  answered_more : (lines : List (List ℕ)) (line : List ℕ) (start state then : A) (text reply : List ℕ) → AreAnswered says start lines state text
      → says state then line reply → AreAnswered says start (lines ++ line ∷ []) then (text ++ reply)
  unfolding AreAnswered
  answered_more [] line start state then text reply (stays, none) said = (
    then,
    reply,
    [],
    subst (λ (s : A). says s then line reply) stays said,
    (refl, refl),
    ap (λ (t : List ℕ). t ++ reply) none ∙ sym (append-nil reply),
  )
  answered_more (first ∷ lines) line start state then text reply (mid, one, more, said_one, answered, is) said = (
    mid,
    one,
    more ++ reply,
    said_one,
    answered_more lines line mid state then more reply answered said,
    ap (λ (t : List ℕ). t ++ reply) is ∙ append_assoc one more reply,
  )

  -- the line that was read has its reply
  next_answered : (all rest line : List ℕ) (kind : Length) (state then : A) (reply : List ℕ) → NextIs (Some all) (Some rest) line (Some kind)
      → IsReply says state then line kind reply
      → (next : List ℕ) × (ended_lines all ≡ next ∷ ended_lines rest) × says state then next reply
  next_answered all rest line Short state then reply is said = (line, ap ended_lines is.1 ∙ line_ended line rest is.0, said)
  next_answered all rest line Long state then reply (long, longer, is) said =
      (long, ap ended_lines is.1 ∙ line_ended long rest is.0, said long longer)

  pub served_here : (input : Option (List ℕ)) (state : A) (held : Option (List ℕ)) → IsServed says input input state state held held
  served_here None state held = refl
  served_here (Some all) state held =
      record { done = []; text = []; split = refl; answered = answered_none state; written = Appends-nil held }

  one_more : (all rest next : List ℕ) (line : List ℕ) (start state then : A) (held mid end : Option (List ℕ)) (text : List ℕ)
      → Served says all rest start state held mid → ended_lines rest ≡ line ∷ ended_lines next → says state then line text → Appends mid end text
      → Served says all next start then held end
  one_more all rest next line start state then held mid end text so_far asks said writes = record {
    done = so_far.done ++ line ∷ [];
    text = so_far.text ++ text;
    split = so_far.split ∙ ap (λ (l : List (List ℕ)). so_far.done ++ l) asks ∙ sym (append_assoc so_far.done (line ∷ []) (ended_lines next));
    answered = answered_more so_far.done line start state then so_far.text text so_far.answered said;
    written = Appends-trans held mid end so_far.text text so_far.written writes;
  }

  pub served_more : (before now next : Option (List ℕ)) (line : List ℕ) (kind : Length) (start state then : A) (held mid end : Option (List ℕ)) (text : List ℕ)
      → IsServed says before now start state held mid → NextIs now next line (Some kind)
      → IsReply says state then line kind text → Appends mid end text → IsServed says before next start then held end
  served_more None now next line kind start state then held mid end text served is said writes =
      subst (λ (n : Option (List ℕ)). NextIs n next line (Some kind)) served is
  served_more (Some all) None next line kind start state then held mid end text served is said writes = absurd served
  served_more (Some all) (Some rest) None line kind start state then held mid end text served is said writes = absurd is
  served_more (Some all) (Some rest) (Some next) line kind start state then held mid end text served is said writes =
      let (asked, asks, replied) = next_answered rest next line kind state then text is said in
      one_more all rest next asked start state then held mid end text served asks replied writes

  -- all lines were answered
  pub served_all : (before now next : Option (List ℕ)) (line : List ℕ) (start state : A) (held mid : Option (List ℕ))
      → IsServed says before now start state held mid → NextIs now next line None → ServesAll says before start state held mid
  served_all None now next line start state held mid served is = tt
  served_all (Some all) None next line start state held mid served is = absurd served
  served_all (Some all) (Some rest) None line start state held mid served is = absurd is
  served_all (Some all) (Some rest) (Some next) line start state held mid served is =
      let whole : ended_lines all ≡ served.done =
      served.split ∙ ap (λ (l : List (List ℕ)). served.done ++ l) (none_ended rest is.0) ∙ append-nil served.done in
      (served.text, subst (λ (l : List (List ℕ)). AreAnswered says start l state served.text) (sym whole) served.answered, served.written)

  -- the lines so far were answered
  pub served_some : (before now : Option (List ℕ)) (start state : A) (held mid : Option (List ℕ)) → IsServed says before now start state held mid
      → ServesSome says before start state held mid
  served_some None now start state held mid served = tt
  served_some (Some all) None start state held mid served = absurd served
  served_some (Some all) (Some rest) start state held mid served =
      (served.text, record { done = served.done; later = ended_lines rest; split = served.split; answered = served.answered }, served.written)

  -- what was written is a front of the replies
  pub front_served : (Is : A → Type 0) (before now : Option (List ℕ)) (start state : A) (held mid : Option (List ℕ)) → Is state
      → IsServed says before now start state held mid → ServesFront says Is before start held mid
  front_served Is None now start state held mid here served = tt
  front_served Is (Some all) None start state held mid here served = absurd served
  front_served Is (Some all) (Some rest) start state held mid here served = (
    state,
    served.text,
    here,
    record { done = served.done; later = ended_lines rest; split = served.split; answered = served.answered },
    AppendsFront-all held mid served.text served.written,
  )

  -- the same where a front of one more reply was written
  pub front_written : (Is : A → Type 0) (before now next : Option (List ℕ)) (line : List ℕ) (kind : Length) (start state then : A)
      (held mid end : Option (List ℕ)) (text : List ℕ) → Is then → IsServed says before now start state held mid
      → NextIs now next line (Some kind) → IsReply says state then line kind text → AppendsFront mid end text
      → ServesFront says Is before start held end
  front_written Is None now next line kind start state then held mid end text here served is said writes = tt
  front_written Is (Some all) None next line kind start state then held mid end text here served is said writes = absurd served
  front_written Is (Some all) (Some rest) None line kind start state then held mid end text here served is said writes = absurd is
  front_written Is (Some all) (Some rest) (Some next) line kind start state then held mid end text here served is said writes =
      let (asked, asks, replied) = next_answered rest next line kind state then text is said in (
        then,
        served.text ++ text,
        here,
        record {
          done = served.done ++ asked ∷ [];
          later = ended_lines next;
          split = served.split ∙ ap (λ (l : List (List ℕ)). served.done ++ l) asks ∙ sym (append_assoc served.done (asked ∷ []) (ended_lines next));
          answered = answered_more served.done asked start state then served.text text served.answered replied;
        },
        AppendsFront-second held mid end served.text text served.written writes,
      )

-- at the end of what is told the source is at its end
pub ends_told : (held : List ℕ) (now : Option (List ℕ)) (left : Option (List ℕ)) (line : List ℕ) → NextIs now (told held left) line None → IsAtEnd left
ends_told held now None line is = tt
ends_told held None (Some left) line is = absurd (cc)
ends_told held (Some all) (Some left) line is = second held left is.1
  where
    second : (xs ys : List ℕ) → xs ++ ys ≡ [] → ys ≡ []
    second [] ys e = e
    second (x ∷ xs) ys e = absurd (cc)

-- what was written stays where it could not be passed on
pub front_kept : {T E : Type 0} (result : Result T E) (before between after : Option (List ℕ)) (text : List ℕ) → Appends before between text
    → Keeps between after → OnErr result (AppendsFront before after text)
front_kept (Ok x) before between after text appended kept = tt
front_kept (Err e) before between after text appended kept = AppendsFront-all before after text (kept ∙ appended)
