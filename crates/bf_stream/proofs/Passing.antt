-- Lines that are passed over, and what stands behind them.
use Rattle.std.proofs.Common.{◌≡◌, ℕ, Bool, true, false, cond, List, take, Option, Some, None, Result, Ok, Err, refl, sym, ap, subst, ◌∙◌, ◌⊎◌, inl, inr}
use Rattle.std.proofs.Common.{if◌then◌else◌}
use Rattle.std.specs.Option.{option_map}
use Rattle.bf_grammar.specs.declared.fault.Limit.TheVariants.{Line}
use Rattle.bf_grammar.specs.declared.fault.Limits.{Limits}
use Rattle.bf_grammar.specs.declared.fault.StreamFault.{StreamFault}
use Rattle.bf_grammar.specs.declared.fault.StreamFault.TheVariants.{TooLarge}
use Rattle.bf_grammar.specs.Place.{Place, Reading, and_then, pure, ◌>>=◌, Fails, Gives, goes_on, repeat}
use Rattle.bf_grammar.specs.Lines.{Front, Nothing, Whole, Long, text_of, front, front_line, past_line, is_passed_over, past_passed_over, next_front}
use Rattle.bf_grammar.proofs.Composing.{fails_here, fails_alike, gives_unknown, gives_moved}
use Rattle.bf_grammar.proofs.Repeating.{repeat-is, same_place, same_value}
use Rattle.bf_grammar.proofs.Onward.{then_gave, front-stays, pass_over, passed_over_takes}
use Rattle.bf_stream.specs.declared.front.Ahead.{Ahead}
use Rattle.bf_stream.specs.declared.front.Ahead.TheVariants as ahead
use Rattle.bf_stream.specs.Fronts.{cut, seen, Finds, FindsFront, FindsNext, told_passed}
use Rattle.bf_stream.specs.Going.{GoesOnAs}
use Rattle.bf_stream.specs.Held.{Held, HasLine, place_of}
use Rattle.bf_stream.proofs.Going.{Read}
use Rattle.bf_stream.proofs.Words.{comment-cut}

-- ---- what was found, cut or not

pub found_as : (read : Reading Front) (p q : Place) (x : Front) → (read >>= λ found. pure (cut found)) p ≡ Ok (x, q)
    → (f : Front) × (read p ≡ Ok (f, q)) × (cut f ≡ x)
found_as read p q x is = go (then_gave read (λ found. pure (cut found)) x p q is)
  where
    go : (f : Front) × (m : Place) × (read p ≡ Ok (f, m)) × (pure (cut f) m ≡ Ok (x, q)) → (f : Front) × (read p ≡ Ok (f, q)) × (cut f ≡ x)
    go (f, m, at, goes) = (f, at ∙ ap (λ (r : Place). let gave : Read Front = Ok (f, r) in gave) (same_place (cut f) x m q goes), same_value (cut f) x m q goes)

pub cut_as : (read : Reading Front) (p q : Place) (f x : Front) → read p ≡ Ok (f, q) → cut f ≡ x → (read >>= λ found. pure (cut found)) p ≡ Ok (x, q)
cut_as read p q f x at same = ap (λ (r : Read Front). and_then r (λ found. pure (cut found))) at ∙ ap (λ (g : Front). let gave : Read Front = Ok (g, q) in gave)
    same

pub cut_err : (r : Read Front) (fault : StreamFault) → and_then r (λ found. pure (cut found)) ≡ Err fault → r ≡ Err fault
cut_err (Ok (f, m)) fault is = absurd (cc)
cut_err (Err other) fault is = is

-- ---- one line

next_is : (empty_too : Bool) (limits : Limits) (r : Read Front) (p : Place) → front limits p ≡ r
    → next_front empty_too limits p ≡ goes_on (repeat (pass_over empty_too limits)) (and_then r (past_passed_over empty_too limits))
unfolding next_front
next_is empty_too limits r p at =
    repeat-is (pass_over empty_too limits) (passed_over_takes empty_too limits) tt p
    ∙ ap (λ (g : Read Front). goes_on (repeat (pass_over empty_too limits)) (and_then g (past_passed_over empty_too limits))) at

next_goes : (empty_too : Bool) (limits : Limits) (p : Place)
    → goes_on (repeat (pass_over empty_too limits)) (let step : Read (Unit {0} ⊎ Front) = Ok (inl tt, p) in step) ≡ next_front empty_too limits p
unfolding next_front
next_goes empty_too limits p = refl

-- whether what stands in front is passed over
abbrev decide : Bool → Front → Result Bool StreamFault
decide empty_too Nothing = Ok false
decide empty_too (Whole text) = Ok (is_passed_over empty_too text)
decide empty_too (Long text) = if is_passed_over false text then Err (TooLarge Line) else Ok false

abbrev decided : Front → Place → Result Bool StreamFault → Read (Unit {0} ⊎ Front)
decided f p (Ok passed) = if passed then Ok (inl tt, past_line p) else Ok (inr f, p)
decided f p (Err fault) = Err fault

long_decided : (passed : Bool) (f : Front) (p : Place)
    → cond {A = Read (Unit {0} ⊎ Front)} passed (Err (TooLarge Line)) (Ok (inr f, p)) ≡ decided f p (cond passed (Err (TooLarge Line)) (Ok false))
long_decided true f p = refl
long_decided false f p = refl

passed_decided : (empty_too : Bool) (limits : Limits) (f : Front) (p : Place) → past_passed_over empty_too limits f p ≡ decided f p (decide empty_too f)
passed_decided empty_too limits Nothing p = refl
passed_decided empty_too limits (Whole text) p = refl
passed_decided empty_too limits (Long text) p = long_decided (is_passed_over false text) (Long text) p

told_decide : (empty_too : Bool) (held : Held) (f : Front) (a : Ahead) → cut f ≡ seen held a
    → told_passed empty_too (front_line held.bytes) a ≡ decide empty_too f
told_decide empty_too held Nothing ahead.Nothing same = refl
told_decide empty_too held Nothing ahead.Whole same = absurd (cc)
told_decide empty_too held Nothing ahead.Long same = absurd (cc)
told_decide empty_too held (Whole text) ahead.Nothing same = absurd (cc)
told_decide empty_too held (Whole text) ahead.Whole same = ap (λ (t : List ℕ). let r : Result Bool StreamFault = Ok (is_passed_over empty_too t) in r)
    (sym (ap text_of same))
told_decide empty_too held (Whole text) ahead.Long same = absurd (cc)
told_decide empty_too held (Long text) ahead.Nothing same = absurd (cc)
told_decide empty_too held (Long text) ahead.Whole same = absurd (cc)
told_decide empty_too held (Long text) ahead.Long same =
    let first : take 16 text ≡ take 16 (front_line held.bytes) = ap text_of same in
    ap (λ (b : Bool). cond {A = Result Bool StreamFault} b (Err (TooLarge Line)) (Ok false))
    (sym (comment-cut (front_line held.bytes)) ∙ ap (is_passed_over false) (sym first) ∙ comment-cut text)

-- the next front, by what was told of the one here
next_told : (empty_too : Bool) (limits : Limits) (held : Held) (a : Ahead) (told : Result Bool StreamFault) (f : Front) (p : Place) → front limits p ≡ Ok (f, p)
    → cut f ≡ seen held a → told_passed empty_too (front_line held.bytes) a ≡ told
    → next_front empty_too limits p ≡ goes_on (repeat (pass_over empty_too limits)) (decided f p told)
next_told empty_too limits held a told f p at same is =
    next_is empty_too limits (Ok (f, p)) p at
    ∙ ap (goes_on (repeat (pass_over empty_too limits)))
    (passed_decided empty_too limits f p ∙ ap (decided f p) (sym (told_decide empty_too held f a same) ∙ is))

front_here : (limits : Limits) (f : Front) (p q : Place) → front limits p ≡ Ok (f, q) → front limits p ≡ Ok (f, p)
front_here limits f p q at = at ∙ ap (λ (r : Place). let gave : Read Front = Ok (f, r) in gave) (sym (front-stays limits f p q at))

passed_whole : (empty_too : Bool) (text : List ℕ) (a : Ahead) → told_passed empty_too text a ≡ Ok true → a ≡ ahead.Whole
passed_whole empty_too text ahead.Nothing is = absurd (let e : false ≡ true = ap (ok_or true) is in cc)
  where
    ok_or : Bool → Result Bool StreamFault → Bool
    ok_or d (Ok b) = b
    ok_or d (Err fault) = d
passed_whole empty_too text ahead.Whole is = refl
passed_whole empty_too text ahead.Long is = absurd (never (is_passed_over false text) is)
  where
    never : (b : Bool) → cond {A = Result Bool StreamFault} b (Err (TooLarge Line)) (Ok false) ≡ Ok true → ⊥
    never true e = cc
    never false e = cc

-- ---- the exits of a step

pub step_stopped : (empty_too : Bool) (limits : Limits) (before : Option Place) (held held' : Held) (left left' : Option (List ℕ)) (fault : StreamFault)
    → FindsFront limits before held left (Err fault) → FindsNext empty_too limits before held' left' (Err fault)
step_stopped empty_too limits None held held' left left' fault found = record { gives = tt; line = tt }
step_stopped empty_too limits (Some p) held held' left left' fault found = record {
  gives = fails_alike fault ((front limits >>= λ f. pure (cut f)) p) ((next_front empty_too limits >>= λ f. pure (cut f)) p)
      (λ is. ap (λ (r : Read Front). and_then r (λ f. pure (cut f))) (next_is empty_too limits (Err fault) p (cut_err (front limits p) fault is))) found.gives;
  line = tt;
}

pub step_refused : (empty_too : Bool) (limits : Limits) (before : Option Place) (held held' : Held) (left left' : Option (List ℕ)) (a : Ahead)
    (fault : StreamFault)
    → FindsFront limits before held left (Ok a) → told_passed empty_too (front_line held.bytes) a ≡ Err fault
    → FindsNext empty_too limits before held' left' (Err fault)
step_refused empty_too limits None held held' left left' a fault found is = record { gives = tt; line = tt }
step_refused empty_too limits (Some p) held held' left left' a fault found is = record { gives = go found.gives; line = tt }
  where
    go : Gives (seen held) (Some p) (place_of held left) (Ok a) (front limits >>= λ f. pure (cut f))
        → Fails fault ((next_front empty_too limits >>= λ f. pure (cut f)) p)
    go (q, at, goes) =
        let found_f = found_as (front limits) p q (seen held a) at in
        fails_here fault _ (ap (λ (r : Read Front). and_then r (λ f. pure (cut f)))
        (next_told empty_too limits held a (Err fault) found_f.0 p (front_here limits found_f.0 p q found_f.1) found_f.2 is))

pub step_passed : (empty_too : Bool) (limits : Limits) (before after : Option Place) (held : Held) (left : Option (List ℕ)) (a : Ahead)
    → FindsFront limits before held left (Ok a) → told_passed empty_too (front_line held.bytes) a ≡ Ok true
    → (HasLine held left → after ≡ option_map past_line (place_of held left))
    → GoesOnAs (next_front empty_too limits) (next_front empty_too limits) before after
step_passed empty_too limits None after held left a found is goes_on_at = goes_on_at (found.line (passed_whole empty_too (front_line held.bytes) a is)) ∙ ap
    (option_map past_line) found.gives
step_passed empty_too limits (Some p) after held left a found is goes_on_at = go found.gives
  where
    go : Gives (seen held) (Some p) (place_of held left) (Ok a) (front limits >>= λ f. pure (cut f))
        → GoesOnAs (next_front empty_too limits) (next_front empty_too limits) (Some p) after
    go (q, at, goes) =
        let found_f = found_as (front limits) p q (seen held a) at in
        let stays : p ≡ q = front-stays limits found_f.0 p q found_f.1 in (
          past_line p,
          next_told empty_too limits held a (Ok true) found_f.0 p (front_here limits found_f.0 p q found_f.1) found_f.2 is ∙ next_goes empty_too limits
              (past_line p),
          goes_on_at (found.line (passed_whole empty_too (front_line held.bytes) a is)) ∙ ap (option_map past_line)
              (goes ∙ ap (λ (r : Place). let o : Option Place = Some r in o) (sym stays)),
        )

pub step_ends : (empty_too : Bool) (limits : Limits) (before : Option Place) (held : Held) (left : Option (List ℕ)) (a : Ahead)
    → FindsFront limits before held left (Ok a) → told_passed empty_too (front_line held.bytes) a ≡ Ok false
    → FindsNext empty_too limits before held left (Ok a)
step_ends empty_too limits None held left a found is = record { gives = found.gives; line = found.line }
step_ends empty_too limits (Some p) held left a found is = record { gives = go found.gives; line = found.line }
  where
    go : Gives (seen held) (Some p) (place_of held left) (Ok a) (front limits >>= λ f. pure (cut f))
        → Gives (seen held) (Some p) (place_of held left) (Ok a) (next_front empty_too limits >>= λ f. pure (cut f))
    go (q, at, goes) =
        let found_f = found_as (front limits) p q (seen held a) at in
        let stays : p ≡ q = front-stays limits found_f.0 p q found_f.1 in (
          q,
          cut_as (next_front empty_too limits) p q found_f.0 (seen held a)
              (next_told empty_too limits held a (Ok false) found_f.0 p (front_here limits found_f.0 p q found_f.1) found_f.2 is ∙ ap
              (λ (r : Place). let gave : Read Front = Ok (found_f.0, r) in gave) stays) found_f.2,
          goes,
        )

-- ---- several lines

pub finds_resumed : (read : Reading Front) (before mid : Option Place) (held : Held) (left : Option (List ℕ)) (r : Result Ahead StreamFault)
    → GoesOnAs read read before mid → Finds read mid held left r → Finds read before held left r
finds_resumed read None mid held left r first found = record {
  gives = gives_unknown (seen held) (seen held) (place_of held left) r (read >>= λ f. pure (cut f)) (read >>= λ f. pure (cut f))
      (subst (λ (m : Option Place). Gives (seen held) m (place_of held left) r (read >>= λ f. pure (cut f))) first found.gives);
  line = found.line;
}
finds_resumed read (Some p) mid held left r (q, same, goes) found = record {
  gives = gives_moved (seen held) p q (place_of held left) r (read >>= λ f. pure (cut f)) (read >>= λ f. pure (cut f))
      (ap (λ (g : Read Front). and_then g (λ f. pure (cut f))) same)
      (subst (λ (m : Option Place). Gives (seen held) m (place_of held left) r (read >>= λ f. pure (cut f))) goes found.gives);
  line = found.line;
}
