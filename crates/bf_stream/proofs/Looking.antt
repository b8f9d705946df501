-- What a look at the next line tells.
use Rattle.std.proofs.Common.{◌≡◌, ℕ, ◌≤◌, Bool, true, false, cond, List, length, take, Option, Some, None, Result, Ok, Err, refl, sym, ap, subst, ◌∙◌}
use Rattle.std.proofs.Common.{if◌then◌else◌}
use Rattle.std.specs.Bool.{OnTrue}
use Rattle.std.specs.Result.{IfOk}
use Rattle.bf_grammar.specs.declared.fault.Limit.TheVariants.{Line}
use Rattle.bf_grammar.specs.declared.fault.Limits.{Limits}
use Rattle.bf_grammar.specs.declared.fault.StreamFault.{StreamFault}
use Rattle.bf_grammar.specs.declared.fault.StreamFault.TheVariants.{TooLarge}
use Rattle.bf_grammar.specs.Place.{Place, Reading, and_then, pure, lifted, ◌>>=◌, Gives}
use Rattle.bf_grammar.specs.Lines.{Front, Nothing, Whole, Long, text_of, front_line, has_word, next_front, is_at, at_word, missing, is_line, at_command}
use Rattle.bf_grammar.proofs.Composing.{fails_here, fails_alike}
use Rattle.bf_stream.specs.declared.front.Ahead.{Ahead}
use Rattle.bf_stream.specs.declared.front.Ahead.TheVariants as ahead
use Rattle.bf_stream.specs.Fronts.{cut, seen, Finds, FindsNext, told_word, told_line, told_missing}
use Rattle.bf_stream.specs.Held.{Held, HasLine, place_of}
use Rattle.bf_stream.proofs.Going.{Read}
use Rattle.bf_stream.proofs.Passing.{found_as, cut_err}
use Rattle.bf_stream.proofs.Words.{has_word-cut}

-- a reading that is a told answer behind the one that found something
gives_told : {X : Type 0} (before after : Option Place) (told : Result X StreamFault) (held : Held) (left : Option (List ℕ)) (a : Ahead) (read : Reading Front)
    (next : Front → Reading X)
    → Finds read before held left (Ok a) → ((f : Front) (q : Place) → cut f ≡ seen held a → place_of held left ≡ Some q → next f q ≡ lifted told q)
    → Gives (λ x. x) before (place_of held left) told (read >>= next)
gives_told {X} None after (Ok x) held left a read next found tells = found.gives
gives_told {X} None after (Err fault) held left a read next found tells = tt
gives_told {X} (Some p) after told held left a read next found tells = go told tells found.gives
  where
    go : (r : Result X StreamFault) → ((f : Front) (q : Place) → cut f ≡ seen held a → place_of held left ≡ Some q → next f q ≡ lifted r q)
        → Gives (seen held) (Some p) (place_of held left) (Ok a) (read >>= λ f. pure (cut f)) → Gives (λ x. x) (Some p) (place_of held left) r (read >>= next)
    go (Ok x) tells (q, at, goes) =
        let f = found_as read p q (seen held a) at in
        (q, ap (λ (g : Read Front). and_then g next) f.1 ∙ tells f.0 q f.2 goes, goes)
    go (Err fault) tells (q, at, goes) =
        let f = found_as read p q (seen held a) at in
        fails_here fault _ (ap (λ (g : Read Front). and_then g next) f.1 ∙ tells f.0 q f.2 goes)

-- a reading that failed at the look ahead
pub gives_look_failed : {X : Type 0} (before after : Option Place) (fault : StreamFault) (held : Held) (left : Option (List ℕ)) (read : Reading Front)
    (next : Front → Reading X)
    → Finds read before held left (Err fault) → Gives (λ x. x) before after (Err fault) (read >>= next)
gives_look_failed None after fault held left read next found = tt
gives_look_failed {X} (Some p) after fault held left read next found =
    fails_alike fault ((read >>= λ f. pure (cut f)) p) ((read >>= next) p) (λ is. ap (λ (g : Read Front). and_then g next) (cut_err (read p) fault is))
    found.gives

-- ---- the first word

abbrev decide_word : List ℕ → Front → Result Bool StreamFault
decide_word word Nothing = Ok false
decide_word word (Whole text) = Ok (has_word word text)
decide_word word (Long text) = if has_word word text then Err (TooLarge Line) else Ok false

long_word : (b : Bool) (q : Place) → cond {A = Read Bool} b (Err (TooLarge Line)) (Ok (false, q)) ≡ lifted (cond b (Err (TooLarge Line)) (Ok false)) q
long_word true q = refl
long_word false q = refl

is_at_is : (word : List ℕ) (f : Front) (q : Place) → is_at word f q ≡ lifted (decide_word word f) q
is_at_is word Nothing q = refl
is_at_is word (Whole text) q = refl
is_at_is word (Long text) q = long_word (has_word word text) q

told_word_is : (word : List ℕ) (held : Held) (f : Front) (a : Ahead) → length word ≤ 14 → cut f ≡ seen held a
    → told_word word (front_line held.bytes) a ≡ decide_word word f
told_word_is word held Nothing ahead.Nothing short same = refl
told_word_is word held Nothing ahead.Whole short same = absurd (cc)
told_word_is word held Nothing ahead.Long short same = absurd (cc)
told_word_is word held (Whole text) ahead.Nothing short same = absurd (cc)
told_word_is word held (Whole text) ahead.Whole short same = ap (λ (t : List ℕ). let r : Result Bool StreamFault = Ok (has_word word t) in r)
    (sym (ap text_of same))
told_word_is word held (Whole text) ahead.Long short same = absurd (cc)
told_word_is word held (Long text) ahead.Nothing short same = absurd (cc)
told_word_is word held (Long text) ahead.Whole short same = absurd (cc)
told_word_is word held (Long text) ahead.Long short same =
    let first : take 16 text ≡ take 16 (front_line held.bytes) = ap text_of same in
    ap (λ (b : Bool). cond {A = Result Bool StreamFault} b (Err (TooLarge Line)) (Ok false))
    (sym (has_word-cut word (front_line held.bytes) short) ∙ ap (has_word word) (sym first) ∙ has_word-cut word text short)

pub word_given : (limits : Limits) (word : List ℕ) (before : Option Place) (held : Held) (left : Option (List ℕ)) (a : Ahead) (text : List ℕ)
    (r : Result Bool StreamFault) → length word ≤ 14
    → FindsNext false limits before held left (Ok a) → text ≡ front_line held.bytes → r ≡ told_word word text a
    → Gives (λ there. there) before (place_of held left) r (at_word limits word)
unfolding at_word
word_given limits word before held left a text r short found t is =
    subst (λ (s : Result Bool StreamFault). Gives (λ there. there) before (place_of held left) s (at_word limits word))
    (sym (is ∙ ap (λ (l : List ℕ). told_word word l a) t))
    (gives_told before (place_of held left) (told_word word (front_line held.bytes) a) held left a (next_front false limits) (is_at word) found
    (λ f q same goes. is_at_is word f q ∙ ap (λ (s : Result Bool StreamFault). lifted s q) (sym (told_word_is word held f a short same))))

pub word_line : (word text : List ℕ) (held : Held) (left : Option (List ℕ)) (a : Ahead) (r : Result Bool StreamFault) → (a ≡ ahead.Whole → HasLine held left)
    → r ≡ told_word word text a → IfOk r (λ there. OnTrue there (HasLine held left))
word_line word text held left a r whole is =
    subst (λ (s : Result Bool StreamFault). IfOk s (λ there. OnTrue there (HasLine held left))) (sym is) (go a whole)
  where
    never : (b : Bool) → IfOk (cond {A = Result Bool StreamFault} b (Err (TooLarge Line)) (Ok false)) (λ there. OnTrue there (HasLine held left))
    never true = tt
    never false = tt

    where_line : (b : Bool) → HasLine held left → OnTrue b (HasLine held left)
    where_line true has = has
    where_line false has = tt

    go : (f : Ahead) → (f ≡ ahead.Whole → HasLine held left) → IfOk (told_word word text f) (λ there. OnTrue there (HasLine held left))
    go ahead.Nothing whole = tt
    go ahead.Whole whole = where_line (has_word word text) (whole refl)
    go ahead.Long whole = never (has_word word text)

pub word_failed : (limits : Limits) (word : List ℕ) (before after : Option Place) (fault : StreamFault) (held : Held) (left : Option (List ℕ))
    → FindsNext false limits before held left (Err fault) → Gives (λ there. there) before after (Err fault) (at_word limits word)
unfolding at_word
word_failed limits word before after fault held left found = gives_look_failed before after fault held left (next_front false limits) (is_at word) found

-- ---- where a command may stand

line_is : (held : Held) (f : Front) (a : Ahead) (q : Place) → cut f ≡ seen held a → is_line f q ≡ lifted (told_line a) q
line_is held Nothing ahead.Nothing q same = refl
line_is held Nothing ahead.Whole q same = absurd (cc)
line_is held Nothing ahead.Long q same = absurd (cc)
line_is held (Whole text) ahead.Nothing q same = absurd (cc)
line_is held (Whole text) ahead.Whole q same = refl
line_is held (Whole text) ahead.Long q same = absurd (cc)
line_is held (Long text) ahead.Nothing q same = absurd (cc)
line_is held (Long text) ahead.Whole q same = absurd (cc)
line_is held (Long text) ahead.Long q same = refl

pub line_given : (limits : Limits) (before : Option Place) (held : Held) (left : Option (List ℕ)) (a : Ahead) (r : Result Bool StreamFault)
    → FindsNext true limits before held left (Ok a) → r ≡ told_line a → Gives (λ there. there) before (place_of held left) r (at_command limits)
unfolding at_command
line_given limits before held left a r found is =
    subst (λ (s : Result Bool StreamFault). Gives (λ there. there) before (place_of held left) s (at_command limits)) (sym is)
    (gives_told before (place_of held left) (told_line a) held left a (next_front true limits) is_line found (λ f q same goes. line_is held f a q same))

pub line_line : (held : Held) (left : Option (List ℕ)) (a : Ahead) (r : Result Bool StreamFault) → (a ≡ ahead.Whole → HasLine held left) → r ≡ told_line a
    → IfOk r (λ there. OnTrue there (HasLine held left))
line_line held left a r whole is =
    subst (λ (s : Result Bool StreamFault). IfOk s (λ there. OnTrue there (HasLine held left))) (sym is) (go a whole)
  where
    go : (f : Ahead) → (f ≡ ahead.Whole → HasLine held left) → IfOk (told_line f) (λ there. OnTrue there (HasLine held left))
    go ahead.Nothing whole = tt
    go ahead.Whole whole = whole refl
    go ahead.Long whole = tt

pub line_failed : (limits : Limits) (before after : Option Place) (fault : StreamFault) (held : Held) (left : Option (List ℕ))
    → FindsNext true limits before held left (Err fault) → Gives (λ there. there) before after (Err fault) (at_command limits)
unfolding at_command
line_failed limits before after fault held left found = gives_look_failed before after fault held left (next_front true limits) is_line found

-- ---- a part that must stand

missing_is : (held : Held) (f : Front) (a : Ahead) (q : Place) → cut f ≡ seen held a → missing {X = Unit {0}} f q ≡ Err (told_missing q.line a)
missing_is held Nothing ahead.Nothing q same = refl
missing_is held Nothing ahead.Whole q same = absurd (cc)
missing_is held Nothing ahead.Long q same = absurd (cc)
missing_is held (Whole text) ahead.Nothing q same = absurd (cc)
missing_is held (Whole text) ahead.Whole q same = refl
missing_is held (Whole text) ahead.Long q same = absurd (cc)
missing_is held (Long text) ahead.Nothing q same = absurd (cc)
missing_is held (Long text) ahead.Whole q same = absurd (cc)
missing_is held (Long text) ahead.Long q same = refl

line_at : (held : Held) (left : Option (List ℕ)) (q : Place) → place_of held left ≡ Some q → held.line ≡ q.line
line_at held None q is = absurd (cc)
line_at held (Some left) q is = ap (line_or 0) is
  where
    line_or : ℕ → Option Place → ℕ
    line_or d None = d
    line_or d (Some p) = p.line

pub missing_given : (limits : Limits) (before : Option Place) (held : Held) (left : Option (List ℕ)) (a : Ahead) (line : ℕ) (fault : StreamFault)
    → FindsNext false limits before held left (Ok a) → line ≡ held.line → fault ≡ told_missing line a
    → Gives (λ done. done) before (place_of held left) (Err fault) (next_front false limits >>= missing {X = Unit {0}})
missing_given limits before held left a line fault found at is =
    gives_told before (place_of held left) (Err fault) held left a (next_front false limits) missing found
    (λ f q same goes. missing_is held f a q same ∙ ap (λ (x : StreamFault). let r : Read (Unit {0}) = Err x in r)
    (ap (λ n. told_missing n a) (sym (at ∙ line_at held left q goes)) ∙ sym is))

pub missing_failed : (limits : Limits) (before after : Option Place) (fault : StreamFault) (held : Held) (left : Option (List ℕ))
    → FindsNext false limits before held left (Err fault) → Gives (λ done. done) before after (Err fault) (next_front false limits >>= missing {X = Unit {0}})
missing_failed limits before after fault held left found = gives_look_failed before after fault held left (next_front false limits) missing found
