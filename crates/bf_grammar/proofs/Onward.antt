-- No look ahead, line or data part goes back, and each line that is passed over or taken, and each part that may
-- stand and does, takes at least a byte.
use Rattle.std.proofs.Common.{◌≡◌, ℕ, ◌+◌, ◌<◌, ◌≤◌, Bool, true, false, cond, List, [], ◌∷◌, ◌++◌, length, take, Option, Some, None, Result, Ok, Err, refl, sym}
use Rattle.std.proofs.Common.{◌∙◌, ap, subst, ◌⊎◌, inl, inr, arith, length-drop}
use Rattle.std.specs.Prelude.{if◌then◌else◌, nat_lt, nat_le, ◌==◌, ◌&&◌, ◌||◌, not, codes}
use Rattle.bf_grammar.specs.declared.command.Change.TheVariants.{Modify, Delete, DeleteAll}
use Rattle.bf_grammar.specs.declared.command.DataRef.TheVariants as dataref
use Rattle.bf_grammar.specs.declared.fault.Limit.TheVariants.{Line}
use Rattle.bf_grammar.specs.declared.command.ContentForm.{ContentForm}
use Rattle.bf_grammar.specs.declared.command.ContentForm.TheVariants as content
use Rattle.bf_grammar.specs.declared.command.DataForm.{DataForm}
use Rattle.bf_grammar.specs.declared.command.DataForm.TheVariants.{Counted, Delimited}
use Rattle.bf_grammar.specs.declared.fault.Limits.{Limits}
use Rattle.bf_grammar.specs.declared.fault.StreamFault.{StreamFault}
use Rattle.bf_grammar.specs.declared.fault.StreamFault.TheVariants as faults
use Rattle.bf_grammar.specs.Place.{Place, Reading, is_end_of_line, and_then, pure, refuse, lifted, moved, ◌>>=◌}
use Rattle.bf_grammar.specs.Lines.{Front, Nothing, Whole, Long, front, front_line, has_end_of_line, has_word, past_line, take_line, past_passed_over}
use Rattle.bf_grammar.specs.Lines.{is_passed_over, next_front, is_at, at_word, missing, is_text, must_be_at, is_line, at_command, with_line, skip_end_of_line}
use Rattle.bf_grammar.specs.Lines.{bytes_at, delimited_line, delimited_at}
use Rattle.bf_grammar.specs.Forms.{text_after, where_so, data_form, delimiter_in, modify_form, modified_path}
use Rattle.bf_grammar.specs.Commands.{line_as, optional, required, target_of, target_at, content_at, announced_at, data_at, one_more, dataref_at, modify_at}
use Rattle.bf_grammar.specs.Commands.{delete_at, delete_all_at, some, change_at}
use Rattle.bf_grammar.proofs.Repeating.{NeverBack, TakesSome, same_place, same_value, never_back-pure, never_back-lifted, never_back-then, never_back-if}
use Rattle.bf_grammar.proofs.Repeating.{never_back-moved, never_back-repeat, repeat_ends}

-- a reading takes at least a byte, where some byte is left
abbrev pub TakesThere : {X : Type 0} → Reading X → Type 0
TakesThere {X} read = (x : X) (p q : Place) → 0 < length p.rest → read p ≡ Ok (x, q) → length q.rest < length p.rest

pub never_back-refuse : {X : Type 0} (fault : ℕ → StreamFault) → NeverBack (refuse {X = X} fault)
never_back-refuse fault x p q is = absurd (cc)

-- what a reading gives
abbrev pub Read : Type 0 → Type 0
Read X = Result (X × Place) StreamFault

-- what a reading and another from where it ended gave
pub then_gave : {X Y : Type 0} (read : Reading X) (next : X → Reading Y) (y : Y) (p q : Place) → and_then (read p) next ≡ Ok (y, q)
    → (x : X) × (m : Place) × (read p ≡ Ok (x, m)) × (next x m ≡ Ok (y, q))
then_gave {X} {Y} read next y p q is = go (read p) refl is
  where
    go : (r : Read X) → read p ≡ r → and_then r next ≡ Ok (y, q) → (x : X) × (m : Place) × (read p ≡ Ok (x, m)) × (next x m ≡ Ok (y, q))
    go (Ok (x, m)) at goes = (x, m, at, goes)
    go (Err fault) at goes = absurd (cc)

pub same_rest : (p q : Place) → p ≡ q → length q.rest ≤ length p.rest
same_rest p q is = omega (arith, ap (λ (r : Place). length r.rest) is)

-- where the front is told, the place stays
front_stays : (long whole more empty : Bool) (f g h k x : Front) (fault : StreamFault) (p q : Place)
    → cond {A = Read Front} long (Ok (f, p)) (cond {A = Read Front} whole (Ok (g, p))
    (cond {A = Read Front} more (Err fault) (cond {A = Read Front} empty (Ok (h, p)) (Ok (k, p))))) ≡ Ok (x, q) → p ≡ q
front_stays true whole more empty f g h k x fault p q is = same_place f x p q is
front_stays false true more empty f g h k x fault p q is = same_place g x p q is
front_stays false false true empty f g h k x fault p q is = absurd (cc)
front_stays false false false true f g h k x fault p q is = same_place h x p q is
front_stays false false false false f g h k x fault p q is = same_place k x p q is

pub front-stays : (limits : Limits) (x : Front) (p q : Place) → front limits p ≡ Ok (x, q) → p ≡ q
front-stays limits x p q is =
    front_stays (nat_lt limits.line (length (front_line p.rest))) (has_end_of_line p.rest) p.more (length p.rest == 0) _ _ _ _ x _ p q is

pub never_back-front : (limits : Limits) → NeverBack (front limits)
never_back-front limits x p q is = same_rest p q (front-stays limits x p q is)

-- a whole line in front is at least a byte
pub some_left : (rest : List ℕ) → has_end_of_line rest ≡ true → 0 < length rest
some_left [] is = absurd (cc)
some_left (byte ∷ rest) is = omega arith

not_none_left : (rest : List ℕ) → (length rest == 0) ≡ false → 0 < length rest
not_none_left [] is = absurd (cc)
not_none_left (byte ∷ rest) is = omega arith

front_whole : (long whole more empty : Bool) (a b c text : List ℕ) (fault : StreamFault) (p q : Place)
    → cond {A = Read Front} long (Ok (Long a, p)) (cond {A = Read Front} whole (Ok (Whole b, p))
    (cond {A = Read Front} more (Err fault) (cond {A = Read Front} empty (Ok (Nothing, p)) (Ok (Whole c, p))))) ≡ Ok (Whole text, q)
    → (whole ≡ true) ⊎ (empty ≡ false)
front_whole true whole more empty a b c text fault p q is = absurd (let e = same_value (Long a) (Whole text) p q is in cc)
front_whole false true more empty a b c text fault p q is = inl refl
front_whole false false true empty a b c text fault p q is = absurd (cc)
front_whole false false false true a b c text fault p q is = absurd (let e = same_value Nothing (Whole text) p q is in cc)
front_whole false false false false a b c text fault p q is = inr refl

pub front-there : (limits : Limits) (text : List ℕ) (p q : Place) → front limits p ≡ Ok (Whole text, q) → 0 < length p.rest
front-there limits text p q is = go (front_whole (nat_lt limits.line (length (front_line p.rest))) (has_end_of_line p.rest) p.more (length p.rest == 0) _ _ _
    text _ p q is)
  where
    go : (has_end_of_line p.rest ≡ true) ⊎ ((length p.rest == 0) ≡ false) → 0 < length p.rest
    go (inl ends) = some_left p.rest ends
    go (inr left) = not_none_left p.rest left

-- behind the line in front
pub never_back-take_line : NeverBack take_line
never_back-take_line x p q is = let e : length q.rest ≤ length (past_line p).rest = same_rest (past_line p) q (same_place tt x (past_line p) q is) in let m :
    length (past_line p).rest ≤ length p.rest = never_back-moved (length (front_line p.rest) + 1) p in omega arith

pub takes-past_line : (p : Place) → 0 < length p.rest → length (past_line p).rest < length p.rest
takes-past_line p there = omega (arith, length-drop (length (front_line p.rest) + 1) p.rest)

pub takes-take_line : TakesThere take_line
takes-take_line x p q there is = let e : length q.rest ≤ length (past_line p).rest = same_rest (past_line p) q (same_place tt x (past_line p) q is) in let m :
    length (past_line p).rest < length p.rest = takes-past_line p there in omega arith

-- Passing over a line goes on behind that line, and ends where it began, at the line in front.
abbrev PassesFrom : Limits → Place → Read (Unit {0} ⊎ Front) → Type 0
PassesFrom limits p (Ok (inl _, q)) = length q.rest < length p.rest
PassesFrom limits p (Ok (inr f, q)) = (p ≡ q) × (front limits q ≡ Ok (f, q))
PassesFrom limits p (Err fault) = Unit {0}

passes_where : (limits : Limits) (p : Place) (passed : Bool) (f : Front) → length (past_line p).rest < length p.rest → front limits p ≡ Ok (f, p)
    → PassesFrom limits p (cond {A = Read (Unit {0} ⊎ Front)} passed (Ok (inl tt, past_line p)) (Ok (inr f, p)))
passes_where limits p true f less at = less
passes_where limits p false f less at = (refl, at)

long_passes_where : (limits : Limits) (p : Place) (passed : Bool) (fault : StreamFault) (f : Front) → front limits p ≡ Ok (f, p)
    → PassesFrom limits p (cond {A = Read (Unit {0} ⊎ Front)} passed (Err fault) (Ok (inr f, p)))
long_passes_where limits p true fault f at = tt
long_passes_where limits p false fault f at = (refl, at)

passes : (empty_too : Bool) (limits : Limits) (f : Front) (p : Place) → front limits p ≡ Ok (f, p) → PassesFrom limits p (past_passed_over empty_too limits f p)
passes empty_too limits Nothing p at = (refl, at)
passes empty_too limits (Whole text) p at = passes_where limits p (is_passed_over empty_too text) (Whole text)
    (takes-past_line p (front-there limits text p p at)) at
passes empty_too limits (Long text) p at = long_passes_where limits p (is_passed_over false text) _ (Long text) at

abbrev pub pass_over : Bool → Limits → Unit {0} → Reading (Unit {0} ⊎ Front)
pass_over empty_too limits = λ _. front limits >>= past_passed_over empty_too limits

step_passes : (empty_too : Bool) (limits : Limits) (p : Place) (x : Unit {0} ⊎ Front) (q : Place) → pass_over empty_too limits tt p ≡ Ok (x, q)
    → PassesFrom limits p (Ok (x, q))
step_passes empty_too limits p x q is = go (then_gave (front limits) (past_passed_over empty_too limits) x p q is)
  where
    go : (f : Front) × (m : Place) × (front limits p ≡ Ok (f, m)) × (past_passed_over empty_too limits f m ≡ Ok (x, q)) → PassesFrom limits p (Ok (x, q))
    go (f, m, at, goes) =
        let stays : p ≡ m = front-stays limits f p m at in
        let here : front limits p ≡ Ok (f, p) = at ∙ ap (λ (r : Place). let gave : Read Front = Ok (f, r) in gave) (sym stays) in
        let there : past_passed_over empty_too limits f p ≡ Ok (x, q) = ap (past_passed_over empty_too limits f) stays ∙ goes in
        subst (PassesFrom limits p) there (passes empty_too limits f p here)

pub passed_over_takes : (empty_too : Bool) (limits : Limits) → TakesSome (pass_over empty_too limits)
passed_over_takes empty_too limits a b p q is = step_passes empty_too limits p (inl b) q is

never_back-pass_over : (empty_too : Bool) (limits : Limits) (a : Unit {0}) → NeverBack (pass_over empty_too limits a)
never_back-pass_over empty_too limits a (inl b) p q is = let h : length q.rest < length p.rest = step_passes empty_too limits p (inl b) q is in omega arith
never_back-pass_over empty_too limits a (inr f) p q is = same_rest p q (step_passes empty_too limits p (inr f) q is).0

pub never_back-next_front : (empty_too : Bool) (limits : Limits) → NeverBack (next_front empty_too limits)
unfolding next_front
never_back-next_front empty_too limits = never_back-repeat (pass_over empty_too limits) (never_back-pass_over empty_too limits) tt

-- what a look ahead ends with stands in front there
pub next_front-is : (empty_too : Bool) (limits : Limits) (f : Front) (p q : Place) → next_front empty_too limits p ≡ Ok (f, q) → front limits q ≡ Ok (f, q)
unfolding next_front
next_front-is empty_too limits f p q is = repeat_ends (pass_over empty_too limits) (λ (g : Front) (r : Place). front limits r ≡ Ok (g, r))
    (λ a g m r ends. (step_passes empty_too limits m (inr g) r ends).1) tt f p q is

-- a look at the front stays there, and where it finds a line, some byte is left
abbrev LooksAt : Limits → Place → Read Bool → Type 0
LooksAt limits p (Ok (there, q)) = (p ≡ q) × (there ≡ true → 0 < length p.rest)
LooksAt limits p (Err fault) = Unit {0}

looks_long : (limits : Limits) (p : Place) (test : Bool) (fault : StreamFault) → LooksAt limits p (cond {A = Read Bool} test (Err fault) (Ok (false, p)))
looks_long limits p true fault = tt
looks_long limits p false fault = (refl, λ is. absurd (cc))

looks_at : (limits : Limits) (word : List ℕ) (f : Front) (p : Place) → front limits p ≡ Ok (f, p) → LooksAt limits p (is_at word f p)
looks_at limits word Nothing p at = (refl, λ is. absurd (cc))
looks_at limits word (Whole text) p at = (refl, λ is. front-there limits text p p at)
looks_at limits word (Long text) p at = looks_long limits p (has_word word text) _

looks_at_command : (limits : Limits) (f : Front) (p : Place) → front limits p ≡ Ok (f, p) → LooksAt limits p (is_line f p)
looks_at_command limits Nothing p at = (refl, λ is. absurd (cc))
looks_at_command limits (Whole text) p at = (refl, λ is. front-there limits text p p at)
looks_at_command limits (Long text) p at = tt

-- a look ahead doesn't go back, and where it finds a line, some byte is left there
abbrev Finds : Place → Bool → Place → Type 0
Finds p there q = (length q.rest ≤ length p.rest) × (there ≡ true → 0 < length q.rest)

finds : (empty_too : Bool) (limits : Limits) (look : Front → Reading Bool)
    → ((f : Front) (p : Place) → front limits p ≡ Ok (f, p) → LooksAt limits p (look f p))
    → (there : Bool) (p q : Place) → (next_front empty_too limits >>= look) p ≡ Ok (there, q) → Finds p there q
finds empty_too limits look looks there p q is = go (then_gave (next_front empty_too limits) look there p q is)
  where
    go : (f : Front) × (m : Place) × (next_front empty_too limits p ≡ Ok (f, m)) × (look f m ≡ Ok (there, q)) → Finds p there q
    go (f, m, at, goes) =
        let looked : LooksAt limits m (Ok (there, q)) = subst (LooksAt limits m) goes (looks f m (next_front-is empty_too limits f p m at)) in
        let back : length m.rest ≤ length p.rest = never_back-next_front empty_too limits f p m at in
        let e : length m.rest ≡ length q.rest = ap (λ (r : Place). length r.rest) looked.0 in
        (omega arith, λ is. let h : 0 < length m.rest = looked.1 is in omega arith)

at_word-finds : (limits : Limits) (word : List ℕ) (there : Bool) (p q : Place) → at_word limits word p ≡ Ok (there, q) → Finds p there q
unfolding at_word
at_word-finds limits word there p q is = finds false limits (is_at word) (looks_at limits word) there p q is

at_command-finds : (limits : Limits) (there : Bool) (p q : Place) → at_command limits p ≡ Ok (there, q) → Finds p there q
unfolding at_command
at_command-finds limits there p q is = finds true limits is_line (looks_at_command limits) there p q is

pub never_back-at_word : (limits : Limits) (word : List ℕ) → NeverBack (at_word limits word)
never_back-at_word limits word there p q is = (at_word-finds limits word there p q is).0

pub never_back-at_command : (limits : Limits) → NeverBack (at_command limits)
never_back-at_command limits there p q is = (at_command-finds limits there p q is).0

-- where a word or a command is found, some byte is left
pub at_word-there : (limits : Limits) (word : List ℕ) (p q : Place) → at_word limits word p ≡ Ok (true, q) → 0 < length q.rest
at_word-there limits word p q is = (at_word-finds limits word true p q is).1 refl

pub at_command-there : (limits : Limits) (p q : Place) → at_command limits p ≡ Ok (true, q) → 0 < length q.rest
at_command-there limits p q is = (at_command-finds limits true p q is).1 refl

-- moving on at places by the line in front
pub never_back-with_line : {X : Type 0} (read : ℕ → List ℕ → Reading X) → ((line : ℕ) (text : List ℕ) → NeverBack (read line text)) → NeverBack (with_line read)
never_back-with_line read each x p q is = each p.line (front_line p.rest) x p q is

pub takes_there-with_line : {X : Type 0} (read : ℕ → List ℕ → Reading X) → ((line : ℕ) (text : List ℕ) → TakesThere (read line text))
    → TakesThere (with_line read)
takes_there-with_line read each x p q there is = each p.line (front_line p.rest) x p q there is

-- what takes a byte, takes one with what follows, which doesn't go back
pub takes_there-then : {X Y : Type 0} (read : Reading X) (next : X → Reading Y) → TakesThere read → ((x : X) → NeverBack (next x)) → TakesThere (read >>= next)
takes_there-then {X} {Y} read next takes each y p q there is = go (then_gave read next y p q is)
  where
    go : (x : X) × (m : Place) × (read p ≡ Ok (x, m)) × (next x m ≡ Ok (y, q)) → length q.rest < length p.rest
    go (x, m, at, goes) = let a : length m.rest < length p.rest = takes x p m there at in let b : length q.rest ≤ length m.rest = each x y m q goes in omega
        arith

-- and so it does behind a text that says something
pub takes_there-lifted : {X Y : Type 0} (result : Result X StreamFault) (next : X → Reading Y) → ((x : X) → TakesThere (next x))
    → TakesThere (lifted result >>= next)
takes_there-lifted (Ok x) next each y p q there is = each x y p q there is
takes_there-lifted (Err fault) next each y p q there is = absurd (cc)

pub never_back-line_as : {X : Type 0} (form : ℕ → List ℕ → Result X StreamFault) → NeverBack (line_as form)
never_back-line_as form =
    never_back-with_line (λ line text. lifted (form line text) >>= (λ x. take_line >>= (λ _. pure x)))
    (λ line text. never_back-then (lifted (form line text)) (λ x. take_line >>= (λ _. pure x)) (never_back-lifted (form line text))
    (λ x. never_back-then take_line (λ _. pure x) never_back-take_line (λ _. never_back-pure x)))

pub takes_there-line_as : {X : Type 0} (form : ℕ → List ℕ → Result X StreamFault) → TakesThere (line_as form)
takes_there-line_as form =
    takes_there-with_line (λ line text. lifted (form line text) >>= (λ x. take_line >>= (λ _. pure x)))
    (λ line text. takes_there-lifted (form line text) (λ x. take_line >>= (λ _. pure x))
    (λ x. takes_there-then take_line (λ _. pure x) takes-take_line (λ _. never_back-pure x)))

pub never_back-some : {X : Type 0} (read : Reading X) → NeverBack read → NeverBack (some read)
never_back-some read back = never_back-then read (λ x. pure (Some x)) back (λ x. never_back-pure (Some x))

pub takes_there-some : {X : Type 0} (read : Reading X) → TakesThere read → TakesThere (some read)
takes_there-some read takes = takes_there-then read (λ x. pure (Some x)) takes (λ x. never_back-pure (Some x))

-- a part that may stand takes a byte where it stands
abbrev pub TakesIfSome : {X : Type 0} → Reading (Option X) → Type 0
TakesIfSome {X} read = (x : X) (p q : Place) → read p ≡ Ok (Some x, q) → length q.rest < length p.rest

pub takes_if_some-none : {X : Type 0} → TakesIfSome (pure {X = Option X} None)
takes_if_some-none {X} x p q is = absurd (let e = same_value {X = Option X} None (Some x) p q is in cc)

-- the same, where some byte is left
abbrev pub TakesThereIfSome : {X : Type 0} → Reading (Option X) → Type 0
TakesThereIfSome {X} read = (x : X) (p q : Place) → 0 < length p.rest → read p ≡ Ok (Some x, q) → length q.rest < length p.rest

-- where a look ahead finds something, one reading, and else another
takes_if_some-found : {X : Type 0} (look : Reading Bool) (read other : Reading (Option X))
    → ((there : Bool) (p q : Place) → look p ≡ Ok (there, q) → Finds p there q) → TakesThereIfSome read → TakesIfSome other
    → TakesIfSome (look >>= (λ there. if there then read else other))
takes_if_some-found {X} look read other finds takes others x p q is = go (then_gave look (λ there. if there then read else other) (Some x) p q is)
  where
    go : (there : Bool) × (m : Place) × (look p ≡ Ok (there, m)) × ((if there then read else other) m ≡ Ok (Some x, q)) → length q.rest < length p.rest
    go (true, m, at, goes) =
        let found : Finds p true m = finds true p m at in
        let h : length q.rest < length m.rest = takes x m q (found.1 refl) goes in
        omega (arith, found.0)
    go (false, m, at, goes) =
        let found : Finds p false m = finds false p m at in
        let h : length q.rest < length m.rest = others x m q goes in
        omega (arith, found.0)

pub takes_if_some-where : {X : Type 0} (limits : Limits) (word : List ℕ) (read other : Reading (Option X)) → TakesThere read → TakesIfSome other
    → TakesIfSome (at_word limits word >>= (λ there. if there then read else other))
takes_if_some-where limits word read other takes others = takes_if_some-found (at_word limits word) read other (at_word-finds limits word) (λ x. takes (Some x))
    others

pub takes_if_some-at_command : {X : Type 0} (limits : Limits) (read other : Reading (Option X)) → TakesThereIfSome read → TakesIfSome other
    → TakesIfSome (at_command limits >>= (λ there. if there then read else other))
takes_if_some-at_command limits read other takes others = takes_if_some-found (at_command limits) read other (at_command-finds limits) takes others

pub never_back-where : {X : Type 0} (limits : Limits) (word : List ℕ) (read other : Reading X) → NeverBack read → NeverBack other
    → NeverBack (at_word limits word >>= (λ there. if there then read else other))
never_back-where limits word read other first second =
    never_back-then (at_word limits word) (λ there. if there then read else other) (never_back-at_word limits word)
    (λ there. never_back-if there read other first second)

pub never_back-optional : {X : Type 0} (limits : Limits) (word : List ℕ) (form : ℕ → List ℕ → Result X StreamFault) → NeverBack (optional limits word form)
never_back-optional limits word form = never_back-where limits word (some (line_as form)) (pure None) (never_back-some (line_as form) (never_back-line_as form))
    (never_back-pure None)

pub takes_if_some-optional : {X : Type 0} (limits : Limits) (word : List ℕ) (form : ℕ → List ℕ → Result X StreamFault) → TakesIfSome (optional limits word form)
takes_if_some-optional limits word form = takes_if_some-where limits word (some (line_as form)) (pure None)
    (takes_there-some (line_as form) (takes_there-line_as form)) takes_if_some-none

-- an item that takes a byte where it stands is one of a list that ends
pub takes_some-one_more : {X : Type 0} (item : Reading (Option X)) → TakesIfSome item → TakesSome (λ items. item >>= one_more items)
takes_some-one_more {X} item takes items more p q is = go (then_gave item (one_more items) (inl more) p q is)
  where
    go : (found : Option X) × (m : Place) × (item p ≡ Ok (found, m)) × (one_more items found m ≡ Ok (inl more, q)) → length q.rest < length p.rest
    go (Some x, m, at, goes) = let a : length m.rest < length p.rest = takes x p m at in let b : length q.rest ≤ length m.rest = same_rest m q
        (same_place _ _ m q goes) in omega arith
    go (None, m, at, goes) = absurd (let e = same_value {X = List X ⊎ List X} (inr items) (inl more) m q goes in cc)

pub takes_if_some-target_at : (limits : Limits) (word : List ℕ) → TakesIfSome (target_at limits word)
unfolding target_at
takes_if_some-target_at limits word = takes_if_some-optional limits word (target_of word)

pub merges_take : (limits : Limits) → TakesSome (λ items. target_at limits (codes "merge") >>= one_more items)
merges_take limits = takes_some-one_more (target_at limits (codes "merge")) (takes_if_some-target_at limits (codes "merge"))

pub never_back-fault : {X : Type 0} (fault : StreamFault) → NeverBack {X = X} (λ _. Err fault)
never_back-fault fault x p q is = absurd (cc)

pub never_back-is_line : (f : Front) → NeverBack (is_line f)
never_back-is_line Nothing = never_back-pure false
never_back-is_line (Whole text) = never_back-pure true
never_back-is_line (Long text) = never_back-fault (faults.TooLarge Line)

pub never_back-missing : {X : Type 0} (f : Front) → NeverBack (missing {X = X} f)
never_back-missing Nothing = never_back-refuse faults.Truncated
never_back-missing (Whole text) = never_back-refuse faults.Syntax
never_back-missing (Long text) = never_back-fault (faults.TooLarge Line)

pub never_back-must_be_at : (limits : Limits) (word : List ℕ) → NeverBack (must_be_at limits word)
unfolding must_be_at
never_back-must_be_at limits word = never_back-where limits word (pure tt) (next_front false limits >>= missing) (never_back-pure tt)
    (never_back-then (next_front false limits) missing (never_back-next_front false limits) never_back-missing)

pub never_back-required : {X : Type 0} (limits : Limits) (word : List ℕ) (part : Reading X) → NeverBack part → NeverBack (required limits word part)
never_back-required limits word part back = never_back-then (must_be_at limits word) (λ _. part) (never_back-must_be_at limits word) (λ _. back)

-- data parts
back_where : {X : Type 0} (test : Bool) (r s : Read X) (p : Place) (x : X) (q : Place) → (r ≡ Ok (x, q) → length q.rest ≤ length p.rest)
    → (s ≡ Ok (x, q) → length q.rest ≤ length p.rest) → cond test r s ≡ Ok (x, q) → length q.rest ≤ length p.rest
back_where true r s p x q first second = first
back_where false r s p x q first second = second

back_moved : {X : Type 0} (n : ℕ) (p : Place) (y x : X) (q : Place) → (let gave : Read X = Ok (y, moved n p) in gave) ≡ Ok (x, q)
    → length q.rest ≤ length p.rest
back_moved n p y x q is = let e : length q.rest ≤ length (moved n p).rest = same_rest (moved n p) q (same_place y x (moved n p) q is) in let h =
    never_back-moved n p in omega arith

back_refused : {X : Type 0} (fault : StreamFault) (p : Place) (x : X) (q : Place) → (let gave : Read X = Err fault in gave) ≡ Ok (x, q)
    → length q.rest ≤ length p.rest
back_refused fault p x q is = absurd (cc)

pub never_back-bytes_at : (line n : ℕ) → NeverBack (bytes_at line n)
unfolding bytes_at
never_back-bytes_at line n x p q =
    back_where (nat_le n (length p.rest)) _ _ p x q (back_moved n p (take n p.rest) x q)
    (back_where p.more _ _ p x q (back_refused _ p x q) (back_refused _ p x q))

pub never_back-skip_end_of_line : NeverBack skip_end_of_line
unfolding skip_end_of_line
never_back-skip_end_of_line x p q is = go p.line p.rest p.more p.done_due is
  where
    go : (line : ℕ) (rest : List ℕ) (more done_due : Bool)
        → let m : Place = record { line = line; rest = rest; more = more; done_due = done_due } in skip_end_of_line m ≡ Ok (x, q) → length q.rest ≤ length rest
    go line [] more done_due is =
        let m : Place = record { line = line; rest = []; more = more; done_due = done_due } in
        back_where more _ _ m x q (back_refused _ m x q) (λ e. same_rest m q (same_place tt x m q e)) is
    go line (byte ∷ rest) more done_due is =
        let m : Place = record { line = line; rest = byte ∷ rest; more = more; done_due = done_due } in
        back_where (is_end_of_line byte) _ _ m x q (back_moved 1 m tt x q) (λ e. same_rest m q (same_place tt x m q e)) is

-- A line of delimited data that isn't the last ends with LF, so that it takes a byte.
abbrev Delimits : Place → Read (List ℕ ⊎ List ℕ) → Type 0
Delimits p (Ok (inl _, q)) = length q.rest < length p.rest
Delimits p (Ok (inr _, q)) = length q.rest ≤ length p.rest
Delimits p (Err fault) = Unit {0}

delimits_where : (p : Place) (last large ends more : Bool) (content longer : List ℕ) (large_fault stream_fault cut_fault : StreamFault)
    → (ends ≡ true → 0 < length p.rest)
    → Delimits p (cond {A = Read (List ℕ ⊎ List ℕ)} last (Ok (inr content, past_line p))
    (cond {A = Read (List ℕ ⊎ List ℕ)} large (Err large_fault)
    (cond {A = Read (List ℕ ⊎ List ℕ)} ends (Ok (inl longer, past_line p)) (cond {A = Read (List ℕ ⊎ List ℕ)} more (Err stream_fault) (Err cut_fault)))))
delimits_where p true large ends more content longer large_fault stream_fault cut_fault there = never_back-moved (length (front_line p.rest) + 1) p
delimits_where p false true ends more content longer large_fault stream_fault cut_fault there = tt
delimits_where p false false true more content longer large_fault stream_fault cut_fault there = takes-past_line p (there refl)
delimits_where p false false false true content longer large_fault stream_fault cut_fault there = tt
delimits_where p false false false false content longer large_fault stream_fault cut_fault there = tt

delimits : (limits : Limits) (line : ℕ) (delimiter content : List ℕ) (p : Place) → Delimits p (delimited_line limits line delimiter content p)
delimits limits line delimiter content p =
    delimits_where p (is_text delimiter (front_line p.rest) && (has_end_of_line p.rest || not p.more))
    (nat_lt limits.part (length content + length (take (length (front_line p.rest) + 1) p.rest))) (has_end_of_line p.rest) p.more
    content (content ++ take (length (front_line p.rest) + 1) p.rest) _ _ _ (some_left p.rest)

pub delimited_takes : (limits : Limits) (line : ℕ) (delimiter : List ℕ) → TakesSome (delimited_line limits line delimiter)
delimited_takes limits line delimiter a b p q is = subst (Delimits p) is (delimits limits line delimiter a p)

never_back-delimited_line : (limits : Limits) (line : ℕ) (delimiter content : List ℕ) → NeverBack (delimited_line limits line delimiter content)
never_back-delimited_line limits line delimiter content (inl b) p q is = let h : length q.rest < length p.rest = delimited_takes limits line delimiter content b
    p q is in omega arith
never_back-delimited_line limits line delimiter content (inr b) p q is = subst (Delimits p) is (delimits limits line delimiter content p)

pub never_back-delimited_at : (limits : Limits) (line : ℕ) (delimiter : List ℕ) → NeverBack (delimited_at limits line delimiter)
unfolding delimited_at
never_back-delimited_at limits line delimiter = never_back-repeat (delimited_line limits line delimiter) (never_back-delimited_line limits line delimiter) []

pub never_back-content_at : (limits : Limits) (line : ℕ) (text : List ℕ) (form : DataForm) → NeverBack (content_at limits line text form)
never_back-content_at limits line text (Counted n) = never_back-bytes_at line n
never_back-content_at limits line text Delimited = never_back-delimited_at limits line (delimiter_in text)

-- a line that says something, and what follows it
pub never_back-line : {X Y : Type 0} (form : ℕ → List ℕ → Result X StreamFault) (next : ℕ → List ℕ → X → Reading Y)
    → ((line : ℕ) (text : List ℕ) (x : X) → NeverBack (next line text x))
    → NeverBack (with_line (λ line text. lifted (form line text) >>= (λ x. take_line >>= (λ _. next line text x))))
never_back-line form next each =
    never_back-with_line (λ line text. lifted (form line text) >>= (λ x. take_line >>= (λ _. next line text x)))
    (λ line text. never_back-then (lifted (form line text)) (λ x. take_line >>= (λ _. next line text x)) (never_back-lifted (form line text))
    (λ x. never_back-then take_line (λ _. next line text x) never_back-take_line (λ _. each line text x)))

pub takes_there-line : {X Y : Type 0} (form : ℕ → List ℕ → Result X StreamFault) (next : ℕ → List ℕ → X → Reading Y)
    → ((line : ℕ) (text : List ℕ) (x : X) → NeverBack (next line text x))
    → TakesThere (with_line (λ line text. lifted (form line text) >>= (λ x. take_line >>= (λ _. next line text x))))
takes_there-line form next each =
    takes_there-with_line (λ line text. lifted (form line text) >>= (λ x. take_line >>= (λ _. next line text x)))
    (λ line text. takes_there-lifted (form line text) (λ x. take_line >>= (λ _. next line text x))
    (λ x. takes_there-then take_line (λ _. next line text x) takes-take_line (λ _. each line text x)))

pub never_back-announced_at : (limits : Limits) → NeverBack (announced_at limits)
unfolding announced_at
never_back-announced_at limits = never_back-line (data_form limits) (content_at limits) (never_back-content_at limits)

pub never_back-data_at : (limits : Limits) → NeverBack (data_at limits)
unfolding data_at
never_back-data_at limits =
    never_back-then (must_be_at limits (codes "data")) _ (never_back-must_be_at limits (codes "data"))
    (λ _. never_back-then (announced_at limits) _ (never_back-announced_at limits)
    (λ bytes. never_back-then skip_end_of_line (λ _. pure bytes) never_back-skip_end_of_line (λ _. never_back-pure bytes)))

-- changes
pub never_back-dataref_at : (limits : Limits) (form : ContentForm) → NeverBack (dataref_at limits form)
never_back-dataref_at limits (content.Mark mark) = never_back-pure (dataref.Mark mark)
never_back-dataref_at limits (content.Name name) = never_back-pure (dataref.Name name)
never_back-dataref_at limits content.Inline = never_back-then (data_at limits) (λ bytes. pure (dataref.Inline bytes)) (never_back-data_at limits)
    (λ bytes. never_back-pure (dataref.Inline bytes))

takes_there-modify_at : (limits : Limits) → TakesThere (modify_at limits)
unfolding modify_at
takes_there-modify_at limits =
    takes_there-line modify_form (λ line text form. dataref_at limits form.1 >>= (λ d. pure (Modify line form.0 d (modified_path text))))
    (λ line text form. never_back-then (dataref_at limits form.1) (λ d. pure (Modify line form.0 d (modified_path text))) (never_back-dataref_at limits form.1)
    (λ d. never_back-pure (Modify line form.0 d (modified_path text))))

takes_there-delete_at : TakesThere delete_at
unfolding delete_at
takes_there-delete_at = takes_there-line (λ line text. text_after line (codes "D") text) (λ line text path. pure (Delete line path))
    (λ line text path. never_back-pure (Delete line path))

takes_there-delete_all_at : TakesThere delete_all_at
unfolding delete_all_at
takes_there-delete_all_at = takes_there-line (λ line text. where_so {X = Unit {0}} (is_text (codes "deleteall") text) (faults.Syntax line) tt)
    (λ line text _. pure (DeleteAll line)) (λ line text _. never_back-pure (DeleteAll line))

pub takes_if_some-change_at : (limits : Limits) → TakesIfSome (change_at limits)
unfolding change_at
takes_if_some-change_at limits =
    takes_if_some-where limits (codes "M") (some (modify_at limits)) _ (takes_there-some (modify_at limits) (takes_there-modify_at limits))
    (takes_if_some-where limits (codes "D") (some delete_at) _ (takes_there-some delete_at takes_there-delete_at)
    (takes_if_some-where limits (codes "deleteall") (some delete_all_at) (pure None) (takes_there-some delete_all_at takes_there-delete_all_at)
    takes_if_some-none))

pub changes_take : (limits : Limits) → TakesSome (λ items. change_at limits >>= one_more items)
changes_take limits = takes_some-one_more (change_at limits) (takes_if_some-change_at limits)
