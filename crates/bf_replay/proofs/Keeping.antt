-- What each command of a stream keeps.
use Rattle.std.proofs.Common.{◌≡◌, ℕ, zero, suc, ◌+◌, ◌<◌, ◌≤◌, ◌==◌, Bool, true, false, not, cond, List, [], ◌∷◌, ◌++◌, length, map, codes, get_or}
use Rattle.std.proofs.Common.{Option, Some, None, IfSome, unwrap_or, option_and_then, if◌then◌else◌, Result, Ok, Err, IfOk, refl, sym, ap, subst, ◌∙◌, arith, ⊎_elim, length-append}
use Rattle.std.proofs.lemmas.Bool.{cases_lt, eqb-true}
use Rattle.std.proofs.lemmas.List.Elements.{All-nil, All-push}
use Rattle.std.proofs.lemmas.Slice.Eq.{bytes_eq-Decides}
use Rattle.std.specs.List.{position}
use Rattle.std.specs.Option.{option_map, option_to_list}
use Rattle.bf_grammar.specs.declared.command.Command.{Command}
use Rattle.bf_grammar.specs.declared.command.Command.TheVariants as command
use Rattle.bf_grammar.specs.declared.command.Commit as given
use Rattle.bf_grammar.specs.declared.command.Header.{Header}
use Rattle.bf_grammar.specs.declared.command.Target.{Target}
use Rattle.bf_grammar.specs.declared.fault.Limits.{Limits}
use Rattle.bf_grammar.specs.declared.fault.StreamFault.{StreamFault}
use Rattle.bf_grammar.specs.declared.fault.StreamFault.TheVariants.{Syntax}
use Rattle.bf_grammar.specs.Forms.{◌>>=◌}
use Rattle.hex.specs.Hex.{decode_of}
use Rattle.hex.specs.declared.error.FromHexError.{FromHexError}
use Rattle.hex.proofs.HexLemmas.{decode_of-ok}
use Rattle.bf_oid.specs.declared.object.Kind.TheVariants as kind
use Rattle.bf_oid.specs.declared.object.Oid.{Oid}
use Rattle.bf_oid.specs.Object.{name_where, object_header, oid_of_hex}
use Rattle.bf_forest.specs.declared.edits.Edit.{Edit}
use Rattle.bf_forest.specs.Files.{Files, edited, is_same}
use Rattle.bf_forest.specs.Trees.{tree_name, with_directories}
use Rattle.bf_history.specs.declared.fault.ImportFault.{ImportFault}
use Rattle.bf_history.specs.declared.fault.ImportFault.TheVariants.{Stream, BadFrom, Unsupported}
use Rattle.bf_history.specs.declared.marked.Marked.TheVariants as marked
use Rattle.bf_history.specs.Bodies.{commit_body, without_empty_lines}
use Rattle.bf_history.specs.Imports.{loaded}
use Rattle.bf_history.specs.Meanings.{History, Loading, Commit, nothing_loaded, each_of, place_named, place_of_target, edit_of, begins_with, files_from}
use Rattle.bf_history.specs.Meanings.{name_at, commit_on, stood, with_commit, place_of_commit, within_limits, with_ref, without_ref, with_mark, after_commit}
use Rattle.bf_history.specs.Meanings.{after_named, after_reset, after_tag, after_command, is_no_name, lacks_name, original_of}
use Rattle.bf_history.proofs.Steps.{last_step, within_same}
use Rattle.bf_tables.proofs.Positions.{position_more}
use Rattle.bf_replay.specs.Kept.{IsOneLine, IsWholeName, IsKept}
use Rattle.bf_replay.proofs.Digests.{sha1_long, sha1_bytes, front_passes}

-- ---- one more name

abbrev or_last : Option ℕ → Bool → ℕ → Option ℕ
or_last (Some at) here n = Some at
or_last None here n = cond here (Some n) None

one_on : (b : Bool) (o : Option ℕ) (c : Bool) (n : ℕ)
    → cond b (Some 0) (option_map suc (or_last o c n)) ≡ or_last (cond b (Some 0) (option_map suc o)) c (suc n)
one_on true o c n = refl
one_on false (Some at) c n = refl
one_on false None true n = refl
one_on false None false n = refl

position_push : {X : Type 0} (p : X → Bool) (xs : List X) (y : X) → position p (xs ++ y ∷ []) ≡ or_last (position p xs) (p y) (length xs)
position_push p [] y = position_more p y []
position_push p (x ∷ xs) y =
    position_more p x (xs ++ y ∷ [])
    ∙ ap (λ o. cond (p x) (Some 0) (option_map suc o)) (position_push p xs y)
    ∙ one_on (p x) (position p xs) (p y) (length xs)
    ∙ ap (λ o. or_last o (p y) (suc (length xs))) (sym (position_more p x xs))

at_low : {X : Type 0} (xs : List X) (y d : X) (p : ℕ) → p < length xs → get_or (xs ++ y ∷ []) p d ≡ get_or xs p d
at_low [] y d p h = absurd (omega arith)
at_low (x ∷ xs) y d zero h = refl
at_low (x ∷ xs) y d (suc p) h = at_low xs y d p (omega arith)

at_last : {X : Type 0} (xs : List X) (y d : X) → get_or (xs ++ y ∷ []) (length xs) d ≡ y
at_last [] y d = refl
at_last (x ∷ xs) y d = at_last xs y d

abbrev AreFound : List Oid → Type 0
AreFound names = (p : ℕ) → p < length names → place_named names (get_or names p (record { 0 = [] })) ≡ Some p

found_push : (names : List Oid) (name : Oid) → AreFound names → place_named names name ≡ None → AreFound (names ++ name ∷ [])
found_push names name found new = λ p h. ⊎_elim (low p) (last p h) (cases_lt p (length names))
  where
    low : (p : ℕ) → p < length names → place_named (names ++ name ∷ []) (get_or (names ++ name ∷ []) p (record { 0 = [] })) ≡ Some p
    low p l =
        let one : Oid = get_or names p (record { 0 = [] }) in
        ap (place_named (names ++ name ∷ [])) (at_low names name (record { 0 = [] }) p l)
        ∙ position_push (λ (other : Oid). is_same one.0 other.0) names name
        ∙ ap (λ o. or_last o (is_same one.0 name.0) (length names)) (found p l)

    last : (p : ℕ) → p < length (names ++ name ∷ []) → length names ≤ p
        → place_named (names ++ name ∷ []) (get_or (names ++ name ∷ []) p (record { 0 = [] })) ≡ Some p
    last p h l =
        let e : p ≡ length names = omega (arith, length-append names (name ∷ [])) in
        ap (λ q. place_named (names ++ name ∷ []) (get_or (names ++ name ∷ []) q (record { 0 = [] }))) e
        ∙ ap (place_named (names ++ name ∷ [])) (at_last names name (record { 0 = [] }))
        ∙ position_push (λ (other : Oid). is_same name.0 other.0) names name
        ∙ ap (λ o. or_last o (is_same name.0 name.0) (length names)) new
        ∙ ap (λ b. cond b (Some (length names)) None) ((bytes_eq-Decides name.0 name.0).1 refl)
        ∙ ap Some (sym e)

-- ---- one more commit

stood_kept : (history : History) (directories : List Files) (commit : Commit) → IsKept history → IsOneLine commit.subject
    → IsWholeName commit.name
    → (found : Option ℕ) → place_named history.names commit.name ≡ found → IsKept (stood history directories found commit)
stood_kept history directories commit k line whole (Some place) is = record {
  counted = k.counted;
  one_line = k.one_line;
  whole = k.whole;
  found = k.found;
}
stood_kept history directories commit k line whole None is = record {
  counted = length-append history.parents (commit.parents ∷ []) ∙ ap (λ n. n + 1) k.counted ∙ sym (length-append history.names (commit.name ∷ []));
  one_line = All-push IsOneLine history.subjects commit.subject k.one_line line;
  whole = All-push IsWholeName history.names commit.name k.whole whole;
  found = found_push history.names commit.name k.found is;
}

commit_kept : (history : History) (commit : Commit) → IsKept history → IsOneLine commit.subject → IsWholeName commit.name
    → IsKept (with_commit history commit)
unfolding with_commit
commit_kept history commit k line whole =
    stood_kept history (with_directories history.directories commit.files) commit k line whole (place_named history.names commit.name) refl

one_line : (history : History) (parents : List ℕ) (files : Files) (header : Header) → IsOneLine (commit_on history parents files header).subject
unfolding commit_on
one_line history parents files header = front_passes (λ b. not (b == 10)) (without_empty_lines header.message)

-- 40 hexadecimal digits write a whole name
decoded_name : (text : List ℕ) → length text ≡ 40 → (read : Result (List ℕ) FromHexError) → decode_of text ≡ read → IfSome (name_where read) IsWholeName
decoded_name text long (Ok bytes) is =
    let all = decode_of-ok text bytes is in
    record { long = omega (arith, long, all.2); bytes = all.3 }
decoded_name text long (Err fault) is = tt

name_either : (text : List ℕ) (b : Bool) → (length text == 40) ≡ b → IfSome (if b then name_where (decode_of text) else None) IsWholeName
name_either text true long = decoded_name text (eqb-true (length text) 40 long) (decode_of text) refl
name_either text false long = tt

original_whole : (header : Header) → IfSome (original_of header) IsWholeName
unfolding original_of
original_whole header = go header.original
  where
    go : (original : Option (List ℕ)) → IfSome (option_and_then oid_of_hex original) IsWholeName
    go (Some text) = name_either text (length text == 40) refl
    go None = tt

either_whole : (original : Option Oid) (hashed : Oid) → IfSome original IsWholeName → IsWholeName hashed → IsWholeName (unwrap_or original hashed)
either_whole (Some name) hashed one other = one
either_whole None hashed one other = other

whole_name : (history : History) (parents : List ℕ) (files : Files) (header : Header) → IsWholeName (commit_on history parents files header).name
unfolding commit_on
whole_name history parents files header =
    let body : List ℕ = commit_body (tree_name files) (map (name_at history) parents) header in
    either_whole (original_of header) _ (original_whole header)
    (record {
      long = sha1_long (object_header kind.Commit (length body) ++ body);
      bytes = sha1_bytes (object_header kind.Commit (length body) ++ body);
    })

-- ---- commands

abbrev AfterIsKept : Result Loading ImportFault → Type 0
AfterIsKept result = IfOk result (λ loading. IsKept loading.history)

four_steps : {A B C D Y : Type 0} (a : Result A ImportFault) (b : Result B ImportFault) (c : Result C ImportFault)
    (d : A → B → C → Result D ImportFault) (f : A → B → C → D → Y) (P : Y → Type 0)
    → ((x : A) (y : B) (z : C) (w : D) → d x y z ≡ Ok w → P (f x y z w))
    → IfOk (a >>= λ x. b >>= λ y. c >>= λ z. d x y z >>= λ w. Ok (f x y z w)) P
four_steps (Ok x) (Ok y) (Ok z) d f P h = last_step (d x y z) (f x y z) P (h x y z)
four_steps (Ok x) (Ok y) (Err e) d f P h = tt
four_steps (Ok x) (Err e) c d f P h = tt
four_steps (Err e) b c d f P h = tt

-- the commit that a command makes
abbrev made : Loading → Header → Option ℕ → List ℕ → List Edit → Commit
made loading header first others edits = commit_on loading.history (option_to_list first ++ others) (edited (files_from loading.history first) edits) header

after_named_kept : (limits : Limits) (loading : Loading) (given : given.Commit) → IsKept loading.history
    → AfterIsKept (after_named limits loading given (each_of (edit_of loading.marks) given.changes))
after_named_kept limits loading given k =
    four_steps (begins_with loading given.branch given.from) (each_of (place_of_target BadFrom loading) given.merges)
    (each_of (edit_of loading.marks) given.changes)
    (λ first others edits. within_limits limits (with_commit loading.history (made loading given.header first others edits)))
    (λ first others edits history. record {
      history = with_ref given.branch (place_of_commit loading.history (made loading given.header first others edits)) history;
      marks = with_mark given.mark (marked.Commit (place_of_commit loading.history (made loading given.header first others edits))) loading.marks;
    })
    (λ after. IsKept after.history)
    (λ first others edits history is.
    let before : IsKept (with_commit loading.history (made loading given.header first others edits)) =
    commit_kept loading.history (made loading given.header first others edits) k
    (one_line loading.history (option_to_list first ++ others) (edited (files_from loading.history first) edits) given.header)
    (whole_name loading.history (option_to_list first ++ others) (edited (files_from loading.history first) edits) given.header) in
    let kept : IsKept history = subst IsKept (within_same limits (with_commit loading.history (made loading given.header first others edits)) history is)
    before in
    record { counted = kept.counted; one_line = kept.one_line; whole = kept.whole; found = kept.found })

ref_kept : (name : List ℕ) (place : ℕ) (history : History) → IsKept history → IsKept (with_ref name place history)
ref_kept name place history k = record { counted = k.counted; one_line = k.one_line; whole = k.whole; found = k.found }

unref_kept : (name : List ℕ) (history : History) → IsKept history → IsKept (without_ref name history)
unref_kept name history k = record { counted = k.counted; one_line = k.one_line; whole = k.whole; found = k.found }

either_kept : (b : Bool) (one other : Result Loading ImportFault) → AfterIsKept one → AfterIsKept other → AfterIsKept (cond b one other)
either_kept true one other h k = h
either_kept false one other h k = k

after_commit_kept : (limits : Limits) (loading : Loading) (given : given.Commit) → IsKept loading.history
    → AfterIsKept (after_commit limits loading given)
unfolding after_commit
after_commit_kept limits loading given k =
    either_kept (lacks_name limits loading.history given.header) (Err (Stream (Syntax given.line)))
    (after_named limits loading given (each_of (edit_of loading.marks) given.changes)) tt (after_named_kept limits loading given k)

after_reset_kept : (loading : Loading) (branch : List ℕ) (from : Option Target) → IsKept loading.history
    → AfterIsKept (after_reset loading branch from)
unfolding after_reset
after_reset_kept loading branch None k = unref_kept branch loading.history k
after_reset_kept loading branch (Some target) k =
    either_kept (is_no_name target.text) (Ok (record loading { history = without_ref branch loading.history }))
    (place_of_target BadFrom loading target >>= λ place. Ok (record loading { history = with_ref branch place loading.history }))
    (unref_kept branch loading.history k)
    (last_step (place_of_target BadFrom loading target) (λ place. record loading { history = with_ref branch place loading.history })
    (λ after. IsKept after.history) (λ place is. ref_kept branch place loading.history k))

after_tag_kept : (loading : Loading) (name : List ℕ) (mark : Option ℕ) (target : Target) → IsKept loading.history
    → AfterIsKept (after_tag loading name mark target)
unfolding after_tag
after_tag_kept loading name mark target k =
    last_step (place_of_target Unsupported loading target)
    (λ place. record { history = with_ref (codes "refs/tags/" ++ name) place loading.history; marks = with_mark mark marked.Tag loading.marks })
    (λ after. IsKept after.history) (λ place is. ref_kept (codes "refs/tags/" ++ name) place loading.history k)

command_kept : (limits : Limits) (loading : Loading) (c : Command) → IsKept loading.history → AfterIsKept (after_command limits loading c)
unfolding after_command
command_kept limits loading (command.Blob line mark content) k = k
command_kept limits loading (command.Commit given) k = after_commit_kept limits loading given k
command_kept limits loading (command.Tag line name mark from) k = after_tag_kept loading name mark from k
command_kept limits loading (command.Reset line branch from) k = after_reset_kept loading branch from k
command_kept limits loading (command.Progress line) k = k
command_kept limits loading (command.Feature line) k = k

-- ---- streams

behind : (r : Result Loading ImportFault) (next : Loading → Result History ImportFault) → AfterIsKept r
    → ((x : Loading) → IsKept x.history → IfOk (next x) IsKept) → IfOk (r >>= next) IsKept
behind (Ok x) next h then_kept = then_kept x h
behind (Err e) next h then_kept = tt

pub loaded_kept : (limits : Limits) (loading : Loading) (commands : List Command) (end : Option StreamFault) → IsKept loading.history
    → IfOk (loaded limits loading commands end) IsKept
unfolding loaded
loaded_kept limits loading [] None k = k
loaded_kept limits loading [] (Some fault) k = tt
loaded_kept limits loading (c ∷ commands) end k =
    behind (after_command limits loading c) (λ next. loaded limits next commands end) (command_kept limits loading c k)
    (λ next kept. loaded_kept limits next commands end kept)

pub nothing_kept : (limits : Limits) → IsKept (nothing_loaded limits).history
nothing_kept limits = record {
  counted = refl;
  one_line = All-nil IsOneLine;
  whole = All-nil IsWholeName;
  found = λ p h. absurd (omega arith);
}
