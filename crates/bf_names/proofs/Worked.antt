-- Names and ranges on small histories, by computation.
use Rattle.std.specs.Prelude.{◌≡◌, ℕ, Bool, true, false, List, [], ◌∷◌, map, codes, Some, None, Result, Ok, Err, refl}
use Rattle.std.specs.declared.cmp.Ordering.TheVariants.{Less, Equal, Greater}
use Rattle.hex.specs.Hex.{decode_pairs, encode_with}
use Rattle.bf_oid.specs.declared.object.Oid.{Oid}
use Rattle.bf_oid.specs.Object.{oid_of_hex}
use Rattle.bf_history.specs.Meanings.{History}
use Rattle.bf_io.specs.Decimal.{decimal_value}
use Rattle.bf_search.specs.Reach.{reaches, reaches_within}
use Rattle.bf_names.specs.declared.fault.NameFault.{NameFault}
use Rattle.bf_names.specs.declared.fault.NameFault.TheVariants.{Unknown, Ambiguous, NoParent, BadForm}
use Rattle.bf_names.specs.Names.{name, range, steps_of, step_texts, step_of, steps_written, place_of_base, abbreviated, ancestor, after_steps, between}
use Rattle.bf_names.specs.Names.{right_steps}
use Rattle.bf_names.specs.Order.{compared, lowered, spelled}

abbrev history_with : List (List ℕ × ℕ) → List (List ℕ) → List Oid → History
history_with refs parents names = record { refs = refs; parents = parents; files = []; subjects = []; names = names; directories = []; original_names = false }

abbrev named : List ℕ → Oid
named text = elim (oid_of_hex text) [ Some oid ↦ oid | None ↦ record { 0 = [] } ]

-- eight commits in a line
abbrev line : History
line = history_with ((codes "refs/heads/main", 7) ∷ [])
    ([] ∷ (0 ∷ []) ∷ (1 ∷ []) ∷ (2 ∷ []) ∷ (3 ∷ []) ∷ (4 ∷ []) ∷ (5 ∷ []) ∷ (6 ∷ []) ∷ [])
    (map named (codes "56b29d9c130e2ec4b506a48d4fe5a18d92d8d1e3"
    ∷ codes "f570778fec974dd2b05ee862e235ff38a61118d3"
    ∷ codes "2a83eb598262042db81ddad6b0c3b6c0d200c521"
    ∷ codes "771edca49728d8c78d5b371976ec2debc7c92b35"
    ∷ codes "271bb9a08b2d5aa03871aa65fdadc01c488fa408"
    ∷ codes "3dff7cbfbc1ec2409d1dc7dba41ba991437e56aa"
    ∷ codes "c223c814fe710b9b34c64fc95064b014ed1afd22"
    ∷ codes "38d7eeaa2c641133c0a59de3e3515352366303d6" ∷ []))

-- each text means what stands beside it
abbrev Hold : {X : Type 0} → (List ℕ → X) → List (List ℕ × X) → Type 0
Hold {X} meaning rows = map (λ (row : List ℕ × X). meaning row.0) rows ≡ map (λ (row : List ℕ × X). row.1) rows

-- names on the line
abbrev names_on_the_line : List (List ℕ × Result ℕ NameFault)
names_on_the_line =
    (codes "main", Ok 7)
    ∷ (codes "heads/main", Ok 7)
    ∷ (codes "refs/heads/main^0", Ok 7)
    ∷ (codes "main~0", Ok 7)
    ∷ (codes "main^{}", Ok 7)
    ∷ (codes "main^{commit}~", Ok 6)
    ∷ (codes "main^^", Ok 5)
    ∷ (codes "main~2^1~", Ok 3)
    ∷ (codes "main~8", Err NoParent)
    ∷ (codes "main^2", Err NoParent)
    ∷ (codes "main^{tree}", Err BadForm)
    ∷ (codes "~1", Err BadForm)
    ∷ (codes "abc", Err Unknown)
    ∷ (codes "2a8", Err Unknown)
    ∷ (codes "2a83", Ok 2)
    ∷ (codes "2a83eb5", Ok 2)
    ∷ (codes "2A83EB5", Ok 2)
    ∷ (codes "2a83eb598262042db81ddad6b0c3b6c0d200c521^", Ok 1)
    ∷ (codes "0000000000000000000000000000000000000000", Err Unknown)
    ∷ (codes "main^18446744073709551615", Err NoParent)
    ∷ (codes "main^18446744073709551616", Err BadForm)
    ∷ (codes "none^{tree}", Err BadForm)
    ∷ (codes "none~9", Err Unknown)
    ∷ (codes "a b", Err BadForm)
    ∷ (codes ":/fix", Err BadForm)
    ∷ (codes "main@{1}", Err BadForm)
    ∷ (codes "main~5..main", Err BadForm)
    ∷ []

names_on_the_line_hold : Hold (name line) names_on_the_line
unfolding name steps_of step_texts steps_written step_of place_of_base abbreviated ancestor after_steps
    decode_pairs encode_with decimal_value
names_on_the_line_hold = refl

-- a merge, a tag and a branch of one name, a ref under the name of a commit, and two names that begin with abcd
abbrev merge : History
merge = history_with
    ((codes "refs/heads/a", 1) ∷ (codes "refs/tags/a", 2) ∷ (codes "HEAD", 3) ∷ (codes "refs/remotes/far/HEAD", 1) ∷ (codes "abcd2", 0)
    ∷ (codes "refs/heads/1234567890123456789012345678901234567890", 3) ∷ [])
    ([] ∷ (0 ∷ []) ∷ (0 ∷ []) ∷ (1 ∷ 2 ∷ []) ∷ [])
    (map named (codes "abcd111111111111111111111111111111111111" ∷ codes "abcd222222222222222222222222222222222222"
    ∷ codes "3333333333333333333333333333333333333333" ∷ codes "4444444444444444444444444444444444444444" ∷ []))

-- names on the merge: tags come before branches, forty digits before refs, and refs before fewer digits
abbrev names_on_the_merge : List (List ℕ × Result ℕ NameFault)
names_on_the_merge =
    (codes "a", Ok 2)
    ∷ (codes "@", Ok 3)
    ∷ (codes "far", Ok 1)
    ∷ (codes "@^", Ok 1)
    ∷ (codes "@^2", Ok 2)
    ∷ (codes "abcd", Err (Ambiguous 2))
    ∷ (codes "abcd1", Ok 0)
    ∷ (codes "abcd2", Ok 0)
    ∷ (codes "1234567890123456789012345678901234567890", Err Unknown)
    ∷ []

names_on_the_merge_hold : Hold (name merge) names_on_the_merge
unfolding name steps_of step_texts steps_written step_of place_of_base abbreviated ancestor after_steps
    decode_pairs encode_with decimal_value
names_on_the_merge_hold = refl

-- names that the commits of the line had before they were exported: nothing abbreviates these
abbrev names_kept : List (List ℕ × Result ℕ NameFault)
names_kept =
    (codes "main", Ok 7)
    ∷ (codes "2a83eb5", Err Unknown)
    ∷ (codes "2a83eb598262042db81ddad6b0c3b6c0d200c521^", Ok 1)
    ∷ []

names_kept_hold : Hold (name (record line { original_names = true })) names_kept
unfolding name steps_of step_texts steps_written step_of place_of_base abbreviated ancestor after_steps
    decode_pairs encode_with decimal_value
names_kept_hold = refl

-- ranges on the line, by place
abbrev ranges_on_the_line : List (List ℕ × Result (List Bool) NameFault)
ranges_on_the_line =
    (codes "main~5..main~3", Ok (false ∷ false ∷ false ∷ true ∷ true ∷ false ∷ false ∷ false ∷ []))
    ∷ (codes "main~2", Ok (false ∷ false ∷ false ∷ false ∷ false ∷ true ∷ false ∷ false ∷ []))
    ∷ (codes "main..main~3", Ok (false ∷ false ∷ false ∷ false ∷ false ∷ false ∷ false ∷ false ∷ []))
    ∷ (codes "main~3...main", Err BadForm)
    ∷ (codes "main~3..main~2..main", Err BadForm)
    ∷ (codes "..main", Err BadForm)
    ∷ (codes "main..", Err BadForm)
    ∷ (codes "none..~1", Err BadForm)
    ∷ (codes "main~9..none", Err NoParent)
    ∷ (codes "main..none", Err Unknown)
    ∷ []

ranges_on_the_line_hold : Hold (range line) ranges_on_the_line
unfolding range between right_steps reaches reaches_within name steps_of step_texts steps_written step_of place_of_base abbreviated ancestor after_steps
    decode_pairs encode_with decimal_value
ranges_on_the_line_hold = refl

-- a range on the merge
abbrev ranges_on_the_merge : List (List ℕ × Result (List Bool) NameFault)
ranges_on_the_merge =
    (codes "a..@", Ok (false ∷ true ∷ false ∷ true ∷ []))
    ∷ []

ranges_on_the_merge_hold : Hold (range merge) ranges_on_the_merge
unfolding range between right_steps reaches reaches_within name steps_of step_texts steps_written step_of place_of_base abbreviated ancestor after_steps
    decode_pairs encode_with decimal_value
ranges_on_the_merge_hold = refl

-- digits of either case, beside the names on the line
compared_on_the_line : map (compared (lowered (codes "2A83"))) (spelled line.names)
    ≡ Greater ∷ Greater ∷ Equal ∷ Greater ∷ Less ∷ Greater ∷ Greater ∷ Greater ∷ []
unfolding decode_pairs encode_with
compared_on_the_line = refl
