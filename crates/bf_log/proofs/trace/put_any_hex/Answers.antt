use Rattle.std.proofs.Common.{ℕ, ◌≡◌, ◌++◌, List, [], length, map, slice_index_or, sym, ap, ◌∙◌, arith}
use Rattle.std.proofs.lemmas.List.{append-nil, get_or_past, length-map}
use Rattle.hex.specs.Hex.{encode_lower, encode_with}
use Rattle.bf_oid.specs.declared.object.Oid.{Oid}
use Rattle.bf_log.proofs.trace.put_any_hex.Goals as goal

-- a place that has no commit has no name
pub returns-else-place-commits : goal.returns-else-place-commits
unfolding encode_with
returns-else-place-commits c =
    let name_of : Oid → List ℕ = λ name. name.0 in
    let names = c.args.commits.names.now in
    let long : length (map name_of names) ≡ length names = length-map names name_of in
    let past : slice_index_or (map name_of names) c.args.place [] ≡ [] =
    let above = c.if-place-commits.false in get_or_past (map name_of names) c.args.place [] (omega arith) in
    sym (append-nil c.args.out.now) ∙ ap (λ (bytes : List ℕ). c.args.out.now ++ encode_lower bytes) (sym past)
