-- A search that joins others.
use Rattle.std.proofs.Common.{◌≡◌, ◌<◌, ◌+◌, List, [], ◌∷◌, ◌++◌, length, All, ap, ◌∙◌, arith}
use Rattle.std.proofs.lemmas.List.{length-append}
use Rattle.std.proofs.lemmas.List.Elements.{All-push, All-same}
use Rattle.bf_core.specs.Machine.{Machine, IsConsumed}
use Rattle.bf_many.specs.Cores.{AreCores}

pub pushed_cores : (cores old more : List Machine) (core : Machine) → cores ≡ old → length old < 64 → All IsConsumed cores → IsConsumed core
    → more ≡ cores ++ core ∷ [] → AreCores more
pushed_cores cores old more core same few consumed one pushed = record {
  few = (let long : length more ≡ length cores + 1 = ap (λ (l : List Machine). length l) pushed ∙ length-append cores (core ∷ []) in
      let before : length cores ≡ length old = ap (λ (l : List Machine). length l) same in
      omega (arith, long, before, few));
  consumed = All-same IsConsumed more (cores ++ core ∷ []) pushed (All-push IsConsumed cores core consumed one);
}
