-- Steps of the loops over files and names.
use Rattle.std.proofs.Common.{◌≡◌, List, [], ◌∷◌, ◌++◌, Option, Some, None, refl, ap}
use Rattle.std.specs.List.{filter_map, cons_option}

-- ---- what a test gives of each

pub filter_map-append : {X Y : Type 0} (h : X → Option Y) (xs ys : List X) → filter_map h (xs ++ ys) ≡ filter_map h xs ++ filter_map h ys
filter_map-append h [] ys = refl
filter_map-append h (x ∷ xs) ys =
    elim (h x) as (λ o. cons_option o (filter_map h (xs ++ ys)) ≡ cons_option o (filter_map h xs) ++ filter_map h ys) [
      | None ↦ filter_map-append h xs ys
      | Some y ↦ ap (λ zs. y ∷ zs) (filter_map-append h xs ys)
    ]

-- ---- what each adds

-- ---- names
