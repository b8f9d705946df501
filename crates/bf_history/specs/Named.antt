-- Values under names, in the order in which the names were first given a value: the marks and the refs of a stream.
use Rattle.std.specs.Prelude.{Bool, List, [], ◌∷◌, Option, Some, None, if◌then◌else◌}

-- the value of a name
abbrev pub value_of : {K V : Type 0} → (K → K → Bool) → K → List (K × V) → Option V
value_of same name [] = None
value_of same name (given ∷ rest) = if same name given.0 then Some given.1 else value_of same name rest

-- a name that has a value keeps its place, and a new one goes last
abbrev pub with_value : {K V : Type 0} → (K → K → Bool) → K → V → List (K × V) → List (K × V)
with_value same name value [] = (name, value) ∷ []
with_value same name value (given ∷ rest) =
    if same name given.0 then (given.0, value) ∷ rest else given ∷ with_value same name value rest

-- the others close up
abbrev pub without_value : {K V : Type 0} → (K → K → Bool) → K → List (K × V) → List (K × V)
without_value same name [] = []
without_value same name (given ∷ rest) = if same name given.0 then rest else given ∷ without_value same name rest
