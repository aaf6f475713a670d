-- Lists in which each member is related to all that come later.
use Rattle.std.specs.Prelude.{List, [], ◌∷◌}
use Rattle.std.specs.List.{Contains}

-- each is so related to all later ones
abbrev pub AllLater : {X : Type 0} → (X → X → Type 0) → List X → Type 0
AllLater R [] = Unit {0}
AllLater {X = X} R (x ∷ xs) = ((y : X) → Contains xs y → R x y) × AllLater R xs
