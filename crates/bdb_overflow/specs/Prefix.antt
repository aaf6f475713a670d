-- The first bytes of a value as a number, whose order is that of the bytes.
use Rattle.std.specs.Prelude.{ℕ, ◌+◌, ◌*◌, ◌^◌, ◌<◌, zero, suc, List, [], ◌∷◌}

-- the number that the first n bytes spell, the high end first, with zeros behind a shorter list
abbrev pub prefix_of : ℕ → List ℕ → ℕ
prefix_of zero bytes = 0
prefix_of (suc n) [] = 0
prefix_of (suc n) (b ∷ bs) = b * 256 ^ n + prefix_of n bs

-- the first n of these numbers are bytes
abbrev pub AreBytes : ℕ → List ℕ → Type 0
AreBytes zero bytes = Unit {0}
AreBytes (suc n) [] = Unit {0}
AreBytes (suc n) (b ∷ bs) = (b < 256) × AreBytes n bs
