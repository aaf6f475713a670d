-- Laws of known bytes, piece after piece, under names that an attribute can list.
use Rattle.std.proofs.Common.{ℕ, ◌+◌, ◌-◌, List, [], ◌++◌, length, take, drop, arith, length-drop, Option}
use Rattle.std.specs.Io.KnownBytes.{Appends, Consumes, Keeps}
use Rattle.std.proofs.KnownBytes.{Appends-nil, Appends-trans, Consumes-kept, Consumes-nil, Consumes-trans, Keeps-refl}
use Rattle.std.proofs.lemmas.List.{take_all}
use Rattle.std.proofs.Math.Seq.{take-add}

-- n more of the bytes from d on
pub appends_next : (a b c : Option (List ℕ)) (xs : List ℕ) (d n : ℕ) → Appends a b (take d xs) → Appends b c (take n (take (length xs - d) (drop d xs)))
    → Appends a c (take (d + n) xs)
appends_next a b c xs d n p q = grind (arith, take_all, length-drop, take-add, Appends-trans)

pub consumes_next : (a b c : Option (List ℕ)) (xs ys : List ℕ) → Consumes a b xs → Consumes b c ys → Consumes a c (xs ++ ys)
consumes_next a b c xs ys p q = Consumes-trans a b c xs ys p q

pub consumes_kept : (a b c : Option (List ℕ)) (xs : List ℕ) → Consumes a b xs → Keeps b c → Consumes a c xs
consumes_kept a b c xs p q = Consumes-kept a b c xs p q

pub consumes_nothing : (a : Option (List ℕ)) → Consumes a a []
consumes_nothing a = Consumes-nil a

pub appends_nothing : (a : Option (List ℕ)) → Appends a a []
appends_nothing a = Appends-nil a

pub keeps_itself : (a : Option (List ℕ)) → Keeps a a
keeps_itself a = Keeps-refl a

-- what is consumed of a source
pub ruleset consumed = (consumes_next, consumes_kept, consumes_nothing)
