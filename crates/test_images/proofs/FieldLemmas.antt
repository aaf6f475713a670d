-- A number that is written over as many bytes as it takes is all that is there then.
use Rattle.std.proofs.Common.{◌≡◌, ◌∙◌, ap, sym, arith, ◌+◌, ◌++◌, ◌<◌, ◌≤◌, ℕ, List, [], length, get_or, take, drop, fold}
use Rattle.std.proofs.lemmas.List.{append-nil, drop_all, take_all}
use Rattle.std.proofs.lemmas.List.Sums.{fold_more}
use Rattle.test_images.specs.declared.field.Field.{Field}
use Rattle.test_images.specs.Fields.{field_put}
use Rattle.bdb_tree.specs.of_format.declared.kinds.Order.{Order}
use Rattle.bdb_tree.specs.of_format.Terms.{overwritten, spelled}
use Rattle.bdb_tree.proofs.of_format.SpellingLemmas.{length-spelled}

pub all_spelled : (n : ℕ) (order : Order) (x : ℕ) (bytes : List ℕ) → length bytes ≡ n → overwritten bytes 0 (spelled n order x) ≡ spelled n order x
all_spelled n order x bytes long =
    let few : length bytes ≤ 0 + length (spelled n order x) = omega (arith, length-spelled n order x) in
    let none : drop (0 + length (spelled n order x)) bytes ≡ [] = drop_all (0 + length (spelled n order x)) bytes few in
    ap (λ (bs : List ℕ). spelled n order x ++ bs) none ∙ append-nil (spelled n order x)

-- Fields that are written one after another.

pub written_more : (order : Order) (bytes now next : List ℕ) (fields : List Field) (i : ℕ) (d : Field) → i < length fields
    → now ≡ fold (field_put order) bytes (take i fields) → next ≡ field_put order now (get_or fields i d)
    → next ≡ fold (field_put order) bytes (take (i + 1) fields)
written_more order bytes now next fields i d more so e =
    e ∙ ap (λ (bs : List ℕ). field_put order bs (get_or fields i d)) so ∙ sym (fold_more (field_put order) bytes fields i d more)

pub written_all : (order : Order) (bytes now : List ℕ) (fields : List Field) (i : ℕ) → length fields ≤ i
    → now ≡ fold (field_put order) bytes (take i fields) → now ≡ fold (field_put order) bytes fields
written_all order bytes now fields i end so = so ∙ ap (fold (field_put order) bytes) (take_all i fields end)
