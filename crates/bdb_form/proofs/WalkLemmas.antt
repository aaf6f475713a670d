-- What is left of a page's items and pairs as they are given one by one.
use Rattle.std.proofs.Common.{◌≡◌, ℕ, suc, ◌+◌, ◌-◌, ◌/◌, ◌<◌, ◌≤◌, Bool, List, [], ◌∷◌, length, drop, get_or, arith, refl, ◌∙◌, drop-cons, ◌*◌, Some}
use Rattle.std.proofs.Common.{slice_get}
use Rattle.std.proofs.lemmas.List.{drop_all}
use Rattle.std.proofs.lemmas.List.FromFn.{length-map-range_with_len}
use Rattle.std.proofs.lemmas.Option.{slice_get-get_or}
use Rattle.bdb_layout.specs.of_format.Terms.{Listed}
use Rattle.bdb_form.specs.Pairs.{pair_of, pairs_from}

pub read_item : {I : Type 0} (items : List I) (i : ℕ) (none item : I) → i < length items → slice_get items i ≡ Some item → get_or items i none ≡ item
read_item items i none item low is = let read : slice_get items i ≡ Some (get_or items i none) = slice_get-get_or items i none low in cc

pub next_item : {I : Type 0} (items : List I) (at : ℕ) (item : I) → at < length items → slice_get items at ≡ Some item
    → drop at items ≡ item ∷ drop (at + 1) items
next_item items at item low is =
    let first : get_or items at item ≡ item = read_item items at item item low is in
    let after : suc at ≡ at + 1 = omega arith in
    drop-cons items at item low ∙ rw (first, after) refl

pub no_item_left : {I : Type 0} (items : List I) (at : ℕ) → length items ≤ at → drop at items ≡ []
no_item_left items at past = drop_all at items past

pub next_pair : {I : Type 0} (none : I) (may_share : Bool) (page : Listed I) (i : ℕ) → i < length page.items / 2
    → pairs_from none may_share page i ≡ pair_of none may_share page i ∷ pairs_from none may_share page (i + 1)
next_pair none may_share page i low = grind arith

pub no_pair_left : {I : Type 0} (none : I) (may_share : Bool) (page : Listed I) (i : ℕ) → length page.items / 2 ≤ i
    → pairs_from none may_share page i ≡ []
no_pair_left none may_share page i past = grind arith

pub pairs_left : {I : Type 0} (none : I) (may_share : Bool) (page : Listed I) (i n : ℕ) → 2 * n ≡ length page.items
    → n - i ≡ length (pairs_from none may_share page i)
pairs_left none may_share page i n is = grind (arith, length-map-range_with_len)
