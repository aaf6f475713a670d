-- A place whose key is read.
use Rattle.std.proofs.Common.{◌≡◌, ℕ, ◌+◌, ◌*◌, ◌≤◌, ◌<◌, cond, List, [], length, arith, sym, ap, Some, slice_get}
use Rattle.std.proofs.lemmas.Bool.{le-ltb, lt-ltb}
use Rattle.std.proofs.lemmas.Option.{get_or_from_slice_get}
use Rattle.bdb_tree.specs.of_format.Terms.{Hash, Item, Listed, file_of, page_at, value_of}
use Rattle.bdb_tree.specs.of_layout.declared.items.HashItem.{HashItem}
use Rattle.bdb_tree.specs.of_layout.Seen.{hash_content_seen, hash_item_seen}
use Rattle.bdb_buckets.specs.declared.place.PairPlace.{PairPlace}
use Rattle.bdb_buckets.specs.Places.{key_at, key_in}

pub no_page : (image : List ℕ) (place : PairPlace) → (file_of image).last < place.page → [] ≡ key_at image place
no_page image place above =
    sym (ap (λ b. cond b [] (key_in (file_of image) (page_at (file_of image) place.page) place.index)) (lt-ltb (file_of image).last place.page above))

pub on_page : (image : List ℕ) (place : PairPlace) → place.page ≤ (file_of image).last
    → key_at image place ≡ key_in (file_of image) (page_at (file_of image) place.page) place.index
on_page image place low =
    ap (λ b. cond b [] (key_in (file_of image) (page_at (file_of image) place.page) place.index)) (le-ltb (file_of image).last place.page low)

-- the key on a hash page
pub key_here : (image : List ℕ) (place : PairPlace) (page : Listed Item) (item : HashItem) (bytes : List ℕ) → place.page ≤ (file_of image).last
    → page_at (file_of image) place.page ≡ Hash page
    → 2 * place.index + 1 < length page.items → slice_get page.items (2 * place.index) ≡ Some (hash_item_seen item)
    → bytes ≡ value_of (file_of image) (hash_content_seen item) → bytes ≡ key_at image place
key_here image place page item bytes low shows there at is = grind (arith, get_or_from_slice_get, lt-ltb, on_page)
