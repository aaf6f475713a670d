-- What a pair of a sound file gives to salvage is what it gives to the list of its database.
use Rattle.std.proofs.Common.{◌≡◌, ℕ, suc, ◌+◌, ◌*◌, ◌/◌, ◌<◌, ◌≤◌, Bool, true, false, List, [], ◌∷◌, ◌++◌, append-nil, length, map, get_or, arith, refl, sym}
use Rattle.std.proofs.Common.{◌∙◌, ap, subst, inl, inr, not, if◌then◌else◌}
use Rattle.std.specs.List.{Contains, filter, flat_map, range_with_len}
use Rattle.std.proofs.lemmas.List.Elements.{Contains-get_or}
use Rattle.std.proofs.lemmas.List.Folds.{flat_map-map}
use Rattle.bdb_survey.specs.of_format.Terms.{Chain, Content, DupLeaf, File, Hash, Inline, Item, Leaf, Listed, Page, RecnoLeaf, Set, Tree, Unknown, data_of}
use Rattle.bdb_survey.specs.of_format.Terms.{entries_in, file_of, is_shared_key, item_at, leaves, live_values, no_item, page_at, pair_at, pairs_in, pairs_of}
use Rattle.bdb_survey.specs.of_format.Terms.{value_of}
use Rattle.bdb_survey.proofs.of_format.MemberLemmas.{first_member, in_map, later_member, member_cases, no_member, of_range}
use Rattle.bdb_survey.proofs.of_format.ListLemmas.{flat_map_same}
use Rattle.bdb_survey.specs.of_image.Linked.{FitsDupRoot}
use Rattle.bdb_survey.specs.Salvage.{item_pairs, live_value, live_whole, pair_in, paired_items, stored_on, stored_pair, whole_data, whole_values}
use Rattle.bdb_survey.proofs.of_tree.ShapeLemmas.{AreAlone, IsAlone, IsFormedPage, SetsAreData, formed_at}
use Rattle.bdb_survey.proofs.of_tree.TreeLemmas.{hash_dup_root, leaf_dup_root, leaf_low, root_is_tree}
use Rattle.bdb_survey.specs.of_law_sums.Databases.{given_on, given_pair}
use Rattle.bdb_law_whole.specs.Guessed.{guessed}
use Rattle.bdb_law_whole.specs.Whole.{AreBytes, IsStructured}
use Rattle.bdb_law_whole.proofs.AlikeLemmas.{same_values, same_values_on}
use Rattle.bdb_law_whole.proofs.ItemLemmas.{NamesWhole, alone_whole, held_whole, leaf_held}
use Rattle.bdb_law_whole.proofs.PageLemmas.{same_page}
use Rattle.bdb_law_whole.proofs.SetLemmas.{whole_set_is}

-- The values of a leaf.

alone_of : (items : List Item) (item : Item) → AreAlone items → Contains items item → IsAlone item.content
alone_of [] item all at = absurd (no_member [] item refl at)
alone_of (x ∷ xs) item all at =
    elim (member_cases x xs item at) [
      | inl here ↦ subst (λ (it : Item). IsAlone it.content) here (all 0 (omega arith))
      | inr later ↦ alone_of xs item (λ i below. all (suc i) (omega arith)) later
    ]

live_list : (file : File) (items : List Item)
    → ((item : Item) → Contains items item → whole_values file item.content ≡ value_of file item.content ∷ [])
    → flat_map (live_value file) items ≡ map (λ (item : Item). value_of file item.content) (filter (λ (item : Item). not item.deleted) items)
live_list file [] each = refl
live_list file (item ∷ items) each =
    let value : Item → List ℕ = λ (it : Item). value_of file it.content in
    let kept : List Item = filter (λ (it : Item). not it.deleted) items in
    let rest : flat_map (live_value file) items ≡ map value kept = live_list file items (λ it at. each it (later_member item items it at)) in
    ap (λ values. (if item.deleted then [] else values) ++ flat_map (live_value file) items) (each item (first_member item items))
    ∙ (ap (λ values. (if item.deleted then [] else (value item ∷ [])) ++ values) rest
    ∙ (elim item.deleted as (λ b. (if b then [] else (value item ∷ [])) ++ map value kept ≡ map value (if not b then item ∷ kept else kept)) [
      | true ↦ refl
      | false ↦ refl
    ]))

pub entries_whole : (image : List ℕ) (p : ℕ) (page : Page) (item : Item) → IsStructured image → p ≤ (file_of image).last
    → page_at (file_of image) p ≡ page
    → Contains (entries_in page) item → whole_values (file_of image) item.content ≡ value_of (file_of image) item.content ∷ []
entries_whole image p (RecnoLeaf page) item sound low is at =
    let formed : IsFormedPage (RecnoLeaf page) = subst IsFormedPage is (formed_at image p sound.forest low) in
    alone_whole (file_of image) item.content (alone_of page.items item formed.1 at)
    (held_whole image p (RecnoLeaf page) item.content sound low is refl (in_map (λ (it : Item). it.content) page.items item at))
entries_whole image p (DupLeaf page) item sound low is at =
    let formed : IsFormedPage (DupLeaf page) = subst IsFormedPage is (formed_at image p sound.forest low) in
    alone_whole (file_of image) item.content (alone_of page.items item formed.1 at)
    (held_whole image p (DupLeaf page) item.content sound low is refl (in_map (λ (it : Item). it.content) page.items item at))
entries_whole image p page item sound low is at = absurd (no_member [] item refl at)

-- the whole values of the live entries of a page are the values of its live entries
pub live_is : (image : List ℕ) (p : ℕ) → IsStructured image → p ≤ (file_of image).last
    → live_whole (guessed image) p ≡ live_values (file_of image) (page_at (file_of image) p)
unfolding live_whole
live_is image p sound low =
    let file : File = file_of image in
    same_values_on image p sound
    ∙ live_list file (entries_in (page_at file p)) (λ item at. entries_whole image p (page_at file p) item sound low refl at)

-- The data of a pair.

data_is : (image : List ℕ) (content : Content) → IsStructured image → AreBytes image → NamesWhole (file_of image) content
    → ((root : ℕ) → content ≡ Tree root → FitsDupRoot (file_of image) root) → whole_data (guessed image) content ≡ data_of (file_of image) content
unfolding whole_data data_of
data_is image (Inline bytes) sound are whole sets = refl
data_is image (Set blocks) sound are whole sets = refl
data_is image (Chain head total) sound are whole sets =
    same_values image (Chain head total) sound ∙ alone_whole (file_of image) (Chain head total) tt whole
data_is image (Tree root) sound are whole sets =
    let file : File = file_of image in
    let fits : FitsDupRoot file root = sets root refl in
    ap (flat_map (live_whole (guessed image))) (whole_set_is image root sound are fits)
    ∙ flat_map_same (live_whole (guessed image)) (λ p. live_values file (page_at file p)) (leaves file root)
    (λ p at. live_is image p sound (leaf_low image root p sound.forest (root_is_tree image root sound.forest (inr fits)) at))
data_is image Unknown sound are whole sets = refl

-- Pairs.

-- the items of a page that holds pairs: no key is a set, each chain that they name is whole, each set fits
pub record HasPairs (image : List ℕ) (items : List Item) : Type 0 where
  pub sets : SetsAreData items
  pub whole : (i : ℕ) → i < length items → NamesWhole (file_of image) (get_or items i no_item).content
  pub fit : (i root : ℕ) → i < length items → (get_or items i no_item).content ≡ Tree root → FitsDupRoot (file_of image) root

key_alone : (items : List Item) (i : ℕ) → SetsAreData items → 2 * i < length items → IsAlone (get_or items (2 * i) no_item).content
key_alone items i sets below =
    elim (sets (2 * i) below) [ inl alone ↦ alone | inr odd ↦ absurd (omega (arith, odd)) ]

-- each key is whole
pub key_whole : (image : List ℕ) (items : List Item) (i : ℕ) → IsStructured image → HasPairs image items → 2 * i < length items
    → whole_values (guessed image) (get_or items (2 * i) no_item).content ≡ value_of (file_of image) (get_or items (2 * i) no_item).content ∷ []
key_whole image items i sound has below =
    let content : Content = (get_or items (2 * i) no_item).content in
    same_values image content sound ∙ alone_whole (file_of image) content (key_alone items i has.sets below) (has.whole (2 * i) below)

pair_is : (image : List ℕ) (p : ℕ) (page : Listed Item) (shares : ℕ → Bool) (i : ℕ) → IsStructured image → AreBytes image → HasPairs image page.items
    → i < length page.items / 2
    → stored_pair (guessed image) (pair_in page.items i) ≡ given_pair (file_of image) (pair_at (file_of image) p page shares i)
unfolding stored_pair
pair_is image p page shares i sound are has below =
    let file : File = file_of image in
    let key : Item = item_at page (2 * i) in
    let value : Item = item_at page (2 * i + 1) in
    let first : 2 * i < length page.items = omega (arith, below) in
    let second : 2 * i + 1 < length page.items = omega (arith, below) in
    let keys : whole_values (guessed image) key.content ≡ value_of file key.content ∷ [] = key_whole image page.items i sound has first in
    let data' : whole_data (guessed image) value.content ≡ data_of file value.content =
    data_is image value.content sound are (has.whole (2 * i + 1) second) (λ root is. has.fit (2 * i + 1) root second is) in
    let pairs : List ℕ → List (List ℕ) → List (List ℕ × List ℕ) = λ bytes values. map (λ v. (bytes, v)) values in
    ap (λ values. if value.deleted then [] else flat_map (λ bytes. pairs bytes values) (whole_values (guessed image) key.content)) data'
    ∙ (ap (λ ks. if value.deleted then [] else flat_map (λ bytes. pairs bytes (data_of file value.content)) ks) keys
    ∙ (ap (λ xs. if value.deleted then [] else xs) (append-nil (pairs (value_of file key.content) (data_of file value.content)))
    ∙ (elim value.deleted as (λ b. (if b then [] else pairs (value_of file key.content) (data_of file value.content))
    ≡ (if not b then pairs (value_of file key.content) (data_of file value.content) else [])) [
      | true ↦ refl
      | false ↦ refl
    ])))

all_pairs : (image : List ℕ) (p : ℕ) (page : Listed Item) (shares : ℕ → Bool) → IsStructured image → AreBytes image → HasPairs image page.items
    → flat_map (stored_pair (guessed image)) (map (pair_in page.items) (range_with_len 0 (length page.items / 2)))
    ≡ flat_map (given_pair (file_of image)) (map (pair_at (file_of image) p page shares) (range_with_len 0 (length page.items / 2)))
all_pairs image p page shares sound are has =
    let places : List ℕ = range_with_len 0 (length page.items / 2) in
    flat_map-map (stored_pair (guessed image)) (pair_in page.items) places
    ∙ (flat_map_same (λ i. stored_pair (guessed image) (pair_in page.items i))
    (λ i. given_pair (file_of image) (pair_at (file_of image) p page shares i)) places
    (λ i at. pair_is image p page shares i sound are has (omega (arith, (of_range 0 (length page.items / 2) i at).1)))
    ∙ sym (flat_map-map (given_pair (file_of image)) (pair_at (file_of image) p page shares) places))

leaf_pairs : (image : List ℕ) (p : ℕ) (page : Listed Item) → IsStructured image → p ≤ (file_of image).last → page_at (file_of image) p ≡ Leaf page
    → HasPairs image page.items
leaf_pairs image p page sound low is =
    let formed : IsFormedPage (Leaf page) = subst IsFormedPage is (formed_at image p sound.forest low) in
    record {
      sets = formed.1;
      whole = λ i below. held_whole image p (Leaf page) (item_at page i).content sound low is refl (leaf_held image p page i low is below);
      fit = λ i root below set. leaf_dup_root image p i root page sound.forest low is below set;
    }

hash_pairs : (image : List ℕ) (p : ℕ) (page : Listed Item) → IsStructured image → p ≤ (file_of image).last → page_at (file_of image) p ≡ Hash page
    → HasPairs image page.items
hash_pairs image p page sound low is =
    let formed : IsFormedPage (Hash page) = subst IsFormedPage is (formed_at image p sound.forest low) in
    record {
      sets = formed.1;
      whole = λ i below. held_whole image p (Hash page) (item_at page i).content sound low is refl
          (in_map (λ (item : Item). item.content) page.items (item_at page i) (Contains-get_or page.items i no_item below));
      fit = λ i root below set. hash_dup_root image p i root page sound.forest low is below set;
    }

-- each page's items are such, where it has any
pub has_pairs : (image : List ℕ) (p : ℕ) → IsStructured image → p ≤ (file_of image).last → HasPairs image (paired_items (page_at (file_of image) p))
has_pairs image p sound low = of (page_at (file_of image) p) refl
  where
    of : (page : Page) → page_at (file_of image) p ≡ page → HasPairs image (paired_items page)
    of (Leaf page) is = leaf_pairs image p page sound low is
    of (Hash page) is = hash_pairs image p page sound low is
    of page is = record {
      sets = λ i below. absurd (omega arith);
      whole = λ i below. absurd (omega arith);
      fit = λ i root below set. absurd (omega arith);
    }

page_pairs : (image : List ℕ) (p : ℕ) (page : Page) → IsStructured image → AreBytes image → p ≤ (file_of image).last
    → page_at (file_of image) p ≡ page
    → flat_map (stored_pair (guessed image)) (item_pairs page) ≡ flat_map (given_pair (file_of image)) (pairs_in (file_of image) p page)
page_pairs image p (Leaf page) sound are low is =
    all_pairs image p page (λ i. is_shared_key page.offsets (2 * i)) sound are (leaf_pairs image p page sound low is)
page_pairs image p (Hash page) sound are low is = all_pairs image p page (λ i. false) sound are (hash_pairs image p page sound low is)
page_pairs image p page sound are low is = refl

-- the pairs that salvage finds on a page are those that the page has, with all their data
pub stored_is : (image : List ℕ) (p : ℕ) → IsStructured image → AreBytes image → p ≤ (file_of image).last
    → stored_on (guessed image) p ≡ given_on (file_of image) p
unfolding pairs_of
stored_is image p sound are low =
    ap (λ page. flat_map (stored_pair (guessed image)) (item_pairs page)) (same_page image p sound.forest sound.kind low)
    ∙ page_pairs image p (page_at (file_of image) p) sound are low refl
