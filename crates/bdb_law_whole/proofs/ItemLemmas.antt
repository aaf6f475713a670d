-- What an item of a leaf or a hash page holds is among what the page holds, a shared key's too; so each chain that it names is whole.
use Rattle.std.proofs.Common.{◌≡◌, ℕ, zero, suc, ◌-◌, ◌<◌, ◌≤◌, true, false, List, [], ◌∷◌, length, arith, refl, sym, ◌∙◌, ap, subst, inl, inr, ◌==◌, ◌&&◌, ◌%◌}
use Rattle.std.proofs.Common.{nat_le, slice_index, if◌then◌else◌, Contains}
use Rattle.std.proofs.lemmas.Bool.{and_parts, cases_Bool, eqb-true, leb-true}
use Rattle.bdb_survey.specs.of_format.declared.kinds.Order.{Order}
use Rattle.bdb_survey.specs.of_format.Terms.{Chain, Content, File, Inline, Item, Leaf, Listed, Page, Set, Tree, Unknown, contents_in, entries_of, file_of}
use Rattle.bdb_survey.specs.of_format.Terms.{head_of, is_shared_key, item_at, joined, leaf_item_at, listed, page_at, page_bytes, pieces_of, value_of}
use Rattle.bdb_survey.proofs.of_format.LeafLemmas.{leaf_item_is, one_offset}
use Rattle.bdb_survey.proofs.of_format.PageLemmas.{index_offset, length_items}
use Rattle.bdb_survey.proofs.of_format.TargetLemmas.{own_held}
use Rattle.bdb_survey.proofs.of_format.FileLemmas.{last_page, page_is}
use Rattle.bdb_survey.proofs.of_graph.ChildLemmas.{is_queue_page}
use Rattle.bdb_survey.proofs.of_overflow.ContentLemmas.{held_fits, leaf_of}
use Rattle.bdb_survey.specs.Salvage.{is_whole, whole_values}
use Rattle.bdb_survey.proofs.of_tree.ShapeLemmas.{IsAlone}
use Rattle.bdb_law_whole.specs.Whole.{IsStructured}
use Rattle.bdb_law_whole.proofs.ChainLemmas.{named_whole}

-- A leaf by its bytes.

-- a key that is shared is the item of the entry two before
record IsShared (page : Listed Item) (i : ℕ) : Type 0 where
  above : 2 ≤ i
  same : item_at page i ≡ item_at page (i - 2)

shared : (order : Order) (bytes : List ℕ) (i : ℕ) → i < entries_of order bytes
    → is_shared_key (listed order bytes (leaf_item_at order bytes)).offsets i ≡ true
    → IsShared (listed order bytes (leaf_item_at order bytes)) i
shared order bytes i there is =
    let page : Listed Item = listed order bytes (leaf_item_at order bytes) in
    let outer = and_parts (i % 2 == 0 && nat_le 2 i) (slice_index page.offsets i == slice_index page.offsets (i - 2)) is in
    let above : 2 ≤ i = leb-true 2 i (and_parts (i % 2 == 0) (nat_le 2 i) outer.0).1 in
    let same : slice_index page.offsets i ≡ slice_index page.offsets (i - 2) = eqb-true _ _ outer.1 in
    record {
      above = above;
      same =
          leaf_item_is order bytes i there
          ∙ (one_offset order bytes i (i - 2)
          (sym (index_offset order bytes (leaf_item_at order bytes) i there)
          ∙ (same ∙ index_offset order bytes (leaf_item_at order bytes) (i - 2) (omega arith)))
          ∙ sym (leaf_item_is order bytes (i - 2) (omega arith)));
    }

-- an item is held where it's no shared key, or where the item that it shares is
held_by : (page : Listed Item) (i : ℕ) → ((j : ℕ) → j < length page.items → is_shared_key page.offsets j ≡ true → IsShared page j)
    → i < length page.items
    → (IsShared page i → Contains (contents_in (Leaf page)) (item_at page i).content) → Contains (contents_in (Leaf page)) (item_at page i).content
held_by page i shares there before =
    elim (cases_Bool (is_shared_key page.offsets i)) [
      | inr own ↦ own_held page i there own
      | inl again ↦ before (shares i there again)
    ]

-- back, two entries a turn, to the one whose key is shared
held_back : (turns : ℕ) (page : Listed Item) (i : ℕ) → ((j : ℕ) → j < length page.items → is_shared_key page.offsets j ≡ true → IsShared page j)
    → i ≤ turns
    → i < length page.items → Contains (contents_in (Leaf page)) (item_at page i).content
held_back zero page i shares few there =
    held_by page i shares there (λ before. let above : 2 ≤ i = before.above in absurd (omega arith))
held_back (suc turns) page i shares few there =
    held_by page i shares there (λ before.
    let above : 2 ≤ i = before.above in
    subst (λ (item : Item). Contains (contents_in (Leaf page)) item.content) (sym before.same)
    (held_back turns page (i - 2) shares (omega arith) (omega arith)))

-- each item of a btree leaf holds what the leaf holds
pub leaf_held : (image : List ℕ) (p : ℕ) (page : Listed Item) (i : ℕ) → p ≤ (file_of image).last → page_at (file_of image) p ≡ Leaf page
    → i < length page.items
    → Contains (contents_in (Leaf page)) (item_at page i).content
leaf_held image p page i low is there =
    let order : Order = (head_of image).order in
    let bytes : List ℕ = page_bytes (head_of image) image p in
    let as_listed : page ≡ listed order bytes (leaf_item_at order bytes) =
    leaf_of order bytes page (sym (page_is image p (omega (arith, low, last_page image))) ∙ is) in
    let shares : (j : ℕ) → j < length page.items → is_shared_key page.offsets j ≡ true → IsShared page j =
    subst (λ (l : Listed Item). (j : ℕ) → j < length l.items → is_shared_key l.offsets j ≡ true → IsShared l j) (sym as_listed)
    (λ j below again. shared order bytes j (omega (arith, below, length_items order bytes (leaf_item_at order bytes))) again) in
    held_back i page i shares (omega arith) there

-- What is held is whole.

-- a chain that is named is whole
abbrev pub NamesWhole : File → Content → Type 0
NamesWhole file (Inline bytes) = Unit {0}
NamesWhole file (Set blocks) = Unit {0}
NamesWhole file (Chain head total) = is_whole file head total ≡ true
NamesWhole file (Tree root) = Unit {0}
NamesWhole file Unknown = Unit {0}

pub held_whole : (image : List ℕ) (p : ℕ) (page : Page) (content : Content) → IsStructured image → p ≤ (file_of image).last
    → page_at (file_of image) p ≡ page
    → is_queue_page page ≡ false → Contains (contents_in page) content → NamesWhole (file_of image) content
held_whole image p page (Chain head total) sound low is other held =
    named_whole image p head total sound low (subst (λ (q : Page). Contains (contents_in q) (Chain head total)) (sym is) held)
    (held_fits image p page (Chain head total) sound.forest low is other held)
held_whole image p page (Inline bytes) sound low is other held = tt
held_whole image p page (Set blocks) sound low is other held = tt
held_whole image p page (Tree root) sound low is other held = tt
held_whole image p page Unknown sound low is other held = tt

-- the value of an item that holds one by itself is whole
pub alone_whole : (file : File) (content : Content) → IsAlone content → NamesWhole file content
    → whole_values file content ≡ value_of file content ∷ []
unfolding whole_values value_of
alone_whole file (Inline bytes) alone whole = refl
alone_whole file (Chain head total) alone whole = ap (λ b. if b then joined (pieces_of file head) ∷ [] else []) whole
alone_whole file (Set blocks) alone whole = absurd alone
alone_whole file (Tree root) alone whole = absurd alone
alone_whole file Unknown alone whole = absurd alone
