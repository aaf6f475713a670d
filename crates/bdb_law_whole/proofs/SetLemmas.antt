-- Each set off the page of a sound file is whole: the way down fits, and its leaves are a whole row of pages of one type.
use Rattle.std.proofs.Common.{append-nil, ◌≡◌, ◌⊎◌, ℕ, zero, suc, ◌+◌, ◌-◌, ◌*◌, ◌<◌, ◌≤◌, Bool, true, false, cond, List, [], ◌∷◌, ◌++◌, length, get_or, drop}
use Rattle.std.proofs.Common.{arith, refl, sym, ◌∙◌, ap, subst, inl, inr, ◌==◌, ◌&&◌, nat_lt, if◌then◌else◌, slice_get, Option, Some, None, Contains, flat_map}
use Rattle.std.proofs.lemmas.Bool.{and_parts, cases_lt, eq-eqb, eqb-true, le-ltb, ne_eqb, not-false}
use Rattle.std.proofs.lemmas.List.{get_or_past}
use Rattle.std.proofs.lemmas.List.Elements.{All-drop, All-get_or, All-take}
use Rattle.bdb_survey.specs.of_format.declared.kinds.Order.{Order}
use Rattle.bdb_survey.specs.of_format.declared.references.Sort.{Sort}
use Rattle.bdb_survey.specs.of_format.declared.references.Sort.TheVariants.{DuplicateRoot}
use Rattle.bdb_survey.specs.of_format.Terms.{DupLeaf, File, LeafPlace, NoType, Page, RecnoLeaf, Zero, abstract_page, byte_at, chain, child_types, children_in}
use Rattle.bdb_survey.specs.of_format.Terms.{file_of, fit_code, has_type, head_of, header_in, is_wrong_leaf, is_wrong_link, is_zero, leaf_places, leaves}
use Rattle.bdb_survey.specs.of_format.Terms.{listed, next_of, page_as, page_at, page_bytes, page_type, places_from, structure_faults, structure_rows, type_in}
use Rattle.bdb_survey.specs.of_format.Terms.{wrong_leaf_types}
use Rattle.bdb_survey.specs.of_format.declared.pages.PageType.{PageType}
use Rattle.bdb_survey.specs.of_format.declared.pages.PageType.TheVariants.{Free as FreePage, Hash as HashPage, Internal as InternalPage}
use Rattle.bdb_survey.specs.of_format.declared.pages.PageType.TheVariants.{RecnoInternal as RecnoInternalPage, Leaf as LeafPage, RecnoLeaf as RecnoLeafPage}
use Rattle.bdb_survey.specs.of_format.declared.pages.PageType.TheVariants.{Overflow as OverflowPage, HashMeta as HashMetaPage, BtreeMeta as BtreeMetaPage}
use Rattle.bdb_survey.specs.of_format.declared.pages.PageType.TheVariants.{QueueMeta as QueueMetaPage, Queue as QueuePage, DupLeaf as DupLeafPage}
use Rattle.bdb_survey.specs.of_format.declared.pages.PageType.TheVariants.{Other as OtherPage}
use Rattle.bdb_survey.proofs.of_format.BoolLemmas.{second_false}
use Rattle.bdb_survey.proofs.of_format.MemberLemmas.{first_member, later_member, member_cases, no_member, none_passes}
use Rattle.bdb_survey.proofs.of_format.TypeLemmas.{of_type}
use Rattle.bdb_survey.proofs.of_format.VerdictLemmas.{AllFail, no_rows_at}
use Rattle.bdb_survey.proofs.of_format.FileLemmas.{last_page, page_is}
use Rattle.bdb_survey.specs.of_image.Linked.{FitsDupRoot, FitsLeafPage, IsForest}
use Rattle.bdb_survey.specs.Salvage.{down, down_by, down_in, fits_below, follows, is_like, is_row, row_from, set_start, whole_set}
use Rattle.bdb_survey.proofs.StoredPageLemmas.{last_is}
use Rattle.bdb_survey.specs.of_tree.Links.{pages_from}
use Rattle.bdb_survey.specs.of_tree.Trees.{IsTreePage}
use Rattle.bdb_survey.proofs.of_tree.BelongLemmas.{leaf_above, tree_above}
use Rattle.bdb_survey.proofs.of_tree.LinkLemmas.{all_pages}
use Rattle.bdb_survey.proofs.of_tree.TreeLemmas.{IsChild, child_is, dup_leaf_page, inner_type, leaf_fits, leaf_low, leaves_of_inner, leaves_of_leaf, level, link_is_right}
use Rattle.bdb_survey.proofs.of_tree.TreeLemmas.{place_of_root, recno_leaf, recno_leaf_page, root_is_tree, tree_cases, tree_inside, tree_level}
use Rattle.bdb_survey.proofs.of_tree.NotedLemmas.{place_leaf}
use Rattle.bdb_survey.proofs.of_law_sums.LeafLemmas.{keyed_leaf}
use Rattle.bdb_law_whole.specs.Guessed.{guessed}
use Rattle.bdb_law_whole.specs.Whole.{AreBytes, IsStructured}
use Rattle.bdb_law_whole.proofs.AlikeLemmas.{same_chain, same_row}
use Rattle.bdb_law_whole.proofs.ChainLemmas.{follows_last, follows_more, linked}
use Rattle.bdb_law_whole.proofs.PageLemmas.{last_there, same_page}

-- Levels are bytes.

byte_fits : (bytes : List ℕ) (k : ℕ) → AreBytes bytes → byte_at bytes k ≤ 255
byte_fits bytes k are =
    elim (cases_lt k (length bytes)) [
      | inl there ↦ let below : get_or bytes k 0 < 256 = All-get_or (λ byte. byte < 256) bytes k 0 there are in omega arith
      | inr past ↦ let none : get_or bytes k 0 ≡ 0 = get_or_past bytes k 0 past in omega arith
    ]

typed_level : (order : Order) (page : List ℕ) (t : PageType) → (header_in (page_as order page t)).level ≤ byte_at page 24
unfolding listed
typed_level order page FreePage = omega arith
typed_level order page HashPage = omega arith
typed_level order page InternalPage = omega arith
typed_level order page RecnoInternalPage = omega arith
typed_level order page LeafPage = omega arith
typed_level order page RecnoLeafPage = omega arith
typed_level order page OverflowPage = omega arith
typed_level order page HashMetaPage = omega arith
typed_level order page BtreeMetaPage = omega arith
typed_level order page QueueMetaPage = omega arith
typed_level order page QueuePage = omega arith
typed_level order page DupLeafPage = omega arith
typed_level order page OtherPage = omega arith

abstract_level : (order : Order) (page : List ℕ) → (header_in (abstract_page order page)).level ≤ byte_at page 24
unfolding abstract_page
abstract_level order page =
    elim (is_zero page) as (λ b.
    (header_in (elim b [ true ↦ Zero | false ↦ page_as order page (page_type (byte_at page 25)) ])).level ≤ byte_at page 24) [
      | true ↦ omega arith
      | false ↦ typed_level order page (page_type (byte_at page 25))
    ]

pub level_fits : (image : List ℕ) (p : ℕ) → AreBytes image → p ≤ (file_of image).last → level (file_of image) p ≤ 255
level_fits image p are low =
    let bytes : List ℕ = page_bytes (head_of image) image p in
    let same : level (file_of image) p ≡ (header_in (abstract_page (head_of image).order bytes)).level =
    ap (λ (page : Page). (header_in page).level) (page_is image p (omega (arith, low, last_page image))) in
    let these : AreBytes bytes =
    All-take (λ byte. byte < 256) (head_of image).page_size (drop (p * (head_of image).page_size) image)
    (All-drop (λ byte. byte < 256) (p * (head_of image).page_size) image are) in
    omega (arith, same, abstract_level (head_of image).order bytes, byte_fits bytes 24 these)

-- The way down.

below_last : (image : List ℕ) (p : ℕ) → IsForest image → p ≤ (file_of image).last → p ≤ (guessed image).last
below_last image p forest low =
    omega (
      arith,
      low,
      last_there image forest,
      last_is (head_of image).order (head_of image).page_size image,
    )

-- each child fits as salvage asks
child_fits : (image : List ℕ) (p child : ℕ) (children : List ℕ) → IsStructured image → children_in (page_at (file_of image) p) ≡ Some children
    → Contains children child → fits_below (guessed image) p child ≡ true
unfolding fit_code
child_fits image p child children sound are at =
    let file : File = file_of image in
    let is : IsChild file p child = child_is image p child children sound.forest are at in
    let low : p ≤ file.last = tree_inside image p (inner_type (page_at file p) children are) in
    let here : page_at (guessed image) p ≡ page_at file p = same_page image p sound.forest sound.kind low in
    let there : page_at (guessed image) child ≡ page_at file child = same_page image child sound.forest sound.kind is.inside in
    let some : (child == 0) ≡ false = ne_eqb child 0 (λ none. let above : 1 ≤ child = is.above in omega arith) in
    let inside : nat_lt (guessed image).last child ≡ false = le-ltb (guessed image).last child (below_last image child sound.forest is.inside) in
    let type : has_type (child_types (page_at file p)) (type_in (page_at file child)) ≡ true = is.type in
    let below : (level file p - 1 == level file child) ≡ true = eq-eqb (level file p - 1) (level file child) (omega (arith, is.level)) in
    rw (here, there, some, inside, type, below) refl

-- the first leaf below a page
record HasFirst (leaf : Option ℕ) (leaves : List ℕ) : Type 0 where
  first : ℕ
  others : List ℕ
  is : leaf ≡ Some first
  leaves_are : leaves ≡ first ∷ others

down_turn : (n : ℕ) (file : File) (p : ℕ) (children : Option (List ℕ)) → children_in (page_at file p) ≡ children
    → down_in (suc n) file p ≡ down_by (down_in n file) (fits_below file p) p children
unfolding down_in
down_turn n file p children are = ap (down_by (down_in n file) (fits_below file p) p) are

down_finds : (n : ℕ) (image : List ℕ) (p : ℕ) → IsStructured image → IsTreePage (file_of image) p → level (file_of image) p ≤ n
    → HasFirst (down_in n (guessed image) p) (leaves (file_of image) p)
down_finds zero image p sound tree few = absurd (omega (arith, tree_level image p sound.forest tree))
down_finds (suc n) image p sound tree few =
    let file : File = file_of image in
    let here : children_in (page_at (guessed image) p) ≡ children_in (page_at file p) =
    ap children_in (same_page image p sound.forest sound.kind (tree_inside image p tree)) in
    elim (tree_cases image p sound.forest tree) [
      | inr leaf ↦
          record {
            first = p;
            others = [];
            is = down_turn n (guessed image) p None (here ∙ leaf.none);
            leaves_are = leaves_of_leaf file p leaf;
          }
      | inl inner ↦ by_first inner.children inner.are inner.some here
          (λ c at. down_finds n image c sound (child_is image p c inner.children sound.forest inner.are at).tree
          (let child : IsChild file p c = child_is image p c inner.children sound.forest inner.are at in omega (arith, child.level, few)))
    ]
  where
    by_first : (children : List ℕ) → children_in (page_at (file_of image) p) ≡ Some children → 0 < length children
        → children_in (page_at (guessed image) p) ≡ children_in (page_at (file_of image) p)
        → ((c : ℕ) → Contains children c → HasFirst (down_in n (guessed image) c) (leaves (file_of image) c))
        → HasFirst (down_in (suc n) (guessed image) p) (leaves (file_of image) p)
    by_first [] are some here below = absurd (omega arith)
    by_first (c ∷ cs) are some here below =
        let rest : HasFirst (down_in n (guessed image) c) (leaves (file_of image) c) = below c (first_member c cs) in
        record {
          first = rest.first;
          others = rest.others ++ flat_map (leaves (file_of image)) cs;
          is =
              down_turn n (guessed image) p (Some (c ∷ cs)) (here ∙ are)
              ∙ (ap (λ b. cond b (down_in n (guessed image) c) None) (child_fits image p c (c ∷ cs) sound are (first_member c cs)) ∙ rest.is);
          leaves_are =
              leaves_of_inner image p (c ∷ cs) sound.forest are ∙ ap (λ ls. ls ++ flat_map (leaves (file_of image)) cs) rest.leaves_are;
        }

root_down : (image : List ℕ) (root : ℕ) → IsStructured image → AreBytes image → FitsDupRoot (file_of image) root
    → HasFirst (down (guessed image) root) (leaves (file_of image) root)
unfolding down
root_down image root sound are fits =
    let file : File = file_of image in
    let tree : IsTreePage file root = root_is_tree image root sound.forest (inr fits) in
    let above : 1 ≤ root = tree_above image root sound.forest tree in
    let found : HasFirst (down_in 255 (guessed image) root) (leaves file root) =
    down_finds 255 image root sound tree (level_fits image root are (tree_inside image root tree)) in
    record {
      first = found.first;
      others = found.others;
      is = ap (λ b. if b then None else down_in 255 (guessed image) root) (ne_eqb root 0 (λ none. omega arith)) ∙ found.is;
      leaves_are = found.leaves_are;
    }

-- The row of leaves.

-- what is right at each place of leaves makes them a row
row_of_places : (file : File) (test : Page → Bool) (sort : Sort) (before p : ℕ) (ps : List ℕ) → ((q : ℕ) → Contains (p ∷ ps) q → 1 ≤ q)
    → ((q : ℕ) → Contains (p ∷ ps) q → test (page_at file q) ≡ true)
    → ((place : LeafPlace) → Contains (places_from sort before (p ∷ ps)) place → is_wrong_link file place ≡ false)
    → follows file test before (p ∷ ps) ≡ true
row_of_places file test sort before p [] above like right =
    let links = and_parts ((header_in (page_at file p)).previous == before) ((header_in (page_at file p)).next == 0)
    (not-false _ (right (record { tree = sort; before = before; leaf = p; after = 0 }) (first_member _ []))) in
    follows_last file test before p
    (linked file test before p (above p (first_member p [])) (like p (first_member p []))
    (eqb-true (header_in (page_at file p)).previous before links.0))
    (eqb-true (next_of file p) 0 links.1)
row_of_places file test sort before p (q ∷ ps) above like right =
    let links = and_parts ((header_in (page_at file p)).previous == before) ((header_in (page_at file p)).next == q)
    (not-false _ (right (record { tree = sort; before = before; leaf = p; after = q }) (first_member _ (places_from sort p (q ∷ ps))))) in
    follows_more file test before p (q ∷ ps)
    (linked file test before p (above p (first_member p (q ∷ ps))) (like p (first_member p (q ∷ ps)))
    (eqb-true (header_in (page_at file p)).previous before links.0))
    (row_of_places file test sort p q ps (λ r at. above r (later_member p (q ∷ ps) r at)) (λ r at. like r (later_member p (q ∷ ps) r at))
    (λ place at. right place (later_member _ (places_from sort p (q ∷ ps)) place at)))

-- The types of leaves of a set.

-- a page of a tree is one of pairs and sorted data, or one of records
keyed_or_recno : (type : Option ℕ) → has_type (3 ∷ 4 ∷ 5 ∷ 6 ∷ 12 ∷ []) type ≡ true
    → (has_type (3 ∷ 5 ∷ 12 ∷ []) type ≡ true) ⊎ (has_type (4 ∷ 6 ∷ []) type ≡ true)
keyed_or_recno type has =
    of_type (λ t. (has_type (3 ∷ 5 ∷ 12 ∷ []) t ≡ true) ⊎ (has_type (4 ∷ 6 ∷ []) t ≡ true)) (3 ∷ 4 ∷ 5 ∷ 6 ∷ 12 ∷ []) type
    (inl refl, (inr refl, (inl refl, (inr refl, (inl refl, tt))))) has

-- no leaf of a set is one of pairs
right_leaf : (image : List ℕ) (place : LeafPlace) → IsStructured image → place.leaf ≤ (file_of image).last
    → Contains (leaf_places (file_of image)) place
    → is_wrong_leaf (file_of image) place ≡ false
unfolding structure_faults
right_leaf image place sound low at =
    let file : File = file_of image in
    let p : ℕ = place.leaf in
    let fail : AllFail (structure_rows file p) = no_rows_at 6 0 (file.last + 1) p (structure_rows file) sound.structure (omega arith) (omega arith) in
    second_false (p == p) (is_wrong_leaf file place) (eq-eqb p p refl)
    (none_passes (λ (other : LeafPlace). other.leaf == p && is_wrong_leaf file other) (leaf_places file) place fail.1.0 at)

-- each leaf has a place
record PlaceOf (places : List LeafPlace) (sort : Sort) (q : ℕ) : Type 0 where
  place : LeafPlace
  at : Contains places place
  leaf : place.leaf ≡ q
  tree : place.tree ≡ sort

place_of : (sort : Sort) (before : ℕ) (ps : List ℕ) (q : ℕ) → Contains ps q → PlaceOf (places_from sort before ps) sort q
place_of sort before [] q at = absurd (no_member [] q refl at)
place_of sort before (p ∷ ps) q at =
    elim (member_cases p ps q at) [
      | inl here ↦ record { place = _; at = first_member _ (places_from sort p ps); leaf = here; tree = refl }
      | inr later ↦
          let rest : PlaceOf (places_from sort p ps) sort q = place_of sort p ps q later in
          record { place = rest.place; at = later_member _ (places_from sort p ps) rest.place rest.at; leaf = rest.leaf; tree = rest.tree }
    ]

no_pairs : (image : List ℕ) (root q : ℕ) → IsStructured image → FitsDupRoot (file_of image) root → Contains (leaves (file_of image) root) q
    → has_type (5 ∷ []) (type_in (page_at (file_of image) q)) ≡ false
no_pairs image root q sound fits at =
    let file : File = file_of image in
    let has : PlaceOf (places_from DuplicateRoot 0 (leaves file root)) DuplicateRoot q = place_of DuplicateRoot 0 (leaves file root) q at in
    let tree : IsTreePage file root = root_is_tree image root sound.forest (inr fits) in
    let low : has.place.leaf ≤ file.last = omega (arith, has.leaf, leaf_low image root q sound.forest tree at) in
    let right = right_leaf image has.place sound low (place_of_root file DuplicateRoot root has.place refl fits has.at) in
    ap (λ n. has_type (5 ∷ []) (type_in (page_at file n))) (sym has.leaf)
    ∙ (ap (λ sort. has_type (wrong_leaf_types sort) (type_in (page_at file has.place.leaf))) (sym has.tree) ∙ right)

sorted_leaf : (type : Option ℕ) → has_type (3 ∷ 5 ∷ 12 ∷ []) type ≡ true → has_type (5 ∷ 6 ∷ 12 ∷ []) type ≡ true → has_type (5 ∷ []) type ≡ false
    → type ≡ Some 12
sorted_leaf type keyed =
    of_type (λ t. has_type (5 ∷ 6 ∷ 12 ∷ []) t ≡ true → has_type (5 ∷ []) t ≡ false → t ≡ Some 12) (3 ∷ 5 ∷ 12 ∷ []) type
    (λ leaf no'. absurd cc, (λ leaf no'. absurd cc, (λ leaf no'. refl, tt))) keyed

-- two leaves of a set are alike
alike : (image : List ℕ) (root p q : ℕ) → IsStructured image → FitsDupRoot (file_of image) root → Contains (leaves (file_of image) root) p
    → Contains (leaves (file_of image) root) q → is_like (page_at (file_of image) p) (page_at (file_of image) q) ≡ true
alike image root p q sound fits first other =
    let file : File = file_of image in
    let tree : IsTreePage file root = root_is_tree image root sound.forest (inr fits) in
    elim (keyed_or_recno (type_in (page_at file root)) tree) [
      | inl keyed ↦
          let twelve : (r : ℕ) → Contains (leaves file root) r → type_in (page_at file r) ≡ Some 12 = λ r at.
          sorted_leaf (type_in (page_at file r)) (keyed_leaf (level file root) image root r sound.forest refl keyed at)
          (leaf_fits image root r sound.forest tree at) (no_pairs image root r sound fits at) in
          let a = dup_leaf_page image p sound.forest (twelve p first) in
          let b = dup_leaf_page image q sound.forest (twelve q other) in
          ap (λ page. is_like page (page_at file q)) a.1 ∙ ap (λ page. is_like (DupLeaf a.0) page) b.1
      | inr recno ↦
          let a = recno_leaf_page image p sound.forest (recno_leaf image root p sound.forest recno first) in
          let b = recno_leaf_page image q sound.forest (recno_leaf image root q sound.forest recno other) in
          ap (λ page. is_like page (page_at file q)) a.1 ∙ ap (λ page. is_like (RecnoLeaf a.0) page) b.1
    ]

-- The set.

no_like : (page : Page) → is_like page Zero ≡ is_like page NoType
no_like (RecnoLeaf page) = refl
no_like (DupLeaf page) = refl
no_like page = refl

-- by next pages the leaves follow the first
next_leaves : (image : List ℕ) (root first : ℕ) (others : List ℕ) → IsStructured image → FitsDupRoot (file_of image) root
    → leaves (file_of image) root ≡ first ∷ others → chain (file_of image) first ≡ leaves (file_of image) root
unfolding pages_from
next_leaves image root first others sound fits are =
    let file : File = file_of image in
    let leaf : FitsLeafPage file first =
    leaf_fits image root first sound.forest (root_is_tree image root sound.forest (inr fits))
    (subst (λ ls. Contains ls first) (sym are) (first_member first others)) in
    let some : (first == 0) ≡ false = ne_eqb first 0 (λ none. let above : 1 ≤ first = leaf_above image first sound.forest leaf in omega arith) in
    let all : elim (first == 0) [ true ↦ [] | false ↦ chain file first ] ≡ leaves file root =
    all_pages image root first sound.forest sound.structure (inr fits) (ap (λ ls. slice_get ls 0) are) in
    ap (λ b. elim b [ true ↦ [] | false ↦ chain file first ]) (sym some) ∙ all

-- a set that data name is whole, and begins at its first leaf
pub record IsWholeSet (image : List ℕ) (root : ℕ) : Type 0 where
  pub first : ℕ
  pub start : set_start (guessed image) root ≡ first ∷ []
  pub row : chain (guessed image) first ≡ leaves (file_of image) root

pub set_whole : (image : List ℕ) (root : ℕ) → IsStructured image → AreBytes image → FitsDupRoot (file_of image) root → IsWholeSet image root
unfolding set_start
set_whole image root sound are fits =
    let file : File = file_of image in
    let found : HasFirst (down (guessed image) root) (leaves file root) = root_down image root sound are fits in
    let first : ℕ = found.first in
    let tree : IsTreePage file root = root_is_tree image root sound.forest (inr fits) in
    let at : Contains (leaves file root) first = subst (λ ls. Contains ls first) (sym found.leaves_are) (first_member first found.others) in
    let follow : follows file (is_like (page_at file first)) 0 (first ∷ found.others) ≡ true =
    row_of_places file (is_like (page_at file first)) DuplicateRoot 0 first found.others
    (λ q held. leaf_above image q sound.forest (leaf_fits image root q sound.forest tree (subst (λ ls. Contains ls q) (sym found.leaves_are) held)))
    (λ q held. alike image root first q sound fits at (subst (λ ls. Contains ls q) (sym found.leaves_are) held))
    (λ place held.
    let here : Contains (places_from DuplicateRoot 0 (leaves file root)) place =
    subst (λ ls. Contains (places_from DuplicateRoot 0 ls) place) (sym found.leaves_are) held in
    link_is_right file place sound.structure
    (leaf_low image root place.leaf sound.forest tree (place_leaf DuplicateRoot 0 (leaves file root) place here))
    (place_of_root file DuplicateRoot root place refl fits here)) in
    let next : chain file first ≡ leaves file root = next_leaves image root first found.others sound fits found.leaves_are in
    let row : is_row (guessed image) (is_like (page_at (guessed image) first)) first ≡ true =
    ap (λ page. is_row (guessed image) (is_like page) first)
    (same_page image first sound.forest sound.kind (leaf_low image root first sound.forest tree at))
    ∙ (same_row image (is_like (page_at file first)) first sound (no_like (page_at file first))
    ∙ (ap (follows file (is_like (page_at file first)) 0) (next ∙ found.leaves_are) ∙ follow)) in
    record {
      first = first;
      start = ap (row_from (guessed image)) found.is ∙ ap (λ b. if b then first ∷ [] else []) row;
      row = same_chain image first sound ∙ next;
    }

-- the leaves that salvage finds of a set are those that it has
pub whole_set_is : (image : List ℕ) (root : ℕ) → IsStructured image → AreBytes image → FitsDupRoot (file_of image) root
    → whole_set (guessed image) root ≡ leaves (file_of image) root
whole_set_is image root sound are fits =
    let is : IsWholeSet image root = set_whole image root sound are fits in
    ap (flat_map (chain (guessed image))) is.start ∙ (append-nil (chain (guessed image) is.first) ∙ is.row)
