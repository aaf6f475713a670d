-- The items of an internal page seen one after another.
use Rattle.std.proofs.Common.{◌≡◌, ℕ, zero, suc, ◌+◌, ◌≤◌, true, false, cond, List, [], ◌∷◌, ◌++◌, length, map, take, Some, arith, refl, sym, ◌∙◌, ap, subst}
use Rattle.std.proofs.Common.{add-one, append-nil, ◌==◌, flat_map, fold, slice_get}
use Rattle.std.proofs.lemmas.Bool.{ne_eqb}
use Rattle.std.proofs.lemmas.List.{take_all, take_more}
use Rattle.std.proofs.lemmas.List.Sums.{fold-append}
use Rattle.std.proofs.lemmas.Grind.{flat_map-append}
use Rattle.bdb_faults.specs.Notes.{Notes, NotesAll}
use Rattle.bdb_faults.proofs.SinkLemmas.{notes_both, notes_none, notes_one}
use Rattle.bdb_ranks.specs.of_format.Terms.{File, Internal, InternalItem, Listed, StoredPair, children_in, fault_if, file_of, has_wrong_separator, inner_pages}
use Rattle.bdb_ranks.specs.of_format.Terms.{page_at, separated, tree_pairs, value_of}
use Rattle.bdb_ranks.specs.of_format.declared.rows.ContentsRow.TheVariants.{Separator}
use Rattle.bdb_ranks.specs.of_format.declared.rows.Row.TheVariants.{Contents}
use Rattle.bdb_ranks.specs.of_format.declared.kinds.Fault.{Fault}
use Rattle.bdb_ranks.specs.of_image.Linked.{IsForest}
use Rattle.bdb_ranks.proofs.of_overflow.ContentLemmas.{got}
use Rattle.bdb_btree.specs.Bounds.{Bounds, beyond, bounds_of, ends_of, joined, no_bounds, no_ends, past, see_item, see_items, under, under_ends, under_pair}
use Rattle.bdb_btree.specs.Held.{FitsBounds, bounds_seen, ends_seen}
use Rattle.bdb_btree.specs.Noted.{faults_at}
use Rattle.bdb_btree.specs.declared.separators.Bounds.{Bounds as CodeBounds}
use Rattle.bdb_btree.specs.declared.ends.Ends.{Ends as CodeEnds}
use Rattle.bdb_ranks.proofs.of_tree.InnerLemmas.{faults_below, inner_noted, leads_down}
use Rattle.bdb_btree.proofs.EndLemmas.{ends_joined, under_all}
use Rattle.bdb_btree.proofs.ItemLemmas.{pairs_joined}
use Rattle.bdb_btree.proofs.SeparatorLemmas.{wrong_separators}

-- Lists of items.

-- one more item
fold_more : {S A : Type 0} (f : S → A → S) (start : S) (items : List A) (i : ℕ) (item : A) → slice_get items i ≡ Some item
    → fold f start (take (i + 1) items) ≡ f (fold f start (take i items)) item
fold_more f start items i item at =
    let found = got items i item item at in
    ap (fold f start) (take_more items i item found.0) ∙ (fold-append f start (take i items) _ ∙ ap (f (fold f start (take i items))) found.1)

take_one : {A : Type 0} (items : List A) (i : ℕ) (item : A) → slice_get items i ≡ Some item → take (i + 1) items ≡ take i items ++ (item ∷ [])
take_one items i item at =
    let found = got items i item item at in take_more items i item found.0 ∙ ap (λ x. take i items ++ (x ∷ [])) found.1

tail_at : (item other : InternalItem) (items : List InternalItem) (i : ℕ) → slice_get (other ∷ items) (suc i) ≡ Some item
    → slice_get items i ≡ Some item
tail_at item other items i at = at

items_more : (file : File) (bounds : Bounds) (items : List InternalItem) (i : ℕ) (item : InternalItem) → slice_get items i ≡ Some item
    → see_items file bounds (take (i + 1) items) ≡ see_item file (i == 0) (see_items file bounds (take i items)) item
items_more file bounds [] i item at = absurd cc
items_more file bounds (first ∷ items) zero item at = let same : first ≡ item = cc in ap (see_item file true bounds) same
items_more file bounds (first ∷ items) (suc i) item at =
    let later : (suc i == 0) ≡ false = ne_eqb (suc i) 0 (omega arith) in
    ap (λ n. see_items file bounds (take n (first ∷ items))) (add-one (suc i))
    ∙ (ap (λ n. fold (see_item file false) (see_item file true bounds first) (take n items)) (sym (add-one i))
    ∙ (fold_more (see_item file false) (see_item file true bounds first) items i item (tail_at item first items i at)
    ∙ ap (λ b. see_item file b (fold (see_item file false) (see_item file true bounds first) (take i items)) item) (sym later)))

-- What is kept is that of the page's separators.

pairs_under_key : (pairs : List StoredPair) (bounds : Bounds)
    → fold under_pair bounds pairs ≡ fold under bounds (map (λ (pair : StoredPair). pair.key) pairs)
pairs_under_key [] bounds = refl
pairs_under_key (pair ∷ pairs) bounds = pairs_under_key pairs (under bounds pair.key)

items_past : (file : File) (items : List InternalItem) (bounds : Bounds)
    → fold (see_item file false) bounds items ≡ fold past bounds (map (separated file) items)
items_past file [] bounds = refl
items_past file (item ∷ items) bounds =
    items_past file items (see_item file false bounds item)
    ∙ ap (λ b. fold past b (map (separated file) items)) (pairs_under_key (tree_pairs file item.child) (beyond bounds (value_of file item.key)))

page_bounds : (file : File) (items : List InternalItem) → see_items file no_bounds items ≡ bounds_of (map (separated file) items)
page_bounds file [] = refl
page_bounds file (item ∷ items) =
    items_past file items (see_item file true no_bounds item)
    ∙ ap (λ b. fold past b (map (separated file) items)) (pairs_under_key (tree_pairs file item.child) no_bounds)

page_wrong : (file : File) (page : Listed InternalItem) → (see_items file no_bounds page.items).wrong ≡ has_wrong_separator file (Internal page)
page_wrong file page = ap (λ (b : Bounds). b.wrong) (page_bounds file page.items) ∙ wrong_separators (map (separated file) page.items)

-- The items of an internal page, one after another.

abbrev pairs_under : File → List InternalItem → List StoredPair
pairs_under file items = flat_map (λ (item : InternalItem). tree_pairs file item.child) items

-- the fault of a page, and those of the internal pages at or below an item
abbrev give : File → ℕ → List Fault
give file p = fault_if (Contents Separator) p (has_wrong_separator file (page_at file p))

abbrev faults_under : File → InternalItem → List Fault
faults_under file item = faults_below (λ (it : InternalItem). it.child) (give file) file item

-- these items are seen, and what is below them is noted
pub record AreSeen (before now : List Fault → Type 0) (file : File) (bounds : CodeBounds) (items : List InternalItem) : Type 0 where
  pub kept : bounds_seen file bounds ≡ see_items file no_bounds items
  pub ends : ends_seen file bounds.ends ≡ ends_of (pairs_under file items)
  pub fits : FitsBounds file bounds
  pub noted : NotesAll before now (flat_map (faults_under file) items)

pub none_seen : (has : List Fault → Type 0) (file : File) (bounds : CodeBounds) → bounds_seen file bounds ≡ no_bounds
    → ends_seen file bounds.ends ≡ no_ends → FitsBounds file bounds → AreSeen has has file bounds []
none_seen has file bounds none no_keys fits = record { kept = none; ends = no_keys; fits = fits; noted = notes_none has }

-- one more item, of which the ends of the keys below are known
pub more_seen : (before now after : List Fault → Type 0) (file : File) (bounds next : CodeBounds) (below : CodeEnds) (items : List InternalItem)
    (i : ℕ) (item : InternalItem)
    → slice_get items i ≡ Some item → AreSeen before now file bounds (take i items)
    → ends_seen file below ≡ ends_of (tree_pairs file item.child)
    → NotesAll now after (faults_at Separator (λ p. has_wrong_separator file (page_at file p)) (inner_pages file item.child))
    → bounds_seen file next ≡ under_ends (cond (i == 0) (bounds_seen file bounds) (beyond (bounds_seen file bounds) (value_of file item.key)))
    (ends_seen file below)
    → ends_seen file next.ends ≡ joined (ends_seen file bounds.ends) (ends_seen file below) → FitsBounds file next
    → AreSeen before after file next (take (i + 1) items)
more_seen before now after file bounds next below items i item at seen is noted is_next ends_next fits =
    let pairs : List StoredPair = tree_pairs file item.child in
    let start : Bounds → Bounds = λ b. cond (i == 0) b (beyond b (value_of file item.key)) in
    record {
      kept =
          is_next
          ∙ (ap (under_ends (start (bounds_seen file bounds))) is
          ∙ (under_all (start (bounds_seen file bounds)) pairs
          ∙ (ap (λ b. see_item file (i == 0) b item) seen.kept ∙ sym (items_more file no_bounds items i item at))));
      ends =
          ends_next
          ∙ (ap (λ ends. joined ends (ends_seen file below)) seen.ends
          ∙ (ap (joined (ends_of (pairs_under file (take i items)))) is
          ∙ (sym (ends_joined (pairs_under file (take i items)) pairs)
          ∙ ap ends_of (sym (more_of (λ (it : InternalItem). tree_pairs file it.child))))));
      fits = fits;
      noted =
          subst (NotesAll before after) (sym (more_of (faults_under file)))
          (notes_both before now after (flat_map (faults_under file) (take i items)) (faults_under file item) seen.noted noted);
    }
  where
    more_of : {Y : Type 0} (f : InternalItem → List Y) → flat_map f (take (i + 1) items) ≡ flat_map f (take i items) ++ f item
    more_of f =
        ap (flat_map f) (take_one items i item at)
        ∙ (flat_map-append f (take i items) (item ∷ []) ∙ ap (λ ys. flat_map f (take i items) ++ ys) (append-nil (f item)))

-- all items of a page
pub whole_seen : (before now : List Fault → Type 0) (file : File) (bounds : CodeBounds) (items : List InternalItem) (i : ℕ) → length items ≤ i
    → AreSeen before now file bounds (take i items) → AreSeen before now file bounds items
whole_seen before now file bounds items i all seen = subst (AreSeen before now file bounds) (take_all i items all) seen

pub all_ends : (before now : List Fault → Type 0) (image : List ℕ) (p : ℕ) (page : Listed InternalItem) (bounds : CodeBounds) → IsForest image
    → page_at (file_of image) p ≡ Internal page → AreSeen before now (file_of image) bounds page.items
    → ends_seen (file_of image) bounds.ends ≡ ends_of (tree_pairs (file_of image) p)
all_ends before now image p page bounds forest is seen = seen.ends ∙ ap ends_of (sym (pairs_joined image p page forest is))

pub all_seen : (before now after : List Fault → Type 0) (image : List ℕ) (p : ℕ) (page : Listed InternalItem) (bounds : CodeBounds) → IsForest image
    → page_at (file_of image) p ≡ Internal page → AreSeen before now (file_of image) bounds page.items
    → Notes now after (fault_if (Contents Separator) p bounds.wrong)
    → NotesAll before after (faults_at Separator (λ q. has_wrong_separator (file_of image) (page_at (file_of image) q)) (inner_pages (file_of image) p))
all_seen before now after image p page bounds forest is seen last =
    let file : File = file_of image in
    let right : bounds.wrong ≡ has_wrong_separator file (page_at file p) =
    ap (λ (b : Bounds). b.wrong) seen.kept ∙ (page_wrong file page ∙ ap (has_wrong_separator file) (sym is)) in
    inner_noted (λ (it : InternalItem). it.child) (give file) before after file p page.items
    (leads_down (λ (it : InternalItem). it.child) image p page.items forest (ap children_in is))
    (notes_both before now after (flat_map (faults_under file) page.items) (give file p) seen.noted
    (subst (λ b. NotesAll now after (fault_if (Contents Separator) p b)) right (notes_one now after (fault_if (Contents Separator) p bounds.wrong) last)))
