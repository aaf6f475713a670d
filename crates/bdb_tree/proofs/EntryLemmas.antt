-- The entries of leaves, leaf by leaf, and the data of a set off the page.
use Rattle.std.proofs.Common.{◌≡◌, ℕ, ◌≤◌, true, List, [], ◌∷◌, ◌++◌, refl, sym, ◌∙◌, ap, subst, arith, get_or, Contains, flat_map}
use Rattle.std.proofs.lemmas.List.{map-append}
use Rattle.std.proofs.lemmas.List.Elements.{All-append, All-head, All-nil, All-rest, All-tail, Contains-get_or, filter-append}
use Rattle.std.proofs.lemmas.Option.{slice_get-get_or}
use Rattle.bdb_overflow.specs.of_format.Terms.{DupLeaf, File, Item, Page, RecnoLeaf, Tree, data_of, entries_in, file_of, leaves, live_values, page_at}
use Rattle.bdb_overflow.specs.of_format.Terms.{tree_entries}
use Rattle.bdb_overflow.specs.of_image.Linked.{IsForest}
use Rattle.bdb_overflow.specs.Datum.{FitsContent}
use Rattle.bdb_overflow.proofs.ContentLemmas.{dup_item_fits, recno_item_fits}
use Rattle.bdb_tree.specs.Entries.{AreFit, AreThere, entries_left, entries_on, values_of}
use Rattle.bdb_tree.specs.Trees.{IsTreePage}
use Rattle.bdb_tree.proofs.TreeLemmas.{leaf_low}

-- From leaf to leaf.

pub leaves_there : (image : List ℕ) (root : ℕ) (ps : List ℕ) → IsForest image → IsTreePage (file_of image) root → ps ≡ leaves (file_of image) root
    → AreThere (file_of image) ps
leaves_there image root ps forest tree are k d below =
    leaf_low image root (get_or ps k d) forest tree (subst (λ qs. Contains qs (get_or ps k d)) are (Contains-get_or ps k d below))

-- with the next leaf at hand as many are left
pub next_leaf : (file : File) (entries next : List Item) (old new : List ℕ) (p : ℕ) → entries ≡ [] → old ≡ p ∷ new
    → next ≡ entries_in (page_at file p)
    → entries_left file next new ≡ entries_left file entries old
next_leaf file entries next old new p none more is =
    ap (λ items. entries_left file items new) is ∙ sym (ap (λ items. entries_left file items old) none ∙ ap (entries_left file []) more)

pub entries_are : (file : File) (root : ℕ) → tree_entries file root ≡ entries_on file (leaves file root)
unfolding tree_entries
entries_are file root = refl

pub all_entries : (file : File) (root : ℕ) (ps : List ℕ) → ps ≡ leaves file root → entries_left file [] ps ≡ tree_entries file root
all_entries file root ps are = ap (entries_on file) are ∙ sym (entries_are file root)

-- What entries name is there.

pub page_fits : (image : List ℕ) (p : ℕ) (page : Page) → IsForest image → p ≤ (file_of image).last → page_at (file_of image) p ≡ page
    → AreFit (file_of image) (entries_in page)
page_fits image p (RecnoLeaf page) forest low is k d below =
    recno_item_fits image p page k (get_or page.items k d) forest low is (slice_get-get_or page.items k d below)
page_fits image p (DupLeaf page) forest low is k d below =
    dup_item_fits image p page k (get_or page.items k d) forest low is (slice_get-get_or page.items k d below)
page_fits image p page forest low is k d below = absurd (omega (arith, below))

leaves_fit : (image : List ℕ) (ps : List ℕ) → IsForest image → AreThere (file_of image) ps → AreFit (file_of image) (entries_on (file_of image) ps)
leaves_fit image [] forest there = All-nil (λ (entry : Item). FitsContent (file_of image) entry.content)
leaves_fit image (p ∷ ps) forest there =
    let file : File = file_of image in
    All-append (λ (entry : Item). FitsContent file entry.content) (entries_in (page_at file p)) (entries_on file ps)
    (page_fits image p (page_at file p) forest (All-head (λ q. q ≤ file.last) p ps there) refl)
    (leaves_fit image ps forest (All-tail (λ q. q ≤ file.last) p ps there))

pub all_fit : (image : List ℕ) (root : ℕ) (entries : List Item) → IsForest image → IsTreePage (file_of image) root
    → entries ≡ tree_entries (file_of image) root
    → AreFit (file_of image) entries
all_fit image root entries forest tree are = grind (arith, entries_are, leaves_fit, leaves_there)

-- what holds of all holds of those after the first
pub rest_fit : (file : File) (entry : Item) (rest entries : List Item) → entries ≡ entry ∷ rest → AreFit file entries → AreFit file rest
rest_fit file entry rest entries is fit = All-rest (λ (e : Item). FitsContent file e.content) entry rest entries is fit

-- The data of a set.

-- a deleted entry gives none
pub deleted_value : (file : File) (entry : Item) (entries : List Item) → entry.deleted ≡ true
    → values_of file (entry ∷ entries) ≡ values_of file entries
deleted_value file entry entries deleted = rw deleted refl

values_joined : (file : File) (xs ys : List Item) → values_of file (xs ++ ys) ≡ values_of file xs ++ values_of file ys
values_joined file xs ys = grind (arith, filter-append, map-append)

values_on : (file : File) (ps : List ℕ) → values_of file (entries_on file ps) ≡ flat_map (λ p. live_values file (page_at file p)) ps
values_on file [] = refl
values_on file (p ∷ ps) = grind (arith, values_joined, values_on file ps)

pub all_values : (file : File) (root : ℕ) (entries : List Item) → entries ≡ tree_entries file root → values_of file entries ≡ data_of file (Tree root)
unfolding data_of
all_values file root entries are = ap (values_of file) (are ∙ entries_are file root) ∙ values_on file (leaves file root)
