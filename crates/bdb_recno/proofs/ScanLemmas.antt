-- How many entries a recno has, and the list that they give.
use Rattle.std.proofs.Common.{◌≡◌, ℕ, ◌+◌, ◌*◌, ◌^◌, ◌≤◌, ◌<◌, true, List, [], ◌∷◌, length, arith, refl, ap, length-append, Contains}
use Rattle.std.proofs.Math.Nat.{mul-le-mul_right}
use Rattle.bdb_tree.specs.of_image.Linked.{IsForest}
use Rattle.bdb_tree.proofs.of_image.FirstLemmas.{formed_accepted}
use Rattle.bdb_tree.proofs.of_image.FormedLemmas.{IsPaged, accepted_paged}
use Rattle.bdb_tree.specs.of_format.Terms.{File, Item, entries_in, file_of, head_of, leaves, page_at, recno_list, tree_entries}
use Rattle.bdb_tree.proofs.of_format.MemberLemmas.{first_member, later_member}
use Rattle.bdb_tree.specs.Entries.{entries_on}
use Rattle.bdb_tree.specs.Trees.{IsRoot}
use Rattle.bdb_tree.proofs.EntryLemmas.{entries_are, rest_fit}
use Rattle.bdb_tree.proofs.LinkLemmas.{few_leaves}
use Rattle.bdb_tree.proofs.TreeLemmas.{recno_leaf_page}
use Rattle.bdb_recno.specs.Entries.{AreNumbered, listed_after}
use Rattle.bdb_recno.specs.Pages.{IsRecnoLeaf, IsRecnoPage}
use Rattle.bdb_recno.proofs.FormLemmas.{leaf_entries}
use Rattle.bdb_recno.proofs.PageLemmas.{leaf_inside, leaves_recno}

-- Numbers.

-- pages of an image have no more bytes than it has
few_bytes : (image : List ℕ) → IsForest image → (file_of image).count * (head_of image).page_size ≤ 2 ^ 30
unfolding file_of
few_bytes image forest =
    let paged : IsPaged image (head_of image) = accepted_paged image (head_of image) (formed_accepted image (head_of image) forest.formed) in
    omega (arith, paged.whole, forest.formed.size)

leaf_few : (image : List ℕ) (p : ℕ) → IsForest image → IsRecnoLeaf (file_of image) p
    → 2 * length (entries_in (page_at (file_of image) p)) ≤ (head_of image).page_size
leaf_few image p forest leaf = grind (arith, recno_leaf_page, leaf_entries, leaf_inside)

entries_few : (image : List ℕ) (ps : List ℕ) → IsForest image → ((p : ℕ) → Contains ps p → IsRecnoLeaf (file_of image) p)
    → 2 * length (entries_on (file_of image) ps) ≤ length ps * (head_of image).page_size
entries_few image [] forest each = omega arith
entries_few image (p ∷ ps) forest each =
    grind (arith, leaf_few, first_member, later_member, length-append, entries_few image ps forest (λ q at. each q (later_member p ps q at)))

-- so few that each has a number
pub few_records : (image : List ℕ) (root : ℕ) → IsForest image → IsRoot (file_of image) root → IsRecnoPage (file_of image) root
    → length (tree_entries (file_of image) root) < 2 ^ 32
few_records image root forest is recno =
    let file : File = file_of image in
    let size : ℕ = (head_of image).page_size in
    let pages : List ℕ = leaves file root in
    let halves = entries_few image pages forest (λ p at. leaves_recno image root p forest recno at) in
    let all : length pages * size ≤ file.count * size = mul-le-mul_right size (few_leaves image root forest is) in
    let bytes : file.count * size ≤ 2 ^ 30 = few_bytes image forest in
    let same : length (tree_entries file root) ≡ length (entries_on file pages) = ap length (entries_are file root) in
    omega arith

-- once an entry is passed, the others have their numbers
pub numbered_on : (file : File) (passed : ℕ) (entry : Item) (rest entries : List Item) → entries ≡ entry ∷ rest → AreNumbered file passed entries
    → AreNumbered file (passed + 1) rest
numbered_on file passed entry rest entries is numbered =
    record { fit = rest_fit file entry rest entries is numbered.fit; room = omega (arith, numbered.room, ap length is) }

-- The list.

pub all_listed : (file : File) (root : ℕ) (entries : List Item) → entries ≡ tree_entries file root
    → listed_after file 0 entries ≡ recno_list file root
unfolding recno_list
all_listed file root entries are = ap (listed_after file 0) are

-- a deleted entry gives nothing
pub skips_deleted : (file : File) (passed : ℕ) (entry : Item) (rest : List Item) → entry.deleted ≡ true
    → listed_after file passed (entry ∷ rest) ≡ listed_after file (passed + 1) rest
skips_deleted file passed entry rest deleted = rw deleted refl
