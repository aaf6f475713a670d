-- The master of a file, its live pairs, and the pages that they name.
use Rattle.std.proofs.Common.{◌≡◌, add-one, ℕ, Bool, true, false, cond, List, [], ◌∷◌, length, map, Option, Some, None, arith, refl, sym, ◌∙◌, ap, subst, ◌==◌}
use Rattle.std.specs.List.{filter, range_with_len, slice_get}
use Rattle.std.proofs.lemmas.Bool.{ne_eqb, true≢false}
use Rattle.std.proofs.lemmas.List.{take_all}
use Rattle.bdb_format.specs.declared.kinds.Order.TheVariants.{Big}
use Rattle.bdb_format.specs.declared.metadata.BtreeMeta.{BtreeMeta}
use Rattle.bdb_format.specs.Terms.{File, Meta, Page, StoredPair, four_at, is_meta, master_in, master_pairs, named_by, number, number_at, page_at, page_named}
use Rattle.bdb_format.specs.Terms.{pairs_under, tree_pairs}
use Rattle.bdb_btree.specs.of_image.Linked.{meta_pages}
use Rattle.bdb_overflow.specs.Datum.{FitsContent}
use Rattle.bdb_btree.specs.Held.{ItemPair, stored_as}
use Rattle.bdb_btree.specs.Pairs.{AreFit}
use Rattle.bdb_master.specs.Entries.{NamedPair, entry_of, live_entries, master_entries, named}
use Rattle.bdb_btree.proofs.HeldLemmas.{first_keyed, rest_keyed}

-- Values that name pages.

number_first : (bytes : List ℕ) → length bytes ≡ 4 → number_at 4 Big bytes 0 ≡ number Big bytes
unfolding number_at
number_first bytes four = ap (number Big) (take_all 4 bytes (omega arith))

if_four : (bytes : List ℕ) → (length bytes == 4) ≡ true → Some (number Big bytes) ≡ page_named bytes
if_four bytes four = rw four refl

pub named_by_four : (bytes : List ℕ) → length bytes ≡ 4 → Some (four_at Big bytes 0) ≡ page_named bytes
named_by_four bytes four = ap (λ (n : ℕ). Some n) (number_first bytes four) ∙ if_four bytes (ap (λ n. n == 4) four)

pub names_none : (bytes : List ℕ) → (length bytes ≡ 4 → ⊥) → None ≡ page_named bytes
names_none bytes other = rw (ne_eqb (length bytes) 4 other) refl

-- Live pairs.

-- one that is live
pub live_first : (file : File) (old left : List ItemPair) (pair : ItemPair) (names : Option ℕ) → old ≡ pair ∷ left → pair.value.deleted ≡ false
    → names ≡ named_by file pair.value.content → live_entries file old ≡ entry_of file names pair ∷ live_entries file left
live_first file old left pair names steps live are = rw (steps, live, are) refl

-- or isn't
pub not_live : (file : File) (old left : List ItemPair) (pair : ItemPair) → old ≡ pair ∷ left → pair.value.deleted ≡ true
    → live_entries file old ≡ live_entries file left
not_live file old left pair steps deleted = rw (steps, deleted) refl

abbrev stored_live : File → List ItemPair → List NamedPair
stored_live file pairs = map (named file) (filter (λ (pair : StoredPair). pair.live) (map (stored_as file) pairs))

live_more : (file : File) (pair : ItemPair) (pairs : List ItemPair) (deleted : Bool) → pair.value.deleted ≡ deleted
    → live_entries file pairs ≡ stored_live file pairs → live_entries file (pair ∷ pairs) ≡ stored_live file (pair ∷ pairs)
live_more file pair pairs true is rest = rw is rest
live_more file pair pairs false is rest = rw is (ap (λ (entries : List NamedPair). named file (stored_as file pair) ∷ entries) rest)

live_are : (file : File) (pairs : List ItemPair) → live_entries file pairs ≡ stored_live file pairs
live_are file [] = refl
live_are file (pair ∷ pairs) = live_more file pair pairs pair.value.deleted refl (live_are file pairs)

-- what the data of a pair name is there
pub first_fits : (file : File) (old left : List ItemPair) (pair : ItemPair) → AreFit file (map (stored_as file) old) → old ≡ pair ∷ left
    → FitsContent file pair.value.content
first_fits file old left pair fits steps = (subst (λ pairs. AreFit file (map (stored_as file) pairs)) steps fits).0.content

pub rest_fits : (file : File) (old left : List ItemPair) (pair : ItemPair) → AreFit file (map (stored_as file) old) → old ≡ pair ∷ left
    → AreFit file (map (stored_as file) left)
rest_fits file old left pair fits steps = (subst (λ pairs. AreFit file (map (stored_as file) pairs)) steps fits).1

pub entries_of_master : (file : File) (meta : BtreeMeta) (pairs : List ItemPair) → Some meta ≡ master_in (page_at file 0)
    → map (stored_as file) pairs ≡ tree_pairs file meta.root → live_entries file pairs ≡ master_entries file
unfolding master_pairs
entries_of_master file meta pairs is are = grind (arith, live_are)

pub no_entries : (file : File) → None ≡ master_in (page_at file 0) → [] ≡ master_entries file
unfolding master_pairs
no_entries file is = ap (λ m. map (named file) (pairs_under file m)) is

-- Page 0 is the first metadata page, where it's metadata.

no_meta : (page : Page) → is_meta page ≡ false → None ≡ master_in page
no_meta (Meta fields) is = absurd (true≢false is)
no_meta page is = refl

-- the metadata pages above page 0
abbrev above : File → List ℕ
above file = filter (λ p. is_meta (page_at file p)) (range_with_len 1 file.last)

listed : (file : File) → meta_pages file ≡ cond (is_meta (page_at file 0)) (0 ∷ above file) (above file)
unfolding meta_pages
listed file = ap (λ n. filter (λ p. is_meta (page_at file p)) (range_with_len 0 n)) (add-one file.last)

none_listed : (b : Bool) (rest : List ℕ) → 0 ≡ length (cond b (0 ∷ rest) rest) → b ≡ false
none_listed true rest is = absurd (omega arith)
none_listed false rest is = refl

pub no_first : (file : File) → 0 ≡ length (meta_pages file) → None ≡ master_in (page_at file 0)
no_first file none = no_meta (page_at file 0) (none_listed (is_meta (page_at file 0)) (above file) (none ∙ ap length (listed file)))

other_listed : (b : Bool) (rest : List ℕ) (p : ℕ) → slice_get (cond b (0 ∷ rest) rest) 0 ≡ Some p → (p ≡ 0 → ⊥) → b ≡ false
other_listed true rest p first other = absurd (other (let same : 0 ≡ p = cc in omega arith))
other_listed false rest p first other = refl

pub other_first : (file : File) (p : ℕ) → slice_get (meta_pages file) 0 ≡ Some p → (p ≡ 0 → ⊥) → None ≡ master_in (page_at file 0)
other_first file p first other =
    no_meta (page_at file 0) (other_listed (is_meta (page_at file 0)) (above file) p (sym (ap (λ ps. slice_get ps 0) (listed file)) ∙ first) other)

-- which items are entries
pub ruleset living_entries = (first_fits, live_first, not_live, rest_fits, first_keyed, rest_keyed)
