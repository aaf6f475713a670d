-- The pages of a bucket are zero pages or hash pages, and the pairs on them are read one after another.
use Rattle.std.proofs.Common.{◌≡◌, ℕ, zero, suc, ◌-◌, ◌≤◌, Bool, true, false, ◌&&◌, ◌||◌, cond, List, [], ◌∷◌, map, length, arith, refl, sym, ◌∙◌, ap, ◌==◌}
use Rattle.std.proofs.Common.{nat_lt, flat_map}
use Rattle.std.proofs.lemmas.Bool.{eqb-false, ne_eqb, or_parts, not-false}
use Rattle.std.proofs.lemmas.List.{length-map}
use Rattle.std.proofs.lemmas.List.Elements.{Contains-append_right}
use Rattle.std.proofs.lemmas.Simd.{map-map}
use Rattle.bdb_tree.specs.of_form.Pairs.{pairs_from}
use Rattle.bdb_tree.specs.of_format.declared.metadata.Head.{Head}
use Rattle.bdb_tree.specs.of_format.declared.metadata.HashMeta.{HashMeta}
use Rattle.bdb_tree.specs.of_format.declared.references.Sort.{Sort}
use Rattle.bdb_tree.specs.of_format.declared.references.Sort.TheVariants.{Bucket, HashNext}
use Rattle.bdb_tree.specs.of_format.Terms.{BtreeFields, File, Hash, HashFields, Item, Listed, Meta, Owner, Page, QueueFields, Zero, asked_by, bucket_pages}
use Rattle.bdb_tree.specs.of_format.Terms.{chain_in, content_targets, contents_in, faults_in, file_of, first_page, fit_code, fit_rows, has_type, head_of}
use Rattle.bdb_tree.specs.of_format.Terms.{header_in, is_zero_page, next_of, no_item, page_at, pairs_of, structure_faults, type_in, unless_zero}
use Rattle.bdb_tree.proofs.of_format.GraphLemmas.{each_fits}
use Rattle.bdb_tree.proofs.of_format.MemberLemmas.{first_member}
use Rattle.bdb_tree.proofs.of_format.VerdictLemmas.{AllFail, none_is_first_row}
use Rattle.bdb_tree.specs.of_image.Linked.{IsForest, IsTarget}
use Rattle.bdb_tree.proofs.of_graph.ForestLemmas.{sound_graph}
use Rattle.bdb_tree.proofs.of_graph.LinkedLemmas.{target_inside}
use Rattle.bdb_buckets.specs.Told.{Told, is_of_bucket, page_told, pages_from, told_pair}
use Rattle.bdb_buckets.specs.Views.{IsOnWay, IsTable}
use Rattle.bdb_buckets.proofs.PairLemmas.{page_names}
use Rattle.bdb_tree.proofs.of_format.ReferenceLemmas.{of_all}
use Rattle.bdb_tree.proofs.of_format.ChainLemmas.{chain_few}
use Rattle.bdb_tree.proofs.of_format.FileLemmas.{count_is}
use Rattle.bdb_tree.proofs.of_graph.TargetLemmas.{is_no_queue}

-- Which pages a bucket has.

of_type : (page : Page) (or_zero : Bool) → (has_type (2 ∷ 13 ∷ []) (type_in page) || (or_zero && is_zero_page page)) ≡ true → is_of_bucket page ≡ true
of_type Zero or_zero is = refl
of_type (Hash page) or_zero is = refl
of_type (Meta (BtreeFields meta)) or_zero is = grind arith
of_type (Meta (HashFields meta)) or_zero is = grind arith
of_type (Meta (QueueFields meta)) or_zero is = grind arith
of_type page or_zero is = grind arith

-- what names a target asks for a page as it is
target_fits : (image : List ℕ) (sort : Sort) (p : ℕ) → faults_in (3 ∷ 4 ∷ 5 ∷ []) image ≡ [] → (is : IsTarget (file_of image) sort p)
    → AllFail (fit_rows (file_of image) (asked_by is.owner.holder (page_at (file_of image) is.owner.holder) is.owner.reference.sort)
    is.owner.reference.target)
unfolding fit_code
target_fits image sort p none is =
    let file : File = file_of image in
    let owner : Owner = is.owner in
    let held = of_all file owner is.held in
    none_is_first_row (fit_rows file (asked_by owner.holder (page_at file owner.holder) owner.reference.sort) owner.reference.target)
    (each_fits file owner.holder owner.reference (sound_graph image none).references held.0 held.1)

-- a target is none of the numbers that no page has
pub target_some : (image : List ℕ) (sort : Sort) (p : ℕ) → faults_in (3 ∷ 4 ∷ 5 ∷ []) image ≡ [] → IsTarget (file_of image) sort p → p ≡ 0 → ⊥
target_some image sort p none is zero' =
    let target : ℕ = is.owner.reference.target in
    eqb-false target 0 (or_parts (target == 0) (nat_lt (file_of image).last target) (target_fits image sort p none is).0).0 (is.target_is ∙ zero')

target_kind : (image : List ℕ) (sort : Sort) (p : ℕ) (or_zero : Bool) → faults_in (3 ∷ 4 ∷ 5 ∷ []) image ≡ [] → IsTarget (file_of image) sort p
    → ((holder : ℕ) (page : Page) → (asked_by holder page sort).types ≡ 2 ∷ 13 ∷ [])
    → ((holder : ℕ) (page : Page) → (asked_by holder page sort).or_zero ≡ or_zero)
    → is_of_bucket (page_at (file_of image) p) ≡ true
target_kind image sort p or_zero none is types zeros =
    let holder : ℕ = is.owner.holder in
    let asker : Page = page_at (file_of image) holder in
    of_type (page_at (file_of image) p) or_zero
    (rw (is.sort_is, is.target_is, types holder asker, zeros holder asker) at (not-false _ (target_fits image sort p none is).1.0))

-- the first page of a bucket
pub bucket_on_way : (image : List ℕ) (p : ℕ) → IsForest image → structure_faults (file_of image) ≡ []
    → IsTarget (file_of image) Bucket p → IsOnWay image p
bucket_on_way image p forest stage is = record {
  forest = record { forest = forest; stage = stage; table = is_no_queue (file_of image) Bucket p is };
  fits = λ _. record {
    inside = target_inside image Bucket p forest.linked is;
    kind =
        target_kind image Bucket p true forest.linked is (λ holder page. refl) (λ holder page. refl);
  };
}

-- the page after one of a bucket
pub after_hash : (image : List ℕ) (p : ℕ) (page : Listed Item) → IsTable image → p ≤ (file_of image).last
    → page_at (file_of image) p ≡ Hash page → IsOnWay image page.header.next
after_hash image p page table low is = record {
  forest = table;
  fits = λ some.
      let named : IsTarget (file_of image) HashNext page.header.next =
      page_names image p (Hash page) HashNext page.header.next table low is
      (Contains-append_right (flat_map content_targets (contents_in (Hash page))) (unless_zero HashNext page.header.next) (HashNext, page.header.next)
      (rw (ne_eqb page.header.next 0 some) (first_member (HashNext, page.header.next) []))) in
      record {
        inside = target_inside image HashNext page.header.next table.forest.linked named;
        kind =
            target_kind image HashNext page.header.next false table.forest.linked named (λ holder other. refl) (λ holder other. refl);
      };
}

pub after_zero : (image : List ℕ) → IsTable image → IsOnWay image 0
after_zero image table = record { forest = table; fits = λ some. absurd (some refl) }

pub next_of_hash : (file : File) (p : ℕ) (page : Listed Item) → page_at file p ≡ Hash page → page.header.next ≡ next_of file p
next_of_hash file p page is = ap (λ (other : Page). (header_in other).next) (sym is)

pub next_of_zero : (file : File) (p : ℕ) → page_at file p ≡ Zero → 0 ≡ next_of file p
next_of_zero file p is = ap (λ (other : Page). (header_in other).next) (sym is)

-- The pairs of a page.

pub hash_told : (image : List ℕ) (p : ℕ) (page : Listed Item) → page_at (file_of image) p ≡ Hash page
    → map (told_pair image p) (pairs_from no_item false page 0) ≡ page_told image p
unfolding pairs_of
hash_told image p page is = grind (arith, map-map)

pub zero_told : (image : List ℕ) (p : ℕ) → page_at (file_of image) p ≡ Zero → [] ≡ page_told image p
unfolding pairs_of
zero_told image p is = rw is refl

-- The pages of a bucket.

pub no_page : (image : List ℕ) (turns p : ℕ) → p ≡ 0 → map (page_told image) (pages_from turns (file_of image) p) ≡ []
no_page image turns p none = ap (λ q. map (page_told image) (pages_from turns (file_of image) q)) none

no_page_in : (turns : ℕ) (file : File) (p : ℕ) (b : Bool) → turns ≡ 0 → cond b [] (chain_in turns file p) ≡ []
unfolding chain_in
no_page_in turns file p true none = refl
no_page_in turns file p false none = ap (λ t. chain_in t file p) none

pub no_turn : (image : List ℕ) (turns p : ℕ) → turns ≡ 0 → map (page_told image) (pages_from turns (file_of image) p) ≡ []
no_turn image turns p none = ap (map (page_told image)) (no_page_in turns (file_of image) p (p == 0) none)

or_else_same : {X : Type 0} (b : Bool) (x y : X) → ◌≡◌ {A = X} (elim b [ true ↦ x | false ↦ y ]) (cond b x y)
or_else_same b x y = grind arith

pub pages_step : (turns : ℕ) (file : File) (p : ℕ) → chain_in (suc turns) file p ≡ p ∷ pages_from turns file (next_of file p)
unfolding chain_in
pages_step turns file p = ap (λ ps. p ∷ ps) (or_else_same (next_of file p == 0) [] (chain_in turns file (next_of file p)))

pub first_page_left : (image : List ℕ) (turns p : ℕ) → (p ≡ 0 → ⊥) → (turns ≡ 0 → ⊥)
    → map (page_told image) (pages_from turns (file_of image) p) ≡ page_told image p ∷ map (page_told image)
    (pages_from (turns - 1) (file_of image) (next_of (file_of image) p))
first_page_left image zero p some turn = absurd (turn refl)
first_page_left image (suc turns) p some turn = grind (arith, ne_eqb, pages_step)

-- the pages from the first one of a bucket on are all of it
pub all_pages : (image : List ℕ) (head : Head) (meta : HashMeta) (p b : ℕ) → IsForest image → head ≡ head_of image
    → IsTarget (file_of image) Bucket p → p ≡ first_page b meta.spares
    → pages_from head.pages (file_of image) p ≡ bucket_pages (file_of image) meta b
all_pages image head meta p b forest head_is fits is =
    let turns : head.pages ≡ (file_of image).count = ap (λ (h : Head). h.pages) head_is ∙ sym (count_is image) in
    rw (ne_eqb p 0 (target_some image Bucket p forest.linked fits))
    (ap (λ t. chain_in t (file_of image) p) turns ∙ ap (λ q. chain_in (file_of image).count (file_of image) q) is)

pub few_pages : (image : List ℕ) (head : Head) (meta : HashMeta) (p b : ℕ) → IsForest image → head ≡ head_of image
    → IsTarget (file_of image) Bucket p → p ≡ first_page b meta.spares
    → length (map (page_told image) (pages_from head.pages (file_of image) p)) ≤ (file_of image).count
few_pages image head meta p b forest head_is fits is =
    rw (all_pages image head meta p b forest head_is fits is, length-map {A = ℕ} {B = List Told})
    (chain_few (file_of image).count (file_of image) (first_page b meta.spares))
