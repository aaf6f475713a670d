-- The pairs of a bucket stand on its pages, are live, and none shares its key.
use Rattle.std.proofs.Common.{◌≡◌, ℕ, zero, suc, ◌+◌, ◌*◌, ◌/◌, ◌≤◌, Bool, true, false, not, cond, List, [], length, arith, refl, ap, subst, inl, inr, ◌==◌}
use Rattle.std.specs.List.{Contains, range_with_len}
use Rattle.std.proofs.lemmas.Bool.{cases_lt, eqb-false}
use Rattle.std.proofs.lemmas.List.{get_or_past}
use Rattle.std.proofs.lemmas.List.FromFn.{get_or-map-range_with_len, length-map-range_with_len}
use Rattle.bdb_tree.specs.of_format.declared.kinds.Order.{Order}
use Rattle.bdb_tree.specs.of_format.declared.metadata.HashMeta.{HashMeta}
use Rattle.bdb_tree.specs.of_format.declared.references.Sort.TheVariants.{Bucket}
use Rattle.bdb_tree.specs.of_format.Terms.{File, Hash, HashFields, Item, Listed, Page, StoredPair, Zero, abstract_page, bucket_pages, bucket_pairs, chain_in}
use Rattle.bdb_tree.specs.of_format.Terms.{file_of, first_page, hash_item_at, head_of, item_at, listed, next_of, page_as, page_at, pair_at, pairs_in, pairs_of}
use Rattle.bdb_tree.specs.of_format.declared.pages.PageType.{PageType}
use Rattle.bdb_tree.specs.of_format.declared.pages.PageType.TheVariants.{Hash as HashPage}
use Rattle.bdb_tree.proofs.of_format.MemberLemmas.{member_cases, no_member, of_flat_map, of_map}
use Rattle.bdb_tree.proofs.of_format.FileLemmas.{last_page, page_is}
use Rattle.bdb_tree.specs.of_image.Linked.{HasMetadata}
use Rattle.bdb_tree.proofs.of_graph.LinkedLemmas.{bucket_fits}
use Rattle.bdb_buckets.specs.Told.{is_of_bucket, pages_from}
use Rattle.bdb_buckets.specs.Views.{IsOfBucket, IsOnWay, IsTable}
use Rattle.bdb_buckets.proofs.BucketLemmas.{after_hash, after_zero, bucket_on_way, next_of_hash, next_of_zero, pages_step, target_some}

-- The items of a hash page.

abbrev AreLive : Page → Type 0
AreLive (Hash page) = (i : ℕ) → (item_at page i).deleted ≡ false
AreLive page = Unit {0}

live_listed : (order : Order) (page : List ℕ) (i : ℕ) → (item_at (listed order page (hash_item_at order page)) i).deleted ≡ false
unfolding listed hash_item_at
live_listed order page i = grind (arith, cases_lt, get_or-map-range_with_len, get_or_past, length-map-range_with_len)

live_as : (order : Order) (page : List ℕ) (t : PageType) → AreLive (page_as order page t)
live_as order page HashPage = live_listed order page
live_as order page t = tt

live_abstract : (order : Order) (page : List ℕ) → AreLive (abstract_page order page)
unfolding abstract_page
live_abstract order page = grind (arith, live_as)

-- no item of a hash page is deleted
hash_live : (image : List ℕ) (p : ℕ) (page : Listed Item) → p ≤ (file_of image).last → page_at (file_of image) p ≡ Hash page
    → (i : ℕ) → (item_at page i).deleted ≡ false
hash_live image p page low is = grind (arith, last_page, page_is, live_abstract)

-- The pages of a bucket.

kind_next : (image : List ℕ) (p : ℕ) (page : Page) → IsTable image → p ≤ (file_of image).last → page_at (file_of image) p ≡ page
    → is_of_bucket page ≡ true → IsOnWay image (next_of (file_of image) p)
kind_next image p Zero table low is kind = subst (IsOnWay image) (next_of_zero (file_of image) p is) (after_zero image table)
kind_next image p (Hash page) table low is kind =
    subst (IsOnWay image) (next_of_hash (file_of image) p page is) (after_hash image p page table low is)
kind_next image p page table low is kind = absurd cc

next_on_way : (image : List ℕ) (p : ℕ) → IsTable image → IsOfBucket (file_of image) p → IsOnWay image (next_of (file_of image) p)
next_on_way image p table of = kind_next image p (page_at (file_of image) p) table of.inside refl of.kind

cond_member : (b : Bool) (ps : List ℕ) (q : ℕ) → Contains (cond b [] ps) q → (b ≡ false) × Contains ps q
cond_member true ps q at = absurd (no_member [] q refl at)
cond_member false ps q at = (refl, at)

chain_fits : (turns : ℕ) (image : List ℕ) (p : ℕ) → IsTable image → IsOfBucket (file_of image) p → (q : ℕ)
    → Contains (chain_in turns (file_of image) p) q → IsOfBucket (file_of image) q
unfolding chain_in
chain_fits zero image p table of q at = absurd (no_member [] q refl at)
chain_fits (suc turns) image p table of q at =
    let file : File = file_of image in
    let next : ℕ = next_of file p in
    elim (member_cases p (pages_from turns file next) q (subst (λ ps. Contains ps q) (pages_step turns file p) at)) [
      | inl same ↦ subst (IsOfBucket file) same of
      | inr later ↦
          let some : ((next == 0) ≡ false) × Contains (chain_in turns file next) q = cond_member (next == 0) (chain_in turns file next) q later in
          chain_fits turns image next table ((next_on_way image p table of).fits (eqb-false next 0 some.0)) q some.1
    ]

-- each page of a bucket is one that it may have
pub bucket_page_fits : (image : List ℕ) (meta : HashMeta) (b q : ℕ) → IsTable image
    → HasMetadata (file_of image) (HashFields meta) → b ≤ meta.max_bucket
    → Contains (bucket_pages (file_of image) meta b) q → IsOfBucket (file_of image) q
bucket_page_fits image meta b q table has few at =
    let p : ℕ = first_page b meta.spares in
    let fits = bucket_fits image (head_of image) meta b table.forest.formed has few in
    chain_fits (file_of image).count image p table
    ((bucket_on_way image p table.forest table.stage fits).fits (target_some image Bucket p table.forest.linked fits)) q at

-- Pairs.

-- a pair that is live and doesn't share its key, on a page that is there
pub record IsPlain (file : File) (pair : StoredPair) : Type 0 where
  pub inside : pair.page ≤ file.last
  pub live : pair.live ≡ true
  pub apart : pair.shares ≡ false

plain_in : (image : List ℕ) (p : ℕ) (page : Page) (pair : StoredPair) → p ≤ (file_of image).last
    → page_at (file_of image) p ≡ page → is_of_bucket page ≡ true
    → Contains (pairs_in (file_of image) p page) pair → IsPlain (file_of image) pair
plain_in image p Zero pair low is kind at = absurd (no_member [] pair refl at)
plain_in image p (Hash page) pair low is kind at =
    let found = of_map (pair_at (file_of image) p page (λ n. false)) (range_with_len 0 (length page.items / 2)) pair at in
    subst (IsPlain (file_of image)) found.2 (record { inside = low; live = ap not (hash_live image p page low is (2 * found.0 + 1)); apart = refl })
plain_in image p page pair low is kind at = absurd cc

plain_on : (image : List ℕ) (p : ℕ) (pair : StoredPair) → IsOfBucket (file_of image) p
    → Contains (pairs_of (file_of image) p) pair → IsPlain (file_of image) pair
unfolding pairs_of
plain_on image p pair of at = plain_in image p (page_at (file_of image) p) pair of.inside refl of.kind at

-- each pair of a bucket is plain
pub bucket_plain : (image : List ℕ) (meta : HashMeta) (b : ℕ) (pair : StoredPair) → IsTable image
    → HasMetadata (file_of image) (HashFields meta) → b ≤ meta.max_bucket
    → Contains (bucket_pairs (file_of image) meta b) pair → IsPlain (file_of image) pair
bucket_plain image meta b pair table has few at =
    let page = of_flat_map (pairs_of (file_of image)) (bucket_pages (file_of image) meta b) pair at in
    plain_on image page.0 pair (bucket_page_fits image meta b page.0 table has few page.1) page.2
