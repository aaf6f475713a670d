-- The pages that a page names below it are targets of its references.
use Rattle.std.proofs.Common.{◌≡◌, ◌⊎◌, ℕ, ◌+◌, List, [], ◌∷◌, map, ap, refl, sym, subst, inl, inr}
use Rattle.std.specs.List.{Contains, enumerate_from, range_with_len}
use Rattle.std.proofs.lemmas.List.Elements.{Contains-append_right}
use Rattle.bdb_law_whole.specs.of_format.declared.pages.RecnoItem.{RecnoItem}
use Rattle.bdb_law_whole.specs.of_format.declared.metadata.FileKind.TheVariants.{Queue}
use Rattle.bdb_law_whole.specs.of_format.declared.references.Sort.{Sort}
use Rattle.bdb_law_whole.specs.of_format.declared.references.Sort.TheVariants.{Root, Bucket, Child}
use Rattle.bdb_law_whole.specs.of_format.declared.references.Reference.{Reference}
use Rattle.bdb_law_whole.specs.of_format.Terms.{BtreeFields, File, HashFields, Internal, InternalItem, Meta, Page, QueueFields, RecnoInternal, content_targets}
use Rattle.bdb_law_whole.specs.of_format.Terms.{first_free, first_page, internal_targets, page_at, refs, targets_in, targets_of}
use Rattle.bdb_law_whole.proofs.of_format.MemberLemmas.{first_member, in_flat_map, in_map, later_member, member_cases, no_member, of_map}
use Rattle.bdb_law_whole.proofs.of_format.ReferenceLemmas.{forest_names}
use Rattle.bdb_homes.specs.Claims.{Below, below_in, counted}

-- a child with the records before it is that of an item
pub of_counted : (before : ℕ) (items : List RecnoItem) (b : Below) → Contains (counted before items) b
    → (item : RecnoItem) × Contains items item × (b.sort ≡ Child) × (b.page ≡ item.child)
of_counted before [] b at = absurd (no_member [] b refl at)
of_counted before (item ∷ items) b at = elim (member_cases (record { sort = Child; page = item.child; before = before }) (counted (before + item.count) items) b
    at) [
      | inl same ↦ (item, first_member item items, ap (λ (x : Below). x.sort) (sym same), ap (λ (x : Below). x.page) (sym same))
      | inr later ↦ let found = of_counted (before + item.count) items b later in (found.0, later_member item items found.0 found.1, found.2, found.3)
    ]

-- a page that is named below is a target
pub below_target : (p : ℕ) (page : Page) (b : Below) → Contains (below_in page) b → Contains (targets_in p page) (b.sort, b.page)
below_target p (Meta (BtreeFields meta)) b at = elim (member_cases (record { sort = Root; page = meta.root; before = 0 }) [] b at) [
  | inl same ↦
      subst (λ (x : Below). Contains (targets_in p (Meta (BtreeFields meta))) (x.sort, x.page)) same
      (Contains-append_right (first_free p meta.free) ((Root, meta.root) ∷ []) (Root, meta.root) (first_member (Root, meta.root) []))
  | inr later ↦ absurd (no_member [] b refl later)
]
below_target p (Meta (HashFields meta)) b at =
    let found = of_map (λ b. record { sort = Bucket; page = first_page b meta.spares; before = 0 }) (range_with_len 0 (meta.max_bucket + 1)) b at in
    subst (λ (x : Below). Contains (targets_in p (Meta (HashFields meta))) (x.sort, x.page)) found.2
    (Contains-append_right (first_free p meta.free) (map (λ b. (Bucket, first_page b meta.spares)) (range_with_len 0 (meta.max_bucket + 1)))
    (Bucket, first_page found.0 meta.spares)
    (in_map (λ b. (Bucket, first_page b meta.spares)) (range_with_len 0 (meta.max_bucket + 1)) found.0 found.1))
below_target p (Meta (QueueFields meta)) b at = absurd (no_member [] b refl at)
below_target p (Internal page) b at =
    let found = of_map (λ (item : InternalItem). record { sort = Child; page = item.child; before = 0 }) page.items b at in
    subst (λ (x : Below). Contains (targets_in p (Internal page)) (x.sort, x.page)) found.2
    (in_flat_map internal_targets page.items found.0 (Child, found.0.child) found.1 (first_member (Child, found.0.child) (content_targets found.0.key)))
below_target p (RecnoInternal page) b at =
    let found = of_counted 0 page.items b at in
    let here : Contains (targets_in p (RecnoInternal page)) (Child, found.0.child) = in_map (λ (item : RecnoItem). (Child, item.child)) page.items found.0
    found.1 in
    subst (λ (s : Sort). Contains (targets_in p (RecnoInternal page)) (s, b.page)) (sym found.2)
    (subst (λ (n : ℕ). Contains (targets_in p (RecnoInternal page)) (Child, n)) (sym found.3) here)
below_target p page b at = absurd (no_member [] b refl at)

-- what stands in a list stands at a place
at_place : {X : Type 0} (k : ℕ) (xs : List X) (x : X) → Contains xs x → (i : ℕ) × Contains (enumerate_from k xs) (i, x)
at_place k [] x at = absurd (no_member [] x refl at)
at_place k (y ∷ xs) x at = elim (member_cases y xs x at) [
  | inl same ↦ (k, subst (λ z. Contains (enumerate_from k (y ∷ xs)) (k, z)) same (first_member (k, y) (enumerate_from (k + 1) xs)))
  | inr later ↦ let found = at_place (k + 1) xs x later in (found.0, later_member (k, y) (enumerate_from (k + 1) xs) (found.0, x) found.1)
]

-- a reference to a page that is named below
pub record IsReferred (file : File) (h : ℕ) (b : Below) : Type 0 where
  pub reference : Reference
  pub held : Contains (refs file h) reference
  pub sort : reference.sort ≡ b.sort
  pub target : reference.target ≡ b.page

pub target_referred : (file : File) (h : ℕ) (b : Below) → (file.kind ≡ Queue → ⊥) → Contains (targets_in h (page_at file h)) (b.sort, b.page)
    → IsReferred file h b
unfolding refs
target_referred file h b kind at =
    let named : Contains (targets_of file.kind h (page_at file h)) (b.sort, b.page) =
    subst (λ names. Contains names (b.sort, b.page)) (sym (forest_names file.kind h (page_at file h) kind)) at in
    let placed = at_place 0 (targets_of file.kind h (page_at file h)) (b.sort, b.page) named in
    record {
      reference = record { place = placed.0; sort = b.sort; target = b.page };
      held = in_map (λ (named : ℕ × (Sort × ℕ)). record { place = named.0; sort = named.1.0; target = named.1.1 })
          (enumerate_from 0 (targets_of file.kind h (page_at file h))) (placed.0, (b.sort, b.page)) placed.1;
      sort = refl;
      target = refl;
    }

pub below_referred : (file : File) (h : ℕ) (b : Below) → (file.kind ≡ Queue → ⊥) → Contains (below_in (page_at file h)) b → IsReferred file h b
below_referred file h b kind at = target_referred file h b kind (below_target h (page_at file h) b at)

-- no such reference is to the head of a chain
pub below_sort : (page : Page) (b : Below) → Contains (below_in page) b → (b.sort ≡ Root) ⊎ ((b.sort ≡ Bucket) ⊎ (b.sort ≡ Child))
below_sort (Meta (BtreeFields meta)) b at = elim (member_cases (record { sort = Root; page = meta.root; before = 0 }) [] b at) [
  | inl same ↦ inl (ap (λ (x : Below). x.sort) (sym same))
  | inr later ↦ absurd (no_member [] b refl later)
]
below_sort (Meta (HashFields meta)) b at =
    let found = of_map (λ b. record { sort = Bucket; page = first_page b meta.spares; before = 0 }) (range_with_len 0 (meta.max_bucket + 1)) b at in
    inr (inl (ap (λ (x : Below). x.sort) (sym found.2)))
below_sort (Meta (QueueFields meta)) b at = absurd (no_member [] b refl at)
below_sort (Internal page) b at =
    let found = of_map (λ (item : InternalItem). record { sort = Child; page = item.child; before = 0 }) page.items b at in
    inr (inr (ap (λ (x : Below). x.sort) (sym found.2)))
below_sort (RecnoInternal page) b at = inr (inr (of_counted 0 page.items b at).2)
below_sort page b at = absurd (no_member [] b refl at)
