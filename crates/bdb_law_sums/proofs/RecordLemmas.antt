-- What the records that stand in no set off the page weigh, those of the lists of databases do.
use Rattle.std.proofs.Common.{◌≡◌, ℕ, ◌+◌, ◌≤◌, Bool, true, false, cond, List, [], ◌∷◌, map, arith, refl, sym, ◌∙◌, ap, subst, inl, inr, ◌==◌, not}
use Rattle.std.specs.List.{Contains, enumerate_from, filter, flat_map, range_with_len, sum_by}
use Rattle.std.proofs.lemmas.Bool.{cases_Bool, eq-eqb}
use Rattle.std.proofs.lemmas.List.Sums.{sum_by-cons}
use Rattle.bdb_tree.specs.of_format.declared.metadata.HashMeta.{HashMeta}
use Rattle.bdb_tree.specs.of_format.declared.references.Sort.{Sort}
use Rattle.bdb_tree.specs.of_format.declared.references.Sort.TheVariants.{Root, DuplicateRoot}
use Rattle.bdb_tree.specs.of_format.Terms.{BtreeFields, BytesKey, DupLeaf, File, HashFields, Item, ListKey, Metadata, NumberKey, Owner, Page, QueueFields}
use Rattle.bdb_tree.specs.of_format.Terms.{RecnoLeaf, StoredPair, all_references, btree_list, by_key, data_of, entries_in, file_of, has_type, hash_list}
use Rattle.bdb_tree.specs.of_format.Terms.{head_of, is_recno, is_root_reference, leaves, list_of, listed_entry, listed_pair, live_values, page_at, recno_list}
use Rattle.bdb_tree.specs.of_format.Terms.{root_references, table_pairs, tree_entries, tree_pairs, type_in, value_of}
use Rattle.bdb_tree.proofs.of_format.MemberLemmas.{in_filter, member_cases, no_member}
use Rattle.bdb_tree.specs.of_image.Linked.{FitsTreeRoot, HasMetadata, IsTarget}
use Rattle.bdb_tree.proofs.of_graph.LinkedLemmas.{root_fits}
use Rattle.bdb_tree.proofs.TreeLemmas.{leaf_inside}
use Rattle.bdb_law_sums.specs.Counting.{times}
use Rattle.bdb_law_sums.specs.Databases.{IsOfSet, IsOfSets, IsSoundForest, NoLeafOfBoth, RecordsAreOfDatabases, by_value, leaves_below}
use Rattle.bdb_law_sums.specs.Databases.{left_on}
use Rattle.bdb_law_sums.specs.TreeSums.{leaf_weight}
use Rattle.bdb_law_sums.proofs.CountLemmas.{sum_none, sum_parts, sum_same}
use Rattle.bdb_law_sums.proofs.DatabaseLemmas.{fields_same, leaves_are_of_databases}
use Rattle.bdb_law_sums.proofs.LeafLemmas.{no_records_in_btree, set_leaf_fits}
use Rattle.bdb_law_sums.proofs.MetaLemmas.{metadata_are_databases}
use Rattle.bdb_law_sums.proofs.NameLemmas.{sum_map, sum_placed}
use Rattle.bdb_law_sums.proofs.OneTreeLemmas.{each_leaf_is_in_one_tree}
use Rattle.bdb_law_sums.proofs.PairLemmas.{all_listed}
use Rattle.bdb_law_sums.proofs.ReadLemmas.{no_queue_meta}
use Rattle.bdb_law_sums.proofs.TreeLemmas.{sum_filter}

-- A leaf of a set stands in no database.

one_member : {X : Type 0} (f : X → ℕ) (xs : List X) (x : X) → Contains xs x → f x ≤ sum_by f xs
one_member f [] x at = absurd (no_member [] x refl at)
one_member f (y ∷ ys) x at =
    elim (member_cases y ys x at) [
      | inl same ↦ omega (arith, ap f same, sum_by-cons f y ys)
      | inr later ↦ omega (arith, one_member f ys x later, sum_by-cons f y ys)
    ]

two_members : {X : Type 0} (f : X → ℕ) (xs : List X) (x y : X) → Contains xs x → Contains xs y → (x ≡ y → ⊥) → f x + f y ≤ sum_by f xs
two_members f [] x y at other apart = absurd (no_member [] x refl at)
two_members f (z ∷ zs) x y at other apart =
    elim (member_cases z zs x at) [
      | inl same ↦ elim (member_cases z zs y other) [
        | inl too ↦ absurd (apart (sym same ∙ too))
        | inr later ↦ omega (arith, ap f same, one_member f zs y later, sum_by-cons f z zs)
      ]
      | inr later ↦ elim (member_cases z zs y other) [
        | inl same ↦ omega (arith, ap f same, one_member f zs x later, sum_by-cons f z zs)
        | inr too ↦ omega (arith, two_members f zs x y later too apart, sum_by-cons f z zs)
      ]
    ]

some_times : (q : ℕ) (ps : List ℕ) → Contains ps q → 1 ≤ times q ps
some_times q ps at =
    let one : ◌≡◌ {A = ℕ} (cond (q == q) 1 0) 1 = ap (λ b. cond b 1 0) (eq-eqb q q refl) in
    omega (arith, one, one_member (λ p. cond (p == q) 1 0) ps q at)

in_roots : (file : File) (sort : Sort) (root : ℕ) (is : IsTarget file sort root) → is_root_reference sort ≡ true
    → Contains (root_references file) is.owner
unfolding root_references
in_roots file sort root is passes =
    in_filter (λ (owner : Owner). is_root_reference owner.reference.sort) (all_references file) is.owner is.held
    (ap is_root_reference is.sort_is ∙ passes)

-- a leaf below metadata is in no set
pub no_leaf_of_both : NoLeafOfBoth
no_leaf_of_both image root set q forest is set_is at other =
    let file : File = file_of image in
    let leaf = set_leaf_fits image set q forest set_is other in
    let f : Owner → ℕ = λ (owner : Owner). times q (leaves file owner.reference.target) in
    let one : sum_by f (root_references file) ≡ 1 = each_leaf_is_in_one_tree image q forest (leaf_inside image q leaf) leaf in
    let here : 1 ≤ f is.owner =
    some_times q (leaves file is.owner.reference.target) (subst (λ r. Contains (leaves file r) q) (sym is.target_is) at) in
    let there : 1 ≤ f set_is.owner =
    some_times q (leaves file set_is.owner.reference.target) (subst (λ r. Contains (leaves file r) q) (sym set_is.target_is) other) in
    let both : f is.owner + f set_is.owner ≤ sum_by f (root_references file) =
    two_members f (root_references file) is.owner set_is.owner (in_roots file Root root is refl) (in_roots file DuplicateRoot set set_is refl)
    (λ same.
    apart (sym is.sort_is ∙ (ap (λ (owner : Owner). owner.reference.sort) same ∙ set_is.sort_is))) in
    absurd (omega arith)
  where
    apart : Root ≡ DuplicateRoot → ⊥
    apart same = cc

-- The records of a page.

-- what the records of a page that isn't taken weigh
abbrev record_weight : File → (ℕ → Bool) → (List ℕ → ℕ) → ℕ → ℕ
record_weight file taken weight p = sum_by weight (left_on file taken p)

no_entries : (page : Page) → has_type (5 ∷ 6 ∷ 12 ∷ []) (type_in page) ≡ false → entries_in page ≡ []
no_entries (RecnoLeaf page) other = absurd cc
no_entries (DupLeaf page) other = absurd cc
no_entries page other = refl

no_values : (file : File) (taken : ℕ → Bool) (weight : List ℕ → ℕ) (p : ℕ) → entries_in (page_at file p) ≡ [] → record_weight file taken weight p ≡ 0
no_values file taken weight p none =
    let entries : List Item → List (List ℕ) =
    λ items. map (λ (item : Item). value_of file item.content) (filter (λ (item : Item). not item.deleted) items) in
    elim (taken p) as (λ b. sum_by weight (cond b [] (live_values file (page_at file p))) ≡ 0)
    [ true ↦ refl | false ↦ ap (λ items. sum_by weight (entries items)) none ]

-- records stand on leaves alone
on_leaves : (file : File) (taken : ℕ → Bool) (weight : List ℕ → ℕ) (p : ℕ) → record_weight file taken weight p
    ≡ leaf_weight file (record_weight file taken weight) p
on_leaves file taken weight p =
    let n : ℕ = record_weight file taken weight p in
    elim (cases_Bool (has_type (5 ∷ 6 ∷ 12 ∷ []) (type_in (page_at file p)))) [
      | inl leaf ↦ sym (ap (λ b. cond b n 0) leaf)
      | inr other ↦ no_values file taken weight p (no_entries (page_at file p) other) ∙ sym (ap (λ b. cond b n 0) other)
    ]

-- The lists.

-- what an entry weighs: a live one by its value
abbrev entry_weight : File → (List ℕ → ℕ) → Item → ℕ
entry_weight file weight item = cond item.deleted 0 (weight (value_of file item.content))

live_weigh : (file : File) (weight : List ℕ → ℕ) (page : Page) → sum_by weight (live_values file page)
    ≡ sum_by (entry_weight file weight) (entries_in page)
live_weigh file weight page =
    let f : Item → ℕ = λ (item : Item). weight (value_of file item.content) in
    let live : Item → Bool = λ (item : Item). not item.deleted in
    sum_map weight (λ (item : Item). value_of file item.content) (filter live (entries_in page))
    ∙ (sum_filter f live (entries_in page)
    ∙ sum_same (λ item. cond (live item) (f item) 0) (entry_weight file weight) (entries_in page) (λ item at.
    elim item.deleted as (λ b. cond (not b) (f item) 0 ≡ cond b 0 (f item)) [ true ↦ refl | false ↦ refl ]))

-- the list of a recno weighs what the live values of its leaves do
recno_weighs : (file : File) (weight : List ℕ → ℕ) (root : ℕ)
    → sum_by (by_value weight) (recno_list file root) ≡ sum_by (λ q. sum_by weight (live_values file (page_at file q))) (leaves file root)
unfolding recno_list tree_entries
recno_weighs file weight root =
    let entries : List Item = tree_entries file root in
    let w : Item → ℕ = entry_weight file weight in
    sum_parts (by_value weight) (listed_entry file) (enumerate_from 1 entries)
    ∙ (sum_same (λ entry. sum_by (by_value weight) (listed_entry file entry)) (λ (entry : ℕ × Item). w entry.1) (enumerate_from 1 entries)
    (λ entry at.
    elim entry.1.deleted as (λ b. sum_by (by_value weight) (cond b [] ((NumberKey entry.0, value_of file entry.1.content) ∷ []))
    ≡ cond b 0 (weight (value_of file entry.1.content))) [
      | true ↦ refl
      | false ↦ omega arith
    ])
    ∙ (sum_placed w 1 entries
    ∙ (sum_parts w (λ q. entries_in (page_at file q)) (leaves file root)
    ∙ sum_same (λ q. sum_by w (entries_in (page_at file q))) (λ q. sum_by weight (live_values file (page_at file q))) (leaves file root) (λ q at.
    sym (live_weigh file weight (page_at file q))))))

-- pairs have no numbers
pairs_weigh : (file : File) (weight : List ℕ → ℕ) (pairs : List StoredPair) → sum_by (by_value weight) (flat_map (listed_pair file) pairs) ≡ 0
pairs_weigh file weight pairs =
    sum_parts (by_value weight) (listed_pair file) pairs
    ∙ sum_none (λ pair. sum_by (by_value weight) (listed_pair file pair)) pairs (λ pair at.
    let values : List (List ℕ) = data_of file pair.data_item in
    let listed : List ℕ → ListKey × List ℕ = λ value. (BytesKey pair.key, value) in
    elim pair.live as (λ b. sum_by (by_value weight) (cond b (map listed values) []) ≡ 0) [
      | true ↦ sum_map (by_value weight) listed values ∙ sum_none (λ (value : List ℕ). 0) values (λ value at. refl)
      | false ↦ refl
    ])

btree_weighs : (file : File) (weight : List ℕ → ℕ) (root : ℕ) → sum_by (by_value weight) (btree_list file root) ≡ 0
unfolding btree_list
btree_weighs file weight root = pairs_weigh file weight (tree_pairs file root)

hash_weighs : (file : File) (weight : List ℕ → ℕ) (meta : HashMeta) → sum_by (by_value weight) (hash_list file meta) ≡ 0
unfolding hash_list
hash_weighs file weight meta = pairs_weigh file weight (by_key (table_pairs file meta))

-- the list of a database weighs what the records of the leaves below its metadata do
list_weighs : (image : List ℕ) (weight : List ℕ → ℕ) (taken : ℕ → Bool) (fields : Metadata) → IsSoundForest image → IsOfSets (file_of image) taken
    → HasMetadata (file_of image) fields
    → sum_by (record_weight (file_of image) taken weight) (leaves_below (file_of image) fields) ≡ sum_by (by_value weight)
    (list_of (file_of image) fields)
list_weighs image weight taken (BtreeFields meta) sound of has =
    let file : File = file_of image in
    let r : ℕ → ℕ = record_weight file taken weight in
    let target : FitsTreeRoot file meta.root = root_fits image (head_of image) meta sound.forest.formed has in
    elim (is_recno meta) as (λ b. is_recno meta ≡ b → sum_by r (leaves file meta.root)
    ≡ sum_by (by_value weight) (cond b (recno_list file meta.root) (btree_list file meta.root))) [
      | true ↦ λ recno.
          sum_same r (λ q. sum_by weight (live_values file (page_at file q))) (leaves file meta.root) (λ q at.
          let free : taken q ≡ false = elim (cases_Bool (taken q)) [
            | inr other ↦ other
            | inl is ↦
                let set : IsOfSet file q = of.only q is in
                absurd (no_leaf_of_both image meta.root set.root q sound.forest target set.set at set.leaf)
          ] in
          ap (λ b. sum_by weight (cond b [] (live_values file (page_at file q)))) free)
          ∙ sym (recno_weighs file weight meta.root)
      | false ↦ λ keyed.
          sum_none r (leaves file meta.root) (λ q at. no_values file taken weight q (no_records_in_btree image meta q sound has keyed at))
          ∙ sym (btree_weighs file weight meta.root)
    ] refl
list_weighs image weight taken (HashFields meta) sound of has = sym (hash_weighs (file_of image) weight meta)
list_weighs image weight taken (QueueFields meta) sound of has = absurd (no_queue_meta image meta sound.forest sound.kind has)

pub records_are_of_databases : RecordsAreOfDatabases
records_are_of_databases image weight taken sound of =
    let file : File = file_of image in
    let r : ℕ → ℕ = record_weight file taken weight in
    let pages : List ℕ = range_with_len 0 (file.last + 1) in
    let listed : Metadata → ℕ = λ fields. sum_by (by_value weight) (list_of file fields) in
    sum_parts weight (left_on file taken) pages
    ∙ (sum_same r (leaf_weight file r) pages (λ p at. on_leaves file taken weight p)
    ∙ (leaves_are_of_databases image r sound.forest sound.kind (λ root set. sum_none r (leaves file root) (λ q at.
    ap (λ b. sum_by weight (cond b [] (live_values file (page_at file q)))) (of.all q (record { root = root; set = set; leaf = at }))))
    ∙ (fields_same image (λ fields. sum_by r (leaves_below file fields)) listed (λ fields has. list_weighs image weight taken fields sound of has)
    ∙ (metadata_are_databases image listed sound ∙ sym (all_listed image (by_value weight) sound)))))
