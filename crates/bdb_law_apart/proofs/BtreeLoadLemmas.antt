-- What is given of a btree is loaded into its list.
use Rattle.std.proofs.Common.{◌≡◌, ◌≢◌, ℕ, zero, suc, ◌*◌, ◌<◌, ◌≤◌, ◌/◌, Bool, true, false, cond, List, [], ◌∷◌, ◌++◌, map, length, append_assoc}
use Rattle.std.proofs.Common.{arith, refl, sym, ◌∙◌, ap}
use Rattle.std.proofs.Common.{subst, inl, inr}
use Rattle.std.specs.Prelude.{Option, Some, not}
use Rattle.std.specs.List.{Contains, filter, flat_map, range_with_len}
use Rattle.std.proofs.lemmas.Bool.{and_from, and_parts, cases_lt, eq-eqb, eqb-true}
use Rattle.std.proofs.lemmas.Grind.{flat_map-append}
use Rattle.std.proofs.lemmas.List.Elements.{Contains-append_left}
use Rattle.bdb_apart.specs.of_format.declared.metadata.BtreeMeta.{BtreeMeta}
use Rattle.bdb_apart.specs.of_format.declared.settings.Settings.{Settings}
use Rattle.bdb_apart.specs.of_format.Flags.{has_records}
use Rattle.bdb_apart.specs.of_format.Terms.{BtreeFields, BytesKey, File, Hash, Item, Leaf, Listed, Meta, Page, StoredPair, btree_list, btree_settings}
use Rattle.bdb_apart.specs.of_format.Terms.{data_of, file_of, head_of, is_recno, is_shared_key, leaves, less, listed_pair, page_at, pair_at, pairs_in, pairs_of}
use Rattle.bdb_apart.specs.of_format.Terms.{is_out_of_order, neighbours, tree_pairs, type_in}
use Rattle.bdb_apart.specs.of_rescue.Text.{bytes_pair, numbered_record}
use Rattle.bdb_apart.specs.of_survey.Salvage.{stored_on}
use Rattle.bdb_apart.specs.Found.{Found, is_leaf}
use Rattle.bdb_apart.specs.Given.{above, gives_pairs, holds_pairs, in_image, is_pair_page, pairs_given, records_given}
use Rattle.bdb_apart.specs.Rows.{is_some_of}
use Rattle.bdb_apart.specs.Text.{list_given}
use Rattle.bdb_law_homes.proofs.of_format.ListLemmas.{flat_map_same, flat_map_twice, map_joined}
use Rattle.bdb_law_homes.proofs.of_format.MemberLemmas.{in_filter, in_range, member_cases, no_member, of_filter, of_flat_map}
use Rattle.bdb_law_homes.specs.of_image.Linked.{HasMetadata}
use Rattle.bdb_law_homes.specs.of_law_sums.Databases.{given_pair}
use Rattle.bdb_law_homes.proofs.of_law_sums.LeafLemmas.{btree_leaf_type}
use Rattle.bdb_law_homes.proofs.of_law_sums.of_tree.TreeLemmas.{leaf_page}
use Rattle.bdb_law_homes.specs.of_law_whole.Guessed.{guessed}
use Rattle.bdb_law_homes.proofs.of_law_whole.KeptLemmas.{nothing_stored}
use Rattle.bdb_law_homes.proofs.of_law_whole.PairLemmas.{stored_is}
use Rattle.bdb_law_homes.specs.Owned.{HasTree}
use Rattle.bdb_law_homes.proofs.TreeLemmas.{leaves_are_of_btrees}
use Rattle.bdb_law_kept.proofs.of_databases.NameOrderLemmas.{keys_kept}
use Rattle.bdb_law_kept.proofs.of_databases.SoundLemmas.{no_contents}
use Rattle.bdb_law_kept.proofs.of_databases.of_btree.FallLemmas.{ShareKeys, tree_keys}
use Rattle.bdb_law_kept.specs.of_text_format.declared.pairs.TextPair.{TextPair}
use Rattle.bdb_law_kept.specs.of_text_format.Terms.{listed}
use Rattle.bdb_law_kept.specs.of_settle.Loaded.{key_less, loaded}
use Rattle.bdb_law_kept.specs.of_text.WrittenLaw.{pair_in}
use Rattle.bdb_law_kept.specs.Kept.{LoadsAlike}
use Rattle.bdb_law_kept.specs.Later.{AllLater}
use Rattle.bdb_law_kept.proofs.ContentsLemmas.{btree_kept}
use Rattle.bdb_law_kept.proofs.KeyedLemmas.{Climb, climb_above, climb_from, of_listed}
use Rattle.bdb_law_kept.proofs.LaterLemmas.{later_filter, later_other, later_range}
use Rattle.bdb_law_kept.proofs.NumberedLemmas.{IsKeptList}
use Rattle.bdb_law_kept.proofs.SettledLemmas.{key_out}
use Rattle.bdb_law_homes.proofs.of_format.LessLemmas.{less_trans}
use Rattle.bdb_apart.specs.Read.{read}
use Rattle.bdb_law_apart.proofs.BlockLemmas.{Entry, IsBelow}
use Rattle.bdb_law_apart.proofs.EntryLemmas.{leaf_typed}
use Rattle.bdb_law_apart.proofs.FoundLemmas.{same_fields}
use Rattle.bdb_law_apart.proofs.LeftLemmas.{HasDatabase, above_only, leaf_database}
use Rattle.bdb_law_apart.proofs.PageLoadLemmas.{pages_load}
use Rattle.bdb_law_apart.proofs.RecordLemmas.{split}
use Rattle.bdb_law_apart.proofs.SeenLemmas.{IsSeen, below_count, inside_file, page_is}

-- The database.

-- a btree that is found
pub record IsBtreeDb (image : List ℕ) (tree : BtreeMeta) (db : Found) : Type 0 where
  pub is : IsSeen image
  pub page : page_at (file_of image) db.meta ≡ Meta (BtreeFields tree)
  pub inside : db.meta ≤ (file_of image).last
  pub keyed : is_recno tree ≡ false
  pub fields : db.fields ≡ BtreeFields tree

metadata : (image : List ℕ) (tree : BtreeMeta) (db : Found) → IsBtreeDb image tree db → HasMetadata (file_of image) (BtreeFields tree)
metadata image tree db of = record { page = db.meta; inside = of.inside; is = of.page }

-- the stored pairs of a page, as a list has them
abbrev pub pairs_at : List ℕ → ℕ → List Entry
pairs_at image p = map bytes_pair (stored_on (guessed image) p)

-- What pages give.

keyed_again : (key : List ℕ) (values : List (List ℕ)) → map bytes_pair (map (λ value. (key, value)) values) ≡ map (λ value. (BytesKey key, value)) values
keyed_again key [] = refl
keyed_again key (value ∷ values) = ap (λ (rest : List Entry). (BytesKey key, value) ∷ rest) (keyed_again key values)

pub listed_again : (file : File) (pair : StoredPair) → map bytes_pair (given_pair file pair) ≡ listed_pair file pair
listed_again file pair = by_live pair.live
  where
    by_live : (b : Bool) → map bytes_pair (cond b (map (λ value. (pair.key, value)) (data_of file pair.data_item)) [])
        ≡ cond b (map (λ value. (BytesKey pair.key, value)) (data_of file pair.data_item)) []
    by_live true = keyed_again pair.key (data_of file pair.data_item)
    by_live false = refl

pub page_gives : (image : List ℕ) (p : ℕ) → IsSeen image → p ≤ (file_of image).last
    → pairs_at image p ≡ flat_map (listed_pair (file_of image)) (pairs_of (file_of image) p)
page_gives image p is low =
    let file : File = file_of image in
    ap (map bytes_pair) (stored_is image p is.whole is.is.bytes low)
    ∙ (map_joined bytes_pair (given_pair file) (pairs_of file p)
    ∙ flat_map_same (λ pair. map bytes_pair (given_pair file pair)) (listed_pair file) (pairs_of file p) (λ pair at. listed_again file pair))

-- a page that gives something is one of the file, and has pairs
pub record HasPairsOn (image : List ℕ) (p : ℕ) : Type 0 where
  pub low : p ≤ (file_of image).last
  pub some : pairs_of (file_of image) p ≢ []

pub has_pairs : (image : List ℕ) (p : ℕ) → IsSeen image → pairs_at image p ≢ [] → HasPairsOn image p
has_pairs image p is some = elim (cases_lt (file_of image).last p) [
  | inl past ↦ absurd (some (ap (map bytes_pair) (nothing_stored image p is.whole past)))
  | inr low ↦ record { low = low; some = λ none. some (page_gives image p is low ∙ ap (flat_map (listed_pair (file_of image))) none) }
]

-- The leaves.

leaf_five : (image : List ℕ) (tree : BtreeMeta) (db : Found) (p : ℕ) → IsBtreeDb image tree db → Contains (leaves (file_of image) tree.root) p
    → type_in (page_at (file_of image) p) ≡ Some 5
leaf_five image tree db p of at = btree_leaf_type image tree p of.is.sound (metadata image tree db of) of.keyed at

leaf_view : (image : List ℕ) (tree : BtreeMeta) (db : Found) (p : ℕ) → IsBtreeDb image tree db → Contains (leaves (file_of image) tree.root) p
    → (view : Listed Item) × (page_at (file_of image) p ≡ Leaf view)
leaf_view image tree db p of at = leaf_page image p of.is.sound.forest (leaf_five image tree db p of at)

leaf_low : (image : List ℕ) (tree : BtreeMeta) (db : Found) (p : ℕ) → IsBtreeDb image tree db → Contains (leaves (file_of image) tree.root) p
    → p ≤ (file_of image).last
leaf_low image tree db p of at = inside_file image is_leaf p refl (ap is_leaf (leaf_view image tree db p of at).1)

list_is : (image : List ℕ) (tree : BtreeMeta) (db : Found) → IsBtreeDb image tree db
    → btree_list (file_of image) tree.root ≡ flat_map (pairs_at image) (leaves (file_of image) tree.root)
unfolding btree_list tree_pairs
list_is image tree db of =
    let file : File = file_of image in
    flat_map_twice (listed_pair file) (pairs_of file) (leaves file tree.root)
    ∙ flat_map_same (λ p. flat_map (listed_pair file) (pairs_of file p)) (pairs_at image) (leaves file tree.root)
    (λ p at. sym (page_gives image p of.is (leaf_low image tree db p of at)))

-- a page that gives pairs of it
pub all_give : (image : List ℕ) (tree : BtreeMeta) (db : Found) (p : ℕ) → IsBtreeDb image tree db → Contains (leaves (file_of image) tree.root) p
    → gives_pairs (guessed image) db p ≡ true
all_give image tree db p of at =
    let file : File = file_of image in
    let low : p ≤ file.last = leaf_low image tree db p of at in
    let view = leaf_view image tree db p of at in
    let five : type_in (page_at file p) ≡ Some 5 = leaf_five image tree db p of at in
    let has : HasDatabase image p (BtreeFields tree) = record {
      meta = db.meta;
      is = leaves_are_of_btrees file db.meta p tree of.is.owned of.page of.keyed (of.is.levels tree.root) at (leaf_typed (page_at file p) five);
      page = of.page;
      pairs = ap is_pair_page view.1;
    } in
    and_from (is_some_of db.meta (above (guessed image) p)) (holds_pairs db.fields (page_at (guessed image) p))
    (ap (is_some_of db.meta) (above_only image p (BtreeFields tree) of.is low has) ∙ eq-eqb db.meta db.meta refl)
    (ap (λ fields. holds_pairs fields (page_at (guessed image) p)) of.fields
    ∙ (ap (holds_pairs (BtreeFields tree)) (page_is image p of.is low ∙ view.1) ∙ ap not of.keyed))

holds_leaf : (tree : BtreeMeta) (page : Page) → holds_pairs (BtreeFields tree) page ≡ true → (view : Listed Item) × (page ≡ Leaf view)
holds_leaf tree (Leaf view) is = (view, refl)
holds_leaf tree page is = absurd cc

pub some_is : (m : ℕ) (o : Option ℕ) (n : ℕ) → is_some_of m o ≡ true → o ≡ Some n → n ≡ m
some_is m o n is at = eqb-true n m (sym (ap (is_some_of m) at) ∙ is)

only_leaves : (image : List ℕ) (tree : BtreeMeta) (db : Found) (p : ℕ) → IsBtreeDb image tree db → gives_pairs (guessed image) db p ≡ true
    → pairs_at image p ≢ [] → Contains (leaves (file_of image) tree.root) p
only_leaves image tree db p of gives some =
    let file : File = file_of image in
    let g : File = guessed image in
    let has : HasPairsOn image p = has_pairs image p of.is some in
    let parts = and_parts (is_some_of db.meta (above g p)) (holds_pairs db.fields (page_at g p)) gives in
    let leaf = holds_leaf tree (page_at g p) (sym (ap (λ fields. holds_pairs fields (page_at g p)) of.fields) ∙ parts.1) in
    let given = leaf_database image p leaf.0 of.is has.low (sym (page_is image p of.is has.low) ∙ leaf.1) has.some in
    let one : HasTree file p = given.0 in
    let same : given.1.meta ≡ db.meta =
    some_is db.meta (above g p) given.1.meta parts.0 (above_only image p (BtreeFields one.of.tree) of.is has.low given.1) in
    let fields : BtreeFields one.of.tree ≡ BtreeFields tree =
    same_fields (page_at file given.1.meta) (BtreeFields one.of.tree) (BtreeFields tree) given.1.page (ap (page_at file) same ∙ of.page) in
    let tree_is : one.of.tree ≡ tree = cc in
    subst (λ (t : BtreeMeta). Contains (leaves file t.root) p) tree_is one.of.leaf

-- The order of the leaves.

-- each has the key before it where it shares that, and else a greater one
abbrev Climbs : List StoredPair → Type 0
Climbs [] = Unit {0}
Climbs (pair ∷ pairs) = Climb pair.key pairs

climb_climbs : (key : List ℕ) (pairs : List StoredPair) → Climb key pairs → Climbs pairs
climb_climbs key [] climb = tt
climb_climbs key (pair ∷ pairs) climb = climb.1

climbs_last : (xs ys : List StoredPair) → Climbs (xs ++ ys) → Climbs ys
climbs_last [] ys climb = climb
climbs_last (x ∷ xs) ys climb = climbs_last xs ys (climb_climbs x.key (xs ++ ys) climb)

-- the first of these has its own key
abbrev Starts : List StoredPair → Type 0
Starts [] = ⊥
Starts (pair ∷ pairs) = pair.shares ≡ false

-- behind a pair with a key of its own all keys are greater
climb_over : (key : List ℕ) (between others : List StoredPair) (pair : StoredPair) → Climb key (between ++ others) → Starts others → Contains others pair
    → less key pair.key ≡ true
climb_over key [] [] pair climb starts at = absurd starts
climb_over key [] (first ∷ others) pair climb starts at = elim (member_cases first others pair at) [
  | inl same ↦ subst (λ (p : StoredPair). less key p.key ≡ true) same (climb.0.1 starts)
  | inr later ↦ climb_above key first.key others pair (climb.0.1 starts) climb.1 later
]
climb_over key (next ∷ between) others pair climb starts at =
    by_shares next.shares refl (climb_over next.key between others pair climb.1 starts at)
  where
    by_shares : (b : Bool) → next.shares ≡ b → less next.key pair.key ≡ true → less key pair.key ≡ true
    by_shares true is rest = subst (λ k. less k pair.key ≡ true) (sym (climb.0.0 is)) rest
    by_shares false is rest = less_trans key next.key pair.key (climb.0.1 is) rest

abbrev first_shares : List StoredPair → Bool
first_shares [] = false
first_shares (pair ∷ pairs) = pair.shares

starts_of : (f : ℕ → StoredPair) (n : ℕ) (first : StoredPair) (others : List StoredPair) → (f 0).shares ≡ false
    → map f (range_with_len 0 n) ≡ first ∷ others → first.shares ≡ false
starts_of f zero first others own is = absurd cc
starts_of f (suc n) first others own is = sym (ap first_shares is) ∙ own

-- the first pair of a page has its own key
first_starts : (file : File) (p : ℕ) (page : Page) (first : StoredPair) (others : List StoredPair) → pairs_in file p page ≡ first ∷ others
    → first.shares ≡ false
first_starts file p (Leaf page) first others is =
    starts_of (pair_at file p page (λ i. is_shared_key page.offsets (2 * i))) (length page.items / 2) first others refl is
first_starts file p (Hash page) first others is = starts_of (pair_at file p page (λ i. false)) (length page.items / 2) first others refl is
first_starts file p page first others is = absurd cc

page_starts : (file : File) (p : ℕ) (pair : StoredPair) (rest : List StoredPair) → Contains (pairs_of file p) pair → Starts (pairs_of file p ++ rest)
unfolding pairs_of
page_starts file p pair rest at = by_list (pairs_in file p (page_at file p)) refl at
  where
    by_list : (pairs : List StoredPair) → pairs_in file p (page_at file p) ≡ pairs → Contains pairs pair → Starts (pairs ++ rest)
    by_list [] is none = absurd (no_member [] pair refl none)
    by_list (first ∷ others) is some = first_starts file p (page_at file p) first others is

-- keys of a page are less than those of later pages
pages_climb : (file : File) (ps : List ℕ) → Climbs (flat_map (pairs_of file) ps)
    → AllLater (λ p q. (a b : StoredPair) → Contains (pairs_of file p) a → Contains (pairs_of file q) b → less a.key b.key ≡ true) ps
pages_climb file [] climb = tt
pages_climb file (p ∷ ps) climb = (
  (λ q at a b at_a at_b.
      let here = split (pairs_of file p) a at_a in
      let there = split ps q at in
      let before : List StoredPair = flat_map (pairs_of file) there.0 in
      let after : List StoredPair = flat_map (pairs_of file) there.1 in
      let all : pairs_of file p ++ flat_map (pairs_of file) ps ≡ here.0 ++ (a ∷ ((here.1 ++ before) ++ (pairs_of file q ++ after))) =
      ap (λ pairs. pairs ++ flat_map (pairs_of file) ps) here.2
      ∙ (append_assoc here.0 (a ∷ here.1) (flat_map (pairs_of file) ps)
      ∙ ap (λ pairs. here.0 ++ (a ∷ pairs))
      (ap (λ qs. here.1 ++ flat_map (pairs_of file) qs) there.2
      ∙ (ap (λ pairs. here.1 ++ pairs) (flat_map-append (pairs_of file) there.0 (q ∷ there.1))
      ∙ sym (append_assoc here.1 before (pairs_of file q ++ after))))) in
      climb_over a.key (here.1 ++ before) (pairs_of file q ++ after) b
      (climbs_last here.0 (a ∷ ((here.1 ++ before) ++ (pairs_of file q ++ after))) (subst Climbs all climb))
      (page_starts file q b after at_b) (Contains-append_left (pairs_of file q) after b at_b)),
  pages_climb file ps (climbs_last (pairs_of file p) (flat_map (pairs_of file) ps) climb),
)

tree_climbs : (image : List ℕ) (tree : BtreeMeta) (db : Found) → IsBtreeDb image tree db → Climbs (tree_pairs (file_of image) tree.root)
tree_climbs image tree db of =
    by_list (tree_pairs file tree.root) (tree_keys image tree.root [])
    (keys_kept image tree of.is.sound.forest (metadata image tree db of) of.keyed
    (no_contents image (BtreeFields tree) of.is.is.sound (metadata image tree db of)))
  where
    file : File
    file = file_of image

    by_list : (pairs : List StoredPair) → ShareKeys [] pairs
        → ((two : StoredPair × StoredPair) → Contains (neighbours pairs) two → is_out_of_order two ≡ false) → Climbs pairs
    by_list [] shares kept = tt
    by_list (pair ∷ pairs) shares kept = climb_from pair pairs shares.1 kept

-- a listed pair has the key of its pair
of_page : (image : List ℕ) (p : ℕ) (entry : Entry) → IsSeen image → p ≤ (file_of image).last → Contains (pairs_at image p) entry
    → (pair : StoredPair) × Contains (pairs_of (file_of image) p) pair × (entry.0 ≡ BytesKey pair.key)
of_page image p entry is low at =
    let file : File = file_of image in
    let pair = of_flat_map (listed_pair file) (pairs_of file p) entry (subst (λ l. Contains l entry) (page_gives image p is low) at) in
    let told = of_listed file pair.0 entry pair.2 in
    (pair.0, pair.1, sym (ap (λ (e : Entry). e.0) told.2))

leaves_below : (image : List ℕ) (tree : BtreeMeta) (db : Found) → IsBtreeDb image tree db
    → AllLater (IsBelow (pairs_at image)) (leaves (file_of image) tree.root)
unfolding tree_pairs
leaves_below image tree db of =
    let file : File = file_of image in
    later_other (λ p q. (a b : StoredPair) → Contains (pairs_of file p) a → Contains (pairs_of file q) b → less a.key b.key ≡ true)
    (IsBelow (pairs_at image)) (leaves file tree.root)
    (λ p q at_p at_q less x y at_x at_y.
    let one = of_page image p x of.is (leaf_low image tree db p of at_p) at_x in
    let two = of_page image q y of.is (leaf_low image tree db q of at_q) at_y in
    ap (λ k. key_less (key_out k) (key_out y.0)) one.2
    ∙ (ap (λ k. key_less (key_out (BytesKey one.0.key)) (key_out k)) two.2 ∙ less one.0 two.0 one.1 two.1))
    (pages_climb file (leaves file tree.root) (tree_climbs image tree db of))

-- The list.

given_is : (image : List ℕ) (tree : BtreeMeta) (db : Found) → IsBtreeDb image tree db → list_given (in_image (read image) db)
    ≡ flat_map (pairs_at image) (filter (gives_pairs (guessed image) db) (range_with_len 0 (guessed image).count))
unfolding pairs_given
given_is image tree db of =
    ap
    (λ b. cond b (map numbered_record (records_given (in_image (read image) db))) (map bytes_pair (pairs_given (in_image (read image) db))))
    (ap has_records of.fields ∙ of.keyed)
    ∙ map_joined bytes_pair (stored_on (guessed image)) (filter (gives_pairs (guessed image) db) (range_with_len 0 (guessed image).count))

pub btree_loads : (image : List ℕ) (tree : BtreeMeta) (db : Found) (settings : Settings) (pairs : List TextPair) → IsBtreeDb image tree db
    → map pair_in pairs ≡ list_given (in_image (read image) db)
    → LoadsAlike settings (btree_settings (head_of image).page_size (head_of image).order tree)
    → listed (loaded settings pairs) ≡ btree_list (file_of image) tree.root
btree_loads image tree db settings pairs of are alike =
    let file : File = file_of image in
    let g : File = guessed image in
    let f : ℕ → List Entry = pairs_at image in
    let ps : List ℕ = leaves file tree.root in
    let pages : List ℕ = filter (gives_pairs g db) (range_with_len 0 g.count) in
    let others : Settings = btree_settings (head_of image).page_size (head_of image).order tree in
    let list : btree_list file tree.root ≡ flat_map f ps = list_is image tree db of in
    let kept : IsKeptList others (btree_list file tree.root) =
    btree_kept image tree (head_of image).page_size (head_of image).order of.is.sound.forest (metadata image tree db of) of.keyed
    (no_contents image (BtreeFields tree) of.is.is.sound (metadata image tree db of)) in
    pages_load settings others f ps pages pairs (are ∙ given_is image tree db of) alike (subst (IsKeptList others) list kept)
    (record {
      all = λ p at some.
          in_filter (gives_pairs g db) (range_with_len 0 g.count) p
          (in_range 0 g.count p (omega arith) (omega (arith, below_count image p of.is (leaf_low image tree db p of at)))) (all_give image tree db p of at);
      only = λ p at some. only_leaves image tree db p of (of_filter (gives_pairs g db) (range_with_len 0 g.count) p at).1 some;
      rise = later_filter (λ (p q : ℕ). p < q) (gives_pairs g db) (range_with_len 0 g.count) (later_range 0 g.count);
      below = leaves_below image tree db of;
    })
    ∙ sym list
