-- What a leaf holds, by its entries.
use Rattle.std.proofs.Common.{◌≡◌, ℕ, suc, zero, ◌+◌, ◌*◌, ◌<◌, Bool, false, cond, List, [], ◌∷◌, length, map, get_or, arith, refl, sym, ◌∙◌, ap, ◌/◌, ◌%◌}
use Rattle.bdb_mkleaves.proofs.Common.{flat_map, range_with_len, ne_eqb, get_or-map, get_or_default, length-map, same_lists, map-map, get_or-map-range_with_len, length-map-range_with_len}
use Rattle.bdb_mkleaves.proofs.Common.{flat_map-map, Header, Content, File, Item, Leaf, Listed, StoredPair, byte_at, contents_in, header_of, is_shared_key, is_wrong_entry_count, is_wrong_level}
use Rattle.bdb_mkleaves.proofs.Common.{item_at, leaf_item_at, no_item, page_type, pair_at, pairs_in, of_range, header_listed, flat_map_same, bytes_of, begun_is_formed, Entry, HoldsIn, LeavesAreFormed}
use Rattle.bdb_mkleaves.proofs.Common.{LeavesStand, contents_of, leaf_of, no_entry, own_content, own_entry, pair_in, pairs_from, type_number, LeafType, Pairs, Records, SortedData}
use Rattle.bdb_places.specs.of_format.Terms.{entries_of}
use Rattle.bdb_places.proofs.of_format.TargetLemmas.{each_own}
use Rattle.bdb_mkleaves.proofs.EntryLemmas.{entries_held, page_is}

-- its form

level_right : (type : LeafType) → is_wrong_level (page_type (type_number type)) 1 ≡ false
level_right Pairs = refl
level_right Records = refl
level_right SortedData = refl

count_right : (type : LeafType) (n : ℕ) → (type ≡ Pairs → n % 2 ≡ 0) → is_wrong_entry_count (page_type (type_number type)) n ≡ false
count_right Pairs n even = ne_eqb (n % 2) 1 (λ odd. omega (arith, odd, even refl))
count_right Records n even = refl
count_right SortedData n even = refl

pub leaves_are_formed : LeavesAreFormed
leaves_are_formed type order bytes p previous next entries holds even =
    begun_is_formed order p bytes holds.begun holds.number
    (ap (λ t. is_wrong_level (page_type t) (byte_at bytes 24)) holds.type_is
    ∙ (ap (is_wrong_level (page_type (type_number type))) holds.level ∙ level_right type))
    (ap (λ t. is_wrong_entry_count (page_type t) (entries_of order bytes)) holds.type_is
    ∙ (ap (is_wrong_entry_count (page_type (type_number type))) (entries_held type order bytes p previous next entries holds)
    ∙ count_right type (length entries) even))

-- its contents

flat_single : {X : Type 0} (xs : List X) → flat_map (λ x. x ∷ []) xs ≡ xs
flat_single [] = refl
flat_single (x ∷ xs) = ap (λ ys. x ∷ ys) (flat_single xs)

each_self : {X : Type 0} (xs : List X) (d : X) → map (λ k. get_or xs k d) (range_with_len 0 (length xs)) ≡ xs
each_self xs d = grind (arith, same_lists, length-map-range_with_len, get_or-map-range_with_len, get_or_default)

-- the items and their sharing, as a page has them
record HasEntries (page : Listed Item) (entries : List Entry) : Type 0 where
  items : page.items ≡ map (λ (entry : Entry). entry.item) entries
  shares : (k : ℕ) → k < length entries → is_shared_key page.offsets k ≡ (get_or entries k no_entry).shares

item_held : (page : Listed Item) (entries : List Entry) (k : ℕ) → HasEntries page entries → k < length entries
    → item_at page k ≡ (get_or entries k no_entry).item
item_held page entries k has low = ap (λ items. get_or items k no_item) has.items ∙ get_or-map (λ (entry : Entry). entry.item) entries k no_entry no_item low

contents_held : (type : LeafType) (page : Listed Item) (entries : List Entry) → HasEntries page entries
    → contents_in (leaf_of type page) ≡ contents_of type entries
contents_held Pairs page entries has =
    let n : ℕ = length entries in
    let long : length page.items ≡ n = ap length has.items ∙ length-map entries (λ (entry : Entry). entry.item) in
    let here : ℕ → List Content = λ k. cond (is_shared_key page.offsets k) [] ((item_at page k).content ∷ []) in
    sym (flat_single (contents_in (Leaf page)))
    ∙ (each_own (λ c. c ∷ []) page
    ∙ (ap (λ m. flat_map here (range_with_len 0 m)) long
    ∙ (flat_map_same here (λ k. own_content (get_or entries k no_entry)) (range_with_len 0 n)
    (λ k among.
    let within = of_range 0 n k among in
    let low : k < n = omega (arith, within.1) in
    ap (λ b. cond b [] ((item_at page k).content ∷ [])) (has.shares k low)
    ∙ ap (λ (i : Item). cond (get_or entries k no_entry).shares [] (i.content ∷ [])) (item_held page entries k has low))
    ∙ (sym (flat_map-map own_content (λ k. get_or entries k no_entry) (range_with_len 0 n))
    ∙ ap (flat_map own_content) (each_self entries no_entry)))))
contents_held Records page entries has =
    ap (map (λ (item : Item). item.content)) has.items ∙ map-map (λ (item : Item). item.content) (λ (entry : Entry). entry.item) entries
contents_held SortedData page entries has =
    ap (map (λ (item : Item). item.content)) has.items ∙ map-map (λ (item : Item). item.content) (λ (entry : Entry). entry.item) entries

-- the pairs that entries make

two_more : (n : ℕ) → suc (suc n) / 2 ≡ suc (n / 2)
two_more n = grind arith

pub length-pairs_from : (g : File) (p : ℕ) (entries : List Entry) → length (pairs_from g p entries) ≡ length entries / 2
length-pairs_from g p [] = refl
length-pairs_from g p (key ∷ []) = refl
length-pairs_from g p (key ∷ datum ∷ entries) = ap suc (length-pairs_from g p entries) ∙ sym (two_more (length entries))

pub after_two : (key datum : Entry) (entries : List Entry) (n m : ℕ) → n ≡ suc (suc m)
    → get_or (key ∷ datum ∷ entries) n no_entry ≡ get_or entries m no_entry
after_two key datum entries n m is = ap (λ k. get_or (key ∷ datum ∷ entries) k no_entry) is

pair_of_two : (g : File) (p : ℕ) (entries : List Entry) (k : ℕ) (d : StoredPair) → 2 * k + 1 < length entries
    → get_or (pairs_from g p entries) k d ≡ pair_in g p (get_or entries (2 * k) no_entry) (get_or entries (2 * k + 1) no_entry)
pair_of_two g p [] k d low = absurd (omega (arith, low))
pair_of_two g p (key ∷ []) k d low = absurd (omega (arith, low))
pair_of_two g p (key ∷ datum ∷ entries) zero d low = refl
pair_of_two g p (key ∷ datum ∷ entries) (suc k) d low = grind (arith, after_two, pair_of_two g p entries k d (omega (arith, low)))

pair_same : (g : File) (p : ℕ) {key key2 value value2 : Item} {shares shares2 : Bool} → key ≡ key2 → value ≡ value2 → shares ≡ shares2
    → pair_in g p (record { item = key; shares = shares }) (own_entry value) ≡ pair_in g p (record { item = key2; shares = shares2 })
    (own_entry value2)
pair_same g p a b c = rw (a, b, c) refl

pairs_held : (g : File) (p : ℕ) (page : Listed Item) (entries : List Entry) → HasEntries page entries → length entries % 2 ≡ 0
    → pairs_in g p (Leaf page) ≡ pairs_from g p entries
pairs_held g p page entries has even =
    let n : ℕ = length entries / 2 in
    let here : ℕ → StoredPair = pair_at g p page (λ i. is_shared_key page.offsets (2 * i)) in
    let long : length page.items ≡ length entries = ap length has.items ∙ length-map entries (λ (entry : Entry). entry.item) in
    ap (λ m. map here (range_with_len 0 (m / 2))) long
    ∙ same_lists _ _ (length-map-range_with_len here 0 n ∙ sym (length-pairs_from g p entries))
    (λ k d under.
    let low : k < n = omega (arith, under, length-map-range_with_len here 0 n) in
    let inside : 2 * k + 1 < length entries = omega (arith, low, even) in
    let at : 0 + k ≡ k = omega arith in
    get_or-map-range_with_len here 0 n k k d low at
    ∙ (pair_same g p (item_held page entries (2 * k) has (omega (arith, inside))) (item_held page entries (2 * k + 1) has inside)
    (has.shares (2 * k) (omega (arith, inside)))
    ∙ sym (pair_of_two g p entries k d inside)))

held_in : (type : LeafType) (g : File) (p : ℕ) (page : Listed Item) (entries : List Entry) → HasEntries page entries
    → (type ≡ Pairs → length entries % 2 ≡ 0) → HoldsIn type g p page entries
held_in Pairs g p page entries has even = pairs_held g p page entries has (even refl)
held_in Records g p page entries has even = has.items
held_in SortedData g p page entries has even = has.items

pub leaves_stand : LeavesStand
leaves_stand type built p previous next entries g holds even same =
    let bytes : List ℕ = bytes_of built p in
    let header : holds.page.header ≡ header_of built.order bytes =
    ap (λ (l : Listed Item). l.header) (sym (page_is type built.order bytes p previous next entries holds))
    ∙ header_listed built.order bytes (leaf_item_at built.order bytes) in
    let has : HasEntries holds.page entries = record { items = holds.items; shares = holds.shares } in
    record {
      page = holds.page;
      is = same ∙ holds.is;
      level = ap (λ (h : Header). h.level) header ∙ holds.level;
      previous_is = ap (λ (h : Header). h.previous) header ∙ holds.before;
      next_is = ap (λ (h : Header). h.next) header ∙ holds.after;
      items = holds.items;
      contents = contents_held type holds.page entries has;
      holds = held_in type g p holds.page entries has even;
    }
