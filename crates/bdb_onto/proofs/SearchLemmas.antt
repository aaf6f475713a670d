-- A search by halving among databases in the order of their names finds the one of a name; and which database a section is loaded onto.
use Rattle.std.proofs.Common.{◌≡◌, ℕ, zero, suc, ◌<◌, ◌≤◌, Bool, true, false, cond, List, [], ◌∷◌, length, map, get_or, Option, Some, None, arith, refl, sym}
use Rattle.std.proofs.Common.{◌∙◌, ap, subst, Result, Ok, Err, is_some, nat_lt, slice_get, unwrap_or, Contains, HoldsAt, find}
use Rattle.std.specs.Result.{result_ok}
use Rattle.std.specs.List.Sorted.{IsBinarySearchResult, IsNonDecreasingBy, IsSearchInRange}
use Rattle.std.specs.Ordering.{ordering_index}
use Rattle.std.specs.Str.{bytes_eq}
use Rattle.std.specs.declared.cmp.Ordering.{Ordering}
use Rattle.std.specs.declared.cmp.Ordering.TheVariants.{Less as Below, Equal, Greater}
use Rattle.std.proofs.lemmas.Bool.{false_from_ne_true}
use Rattle.std.proofs.lemmas.Bool.Decides.{nat_tests}
use Rattle.std.proofs.lemmas.List.Elements.{Contains-get_or}
use Rattle.bdb_format.specs.declared.metadata.BtreeMeta.{BtreeMeta}
use Rattle.bdb_format.specs.Terms.{Database, Less, databases, file_of, is_name, master_in, page_at}
use Rattle.bdb_format.proofs.LessLemmas.{eq_same, eq_self, less_trans, not_less_both, not_less_same}
use Rattle.bdb_format.proofs.MemberLemmas.{first_member, in_map, later_member, of_map}
use Rattle.bdb_mkfile.specs.of_layout.Seen.{OrderingIs}
use Rattle.bdb_mkfile.proofs.of_layout.KeyLemmas.{slice_cmp-is}
use Rattle.bdb_mkfile.specs.of_text_format.declared.sections.Section.{Section}
use Rattle.bdb_law_kept.specs.Kept.{IsSound, bytes_of_name}
use Rattle.bdb_law_kept.proofs.KeyedLemmas.{Rise, ascends_rise}
use Rattle.bdb_law_kept.proofs.NameLemmas.{in_order_of_names}
use Rattle.bdb_mkfile.specs.Builds.{name_of}
use Rattle.bdb_onto.specs.declared.base.Base.{Base}
use Rattle.bdb_onto.specs.Bases.{IsBase, base_section}
use Rattle.bdb_onto.specs.Onto.{differ, is_partner, partner_of}
use Rattle.bdb_onto.specs.Search.{AllNamed, HasNames, IsPlaceOf, NamesRise, has_name, order_of, place_in}
use Rattle.bdb_onto.proofs.BaseLemmas.{of_base}
use Rattle.bdb_onto.proofs.ErrorLemmas.{named_in_base, no_name}
use Rattle.bdb_onto.proofs.FitLemmas.{base_differs}

-- The order of a database and a name.

same_at_equal : (r : Ordering) (a b : List ℕ) → OrderingIs r a b → r ≡ Equal → a ≡ b
same_at_equal r a b is equal = subst (λ o. OrderingIs o a b) equal is

equal_at_same : (r : Ordering) (a b : List ℕ) → OrderingIs r a b → a ≡ b → r ≡ Equal
equal_at_same Below a b is same = absurd (not_less_same b (subst (λ l. Less l b) same is))
equal_at_same Equal a b is same = refl
equal_at_same Greater a b is same = absurd (not_less_same b (subst (λ l. Less b l) same is))

-- what is greater isn't in a lesser order
rises : (r s : Ordering) (a b name : List ℕ) → OrderingIs r a name → OrderingIs s b name → Less a b → ordering_index r ≤ ordering_index s
rises Below s a b name one two low = omega arith
rises Equal Below a b name one two low = absurd (not_less_both a b low (subst (λ l. Less b l) (sym one) two))
rises Equal Equal a b name one two low = omega arith
rises Equal Greater a b name one two low = omega arith
rises Greater Below a b name one two low = absurd (not_less_both name b (less_trans name a b one low) two)
rises Greater Equal a b name one two low = absurd (not_less_both name a one (subst (λ l. Less a l) two low))
rises Greater Greater a b name one two low = omega arith

-- Names that ascend.

orders_rise : (name : List ℕ) (all : List Section) → NamesRise all → IsNonDecreasingBy (λ database. ordering_index (order_of name database)) all
orders_rise name [] rise i j d low within = absurd (omega (arith, within))
orders_rise name (x ∷ xs) rise zero zero d low within = omega arith
orders_rise name (x ∷ xs) rise zero (suc j) d low within =
    let y : Section = get_or xs j d in
    rises (order_of name x) (order_of name y) (name_of x) (name_of y) name (slice_cmp-is (name_of x) name) (slice_cmp-is (name_of y) name)
    (rise.0 y (Contains-get_or xs j d (omega (arith, within))))
orders_rise name (x ∷ xs) rise (suc i) zero d low within = absurd (omega (arith, low))
orders_rise name (x ∷ xs) rise (suc i) (suc j) d low within =
    orders_rise name xs rise.1 i j d (omega (arith, low)) (omega (arith, within))

passes : (name : List ℕ) (other : Option (List ℕ)) → is_some other ≡ true → unwrap_or other [] ≡ name → is_name (Some name) other ≡ true
passes name None has same = absurd (cc has)
passes name (Some other) has same = subst (λ n. bytes_eq n other ≡ true) same (eq_self other)

fails : (name : List ℕ) (other : Option (List ℕ)) → (unwrap_or other [] ≡ name → ⊥) → is_name (Some name) other ≡ false
fails name None unlike = refl
fails name (Some other) unlike = false_from_ne_true (bytes_eq name other) (λ same. unlike (sym (eq_same name other same)))

-- the database at a place whose name is the one that is sought is the first of that name
at_place : (name : List ℕ) (all : List Section) → NamesRise all → AllNamed all → (i : ℕ) → i < length all
    → HoldsAt (λ database. order_of name database ≡ Equal) all i → find (has_name name) all ≡ slice_get all i
at_place name [] rise named i within here = absurd (omega (arith, within))
at_place name (x ∷ xs) rise named zero within here =
    ap (λ b. cond b (Some x) (find (has_name name) xs))
    (passes name x.name (named x (first_member x xs)) (same_at_equal (order_of name x) (name_of x) name (slice_cmp-is (name_of x) name) (here x)))
at_place name (x ∷ xs) rise named (suc i) within here =
    let y : Section = get_or xs i x in
    let same : name_of y ≡ name = same_at_equal (order_of name y) (name_of y) name (slice_cmp-is (name_of y) name) (here x) in
    let low : Less (name_of x) (name_of y) = rise.0 y (Contains-get_or xs i x (omega (arith, within))) in
    ap (λ b. cond b (Some x) (find (has_name name) xs))
    (fails name x.name (λ is. not_less_same (name_of y) (subst (λ n. Less n (name_of y)) (is ∙ sym same) low)))
    ∙ at_place name xs rise.1 (λ other at. named other (later_member x xs other at)) i (omega (arith, within)) here

none_found : (name : List ℕ) (all : List Section) → ((k : ℕ) (d : Section) → k < length all → order_of name (get_or all k d) ≡ Equal → ⊥)
    → find (has_name name) all ≡ None
none_found name [] none = refl
none_found name (x ∷ xs) none =
    ap (λ b. cond b (Some x) (find (has_name name) xs))
    (fails name x.name (λ same. none 0 x (omega arith) (equal_at_same (order_of name x) (name_of x) name (slice_cmp-is (name_of x) name) same)))
    ∙ none_found name xs (λ k d low. none (suc k) d (omega (arith, low)))

-- a search by halving answers the place of the database of a name, exactly where there is one
pub found_place : (name : List ℕ) (all : List Section) → NamesRise all → AllNamed all → (r : Result ℕ ℕ) → IsSearchInRange r (length all)
    → IsBinarySearchResult (order_of name) all r → find (has_name name) all ≡ place_in all r
found_place name all rise named (Ok i) within here = at_place name all rise named i within here
found_place name all rise named (Err i) within parted =
    none_found name all (λ k d low equal. by_side k d low equal (nat_lt k i) refl)
  where
    by_side : (k : ℕ) (d : Section) → k < length all → order_of name (get_or all k d) ≡ Equal → (b : Bool) → nat_lt k i ≡ b → ⊥
    by_side k d low equal true is =
        let before : k < i = grind (arith, nat_tests, is) in
        let below = (parted (orders_rise name all rise)).0 k d (omega arith) before in absurd (cc (below, equal))
    by_side k d low equal false is =
        let behind : i ≤ k = grind (arith, nat_tests, is) in
        let above = (parted (orders_rise name all rise)).1 k d behind low in absurd (cc (above, equal))

-- the same of a slice that is searched
pub found_in_slice : (name : List ℕ) (all items : List Section) → items ≡ all → NamesRise all → AllNamed all → (r : Result ℕ ℕ)
    → IsSearchInRange r (length items) → IsBinarySearchResult (order_of name) items r → find (has_name name) all ≡ place_in all r
found_in_slice name all items same rise named r within search =
    found_place name all rise named r (subst (λ (l : List Section). IsSearchInRange r (length l)) same within)
    (subst (λ (l : List Section). IsBinarySearchResult (order_of name) l r) same search)

-- The databases of a base.

sections_rise : (image : List ℕ) (all : List Database) → Rise (map bytes_of_name all) → NamesRise (map (base_section image) all)
sections_rise image [] rise = tt
sections_rise image (database ∷ all) rise = (
  (λ other at.
      let found = of_map (base_section image) all other at in
      subst (λ (s : Section). Less (bytes_of_name database) (name_of s)) found.2
      (rise.0 (bytes_of_name found.0) (in_map bytes_of_name all found.0 found.1))),
  sections_rise image all rise.1,
)

image_rises : (image : List ℕ) → IsSound image → (found : Option BtreeMeta) → master_in (page_at (file_of image) 0) ≡ found → is_some found ≡ true
    → NamesRise (map (base_section image) (databases (file_of image)))
image_rises image sound None is has = absurd (cc has)
image_rises image sound (Some meta) is has =
    sections_rise image (databases (file_of image))
    (ascends_rise (map bytes_of_name (databases (file_of image))) (in_order_of_names image meta sound is))

-- under a master names ascend, and each database has one
names_rise : (base : Base) → IsBase base → base.master ≡ true → NamesRise base.databases
names_rise base is master =
    subst (λ (b : Base). NamesRise b.databases) (sym is.are)
    (image_rises is.image is.sound (master_in (page_at (file_of is.image) 0)) refl (sym (ap (λ (b : Base). b.master) is.are) ∙ master))

pub all_named : (base : Base) → HasNames base → base.master ≡ true → AllNamed base.databases
all_named base names master database at = names.named database at ∙ master

-- the names of a base
pub has_names : (base : Base) → IsBase base → HasNames base
has_names base is = record {
  named = λ database at. named_in_base base database (of_base base database is at);
  rise = names_rise base is;
  differ = base_differs base is;
}

-- The database that a section is loaded onto.

none_passes_find : {X : Type 0} (test : X → Bool) (xs : List X) → ((x : X) → Contains xs x → test x ≡ false) → find test xs ≡ None
none_passes_find test [] none = refl
none_passes_find test (x ∷ xs) none =
    ap (λ b. cond b (Some x) (find test xs)) (none x (first_member x xs))
    ∙ none_passes_find test xs (λ y at. none y (later_member x xs y at))

unlike : (a b : Option (List ℕ)) (master : Bool) → is_some b ≡ master → differ (is_some a) master ≡ true → is_name a b ≡ false
unlike None None master has is = absurd (cc (subst (λ m. differ false m ≡ true) (sym has) is))
unlike None (Some b) master has is = refl
unlike (Some a) None master has is = refl
unlike (Some a) (Some b) master has is = absurd (cc (subst (λ m. differ true m ≡ true) (sym has) is))

-- none, where it has a name and the base no master, or the other way round
pub no_partner : (base : Base) (section : Section) → HasNames base → differ (is_some section.name) base.master ≡ true → partner_of base section ≡ None
no_partner base section names misnamed =
    none_passes_find (is_partner section) base.databases (λ database at.
    unlike section.name database.name base.master (names.named database at) misnamed)

-- the first one, where neither has names
pub first_partner : (base : Base) (section : Section) → HasNames base → base.master ≡ false → section.name ≡ None
    → partner_of base section ≡ slice_get base.databases 0
first_partner base section names no_master unnamed =
    ap (λ name. find (λ (database : Section). is_name name database.name) base.databases) unnamed
    ∙ by_list base.databases (λ database at. no_name database.name (names.named database at ∙ no_master))
  where
    by_list : (all : List Section) → ((database : Section) → Contains all database → database.name ≡ None)
        → find (λ (database : Section). is_name None database.name) all ≡ slice_get all 0
    by_list [] none = refl
    by_list (x ∷ xs) none =
        ap (λ name. cond (is_name None name) (Some x) (find (λ (database : Section). is_name None database.name) xs)) (none x (first_member x xs))

-- Places.

-- a search by halving answers the place of the database of a name, where there is one
pub place_found : (name : List ℕ) (all items : List Section) → items ≡ all → NamesRise all → AllNamed all → (r : Result ℕ ℕ)
    → IsSearchInRange r (length items) → IsBinarySearchResult (order_of name) items r → IsPlaceOf all (find (has_name name) all) (result_ok r)
place_found name all items same rise named (Ok i) within search = record {
  within = subst (λ (l : List Section). i < length l) same within;
  there = sym (found_in_slice name all items same rise named (Ok i) within search);
}
place_found name all items same rise named (Err i) within search = record {
  within = tt;
  there = sym (found_in_slice name all items same rise named (Err i) within search);
}

-- there is none, where a section has a name and the base no master, or the other way round
pub no_place : (base : Base) (section : Section) → HasNames base → differ (is_some section.name) base.master ≡ true
    → IsPlaceOf base.databases (partner_of base section) None
no_place base section names misnamed = record { within = tt; there = sym (no_partner base section names misnamed) }

-- where neither has names it is the first
pub first_place : (base : Base) (section : Section) → HasNames base → base.master ≡ false → section.name ≡ None → 0 < length base.databases
    → IsPlaceOf base.databases (partner_of base section) (Some 0)
first_place base section names no_master unnamed some = record { within = some; there = sym (first_partner base section names no_master unnamed) }
