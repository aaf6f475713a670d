-- What the hash pages of a file weigh is what those of its buckets do: each is named once, or weighs nothing.
use Rattle.std.proofs.Common.{◌≡◌, ◌⊎◌, ℕ, zero, suc, ◌+◌, ◌<◌, ◌≤◌, Bool, true, false, cond, List, [], ◌∷◌, length, arith, refl, sym, ◌∙◌, ap, subst, inl, inr}
use Rattle.std.proofs.Common.{true≢false, ◌==◌, ◌||◌, ◌&&◌, not, Option, Some, None}
use Rattle.std.specs.List.{Contains, enumerate_from, flat_map, range_with_len, sum_by}
use Rattle.std.proofs.lemmas.Bool.{and_parts, cases_Bool, eqb-true}
use Rattle.std.proofs.lemmas.List.Elements.{Contains-append_right}
use Rattle.std.proofs.lemmas.List.Sums.{sum_by-cons}
use Rattle.bdb_tree.specs.of_format.declared.metadata.FileKind.{FileKind}
use Rattle.bdb_tree.specs.of_format.declared.metadata.FileKind.TheVariants.{Btree, Hash as HashFile, Queue as QueueFile}
use Rattle.bdb_tree.specs.of_format.declared.references.Reference.{Reference}
use Rattle.bdb_tree.specs.of_format.declared.references.Sort.{Sort}
use Rattle.bdb_tree.specs.of_format.declared.references.Sort.TheVariants.{Free as FreeRef, Root, Bucket, HashNext, Child, OverflowHead, OverflowNext}
use Rattle.bdb_tree.specs.of_format.declared.references.Sort.TheVariants.{DuplicateRoot}
use Rattle.bdb_tree.specs.of_format.Terms.{Asked, BtreeFields, File, Hash, HashFields, Internal, InternalItem, Item, Listed, Meta, OneRole, Owner, Page}
use Rattle.bdb_tree.specs.of_format.Terms.{QueueFields, RecnoInternal, Zero, abstract_page, all_references, asked_by, byte_at, chain, chain_in, child_types}
use Rattle.bdb_tree.specs.of_format.Terms.{content_targets, contents_in, file_of, fit_code, fit_rows, has_bit, has_type, hash_item_at, head_of, header_in}
use Rattle.bdb_tree.specs.of_format.Terms.{held_by, is_anchor, is_head_reference, is_meta, is_spare, is_zero, is_zero_page, listed, next_of, owners, page_as}
use Rattle.bdb_tree.specs.of_format.Terms.{page_at, page_bytes, page_type, refs, root_types, targets_in, targets_of, type_in, unless_zero}
use Rattle.bdb_tree.specs.of_format.declared.pages.RecnoItem.{RecnoItem}
use Rattle.bdb_tree.specs.of_format.declared.pages.PageType.{PageType}
use Rattle.bdb_tree.specs.of_format.declared.pages.PageType.TheVariants.{Hash as HashPage}
use Rattle.bdb_tree.specs.of_format.declared.kinds.Order.{Order}
use Rattle.bdb_tree.proofs.of_format.GraphLemmas.{each_fits, each_page_has_one_role, is_owner, owner_fits, reserve_is}
use Rattle.bdb_tree.proofs.of_format.MemberLemmas.{first_member, in_map, member_cases, no_member, of_map}
use Rattle.bdb_tree.proofs.of_format.VerdictLemmas.{AllFail, none_is_first_row}
use Rattle.bdb_tree.specs.of_graph.Forest.{AllDistinct, IsWayDown, Names}
use Rattle.bdb_tree.specs.of_image.Linked.{IsForest}
use Rattle.bdb_tree.proofs.of_graph.ForestLemmas.{no_page_twice_below, sound_graph}
use Rattle.bdb_tree.proofs.of_image.FirstLemmas.{formed_last}
use Rattle.bdb_tree.proofs.of_graph.ReachLemmas.{AllUpTo, few_distinct}
use Rattle.bdb_tree.proofs.ShapeLemmas.{no_queue}
use Rattle.bdb_tree.proofs.of_format.TypeLemmas.{AllTypes, of_type}
use Rattle.bdb_tree.proofs.of_format.ListLemmas.{in_enumerated, only_member}
use Rattle.bdb_tree.proofs.of_format.ReferenceLemmas.{forest_names, of_all}
use Rattle.bdb_tree.proofs.of_format.FileLemmas.{count_is as counted, last_page, page_is}
use Rattle.bdb_tree.proofs.of_graph.ChildLemmas.{is_queue_page}
use Rattle.bdb_law_sums.specs.Counting.{AreParts}
use Rattle.bdb_law_sums.specs.HashSums.{HashPagesAreOfBuckets, WeighsHash, is_bucket, is_hash_page}
use Rattle.bdb_law_sums.proofs.CountLemmas.{parts_are_entrances, sum_none, sum_parts, sum_plus, sum_same}
use Rattle.bdb_law_sums.proofs.NameLemmas.{OfStructure, named_sum, named_weight, sum_map, sum_refs}
use Rattle.bdb_law_sums.proofs.TreeLemmas.{all_pass, named_as_owned, no_anchor, page_zero_type, pages, passed_by, some_member, sum_filter}
use Rattle.bdb_law_sums.proofs.TreeLemmas.{target_inside, targets}

-- what the pages of a row weigh, from a hash page on; another page weighs nothing
abbrev whole : File → (ℕ → ℕ) → ℕ → ℕ
whole file weight p = cond (is_hash_page file p) (sum_by weight (chain file p)) 0

-- Shapes.

hash_is : (page : Page) → has_type (2 ∷ 13 ∷ []) (type_in page) ≡ true → (listed : Listed Item) × (page ≡ Hash listed)
hash_is (Hash page) is = (page, refl)
hash_is (Meta (BtreeFields meta)) is = absurd cc
hash_is (Meta (HashFields meta)) is = absurd cc
hash_is (Meta (QueueFields meta)) is = absurd cc
hash_is page is = absurd cc

abbrev NoHash : Option ℕ → Type 0
NoHash type = has_type (2 ∷ 13 ∷ []) type ≡ false

either : (b : Bool) (xs ys : List ℕ) → AllTypes NoHash xs → AllTypes NoHash ys → AllTypes NoHash (cond b xs ys)
either true xs ys first second = first
either false xs ys first second = second

child_no_hash : (page : Page) → AllTypes NoHash (child_types page)
child_no_hash (Internal page) = either (page.header.level == 2) (5 ∷ 12 ∷ []) (3 ∷ []) (refl, (refl, tt)) (refl, tt)
child_no_hash (RecnoInternal page) = either (page.header.level == 2) (6 ∷ []) (4 ∷ []) (refl, tt) (refl, tt)
child_no_hash page = tt

root_no_hash : (page : Page) → AllTypes NoHash (root_types page)
root_no_hash (Meta (BtreeFields meta)) = either (has_bit meta.flags 0x02) (4 ∷ 6 ∷ []) (3 ∷ 5 ∷ []) (refl, (refl, tt)) (refl, (refl, tt))
root_no_hash (Meta (HashFields meta)) = tt
root_no_hash (Meta (QueueFields meta)) = tt
root_no_hash page = tt

-- the sorts that lead into buckets
abbrev leads_in : Sort → Bool
leads_in Bucket = true
leads_in HashNext = true
leads_in sort = false

outside : (holder : ℕ) (page : Page) (sort : Sort) → leads_in sort ≡ false → AllTypes NoHash (asked_by holder page sort).types
outside holder page FreeRef is = (refl, tt)
outside holder page Root is = root_no_hash page
outside holder page Child is = child_no_hash page
outside holder page OverflowHead is = (refl, tt)
outside holder page OverflowNext is = (refl, tt)
outside holder page DuplicateRoot is = (refl, (refl, (refl, (refl, tt))))
outside holder page sort is = absurd cc

zero_no_hash : (page : Page) → is_zero_page page ≡ true → NoHash (type_in page)
zero_no_hash Zero is = refl
zero_no_hash page is = absurd cc

names_other : (file : File) (p : ℕ) (r : Reference) → fit_code file p r ≡ None → leads_in r.sort ≡ false → is_hash_page file r.target ≡ false
unfolding fit_code
names_other file p r fits is =
    let asked : Asked = asked_by p (page_at file p) r.sort in
    let fail : AllFail (fit_rows file asked r.target) = none_is_first_row (fit_rows file asked r.target) fits in
    elim (passed_by (has_type asked.types (type_in (page_at file r.target))) asked.or_zero (is_zero_page (page_at file r.target)) fail.1.0) [
      | inl has ↦ of_type NoHash asked.types (type_in (page_at file r.target)) (outside p (page_at file p) r.sort is) has
      | inr zeros ↦ zero_no_hash (page_at file r.target) zeros
    ]

-- The next page of a bucket.

hash_next : (p : ℕ) (page : Page) (listed : Listed Item) → page ≡ Hash listed → ((header_in page).next == 0) ≡ false
    → Contains (targets_in p page) (HashNext, (header_in page).next)
hash_next p page listed is more =
    subst (λ (page : Page). ((header_in page).next == 0) ≡ false → Contains (targets_in p page) (HashNext, (header_in page).next)) (sym is)
    (λ some. Contains-append_right (flat_map content_targets (contents_in (Hash listed))) (unless_zero HashNext listed.header.next)
    (HashNext, listed.header.next)
    (subst (λ b. Contains {X = Sort × ℕ} (cond b [] ((HashNext, listed.header.next) ∷ [])) (HashNext, listed.header.next)) (sym some)
    (first_member (HashNext, listed.header.next) []))) more

-- a hash page with a next page names it, and that is a hash page
pub record IsNext (file : File) (p q : ℕ) : Type 0 where
  pub names : Names file p q
  inside : q ≤ file.last
  kind : is_hash_page file q ≡ true

next_fits : (file : File) (p : ℕ) (r : Reference) → fit_code file p r ≡ None → r.sort ≡ HashNext → is_hash_page file r.target ≡ true
unfolding fit_code
next_fits file p r fits sort =
    let asked : Asked = asked_by p (page_at file p) HashNext in
    let by_sort : fit_code file p (record {
      place =
          r.place;
      sort = HashNext;
      target = r.target;
    }) ≡ None =
    subst (λ s. fit_code file p (record { place = r.place; sort = s; target = r.target }) ≡ None) sort fits in
    let fail : AllFail (fit_rows file asked r.target) = none_is_first_row (fit_rows file asked r.target) by_sort in
    of_or (has_type (2 ∷ 13 ∷ []) (type_in (page_at file r.target))) (is_zero_page (page_at file r.target)) fail.1.0
  where
    of_or : (a c : Bool) → not (a || (false && c)) ≡ false → a ≡ true
    of_or true c passed = refl
    of_or false c passed = absurd cc

pub next_is : (image : List ℕ) (p : ℕ) → IsForest image → p ≤ (file_of image).last → is_hash_page (file_of image) p ≡ true
    → (next_of (file_of image) p == 0) ≡ false
    → IsNext (file_of image) p (next_of (file_of image) p)
unfolding refs
next_is image p forest low is more =
    let file : File = file_of image in
    let page = hash_is (page_at file p) is in
    let kind : file.kind ≡ QueueFile → ⊥ = no_queue image (head_of image) p forest.formed low (ap is_queue_page page.1) in
    let name : Contains (targets_of file.kind p (page_at file p)) (HashNext, next_of file p) =
    subst (λ names. Contains names (HashNext, next_of file p)) (sym (forest_names file.kind p (page_at file p) kind))
    (hash_next p (page_at file p) page.0 page.1 more) in
    let found = in_enumerated 0 (targets_of file.kind p (page_at file p)) (HashNext, next_of file p) name in
    let r : Reference = record { place = found.0; sort = HashNext; target = next_of file p } in
    let held : Contains (refs file p) r =
    in_map (λ (named : ℕ × (Sort × ℕ)). record { place = named.0; sort = named.1.0; target = named.1.1 })
    (enumerate_from 0 (targets_of file.kind p (page_at file p))) (found.0, (HashNext, next_of file p)) found.1 in
    let fits : fit_code file p r ≡ None = each_fits file p r (sound_graph image forest.linked).references low held in
    record {
      names = record { reference = r; held = held; target = refl; other = refl };
      inside = target_inside file p r fits;
      kind = next_fits file p r fits refl;
    }

-- A row of hash pages ends.

abbrev pub AllHash : File → List ℕ → Type 0
AllHash file [] = Unit {0}
AllHash file (x ∷ xs) = (is_hash_page file x ≡ true) × AllHash file xs

pub turn_is : (turns : ℕ) (file : File) (p : ℕ) → chain_in (suc turns) file p ≡ p ∷ cond (next_of file p == 0) [] (chain_in turns file (next_of file p))
unfolding chain_in
turn_is turns file p = ap (λ ps. p ∷ ps) (same (next_of file p == 0) (chain_in turns file (next_of file p)))
  where
    same : (b : Bool) (xs : List ℕ) → ◌≡◌ {A = List ℕ} (elim b [ true ↦ [] | false ↦ xs ]) (cond b [] xs)
    same true xs = refl
    same false xs = refl

pub no_turn : (file : File) (p : ℕ) → chain_in zero file p ≡ []
unfolding chain_in
no_turn file p = refl

-- the pages of a row lead down
record IsRow (turns : ℕ) (file : File) (p : ℕ) : Type 0 where
  after : List ℕ
  is : chain_in (suc turns) file p ≡ p ∷ after
  way : IsWayDown file p after
  inside : AllUpTo file.last after
  kinds : AllHash file after

last_row : (turns : ℕ) (file : File) (p : ℕ) → (next_of file p == 0) ≡ true → IsRow turns file p
last_row turns file p last =
    record {
      after = [];
      is = turn_is turns file p ∙ ap (λ b. p ∷ cond b [] (chain_in turns file (next_of file p))) last;
      way = tt;
      inside =
          tt;
      kinds = tt;
    }

row_of : (turns : ℕ) (image : List ℕ) (p : ℕ) → IsForest image → p ≤ (file_of image).last → is_hash_page (file_of image) p ≡ true
    → IsRow turns (file_of image) p
row_of zero image p forest low is =
    let file : File = file_of image in
    record {
      after = [];
      is = turn_is zero file p ∙ (ap (λ ps. p ∷ cond (next_of file p == 0) [] ps) (no_turn file (next_of file p))
          ∙ ap (λ ps. p ∷ ps) (both (next_of file p == 0)));
      way = tt;
      inside = tt;
      kinds = tt;
    }
  where
    both : (b : Bool) → ◌≡◌ {A = List ℕ} (cond b [] []) []
    both true = refl
    both false = refl
row_of (suc t) image p forest low is =
    let file : File = file_of image in
    elim (cases_Bool (next_of file p == 0)) [
      | inl last ↦ last_row (suc t) file p last
      | inr more ↦
          let next : IsNext file p (next_of file p) = next_is image p forest low is more in
          let rest : IsRow t file (next_of file p) = row_of t image (next_of file p) forest next.inside next.kind in
          record {
            after = next_of file p ∷ rest.after;
            is = turn_is (suc t) file p ∙ (ap (λ b. p ∷ cond b [] (chain_in (suc t) file (next_of file p))) more ∙ ap (λ ps. p ∷ ps) rest.is);
            way = (next.names, rest.way);
            inside = (next.inside, rest.inside);
            kinds = (next.kind, rest.kinds);
          }
    ]

-- a row has no more pages than there are
row_few : (turns : ℕ) (image : List ℕ) (p : ℕ) → IsForest image → p ≤ (file_of image).last → is_hash_page (file_of image) p ≡ true
    → length (chain_in (suc turns) (file_of image) p) ≤ (file_of image).last + 1
row_few turns image p forest low is =
    let file : File = file_of image in
    let row : IsRow turns file p = row_of turns image p forest low is in
    let all : AllDistinct (p ∷ row.after) = no_page_twice_below image p row.after forest.linked low row.way in
    let few : length (p ∷ row.after) ≤ file.last + 1 = few_distinct file.last (p ∷ row.after) all (low, row.inside) in
    omega (arith, few, ap length row.is)

-- turns that aren't used up aren't missed
enough : (turns : ℕ) (file : File) (p : ℕ) → length (chain_in (suc turns) file p) ≤ turns → chain_in (suc turns) file p ≡ chain_in turns file p
enough zero file p few = absurd (omega (arith, few, ap length (turn_is zero file p)))
enough (suc t) file p few =
    elim (cases_Bool (next_of file p == 0)) [
      | inl last ↦ turn_is (suc t) file p
          ∙ (ap (λ b. p ∷ cond b [] (chain_in (suc t) file (next_of file p))) last
          ∙ (sym (ap (λ b. p ∷ cond b [] (chain_in t file (next_of file p))) last) ∙ sym (turn_is t file p)))
      | inr more ↦
          let here : chain_in (suc (suc t)) file p ≡ p ∷ chain_in (suc t) file (next_of file p) =
          turn_is (suc t) file p ∙ ap (λ b. p ∷ cond b [] (chain_in (suc t) file (next_of file p))) more in
          let one : length (chain_in (suc (suc t)) file p) ≡ suc (length (chain_in (suc t) file (next_of file p))) = ap length here in
          let rest : chain_in (suc t) file (next_of file p) ≡ chain_in t file (next_of file p) =
          enough t file (next_of file p) (omega (arith, few, one)) in
          here ∙ (ap (λ ps. p ∷ ps) rest ∙ (sym (ap (λ b. p ∷ cond b [] (chain_in t file (next_of file p))) more) ∙ sym (turn_is t file p)))
    ]

some_room : (image : List ℕ) → IsForest image → 0 < (file_of image).count
some_room image forest = omega (arith, last_page image, formed_last image (head_of image) forest.formed, counted image)

all_turns : (image : List ℕ) (p : ℕ) → IsForest image → p ≤ (file_of image).last → is_hash_page (file_of image) p ≡ true
    → chain_in (suc (file_of image).count) (file_of image) p ≡ chain (file_of image) p
all_turns image p forest low is =
    let file : File = file_of image in
    let room : file.last < file.count = omega (arith, last_page image, formed_last image (head_of image) forest.formed, counted image) in
    enough file.count file p (omega (arith, row_few file.count image p forest low is))

-- a row is its first page, and the row from the next page on
row_is : (image : List ℕ) (p : ℕ) → IsForest image → p ≤ (file_of image).last → is_hash_page (file_of image) p ≡ true
    → chain (file_of image) p ≡ p ∷ cond (next_of (file_of image) p == 0) [] (chain (file_of image) (next_of (file_of image) p))
row_is image p forest low is =
    let file : File = file_of image in
    sym (all_turns image p forest low is) ∙ turn_is file.count file p

-- Sums.

abbrev as_bucket : (ℕ → ℕ) → Sort → ℕ → ℕ
as_bucket f sort target = cond (is_bucket sort) (f target) 0

abbrev as_next : (ℕ → ℕ) → Sort → ℕ → ℕ
as_next f HashNext target = f target
as_next f sort target = 0

abbrev next_part : (ℕ → ℕ) → (Sort × ℕ) → ℕ
next_part f name = as_next f name.0 name.1

as_parts : (f : ℕ → ℕ) (sort : Sort) (target : ℕ) → (leads_in sort ≡ false → f target ≡ 0) → f target
    ≡ as_next f sort target + as_bucket f sort target
as_parts f HashNext target none = omega arith
as_parts f Bucket target none = omega arith
as_parts f sort target none = omega (arith, none refl)

named_parts : (image : List ℕ) (weight : ℕ → ℕ) (p : ℕ) (r : Reference) → IsForest image → p ≤ (file_of image).last
    → Contains (refs (file_of image) p) r
    → whole (file_of image) weight r.target ≡ as_next (whole (file_of image) weight) r.sort r.target + as_bucket
    (whole (file_of image) weight) r.sort r.target
named_parts image weight p r forest low at =
    let file : File = file_of image in
    as_parts (whole file weight) r.sort r.target (λ other.
    ap (λ b. cond b (sum_by weight (chain file r.target)) 0)
    (names_other file p r (each_fits file p r (sound_graph image forest.linked).references low at) other))

-- Of the names of a page only a hash page's next page counts.

-- what follows a page by the references of buckets
abbrev following : (ℕ → ℕ) → Page → ℕ
following f (Hash page) = cond (page.header.next == 0) 0 (f page.header.next)
following f page = 0

of_next : (f : ℕ → ℕ) → OfStructure (as_next f)
of_next f = record { free = λ t. refl; head = λ t. refl; chained = λ t. refl; set = λ t. refl }

next_weight : (f : ℕ → ℕ) (page : Page) → named_weight (as_next f) page ≡ following f page
next_weight f (Meta (BtreeFields meta)) = refl
next_weight f (Meta (HashFields meta)) = sum_none (λ (b : ℕ). 0) (range_with_len 0 (meta.max_bucket + 1)) (λ b at. refl)
next_weight f (Meta (QueueFields meta)) = refl
next_weight f (Internal page) = sum_none (λ (item : InternalItem). 0) page.items (λ item at. refl)
next_weight f (RecnoInternal page) = sum_none (λ (item : RecnoItem). 0) page.items (λ item at. refl)
next_weight f page = refl

next_sum : (f : ℕ → ℕ) (p : ℕ) (page : Page) → sum_by (next_part f) (targets_in p page) ≡ following f page
next_sum f p page = named_sum (as_next f) p page (of_next f) ∙ next_weight f page

-- A page with the items of a hash page has its type.

abbrev NotHash : PageType → Type 0
NotHash t = (order : Order) (page : List ℕ) (listed : Listed Item) → page_as order page t ≡ Hash listed → ⊥

kept : (b : Bool) (x y : PageType) → NotHash x → NotHash y → NotHash (cond b x y)
kept true x y p q = p
kept false x y p q = q

other_byte : (byte : ℕ) → (byte == 2) ≡ false → (byte == 13) ≡ false → NotHash (page_type byte)
other_byte byte two thirteen =
    rw (two, thirteen) (
    kept (byte == 0) _ _ (λ o p l e. cc) (
    kept (byte == 3) _ _ (λ o p l e. cc) (
    kept (byte == 4) _ _ (λ o p l e. cc) (
    kept (byte == 5) _ _ (λ o p l e. cc) (
    kept (byte == 6) _ _ (λ o p l e. cc) (
    kept (byte == 7) _ _ (λ o p l e. cc) (
    kept (byte == 8) _ _ (λ o p l e. cc) (
    kept (byte == 9) _ _ (λ o p l e. cc) (
    kept (byte == 10) _ _ (λ o p l e. cc) (
    kept (byte == 11) _ _ (λ o p l e. cc) (
    kept (byte == 12) _ _ (λ o p l e. cc) (λ o p l e. cc))))))))))))

typed_hash : (order : Order) (page : List ℕ) (t : PageType) (is : Listed Item) → page_as order page t ≡ Hash is → t ≡ HashPage → is.header.page_type
    ≡ byte_at page 25
unfolding listed
typed_hash order page t is same hash =
    let here : Hash (listed order page (hash_item_at order page)) ≡ Hash is = sym (ap (page_as order page) hash) ∙ same in
    let inner : listed order page (hash_item_at order page) ≡ is = cc in
    ap (λ (l : Listed Item). l.header.page_type) (sym inner)

type_of_byte : (order : Order) (page : List ℕ) (is : Listed Item) → page_as order page (page_type (byte_at page 25)) ≡ Hash is
    → has_type (2 ∷ 13 ∷ []) (Some is.header.page_type) ≡ true
type_of_byte order page is same =
    let byte : ℕ = byte_at page 25 in
    elim (cases_Bool (byte == 2)) [
      | inl two ↦
          let same_two : byte ≡ 2 = eqb-true byte 2 two in
          let type : is.header.page_type ≡ byte = typed_hash order page (page_type byte) is same (ap page_type same_two) in
          ap (λ n. has_type (2 ∷ 13 ∷ []) (Some n)) (type ∙ same_two)
      | inr other ↦ elim (cases_Bool (byte == 13)) [
        | inl thirteen ↦
            let same_thirteen : byte ≡ 13 = eqb-true byte 13 thirteen in
            let type : is.header.page_type ≡ byte = typed_hash order page (page_type byte) is same (ap page_type same_thirteen) in
            ap (λ n. has_type (2 ∷ 13 ∷ []) (Some n)) (type ∙ same_thirteen)
        | inr none ↦ absurd (other_byte byte other none order page is same)
      ]
    ]

abstract_hash : (order : Order) (page : List ℕ) (is : Listed Item) → abstract_page order page ≡ Hash is
    → has_type (2 ∷ 13 ∷ []) (Some is.header.page_type) ≡ true
unfolding abstract_page
abstract_hash order page is same =
    elim (is_zero page) as (λ zeros. ◌≡◌ {A = Page} (elim zeros [ true ↦ Zero | false ↦ page_as order page (page_type (byte_at page 25)) ])
    (Hash is) → has_type (2 ∷ 13 ∷ []) (Some is.header.page_type) ≡ true) [
      | true ↦ λ none. absurd cc
      | false ↦ λ some. type_of_byte order page is some
    ] same

pub hash_type : (image : List ℕ) (p : ℕ) (is : Listed Item) → IsForest image → p ≤ (file_of image).last → page_at (file_of image) p ≡ Hash is
    → is_hash_page (file_of image) p ≡ true
hash_type image p is forest low same =
    let head = head_of image in
    let abstract : abstract_page head.order (page_bytes head image p) ≡ Hash is =
    sym (page_is image p (omega (arith, low, last_page image))) ∙ same in
    ap (λ (page : Page). has_type (2 ∷ 13 ∷ []) (type_in page)) same ∙ abstract_hash head.order (page_bytes head image p) is abstract

-- Sums, page by page.

no_following : (f : ℕ → ℕ) (page : Page) → (is_queue_page page ≡ false → ⊥) → following f page ≡ 0
no_following f (Hash page) no' = absurd (no' refl)
no_following f page no' = refl

no_hash_no_following : (f : ℕ → ℕ) (page : Page) → ((listed : Listed Item) → page ≡ Hash listed → ⊥) → following f page ≡ 0
no_hash_no_following f (Hash page) no' = absurd (no' page refl)
no_hash_no_following f page no' = refl

hash_following : (f : ℕ → ℕ) (page : Page) (listed : Listed Item) → page ≡ Hash listed → following f page
    ≡ cond ((header_in page).next == 0) 0 (f (header_in page).next)
hash_following f page listed is =
    subst (λ (page : Page). following f page ≡ cond ((header_in page).next == 0) 0 (f (header_in page).next)) (sym is) refl

next_names : (f : ℕ → ℕ) (kind : FileKind) (p : ℕ) (page : Page) → (kind ≡ QueueFile → following f page ≡ 0)
    → sum_by (next_part f) (targets_of kind p page) ≡ following f page
next_names f Btree p page none = next_sum f p page
next_names f HashFile p page none = next_sum f p page
next_names f QueueFile p page none = sym (none refl)

named_next : (image : List ℕ) (f : ℕ → ℕ) (p : ℕ) → IsForest image → p ≤ (file_of image).last
    → sum_by (λ (r : Reference). as_next f r.sort r.target) (refs (file_of image) p) ≡ following f (page_at (file_of image) p)
named_next image f p forest low =
    let file : File = file_of image in
    sum_refs (as_next f) file p
    ∙ next_names f file.kind p (page_at file p)
    (λ queue. no_following f (page_at file p) (λ is. no_queue image (head_of image) p forest.formed low is queue))

added : (a b c : ℕ) → a ≡ 0 → b ≡ 0 → c ≡ 0 → a + b ≡ c
added a b c p q r = omega arith

turned : (a b c d : ℕ) → a ≡ c → d ≡ b + c → a + b ≡ d
turned a b c d p q = omega arith

rest_sum : (image : List ℕ) (weight : ℕ → ℕ) (p : ℕ) → IsForest image → p ≤ (file_of image).last → is_hash_page (file_of image) p ≡ true
    → (b : Bool) → (next_of (file_of image) p == 0) ≡ b
    → cond (next_of (file_of image) p == 0) 0 (whole (file_of image) weight (next_of (file_of image) p)) ≡ sum_by weight
    (cond (next_of (file_of image) p == 0) [] (chain (file_of image) (next_of (file_of image) p)))
rest_sum image weight p forest low is true last =
    let file : File = file_of image in
    ap (λ b. cond b 0 (whole file weight (next_of file p))) last ∙ sym (ap (λ b. sum_by weight (cond b [] (chain file (next_of file p)))) last)
rest_sum image weight p forest low is false more =
    let file : File = file_of image in
    let next : IsNext file p (next_of file p) = next_is image p forest low is more in
    ap (λ b. cond b 0 (whole file weight (next_of file p))) more
    ∙ (ap (λ b. cond b (sum_by weight (chain file (next_of file p))) 0) next.kind
    ∙ sym (ap (λ b. sum_by weight (cond b [] (chain file (next_of file p)))) more))

-- the whole of a hash page is its own part and what follows it
hash_whole : (image : List ℕ) (weight : ℕ → ℕ) (p : ℕ) → IsForest image → WeighsHash (file_of image) weight → p ≤ (file_of image).last
    → sum_by (λ (r : Reference). as_next (whole (file_of image) weight) r.sort r.target) (refs (file_of image) p) + weight p ≡ whole
    (file_of image) weight p
hash_whole image weight p forest weighs low =
    let file : File = file_of image in
    let f : ℕ → ℕ = whole file weight in
    let named = named_next image f p forest low in
    elim (cases_Bool (is_hash_page file p)) [
      | inr other ↦
          added _ _ _
          (named ∙ no_hash_no_following f (page_at file p) (λ listed is. true≢false (sym (hash_type image p listed forest low is) ∙ other)))
          (weighs.other p other)
          (ap (λ b. cond b (sum_by weight (chain file p)) 0) other)
      | inl is ↦
          let page = hash_is (page_at file p) is in
          let all : f p ≡ sum_by weight (chain file p) = ap (λ b. cond b (sum_by weight (chain file p)) 0) is in
          let row : chain file p ≡ p ∷ cond (next_of file p == 0) [] (chain file (next_of file p)) = row_is image p forest low is in
          let parts : f p ≡ weight p + sum_by weight (cond (next_of file p == 0) [] (chain file (next_of file p))) =
          all ∙ (ap (sum_by weight) row ∙ sum_by-cons weight p (cond (next_of file p == 0) [] (chain file (next_of file p)))) in
          turned _ _ _ _ (named
          ∙ (hash_following f (page_at file p) page.0 page.1 ∙ rest_sum image weight p forest low is (next_of file p == 0) refl)) parts
    ]

hash_no_meta : (page : Page) (is : Listed Item) → page ≡ Hash is → (is_queue_page page ≡ false) × (is_meta page ≡ false)
hash_no_meta page is same = (ap is_queue_page same, ap is_meta same)

spare_next : (page : Page) (is : Listed Item) → page ≡ Hash is → is_spare page ≡ true → ((header_in page).next == 0) ≡ true
spare_next page is same spare =
    subst (λ (page : Page). is_spare page ≡ true → ((header_in page).next == 0) ≡ true) (sym same)
    (λ s. (and_parts (is.header.entries == 0 && is.header.previous == 0) (is.header.next == 0) s).1) spare

head_leads_out : (sort : Sort) → is_head_reference sort ≡ true → leads_in sort ≡ false
head_leads_out OverflowHead is = refl
head_leads_out sort is = absurd cc

once_or_none : (image : List ℕ) (weight : ℕ → ℕ) (p : ℕ) → IsForest image → WeighsHash (file_of image) weight → p ≤ (file_of image).last
    → (whole (file_of image) weight p ≡ 0) ⊎ (length (owners (file_of image) p) ≡ 1)
unfolding is_anchor
once_or_none image weight zero forest weighs low =
    inl (ap (λ b. cond b (sum_by weight (chain (file_of image) 0)) 0)
    (page_zero_type image (2 ∷ 13 ∷ []) forest (record { tree = refl; table = refl; queue = refl; none = refl })))
once_or_none image weight (suc p') forest weighs low =
    let file : File = file_of image in
    let p : ℕ = suc p' in
    let sound = sound_graph image forest.linked in
    let one : OneRole file p = (each_page_has_one_role file).0 sound.ownership sound.reach p (omega arith) low in
    elim (cases_Bool (is_hash_page file p)) [
      | inr other ↦ inl (ap (λ b. cond b (sum_by weight (chain file p)) 0) other)
      | inl is ↦
          let page = hash_is (page_at file p) is in
          let no_meta = hash_no_meta (page_at file p) page.0 page.1 in
          elim one.role [
            | inl anchor ↦ absurd
                (no_anchor file.kind (page_at file p) (no_queue image (head_of image) p forest.formed low no_meta.0) no_meta.1 anchor)
            | inr (inl reserve) ↦
                let spare : is_spare (page_at file p) ≡ true = (reserve_is file p reserve).spare in
                let last : (next_of file p == 0) ≡ true = spare_next (page_at file p) page.0 page.1 spare in
                inl (ap (λ b. cond b (sum_by weight (chain file p)) 0) is
                ∙ (ap (sum_by weight) (row_is image p forest low is ∙ ap (λ b. p ∷ cond b [] (chain file (next_of file p))) last)
                ∙ alone (weight p) (weighs.spare p spare)))
            | inr (inr (inl once)) ↦ inr once.0
            | inr (inr (inr shared)) ↦
                let some : (owner : Owner) × Contains (owners file p) owner = some_member (owners file p) shared.1 in
                let owner : Owner = some.0 in
                let head : is_head_reference owner.reference.sort ≡ true =
                all_pass (λ (o : Owner). is_head_reference o.reference.sort) (owners file p) owner shared.0 some.1 in
                let names : owner.reference.target ≡ p = (is_owner file p owner some.1).names in
                let other : is_hash_page file owner.reference.target ≡ false =
                names_other file owner.holder owner.reference (owner_fits file p owner sound.references some.1)
                (head_leads_out owner.reference.sort head) in
                absurd (true≢false (sym is ∙ (ap (is_hash_page file) (sym names) ∙ other)))
          ]
    ]
  where
    alone : (n : ℕ) → n ≡ 0 → 0 + n ≡ 0
    alone n none = omega arith

split_sum : (image : List ℕ) (weight : ℕ → ℕ) (q : ℕ) → IsForest image → WeighsHash (file_of image) weight → q ≤ (file_of image).last
    → sum_by (whole (file_of image) weight) (targets (file_of image) q) + weight q
    ≡ whole (file_of image) weight q + sum_by (λ (r : Reference). as_bucket (whole (file_of image) weight) r.sort r.target) (refs (file_of image) q)
split_sum image weight q forest weighs low =
    let file : File = file_of image in
    let f : ℕ → ℕ = whole file weight in
    let held : List Reference = refs file q in
    let all : sum_by f (targets file q) ≡ sum_by (λ (r : Reference). f r.target) held = sum_map f (λ (r : Reference). r.target) held in
    let each = sum_same (λ (r : Reference). f r.target) (λ (r : Reference). as_next f r.sort r.target + as_bucket f r.sort r.target) held
    (λ r at. named_parts image weight q r forest low at) in
    let two = sum_plus (λ (r : Reference). as_next f r.sort r.target) (λ (r : Reference). as_bucket f r.sort r.target) held in
    joined _ _ _ _ _ (all ∙ (each ∙ two)) (hash_whole image weight q forest weighs low)
  where
    joined : (all inner bucket own whole : ℕ) → all ≡ inner + bucket → inner + own ≡ whole → all + own ≡ whole + bucket
    joined all inner bucket own whole p r = omega arith

parts : (image : List ℕ) (weight : ℕ → ℕ) → IsForest image → WeighsHash (file_of image) weight
    → AreParts ((file_of image).last + 1) (targets (file_of image)) (whole (file_of image) weight) weight
    (λ q. sum_by (λ (r : Reference). as_bucket (whole (file_of image) weight) r.sort r.target) (refs (file_of image) q))
parts image weight forest weighs =
    let file : File = file_of image in
    let sound = sound_graph image forest.linked in
    record {
      below = λ q x low at.
          let held : (r : Reference) × Contains (refs file q) r × (r.target ≡ x) = of_map (λ (r : Reference). r.target) (refs file q) x at in
          let inside : held.0.target ≤ file.last =
          target_inside file q held.0 (each_fits file q held.0 sound.references (less q file.last low) held.1) in
          within x held.0.target file.last held.2 inside;
      once = λ q low.
          elim (once_or_none image weight q forest weighs (less q file.last low)) [
            | inl none ↦ inl none
            | inr one ↦ inr
                (named_as_owned file q ∙ one)
          ];
      splits = λ q low. split_sum image weight q forest weighs (less q file.last low);
    }
  where
    less : (q last : ℕ) → q < last + 1 → q ≤ last
    less q last low = omega arith

    within : (x t last : ℕ) → t ≡ x → t ≤ last → x < last + 1
    within x t last same inside = omega arith

-- The first page of a bucket that is a zero page.

is_zero_next : (page : Page) → is_zero_page page ≡ true → ((header_in page).next == 0) ≡ true
is_zero_next Zero is = refl
is_zero_next page is = absurd cc

one_page : (turns : ℕ) (file : File) (p : ℕ) → 0 < turns → (next_of file p == 0) ≡ true → chain_in turns file p ≡ p ∷ []
one_page zero file p some last = absurd (omega arith)
one_page (suc t) file p some last = turn_is t file p ∙ ap (λ b. p ∷ cond b [] (chain_in t file (next_of file p))) last

bucket_kind : (file : File) (p : ℕ) (r : Reference) → fit_code file p r ≡ None → is_bucket r.sort ≡ true
    → (is_hash_page file r.target ≡ true) ⊎ (is_zero_page (page_at file r.target) ≡ true)
unfolding fit_code
bucket_kind file p r fits is =
    let asked : Asked = asked_by p (page_at file p) r.sort in
    let fail : AllFail (fit_rows file asked r.target) = none_is_first_row (fit_rows file asked r.target) fits in
    elim (passed_by (has_type asked.types (type_in (page_at file r.target))) asked.or_zero (is_zero_page (page_at file r.target)) fail.1.0) [
      | inl has ↦ inl (subst (λ types. has_type types (type_in (page_at file r.target)) ≡ true) (bucket_types p (page_at file p) r.sort is) has)
      | inr zeros ↦ inr zeros
    ]
  where
    bucket_types : (holder : ℕ) (page : Page) (sort : Sort) → is_bucket sort ≡ true → (asked_by holder page sort).types ≡ 2 ∷ 13 ∷ []
    bucket_types holder page Bucket is = refl
    bucket_types holder page sort is = absurd cc

row_below : (image : List ℕ) (weight : ℕ → ℕ) (owner : Owner) → IsForest image → WeighsHash (file_of image) weight
    → Contains (all_references (file_of image)) owner → is_bucket owner.reference.sort ≡ true
    → whole (file_of image) weight owner.reference.target ≡ sum_by weight (chain (file_of image) owner.reference.target)
row_below image weight owner forest weighs at is =
    let file : File = file_of image in
    let held = of_all file owner at in
    let target : ℕ = owner.reference.target in
    let room : 0 < file.count = some_room image forest in
    elim (cases_Bool (is_hash_page file target)) [
      | inl hash ↦ ap (λ b. cond b (sum_by weight (chain file target)) 0) hash
      | inr other ↦
          let zeros : is_zero_page (page_at file target) ≡ true =
          elim (bucket_kind file owner.holder owner.reference
          (each_fits file owner.holder owner.reference (sound_graph image forest.linked).references held.0 held.1) is) [
            | inl hash ↦ absurd (true≢false (sym hash ∙ other))
            | inr zeros ↦ zeros
          ] in
          ap (λ b. cond b (sum_by weight (chain file target)) 0) other
          ∙ sym (ap (sum_by weight) (one_page file.count file target room (is_zero_next (page_at file target) zeros))
          ∙ alone (weight target) (weighs.other target other))
    ]
  where
    alone : (n : ℕ) → n ≡ 0 → 0 + n ≡ 0
    alone n none = omega arith

pub hash_pages_are_of_buckets : HashPagesAreOfBuckets
unfolding all_references
hash_pages_are_of_buckets image weight forest weighs =
    let file : File = file_of image in
    let f : ℕ → ℕ = whole file weight in
    let g : Owner → ℕ = λ (owner : Owner). as_bucket f owner.reference.sort owner.reference.target in
    let below : Owner → ℕ = λ (owner : Owner). sum_by weight (chain file owner.reference.target) in
    let test : Owner → Bool = λ (owner : Owner). is_bucket owner.reference.sort in
    let entrances : ℕ → ℕ = λ q. sum_by (λ (r : Reference). as_bucket f r.sort r.target) (refs file q) in
    let counted : sum_by weight (pages file) ≡ sum_by entrances (pages file) =
    parts_are_entrances (file.last + 1) (targets file) f weight entrances (parts image weight forest weighs) in
    let held : sum_by entrances (pages file) ≡ sum_by (λ q. sum_by g (held_by file q)) (pages file) =
    sum_same entrances (λ q. sum_by g (held_by file q)) (pages file)
    (λ q at. sym (sum_map g (λ r. record { holder = q; reference = r }) (refs file q))) in
    let all : sum_by (λ q. sum_by g (held_by file q)) (pages file) ≡ sum_by g (all_references file) = sym (sum_parts g (held_by file) (pages file)) in
    let rows : sum_by g (all_references file) ≡ sum_by (λ owner. cond (test owner) (below owner) 0) (all_references file) =
    sum_same g (λ owner. cond (test owner) (below owner) 0) (all_references file) (λ owner at.
    elim (cases_Bool (test owner)) [
      | inr other ↦ ap (λ b. cond b (f owner.reference.target) 0) other ∙ sym (ap (λ b. cond b (below owner) 0) other)
      | inl is ↦
          let one : f owner.reference.target ≡ below owner = row_below image weight owner forest weighs at is in
          ap (λ b. cond b (f owner.reference.target) 0) is ∙ (one ∙ sym (ap (λ b. cond b (below owner) 0) is))
    ]) in
    counted ∙ (held ∙ (all ∙ (rows ∙ sym (sum_filter below test (all_references file)))))

-- The pages of a bucket.

in_row : (file : File) (xs : List ℕ) (q : ℕ) → AllHash file xs → Contains xs q → is_hash_page file q ≡ true
in_row file [] q all at = absurd (no_member [] q refl at)
in_row file (x ∷ xs) q all at =
    elim (member_cases x xs q at) [ inl same ↦ subst (λ p. is_hash_page file p ≡ true) same all.0 | inr later ↦ in_row file xs q all.1 later ]

row_pages : (image : List ℕ) (p q : ℕ) → IsForest image → p ≤ (file_of image).last → is_hash_page (file_of image) p ≡ true
    → Contains (chain (file_of image) p) q → is_hash_page (file_of image) q ≡ true
row_pages image p q forest low is at =
    let file : File = file_of image in
    let row : IsRow file.count file p = row_of file.count image p forest low is in
    let same : chain file p ≡ p ∷ row.after = sym (all_turns image p forest low is) ∙ row.is in
    in_row file (p ∷ row.after) q (is, row.kinds) (subst (λ ps. Contains ps q) same at)

-- each is a hash page, or the bucket is a zero page
pub bucket_page_is : (image : List ℕ) (owner : Owner) (q : ℕ) → IsForest image → Contains (all_references (file_of image)) owner
    → is_bucket owner.reference.sort ≡ true
    → Contains (chain (file_of image) owner.reference.target) q
    → (is_hash_page (file_of image) q ≡ true) ⊎ (is_zero_page (page_at (file_of image) q) ≡ true)
bucket_page_is image owner q forest held is at =
    let file : File = file_of image in
    let p : ℕ = owner.reference.target in
    let there = of_all file owner held in
    let fits : fit_code file owner.holder owner.reference ≡ None =
    each_fits file owner.holder owner.reference (sound_graph image forest.linked).references there.0 there.1 in
    elim (bucket_kind file owner.holder owner.reference fits is) [
      | inl hash ↦ inl (row_pages image p q forest (target_inside file owner.holder owner.reference fits) hash at)
      | inr zeros ↦
          let alone : chain file p ≡ p ∷ [] = one_page file.count file p (some_room image forest) (is_zero_next (page_at file p) zeros) in
          let same : p ≡ q = only_member p q (subst (λ ps. Contains ps q) alone at) in
          inr (subst (λ n. is_zero_page (page_at file n) ≡ true) same zeros)
    ]
