-- Databases put in the order of their names.
use Rattle.std.proofs.Common.{◌≡◌, ℕ, ◌+◌, ◌-◌, ◌≤◌, Bool, true, false, cond, List, [], ◌∷◌, ◌++◌, map, arith, refl, sym, ◌∙◌, ap, append_assoc, true≢false}
use Rattle.std.specs.Prelude.{Option, Some, None, ◌||◌}
use Rattle.std.specs.BTreeMap.{insert_entry, is_at}
use Rattle.std.specs.Cmp.Lexicographic.{slice_cmp, texts_ties}
use Rattle.std.proofs.lemmas.Grind.{flat_map-append}
use Rattle.std.proofs.lemmas.List.{append-nil, map-append}
use Rattle.std.proofs.lemmas.List.Sums.{fold-append}
use Rattle.std.specs.List.{flat_map, fold, list_any, range_with_len}
use Rattle.std.specs.Map.{lookup}
use Rattle.std.specs.Option.{is_some, option_to_list}
use Rattle.std.specs.Ordering.{is_eq, match_ordering, nat_cmp}
use Rattle.std.specs.Str.{bytes_eq}
use Rattle.std.specs.declared.cmp.Ordering.{Ordering}
use Rattle.std.specs.declared.cmp.Ordering.TheVariants.{Less as Before, Equal, Greater}
use Rattle.bdb_rescue.proofs.of_format.LessLemmas.{eq_self, less_not_back}
use Rattle.bdb_rescue.proofs.of_format.ListLemmas.{range_more, range_zero_more}
use Rattle.bdb_rescue.proofs.of_format.MemberLemmas.{first_member, later_member, none_pass, none_passes}
use Rattle.bdb_rescue.specs.of_format.Terms.{BtreeFields, DupLeaf, File, Free, Hash, HashFields, Internal, Leaf, Meta, Metadata, NoType, Overflow, Page}
use Rattle.bdb_rescue.specs.of_format.Terms.{Queue, QueueFields, RecnoInternal, RecnoLeaf, Zero, page_at}
use Rattle.bdb_rescue.specs.of_image.Metas.{meta_in}
use Rattle.bdb_rescue.specs.of_layout.Seen.{OrderingIs}
use Rattle.bdb_rescue.proofs.of_layout.KeyLemmas.{slice_cmp-is}
use Rattle.bdb_apart.specs.Found.{Found, found_on, has_name, is_alone, name_in, named_meta, put_found, tree_fields, with_found}
use Rattle.bdb_apart.specs.Kept.{alone_in, found_seen}
use Rattle.bdb_apart.specs.Names.{entry_found}
use Rattle.bdb_apart.specs.declared.place.At.{At}
use Rattle.bdb_apart.specs.declared.place.Place.{Place}

abbrev Entries : Type 0
Entries = List (List ℕ × At)

-- a database with a new name
put_absent : (entries : Entries) (k : List ℕ) (v : At) → list_any (has_name k) (map entry_found entries) ≡ false
    → map entry_found (insert_entry (slice_cmp nat_cmp) entries k v) ≡ put_found (map entry_found entries) (entry_found (k, v))
put_absent [] k v none = refl
put_absent (e ∷ es) k v none = by_order (slice_cmp nat_cmp k e.0) (slice_cmp-is k e.0) refl (put_absent es k v tail)
  where
    head : bytes_eq k e.0 ≡ false
    head = none_passes (has_name k) (map entry_found (e ∷ es)) (entry_found e) none (first_member (entry_found e) (map entry_found es))

    tail : list_any (has_name k) (map entry_found es) ≡ false
    tail =
        none_pass (has_name k) (map entry_found es)
        (λ x inside. none_passes (has_name k) (map entry_found (e ∷ es)) x none (later_member (entry_found e) (map entry_found es) x inside))

    by_order : (r : Ordering) → OrderingIs r k e.0 → slice_cmp nat_cmp k e.0 ≡ r
        → map entry_found (insert_entry (slice_cmp nat_cmp) es k v) ≡ put_found (map entry_found es) (entry_found (k, v))
        → map entry_found (insert_entry (slice_cmp nat_cmp) (e ∷ es) k v) ≡ put_found (map entry_found (e ∷ es)) (entry_found (k, v))
    by_order Before is so rest =
        ap (λ r. map entry_found (match_ordering r ((k, v) ∷ e ∷ es) ((e.0, v) ∷ es) (e ∷ insert_entry (slice_cmp nat_cmp) es k v))) so
        ∙ sym
        (ap (λ b. cond b (entry_found (k, v) ∷ entry_found e ∷ map entry_found es) (entry_found e ∷ put_found (map entry_found es) (entry_found (k, v)))) is)
    by_order Equal is so rest = absurd (true≢false (sym (eq_self k) ∙ (ap (bytes_eq k) is ∙ head)))
    by_order Greater is so rest =
        ap (λ r. map entry_found (match_ordering r ((k, v) ∷ e ∷ es) ((e.0, v) ∷ es) (e ∷ insert_entry (slice_cmp nat_cmp) es k v))) so
        ∙ (ap (λ dbs. entry_found e ∷ dbs) rest
        ∙ sym (ap (λ b. cond b (entry_found (k, v) ∷ entry_found e ∷ map entry_found es) (entry_found e ∷ put_found (map entry_found es) (entry_found (k, v))))
        (less_not_back e.0 k is)))

-- a name is there
has_entry : (entries : Entries) (k : List ℕ) → is_some (lookup (is_at (slice_cmp nat_cmp k)) entries) ≡ list_any (has_name k) (map entry_found entries)
has_entry [] k = refl
has_entry (e ∷ es) k =
    by_test (is_eq (slice_cmp nat_cmp k e.0)) (is_some (lookup (is_at (slice_cmp nat_cmp k)) es)) refl
    ∙ (ap (λ b. b || is_some (lookup (is_at (slice_cmp nat_cmp k)) es)) (sym (texts_ties k e.0))
    ∙ ap (λ b. bytes_eq k e.0 || b) (has_entry es k))
  where
    by_test : (here rest : Bool) → is_some (lookup (is_at (slice_cmp nat_cmp k)) es) ≡ rest
        → is_some (cond here (Some e.1) (lookup (is_at (slice_cmp nat_cmp k)) es)) ≡ (here || is_some (lookup (is_at (slice_cmp nat_cmp k)) es))
    by_test true rest so = refl
    by_test false rest so = refl

-- a database is put unless one has its name
pub stays : (entries : Entries) (k : List ℕ) (v : At) → is_some (lookup (is_at (slice_cmp nat_cmp k)) entries) ≡ true
    → map entry_found entries ≡ with_found (map entry_found entries) (entry_found (k, v))
stays entries k v there =
    sym (ap (λ b. cond b (map entry_found entries) (put_found (map entry_found entries) (entry_found (k, v)))) (sym (has_entry entries k) ∙ there))

pub is_put : (entries : Entries) (k : List ℕ) (v : At) → is_some (lookup (is_at (slice_cmp nat_cmp k)) entries) ≡ false
    → map entry_found (insert_entry (slice_cmp nat_cmp) entries k v) ≡ with_found (map entry_found entries) (entry_found (k, v))
is_put entries k v none =
    put_absent entries k v (sym (has_entry entries k) ∙ none)
    ∙ sym (ap (λ b. cond b (map entry_found entries) (put_found (map entry_found entries) (entry_found (k, v)))) (sym (has_entry entries k) ∙ none))

-- The databases as a list.

-- one more
pub put_listed : (places now : List Place) (place : Place) (old left : Entries) (all : List Found) (e : List ℕ × At) → old ≡ e ∷ left
    → now ≡ places ++ place ∷ []
    → found_seen place ≡ entry_found e → map found_seen places ++ map entry_found old ≡ all → map found_seen now ++ map entry_found left ≡ all
put_listed places now place old left all e more put is parts =
    ap (λ ps. map found_seen ps ++ map entry_found left) put
    ∙ (ap (λ dbs. dbs ++ map entry_found left) (map-append found_seen places (place ∷ []))
    ∙ (append_assoc (map found_seen places) (found_seen place ∷ []) (map entry_found left)
    ∙ (ap (λ db. map found_seen places ++ db ∷ map entry_found left) is
    ∙ (ap (λ es. map found_seen places ++ map entry_found es) (sym more) ∙ parts))))

-- none is left
pub all_listed : (places : List Place) (left : Entries) (all : List Found) → left ≡ [] → map found_seen places ++ map entry_found left ≡ all
    → map found_seen places ≡ all
all_listed places left all none parts =
    sym (append-nil (map found_seen places)) ∙ (ap (λ es. map found_seen places ++ map entry_found es) (sym none) ∙ parts)

-- Databases of pages, one after the other.

-- those of one page more
pub folded_more : (f : ℕ → List Found) (old now new : List Found) (p : ℕ) → 1 ≤ p → now ≡ fold with_found old (flat_map f (range_with_len 1 (p - 1)))
    → new ≡ fold with_found now (f p) → new ≡ fold with_found old (flat_map f (range_with_len 1 (p + 1 - 1)))
folded_more f old now new p low are is =
    let later : p + 1 - 1 ≡ p - 1 + 1 = omega (arith, low) in
    is
    ∙ (ap (λ dbs. fold with_found dbs (f p)) are
    ∙ (sym (fold-append with_found old before (f p))
    ∙ ap (fold with_found old) (sym (ap (λ n. flat_map f (range_with_len 1 n)) later ∙ more))))
  where
    before : List Found
    before = flat_map f (range_with_len 1 (p - 1))

    this : 1 + (p - 1) ≡ p
    this = omega (arith, low)

    more : flat_map f (range_with_len 1 (p - 1 + 1)) ≡ before ++ f p
    more =
        ap (flat_map f) (range_more 1 (p - 1) ∙ ap (λ q. range_with_len 1 (p - 1) ++ q ∷ []) this)
        ∙ (flat_map-append f (range_with_len 1 (p - 1)) (p ∷ []) ∙ ap (λ dbs. before ++ dbs) (append-nil (f p)))

-- those of all pages
pub folded_all : (f : ℕ → List Found) (old now : List Found) (p count : ℕ) → 1 ≤ p → p - 1 ≡ count - 1
    → now ≡ fold with_found old (flat_map f (range_with_len 1 (p - 1))) → now ≡ fold with_found old (flat_map f (range_with_len 1 (count - 1)))
folded_all f old now p count low all are = are ∙ ap (λ n. fold with_found old (flat_map f (range_with_len 1 n))) all

-- The pages above which others are.

pub above_more : (f : ℕ → Option ℕ) (now new : List (Option ℕ)) (p : ℕ) (at : Option ℕ) → now ≡ map f (range_with_len 0 p) → at ≡ f p → new ≡ now ++ at ∷ []
    → new ≡ map f (range_with_len 0 (p + 1))
above_more f now new p at are is put =
    put
    ∙ (ap (λ xs. xs ++ at ∷ []) are
    ∙ (ap (λ x. map f (range_with_len 0 p) ++ x ∷ []) is
    ∙ sym (ap (map f) (range_zero_more p) ∙ map-append f (range_with_len 0 p) (p ∷ []))))

-- Page 0.

pub alone_is : (page : Page) → alone_in (meta_in page) ≡ is_alone page
alone_is Zero = refl
alone_is (Free header) = refl
alone_is (Meta (BtreeFields meta)) = refl
alone_is (Meta (HashFields meta)) = refl
alone_is (Meta (QueueFields meta)) = refl
alone_is (Hash page) = refl
alone_is (Internal page) = refl
alone_is (RecnoInternal page) = refl
alone_is (Leaf page) = refl
alone_is (RecnoLeaf page) = refl
alone_is (DupLeaf page) = refl
alone_is (Overflow header piece) = refl
alone_is (Queue number records) = refl
alone_is NoType = refl

-- The database of a page.

on_page : (file : File) (name : List ℕ) (p : ℕ) (fields : List Metadata) → tree_fields (page_at file p) ≡ fields
    → found_on file name p ≡ map (λ f. record { name = Some name; meta = p; fields = f }) fields
on_page file name p fields is = ap (map (λ f. record { name = Some name; meta = p; fields = f })) is

pub no_name : (file : File) (names : List (List ℕ × ℕ)) (p : ℕ) → name_in p names ≡ None → named_meta file names p ≡ []
no_name file names p none = ap (λ name. flat_map (λ n. found_on file n p) (option_to_list name)) none

pub no_meta : (file : File) (names : List (List ℕ × ℕ)) (p : ℕ) (name : List ℕ) → name_in p names ≡ Some name → tree_fields (page_at file p) ≡ []
    → named_meta file names p ≡ []
no_meta file names p name some none =
    ap (λ name. flat_map (λ n. found_on file n p) (option_to_list name)) some ∙ ap (λ dbs. dbs ++ []) (on_page file name p [] none)

pub has_meta : (file : File) (names : List (List ℕ × ℕ)) (p : ℕ) (name : List ℕ) (fields : Metadata) → name_in p names ≡ Some name
    → tree_fields (page_at file p) ≡ fields ∷ [] → named_meta file names p ≡ record { name = Some name; meta = p; fields = fields } ∷ []
has_meta file names p name fields some is =
    ap (λ name. flat_map (λ n. found_on file n p) (option_to_list name)) some ∙ ap (λ dbs. dbs ++ []) (on_page file name p (fields ∷ []) is)
