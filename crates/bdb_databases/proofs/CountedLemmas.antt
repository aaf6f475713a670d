-- A file that can be read has no more databases than pages.
use Rattle.std.proofs.Common.{◌≡◌, ℕ, ◌+◌, ◌<◌, ◌≤◌, true, false, eqb, List, [], ◌∷◌, length, map, Option, Some, None, arith, refl, sym, ◌∙◌, ap, length-append}
use Rattle.std.proofs.Common.{inl, inr, nat_lt, unwrap_or}
use Rattle.std.specs.List.{AllByRecursion, Contains, IsDistinct, flat_map, list_any}
use Rattle.std.proofs.lemmas.Bool.{and_parts, cases_Bool, eq-eqb, eqb-true, false_from_ne_true}
use Rattle.std.proofs.lemmas.List.{length-map}
use Rattle.std.proofs.lemmas.Map.Steps.{length-le_from_distinct_below}
use Rattle.bdb_recno.specs.of_format.declared.metadata.BtreeMeta.{BtreeMeta}
use Rattle.bdb_recno.specs.of_format.Terms.{File, Meta, Page, database_on, databases, fields_in, file_of, head_of, is_meta, is_named_kind, is_page}
use Rattle.bdb_recno.specs.of_format.Terms.{master_faults, master_in, page_at}
use Rattle.bdb_recno.proofs.of_format.MemberLemmas.{first_member, in_filter, later_member, no_member, of_map}
use Rattle.bdb_recno.specs.of_image.Linked.{IsForest}
use Rattle.bdb_any_order.specs.AnyOrder.{faults_by_rows}
use Rattle.bdb_master.specs.Entries.{NamedPair, entries_naming, fault_at, master_entries}
use Rattle.bdb_databases.specs.Named.{entry_database}
use Rattle.bdb_any_order.specs.declared.rows.Rows.TheVariants.{AnyOrder}
use Rattle.bdb_any_order.proofs.RowsLemmas.{master_kept}
use Rattle.bdb_recno.proofs.of_format.ListLemmas.{any_member}
use Rattle.bdb_recno.proofs.of_format.FileLemmas.{last_page}
use Rattle.bdb_master.proofs.MasterLemmas.{count_five, in_naming, master_inside}
use Rattle.bdb_recno.proofs.of_tree.ListedLemmas.{at_meta}
use Rattle.bdb_databases.proofs.NamedLemmas.{NamesMeta, all_named, entry_names, kind_inside, one_unnamed, with_name}

-- A page has one database at most.

one_field : (page : Page) → length (fields_in page) ≤ 1
one_field (Meta fields) = omega arith
one_field page = omega arith

one_database : (file : File) (name : Option (List ℕ)) (names : Option ℕ) → length (database_on file name names) ≤ 1
one_database file name None = omega arith
one_database file name (Some p) =
    omega (arith, one_field (page_at file p), length-map (fields_in (page_at file p)) (with_name name))

few_in : (file : File) (entries : List NamedPair) → length (flat_map (entry_database file) entries) ≤ length entries
few_in file [] = omega arith
few_in file (entry ∷ entries) =
    omega (
      arith,
      few_in file entries,
      one_database file (Some entry.key) entry.names,
      length-append (entry_database file entry) (flat_map (entry_database file) entries),
    )

-- Entries that name pages of which each is named once name distinct pages.

abbrev named_number : NamedPair → ℕ
named_number entry = unwrap_or entry.names 0

-- an entry names a page that no other one names
record NamesOnce (entries : List NamedPair) (entry : NamedPair) : Type 0 where
  pub page : ℕ
  pub names_are : entry.names ≡ Some page
  pub once : length (entries_naming page entries) ≤ 1

abbrev NameOnce : List NamedPair → List NamedPair → Type 0
NameOnce all entries = (entry : NamedPair) → Contains entries entry → NamesOnce all entry

naming_rises : (p : ℕ) (entry : NamedPair) (entries : List NamedPair)
    → length (entries_naming p entries) ≤ length (entries_naming p (entry ∷ entries))
naming_rises p entry entries = grind arith

all_from : {X : Type 0} (P : X → Type 0) (xs : List X) → ((x : X) → Contains xs x → P x) → AllByRecursion P xs
all_from P [] holds = tt
all_from P (x ∷ xs) holds = (holds x (first_member x xs), all_from P xs (λ y at. holds y (later_member x xs y at)))

is_named : (entry : NamedPair) (p : ℕ) → entry.names ≡ Some p → is_page entry.names p ≡ true
is_named entry p names = ap (λ n. is_page n p) names ∙ eq-eqb p p refl

-- two entries that name one page are two of those that name it
two_name : (entry other : NamedPair) (entries : List NamedPair) (p : ℕ) → Contains entries other → entry.names ≡ Some p → other.names ≡ Some p
    → 2 ≤ length (entries_naming p (entry ∷ entries))
two_name entry other entries p at here there =
    let kept : Contains (entries_naming p entries) other =
    in_filter (λ (one : NamedPair). is_page one.names p) entries other at (is_named other p there) in
    let some : kept.0 < length (entries_naming p entries) = kept.1 in
    rw (is_named entry p here) (omega arith)

distinct : (entries : List NamedPair) → NameOnce entries entries → IsDistinct eqb (map named_number entries)
unfolding IsDistinct
distinct [] once = tt
distinct (entry ∷ entries) once = (
  all_from (λ n. eqb (named_number entry) n ≡ false) (map named_number entries) apart,
  distinct entries (λ other at. later other (once other (later_member entry entries other at))),
)
  where
    later : (other : NamedPair) → NamesOnce (entry ∷ entries) other → NamesOnce entries other
    later other names =
        let few : length (entries_naming names.page (entry ∷ entries)) ≤ 1 = names.once in
        record { page = names.page; names_are = names.names_are; once = omega (arith, naming_rises names.page entry entries) }

    apart : (n : ℕ) → Contains (map named_number entries) n → eqb (named_number entry) n ≡ false
    apart n at =
        let found = of_map named_number entries n at in
        let other : NamedPair = found.0 in
        let here : NamesOnce (entry ∷ entries) entry = once entry (first_member entry entries) in
        let there : NamesOnce (entry ∷ entries) other = once other (later_member entry entries other found.1) in
        let p : named_number entry ≡ here.page = ap (λ names. unwrap_or names 0) here.names_are in
        let q : named_number other ≡ there.page = ap (λ names. unwrap_or names 0) there.names_are in
        let is : named_number other ≡ n = found.2 in
        false_from_ne_true (eqb (named_number entry) n) (λ same.
        let equal : named_number entry ≡ n = eqb-true (named_number entry) n same in
        let one : there.page ≡ here.page = omega arith in
        let two = two_name entry other entries here.page found.1 here.names_are (there.names_are ∙ ap (λ (k : ℕ). Some k) one) in
        omega (arith, two, here.once))

-- The entries of a master.

-- no page is named twice
named_once : (file : File) (p : ℕ) → master_faults file ≡ [] → p ≤ file.last → is_named_kind file p ≡ true
    → length (entries_naming p (master_entries file)) ≤ 1
named_once file p none low kind =
    let parts = and_parts (nat_lt 0 p) (is_meta (page_at file p)) kind in
    elim (cases_Bool (nat_lt 1 (length (entries_naming p (master_entries file))))) [
      | inl many ↦ absurd (no_member (master_faults file) (fault_at p 5) none
          (in_naming file p (fault_at p 5) (at_meta file p low parts.1)
          (count_five p (length (entries_naming p (master_entries file))) parts.0 many)))
      | inr few ↦ grind (arith, few)
    ]

names_once : (image : List ℕ) → IsForest image → master_faults (file_of image) ≡ []
    → NameOnce (master_entries (file_of image)) (master_entries (file_of image))
names_once image forest none entry at =
    let names : NamesMeta (file_of image) entry = entry_names (file_of image) entry (master_inside image forest) none at in
    record {
      page = names.page;
      names_are = names.names_are;
      once =
          named_once (file_of image) names.page none (kind_inside image names.page names.kind) names.kind;
    }

few_entries : (image : List ℕ) → IsForest image → master_faults (file_of image) ≡ []
    → length (master_entries (file_of image)) ≤ (file_of image).last + 1
few_entries image forest none =
    let entries : List NamedPair = master_entries (file_of image) in
    omega (
      arith,
      length-map entries named_number,
      length-le_from_distinct_below (map named_number entries) ((file_of image).last + 1) (distinct entries (names_once image forest none)) below,
    )
  where
    below : (q : ℕ) → list_any (eqb q) (map named_number (master_entries (file_of image))) ≡ true → q < (file_of image).last + 1
    below q passes =
        let found = any_member (eqb q) (map named_number (master_entries (file_of image))) passes in
        let entry = of_map named_number (master_entries (file_of image)) found.0 found.1 in
        let names : NamesMeta (file_of image) entry.0 = entry_names (file_of image) entry.0 (master_inside image forest) none entry.1 in
        let inside : names.page ≤ (file_of image).last = kind_inside image names.page names.kind in
        let number : named_number entry.0 ≡ names.page = ap (λ n. unwrap_or n 0) names.names_are in
        let is : named_number entry.0 ≡ found.0 = entry.2 in
        let same : q ≡ found.0 = eqb-true q found.0 found.2 in
        omega arith

pub few_databases : (image : List ℕ) → IsForest image → faults_by_rows AnyOrder image ≡ [] → length (databases (file_of image)) ≤ (head_of image).last + 1
few_databases image forest none = step (master_in (page_at (file_of image) 0)) refl
  where
    step : (found : Option BtreeMeta) → master_in (page_at (file_of image) 0) ≡ found → length (databases (file_of image)) ≤ (head_of image).last + 1
    step None is = omega (arith, ap length (one_unnamed (file_of image) (sym is)), one_database (file_of image) None (Some 0))
    step (Some meta) is =
        omega (
          arith,
          ap length (all_named (file_of image) meta (sym is)),
          few_in (file_of image) (master_entries (file_of image)),
          few_entries image forest (master_kept image none),
          last_page image,
        )
