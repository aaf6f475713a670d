-- The databases of a file are on pages that are metadata, and a master names each of them by one entry.
use Rattle.std.proofs.Common.{◌≡◌, ℕ, ◌<◌, ◌≤◌, Bool, true, false, cond, List, [], ◌∷◌, length, map, get_or, Option, Some, None, arith, refl, sym, ◌∙◌, ap}
use Rattle.std.proofs.Common.{subst, inl, inr, Contains, flat_map}
use Rattle.std.specs.Option.{ForSome}
use Rattle.std.proofs.lemmas.Bool.{true≢false, cases_lt}
use Rattle.std.proofs.lemmas.List.Folds.{flat_map-map}
use Rattle.bdb_recno.specs.of_format.declared.metadata.BtreeMeta.{BtreeMeta}
use Rattle.bdb_recno.specs.of_format.declared.kinds.Fault.{Fault}
use Rattle.bdb_recno.specs.of_format.Terms.{Database, File, Meta, Metadata, Page, database_on, databases, databases_under, fields_in, file_of, head_of}
use Rattle.bdb_recno.specs.of_format.Terms.{is_named_kind, master_faults, master_in, master_pairs, page_at}
use Rattle.bdb_recno.proofs.of_format.MemberLemmas.{no_member}
use Rattle.bdb_recno.proofs.of_format.FileLemmas.{last_page}
use Rattle.bdb_recno.specs.of_image.Linked.{IsForest}
use Rattle.bdb_recno.specs.of_image.Metas.{meta_in}
use Rattle.bdb_master.specs.Entries.{NamedPair, fault_at, master_entries, named, target_fault}
use Rattle.bdb_databases.specs.Named.{entry_database}
use Rattle.bdb_master.proofs.MasterLemmas.{AreInside, in_targets, master_inside}
use Rattle.bdb_master.proofs.TargetLemmas.{not_there}

-- A page and the database on it.

some_fields : (page : Page) (fields : Metadata) → Some fields ≡ meta_in page → fields_in page ≡ fields ∷ []
some_fields (Meta other) fields is = let same : other ≡ fields = cc in ap (λ (f : Metadata). f ∷ []) same
some_fields page fields is = absurd cc

no_fields : (page : Page) → None ≡ meta_in page → fields_in page ≡ []
no_fields (Meta other) is = absurd cc
no_fields page is = refl

abbrev pub with_name : Option (List ℕ) → Metadata → Database
with_name name fields = record { name = name; fields = fields }

pub database_there : (file : File) (name : Option (List ℕ)) (p : ℕ) (fields : Metadata) → Some fields ≡ meta_in (page_at file p)
    → database_on file name (Some p) ≡ record { name = name; fields = fields } ∷ []
database_there file name p fields is = ap (map (with_name name)) (some_fields (page_at file p) fields is)

pub no_database_there : (file : File) (name : Option (List ℕ)) (p : ℕ) → None ≡ meta_in (page_at file p) → database_on file name (Some p) ≡ []
no_database_there file name p is = ap (map (with_name name)) (no_fields (page_at file p) is)

pub all_named : (file : File) (meta : BtreeMeta) → Some meta ≡ master_in (page_at file 0)
    → flat_map (entry_database file) (master_entries file) ≡ databases file
unfolding databases
all_named file meta is = flat_map-map (entry_database file) (named file) (master_pairs file) ∙ ap (databases_under file) is

pub one_unnamed : (file : File) → None ≡ master_in (page_at file 0) → database_on file None (Some 0) ≡ databases file
unfolding databases
one_unnamed file is = ap (databases_under file) is

-- Each entry of a master names a metadata page.

pub record NamesMeta (file : File) (entry : NamedPair) : Type 0 where
  pub page : ℕ
  pub names_are : entry.names ≡ Some page
  pub kind : is_named_kind file page ≡ true

pub entry_names : (file : File) (entry : NamedPair) → AreInside file → master_faults file ≡ [] → Contains (master_entries file) entry
    → NamesMeta file entry
entry_names file entry inside none at = step entry.names refl
  where
    refused : (fault : Fault) → target_fault file entry.page entry.names ≡ Some fault → ⊥
    refused fault is = no_member (master_faults file) fault none (in_targets file entry fault inside at is)

    kind_step : (p : ℕ) (b : Bool) → entry.names ≡ Some p → is_named_kind file p ≡ b → NamesMeta file entry
    kind_step p true is kind = record { page = p; names_are = is; kind = kind }
    kind_step p false is kind =
        absurd (refused (fault_at entry.page 3) (ap (target_fault file entry.page) is ∙ ap (λ b. cond b None (Some (fault_at entry.page 3))) kind))

    step : (names : Option ℕ) → entry.names ≡ names → NamesMeta file entry
    step None is = absurd (refused (fault_at entry.page 2) (ap (target_fault file entry.page) is))
    step (Some p) is = kind_step p (is_named_kind file p) is refl

-- a metadata page is up to the last one
pub kind_inside : (image : List ℕ) (p : ℕ) → is_named_kind (file_of image) p ≡ true → p ≤ (file_of image).last
kind_inside image p kind =
    elim (cases_lt (head_of image).last p) [
      | inl past ↦ absurd (true≢false (sym kind ∙ sym (not_there image p past)))
      | inr low ↦ omega (arith, last_page image)
    ]

pub named_inside : (image : List ℕ) (entries : List NamedPair) (i : ℕ) (entry : NamedPair) → IsForest image → master_faults (file_of image) ≡ []
    → entries ≡ master_entries (file_of image)
    → i < length entries → entry ≡ get_or entries i entry → ForSome entry.names (λ page. page ≤ (file_of image).last)
named_inside image entries i entry forest none are below is page named =
    let at : Contains entries entry = (i, below, sym is) in
    let names : NamesMeta (file_of image) entry =
    entry_names (file_of image) entry (master_inside image forest) none (subst (λ es. Contains es entry) are at) in
    let both : Some page ≡ Some names.page = sym named ∙ names.names_are in
    let same : page ≡ names.page = cc in
    let inside : names.page ≤ (file_of image).last = kind_inside image names.page names.kind in
    omega arith
