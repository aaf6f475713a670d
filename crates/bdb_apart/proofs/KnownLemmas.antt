-- The databases that are found beside each other are no queues.
use Rattle.std.proofs.Common.{◌≡◌, ◌⊎◌, ℕ, zero, suc, ◌+◌, ◌<◌, Bool, true, false, cond, List, [], ◌∷◌, ◌++◌, map, length, drop, refl, sym, ◌∙◌, ap, subst}
use Rattle.std.proofs.Common.{inl, inr, arith, add-one}
use Rattle.std.specs.Prelude.{Option, Some, None, codes, decimal, slice_index_or}
use Rattle.std.specs.List.{Contains, fold, list_any}
use Rattle.std.specs.Option.{is_some, option_to_list}
use Rattle.std.proofs.lemmas.List.Elements.{Contains-append_cases}
use Rattle.bdb_rescue.proofs.of_format.ListLemmas.{only_member}
use Rattle.bdb_rescue.proofs.of_format.MemberLemmas.{first_member, in_map, later_member, member_cases, no_member, of_flat_map, of_map}
use Rattle.bdb_rescue.specs.of_format.declared.metadata.QueueMeta.{QueueMeta}
use Rattle.bdb_rescue.specs.of_format.Terms.{BtreeFields, File, HashFields, Meta, Metadata, Page, QueueFields, less, page_at}
use Rattle.bdb_rescue.specs.Kept.{Reading, file_in}
use Rattle.bdb_apart.specs.Found.{Found, entries, found, found_beside, found_on, found_under, has_name, is_alone, name_in, name_of, named_above, named_meta}
use Rattle.bdb_apart.specs.Found.{only_found, pages_above, put_found, tree_fields, unnamed_above, unnamed_meta, with_found}
use Rattle.bdb_apart.specs.Given.{in_image}
use Rattle.bdb_apart.specs.Kept.{IsKnown, found_from, found_of, found_seen}
use Rattle.bdb_apart.specs.Queues.{queue_in}
use Rattle.bdb_apart.specs.declared.place.Place.{Place}

abbrev IsTree : Metadata → Type 0
IsTree fields = (meta : QueueMeta) → fields ≡ QueueFields meta → ⊥

tree_page : (page : Page) (fields : Metadata) → Contains (tree_fields page) fields → IsTree fields
tree_page (Meta (BtreeFields tree)) fields at meta is = let only : BtreeFields tree ≡ fields = only_member (BtreeFields tree) fields at in cc
tree_page (Meta (HashFields table)) fields at meta is = let only : HashFields table ≡ fields = only_member (HashFields table) fields at in cc
tree_page (Meta (QueueFields queue)) fields at meta is = no_member [] fields refl at
tree_page page fields at meta is = no_member [] fields refl at

-- a database is that of its metadata page
abbrev pub StandsOn : File → Found → Type 0
StandsOn file db = Contains (tree_fields (page_at file db.meta)) db.fields

on_page : (file : File) (name : List ℕ) (p : ℕ) (db : Found) → Contains (found_on file name p) db → StandsOn file db
on_page file name p db at =
    let of = of_map (λ fields. record { name = Some name; meta = p; fields = fields }) (tree_fields (page_at file p)) db at in
    subst (StandsOn file) of.2 of.1

of_named : (file : File) (db : Found) → Contains (named_above file) db → StandsOn file db
of_named file db at =
    let page = of_flat_map (named_meta file (entries file)) (pages_above file) db at in
    let name = of_flat_map (λ name. found_on file name page.0) (option_to_list (name_in page.0 (entries file))) db page.2 in
    on_page file name.0 page.0 db name.2

of_unnamed : (file : File) (db : Found) → Contains (unnamed_above file) db → StandsOn file db
of_unnamed file db at =
    let page = of_flat_map (unnamed_meta file (entries file)) (pages_above file) db at in
    by_name page.0 (is_some (name_in page.0 (entries file))) page.2
  where
    by_name : (p : ℕ) (b : Bool) → Contains (cond b [] (found_on file (codes "page " ++ decimal p) p)) db → StandsOn file db
    by_name p true none = absurd (no_member [] db refl none)
    by_name p false there = on_page file (codes "page " ++ decimal p) p db there

-- one of the databases that are put
of_put : (dbs : List Found) (db x : Found) → Contains (put_found dbs db) x → (db ≡ x) ⊎ Contains dbs x
of_put [] db x at = inl (only_member db x at)
of_put (other ∷ others) db x at = by_order (less (name_of db) (name_of other)) at (of_put others db x)
  where
    by_order : (b : Bool) → Contains (cond b (db ∷ other ∷ others) (other ∷ put_found others db)) x → (Contains (put_found others db) x
        → (db ≡ x) ⊎ Contains others x)
        → (db ≡ x) ⊎ Contains (other ∷ others) x
    by_order true here rest = member_cases db (other ∷ others) x here
    by_order false here rest = elim (member_cases other (put_found others db) x here) [
      | inl same ↦ inr (subst (Contains (other ∷ others)) same (first_member other others))
      | inr later ↦ elim (rest later) [
        | inl same ↦ inl same
        | inr old ↦ inr (later_member other others x old)
      ]
    ]

of_with : (dbs : List Found) (db x : Found) → Contains (with_found dbs db) x → (db ≡ x) ⊎ Contains dbs x
of_with dbs db x at = by_name (list_any (has_name (name_of db)) dbs) at
  where
    by_name : (b : Bool) → Contains (cond b dbs (put_found dbs db)) x → (db ≡ x) ⊎ Contains dbs x
    by_name true here = inr here
    by_name false here = of_put dbs db x here

pub of_fold : (dbs more : List Found) (x : Found) → Contains (fold with_found dbs more) x → Contains more x ⊎ Contains dbs x
of_fold dbs [] x at = inr at
of_fold dbs (db ∷ more) x at = elim (of_fold (with_found dbs db) more x at) [
  | inl later ↦ inl (later_member db more x later)
  | inr here ↦ elim (of_with dbs db x here) [
    | inl same ↦ inl (subst (Contains (db ∷ more)) same (first_member db more))
    | inr old ↦ inr old
  ]
]

of_under : (file : File) (db : Found) → Contains (found_under file (page_at file 0)) db → StandsOn file db
of_under file db at = by_one (is_alone (page_at file 0)) at
  where
    by_one : (b : Bool) → Contains (cond b (map only_found (tree_fields (page_at file 0))) (fold with_found [] (named_above file ++ unnamed_above file))) db
        → StandsOn file db
    by_one true here = let of = of_map only_found (tree_fields (page_at file 0)) db here in subst (StandsOn file) of.2 of.1
    by_one false here = elim (of_fold [] (named_above file ++ unnamed_above file) db here) [
      | inl put ↦ elim (Contains-append_cases (named_above file) (unnamed_above file) db put) [
        | inl named ↦ of_named file db named
        | inr unnamed ↦ of_unnamed file db unnamed
      ]
      | inr none ↦ absurd (no_member [] db refl none)
    ]

-- a database that is found is a queue by the metadata on page 0, or stands on its metadata page
pub record IsQueueOn (reading : Reading) (db : Found) : Type 0 where
  pub meta : QueueMeta
  pub queue : queue_in reading ≡ Some meta
  pub same : only_found (QueueFields meta) ≡ db

pub stands : (reading : Reading) (db : Found) → Contains (found reading) db → IsQueueOn reading db ⊎ StandsOn (file_in reading) db
unfolding found
stands reading db at = by_queue (queue_in reading) refl at
  where
    by_queue : (queue : Option QueueMeta) → queue_in reading ≡ queue → Contains (found_beside (file_in reading) queue) db
        → IsQueueOn reading db ⊎ StandsOn (file_in reading) db
    by_queue None is here = inr (of_under (file_in reading) db here)
    by_queue (Some queue) is here = inl (record { meta = queue; queue = is; same = only_member (only_found (QueueFields queue)) db here })

-- a queue is found only by the metadata on page 0
pub known : (reading : Reading) (db : Found) → Contains (found reading) db → IsKnown reading db
known reading db at meta is = elim (stands reading db at) [
  | inl queue ↦
      let fields : QueueFields queue.meta ≡ QueueFields meta = ap (λ (db : Found). db.fields) queue.same ∙ is in
      let same : queue.meta ≡ meta = cc in
      queue.queue ∙ ap Some same
  | inr there ↦ absurd (tree_page (page_at (file_in reading) db.meta) db.fields there meta is)
]

-- the database at a place is one that is found
pub known_at : (reading : Reading) (places : List Place) (at : ℕ) (place : Place) → map found_seen places ≡ found reading → at < length places
    → place ≡ slice_index_or places at place → IsKnown reading (found_seen place)
known_at reading places at place same there is =
    known reading (found_seen place) (subst (λ dbs. Contains dbs (found_seen place)) same (in_map found_seen places place (at, there, sym is)))

pub next_found : (reading : Reading) (places : List Place) (at : ℕ) (place : Place) → map found_seen places ≡ found reading → at < length places
    → place ≡ slice_index_or places at place → found_from reading at ≡ found_of reading place ∷ found_from reading (at + 1)
next_found reading places at place same there is =
    rw add-one
    (subst (λ dbs. map (in_image reading) (drop at dbs) ≡ found_of reading place ∷ map (in_image reading) (drop (suc at) dbs))
    same (from_place places at there is))
  where
    from_place : (places : List Place) (at : ℕ) → at < length places → place ≡ slice_index_or places at place
        → map (in_image reading) (drop at (map found_seen places)) ≡ found_of reading place ∷ map (in_image reading) (drop (suc at) (map found_seen places))
    from_place [] at there is = absurd (omega (arith, there))
    from_place (other ∷ others) zero there is = ap (λ p. found_of reading p ∷ map (in_image reading) (map found_seen others)) (sym is)
    from_place (other ∷ others) (suc at) there is = from_place others at (omega (arith, there)) is
