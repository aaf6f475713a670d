-- Stages 6 and 8 of joined parts, and stages 1 and 2 of their image.
use Rattle.std.proofs.Common.{◌≡◌, ℕ, zero, suc, ◌+◌, ◌<◌, ◌≤◌, Bool, true, false, ◌&&◌, List, [], ◌∷◌, map, None, arith, refl, sym, ◌∙◌, ap, subst, inl, inr}
use Rattle.std.proofs.Common.{true≢false, ◌==◌, option_to_list}
use Rattle.std.specs.List.{Contains, filter, list_any, range_with_len}
use Rattle.std.proofs.lemmas.Bool.{and_right, or_parts, or_from}
use Rattle.bdb_graph.specs.of_format.declared.metadata.Head.{Head}
use Rattle.bdb_graph.specs.of_format.declared.references.Reference.{Reference}
use Rattle.bdb_graph.specs.of_format.declared.references.Sort.TheVariants.{Root}
use Rattle.bdb_graph.specs.of_format.Terms.{BtreeFields, File, HashFields, LeafPlace, Meta, Metadata, Owner, Page, QueueFields, Row, abstract_page}
use Rattle.bdb_graph.specs.of_format.Terms.{all_references, by_page, chains_in, contents_faults, contents_rows, database_rows, fields_in, fields_of, file_of}
use Rattle.bdb_graph.specs.of_format.Terms.{first_row, form_code, form_faults, head_faults, head_of, head_rows, held_by, holds_code, holds_somewhere, is_meta}
use Rattle.bdb_graph.specs.of_format.Terms.{is_root_reference, is_wrong_leaf, is_wrong_length, is_wrong_link, leaf_places, leaves, page_at, page_bytes}
use Rattle.bdb_graph.specs.of_format.Terms.{places_from, refs, root_references, structure_faults, structure_rows, tail_faults, ◌:?◌}
use Rattle.bdb_graph.specs.of_format.Verdict.{holding}
use Rattle.bdb_graph.proofs.of_format.ListLemmas.{only_member}
use Rattle.bdb_graph.proofs.of_format.MemberLemmas.{no_member, none_passes, none_pass, of_map, of_flat_map, of_filter, of_range}
use Rattle.bdb_graph.proofs.of_format.VerdictLemmas.{AllFail, all_fail, no_faults, none_holds}
use Rattle.bdb_graph.proofs.of_format.FileLemmas.{page_is}
use Rattle.bdb_pack.specs.of_law_grove.Part.{entrance_trees, has_wrong_place, is_wrong_place}
use Rattle.bdb_law_join.specs.Joining.{Joint, AreJoined}
use Rattle.bdb_law_join.proofs.MetaLemmas.{NamesEntrance}
use Rattle.bdb_law_join.proofs.SourceLemmas.{page_of_meta, source}
use Rattle.bdb_law_join.proofs.RoleLemmas.{no_meta_inside}

-- Stage 6.

chains_fit : (file : File) (joints : List Joint) (p : ℕ) → AreJoined file joints → p ≤ file.last
    → list_any (is_wrong_length file) (chains_in (page_at file p)) ≡ false
chains_fit file joints p all high =
    elim (all.shared_out.each p high) [
      | inl (j, member, is) ↦ ap (λ page. list_any (is_wrong_length file) (chains_in page)) (page_of_meta file joints j p all member is)
      | inr (j, member, inside) ↦ (all.parts j member).branch.chains p inside
    ]

-- metadata that names a root is that of a tree
tree_entrance : (fields : Metadata) (r : Reference) → NamesEntrance fields r → is_root_reference r.sort ≡ true
    → Contains (entrance_trees fields) r.target × (r.sort ≡ Root)
tree_entrance (BtreeFields meta) r names is = (names.target, names.sort)
tree_entrance (HashFields meta) r names is = absurd (true≢false (sym is ∙ ap is_root_reference names.sort))
tree_entrance (QueueFields meta) r names is = absurd (true≢false (sym is ∙ ap is_root_reference names.sort))

-- no tree has a wrong place
root_places : (file : File) (joints : List Joint) (q : ℕ) (r : Reference) → AreJoined file joints → q ≤ file.last → Contains (refs file q) r
    → is_root_reference r.sort ≡ true → has_wrong_place file r.sort r.target ≡ false
root_places file joints q r all high at is =
    let found = source file joints q r all high at in
    elim found.3 [
      | inl (same, names) ↦
          let tree = tree_entrance found.0.part.fields r names is in
          ap (λ sort. has_wrong_place file sort r.target) tree.1 ∙ (all.parts found.0 found.1).trees r.target tree.0
      | inr inside ↦ (all.parts found.0 found.1).branch.sets q r inside at is
    ]

-- the places of the leaves of the tree that an owner names
abbrev places_of : File → Owner → List LeafPlace
places_of file owner = places_from owner.reference.sort 0 (leaves file owner.reference.target)

-- a reference to a root
abbrev names_root : Owner → Bool
names_root owner = is_root_reference owner.reference.sort

owner_right : (file : File) (joints : List Joint) (owner : Owner) → AreJoined file joints → Contains (all_references file) owner
    → names_root owner ≡ true → has_wrong_place file owner.reference.sort owner.reference.target ≡ false
unfolding all_references
owner_right file joints owner all at is =
    let page = of_flat_map (held_by file) (range_with_len 0 (file.last + 1)) owner at in
    let within : (0 ≤ page.0) × (page.0 < 0 + (file.last + 1)) = of_range 0 (file.last + 1) page.0 page.1 in
    let held = of_map (λ (r : Reference). let o : Owner = record { holder = page.0; reference = r } in o) (refs file page.0) owner page.2 in
    let same : held.0 ≡ owner.reference = ap (λ (o : Owner). o.reference) held.2 in
    subst (λ (r : Reference). has_wrong_place file r.sort r.target ≡ false) same
    (root_places file joints page.0 held.0 all (omega arith) held.1 (subst (λ (r : Reference). is_root_reference r.sort ≡ true) (sym same) is))

place_right : (file : File) (joints : List Joint) (place : LeafPlace) → AreJoined file joints → Contains (leaf_places file) place
    → is_wrong_place file place ≡ false
unfolding leaf_places root_references
place_right file joints place all at =
    let tree = of_flat_map (places_of file) (filter names_root (all_references file)) place at in
    let root : Contains (all_references file) tree.0 × (names_root tree.0 ≡ true) = of_filter names_root (all_references file) tree.0 tree.1 in
    none_passes (is_wrong_place file) (places_of file tree.0) place (owner_right file joints tree.0 all root.0 root.1) tree.2

pub structure_none : (file : File) (joints : List Joint) → AreJoined file joints → structure_faults file ≡ []
unfolding structure_faults
structure_none file joints all =
    no_faults 6 0 (file.last + 1) (λ p. holding (structure_rows file p)) (λ p low high.
    let right : (place : LeafPlace) → Contains (leaf_places file) place → (is_wrong_leaf file place ≡ false) × (is_wrong_link file place ≡ false) =
    λ place at. or_parts (is_wrong_leaf file place) (is_wrong_link file place) (place_right file joints place all at) in
    none_holds (structure_rows file p) (
      chains_fit file joints p all (omega arith),
      (
        none_pass (λ (place : LeafPlace). place.leaf == p && is_wrong_leaf file place) (leaf_places file)
            (λ place at. and_right (place.leaf == p) (is_wrong_leaf file place) (right place at).0),
        (
          none_pass (λ (place : LeafPlace). place.leaf == p && is_wrong_link file place) (leaf_places file)
              (λ place at. and_right (place.leaf == p) (is_wrong_link file place) (right place at).1),
          tt,
        ),
      ),
    ))

-- Stage 8.

no_code : (code : ℕ) (rows : List (Row ℕ)) → AllFail rows → holds_code code rows ≡ false
no_code code [] fail = refl
no_code code (row ∷ rows) fail =
    or_from (row.code == code && row.holds) (holds_code code rows) (and_right (row.code == code) row.holds fail.0) (no_code code rows fail.1)

-- a page that is no metadata has no fields
pub no_fields : (page : Page) → (is_meta page ≡ true → ⊥) → fields_in page ≡ []
no_fields (Meta other) none = absurd (none refl)
no_fields page none = refl

pub fields_same : (fields other : Metadata) → Meta fields ≡ Meta other → fields ≡ other
fields_same fields other same = cc

-- each page of the list is that of a number
abbrev pub ArePages : File → Type 0
ArePages file = (page : Page) → Contains file.pages page → (p : ℕ) × (p ≤ file.last) × (page_at file p ≡ page)

meta_contents : (file : File) (joints : List Joint) (p code : ℕ) (fields : Metadata) → AreJoined file joints → ArePages file
    → Contains (fields_of file) fields → holds_code code (database_rows file fields p) ≡ false
meta_contents file joints p code fields all pages at =
    let page = of_flat_map fields_in file.pages fields at in
    let there = pages page.0 page.1 in
    let on : Contains (fields_in (page_at file there.0)) fields = subst (λ q. Contains (fields_in q) fields) (sym there.2) page.2 in
    elim (all.shared_out.each there.0 there.1) [
      | inl (j, member, meta) ↦
          let same : j.part.fields ≡ fields =
          only_member j.part.fields fields
          (subst (λ q. Contains (fields_in q) fields) (page_of_meta file joints j there.0 all member meta) on) in
          no_code code (database_rows file fields p) (subst (λ f. AllFail (database_rows file f p)) same
          (all_fail (database_rows file j.part.fields p) ((all.parts j member).contents p)))
      | inr (j, member, inside) ↦ absurd (no_member (fields_in (page_at file there.0)) fields (no_fields (page_at file there.0)
          (no_meta_inside file joints j there.0 all member inside)) on)
    ]

pub numbered_fail : (from n : ℕ) (test : ℕ → Bool) → ((code : ℕ) → test code ≡ false)
    → AllFail (map (λ code. code :? test code) (range_with_len from n))
numbered_fail from zero test none = tt
numbered_fail from (suc n) test none = (none from, numbered_fail (from + 1) n test none)

pub contents_none : (file : File) (joints : List Joint) → AreJoined file joints → ArePages file → contents_faults file ≡ []
unfolding contents_faults
contents_none file joints all pages =
    no_faults 8 0 (file.last + 1) (λ p. holding (contents_rows file p)) (λ p low high.
    none_holds (contents_rows file p) (numbered_fail 1 9 (holds_somewhere file p) (λ code.
    none_pass (λ fields. holds_code code (database_rows file fields p)) (fields_of file)
    (λ fields at. meta_contents file joints p code fields all pages at))))

pub pages_of_file : (image : List ℕ) → ArePages (file_of image)
unfolding file_of
pages_of_file image page at =
    let head : Head = head_of image in
    let read : ℕ → Page = λ p. abstract_page head.order (page_bytes head image p) in
    let found = of_map read (range_with_len 0 (head.last + 1)) page at in
    let within : (0 ≤ found.0) × (found.0 < 0 + (head.last + 1)) = of_range 0 (head.last + 1) found.0 found.1 in
    let low : found.0 ≤ head.last = omega arith in
    (found.0, low, page_is image found.0 low ∙ found.2)

-- Stages 1 and 2.

pub head_none : (image : List ℕ) → first_row (head_rows image) ≡ None → head_faults image ≡ []
unfolding head_faults
head_none image none = ap (λ code. by_page 1 0 1 (λ p. option_to_list code)) none

pub tail_none : (image : List ℕ) → (head_of image).last + 1 ≡ (head_of image).pages → tail_faults image ≡ []
unfolding tail_faults
tail_none image whole = grind arith

pub form_none : (image : List ℕ) → ((p : ℕ) → p ≤ (head_of image).last → form_code (head_of image) p (page_bytes (head_of image) image p) ≡ None)
    → form_faults image ≡ []
unfolding form_faults
form_none image formed = grind (arith, no_faults)
