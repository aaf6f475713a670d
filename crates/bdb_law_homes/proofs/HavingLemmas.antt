-- The homes of leaves with pairs, and of hash pages.
use Rattle.std.proofs.Common.{◌≡◌, ℕ, ◌≤◌, true, [], ◌∷◌, ap, ◌∙◌, sym, inl, inr}
use Rattle.std.proofs.lemmas.Bool.{cases_Bool, cases_lt}
use Rattle.bdb_law_whole.specs.of_format.Terms.{BtreeFields, File, Meta, Metadata, NoType, file_of, has_type, is_recno, page_at, type_in}
use Rattle.bdb_law_whole.proofs.of_law_sums.LeafLemmas.{no_pairs_in_recno, no_pairs_in_set}
use Rattle.bdb_law_homes.specs.Led.{IsOwned}
use Rattle.bdb_law_homes.specs.Owned.{HashPagesHaveHomes, IsPageOf, PairLeavesHaveHomes}
use Rattle.bdb_law_homes.proofs.BucketLemmas.{buckets_are_of_tables}
use Rattle.bdb_law_homes.proofs.OneLemmas.{hash_pages_are_of_one, leaves_are_of_one}
use Rattle.bdb_law_homes.proofs.SoundLemmas.{sound_files_are_owned}
use Rattle.bdb_law_homes.proofs.TreeLemmas.{leaves_are_of_btrees}

meta_inside : (file : File) (meta : ℕ) (fields : Metadata) → IsOwned file → page_at file meta ≡ Meta fields → meta ≤ file.last
meta_inside file meta fields is at = elim (cases_lt file.last meta) [
  | inl past ↦ absurd (let both : NoType ≡ Meta fields = sym (is.past meta past) ∙ at in cc)
  | inr low ↦ low
]

pub pair_leaves_have_homes : PairLeavesHaveHomes
pair_leaves_have_homes image p view sound levels low page some =
    let file : File = file_of image in
    let owned : IsOwned file = sound_files_are_owned image sound.forest sound.kind in
    let leaf : has_type (5 ∷ 6 ∷ 12 ∷ []) (type_in (page_at file p)) ≡ true = ap (λ pg. has_type (5 ∷ 6 ∷ 12 ∷ []) (type_in pg)) page in
    let keyed : has_type (5 ∷ 12 ∷ []) (type_in (page_at file p)) ≡ true = ap (λ pg. has_type (5 ∷ 12 ∷ []) (type_in pg)) page in
    elim (leaves_are_of_one image p sound.forest sound.kind low leaf) [
      | inl of ↦ elim (cases_Bool (is_recno of.tree)) [
        | inl recno ↦
            absurd (some (no_pairs_in_recno image of.tree p sound.forest
            (record { page = of.meta; inside = meta_inside file of.meta (BtreeFields of.tree) owned of.at; is = of.at })
            recno of.leaf))
        | inr other ↦ record {
          of = of;
          recno = other;
          is = leaves_are_of_btrees file of.meta p of.tree owned of.at other (levels of.tree.root) of.leaf keyed;
        }
      ]
      | inr set ↦ absurd (some (no_pairs_in_set image set.root p sound set.set set.leaf))
    ]

pub hash_pages_have_homes : HashPagesHaveHomes
hash_pages_have_homes image p forest kind low hash full =
    let of : IsPageOf (file_of image) p = hash_pages_are_of_one image p forest kind low hash full in
    record {
      of = of;
      is = buckets_are_of_tables (file_of image) of.meta of.bucket p of.table (sound_files_are_owned image forest kind) of.at of.within of.page;
    }
