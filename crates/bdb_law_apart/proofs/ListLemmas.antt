-- What is given of each database of a sound file is loaded into its list.
use Rattle.std.proofs.Common.{◌≡◌, ℕ, ◌≤◌, Bool, true, false, cond, List, refl, sym, ◌∙◌, ap, inl, inr}
use Rattle.std.specs.List.{Contains}
use Rattle.std.proofs.lemmas.Option.{none-some}
use Rattle.bdb_apart.specs.of_format.Terms.{BtreeFields, HashFields, Meta, Metadata, QueueFields, btree_list, btree_settings, file_of, head_of, is_meta}
use Rattle.bdb_apart.specs.of_format.Terms.{is_recno}
use Rattle.bdb_apart.specs.of_format.Terms.{list_of, page_at, recno_list, recno_settings, settings_of}
use Rattle.bdb_apart.specs.Found.{Found, found}
use Rattle.bdb_apart.proofs.KnownLemmas.{stands}
use Rattle.bdb_law_homes.proofs.of_law_sums.ReadLemmas.{no_queue_meta}
use Rattle.bdb_law_homes.specs.of_law_whole.Guessed.{guessed}
use Rattle.bdb_law_kept.specs.of_text_format.Terms.{listed}
use Rattle.bdb_law_kept.specs.of_settle.Loaded.{loaded}
use Rattle.bdb_law_kept.specs.Kept.{LoadsAlike}
use Rattle.bdb_law_apart.specs.Lists.{GivenListsLoad}
use Rattle.bdb_apart.specs.Read.{read}
use Rattle.bdb_law_apart.proofs.BtreeLoadLemmas.{btree_loads}
use Rattle.bdb_law_apart.proofs.FoundLemmas.{fields_meta, no_queue}
use Rattle.bdb_law_apart.proofs.HashLoadLemmas.{hash_loads}
use Rattle.bdb_law_apart.proofs.RecnoLoadLemmas.{recno_loads}
use Rattle.bdb_law_apart.proofs.SeenLemmas.{IsSeen, inside, page_is, seen}

-- a database that is found stands on a page of the file
pub record StandsIn (image : List ℕ) (db : Found) : Type 0 where
  pub inside : db.meta ≤ (file_of image).last
  pub page : page_at (file_of image) db.meta ≡ Meta db.fields

pub stands_in : (image : List ℕ) (db : Found) → IsSeen image → Contains (found (read image)) db → StandsIn image db
stands_in image db is at = elim (stands (read image) db at) [
  | inl queue ↦ absurd (none-some queue.meta (sym (no_queue image is) ∙ queue.queue))
  | inr there ↦
      let page : page_at (guessed image) db.meta ≡ Meta db.fields = fields_meta (page_at (guessed image) db.meta) db.fields there in
      let low : db.meta ≤ (file_of image).last = inside image is_meta db.meta is refl refl (ap is_meta page) in
      record { inside = low; page = sym (page_is image db.meta is low) ∙ page }
]

pub given_lists_load : GivenListsLoad
given_lists_load image db settings pairs sound at are alike = by_fields db.fields refl alike
  where
    is : IsSeen image
    is = seen image sound

    on : StandsIn image db
    on = stands_in image db is at

    by_fields : (fields : Metadata) → db.fields ≡ fields → LoadsAlike settings (settings_of (head_of image).page_size (head_of image).order fields)
        → listed (loaded settings pairs) ≡ list_of (file_of image) fields
    by_fields (BtreeFields tree) same alike = by_kind (is_recno tree) refl alike
      where
        page : page_at (file_of image) db.meta ≡ Meta (BtreeFields tree)
        page = on.page ∙ ap Meta same

        by_kind : (b : Bool) → is_recno tree ≡ b
            → LoadsAlike settings (cond b (recno_settings (head_of image).page_size (head_of image).order tree)
            (btree_settings (head_of image).page_size (head_of image).order tree))
            → listed (loaded settings pairs) ≡ cond b (recno_list (file_of image) tree.root) (btree_list (file_of image) tree.root)
        by_kind true recno alike =
            recno_loads image tree db settings pairs
            (record { on = record { is = is; page = page; recno = recno; inside = on.inside }; fields = same }) are alike
        by_kind false keyed alike =
            btree_loads image tree db settings pairs (record { is = is; page = page; inside = on.inside; keyed = keyed; fields = same }) are alike
    by_fields (HashFields table) same alike =
        hash_loads image table db settings pairs (record { is = is; page = on.page ∙ ap Meta same; inside = on.inside; fields = same }) are alike
    by_fields (QueueFields queue) same alike =
        absurd
        (no_queue_meta image queue is.sound.forest is.sound.kind (record { page = db.meta; inside = on.inside; is = on.page ∙ ap Meta same }))
