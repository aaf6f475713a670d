-- The sections that are built are those of what is given.
use Rattle.std.proofs.Common.{◌≡◌, ℕ, Bool, true, false, cond, List, [], ◌∷◌, map, refl, ◌∙◌, ap}
use Rattle.std.specs.List.{AllZip}
use Rattle.bdb_repair.specs.of_format.declared.kinds.Order.{Order}
use Rattle.bdb_repair.specs.of_format.Flags.{has_records}
use Rattle.bdb_repair.specs.of_format.Terms.{BtreeFields, HashFields, Metadata, QueueFields, btree_settings, head_of, is_recno, recno_settings, settings_of}
use Rattle.bdb_repair.specs.of_rescue.Gathered.{loose_pair, stored_pair}
use Rattle.bdb_repair.specs.of_rescue.Text.{bytes_pair, numbered_record}
use Rattle.bdb_repair.specs.of_apart.Found.{Found, found}
use Rattle.bdb_repair.specs.of_apart.Given.{FoundIn, in_image, pairs_given, records_given}
use Rattle.bdb_repair.specs.of_apart.Read.{read}
use Rattle.bdb_repair.specs.of_apart.Text.{list_given, section_pairs, settings_in}
use Rattle.bdb_repair.specs.Apart.{section_in}
use Rattle.bdb_repair.proofs.ApartRoomLemmas.{found_size}
use Rattle.bdb_load.specs.of_law_kept.of_text.WrittenLaw.{pair_in}
use Rattle.bdb_law_apart.specs.Sections.{IsGivenOf}
use Rattle.bdb_law_again.specs.Again.{SectionsAreGiven}
use Rattle.bdb_law_again.proofs.ToldLemmas.{told_alike, told_lines, told_order}

-- Pairs.

stored_in : (pairs : List (List ℕ × List ℕ)) → map pair_in (map stored_pair pairs) ≡ map bytes_pair pairs
stored_in [] = refl
stored_in (pair ∷ pairs) = ap (λ list. bytes_pair pair ∷ list) (stored_in pairs)

records_in : (records : List (ℕ × List ℕ)) → map pair_in (map loose_pair records) ≡ map numbered_record records
records_in [] = refl
records_in (placed ∷ records) = ap (λ list. numbered_record placed ∷ list) (records_in records)

pub given_in : (it : FoundIn) → map pair_in (section_pairs it) ≡ list_given it
given_in it = by_kind (has_records it.db.fields)
  where
    by_kind : (b : Bool) → map pair_in (cond b (map loose_pair (records_given it)) (map stored_pair (pairs_given it)))
        ≡ cond b (map numbered_record (records_given it)) (map bytes_pair (pairs_given it))
    by_kind true = records_in (records_given it)
    by_kind false = stored_in (pairs_given it)

-- Settings.

pub order_is : (size : ℕ) (order : Order) (fields : Metadata) → (settings_of size order fields).order ≡ order
order_is size order (BtreeFields meta) = by_kind (is_recno meta)
  where
    by_kind : (b : Bool) → (cond b (recno_settings size order meta) (btree_settings size order meta)).order ≡ order
    by_kind true = refl
    by_kind false = refl
order_is size order (HashFields meta) = refl
order_is size order (QueueFields meta) = refl

-- Sections.

pub section_given : (print : Bool) (image : List ℕ) (db : Found) → IsGivenOf print image db (section_in (in_image (read image) db))
section_given print image db =
    let it : FoundIn = in_image (read image) db in
    record {
      name_is = refl;
      lines_are = told_lines print db.name (settings_in it);
      alike = told_alike (settings_in it);
      page_size = (told_alike (settings_in it)).page_size ∙ found_size (head_of image).page_size (head_of image).order db.fields;
      order = told_order (settings_in it) ∙ order_is (head_of image).page_size (head_of image).order db.fields;
      pairs_are = given_in it;
    }

all_given : (print : Bool) (image : List ℕ) (dbs : List Found)
    → AllZip (IsGivenOf print image) dbs (map section_in (map (in_image (read image)) dbs))
all_given print image [] = tt
all_given print image (db ∷ dbs) = (section_given print image db, all_given print image dbs)

pub sections_are_given : SectionsAreGiven
sections_are_given print image = all_given print image (found (read image))
