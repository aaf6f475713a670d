-- A file of the databases that are found has room for all data of those in which none replaces another.
use Rattle.std.proofs.Common.{◌≡◌, ℕ, ◌+◌, ◌*◌, ◌<◌, ◌≤◌, Bool, true, false, cond, List, [], ◌∷◌, map, Option, Err, arith, refl, sym, ◌∙◌, ap, subst}
use Rattle.std.proofs.Common.{add-mul, mul-le-mul_right}
use Rattle.std.specs.Prelude.{nat_lt}
use Rattle.std.specs.List.{sum_by}
use Rattle.std.proofs.lemmas.Bool.{lt-ltb, ltb-true}
use Rattle.std.proofs.lemmas.List.Sums.{sum_by-cons}
use Rattle.bdb_model.specs.of_format.declared.kinds.Order.{Order}
use Rattle.bdb_model.specs.of_format.declared.settings.Settings.{Settings}
use Rattle.bdb_model.specs.of_format.Flags.{has_records}
use Rattle.bdb_model.specs.of_format.Terms.{BtreeFields, HashFields, Metadata, QueueFields, btree_settings, is_page_size, is_recno, recno_settings, settings_of}
use Rattle.bdb_model.specs.of_text_format.declared.sections.Section.{Section}
use Rattle.bdb_model.specs.of_text_format.Terms.{holds_records}
use Rattle.bdb_model.specs.of_text_format.Written.{shows_length}
use Rattle.bdb_mkfile.specs.Builds.{image_size}
use Rattle.bdb_mkfile.proofs.ShortLemmas.{sections_needed}
use Rattle.bdb_mkfile.specs.of_need.Need.{need_of, section_pages}
use Rattle.bdb_mkfile.specs.of_settle.Loaded.{keeps_data, loaded_section}
use Rattle.bdb_apart.specs.Found.{Found, found}
use Rattle.bdb_apart.specs.Given.{FoundIn, in_image, pairs_given, records_given}
use Rattle.bdb_apart.specs.Text.{settings_in}
use Rattle.bdb_rescue.specs.Kept.{Reading}
use Rattle.bdb_rescue.specs.of_survey.declared.guess.Guess.{Guess}
use Rattle.bdb_repair.specs.declared.error.RepairError.TheVariants.{TooLarge}
use Rattle.bdb_repair.specs.Apart.{AreBuilt, IsRepairedApart, apart_sections, section_in, sections_in, told_settings}
use Rattle.bdb_repair.specs.ApartRoom.{DatabasesTakeRoom, apart_room, found_room}
use Rattle.bdb_repair.specs.Parts.{loose_pair, stored_pairs}
use Rattle.bdb_repair.specs.Room.{pair_room}
use Rattle.bdb_repair.proofs.FileRoomLemmas.{kept_pages}
use Rattle.bdb_repair.proofs.ListRoomLemmas.{keeps_no_records}
use Rattle.bdb_repair.proofs.RepairLemmas.{IsReadBy}

-- Settings.

-- those that a text tells keep data as the others do, and have their page size
told_keeps : (settings : Settings) → keeps_data (told_settings settings) ≡ keeps_data settings
told_keeps settings = by_test (shows_length settings)
  where
    by_test : (b : Bool) → keeps_data (cond b settings (record settings { fixed = false; re_len = 0; re_pad = 32 })) ≡ keeps_data settings
    by_test true = refl
    by_test false = refl

told_size : (settings : Settings) → (told_settings settings).page_size ≡ settings.page_size
told_size settings = by_test (shows_length settings)
  where
    by_test : (b : Bool) → (cond b settings (record settings { fixed = false; re_len = 0; re_pad = 32 })).page_size ≡ settings.page_size
    by_test true = refl
    by_test false = refl

pub found_size : (size : ℕ) (order : Order) (fields : Metadata) → (settings_of size order fields).page_size ≡ size
found_size size order (BtreeFields meta) = by_test (is_recno meta)
  where
    by_test : (b : Bool) → (cond b (recno_settings size order meta) (btree_settings size order meta)).page_size ≡ size
    by_test true = refl
    by_test false = refl
found_size size order (HashFields meta) = refl
found_size size order (QueueFields meta) = refl

found_records : (size : ℕ) (order : Order) (fields : Metadata) → holds_records (settings_of size order fields).kind ≡ has_records fields
found_records size order (BtreeFields meta) = by_test (is_recno meta)
  where
    by_test : (b : Bool) → holds_records (cond b (recno_settings size order meta) (btree_settings size order meta)).kind ≡ b
    by_test true = refl
    by_test false = refl
found_records size order (HashFields meta) = refl
found_records size order (QueueFields meta) = refl

-- Sections.

-- where no datum replaces another there are pairs
kept_pairs : (it : FoundIn) → keeps_data (settings_in it) ≡ true → (section_in it).pairs ≡ stored_pairs (pairs_given it)
kept_pairs it keeps =
    let none : has_records it.db.fields ≡ false =
    sym (found_records it.reading.guess.page_size it.reading.guess.order it.db.fields) ∙ keeps_no_records (settings_in it) keeps in
    subst (λ b. cond b (map loose_pair (records_given it)) (stored_pairs (pairs_given it)) ≡ stored_pairs (pairs_given it)) (sym none) refl

one_room : (size : ℕ) (it : FoundIn) → is_page_size size ≡ true → found_room it ≤ section_pages size (loaded_section (section_in it)) * size
one_room size it legal = by_test (keeps_data (settings_in it)) refl
  where
    by_test : (b : Bool) → keeps_data (settings_in it) ≡ b
        → cond b (sum_by pair_room (pairs_given it)) 0 ≤ section_pages size (loaded_section (section_in it)) * size
    by_test true keeps = kept_pages size (section_in it) (pairs_given it) legal (told_keeps (settings_in it) ∙ keeps) (kept_pairs it keeps)
    by_test false keeps = omega arith

sections_room : (size : ℕ) (all : List FoundIn) → is_page_size size ≡ true
    → sum_by found_room all ≤ sum_by (section_pages size) (map loaded_section (map section_in all)) * size
sections_room size [] legal = omega arith
sections_room size (it ∷ all) legal =
    let pages : ℕ = section_pages size (loaded_section (section_in it)) in
    let rest : ℕ = sum_by (section_pages size) (map loaded_section (map section_in all)) in
    let rooms = sum_by-cons found_room it all in
    let counts = sum_by-cons (section_pages size) (loaded_section (section_in it)) (map loaded_section (map section_in all)) in
    let whole : sum_by (section_pages size) (map loaded_section (map section_in (it ∷ all))) * size ≡ (pages + rest) * size =
    ap (λ n. n * size) counts in
    let parts = add-mul pages rest size in
    omega (arith, rooms, whole, parts, one_room size it legal, sections_room size all legal)

-- Files.

all_room : (reading : Reading) (dbs : List Found) → is_page_size reading.guess.page_size ≡ true
    → sum_by found_room (map (in_image reading) dbs) ≤ image_size (map section_in (map (in_image reading) dbs))
all_room reading [] legal = omega arith
all_room reading (db ∷ dbs) legal =
    let it : FoundIn = in_image reading db in
    let others : List FoundIn = map (in_image reading) dbs in
    let first : Section = section_in it in
    let all : List Section = map loaded_section (map section_in (it ∷ others)) in
    let size : ℕ = first.settings.page_size in
    let same : size ≡ reading.guess.page_size =
    told_size (settings_in it) ∙ found_size reading.guess.page_size reading.guess.order db.fields in
    let some : sum_by (section_pages size) all ≤ need_of all = sections_needed (loaded_section first) (map loaded_section (map section_in others)) in
    let more = mul-le-mul_right size some in
    omega (arith, more, sections_room size (it ∷ others) (subst (λ n. is_page_size n ≡ true) (sym same) legal))

found_take_room : (reading : Reading) → is_page_size reading.guess.page_size ≡ true → apart_room reading ≤ image_size (sections_in reading)
found_take_room reading legal = all_room reading (found reading) legal

pub databases_take_room : DatabasesTakeRoom
unfolding apart_sections
databases_take_room guess image legal = found_take_room (record { guess = guess; image = image }) legal

-- What is answered.

too_large : (max : ℕ) (sections : List Section) → max < image_size sections → AreBuilt max sections (Err TooLarge)
too_large max [] low = absurd (omega (arith, low))
too_large max (first ∷ others) low = lt-ltb max (image_size (first ∷ others)) low

-- where the data that the file keeps have more bytes, it has too
pub found_past : (max : ℕ) (given : Option Guess) (image : List ℕ) (reading : Reading) → IsReadBy given image reading
    → nat_lt max (apart_room reading) ≡ true → IsRepairedApart max given image (Err TooLarge)
unfolding apart_sections
found_past max given image reading read past =
    let room = found_take_room reading read.legal in
    let low = ltb-true max (apart_room reading) past in
    subst (λ g. IsRepairedApart max g image (Err TooLarge)) (sym read.guess)
    (subst (λ bytes. AreBuilt max (sections_in (record { guess = reading.guess; image = bytes })) (Err TooLarge)) read.image_is
    (too_large max (sections_in reading) (omega (arith, room, low))))
