-- The databases of a base are fit to be loaded.
use Rattle.std.proofs.Common.{◌≡◌, ℕ, ◌+◌, ◌^◌, ◌<◌, ◌≤◌, Bool, true, false, cond, not, List, [], ◌∷◌, length, map, arith, refl, sym, ap, subst}
use Rattle.std.specs.Prelude.{◌&&◌, IsTrue, nat_lt}
use Rattle.std.specs.List.{All, Contains, range_with_len, sum_by}
use Rattle.std.proofs.lemmas.Bool.Decides.{nat_tests}
use Rattle.std.proofs.lemmas.List.Elements.{All-cons, All-head, All-map, All-nil, All-tail}
use Rattle.std.proofs.lemmas.List.Sums.{sum_by-cons, get_or-le-sum_by}
use Rattle.bdb_format.specs.declared.kinds.Order.{Order}
use Rattle.bdb_format.specs.declared.metadata.BtreeMeta.{BtreeMeta}
use Rattle.bdb_format.specs.declared.metadata.FileKind.TheVariants.{Hash as HashFile}
use Rattle.bdb_format.specs.declared.metadata.HashMeta.{HashMeta}
use Rattle.bdb_format.specs.declared.metadata.QueueMeta.{QueueMeta}
use Rattle.bdb_format.specs.declared.settings.Settings.{Settings}
use Rattle.bdb_format.specs.Terms.{BtreeFields, BytesKey, Database, HashFields, ListKey, Metadata, NumberKey, QueueFields, Row, are_wrong_flags, btree_list}
use Rattle.bdb_format.specs.Terms.{btree_settings, databases, file_of, four_at, has_bit, hash_settings, head_of, is_page_size, is_recno, list_of}
use Rattle.bdb_format.specs.Terms.{metadata_rows, page_bytes, queue_settings, recno_list, recno_settings}
use Rattle.bdb_format.proofs.ListLemmas.{all_of}
use Rattle.bdb_format.proofs.MemberLemmas.{in_range, none_passes}
use Rattle.bdb_format.proofs.VerdictLemmas.{AllFail, none_is_first_row}
use Rattle.bdb_mkfile.specs.of_image.Formed.{IsAccepted}
use Rattle.bdb_mkfile.specs.of_image.Linked.{HasMetadata, IsForest}
use Rattle.bdb_mkfile.proofs.of_image.FirstLemmas.{formed_accepted}
use Rattle.bdb_mkfile.proofs.of_image.FormedLemmas.{accepted_paged}
use Rattle.bdb_mkfile.proofs.of_image.HeldLemmas.{table_formed}
use Rattle.bdb_mkfile.proofs.of_graph.ReadLemmas.{IsMetaPage, flags_fit, page_of_meta}
use Rattle.bdb_mkfile.specs.of_text_format.Terms.{holds_records}
use Rattle.bdb_mkfile.specs.of_law_sections.Fit.{AreFitSettings, IsFitPair, IsFitSection}
use Rattle.bdb_mkfile.proofs.of_law_sections.PairLemmas.{fit_longer}
use Rattle.bdb_law_kept.specs.of_text.WrittenLaw.{AreBytes, IsPairOf}
use Rattle.bdb_law_kept.specs.Kept.{IsSound, settings_in}
use Rattle.bdb_law_kept.proofs.BytesLemmas.{FileHoldsBytes, file_holds, page_all}
use Rattle.bdb_law_kept.proofs.SoundLemmas.{forest_of, has_fields}
use Rattle.bdb_law_kept.proofs.WrittenLemmas.{NumbersFit, btree_pairs, hash_pairs, numbers_fit, queue_pairs, recno_pairs, sorted_set}
use Rattle.bdb_onto.specs.declared.base.Base.{Base}
use Rattle.bdb_onto.specs.Bases.{IsBase, base_section, text_pair}
use Rattle.bdb_format.proofs.BoolLemmas.{so_second}

-- Settings of each kind.

low_flags : (number flags : ℕ) → are_wrong_flags number flags ≡ false → flags < 256
low_flags number flags fit = grind (arith, nat_tests, fit)

not_counted : (number flags : ℕ) → are_wrong_flags number flags ≡ false → has_bit flags 0x04 ≡ true → has_bit flags 0x41 ≡ false
not_counted number flags fit is = grind (arith, fit, is)

btree_fits : (size : ℕ) (order : Order) (meta : BtreeMeta) (p : ℕ) → is_page_size size ≡ true → are_wrong_flags p meta.flags ≡ false
    → AreFitSettings (btree_settings size order meta)
btree_fits size order meta p legal flags = record {
  page_size = legal;
  sorted = λ is. so_second (has_bit meta.flags 0x40) (has_bit meta.flags 0x41) (sorted_set meta.flags (low_flags p meta.flags flags)) is;
  counted = λ is. not_counted p meta.flags flags is;
  records = λ is. absurd (cc is);
  re_len = omega arith;
  fixed = λ is. absurd (cc is);
}

recno_fits : (size : ℕ) (order : Order) (meta : BtreeMeta) → is_page_size size ≡ true → meta.re_len < 2 ^ 32
    → AreFitSettings (recno_settings size order meta)
recno_fits size order meta legal short = record {
  page_size = legal;
  sorted = λ is. absurd (cc is);
  counted = λ is. absurd (cc is);
  records = λ is. refl;
  re_len = short;
  fixed = λ is. absurd (cc is);
}

sorted_table : (flags : ℕ) → flags < 8 → (has_bit flags 0x04 && not (has_bit flags 0x05)) ≡ false
sorted_table flags low =
    none_passes (λ (n : ℕ). has_bit n 0x04 && not (has_bit n 0x05)) (range_with_len 0 8) flags refl (in_range 0 8 flags (omega arith) (omega (arith, low)))

hash_fits : (size : ℕ) (order : Order) (meta : HashMeta) → is_page_size size ≡ true → meta.flags < 8 → AreFitSettings (hash_settings size order meta)
hash_fits size order meta legal low = record {
  page_size = legal;
  sorted = λ is. so_second (has_bit meta.flags 0x04) (has_bit meta.flags 0x05) (sorted_table meta.flags low) is;
  counted = λ is. absurd (cc is);
  records = λ is. absurd (cc is);
  re_len = omega arith;
  fixed = λ is. absurd (cc is);
}

queue_fits : (size : ℕ) (order : Order) (meta : QueueMeta) → is_page_size size ≡ true → meta.re_len < 2 ^ 32
    → AreFitSettings (queue_settings size order meta)
queue_fits size order meta legal short = record {
  page_size = legal;
  sorted = λ is. absurd (cc is);
  counted = λ is. absurd (cc is);
  records = λ is. refl;
  re_len = short;
  fixed = λ is. refl;
}

-- Pairs.

abbrev key_size : ListKey → ℕ
key_size (BytesKey bytes) = length bytes
key_size (NumberKey number) = 0

abbrev pair_size : (ListKey × List ℕ) → ℕ
pair_size pair = key_size pair.0 + length pair.1

fit_pair : (numbered : Bool) (key : ListKey) (value : List ℕ) → IsPairOf numbered (key, value)
    → IsFitPair numbered (pair_size (key, value)) (text_pair (key, value))
fit_pair true (BytesKey bytes) value is = absurd is.0
fit_pair true (NumberKey number) value is = record { key = refl; key_length = omega arith; length = omega arith }
fit_pair false (BytesKey bytes) value is = record { key = refl; key_length = omega arith; length = omega arith }
fit_pair false (NumberKey number) value is = absurd is.0

fit_pairs : (numbered : Bool) (list : List (ListKey × List ℕ)) → All (IsPairOf numbered) list
    → All (IsFitPair numbered (sum_by pair_size list)) (map text_pair list)
fit_pairs numbered [] all = All-nil (IsFitPair numbered 0)
fit_pairs numbered (pair ∷ list) all =
    let sum = sum_by-cons pair_size pair list in
    let most : ℕ = sum_by pair_size (pair ∷ list) in
    let first : IsFitPair numbered (pair_size pair) (text_pair pair) = fit_pair numbered pair.0 pair.1 (All-head (IsPairOf numbered) pair list all) in
    All-cons (IsFitPair numbered most) (text_pair pair) (map text_pair list)
    (record { key = first.key; key_length = omega (arith, sum, first.key_length); length = omega (arith, sum, first.length) })
    (fit_longer numbered (sum_by pair_size list) most (map text_pair list) (omega (arith, sum))
    (fit_pairs numbered list (All-tail (IsPairOf numbered) pair list all)))

-- Each database.

-- what is so of the settings and the list of a database
pub record IsFitDatabase (settings : Settings) (list : List (ListKey × List ℕ)) : Type 0 where
  pub settings_fit : AreFitSettings settings
  pub pairs : All (IsPairOf (holds_records settings.kind)) list

hash_flags : (image : List ℕ) (p : ℕ) (meta : HashMeta) → IsMetaPage image p (HashFields meta) → meta.flags < 8
unfolding metadata_rows
hash_flags image p meta is =
    let order : Order = (head_of image).order in
    let page : List ℕ = page_bytes (head_of image) image p in
    let rows : List (Row ℕ) = metadata_rows order page p (head_of image).last HashFile in
    let fail : AllFail rows = none_is_first_row rows (table_formed (head_of image) p page is.size is.read.0 is.formed) in
    let flags : four_at order page 48 ≡ meta.flags = ap (λ (m : HashMeta). m.flags) is.read.1 in
    let low : nat_lt 0x07 meta.flags ≡ false = subst (λ n. nat_lt 0x07 n ≡ false) flags fail.1.1.1.1.1.1.1.1.1.0 in
    grind (arith, nat_tests, low)

fields_fit : (image : List ℕ) (fields : Metadata) → IsForest image → (has : HasMetadata (file_of image) fields) → FileHoldsBytes (file_of image)
    → IsMetaPage image has.page fields → NumbersFit fields
    → IsFitDatabase (settings_in image fields) (list_of (file_of image) fields)
fields_fit image (BtreeFields meta) forest has all is fit = by_kind (is_recno meta) refl
  where
    size : ℕ
    size = (head_of image).page_size

    order : Order
    order = (head_of image).order

    by_kind : (b : Bool) → is_recno meta ≡ b
        → IsFitDatabase (cond b (recno_settings size order meta) (btree_settings size order meta))
        (cond b (recno_list (file_of image) meta.root) (btree_list (file_of image) meta.root))
    by_kind true recno = record {
      settings_fit = recno_fits size order meta is.legal fit.1;
      pairs = recno_pairs image meta forest has recno all;
    }
    by_kind false keyed = record {
      settings_fit = btree_fits size order meta has.page is.legal (flags_fit image has.page meta is);
      pairs = btree_pairs (file_of image) meta.root all;
    }
fields_fit image (HashFields meta) forest has all is fit = record {
  settings_fit = hash_fits (head_of image).page_size (head_of image).order meta is.legal (hash_flags image has.page meta is);
  pairs = hash_pairs (file_of image) meta all;
}
fields_fit image (QueueFields meta) forest has all is fit = record {
  settings_fit = queue_fits (head_of image).page_size (head_of image).order meta is.legal fit.1;
  pairs = queue_pairs (file_of image) meta fit.0 all;
}

database_fits : (image : List ℕ) (database : Database) → IsSound image → AreBytes image → Contains (databases (file_of image)) database
    → IsFitDatabase (settings_in image database.fields) (list_of (file_of image) database.fields)
database_fits image database sound bytes at =
    let forest : IsForest image = forest_of image sound in
    let has : HasMetadata (file_of image) database.fields = has_fields image database at in
    let is : IsMetaPage image has.page database.fields = page_of_meta image database.fields forest has in
    fields_fit image database.fields forest has (file_holds image bytes) is
    (numbers_fit (head_of image).order (page_bytes (head_of image) image has.page) database.fields (page_all image has.page bytes) is.read)

-- A base.

-- the databases of a base are fit to be loaded; neither a key nor a datum has more bytes than this
pub record AreFitBase (base : Base) : Type 0 where
  pub most : ℕ
  pub legal : IsTrue (is_page_size base.page_size)
  pub each : All (IsFitSection most) base.databases

abbrev database_size : List ℕ → Database → ℕ
database_size image database = sum_by pair_size (list_of (file_of image) database.fields)

section_fits : (image : List ℕ) (most : ℕ) (database : Database) → IsSound image → AreBytes image → Contains (databases (file_of image)) database
    → database_size image database ≤ most → IsFitSection most (base_section image database)
section_fits image most database sound bytes at low =
    let fit = database_fits image database sound bytes at in
    let list : List (ListKey × List ℕ) = list_of (file_of image) database.fields in
    let numbered : Bool = holds_records (settings_in image database.fields).kind in
    record {
      settings = fit.settings_fit;
      pairs = fit_longer numbered (sum_by pair_size list) most (map text_pair list) low (fit_pairs numbered list fit.pairs);
    }

at_most_all : (image : List ℕ) (all : List Database) (database : Database) → Contains all database
    → database_size image database ≤ sum_by (database_size image) all
at_most_all image all database at =
    subst (λ d. database_size image d ≤ sum_by (database_size image) all) at.2 (get_or-le-sum_by (database_size image) all at.0 database at.1)

pub base_fits : (base : Base) → IsBase base → AreFitBase base
base_fits base is =
    let image : List ℕ = is.image in
    let all : List Database = databases (file_of image) in
    let most : ℕ = sum_by (database_size image) all in
    let accepted : IsAccepted image (head_of image) = formed_accepted image (head_of image) (forest_of image is.sound).formed in
    record {
      most = most;
      legal = subst (λ (b : Base). IsTrue (is_page_size b.page_size)) (sym is.are) (accepted_paged image (head_of image) accepted).legal;
      each =
          subst (λ (b : Base). All (IsFitSection most) b.databases) (sym is.are)
          (All-map (IsFitSection most) (base_section image) all
          (all_of (λ database. IsFitSection most (base_section image database)) all
          (λ database at. section_fits image most database is.sound is.bytes at (at_most_all image all database at))));
    }
