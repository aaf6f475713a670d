-- The image of a table.
use Rattle.std.proofs.Common.{◌≡◌, ℕ, ◌+◌, ◌-◌, ◌*◌, ◌<◌, ◌≤◌, ◌^◌, Bool, true, false, cond, List, [], ◌∷◌, length, take, None, arith, refl, sym, ◌∙◌, ap, subst}
use Rattle.bdb_io.specs.of_format.declared.kinds.Kind.TheVariants.{Hash as HashKind}
use Rattle.bdb_mkfile.proofs.Common.{Order, Head, HashMeta, Settings, HashFields, file_of, four_at, has_bit, hash_fields, hash_settings, is_page_size, list_of, plain_settings, settings_of}
use Rattle.bdb_mkfile.proofs.Common.{table_bytes, size_bounds, length-map-range_with_len, Pair, listed, AreWhole, Built, bytes_of, joined_pages, with_zeros, written_over, written_whole, IsSoundAlone}
use Rattle.bdb_mkfile.proofs.Common.{AreLegal, HasBuiltBuckets, table_meta, table_bits, table_size, table_units, IsTableBuilt, file_settings, own_settings, IsTableImage, table_fields, table_first}
use Rattle.bdb_mkfile.proofs.Common.{table_pages, IsWrittenTable, table_part}
use Rattle.bdb_io.specs.of_format.declared.metadata.FileKind.TheVariants.{Hash}
use Rattle.bdb_mkfile.proofs.TreeLemmas.{first_zero}
use Rattle.bdb_mkfile.proofs.FirstLemmas.{IsUnderMeta, head_is, image_first, image_length}
use Rattle.bdb_mkfile.proofs.MetaLemmas.{length-table}
use Rattle.bdb_mkfile.proofs.WrittenLemmas.{under_table, written_tables_are_sound}

said_by : (size : ℕ) (order : Order) (duplicates sorted : Bool) (ffactor : ℕ) → (sorted ≡ true → duplicates ≡ true)
    → record (plain_settings HashKind size order) {
      duplicates = has_bit ((cond duplicates 0x01 0) + (cond sorted 0x04 0)) 0x05;
      sorted = has_bit ((cond duplicates 0x01 0) + (cond sorted 0x04 0)) 0x04;
      ffactor = ffactor;
    } ≡ record (plain_settings HashKind size order) { duplicates = duplicates; sorted = sorted; ffactor = ffactor }
said_by size order true true ffactor both = refl
said_by size order true false ffactor both = refl
said_by size order false true ffactor both = let e = both refl in absurd (cc e)
said_by size order false false ffactor both = refl

-- the metadata of a table says the settings of a hash
says_settings : (settings : Settings) (first bits : ℕ) → (settings.sorted ≡ true → settings.duplicates ≡ true)
    → hash_settings settings.page_size settings.order (table_meta settings first bits)
    ≡ own_settings HashKind settings.page_size settings.order settings
says_settings settings first bits both = said_by settings.page_size settings.order settings.duplicates settings.sorted settings.ffactor both

-- The pages of a table that was built behind a zero page, and its metadata, which is written over that.
pub record IsTableFiled (settings : Settings) (list : List Pair) (empty added built : Built) (meta : HashMeta) (count elements : ℕ)
    (lent page image : List ℕ) : Type 0 where
  pub kind : settings.kind ≡ HashKind
  pub own : settings ≡ file_settings settings
  pub both : settings.sorted ≡ true → settings.duplicates ≡ true
  pub none : empty.pages ≡ []
  pub size : empty.size ≡ settings.page_size
  pub order : empty.order ≡ settings.order
  pub added_is : added ≡ with_zeros empty
  pub table : IsTableBuilt settings added built (table_units list) (listed list) meta
  pub legal : is_page_size built.size ≡ true
  pub whole : AreWhole built
  pub count_is : count ≡ length built.pages
  pub few : count < 2 ^ 32
  pub elements_are : elements ≡ length list
  pub lent_is : lent ≡ bytes_of built 0
  pub bytes : page ≡ table_bytes settings.order (length lent) 0 (count - 1) elements meta
  pub fields : hash_fields settings.order page ≡ meta
  pub image_is : image ≡ joined_pages (written_over built 0 page).pages

-- then the image is that of the table, whose buckets are as built
pub table_filed : (settings : Settings) (list : List Pair) (empty added built : Built) (meta : HashMeta) (count elements : ℕ)
    (lent page image : List ℕ) → IsTableFiled settings list empty added built meta count elements lent page image → IsTableImage settings list image
table_filed settings list empty added built meta count elements lent page image is =
    let one : length added.pages ≡ 1 = (first_zero empty added is.none is.added_is).1 in
    let added_size : added.size ≡ settings.page_size = ap (λ (b : Built). b.size) is.added_is ∙ is.size in
    let order : built.order ≡ settings.order = is.table.kept.order ∙ (ap (λ (b : Built). b.order) is.added_is ∙ is.order) in
    let size : built.size ≡ settings.page_size = is.table.kept.size ∙ added_size in
    let meta_is : meta ≡ table_fields settings list =
    is.table.fields
    ∙ (ap (λ n. table_meta settings n (table_bits added.size (table_units list))) one
    ∙ ap (λ s. table_meta settings 1 (table_bits s (table_units list))) added_size) in
    let pages : length built.pages ≡ 1 + table_pages settings list =
    is.table.count
    ∙ (ap (λ n. n + table_size added.size settings.sorted (table_units list)) one
    ∙ ap (λ s. 1 + table_size s settings.sorted (table_units list)) added_size) in
    let some : 1 ≤ length built.pages = omega (arith, pages) in
    let legal : AreLegal built = record { legal = is.legal; some = some; few = omega (arith, is.count_is, is.few); whole = is.whole } in
    let long : length lent ≡ built.size = ap length is.lent_is ∙ is.whole 0 (omega (arith, some)) in
    let spelled_as : page ≡ table_bytes built.order built.size 0 (length built.pages - 1) elements meta =
    is.bytes
    ∙ (ap (λ o. table_bytes o (length lent) 0 (count - 1) elements meta) (sym order)
    ∙ (ap (λ s. table_bytes built.order s 0 (count - 1) elements meta) long
    ∙ ap (λ n. table_bytes built.order built.size 0 (n - 1) elements meta) is.count_is)) in
    let fields : hash_fields built.order page ≡ meta = ap (λ o. hash_fields o page) order ∙ is.fields in
    let spares : length meta.spares ≡ 32 =
    sym (ap (λ (m : HashMeta). length m.spares) fields) ∙ length-map-range_with_len (λ g. four_at built.order page (96 + 4 * g)) 0 32 in
    let fills : length page ≡ built.size =
    ap length spelled_as
    ∙ length-table built.order built.size 0 (length built.pages - 1) elements meta (omega (arith, (size_bounds built.size is.legal).0)) spares in
    let written : IsWrittenTable built page elements meta image = record {
      pages = legal;
      bytes = spelled_as;
      fields = fields;
      image_is = is.image_is ∙ ap (λ (b : Built). joined_pages b.pages) (written_whole built 0 page is.whole (omega (arith, some)) fills);
    } in
    let under : IsUnderMeta built Hash page image = under_table built page elements meta image written in
    let both : IsSoundAlone image (table_part built meta (listed list)) × HasBuiltBuckets (file_of image) meta =
    written_tables_are_sound settings added built (table_units list) (listed list) meta elements page image one is.table written in
    let sound : IsSoundAlone image (table_part built meta (listed list)) = both.0 in
    let last : length built.pages - 1 ≡ table_pages settings list = omega (arith, pages) in
    let first : page ≡ table_first settings list =
    spelled_as
    ∙ (ap (λ o. table_bytes o built.size 0 (length built.pages - 1) elements meta) order
    ∙ (ap (λ s. table_bytes settings.order s 0 (length built.pages - 1) elements meta) size
    ∙ (ap (λ n. table_bytes settings.order settings.page_size 0 n elements meta) last
    ∙ (ap (λ n. table_bytes settings.order settings.page_size 0 (table_pages settings list) n meta) is.elements_are
    ∙ ap (λ m. table_bytes settings.order settings.page_size 0 (table_pages settings list) (length list) m) meta_is)))) in
    record {
      is = record {
        sound = sound.verdict;
        size = image_length built Hash page image under ∙ (ap (λ n. n * built.size) pages ∙ ap (λ n. (1 + table_pages settings list) * n) size);
        first_is = ap (λ n. take n image) (sym size) ∙ (image_first built Hash page image under ∙ first);
        alone = sound.alone ∙ ap (λ m. record { name = None; fields = HashFields m } ∷ []) meta_is;
        settings_are =
            ap (λ (h : Head). settings_of h.page_size h.order (HashFields (table_fields settings list))) (head_is built Hash page image under)
            ∙ (ap (λ n. settings_of n built.order (HashFields (table_fields settings list))) size
            ∙ (ap (λ o. settings_of settings.page_size o (HashFields (table_fields settings list))) order
            ∙ (says_settings settings 1 (table_bits settings.page_size (table_units list)) is.both
            ∙ (ap (λ k. own_settings k settings.page_size settings.order settings) (sym is.kind) ∙ sym is.own))));
        list = ap (λ m. list_of (file_of image) (HashFields m)) (sym meta_is) ∙ sound.list;
      };
      buckets = subst (HasBuiltBuckets (file_of image)) meta_is both.1;
    }
