-- The metadata of tables under names.
use Rattle.std.proofs.Common.{◌≡◌, ℕ, ◌+◌, ◌-◌, ◌<◌, ◌*◌, Bool, true, false, List, ◌++◌, length, arith, refl, sym, ◌∙◌, ap, subst, flat_map}
use Rattle.bdb_mkfile.proofs.Common.{length-map-range_with_len, Order, Head, HashMeta, Settings, File, HashFields, Meta, database_rows, four_at, hash_fields, hash_list, is_page_size, settings_of}
use Rattle.bdb_mkfile.proofs.Common.{spelled, table_bytes, table_pairs, zeros, size_bounds, table_page, Built, bytes_of, head_for, free_of, AreLegal, ReadsAs, reads_common, table_meta, own_settings}
use Rattle.bdb_mkfile.proofs.Common.{TablesAreSpelled, TablesHaveNames, named_table_meta}
use Rattle.bdb_io.specs.of_format.declared.kinds.Kind.TheVariants.{Hash as HashKind}
use Rattle.bdb_io.specs.of_format.declared.metadata.FileKind.TheVariants.{Hash}
use Rattle.bdb_mkfile.proofs.MetaLemmas.{IsTablePage, few_flags, keyed_right, length-table, table_accepted}

-- Settings.

said_by : (settings : Settings) (size : ℕ) (order : Order) (first bits : ℕ) (duplicates sorted : Bool) → (sorted ≡ true → duplicates ≡ true)
    → let own : Settings = record settings { duplicates = duplicates; sorted = sorted } in
    settings_of size order (HashFields (named_table_meta (table_meta own first bits))) ≡ own_settings HashKind size order own
said_by settings size order first bits true true both = refl
said_by settings size order first bits true false both = refl
said_by settings size order first bits false true both = let e = both refl in absurd (cc e)
said_by settings size order first bits false false both = refl

-- the metadata of a table under a name says the settings of a hash
pub table_settings : (settings : Settings) (size : ℕ) (order : Order) (first bits : ℕ) → (settings.sorted ≡ true → settings.duplicates ≡ true)
    → settings_of size order (HashFields (named_table_meta (table_meta settings first bits))) ≡ own_settings HashKind size order settings
table_settings settings size order first bits both = said_by settings size order first bits settings.duplicates settings.sorted both

-- The part.

-- the rows of its contents don't look at the flag of a name
rows_by : (g : File) (settings : Settings) (first bits p : ℕ) (duplicates sorted : Bool)
    → let own : Settings = record settings { duplicates = duplicates; sorted = sorted } in
    database_rows g (HashFields (named_table_meta (table_meta own first bits))) p ≡ database_rows g (HashFields (table_meta own first bits)) p
unfolding table_pairs
rows_by g settings first bits p true true = refl
rows_by g settings first bits p true false = refl
rows_by g settings first bits p false true = refl
rows_by g settings first bits p false false = refl

pub tables_have_names : TablesHaveNames
unfolding table_pairs hash_list
tables_have_names g pages settings first bits list is = grind (arith, rows_by)

-- The page.

-- what is read of the page of a table's metadata
reads_page : (built : Built) (number elements : ℕ) (page : List ℕ) (meta : HashMeta) → AreLegal built → number < length built.pages
    → page ≡ table_bytes built.order built.size number (length built.pages - 1) elements meta
    → ReadsAs (record (head_for built) { kind = Hash }) number page
unfolding table_bytes
reads_page built number elements page meta pages there bytes =
    let head : Head = record (head_for built) { kind = Hash } in
    let rest : List ℕ =
    spelled 4 built.order meta.max_bucket ++ (spelled 4 built.order meta.high_mask ++ (spelled 4 built.order meta.low_mask
    ++ (spelled 4 built.order meta.ffactor ++ (spelled 4 built.order elements ++ (spelled 4 built.order 0x5e688dd1
    ++ (flat_map (λ spare. spelled 4 built.order spare) meta.spares ++ zeros (built.size - 224))))))) in
    subst (ReadsAs head number) (sym bytes)
    (reads_common head number meta.free meta.flags rest (omega (arith, (size_bounds built.size pages.legal).1))
    (omega (arith, there, pages.few)) (omega (arith, pages.few, pages.some)))

page_length : (built : Built) (number elements : ℕ) (page : List ℕ) (meta : HashMeta) → AreLegal built
    → page ≡ table_bytes built.order built.size number (length built.pages - 1) elements meta → hash_fields built.order page ≡ meta
    → length page ≡ built.size
page_length built number elements page meta pages bytes fields = grind (arith, HashMeta, length-map-range_with_len, four_at, length-table, size_bounds)

pub tables_are_spelled : TablesAreSpelled
tables_are_spelled built joint settings first bits elements pages above there some from room is bytes fields =
    let meta : HashMeta = named_table_meta (table_meta settings first bits) in
    let page : List ℕ = bytes_of built joint.meta in
    let reads : ReadsAs (record (head_for built) { kind = Hash }) joint.meta page =
    reads_page built joint.meta elements page meta pages there bytes in
    let long : length page ≡ built.size = page_length built joint.meta elements page meta pages bytes fields in
    let legal : is_page_size (length page) ≡ true = ap is_page_size long ∙ pages.legal in
    let table : IsTablePage settings (head_for built) joint.meta first page bits meta.flags = record {
      reads = reads;
      top = λ zero. absurd (omega (arith, above, zero));
      forest = λ queue. cc;
      legal = pages.legal;
      long = long;
      key = keyed_right built.order built.size joint.meta (length built.pages - 1) elements meta page bytes;
      fields = fields;
      known = omega (arith, few_flags settings.duplicates settings.sorted);
      above = from;
      some = some;
      room = omega (arith, room);
    } in
    record {
      says = table_page built.order page legal reads.type ∙ (ap (λ m. Meta (HashFields m)) fields ∙ sym (ap (λ f. Meta f) is));
      formed = table_accepted settings (head_for built) joint.meta first page bits meta.flags table;
      no_free = λ zero. ap free_of is;
    }
