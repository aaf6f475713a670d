-- A table under metadata that is written over page 0.
use Rattle.std.proofs.Common.{◌≡◌, ℕ, zero, suc, ◌+◌, ◌-◌, ◌<◌, ◌≤◌, true, List, [], ◌++◌, length, None, arith, refl, sym, ◌∙◌, ap, subst, flat_map, ◌*◌}
use Rattle.bdb_mkfile.proofs.Common.{get_or-set_other, get_or-set_same, length-set, length-map-range_with_len, Head, HashMeta, HashFields, Meta, abstract_page, file_of, form_code, four_at, head_of}
use Rattle.bdb_mkfile.proofs.Common.{is_meta, is_page_size, page_at, page_bytes, spelled, table_bytes, zeros, size_bounds, tree_passed, table_page, tree_page, IsLater, IsSamePage, IsPart, Part}
use Rattle.bdb_mkfile.proofs.Common.{between, between_is, is_between, Built, bytes_of, file_so_far, with_page, images_are_later, page_so_far, StandsAlone, HasForm, ReadsAs, head_accepted, page_read}
use Rattle.bdb_mkfile.proofs.Common.{table_meta, table_bits, table_cost, IsWrittenTable, WrittenTablesAreSound, table_part}
use Rattle.bdb_io.specs.of_format.declared.metadata.FileKind.TheVariants.{Hash}
use Rattle.bdb_io.proofs.of_format.FileLemmas.{last_page, page_is}
use Rattle.bdb_io.proofs.of_format.TypeLemmas.{byte_as}
use Rattle.bdb_need.specs.of_pack.Stored.{IsLaterImage, TellsPages}
use Rattle.bdb_need.proofs.of_law_join.AloneLemmas.{joins_alone, no_other_meta}
use Rattle.bdb_mkfile.proofs.FirstLemmas.{IsUnderMeta, head_for, head_is, reads_page, says_head, still_whole}
use Rattle.bdb_mkfile.proofs.MetaLemmas.{IsTablePage, buckets_fit, few_flags, keyed_right, length-table, some_bits, table_accepted}

-- the metadata has a spare for each group
spares_long : (built : Built) (page : List ℕ) (elements : ℕ) (meta : HashMeta) (image : List ℕ) → IsWrittenTable built page elements meta image
    → length meta.spares ≡ 32
spares_long built page elements meta image is = grind (arith, HashMeta, length-map-range_with_len, four_at)

pub page_long : (built : Built) (page : List ℕ) (elements : ℕ) (meta : HashMeta) (image : List ℕ) → IsWrittenTable built page elements meta image
    → length page ≡ built.size
page_long built page elements meta image is = grind (arith, length-table, size_bounds, spares_long)

pub under_table : (built : Built) (page : List ℕ) (elements : ℕ) (meta : HashMeta) (image : List ℕ) → IsWrittenTable built page elements meta image
    → IsUnderMeta built Hash page image
unfolding table_bytes
under_table built page elements meta image is = record {
  pages = is.pages;
  free = meta.free;
  flags = meta.flags;
  behind = spelled 4 built.order meta.max_bucket ++ (spelled 4 built.order meta.high_mask ++ (spelled 4 built.order meta.low_mask
      ++ (spelled 4 built.order meta.ffactor ++ (spelled 4 built.order elements ++ (spelled 4 built.order 0x5e688dd1
      ++ (flat_map (λ spare. spelled 4 built.order spare) meta.spares ++ zeros (built.size - 224)))))));
  bytes = is.bytes;
  long = page_long built page elements meta image is;
  image_is = is.image_is;
}

pub written_tables_are_sound : WrittenTablesAreSound
written_tables_are_sound settings old built units list meta elements page image one table is =
    (joins_alone image part formed_all alone, table.buckets (file_of image) image_later.counted later)
  where
    part : Part
    part = table_part built meta list

    after : Built
    after = with_page built 0 page

    under : IsUnderMeta built Hash page image
    under = under_table built page elements meta image is

    head : head_of image ≡ head_for built Hash
    head = head_is built Hash page image under

    count : length after.pages ≡ length built.pages
    count = length-set built.pages 0 page

    low : 0 < length built.pages
    low = omega (arith, is.pages.some)

    last : (head_of image).last + 1 ≡ length built.pages
    last = omega (arith, ap (λ (h : Head). h.last) head, is.pages.some)

    tells : TellsPages after image
    tells =
        let hash : (head_of image).kind ≡ Hash = ap (λ (h : Head). h.kind) head in
        record {
          size = ap (λ (h : Head). h.page_size) head;
          order = ap (λ (h : Head). h.order) head;
          last = omega (arith, last, count);
          pages = ap (λ (h : Head). h.pages) head ∙ sym count;
          kind = λ queue. cc;
        }

    image_later : IsLaterImage after image
    image_later = images_are_later after image (still_whole built Hash page image under) is.image_is tells

    -- a page above page 0
    stays : (p : ℕ) → 1 ≤ p → bytes_of after p ≡ bytes_of built p
    stays p above = get_or-set_other built.pages 0 p page [] (λ same. omega (arith, above, same))

    same_page : (p : ℕ) → 1 ≤ p → p < length built.pages → page_at (file_so_far after) p ≡ page_at (file_so_far built) p
    same_page p above there =
        page_so_far after p (omega (arith, there, count)) ∙ (ap (abstract_page built.order) (stays p above) ∙ sym (page_so_far built p there))

    later : IsLater (between (length old.pages) (length built.pages)) (file_so_far built) (file_of image)
    later =
        let pages : ℕ → _ = between (length old.pages) (length built.pages) in
        let from = image_later.later pages
        (λ p inside. omega (arith, (between_is (length old.pages) (length built.pages) p inside).1, count)) in
        record {
          no_queue_before = λ queue. cc;
          no_queue = from.no_queue;
          grows = omega (arith, from.grows, count);
          same = λ p inside.
              let bounds = between_is (length old.pages) (length built.pages) p inside in
              subst (λ b. IsSamePage b (page_at (file_of image) p)) (same_page p (omega (arith, bounds.0, one)) bounds.1) (from.same p inside);
        }

    is_part : IsPart (file_of image) part
    is_part =
        subst (λ n. IsPart (file_of image) (record { pages = between n (length built.pages); fields = HashFields meta; list = list })) one
        (table.part (file_of image) image_later.counted later)

    -- page 0
    first_bytes : page_bytes (head_of image) image 0 ≡ page
    first_bytes =
        page_read after image (head_of image) 0 (still_whole built Hash page image under) is.image_is tells.size (omega (arith, low, count))
        ∙ get_or-set_same built.pages 0 page [] low

    reads : ReadsAs (head_for built Hash) 0 page
    reads = reads_page built Hash page image under

    legal : is_page_size (length page) ≡ true
    legal = ap is_page_size under.long ∙ is.pages.legal

    named : page_at (file_of image) 0 ≡ Meta (HashFields meta)
    named =
        page_is image 0 (omega arith)
        ∙ (ap (abstract_page (head_of image).order) first_bytes
        ∙ (ap (λ o. abstract_page o page) tells.order
        ∙ (table_page built.order page legal reads.type ∙ ap (λ m. Meta (HashFields m)) is.fields)))

    alone : StandsAlone (file_of image) part
    alone = record {
      forest = image_later.counted.no_queue;
      all = λ p above high. is_between 1 (length built.pages) p above (omega (arith, high, last_page image, last));
      is = is_part;
      named = named;
      no_free = ap (λ (m : HashMeta). m.free) table.fields;
      no_master = refl;
    }

    -- form
    bits : ℕ
    bits = table_bits old.size units

    meta_page : IsTablePage settings (head_for built Hash) 0 1 page bits (table_meta settings 1 bits).flags
    meta_page = record {
      reads = reads;
      top = λ zero. refl;
      forest = λ queue. cc;
      legal = is.pages.legal;
      long = under.long;
      key = keyed_right built.order built.size 0 (length built.pages - 1) elements meta page is.bytes;
      fields = is.fields ∙ (table.fields ∙ ap (λ n. table_meta settings n bits) one);
      known = omega (arith, few_flags settings.duplicates settings.sorted);
      above = omega arith;
      some = some_bits old.size (table_cost old.size units);
      room = omega (arith, table.count, one, buckets_fit old.size settings.sorted units);
    }

    page_of : (p : ℕ) → 1 ≤ p → p < length built.pages → page_bytes (head_of image) image p ≡ bytes_of built p
    page_of p above there =
        page_read after image (head_of image) p (still_whole built Hash page image under) is.image_is tells.size (omega (arith, there, count))
        ∙ stays p above

    no_meta : (p : ℕ) → 1 ≤ p → p < length built.pages → is_meta (abstract_page built.order (bytes_of built p)) ≡ true → ⊥
    no_meta p above there found =
        no_other_meta (file_of image) part p alone above (omega (arith, there, last_page image, last))
        (ap is_meta
        (page_is image p (omega (arith, there, last))
        ∙ (ap (abstract_page (head_of image).order) (page_of p above there) ∙ ap (λ o. abstract_page o (bytes_of built p)) tells.order))
        ∙ found)

    later_formed : (p : ℕ) → 1 ≤ p → p < length built.pages → form_code (head_for built Hash) p (bytes_of built p) ≡ None
    later_formed p above there =
        let right : is_page_size (length (bytes_of built p)) ≡ true = ap is_page_size (is.pages.whole p there) ∙ is.pages.legal in
        tree_passed (head_for built Hash) p (bytes_of built p) (omega (arith, above)) (λ queue. cc)
        (table.formed p (omega (arith, above, one)) there)
        (λ hash. no_meta p above there (ap is_meta (table_page built.order (bytes_of built p) right (byte_as _ _ hash))))
        (λ tree. no_meta p above there (ap is_meta (tree_page built.order (bytes_of built p) right (byte_as _ _ tree))))

    formed : (p : ℕ) → p ≤ (head_of image).last → form_code (head_of image) p (page_bytes (head_of image) image p) ≡ None
    formed zero high =
        ap (form_code (head_of image) 0) first_bytes
        ∙ (ap (λ h. form_code h 0 page) head
        ∙ table_accepted settings (head_for built Hash) 0 1 page bits (table_meta settings 1 bits).flags meta_page)
    formed (suc n) high =
        let there : suc n < length built.pages = omega (arith, high, last) in
        ap (form_code (head_of image) (suc n)) (page_of (suc n) (omega arith) there)
        ∙ (ap (λ h. form_code h (suc n) (bytes_of built (suc n))) head ∙ later_formed (suc n) (omega arith) there)

    formed_all : HasForm image
    formed_all = record {
      head = head_accepted (head_for built Hash) image (says_head built Hash page image under);
      whole = omega (arith, last, ap (λ (h : Head). h.pages) head);
      formed = formed;
    }
