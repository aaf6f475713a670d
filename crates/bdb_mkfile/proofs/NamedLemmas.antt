-- The image of databases under names.
use Rattle.std.proofs.Common.{◌≡◌, ◌⊎◌, ℕ, ◌+◌, ◌-◌, ◌*◌, ◌<◌, ◌≤◌, ◌^◌, true, IsTrue, List, [], ◌∷◌, length, map, reverse, None, arith, refl, sym, ◌∙◌, ap, subst, inl, inr}
use Rattle.bdb_mkfile.proofs.Common.{All, AllZip, Contains, sum_by, cases_lt, length-map, length-reverse, All-cons, All-nil, Order, BtreeMeta, BtreeFields, Database, File, ListKey, btree_bytes}
use Rattle.bdb_mkfile.proofs.Common.{databases, file_of, first_judgement, first_row, has_duplicates, head_of, is_zero, names_databases, page_bytes, page_code, Btree, first_member, later_member}
use Rattle.bdb_mkfile.proofs.Common.{member_cases, flag_rows, IsCounted, IsLater, IsPart, between, between_is, is_between, Section, listed, Built, bytes_of, file_so_far, joined_pages, with_zeros}
use Rattle.bdb_mkfile.proofs.Common.{all_size, counted_so_far, AreFiled, IsSpelled, IsInPartOf, IsJoined, IsMetaOf, Joint, MasterPair, IsDatabase, IsSoundUnderMaster, IsUnderMaster, HasHead}
use Rattle.bdb_mkfile.proofs.Common.{SpellsMeta, btrees_are_spelled, filed_parts_are_joined, has_head, read_back, page_read, HasPagesOf, later_self, HasBuiltTable, unlined_pairs, section_pages}
use Rattle.bdb_mkfile.proofs.Common.{DatabaseMeta, Tree, AreNamed, IsNamedImage, names_pages, AreJointsFrom, entries_from, named_tree_meta, settings_of_master, HaveMetas, TreeIsIn, meta_for}
use Rattle.bdb_mkfile.proofs.Common.{settings_in, AreAdded, AreDatabasesBuilt, AreLaid, HoldsPart, IsMasterBuilt, Laid, part_between, AreAsMany, ArePut, AreWrittenFrom, IsPut, meta_bytes}
use Rattle.bdb_need.proofs.of_law_join.FiledLemmas.{later as filed_later}
use Rattle.bdb_need.proofs.of_law_join.NamedLemmas.{joins_all}
use Rattle.bdb_need.proofs.of_mkleaves.RunLemmas.{later_before as later_in}
use Rattle.bdb_mkfile.proofs.TreeLemmas.{first_zero}
use Rattle.bdb_mkfile.specs.NamedImages.{last_page}
use Rattle.bdb_mkfile.proofs.NamingLemmas.{entries_name_databases, entries_name_metas}
use Rattle.bdb_mkfile.proofs.RowLemmas.{IsOfRow, above_base, inside_row, joints_are, joints_from, metas_cover, of_row, row_apart, row_covers, row_pages}
use Rattle.bdb_mkfile.proofs.StandingLemmas.{has_before, holds_still, kept_again}
use Rattle.bdb_mkfile.proofs.TreeMetaLemmas.{IsMasterMeta, master_is_said}
use Rattle.bdb_mkfile.proofs.WritingLemmas.{many_again, still_written}

-- there are as many databases, and as much metadata, as sections
rows_long : (sections : List Section) (old new : Built) (metas : List DatabaseMeta) (are : AreDatabasesBuilt sections old new metas)
    → (length are.row ≡ length sections) × (length metas ≡ length sections)
rows_long sections old new metas are =
    let row : length are.row ≡ length sections = sym (length-map are.row (λ (laid : Laid). laid.section)) ∙ ap length are.sections_are in
    let all : length metas ≡ length are.row =
    sym (length-reverse metas) ∙ (ap length (sym are.metas_are) ∙ length-map are.row (λ (laid : Laid). laid.meta)) in
    (row, all ∙ row)

-- Pages of all sections, before metadata is written.
pub record IsLaidOut (sections : List Section) (empty one topped spaced built : Built) (master : BtreeMeta) (beyond : ℕ) (metas : List DatabaseMeta)
    : Type 0 where
  pub none : empty.pages ≡ []
  pub one_is : one ≡ with_zeros empty
  pub master_is : IsMasterBuilt sections one topped master
  pub added : AreAdded topped spaced (length sections)
  pub beyond_is : beyond ≡ length spaced.pages
  pub databases : AreDatabasesBuilt sections spaced built metas

-- the pages for metadata are zero pages
pub metas_zero : (sections : List Section) (empty one topped spaced built : Built) (master : BtreeMeta) (beyond : ℕ) (metas : List DatabaseMeta)
    → IsLaidOut sections empty one topped spaced built master beyond metas → (p : ℕ) → beyond - length metas ≤ p → p < beyond
    → IsTrue (is_zero (bytes_of built p))
metas_zero sections empty one topped spaced built master beyond metas is p low high =
    let long = rows_long sections spaced built metas is.databases in
    subst (λ bs. IsTrue (is_zero bs)) (sym (is.databases.kept.same p (omega (arith, high, is.beyond_is))))
    (is.added.zero_pages p (omega (arith, low, long.1, is.beyond_is, is.added.many)) (omega (arith, high, is.beyond_is)))

-- there are as many as metadata
pub metas_fit : (sections : List Section) (empty one topped spaced built : Built) (master : BtreeMeta) (beyond : ℕ) (metas : List DatabaseMeta)
    → IsLaidOut sections empty one topped spaced built master beyond metas → length metas ≤ beyond
metas_fit sections empty one topped spaced built master beyond metas is =
    let long = rows_long sections spaced built metas is.databases in omega (arith, long.1, is.beyond_is, is.added.many)

-- so is page 0, when they are written
pub first_zero_still : (sections : List Section) (empty one topped spaced built filled : Built) (master : BtreeMeta) (beyond : ℕ)
    (metas : List DatabaseMeta) → IsLaidOut sections empty one topped spaced built master beyond metas → ArePut built filled beyond metas
    → IsTrue (is_zero (bytes_of filled 0))
first_zero_still sections empty one topped spaced built filled master beyond metas is put =
    let long = rows_long sections spaced built metas is.databases in
    let first = first_zero empty one is.none is.one_is in
    let there : 0 < length topped.pages = omega (arith, first.1, is.master_is.count) in
    subst (λ bs. IsTrue (is_zero bs))
    (sym (put.same 0 (inl (omega (arith, there, long.1, is.beyond_is, is.added.many)))
    ∙ (is.databases.kept.same 0 (omega (arith, there, is.added.many))
    ∙ (is.added.kept.same 0 there ∙ is.master_is.kept.same 0 (omega (arith, first.1))))))
    first.0

-- Pages of all sections with all metadata, and their image.
pub record IsFilledIn (size : ℕ) (order : Order) (sections : List Section) (empty one topped spaced built filled after : Built) (master : BtreeMeta)
    (beyond : ℕ) (metas : List DatabaseMeta) (image : List ℕ) : Type 0 where
  pub named : AreNamed size sections
  pub size_is : empty.size ≡ size
  pub order_is : empty.order ≡ order
  pub laid_out : IsLaidOut sections empty one topped spaced built master beyond metas
  pub few : beyond < 2 ^ 32
  pub put : ArePut built filled beyond metas
  pub top : IsPut filled after 0 (Tree master)
  pub image_is : image ≡ joined_pages after.pages

-- buckets are as built in the databases where they are in the parts
all_built : (g : File) (joints : List Joint) (entries : List MasterPair) (found : List Database)
    → ((j : Joint) → Contains joints j → HasBuiltTable g j.part.fields) → AllZip (IsDatabase joints) entries found
    → All (λ (database : Database). HasBuiltTable g database.fields) found
all_built g joints [] [] each zip = All-nil (λ (database : Database). HasBuiltTable g database.fields)
all_built g joints [] (database ∷ found) each zip = absurd zip
all_built g joints (entry ∷ entries) [] each zip = absurd zip
all_built g joints (entry ∷ entries) (database ∷ found) each zip =
    All-cons (λ (one : Database). HasBuiltTable g one.fields) database found (subst (HasBuiltTable g) (sym zip.0.fields) (each zip.0.joint zip.0.at))
    (all_built g joints entries found each zip.1)

-- what an image has of pages with metadata and of those before
record IsImageIn (size : ℕ) (order : Order) (image : List ℕ) (last_one base : ℕ) (built after : Built) : Type 0 where
  after_size : after.size ≡ size
  after_order : after.order ≡ order
  built_size : built.size ≡ size
  built_order : built.order ≡ order
  last : length after.pages - 1 ≡ last_one
  page_in : (p : ℕ) → p < length after.pages → page_bytes (head_of image) image p ≡ bytes_of after p
  has : (from beyond : ℕ) → base ≤ from → beyond ≤ length built.pages → HasPagesOf built (between from beyond) image

-- its metadata pages are those of sections
have_metas : (size : ℕ) (order : Order) (image : List ℕ) (last_one : ℕ) (built after : Built) (base beyond number : ℕ) (row : List Laid)
    → AreLaid built base beyond row → AreWrittenFrom after number (map (λ (l : Laid). l.meta) row)
    → IsImageIn size order image last_one base built after → number + length row ≤ length after.pages
    → HaveMetas size order image last_one number (map (λ (l : Laid). l.section) row)
have_metas size order image last_one built after base beyond number [] are written is room = tt
have_metas size order image last_one built after base beyond number (laid ∷ row) are written is room =
    let k = laid.section.settings.kind in
    let list = unlined_pairs laid.section.pairs in (
      record {
        first = laid.from;
        bytes =
            is.page_in number (omega (arith, room))
            ∙ (written.0.bytes
            ∙ (ap (λ o. meta_bytes o after.size number (length after.pages - 1) laid.meta) is.after_order
            ∙ (ap (λ n. meta_bytes order n number (length after.pages - 1) laid.meta) is.after_size
            ∙ (ap (λ n. meta_bytes order size number n laid.meta) is.last
            ∙ (ap (meta_bytes order size number last_one) are.1.meta_is
            ∙ (ap (λ n. meta_bytes order size number last_one (meta_for k (settings_in n built.order laid.section) list laid.from)) is.built_size
            ∙ ap (λ o. meta_bytes order size number last_one (meta_for k (settings_in size o laid.section) list laid.from)) is.built_order))))));
        laid_out =
            subst (λ o. TreeIsIn k (settings_in size o laid.section) image list laid.from) is.built_order
            (subst (λ n. TreeIsIn k (settings_in n built.order laid.section) image list laid.from) is.built_size
            (are.1.tree image (is.has laid.from laid.beyond (above_base built base laid.from row are.2) are.1.holds.there)));
      },
      have_metas size order image last_one built after base laid.from (number + 1) row are.2 written.1 is (omega (arith, room)),
    )

-- that is the image of the sections
pub named_filed : (size : ℕ) (order : Order) (sections : List Section) (empty one topped spaced built filled after : Built) (master : BtreeMeta)
    (beyond : ℕ) (metas : List DatabaseMeta) (image : List ℕ)
    → IsFilledIn size order sections empty one topped spaced built filled after master beyond metas image → IsNamedImage size order sections image
named_filed size order sections empty one topped spaced built filled after master beyond metas image is =
    record {
      sound = ap first_judgement sound.holds.sound;
      long = long;
      first_is =
          page_in 0 (omega (arith, is.top.pages.some))
          ∙ (is.top.written.bytes
          ∙ (ap (λ o. btree_bytes o after.size 0 (length after.pages - 1) master) after_order
          ∙ (ap (λ n. btree_bytes order n 0 (length after.pages - 1) master) after_size
          ∙ (ap (λ n. btree_bytes order size 0 n master) last
          ∙ ap (btree_bytes order size 0 (last_page size sections)) master_at))));
      names_laid_out =
          subst (λ n. TreeIsIn Btree (settings_of_master size order) image (entries_from n sections) 1) first_is
          (subst (TreeIsIn Btree (settings_of_master size order) image (entries_from first sections)) root_at
          (subst (λ n. TreeIsIn Btree (settings_of_master n order) image (entries_from first sections) out.master_is.root) one_size
          (subst (λ o. TreeIsIn Btree (settings_of_master one.size o) image (entries_from first sections) out.master_is.root) one_order
          (out.master_is.tree image (subst (λ n. HasPagesOf topped (between n first) image) (sym one_page) has_top)))));
      metas =
          subst (λ n. HaveMetas size order image (last_page size sections) n sections) first_is
          (subst (HaveMetas size order image (last_page size sections) first) out.databases.sections_are
          (have_metas size order image (last_page size sections) built after base (length built.pages) first row laid written
          (record {
            after_size = after_size;
            after_order = after_order;
            built_size = built_size;
            built_order = built_order;
            last = last;
            page_in = page_in;
            has = λ from end low high. has_high from end (omega (arith, low, base_is, some)) low high;
          })
          (omega (arith, counts.0, base_is, grown, many.count))));
      databases =
          entries_name_databases size order first sections top tail image is.named some few refl joints_ok
          (head.tells.size ∙ after_size) (head.tells.order ∙ after_order) sound.holds sound.named;
      tables = all_built (file_of image) joints entries (databases (file_of image)) tables sound.named;
    }
  where
    out : IsLaidOut sections empty one topped spaced built master beyond metas
    out = is.laid_out

    row : List Laid
    row = out.databases.row

    counts : (length row ≡ length sections) × (length metas ≡ length sections)
    counts = rows_long sections spaced built metas out.databases

    one_page : length one.pages ≡ 1
    one_page = (first_zero empty one out.none out.one_is).1

    -- sizes and orders
    one_size : one.size ≡ size
    one_size = ap (λ (b : Built). b.size) out.one_is ∙ is.size_is

    one_order : one.order ≡ order
    one_order = ap (λ (b : Built). b.order) out.one_is ∙ is.order_is

    built_size : built.size ≡ size
    built_size = out.databases.kept.size ∙ (out.added.kept.size ∙ (out.master_is.kept.size ∙ one_size))

    built_order : built.order ≡ order
    built_order = out.databases.kept.order ∙ (out.added.kept.order ∙ (out.master_is.kept.order ∙ one_order))

    many : AreAsMany built after
    many = many_again built filled after is.put.many is.top.many

    after_size : after.size ≡ size
    after_size = many.size ∙ built_size

    after_order : after.order ≡ order
    after_order = many.order ∙ built_order

    -- numbers of pages
    first : ℕ
    first = length topped.pages

    base : ℕ
    base = length spaced.pages

    first_is : first ≡ 1 + names_pages size sections
    first_is = out.master_is.count ∙ (ap (λ n. n + names_pages one.size sections) one_page ∙ ap (λ n. 1 + names_pages n sections) one_size)

    some : 1 ≤ first
    some = omega (arith, first_is)

    base_is : base ≡ first + length sections
    base_is = out.added.many

    few : first + length sections ≤ 2 ^ 32
    few = omega (arith, base_is, out.beyond_is, is.few)

    start : beyond - length metas ≡ first
    start = omega (arith, base_is, out.beyond_is, counts.1)

    grown : base ≤ length built.pages
    grown = out.databases.kept.grows

    -- joints
    laid : AreLaid built base (length built.pages) row
    laid = out.databases.laid

    entries : List (ListKey × List ℕ)
    entries = listed (entries_from first sections)

    tail : List Joint
    tail = joints_from first row

    top : Joint
    top = record { meta = 0; part = part_between 1 first (BtreeFields master) entries }

    joints : List Joint
    joints = top ∷ tail

    joints_ok : AreJointsFrom size order first sections tail
    joints_ok =
        subst (λ n. AreJointsFrom n order first sections tail) built_size
        (subst (λ o. AreJointsFrom built.size o first sections tail) built_order
        (subst (λ ss. AreJointsFrom built.size built.order first ss tail) out.databases.sections_are
        (joints_are built base (length built.pages) first row laid)))

    -- the master
    holds_top : HoldsPart built 1 first (BtreeFields master) entries
    holds_top =
        holds_still topped built 1 first (BtreeFields master) entries (kept_again topped spaced built out.added.kept out.databases.kept)
        (subst (λ n. HoldsPart topped n first (BtreeFields master) entries) one_page out.master_is.holds)

    said : IsMasterMeta one.size one.order out.master_is.root
    said = master_is_said one.size one.order out.master_is.root

    spells : SpellsMeta after 0 (bytes_of after 0) master
    spells = record {
      bytes = is.top.written.bytes;
      fields = is.top.written.fields;
      flags = ap (λ (m : BtreeMeta). first_row (flag_rows 0 m.flags)) out.master_is.meta_is ∙ said.no_row;
    }

    -- the databases
    written : AreWrittenFrom after first (map (λ (l : Laid). l.meta) row)
    written =
        still_written filled after first (map (λ (l : Laid). l.meta) row) is.top.many
        (λ p above. is.top.same p (λ e. omega (arith, above, some, e)))
        (subst (AreWrittenFrom filled first) (sym out.databases.metas_are)
        (subst (λ n. AreWrittenFrom filled n (reverse metas)) start is.put.written))

    from_row : (j : Joint) → Contains tail j → IsOfRow built after base (length built.pages) first (length row) j
    from_row j at = of_row built after base (length built.pages) first row j laid written at

    -- pages that are no metadata
    unchanged : (p : ℕ) → 1 ≤ p → (p < first) ⊎ (base ≤ p) → bytes_of after p ≡ bytes_of built p
    unchanged p above outside =
        is.top.same p (λ e. omega (arith, above, e))
        ∙ is.put.same p (elim outside [ inl low ↦ inl (omega (arith, low, start)) | inr high ↦ inr (omega (arith, high, out.beyond_is)) ])

    inside_top : (j : Joint) (p : ℕ) → top ≡ j → j.part.pages p ≡ true → (1 ≤ p) × (p < first)
    inside_top j p here inside = between_is 1 first p (ap (λ (k : Joint). k.part.pages p) here ∙ inside)

    inside_tail : (j : Joint) (p : ℕ) → Contains tail j → j.part.pages p ≡ true → (base ≤ p) × (p < length built.pages)
    inside_tail j p at inside = inside_row built base (length built.pages) first row j p laid at inside

    same : (j : Joint) (p : ℕ) → Contains joints j → j.part.pages p ≡ true → bytes_of after p ≡ bytes_of built p
    same j p at inside = elim (member_cases top tail j at) [
      | inl here ↦ let bounds = inside_top j p here inside in unchanged p bounds.0 (inl bounds.1)
      | inr later ↦ let bounds = inside_tail j p later inside in unchanged p (omega (arith, bounds.0, base_is, some)) (inr bounds.0)
    ]

    formed : (j : Joint) (p : ℕ) → Contains joints j → j.part.pages p ≡ true → page_code built.order p (bytes_of built p) ≡ None
    formed j p at inside = elim (member_cases top tail j at) [
      | inl here ↦ let bounds = inside_top j p here inside in holds_top.formed p bounds.0 bounds.1
      | inr later ↦
          let of : IsOfRow built after base (length built.pages) first (length row) j = from_row j later in
          let bounds = between_is of.laid.from of.laid.beyond p (sym (ap (λ (k : Joint). k.part.pages p) of.is) ∙ inside) in
          of.stands.holds.formed p bounds.0 bounds.1
    ]

    parts : (j : Joint) → Contains joints j → (g : File) → IsCounted g → IsLater j.part.pages (file_so_far built) g → IsPart g j.part
    parts j at g counted so_late = elim (member_cases top tail j at) [
      | inl here ↦
          subst (λ (k : Joint). IsPart g k.part) here
          (holds_top.part g counted (subst (λ (k : Joint). IsLater k.part.pages (file_so_far built) g) (sym here) so_late))
      | inr later ↦
          let of : IsOfRow built after base (length built.pages) first (length row) j = from_row j later in
          subst (λ (k : Joint). IsPart g k.part) (sym of.is)
          (of.stands.holds.part g counted (subst (λ (k : Joint). IsLater k.part.pages (file_so_far built) g) of.is so_late))
    ]

    unsorted_in : (j : Joint) → Contains joints j → (g : File) → IsCounted g → IsLater j.part.pages (file_so_far built) g
        → HasBuiltTable g j.part.fields
    unsorted_in j at g counted so_late = elim (member_cases top tail j at) [
      | inl here ↦ subst (λ (k : Joint). HasBuiltTable g k.part.fields) here tt
      | inr later ↦
          let of : IsOfRow built after base (length built.pages) first (length row) j = from_row j later in
          subst (λ (k : Joint). HasBuiltTable g k.part.fields) (sym of.is)
          (of.stands.holds.buckets g counted (subst (λ (k : Joint). IsLater k.part.pages (file_so_far built) g) of.is so_late))
    ]

    spelled : (j : Joint) → Contains joints j → IsSpelled after j
    spelled j at = elim (member_cases top tail j at) [
      | inl here ↦
          subst (IsSpelled after) here
          (btrees_are_spelled after top master is.top.pages (omega (arith, is.top.pages.some)) refl spells
          (λ zero. ap (λ (m : BtreeMeta). m.free) out.master_is.meta_is))
      | inr later ↦
          let of : IsOfRow built after base (length built.pages) first (length row) j = from_row j later in
          subst (IsSpelled after) (sym of.is)
          (of.stands.spelled after of.place is.top.pages (omega (arith, of.low, some))
          (omega (arith, of.high, counts.0, base_is, grown, many.count)) (omega (arith, of.within, many.count)) of.written)
    ]

    -- pages are shared out
    each : (p : ℕ) → p ≤ (file_so_far after).last → IsMetaOf joints p ⊎ IsInPartOf joints p
    each p low = elim (cases_lt p first) [
      | inl below ↦ elim (cases_lt 0 p) [
        | inl above ↦ inr (top, first_member top tail, is_between 1 first p above below)
        | inr none ↦ inl (top, first_member top tail, (let e : 0 ≡ p = omega (arith, none) in e))
      ]
      | inr above ↦ elim (cases_lt p base) [
        | inl below ↦
            let meta : IsMetaOf tail p = metas_cover first row p above (omega (arith, below, base_is, counts.0)) in
            inl (meta.0, later_member top tail meta.0 meta.1, meta.2)
        | inr high ↦
            let part : IsInPartOf tail p =
            row_covers built base (length built.pages) first row p laid high (omega (arith, low, many.count, is.top.pages.some)) in
            inr (part.0, later_member top tail part.0 part.1, part.2)
      ]
    ]

    meta_there : (j : Joint) → Contains joints j → j.meta ≤ (file_so_far after).last
    meta_there j at = elim (member_cases top tail j at) [
      | inl here ↦ let e : 0 ≡ j.meta = ap (λ (k : Joint). k.meta) here in omega (arith, e)
      | inr later ↦
          let of : IsOfRow built after base (length built.pages) first (length row) j = from_row j later in
          let e : j.meta ≡ of.place = ap (λ (k : Joint). k.meta) of.is in
          omega (arith, e, of.high, counts.0, base_is, grown, many.count)
    ]

    one_part : (j k : Joint) (p : ℕ) → Contains joints j → Contains joints k → j.part.pages p ≡ true → k.part.pages p ≡ true → j ≡ k
    one_part j k p in_j in_k of_j of_k = elim (member_cases top tail j in_j) [
      | inl j_top ↦ elim (member_cases top tail k in_k) [
        | inl k_top ↦ sym j_top ∙ k_top
        | inr k_tail ↦
            let low = inside_top j p j_top of_j in
            let high = inside_tail k p k_tail of_k in absurd (omega (arith, low.1, high.0, base_is))
      ]
      | inr j_tail ↦ elim (member_cases top tail k in_k) [
        | inl k_top ↦
            let low = inside_top k p k_top of_k in
            let high = inside_tail j p j_tail of_j in absurd (omega (arith, low.1, high.0, base_is))
        | inr k_tail ↦ row_apart built base (length built.pages) first row j k p laid j_tail k_tail of_j of_k
      ]
    ]

    filed : AreFiled built after joints
    filed = record {
      pages = is.top.pages;
      order = many.order;
      grows = sym many.count;
      first = (top, first_member top tail, refl);
      top = master;
      spells = spells;
      shared_out = record { each = each; meta_there = meta_there; one_part = one_part };
      spelled = spelled;
      same = same;
      parts = parts;
      formed = formed;
    }

    -- the image
    joined : IsJoined image joints
    joined = filed_parts_are_joined built after joints image filed is.image_is

    under : IsUnderMaster (file_of image) joints master entries
    under = record {
      is = joined.joined.named top (first_member top tail);
      master = ap names_databases out.master_is.meta_is ∙ said.master;
      plain = ap (λ m. has_duplicates (BtreeFields m)) out.master_is.meta_is ∙ said.plain;
      list = let part : IsPart (file_of image) top.part = joined.joined.parts top (first_member top tail) in part.list;
      named = entries_name_metas size order first sections top tail is.named some few refl joints_ok;
    }

    sound : IsSoundUnderMaster image joints entries
    sound = joins_all image joints master entries joined under

    head : HasHead after image
    head = has_head after master image (record { pages = is.top.pages; spells = spells; image_is = is.image_is })

    tables : (j : Joint) → Contains joints j → HasBuiltTable (file_of image) j.part.fields
    tables j at =
        subst (λ g. HasBuiltTable g j.part.fields)
        (sym (read_back after master image (record { pages = is.top.pages; spells = spells; image_is = is.image_is })))
        (unsorted_in j at (file_so_far after) (counted_so_far after is.top.pages.some) (filed_later built after joints j filed at))

    -- the pages of the image
    file_is : file_of image ≡ file_so_far after
    file_is = read_back after master image (record { pages = is.top.pages; spells = spells; image_is = is.image_is })

    page_in : (p : ℕ) → p < length after.pages → page_bytes (head_of image) image p ≡ bytes_of after p
    page_in p low = page_read after image (head_of image) p is.top.pages.whole is.image_is head.tells.size low

    image_counted : IsCounted (file_of image)
    image_counted = subst IsCounted (sym file_is) (counted_so_far after is.top.pages.some)

    has_still : (from beyond : ℕ) → ((p : ℕ) → from ≤ p → p < beyond → (p < length built.pages) × (bytes_of after p ≡ bytes_of built p))
        → HasPagesOf built (between from beyond) image
    has_still from beyond same =
        let stays = λ (p : ℕ) (at : between from beyond p ≡ true). let within = between_is from beyond p at in same p within.0 within.1 in
        record {
          counted = image_counted;
          later =
              subst (IsLater (between from beyond) (file_so_far built)) (sym file_is)
              (later_in built after (between from beyond) (between from beyond) (file_so_far after) many.order (omega (arith, many.count)) (λ p at. at)
              stays (later_self after (between from beyond)));
          order = head.tells.order ∙ many.order;
          same = λ p at there. page_in p (omega (arith, there, many.count)) ∙ (stays p at).1;
        }

    has_high : (from beyond : ℕ) → 1 ≤ from → base ≤ from → beyond ≤ length built.pages → HasPagesOf built (between from beyond) image
    has_high from beyond above low high =
        has_still from beyond
        (λ p start end. (omega (arith, end, high), unchanged p (omega (arith, above, start)) (inr (omega (arith, low, start)))))

    has_top : HasPagesOf topped (between 1 first) image
    has_top =
        has_before topped built 1 first image (omega arith) (kept_again topped spaced built out.added.kept out.databases.kept)
        (has_still 1 first (λ p start end. (omega (arith, end, base_is, grown), unchanged p start (inl end))))

    root_at : out.master_is.root ≡ 1
    root_at = out.master_is.root_is ∙ one_page

    master_at : master ≡ named_tree_meta (settings_of_master size order) 1
    master_at =
        out.master_is.meta_is
        ∙ (ap (λ n. named_tree_meta (settings_of_master n one.order) out.master_is.root) one_size
        ∙ (ap (λ o. named_tree_meta (settings_of_master size o) out.master_is.root) one_order
        ∙ ap (named_tree_meta (settings_of_master size order)) root_at))

    summed : sum_by (section_pages built.size) (map (λ (l : Laid). l.section) row) ≡ sum_by (section_pages size) sections
    summed =
        ap (sum_by (section_pages built.size)) out.databases.sections_are
        ∙ ap (λ n. sum_by (section_pages n) sections) built_size

    pages : length after.pages ≡ 1 + names_pages size sections + sum_by (section_pages size) sections
    pages =
        omega (arith, row_pages built base (length built.pages) row laid, summed, counts.0, base_is, first_is, many.count)

    last : length after.pages - 1 ≡ last_page size sections
    last = omega (arith, pages)

    long : length image ≡ (1 + names_pages size sections + sum_by (section_pages size) sections) * size
    long =
        ap length is.image_is
        ∙ ((all_size after.size after.pages is.top.pages.whole).1
        ∙ (ap (λ n. n * after.size) pages
        ∙ ap (λ n. (1 + names_pages size sections + sum_by (section_pages size) sections) * n) after_size))
