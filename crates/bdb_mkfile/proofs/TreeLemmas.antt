-- A tree under the metadata that is written over page 0.
use Rattle.std.proofs.Common.{◌≡◌, ℕ, ◌+◌, ◌-◌, ◌*◌, ◌<◌, ◌≤◌, ◌^◌, true, List, [], ◌∷◌, length, replicate, take, Bool, arith, refl, sym, ◌∙◌, ap, subst, length-append, IsTrue}
use Rattle.bdb_mkfile.proofs.Common.{length-set, take_at, Order, BtreeMeta, Settings, BtreeFields, btree_bytes, btree_fields, file_of, head_of, is_page_size, is_zero, settings_of, size_bounds, Pair}
use Rattle.bdb_mkfile.proofs.Common.{listed, IsCounted, IsLater, between, between_is, AreWhole, Built, bytes_of, file_so_far, joined_pages, with_page, with_zeros, written_over, added_zero, all_size}
use Rattle.bdb_mkfile.proofs.Common.{page_whole, written_whole, counted_so_far, IsSoundAlone, page_read, HasHead, HoldsTree, IsWritten, tree_part, AreTreesIn, HasPagesOf, tree_size, TreeUnit}
use Rattle.bdb_mkfile.proofs.Common.{LeafType, later_self, trees_are_in, later_before, begins, IsTreeBuilt, units_in, is_counted, leaf_type_of, tree_pages, IsTreeImage, IsTreeSettings, tree_first}
use Rattle.bdb_mkfile.proofs.Common.{file_settings, tree_meta, length-btree}
use Rattle.bdb_need.proofs.of_law_join.WrittenLemmas.{above_stay, written_pages_are_read, written_trees_are_sound}
use Rattle.bdb_mkfile.proofs.SettingsLemmas.{SaysSettings, says_settings}

-- the metadata of page 0 as it is written through the lent page
pub first_written : (old : Built) (page written : List ℕ) (order : Order) (last : ℕ) (meta : BtreeMeta) → 1 ≤ length old.pages → AreWhole old
    → IsTrue (is_page_size old.size) → order ≡ old.order → last ≡ length old.pages - 1 → page ≡ bytes_of old 0
    → written ≡ btree_bytes order (length page) 0 last meta
    → written_over old 0 written ≡ with_page old 0 (btree_bytes old.order old.size 0 (length old.pages - 1) meta)
first_written old page written order last meta some whole legal ordered counted lent is =
    grind (arith, btree_bytes, written_over, written_whole, length-btree, size_bounds)

-- Pages of a tree above a page kept for its metadata, and that metadata.
pub record IsTopped (settings : Settings) (list : List Pair) (old built : Built) (root : ℕ) (meta : BtreeMeta) : Type 0 where
  pub fit : IsTreeSettings settings
  pub own : settings ≡ file_settings settings
  pub size : built.size ≡ settings.page_size
  pub order : built.order ≡ settings.order
  pub legal : IsTrue (is_page_size built.size)
  pub whole : AreWhole built
  pub few : length built.pages ≤ 2 ^ 32
  pub tree : IsTreeBuilt settings 1 old built (units_in settings.kind list) (listed list) root
  pub meta_is : meta ≡ tree_meta settings root
  pub fields : btree_fields built.order (btree_bytes built.order built.size 0 (length built.pages - 1) meta) ≡ meta

says : (settings : Settings) (list : List Pair) (old built : Built) (root : ℕ) (meta : BtreeMeta) → IsTopped settings list old built root meta
    → SaysSettings settings meta
says settings list old built root meta is =
    subst (λ m. SaysSettings settings m) (sym is.meta_is)
    (subst (λ s. SaysSettings s (tree_meta s root)) (sym is.own) (says_settings settings root is.fit))

-- then the image is that of the tree
pub topped_image : (settings : Settings) (list : List Pair) (old built : Built) (root : ℕ) (meta : BtreeMeta) (image : List ℕ)
    → IsTopped settings list old built root meta
    → image ≡ joined_pages (with_page built 0 (btree_bytes built.order built.size 0 (length built.pages - 1) meta)).pages
    → IsTreeImage settings list image
topped_image settings list old built root meta image is image_is =
    let page : List ℕ = btree_bytes built.order built.size 0 (length built.pages - 1) meta in
    let said : SaysSettings settings meta = says settings list old built root meta is in
    let some : 1 ≤ length built.pages = omega (arith, is.tree.count) in
    let low : 0 < length built.pages = omega (arith, some) in
    let holds : HoldsTree built meta (listed list) = record {
      part = λ g counted later.
          is.tree.part g meta counted later
          (ap (λ n. settings_of n built.order (BtreeFields meta)) is.size
          ∙ (ap (λ o. settings_of settings.page_size o (BtreeFields meta)) is.order ∙ said.settings_are))
          (ap (λ (m : BtreeMeta). m.root) is.meta_is);
      formed = is.tree.formed;
      no_free = ap (λ (m : BtreeMeta). m.free) is.meta_is;
      no_master = said.no_master;
    } in
    let written : IsWritten built page meta image = record {
      pages = record { legal = is.legal; some = some; few = is.few; whole = is.whole };
      spells = record { bytes = refl; fields = is.fields; flags = said.no_row };
      image_is = image_is;
    } in
    let alone : IsSoundAlone image (tree_part built meta (listed list)) = written_trees_are_sound built page meta (listed list) image holds written in
    let head : HasHead (with_page built 0 page) image = (written_pages_are_read built page meta image written).0 in
    let fills : length page ≡ built.size =
    length-btree built.order built.size 0 (length built.pages - 1) meta (omega (arith, (size_bounds built.size is.legal).0)) in
    let units : List TreeUnit = units_in settings.kind list in
    let type : LeafType = leaf_type_of settings.kind in
    let counted : Bool = is_counted settings.kind settings.recnum in
    let meta_at : meta ≡ tree_meta settings 1 = is.meta_is ∙ ap (tree_meta settings) is.tree.root_is in
    let after : Built = with_page built 0 page in
    let count : length after.pages ≡ length built.pages = length-set built.pages 0 page in
    -- the pages above page 0 stand in the image
    let kept : IsCounted (file_of image) × IsLater (between 1 (length built.pages)) (file_so_far built) (file_of image) =
    subst (λ g. IsCounted g × IsLater (between 1 (length built.pages)) (file_so_far built) g)
    (sym (written_pages_are_read built page meta image written).1) (
      counted_so_far after (omega (arith, count, some)),
      later_before built after (between 1 (length built.pages)) (between 1 (length built.pages)) (file_so_far after) refl (omega (arith, count))
          (λ p at. at)
          (λ p at. let within = between_is 1 (length built.pages) p at in (within.1, above_stay built page p within.0))
          (later_self after (between 1 (length built.pages))),
    ) in
    let has_pages : HasPagesOf built (between 1 (length built.pages)) image = record {
      counted = kept.0;
      later = kept.1;
      order = head.tells.order;
      same = λ p at there.
          page_read after image (head_of image) p (page_whole built 0 page is.whole low fills) image_is head.tells.size (omega (arith, there, count))
          ∙ above_stay built page p (between_is 1 (length built.pages) p at).0;
    } in
    let last : length built.pages - 1 ≡ tree_pages settings list = omega (arith, is.tree.count, ap (λ n. tree_size type n settings.sorted units) is.size) in
    let first : take settings.page_size image ≡ tree_first settings list =
    let begun = begins built.pages page some in
    ap (λ n. take n image) (sym is.size)
    ∙ (ap (take built.size) (image_is ∙ begun.1)
    ∙ (take_at page begun.0 built.size fills
    ∙ (ap (λ o. btree_bytes o built.size 0 (length built.pages - 1) meta) is.order
    ∙ (ap (λ n. btree_bytes settings.order n 0 (length built.pages - 1) meta) is.size
    ∙ (ap (λ n. btree_bytes settings.order settings.page_size 0 n meta) last
    ∙ ap (btree_bytes settings.order settings.page_size 0 (tree_pages settings list)) meta_at))))) in
    let long : length image
    ≡ (1 + tree_size (leaf_type_of settings.kind) settings.page_size settings.sorted (units_in settings.kind list)) * settings.page_size =
    ap length image_is
    ∙ ((all_size built.size (with_page built 0 page).pages (page_whole built 0 page is.whole low fills)).1
    ∙ (ap (λ n. n * built.size) (length-set built.pages 0 page ∙ is.tree.count)
    ∙ ap (λ n. (1 + tree_size (leaf_type_of settings.kind) n settings.sorted (units_in settings.kind list)) * n) is.size)) in
    record {
      sound = alone.verdict;
      size = long;
      first_is = first;
      laid_out =
          subst (AreTreesIn type image settings.page_size counted units) is.tree.root_is
          (subst (λ n. AreTreesIn type image n counted units root) is.size
          (trees_are_in type built (between 1 (length built.pages)) counted units root is.tree.laid_out is.tree.sets_laid_out image has_pages));
      fields = BtreeFields meta;
      fields_are = ap (λ m. BtreeFields m) meta_at;
      alone = alone.alone;
      settings_are =
          ap (λ n. settings_of n (head_of image).order (BtreeFields meta)) (head.tells.size ∙ is.size)
          ∙ (ap (λ o. settings_of settings.page_size o (BtreeFields meta)) (head.tells.order ∙ is.order) ∙ said.settings_are);
      list = alone.list;
    }

-- page 0 is a zero page still
pub still_zero : (old built : Built) → IsTrue (is_zero (bytes_of old 0)) → bytes_of built 0 ≡ bytes_of old 0 → IsTrue (is_zero (bytes_of built 0))
still_zero old built zero same = subst (λ bytes. IsTrue (is_zero bytes)) (sym same) zero

-- the first page of all is a zero page
pub first_zero : (none one : Built) → none.pages ≡ [] → one ≡ with_zeros none → (IsTrue (is_zero (bytes_of one 0))) × (length one.pages ≡ 1)
first_zero none one empty is =
    let count : length none.pages ≡ 0 = ap length empty in
    let zero : is_zero (bytes_of one 0) ≡ true =
    ap (λ (b : Built). is_zero (bytes_of b 0)) is ∙ (ap (λ n. is_zero (bytes_of (with_zeros none) n)) (sym count) ∙ added_zero none) in
    let long : length one.pages ≡ 1 =
    ap (λ (b : Built). length b.pages) is ∙ (length-append none.pages (replicate none.size 0 ∷ []) ∙ ap (λ n. n + 1) count) in
    (zero, long)
