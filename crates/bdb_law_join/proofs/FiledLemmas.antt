-- Parts whose metadata is written on pages of their own.
use Rattle.std.proofs.Common.{◌≡◌, ℕ, ◌-◌, ◌<◌, ◌≤◌, true, List, [], ◌∷◌, ◌++◌, length, map, None, get_or, arith, append_assoc, refl, sym, ◌∙◌, ap, subst, inl}
use Rattle.std.proofs.Common.{inr, length-append, Contains}
use Rattle.std.proofs.lemmas.Bool.{cases_lt}
use Rattle.std.proofs.lemmas.List.{append-nil, get_or_past, length-map, length-replicate}
use Rattle.bdb_pack.proofs.ImageLemmas.{counted_so_far, page_so_far}
use Rattle.bdb_graph.proofs.of_format.TypeLemmas.{byte_as}
use Rattle.bdb_graph.specs.of_format.declared.kinds.Order.{Order}
use Rattle.bdb_graph.specs.of_format.declared.metadata.BtreeMeta.{BtreeMeta}
use Rattle.bdb_graph.specs.of_format.declared.metadata.FileKind.TheVariants.{Btree}
use Rattle.bdb_graph.specs.of_format.declared.metadata.Head.{Head}
use Rattle.bdb_graph.specs.of_format.Terms.{BtreeFields, Meta, NoType, abstract_page, btree_bytes, common_bytes, file_of, form_code, head_of, is_meta}
use Rattle.bdb_graph.specs.of_format.Terms.{is_page_size, last_field, page_at, page_code, spelled, zeros}
use Rattle.bdb_graph.proofs.of_format.SpellingLemmas.{length-spelled}
use Rattle.bdb_graph.proofs.of_format.SizeLemmas.{size_bounds}
use Rattle.bdb_graph.proofs.of_image.CodeLemmas.{tree_passed}
use Rattle.bdb_graph.proofs.of_image.HeldLemmas.{table_page, tree_page}
use Rattle.bdb_pack.specs.of_law_grove.Growing.{IsLater}
use Rattle.bdb_graph.proofs.of_meta.CommonLemmas.{length-common}
use Rattle.bdb_pack.specs.Built.{Built, bytes_of, file_so_far, joined_pages}
use Rattle.bdb_pack.proofs.CutLemmas.{all_size}
use Rattle.bdb_law_join.specs.Filed.{AreFiled, BtreesAreSpelled, FiledPartsAreJoined, IsSpelled, head_for}
use Rattle.bdb_law_join.specs.Joining.{AreJoined, Joint, free_of}
use Rattle.bdb_law_join.specs.Written.{AreLegal, HasHead, SpellsMeta}
use Rattle.bdb_law_join.proofs.CommonLemmas.{ReadsAs, reads_common}
use Rattle.bdb_law_join.proofs.HeadLemmas.{IsBtreePage, IsImage, head_accepted, image_head, page_accepted}
use Rattle.bdb_law_join.proofs.ReadLemmas.{images_are_read, page_read}
use Rattle.bdb_law_join.proofs.RoleLemmas.{no_meta_inside}

-- A page of metadata.

-- metadata fills its page
pub length-btree : (order : Order) (size number last : ℕ) (meta : BtreeMeta) → 92 ≤ size → length (btree_bytes order size number last meta) ≡ size
unfolding btree_bytes
length-btree order size number last meta least = simp (length-append, length-spelled, length-replicate {A = ℕ}, length-common) (omega arith)

pub page_length : (built : Built) (number : ℕ) (page : List ℕ) (meta : BtreeMeta) → AreLegal built → SpellsMeta built number page meta
    → length page ≡ built.size
page_length built number page meta pages spells = grind (arith, length-btree, size_bounds)

-- what is read from such a page, and from bytes that begin with it
reads_page : (built : Built) (number : ℕ) (page : List ℕ) (meta : BtreeMeta) (rest : List ℕ) → AreLegal built → number < length built.pages
    → SpellsMeta built number page meta → ReadsAs (head_for built) number (page ++ rest)
unfolding btree_bytes
reads_page built number page meta rest pages there spells =
    let last : ℕ = length built.pages - 1 in
    let common : List ℕ = common_bytes built.order Btree built.size number meta.free (last_field number last) meta.flags in
    let behind : List ℕ =
    zeros 4 ++ (spelled 4 built.order meta.minkey ++ (spelled 4 built.order meta.re_len ++ (spelled 4 built.order meta.re_pad
    ++ (spelled 4 built.order meta.root ++ zeros (built.size - 92))))) in
    let is : page ++ rest ≡ common ++ (behind ++ rest) = ap (λ bs. bs ++ rest) spells.bytes ∙ append_assoc common behind rest in
    subst (ReadsAs (head_for built) number) (sym is)
    (reads_common (head_for built) number meta.free meta.flags (behind ++ rest) (omega (arith, (size_bounds built.size pages.legal).1))
    (omega (arith, there, pages.few)) (omega (arith, pages.few, pages.some)))

btree_page : (built : Built) (number : ℕ) (page : List ℕ) (meta : BtreeMeta) → AreLegal built → number < length built.pages
    → SpellsMeta built number page meta → IsBtreePage (head_for built) number page meta.flags
btree_page built number page meta pages there spells =
    record {
      reads = subst (ReadsAs (head_for built) number) (append-nil page) (reads_page built number page meta [] pages there spells);
      kind = refl;
      legal = pages.legal;
      long = page_length built number page meta pages spells;
      flags_are = ap (λ (m : BtreeMeta). m.flags) spells.fields;
      none = spells.flags;
    }

pub btrees_are_spelled : BtreesAreSpelled
btrees_are_spelled built joint meta pages there is spells no_free =
    let page : List ℕ = bytes_of built joint.meta in
    let legal : is_page_size (length page) ≡ true = ap is_page_size (page_length built joint.meta page meta pages spells) ∙ pages.legal in
    let btree : IsBtreePage (head_for built) joint.meta page meta.flags = btree_page built joint.meta page meta pages there spells in
    record {
      says = tree_page built.order page legal btree.reads.type ∙ (ap (λ m. Meta (BtreeFields m)) spells.fields ∙ sym (ap (λ f. Meta f) is));
      formed = page_accepted (head_for built) joint.meta page meta.flags btree;
      no_free = λ zero. ap free_of is ∙ no_free zero;
    }

-- The image.

-- the image of pages with metadata on page 0
pub record IsTopped (built : Built) (meta : BtreeMeta) (image : List ℕ) : Type 0 where
  pub pages : AreLegal built
  pub spells : SpellsMeta built 0 (bytes_of built 0) meta
  pub image_is : image ≡ joined_pages built.pages

-- joined pages begin with page 0
begins : (pages : List (List ℕ)) → 1 ≤ length pages → (rest : List ℕ) × (joined_pages pages ≡ get_or pages 0 [] ++ rest)
begins [] some = absurd (omega arith)
begins (page ∷ pages) some = (joined_pages pages, refl)

head_is : (built : Built) (meta : BtreeMeta) (image : List ℕ) → IsTopped built meta image → IsImage (head_for built) image
head_is built meta image is =
    let first = begins built.pages is.pages.some in
    record {
      reads = subst (ReadsAs (head_for built) 0) (sym (is.image_is ∙ first.1))
          (reads_page built 0 (bytes_of built 0) meta first.0 is.pages (omega (arith, is.pages.some)) is.spells);
      legal = is.pages.legal;
      long = ap length is.image_is ∙ (all_size built.size built.pages is.pages.whole).1;
      whole = omega (arith, is.pages.some);
    }

says_head : (built : Built) (meta : BtreeMeta) (image : List ℕ) → IsTopped built meta image → head_of image ≡ head_for built
says_head built meta image is = image_head (head_for built) image (head_is built meta image is)

pub has_head : (built : Built) (meta : BtreeMeta) (image : List ℕ) → IsTopped built meta image → HasHead built image
has_head built meta image is =
    let head : head_of image ≡ head_for built = says_head built meta image is in
    let btree : (head_of image).kind ≡ Btree = ap (λ (h : Head). h.kind) head in
    record {
      accepted = head_accepted (head_for built) image (head_is built meta image is);
      tells = record {
        size = ap (λ (h : Head). h.page_size) head;
        order = ap (λ (h : Head). h.order) head;
        last = omega (arith, ap (λ (h : Head). h.last) head, is.pages.some);
        pages = ap (λ (h : Head). h.pages) head;
        kind = λ queue. cc;
      };
      kind = btree;
    }

-- it is read back as its pages
pub read_back : (built : Built) (meta : BtreeMeta) (image : List ℕ) → IsTopped built meta image → file_of image ≡ file_so_far built
read_back built meta image is =
    let head = has_head built meta image is in images_are_read built image is.pages.whole is.image_is head.tells head.kind

-- The file.

no_page : (built : Built) (p : ℕ) → length built.pages ≤ p → page_at (file_so_far built) p ≡ NoType
no_page built p past =
    get_or_past (map (abstract_page built.order) built.pages) p NoType (omega (arith, past, length-map built.pages (abstract_page built.order)))

-- the pages of a part are as they were
stays : (before after : Built) (joints : List Joint) (j : Joint) (p : ℕ) → AreFiled before after joints → Contains joints j → j.part.pages p ≡ true
    → page_at (file_so_far after) p ≡ page_at (file_so_far before) p
stays before after joints j p filed member inside = grind (arith, cases_lt, page_so_far, no_page)

pub later : (before after : Built) (joints : List Joint) (j : Joint) → AreFiled before after joints → Contains joints j
    → IsLater j.part.pages (file_so_far before) (file_so_far after)
later before after joints j filed member =
    record {
      no_queue_before = λ queue. cc;
      no_queue = λ queue. cc;
      grows = omega (arith, filed.grows);
      same = λ p inside. inl (stays before after joints j p filed member inside);
    }

meta_there : (before after : Built) (joints : List Joint) (j : Joint) → AreFiled before after joints → Contains joints j → j.meta < length after.pages
meta_there before after joints j filed member = omega (arith, filed.shared_out.meta_there j member, filed.pages.some)

-- a metadata page is its metadata
named : (before after : Built) (joints : List Joint) (j : Joint) → AreFiled before after joints → Contains joints j
    → page_at (file_so_far after) j.meta ≡ Meta j.part.fields
named before after joints j filed member =
    let spelled : IsSpelled after j = filed.spelled j member in
    page_so_far after j.meta (meta_there before after joints j filed member) ∙ spelled.says

joined : (before after : Built) (joints : List Joint) → AreFiled before after joints → AreJoined (file_so_far after) joints
joined before after joints filed =
    record {
      forest = λ queue. cc;
      shared_out = filed.shared_out;
      parts = λ j member. filed.parts j member (file_so_far after) (counted_so_far after filed.pages.some) (later before after joints j filed member);
      named = λ j member. named before after joints j filed member;
      no_free = λ j member. let spelled : IsSpelled after j = filed.spelled j member in spelled.no_free;
    }

-- Form.

-- a page of a part has no row of form
part_formed : (before after : Built) (joints : List Joint) (j : Joint) (p : ℕ) → AreFiled before after joints → Contains joints j
    → j.part.pages p ≡ true → p < length after.pages → form_code (head_for after) p (bytes_of after p) ≡ None
part_formed before after joints j p filed member inside low =
    let all : AreJoined (file_so_far after) joints = joined before after joints filed in
    let page : List ℕ = bytes_of after p in
    let legal : is_page_size (length page) ≡ true = ap is_page_size (filed.pages.whole p low) ∙ filed.pages.legal in
    let no_meta : is_meta (abstract_page after.order page) ≡ true → ⊥ =
    λ found. no_meta_inside (file_so_far after) joints j p all member inside (ap is_meta (page_so_far after p low) ∙ found) in
    tree_passed (head_for after) p page (omega (arith, (all.parts j member).branch.grove.low p inside)) (λ queue. cc)
    (ap (λ o. page_code o p page) filed.order ∙ (ap (page_code before.order p) (filed.same j p member inside) ∙ filed.formed j p member inside))
    (λ table. no_meta (ap is_meta (table_page after.order page legal (byte_as _ _ table))))
    (λ tree. no_meta (ap is_meta (tree_page after.order page legal (byte_as _ _ tree))))

page_formed : (before after : Built) (joints : List Joint) (p : ℕ) → AreFiled before after joints → p < length after.pages
    → form_code (head_for after) p (bytes_of after p) ≡ None
page_formed before after joints p filed low =
    elim (filed.shared_out.each p (omega (arith, low))) [
      | inl (j, member, is) ↦
          let spelled : IsSpelled after j = filed.spelled j member in
          subst (λ q. form_code (head_for after) q (bytes_of after q) ≡ None) is spelled.formed
      | inr (j, member, inside) ↦ part_formed before after joints j p filed member inside low
    ]

-- page 0 is metadata of a btree
topped : (before after : Built) (joints : List Joint) (image : List ℕ) → (filed : AreFiled before after joints) → image ≡ joined_pages after.pages
    → IsTopped after filed.top image
topped before after joints image filed is = record { pages = filed.pages; spells = filed.spells; image_is = is }

pub filed_parts_are_joined : FiledPartsAreJoined
filed_parts_are_joined before after joints image filed is =
    let top = topped before after joints image filed is in
    let head : HasHead after image = has_head after filed.top image top in
    record {
      form = record {
        head = head.accepted;
        whole = head.tells.last ∙ sym head.tells.pages;
        formed = λ p high.
            let low : p < length after.pages = omega (arith, high, head.tells.last) in
            ap (form_code (head_of image) p) (page_read after image (head_of image) p filed.pages.whole is head.tells.size low)
            ∙ (ap (λ h. form_code h p (bytes_of after p)) (says_head after filed.top image top)
            ∙ page_formed before after joints p filed low);
      };
      joined = subst (λ f. AreJoined f joints) (sym (read_back after filed.top image top)) (joined before after joints filed);
    }
