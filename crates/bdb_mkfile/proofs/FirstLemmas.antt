-- An image whose page 0 is metadata that is written over it.
use Rattle.std.proofs.Common.{◌≡◌, ℕ, ◌-◌, ◌*◌, List, [], ◌++◌, length, set, take, append_assoc, arith, sym, ◌∙◌, ap, subst}
use Rattle.bdb_mkfile.proofs.Common.{append-nil, length-set, take_at, Head, common_bytes, head_of, size_bounds, AreWhole, Built, joined_pages, with_page, all_size, page_whole, AreLegal, ReadsAs}
use Rattle.bdb_mkfile.proofs.Common.{reads_common, IsImage, image_head, begins}
use Rattle.bdb_io.specs.of_format.declared.metadata.FileKind.{FileKind}

-- the image of pages after metadata of a kind is written over page 0
pub record IsUnderMeta (built : Built) (kind : FileKind) (page image : List ℕ) : Type 0 where
  pub pages : AreLegal built
  pub free : ℕ
  pub flags : ℕ
  pub behind : List ℕ
  pub bytes : page ≡ common_bytes built.order kind built.size 0 free (length built.pages - 1) flags ++ behind
  pub long : length page ≡ built.size
  pub image_is : image ≡ joined_pages (with_page built 0 page).pages

abbrev pub head_for : Built → FileKind → Head
head_for built kind = record {
  order = built.order;
  page_size = built.size;
  kind = kind;
  last = length built.pages - 1;
  pages = length built.pages;
}

-- what is read of bytes that begin with that page
reads_on : (built : Built) (kind : FileKind) (page image rest : List ℕ) → IsUnderMeta built kind page image
    → ReadsAs (head_for built kind) 0 (page ++ rest)
reads_on built kind page image rest is =
    let common : List ℕ = common_bytes built.order kind built.size 0 is.free (length built.pages - 1) is.flags in
    let same : page ++ rest ≡ common ++ (is.behind ++ rest) = ap (λ bs. bs ++ rest) is.bytes ∙ append_assoc common is.behind rest in
    subst (ReadsAs (head_for built kind) 0) (sym same)
    (reads_common (head_for built kind) 0 is.free is.flags (is.behind ++ rest) (omega (arith, (size_bounds built.size is.pages.legal).1))
    (omega arith) (omega (arith, is.pages.few, is.pages.some)))

pub reads_page : (built : Built) (kind : FileKind) (page image : List ℕ) → IsUnderMeta built kind page image
    → ReadsAs (head_for built kind) 0 page
reads_page built kind page image is = subst (ReadsAs (head_for built kind) 0) (append-nil page) (reads_on built kind page image [] is)

pub still_whole : (built : Built) (kind : FileKind) (page image : List ℕ) → IsUnderMeta built kind page image → AreWhole (with_page built 0 page)
still_whole built kind page image is = page_whole built 0 page is.pages.whole (omega (arith, is.pages.some)) is.long

pub image_length : (built : Built) (kind : FileKind) (page image : List ℕ) → IsUnderMeta built kind page image
    → length image ≡ length built.pages * built.size
image_length built kind page image is =
    ap length is.image_is
    ∙ ((all_size built.size (set built.pages 0 page) (still_whole built kind page image is)).1
    ∙ ap (λ n. n * built.size) (length-set built.pages 0 page))

pub image_first : (built : Built) (kind : FileKind) (page image : List ℕ) → IsUnderMeta built kind page image → take built.size image ≡ page
image_first built kind page image is =
    let first = begins built.pages page is.pages.some in
    ap (take built.size) (is.image_is ∙ first.1) ∙ take_at page first.0 built.size is.long

pub says_head : (built : Built) (kind : FileKind) (page image : List ℕ) → IsUnderMeta built kind page image → IsImage (head_for built kind) image
says_head built kind page image is =
    let first = begins built.pages page is.pages.some in
    record {
      reads = subst (ReadsAs (head_for built kind) 0) (sym (is.image_is ∙ first.1)) (reads_on built kind page image first.0 is);
      legal = is.pages.legal;
      long = image_length built kind page image is;
      whole = omega (arith, is.pages.some);
    }

pub head_is : (built : Built) (kind : FileKind) (page image : List ℕ) → IsUnderMeta built kind page image → head_of image ≡ head_for built kind
head_is built kind page image is = image_head (head_for built kind) image (says_head built kind page image is)
