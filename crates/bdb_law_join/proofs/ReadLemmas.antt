-- Pages that are joined are read back as they are.
use Rattle.std.proofs.Common.{◌≡◌, ℕ, ◌+◌, ◌*◌, ◌<◌, List, [], length, map, take, drop, get_or, arith, sym, ◌∙◌, ap}
use Rattle.std.specs.List.{range_with_len}
use Rattle.std.proofs.lemmas.List.{ext_get_or, get_or-map, length-map}
use Rattle.std.proofs.lemmas.List.FromFn.{get_or-map-range_with_len, length-map-range_with_len}
use Rattle.bdb_graph.specs.of_format.declared.metadata.FileKind.{FileKind}
use Rattle.bdb_graph.specs.of_format.declared.metadata.Head.{Head}
use Rattle.bdb_graph.specs.of_format.Terms.{File, NoType, Page, abstract_page, file_of, head_of, page_bytes}
use Rattle.bdb_pack.specs.Built.{AreWhole, Built, bytes_of, file_so_far, joined_pages}
use Rattle.bdb_pack.specs.Stored.{TellsPages}
use Rattle.bdb_pack.proofs.CutLemmas.{all_size, page_of_cut}
use Rattle.bdb_law_join.specs.Written.{ImagesAreRead}

-- the bytes of a page of the image are those of the list
pub page_read : (built : Built) (image : List ℕ) (head : Head) (p : ℕ) → AreWhole built → image ≡ joined_pages built.pages
    → head.page_size ≡ built.size → p < length built.pages → page_bytes head image p ≡ bytes_of built p
page_read built image head p whole is size low =
    let all = all_size built.size built.pages whole in
    ap (λ s. take s (drop (p * s) image)) size
    ∙ (ap (λ bs. take built.size (drop (p * built.size) bs)) is
    ∙ (sym (page_of_cut built.size (length built.pages) (joined_pages built.pages) p low) ∙ ap (λ ps. get_or ps p []) all.0))

same_file : (kind : FileKind) (size count last : ℕ) (pages : List Page) (b : File) → kind ≡ b.kind → size ≡ b.size → count ≡ b.count → last ≡ b.last
    → pages ≡ b.pages → record { kind = kind; size = size; count = count; last = last; pages = pages } ≡ b
same_file kind size count last pages b one two three four five = rw (one, two, three, four, five)

pages_read : (built : Built) (image : List ℕ) → AreWhole built → image ≡ joined_pages built.pages → TellsPages built image
    → map (λ p. abstract_page (head_of image).order (page_bytes (head_of image) image p)) (range_with_len 0 ((head_of image).last + 1))
    ≡ map (abstract_page built.order) built.pages
pages_read built image whole is tells =
    let head : Head = head_of image in
    let read : ℕ → Page = λ p. abstract_page head.order (page_bytes head image p) in
    let long : length (map read (range_with_len 0 (head.last + 1))) ≡ length built.pages =
    length-map-range_with_len read 0 (head.last + 1) ∙ tells.last in
    ext_get_or NoType (map read (range_with_len 0 (head.last + 1))) (map (abstract_page built.order) built.pages)
    (long ∙ sym (length-map built.pages (abstract_page built.order))) (λ p low.
    let inside : p < length built.pages = omega (arith, low, long) in
    get_or-map-range_with_len read 0 (head.last + 1) p p NoType (omega (arith, inside, tells.last)) (omega arith)
    ∙ (ap (λ o. abstract_page o (page_bytes head image p)) tells.order
    ∙ (ap (abstract_page built.order) (page_read built image head p whole is tells.size inside)
    ∙ sym (get_or-map (abstract_page built.order) built.pages p [] NoType inside))))

pub images_are_read : ImagesAreRead
unfolding file_of
images_are_read built image whole is tells kind =
    let head : Head = head_of image in
    same_file head.kind head.page_size head.pages head.last
    (map (λ p. abstract_page head.order (page_bytes head image p)) (range_with_len 0 (head.last + 1))) (file_so_far built)
    kind tells.size tells.pages (omega (arith, tells.last)) (pages_read built image whole is tells)
