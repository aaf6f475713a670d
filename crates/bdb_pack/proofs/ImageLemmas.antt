-- The bytes of all pages as an image.
use Rattle.std.proofs.Common.{◌≡◌, ℕ, ◌*◌, ◌<◌, ◌≤◌, List, [], length, take, drop, get_or, arith, sym, ◌∙◌, ap}
use Rattle.bdb_pack.proofs.Common.{get_or-map, length-map, NoType, abstract_page, file_of, head_of, page_at, IsCounted, AreWhole, Built, bytes_of, file_so_far, joined_pages, ImagesAreLater}
use Rattle.std.proofs.lemmas.List.FromFn.{length-range_with_len}
use Rattle.bdb_layout.specs.of_format.declared.metadata.FileKind.TheVariants.{Queue}
use Rattle.bdb_layout.proofs.of_format.FileLemmas.{last_page, page_is}
use Rattle.bdb_pack.proofs.CutLemmas.{all_size, page_of_cut}

counted_of : (image : List ℕ) → ((head_of image).kind ≡ Queue → ⊥) → (head_of image).last < (head_of image).pages → IsCounted (file_of image)
unfolding file_of
counted_of image kind low = grind (arith, length-map, length-range_with_len)

-- a page as the file so far has it
pub page_so_far : (built : Built) (p : ℕ) → p < length built.pages → page_at (file_so_far built) p ≡ abstract_page built.order (bytes_of built p)
page_so_far built p low = get_or-map (abstract_page built.order) built.pages p [] NoType low

pub counted_so_far : (built : Built) → 1 ≤ length built.pages → IsCounted (file_so_far built)
counted_so_far built some = grind (arith, length-map)

-- a page of the image is the page of the list
image_page : (built : Built) (p : ℕ) → AreWhole built → p < length built.pages
    → take built.size (drop (p * built.size) (joined_pages built.pages)) ≡ bytes_of built p
image_page built p whole low =
    let all = all_size built.size built.pages whole in
    sym (page_of_cut built.size (length built.pages) (joined_pages built.pages) p low) ∙ ap (λ ps. get_or ps p []) all.0

pub images_are_later : ImagesAreLater
images_are_later built image whole is tells = grind (arith, counted_of, last_page, get_or-map, page_is, image_page)
