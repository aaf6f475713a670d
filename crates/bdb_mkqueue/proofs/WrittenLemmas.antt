-- A queue under metadata that is written over page 0.
use Rattle.std.proofs.Common.{◌≡◌, ℕ, zero, suc, ◌+◌, ◌-◌, ◌*◌, ◌<◌, ◌≤◌, List, [], ◌∷◌, ◌++◌, length, set, None, append_assoc, arith, refl, sym, ◌∙◌, ap, subst, length-append}
use Rattle.bdb_mkqueue.proofs.Common.{eq-eqb, append-nil, get_or-set_same, length-replicate, length-set, replicate-append-replicate, Order, QueueMeta, Database, Meta, QueueFields, abstract_page}
use Rattle.bdb_mkqueue.proofs.Common.{common_bytes, faults_in, file_of, first_row, form_code, four_at, head_of, head_rows, is_page_size, metadata_rows, or_else, page_at, page_bytes, queue_bytes}
use Rattle.bdb_mkqueue.proofs.Common.{queue_rows, spelled, tail_faults, zeros, length-spelled, number_at-in, size_bounds, first_page_code, form_queue, AreWhole, Built, bytes_of, joined_pages}
use Rattle.bdb_mkqueue.proofs.Common.{with_page, all_size, page_whole, IsImage, first_of_none, head_accepted, image_head, HasPages, SaysQueue, IsWrittenQueue, WrittenQueuesAreSound}
use Rattle.bdb_text_format.specs.of_format.declared.metadata.FileKind.TheVariants.{Queue}
use Rattle.bdb_text_format.specs.of_format.declared.metadata.Head.{Head}
use Rattle.bdb_text_format.proofs.of_format.VerdictLemmas.{none_in, none_is_first_row}
use Rattle.bdb_text_format.proofs.of_format.FileLemmas.{kind_is, last_page, page_is}
use Rattle.bdb_law_join.proofs.of_image.MetaLemmas.{queue_page}
use Rattle.bdb_law_join.proofs.of_meta.CommonLemmas.{length-common}
use Rattle.bdb_law_join.proofs.of_meta.FilledLemmas.{zeros-spelled}
use Rattle.bdb_law_join.specs.Queues.{IsSoundQueue}
use Rattle.bdb_law_join.proofs.CommonLemmas.{ReadsAs, reads_common}
use Rattle.bdb_law_join.proofs.QueueLemmas.{queues_are_sound}
use Rattle.bdb_law_join.proofs.ReadLemmas.{page_read}
use Rattle.bdb_law_join.proofs.StageLemmas.{form_none, head_none, tail_none}
use Rattle.bdb_law_join.proofs.WrittenLemmas.{above_stay as later_page}

-- The page of metadata.

-- it fills its page
pub length-queue : (order : Order) (size last : ℕ) (meta : QueueMeta) → 92 ≤ size → length (queue_bytes order size last meta) ≡ size
unfolding queue_bytes
length-queue order size last meta least = simp (length-append, length-spelled, length-replicate {A = ℕ}, length-common) (omega arith)

page_long : (built : Built) (page : List ℕ) (meta : QueueMeta) (image : List ℕ) → IsWrittenQueue built page meta image → length page ≡ built.size
page_long built page meta image is = grind (arith, length-queue, size_bounds)

-- the head of the file of a queue with these pages
abbrev head_for : Built → Head
head_for built = record {
  order = built.order;
  page_size = built.size;
  kind = Queue;
  last = length built.pages - 1;
  pages = length built.pages;
}

-- what is read from the page, and from bytes that begin with it
reads_page : (built : Built) (page : List ℕ) (meta : QueueMeta) (image rest : List ℕ) → IsWrittenQueue built page meta image
    → ReadsAs (head_for built) 0 (page ++ rest)
unfolding queue_bytes
reads_page built page meta image rest is =
    let last : ℕ = length built.pages - 1 in
    let common : List ℕ = common_bytes built.order Queue built.size 0 0 last 0 in
    let behind : List ℕ =
    spelled 4 built.order meta.first ++ (spelled 4 built.order meta.current ++ (spelled 4 built.order meta.re_len
    ++ (spelled 4 built.order meta.re_pad ++ (spelled 4 built.order meta.per_page ++ zeros (built.size - 92))))) in
    let same : page ++ rest ≡ common ++ (behind ++ rest) = ap (λ bs. bs ++ rest) is.bytes ∙ append_assoc common behind rest in
    subst (ReadsAs (head_for built) 0) (sym same)
    (reads_common (head_for built) 0 0 0 (behind ++ rest) (omega (arith, (size_bounds built.size is.pages.legal).1)) (omega arith)
    (omega (arith, is.pages.few, is.pages.some)))

-- no pages in an extent
no_extent : (built : Built) (page : List ℕ) (meta : QueueMeta) (image : List ℕ) → IsWrittenQueue built page meta image
    → four_at built.order page 92 ≡ 0
unfolding queue_bytes
no_extent built page meta image is =
    let order : Order = built.order in
    let common : List ℕ = common_bytes order Queue built.size 0 0 (length built.pages - 1) 0 in
    let numbers : List ℕ =
    spelled 4 order meta.first ++ (spelled 4 order meta.current ++ (spelled 4 order meta.re_len
    ++ (spelled 4 order meta.re_pad ++ spelled 4 order meta.per_page))) in
    let left : ℕ = built.size - 96 in
    let long : 4 + left ≡ built.size - 92 = omega (arith, (size_bounds built.size is.pages.legal).0) in
    let cut : zeros (built.size - 92) ≡ spelled 4 order 0 ++ zeros left =
    ap zeros (sym long) ∙ (sym (replicate-append-replicate 4 left 0) ∙ ap (λ bs. bs ++ zeros left) (sym (zeros-spelled order))) in
    let whole : page ≡ (common ++ numbers) ++ (spelled 4 order 0 ++ zeros left) =
    is.bytes
    ∙ (ap (λ bs. common ++ (spelled 4 order meta.first ++ (spelled 4 order meta.current ++ (spelled 4 order meta.re_len
    ++ (spelled 4 order meta.re_pad ++ (spelled 4 order meta.per_page ++ bs)))))) cut ∙ simp append_assoc) in
    let front : 92 ≡ 0 + length (common ++ numbers) = simp (length-append, length-spelled, length-common) in
    number_at-in 4 order 0 page 0 92 (common ++ numbers) (zeros left) whole front (omega arith)

-- Its rows.

meta_accepted : (head : Head) (page : List ℕ) → head.kind ≡ Queue → ReadsAs head 0 page → length page ≡ head.page_size
    → first_row (queue_rows head.order page) ≡ None → form_code head 0 page ≡ None
unfolding metadata_rows
meta_accepted head page kind reads long none = grind (arith, eq-eqb, first_page_code, first_of_none, none_is_first_row)

-- The image.

pub begins : (pages : List (List ℕ)) (page : List ℕ) → 1 ≤ length pages → (rest : List ℕ) × (joined_pages (set pages 0 page) ≡ page ++ rest)
begins [] page some = absurd (omega arith)
begins (first ∷ pages) page some = (joined_pages pages, refl)

after_whole : (built : Built) (page : List ℕ) (meta : QueueMeta) (image : List ℕ) → IsWrittenQueue built page meta image
    → AreWhole (with_page built 0 page)
after_whole built page meta image is = page_whole built 0 page is.pages.whole (omega (arith, is.pages.some)) (page_long built page meta image is)

says_head : (built : Built) (page : List ℕ) (meta : QueueMeta) (image : List ℕ) → IsWrittenQueue built page meta image
    → IsImage (head_for built) image
says_head built page meta image is =
    let first = begins built.pages page is.pages.some in
    let count : length (set built.pages 0 page) ≡ length built.pages = length-set built.pages 0 page in
    record {
      reads = subst (ReadsAs (head_for built) 0) (sym (is.image_is ∙ first.1)) (reads_page built page meta image first.0 is);
      legal = is.pages.legal;
      long = ap length is.image_is
          ∙ ((all_size built.size (set built.pages 0 page) (after_whole built page meta image is)).1 ∙ ap (λ n. n * built.size) count);
      whole = omega (arith, is.pages.some);
    }

-- its pages
page_of_image : (built : Built) (page : List ℕ) (meta : QueueMeta) (image : List ℕ) (p : ℕ) → IsWrittenQueue built page meta image
    → head_of image ≡ head_for built → p < length built.pages → page_bytes (head_of image) image p ≡ bytes_of (with_page built 0 page) p
page_of_image built page meta image p is head low =
    page_read (with_page built 0 page) image (head_of image) p (after_whole built page meta image is) is.image_is
    (ap (λ (h : Head). h.page_size) head) (omega (arith, low, length-set built.pages 0 page))

first_page : (built : Built) (page : List ℕ) → 1 ≤ length built.pages → bytes_of (with_page built 0 page) 0 ≡ page
first_page built page some = get_or-set_same built.pages 0 page [] (omega (arith, some))

pub written_queues_are_sound : WrittenQueuesAreSound
written_queues_are_sound settings list old built meta page image queue is =
    record {
      sound = sound.sound;
      verdict = sound.verdict;
      alone = sound.alone ∙ ap (λ m. let d : Database = record { name = None; fields = QueueFields m } in d ∷ []) meta_same;
      listed_is = queue.lists (file_of image) pages;
    }
  where
    head : head_of image ≡ head_for built
    head = image_head (head_for built) image (says_head built page meta image is)

    last : (head_of image).last + 1 ≡ length built.pages
    last = omega (arith, ap (λ (h : Head). h.last) head, is.pages.some)

    accepted : first_row (head_rows image) ≡ None
    accepted = head_accepted (head_for built) image (says_head built page meta image is)

    whole : (head_of image).last + 1 ≡ (head_of image).pages
    whole = last ∙ sym (ap (λ (h : Head). h.pages) head)

    reads : ReadsAs (head_for built) 0 page
    reads = subst (ReadsAs (head_for built) 0) (append-nil page) (reads_page built page meta image [] is)

    says : SaysQueue built meta page
    says = record { size = page_long built page meta image is; fields = is.fields; extent = no_extent built page meta image is }

    formed : (p : ℕ) → p ≤ (head_of image).last → form_code (head_of image) p (page_bytes (head_of image) image p) ≡ None
    formed zero high =
        ap (form_code (head_of image) 0) (page_of_image built page meta image 0 is head (omega (arith, last)) ∙ first_page built page is.pages.some)
        ∙ (ap (λ h. form_code h 0 page) head
        ∙ meta_accepted (head_for built) page refl reads (page_long built page meta image is) (queue.meta_formed page says))
    formed (suc n) high =
        ap (form_code (head_of image) (suc n))
        (page_of_image built page meta image (suc n) is head (omega (arith, last, high)) ∙ later_page built page (suc n) (omega arith))
        ∙ (ap (λ h. form_code h (suc n) (bytes_of built (suc n))) head
        ∙ (form_queue (head_for built) (suc n) (bytes_of built (suc n)) (omega arith) refl
        ∙ queue.formed (suc n) (omega arith) (omega (arith, last, high))))

    none : faults_in (1 ∷ 2 ∷ []) image ≡ []
    none =
        none_in image (1 ∷ 2 ∷ []) (
          ap (λ faults. or_else faults (λ _. tail_faults image)) (head_none image accepted) ∙ tail_none image whole,
          (form_none image formed, tt),
        )

    sound : IsSoundQueue image
    sound = queues_are_sound image none (kind_is image ∙ ap (λ (h : Head). h.kind) head)

    page_at_0 : page_at (file_of image) 0 ≡ Meta (QueueFields meta)
    page_at_0 =
        page_is image 0 (omega arith)
        ∙ (ap (abstract_page (head_of image).order)
        (page_of_image built page meta image 0 is head (omega (arith, is.pages.some)) ∙ first_page built page is.pages.some)
        ∙ (ap (λ (h : Head). abstract_page h.order page) head
        ∙ (queue_page built.order page (ap is_page_size (page_long built page meta image is) ∙ is.pages.legal) reads.type
        ∙ ap (λ m. Meta (QueueFields m)) is.fields)))

    meta_same : sound.meta ≡ meta
    meta_same = let both : Meta (QueueFields sound.meta) ≡ Meta (QueueFields meta) = sym sound.named ∙ page_at_0 in cc

    pages : HasPages built (file_of image)
    pages = record {
      last = ap (λ n. n + 1) (last_page image) ∙ last;
      same = λ p above high.
          let low : p ≤ (head_of image).last = omega (arith, high, last_page image) in
          page_is image p low
          ∙ (ap (abstract_page (head_of image).order)
          (page_of_image built page meta image p is head (omega (arith, low, last)) ∙ later_page built page p above)
          ∙ ap (λ (h : Head). abstract_page h.order (bytes_of built p)) head);
    }
