-- The image of a queue.
use Rattle.std.proofs.Common.{◌≡◌, ℕ, ◌+◌, ◌-◌, ◌*◌, ◌<◌, ◌≤◌, ◌^◌, true, List, [], ◌∷◌, ◌++◌, length, take, None, arith, sym, ◌∙◌, ap}
use Rattle.bdb_io.specs.of_format.declared.kinds.Kind.TheVariants.{Queue as QueueKind}
use Rattle.bdb_io.specs.of_format.declared.metadata.FileKind.TheVariants.{Queue}
use Rattle.bdb_mkfile.proofs.Common.{Head, Settings, QueueFields, file_of, is_page_size, list_of, queue_bytes, queue_fields, settings_of, spelled, zeros, size_bounds, Pair, AreWhole, Built, bytes_of}
use Rattle.bdb_mkfile.proofs.Common.{joined_pages, with_page, with_zeros, written_over, written_whole, AreLegal, queue_meta, queue_size, length-queue, written_queues_are_sound, file_settings}
use Rattle.bdb_mkfile.proofs.Common.{own_settings, IsQueueImage, queue_first, queue_pages}
use Rattle.bdb_io.specs.of_format.declared.metadata.QueueMeta.{QueueMeta}
use Rattle.bdb_need.specs.of_mkqueue.Building.{IsQueueBuilt}
use Rattle.bdb_need.specs.of_mkqueue.Written.{IsSoundQueueOf, IsWrittenQueue}
use Rattle.bdb_mkfile.proofs.FirstLemmas.{IsUnderMeta, head_is, image_first, image_length}

under_queue : (built : Built) (page : List ℕ) (meta : QueueMeta) (image : List ℕ) → AreLegal built
    → page ≡ queue_bytes built.order built.size (length built.pages - 1) meta → image ≡ joined_pages (with_page built 0 page).pages
    → IsUnderMeta built Queue page image
unfolding queue_bytes
under_queue built page meta image legal spelled_as image_is = grind (arith, spelled, zeros, length-queue, size_bounds)

-- The pages of a queue that was built behind a zero page, and its metadata, which is written over that.
pub record IsQueueFiled (settings : Settings) (list : List Pair) (empty added built : Built) (meta : QueueMeta) (count : ℕ)
    (lent page image : List ℕ) : Type 0 where
  pub kind : settings.kind ≡ QueueKind
  pub own : settings ≡ file_settings settings
  pub size : empty.size ≡ settings.page_size
  pub order : empty.order ≡ settings.order
  pub added_is : added ≡ with_zeros empty
  pub queue : IsQueueBuilt settings list added built meta
  pub legal : is_page_size built.size ≡ true
  pub whole : AreWhole built
  pub count_is : count ≡ length built.pages
  pub few : count < 2 ^ 32
  pub lent_is : lent ≡ bytes_of built 0
  pub bytes : page ≡ queue_bytes settings.order (length lent) (count - 1) meta
  pub fields : queue_fields settings.order page ≡ meta
  pub image_is : image ≡ joined_pages (written_over built 0 page).pages

-- then the image is that of the queue
pub queue_filed : (settings : Settings) (list : List Pair) (empty added built : Built) (meta : QueueMeta) (count : ℕ) (lent page image : List ℕ)
    → IsQueueFiled settings list empty added built meta count lent page image → IsQueueImage settings list image
queue_filed settings list empty added built meta count lent page image is =
    let meta_is : meta ≡ queue_meta settings list = is.queue.meta_is in
    let order : built.order ≡ settings.order = is.queue.kept.order ∙ (ap (λ (b : Built). b.order) is.added_is ∙ is.order) in
    let size : built.size ≡ settings.page_size = is.queue.kept.size ∙ (ap (λ (b : Built). b.size) is.added_is ∙ is.size) in
    let pages : length built.pages ≡ 1 + queue_pages settings list = is.queue.laid_out.count ∙ ap (λ (m : QueueMeta). 1 + queue_size m.per_page list) meta_is in
    let some : 1 ≤ length built.pages = omega (arith, pages) in
    let legal : AreLegal built = record { legal = is.legal; some = some; few = omega (arith, is.count_is, is.few); whole = is.whole } in
    let long : length lent ≡ built.size = ap length is.lent_is ∙ is.whole 0 (omega (arith, some)) in
    let spelled_as : page ≡ queue_bytes built.order built.size (length built.pages - 1) meta =
    is.bytes
    ∙ (ap (λ o. queue_bytes o (length lent) (count - 1) meta) (sym order)
    ∙ (ap (λ s. queue_bytes built.order s (count - 1) meta) long ∙ ap (λ n. queue_bytes built.order built.size (n - 1) meta) is.count_is)) in
    let fills : length page ≡ built.size =
    ap length spelled_as
    ∙ length-queue built.order built.size (length built.pages - 1) meta (omega (arith, (size_bounds built.size is.legal).0)) in
    let image_is : image ≡ joined_pages (with_page built 0 page).pages =
    is.image_is ∙ ap (λ (b : Built). joined_pages b.pages) (written_whole built 0 page is.whole (omega (arith, some)) fills) in
    let under : IsUnderMeta built Queue page image = under_queue built page meta image legal spelled_as image_is in
    let written : IsWrittenQueue built page meta image =
    record { pages = legal; bytes = spelled_as; fields = ap (λ o. queue_fields o page) order ∙ is.fields; image_is = image_is } in
    let sound : IsSoundQueueOf image meta list = written_queues_are_sound settings list added built meta page image is.queue written in
    let last : length built.pages - 1 ≡ queue_pages settings list = omega (arith, pages) in
    let first : page ≡ queue_first settings list =
    spelled_as
    ∙ (ap (λ o. queue_bytes o built.size (length built.pages - 1) meta) order
    ∙ (ap (λ s. queue_bytes settings.order s (length built.pages - 1) meta) size
    ∙ (ap (λ n. queue_bytes settings.order settings.page_size n meta) last
    ∙ ap (λ m. queue_bytes settings.order settings.page_size (queue_pages settings list) m) meta_is))) in
    record {
      sound = sound.verdict;
      size = image_length built Queue page image under ∙ (ap (λ n. n * built.size) pages ∙ ap (λ n. (1 + queue_pages settings list) * n) size);
      first_is = ap (λ n. take n image) (sym size) ∙ (image_first built Queue page image under ∙ first);
      alone = sound.alone ∙ ap (λ m. record { name = None; fields = QueueFields m } ∷ []) meta_is;
      settings_are =
          ap (λ (h : Head). settings_of h.page_size h.order (QueueFields (queue_meta settings list))) (head_is built Queue page image under)
          ∙ (ap (λ n. settings_of n built.order (QueueFields (queue_meta settings list))) size
          ∙ (ap (λ o. settings_of settings.page_size o (QueueFields (queue_meta settings list))) order
          ∙ (ap (λ k. own_settings k settings.page_size settings.order settings) (sym is.kind) ∙ sym is.own)));
      list = ap (λ m. list_of (file_of image) (QueueFields m)) (sym meta_is) ∙ sound.listed_is;
    }
