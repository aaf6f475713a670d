-- The file of a queue, as a caller of `Pages` makes it: the queue is built behind a zero page, and its metadata written over that.
use Rattle.std.proofs.Common.{◌≡◌, ℕ, ◌-◌, ◌^◌, ◌<◌, ◌≤◌, true, List, [], length, arith, sym, ◌∙◌, ap, subst}
use Rattle.bdb_mkqueue.proofs.Common.{QueueMeta, Settings, is_page_size, is_zero, queue_bytes, queue_fields, size_bounds, Pair, AreWhole, Built, bytes_of, joined_pages, with_zeros, written_over}
use Rattle.bdb_mkqueue.proofs.Common.{added_zero, written_whole, IsQueueBuilt, KeepsFirst, queue_meta, IsSoundQueueOf, IsWrittenQueue}
use Rattle.bdb_mkqueue.proofs.WrittenLemmas.{length-queue, written_queues_are_sound}

-- the page that is kept for the metadata is a zero page
pub zero_first : (empty added built : Built) (lent : List ℕ) → empty.pages ≡ [] → added ≡ with_zeros empty → KeepsFirst added built
    → lent ≡ bytes_of built 0 → is_zero lent ≡ true
zero_first empty added built lent none is kept at =
    let count : length empty.pages ≡ 0 = ap length none in
    ap is_zero (at ∙ (kept.first ∙ ap (λ (b : Built). bytes_of b 0) is))
    ∙ (ap (λ n. is_zero (bytes_of (with_zeros empty) n)) (sym count) ∙ added_zero empty)

-- the file of a queue
pub filed : (settings : Settings) (list : List Pair) (empty added built : Built) (meta : QueueMeta) (count : ℕ) (lent page image : List ℕ)
    → empty.order ≡ settings.order → added ≡ with_zeros empty → IsQueueBuilt settings list added built meta → is_page_size built.size ≡ true
    → AreWhole built → count ≡ length built.pages → count < 2 ^ 32 → lent ≡ bytes_of built 0
    → page ≡ queue_bytes settings.order (length lent) (count - 1) meta → queue_fields settings.order page ≡ meta
    → image ≡ joined_pages (written_over built 0 page).pages → IsSoundQueueOf image (queue_meta settings list) list
filed settings list empty added built meta count lent page image ordered is queue legal whole count_is few at bytes fields image_is =
    let order : settings.order ≡ built.order = sym (queue.kept.order ∙ (ap (λ (b : Built). b.order) is ∙ ordered)) in
    let some : 1 ≤ length built.pages = omega (arith, queue.laid_out.count) in
    let long : length lent ≡ built.size = ap length at ∙ whole 0 (omega (arith, some)) in
    let spelled : page ≡ queue_bytes built.order built.size (length built.pages - 1) meta =
    bytes
    ∙ (ap (λ o. queue_bytes o (length lent) (count - 1) meta) order
    ∙ (ap (λ s. queue_bytes built.order s (count - 1) meta) long ∙ ap (λ n. queue_bytes built.order built.size (n - 1) meta) count_is)) in
    let written : IsWrittenQueue built page meta image =
    record {
      pages = record { legal = legal; some = some; few = omega (arith, count_is, few); whole = whole };
      bytes = spelled;
      fields = ap (λ o. queue_fields o page) (sym order) ∙ fields;
      image_is = image_is
          ∙ ap (λ (b : Built). joined_pages b.pages)
          (written_whole built 0 page whole (omega (arith, some))
          (ap length spelled
          ∙ length-queue built.order built.size (length built.pages - 1) meta (omega (arith, (size_bounds built.size legal).0))));
    } in
    subst (λ m. IsSoundQueueOf image m list) queue.meta_is (written_queues_are_sound settings list added built meta page image queue written)
