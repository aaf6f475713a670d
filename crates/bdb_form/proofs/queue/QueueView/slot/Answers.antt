use Rattle.std.proofs.Common.{ap, arith, rules, length, ◌+◌, ◌*◌, ◌≤◌}
use Rattle.bdb_form.specs.Formed.{QueuePage}
use Rattle.bdb_layout.specs.of_format.Terms.{has_bit}
use Rattle.bdb_form.proofs.SlotLemmas.{record_ends, valid_byte, record_is}
use Rattle.bdb_form.proofs.queue.QueueView.slot.Goals as goal

pub overflow_add-end-2 : goal.overflow_add-end-2
overflow_add-end-2 c =
    omega (
      arith,
      c.self.told.0,
      record_ends c.self.inside.page.bytes.now _ c.args.i c.args.re_len
          c.slot_size.result (ap (λ (v : QueuePage). v.bytes) c.self.view_is) c.requires c.slot_size.ensures.size c.slot_size.ensures.room,
    )

pub bounds-page-start : goal.bounds-page-start
bounds-page-start c =
    omega (
      arith,
      record_ends c.self.inside.page.bytes.now _ c.args.i c.args.re_len
          c.slot_size.result (ap (λ (v : QueuePage). v.bytes) c.self.view_is) c.requires c.slot_size.ensures.size c.slot_size.ensures.room,
    )

pub slice_bounds-result-end : goal.slice_bounds-result-end
slice_bounds-result-end c =
    let ends : 28 + c.args.i * c.slot_size.result + 1 + c.args.re_len ≤ length c.self.inside.page.bytes.now =
    record_ends c.self.inside.page.bytes.now _ c.args.i c.args.re_len
    c.slot_size.result (ap (λ (v : QueuePage). v.bytes) c.self.view_is) c.requires c.slot_size.ensures.size c.slot_size.ensures.room in
    search rules

pub returns-clause-valid : goal.returns-clause-valid
returns-clause-valid c =
    ap (λ b. has_bit b 1) (valid_byte c.self.inside.page.bytes.now _ c.args.i c.args.re_len
    c.slot_size.result (ap (λ (v : QueuePage). v.bytes) c.self.view_is) c.slot_size.ensures.size)

pub returns-clause-record_bytes : goal.returns-clause-record_bytes
returns-clause-record_bytes c =
    record_is c.self.inside.page.bytes.now _ c.args.i c.args.re_len c.slot_size.result (ap (λ (v : QueuePage). v.bytes) c.self.view_is) c.slot_size.ensures.size
