use Rattle.std.proofs.Common.{◌≤◌, arith, sym, subst, ap, ◌∙◌}
use Rattle.bdb_mkqueue.proofs.Common.{length-map, pairs_of, slice_seen, unlined, page_of_record, slot_of}
use Rattle.bdb_mkqueue.proofs.LastLemmas.{key_here, value_here}
use Rattle.bdb_mkqueue.proofs.StepLemmas.{IsPushed, number_some, page_there, pushed, slot_room}
use Rattle.bdb_mkqueue.proofs.build.push_record.Goals as goal

pub page_of_record-page-requires-clause-number : goal.page_of_record-page-requires-clause-number
page_of_record-page-requires-clause-number c =
    let list = pairs_of c.args.list in
    subst (λ n. 1 ≤ n)
    (sym (key_here (slice_seen c.args.list) c.args.place c.number_of-number.result _ c.at-pair.ensures c.number_of-number.ensures))
    (number_some list c.args.place c.requires.ascend (omega (arith, c.requires.place, length-map (slice_seen c.args.list) unlined)))

pub slot_of-slot-requires-clause-number : goal.slot_of-slot-requires-clause-number
slot_of-slot-requires-clause-number c =
    let list = pairs_of c.args.list in
    subst (λ n. 1 ≤ n)
    (sym (key_here (slice_seen c.args.list) c.args.place c.number_of-number.result _ c.at-pair.ensures c.number_of-number.ensures))
    (number_some list c.args.place c.requires.ascend (omega (arith, c.requires.place, length-map (slice_seen c.args.list) unlined)))

pub write_record-requires-clause-page : goal.write_record-requires-clause-page
write_record-requires-clause-page c =
    let list = pairs_of c.args.list in
    let meta = c.args.meta.now in
    let number =
    key_here (slice_seen c.args.list) c.args.place c.number_of-number.result _ c.at-pair.ensures c.number_of-number.ensures in
    let is : IsPushed meta list c.args.place c.args.pages.now = record {
      ascend = c.requires.ascend;
      long = c.requires.long;
      room = c.requires.room;
      there = omega (arith, c.requires.place, length-map (slice_seen c.args.list) unlined);
      on = c.requires.queue;
    } in
    page_there meta list c.args.place c.args.pages.now c.reach_page.new.pages c.page_of_record-page.result is
    (c.page_of_record-page.ensures ∙ ap (page_of_record meta.per_page) number) c.in_ok-reach_page.ensures

pub write_record-requires-clause-room : goal.write_record-requires-clause-room
write_record-requires-clause-room c =
    let list = pairs_of c.args.list in
    let meta = c.args.meta.now in
    let number =
    key_here (slice_seen c.args.list) c.args.place c.number_of-number.result _ c.at-pair.ensures c.number_of-number.ensures in
    let is : IsPushed meta list c.args.place c.args.pages.now = record {
      ascend = c.requires.ascend;
      long = c.requires.long;
      room = c.requires.room;
      there = omega (arith, c.requires.place, length-map (slice_seen c.args.list) unlined);
      on = c.requires.queue;
    } in
    slot_room meta list c.args.place c.args.pages.now c.reach_page.new.pages c.page_of_record-page.result c.slot_of-slot.result
    c.at-pair.result.value.now is c.in_ok-reach_page.ensures (c.slot_of-slot.ensures ∙ ap (slot_of meta.per_page) number)
    (value_here (slice_seen c.args.list) c.args.place _ c.at-pair.ensures)

pub returns : goal.returns
returns c =
    let list = pairs_of c.args.list in
    let meta = c.args.meta.now in
    let number =
    key_here (slice_seen c.args.list) c.args.place c.number_of-number.result _ c.at-pair.ensures c.number_of-number.ensures in
    let is : IsPushed meta list c.args.place c.args.pages.now = record {
      ascend = c.requires.ascend;
      long = c.requires.long;
      room = c.requires.room;
      there = omega (arith, c.requires.place, length-map (slice_seen c.args.list) unlined);
      on = c.requires.queue;
    } in
    let done =
    pushed meta list c.args.place c.args.pages.now c.reach_page.new.pages c.write_record.new.pages c.page_of_record-page.result
    c.slot_of-slot.result c.at-pair.result.value.now is (c.page_of_record-page.ensures ∙ ap (page_of_record meta.per_page) number)
    (c.slot_of-slot.ensures ∙ ap (slot_of meta.per_page) number)
    (value_here (slice_seen c.args.list) c.args.place _ c.at-pair.ensures) c.in_ok-reach_page.ensures c.write_record.ensures in
    record { queue = done.0; kept = done.1 }
