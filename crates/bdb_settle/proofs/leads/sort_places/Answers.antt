use Rattle.std.proofs.Common.{List, length, map, ◌∙◌, ap, arith, subst}
use Rattle.std.proofs.lemmas.List.{length-map}
use Rattle.std.proofs.lemmas.List.Sorted.{length_permutation}
use Rattle.bdb_mktree.specs.of_places.declared.place.Place.{Place}
use Rattle.bdb_settle.specs.declared.leads.Led.{Led}
use Rattle.bdb_settle.specs.Leads.{Share, led}
use Rattle.bdb_settle.proofs.LedLemmas.{led_moved, led_sorted, led_stable}
use Rattle.bdb_settle.proofs.leads.sort_places.Goals as goal

-- Each place has a lead.
pub put_back-requires : goal.put_back-requires
put_back-requires c =
    omega (
      arith,
      ap length c.as_slice.ensures.value,
      length_permutation c.in_ok-leads.leads.items c.sort_led.new.leads.items c.sort_led.ensures.moved,
      ap length c.in_ok-leads.ensures,
      length-map c.as_slice-unsorted.result.now (led c.args.bytes.now c.shared_len-shared.result),
      ap length c.as_slice-unsorted.ensures.value,
    )

-- The places lie as their leads do.

pub returns-clause-moved : goal.returns-clause-moved
returns-clause-moved c =
    led_moved c.args.settings.now c.args.bytes.now (λ i. (c.type_inv.bytes i).fits) c.shared_len-shared.result c.args.places.now.items
    c.put_back.new.places.items c.in_ok-leads.leads.items c.sort_led.new.leads.items
    (subst (λ (places : List Place). Share c.args.bytes.now places c.shared_len-shared.result) c.as_slice-unsorted.ensures.value
    c.shared_len-shared.ensures)
    (c.in_ok-leads.ensures ∙ ap (map (led c.args.bytes.now c.shared_len-shared.result)) c.as_slice-unsorted.ensures.value)
    (c.put_back.ensures ∙ ap (map (λ (item : Led). item.place)) c.as_slice.ensures.value) c.sort_led.ensures.moved

pub returns-clause-sorted : goal.returns-clause-sorted
returns-clause-sorted c =
    led_sorted c.args.settings.now c.args.bytes.now (λ i. (c.type_inv.bytes i).fits) c.shared_len-shared.result c.args.places.now.items
    c.put_back.new.places.items c.in_ok-leads.leads.items c.sort_led.new.leads.items
    (subst (λ (places : List Place). Share c.args.bytes.now places c.shared_len-shared.result) c.as_slice-unsorted.ensures.value
    c.shared_len-shared.ensures)
    (c.in_ok-leads.ensures ∙ ap (map (led c.args.bytes.now c.shared_len-shared.result)) c.as_slice-unsorted.ensures.value)
    (c.put_back.ensures ∙ ap (map (λ (item : Led). item.place)) c.as_slice.ensures.value) c.sort_led.ensures.moved c.in_ok-sort_led.ensures.sorted

pub returns-clause-stable : goal.returns-clause-stable
returns-clause-stable c =
    led_stable c.args.settings.now c.args.bytes.now (λ i. (c.type_inv.bytes i).fits) c.shared_len-shared.result c.args.places.now.items
    c.put_back.new.places.items c.in_ok-leads.leads.items c.sort_led.new.leads.items
    (subst (λ (places : List Place). Share c.args.bytes.now places c.shared_len-shared.result) c.as_slice-unsorted.ensures.value
    c.shared_len-shared.ensures)
    (c.in_ok-leads.ensures ∙ ap (map (led c.args.bytes.now c.shared_len-shared.result)) c.as_slice-unsorted.ensures.value)
    (c.put_back.ensures ∙ ap (map (λ (item : Led). item.place)) c.as_slice.ensures.value) c.sort_led.ensures.moved c.sort_led.ensures.stable
