use Rattle.std.proofs.Common.{◌≡◌, refl, sym, ◌∙◌, ap}
use Rattle.bdb_mkleaves.proofs.Common.{internal_bytes, key_seen, keyed_item, Keyed, OnInternal, PageItem, has_room_on, key_heads, raising, stored_heads, stored_key}
use Rattle.bdb_mkleaves.proofs.LevelTakeLemmas.{added_later, can_take, has_shape, head_there, heads_few, keeps_raised, keyed_same, lacks, stored_heads_are, taken}
use Rattle.bdb_mkleaves.proofs.levels.take_keyed.Goals as goal

pub returns-then-not-has_room_for_internal : goal.returns-then-not-has_room_for_internal
returns-then-not-has_room_for_internal c = λ level nodes node holds some child.
    let key : key_seen c.key_with.result ≡ node.key =
    c.key_with.ensures ∙ (ap (stored_key c.in_ok-stored.stored) c.deref.ensures.value ∙ c.in_ok-stored.ensures node.key child.key) in
    let item = keyed_same c.args.child node (key_seen c.key_with.result) child.page_is child.count_is ∙ ap (λ k. keyed_item k node) key in (
      refl,
      lacks Keyed c.args.pages.now c.args.page level nodes node holds some (has_shape Keyed c.args.pages.now c.args.child.leaf node child.key)
          (ap (λ i. has_room_on c.args.pages.now c.args.page (internal_bytes c.args.pages.now.order i)) (sym item)
          ∙ (sym c.has_room_for_internal.ensures.room ∙ c.if-not-has_room_for_internal.true)),
    )

pub raise_key-requires-clause-head : goal.raise_key-requires-clause-head
raise_key-requires-clause-head c = λ head named.
    head_there c.args.pages.now c.in_ok-stored.stored c.key_of_leaf.new.buffer.items c.requires.asked.key head c.requires.asked.has.stands
    (c.in_ok-stored.ensures c.requires.asked.key c.requires.asked.has) named

pub append_child-requires-clause-takes : goal.append_child-requires-clause-takes
append_child-requires-clause-takes c =
    can_take Keyed c.args.pages.now c.raise_key.new.pages (stored_heads c.in_ok-stored.stored) c.args.page c.requires.asked.level
    c.requires.asked.nodes _
    (keeps_raised c.args.pages.now c.raise_key.new.pages c.in_ok-stored.stored c.key_of_leaf.new.buffer.items c.requires.asked.key
    c.requires.asked.has.stands
    (c.in_ok-stored.ensures c.requires.asked.key c.requires.asked.has) c.raise_key.ensures)
    c.requires.asked.there c.requires.asked.holds c.if-not-has_room_for_internal.ensures.fits
    (sym c.has_room_for_internal.ensures.room ∙ c.if-not-has_room_for_internal.false)

pub returns : goal.returns
returns c = λ level nodes node holds some child.
    let key : key_seen c.key_with.result ≡ node.key =
    c.key_with.ensures ∙ (ap (stored_key c.in_ok-stored.stored) c.deref.ensures.value ∙ c.in_ok-stored.ensures node.key child.key) in
    let item = keyed_same c.args.child node (key_seen c.key_with.result) child.page_is child.count_is ∙ ap (λ k. keyed_item k node) key in
    let on_page : PageItem = OnInternal (record { child = c.args.child.page; count = c.args.child.count; key = key_seen c.key_with.result }) in
    taken Keyed c.args.pages.now c.raise_key.new.pages c.append_child.new.pages c.args.page level nodes node on_page c.requires.legal c.requires.whole
    c.requires.asked.there holds (heads_few Keyed c.args.pages.now c.args.child.leaf node child.key)
    (c.raise_key.ensures ∙ ap (raising c.args.pages.now) (stored_heads_are c.in_ok-stored.stored c.key_of_leaf.new.buffer.items
    ∙ ap key_heads (c.in_ok-stored.ensures node.key child.key)))
    c.append_child.ensures.page (can_take Keyed c.args.pages.now c.raise_key.new.pages (stored_heads c.in_ok-stored.stored) c.args.page level nodes
    on_page
    (keeps_raised c.args.pages.now c.raise_key.new.pages c.in_ok-stored.stored c.key_of_leaf.new.buffer.items node.key child.key.stands
    (c.in_ok-stored.ensures node.key child.key) c.raise_key.ensures)
    c.requires.asked.there holds c.if-not-has_room_for_internal.ensures.fits
    (sym c.has_room_for_internal.ensures.room ∙ c.if-not-has_room_for_internal.false)).room
    (λ held. c.append_child.ensures.holds level nodes node held (item ∙ ap (λ k. keyed_item k node) (sym (added_later nodes node some))))
