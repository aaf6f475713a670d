use Rattle.bdb_pack.proofs.Common.{leaf_bytes, leaf_item_seen, page_and_item}
use Rattle.bdb_pack.proofs.OpenLemmas.{edited}
use Rattle.bdb_pack.proofs.pages.Pages.append_leaf.Goals as goal

pub returns : goal.returns
returns c =
    let it = c.self.inside in
    edited it.size it.count it.order it.bytes.items c.args.self.now c.args.number
    (λ order page. page_and_item order page (leaf_bytes order (leaf_item_seen c.args.item.now))) _ _
    c.self.view_is c.self.invariant.whole c.requires.number c.page_mut-page.ensures.value c.place_leaf.ensures c.place_leaf.auto.page
