use Rattle.std.proofs.Common.{subst, sym}
use Rattle.std.specs.List.{flat_map, range_with_len}
use Rattle.bdb_law_turned.proofs.of_form.EndLemmas.{has_rows, listed_index}
use Rattle.bdb_io.specs.of_format.Terms.{entries_of, offset_of}
use Rattle.bdb_law_turned.specs.Fields.{header_fields, index_fields}
use Rattle.bdb_law_turned.proofs.ListedLemmas.{listed_fields_are}
use Rattle.bdb_swap.specs.Turns.{Turns}
use Rattle.bdb_swap.proofs.WriteLemmas.{turns_both}
use Rattle.bdb_swap.proofs.listed.turn_listed.Goals as goal

pub turn_index-requires-clause-room : goal.turn_index-requires-clause-room
turn_index-requires-clause-room g c = listed_index g.K.PageKind.page_type c.args.order c.args.source.now c.requires.code

pub turn_items-requires-clause-room : goal.turn_items-requires-clause-room
turn_items-requires-clause-room g c = listed_index g.K.PageKind.page_type c.args.order c.args.source.now c.requires.code

pub turn_items-requires-clause-items : goal.turn_items-requires-clause-items
turn_items-requires-clause-items g c = has_rows c.args.order c.args.source.now g.K.PageKind.page_type c.requires.code

-- The header, the index and the items.
pub returns : goal.returns
returns g c =
    subst (λ fields. Turns c.args.source.now fields c.args.page.now c.turn_items.new.page)
    (sym (listed_fields_are g.K.TurnKind.fields g.K.PageKind.no_item c.args.order c.args.source.now (g.K.PageKind.item_at c.args.order c.args.source.now)))
    (turns_both c.args.source.now c.args.page.now c.turn_header.new.page c.turn_items.new.page header_fields _ c.turn_header.ensures.turns
    (turns_both c.args.source.now c.turn_header.new.page c.turn_index.new.page c.turn_items.new.page
    (index_fields (entries_of c.args.order c.args.source.now))
    (flat_map (λ i. g.K.TurnKind.fields (offset_of c.args.order c.args.source.now i) (g.K.PageKind.item_at c.args.order c.args.source.now i))
    (range_with_len 0 (entries_of c.args.order c.args.source.now)))
    c.turn_index.ensures.turns c.turn_items.ensures))
