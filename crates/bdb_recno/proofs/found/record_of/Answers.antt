use Rattle.std.proofs.Common.{◌∙◌, [], ap, arith, option_map}
use Rattle.std.specs.List.{cons_option}
use Rattle.bdb_tree.specs.of_layout.Seen.{leaf_item_seen}
use Rattle.bdb_tree.specs.of_format.Terms.{file_of}
use Rattle.bdb_tree.specs.of_overflow.Datum.{datum_seen}
use Rattle.bdb_recno.proofs.ListLemmas.{deleted_there, get_zero, live_there, none_there, place_fits}
use Rattle.bdb_recno.proofs.found.record_of.Goals as goal

pub returns-in_err-place-clause-value : goal.returns-in_err-place-clause-value
returns-in_err-place-clause-value g c =
    ap (λ o. cons_option (option_map datum_seen o) []) c.from_residual.ensures
    ∙ get_zero (file_of c.args.forest.now) c.args.meta.now.root c.args.number (omega (arith, c.in_err-place.ensures))

pub returns-in_err-entry-clause-value : goal.returns-in_err-entry-clause-value
returns-in_err-entry-clause-value g c =
    ap (λ o. cons_option (option_map datum_seen o) []) c.from_residual-in_err-entry.ensures
    ∙ none_there (file_of c.args.forest.now) c.args.meta.now.root c.args.number c.in_ok-place.place
    (omega (arith, c.in_ok-place.ensures)) c.in_err-entry.ensures.entry

pub returns-then-is_deleted-clause-value : goal.returns-then-is_deleted-clause-value
returns-then-is_deleted-clause-value g c =
    deleted_there (file_of c.args.forest.now) c.args.meta.now.root c.args.number c.in_ok-place.place (leaf_item_seen c.in_ok-entry.entry) c.is_deleted.result
    (omega (arith, c.in_ok-place.ensures)) c.in_ok-entry.ensures.entry
    c.is_deleted.ensures c.if-is_deleted.true

pub value_of-requires : goal.value_of-requires
value_of-requires g c =
    place_fits c.args.forest.now c.args.meta.now.root c.in_ok-place.place
    (leaf_item_seen c.in_ok-entry.entry) c.requires.forest c.requires.root c.in_ok-entry.ensures.entry

pub returns-clause-value : goal.returns-clause-value
returns-clause-value g c =
    live_there (file_of c.args.forest.now) c.args.meta.now.root c.args.number c.in_ok-place.place (leaf_item_seen c.in_ok-entry.entry) c.is_deleted.result
    (datum_seen c.value_of.result) (omega (arith, c.in_ok-place.ensures))
    c.in_ok-entry.ensures.entry c.is_deleted.ensures c.if-is_deleted.false c.value_of.ensures
