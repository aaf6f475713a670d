-- What the proofs of this crate name of definitions and of the crates below.
pub use Rattle.std.proofs.Math.Bool.{and-false}
pub use Rattle.std.proofs.Math.ListN.{drop_of_length-le, set}
pub use Rattle.std.proofs.lemmas.Bool.{and_parts, cases_eq, cases_lt, eq-eqb, le-leb, lt-leb, ne_eqb}
pub use Rattle.std.proofs.lemmas.List.{append-nil, append_assoc, drop-set-lt, drop_more, get_or-map, get_or-set_other, get_or-set_same, get_or_default, length-map, length-replicate, length-set}
pub use Rattle.std.proofs.lemmas.List.{map-append, replicate-append-replicate, take_all, take_more_set}
pub use Rattle.std.proofs.lemmas.List.Elements.{All-cons, All-get_or, All-head, All-nil, All-push, All-replicate, All-tail}
pub use Rattle.std.proofs.lemmas.List.Sums.{sum_by-append, sum_by-cons, sum_by_more}
pub use Rattle.std.proofs.lemmas.Nat.{mul-le}
pub use Rattle.std.proofs.lemmas.Option.{get_or_from_slice_get, slice_get_within}
pub use Rattle.std.specs.List.{All, list_all, range_with_len, sum_by}
pub use Rattle.bdb_mkhash.specs.Buckets.{buckets_of, keyed_of, spread_bucket, table_size, table_units}
pub use Rattle.bdb_mkhash.specs.Costs.{keyed, keyed_cost, keyed_own_pages, pages_in}
pub use Rattle.bdb_mkhash.specs.of_format.Terms.{is_page_size, records_per_page}
pub use Rattle.bdb_mkhash.specs.of_format.declared.kinds.Kind.TheVariants.{Btree, Hash, Queue, Recno}
pub use Rattle.bdb_mkhash.specs.of_format.declared.settings.Settings.{Settings}
pub use Rattle.bdb_mkhash.specs.of_mkleaves.Runs.{IsShort}
pub use Rattle.bdb_mkhash.specs.of_mkleaves.Spread.{first_or, inner_cost, key_item_cost, leaf_key, leaves_and_levels, own_pages, pages_over, spread_items, spread_on, spread_units, tree_size, unit_key}
pub use Rattle.bdb_mkhash.specs.of_mkleaves.Units.{EntryUnit, KeyedUnit, TreeUnit, chain_pages, length_chain, page_room, record_cost, unit_cost}
pub use Rattle.bdb_mkhash.specs.of_mkleaves.declared.leaf_type.LeafType.TheVariants.{Pairs, Records, SortedData}
pub use Rattle.bdb_mkhash.specs.of_mktree.Lists.{AreKeysOf, HasBytes, IsPairFor, IsRunAt, IsTreeList, keyed_units, missing, record_units, units_in}
pub use Rattle.bdb_mkhash.specs.of_mktree.Units.{IsShortUnit, IsTreeKind, leaf_type_of}
pub use Rattle.bdb_mkhash.specs.of_places.Places.{values_seen}
pub use Rattle.bdb_mkhash.specs.of_text_format.Terms.{AscendFrom, holds_records, key_seen, number_of, pair_seen, pairs_of, slice_seen}
pub use Rattle.bdb_mkhash.specs.of_text_format.declared.pairs.Pair.{Pair}
pub use Rattle.bdb_mkhash.specs.of_text_format.declared.pairs.TextPair.{TextPair}
pub use Rattle.bdb_mkhash.specs.of_text_format.declared.sections.Section.{Section}
pub use Rattle.bdb_mkqueue.specs.Layout.{page_of_record, queue_size}
pub use Rattle.bdb_mkqueue.specs.Lists.{next_number}
pub use Rattle.bdb_settle.proofs.FillingLemmas.{as_they_are, value_as_is}
pub use Rattle.bdb_settle.specs.Loaded.{filled_pair, filled_pairs, filled_section, filled_value, has_length, loaded, loaded_pair, loaded_section, unnumbered}
pub use Rattle.bdb_need.specs.Counting.{ArePut, data_units, pages_on, values_in}
pub use Rattle.bdb_need.specs.Need.{AreSettled, IsListOf, IsSettled, is_short, list_pages, master_pages, master_settings, name_in, name_pair, need_of, section_pages, sized}
pub use Rattle.bdb_need.specs.TreePages.{tree_pages, unlined, unlined_pairs}
pub use Rattle.bdb_need.specs.declared.open_page.OpenPage.{OpenPage}
