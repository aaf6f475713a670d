-- What the proofs of this crate name of definitions and of the crates below.
pub use Rattle.std.proofs.lemmas.Bool.{and_left, and_parts, and_right, cases_eq, cases_lt, eq-eqb, eqb-true, le-leb, leb-true, lt-leb, ne_eqb, or_cases, or_left, or_right}
pub use Rattle.std.proofs.lemmas.Grind.{flat_map-append}
pub use Rattle.std.proofs.lemmas.List.{append-nil, append_assoc, drop-drop, drop-map, drop_all, drop_more, get_or-drop, get_or-map, get_or-set_other, get_or-set_same, get_or_append_left, get_or_push}
pub use Rattle.std.proofs.lemmas.List.{length-map, length-replicate, length-set, map-append, map-set, same_lists, take_all, take_more}
pub use Rattle.std.proofs.lemmas.List.Elements.{All-cons, All-contains, All-drop, All-head, All-nil, All-tail, filter-append}
pub use Rattle.std.proofs.lemmas.List.FromFn.{get_or-map-range_with_len, length-map-range_with_len}
pub use Rattle.std.proofs.lemmas.List.Sums.{sum_by-append, sum_by-cons, sum_by-take-le, sum_by_more, sum_by_more_le, sum_by_push}
pub use Rattle.std.specs.List.{All, AllZip, find, flat_map, list_all, range_with_len, sum_by}
pub use Rattle.std.specs.Prelude.{None, Some, nat_le, take, ◌&&◌, ◌/◌, ◌≡◌}
pub use Rattle.bdb_law_buckets.specs.Pages.{IsHashIn, hash_item}
pub use Rattle.bdb_law_buckets.specs.Tables.{BucketStands, ContentsStand, HasBuiltBuckets, HasSum, Keyed, PlacedUnit, SuitsTable, TableStands, UnitStands, UnitsStand, bucket_among, contents_of}
pub use Rattle.bdb_law_buckets.specs.Tables.{contents_on, dealt, key_of, listed_unit, table_meta, unit_of, units_on}
pub use Rattle.bdb_mktree.proofs.of_format.SizeLemmas.{size_bounds}
pub use Rattle.bdb_mktree.proofs.of_format.SpellingLemmas.{length-overwritten, length-spelled}
pub use Rattle.bdb_mktree.proofs.of_law_grove.ChainLemmas.{between_is, is_between}
pub use Rattle.bdb_mktree.proofs.of_mkleaves.LeafLemmas.{HasLinks, linked_begun, linked_page, offset_linked, with_links}
pub use Rattle.bdb_mktree.proofs.of_mkleaves.RunLemmas.{later_before}
pub use Rattle.bdb_mktree.proofs.of_pack.OpenLemmas.{open_is}
pub use Rattle.bdb_mktree.specs.Lists.{HasBytes, IsRunAt, keyed_units}
pub use Rattle.bdb_mktree.specs.of_format.Terms.{Chain, Content, File, Hash, HashFields, Inline, Item, Listed, NoType, Overflow, Page, Set, Tree, Unknown, abstract_page, ascends, block_bytes}
unfoldable pub use Rattle.bdb_mktree.specs.of_format.Terms.{data_of, hash_bytes}
pub use Rattle.bdb_mktree.specs.of_format.Terms.{blocks_of, byte_at, children_in, entries_of, four_at, hash_item_at, header_bytes, header_in, header_of, index_end, is_page_size}
pub use Rattle.bdb_mktree.specs.of_format.Terms.{is_set, is_wrong_entry_count, is_wrong_level, is_wrong_set, is_zero, less, listed, offset_of, overwritten, page_at, page_code, page_type, spelled}
pub use Rattle.bdb_mktree.specs.of_format.Terms.{value_of}
pub use Rattle.bdb_mktree.specs.of_format.declared.kinds.Order.{Order}
pub use Rattle.bdb_mktree.specs.of_law_grove.Growing.{IsCounted, IsLater, IsSamePage}
pub use Rattle.bdb_mktree.specs.of_law_grove.Part.{IsPart, between}
pub use Rattle.bdb_mktree.specs.of_layout.Blocks.{BlockRun, run_in}
pub use Rattle.bdb_mktree.specs.of_mkleaves.Leaves.{KeepsAll, KeepsOthers}
pub use Rattle.bdb_mktree.specs.of_mkleaves.Spread.{set_type, spread_on, spread_units}
pub use Rattle.bdb_mktree.specs.of_mkleaves.Units.{EntryUnit, KeyedUnit, TreeUnit, listed_keyed, page_room}
pub use Rattle.bdb_mktree.specs.of_pack.Built.{AreWhole, Built, bytes_of, file_so_far, with_page, with_zeros}
pub use Rattle.bdb_mktree.specs.of_pack.Items.{HasPlace, IsWritable, OnHash, OnLeaf, extent, holds_item}
pub use Rattle.bdb_mktree.specs.of_pack.Values.{HasChain, IsStored}
pub use Rattle.bdb_mktree.specs.of_places.Places.{values_seen}
pub use Rattle.bdb_mktree.specs.of_text_format.Terms.{pairs_of, slice_seen}
pub use Rattle.bdb_mktree.specs.of_text_format.declared.pairs.Pair.{Pair}
pub use Rattle.bdb_mkhash.specs.Buckets.{bits_for, buckets_of, keyed_of, spread_bucket, table_bits, table_cost, table_units}
pub use Rattle.bdb_mkhash.specs.Costs.{blocks_cost, cost_in, data_cost, data_form, first_value, hash_item_cost, is_inline, keyed_cost, keyed_own_pages, pages_in, set_or_none, stand_together}
pub use Rattle.bdb_mkhash.specs.Filling.{AreDataPut, AreEmptyPages, AreFilled, ArePut, DataStand, IsBucketFilled, IsBucketOpen, IsEmptyPage, IsFollowed, IsGrown, IsHalfPage, IsHashItem, IsOpenPage}
pub use Rattle.bdb_mkhash.specs.Filling.{IsPageFilled, IsUnitPut, IsValuePut, IsWholePage, closed_of, no_unit, of_bucket, of_buckets, room_on}
pub use Rattle.bdb_mkhash.specs.Pages.{CanTakeContent, HashPagesAreFormed, HashPagesStand, HoldsContents, HoldsContentsOn, content_cost, page_header, room_of, with_hash_page, with_next}
pub use Rattle.bdb_mkhash.specs.Units.{IsShortUnit, unit_seen, units_seen}
pub use Rattle.bdb_mkhash.specs.declared.form.DataForm.TheVariants.{One}
