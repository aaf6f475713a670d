-- What the proofs of this crate name of definitions and of the crates below.
pub use Rattle.std.proofs.Math.Dec.{eqb, ltb}
pub use Rattle.std.proofs.lemmas.Bool.{and_left, and_parts, and_right, cases_Bool, cases_eq, cases_lt, eq-eqb, eqb-false, eqb-true, false_from_ne_true, le-leb, le-ltb, leb-false, leb-true, lt-leb}
pub use Rattle.std.proofs.lemmas.Bool.{lt-ltb, ltb-true, ne_eqb, not-true, or_cases, or_from, or_left, or_right}
pub use Rattle.std.proofs.lemmas.Grind.{flat_map-append}
pub use Rattle.std.proofs.lemmas.List.{append-nil, append_assoc, get_or-append-add, get_or-map, get_or-set_other, get_or-set_same, get_or-take, get_or_append_left, get_or_default, get_or_past}
pub use Rattle.std.proofs.lemmas.List.{get_or_push, length-map, length-replicate, map-append, nil_from_length, same_lists, take_all, take_more}
pub use Rattle.std.proofs.lemmas.List.Elements.{All-append, All-cons, All-contains, All-head, All-map, All-nil, All-push, All-tail, All-weaker, Contains-append_cases, Contains-append_left}
pub use Rattle.std.proofs.lemmas.List.Elements.{Contains-append_right, Contains-get_or}
pub use Rattle.std.proofs.lemmas.List.Folds.{flat_map-map, list_any_none}
pub use Rattle.std.proofs.lemmas.List.FromFn.{get_or-map-range_with_len, length-map-range_with_len}
pub use Rattle.std.proofs.lemmas.List.Sums.{sum_by-append, sum_by-cons, sum_by-take-le, sum_by_push, take_while-cons}
pub use Rattle.std.proofs.lemmas.Simd.{map-map}
pub use Rattle.std.specs.List.{All, AllZip, Contains, enumerate_from, filter, flat_map, list_any, range_with_len, sum_by, take_while}
pub use Rattle.std.specs.Prelude.{List, take, ◌≡◌}
pub use Rattle.bdb_law_levels.proofs.NodeLemmas.{all_left, all_over, all_right, towers_have_leaves}
pub use Rattle.bdb_law_levels.proofs.TakenLemmas.{all_heads, counted_member}
pub use Rattle.bdb_law_levels.specs.Contents.{BeginsWith, Follow, FollowFrom, Follows, entries_below, pairs_below}
pub use Rattle.bdb_law_levels.specs.Links.{leaf_types}
pub use Rattle.bdb_law_levels.specs.Nodes.{AreOver, CountsTwo, HasLeaves, IsOver, IsTower, Node, keyed_item, keyed_items, no_node, numbered_item}
pub use Rattle.bdb_law_levels.specs.Roots.{IsHeadOnce, IsOfLevel, KeyStands, KeysStand, is_of, key_heads, types_below}
pub use Rattle.bdb_law_levels.specs.declared.inner_type.InnerType.{InnerType}
pub use Rattle.bdb_law_levels.specs.declared.inner_type.InnerType.TheVariants.{Keyed, Numbered}
pub use Rattle.bdb_pack.proofs.AddedLemmas.{added_zero}
pub use Rattle.bdb_pack.proofs.BegunLemmas.{begun_stays}
pub use Rattle.bdb_pack.proofs.CutLemmas.{more_whole, page_whole, written_whole}
pub use Rattle.bdb_pack.proofs.FormLemmas.{begun_is_formed}
pub use Rattle.bdb_pack.proofs.HeaderLemmas.{begun_pages_take_items, header_read, length-header}
pub use Rattle.bdb_pack.proofs.ImageLemmas.{counted_so_far, page_so_far}
pub use Rattle.bdb_pack.proofs.OpenLemmas.{open_is, recno_length}
pub use Rattle.bdb_pack.proofs.PlaceLemmas.{behind, byte_same, drop_same, number_before, number_here, number_same}
pub use Rattle.bdb_pack.proofs.PlacedLemmas.{IsEntered, IsPlaced, is_below, is_entered, pad-le}
pub use Rattle.bdb_pack.proofs.PlacingLaws.{items_are_placed}
pub use Rattle.bdb_pack.proofs.StandingLemmas.{internal_item_same, leaf_item_same, listing, not_zero, recno_item_same, typed}
pub use Rattle.bdb_pack.proofs.of_law_grove.AscendLemmas.{ascend_bounds, ascend_follow, ascend_from, ascend_on, ascend_strictly, range_ascends}
pub use Rattle.bdb_pack.proofs.of_law_grove.BranchLemmas.{branch_is_known, branches_follow, branches_stand_together, chain_is_branch, no_branch, of_list}
pub use Rattle.bdb_pack.proofs.of_law_grove.ChainLemmas.{between_is, is_between, same_test}
pub use Rattle.bdb_pack.proofs.of_law_grove.GroveLemmas.{above, fits_asked}
pub use Rattle.bdb_pack.proofs.of_law_grove.LeafLemmas.{above_low, all_names, ascend_once, chain_fits, leaf_names, leaves_stand_over, names_fit}
pub use Rattle.bdb_pack.proofs.of_law_grove.SeveralLemmas.{count, count-append, named_count, named_not, named_reference, once_apart, one_at_most, some_count}
pub use Rattle.bdb_pack.proofs.of_layout.WritingLemmas.{length-internal_chain, length-internal_inline, length-leaf_chain, length-leaf_inline, length-leaf_tree}
pub use Rattle.bdb_pack.specs.Built.{AreWhole, Built, bytes_of, file_so_far, with_copy, with_page, with_zeros, without_last, written_over}
pub use Rattle.bdb_pack.specs.Items.{HasPlace, IsWritable, OnInternal, OnLeaf, OnRecno, PageItem, extent, holds_item, item_bytes, takes_items}
pub use Rattle.bdb_pack.specs.OnPages.{HasPlaceOn, HasRoomOn, IsBegunOn, has_room_on, with_item_on}
pub use Rattle.bdb_pack.specs.Placing.{CanShare, HasRoom, IsBegun, begun_header, begun_page, empty_listed, empty_page, high_free_of, page_again, page_and_item, page_and_shared, page_with, place_below}
pub use Rattle.bdb_pack.specs.Placing.{with_item}
pub use Rattle.bdb_pack.specs.Values.{AreChainPages, HasChain, IsStored, chain_page}
pub use Rattle.bdb_pack.specs.of_law_grove.Growing.{IsCounted, IsLater, IsRun, IsSamePage}
pub use Rattle.bdb_pack.specs.of_law_grove.Leaves.{Ascend, AscendIn, ChainFits, ContentFits, FilledLeaf, IsFilled, SetFits, content_pages, pages_held}
pub use Rattle.bdb_pack.specs.of_law_grove.Part.{IsBranch, IsPart, are_heads_alone, between, entrance_asks, has_wrong_place, is_wrong_place, owners_among}
pub use Rattle.bdb_pack.specs.of_layout.Seen.{internal_item_seen, key_seen, leaf_item_seen}
pub use Rattle.bdb_places.proofs.of_format.LeafLemmas.{leaf_item_is}
pub use Rattle.bdb_places.proofs.of_format.ListLemmas.{all_of, flat_map_same, flat_map_twice, map_joined, only_member, range_parts}
pub use Rattle.bdb_places.proofs.of_format.MemberLemmas.{first_member, in_flat_map, in_map, in_range, later_member, member_cases, member_or_not, no_member, none_pass, none_passes, of_filter}
pub use Rattle.bdb_places.proofs.of_format.MemberLemmas.{of_flat_map, of_map, of_range}
pub use Rattle.bdb_places.proofs.of_format.PageLemmas.{header_listed, index_offset, length_items}
pub use Rattle.bdb_places.proofs.of_format.SizeLemmas.{size_bounds}
pub use Rattle.bdb_places.proofs.of_format.SpellingLemmas.{byte_at-in, length-overwritten, length-spelled}
pub use Rattle.bdb_places.specs.Places.{values_seen}
pub use Rattle.bdb_places.specs.of_format.Terms.{BtreeFields, BytesKey, Chain, Content, File, Inline, Internal, InternalItem, IsKey, IsLeafContent, Item, Leaf, ListKey, Listed, Meta, Overflow, Page}
unfoldable pub use Rattle.bdb_places.specs.of_format.Terms.{btree_list}
pub use Rattle.bdb_places.specs.of_format.Terms.{RecnoInternal, Set, StoredPair, Tree, Unknown, abstract_page, ascends, ascends_from, btree_contents, btree_kind, byte_at, children_in}
unfoldable pub use Rattle.bdb_places.specs.of_format.Terms.{data_of}
pub use Rattle.bdb_places.specs.of_format.Terms.{content_chains, content_targets, contents_in, counts_records, database_rows, entries_in, file_of, first_or_zero, first_row, fit_rows, four_at}
pub use Rattle.bdb_places.specs.of_format.Terms.{groups, has_duplicate, has_duplicates, has_type, has_unsorted, has_wrong_count, has_wrong_record, has_wrong_separator, has_wrong_set, head_of}
unfoldable pub use Rattle.bdb_places.specs.of_format.Terms.{inner_pages, internal_bytes}
pub use Rattle.bdb_places.specs.of_format.Terms.{header_bytes, header_in, header_of, held_by, index_end, inner_in, internal_item_at, is_deleted, is_duplicate, is_fixed}
pub use Rattle.bdb_places.specs.of_format.Terms.{is_head_reference, is_out_of_order, is_page_size, is_set, is_shared_key, is_sorted, is_tree_type, is_unsorted, is_wrong_at, is_wrong_entry_count}
pub use Rattle.bdb_places.specs.of_format.Terms.{is_wrong_length, is_wrong_level, is_wrong_record, is_wrong_set, is_zero, item_at, item_code, item_row, joined, leaf_bytes, leaf_item_at, leaf_rows}
unfoldable pub use Rattle.bdb_places.specs.of_format.Terms.{leaves_in, listed}
pub use Rattle.bdb_places.specs.of_format.Terms.{leaves, less, list_of, listed_entry, listed_pair, live_data, live_values, neighbours, neighbours_from, no_item, number_at}
unfoldable pub use Rattle.bdb_places.specs.of_format.Terms.{page_code, pairs_of}
pub use Rattle.bdb_places.specs.of_format.Terms.{offset_of, overwritten, pad4, page_as, page_at, page_bytes, page_type, pair_at, pairs_in, pieces_of, places_from, recno_bytes}
unfoldable pub use Rattle.bdb_places.specs.of_format.Terms.{recno_list, tree_entries, tree_pairs, value_of}
pub use Rattle.bdb_places.specs.of_format.Terms.{recno_contents, recno_item_at, refs, root_types, spelled, targets_in, two_at, type_in, wrong_set_types}
pub use Rattle.bdb_places.specs.of_format.Terms.{◌:?◌}
pub use Rattle.bdb_places.specs.of_format.declared.kinds.Order.{Order}
pub use Rattle.bdb_places.specs.of_format.declared.metadata.BtreeMeta.{BtreeMeta}
pub use Rattle.bdb_places.specs.of_format.declared.pages.Header.{Header}
pub use Rattle.bdb_places.specs.of_format.declared.pages.RecnoItem.{RecnoItem}
pub use Rattle.bdb_places.specs.of_format.declared.references.Sort.TheVariants.{DuplicateRoot, Root}
pub use Rattle.bdb_mkleaves.specs.Filled.{AllStand, AreFilled, AreSomeFilled, AreSpreadOver, FilledNow, IsPushed, IsReady, IsUnitPut, PushedUnitsSpread, SpreadNow, StandOn, UnitsFit, all_contents}
pub use Rattle.bdb_mkleaves.specs.Filled.{rest_of, unit_contents}
pub use Rattle.bdb_mkleaves.specs.Finished.{FinishedTreesAreCounted, FinishedTreesAreFormed, FinishedTreesAreLaid, FinishedTreesAreLaidOut, FinishedTreesKeepOlderPages, FinishedTreesKeepPages}
pub use Rattle.bdb_mkleaves.specs.Finished.{FinishedTreesKeepTrees, FirstRootsAreLaid, HasFirstRoot, HasLaidTree, HasRootOn, HasTowerOn, IsRootPlaced}
pub use Rattle.bdb_mkleaves.specs.Grown.{GrownSetsStand, live_entry}
pub use Rattle.bdb_mkleaves.specs.Inner.{CanTakeChild, ChildrenAreFormed, ChildrenStand, CountsFew, CountsOne, HasLiveKeys, HasNodes, HoldsChildren, HoldsChildrenOn, KeysCount, RaisedPagesStand}
pub use Rattle.bdb_mkleaves.specs.Inner.{added_key, child_cost, child_item, counting_two, first_cost, inner_header, inner_number, key_cost, nodes_cost, raised, with_inner}
pub use Rattle.bdb_mkleaves.specs.Laid.{AreLaid, Counts, HasUnits, IsKeyOf, IsLiveUnit, IsNodeOf, IsTreeLaid, LaidSetsHoldData, LaidTreesAreBranches, LaidTreesAreLinked, LaidTreesAreLive}
pub use Rattle.bdb_mkleaves.specs.Laid.{LaidTreesAreParts, LaidTreesHaveLeaves, SuitsBtree, SuitsRecno, entries_on, filled_leaf, has_deleted, has_sorted_data, held_by_leaves, inner_of, is_laid}
pub use Rattle.bdb_mkleaves.specs.Laid.{live_value, tree_pages}
pub use Rattle.bdb_mkleaves.specs.Layout.{HasPagesOf, HasTreeIn, HasTreeOn, HeadCounts, IsLaidOut, IsLevelPage, IsTreeIn, IsTreeOn, TreeParts, TreesAreIn, TreesAreSorted, contents_below, heads_named}
pub use Rattle.bdb_mkleaves.specs.Layout.{leaf_heads, placed_below}
pub use Rattle.bdb_mkleaves.specs.LeafChildren.{leaf_child, leaf_children, leaf_node, leaf_nodes}
pub use Rattle.bdb_mkleaves.specs.LeafEntries.{CanShareKey, CanTakeEntry, Entry, HoldsEntries, HoldsEntriesOn, HoldsIn, IsLeafIn, LeavesAreFormed, LeavesStand, contents_of, count_of, entry_cost}
pub use Rattle.bdb_mkleaves.specs.LeafEntries.{item_cost, leaf_header, leaf_of, no_entry, own_content, own_entry, pair_in, pairs_from, room_of, shared_entry, shared_key, type_number, with_field}
pub use Rattle.bdb_mkleaves.specs.LeafEntries.{with_leaf}
pub use Rattle.bdb_mkleaves.specs.Leaves.{AreLeaves, AreSomeLeaves, HasRoomNow, IsOpened, KeepsAll, KeepsBefore, KeepsOthers, LeavesFrom, first_of, has_room, last_of}
pub use Rattle.bdb_mkleaves.specs.Levels.{AreChildren, BeginsWithKey, CanBeAsked, CanPush, HasKey, IsChild, IsKeptPage, IsLaidBy, IsLaidPage, IsLevelLaid, IsStarted, KeyStandsOn, LacksRoom, LaidNow}
pub use Rattle.bdb_mkleaves.specs.Levels.{LevelsAreFormed, LevelsAreLater, LevelsAreNumbered, LevelsGoOn, LevelsKeepPages, LevelsShrink, LevelsStand, TakesNode, TakesNow, heads_in, heads_of}
pub use Rattle.bdb_mkleaves.specs.Levels.{heads_under, no_child, node_over, nodes_over, raising, stored_heads, stored_key}
pub use Rattle.bdb_mkleaves.specs.Moved.{AreLinked, IsFirstMoved, IsMoved, LinkedFrom, first_leaf, numbers_of, second_leaf}
pub use Rattle.bdb_mkleaves.specs.Placed.{HasLength, HasValue, HoldsUnits, IsAllowed, IsDatum, IsOneValue, IsPlacedBySize, IsStoredBySize, KeepsRules, LeafUnits, PairsFollow, Placed, PlacedEntry}
pub use Rattle.bdb_mkleaves.specs.Placed.{PlacedPairs, PlacedTree, RecordsKeepLength, StandsBySize, StandsPlaced, UnitsAreListed, UnitsAreRead, UnitsCost, UnitsKeepRules, ValueItem, entries_of}
pub use Rattle.bdb_mkleaves.specs.Placed.{further_entries, has_several, has_wrong_root, pages_of, pairs_on, tree_item, unit_of, units_in, values_in}
pub use Rattle.bdb_mkleaves.specs.Puts.{CountsOneFrom, IsGrown, IsItemOf, IsPut, ValueStands}
pub use Rattle.bdb_mkleaves.specs.Rooted.{CountsLeaves, IsOneLeaf, leaf_with, placed_on, zip_units}
pub use Rattle.bdb_mkleaves.specs.Runs.{ArePairsPut, HasWholePairs, IsLiveItem, IsRunPut, IsShort, ValuesStand, held_by_item, more_cost, more_entries, pair_entries, pairs_cost}
pub use Rattle.bdb_mkleaves.specs.Sets.{IsKeyedPushed, IsSetBuilt, IsSetFilled, IsTreePut, SetStands}
pub use Rattle.bdb_mkleaves.specs.Spread.{AreSpreadLevels, IsNodeOver, first_or, inner_cost, key_item_cost, leaf_key, leaves_and_levels, named_heads, own_pages, pages_over, set_pages, set_type}
pub use Rattle.bdb_mkleaves.specs.Spread.{spread_items, spread_nodes, spread_on, spread_units, unit_key}
pub use Rattle.bdb_mkleaves.specs.Tower.{CountsAll, EndsInRoot, HasTower, levels_to}
pub use Rattle.bdb_mkleaves.specs.Units.{EntryUnit, KeyedUnit, TreeUnit, chain_pages, entry_unit, group_unit, has_own_tree, key_of, keyed_units, list_of_units, listed_keyed, listed_record, page_room}
pub use Rattle.bdb_mkleaves.specs.Units.{record_cost, set_cost, unit_cost, unit_has_tree, value_cost}
pub use Rattle.bdb_mkleaves.specs.declared.leaf_type.LeafType.{LeafType}
pub use Rattle.bdb_mkleaves.specs.declared.leaf_type.LeafType.TheVariants.{Pairs, Records, SortedData}
pub use Rattle.bdb_mkleaves.specs.declared.leaves.Leaves.{Leaves}
pub use Rattle.bdb_mkleaves.specs.declared.levels.Child.{Child}
