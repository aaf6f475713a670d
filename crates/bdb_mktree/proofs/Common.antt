-- What the proofs of this crate name of definitions and of the crates below.
pub use Rattle.std.proofs.lemmas.Bool.{and_parts, cases_Bool, ltb-true, or_cases}
pub use Rattle.std.proofs.lemmas.List.{append-nil, append_assoc, drop-drop, drop-map, drop_all, drop_more, get_or-map, length-drop, length-map, length-take-le, map-append, take-map}
pub use Rattle.std.proofs.lemmas.List.Elements.{All-append, All-cons, All-drop, All-head, All-nil, All-push, All-tail, Contains-append_right}
pub use Rattle.std.specs.Cmp.Derive.{both_true}
pub use Rattle.std.specs.List.{All, AllZip, enumerate_from, flat_map, prefix_len}
pub use Rattle.std.specs.Str.{bytes_eq}
pub use Rattle.bdb_mkleaves.proofs.CountedLaws.{begun_leaves_are_counted, finished_trees_have_size, pushed_units_are_counted}
pub use Rattle.bdb_mkleaves.proofs.GrownLemmas.{all_joined, contents_held, laid_leaves}
pub use Rattle.bdb_mkleaves.proofs.NodesLemmas.{all_units}
pub use Rattle.bdb_mkleaves.proofs.RestLemmas.{is_one, rest_is}
pub use Rattle.bdb_mkleaves.specs.Filled.{AreFilled, IsPushed, rest_of}
pub use Rattle.bdb_mkleaves.specs.Finished.{HasFirstRoot, HasLaidTree}
pub use Rattle.bdb_mkleaves.specs.Laid.{AreLaid, Counts}
pub use Rattle.bdb_mkleaves.specs.Leaves.{KeepsBefore, KeepsOthers, LeavesFrom, first_of, has_room}
pub use Rattle.bdb_mkleaves.specs.Moved.{first_leaf, numbers_of}
pub use Rattle.bdb_mkleaves.specs.Placed.{HasLength, HoldsUnits, IsAllowed, IsPlacedBySize, LeafUnits, Placed, PlacedEntry, PlacedPairs, PlacedTree, StandsPlaced, entries_of, has_several}
pub use Rattle.bdb_mkleaves.specs.Placed.{has_wrong_root, pages_of, unit_of, values_in}
pub use Rattle.bdb_mkleaves.specs.Rooted.{CountsLeaves, placed_on}
pub use Rattle.bdb_mkleaves.specs.Sets.{IsKeyedPushed}
pub use Rattle.bdb_mkleaves.specs.Units.{EntryUnit, KeyedUnit, TreeUnit, key_of, list_of_units, listed_keyed, listed_record, unit_cost, units_on}
pub use Rattle.bdb_mkleaves.specs.declared.leaf_type.LeafType.{LeafType}
pub use Rattle.bdb_mkleaves.specs.declared.leaves.Leaves.{Leaves}
pub use Rattle.bdb_mkleaves.specs.of_law_grove.Growing.{IsCounted, IsLater}
pub use Rattle.bdb_mkleaves.specs.of_pack.Built.{Built, file_so_far}
pub use Rattle.bdb_text_format.proofs.of_format.LessLemmas.{eq_same, eq_self, less_self}
pub use Rattle.bdb_text_format.proofs.of_format.ListLemmas.{map_joined}
pub use Rattle.bdb_text_format.specs.Terms.{AscendFrom, key_seen, keys_of, listed, listed_key, number_of, pairs_of, slice_seen, unlined, unlined_pairs, values_of}
pub use Rattle.bdb_text_format.specs.declared.pairs.Pair.{Pair}
pub use Rattle.bdb_text_format.specs.declared.pairs.TextPair.{TextPair}
pub use Rattle.bdb_text_format.specs.of_format.Terms.{BtreeFields, BytesKey, File, ListKey, NumberKey, ascends, ascends_from, btree_kind, counts_records, has_duplicates, is_fixed, is_page_size}
pub use Rattle.bdb_text_format.specs.of_format.Terms.{is_recno, is_sorted, less, settings_of}
pub use Rattle.bdb_text_format.specs.of_format.declared.kinds.Kind.{Kind}
pub use Rattle.bdb_text_format.specs.of_format.declared.kinds.Kind.TheVariants.{Btree, Recno}
pub use Rattle.bdb_text_format.specs.of_format.declared.settings.Settings.{Settings}
pub use Rattle.bdb_mktree.specs.Building.{ArePushed, Building, CanBePushed, IsTreeBuilt, all_placed, units_of}
pub use Rattle.bdb_mktree.specs.Lists.{AreKeysOf, HasBytes, IsKeyFor, IsPairFor, IsRecordAt, IsRunAt, IsTreeList, bytes_in, has_key, has_key_at, is_further, is_in_order, keyed_units, may_follow}
pub use Rattle.bdb_mktree.specs.Lists.{missing, onto_units, record_units, units_in}
pub use Rattle.bdb_mktree.specs.Units.{IsNext, IsShortUnit, IsTreeKind, KeysAscend, Suits, is_counted, leaf_type_of, unit_seen}
pub use Rattle.bdb_mktree.specs.declared.builder.TreeBuilder.{TreeBuilder}
