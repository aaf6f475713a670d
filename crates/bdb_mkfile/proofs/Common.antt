-- What the proofs of this crate name of definitions and of the crates below.
pub use Rattle.std.proofs.Math.Nat.{div-mul-le_self, lt-div-mul-add, mul-le-mul_left, mul-le-mul_right}
pub use Rattle.std.proofs.lemmas.Bool.{and_parts, and_right, cases_Bool, cases_eq, cases_lt, eq-eqb, false_from_ne_true, le-leb, le-ltb, lt-ltb, ne_eqb, or_parts, or_right, true_from_ne_false}
pub use Rattle.std.proofs.lemmas.Bool.Decides.{nat_tests}
pub use Rattle.std.proofs.lemmas.List.{append-nil, drop_all, drop_more, get_or-replicate, get_or-set_other, get_or-set_same, get_or_append_left, length-map, length-replicate, length-reverse}
pub use Rattle.std.proofs.lemmas.List.{length-set, length-take-le, map-append, reverse-append, take_at, take_more}
pub use Rattle.std.proofs.lemmas.List.Elements.{All-cons, All-head, All-map, All-nil, All-push, All-tail, All-weaker, filter-append}
pub use Rattle.std.proofs.lemmas.List.Folds.{fold-map, list_any-append}
pub use Rattle.std.proofs.lemmas.List.FromFn.{length-map-range_with_len}
pub use Rattle.std.proofs.lemmas.List.Sums.{sum_by-append, sum_by-cons}
pub use Rattle.std.proofs.lemmas.Nat.{le-div, ones_le_self, pow_pos}
pub use Rattle.std.proofs.lemmas.Result.{IfOk-weaker, on_ok_weaker}
pub use Rattle.std.specs.Cmp.Derive.{both_true}
pub use Rattle.std.specs.List.{All, AllZip, Contains, filter, find, flat_map, fold, list_all, list_any, range_with_len, sum_by}
pub use Rattle.std.specs.Str.{bytes_eq}
pub use Rattle.bdb_io.proofs.of_format.LessLemmas.{eq_same, eq_self, less_trans, not_less_same, same_unless_less}
pub use Rattle.bdb_io.proofs.of_format.MemberLemmas.{first_member, later_member, member_cases, no_member, none_pass, of_range}
pub use Rattle.bdb_io.proofs.of_format.SizeLemmas.{size_bounds}
pub use Rattle.bdb_io.proofs.of_format.SpellingLemmas.{length-spelled, number-spelled, number_at-in}
pub use Rattle.bdb_io.specs.of_format.Terms.{BtreeFields, BytesKey, Database, File, HashFields, Less, ListKey, Meta, Metadata, QueueFields, abstract_page, are_masks, ascends, ascends_from, body_code}
pub use Rattle.bdb_io.specs.of_format.Terms.{btree_bytes, btree_fields, byte_at, common_bytes, database_rows, databases, file_of, first_judgement, first_row, form_code, four_at, group, has_bit}
unfoldable pub use Rattle.bdb_io.specs.of_format.Terms.{hash_list}
pub use Rattle.bdb_io.specs.of_format.Terms.{has_duplicates, hash_fields, hash_settings, head_of, identity_rows, is_key, is_meta, is_name, is_page, is_page_size, is_tree_type, is_zero}
unfoldable pub use Rattle.bdb_io.specs.of_format.Terms.{metadata_rows, page_code}
pub use Rattle.bdb_io.specs.of_format.Terms.{lacks_spare, last_field, less, list_of, magic_of, names_databases, pad4, page_at, page_bytes, page_named, page_type}
unfoldable pub use Rattle.bdb_io.specs.of_format.Terms.{queue_bytes, spelled, table_bytes, table_pairs}
pub use Rattle.bdb_io.specs.of_format.Terms.{plain_settings, queue_fields, settings_of, verdict_of, version_of, zeros}
pub use Rattle.bdb_io.specs.of_format.declared.kinds.Kind.{Kind}
pub use Rattle.bdb_io.specs.of_format.declared.kinds.Kind.TheVariants.{Btree, Hash, Queue, Recno}
pub use Rattle.bdb_io.specs.of_format.declared.kinds.Order.{Order}
pub use Rattle.bdb_io.specs.of_format.declared.kinds.Order.TheVariants.{Big}
pub use Rattle.bdb_io.specs.of_format.declared.metadata.BtreeMeta.{BtreeMeta}
pub use Rattle.bdb_io.specs.of_format.declared.metadata.HashMeta.{HashMeta}
pub use Rattle.bdb_io.specs.of_format.declared.metadata.Head.{Head}
pub use Rattle.bdb_io.specs.of_format.declared.settings.Settings.{Settings}
pub use Rattle.bdb_law_sections.specs.Fit.{AreFit, AreFitSettings, AreNamedBehind, IsFitPair, IsFitSection, is_number}
pub use Rattle.bdb_need.proofs.NeedLemmas.{HasShortName, listed_again, short_bytes}
pub use Rattle.bdb_need.proofs.of_image.CodeLemmas.{first_page_code, tree_metadata, tree_passed}
pub use Rattle.bdb_need.proofs.of_image.HeldLemmas.{table_page, tree_page}
pub use Rattle.bdb_need.proofs.of_law_grove.ChainLemmas.{between_is, is_between}
pub use Rattle.bdb_need.proofs.of_law_join.CommonLemmas.{ReadsAs, reads_common}
pub use Rattle.bdb_need.proofs.of_law_join.FiledLemmas.{btrees_are_spelled, filed_parts_are_joined, has_head, length-btree, read_back}
pub use Rattle.bdb_need.proofs.of_law_join.HeadLemmas.{IsImage, first_of_none, head_accepted, image_head, none_by}
pub use Rattle.bdb_need.proofs.of_law_join.ReadLemmas.{page_read}
pub use Rattle.bdb_need.proofs.of_mkleaves.FilledLemmas.{later_self}
pub use Rattle.bdb_need.proofs.of_mkleaves.LayoutLemmas.{trees_are_in}
pub use Rattle.bdb_need.proofs.of_mkleaves.RunLemmas.{all_map, later_before}
pub use Rattle.bdb_need.proofs.of_mkqueue.WrittenLemmas.{begins, length-queue, written_queues_are_sound}
pub use Rattle.bdb_need.proofs.of_pack.AddedLemmas.{added_zero}
pub use Rattle.bdb_need.proofs.of_pack.CutLemmas.{all_size, page_whole, written_whole}
pub use Rattle.bdb_need.proofs.of_pack.ImageLemmas.{counted_so_far, images_are_later, page_so_far}
pub use Rattle.bdb_need.proofs.of_settle.ErrorLemmas.{IsSound, both_empty, each_empty, not_so, sound_pairs}
pub use Rattle.bdb_need.proofs.of_settle.FillingLemmas.{fill, fold_filled, sections_filled}
pub use Rattle.bdb_need.proofs.of_settle.ListLawLemmas.{by_numbers, filled_length, filled_short, load_into_lists}
pub use Rattle.bdb_need.proofs.of_settle.OrderedLemmas.{Ordered, OrderedFrom, fold_all, fold_ordered, follows}
pub use Rattle.bdb_need.proofs.of_settle.SettlingLemmas.{none_left}
pub use Rattle.bdb_need.specs.Need.{AreSettled, IsListOf, IsSettled, is_short, list_pages, master_pages, master_settings, name_in, name_pair, need_of, section_pages, sized}
pub use Rattle.bdb_need.specs.TreePages.{tree_pages, unlined_pairs}
pub use Rattle.bdb_need.specs.of_law_buckets.Tables.{HasBuiltBuckets, HasBuiltTable, Keyed, dealt, table_meta}
pub use Rattle.bdb_need.specs.of_law_grove.Growing.{IsCounted, IsLater, IsSamePage}
pub use Rattle.bdb_need.specs.of_law_grove.Part.{IsPart, Part, between}
pub use Rattle.bdb_need.specs.of_law_join.Alone.{IsSoundAlone, StandsAlone}
pub use Rattle.bdb_need.specs.of_law_join.Filed.{AreFiled, IsSpelled, head_for}
pub use Rattle.bdb_need.specs.of_law_join.Joining.{HasForm, HoldsLists, IsInPartOf, IsJoined, IsMetaOf, Joint, free_of}
pub use Rattle.bdb_need.specs.of_law_join.Masters.{AreNamesApart, IsDatabase, IsSoundUnderMaster, IsUnderMaster, MasterPair}
pub use Rattle.bdb_need.specs.of_law_join.Written.{AreLegal, HasHead, HoldsTree, IsWritten, SpellsMeta, tree_part}
pub use Rattle.bdb_need.specs.of_meta.RowGroups.{flag_rows}
pub use Rattle.bdb_need.specs.of_mkhash.Buckets.{bits_for, buckets_of, keyed_of, spread_bucket, table_bits, table_cost, table_size, table_units}
pub use Rattle.bdb_need.specs.of_mkhash.Costs.{data_form, keyed_cost, keyed_own_pages, pages_in, stand_together}
pub use Rattle.bdb_need.specs.of_mkhash.Table.{IsTableBuilt, IsTableList}
pub use Rattle.bdb_need.specs.of_mkleaves.Layout.{AreTreesIn, HasPagesOf}
pub use Rattle.bdb_need.specs.of_mkleaves.Runs.{IsShort}
pub use Rattle.bdb_need.specs.of_mkleaves.Spread.{inner_cost, leaf_key, leaves_and_levels, own_pages, pages_over, set_pages, set_type, spread_on, spread_units, tree_size}
pub use Rattle.bdb_need.specs.of_mkleaves.Units.{EntryUnit, KeyedUnit, TreeUnit, chain_pages, has_own_tree, key_of, page_room, set_cost, unit_cost, value_cost}
pub use Rattle.bdb_need.specs.of_mkleaves.declared.leaf_type.LeafType.{LeafType}
pub use Rattle.bdb_need.specs.of_mkqueue.Layout.{queue_meta, queue_size}
pub use Rattle.bdb_need.specs.of_mkqueue.Lists.{HasLength, HasNext, IsQueueList, next_number}
pub use Rattle.bdb_need.specs.of_mktree.Building.{IsTreeBuilt}
pub use Rattle.bdb_need.specs.of_mktree.Lists.{HasNumber, IsKeyFor, IsPairFor, IsTreeList, bytes_in, is_in_order, keyed_units, may_follow, missing, onto_units, record_units, units_in}
pub use Rattle.bdb_need.specs.of_mktree.Units.{IsTreeKind, is_counted, leaf_type_of}
pub use Rattle.bdb_need.specs.of_pack.Built.{AreWhole, Built, bytes_of, file_so_far, joined_pages, with_page, with_zeros, written_over}
pub use Rattle.bdb_need.specs.of_settle.ListLaw.{HasShortBytes, IsFit, IsKeyOf}
pub use Rattle.bdb_need.specs.of_settle.LoadErrors.{header_errors, is_among_names, is_too_wide, load_error, page_size_in, pair_errors, section_errors, where_so}
pub use Rattle.bdb_need.specs.of_settle.Loaded.{filled_section, filled_value, has_length, keeps_data, loaded, loaded_pair, loaded_section, ordered, ordered_section, sorts_data, stands_before}
pub use Rattle.bdb_need.specs.of_settle.Loaded.{unnumbered, with_loaded}
pub use Rattle.bdb_need.specs.of_settle.declared.load_error.LoadError.TheVariants.{Memory, QueueAmongNames, RecordTooLong, RecordZero, TooLarge}
pub use Rattle.bdb_text_format.specs.Terms.{AscendFrom, header_lines, holds_records, is_queue, listed, number_of, pairs_of, slice_seen, unlined}
pub use Rattle.bdb_text_format.specs.declared.pairs.Key.{Key}
pub use Rattle.bdb_text_format.specs.declared.pairs.Key.TheVariants.{Bytes, Number}
pub use Rattle.bdb_text_format.specs.declared.pairs.Pair.{Pair}
pub use Rattle.bdb_text_format.specs.declared.pairs.TextPair.{TextPair}
pub use Rattle.bdb_text_format.specs.declared.sections.Section.{Section}
pub use Rattle.bdb_mkfile.specs.Builds.{Builds, IsLoadedAs, image_size, in_file_of, in_name_order, name_of, put_named}
pub use Rattle.bdb_mkfile.specs.FileSettings.{file_settings, own_settings, tree_meta}
pub use Rattle.bdb_mkfile.specs.Layout.{AreJointsFrom, IsJointOf, entries_from, entry_of, named_table_meta, named_tree_meta, settings_of_master}
pub use Rattle.bdb_mkfile.specs.Lengths.{is_short_pair, is_short_section}
pub use Rattle.bdb_mkfile.specs.Lists.{IsQueueAlone, LoadIntoQueues, LoadIntoTables, QueuesAreAlone, RecordsAreFew, TextHasNext}
pub use Rattle.bdb_mkfile.specs.Loading.{IsLoadRefusal, IsLoadRefusalBy, loading_error, or_else, size_error}
pub use Rattle.bdb_mkfile.specs.LoneImages.{IsLoneImage, IsQueueImage, IsTableImage, queue_first, queue_pages, table_fields, table_first, table_pages}
pub use Rattle.bdb_mkfile.specs.Metas.{HaveMetas, TreeIsIn, meta_for, settings_in}
pub use Rattle.bdb_mkfile.specs.NamedImages.{AreNamed, AreNamedSettings, HasBuiltTables, IsDatabaseOf, IsNamed, IsNamedImage, name_entry, names_pages}
pub use Rattle.bdb_mkfile.specs.NamedLaws.{EntriesAreListed, EntriesNameDatabases, EntriesNameMetas, EntriesTakePages, TablesAreSpelled, TablesHaveNames, TreesHaveNames}
pub use Rattle.bdb_mkfile.specs.Order.{AreApart, IsApart, named_before, with_named}
pub use Rattle.bdb_mkfile.specs.Settled.{AreBuildable, AreNamedApart, IsBuildable, IsImageBy, IsImageOfSections, IsLaidOut, IsListImage, IsSectionImage, IsUnnamedAlone}
pub use Rattle.bdb_mkfile.specs.Standing.{AreAdded, AreDatabasesBuilt, AreLaid, CanBeSpelled, Counts, HoldsPart, IsDatabaseBuilt, IsDatabaseLaid, IsMasterBuilt, IsSectionBuilt, Laid, part_between}
pub use Rattle.bdb_mkfile.specs.Standing.{part_of}
pub use Rattle.bdb_mkfile.specs.Trees.{IsTreeImage, IsTreeSettings, tree_first}
pub use Rattle.bdb_mkfile.specs.WrittenMetadata.{AreAsMany, ArePut, AreWrittenFrom, IsPut, IsWrittenOn, ReadsBack, fields_of, meta_bytes}
pub use Rattle.bdb_mkfile.specs.WrittenTables.{IsWrittenTable, WrittenTablesAreSound, table_part}
pub use Rattle.bdb_mkfile.specs.declared.named_metadata.DatabaseMeta.{DatabaseMeta}
pub use Rattle.bdb_mkfile.specs.declared.named_metadata.DatabaseMeta.TheVariants.{Table, Tree}
