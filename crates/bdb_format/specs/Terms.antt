-- What files above name of this crate, in one import: its definitions, and the types of its code.
pub use Rattle.bdb_format.specs.ByPage.{ComesFirst}
pub use Rattle.bdb_format.specs.Cases.{fault_seen, judged_as, judgement_seen}
pub use Rattle.bdb_format.specs.Chains.{chain, chain_rows, chains_in, content_chains, is_wrong_length, joined, next_of, piece_in}
unfoldable pub use Rattle.bdb_format.specs.Chains.{chain_in, pieces_of, value_of}
pub use Rattle.bdb_format.specs.ContentRows.{Separated, ascends, ascends_from, breaks, btree_contents, bucket_of_key, contents_rows, database_rows, fields_in}
pub use Rattle.bdb_format.specs.ContentRows.{fields_of, groups, has_duplicate, has_unsorted, has_wrong_bucket, has_wrong_count, has_wrong_record}
pub use Rattle.bdb_format.specs.ContentRows.{has_wrong_separator, has_wrong_set, hash_contents, holds_code, holds_somewhere, inner_in, is_duplicate}
pub use Rattle.bdb_format.specs.ContentRows.{is_out_of_order, is_set, is_unsorted, is_wrong_at, is_wrong_count, is_wrong_record, is_wrong_set, live_data}
pub use Rattle.bdb_format.specs.ContentRows.{neighbours, neighbours_from, no_separator, recno_contents, repeated, repeats, separated, wrong_set_types}
unfoldable pub use Rattle.bdb_format.specs.ContentRows.{database_faults, inner_pages}
pub use Rattle.bdb_format.specs.Contents.{StoredPair, bucket_pages, bucket_pairs, entries_in, live_values, pair_at, pairs_in}
unfoldable pub use Rattle.bdb_format.specs.Contents.{data_of, pairs_of, table_pairs, tree_entries, tree_pairs}
pub use Rattle.bdb_format.specs.Databases.{Database, btree_settings, data_under, database_on, databases_under, get_number, hash_settings, is_name}
pub use Rattle.bdb_format.specs.Databases.{named_database, place_from, place_of, plain_settings, queue_settings, recno_settings, settings_of}
unfoldable pub use Rattle.bdb_format.specs.Databases.{databases}
pub use Rattle.bdb_format.specs.Digits.{digits_value, is_digit, is_number, number_in}
pub use Rattle.bdb_format.specs.FaultTable.{coded, contents_row_code, fault_at, fault_if, file_row_code, form_row_code, reference_row_code, row_code, row_stage}
pub use Rattle.bdb_format.specs.FaultTable.{structure_row_code, unsupported_name}
unfoldable pub use Rattle.bdb_format.specs.FaultTable.{fault_name}
pub use Rattle.bdb_format.specs.Faults.{AppendsPrefix, HasCause, ReadsInto, Rose, Took, TookAtMost, WritesFrom}
pub use Rattle.bdb_format.specs.File.{File, header_in, kind_in, no_header, page_at, page_bytes, type_in}
unfoldable pub use Rattle.bdb_format.specs.File.{file_as, file_of}
pub use Rattle.bdb_format.specs.Flags.{btree_kind, counts_records, has_duplicates, is_fixed, is_recno, is_sorted, kind_of, names_databases}
pub use Rattle.bdb_format.specs.Graph.{HasRole, IsOwnedOnce, IsSharedHead, OneRole, Owner, first_holder, has_heads_alone, held_by, if_some, is_anchor_in}
pub use Rattle.bdb_format.specs.Graph.{is_hash_meta, is_head_reference, is_meta, is_owned_twice, is_shared_too_often, is_spare, is_unowned, reaches}
unfoldable pub use Rattle.bdb_format.specs.Graph.{all_references, is_anchor, is_reserve, owners, reaches_in}
pub use Rattle.bdb_format.specs.Hashing.{bucket, first_page, hash5, hash_step}
unfoldable pub use Rattle.bdb_format.specs.Hashing.{group}
pub use Rattle.bdb_format.specs.HeadOf.{faulted, file_kind, form_fault, head_fault, heap_magic, is_magic, is_page_size, is_past, last_page, magic_at, order_of}
pub use Rattle.bdb_format.specs.HeadOf.{pages_of}
unfoldable pub use Rattle.bdb_format.specs.HeadOf.{head_of, head_rows}
pub use Rattle.bdb_format.specs.Leaves.{LeafPlace, children_in, first_or_zero, is_root_reference, is_wrong_leaf, is_wrong_link, leaves, leaves_under}
pub use Rattle.bdb_format.specs.Leaves.{places_from, tree_rows, wrong_leaf_types}
unfoldable pub use Rattle.bdb_format.specs.Leaves.{leaf_places, leaves_in, root_references}
pub use Rattle.bdb_format.specs.Less.{Less, less}
pub use Rattle.bdb_format.specs.Lists.{BytesKey, ListKey, NumberKey, by_key, get, insert_pair, is_key, is_record, list_of, listed_entry, listed_pair}
pub use Rattle.bdb_format.specs.Lists.{listed_slot, page_records, record_number, slot_at}
unfoldable pub use Rattle.bdb_format.specs.Lists.{btree_list, hash_list, queue_list, recno_list}
pub use Rattle.bdb_format.specs.Master.{is_named_kind, is_none, is_page, master_in, master_rows, misses_target, named_by, naming, page_named, pairs_under}
unfoldable pub use Rattle.bdb_format.specs.Master.{master_pairs}
pub use Rattle.bdb_format.specs.Numbers.{byte_at, four_at, from_low_end, has_bit, number, overwritten, pad4, turned, two_at}
unfoldable pub use Rattle.bdb_format.specs.Numbers.{number_at, spelled}
pub use Rattle.bdb_format.specs.Page.{BtreeFields, Chain, Content, DupLeaf, Free, Hash, HashFields, Inline, Internal, InternalItem, Item, Leaf, Listed, Meta}
pub use Rattle.bdb_format.specs.Page.{Metadata, NoType, Overflow, Page, Queue, QueueFields, RecnoInternal, RecnoLeaf, Set, Tree, Unknown, Zero}
pub use Rattle.bdb_format.specs.PageOf.{turned_header}
pub use Rattle.bdb_format.specs.Reading.{blocks_in, btree_fields, entries_of, hash_content, hash_end, hash_fields, header_of, index_end, internal_key}
pub use Rattle.bdb_format.specs.Reading.{is_deleted, is_zero, kind_at, leaf_content, offset_of, page_as, page_type, queue_fields}
unfoldable pub use Rattle.bdb_format.specs.Reading.{abstract_page, blocks_of, hash_item_at, internal_item_at, leaf_item_at, listed, recno_item_at}
pub use Rattle.bdb_format.specs.References.{Asked, asked_by, asks_type, child_types, content_targets, contents_in, first_free, fit_rows, has_type}
pub use Rattle.bdb_format.specs.References.{internal_targets, is_asked, is_shared_key, is_zero_page, item_at, no_item, own_entries, root_types, targets_in}
pub use Rattle.bdb_format.specs.References.{targets_of, unless_zero}
unfoldable pub use Rattle.bdb_format.specs.References.{fit_code, refs}
pub use Rattle.bdb_format.specs.Rows.{all_item_rows, are_masks, are_wrong_flags, body_code, btree_rows, code_of, does_not_fall, field_rows, identity_rows}
pub use Rattle.bdb_format.specs.Rows.{internal_end, is_code, is_hash_kind, is_leaf_kind, is_queue, is_queue_type, is_tree_type, is_wrong_entry_count}
pub use Rattle.bdb_format.specs.Rows.{is_wrong_level, item_code, item_row, item_rows, kind_rows, lacks_spare, leaf_end, magic_of, may_have_type, meta_rows}
pub use Rattle.bdb_format.specs.Rows.{misses_extent, queue_rows, recno_end, records_per_page, table_rows, type_of, typed_code, version_of}
unfoldable pub use Rattle.bdb_format.specs.Rows.{form_code, hash_rows, index_rows, internal_rows, leaf_rows, listed_code, metadata_rows, page_code, queue_code}
unfoldable pub use Rattle.bdb_format.specs.Rows.{recno_rows}
pub use Rattle.bdb_format.specs.Spelling.{HashItemsReadBack, InternalItemsReadBack, IsHashContent, IsKey, IsLeafContent, LeafItemsReadBack, RecnoItemsReadBack}
pub use Rattle.bdb_format.specs.Spelling.{block_bytes, internal_content_bytes, kind_byte, last_field, leaf_content_bytes, lsn_bytes, zeros}
unfoldable pub use Rattle.bdb_format.specs.Spelling.{btree_bytes, common_bytes, hash_bytes, header_bytes, internal_bytes, leaf_bytes, queue_bytes, recno_bytes}
unfoldable pub use Rattle.bdb_format.specs.Spelling.{table_bytes}
pub use Rattle.bdb_format.specs.Table.{Row, answer, first_row, lesser, ◌:?◌}
pub use Rattle.bdb_format.specs.Verdict.{EachPageHasOneRole, Faulty, FirstIsLeast, Holds, IsFirstOf, Judgement, LeftOut, RolesExclude, RolesExcludeEachOther}
pub use Rattle.bdb_format.specs.Verdict.{SoundWhereNoRowHolds, as_verdict, by_page, fails_as, faults_by, file_faults, first_fault, first_judgement}
pub use Rattle.bdb_format.specs.Verdict.{judgement_of, or_else, ownership_rows, reach_rows, reference_rows, some_fails, stage_faults, structure_rows, tail_rows}
pub use Rattle.bdb_format.specs.Verdict.{verdict_in, verdict_of, within_file}
unfoldable pub use Rattle.bdb_format.specs.Verdict.{chain_faults, contents_faults, faults_in, faults_of, form_faults, head_faults, master_faults}
unfoldable pub use Rattle.bdb_format.specs.Verdict.{ownership_faults, reach_faults, reference_faults, structure_faults, tail_faults, tree_faults}
