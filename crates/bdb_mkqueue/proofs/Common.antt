-- What the proofs of this crate name of definitions and of the crates below.
pub use Rattle.std.proofs.Math.Nat.{div-le_self, div-mul-le_self, mul-le-mul_right}
pub use Rattle.std.proofs.lemmas.Bool.{cases_Bool, cases_eq, cases_lt, eq-eqb, le-leb, le-ltb, lt-ltb, ne_eqb}
pub use Rattle.std.proofs.lemmas.List.{append-nil, get_or-append_right, get_or-map, get_or-replicate, get_or-set_other, get_or-set_same, get_or_append_left, length-map, length-replicate, length-set}
pub use Rattle.std.proofs.lemmas.List.{replicate-append-replicate, take-append-drop, take_all, take_more}
pub use Rattle.std.proofs.lemmas.List.FromFn.{get_or-map-range_with_len, length-map-range_with_len}
pub use Rattle.std.specs.List.{All, flat_map, list_any, range_with_len}
pub use Rattle.bdb_law_join.proofs.HeadLemmas.{IsImage, first_of_none, head_accepted, image_head, none_by}
pub use Rattle.bdb_law_join.proofs.of_image.CodeLemmas.{code_by, first_page_code, form_queue}
pub use Rattle.bdb_law_join.proofs.of_pack.AddedLemmas.{added_zero, zeros_are}
pub use Rattle.bdb_law_join.proofs.of_pack.CutLemmas.{all_size, page_whole, suc-times, written_whole}
pub use Rattle.bdb_law_join.proofs.of_pack.HeaderLemmas.{header_read, length-header}
pub use Rattle.bdb_law_join.specs.of_pack.Built.{AreWhole, Built, bytes_of, joined_pages, with_page, with_zeros, written_over}
pub use Rattle.bdb_text_format.proofs.of_format.ListLemmas.{passes_here, range_more, range_parts}
pub use Rattle.bdb_text_format.proofs.of_format.SizeLemmas.{size_bounds}
pub use Rattle.bdb_text_format.proofs.of_format.SpellingLemmas.{byte_at-in, length-overwritten, length-spelled, number_at-in, slice_range-in}
pub use Rattle.bdb_text_format.specs.Terms.{AscendFrom, listed, listed_key, number_of, pairs_of, slice_seen, unlined, unlined_pairs}
pub use Rattle.bdb_text_format.specs.declared.pairs.Key.{Key}
pub use Rattle.bdb_text_format.specs.declared.pairs.Key.TheVariants.{Bytes, Number}
pub use Rattle.bdb_text_format.specs.declared.pairs.Pair.{Pair}
pub use Rattle.bdb_text_format.specs.of_format.Terms.{Database, File, ListKey, Meta, NumberKey, Queue, QueueFields, Zero, abstract_page, byte_at, common_bytes, faults_in, file_of, first_row}
pub use Rattle.bdb_text_format.specs.of_format.Terms.{form_code, four_at, has_bit, head_of, head_rows, header_bytes, header_of, identity_rows, is_page_size, is_queue_type, is_record, is_zero, list_of}
unfoldable pub use Rattle.bdb_text_format.specs.of_format.Terms.{metadata_rows, queue_bytes, queue_code}
pub use Rattle.bdb_text_format.specs.of_format.Terms.{listed_slot, or_else, overwritten, pad4, page_at, page_bytes, page_records, page_type, queue_fields}
unfoldable pub use Rattle.bdb_text_format.specs.of_format.Terms.{queue_list}
pub use Rattle.bdb_text_format.specs.of_format.Terms.{queue_rows, record_number, slot_at, spelled, tail_faults, zeros}
pub use Rattle.bdb_text_format.specs.of_format.declared.kinds.Order.{Order}
pub use Rattle.bdb_text_format.specs.of_format.declared.metadata.QueueMeta.{QueueMeta}
pub use Rattle.bdb_text_format.specs.of_format.declared.settings.Settings.{Settings}
pub use Rattle.bdb_mkqueue.specs.Building.{HasPages, HasRoom, IsQueueBuilt, IsQueueOn, KeepsFirst, SaysQueue, reached, with_header, with_more, with_record}
pub use Rattle.bdb_mkqueue.specs.Layout.{page_of_record, queue_meta, queue_page, queue_size, record_of, records_header, records_page, slot_bytes, slot_of, slots_of}
pub use Rattle.bdb_mkqueue.specs.Lists.{HasLength, HasNext, IsQueueList, first_number, next_number}
pub use Rattle.bdb_mkqueue.specs.Written.{IsSoundQueueOf, IsWrittenQueue, WrittenQueuesAreSound}
