-- What the proofs of this crate name of definitions and of the crates below.
pub use Rattle.std.proofs.Math.Seq.{drop-append-add, get_or-append_seam, paste}
pub use Rattle.std.proofs.lemmas.Bool.{and_right, cases_Bool, cases_eq, cases_lt, cases_order, eq-eqb, eqb-false, eqb-true, lt-ltb, ltb-false, ne_eqb, or_from, or_parts}
pub use Rattle.std.proofs.lemmas.Bool.Decides.{nat_tests}
pub use Rattle.std.proofs.lemmas.List.{append-nil, append_assoc, drop-append-le, drop-drop, drop-take, drop_all, drop_at, get_or-append-add, get_or-map, get_or-set_other, get_or-set_same, get_or-take}
pub use Rattle.std.proofs.lemmas.List.{get_or_append_left, get_or_push, length-map, length-replicate, length-set, length-take-le, map-append, nil_from_length, set_at, take-append-drop, take-append-le}
pub use Rattle.std.proofs.lemmas.List.{take-replicate, take-take, take_all, take_at}
pub use Rattle.std.specs.List.{copy_within, list_any, range_with_len}
pub use Rattle.std.specs.Prelude.{length, nat_le, nat_lt, slice_range, ◌%◌, ◌==◌}
pub use Rattle.bdb_law_grove.proofs.GroveLemmas.{above}
pub use Rattle.bdb_law_grove.specs.Growing.{IsCounted, IsLink, IsRun, IsSamePage, chain_header}
pub use Rattle.bdb_layout.proofs.WritingLemmas.{length-hash_chain, length-hash_tree, length-internal_chain, length-internal_inline, length-leaf_chain, length-leaf_inline, length-leaf_tree}
pub use Rattle.bdb_layout.proofs.of_format.SizeLemmas.{size_bounds}
pub use Rattle.bdb_layout.proofs.of_format.SpellingLemmas.{byte_at-from, byte_at-in, length-overwritten, length-pair, length-spelled, number_at-first, number_at-from, number_at-in, number_at-spelled}
pub use Rattle.bdb_layout.proofs.of_format.SpellingLemmas.{slice_range-in}
pub use Rattle.bdb_layout.specs.Seen.{hash_content_seen, internal_item_seen, key_seen, leaf_item_seen}
pub use Rattle.bdb_layout.specs.of_format.Terms.{Chain, Content, DupLeaf, File, Hash, Inline, Internal, InternalItem, IsHashContent, IsKey, IsLeafContent, Item, Leaf, Listed, NoType, Overflow, Page}
unfoldable pub use Rattle.bdb_layout.specs.of_format.Terms.{abstract_page, blocks_of, file_of}
pub use Rattle.bdb_layout.specs.of_format.Terms.{RecnoInternal, RecnoLeaf, Set, Tree, Unknown, block_bytes, body_code, byte_at, entries_of, first_row, four_at}
unfoldable pub use Rattle.bdb_layout.specs.of_format.Terms.{hash_bytes, hash_item_at, hash_rows, header_bytes, index_rows, internal_bytes}
pub use Rattle.bdb_layout.specs.of_format.Terms.{hash_content, hash_end, head_of, header_of, identity_rows, index_end}
unfoldable pub use Rattle.bdb_layout.specs.of_format.Terms.{internal_item_at, internal_rows}
pub use Rattle.bdb_layout.specs.of_format.Terms.{internal_key, is_deleted, is_hash_kind, is_leaf_kind, is_page_size, is_tree_type, is_wrong_entry_count}
unfoldable pub use Rattle.bdb_layout.specs.of_format.Terms.{leaf_bytes, leaf_item_at, leaf_rows, listed}
pub use Rattle.bdb_layout.specs.of_format.Terms.{is_wrong_level, is_zero, item_code, item_row, joined, kind_at, kind_byte, leaf_content, leaf_end, lesser}
unfoldable pub use Rattle.bdb_layout.specs.of_format.Terms.{number_at, page_code, recno_bytes, recno_item_at}
pub use Rattle.bdb_layout.specs.of_format.Terms.{listed_code, lsn_bytes, number, offset_of, overwritten, pad4, page_as, page_at, page_type}
unfoldable pub use Rattle.bdb_layout.specs.of_format.Terms.{recno_rows}
pub use Rattle.bdb_layout.specs.of_format.Terms.{spelled, two_at, zeros, ◌:?◌}
pub use Rattle.bdb_layout.specs.of_format.declared.kinds.Order.{Order}
pub use Rattle.bdb_layout.specs.of_format.declared.pages.Header.{Header}
pub use Rattle.bdb_layout.specs.of_format.declared.pages.ItemFault.{ItemFault}
pub use Rattle.bdb_layout.specs.of_format.declared.pages.ItemFault.TheVariants.{Extent, Kind, Offset}
pub use Rattle.bdb_layout.specs.of_format.declared.pages.PageType.{PageType}
pub use Rattle.bdb_layout.specs.of_format.declared.pages.RecnoItem.{RecnoItem}
pub use Rattle.bdb_pack.specs.Built.{AreWhole, Built, built_of, bytes_of, cut, file_so_far, joined_pages, with_page, with_zeros, written_over}
pub use Rattle.bdb_pack.specs.Items.{HasPlace, IsHashPlace, IsLeafPlace, IsWritable, OnHash, OnInternal, OnLeaf, OnRecno, PageItem, extent, holds_item, is_hash_type, is_leaf_type, item_bytes}
pub use Rattle.bdb_pack.specs.Items.{takes_items}
pub use Rattle.bdb_pack.specs.OnPages.{HasPlaceOn, HasRoomOn, IsBegunOn, holds_on, with_item_on}
pub use Rattle.bdb_pack.specs.Placing.{BegunIsFormed, BegunPagesTakeItems, BegunStays, EntriesAreShared, FitsFields, HasRoom, IsBegun, IsOpen, ItemsArePlaced, RowsBegin, begun_header, begun_page}
pub use Rattle.bdb_pack.specs.Placing.{empty_listed, empty_page, entered, high_free_of, page_again, page_and_item, page_and_shared, page_with, place_below, placed, with_entry, with_item}
pub use Rattle.bdb_pack.specs.Stored.{AreFull, ImagesAreLater, StoredValuesStand}
pub use Rattle.bdb_pack.specs.ValueLoop.{IsBegunChain}
pub use Rattle.bdb_pack.specs.Values.{AreChainPages, ChainPagesAreFormed, HasChain, chain_page, piece_header, piece_length, piece_next, with_piece}
