-- What files above name of this crate, in one import: its definitions, and the types of its code.
pub use Rattle.bdb_text_format.specs.Gathered.{Extends, Gathering, HasChains, IsSpanOf, key_again, noted, with_again, with_pair}
pub use Rattle.bdb_text_format.specs.Header.{Values, conflicts, entries, entry_of, given, gives, has_keys, has_record_type, has_type, is_on, is_value, name_in}
pub use Rattle.bdb_text_format.specs.Header.{number_or, order_in, plain_in, prints, repeats, settings_in, values}
pub use Rattle.bdb_text_format.specs.Keywords.{Keyword, a_spelling, any_number, find_named, fitting, hex_value, is_hex, is_order, judged_number, later_keywords}
pub use Rattle.bdb_text_format.specs.Keywords.{legal_size, number_read, number_that, on_or_off, one_of, one_of_but, or_zero}
pub use Rattle.bdb_text_format.specs.LineEnd.{line}
pub use Rattle.bdb_text_format.specs.Pairs.{AscendFrom, keys_of, last_key, listed, listed_as, listed_key, number_of, unlined, unlined_pairs, unnumbered}
pub use Rattle.bdb_text_format.specs.Pairs.{unnumbered_pairs, values_of}
pub use Rattle.bdb_text_format.specs.Placed.{ArePlaced, IsKeyPlaced, IsPairPut, IsPiecePut, IsPlaced, Keeps, key_seen, pair_seen, pair_with, pairs_of}
pub use Rattle.bdb_text_format.specs.Placed.{placed_key, placed_pair, placed_pairs, slice_seen}
pub use Rattle.bdb_text_format.specs.ReasonTable.{reason_code, reason_name}
pub use Rattle.bdb_text_format.specs.Reasons.{Parts, begins_version, begins_with_space, data_end_reason, data_line_reason, end_fault, entry_reason, fault_at}
pub use Rattle.bdb_text_format.specs.Reasons.{fault_from, fault_in, first_line_reason, has_odd_length, header_end_reason, is_bad, is_first, is_key, is_left_out}
pub use Rattle.bdb_text_format.specs.Reasons.{is_record_number, keyword_named, keyword_reason, lines_with, name_missing, name_of, name_of_parts, names_with}
pub use Rattle.bdb_text_format.specs.Reasons.{or_fault, parts_of, spelled_in, with_line}
unfoldable pub use Rattle.bdb_text_format.specs.Reasons.{reason_of, text_fault}
pub use Rattle.bdb_text_format.specs.Sections.{Reads, begin_with, counted_pairs, data_read, entry_fits, fits, header_fits, key_read, keyed_pairs, keyword_fits}
pub use Rattle.bdb_text_format.specs.Sections.{lines_fit, nothing_left, pairs_read, parts_read, sections_from, sections_in, with_pairs, with_section}
pub use Rattle.bdb_text_format.specs.Sections.{with_text_pair}
unfoldable pub use Rattle.bdb_text_format.specs.Sections.{section_read, text_sections}
pub use Rattle.bdb_text_format.specs.TextLines.{is_data_end, is_header_end, onto_first, text_lines}
pub use Rattle.bdb_text_format.specs.TextSpelling.{before, byte_before, byte_of_digits, digit_value, digits_unit, escaped_unit, hex_digit, next_unit, printed}
pub use Rattle.bdb_text_format.specs.TextSpelling.{printed_unit, two_digits, units_read}
unfoldable pub use Rattle.bdb_text_format.specs.TextSpelling.{bytes_spelled, spelling}
pub use Rattle.bdb_text_format.specs.Written.{HeaderLine, data_end, data_line, database_text, entry_line, format_text, has_sets, header_end, header_lines}
pub use Rattle.bdb_text_format.specs.Written.{header_table, holds_records, is_btree, is_hash, is_queue, is_recno, key_bytes, kind_text, order_text, pair_lines}
pub use Rattle.bdb_text_format.specs.Written.{section_lines, shows_length, version_line, written, ◌=:◌}
unfoldable pub use Rattle.bdb_text_format.specs.Written.{dump_text, header_text, section_text}
