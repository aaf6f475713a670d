-- What is unfolded to compute the dump text of an image, and what a text is read as.
use Rattle.std.specs.Prelude.{⊤}
use Rattle.std.specs.Fmt.{digits}
use Rattle.bdb_text_format.specs.Terms.{bytes_spelled, dump_text, header_text, reason_of, section_read, section_text, spelling, text_fault, text_sections}
use Rattle.sample_contents.proofs.Computed.{contents}

unfoldable pub texts : ⊤
unfolding contents spelling header_text section_text dump_text digits bytes_spelled reason_of text_fault section_read text_sections
texts = tt
