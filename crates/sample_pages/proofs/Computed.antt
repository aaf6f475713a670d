-- What is unfolded to compute what a page is, and its faults of form.
use Rattle.std.specs.Prelude.{⊤}
use Rattle.bdb_format.specs.Terms.{abstract_page, blocks_of, form_code, group, hash_item_at, hash_rows, head_of, head_rows, index_rows, internal_item_at}
use Rattle.bdb_format.specs.Terms.{internal_rows, leaf_item_at, leaf_rows, listed, listed_code, metadata_rows, number_at, page_code, queue_code, recno_item_at}
use Rattle.bdb_format.specs.Terms.{recno_rows, spelled}
use Rattle.sample_pages.specs.Unfolded.{count_ones}

unfoldable pub rows : ⊤
unfolding head_of head_rows leaf_rows internal_rows recno_rows hash_rows index_rows listed_code metadata_rows form_code page_code queue_code
rows = tt

unfoldable pub items : ⊤
unfolding listed leaf_item_at internal_item_at recno_item_at hash_item_at blocks_of abstract_page
items = tt

unfoldable pub pages : ⊤
unfolding rows items count_ones number_at spelled group
pages = tt
