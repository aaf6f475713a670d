-- What a page of the code is in the definitions.
use Rattle.bdb_tree.specs.of_format.Terms.{Page, RecnoInternal, RecnoLeaf}
use Rattle.bdb_recno.specs.declared.page.RecnoPage.{RecnoPage}
use Rattle.bdb_recno.specs.declared.page.RecnoPage.TheVariants.{Internal, Leaf}

abbrev pub recno_page_seen : RecnoPage → Page
recno_page_seen (Internal view) = RecnoInternal view
recno_page_seen (Leaf view) = RecnoLeaf view
