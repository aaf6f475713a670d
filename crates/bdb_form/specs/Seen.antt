-- What a view of a page is in the definitions: the page without the order of its bytes.
use Rattle.std.specs.Prelude.{ℕ, Result, Ok, Err}
use Rattle.bdb_form.specs.declared.view.PageView.{PageView}
use Rattle.bdb_form.specs.declared.view.PageView.TheVariants.{Zero, Free, Meta, Leaf, Internal, RecnoLeaf, RecnoInternal, DupLeaf, Hash, Overflow, Queue}
use Rattle.bdb_layout.specs.of_format.declared.pages.Header.{Header}
use Rattle.bdb_layout.specs.of_format.Terms.{DupLeaf as AnyDupLeaf, Free as FreePage, Hash as AnyHash, Internal as AnyInternal, Leaf as AnyLeaf}
use Rattle.bdb_layout.specs.of_format.Terms.{Meta as AnyMeta, Overflow as AnyOverflow, Page, Queue as AnyQueue, RecnoInternal as AnyRecnoInternal}
use Rattle.bdb_layout.specs.of_format.Terms.{RecnoLeaf as AnyRecnoLeaf, Zero as ZeroPage, no_header}

abbrev pub page_seen : PageView → Page
page_seen (Zero view) = ZeroPage
page_seen (Free view) = FreePage view
page_seen (Meta view) = AnyMeta view.fields
page_seen (Leaf view) = AnyLeaf view
page_seen (Internal view) = AnyInternal view
page_seen (RecnoLeaf view) = AnyRecnoLeaf view
page_seen (RecnoInternal view) = AnyRecnoInternal view
page_seen (DupLeaf view) = AnyDupLeaf view
page_seen (Hash view) = AnyHash view
page_seen (Overflow view) = AnyOverflow view.header view.bytes
page_seen (Queue view) = AnyQueue view.number view.bytes

abbrev pub form_seen : Result PageView ℕ → Result Page ℕ
form_seen (Ok view) = Ok (page_seen view)
form_seen (Err code) = Err code

-- the header of a page: of a zero page all is 0
abbrev pub header_seen : PageView → Header
header_seen (Zero view) = no_header
header_seen (Free view) = view
header_seen (Meta view) = view.header
header_seen (Leaf view) = view.header
header_seen (Internal view) = view.header
header_seen (RecnoLeaf view) = view.header
header_seen (RecnoInternal view) = view.header
header_seen (DupLeaf view) = view.header
header_seen (Hash view) = view.header
header_seen (Overflow view) = view.header
header_seen (Queue view) = view.header
