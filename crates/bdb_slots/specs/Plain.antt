-- Pages whose items name no other page, so that what they hold lies on them. Source: docs/FORMAT.md, "References".
use Rattle.std.specs.Prelude.{◌≡◌, ◌≤◌, ℕ, List, []}
use Rattle.std.specs.List.{All}
use Rattle.bdb_form.specs.of_format.declared.metadata.FileKind.TheVariants.{Queue as QueueFile}
use Rattle.bdb_form.specs.of_format.declared.metadata.Head.{Head}
use Rattle.bdb_form.specs.of_format.Terms.{DupLeaf, Free, Hash, Internal, Item, Leaf, Meta, NoType, Overflow, Page, Queue, RecnoInternal, RecnoLeaf, Zero}
use Rattle.bdb_form.specs.of_format.Terms.{abstract_page, content_targets, page_bytes}

-- an item names no page
abbrev pub IsInline : Item → Type 0
IsInline item = content_targets item.content ≡ []

-- none of the items of a page of pairs or records names a page; of other pages nothing is said
abbrev pub IsPlain : Page → Type 0
IsPlain (Hash page) = All IsInline page.items
IsPlain (Leaf page) = All IsInline page.items
IsPlain (RecnoLeaf page) = All IsInline page.items
IsPlain (DupLeaf page) = All IsInline page.items
IsPlain Zero = Unit {0}
IsPlain (Free header) = Unit {0}
IsPlain (Meta fields) = Unit {0}
IsPlain (Internal page) = Unit {0}
IsPlain (RecnoInternal page) = Unit {0}
IsPlain (Overflow header piece) = Unit {0}
IsPlain (Queue number records) = Unit {0}
IsPlain NoType = Unit {0}

-- a page of a btree or hash file is plain
abbrev pub IsPlainIn : Head → List ℕ → Type 0
IsPlainIn head page = (head.kind ≡ QueueFile → ⊥) → IsPlain (abstract_page head.order page)

-- all pages of an image up to the last one are
abbrev pub ArePlain : Head → List ℕ → Type 0
ArePlain head image = (p : ℕ) → p ≤ head.last → IsPlainIn head (page_bytes head image p)
