-- The header of a page that has one.
use Rattle.std.proofs.Common.{◌≡◌, refl}
use Rattle.bdb_form.specs.declared.view.PageView.{PageView}
use Rattle.bdb_form.specs.declared.view.PageView.TheVariants.{Zero, Free, Meta, Leaf, Internal, RecnoLeaf, RecnoInternal, DupLeaf, Hash, Overflow, Queue}
use Rattle.bdb_form.specs.Formed.{MetaPage, QueuePage}
use Rattle.bdb_form.specs.Seen.{header_seen, page_seen}
use Rattle.bdb_layout.specs.of_format.Terms.{header_in}

pub seen_header : (view : PageView) → ((m : MetaPage) → view ≡ Meta m → ⊥) → ((q : QueuePage) → view ≡ Queue q → ⊥)
    → header_seen view ≡ header_in (page_seen view)
seen_header (Zero view) meta queue = refl
seen_header (Free view) meta queue = refl
seen_header (Meta view) meta queue = absurd (meta view refl)
seen_header (Leaf view) meta queue = refl
seen_header (Internal view) meta queue = refl
seen_header (RecnoLeaf view) meta queue = refl
seen_header (RecnoInternal view) meta queue = refl
seen_header (DupLeaf view) meta queue = refl
seen_header (Hash view) meta queue = refl
seen_header (Overflow view) meta queue = refl
seen_header (Queue view) meta queue = absurd (queue view refl)
