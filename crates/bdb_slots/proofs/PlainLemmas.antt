-- A page whose items name no page names what its header does.
use Rattle.std.proofs.Common.{◌≡◌, ℕ, zero, suc, ◌+◌, ◌<◌, Bool, true, List, [], ◌∷◌, ◌++◌, get_or, map, refl, sym, ◌∙◌, ap, append-nil, arith, All, flat_map}
use Rattle.std.proofs.Common.{is_some, option_to_list, Option, Some, None, false, OnOk, Result, Ok, Err}
use Rattle.std.proofs.lemmas.List.Elements.{All-cons, All-head, All-tail}
use Rattle.std.proofs.lemmas.Bool.{cases_eq}
use Rattle.bdb_form.specs.of_format.declared.references.Sort.{Sort}
use Rattle.bdb_form.specs.of_format.declared.references.Sort.TheVariants.{HashNext}
use Rattle.bdb_form.specs.of_format.declared.metadata.Head.{Head}
use Rattle.bdb_form.specs.of_format.Terms.{Content, DupLeaf as AnyDupLeaf, Hash as AnyHash, Item, Leaf as AnyLeaf, Listed, RecnoLeaf as AnyRecnoLeaf}
use Rattle.bdb_form.specs.of_format.Terms.{content_targets, item_at, no_item, own_entries, page_bytes, targets_in, unless_zero}
use Rattle.bdb_slots.specs.declared.source.Source.TheVariants.{Nothing, Next}
use Rattle.bdb_slots.specs.Plain.{IsInline, IsPlainIn}
use Rattle.bdb_slots.specs.Slots.{names_from}

none_held : (items : List Item) → All IsInline items → flat_map content_targets (map (λ (item : Item). item.content) items) ≡ []
none_held [] plain = refl
none_held (item ∷ items) plain = rw (All-head IsInline item items plain, none_held items (All-tail IsInline item items plain)) refl

-- what is no entry of the list holds nothing
inline_at : (items : List Item) (i : ℕ) → All IsInline items → content_targets (get_or items i no_item).content ≡ []
inline_at [] i plain = refl
inline_at (item ∷ items) zero plain = All-head IsInline item items plain
inline_at (item ∷ items) (suc i) plain = inline_at items i (All-tail IsInline item items plain)

none_at : (page : Listed Item) (indices : List ℕ) → All IsInline page.items
    → flat_map content_targets (map (λ index. (item_at page index).content) indices) ≡ []
none_at page [] plain = refl
none_at page (i ∷ indices) plain = rw (inline_at page.items i plain, none_at page indices plain) refl

pub plain_leaf : (p : ℕ) (page : Listed Item) → All IsInline page.items → names_from Nothing 0 ≡ targets_in p (AnyLeaf page)
unfolding names_from
plain_leaf p page plain = sym (none_at page (own_entries page) plain)

pub plain_recno_leaf : (p : ℕ) (page : Listed Item) → All IsInline page.items → names_from Nothing 0 ≡ targets_in p (AnyRecnoLeaf page)
unfolding names_from
plain_recno_leaf p page plain = sym (none_held page.items plain)

pub plain_dup_leaf : (p : ℕ) (page : Listed Item) → All IsInline page.items → names_from Nothing 0 ≡ targets_in p (AnyDupLeaf page)
unfolding names_from
plain_dup_leaf p page plain = sym (none_held page.items plain)

pub plain_bucket : (p : ℕ) (page : Listed Item) → All IsInline page.items
    → names_from (Next HashNext page.header.next) 0 ≡ targets_in p (AnyHash page)
unfolding names_from
plain_bucket p page plain =
    append-nil (unless_zero HashNext page.header.next)
    ∙ sym (ap (λ names. names ++ unless_zero HashNext page.header.next) (none_held page.items plain))

-- no item names a page by what it holds
abbrev pub AllInline : {I : Type 0} → (I → Content) → List I → Type 0
AllInline content items = All (λ item. content_targets (content item) ≡ []) items

-- an item more of those that are left
pub one_more : {I : Type 0} (content : I → Content) (item : I) (left items rest : List I) (name : Option (Sort × ℕ)) → left ≡ item ∷ rest
    → option_to_list name ≡ content_targets (content item) → false ≡ is_some name → (AllInline content left → AllInline content items)
    → AllInline content rest → AllInline content items
one_more content item left items rest None same named none all plain =
    all (rw same (All-cons (λ other. content_targets (content other) ≡ []) item rest (sym named) plain))
one_more content item left items rest (Some name) same named none all plain = absurd cc

-- a page more
pub plain_more : (head : Head) (image : List ℕ) (n : ℕ) (before after : Bool) (page : List ℕ) → page ≡ page_bytes head image n
    → (before ≡ true → (p : ℕ) → p < n → IsPlainIn head (page_bytes head image p)) → (after ≡ true → (before ≡ true) × IsPlainIn head page)
    → after ≡ true → (p : ℕ) → p < n + 1 → IsPlainIn head (page_bytes head image p)
plain_more head image n before after page same passed here is p below = grind (arith, cases_eq)

-- what holds of an answer that is a value
pub on_value : {A E : Type 0} (answer : Result A E) (P Q : Type 0) → (P → Q) → OnOk answer P → OnOk answer Q
on_value (Ok value) P Q so holds = so holds
on_value (Err error) P Q so holds = tt
