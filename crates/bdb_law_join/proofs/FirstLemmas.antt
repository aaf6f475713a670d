-- Page 0 of a file whose form is sound.
use Rattle.std.proofs.Common.{◌≡◌, ℕ, Bool, true, false, List, None, arith, refl, sym, ◌∙◌, ap, inl, inr, ◌&&◌, ◌||◌}
use Rattle.std.proofs.lemmas.Bool.{cases_Bool}
use Rattle.bdb_graph.specs.of_format.declared.metadata.BtreeMeta.{BtreeMeta}
use Rattle.bdb_graph.specs.of_format.declared.metadata.FileKind.{FileKind}
use Rattle.bdb_graph.specs.of_format.declared.metadata.FileKind.TheVariants.{Btree, Hash, Queue}
use Rattle.bdb_graph.specs.of_format.declared.metadata.Head.{Head}
use Rattle.bdb_graph.specs.of_format.Terms.{BtreeFields, Meta, abstract_page, are_wrong_flags, btree_fields, byte_at, form_code, has_bit, is_recno, is_zero}
use Rattle.bdb_graph.specs.of_format.Terms.{metadata_rows, names_databases, page_as, page_type, type_of}
use Rattle.bdb_graph.proofs.of_format.GraphLemmas.{typed_page}
use Rattle.bdb_graph.proofs.of_format.VerdictLemmas.{AllFail, none_is_first_row}
use Rattle.bdb_graph.proofs.of_image.CodeLemmas.{first_page_code, is_same}
use Rattle.bdb_graph.proofs.of_format.PageLemmas.{some_type, zero_byte}

-- the rows of page 0 are those of metadata of its kind
rows_fail : (head : Head) (page : List ℕ) (kind : FileKind) → head.kind ≡ kind → form_code head 0 page ≡ None
    → AllFail (metadata_rows head.order page 0 head.last kind)
rows_fail head page kind is none = grind (arith, none_is_first_row, first_page_code)

-- page 0 has the type of its kind
pub first_type : (head : Head) (page : List ℕ) (kind : FileKind) → head.kind ≡ kind → form_code head 0 page ≡ None
    → abstract_page head.order page ≡ page_as head.order page (page_type (type_of kind))
unfolding metadata_rows
first_type head page kind is none =
    let type : byte_at page 25 ≡ type_of kind = is_same (byte_at page 25) (type_of kind) (rows_fail head page kind is none).1.0 in
    elim (cases_Bool (is_zero page)) [
      | inl zeros ↦ absurd (omega (arith, type, zero_byte page 25 zeros, some_type kind))
      | inr some ↦ typed_page head.order page some ∙ ap (λ b. page_as head.order page (page_type b)) type
    ]

-- Flags of a master.

-- btree metadata on page 0 has no flags that don't go together
pub first_flags : (head : Head) (page : List ℕ) (meta : BtreeMeta) (kind : FileKind) → head.kind ≡ kind → form_code head 0 page ≡ None
    → abstract_page head.order page ≡ Meta (BtreeFields meta) → are_wrong_flags 0 meta.flags ≡ false
unfolding metadata_rows
first_flags head page meta Btree is none reads =
    let same : btree_fields head.order page ≡ meta = let both = sym (first_type head page Btree is none) ∙ reads in cc in
    ap (λ (m : BtreeMeta). are_wrong_flags 0 m.flags) (sym same) ∙ (rows_fail head page Btree is none).1.1.1.1.1.1.1.1.1.0
first_flags head page meta Hash is none reads = let both = sym (first_type head page Hash is none) ∙ reads in absurd cc
first_flags head page meta Queue is none reads = let both = sym (first_type head page Queue is none) ∙ reads in absurd cc

not_both : (large recno odd master other : Bool) → master ≡ true → (large || (recno && (odd || master)) || other) ≡ false → recno ≡ false
not_both large false odd master other is none = refl
not_both true true odd master other is none = absurd cc
not_both false true true master other is none = absurd cc
not_both false true false true other is none = absurd cc
not_both false true false false other is none = absurd cc

-- a master is no recno
pub master_is_keyed : (meta : BtreeMeta) → are_wrong_flags 0 meta.flags ≡ false → names_databases meta ≡ true → is_recno meta ≡ false
master_is_keyed meta right master =
    not_both _ (has_bit meta.flags 0x02) (has_bit meta.flags 0x45) (has_bit meta.flags 0x20) _ master right
