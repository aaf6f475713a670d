-- Parts whose metadata is written on pages of their own, as the image of a file.
-- Source: docs/FORMAT.md, "Metadata pages", "What the writing calls spell", "Stage 1, the file" and "Stage 2, the form of a page".
use Rattle.std.specs.Prelude.{◌≡◌, ℕ, ◌-◌, ◌<◌, true, List, length, None}
use Rattle.std.specs.List.{Contains}
use Rattle.bdb_graph.specs.of_format.declared.metadata.BtreeMeta.{BtreeMeta}
use Rattle.bdb_graph.specs.of_format.declared.metadata.FileKind.TheVariants.{Btree}
use Rattle.bdb_graph.specs.of_format.declared.metadata.Head.{Head}
use Rattle.bdb_graph.specs.of_format.Terms.{BtreeFields, File, Meta, abstract_page, form_code, page_code}
use Rattle.bdb_pack.specs.of_law_grove.Growing.{IsCounted, IsLater}
use Rattle.bdb_pack.specs.of_law_grove.Part.{IsPart}
use Rattle.bdb_pack.specs.Built.{Built, bytes_of, file_so_far, joined_pages}
use Rattle.bdb_law_join.specs.Joining.{IsJoined, IsMetaOf, Joint, NamesNoFree, ShareOut}
use Rattle.bdb_law_join.specs.Written.{AreLegal, SpellsMeta}

-- the head of a file of these pages, with btree metadata on page 0
abbrev pub head_for : Built → Head
head_for built = record {
  order = built.order;
  page_size = built.size;
  kind = Btree;
  last = length built.pages - 1;
  pages = length built.pages;
}

-- the metadata page of a joint is read as the fields of its part, and no row of form holds for it; on page 0 they name no free page
pub record IsSpelled (built : Built) (joint : Joint) : Type 0 where
  pub says : abstract_page built.order (bytes_of built joint.meta) ≡ Meta joint.part.fields
  pub formed : form_code (head_for built) joint.meta (bytes_of built joint.meta) ≡ None
  pub no_free : NamesNoFree joint.meta joint.part.fields

-- so is btree metadata that is spelled on its page
abbrev pub BtreesAreSpelled : Type 0
BtreesAreSpelled =
    (built : Built) (joint : Joint) (meta : BtreeMeta) → AreLegal built → joint.meta < length built.pages → joint.part.fields ≡ BtreeFields meta
    → SpellsMeta built joint.meta (bytes_of built joint.meta) meta → (joint.meta ≡ 0 → meta.free ≡ 0) → IsSpelled built joint

-- Pages before and after the metadata of joints is written on pages of their own, page 0 among them, which has that of a btree. The pages of the parts
-- stay, are parts in each later file, and have no row of form.
pub record AreFiled (before after : Built) (joints : List Joint) : Type 0 where
  pub pages : AreLegal after
  pub order : after.order ≡ before.order
  pub grows : length before.pages ≡ length after.pages
  pub first : IsMetaOf joints 0
  pub top : BtreeMeta
  pub spells : SpellsMeta after 0 (bytes_of after 0) top
  pub shared_out : ShareOut (file_so_far after) joints
  pub spelled : (j : Joint) → Contains joints j → IsSpelled after j
  pub same : (j : Joint) (p : ℕ) → Contains joints j → j.part.pages p ≡ true → bytes_of after p ≡ bytes_of before p
  pub parts : (j : Joint) → Contains joints j → (g : File) → IsCounted g → IsLater j.part.pages (file_so_far before) g → IsPart g j.part
  pub formed : (j : Joint) (p : ℕ) → Contains joints j → j.part.pages p ≡ true → page_code before.order p (bytes_of before p) ≡ None

-- then the image of the pages after is one of joined parts
abbrev pub FiledPartsAreJoined : Type 0
FiledPartsAreJoined =
    (before after : Built) (joints : List Joint) (image : List ℕ) → AreFiled before after joints → image ≡ joined_pages after.pages
    → IsJoined image joints
