-- Leaves over a branch, by what their items hold.
-- Source: docs/FORMAT.md, "Items", "References" and "Stage 3, references" to "Stage 6, chains and trees".
use Rattle.std.specs.Prelude.{◌≡◌, ℕ, ◌+◌, ◌<◌, ◌≤◌, ◌==◌, ◌||◌, Bool, true, false, List, [], ◌∷◌, length, map, Some}
use Rattle.std.specs.List.{All, filter, flat_map, list_any}
use Rattle.bdb_format.specs.declared.metadata.FileKind.TheVariants.{Queue}
use Rattle.bdb_format.specs.declared.references.Sort.{Sort}
use Rattle.bdb_format.specs.declared.references.Sort.TheVariants.{DuplicateRoot}
use Rattle.bdb_format.specs.Terms.{Chain, Content, File, Inline, Set, Tree, Unknown, content_targets, contents_in, has_type, header_in, is_wrong_length}
use Rattle.bdb_format.specs.Terms.{page_at, targets_in, type_in}
use Rattle.bdb_law_grove.specs.Part.{IsBranch, has_wrong_place}

-- a leaf, and what its items hold, in the order of its index
pub record FilledLeaf : Type 0 where
  pub page : ℕ
  pub contents : List Content

-- the pages that it names: the heads of chains, and the roots of sets off the page
abbrev pub content_pages : Content → List ℕ
content_pages content = map (λ (named : Sort × ℕ). named.1) (content_targets content)

abbrev pub pages_held : FilledLeaf → List ℕ
pages_held leaf = flat_map content_pages leaf.contents

-- a chain as an item names it: a head that counts a reference, and as many bytes as the item tells
pub record ChainFits (g : File) (head total : ℕ) : Type 0 where
  pub type : type_in (page_at g head) ≡ Some 7
  pub previous : (header_in (page_at g head)).previous ≡ 0
  pub counted : 1 ≤ (header_in (page_at g head)).entries
  pub length : is_wrong_length g (head, total) ≡ false

-- a set off the page: a root of the right type, and leaves of the right kinds and links
pub record SetFits (g : File) (root : ℕ) : Type 0 where
  pub type : has_type (3 ∷ 4 ∷ 6 ∷ 12 ∷ []) (type_in (page_at g root)) ≡ true
  pub places : has_wrong_place g DuplicateRoot root ≡ false

-- what a content names fits it
abbrev pub ContentFits : File → Content → Type 0
ContentFits g (Inline bytes) = Unit {0}
ContentFits g (Set blocks) = Unit {0}
ContentFits g (Chain head total) = ChainFits g head total
ContentFits g (Tree root) = SetFits g root
ContentFits g Unknown = Unit {0}

-- a page that is new, holds these contents, and names what they name alone, as leaves do
pub record IsFilled (g : File) (pages : ℕ → Bool) (leaf : FilledLeaf) : Type 0 where
  pub low : 1 ≤ leaf.page
  pub high : leaf.page ≤ g.last
  pub new : pages leaf.page ≡ false
  pub contents : contents_in (page_at g leaf.page) ≡ leaf.contents
  pub names : targets_in leaf.page (page_at g leaf.page) ≡ flat_map content_targets leaf.contents
  pub fit : All (ContentFits g) leaf.contents

-- numbers that ascend, all of them above one
abbrev pub Ascend : ℕ → List ℕ → Type 0
Ascend low [] = Unit {0}
Ascend low (x ∷ xs) = (low < x) × Ascend x xs

-- numbers that ascend, from one number up to another
abbrev pub AscendIn : ℕ → ℕ → List ℕ → Type 0
AscendIn low beyond [] = low ≤ beyond
AscendIn low beyond (x ∷ xs) = (low ≤ x) × AscendIn (x + 1) beyond xs

-- Leaves over a branch, none twice; the numbers of the pages that they name ascend.
pub record LeavesOver (g : File) (pages : ℕ → Bool) (leaves : List FilledLeaf) : Type 0 where
  pub no_queue : g.kind ≡ Queue → ⊥
  pub filled : All (IsFilled g pages) leaves
  pub apart : (p : ℕ) → length (filter (λ other. other == p) (map (λ (leaf : FilledLeaf). leaf.page) leaves)) ≤ 1
  pub held : Ascend 0 (flat_map pages_held leaves)

-- then the branch that is entered by what they name, and they, are one that is entered by them
abbrev pub LeavesStandOver : Type 0
LeavesStandOver =
    (g : File) (pages : ℕ → Bool) (leaves : List FilledLeaf) → LeavesOver g pages leaves → IsBranch g pages (flat_map pages_held leaves)
    → IsBranch g (λ q. pages q || list_any (λ p. q == p) (map (λ (leaf : FilledLeaf). leaf.page) leaves))
    (map (λ (leaf : FilledLeaf). leaf.page) leaves)
