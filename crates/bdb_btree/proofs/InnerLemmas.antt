-- The internal pages of a tree, and their types.
use Rattle.std.proofs.Common.{◌≡◌, ℕ, zero, suc, Bool, true, List, [], ◌∷◌, refl, subst, inl, inr, Option, Some, None, Contains, filter, flat_map, is_some}
use Rattle.std.proofs.Common.{unwrap_or}
use Rattle.std.proofs.lemmas.List.Elements.{Contains-append_cases}
use Rattle.bdb_ranks.specs.of_format.Terms.{File, child_types, children_in, file_of, has_type, header_in, inner_in, inner_pages, page_at, type_in}
use Rattle.bdb_ranks.proofs.of_format.ListLemmas.{only_member}
use Rattle.bdb_ranks.proofs.of_format.MemberLemmas.{no_member, of_filter, of_flat_map}
use Rattle.bdb_ranks.specs.of_image.Linked.{IsForest}
use Rattle.bdb_btree.specs.Counts.{IsKeyed}
use Rattle.bdb_ranks.specs.of_tree.Trees.{children_at}
use Rattle.bdb_ranks.proofs.of_tree.TreeLemmas.{child_is}
use Rattle.bdb_ranks.proofs.of_format.TypeLemmas.{of_type, keyed_below}

abbrev is_inner : File → ℕ → Bool
is_inner file p = is_some (children_in (page_at file p))

-- Types.

pub child_keyed : (image : List ℕ) (p c : ℕ) (children : List ℕ) → IsForest image → IsKeyed (file_of image) p
    → children_in (page_at (file_of image) p) ≡ Some children → Contains children c → IsKeyed (file_of image) c
child_keyed image p c children forest keyed are at =
    of_type (λ type. has_type (3 ∷ 5 ∷ 12 ∷ []) type ≡ true) (child_types (page_at (file_of image) p)) (type_in (page_at (file_of image) c))
    (keyed_below (page_at (file_of image) p) children keyed are)
    (child_is image p c children forest are at).type

-- what each child of a page that has it has too
abbrev Passes : File → (ℕ → Type 0) → Type 0
Passes file P = (p c : ℕ) (children : List ℕ) → P p → children_in (page_at file p) ≡ Some children → Contains children c → P c

passed : (file : File) (P : ℕ → Type 0) (p c : ℕ) (children : Option (List ℕ)) → Passes file P → P p → children_in (page_at file p) ≡ children
    → Contains (unwrap_or children []) c → P c
passed file P p c None down has are at = absurd (no_member [] c refl at)
passed file P p c (Some children) down has are at = down p c children has are at

inner_have : (file : File) (P : ℕ → Type 0) (levels : ℕ) (ps : List ℕ) (q : ℕ) → Passes file P → ((p : ℕ) → Contains ps p → P p)
    → Contains (inner_in levels file ps) q → P q
inner_have file P zero ps q down has at = absurd (no_member [] q refl at)
inner_have file P (suc levels) ps q down has at =
    elim (Contains-append_cases (filter (is_inner file) ps) (inner_in levels file (flat_map (children_at file) ps)) q at) [
      | inl here ↦ has q (of_filter (is_inner file) ps q here).0
      | inr below ↦ inner_have file P levels (flat_map (children_at file) ps) q down
          (λ c child. let found = of_flat_map (children_at file) ps c child in passed file P found.0 c (children_in (page_at file found.0)) down
          (has found.0 found.1) refl found.2) below
    ]

inner_pages_have : (file : File) (P : ℕ → Type 0) (root q : ℕ) → Passes file P → P root → Contains (inner_pages file root) q → P q
unfolding inner_pages
inner_pages_have file P root q down has at =
    inner_have file P (header_in (page_at file root)).level (root ∷ []) q down (λ p one. subst P (only_member root p one) has) at

-- the internal pages of a tree of pairs have its type
pub inner_pages_keyed : (image : List ℕ) (root q : ℕ) → IsForest image → IsKeyed (file_of image) root → Contains (inner_pages (file_of image) root) q
    → IsKeyed (file_of image) q
inner_pages_keyed image root q forest keyed at =
    inner_pages_have (file_of image) (IsKeyed (file_of image)) root q
    (λ p c children has are child. child_keyed image p c children forest has are child) keyed at
