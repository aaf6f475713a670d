-- Levels over a branch.
use Rattle.std.proofs.Common.{◌≡◌, ℕ, ◌+◌, ◌≤◌, true, false, List, [], ◌∷◌, map, arith, sym, ◌∙◌, ap, subst, inl, inr, true≢false, refl}
use Rattle.std.specs.List.{All, Contains, flat_map, list_any}
use Rattle.std.proofs.lemmas.Bool.{or_from, or_cases}
use Rattle.std.proofs.lemmas.List.Elements.{All-contains, All-head, All-tail, Contains-append_cases}
use Rattle.std.proofs.lemmas.List.Folds.{list_any-append}
use Rattle.bdb_law_grove.specs.of_format.declared.metadata.FileKind.TheVariants.{Queue}
use Rattle.bdb_law_grove.specs.of_format.declared.references.Reference.{Reference}
use Rattle.bdb_law_grove.specs.of_format.Terms.{Content, File, InternalItem, chains_in, content_chains, is_root_reference, is_wrong_length, page_at, refs}
use Rattle.bdb_law_grove.proofs.of_format.MemberLemmas.{no_member, of_map}
use Rattle.bdb_law_grove.proofs.BranchLemmas.{branch_with, of_list}
use Rattle.bdb_law_levels.specs.Branches.{KeyHasLength, TowersAreBranches}
use Rattle.bdb_law_levels.specs.Nodes.{HasItems, IsOver, IsTower, Node, keyed_item, no_node}
use Rattle.bdb_law_levels.specs.declared.inner_type.InnerType.{InnerType}
use Rattle.bdb_law_levels.specs.declared.inner_type.InnerType.TheVariants.{Keyed, Numbered}
use Rattle.bdb_law_levels.specs.Roots.{pages_of}
use Rattle.bdb_law_levels.proofs.NodeLemmas.{all_over}
use Rattle.bdb_law_levels.proofs.RootLemmas.{stands_on, towers_stand}

-- a page names chains that have their lengths, and no roots
record IsRightPage (g : File) (p : ℕ) : Type 0 where
  chains : list_any (is_wrong_length g) (chains_in (page_at g p)) ≡ false
  rootless : (r : Reference) → Contains (refs g p) r → is_root_reference r.sort ≡ true → ⊥

-- the key of a page is that of the first page below it
key_over : (type : InnerType) (g : File) (level : ℕ) (node : Node) (run : List Node) → IsOver type g level node run → All (KeyHasLength type g) run
    → KeyHasLength type g node
key_over Keyed g level node run over keys =
    ap (λ (key : Content). list_any (is_wrong_length g) (content_chains key)) over.key ∙ keys 0 no_node over.some
key_over Numbered g level node run over keys = tt

later_keys : (g : File) (nodes : List Node) → All (KeyHasLength Keyed g) nodes
    → list_any (is_wrong_length g)
    (flat_map content_chains (map (λ (item : InternalItem). item.key) (map (λ (other : Node). keyed_item other.key other) nodes)))
    ≡ false
later_keys g [] keys = refl
later_keys g (node ∷ nodes) keys =
    list_any-append (is_wrong_length g) (content_chains node.key) _
    ∙ or_from _ _ (All-head (KeyHasLength Keyed g) node nodes keys) (later_keys g nodes (All-tail (KeyHasLength Keyed g) node nodes keys))

-- an internal page names the chains of the keys below it, but that of the first
inner_chains : (type : InnerType) (g : File) (p level : ℕ) (run : List Node) → HasItems type g p level run → All (KeyHasLength type g) run
    → list_any (is_wrong_length g) (chains_in (page_at g p)) ≡ false
inner_chains Keyed g p level [] has keys = absurd has
inner_chains Keyed g p level (first ∷ nodes) (page, is, level_is, items, counts) keys =
    ap (λ pg. list_any (is_wrong_length g) (chains_in pg)) is
    ∙ ap (λ all. list_any (is_wrong_length g) (flat_map content_chains (map (λ (item : InternalItem). item.key) all))) items
    ∙ later_keys g nodes (All-tail (KeyHasLength Keyed g) first nodes keys)
inner_chains Numbered g p level run (page, is, level_is, items) keys = ap (λ pg. list_any (is_wrong_length g) (chains_in pg)) is

inner_right : (type : InnerType) (g : File) (level : ℕ) (node : Node) (run : List Node) → (g.kind ≡ Queue → ⊥) → 1 ≤ level
    → IsOver type g (level + 1) node run → All (KeyHasLength type g) run → IsRightPage g node.page
inner_right type g level node run forest low over keys = record {
  chains = inner_chains type g node.page (level + 1) run over.items keys;
  rootless = λ r at root. elim ((stands_on type g level node run forest low over).names.sorts r at) [
    | inl child ↦ true≢false (sym root ∙ ap is_root_reference child.0)
    | inr head ↦ true≢false (sym root ∙ ap is_root_reference head.0)
  ];
}

tower_right : (type : InnerType) (g : File) (level : ℕ) (below : List Node) (above : List (List Node)) (root : Node) → (g.kind ≡ Queue → ⊥)
    → 1 ≤ level → IsTower type g level below above root → All (KeyHasLength type g) below → (p : ℕ) → Contains (pages_of above) p → IsRightPage g p
tower_right type g level below [] root forest low tower keys p at = absurd (no_member [] p refl at)
tower_right type g level below (nodes ∷ above) root forest low (over, tower) keys p at =
    elim (Contains-append_cases (map (λ (node : Node). node.page) nodes) (pages_of above) p at) [
      | inl here ↦
          let found = of_map (λ (node : Node). node.page) nodes p here in
          subst (IsRightPage g) found.2
          (All-contains (λ (node : Node). IsRightPage g node.page) nodes found.0
          (all_over type g (level + 1) (KeyHasLength type g) (λ node. IsRightPage g node.page)
          (λ node run. inner_right type g level node run forest low) nodes below over keys) found.1)
      | inr later ↦
          let next = all_over type g (level + 1) (KeyHasLength type g) (KeyHasLength type g) (key_over type g (level + 1)) nodes below over keys in
          tower_right type g (level + 1) nodes above root forest (omega arith) tower next p later
    ]

pub towers_are_branches : TowersAreBranches
towers_are_branches type g pages level below above root over keys branch = grind (arith, tower_right, branch_with, or_cases, of_list, towers_stand)
