-- What a page over a run of pages names: each of them, and the heads of the keys of all but the first.
use Rattle.std.proofs.Common.{◌≡◌, ◌⊎◌, ℕ, ◌+◌, ◌≤◌, true, List, [], ◌∷◌, ◌++◌, map, None, arith, refl, ◌∙◌, ap, subst, inl, inr}
use Rattle.std.specs.List.{Contains, enumerate_from, flat_map}
use Rattle.std.proofs.lemmas.Bool.{eq-eqb}
use Rattle.bdb_law_grove.specs.of_format.declared.metadata.FileKind.TheVariants.{Queue as QueueFile}
use Rattle.bdb_law_grove.specs.of_format.declared.pages.RecnoItem.{RecnoItem}
use Rattle.bdb_law_grove.specs.of_format.declared.references.Reference.{Reference}
use Rattle.bdb_law_grove.specs.of_format.declared.references.Sort.{Sort}
use Rattle.bdb_law_grove.specs.of_format.declared.references.Sort.TheVariants.{Child, OverflowHead}
use Rattle.bdb_law_grove.specs.of_format.Terms.{Chain, Content, File, Inline, Page, Set, Tree, Unknown, child_types, content_targets, fit_code, has_type}
use Rattle.bdb_law_grove.specs.of_format.Terms.{header_in, internal_targets, page_at, refs, targets_in, type_in}
use Rattle.bdb_law_grove.proofs.of_format.MemberLemmas.{first_member, later_member, member_cases, no_member}
use Rattle.bdb_law_grove.proofs.GroveLemmas.{enumerated_names, fits_asked, of_references, reference_of, refs_of}
use Rattle.bdb_law_grove.proofs.SeveralLemmas.{count, count-append}
use Rattle.bdb_law_levels.specs.Nodes.{CountsTwo, Node, keyed_item, numbered_item}
use Rattle.bdb_law_levels.specs.Roots.{key_heads}
use Rattle.bdb_law_levels.proofs.TakenLemmas.{Names}

-- References.

-- targets that are these children and these heads, in some order
pub record AreNamed (targets : List (Sort × ℕ)) (children taken : List ℕ) : Type 0 where
  sorts : (target : Sort × ℕ) → Contains targets target
      → ((target.0 ≡ Child) × Contains children target.1) ⊎ ((target.0 ≡ OverflowHead) × Contains taken target.1)
  counts : (e : ℕ) → count e (map (λ (target : Sort × ℕ). target.1) targets) ≡ count e children + count e taken

pub names_of : (g : File) (p : ℕ) (page : Page) (children taken : List ℕ) → (g.kind ≡ QueueFile → ⊥) → page_at g p ≡ page
    → AreNamed (targets_in p page) children taken → Names g p children taken
names_of g p page children taken forest is named =
    let held : refs g p ≡ map reference_of (enumerate_from 0 (targets_in p page)) = refs_of g p page forest is in
    record {
      sorts = λ r at. named.sorts (r.sort, r.target) (of_references 0 (targets_in p page) r (subst (λ rs. Contains rs r) held at));
      counts = λ e.
          ap (λ rs. count e (map (λ (r : Reference). r.target) rs)) held ∙ (ap (count e) (enumerated_names 0 (targets_in p page)) ∙ named.counts e);
    }

-- Items.

named_none : AreNamed [] [] []
named_none = record { sorts = λ target at. absurd (no_member [] target refl at); counts = λ e. refl }

-- one target more
one_more : (sort : Sort) (p : ℕ) (ps : List ℕ) (targets : List (Sort × ℕ)) (target : Sort × ℕ) → Contains ((sort, p) ∷ targets) target
    → ((target.0 ≡ sort) × Contains (p ∷ ps) target.1) ⊎ Contains targets target
one_more sort p ps targets target at = grind (arith, member_cases, first_member)

named_child : (child : ℕ) (targets : List (Sort × ℕ)) (children taken : List ℕ) → AreNamed targets children taken
    → AreNamed ((Child, child) ∷ targets) (child ∷ children) taken
named_child child targets children taken named = record {
  sorts = λ target at. elim (one_more Child child children targets target at) [
    | inl here ↦ inl here
    | inr later ↦ elim (named.sorts target later) [ inl one ↦ inl (one.0, later_member child children target.1 one.1) | inr head ↦ inr head ]
  ];
  counts = λ e. omega (
    arith,
    count-append e (child ∷ []) (map (λ (target : Sort × ℕ). target.1) targets),
    count-append e (child ∷ []) children,
    named.counts e,
  );
}

named_head : (head : ℕ) (targets : List (Sort × ℕ)) (children taken : List ℕ) → AreNamed targets children taken
    → AreNamed ((OverflowHead, head) ∷ targets) children (head ∷ taken)
named_head head targets children taken named = record {
  sorts = λ target at. elim (one_more OverflowHead head taken targets target at) [
    | inl here ↦ inr here
    | inr later ↦ elim (named.sorts target later) [ inl one ↦ inl one | inr other ↦ inr (other.0, later_member head taken target.1 other.1) ]
  ];
  counts = λ e. omega (
    arith,
    count-append e (head ∷ []) (map (λ (target : Sort × ℕ). target.1) targets),
    count-append e (head ∷ []) taken,
    named.counts e,
  );
}

named_key : (g : File) (key : Content) (targets : List (Sort × ℕ)) (children taken : List ℕ) → CountsTwo g key → AreNamed targets children taken
    → AreNamed (content_targets key ++ targets) children (key_heads key ++ taken)
named_key g (Inline bytes) targets children taken counts named = named
named_key g (Chain head total) targets children taken counts named = named_head head targets children taken named
named_key g (Set blocks) targets children taken counts named = absurd counts
named_key g (Tree root) targets children taken counts named = absurd counts
named_key g Unknown targets children taken counts named = absurd counts

pub keyed_named : (g : File) (nodes : List Node) → ((node : Node) → Contains nodes node → CountsTwo g node.key)
    → AreNamed (flat_map internal_targets (map (λ (other : Node). keyed_item other.key other) nodes)) (map (λ (node : Node). node.page) nodes)
    (flat_map (λ (node : Node). key_heads node.key) nodes)
keyed_named g [] counts = named_none
keyed_named g (node ∷ nodes) counts =
    let rest = keyed_named g nodes (λ other at. counts other (later_member node nodes other at)) in
    named_child node.page _ _ _ (named_key g node.key _ _ _ (counts node (first_member node nodes)) rest)

pub numbered_named : (nodes : List Node)
    → AreNamed (map (λ (item : RecnoItem). (Child, item.child)) (map numbered_item nodes)) (map (λ (node : Node). node.page) nodes) []
numbered_named [] = named_none
numbered_named (node ∷ nodes) = named_child node.page _ _ _ (numbered_named nodes)

-- the first item names its child alone
pub first_named : (first : Node) (targets : List (Sort × ℕ)) (children taken : List ℕ) → AreNamed targets children taken
    → AreNamed (internal_targets (keyed_item (Inline []) first) ++ targets) (first.page ∷ children) taken
first_named first targets children taken named = named_child first.page targets children taken named

-- Fitting.

-- a child has the type and the level that the page over it asks
pub child_fits : (g : File) (p level : ℕ) (page : Page) (types : List ℕ) (r : Reference) → page_at g p ≡ page → child_types page ≡ types
    → (header_in page).level ≡ level + 1 → r.sort ≡ Child → 1 ≤ r.target → r.target ≤ g.last → has_type types (type_in (page_at g r.target)) ≡ true
    → (header_in (page_at g r.target)).level ≡ level → fit_code g p r ≡ None
unfolding fit_code
child_fits g p level page types r is asks over sort low high type level_is = grind (arith, fits_asked, eq-eqb)
