-- Leaves over a branch, by what their items hold.
use Rattle.std.proofs.Common.{◌≡◌, ◌⊎◌, ℕ, ◌<◌, ◌≤◌, Bool, true, false, cond, List, [], ◌∷◌, ◌++◌, map, length, None, arith, refl, sym, ◌∙◌, ap, subst, inl}
use Rattle.std.proofs.Common.{inr, true≢false, ◌==◌}
use Rattle.std.specs.List.{All, Contains, filter, flat_map, list_any}
use Rattle.std.proofs.lemmas.Bool.{cases_eq, eq-eqb, eqb-true, ne_eqb}
use Rattle.std.proofs.lemmas.List.{map-append}
use Rattle.std.proofs.lemmas.List.Elements.{All-contains, All-head, All-tail}
use Rattle.bdb_format.specs.declared.metadata.FileKind.TheVariants.{Queue}
use Rattle.bdb_format.specs.declared.references.Reference.{Reference}
use Rattle.bdb_format.specs.declared.references.Sort.{Sort}
use Rattle.bdb_format.specs.declared.references.Sort.TheVariants.{OverflowHead, DuplicateRoot}
use Rattle.bdb_format.specs.Terms.{Chain, Content, File, Inline, Set, Tree, Unknown, chains_in, content_chains, content_targets, fit_code, header_in}
use Rattle.bdb_format.specs.Terms.{is_head_reference, is_root_reference, is_wrong_length, page_at, refs}
use Rattle.bdb_format.proofs.MemberLemmas.{in_flat_map, in_map, member_cases, no_member, none_pass, of_flat_map, of_map}
use Rattle.bdb_law_grove.specs.Part.{IsBranch, has_wrong_place}
use Rattle.bdb_law_grove.specs.Standing.{StandOver, names}
use Rattle.bdb_law_grove.specs.Leaves.{Ascend, ChainFits, ContentFits, FilledLeaf, IsFilled, LeavesStandOver, SetFits, content_pages, pages_held}
use Rattle.bdb_law_grove.proofs.BranchLemmas.{pages_stand_over_branch}
use Rattle.bdb_law_grove.proofs.GroveLemmas.{enumerated_names, fits_asked, of_references, refs_of}
use Rattle.bdb_format.proofs.ListLemmas.{only_member}
use Rattle.bdb_law_grove.proofs.OwnerLemmas.{filter_none}
use Rattle.bdb_law_grove.proofs.SeveralLemmas.{count, count-append, one_at_most}

-- Numbers that ascend.

pub above_low : (low : ℕ) (xs : List ℕ) (x : ℕ) → Ascend low xs → Contains xs x → low < x
above_low low [] x ascend at = absurd (no_member [] x refl at)
above_low low (y ∷ ys) x ascend at =
    elim (member_cases y ys x at) [
      | inl here ↦ omega (arith, ascend.0, here)
      | inr later ↦ let rest : y < x = above_low y ys x ascend.1 later in omega (arith, ascend.0)
    ]

-- none of them stands twice
pub ascend_once : (low e : ℕ) (xs : List ℕ) → Ascend low xs → count e xs ≤ 1
ascend_once low e [] ascend = omega arith
ascend_once low e (x ∷ xs) ascend =
    elim (cases_eq x e) [
      | inl same ↦
          let none : filter (λ other. other == e) xs ≡ [] =
          filter_none (λ other. other == e) xs (λ y at is. omega (arith, same, eqb-true y e is, above_low x xs y ascend.1 at)) in
          omega (arith, count-append e (x ∷ []) xs, one_at_most (λ other. other == e) x, ap length none)
      | inr other ↦
          let none : count e (x ∷ []) ≡ 0 = ap (λ b. length (cond b (x ∷ []) [])) (ne_eqb x e other) in
          omega (arith, count-append e (x ∷ []) xs, none, ascend_once x e xs ascend.1)
    ]

-- What a content names.

-- a name of a content is the head of a chain that fits, or the root of a set that does
pub named_fits : (g : File) (content : Content) (sort : Sort) (t : ℕ) → ContentFits g content → Contains (content_targets content) (sort, t)
    → ((sort ≡ OverflowHead) × (total : ℕ) × ChainFits g t total) ⊎ ((sort ≡ DuplicateRoot) × SetFits g t)
named_fits g (Inline bytes) sort t fits at = absurd (no_member [] (sort, t) refl at)
named_fits g (Set blocks) sort t fits at = absurd (no_member [] (sort, t) refl at)
named_fits g (Chain head total) sort t fits at = grind (arith, only_member)
named_fits g (Tree root) sort t fits at = grind (arith, only_member)
named_fits g Unknown sort t fits at = absurd (no_member [] (sort, t) refl at)

pub chain_fits : (g : File) (content : Content) (named : ℕ × ℕ) → ContentFits g content → Contains (content_chains content) named
    → is_wrong_length g named ≡ false
chain_fits g (Inline bytes) named fits at = absurd (no_member [] named refl at)
chain_fits g (Set blocks) named fits at = absurd (no_member [] named refl at)
chain_fits g (Chain head total) named fits at = subst (λ n. is_wrong_length g n ≡ false) (only_member (head, total) named at) fits.length
chain_fits g (Tree root) named fits at = absurd (no_member [] named refl at)
chain_fits g Unknown named fits at = absurd (no_member [] named refl at)

pub head_code : (g : File) (p total : ℕ) (r : Reference) → 1 ≤ r.target → r.target ≤ g.last → r.sort ≡ OverflowHead → ChainFits g r.target total
    → fit_code g p r ≡ None
unfolding fit_code
head_code g p total r low high sort fits = grind (arith, fits_asked, eq-eqb)

pub set_code : (g : File) (p : ℕ) (r : Reference) → 1 ≤ r.target → r.target ≤ g.last → r.sort ≡ DuplicateRoot → SetFits g r.target → fit_code g p r ≡ None
unfolding fit_code
set_code g p r low high sort fits = grind (arith, fits_asked)

-- What a leaf names.

-- each name of a page fits where its target is there, and it has right chains and sets
record IsRight (g : File) (p : ℕ) : Type 0 where
  fits : (r : Reference) → Contains (refs g p) r → 1 ≤ r.target → r.target ≤ g.last → fit_code g p r ≡ None
  counts : (r : Reference) → Contains (refs g p) r → is_head_reference r.sort ≡ true → 1 ≤ (header_in (page_at g r.target)).entries
  chains : list_any (is_wrong_length g) (chains_in (page_at g p)) ≡ false
  sets : (r : Reference) → Contains (refs g p) r → is_root_reference r.sort ≡ true → has_wrong_place g r.sort r.target ≡ false

-- a reference of a leaf is to the head of a chain that fits, or to the root of a set that does
pub names_fit : (g : File) (pages : ℕ → Bool) (leaf : FilledLeaf) (r : Reference) → (g.kind ≡ Queue → ⊥) → IsFilled g pages leaf
    → Contains (refs g leaf.page) r → ((r.sort ≡ OverflowHead) × (total : ℕ) × ChainFits g r.target total) ⊎ ((r.sort ≡ DuplicateRoot) × SetFits g r.target)
names_fit g pages leaf r forest filled at =
    let target = of_references 0 _ r (subst (λ rs. Contains rs r) (refs_of g leaf.page _ forest refl) at) in
    let found = of_flat_map content_targets leaf.contents (r.sort, r.target) (subst (λ ts. Contains ts (r.sort, r.target)) filled.names target) in
    named_fits g found.0 r.sort r.target (All-contains (ContentFits g) leaf.contents found.0 filled.fit found.1) found.2

leaf_right : (g : File) (pages : ℕ → Bool) (leaf : FilledLeaf) → (g.kind ≡ Queue → ⊥) → IsFilled g pages leaf → IsRight g leaf.page
leaf_right g pages leaf forest filled =
    record {
      fits = λ r at low high. elim (names_fit g pages leaf r forest filled at) [
        | inl head ↦ head_code g leaf.page head.1 r low high head.0 head.2
        | inr set ↦ set_code g leaf.page r low high set.0 set.1
      ];
      counts = λ r at is. elim (names_fit g pages leaf r forest filled at) [
        | inl head ↦ head.2.counted
        | inr set ↦ absurd (true≢false (sym is ∙ ap is_head_reference set.0))
      ];
      chains = ap (λ contents. list_any (is_wrong_length g) (flat_map content_chains contents)) filled.contents
          ∙ none_pass (is_wrong_length g) (flat_map content_chains leaf.contents) (λ chain at.
          let found = of_flat_map content_chains leaf.contents chain at in
          chain_fits g found.0 chain (All-contains (ContentFits g) leaf.contents found.0 filled.fit found.1) found.2);
      sets = λ r at is. elim (names_fit g pages leaf r forest filled at) [
        | inl head ↦ absurd (true≢false (sym is ∙ ap is_root_reference head.0))
        | inr set ↦ ap (λ s. has_wrong_place g s r.target) set.0 ∙ set.1.places
      ];
    }

pub targets_joined : (contents : List Content)
    → map (λ (named : Sort × ℕ). named.1) (flat_map content_targets contents) ≡ flat_map content_pages contents
targets_joined [] = refl
targets_joined (content ∷ contents) = grind (arith, map-append, targets_joined contents)

pub leaf_names : (g : File) (pages : ℕ → Bool) (leaf : FilledLeaf) → (g.kind ≡ Queue → ⊥) → IsFilled g pages leaf → names g leaf.page ≡ pages_held leaf
leaf_names g pages leaf forest filled = grind (arith, refs_of, enumerated_names, targets_joined)

-- Leaves.

abbrev numbers : List FilledLeaf → List ℕ
numbers leaves = map (λ (leaf : FilledLeaf). leaf.page) leaves

pub all_names : (g : File) (pages : ℕ → Bool) (leaves : List FilledLeaf) → (g.kind ≡ Queue → ⊥) → All (IsFilled g pages) leaves
    → flat_map (names g) (numbers leaves) ≡ flat_map pages_held leaves
all_names g pages [] forest filled = refl
all_names g pages (leaf ∷ leaves) forest filled =
    ap (λ ps. ps ++ flat_map (names g) (numbers leaves)) (leaf_names g pages leaf forest (All-head (IsFilled g pages) leaf leaves filled))
    ∙ ap (λ ps. pages_held leaf ++ ps) (all_names g pages leaves forest (All-tail (IsFilled g pages) leaf leaves filled))

pub leaves_stand_over : LeavesStandOver
leaves_stand_over g pages leaves over branch =
    pages_stand_over_branch g pages (numbers leaves) stand (λ p at. (right p at).chains) (λ p r at. (right p at).sets r)
    (subst (IsBranch g pages) (sym same) branch)
  where
    same : flat_map (names g) (numbers leaves) ≡ flat_map pages_held leaves
    same = all_names g pages leaves over.no_queue over.filled

    -- the leaf of a number
    at_number : (P : ℕ → Type 0) (p : ℕ) → ((leaf : FilledLeaf) → IsFilled g pages leaf → P leaf.page) → Contains (numbers leaves) p → P p
    at_number P p so at =
        let found = of_map (λ (leaf : FilledLeaf). leaf.page) leaves p at in
        subst P found.2 (so found.0 (All-contains (IsFilled g pages) leaves found.0 over.filled found.1))

    right : (p : ℕ) → Contains (numbers leaves) p → IsRight g p
    right p at = at_number (IsRight g) p (λ leaf. leaf_right g pages leaf over.no_queue) at

    inside : (p : ℕ) (r : Reference) → Contains (numbers leaves) p → Contains (refs g p) r → pages r.target ≡ true
    inside p r at held =
        branch.grove.entered r.target (subst (λ ps. Contains ps r.target) same
        (in_flat_map (names g) (numbers leaves) p r.target at (in_map (λ (s : Reference). s.target) (refs g p) r held)))

    stand : StandOver g pages (numbers leaves)
    stand = record {
      page = λ p at. record {
        low = at_number (λ q. 1 ≤ q) p (λ leaf filled. filled.low) at;
        high = at_number (λ q. q ≤ g.last) p (λ leaf filled. filled.high) at;
        new = at_number (λ q. pages q ≡ false) p (λ leaf filled. filled.new) at;
        fits = λ r held.
            let there = inside p r at held in
            (right p at).fits r held (branch.grove.low r.target there) (branch.grove.high r.target there);
      };
      apart = over.apart;
      once = λ e. subst (λ ps. count e ps ≤ 1) (sym same) (ascend_once 0 e (flat_map pages_held leaves) over.held);
      counts = λ p r at. (right p at).counts r;
    }
