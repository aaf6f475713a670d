-- What a page of a table names: what its items do, and the next page of its bucket.
use Rattle.std.proofs.Common.{arith, ◌≡◌, ◌⊎◌, ℕ, ◌≤◌, Bool, true, false, cond, List, [], ◌∷◌, ◌++◌, map, None, Some, refl, sym, ◌∙◌, ap, subst, inl, inr}
use Rattle.std.proofs.Common.{true≢false, ◌==◌}
use Rattle.std.specs.List.{All, Contains, flat_map, list_any}
use Rattle.std.proofs.lemmas.Bool.{eq-eqb, eqb-false}
use Rattle.std.proofs.lemmas.List.{map-append}
use Rattle.std.proofs.lemmas.List.Elements.{All-contains, Contains-append_cases}
use Rattle.bdb_law_grove.specs.of_format.declared.metadata.FileKind.TheVariants.{Queue}
use Rattle.bdb_law_grove.specs.of_format.declared.references.Reference.{Reference}
use Rattle.bdb_law_grove.specs.of_format.declared.references.Sort.{Sort}
use Rattle.bdb_law_grove.specs.of_format.declared.references.Sort.TheVariants.{OverflowHead, DuplicateRoot, HashNext}
use Rattle.bdb_law_grove.specs.of_format.Terms.{Content, File, Item, chains_in, content_chains, content_targets, contents_in, fit_code, header_in}
use Rattle.bdb_law_grove.specs.of_format.Terms.{is_head_reference, is_root_reference, is_wrong_length, page_at, refs, targets_in, type_in, unless_zero}
use Rattle.bdb_law_grove.proofs.of_format.ListLemmas.{only_member}
use Rattle.bdb_law_grove.proofs.of_format.MemberLemmas.{no_member, none_pass, of_flat_map}
use Rattle.bdb_law_grove.specs.Part.{has_wrong_place}
use Rattle.bdb_law_grove.specs.Standing.{names}
use Rattle.bdb_law_grove.specs.Leaves.{ChainFits, ContentFits, SetFits, content_pages}
use Rattle.bdb_law_grove.proofs.GroveLemmas.{enumerated_names, fits_asked, of_references, refs_of}
use Rattle.bdb_law_grove.proofs.LeafLemmas.{chain_fits, head_code, named_fits, set_code, targets_joined}
use Rattle.bdb_law_buckets.specs.Pages.{IsHashIn, hash_item}

-- The items.

contents_back : (contents : List Content) → map (λ (item : Item). item.content) (map hash_item contents) ≡ contents
contents_back [] = refl
contents_back (content ∷ contents) = ap (λ cs. content ∷ cs) (contents_back contents)

pub contents_are : (g : File) (p previous next : ℕ) (contents : List Content) → IsHashIn g p previous next contents
    → contents_in (page_at g p) ≡ contents
contents_are g p previous next contents is =
    ap contents_in is.is ∙ (ap (map (λ (item : Item). item.content)) is.items ∙ contents_back contents)

targets_are : (g : File) (p previous next : ℕ) (contents : List Content) → IsHashIn g p previous next contents
    → targets_in p (page_at g p) ≡ flat_map content_targets contents ++ unless_zero HashNext next
targets_are g p previous next contents is =
    ap (targets_in p) is.is
    ∙ (ap (λ cs. flat_map content_targets cs ++ unless_zero HashNext is.page.header.next)
    (ap (map (λ (item : Item). item.content)) is.items ∙ contents_back contents)
    ∙ ap (λ n. flat_map content_targets contents ++ unless_zero HashNext n) is.next_is)

-- the number of the next page, where there is one
abbrev pub next_page : ℕ → List ℕ
next_page next = cond (next == 0) [] (next ∷ [])

next_named : (next : ℕ) → map (λ (named : Sort × ℕ). named.1) (unless_zero HashNext next) ≡ next_page next
next_named next = by_test (next == 0)
  where
    by_test : (b : Bool) → map (λ (named : Sort × ℕ). named.1) (cond b [] ((HashNext, next) ∷ [])) ≡ cond b [] (next ∷ [])
    by_test true = refl
    by_test false = refl

-- the page names what its items do, in their order, and then the next page
pub names_are : (g : File) (p previous next : ℕ) (contents : List Content) → (g.kind ≡ Queue → ⊥) → IsHashIn g p previous next contents
    → names g p ≡ flat_map content_pages contents ++ next_page next
names_are g p previous next contents forest is =
    ap (map (λ (r : Reference). r.target)) (refs_of g p _ forest refl)
    ∙ (enumerated_names 0 _
    ∙ (ap (map (λ (named : Sort × ℕ). named.1)) (targets_are g p previous next contents is)
    ∙ (map-append (λ (named : Sort × ℕ). named.1) (flat_map content_targets contents) (unless_zero HashNext next)
    ∙ (ap (λ ps. ps ++ map (λ (named : Sort × ℕ). named.1) (unless_zero HashNext next)) (targets_joined contents)
    ∙ ap (λ ps. flat_map content_pages contents ++ ps) (next_named next)))))

-- Its references.

-- what a reference of the page is
abbrev Named : File → ℕ → Reference → Type 0
Named g next r =
    (((r.sort ≡ OverflowHead) × (total : ℕ) × ChainFits g r.target total) ⊎ ((r.sort ≡ DuplicateRoot) × SetFits g r.target))
    ⊎ ((r.sort ≡ HashNext) × (r.target ≡ next) × (next ≡ 0 → ⊥))

named : (g : File) (p previous next : ℕ) (contents : List Content) (r : Reference) → (g.kind ≡ Queue → ⊥) → IsHashIn g p previous next contents
    → All (ContentFits g) contents → Contains (refs g p) r → Named g next r
named g p previous next contents r forest is fit at =
    let target = of_references 0 _ r (subst (λ rs. Contains rs r) (refs_of g p _ forest refl) at) in
    let here = subst (λ ts. Contains ts (r.sort, r.target)) (targets_are g p previous next contents is) target in
    elim (Contains-append_cases (flat_map content_targets contents) (unless_zero HashNext next) (r.sort, r.target) here) [
      | inl item ↦
          let found = of_flat_map content_targets contents (r.sort, r.target) item in
          inl (named_fits g found.0 r.sort r.target (All-contains (ContentFits g) contents found.0 fit found.1) found.2)
      | inr last ↦ inr (by_next (next == 0) refl last)
    ]
  where
    by_next : (b : Bool) → (next == 0) ≡ b → Contains {X = Sort × ℕ} (cond b [] ((HashNext, next) ∷ [])) (r.sort, r.target)
        → (r.sort ≡ HashNext) × (r.target ≡ next) × (next ≡ 0 → ⊥)
    by_next true none last = absurd (no_member [] (r.sort, r.target) refl last)
    by_next false some last =
        let same = only_member (HashNext, next) (r.sort, r.target) last in (
          sym (ap (λ (n : Sort × ℕ). n.0) same),
          sym (ap (λ (n : Sort × ℕ). n.1) same),
          eqb-false next 0 some,
        )

-- a page that may be the next of another one
pub record IsNextOf (g : File) (p next : ℕ) : Type 0 where
  pub type : type_in (page_at g next) ≡ Some 2
  pub previous : (header_in (page_at g next)).previous ≡ p

pub is_next_of : (g : File) (p q next : ℕ) (contents : List Content) → IsHashIn g q p next contents → IsNextOf g p q
is_next_of g p q next contents is = grind (arith, Some)

next_code : (g : File) (p : ℕ) (r : Reference) → 1 ≤ r.target → r.target ≤ g.last → r.sort ≡ HashNext → IsNextOf g p r.target → fit_code g p r ≡ None
unfolding fit_code
next_code g p r low high sort next = grind (arith, fits_asked, eq-eqb)

-- each name of a page fits where its target is there, and it has right chains and sets
pub record IsRight (g : File) (p : ℕ) : Type 0 where
  pub fits : (r : Reference) → Contains (refs g p) r → 1 ≤ r.target → r.target ≤ g.last → fit_code g p r ≡ None
  pub counts : (r : Reference) → Contains (refs g p) r → is_head_reference r.sort ≡ true → 1 ≤ (header_in (page_at g r.target)).entries
  pub chains : list_any (is_wrong_length g) (chains_in (page_at g p)) ≡ false
  pub sets : (r : Reference) → Contains (refs g p) r → is_root_reference r.sort ≡ true → has_wrong_place g r.sort r.target ≡ false

pub page_right : (g : File) (p previous next : ℕ) (contents : List Content) → (g.kind ≡ Queue → ⊥) → IsHashIn g p previous next contents
    → All (ContentFits g) contents → ((next ≡ 0 → ⊥) → IsNextOf g p next) → IsRight g p
page_right g p previous next contents forest is fit after =
    record {
      fits = λ r at low high. elim (named g p previous next contents r forest is fit at) [
        | inl (inl head) ↦ head_code g p head.1 r low high head.0 head.2
        | inl (inr set) ↦ set_code g p r low high set.0 set.1
        | inr link ↦ next_code g p r low high link.0 (subst (IsNextOf g p) (sym link.1) (after link.2))
      ];
      counts = λ r at head_is. elim (named g p previous next contents r forest is fit at) [
        | inl (inl head) ↦ head.2.counted
        | inl (inr set) ↦ absurd (true≢false (sym head_is ∙ ap is_head_reference set.0))
        | inr link ↦ absurd (true≢false (sym head_is ∙ ap is_head_reference link.0))
      ];
      chains = ap (λ cs. list_any (is_wrong_length g) (flat_map content_chains cs)) (contents_are g p previous next contents is)
          ∙ none_pass (is_wrong_length g) (flat_map content_chains contents) (λ chain at.
          let found = of_flat_map content_chains contents chain at in
          chain_fits g found.0 chain (All-contains (ContentFits g) contents found.0 fit found.1) found.2);
      sets = λ r at root_is. elim (named g p previous next contents r forest is fit at) [
        | inl (inl head) ↦ absurd (true≢false (sym root_is ∙ ap is_root_reference head.0))
        | inl (inr set) ↦ ap (λ s. has_wrong_place g s r.target) set.0 ∙ set.1.places
        | inr link ↦ absurd (true≢false (sym root_is ∙ ap is_root_reference link.0))
      ];
    }
