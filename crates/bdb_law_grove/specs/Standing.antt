-- Laws of the groves of one file: a page, or several, that stand over entrances of a grove that is there, and groves that follow each other.
-- Source: docs/FORMAT.md, "References" and "Stage 3, references" to "Stage 5, reach".
use Rattle.std.specs.Prelude.{◌≡◌, ◌⊎◌, ℕ, ◌<◌, ◌≤◌, ◌==◌, ◌||◌, length, map, Bool, true, false, List, [], ◌++◌, None}
use Rattle.std.specs.List.{Contains, filter, flat_map, list_any}
use Rattle.bdb_format.specs.declared.references.Reference.{Reference}
use Rattle.bdb_format.specs.Terms.{File, Owner, fit_code, header_in, held_by, is_head_reference, page_at, refs}
use Rattle.bdb_law_grove.specs.Part.{IsGrove, IsOwnedBy, between, owners_among}

-- the pages that a page names, in the order of its references
abbrev pub names : File → ℕ → List ℕ
names g p = map (λ (r : Reference). r.target) (refs g p)

-- the references of one page to another, as owners
abbrev pub named_by : File → ℕ → ℕ → List Owner
named_by g p q = filter (λ (owner : Owner). owner.reference.target == q) (held_by g p)

-- a page that is not of the set, and whose references fit
pub record IsNewPage (g : File) (pages : ℕ → Bool) (p : ℕ) : Type 0 where
  pub low : 1 ≤ p
  pub high : p ≤ g.last
  pub new : pages p ≡ false
  pub fits : (r : Reference) → Contains (refs g p) r → fit_code g p r ≡ None

-- A page over a grove, whose number may be greater or smaller than those of the grove: it names entrances, or heads of chains that count these too.
pub record StandsOver (g : File) (pages : ℕ → Bool) (es : List ℕ) (p : ℕ) (fewer : List ℕ) : Type 0 where
  pub page : IsNewPage g pages p
  pub inside : (r : Reference) → Contains (refs g p) r → pages r.target ≡ true
  -- a page that it names is owned as it must be, by the owners among the pages and these references
  pub owned : (q : ℕ) → pages q ≡ true → 0 < length (named_by g p q)
      → IsOwnedBy (owners_among pages g q ++ named_by g p q) (header_in (page_at g q)).entries
  -- the entrances are now this page, and those that it doesn't name
  pub entrance : Contains fewer p
  pub left : (e : ℕ) → Contains fewer e → (e ≡ p) ⊎ (Contains es e × (named_by g p e ≡ []))
  pub rest : (e : ℕ) → Contains es e → named_by g p e ≡ [] → Contains fewer e

-- then the grove and the page are one
abbrev pub PageStandsOver : Type 0
PageStandsOver =
    (g : File) (pages : ℕ → Bool) (es : List ℕ) (p : ℕ) (fewer : List ℕ) → StandsOver g pages es p fewer → IsGrove g pages es
    → IsGrove g (λ q. pages q || (q == p)) fewer

-- Pages over one grove, which name no page twice: neither one of them, nor two.
pub record StandOver (g : File) (pages : ℕ → Bool) (ps : List ℕ) : Type 0 where
  pub page : (p : ℕ) → Contains ps p → IsNewPage g pages p
  pub apart : (p : ℕ) → length (filter (λ other. other == p) ps) ≤ 1
  pub once : (e : ℕ) → length (filter (λ other. other == e) (flat_map (names g) ps)) ≤ 1
  pub counts : (p : ℕ) (r : Reference) → Contains ps p → Contains (refs g p) r → is_head_reference r.sort ≡ true
      → 1 ≤ (header_in (page_at g r.target)).entries

-- then the grove that is entered by the pages that they name, and they, are one that is entered by them
abbrev pub PagesStandOver : Type 0
PagesStandOver =
    (g : File) (pages : ℕ → Bool) (ps : List ℕ) → StandOver g pages ps → IsGrove g pages (flat_map (names g) ps)
    → IsGrove g (λ q. pages q || list_any (λ p. q == p) ps) ps

-- groves that follow each other are one, with the entrances of both
abbrev pub GrovesFollow : Type 0
GrovesFollow =
    (g : File) (a b c : ℕ) (es fs : List ℕ) → a ≤ b → b ≤ c → IsGrove g (between a b) es → IsGrove g (between b c) fs
    → IsGrove g (between a c) (es ++ fs)

-- no pages are a grove
abbrev pub NoPagesStand : Type 0
NoPagesStand = (g : File) (a : ℕ) → IsGrove g (between a a) []

-- a grove is known by which pages it has, and by which of them are entrances
abbrev pub GroveIsKnown : Type 0
GroveIsKnown =
    (g : File) (pages same : ℕ → Bool) (es fs : List ℕ) → ((p : ℕ) → same p ≡ pages p) → ((e : ℕ) → Contains es e → Contains fs e)
    → ((e : ℕ) → Contains fs e → Contains es e) → IsGrove g pages es → IsGrove g same fs
