-- Laws that several crates use.
use Rattle.std.proofs.Common.{ℕ, List, [], ◌∷◌, ◌≡◌, ◌⊎◌, inl, inr, true, false, refl, subst, Bool, cond, Option, Some, ◌==◌, ◌||◌, None}
use Rattle.std.specs.List.{list_any}
use Rattle.std.proofs.lemmas.Bool.{eqb-true}
use Rattle.bdb_format.specs.Terms.{Internal, Page, child_types, children_in, has_type, page_type, type_in}
use Rattle.bdb_format.specs.declared.pages.PageType.{PageType}
use Rattle.bdb_format.specs.declared.pages.PageType.TheVariants.{Free as FreePage, Hash as HashPage, Internal as InternalPage}
use Rattle.bdb_format.specs.declared.pages.PageType.TheVariants.{RecnoInternal as RecnoInternalPage, Leaf as LeafPage, RecnoLeaf as RecnoLeafPage}
use Rattle.bdb_format.specs.declared.pages.PageType.TheVariants.{Overflow as OverflowPage, HashMeta as HashMetaPage, BtreeMeta as BtreeMetaPage}
use Rattle.bdb_format.specs.declared.pages.PageType.TheVariants.{QueueMeta as QueueMetaPage, Queue as QueuePage, DupLeaf as DupLeafPage, Other as OtherPage}

-- what holds of each of these types
abbrev pub AllTypes : (Option ℕ → Type 0) → List ℕ → Type 0
AllTypes P [] = Unit {0}
AllTypes P (t ∷ ts) = P (Some t) × AllTypes P ts

-- what holds of each of these types holds of one of them, or of one of the others
pub one_type : (P : Option ℕ → Type 0) (types : List ℕ) (t : ℕ) → AllTypes P types → list_any (λ type. type == t) types ≡ true → P (Some t)
one_type P [] t all one = absurd cc
one_type P (type ∷ types) t all one =
    elim (type == t) as (λ b. (type == t) ≡ b → (b || list_any (λ other. other == t) types) ≡ true → P (Some t)) [
      | true ↦ λ same some. subst (λ n. P (Some n)) (eqb-true type t same) all.0
      | false ↦ λ same some. one_type P types t all.1 some
    ] refl one

-- what holds of each of these types holds of a type that is one of them
pub of_type : (P : Option ℕ → Type 0) (types : List ℕ) (type : Option ℕ) → AllTypes P types → has_type types type ≡ true → P type
of_type P types None all has = absurd cc
of_type P types (Some t) all has = one_type P types t all has

-- what holds of each type of two lists holds of each type of the one that is chosen
pub either_types : (P : Option ℕ → Type 0) (b : Bool) (xs ys : List ℕ) → AllTypes P xs → AllTypes P ys → AllTypes P (cond b xs ys)
either_types P true xs ys p q = p
either_types P false xs ys p q = q

-- below a page with keys are pages with keys
pub keyed_below : (page : Page) (children : List ℕ) → has_type (3 ∷ 5 ∷ 12 ∷ []) (type_in page) ≡ true → children_in page ≡ Some children
    → AllTypes (λ type. has_type (3 ∷ 5 ∷ 12 ∷ []) type ≡ true) (child_types page)
keyed_below (Internal page) children keyed are = either_types (λ type. has_type (3 ∷ 5 ∷ 12 ∷ []) type ≡ true) (page.header.level == 2) (5 ∷ 12 ∷ []) (3 ∷ [])
    (refl, (refl, tt)) (refl, tt)
keyed_below page children keyed are = absurd cc

-- a page with keys is one of a tree
pub tree_keyed : (type : Option ℕ) → has_type (3 ∷ 5 ∷ 12 ∷ []) type ≡ true → has_type (3 ∷ 4 ∷ 5 ∷ 6 ∷ 12 ∷ []) type ≡ true
tree_keyed type keyed = of_type (λ t. has_type (3 ∷ 4 ∷ 5 ∷ 6 ∷ 12 ∷ []) t ≡ true) (3 ∷ 5 ∷ 12 ∷ []) type (refl, (refl, (refl, tt))) keyed

-- what holds of both types holds of the one that is chosen
pub if_type : (P : PageType → Type 0) (b : Bool) (t u : PageType) → (b ≡ true → P t) → (b ≡ false → P u) → P (cond b t u)
if_type P true t u here later = here refl
if_type P false t u here later = later refl

-- the bytes of pages of a type: a hash page has one of two
abbrev pub HasByte : ℕ → PageType → Type 0
HasByte byte HashPage = (byte ≡ 2) ⊎ (byte ≡ 13)
HasByte byte InternalPage = byte ≡ 3
HasByte byte RecnoInternalPage = byte ≡ 4
HasByte byte LeafPage = byte ≡ 5
HasByte byte RecnoLeafPage = byte ≡ 6
HasByte byte OverflowPage = byte ≡ 7
HasByte byte HashMetaPage = byte ≡ 8
HasByte byte BtreeMetaPage = byte ≡ 9
HasByte byte QueueMetaPage = byte ≡ 10
HasByte byte QueuePage = byte ≡ 11
HasByte byte DupLeafPage = byte ≡ 12
HasByte byte FreePage = byte ≡ 0
HasByte byte OtherPage = Unit {0}

pub byte_of : (byte : ℕ) → HasByte byte (page_type byte)
byte_of byte =
    if_type (HasByte byte) (byte == 0) _ _ (eqb-true byte 0) (λ not-0.
    if_type (HasByte byte) (byte == 2) _ _ (λ is. inl (eqb-true byte 2 is)) (λ not-2.
    if_type (HasByte byte) (byte == 3) _ _ (eqb-true byte 3) (λ not-3.
    if_type (HasByte byte) (byte == 4) _ _ (eqb-true byte 4) (λ not-4.
    if_type (HasByte byte) (byte == 5) _ _ (eqb-true byte 5) (λ not-5.
    if_type (HasByte byte) (byte == 6) _ _ (eqb-true byte 6) (λ not-6.
    if_type (HasByte byte) (byte == 7) _ _ (eqb-true byte 7) (λ not-7.
    if_type (HasByte byte) (byte == 8) _ _ (eqb-true byte 8) (λ not-8.
    if_type (HasByte byte) (byte == 9) _ _ (eqb-true byte 9) (λ not-9.
    if_type (HasByte byte) (byte == 10) _ _ (eqb-true byte 10) (λ not-10.
    if_type (HasByte byte) (byte == 11) _ _ (eqb-true byte 11) (λ not-11.
    if_type (HasByte byte) (byte == 12) _ _ (eqb-true byte 12) (λ not-12.
    if_type (HasByte byte) (byte == 13) _ _ (λ is. inr (eqb-true byte 13 is)) (λ not-13. tt)))))))))))))

-- the byte of a page of a type
pub byte_as : (byte : ℕ) (t : PageType) → page_type byte ≡ t → HasByte byte t
byte_as byte t is = subst (HasByte byte) is (byte_of byte)
