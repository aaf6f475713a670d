-- What owners, references and faces are in a file whose pages stay as they were.
use Rattle.std.proofs.Common.{◌≡◌, ℕ, ◌+◌, ◌-◌, ◌≤◌, Bool, true, false, List, [], ◌∷◌, ◌++◌, map, length, None, arith, refl, sym, ◌∙◌, ap, subst, inl, inr}
use Rattle.std.proofs.Common.{◌==◌, ◌||◌, nat_lt}
use Rattle.std.specs.List.{Contains, filter, flat_map, range_with_len, enumerate_from}
use Rattle.std.proofs.lemmas.Bool.{ltb-false, ne_eqb, or_parts, or_from}
use Rattle.std.proofs.lemmas.List.{map-append, append-nil}
use Rattle.std.proofs.lemmas.List.Elements.{filter-append}
use Rattle.bdb_format.specs.declared.metadata.FileKind.{FileKind}
use Rattle.bdb_format.specs.declared.metadata.FileKind.TheVariants.{Btree, Hash as HashFile, Queue as QueueFile}
use Rattle.bdb_format.specs.declared.references.Reference.{Reference}
use Rattle.bdb_format.specs.declared.references.Sort.{Sort}
use Rattle.bdb_format.specs.Terms.{Asked, File, Overflow, Owner, Page, asked_by, first_holder, first_row, fit_code, fit_rows, has_type, header_in, held_by}
use Rattle.bdb_format.specs.Terms.{is_asked, page_at, refs, targets_in, targets_of, type_in, ◌:?◌}
use Rattle.bdb_format.specs.declared.pages.Header.{Header}
use Rattle.bdb_format.specs.declared.references.Sort.TheVariants.{Free as FreeRef, Root, Bucket, HashNext, Child, OverflowHead, OverflowNext, DuplicateRoot}
use Rattle.bdb_format.proofs.MemberLemmas.{first_member, later_member, member_cases, no_member, of_filter, of_range}
use Rattle.bdb_format.proofs.VerdictLemmas.{AllFail, none_is_first_row}
use Rattle.bdb_format.proofs.ReferenceLemmas.{forest_names}
use Rattle.bdb_format.proofs.ListLemmas.{range_parts}
use Rattle.bdb_law_grove.specs.Part.{IsWayIn, owners_among}
use Rattle.bdb_law_grove.specs.Growing.{IsSamePage, KeepsFace, ReferencesComeLast}
use Rattle.bdb_law_grove.proofs.OwnerLemmas.{filter_none, names_page}

-- Lists.

-- the pages of a set up to a greater last page are no more
pub same_range : (pages : ℕ → Bool) (m n : ℕ) → m ≤ n → ((p : ℕ) → pages p ≡ true → p ≤ m)
    → filter pages (range_with_len 0 (n + 1)) ≡ filter pages (range_with_len 0 (m + 1))
same_range pages m n low high =
    let e : n + 1 ≡ (m + 1) + (n - m) = omega (arith, low) in
    ap (λ k. filter pages (range_with_len 0 k)) e
    ∙ (ap (filter pages) (range_parts 0 (m + 1) (n - m))
    ∙ (filter-append pages (range_with_len 0 (m + 1)) (range_with_len (0 + (m + 1)) (n - m))
    ∙ (ap (λ xs. filter pages (range_with_len 0 (m + 1)) ++ xs)
    (filter_none pages (range_with_len (0 + (m + 1)) (n - m))
    (λ p at is. let within = of_range (0 + (m + 1)) (n - m) p at in omega (arith, within.0, high p is)))
    ∙ append-nil (filter pages (range_with_len 0 (m + 1))))))

-- what passes a test in two joined lists, whose pieces have the same that pass
same_join : {X Y : Type 0} (test : Y → Bool) (f g : X → List Y) (xs : List X) → ((x : X) → Contains xs x → filter test (g x) ≡ filter test (f x))
    → filter test (flat_map g xs) ≡ filter test (flat_map f xs)
same_join test f g [] same = refl
same_join test f g (x ∷ xs) same = grind (arith, filter-append, first_member, later_member, same_join test f g xs (λ y at. same y (later_member x xs y at)))

-- the owners of a page are the same where each page names it as before
pub owners_same : (pages : ℕ → Bool) (f g : File) (x : ℕ) → f.last ≤ g.last → ((p : ℕ) → pages p ≡ true → p ≤ f.last)
    → ((q : ℕ) → pages q ≡ true → filter (names_page x) (held_by g q) ≡ filter (names_page x) (held_by f q))
    → owners_among pages g x ≡ owners_among pages f x
owners_same pages f g x grows high same =
    ap (λ qs. filter (names_page x) (flat_map (held_by g) qs)) (same_range pages f.last g.last grows high)
    ∙ same_join (names_page x) (held_by f) (held_by g) (filter pages (range_with_len 0 (f.last + 1)))
    (λ q at. same q (of_filter pages (range_with_len 0 (f.last + 1)) q at).1)

-- References.

same_targets : (kind other : FileKind) (p : ℕ) (page : Page) → (kind ≡ QueueFile → ⊥) → (other ≡ QueueFile → ⊥)
    → targets_of other p page ≡ targets_of kind p page
same_targets QueueFile other p page one two = absurd (one refl)
same_targets Btree QueueFile p page one two = absurd (two refl)
same_targets HashFile QueueFile p page one two = absurd (two refl)
same_targets Btree Btree p page one two = refl
same_targets Btree HashFile p page one two = refl
same_targets HashFile Btree p page one two = refl
same_targets HashFile HashFile p page one two = refl

abbrev pub reference_of : (ℕ × (Sort × ℕ)) → Reference
reference_of named = record { place = named.0; sort = named.1.0; target = named.1.1 }

-- the references of a page are its names, in their order
pub refs_of : (g : File) (p : ℕ) (page : Page) → (g.kind ≡ QueueFile → ⊥) → page_at g p ≡ page
    → refs g p ≡ map reference_of (enumerate_from 0 (targets_in p page))
unfolding refs
refs_of g p page forest is =
    ap (λ names. map reference_of (enumerate_from 0 names)) (ap (targets_of g.kind p) is ∙ forest_names g.kind p page forest)

-- a reference of a page is one of its names
pub of_references : (n : ℕ) (targets : List (Sort × ℕ)) (r : Reference) → Contains (map reference_of (enumerate_from n targets)) r
    → Contains targets (r.sort, r.target)
of_references n [] r at = absurd (no_member [] r refl at)
of_references n (target ∷ targets) r at =
    elim (member_cases (reference_of (n, target)) (map reference_of (enumerate_from (n + 1) targets)) r at) [
      | inl here ↦ subst (λ (s : Reference). Contains (target ∷ targets) (s.sort, s.target)) here (first_member target targets)
      | inr later ↦ later_member target targets (r.sort, r.target) (of_references (n + 1) targets r later)
    ]

-- what the references name, in their order
pub enumerated_names : (n : ℕ) (targets : List (Sort × ℕ))
    → map (λ (r : Reference). r.target) (map reference_of (enumerate_from n targets)) ≡ map (λ (target : Sort × ℕ). target.1) targets
enumerated_names n [] = refl
enumerated_names n (target ∷ targets) = ap (λ ps. target.1 ∷ ps) (enumerated_names (n + 1) targets)

pub refs_same : (f g : File) (p : ℕ) → (f.kind ≡ QueueFile → ⊥) → (g.kind ≡ QueueFile → ⊥) → page_at g p ≡ page_at f p → refs g p ≡ refs f p
unfolding refs
refs_same f g p one two same = grind (arith, same_targets)

pub held_same : (f g : File) (p : ℕ) → refs g p ≡ refs f p → held_by g p ≡ held_by f p
held_same f g p same = ap (λ rs. map (λ r. let o : Owner = record { holder = p; reference = r } in o) rs) same

-- Fitting.

pub above : (more target : ℕ) → target ≤ more → nat_lt more target ≡ false
above more target low = grind arith

range_fits : (target last more : ℕ) → last ≤ more → (target == 0 || nat_lt last target) ≡ false → (target == 0 || nat_lt more target) ≡ false
range_fits target last more grows none = grind (arith, or_parts, ltb-false, or_from, above)

pub none_of_rows : (a b c d : Bool) → a ≡ false → b ≡ false → c ≡ false → d ≡ false → first_row {Code = ℕ} (1 :? a ∷ 2 :? b ∷ 3 :? c ∷ 4 :? d ∷ []) ≡ None
none_of_rows a b c d p q r s = rw (p, q, r, s) refl

-- a page fits that is there and has the type, level and previous page that are asked
pub fits_asked : (g : File) (asked : Asked) (target : ℕ) → 1 ≤ target → target ≤ g.last → has_type asked.types (type_in (page_at g target)) ≡ true
    → is_asked asked.level (header_in (page_at g target)).level ≡ true → is_asked asked.previous (header_in (page_at g target)).previous ≡ true
    → first_row (fit_rows g asked target) ≡ None
fits_asked g asked target low high type level previous = grind (arith, none_of_rows, or_from, ne_eqb, above)

-- a reference fits a page with the same face in a later file
pub fit_kept : (f g : File) (asked : Asked) (target : ℕ) → f.last ≤ g.last → KeepsFace (page_at f target) (page_at g target)
    → first_row (fit_rows f asked target) ≡ None → first_row (fit_rows g asked target) ≡ None
fit_kept f g asked target grows face fits = grind (arith, AllFail, none_is_first_row, none_of_rows, range_fits)

pub same_face : (old new : Page) → new ≡ old → KeepsFace old new
same_face old new same = grind arith

-- so does a reference of a holder that asks the same
pub code_kept : (f g : File) (p : ℕ) (r : Reference) → f.last ≤ g.last → KeepsFace (page_at f p) (page_at g p)
    → KeepsFace (page_at f r.target) (page_at g r.target) → fit_code f p r ≡ None → fit_code g p r ≡ None
unfolding fit_code
code_kept f g p r grows holder face fits =
    ap (λ asked. first_row (fit_rows g asked r.target)) (holder.asks p r.sort) ∙ fit_kept f g (asked_by p (page_at f p) r.sort) r.target grows face fits

-- A grove lasts.

pub way_same : (f g : File) (pages : ℕ → Bool) (es : List ℕ) (p : ℕ) (hs : List ℕ) → ((x : ℕ) → owners_among pages g x ≡ owners_among pages f x)
    → IsWayIn f pages es p hs → IsWayIn g pages es p hs
way_same f g pages es p [] same way = way
way_same f g pages es p (h ∷ hs) same way = (ap first_holder (same p) ∙ way.0, way_same f g pages es h hs same way.1)

-- a page that stays the same but for what it counts

counted_asks : (header : Header) (piece : List ℕ) (count holder : ℕ) (sort : Sort)
    → asked_by holder (Overflow (record header { entries = count }) piece) sort ≡ asked_by holder (Overflow header piece) sort
counted_asks header piece count holder FreeRef = refl
counted_asks header piece count holder Root = refl
counted_asks header piece count holder Bucket = refl
counted_asks header piece count holder HashNext = refl
counted_asks header piece count holder Child = refl
counted_asks header piece count holder OverflowHead = refl
counted_asks header piece count holder OverflowNext = refl
counted_asks header piece count holder DuplicateRoot = refl

pub same_page_face : (old new : Page) → IsSamePage old new → KeepsFace old new
same_page_face old new (inl same) = same_face old new same
same_page_face old new (inr more) = grind (arith, counted_asks)

same_names : (p : ℕ) (old new : Page) → IsSamePage old new → targets_in p new ≡ targets_in p old
same_names p old new (inl same) = ap (targets_in p) same
same_names p old new (inr more) = ap (targets_in p) more.after ∙ ap (targets_in p) (sym more.before)

pub refs_kept : (f g : File) (p : ℕ) → (f.kind ≡ QueueFile → ⊥) → (g.kind ≡ QueueFile → ⊥) → IsSamePage (page_at f p) (page_at g p) → refs g p ≡ refs f p
unfolding refs
refs_kept f g p one two same = grind (arith, forest_names, same_names)

enumerate_more : {X : Type 0} (n : ℕ) (xs : List X) (x : X) → enumerate_from n (xs ++ (x ∷ [])) ≡ enumerate_from n xs ++ ((n + length xs, x) ∷ [])
enumerate_more n [] x = let e : n ≡ n + 0 = omega arith in ap (λ k. (k, x) ∷ []) e
enumerate_more n (y ∷ ys) x = grind (arith, enumerate_more (n + 1) ys x)

pub references_come_last : ReferencesComeLast
unfolding refs
references_come_last f g p target sort one two more = grind (arith, forest_names, enumerate_more, map-append)
