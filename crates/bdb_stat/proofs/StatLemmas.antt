-- The figures of the pages below a number.
use Rattle.std.proofs.Common.{◌≡◌, ◌≢◌, ◌∙◌, ℕ, zero, suc, ◌+◌, ◌-◌, ◌*◌, ◌/◌, ◌^◌, ◌<◌, ◌≤◌, true, false, List, [], ◌∷◌, length, length-append, refl, sym, ap}
use Rattle.std.proofs.Common.{subst, arith, ◌==◌, ◌||◌, cond, get_or, Bool, Option, Some, None, max, map, nat_lt, slice_index}
use Rattle.std.specs.List.{filter, fold, list_any, range_with_len, sum_by}
use Rattle.std.proofs.lemmas.Bool.{eqb-true}
use Rattle.std.proofs.lemmas.Bool.Decides.{nat_tests}
use Rattle.std.proofs.lemmas.List.{map-append}
use Rattle.std.proofs.lemmas.List.Elements.{filter-append}
use Rattle.std.proofs.lemmas.List.FromFn.{length-range_with_len}
use Rattle.std.proofs.lemmas.List.Sums.{fold-append, sum_by_push}
use Rattle.std.proofs.Math.Nat.{mul-le-mul_right}
use Rattle.bdb_law_turned.proofs.of_format.FileLemmas.{count_is}
use Rattle.bdb_law_turned.proofs.of_format.SizeLemmas.{size_bounds}
use Rattle.bdb_law_turned.proofs.of_format.VerdictLemmas.{no_stage, none_in}
use Rattle.bdb_law_turned.specs.of_format.Terms.{DupLeaf, File, Free, Hash as HashPage, Internal as InternalPage, Leaf as LeafPage, Listed, Meta as MetaPage}
use Rattle.bdb_law_turned.specs.of_format.Terms.{NoType, Overflow as OverflowPage, Page, Queue as QueuePage, RecnoInternal, RecnoLeaf, Zero, faults_of}
use Rattle.bdb_law_turned.specs.of_format.Terms.{file_of, head_of, is_meta, is_page_size, is_queue, is_reserve, no_item, page_at}
use Rattle.bdb_law_turned.specs.of_format.declared.metadata.Head.{Head}
use Rattle.bdb_law_turned.proofs.of_image.FirstLemmas.{formed_accepted}
use Rattle.bdb_law_turned.proofs.of_image.FormedLemmas.{IsPaged, accepted_paged}
use Rattle.bdb_law_turned.specs.of_image.Formed.{IsAccepted}
use Rattle.bdb_law_turned.specs.of_image.Linked.{IsForest}
use Rattle.bdb_stat.specs.Classes.{class_by_type, class_of, is_class, levels_below, pages_below, same_class, tree_level}
use Rattle.bdb_law_turned.specs.Fields.{no_internal}
use Rattle.bdb_law_turned.specs.of_form.Ends.{internal_item_end, leaf_item_end}
use Rattle.bdb_stat.specs.Unused.{listed_unused, unused_below, unused_in}
use Rattle.bdb_stat.specs.declared.class.Class.{Class}
use Rattle.bdb_stat.specs.declared.class.Class.TheVariants.{Meta, Internal, Leaf, Hash, Overflow, Free as FreeClass, Reserve, Queue, Tail}
use Rattle.bdb_stat.proofs.ClassLemmas.{has_class}
use Rattle.bdb_law_turned.proofs.of_graph.ChainLengthLemmas.{size_is}
use Rattle.bdb_stat.proofs.PlaceLemmas.{few_outside}
use Rattle.bdb_stat.specs.declared.figures.Stat.{Stat}
use Rattle.bdb_stat.specs.Figures.{Counts, IsStat, count_in}
use Rattle.bdb_stat.specs.Laws.{ClassesAddUp}
use Rattle.bdb_law_turned.proofs.of_format.ListLemmas.{range_zero_more}
use Rattle.bdb_law_turned.proofs.of_format.MemberLemmas.{few_pass}

-- One page more.

abbrev one : Class → Option Class → ℕ
one class found = cond (is_class class found) 1 0

pub pages_more : (file : File) (class : Class) (n : ℕ) → pages_below file class (n + 1) ≡ pages_below file class n + one class (class_of file n)
pages_more file class n =
    let test : ℕ → Bool = λ p. is_class class (class_of file p) in
    ap (λ xs. length (filter test xs)) (range_zero_more n)
    ∙ (ap (λ (xs : List ℕ). length xs) (filter-append test (range_with_len 0 n) (n ∷ []))
    ∙ (length-append (filter test (range_with_len 0 n)) (filter test (n ∷ [])) ∙ ap (λ (m : ℕ). length (filter test (range_with_len 0 n)) + m)
    (one_kept (test n))))
  where
    one_kept : (b : Bool) → length (cond b (n ∷ []) []) ≡ cond b 1 0
    one_kept true = refl
    one_kept false = refl

pub levels_more : (file : File) (n : ℕ) → levels_below file (n + 1) ≡ max (levels_below file n) (tree_level file n)
levels_more file n =
    let level : ℕ → ℕ = tree_level file in
    ap (λ xs. fold max 0 (map level xs)) (range_zero_more n)
    ∙ (ap (fold max 0) (map-append level (range_with_len 0 n) (n ∷ [])) ∙ fold-append max 0 (map level (range_with_len 0 n)) (level n ∷ []))

pub unused_more : (file : File) (n : ℕ) → unused_below file (n + 1) ≡ unused_below file n + unused_in file.size (page_at file n)
unused_more file n =
    let part : ℕ → ℕ = λ p. unused_in file.size (page_at file p) in
    ap (sum_by part) (range_zero_more n) ∙ sum_by_push part (range_with_len 0 n) n

-- How large they get.

pub few_pages : (file : File) (class : Class) (n : ℕ) → pages_below file class n ≤ n
few_pages file class n = omega (arith, few_pass (λ p. is_class class (class_of file p)) (range_with_len 0 n), length-range_with_len 0 n)

few_listed : {I : Type 0} (size : ℕ) (page : Listed I) (end : ℕ → ℕ) → listed_unused size page end ≤ size
unfolding listed_unused
few_listed size page end =
    omega (arith, few_outside (26 + 2 * length page.offsets) size (length page.offsets) (λ i. slice_index page.offsets i) end)

few_in : (size : ℕ) (page : Page) → unused_in size page ≤ size
unfolding unused_in
few_in size Zero = omega arith
few_in size (Free header) = omega arith
few_in size (MetaPage fields) = omega arith
few_in size (HashPage page) = few_listed size page (λ i. cond (i == 0) size (slice_index page.offsets (i - 1)))
few_in size (InternalPage page) = few_listed size page (λ i. internal_item_end (slice_index page.offsets i) (get_or page.items i no_internal).key)
few_in size (RecnoInternal page) = few_listed size page (λ i. slice_index page.offsets i + 8)
few_in size (LeafPage page) = few_listed size page (λ i. leaf_item_end (slice_index page.offsets i) (get_or page.items i no_item).content)
few_in size (RecnoLeaf page) = few_listed size page (λ i. leaf_item_end (slice_index page.offsets i) (get_or page.items i no_item).content)
few_in size (DupLeaf page) = few_listed size page (λ i. leaf_item_end (slice_index page.offsets i) (get_or page.items i no_item).content)
few_in size (OverflowPage header piece) = omega arith
few_in size (QueuePage number records) = omega arith
few_in size NoType = omega arith

few_below : (file : File) (n : ℕ) → unused_below file n ≤ n * file.size
few_below file zero = omega arith
few_below file (suc n) =
    let rest : unused_below file n ≤ n * file.size = few_below file n in
    let here : unused_in file.size (page_at file n) ≤ file.size = few_in file.size (page_at file n) in
    let next : n + 1 ≡ suc n = omega arith in
    let more : unused_below file (suc n) ≡ unused_below file n + unused_in file.size (page_at file n) = ap (unused_below file) (sym next)
    ∙ unused_more file n in
    omega arith

-- a file has few pages, and few bytes
pub record IsSmall (image : List ℕ) : Type 0 where
  pub pages : (file_of image).count ≤ 2 ^ 21
  pub size : (file_of image).size ≤ 2 ^ 15

pub is_small : (image : List ℕ) → IsForest image → IsSmall image
is_small image forest =
    let paged : IsPaged image (head_of image) = accepted_paged image (head_of image) (formed_accepted image (head_of image) forest.formed) in
    record {
      pages = omega (arith, count_is image, paged.few);
      size = omega (arith, size_is image, (size_bounds (head_of image).page_size paged.legal).1);
    }

-- a page size is a multiple of 64

abbrev AreWhole : List ℕ → Type 0
AreWhole [] = Unit {0}
AreWhole (size ∷ sizes) = (64 * (size / 64) ≡ size) × AreWhole sizes

whole_in : (n : ℕ) (sizes : List ℕ) → AreWhole sizes → list_any (λ size. size == n) sizes ≡ true → 64 * (n / 64) ≡ n
whole_in n [] all one = absurd cc
whole_in n (size ∷ sizes) all one =
    elim (size == n) as (λ b. (size == n) ≡ b → (b || list_any (λ s. s == n) sizes) ≡ true → 64 * (n / 64) ≡ n) [
      | true ↦ λ same some. subst (λ (m : ℕ). 64 * (m / 64) ≡ m) (eqb-true size n same) all.0
      | false ↦ λ same some. whole_in n sizes all.1 some
    ] refl one

words_of : (size : ℕ) → is_page_size size ≡ true → 64 * (size / 64) ≡ size
words_of size legal =
    whole_in size (512 ∷ 1024 ∷ 2048 ∷ 4096 ∷ 8192 ∷ 16384 ∷ 32768 ∷ []) (refl, (refl, (refl, (refl, (refl, (refl, (refl, tt))))))) legal

pub by_words : (image : List ℕ) (head : Head) → IsForest image → head ≡ head_of image → 64 * (head.page_size / 64) ≡ head.page_size
by_words image head forest is =
    let paged : IsPaged image head = accepted_paged image head (subst (IsAccepted image) (sym is) (formed_accepted image (head_of image) forest.formed)) in
    words_of head.page_size paged.legal

pub unused_fits : (image : List ℕ) (n : ℕ) → IsForest image → n < (file_of image).count
    → unused_below (file_of image) n + unused_in (file_of image).size (page_at (file_of image) n) ≤ 2 ^ 36
unused_fits image n forest low =
    let small : IsSmall image = is_small image forest in
    let file : File = file_of image in
    let below : unused_below file (n + 1) ≤ (n + 1) * file.size = few_below file (n + 1) in
    let most : (n + 1) * file.size ≤ 2 ^ 21 * file.size = mul-le-mul_right file.size (omega (arith, small.pages)) in
    omega (arith, unused_more file n, small.size)

-- The figures so far.

-- those of the pages below a number
pub record IsBelow (file : File) (n : ℕ) (stat : Stat) : Type 0 where
  pub pages : stat.pages ≡ file.count
  pub classes : (class : Class) → count_in stat class ≡ pages_below file class n
  pub levels : stat.levels ≡ levels_below file n
  pub unused : stat.unused ≡ unused_below file n

pub none_below : (file : File) (stat : Stat) → stat.pages ≡ file.count → ((class : Class) → count_in stat class ≡ 0) → stat.levels ≡ 0 → stat.unused ≡ 0
    → IsBelow file 0 stat
none_below file stat pages classes levels unused = record { pages = pages; classes = classes; levels = levels; unused = unused }

-- other figures don't change those of classes
same_counts : (stat : Stat) (levels unused : ℕ) (class : Class) → count_in (record stat { levels = levels; unused = unused }) class ≡ count_in stat class
same_counts stat levels unused Meta = refl
same_counts stat levels unused Internal = refl
same_counts stat levels unused Leaf = refl
same_counts stat levels unused Hash = refl
same_counts stat levels unused Overflow = refl
same_counts stat levels unused FreeClass = refl
same_counts stat levels unused Reserve = refl
same_counts stat levels unused Queue = refl
same_counts stat levels unused Tail = refl

pub one_below : (file : File) (n : ℕ) (class : Class) (old counted : Stat) (level levels unused : ℕ) → IsBelow file n old → Some class ≡ class_of file n
    → Counts class old counted → level ≡ tree_level file n → levels ≡ max counted.levels level → unused ≡ unused_in file.size (page_at file n)
    → IsBelow file (n + 1) (record counted { levels = levels; unused = counted.unused + unused })
one_below file n class old counted level levels unused below is counts level_is levels_are unused_is = record {
  pages = counts.pages ∙ below.pages;
  classes = λ other.
      same_counts counted levels (counted.unused + unused) other
      ∙ (counts.classes other
      ∙ (ap (λ (m : ℕ). m + cond (same_class other class) 1 0) (below.classes other)
      ∙ (ap (λ (found : Option Class). pages_below file other n + one other found) is ∙ sym (pages_more file other n))));
  levels =
      levels_are ∙ (ap (λ (m : ℕ). max m level) (counts.levels ∙ below.levels) ∙ (ap (max (levels_below file n)) level_is ∙ sym (levels_more file n)));
  unused =
      ap (λ (m : ℕ). m + unused) (counts.unused ∙ below.unused) ∙ (ap (λ (m : ℕ). unused_below file n + m) unused_is ∙ sym (unused_more file n));
}

pub all_below : (file : File) (n : ℕ) (stat : Stat) → n ≡ file.count → IsBelow file n stat → IsStat file stat
all_below file n stat all below =
    let whole : IsBelow file file.count stat = subst (λ m. IsBelow file m stat) all below in
    record { pages = whole.pages; classes = whole.classes; levels = whole.levels; unused = whole.unused }

-- The law: each page of a sound file has a class.

forest_of : (image : List ℕ) → length image ≤ 2 ^ 30 → faults_of image ≡ [] → IsForest image
forest_of image size sound = record {
  formed = record { size = size; head_is = refl; form = none_in image (1 ∷ 2 ∷ []) (no_stage image 1 sound, (no_stage image 2 sound, tt)) };
  linked = none_in image (3 ∷ 4 ∷ 5 ∷ []) (no_stage image 3 sound, (no_stage image 4 sound, (no_stage image 5 sound, tt)));
}

classed_by : (tail meta queue reserve : Bool) (typed : Option Class) → (tail ≡ false → queue ≡ false → typed ≢ None)
    → cond {A = Option Class} tail (Some Tail) (cond {A = Option Class} meta (Some Meta)
    (cond {A = Option Class} queue (Some Queue) (cond {A = Option Class} reserve (Some Reserve) typed))) ≢ None
classed_by true meta queue reserve typed some none = cc
classed_by false true queue reserve typed some none = cc
classed_by false false true reserve typed some none = cc
classed_by false false false true typed some none = cc
classed_by false false false false typed some none = some refl refl none

some_class : (image : List ℕ) (p : ℕ) → IsForest image → class_of (file_of image) p ≢ None
unfolding class_of
some_class image p forest =
    classed_by (nat_lt (file_of image).last p) (is_meta (page_at (file_of image) p)) (is_queue (file_of image).kind) (is_reserve (file_of image) p)
    (class_by_type (page_at (file_of image) p)) (λ low other. has_class image p forest (grind (arith, nat_tests, low)) other)

abbrev all_of : File → ℕ → ℕ
all_of file n =
    pages_below file Meta n + pages_below file Internal n + pages_below file Leaf n + pages_below file Hash n + pages_below file Overflow n + pages_below file
    FreeClass n
    + pages_below file Reserve n + pages_below file Queue n + pages_below file Tail n

abbrev one_of : Option Class → ℕ
one_of found =
    one Meta found + one Internal found + one Leaf found + one Hash found + one Overflow found + one FreeClass found + one Reserve found + one Queue found + one
    Tail found

just_one : (found : Option Class) → found ≢ None → one_of found ≡ 1
just_one None some = absurd (some refl)
just_one (Some Meta) some = refl
just_one (Some Internal) some = refl
just_one (Some Leaf) some = refl
just_one (Some Hash) some = refl
just_one (Some Overflow) some = refl
just_one (Some FreeClass) some = refl
just_one (Some Reserve) some = refl
just_one (Some Queue) some = refl
just_one (Some Tail) some = refl

add_up : (image : List ℕ) (n : ℕ) → IsForest image → all_of (file_of image) n ≡ n
add_up image zero forest = omega arith
add_up image (suc n) forest =
    let file : File = file_of image in
    let next : n + 1 ≡ suc n = omega arith in
    let rest : all_of file n ≡ n = add_up image n forest in
    let found : Option Class = class_of file n in
    let here : one_of found ≡ 1 = just_one found (some_class image n forest) in
    ap (all_of file) (sym next)
    ∙ omega (
      arith,
      rest,
      here,
      pages_more file Meta n,
      pages_more file Internal n,
      pages_more file Leaf n,
      pages_more file Hash n,
      pages_more file Overflow n,
      pages_more file FreeClass n,
      pages_more file Reserve n,
      pages_more file Queue n,
      pages_more file Tail n,
    )

pub classes_add_up : ClassesAddUp
classes_add_up image size sound = add_up image (file_of image).count (forest_of image size sound)
