-- The code of a page, by the calls that judge its form and its metadata.
use Rattle.std.proofs.Common.{◌≡◌, ℕ, zero, suc, ◌+◌, ◌<◌, Bool, true, false, cond, List, [], ◌∷◌, ◌++◌, length, arith, refl, sym, ◌∙◌, ap, subst, Option, Some}
use Rattle.std.proofs.Common.{None, Result, Ok, Err, ◌==◌, ◌&&◌, not, nat_lt, option_map}
use Rattle.std.specs.Result.{result_err}
use Rattle.std.proofs.lemmas.Bool.{eqb-true, lt-ltb}
use Rattle.std.proofs.lemmas.List.Folds.{list_all_at}
use Rattle.bdb_faults.specs.of_format.declared.kinds.Order.{Order}
use Rattle.bdb_faults.specs.of_format.declared.metadata.FileKind.{FileKind}
use Rattle.bdb_faults.specs.of_format.declared.metadata.FileKind.TheVariants.{Btree, Hash, Queue}
use Rattle.bdb_faults.specs.of_format.declared.metadata.Head.{Head}
use Rattle.bdb_faults.specs.of_format.Terms.{Row, answer, body_code, byte_at, coded, field_rows, first_row, form_code, identity_rows, is_page_size}
use Rattle.bdb_faults.specs.of_format.Terms.{is_queue_type, is_tree_type, is_zero, may_have_type, metadata_rows, page_code, page_type, queue_code, type_of}
use Rattle.bdb_faults.specs.of_format.Terms.{typed_code}
use Rattle.bdb_faults.specs.of_format.declared.pages.PageType.{PageType}
use Rattle.bdb_faults.specs.of_format.declared.pages.PageType.TheVariants.{BtreeMeta as BtreeMetaPage, HashMeta as HashMetaPage, QueueMeta as QueueMetaPage}
use Rattle.bdb_faults.proofs.of_format.PageLemmas.{later_type, metadata_code}
use Rattle.bdb_faults.proofs.of_format.SizeLemmas.{size_bounds}
use Rattle.bdb_faults.proofs.of_format.TypeLemmas.{HasByte, byte_as, byte_of}

-- What the calls answer.

-- the code of an answer's row is that of the first row that holds
pub code_of_answer : {T : Type 0} (rows : List (Row ℕ)) (value : T) → result_err (answer rows value) ≡ first_row rows
code_of_answer [] value = refl
code_of_answer {T = T} (row ∷ rows) value = grind (arith, code_of_answer rows value)

code_of_row : {T Rows : Type 0} (code : Rows → ℕ) (result : Result T Rows) → option_map code (result_err result) ≡ result_err (coded code result)
code_of_row code (Ok value) = refl
code_of_row code (Err row) = refl

pub code_of_rows : {T Rows : Type 0} (code : Rows → ℕ) (result : Result T Rows) (rows : List (Row ℕ)) (value : T) → coded code result ≡ answer rows value
    → option_map code (result_err result) ≡ first_row rows
code_of_rows code result rows value is = code_of_row code result ∙ (ap result_err is ∙ code_of_answer rows value)

-- only metadata of a table looks at the last page
pub btree_last : (order : Order) (page : List ℕ) (number last : ℕ) → metadata_rows order page number last Btree ≡ metadata_rows order page number 0 Btree
unfolding metadata_rows
btree_last order page number last = refl

pub queue_last : (order : Order) (page : List ℕ) (number last : ℕ) → metadata_rows order page number last Queue ≡ metadata_rows order page number 0 Queue
unfolding metadata_rows
queue_last order page number last = refl

-- Page 0.

pub is_same : (a b : ℕ) → not (a == b) ≡ false → a ≡ b
is_same a b same = grind (arith, eqb-true)

-- two rows are passed once, whether they are looked at before the type or in its own table
twice : (a b : Bool) (typed rest : Option ℕ) → (b ≡ false → typed ≡ rest)
    → ◌≡◌ {A = Option ℕ} (elim (cond {A = Option ℕ} a (Some 1) (cond b (Some 2) None)) [ Some code ↦ Some code | None ↦ typed ])
    (cond {A = Option ℕ} a (Some 1) (cond b (Some 2) rest))
twice true b typed rest same = refl
twice false true typed rest same = refl
twice false false typed rest same = same refl

-- the code of a page with the type of metadata of a kind, its number and type aside
pub typed_metadata : (head : Head) (number : ℕ) (page : List ℕ) (kind : FileKind) → byte_at page 25 ≡ type_of kind
    → typed_code head number page (page_type (byte_at page 25)) ≡ first_row (field_rows head.order page number head.last kind)
typed_metadata head number page Btree is = ap (λ byte. typed_code head number page (page_type byte)) is
typed_metadata head number page Hash is = ap (λ byte. typed_code head number page (page_type byte)) is
typed_metadata head number page Queue is = ap (λ byte. typed_code head number page (page_type byte)) is

pub first_page_code : (head : Head) (page : List ℕ) → form_code head 0 page ≡ first_row (metadata_rows head.order page 0 head.last head.kind)
unfolding form_code metadata_rows
first_page_code head page = grind (arith, twice, typed_metadata, is_same)

-- Other pages.

-- a zero page has no code, another that of its number and type, or else another
abbrev pub code_by : Bool → Option ℕ → Option ℕ → Option ℕ
code_by zeros identity typed = elim zeros [ true ↦ None | false ↦ elim identity [ Some code ↦ Some code | None ↦ typed ] ]

pub code_same : (zeros : Bool) (identity typed other : Option ℕ) → (identity ≡ None → typed ≡ other) → code_by zeros identity typed
    ≡ code_by zeros identity other
code_same true identity typed other same = refl
code_same false (Some code) typed other same = refl
code_same false None typed other same = same refl

code_some : (zeros : Bool) (identity typed other : Option ℕ) (code : ℕ) → code_by zeros identity typed ≡ Some code → (typed ≡ Some code → other ≡ Some code)
    → code_by zeros identity other ≡ Some code
code_some true identity typed other code some same = absurd cc
code_some false (Some c) typed other code some same = some
code_some false None typed other code some same = same some

code_none : (zeros : Bool) (identity typed other : Option ℕ) → zeros ≡ false → code_by zeros identity typed ≡ None → code_by zeros identity other ≡ other
code_none true identity typed other page none = absurd cc
code_none false (Some c) typed other page none = absurd cc
code_none false None typed other page none = refl

pub identity_fails : (zeros : Bool) (identity typed : Option ℕ) → zeros ≡ false → code_by zeros identity typed ≡ None → identity ≡ None
identity_fails true identity typed page none = absurd cc
identity_fails false (Some c) typed page none = absurd cc
identity_fails false None typed page none = refl

above_zero : (number : ℕ) (b : Bool) → 0 < number → (nat_lt 0 number && b) ≡ b
above_zero number b above = ap (λ c. c && b) (lt-ltb 0 number above)

tree_types : (kind : FileKind) (n byte : ℕ) → (kind ≡ Queue → ⊥) → may_have_type kind (suc n) byte ≡ is_tree_type byte
tree_types Btree n byte tree = later_type Btree n byte
tree_types Hash n byte tree = later_type Hash n byte
tree_types Queue n byte tree = absurd (tree refl)

some_type : (kind : FileKind) → (type_of kind == 0) ≡ false
some_type Btree = refl
some_type Hash = refl
some_type Queue = refl

pub differs : (a b : ℕ) → (a ≡ b → ⊥) → (a == b) ≡ false
differs a b different = grind (arith, eqb-true)

pub ten_fails : not (is_tree_type 10) ≡ false → ⊥
ten_fails same = absurd cc

-- the code of a page above 0 of a btree or hash file
pub tree_code : (head : Head) (number : ℕ) (page : List ℕ) → 0 < number → (head.kind ≡ Queue → ⊥)
    → form_code head number page ≡ code_by (is_zero page) (first_row (identity_rows head.order page number is_tree_type))
    (typed_code head number page (page_type (byte_at page 25)))
unfolding form_code
tree_code head zero page above tree = absurd (omega arith)
tree_code head (suc n) page above tree = grind (arith, above_zero, tree_types)

-- a page that is refused by its form
typed_body : (head : Head) (number : ℕ) (page : List ℕ) (t : PageType) (code : ℕ) → body_code head.order page t ≡ Some code → typed_code head number page t
    ≡ Some code
typed_body head number page HashMetaPage code some = absurd cc
typed_body head number page BtreeMetaPage code some = absurd cc
typed_body head number page QueueMetaPage code some = absurd cc
typed_body head number page t code some = some

pub tree_refused : (head : Head) (number : ℕ) (page : List ℕ) (code : ℕ) → 0 < number → (head.kind ≡ Queue → ⊥) → page_code head.order number page ≡ Some code
    → form_code head number page ≡ Some code
unfolding page_code
tree_refused head number page code above tree refused =
    let identity : Option ℕ = first_row (identity_rows head.order page number is_tree_type) in
    let t : PageType = page_type (byte_at page 25) in
    tree_code head number page above tree
    ∙ code_some (is_zero page) identity (body_code head.order page t) (typed_code head number page t) code refused (typed_body head number page t code)

-- a metadata page that its form lets pass
pub not_zero : (page : List ℕ) (kind : FileKind) → is_page_size (length page) ≡ true → byte_at page 25 ≡ type_of kind → is_zero page ≡ false
not_zero page kind size is = grind (arith, size_bounds, list_all_at, some_type)

pub tree_metadata : (head : Head) (number : ℕ) (page : List ℕ) (kind : FileKind) → 0 < number → (head.kind ≡ Queue → ⊥) → page_code head.order number page
    ≡ None
    → is_page_size (length page) ≡ true → byte_at page 25 ≡ type_of kind
    → form_code head number page ≡ first_row (metadata_rows head.order page number head.last kind)
unfolding page_code
tree_metadata head number page kind above tree passed size is =
    let t : PageType = page_type (byte_at page 25) in
    let identity : Option ℕ = first_row (identity_rows head.order page number is_tree_type) in
    let some : is_zero page ≡ false = not_zero page kind size is in
    tree_code head number page above tree
    ∙ code_none (is_zero page) identity (body_code head.order page t) (typed_code head number page t) some passed
    ∙ typed_metadata head number page kind is
    ∙ sym (metadata_code head.order page number head.last kind is_tree_type (identity_fails (is_zero page) identity (body_code head.order page t) some passed)
    is)

-- metadata by its type
pub tree_table : (head : Head) (number : ℕ) (page : List ℕ) → 0 < number → (head.kind ≡ Queue → ⊥) → page_code head.order number page ≡ None
    → is_page_size (length page) ≡ true → page_type (byte_at page 25) ≡ HashMetaPage
    → first_row (metadata_rows head.order page number head.last Hash) ≡ form_code head number page
tree_table head number page above tree passed size is =
    sym (tree_metadata head number page Hash above tree passed size (byte_as (byte_at page 25) HashMetaPage is))

pub tree_tree : (head : Head) (number : ℕ) (page : List ℕ) → 0 < number → (head.kind ≡ Queue → ⊥) → page_code head.order number page ≡ None
    → is_page_size (length page) ≡ true → page_type (byte_at page 25) ≡ BtreeMetaPage
    → first_row (metadata_rows head.order page number head.last Btree) ≡ form_code head number page
tree_tree head number page above tree passed size is =
    sym (tree_metadata head number page Btree above tree passed size (byte_as (byte_at page 25) BtreeMetaPage is))

pub two_none : (a b : Bool) → cond {A = Option ℕ} a (Some 1) (cond b (Some 2) None) ≡ None → b ≡ false
two_none true b none = absurd cc
two_none false true none = absurd cc
two_none false false none = refl

-- a page of a tree that isn't metadata has the rows of its body alone, since it hasn't the type of queue metadata
pub other_code : (head : Head) (number : ℕ) (page : List ℕ) (byte : ℕ) → (page_type byte ≡ HashMetaPage → ⊥) → (page_type byte ≡ BtreeMetaPage → ⊥)
    → not (is_tree_type byte) ≡ false → typed_code head number page (page_type byte) ≡ body_code head.order page (page_type byte)
other_code head number page byte hash btree tree = of (page_type byte) (byte_of byte) hash btree
  where
    of : (t : PageType) → HasByte byte t → (t ≡ HashMetaPage → ⊥) → (t ≡ BtreeMetaPage → ⊥) → typed_code head number page t ≡ body_code head.order page t
    of HashMetaPage has hash btree = absurd (hash refl)
    of BtreeMetaPage has hash btree = absurd (btree refl)
    of QueueMetaPage has hash btree = absurd (ten_fails (subst (λ b. not (is_tree_type b) ≡ false) has tree))
    of t has hash btree = refl

pub tree_passed : (head : Head) (number : ℕ) (page : List ℕ) → 0 < number → (head.kind ≡ Queue → ⊥) → page_code head.order number page ≡ None
    → (page_type (byte_at page 25) ≡ HashMetaPage → ⊥) → (page_type (byte_at page 25) ≡ BtreeMetaPage → ⊥) → form_code head number page ≡ None
unfolding page_code
tree_passed head number page above tree passed hash btree =
    let byte : ℕ = byte_at page 25 in
    let identity : Option ℕ = first_row (identity_rows head.order page number is_tree_type) in
    tree_code head number page above tree
    ∙ code_same (is_zero page) identity (typed_code head number page (page_type byte)) (body_code head.order page (page_type byte))
    (λ typed. other_code head number page byte hash btree (two_none _ _ typed))
    ∙ passed

-- what the fault of a page of a tree is
pub ruleset tree_faults = (tree_refused, tree_table, tree_tree, tree_passed)

-- a page above 0 of a queue file
typed_queue : (head : Head) (number : ℕ) (page : List ℕ) → byte_at page 25 ≡ 11 → typed_code head number page (page_type (byte_at page 25)) ≡ None
typed_queue head number page is = ap (λ byte. typed_code head number page (page_type byte)) is

queue_types : (kind : FileKind) (n byte : ℕ) → kind ≡ Queue → may_have_type kind (suc n) byte ≡ is_queue_type byte
queue_types kind n byte is = ap (λ k. may_have_type k (suc n) byte) is ∙ later_type Queue n byte

pub form_queue : (head : Head) (number : ℕ) (page : List ℕ) → 0 < number → head.kind ≡ Queue → form_code head number page ≡ queue_code head.order number page
unfolding form_code queue_code
form_queue head zero page above queue = absurd (omega arith)
form_queue head (suc n) page above queue = grind (arith, above_zero, queue_types, code_same, typed_queue, is_same, two_none)
