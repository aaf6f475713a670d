-- Values, sets and trees of data that are put on a page of a table.
use Rattle.std.proofs.Common.{◌≡◌, ℕ, ◌+◌, ◌-◌, ◌*◌, ◌<◌, ◌≤◌, Bool, true, false, cond, List, [], ◌∷◌, ◌++◌, length, get_or, None, Some, arith, refl, sym, ◌∙◌}
use Rattle.std.proofs.Common.{ap, subst, inl, inr, length-append, ◌^◌, ◌/◌, Option, option_map, All, flat_map, sum_by}
use Rattle.bdb_mkhash.proofs.Common.{cases_lt, le-leb, lt-leb, append_assoc, sum_by-cons, sum_by_push, All-cons, All-nil, Order, Chain, Content, File, Inline, Set, Tree, Unknown, block_bytes}
use Rattle.bdb_mkhash.proofs.Common.{blocks_of, data_of, hash_bytes, is_page_size, is_set, is_wrong_set, page_code, spelled, value_of, BlockRun, run_in, length-spelled, size_bounds, IsCounted}
use Rattle.bdb_mkhash.proofs.Common.{IsLater, between, between_is, is_between, Built, bytes_of, file_so_far, IsWritable, OnLeaf, HasChain, open_is, KeepsAll, KeepsOthers, later_before, ContentsStand}
use Rattle.bdb_mkhash.proofs.Common.{HasSum, Keyed, PlacedUnit, cost_in, data_cost, data_form, first_value, hash_item_cost, pages_in, blocks_cost, stand_together, keyed_cost, AreDataPut, DataStand}
use Rattle.bdb_mkhash.proofs.Common.{IsGrown, IsHalfPage, IsHashItem, IsOpenPage, IsUnitPut, IsValuePut, IsWholePage, room_on, CanTakeContent, HoldsContents, HoldsContentsOn, content_cost, room_of, One}
use Rattle.bdb_mktree.proofs.of_layout.WritingLemmas.{length-hash_chain, length-hash_inline, length-hash_tree}
use Rattle.bdb_mktree.specs.of_law_grove.Leaves.{ContentFits}
use Rattle.bdb_mktree.proofs.of_law_grove.BranchLemmas.{no_branch}
use Rattle.bdb_mktree.specs.of_mkleaves.Puts.{ValueStands}
use Rattle.bdb_mktree.specs.of_mkleaves.Sets.{IsSetBuilt}
use Rattle.bdb_mktree.proofs.of_mkleaves.FilledLemmas.{value_read}
use Rattle.bdb_mktree.proofs.of_mkleaves.PutLemmas.{chain_item, inline_item}
use Rattle.bdb_mktree.proofs.of_mkleaves.StandLemmas.{values_stand_on}
use Rattle.bdb_law_buckets.proofs.OverLemmas.{contents_follow}
use Rattle.bdb_mkhash.proofs.CostLemmas.{together_inline}
use Rattle.bdb_mkhash.proofs.SetLemmas.{set_read}
use Rattle.bdb_mkhash.proofs.SumLemmas.{set_summed}
use Rattle.bdb_mkhash.specs.declared.form.DataForm.TheVariants.{Set as OnPage, Tree as OffPage}

-- Items of values.

inline_cost : (order : Order) (size : ℕ) (value : List ℕ) → length value ≤ size / 8 → content_cost order (Inline value) ≡ hash_item_cost size value
inline_cost order size value short =
    let is : hash_item_cost size value ≡ 3 + length value = ap (λ b. cond b (3 + length value) 14) (le-leb (length value) (size / 8) short) in
    omega (arith, is, length-hash_inline order value)

chain_cost : (order : Order) (size head total : ℕ) (value : List ℕ) → size / 8 < length value
    → content_cost order (Chain head total) ≡ hash_item_cost size value
chain_cost order size head total value long =
    let is : hash_item_cost size value ≡ 14 = ap (λ b. cond b (3 + length value) 14) (lt-leb (length value) (size / 8) long) in
    omega (arith, is, length-hash_chain order head total)

pub inline_stored : (old new : Built) (value : List ℕ) → IsWritable (OnLeaf (record { content = Inline value; deleted = false }))
    → length value ≤ old.size / 8
    → new ≡ old → IsHashItem old new value (Inline value)
inline_stored old new value fits short same =
    record {
      item = inline_item old new value false fits short same;
      fits = tt;
      place = λ index. tt;
      cost = λ order. inline_cost order old.size value short;
    }

pub chain_stored : (old new : Built) (value : List ℕ) (head total : ℕ) → head < 2 ^ 32 → total < 2 ^ 32 → is_page_size old.size ≡ true
    → 1 ≤ length old.pages → length value ≤ (2 ^ 21 - length old.pages) * (old.size - 26) → old.size / 8 < length value → total ≡ length value
    → HasChain old new value head → IsHashItem old new value (Chain head total)
chain_stored old new value head total low few legal some room long is has =
    record {
      item = chain_item old new value false head total (low, few) legal some room long is has;
      fits = (low, few);
      place = λ index. tt;
      cost = λ order. chain_cost order old.size head total value long;
    }

-- Pages that stay.

pub holds_stay : (old new : Built) (p previous next : ℕ) (contents : List Content) → KeepsAll old new → p < length old.pages
    → HoldsContentsOn old p previous next contents → HoldsContentsOn new p previous next contents
holds_stay old new p previous next contents kept low holds =
    subst (λ o. HoldsContents o (bytes_of new p) p previous next contents) (sym kept.order)
    (subst (λ bs. HoldsContents old.order bs p previous next contents) (sym (kept.same p low)) holds)

room_stays : (old new : Built) (p : ℕ) → KeepsAll old new → p < length old.pages → room_on new p ≡ room_on old p
room_stays old new p kept low = ap (λ o. room_of o (bytes_of new p)) kept.order ∙ ap (room_of old.order) (kept.same p low)

pub keeps_both : (p : ℕ) (old mid new : Built) → KeepsAll old mid → KeepsOthers p mid new → KeepsOthers p old new
keeps_both p old mid new one two =
    let first = one.grows in
    let second = two.grows in
    record {
      size = two.size ∙ one.size;
      order = two.order ∙ one.order;
      grows = omega (arith, first, second);
      same = λ q low other. two.same q (omega (arith, low, first)) other ∙ one.same q low;
    }

pub keeps_others : (p : ℕ) (old mid new : Built) → KeepsOthers p old mid → KeepsOthers p mid new → KeepsOthers p old new
keeps_others p old mid new one two =
    let first = one.grows in
    let second = two.grows in
    record {
      size = two.size ∙ one.size;
      order = two.order ∙ one.order;
      grows = omega (arith, first, second);
      same = λ q low other. two.same q (omega (arith, low, first)) other ∙ one.same q low other;
    }

-- a later file of pages is one of fewer pages before some changed
pub later_of : (p a b : ℕ) (old new : Built) (large : ℕ → Bool) (g : File) → KeepsOthers p old new → p < a → b ≤ length old.pages
    → ((q : ℕ) → a ≤ q → q < b → large q ≡ true)
    → IsLater large (file_so_far new) g → IsLater (between a b) (file_so_far old) g
later_of p a b old new large g kept low high within later =
    later_before old new (between a b) large g kept.order kept.grows
    (λ q at. let is = between_is a b q at in within q is.0 is.1)
    (λ q at. let is = between_is a b q at in
    (omega (arith, is.1, high), kept.same q (omega (arith, is.1, high)) (λ e. omega (arith, e, is.0, low)))) later

-- what a page takes
pub takes_item : (old mid : Built) (p : ℕ) (value : List ℕ) (content : Content) → IsOpenPage p old → IsHashItem old mid value content
    → hash_item_cost old.size value ≤ room_on old p → CanTakeContent mid p content
takes_item old mid p value content page stored room =
    let same = room_stays old mid p stored.item.kept page.there in
    record {
      previous = page.previous;
      next = 0;
      contents = page.contents;
      holds = holds_stay old mid p page.previous 0 page.contents stored.item.kept page.there page.holds;
      fits = stored.fits;
      place = stored.place (length page.contents);
      room = omega (arith, room, same, stored.cost mid.order);
    }

-- One value.

-- in a file a content is a value, with its pages
pub record ValueHere (g : File) (sorted : Bool) (first beyond : ℕ) (content : Content) (value : List ℕ) : Type 0 where
  pub on : ContentsStand g first beyond (content ∷ [])
  pub is : value_of g content ≡ value
  pub data_is : data_of g content ≡ value ∷ []
  pub no_set : is_set content ≡ false
  pub right : is_wrong_set g sorted content ≡ false
  pub summed : HasSum g content

data_one : (g : File) (size first beyond : ℕ) (content : Content) (value : List ℕ) → ValueStands g size first beyond content value
    → value_of g content ≡ value → data_of g content ≡ value ∷ []
unfolding data_of
data_one g size first beyond (Inline bytes) value (is, short, same) read = ap (λ v. v ∷ []) is
data_one g size first beyond (Chain head total) value stands read = ap (λ v. v ∷ []) read
data_one g size first beyond (Set blocks) value stands read = absurd stands
data_one g size first beyond (Tree root) value stands read = absurd stands
data_one g size first beyond Unknown value stands read = absurd stands

not_set : (g : File) (sorted : Bool) (size first beyond : ℕ) (content : Content) (value : List ℕ) → ValueStands g size first beyond content value
    → (is_set content ≡ false) × (is_wrong_set g sorted content ≡ false) × HasSum g content
not_set g sorted size first beyond (Inline bytes) value stands = (refl, refl, tt)
not_set g sorted size first beyond (Chain head total) value stands = (refl, refl, tt)
not_set g sorted size first beyond (Set blocks) value stands = absurd stands
not_set g sorted size first beyond (Tree root) value stands = absurd stands
not_set g sorted size first beyond Unknown value stands = absurd stands

value_up : (g : File) (size first beyond : ℕ) (content : Content) (value : List ℕ) → ValueStands g size first beyond content value → first ≤ beyond
value_up g size first beyond (Inline bytes) value (is, short, same) = omega (arith, same)
value_up g size first beyond (Chain head total) value (long, is, at, stands) = let count = stands.count in omega (arith, at, count)
value_up g size first beyond (Set blocks) value stands = absurd stands
value_up g size first beyond (Tree root) value stands = absurd stands
value_up g size first beyond Unknown value stands = absurd stands

value_here : (g : File) (sorted : Bool) (size first beyond : ℕ) (content : Content) (value : List ℕ) → IsCounted g → 1 ≤ first → beyond ≤ g.last + 1
    → ValueStands g size first beyond content value → ValueHere g sorted first beyond content value
value_here g sorted size first beyond content value counted low high stands =
    let both = values_stand_on g size first beyond ((content, value) ∷ []) counted low high
    (beyond, value_up g size first beyond content value stands, omega arith, stands, refl) in
    let read = value_read g size first beyond content value stands in
    let plain = not_set g sorted size first beyond content value stands in
    record {
      on = record { branch = both.0.branch; fit = both.0.fit; ascend = both.1 };
      is = read;
      data_is = data_one g size first beyond content value stands read;
      no_set = plain.0;
      right = plain.1;
      summed = plain.2;
    }

-- the value stands in each file that is later on its pages
pub value_put_stands : (p : ℕ) (old new : Built) (sorted : Bool) (value : List ℕ) (put : IsValuePut p old new value) → p < length old.pages
    → (g : File)
    → IsCounted g → IsLater (between (length old.pages) (length new.pages)) (file_so_far new) g
    → ValueHere g sorted (length old.pages) (length new.pages) put.content value
value_put_stands p old new sorted value put low g counted later =
    let count = put.grown.count in
    let up = later.grows in
    let before = later_of p (length old.pages) (length put.between.pages) put.between new (between (length old.pages) (length new.pages)) g
    put.grown.kept low
    (omega arith) (λ q from under. is_between (length old.pages) (length new.pages) q from (omega (arith, under, count))) later in
    subst (λ n. ValueHere g sorted (length old.pages) n put.content value) (sym count)
    (value_here g sorted old.size (length old.pages) (length put.between.pages) put.content value counted (omega (arith, low))
    (let grows = put.grown.kept.grows in omega (arith, up, count, grows, low)) (put.stored.item.stands g counted before))

pub value_put_formed : (p : ℕ) (old new : Built) (value : List ℕ) (put : IsValuePut p old new value) → p < length old.pages
    → (q : ℕ) → length old.pages ≤ q → q < length new.pages → page_code new.order q (bytes_of new q) ≡ None
value_put_formed p old new value put low q from under =
    let count = put.grown.count in
    ap (λ o. page_code o q (bytes_of new q)) put.grown.kept.order
    ∙ (ap (page_code put.between.order q) (put.grown.kept.same q (omega (arith, under, count)) (λ e. omega (arith, e, from, low)))
    ∙ put.stored.item.formed q from (omega (arith, under, count)))

pub value_put_hold : (p : ℕ) (old new : Built) (value : List ℕ) (put : IsValuePut p old new value) → p < length old.pages
    → (previous next : ℕ) (contents : List Content) → HoldsContentsOn old p previous next contents
    → HoldsContentsOn new p previous next (contents ++ (put.content ∷ []))
value_put_hold p old new value put low previous next contents holds =
    put.grown.hold previous next contents (holds_stay old put.between p previous next contents put.stored.item.kept low holds)

pub value_put_long : (p : ℕ) (old new : Built) (value : List ℕ) → IsValuePut p old new value → p < length old.pages
    → length (bytes_of new p) ≡ length (bytes_of old p)
value_put_long p old new value put low = put.grown.long ∙ ap length (put.stored.item.kept.same p low)

-- Data.

one_value : (size : ℕ) (values : List (List ℕ)) → data_form size values ≡ One → values ≡ first_value values ∷ []
one_value size [] form = absurd cc
one_value size (value ∷ []) form = refl
one_value size (value ∷ next ∷ values) form = by_test (stand_together size (value ∷ next ∷ values)) form
  where
    by_test : (b : Bool) → cond b OnPage OffPage ≡ One → value ∷ next ∷ values ≡ value ∷ []
    by_test true is = absurd cc
    by_test false is = absurd cc

several : (size : ℕ) (values : List (List ℕ)) → data_form size values ≡ OnPage → (2 ≤ length values) × (stand_together size values ≡ true)
several size [] form = absurd cc
several size (value ∷ []) form = absurd cc
several size (value ∷ next ∷ values) form = by_test (stand_together size (value ∷ next ∷ values)) refl form
  where
    by_test : (b : Bool) → stand_together size (value ∷ next ∷ values) ≡ b → cond b OnPage OffPage ≡ OnPage
        → (2 ≤ length (value ∷ next ∷ values)) × (stand_together size (value ∷ next ∷ values) ≡ true)
    by_test true is form = (omega arith, is)
    by_test false is form = absurd cc

no_one : (size : ℕ) (values : List (List ℕ)) → data_form size values ≡ OffPage → length values ≡ 1 → ⊥
no_one size [] form one = omega (arith, one)
no_one size (value ∷ []) form one = absurd cc
no_one size (value ∷ next ∷ values) form one = omega (arith, one)

pub one_put : (p : ℕ) (old new : Built) (sorted : Bool) (values : List (List ℕ)) → p < length old.pages → data_form old.size values ≡ One
    → IsValuePut p old new (first_value values) → AreDataPut p old new sorted values
one_put p old new sorted values low form put =
    record {
      kept = keeps_both p old put.between new put.stored.item.kept put.grown.kept;
      long = value_put_long p old new (first_value values) put low;
      content = put.content;
      hold = value_put_hold p old new (first_value values) put low;
      cost = put.stored.cost old.order ∙ sym (ap (λ f. cost_in f old.size values) form);
      stands = λ g counted later.
          let here = value_put_stands p old new sorted (first_value values) put low g counted later in
          record {
            on = here.on;
            values_are = here.data_is ∙ sym (one_value old.size values form);
            single = λ one. here.no_set;
            right = here.right;
            summed = here.summed;
          };
      formed = value_put_formed p old new (first_value values) put low;
      count = put.grown.count ∙ (put.stored.item.count ∙ ap (λ f. length old.pages + pages_in f old.size sorted values) (sym form));
    }

-- a set on the page

blocks_long : (order : Order) (values : List (List ℕ)) → length (flat_map (block_bytes order) values) ≡ sum_by (λ value. 4 + length value) values
blocks_long order [] = refl
blocks_long order (value ∷ values) =
    let n : ℕ = length value in
    let one : length (block_bytes order value) ≡ 4 + n =
    length-append (spelled 2 order n) (value ++ spelled 2 order n)
    ∙ (ap (λ k. k + length (value ++ spelled 2 order n)) (length-spelled 2 order n)
    ∙ (ap (λ k. 2 + k) (length-append value (spelled 2 order n)) ∙ ap (λ k. 2 + (n + k)) (length-spelled 2 order n) ∙ (omega arith))) in
    let rest = blocks_long order values in
    omega (
      arith,
      length-append (block_bytes order value) (flat_map (block_bytes order) values),
      one,
      rest,
      sum_by-cons
          (λ (v : List ℕ). 4 + length v) value values,
    )

set_cost_is : (order : Order) (values : List (List ℕ)) → content_cost order (Set values) ≡ blocks_cost values
unfolding hash_bytes
set_cost_is order values = let long = blocks_long order values in omega (arith, long)

data_set : (g : File) (values : List (List ℕ)) → data_of g (Set values) ≡ values
unfolding data_of
data_set g values = refl

pub takes_set : (built : Built) (p : ℕ) (values : List (List ℕ)) → IsHalfPage p built → data_form built.size values ≡ OnPage
    → All (λ value. length value < 2 ^ 16) values → data_cost built.size values ≤ room_on built p → CanTakeContent built p (Set values)
takes_set built p values page form short room =
    let is : data_cost built.size values ≡ blocks_cost values = ap (λ f. cost_in f built.size values) form in
    record {
      previous = page.previous;
      next = 0;
      contents = page.contents;
      holds = page.holds;
      fits = short;
      place = page.odd;
      room = omega (arith, room, is, set_cost_is built.order values);
    }

pub set_put : (p : ℕ) (old new : Built) (sorted : Bool) (values : List (List ℕ)) → p < length old.pages → data_form old.size values ≡ OnPage
    → IsGrown p old new (Set values) → AreDataPut p old new sorted values
set_put p old new sorted values low form grown =
    let count = grown.count in
    record {
      kept = grown.kept;
      long = grown.long;
      content = Set values;
      hold = grown.hold;
      cost = set_cost_is old.order values ∙ sym (ap (λ f. cost_in f old.size values) form);
      stands = λ g counted later.
          subst (λ n. DataStand g sorted (length old.pages) n (Set values) values) (sym count)
          (record {
            on = record {
              branch = no_branch g (length old.pages);
              fit = All-cons (ContentFits g) (Set values) [] tt (All-nil (ContentFits g));
              ascend = omega arith;
            };
            values_are = data_set g values;
            single = λ one. let many = (several old.size values form).0 in absurd (omega (arith, one, many));
            right = refl;
            summed = tt;
          });
      formed = λ q from under. absurd (omega (arith, from, under, count));
      count = count ∙ (let none : length old.pages ≡ length old.pages + 0 = omega arith in none)
          ∙ ap (λ f. length old.pages + pages_in f old.size sorted values) (sym form);
    }

-- the set that is read from its spelling
pub set_found : (order : Order) (values : List (List ℕ)) (run slice : List ℕ) (over : Option BlockRun) (set : BlockRun)
    → All (λ value. length value < 2 ^ 16) values → run ≡ flat_map (block_bytes order) values → slice ≡ run
    → over ≡ option_map (run_in order) (blocks_of order slice) → over ≡ Some set → set ≡ run_in order values
set_found order values run slice over set short spells same is found =
    let both : Some set ≡ Some (run_in order values) = sym found ∙ (is ∙ set_read order values slice short (same ∙ spells)) in cc

pub set_there : (order : Order) (values : List (List ℕ)) (run slice : List ℕ) (over : Option BlockRun) → All (λ value. length value < 2 ^ 16) values
    → run ≡ flat_map (block_bytes order) values → slice ≡ run → over ≡ option_map (run_in order) (blocks_of order slice) → over ≡ None → ⊥
set_there order values run slice over short spells same is none =
    let both : None ≡ Some (run_in order values) = sym none ∙ (is ∙ set_read order values slice short (same ∙ spells)) in cc

-- the data of a set on a page are short
pub set_short : (size : ℕ) (values : List (List ℕ)) → is_page_size size ≡ true → data_form size values ≡ OnPage
    → All (λ value. length value < 2 ^ 16) values
set_short size values legal form k d low =
    let bounds = size_bounds size legal in
    let short : length (get_or values k d) ≤ size / 8 = together_inline size values (several size values form).1 k d low in
    omega (arith, short, bounds.1)

-- a tree of the data

tree_cost : (order : Order) (root : ℕ) → content_cost order (Tree root) ≡ 10
tree_cost order root = omega (arith, length-hash_tree order root)

pub takes_tree : (old mid : Built) (p : ℕ) (sorted : Bool) (values : List (List ℕ)) (root : ℕ) → IsHalfPage p old
    → data_form old.size values ≡ OffPage
    → IsSetBuilt old mid sorted values root → root < 2 ^ 32 → data_cost old.size values ≤ room_on old p → CanTakeContent mid p (Tree root)
takes_tree old mid p sorted values root page form set small room =
    let is : data_cost old.size values ≡ 10 = ap (λ f. cost_in f old.size values) form in
    let same = room_stays old mid p set.kept page.there in
    record {
      previous = page.previous;
      next = 0;
      contents = page.contents;
      holds = holds_stay old mid p page.previous 0 page.contents set.kept page.there page.holds;
      fits = small;
      place = page.odd;
      room = omega (arith, room, is, same, tree_cost mid.order root);
    }

pub tree_put : (p : ℕ) (old mid new : Built) (sorted : Bool) (values : List (List ℕ)) (root : ℕ) → p < length old.pages
    → data_form old.size values ≡ OffPage → IsSetBuilt old mid sorted values root → IsGrown p mid new (Tree root) → AreDataPut p old new sorted values
tree_put p old mid new sorted values root low form set grown =
    let tree_later : (g : File) → IsLater (between (length old.pages) (length new.pages)) (file_so_far new) g
    → IsLater (between (length old.pages) (length mid.pages)) (file_so_far mid) g = λ g later.
    let count = grown.count in
    later_of p (length old.pages) (length mid.pages) mid new (between (length old.pages) (length new.pages)) g grown.kept low (omega arith)
    (λ q from under. is_between (length old.pages) (length new.pages) q from (omega (arith, under, count))) later in
    let count = grown.count in
    record {
      kept = keeps_both p old mid new set.kept grown.kept;
      long = grown.long ∙ ap length (set.kept.same p low);
      content = Tree root;
      hold = λ previous next contents holds. grown.hold previous next contents (holds_stay old mid p previous next contents set.kept low holds);
      cost = tree_cost old.order root ∙ sym (ap (λ f. cost_in f old.size values) form);
      stands = λ g counted later.
          let there = set.stands g counted (tree_later g later) in
          let first = set.low in
          let last = set.high in
          subst (λ n. DataStand g sorted (length old.pages) n (Tree root) values) (sym count)
          (record {
            on = record { branch = there.on.branch; fit = there.on.fit; ascend = (first, omega (arith, last)) };
            values_are = there.holds;
            single = λ one. absurd (no_one old.size values form one);
            right = there.right;
            summed = set_summed g mid (between (length old.pages) (length mid.pages)) sorted values root set.tree counted (tree_later g later) there.holds;
          });
      formed = λ q from under.
          ap (λ o. page_code o q (bytes_of new q)) grown.kept.order
          ∙ (ap (page_code mid.order q) (grown.kept.same q (omega (arith, under, count)) (λ e. omega (arith, e, from, low)))
          ∙ set.formed q from (omega (arith, under, count)));
      count = count ∙ (set.count ∙ ap (λ f. length old.pages + pages_in f old.size sorted values) (sym form));
    }

-- A key with its data.

pub half_page : (p : ℕ) (old mid : Built) (key : List ℕ) → IsWholePage p old → IsValuePut p old mid key → IsHalfPage p mid
half_page p old mid key page put =
    let there = page.there in
    let grows = (keeps_both p old put.between mid put.stored.item.kept put.grown.kept).grows in
    let even = page.even in
    record {
      there = omega (arith, there, grows);
      previous = page.previous;
      contents = page.contents ++ (put.content ∷ []);
      holds = value_put_hold p old mid key put page.there page.previous 0 page.contents page.holds;
      odd = omega (arith, even, length-append page.contents (put.content ∷ []));
    }

-- the room that a key leaves is enough for its data
pub room_left : (p : ℕ) (old mid : Built) (unit : Keyed) (page : IsWholePage p old) → IsValuePut p old mid unit.key
    → keyed_cost old.size unit ≤ room_on old p → data_cost mid.size unit.values ≤ room_on mid p
room_left p old mid unit page put room =
    let was = page.holds.room in
    let now = (value_put_hold p old mid unit.key put page.there page.previous 0 page.contents page.holds).room in
    let order = put.grown.kept.order ∙ put.stored.item.kept.order in
    let size = put.grown.kept.size ∙ put.stored.item.kept.size in
    let long = value_put_long p old mid unit.key put page.there in
    let sum : sum_by (content_cost mid.order) (page.contents ++ (put.content ∷ [])) ≡ sum_by (content_cost old.order) page.contents + hash_item_cost
    old.size unit.key =
    ap (λ o. sum_by (content_cost o) (page.contents ++ (put.content ∷ []))) order
    ∙ (sum_by_push (content_cost old.order) page.contents put.content
    ∙ ap (λ n. sum_by (content_cost old.order) page.contents + n) (put.stored.cost old.order)) in
    let same : data_cost mid.size unit.values ≡ data_cost old.size unit.values = ap (λ n. data_cost n unit.values) size in
    let big : 26 ≤ length (bytes_of old p) = (open_is old.order (bytes_of old p) page.holds.begun).least in
    omega (arith, was, now, sum, long, same, big, room)

pub unit_put : (p : ℕ) (old mid new : Built) (sorted : Bool) (unit : Keyed) → p < length old.pages → (put : IsValuePut p old mid unit.key)
    → AreDataPut p mid new sorted unit.values → IsUnitPut p old new sorted unit
unit_put p old mid new sorted unit low put data' =
    let kept_key : KeepsOthers p old mid = keeps_both p old put.between mid put.stored.item.kept put.grown.kept in
    let placed : PlacedUnit = record { unit = unit; key_item = put.content; data_item = data'.content; beyond = length new.pages } in
    let key_later : (g : File) → IsLater (between (length old.pages) (length new.pages)) (file_so_far new) g
    → IsLater (between (length old.pages) (length mid.pages)) (file_so_far mid) g = λ g later.
    let more = data'.kept.grows in
    later_of p (length old.pages) (length mid.pages) mid new (between (length old.pages) (length new.pages)) g data'.kept low (omega arith)
    (λ q from under. is_between (length old.pages) (length new.pages) q from (omega (arith, under, more))) later in
    let data_later : (g : File) → IsLater (between (length old.pages) (length new.pages)) (file_so_far new) g
    → IsLater (between (length mid.pages) (length new.pages)) (file_so_far new) g = λ g later.
    let grows = kept_key.grows in
    later_before new new (between (length mid.pages) (length new.pages)) (between (length old.pages) (length new.pages)) g refl (omega arith)
    (λ q at. let is = between_is (length mid.pages) (length new.pages) q at in is_between (length old.pages) (length new.pages) q
    (omega (arith, is.0, grows)) is.1)
    (λ q at. ((between_is (length mid.pages) (length new.pages) q at).1, refl)) later in
    let grows = kept_key.grows in
    let more = data'.kept.grows in
    let size = kept_key.size in
    let order = kept_key.order in
    record {
      kept = keeps_others p old mid new kept_key data'.kept;
      long = data'.long ∙ value_put_long p old mid unit.key put low;
      placed = placed;
      is = refl;
      beyond = refl;
      hold = λ previous next contents holds.
          subst (HoldsContentsOn new p previous next) (append_assoc contents (put.content ∷ []) (data'.content ∷ []))
          (data'.hold previous next (contents ++ (put.content ∷ [])) (value_put_hold p old mid unit.key put low previous next contents holds));
      cost =
          let key = put.stored.cost old.order in
          let rest : content_cost old.order data'.content ≡ data_cost old.size unit.values =
          ap (λ o. content_cost o data'.content) (sym order) ∙ (data'.cost ∙ ap (λ n. data_cost n unit.values) size) in
          omega (arith, key, rest);
      stands = λ g counted later.
          let key = value_put_stands p old mid sorted unit.key put low g counted (key_later g later) in
          let datum = data'.stands g counted (data_later g later) in
          record {
            on = contents_follow g (length old.pages) (length mid.pages) (length new.pages) (put.content ∷ []) (data'.content ∷ []) key.on datum.on;
            key = key.is;
            values = datum.values_are;
            single = datum.single;
            right = datum.right;
            summed = datum.summed;
          };
      formed = λ q from under. elim (cases_lt q (length mid.pages)) [
        | inl below ↦
            ap (λ o. page_code o q (bytes_of new q)) data'.kept.order
            ∙ (ap (page_code mid.order q) (data'.kept.same q below (λ e. omega (arith, e, from, low))) ∙ value_put_formed p old mid unit.key put low
            q from below)
        | inr above ↦ data'.formed q above under
      ];
      count =
          let one = put.grown.count ∙ put.stored.item.count in
          let two = data'.count in
          let same : pages_in (data_form mid.size unit.values) mid.size sorted unit.values ≡ pages_in (data_form old.size unit.values) old.size
          sorted unit.values =
          ap (λ n. pages_in (data_form n unit.values) n sorted unit.values) size in
          omega (arith, one, two, same);
    }
