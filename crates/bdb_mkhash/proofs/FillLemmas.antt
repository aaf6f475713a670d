-- Keys that are put on a page one after the other, and pages that follow.
use Rattle.std.proofs.Common.{◌≡◌, ℕ, ◌+◌, ◌-◌, ◌<◌, ◌≤◌, Bool, true, List, [], ◌∷◌, ◌++◌, length, get_or, take, drop, arith, refl, sym, ◌∙◌, ap, subst, inl, inr, length-drop, ◌^◌, ◌%◌, All, sum_by}
use Rattle.bdb_mkhash.proofs.Common.{cases_lt, flat_map-append, append-nil, drop-map, get_or-map, get_or-set_other, length-map, length-set, map-append, take_all, take_more, All-drop, sum_by-append}
use Rattle.bdb_mkhash.proofs.Common.{sum_by_push, Content, File, is_page_size, page_code, size_bounds, IsLater, between, between_is, is_between, AreWhole, Built, bytes_of, file_so_far, with_page}
use Rattle.bdb_mkhash.proofs.Common.{open_is, KeepsAll, page_room, later_before, Keyed, PlacedUnit, UnitStands, UnitsStand, contents_of, contents_on, unit_of, keyed_own_pages, keyed_cost}
use Rattle.bdb_mkhash.proofs.Common.{AreEmptyPages, ArePut, IsEmptyPage, IsFollowed, IsOpenPage, IsUnitPut, IsWholePage, no_unit, IsShortUnit, unit_seen, units_seen, HoldsContents, HoldsContentsOn}
use Rattle.bdb_mkhash.proofs.Common.{content_cost, with_hash_page, with_next}
use Rattle.bdb_mkhash.specs.declared.unit.Unit.{Unit as CodeUnit}
use Rattle.bdb_mkhash.proofs.CostLemmas.{data_few, item_few}
use Rattle.bdb_mkhash.proofs.PageLemmas.{added_keeps}
use Rattle.bdb_mkhash.proofs.StoreLemmas.{keeps_others, later_of}

-- A key has room on a page without any.
pub unit_fits : (size : ℕ) (unit : Keyed) → is_page_size size ≡ true → keyed_cost size unit ≤ page_room size
unit_fits size unit legal =
    let bounds = size_bounds size legal in
    let key = item_few size unit.key legal in
    let rest = data_few size unit.values legal in
    omega (arith, bounds.0, key, rest)

-- Keys that stand.

pub units_follow : (g : File) (sorted : Bool) (a b c : ℕ) (us vs : List PlacedUnit) → UnitsStand g sorted a b us → UnitsStand g sorted b c vs
    → UnitsStand g sorted a c (us ++ vs)
units_follow g sorted a b c [] vs one two = subst (λ n. UnitsStand g sorted n c vs) one two
units_follow g sorted a b c (u ∷ us) vs (here, rest) two = (here, units_follow g sorted u.beyond b c us vs rest two)

pub contents_even : (us : List PlacedUnit) → length (contents_on us) % 2 ≡ 0
contents_even [] = refl
contents_even (u ∷ us) = let rest = contents_even us in omega (arith, rest)

-- No key is put.

pub none_put : (p : ℕ) (old : Built) (sorted : Bool) → AreWhole old → IsEmptyPage p old → ArePut p old old sorted []
none_put p old sorted whole empty =
    record {
      kept = record { size = refl; order = refl; grows = omega arith; same = λ q low other. refl };
      placed = [];
      are = refl;
      hold = λ previous next holds. holds;
      room = let room = empty.holds.room in let long = whole p empty.there in omega (arith, room, long);
      stands = λ g counted later. refl;
      formed = λ q from under. absurd (omega (arith, from, under));
      count = omega arith;
    }

-- One more.

pub page_whole : (p : ℕ) (old now : Built) (sorted : Bool) (units : List Keyed) → IsEmptyPage p old → ArePut p old now sorted units
    → IsWholePage p now
page_whole p old now sorted units empty put =
    let there = empty.there in
    let grows = put.kept.grows in
    record {
      there = omega (arith, there, grows);
      previous = empty.previous;
      contents = contents_on put.placed;
      holds = put.hold empty.previous 0 empty.holds;
      even = contents_even put.placed;
    }

pub put_more : (p : ℕ) (old now new : Built) (sorted : Bool) (units : List Keyed) (unit : Keyed) → IsEmptyPage p old → ArePut p old now sorted units
    → IsUnitPut p now new sorted unit → ArePut p old new sorted (units ++ (unit ∷ []))
put_more p old now new sorted units unit empty put one =
    record {
      kept = keeps_others p old now new put.kept one.kept;
      placed = put.placed ++ (one.placed ∷ []);
      are = map-append unit_of put.placed (one.placed ∷ []) ∙ (ap (λ us. us ++ (one.placed.unit ∷ [])) put.are ∙ ap (λ u. units ++ (u ∷ [])) one.is);
      hold = hold;
      room =
          let was = (put.hold empty.previous 0 empty.holds).room in
          let now_holds = (hold empty.previous 0 empty.holds).room in
          let before = put.room in
          let long = one.long in
          let size = put.kept.size in
          let cost : sum_by (content_cost new.order) (contents_on (put.placed ++ (one.placed ∷ [])))
          ≡ sum_by (content_cost now.order) (contents_on put.placed) + keyed_cost old.size unit =
          ap (λ o. sum_by (content_cost o) (contents_on (put.placed ++ (one.placed ∷ [])))) one.kept.order
          ∙ (ap (sum_by (content_cost now.order)) (on_more put.placed one.placed)
          ∙ (sum_by-append (content_cost now.order) (contents_on put.placed) (contents_of one.placed)
          ∙ ap (λ n. sum_by (content_cost now.order) (contents_on put.placed) + n) (one.cost ∙ ap (λ n. keyed_cost n unit) size))) in
          let big : 26 ≤ length (bytes_of now p) = (open_is now.order (bytes_of now p) (put.hold empty.previous 0 empty.holds).begun).least in
          omega (arith, was, now_holds, before, long, cost, big, sum_by_push (keyed_cost old.size) units unit);
      stands = λ g counted later.
          units_follow g sorted a b d put.placed (one.placed ∷ [])
          (put.stands g counted (later_of p a b now new (between a d) g one.kept low (omega arith)
          (λ q from under. is_between a d q from (omega (arith, under, more))) later))
          (subst (λ n. UnitStands g sorted b n one.placed) (sym one.beyond) (one.stands g counted (rest_later g later)), sym one.beyond);
      formed = λ q from under. elim (cases_lt q b) [
        | inl below ↦
            ap (λ o. page_code o q (bytes_of new q)) one.kept.order
            ∙ (ap (page_code now.order q) (one.kept.same q below (λ e. omega (arith, e, from, low))) ∙ put.formed q from below)
        | inr above ↦ one.formed q above under
      ];
      count =
          let before = put.count in
          let added = one.count in
          let same : keyed_own_pages now.size sorted unit ≡ keyed_own_pages old.size sorted unit = ap (λ n. keyed_own_pages n sorted unit) put.kept.size in
          omega (arith, before, added, same, sum_by_push (keyed_own_pages old.size sorted) units unit);
    }
  where
    a : ℕ
    a = length old.pages

    b : ℕ
    b = length now.pages

    d : ℕ
    d = length new.pages

    low : p < a
    low = empty.there

    more : b ≤ d
    more = one.kept.grows

    on_more : (us : List PlacedUnit) (u : PlacedUnit) → contents_on (us ++ (u ∷ [])) ≡ contents_on us ++ contents_of u
    on_more us u = flat_map-append contents_of us (u ∷ []) ∙ ap (λ cs. contents_on us ++ cs) (append-nil (contents_of u))

    hold : (previous next : ℕ) → HoldsContentsOn old p previous next []
        → HoldsContentsOn new p previous next (contents_on (put.placed ++ (one.placed ∷ [])))
    hold previous next holds =
        subst (HoldsContentsOn new p previous next) (sym (on_more put.placed one.placed))
        (one.hold previous next (contents_on put.placed) (put.hold previous next holds))

    rest_later : (g : File) → IsLater (between a d) (file_so_far new) g → IsLater (between b d) (file_so_far new) g
    rest_later g later =
        let grows = put.kept.grows in
        later_before new new (between b d) (between a d) g refl (omega arith)
        (λ q at. let is = between_is b d q at in is_between a d q (omega (arith, is.0, grows)) is.1) (λ q at. ((between_is b d q at).1, refl)) later

-- with its place in a list
pub put_next : (p : ℕ) (old now new : Built) (sorted : Bool) (units : List Keyed) (n : ℕ) (unit : Keyed) → IsEmptyPage p old
    → ArePut p old now sorted (take n units) → n < length units → unit ≡ get_or units n no_unit → IsUnitPut p now new sorted unit
    → ArePut p old new sorted (take (n + 1) units)
put_next p old now new sorted units n unit empty put low is one =
    subst (ArePut p old new sorted) (ap (λ u. take n units ++ (u ∷ [])) is ∙ sym (take_more units n no_unit low))
    (put_more p old now new sorted (take n units) unit empty put one)

-- a key of a list
pub seen_any : (units : List CodeUnit) (n : ℕ) (d : CodeUnit) → n < length units → unit_seen (get_or units n d) ≡ get_or (units_seen units) n no_unit
seen_any units n d low = sym (get_or-map unit_seen units n d no_unit low)

-- the units of a list from a place on
pub seen_rest : (units : List CodeUnit) (n : ℕ) → units_seen (take (length units - n) (drop n units)) ≡ drop n (units_seen units)
seen_rest units n = ap units_seen (take_all (length units - n) (drop n units) (omega (arith, length-drop n units))) ∙ sym (drop-map unit_seen n units)

pub short_rest : (units : List CodeUnit) (n : ℕ) → All IsShortUnit (units_seen units)
    → All IsShortUnit (units_seen (take (length units - n) (drop n units)))
short_rest units n short = subst (All IsShortUnit) (sym (seen_rest units n)) (All-drop IsShortUnit n (units_seen units) short)

pub seen_long : (units : List CodeUnit) → length (units_seen units) ≡ length units
seen_long units = length-map units unit_seen

-- Pages that are added for buckets.

pub bucket_added : (old now new : Built) (k number : ℕ) → KeepsAll old now → length now.pages ≡ length old.pages + k
    → AreEmptyPages (length old.pages) k now
    → number ≡ length now.pages → new ≡ with_hash_page now 0 → HoldsContentsOn new number 0 0 [] → length now.pages < 2 ^ 21
    → KeepsAll old new × (length new.pages ≡ length old.pages + (k + 1)) × AreEmptyPages (length old.pages) (k + 1) new
bucket_added old now new k number kept count empty at added holds few =
    let keeps = added_keeps now new 0 added in
    let grows = kept.grows in (
      record {
        size = keeps.0 ∙ kept.size;
        order = keeps.1 ∙ kept.order;
        grows = omega (arith, grows, keeps.2);
        same = λ q low. keeps.3 q (omega (arith, low, grows)) ∙ kept.same q low;
      },
      omega (arith, keeps.2, count),
      λ j under. elim (cases_lt j k) [
        | inl below ↦
            let was = empty j below in (
              omega (arith, was.0, keeps.2),
              subst (λ o. HoldsContents o (bytes_of new (length old.pages + j)) (length old.pages + j) 0 0 []) (sym keeps.1)
                  (subst (λ bs. HoldsContents now.order bs (length old.pages + j) 0 0 []) (sym (keeps.3 (length old.pages + j) was.0)) was.1),
            )
        | inr last ↦
            let e : number ≡ length old.pages + j = omega (arith, at, count, last, under) in
            (omega (arith, keeps.2, count, last, under), subst (λ q. HoldsContentsOn new q 0 0 []) e holds)
      ],
    )

-- A page that follows.

pub is_followed : (p : ℕ) (old mid new : Built) (next : ℕ) → p < length old.pages → mid ≡ with_hash_page old p → next ≡ length old.pages
    → HoldsContentsOn mid next p 0 [] → new ≡ with_page mid p (with_next mid.order (bytes_of mid p) next)
    → ((previous before : ℕ) (contents : List Content) → HoldsContentsOn mid p previous before contents
    → HoldsContentsOn new p previous next contents)
    → IsFollowed p old new next
is_followed p old mid new next low added number holds set_is links =
    record {
      kept = record {
        size = ap (λ (b : Built). b.size) set_is ∙ keeps.0;
        order = ap (λ (b : Built). b.order) set_is ∙ keeps.1;
        grows = omega (arith, long, count);
        same = λ q under other. other_page q other ∙ keeps.3 q under;
      };
      number = number;
      count = long ∙ count;
      holds =
          subst (λ o. HoldsContents o (bytes_of new next) next p 0 []) (sym (ap (λ (b : Built). b.order) set_is))
          (subst (λ bs. HoldsContents mid.order bs next p 0 []) (sym (other_page next (λ e. omega (arith, e, number, low)))) holds);
      hold = λ previous before contents was. links previous before contents (stays previous before contents was);
    }
  where
    keeps : (mid.size ≡ old.size) × (mid.order ≡ old.order) × (length mid.pages ≡ length old.pages + 1)
        × ((q : ℕ) → q < length old.pages → bytes_of mid q ≡ bytes_of old q)
    keeps = added_keeps old mid p added

    count : length mid.pages ≡ length old.pages + 1
    count = keeps.2

    long : length new.pages ≡ length mid.pages
    long = ap (λ (b : Built). length b.pages) set_is ∙ length-set mid.pages p (with_next mid.order (bytes_of mid p) next)

    other_page : (q : ℕ) → (q ≡ p → ⊥) → bytes_of new q ≡ bytes_of mid q
    other_page q other = ap (λ (b : Built). bytes_of b q) set_is ∙ get_or-set_other mid.pages p q (with_next mid.order (bytes_of mid p) next) [] other

    stays : (previous before : ℕ) (contents : List Content) → HoldsContentsOn old p previous before contents
        → HoldsContentsOn mid p previous before contents
    stays previous before contents was =
        subst (λ o. HoldsContents o (bytes_of mid p) p previous before contents) (sym keeps.1)
        (subst (λ bs. HoldsContents old.order bs p previous before contents) (sym (keeps.3 p low)) was)

-- the page stays open while another is added
pub begun_stays_on : (p : ℕ) (old mid : Built) (page : IsOpenPage p old) → mid ≡ with_hash_page old p
    → HoldsContentsOn mid p page.previous 0 page.contents
begun_stays_on p old mid page added =
    let keeps = added_keeps old mid p added in
    subst (λ o. HoldsContents o (bytes_of mid p) p page.previous 0 page.contents) (sym keeps.1)
    (subst (λ bs. HoldsContents old.order bs p page.previous 0 page.contents) (sym (keeps.3 p page.there)) page.holds)
