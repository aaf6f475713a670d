-- Texts that are added one after another.
use Rattle.std.proofs.Common.{◌≡◌, ◌∙◌, ℕ, suc, ◌+◌, ◌<◌, ◌≤◌, List, [], ◌∷◌, ◌++◌, length, drop, take, get_or, refl, sym, ap, subst, append-nil, arith, Option}
use Rattle.std.proofs.Common.{Some, Ok, Err, OnOk, Result, flat_map, slice_get}
use Rattle.std.proofs.Math.Seq.{drop-cons}
use Rattle.std.proofs.lemmas.Grind.{flat_map-append}
use Rattle.std.proofs.lemmas.Option.{slice_get-get_or, slice_get_within}
use Rattle.std.proofs.lemmas.List.{take_all, take_more, take-append-drop}
use Rattle.bdb_model.specs.Change.{change}
use Rattle.bdb_tool_lines.specs.Passing.{Passes}
use Rattle.bdb_tool_lines.specs.Printing.{Prints, Writes}
use Rattle.bdb_tool_lines.specs.declared.cut.Cut.{Cut}
use Rattle.bdb_tool_lines.specs.declared.printer.Printer.{Printer}
use Rattle.bdb_tool_lines.proofs.PrintingLemmas.{begins_cut, cut_short, then_more, then_written}

-- a text and then another
pub then_passes : {K : Type 0} (written : K → Option (List ℕ)) (faults : K → ℕ) (old mid new : Printer K) (one two : List ℕ) (given result : Result Unit Cut)
    → given ≡ Ok tt
    → Passes written faults old mid one given → Passes written faults mid new two result → Passes written faults old new (one ++ two) result
then_passes written faults old mid new one two given result was first second = record {
  same_sink = second.same_sink ∙ first.same_sink;
  prints =
      then_more (written old.out.now) (written mid.out.now) (written new.out.now) (faults old.out.now) (faults mid.out.now) (faults new.out.now)
      old.room.now mid.room.now new.room.now one two given result was first.prints second.prints;
}

-- where the first is cut off, both are
pub passes_cut : {K : Type 0} (written : K → Option (List ℕ)) (faults : K → ℕ) (old new : Printer K) (one two : List ℕ) (given result : Result Unit Cut)
    (cut : Cut) → given ≡ Err cut → result ≡ Err cut
    → Passes written faults old new one given → Passes written faults old new (one ++ two) result
passes_cut written faults old new one two given result cut was is first = record {
  same_sink = first.same_sink;
  prints = begins_cut (change written faults old.out.now new.out.now) old.room.now new.room.now new.room.now one two given result cut was is first.prints;
}

pub cut_at_once : {K : Type 0} (written : K → Option (List ℕ)) (faults : K → ℕ) (old new : Printer K) (text : List ℕ) (given result : Result Unit Cut)
    (cut : Cut) → given ≡ Err cut → result ≡ Err cut
    → Passes written faults old new [] given → Passes written faults old new text result
cut_at_once written faults old new text given result cut was is first = passes_cut written faults old new [] text given result cut was is first

-- a text that is another
pub same_text : {K : Type 0} (written : K → Option (List ℕ)) (faults : K → ℕ) (old new : Printer K) (one text : List ℕ) (result : Result Unit Cut) → one ≡ text
    → Passes written faults old new one result → Passes written faults old new text result
same_text {K = K} written faults old new one text result is passes = subst (λ (t : List ℕ). Passes written faults old new t result) is passes

-- a text was added where nothing waited, and then all that waited was written
pub all_written : {K : Type 0} (written : K → Option (List ℕ)) (faults : K → ℕ) (old mid new : Printer K) (end : K) (text : List ℕ)
    (given result : Result Unit Cut) → end ≡ new.out.now
    → old.room.now ≡ [] → given ≡ Ok tt → Passes written faults old mid text given → Passes written faults mid new [] result → OnOk result (new.room.now ≡ [])
    → Writes text (change written faults old.out.now end) result
all_written {K = K} written faults old mid new end text given result ends begins was first second empty =
    subst (λ (sink : K). Writes text (change written faults old.out.now sink) result) (sym ends)
    (then_written (written old.out.now) (written mid.out.now) (written new.out.now) (faults old.out.now) (faults mid.out.now) (faults new.out.now)
    mid.room.now new.room.now text result (subst (λ (r : Result Unit Cut). Prints [] mid.room.now text (change written faults old.out.now mid.out.now) r) was
    (subst (λ (before : List ℕ). Prints before mid.room.now text (change written faults old.out.now mid.out.now) given) begins first.prints)) second.prints
    empty)

pub all_cut : {K : Type 0} (written : K → Option (List ℕ)) (faults : K → ℕ) (old new : Printer K) (end : K) (text : List ℕ) (given result : Result Unit Cut)
    (cut : Cut) → end ≡ new.out.now
    → old.room.now ≡ [] → given ≡ Err cut → result ≡ Err cut
    → Passes written faults old new text given → Writes text (change written faults old.out.now end) result
all_cut {K = K} written faults old new end text given result cut ends begins was is first =
    subst (λ (sink : K). Writes text (change written faults old.out.now sink) result) (sym ends)
    (cut_short (change written faults old.out.now new.out.now) new.room.now text given result cut was is
    (subst (λ (before : List ℕ). Prints before new.room.now text (change written faults old.out.now new.out.now) given) begins first.prints))

-- Items by their places.

-- what stands at a place
item_at : {A : Type 0} (items : List A) (i : ℕ) → i < length items → (item : A) × (slice_get items i ≡ Some item)
item_at [] i inside = absurd (omega arith)
item_at (x ∷ xs) i inside = (get_or (x ∷ xs) i x, slice_get-get_or (x ∷ xs) i x inside)

-- one more
pub item_passed : {K A : Type 0} (written : K → Option (List ℕ)) (faults : K → ℕ) (old mid now : Printer K) (text : A → List ℕ) (items : List A) (i : ℕ)
    (item : A) (given : Result Unit Cut)
    → slice_get items i ≡ Some item → given ≡ Ok tt
    → Passes written faults old mid (flat_map text (take i items)) (Ok tt) → Passes written faults mid now (text item) given
    → Passes written faults old now (flat_map text (take (i + 1) items)) (Ok tt)
item_passed {A = A} written faults old mid now text items i item given is was begun adds =
    subst (λ (t : List ℕ). Passes written faults old now t (Ok tt)) (sym (taken text items i item is))
    (then_passes written faults old mid now (flat_map text (take i items)) (text item) (Ok tt) (Ok tt) refl begun
    (subst (λ (r : Result Unit Cut). Passes written faults mid now (text item) r) was adds))
  where
    taken : (text : A → List ℕ) (items : List A) (i : ℕ) (item : A) → slice_get items i ≡ Some item
        → flat_map text (take (i + 1) items) ≡ flat_map text (take i items) ++ text item
    taken text items i item is =
        let inside : i < length items = slice_get_within items i item is in
        let here : Some (get_or items i item) ≡ Some item = sym (slice_get-get_or items i item inside) ∙ is in
        let same : get_or items i item ≡ item = cc in
        ap (flat_map text) (take_more items i item inside ∙ ap (λ (x : A). take i items ++ (x ∷ [])) same)
        ∙ flat_map-append text (take i items) (item ∷ [])
        ∙ ap (λ (rest : List ℕ). flat_map text (take i items) ++ rest) (append-nil (text item))

-- one is cut off
pub item_cut : {K A : Type 0} (written : K → Option (List ℕ)) (faults : K → ℕ) (old mid now : Printer K) (text : A → List ℕ) (items : List A) (i : ℕ) (item : A)
    (given result : Result Unit Cut) (cut : Cut)
    → slice_get items i ≡ Some item → given ≡ Err cut → result ≡ Err cut
    → Passes written faults old mid (flat_map text (take i items)) (Ok tt) → Passes written faults mid now (text item) given
    → Passes written faults old now (flat_map text items) result
item_cut {A = A} written faults old mid now text items i item given result cut is was same begun adds =
    let inside : i < length items = slice_get_within items i item is in
    let here : Some (get_or items i item) ≡ Some item = sym (slice_get-get_or items i item inside) ∙ is in
    let there : get_or items i item ≡ item = cc in
    let split : take i items ++ (item ∷ drop (i + 1) items) ≡ items =
    ap (λ (x : A). take i items ++ (x ∷ drop (i + 1) items)) (sym there) ∙ ap (λ (rest : List A). take i items ++ rest) (sym (from_place items i item inside))
    ∙ take-append-drop i items in
    let texts : flat_map text (take i items) ++ (text item ++ flat_map text (drop (i + 1) items)) ≡ flat_map text items =
    sym (flat_map-append text (take i items) (item ∷ drop (i + 1) items)) ∙ ap (flat_map text) split in
    subst (λ (t : List ℕ). Passes written faults old now t result) texts
    (then_passes written faults old mid now (flat_map text (take i items)) (text item ++ flat_map text (drop (i + 1) items)) (Ok tt) result refl begun
    (passes_cut written faults mid now (text item) (flat_map text (drop (i + 1) items)) given result cut was same adds))
  where
    from_place : (all : List A) (i : ℕ) (none : A) → i < length all → drop i all ≡ get_or all i none ∷ drop (i + 1) all
    from_place all i none inside =
        let next : suc i ≡ i + 1 = omega arith in
        drop-cons all i none inside ∙ ap (λ (n : ℕ). get_or all i none ∷ drop n all) next

-- the same, where there is one at the place
pub place_passed : {K A : Type 0} (written : K → Option (List ℕ)) (faults : K → ℕ) (old mid now : Printer K) (text : A → List ℕ) (items : List A) (i : ℕ)
    (given : Result Unit Cut)
    → i < length items → given ≡ Ok tt
    → Passes written faults old mid (flat_map text (take i items)) (Ok tt)
    → ((item : A) → slice_get items i ≡ Some item → Passes written faults mid now (text item) given)
    → Passes written faults old now (flat_map text (take (i + 1) items)) (Ok tt)
place_passed written faults old mid now text items i given inside was begun adds =
    let there = item_at items i inside in item_passed written faults old mid now text items i there.0 given there.1 was begun (adds there.0 there.1)

pub place_cut : {K A : Type 0} (written : K → Option (List ℕ)) (faults : K → ℕ) (old mid now : Printer K) (text : A → List ℕ) (items : List A) (i : ℕ)
    (given result : Result Unit Cut) (cut : Cut)
    → i < length items → given ≡ Err cut → result ≡ Err cut
    → Passes written faults old mid (flat_map text (take i items)) (Ok tt)
    → ((item : A) → slice_get items i ≡ Some item → Passes written faults mid now (text item) given)
    → Passes written faults old now (flat_map text items) result
place_cut written faults old mid now text items i given result cut inside was same begun adds =
    let there = item_at items i inside in item_cut written faults old mid now text items i there.0 given result cut there.1 was same begun
    (adds there.0 there.1)

-- all were added
pub all_passed : {K A : Type 0} (written : K → Option (List ℕ)) (faults : K → ℕ) (old now : Printer K) (text : A → List ℕ) (items : List A) (i : ℕ)
    → length items ≤ i
    → Passes written faults old now (flat_map text (take i items)) (Ok tt) → Passes written faults old now (flat_map text items) (Ok tt)
all_passed {A = A} written faults old now text items i end begun =
    subst (λ (xs : List A). Passes written faults old now (flat_map text xs) (Ok tt)) (take_all i items end) begun
