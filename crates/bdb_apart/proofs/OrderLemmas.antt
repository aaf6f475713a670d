-- Databases that are found stand in the order of their names.
use Rattle.std.proofs.Common.{◌≡◌, ◌≤◌, Bool, true, false, cond, List, [], ◌∷◌, ◌++◌, map, length, ℕ, arith, refl, sym, ◌∙◌, ap, true≢false}
use Rattle.std.specs.Prelude.{Option, Some, None, ◌&&◌}
use Rattle.std.specs.List.{fold, list_any}
use Rattle.std.specs.Str.{bytes_eq}
use Rattle.std.proofs.lemmas.Bool.{and_parts, or_parts}
use Rattle.bdb_rescue.specs.of_format.declared.metadata.QueueMeta.{QueueMeta}
use Rattle.bdb_rescue.specs.of_format.Terms.{File, Metadata, ascends, ascends_from, less, page_at}
use Rattle.bdb_rescue.proofs.of_format.LessLemmas.{eq_self, same_unless_less}
use Rattle.bdb_rescue.specs.Kept.{file_in}
use Rattle.bdb_apart.specs.Found.{Found, found, found_beside, has_name, is_alone, name_of, named_above, only_found, put_found, tree_fields, unnamed_above}
use Rattle.bdb_apart.specs.Found.{with_found}
use Rattle.bdb_apart.specs.Laws.{NamesAscend}
use Rattle.bdb_apart.specs.Queues.{queue_in}
use Rattle.bdb_apart.proofs.PartLemmas.{one_field}

both : (a b : Bool) → a ≡ true → b ≡ true → (a && b) ≡ true
both a b one other = rw (one, other) refl

-- of two names that differ one is less
above_other : (name other : List ℕ) → less name other ≡ false → bytes_eq name other ≡ false → less other name ≡ true
above_other name other not_less differ = by_less (less other name) refl
  where
    by_less : (b : Bool) → less other name ≡ b → b ≡ true
    by_less true is = refl
    by_less false is =
        absurd
        (let same : name ≡ other = same_unless_less name other not_less is in
        true≢false (sym (eq_self name) ∙ (ap (bytes_eq name) same ∙ differ)))

put_from : (first : List ℕ) (dbs : List Found) (db : Found) → ascends_from first (map name_of dbs) ≡ true → less first (name_of db) ≡ true
    → list_any (has_name (name_of db)) dbs ≡ false → ascends_from first (map name_of (put_found dbs db)) ≡ true
put_from first [] db asc low new = both (less first (name_of db)) true low refl
put_from first (other ∷ others) db asc low new = by_less (less (name_of db) (name_of other)) refl (put_from (name_of other) others db rest.1)
  where
    rest : (less first (name_of other) ≡ true) × (ascends_from (name_of other) (map name_of others) ≡ true)
    rest = and_parts (less first (name_of other)) (ascends_from (name_of other) (map name_of others)) asc

    differ : (has_name (name_of db) other ≡ false) × (list_any (has_name (name_of db)) others ≡ false)
    differ = or_parts (has_name (name_of db) other) (list_any (has_name (name_of db)) others) new

    by_less : (b : Bool) → less (name_of db) (name_of other) ≡ b
        → (less (name_of other) (name_of db) ≡ true → list_any (has_name (name_of db)) others ≡ false
        → ascends_from (name_of other) (map name_of (put_found others db)) ≡ true)
        → ascends_from first (map name_of (cond b (db ∷ other ∷ others) (other ∷ put_found others db))) ≡ true
    by_less true is later = both _ _ low (both _ _ is rest.1)
    by_less false is later = both _ _ rest.0 (later (above_other (name_of db) (name_of other) is differ.0) differ.1)

put_ascends : (dbs : List Found) (db : Found) → ascends (map name_of dbs) ≡ true → list_any (has_name (name_of db)) dbs ≡ false
    → ascends (map name_of (put_found dbs db)) ≡ true
put_ascends [] db asc new = refl
put_ascends (other ∷ others) db asc new = by_less (less (name_of db) (name_of other)) refl
  where
    differ : (has_name (name_of db) other ≡ false) × (list_any (has_name (name_of db)) others ≡ false)
    differ = or_parts (has_name (name_of db) other) (list_any (has_name (name_of db)) others) new

    by_less : (b : Bool) → less (name_of db) (name_of other) ≡ b
        → ascends (map name_of (cond b (db ∷ other ∷ others) (other ∷ put_found others db))) ≡ true
    by_less true is = both _ _ is asc
    by_less false is = put_from (name_of other) others db asc (above_other (name_of db) (name_of other) is differ.0) differ.1

with_ascends : (dbs : List Found) (db : Found) → ascends (map name_of dbs) ≡ true → ascends (map name_of (with_found dbs db)) ≡ true
with_ascends dbs db asc = by_name (list_any (has_name (name_of db)) dbs) refl
  where
    by_name : (b : Bool) → list_any (has_name (name_of db)) dbs ≡ b → ascends (map name_of (cond b dbs (put_found dbs db))) ≡ true
    by_name true is = asc
    by_name false is = put_ascends dbs db asc is

folded_ascends : (dbs more : List Found) → ascends (map name_of dbs) ≡ true → ascends (map name_of (fold with_found dbs more)) ≡ true
folded_ascends dbs [] asc = asc
folded_ascends dbs (db ∷ more) asc = folded_ascends (with_found dbs db) more (with_ascends dbs db asc)

one_ascends : (fields : List Metadata) → length fields ≤ 1 → ascends (map name_of (map only_found fields)) ≡ true
one_ascends [] one = refl
one_ascends (first ∷ []) one = refl
one_ascends (first ∷ (second ∷ others)) one = absurd (omega (arith, one))

pub names_ascend : NamesAscend
unfolding found
names_ascend reading = by_queue (queue_in reading)
  where
    file : File
    file = file_in reading

    by_alone : (b : Bool) → ascends (map name_of (cond b (map only_found (tree_fields (page_at file 0)))
        (fold with_found [] (named_above file ++ unnamed_above file)))) ≡ true
    by_alone true = one_ascends (tree_fields (page_at file 0)) (one_field (page_at file 0))
    by_alone false = folded_ascends [] (named_above file ++ unnamed_above file) refl

    by_queue : (queue : Option QueueMeta) → ascends (map name_of (found_beside file queue)) ≡ true
    by_queue (Some meta) = refl
    by_queue None = by_alone (is_alone (page_at file 0))
