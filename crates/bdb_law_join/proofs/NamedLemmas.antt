-- The databases that a master names.
use Rattle.std.proofs.Common.{◌≡◌, List, [], ◌∷◌, ◌++◌, map, Some, refl, sym, ◌∙◌, ap, subst}
use Rattle.std.specs.List.{AllZip, Contains, flat_map}
use Rattle.bdb_graph.specs.of_format.declared.metadata.BtreeMeta.{BtreeMeta}
use Rattle.bdb_graph.specs.of_format.Terms.{Database, File, StoredPair, database_on, databases, databases_under, fields_in, file_of, master_in, master_pairs}
use Rattle.bdb_graph.specs.of_format.Terms.{named_database, page_at}
use Rattle.bdb_graph.proofs.of_format.MemberLemmas.{first_member, later_member}
use Rattle.bdb_law_join.specs.Joining.{AreJoined, Joint}
use Rattle.bdb_law_join.specs.Masters.{IsDatabase, JoinsAll}
use Rattle.bdb_law_join.proofs.JoinLemmas.{joins_under_master}
use Rattle.bdb_law_join.proofs.MasterLemmas.{Names, entries_are, entry_of, master_is, master_none, named_is, pair_names}
use Rattle.bdb_law_join.proofs.SourceLemmas.{page_of_meta}

-- a pair that names a metadata page gives one database
one_database : (file : File) (joints : List Joint) (pair : StoredPair) → AreJoined file joints → Names file joints pair
    → (database : Database) × (named_database file pair ≡ database ∷ []) × IsDatabase joints (entry_of file pair) database
one_database file joints pair all (p, names, above, (j, member, meta)) =
    let database : Database = record { name = Some pair.key; fields = j.part.fields } in (
      database,
      ap (database_on file (Some pair.key)) names
          ∙ ap (λ q. map (λ fields. let d : Database = record { name = Some pair.key; fields = fields } in d) (fields_in q))
          (page_of_meta file joints j p all member meta),
      record {
        joint = j;
        at = member;
        key = pair.key;
        keyed = refl;
        name = refl;
        names = sym (named_is file pair.data_item) ∙ (names ∙ ap (λ n. Some n) (sym meta));
        fields = refl;
      },
    )

all_databases : (file : File) (joints : List Joint) (pairs : List StoredPair) → AreJoined file joints
    → ((pair : StoredPair) → Contains pairs pair → Names file joints pair)
    → AllZip (IsDatabase joints) (map (entry_of file) pairs) (flat_map (named_database file) pairs)
all_databases file joints [] all names = tt
all_databases file joints (pair ∷ pairs) all names =
    let one = one_database file joints pair all (names pair (first_member pair pairs)) in
    let rest = all_databases file joints pairs all (λ x at. names x (later_member pair pairs x at)) in
    subst (λ ds. AllZip (IsDatabase joints) (entry_of file pair ∷ map (entry_of file) pairs) (ds ++ flat_map (named_database file) pairs)) (sym one.1)
    (one.2, rest)

named_ones : (file : File) (meta : BtreeMeta) → master_in (page_at file 0) ≡ Some meta
    → databases file ≡ flat_map (named_database file) (master_pairs file)
unfolding databases
named_ones file meta is = ap (databases_under file) is

pub joins_all : JoinsAll
joins_all image joints meta entries is under =
    let file : File = file_of image in
    record {
      holds = joins_under_master image joints is (master_none image joints meta entries is under);
      named =
          subst (AllZip (IsDatabase joints) entries) (sym (named_ones file meta (master_is file meta under.is under.master)))
          (subst (λ es. AllZip (IsDatabase joints) es (flat_map (named_database file) (master_pairs file)))
          (sym (entries_are image joints meta entries is under))
          (all_databases file joints (master_pairs file) is.joined (λ pair at. pair_names image joints meta entries pair is under at)));
    }
