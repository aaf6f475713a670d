use Rattle.std.proofs.Common.{◌∷◌, ◌++◌, ◌∙◌, [], ap, map, refl}
use Rattle.bdb_model.specs.of_format.Terms.{file_of, listed_entry}
use Rattle.bdb_onto.specs.Bases.{text_pair}
use Rattle.bdb_ranks.specs.of_layout.Seen.{leaf_item_seen}
use Rattle.bdb_ranks.specs.of_tree.Entries.{values_of}
use Rattle.bdb_text_format.specs.declared.pairs.Key.TheVariants.{Number}
use Rattle.bdb_tool_build.proofs.EnoughLemmas.{adds_all, adds_none_of}
use Rattle.bdb_tool_build.proofs.GatheredLemmas.{record_given}
use Rattle.bdb_tool_build.proofs.gathered.Gatherer.push_record.Goals as goal

pub returns-then-replaces-clause-pairs : goal.returns-then-replaces-clause-pairs
returns-then-replaces-clause-pairs c =
    let file = file_of c.args.self.now.image in
    let entry = leaf_item_seen c.args.entry.now in
    adds_none_of c.args.beside.now c.args.self.now.gathered.pairs c.args.self.now.gathered.pairs (map text_pair (listed_entry file (c.args.number, entry)))
    (Number c.args.number) (values_of file (entry ∷ [])) refl (record_given file c.args.number entry) (c.replaces.ensures c.if-replaces.true)

pub returns-clause-pairs : goal.returns-clause-pairs
returns-clause-pairs c =
    let file = file_of c.args.self.now.image in
    let entry = leaf_item_seen c.args.entry.now in
    adds_all c.args.beside.now c.args.self.now.gathered.pairs c.push_entry.new.self.gathered.pairs (map text_pair (listed_entry file (c.args.number, entry)))
    (c.in_ok-push_entry.ensures.pairs ∙ ap (λ more. c.args.self.now.gathered.pairs ++ more) (record_given file c.args.number entry))
