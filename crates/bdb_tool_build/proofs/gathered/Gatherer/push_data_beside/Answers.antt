use Rattle.std.proofs.Common.{◌++◌, ◌∙◌, ap, refl, subst}
use Rattle.bdb_model.specs.of_format.Terms.{data_of, file_of}
use Rattle.bdb_ranks.specs.of_layout.Seen.{leaf_item_seen}
use Rattle.bdb_ranks.specs.of_overflow.Held.{value_held}
use Rattle.bdb_text_format.specs.declared.pairs.Key.TheVariants.{Bytes}
use Rattle.bdb_tool_build.specs.Gathered.{Adds, ImageInHand, with_key}
use Rattle.bdb_tool_build.proofs.EnoughLemmas.{adds_all, adds_none_of}
use Rattle.bdb_tool_build.proofs.gathered.Gatherer.push_data_beside.Goals as goal

pub returns-then-replaced-clause-pairs : goal.returns-then-replaced-clause-pairs
returns-then-replaced-clause-pairs c =
    let file = file_of c.args.self.now.image in
    let key = Bytes (value_held file c.args.held) in
    let values = data_of file (leaf_item_seen c.args.item.now).content in
    adds_none_of c.args.beside.now c.args.self.now.gathered.pairs c.is_replaced.new.self.gathered.pairs (with_key key values) key values
    (ap (λ (it : ImageInHand). it.gathered.pairs) c.is_replaced.ensures.same) refl (c.in_ok-replaced.ensures.ok c.if-replaced.true)

pub returns-clause-pairs : goal.returns-clause-pairs
returns-clause-pairs c =
    let old = c.args.self.now in
    let file = file_of old.image in
    let bytes = value_held file c.args.held in
    let values = data_of file (leaf_item_seen c.args.item.now).content in
    let adds : Adds old c.push_data.new.self c.args.key values =
    subst (λ (it : ImageInHand). Adds it c.push_data.new.self c.args.key (data_of (file_of it.image) (leaf_item_seen c.args.item.now).content))
    c.is_replaced.ensures.same c.in_ok-push_data.ensures in
    adds_all c.args.beside.now old.gathered.pairs c.push_data.new.self.gathered.pairs (with_key (Bytes bytes) values)
    (adds.pairs ∙ ap (λ k. old.gathered.pairs ++ with_key k values) c.requires.has.same)

pub returns-clause-key : goal.returns-clause-key
returns-clause-key c =
    let old = c.args.self.now in
    let adds : Adds old c.push_data.new.self c.args.key (data_of (file_of old.image) (leaf_item_seen c.args.item.now).content) =
    subst (λ (it : ImageInHand). Adds it c.push_data.new.self c.args.key (data_of (file_of it.image) (leaf_item_seen c.args.item.now).content))
    c.is_replaced.ensures.same c.in_ok-push_data.ensures in
    record { placed = adds.placed; same = adds.same ∙ c.requires.has.same }
