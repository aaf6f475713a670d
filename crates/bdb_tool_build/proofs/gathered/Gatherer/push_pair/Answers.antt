use Rattle.std.proofs.Common.{◌≡◌, ◌∙◌, List, ℕ, ap, subst, sym}
use Rattle.bdb_model.specs.of_format.Terms.{file_of, value_of}
use Rattle.bdb_ranks.specs.of_form.Pairs.{pair_seen as view_seen}
use Rattle.bdb_ranks.specs.of_layout.Seen.{leaf_item_seen}
use Rattle.bdb_ranks.specs.of_overflow.Datum.{FitsContent}
use Rattle.bdb_ranks.specs.of_overflow.Held.{value_held}
use Rattle.bdb_tool_build.specs.Gathered.{HasKey}
use Rattle.bdb_tool_build.proofs.GatheredLemmas.{deleted_given, pair_enough}
use Rattle.bdb_tool_build.proofs.gathered.Gatherer.push_pair.Goals as goal

pub returns-then-is_deleted-clause-pairs : goal.returns-then-is_deleted-clause-pairs
returns-then-is_deleted-clause-pairs c =
    deleted_given c.args.beside.now (file_of c.args.self.now.image) c.args.self.now.gathered.pairs c.key_of.new.self.gathered.pairs
    (view_seen leaf_item_seen c.args.pair.now) c.key_of.ensures.grows.pairs (sym c.is_deleted.ensures ∙ c.if-is_deleted.true)

pub push_data_beside-requires-clause-held : goal.push_data_beside-requires-clause-held
push_data_beside-requires-clause-held c =
    c.leaf_held-held.ensures.fits (file_of c.key_of.new.self.image)
    (subst (λ (i : List ℕ). FitsContent (file_of i) (leaf_item_seen c.args.pair.now.key).content) (sym c.key_of.ensures.grows.image) c.requires.fits)

pub push_data_beside-requires-clause-has : goal.push_data_beside-requires-clause-has
push_data_beside-requires-clause-has c =
    let content = (leaf_item_seen c.args.pair.now.key).content in
    let same : value_held (file_of c.key_of.new.self.image) c.leaf_held-held.result ≡ value_of (file_of c.args.self.now.image) content =
    c.leaf_held-held.ensures.value (file_of c.key_of.new.self.image) ∙ ap (λ (i : List ℕ). value_of (file_of i) content) c.key_of.ensures.grows.image in
    subst (λ bytes. HasKey c.key_of.new.self bytes c.in_ok-key.key) (sym same) c.in_ok-key.ensures.ok

pub returns-clause-pairs : goal.returns-clause-pairs
returns-clause-pairs c =
    let content = (leaf_item_seen c.args.pair.now.key).content in
    let same : value_held (file_of c.key_of.new.self.image) c.leaf_held-held.result ≡ value_of (file_of c.args.self.now.image) content =
    c.leaf_held-held.ensures.value (file_of c.key_of.new.self.image) ∙ ap (λ (i : List ℕ). value_of (file_of i) content) c.key_of.ensures.grows.image in
    pair_enough c.args.beside.now c.args.self.now c.key_of.new.self c.push_data_beside.new.self.gathered.pairs
    (value_held (file_of c.key_of.new.self.image) c.leaf_held-held.result) (view_seen leaf_item_seen c.args.pair.now)
    (sym c.is_deleted.ensures ∙ c.if-is_deleted.false) c.key_of.ensures.grows same c.in_ok-push_data_beside.ensures.pairs

pub returns-clause-key : goal.returns-clause-key
returns-clause-key c =
    let content = (leaf_item_seen c.args.pair.now.key).content in
    let same : value_held (file_of c.key_of.new.self.image) c.leaf_held-held.result ≡ value_of (file_of c.args.self.now.image) content =
    c.leaf_held-held.ensures.value (file_of c.key_of.new.self.image) ∙ ap (λ (i : List ℕ). value_of (file_of i) content) c.key_of.ensures.grows.image in
    subst (λ bytes. HasKey c.push_data_beside.new.self bytes c.in_ok-key.key) same c.in_ok-push_data_beside.ensures.key
