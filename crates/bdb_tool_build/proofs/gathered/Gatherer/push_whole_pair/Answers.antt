use Rattle.std.proofs.Common.{◌≡◌, ◌∙◌, List, ℕ, ap, subst, sym}
use Rattle.bdb_file.specs.of_buckets.Views.{IsPair}
use Rattle.bdb_model.specs.of_format.Terms.{data_of, file_of}
use Rattle.bdb_ranks.specs.of_layout.Seen.{hash_content_seen}
use Rattle.bdb_ranks.specs.of_overflow.Held.{FitsHeld, value_held}
use Rattle.bdb_tool_build.specs.Gathered.{Adds, HasKey}
use Rattle.bdb_tool_build.proofs.GatheredLemmas.{told_given}
use Rattle.bdb_tool_build.proofs.gathered.Gatherer.push_whole_pair.Goals as goal

pub put_key-requires : goal.put_key-requires
put_key-requires c = subst (λ (i : List ℕ). FitsHeld (file_of i) c.held_key-held.result) c.requires c.held_key-held.ensures.fits

pub push_item-requires-clause-pair : goal.push_item-requires-clause-pair
push_item-requires-clause-pair c =
    subst (λ content. IsPair c.put_key.new.self.image content) (sym c.into_item-item.ensures.item)
    (subst (λ (i : List ℕ). IsPair i c.args.pair.pair.data_item) (c.requires ∙ sym c.put_key.ensures.grows.image) c.into_item-item.ensures.pair)

pub returns-clause-pairs : goal.returns-clause-pairs
returns-clause-pairs c =
    let same : c.args.pair.image ≡ c.put_key.new.self.image = c.requires ∙ sym c.put_key.ensures.grows.image in
    told_given c.args.self.now c.put_key.new.self c.push_item.new.self c.in_ok-key.key c.args.pair c.requires c.put_key.ensures.grows
    (subst (λ bytes. HasKey c.put_key.new.self bytes c.in_ok-key.key)
    (ap (λ (i : List ℕ). value_held (file_of i) c.held_key-held.result) (sym c.requires) ∙ c.held_key-held.ensures.value) c.in_ok-key.ensures.ok)
    (subst (λ content. Adds c.put_key.new.self c.push_item.new.self c.in_ok-key.key (data_of (file_of c.args.pair.image) content)) c.into_item-item.ensures.item
    (subst (λ (i : List ℕ). Adds c.put_key.new.self c.push_item.new.self c.in_ok-key.key (data_of (file_of i) (hash_content_seen c.into_item-item.result)))
    (sym same) c.in_ok-push_item.ensures)) c.into_item-item.ensures.listed
