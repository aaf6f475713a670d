use Rattle.std.proofs.Common.{◌≡◌, ◌++◌, ◌∙◌, List, ℕ, ap, map, subst, sym}
use Rattle.bdb_file.specs.of_buckets.Told.{listed_told}
use Rattle.bdb_model.specs.of_format.Terms.{file_of}
use Rattle.bdb_onto.specs.Bases.{text_pair}
use Rattle.bdb_onto.specs.Replaced.{IsReplaced}
use Rattle.bdb_ranks.specs.of_overflow.Held.{FitsHeld, value_held}
use Rattle.bdb_text_format.specs.Terms.{slice_seen}
use Rattle.bdb_text_format.specs.declared.pairs.Key.TheVariants.{Bytes}
use Rattle.bdb_tool_build.specs.Gathered.{ImageInHand}
use Rattle.bdb_tool_build.proofs.EnoughLemmas.{adds_all, adds_none_stored}
use Rattle.bdb_tool_build.proofs.gathered.Gatherer.push_table_pair.Goals as goal

pub is_replaced-requires : goal.is_replaced-requires
is_replaced-requires c = subst (λ (i : List ℕ). FitsHeld (file_of i) c.held_key-held.result) c.requires c.held_key-held.ensures.fits

pub returns-then-replaced-clause-pairs : goal.returns-then-replaced-clause-pairs
returns-then-replaced-clause-pairs c =
    let key : value_held (file_of c.args.self.now.image) c.held_key-held.result ≡ c.args.pair.pair.key =
    ap (λ (i : List ℕ). value_held (file_of i) c.held_key-held.result) (sym c.requires) ∙ c.held_key-held.ensures.value in
    adds_none_stored c.args.beside.now c.args.self.now.gathered.pairs c.is_replaced.new.self.gathered.pairs (file_of c.args.pair.image) c.args.pair.pair
    (ap (λ (it : ImageInHand). it.gathered.pairs) c.is_replaced.ensures.same)
    (subst (λ bytes. IsReplaced c.args.beside.now.settings (slice_seen c.args.beside.now.pairs) (Bytes bytes)) key
    (c.in_ok-replaced.ensures.ok c.if-replaced.true))

pub push_whole_pair-requires : goal.push_whole_pair-requires
push_whole_pair-requires c = c.requires ∙ sym (ap (λ (it : ImageInHand). it.image) c.is_replaced.ensures.same)

pub returns-clause-pairs : goal.returns-clause-pairs
returns-clause-pairs c =
    adds_all c.args.beside.now c.args.self.now.gathered.pairs c.push_whole_pair.new.self.gathered.pairs (map text_pair (listed_told c.args.pair))
    (c.in_ok-push_whole_pair.ensures.pairs ∙ ap (λ (it : ImageInHand). it.gathered.pairs ++ map text_pair (listed_told c.args.pair)) c.is_replaced.ensures.same)
