use Rattle.std.proofs.Common.{◌≡◌, true, not, ap, subst, sym, ◌∙◌, ◌||◌}
use Rattle.bdb_master.proofs.RepeatLemmas.{added_again}
use Rattle.bdb_format.specs.Terms.{file_of}
use Rattle.bdb_format.proofs.LessLemmas.{eq_self}
use Rattle.bdb_buckets.specs.Chained.{Seen}
use Rattle.bdb_buckets.proofs.ChainedLemmas.{among_inserted}
use Rattle.bdb_overflow.specs.Datum.{datum_seen}
use Rattle.bdb_overflow.specs.Held.{chain_value}
use Rattle.bdb_overflow.specs.Keys.{has_key}
use Rattle.bdb_master.proofs.seen_names.SeenNames.add_chain.Goals as goal

-- A chain that was seen is among the names.
pub returns-then-contains-clause-keys : goal.returns-then-contains-clause-keys
returns-then-contains-clause-keys c =
    added_again c.args.self.now.keys (chain_value (file_of c.args.self.now.image) c.args.head)
    (subst (λ (s : Seen). has_key s.keys (chain_value (file_of s.image) c.args.head) ≡ true) c.self.view_is
    (c.self.invariant.each c.args.head (sym c.contains.ensures ∙ c.if-contains.true)))

-- The name is among those seen now.
pub invariant_of-self-2 : goal.invariant_of-self-2
invariant_of-self-2 c =
    let now : Seen = record { image = c.self-2.inside.forest; keys = c.self-2.inside.keys } in
    let is : now ≡ c.add_value.new.self = c.self-2.view_is in
    let has : has_key now.keys (datum_seen c.datum-name.result) ≡ true =
    ap (λ (s : Seen). has_key s.keys (datum_seen c.datum-name.result)) is
    ∙ (c.in_ok-is_new.ensures.keys.each (datum_seen c.datum-name.result)
    ∙ ap (λ b. b || has_key c.args.self.now.keys (datum_seen c.datum-name.result)) (eq_self (datum_seen c.datum-name.result))) in
    let name : datum_seen c.datum-name.result ≡ chain_value (file_of now.image) c.args.head =
    c.datum-name.ensures
    ∙ (ap (λ (s : Seen). chain_value (file_of s.image) c.args.head) c.self.view_is
    ∙ (ap (λ image. chain_value (file_of image) c.args.head) (sym c.add_value.ensures.same)
    ∙ sym (ap (λ (s : Seen). chain_value (file_of s.image) c.args.head) is))) in
    among_inserted c.insert.result now c.self-2.inside.heads c.insert.new.self c.args.head c.self-2.invariant (ap (has_key now.keys) (sym name) ∙ has)
    c.insert.ensures.updates c.insert.ensures.err

pub returns-clause-added : goal.returns-clause-added
returns-clause-added c =
    c.in_ok-is_new.ensures.added
    ∙ ap (λ value. not (has_key c.args.self.now.keys value))
    (c.datum-name.ensures ∙ ap (λ (s : Seen). chain_value (file_of s.image) c.args.head) c.self.view_is)
