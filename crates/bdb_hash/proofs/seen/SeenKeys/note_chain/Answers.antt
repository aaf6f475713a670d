use Rattle.std.proofs.Common.{◌≡◌, true, ap, subst, sym, ◌∙◌}
use Rattle.bdb_ranks.specs.of_format.Terms.{fault_at}
use Rattle.bdb_ranks.specs.of_format.declared.rows.ContentsRow.TheVariants.{KeyTwice}
use Rattle.bdb_ranks.specs.of_format.declared.rows.Row.TheVariants.{Contents}
use Rattle.bdb_ranks.specs.of_overflow.Keys.{has_key}
use Rattle.bdb_buckets.specs.Chained.{Seen, chain_value}
use Rattle.bdb_buckets.proofs.ChainedLemmas.{among_inserted}
use Rattle.bdb_hash.proofs.ChainedLemmas.{seen_noting}
use Rattle.bdb_hash.proofs.seen.SeenKeys.note_chain.Goals as goal

-- A chain that was seen repeats its key.
pub returns-then-contains-clause-noted : goal.returns-then-contains-clause-noted
returns-then-contains-clause-noted g c =
    let seen : Seen = c.args.self.now in
    let here : has_key c.self.inside.keys (chain_value c.self.inside.forest c.args.head)
    ≡ true = c.self.invariant.each c.args.head (sym c.contains.ensures ∙ c.if-contains.true) in
    let there : has_key seen.keys (chain_value seen.image c.args.head) ≡ true = subst (λ (s : Seen). has_key s.keys (chain_value s.image c.args.head) ≡ true)
    c.self.view_is here in
    let key : c.args.pair.now.pair.key ≡ chain_value seen.image c.args.head = c.requires.head ∙ ap (λ image. chain_value image c.args.head) c.requires.pair in
    seen_noting c.note.result seen.keys (g.F.FaultSink.has_noted c.args.found.now) (g.F.FaultSink.has_noted c.note.new.self) c.args.pair.now
    (fault_at (Contents KeyTwice) c.page.result) (ap (has_key seen.keys) key ∙ there) (ap (λ page. fault_at (Contents KeyTwice) page) c.page.ensures)
    c.note.ensures.noted

-- The key is among those seen now.
pub invariant_of-self-2 : goal.invariant_of-self-2
invariant_of-self-2 g c =
    let now : Seen = record { image = c.self-2.inside.forest; keys = c.self-2.inside.keys } in
    let is : now ≡ c.note_next.new.self = c.self-2.view_is in
    let has : has_key now.keys c.args.pair.now.pair.key ≡ true = ap (λ (s : Seen). has_key s.keys c.args.pair.now.pair.key) is
    ∙ c.in_ok-note_next.ensures.has in
    let image : c.args.pair.now.image ≡ now.image = c.requires.pair ∙ (sym c.note_next.ensures.same ∙ sym (ap (λ (s : Seen). s.image) is)) in
    let key : c.args.pair.now.pair.key ≡ chain_value now.image c.args.head = c.requires.head ∙ ap (λ image. chain_value image c.args.head) image in
    among_inserted c.insert.result now c.self-2.inside.heads c.insert.new.self c.args.head c.self-2.invariant (ap (has_key now.keys) (sym key) ∙ has)
    c.insert.ensures.updates c.insert.ensures.err
