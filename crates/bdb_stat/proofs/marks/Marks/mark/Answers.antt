use Rattle.std.proofs.Common.{◌≡◌, ◌∙◌, ◌/◌, ap, arith, cond, get_or, length, ◌==◌}
use Rattle.std.specs.Int.{bit_at}
use Rattle.std.specs.Vec.{with_items}
use Rattle.std.proofs.lemmas.List.{with_items_is}
use Rattle.bdb_stat.specs.Marked.{marks_of}
use Rattle.bdb_stat.proofs.MarkLemmas.{marks_long, one_marked, word_is}
use Rattle.bdb_stat.proofs.marks.Marks.mark.Goals as goal

pub index-requires : goal.index-requires
index-requires c = omega (arith, c.requires, ap length c.self.view_is, marks_long c.self.inside.words.items, c.self.inside.words.ok.0)

pub put-requires : goal.put-requires
put-requires c =
    omega (arith, c.requires, ap length c.self.view_is, marks_long c.self.inside.words.items, c.self.inside.words.ok.0, c.as_mut_slice.ensures.len)

pub returns-clause-each : goal.returns-clause-each
returns-clause-each c k low =
    let long : length c.put.new.words ≡ c.self.inside.words.len = omega (arith, c.put.ensures.same, c.as_mut_slice.ensures.len) in
    let items : (with_items c.self.inside.words c.put.new.words).items ≡ c.put.new.words = with_items_is c.self.inside.words c.put.new.words long in
    let room : length (marks_of c.self.inside.words.items) ≡ length c.args.self.now = ap length c.self.view_is in
    ap (λ words. get_or (marks_of words) k 0) items
    ∙ (one_marked c.self.inside.words.items c.put.new.words c.args.place c.with_bit-word.result (omega (arith, room, c.requires))
    (omega (arith, long, c.self.inside.words.ok.0))
    (λ j lt.
    c.put.ensures.each j (omega (arith, c.as_mut_slice.ensures.len, c.self.inside.words.ok.0, lt))
    ∙ ap (λ words. cond (c.args.place / 64 == j) c.with_bit-word.result (get_or words j 0)) c.as_mut_slice.ensures.value)
    c.with_bit-word.ensures.set
    (λ i other. c.with_bit-word.ensures.others i other ∙ ap (λ word. bit_at word i)
    (word_is c.self.inside.words.items (c.args.place / 64) c.index.result.now (omega (arith, room, c.requires, marks_long c.self.inside.words.items))
    c.index.ensures)) k (omega (arith, room, low))
    ∙ ap (λ marks. cond (c.args.place == k) 1 (get_or marks k 0)) c.self.view_is)
