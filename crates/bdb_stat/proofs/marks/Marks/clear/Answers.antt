use Rattle.std.proofs.Common.{◌≡◌, ◌∙◌, ap, arith, get_or, length}
use Rattle.std.specs.Vec.{with_items}
use Rattle.std.proofs.lemmas.List.{with_items_is}
use Rattle.bdb_stat.specs.Marked.{marks_of}
use Rattle.bdb_stat.proofs.MarkLemmas.{all_clear, marks_long}
use Rattle.bdb_stat.proofs.marks.Marks.clear.Goals as goal

pub returns-clause-each : goal.returns-clause-each
returns-clause-each c k low =
    let long : length c.zero.new.words ≡ c.self.inside.words.len = omega (arith, c.zero.ensures.same, c.as_mut_slice.ensures.len) in
    let items : (with_items c.self.inside.words c.zero.new.words).items ≡ c.zero.new.words = with_items_is c.self.inside.words c.zero.new.words long in
    ap (λ words. get_or (marks_of words) k 0) items
    ∙ all_clear c.zero.new.words (λ j lt. c.zero.ensures.each j (omega (arith, c.zero.ensures.same, lt))) k
    (omega (arith, ap length c.self.view_is, marks_long c.self.inside.words.items, c.self.inside.words.ok.0, marks_long c.zero.new.words, long, low))
