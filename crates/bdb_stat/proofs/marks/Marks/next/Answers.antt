use Rattle.std.proofs.Common.{◌∙◌, ◌*◌, ◌+◌, ◌/◌, ap, arith, length, subst, MatchOption}
use Rattle.bdb_stat.specs.Starts.{IsNext, NoStart}
use Rattle.bdb_stat.specs.Marked.{marks_of}
use Rattle.bdb_stat.proofs.MarkLemmas.{marks_long, next_behind, next_of_word, none_behind, none_of_word}
use Rattle.bdb_stat.proofs.marks.Marks.next.Goals as goal

pub returns-then-number-words : goal.returns-then-number-words
returns-then-number-words c =
    subst (λ marks. NoStart marks c.args.from (length marks)) c.self.view_is
    (none_behind c.self.inside.words.items c.args.from
    (omega (arith, c.if-number-words.true, c.as_slice-words.ensures.len, c.self.inside.words.ok.0)))

pub bounds-words-number : goal.bounds-words-number
bounds-words-number c =
    omega (
      arith,
      c.if-number-words.false,
      c.requires,
      ap length c.self.view_is,
      marks_long c.self.inside.words.items,
      c.as_slice-words.ensures.len,
      c.self.inside.words.ok.0,
    )

pub returns-then-word-ne0 : goal.returns-then-word-ne0
returns-then-word-ne0 c =
    subst (λ marks. IsNext marks c.args.from (64 * (c.args.from / 64) + c.first_bit.result)) (ap marks_of c.as_slice-words.ensures.value ∙ c.self.view_is)
    (next_of_word c.as_slice-words.result.now c.args.from c.bits_from-word.result c.first_bit.result
    (omega (
      arith,
      c.if-number-words.false,
      c.requires,
      ap length c.self.view_is,
      marks_long c.self.inside.words.items,
      c.as_slice-words.ensures.len,
      c.self.inside.words.ok.0,
    ))
    c.bits_from-word.ensures.low c.bits_from-word.ensures.high c.first_bit.ensures)

pub returns : goal.returns
returns c =
    subst (λ marks. MatchOption c.first_from.result (NoStart marks c.args.from (length marks)) (IsNext marks c.args.from))
    (ap marks_of c.as_slice-words.ensures.value ∙ c.self.view_is)
    (next_behind c.as_slice-words.result.now c.args.from c.first_from.result (omega arith)
    (none_of_word c.as_slice-words.result.now c.args.from c.bits_from-word.result
    (omega (
      arith,
      c.if-number-words.false,
      c.requires,
      ap length c.self.view_is,
      marks_long c.self.inside.words.items,
      c.as_slice-words.ensures.len,
      c.self.inside.words.ok.0,
    ))
    c.bits_from-word.ensures.high c.if-word-ne0.false)
    c.first_from.ensures)
