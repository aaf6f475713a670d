use Rattle.std.proofs.Common.{◌≡◌, false, None, sym, ap, ◌∙◌, List, arith}
use Rattle.bdb_spelling.specs.of_text_format.Terms.{entry_of, entry_reason, is_header_end, text_lines}
use Rattle.bdb_text.specs.Fields.{entries_in, entry_in}
use Rattle.bdb_text.specs.declared.fields.Field.{Field}
use Rattle.bdb_text.proofs.HeaderReadLemmas.{header_more, pushed}
use Rattle.bdb_text.proofs.headers.read_header.Goals as goal

pub loop-rest-preserved : goal.loop-rest-preserved
loop-rest-preserved c =
    let line = c.cut_line-cut.result.line.now in
    let other : is_header_end line ≡ false = sym c.is_header_end.ensures ∙ c.if-is_header_end.false in
    let none : entry_reason (entries_in c.loop-rest.fields.items) (entry_of line) ≡ None =
    ap (λ (fields : List Field). entry_reason (entries_in fields) (entry_of line)) (sym c.deref.ensures.value) ∙ c.in-Ok.ensures.none in
    let fields = pushed c.push.result c.push.new.self.items c.loop-rest.fields.items c.in-Ok.field c.push.ensures.items c.if-is_err.ensures.value in
    let more = header_more (text_lines c.args.text.now) c.args.start (entries_in c.loop-rest.fields.items) line (text_lines c.loop-rest.rest.now)
    (text_lines c.cut_line-cut.result.rest.now) c.loop-rest.number
    (entry_in c.in-Ok.field) c.loop-rest.invariant.to c.cut_line-cut.ensures.lines other c.in-Ok.ensures.ok none in
    record { to = rw fields more; room = omega (arith, c.loop-rest.invariant.room, c.cut_line-cut.ensures.shorter) }
