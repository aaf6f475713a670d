use Rattle.std.proofs.Common.{◌≡◌, ◌∙◌, ap, arith, subst, true, false, List, ℕ}
use Rattle.bdb_io.specs.of_format.Terms.{body_code, byte_at, is_zero, page_as, page_type}
use Rattle.bdb_law_turned.specs.Fields.{fields_of}
use Rattle.bdb_swap.specs.Turns.{Turns}
use Rattle.bdb_law_turned.proofs.PageLemmas.{body_passed, zero_page_turns}
use Rattle.bdb_swap.proofs.TypedLemmas.{page_turns}
use Rattle.bdb_swap.proofs.page.turn_page.Goals as goal

pub turn_typed-requires-clause-code : goal.turn_typed-requires-clause-code
turn_typed-requires-clause-code c =
    let some : is_zero c.args.source.now ≡ false = grind (arith, c.is_zero.ensures, c.if-not-is_zero.true) in
    ap (body_code c.args.head.now.order c.args.source.now) c.page_type.ensures
    ∙ body_passed c.args.head.now c.args.number c.args.source.now (c.requires.form some) some

pub returns-then-not-is_zero : goal.returns-then-not-is_zero
returns-then-not-is_zero c =
    let some : is_zero c.args.source.now ≡ false = grind (arith, c.is_zero.ensures, c.if-not-is_zero.true) in
    page_turns c.args.head.now c.args.number c.args.source.now c.turn_typed.new.page c.requires.size (c.requires.form some) c.requires.apart some
    (subst (λ (old : List ℕ). Turns c.args.source.now (fields_of (page_as c.args.head.now.order c.args.source.now (page_type (byte_at c.args.source.now 25))))
    old c.turn_typed.new.page)
    c.requires.copied
    (subst (λ t. Turns c.args.source.now (fields_of (page_as c.args.head.now.order c.args.source.now t)) c.args.page.now c.turn_typed.new.page)
    c.page_type.ensures c.turn_typed.ensures))

-- A zero page stays.
pub returns-else-not-is_zero : goal.returns-else-not-is_zero
returns-else-not-is_zero c =
    let zeros : is_zero c.args.source.now ≡ true = grind (arith, c.is_zero.ensures, c.if-not-is_zero.false) in
    c.requires.copied ∙ zero_page_turns c.args.head.now c.args.source.now zeros
