use Rattle.std.proofs.Common.{◌∙◌, ◌<◌, ap, arith, length, sym}
use Rattle.bdb_law_turned.specs.of_format.Terms.{body_code, page_as}
use Rattle.bdb_stat.specs.Unused.{unused_in}
use Rattle.bdb_law_turned.proofs.of_image.FormedLemmas.{accepted_paged}
use Rattle.bdb_stat.proofs.PageLemmas.{accepted_as, formed_at, nothing_above, some_on, zero_on}
use Rattle.bdb_stat.proofs.unused.unused_on.Goals as goal

pub returns-then-number-head-clause-unused : goal.returns-then-number-head-clause-unused
returns-then-number-head-clause-unused c = nothing_above c.args.image.now c.args.head.now c.args.number c.requires.head c.if-number-head.true

pub page_bytes-page-requires-clause-head : goal.page_bytes-page-requires-clause-head
page_bytes-page-requires-clause-head c = accepted_as c.args.image.now c.args.head.now c.requires.forest c.requires.head

pub page_bytes-page-requires-clause-there : goal.page_bytes-page-requires-clause-there
page_bytes-page-requires-clause-there c =
    let last : c.args.head.now.last < c.args.head.now.pages =
    (accepted_paged c.args.image.now c.args.head.now (accepted_as c.args.image.now c.args.head.now c.requires.forest c.requires.head)).last in
    omega (arith, c.if-number-head.false)

pub returns-then-is_zero-clause-unused : goal.returns-then-is_zero-clause-unused
returns-then-is_zero-clause-unused c =
    zero_on c.args.image.now c.args.head.now c.args.number c.page_bytes-page.result.now c.requires.head (omega (arith, c.if-number-head.false))
    c.page_bytes-page.ensures.bytes
    (sym c.is_zero.ensures ∙ c.if-is_zero.true)

pub typed_unused-requires-clause-long : goal.typed_unused-requires-clause-long
typed_unused-requires-clause-long c =
    let least = (accepted_paged c.args.image.now c.args.head.now (accepted_as c.args.image.now c.args.head.now c.requires.forest c.requires.head)).least in
    omega (arith, least, c.page_bytes-page.ensures.size)

pub typed_unused-requires-clause-code : goal.typed_unused-requires-clause-code
typed_unused-requires-clause-code c =
    ap (body_code c.args.head.now.order c.page_bytes-page.result.now) c.page_type.ensures
    ∙ formed_at c.args.image.now c.args.head.now c.args.number c.page_bytes-page.result.now c.requires.forest c.requires.head
    (omega (arith, c.if-number-head.false)) c.page_bytes-page.ensures.bytes (sym c.is_zero.ensures ∙ c.if-is_zero.false)

pub returns-clause-unused : goal.returns-clause-unused
returns-clause-unused c =
    c.typed_unused.ensures.unused
    ∙ ap (λ t. unused_in (length c.page_bytes-page.result.now) (page_as c.args.head.now.order c.page_bytes-page.result.now t)) c.page_type.ensures
    ∙ some_on c.args.image.now c.args.head.now c.args.number c.page_bytes-page.result.now c.requires.head (omega (arith, c.if-number-head.false))
    c.page_bytes-page.ensures.bytes c.page_bytes-page.ensures.size (sym c.is_zero.ensures ∙ c.if-is_zero.false)
