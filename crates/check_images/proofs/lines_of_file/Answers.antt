use Rattle.std.proofs.Common.{◌∙◌, ap}
use Rattle.bdb_tool.specs.of_any_order.declared.rows.Rows.TheVariants.{All, AnyOrder}
use Rattle.check_images.specs.Lines.{verdict_on}
use Rattle.check_images.proofs.LineLemmas.{lines_on_read}
use Rattle.check_images.proofs.lines_of_file.Goals as goal

pub returns-in_ok-in_any_order-in-Ok : goal.returns-in_ok-in_any_order-in-Ok
returns-in_ok-in_any_order-in-Ok g c =
    lines_on_read c.args.name.now c.in-Ok.image.items _ _ c.lines_on.result
    (c.as_slice-in-Ok-2.ensures ∙ (c.in_ok-told-in-Ok.ensures ∙ ap (verdict_on All) c.as_slice.ensures.value))
    (c.as_slice-in-Ok-3.ensures ∙ (c.in_ok-in_any_order-in-Ok.ensures ∙ ap (verdict_on AnyOrder) c.as_slice-in-Ok.ensures.value))
    c.lines_on.ensures
