-- The lines on a file.
use Rattle.std.proofs.Common.{◌≡◌, ◌∙◌, ◌++◌, ℕ, List, ap, inl, inr, Result, Ok, Err, IfOk}
use Rattle.bdb_tool.specs.of_text_format.Terms.{line}
use Rattle.bdb_tool.specs.of_any_order.declared.rows.Rows.TheVariants.{All, AnyOrder}
use Rattle.check_images.specs.Lines.{AreLinesOnFile, lines_on, unreadable, verdict_on}

-- one that can't be read
pub lines_on_unreadable : {E : Type 0} (name : List ℕ) (result : Result (List ℕ) E) → IfOk result (λ text. text ≡ line name ++ unreadable)
    → IfOk result (AreLinesOnFile name)
lines_on_unreadable name (Ok text) is = inr is
lines_on_unreadable name (Err error) is = tt

-- one that can be, whose verdicts these are
pub lines_on_read : {E : Type 0} (name image told in_any_order : List ℕ) (result : Result (List ℕ) E) → told ≡ verdict_on All image
    → in_any_order ≡ verdict_on AnyOrder image → IfOk result (λ text. text ≡ lines_on name told in_any_order) → IfOk result (AreLinesOnFile name)
lines_on_read name image told in_any_order (Ok text) told_is order_is is =
    inl (image, is ∙ (ap (λ t. lines_on name t in_any_order) told_is ∙ ap (lines_on name (verdict_on All image)) order_is))
lines_on_read name image told in_any_order (Err error) told_is order_is is = tt
