use Rattle.std.proofs.Common.{◌≡◌, take, fold}
use Rattle.test_images.specs.Fields.{field_put}
use Rattle.test_images.proofs.field.write.Given as goal

-- The fields that were passed are written.
abbrev pub invariant-loop-field : goal.invariant-loop-field
invariant-loop-field l = l.bytes ≡ fold (field_put l.order) l.fn.bytes (take l.field-index l.fields)
