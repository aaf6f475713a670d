use Rattle.std.proofs.Common.{◌-◌, ◌++◌, ℕ, List, length, slice_set, ap, ◌∙◌, refl, arith}
use Rattle.bdb_layout.specs.of_format.Terms.{zeros}
use Rattle.bdb_meta.proofs.CommonLemmas.{common_pieces}
use Rattle.bdb_meta.proofs.FilledLemmas.{filled_none, filled_zeros, filled_number, filled_byte}
use Rattle.bdb_meta.proofs.generic.put_generic.Goals as goal

-- The page is filled field after field.
pub returns : goal.returns
returns c =
    let order = c.args.order in
    let lsn = filled_number order 1 8 (filled_zeros 4 (filled_none c.args.page.now c.requires.zero) (omega arith)) c.put_u32.ensures refl (omega arith) in
    let number = filled_number order c.args.fields.number 12 lsn c.put_u32-2.ensures refl (omega arith) in
    let magic = filled_number order c.magic_of.result 16 number c.put_u32-3.ensures refl (omega arith) in
    let version = filled_number order c.version_of.result 20 magic c.put_u32-4.ensures refl (omega arith) in
    let size = filled_number order (length c.args.page.now) 24 version c.put_u32-5.ensures refl (omega arith) in
    let kind = filled_byte {new = slice_set c.put_u32-5.new.bytes 25 c.type_of.result} c.type_of.result (filled_zeros 1 size (omega arith)) refl (omega arith)
    in
    let free = filled_number order c.args.fields.free 32 (filled_zeros 2 kind (omega arith)) c.put_u32-6.ensures refl (omega arith) in
    let last = filled_number order c.last_field.result 36 free c.put_u32-7.ensures refl (omega arith) in
    let flags = filled_number order c.args.fields.flags 52 (filled_zeros 12 last (omega arith)) c.put_u32-8.ensures refl (omega arith) in
    let all = filled_zeros 20 flags (omega arith) in
    rw (← c.last_field.ensures) (all.is ∙ rw (c.magic_of.ensures, c.version_of.ensures, c.type_of.ensures)
    (ap (λ (bytes : List ℕ). bytes ++ zeros (length c.args.page.now - 72))
    (common_pieces order c.args.fields.kind (length c.args.page.now) c.args.fields.number c.args.fields.free c.last_field.result c.args.fields.flags)))
