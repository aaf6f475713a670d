use Rattle.std.proofs.Common.{◌≡◌, ◌≤◌, ◌+◌, length, sym, ap, ◌∙◌, refl, arith}
use Rattle.bdb_layout.specs.of_format.declared.metadata.FileKind.TheVariants.{Hash}
use Rattle.bdb_layout.specs.of_format.Terms.{hash_fields, last_field, table_bytes}
use Rattle.bdb_meta.specs.ReadBack.{TableFits}
use Rattle.bdb_meta.proofs.CommonLemmas.{filled_common, page_size-least}
use Rattle.bdb_meta.proofs.FieldLemmas.{hash_fields-bytes, table_pieces}
use Rattle.bdb_meta.proofs.FilledLemmas.{filled_number, filled_piece}
use Rattle.bdb_meta.proofs.SparesLemmas.{length-spares, spares_bytes}
use Rattle.bdb_meta.proofs.table.put_hash_meta.Goals as goal

-- The page is filled field after field.
pub returns : goal.returns
returns c =
    let order = c.args.order in
    let meta = c.args.meta.now in
    let size = length c.args.page.now in
    let room : 512 ≤ size = page_size-least size c.requires.size in
    let common = filled_common order Hash c.args.number meta.free (last_field c.args.number c.args.last) meta.flags c.put_generic.ensures (omega arith) in
    let max_bucket = filled_number order meta.max_bucket 76 common c.put_u32.ensures refl (omega arith) in
    let high_mask = filled_number order meta.high_mask 80 max_bucket c.put_u32-2.ensures refl (omega arith) in
    let low_mask = filled_number order meta.low_mask 84 high_mask c.put_u32-3.ensures refl (omega arith) in
    let ffactor = filled_number order meta.ffactor 88 low_mask c.put_u32-4.ensures refl (omega arith) in
    let elements = filled_number order c.args.elements 92 ffactor c.put_u32-5.ensures refl (omega arith) in
    let charkey = filled_number order 0x5e688dd1 96 elements c.put_u32-6.ensures refl (omega arith) in
    let count : length meta.spares ≡ 32 = sym (ap length c.put_spares.ensures.field) in
    let long : 224 ≡ 96 + length (spares_bytes order meta.spares) = omega (arith, count, length-spares order meta.spares) in
    let spares = filled_piece (spares_bytes order meta.spares) 224 charkey c.put_spares.ensures.page long (omega arith) in
    let written : c.put_spares.new.page ≡ table_bytes order size c.args.number c.args.last c.args.elements meta = spares.is
    ∙ table_pieces order size c.args.number c.args.last c.args.elements meta in
    let fits : TableFits meta = record {
      flags = omega arith;
      max_bucket = omega arith;
      high_mask = omega arith;
      low_mask = omega arith;
      ffactor = omega arith;
      free = omega arith;
    } in
    let read = sym (ap (λ page. (hash_fields order page).spares) written) ∙ c.put_spares.ensures.field in
    record { page = written; fields = ap (hash_fields order) written ∙ hash_fields-bytes order size c.args.number c.args.last c.args.elements meta fits read }
