use Rattle.std.proofs.Common.{◌≡◌, ◌≤◌, length, ap, ◌∙◌, refl, arith}
use Rattle.bdb_layout.specs.of_format.declared.metadata.FileKind.TheVariants.{Btree}
use Rattle.bdb_layout.specs.of_format.Terms.{btree_bytes, btree_fields, last_field}
use Rattle.bdb_meta.specs.ReadBack.{BtreeFits}
use Rattle.bdb_meta.proofs.CommonLemmas.{filled_common, page_size-least}
use Rattle.bdb_meta.proofs.FieldLemmas.{btree_fields-bytes, btree_pieces}
use Rattle.bdb_meta.proofs.FilledLemmas.{filled_number, filled_zeros}
use Rattle.bdb_meta.proofs.btree.put_btree_meta.Goals as goal

-- The page is filled field after field.
pub returns : goal.returns
returns c =
    let order = c.args.order in
    let meta = c.args.meta.now in
    let size = length c.args.page.now in
    let room : 512 ≤ size = page_size-least size c.requires.size in
    let common = filled_common order Btree c.args.number meta.free (last_field c.args.number c.args.last) meta.flags c.put_generic.ensures (omega arith) in
    let minkey = filled_number order meta.minkey 80 (filled_zeros 4 common (omega arith)) c.put_u32.ensures refl (omega arith) in
    let re_len = filled_number order meta.re_len 84 minkey c.put_u32-2.ensures refl (omega arith) in
    let re_pad = filled_number order meta.re_pad 88 re_len c.put_u32-3.ensures refl (omega arith) in
    let root = filled_number order meta.root 92 re_pad c.put_u32-4.ensures refl (omega arith) in
    let written : c.put_u32-4.new.bytes ≡ btree_bytes order size c.args.number c.args.last meta = root.is ∙ btree_pieces order size c.args.number c.args.last
    meta in
    let fits : BtreeFits meta = record {
      flags = omega arith;
      minkey = omega arith;
      re_len = omega arith;
      re_pad = omega arith;
      root = omega arith;
      free = omega
          arith;
    } in
    record { page = written; fields = ap (btree_fields order) written ∙ btree_fields-bytes order size c.args.number c.args.last meta fits }
