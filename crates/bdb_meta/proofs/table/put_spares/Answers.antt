use Rattle.std.proofs.Common.{◌≡◌, take, sym, arith}
use Rattle.std.proofs.lemmas.List.{take-append-drop, take_all}
use Rattle.bdb_layout.specs.of_format.Terms.{overwritten}
use Rattle.bdb_meta.proofs.SparesLemmas.{spares_bytes, spares_next, spares-read}
use Rattle.bdb_meta.proofs.table.put_spares.Goals as goal

pub loop-group-init : goal.loop-group-init
loop-group-init c = sym (take-append-drop 96 c.args.page.now)

-- The next spare stands right behind those that were written.
pub loop-group-preserved : goal.loop-group-preserved
loop-group-preserved c = spares_next c.args.order c.args.page.now c.loop-group.page c.put_u32.new.bytes c.args.spares.now c.loop-group.group (omega arith)
    (omega arith) c.loop-group.invariant c.put_u32.ensures

pub returns : goal.returns
returns c =
    let all : take c.loop-group.group c.args.spares.now ≡ c.args.spares.now = take_all c.loop-group.group c.args.spares.now (omega arith) in
    let written : c.loop-group.page ≡ overwritten c.args.page.now 96 (spares_bytes c.args.order c.args.spares.now) = rw all at c.loop-group.invariant in
    record {
      page = written;
      field = spares-read c.args.order c.args.page.now c.loop-group.page c.args.spares.now c.told-spares c.fits-spares (omega arith)
          written;
    }
