use Rattle.std.proofs.Common.{◌∙◌, arith, subst, sym}
use Rattle.bdb_mkfile.specs.Standing.{AreAdded, AreDatabasesBuilt, IsMasterBuilt}
use Rattle.bdb_mkfile.proofs.NamedLemmas.{IsLaidOut, first_zero_still, metas_fit, metas_zero, named_filed}
use Rattle.bdb_mkfile.proofs.image.named_image.Goals as goal
use Rattle.bdb_mkfile.proofs.image.named_image.Goals.{After-as_slice-2}

laid_out : (c : After-as_slice-2)
    → IsLaidOut c.args.sections c.with_room-pages.result c.add.new.self c.build_master.new.pages c.add_zeros.new.pages c.build_databases.new.pages
    c.in_ok-master.master c.count-beyond.result c.as_slice-2.result.now
laid_out c =
    record {
      none = c.with_room-pages.ensures.pages;
      one_is = c.in_ok-add.ensures.ok;
      master_is =
          subst (λ ss. IsMasterBuilt ss c.add.new.self c.build_master.new.pages c.in_ok-master.master) c.as_slice.ensures c.in_ok-master.ensures;
      added = subst (AreAdded c.build_master.new.pages c.add_zeros.new.pages) c.len.ensures c.in_ok-add_zeros.ensures;
      beyond_is = c.count-beyond.ensures.count;
      databases =
          subst (AreDatabasesBuilt c.args.sections c.add_zeros.new.pages c.build_databases.new.pages) (sym c.as_slice-2.ensures.value) c.in_ok-metas.ensures;
    }

pub put_metas-requires-clause-room : goal.put_metas-requires-clause-room
put_metas-requires-clause-room c =
    metas_fit c.args.sections c.with_room-pages.result c.add.new.self c.build_master.new.pages c.add_zeros.new.pages c.build_databases.new.pages
    c.in_ok-master.master c.count-beyond.result c.as_slice-2.result.now (laid_out c)

pub put_metas-requires-clause-zero : goal.put_metas-requires-clause-zero
put_metas-requires-clause-zero c =
    metas_zero c.args.sections c.with_room-pages.result c.add.new.self c.build_master.new.pages c.add_zeros.new.pages c.build_databases.new.pages
    c.in_ok-master.master c.count-beyond.result c.as_slice-2.result.now (laid_out (goal.at.put_metas-requires-clause-zero c).After-as_slice-2)

pub put_meta-requires-clause-zero : goal.put_meta-requires-clause-zero
put_meta-requires-clause-zero c =
    first_zero_still c.args.sections c.with_room-pages.result c.add.new.self c.build_master.new.pages c.add_zeros.new.pages c.build_databases.new.pages
    c.put_metas.new.pages c.in_ok-master.master c.count-beyond.result c.as_slice-2.result.now
    (laid_out (goal.at.put_meta-requires-clause-zero c).After-as_slice-2) c.put_metas.ensures

pub returns : goal.returns
returns c =
    named_filed c.args.page_size c.args.order c.args.sections c.with_room-pages.result c.add.new.self c.build_master.new.pages c.add_zeros.new.pages
    c.build_databases.new.pages c.put_metas.new.pages c.put_meta.new.pages c.in_ok-master.master c.count-beyond.result c.as_slice-2.result.now
    c.from_bytes.result
    (record {
      named = c.requires.named;
      size_is = c.with_room-pages.ensures.size;
      order_is = c.with_room-pages.ensures.order;
      laid_out = laid_out (goal.at.returns c).After-as_slice-2;
      few = omega arith;
      put = c.put_metas.ensures;
      top = c.put_meta.ensures;
      image_is = c.from_bytes.ensures ∙ c.into_bytes.ensures;
    })
