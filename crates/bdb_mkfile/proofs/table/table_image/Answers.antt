use Rattle.std.proofs.Common.{arith, sym, ◌∙◌, subst, IsTrue}
use Rattle.bdb_mkfile.proofs.Common.{pairs_of, slice_seen, unlined, length-map, is_zero}
use Rattle.bdb_mkfile.proofs.TreeLemmas.{first_zero, still_zero}
use Rattle.bdb_mkfile.proofs.TableLemmas.{table_filed}
use Rattle.bdb_mkfile.proofs.table.table_image.Goals as goal

pub put_hash_meta-requires-clause-zero : goal.put_hash_meta-requires-clause-zero
put_hash_meta-requires-clause-zero c =
    let first = first_zero c.with_room-pages.result c.add.new.self c.with_room-pages.ensures.pages c.in_ok-add.ensures.ok in
    subst (λ bytes. IsTrue (is_zero bytes)) (sym c.page_mut.ensures.value)
    (still_zero c.add.new.self c.build_table.new.pages first.0 (c.in_ok-meta.ensures.kept.same 0 (omega (arith, first.1))))

pub returns : goal.returns
returns c =
    table_filed c.args.settings.now (pairs_of c.args.list) c.with_room-pages.result c.add.new.self c.build_table.new.pages c.in_ok-meta.meta c.count-last.result
    c.in_ok-elements.elements c.page_mut.result.now c.put_hash_meta.new.page c.from_bytes.result
    (record {
      kind = c.requires.kind;
      own = c.requires.own;
      both = c.requires.sorted;
      none = c.with_room-pages.ensures.pages;
      size = c.with_room-pages.ensures.size;
      order = c.with_room-pages.ensures.order;
      added_is = c.in_ok-add.ensures.ok;
      table = c.in_ok-meta.ensures;
      legal = c.count-last.ensures.legal;
      whole = c.count-last.ensures.whole;
      count_is = c.count-last.ensures.count;
      few = omega arith;
      elements_are = c.in_ok-elements.ensures.count ∙ sym (length-map (slice_seen c.args.list) unlined);
      lent_is = c.page_mut.ensures.value;
      bytes = c.put_hash_meta.ensures.page;
      fields = c.put_hash_meta.ensures.fields;
      image_is = c.from_bytes.ensures ∙ c.into_bytes.ensures;
    })
