use Rattle.std.proofs.Common.{arith, length, ap}
use Rattle.bdb_damage.proofs.of_rescue.LooseCountLemmas.{loose_few}
use Rattle.bdb_tool_print.proofs.printing.Printer.loose_section.Goals as goal

pub records_section-requires : goal.records_section-requires
records_section-requires g c =
    omega (
      arith,
      c.requires,
      ap length c.loose-in-Some.ensures,
      loose_few c.args.salvaged.now.guess.order c.args.salvaged.now.guess.page_size c.args.salvaged.now.image,
    )
