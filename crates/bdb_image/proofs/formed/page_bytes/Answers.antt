use Rattle.std.proofs.Common.{sym, subst, IsTrue}
use Rattle.bdb_faults.specs.of_format.Terms.{is_page_size}
use Rattle.bdb_image.proofs.FormedLemmas.{accepted_paged}
use Rattle.bdb_image.proofs.formed.page_bytes.Goals as goal

-- A page has the size that page 0 tells, which is a legal one.
pub returns-clause-legal : goal.returns-clause-legal
returns-clause-legal c =
    subst (λ n. IsTrue (is_page_size n)) (sym c.page_slice.ensures.whole) (accepted_paged c.args.image.now c.args.head.now c.requires.head).legal
