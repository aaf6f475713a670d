use Rattle.std.proofs.Common.{◌≡◌, ◌+◌, take}
use Rattle.bdb_mkfile.specs.WrittenMetadata.{ArePut}
use Rattle.bdb_mkfile.proofs.named_metadata.put_metas.Given as goal

-- The metadata passed stand on the pages from the number on.
abbrev pub invariant-loop-meta : goal.invariant-loop-meta
invariant-loop-meta l = ArePut l.fn.pages l.pages l.beyond (take l.meta-index l.metas) × (l.number + l.meta-index ≡ l.beyond)
