-- Laws that several crates use.
use Rattle.std.proofs.Common.{ℕ, zero, suc, ◌≤◌, length, arith}
use Rattle.bdb_format.specs.Terms.{File, chain_in, next_of}

-- a chain has no more pages than turns
pub chain_few : (turns : ℕ) (file : File) (p : ℕ) → length (chain_in turns file p) ≤ turns
unfolding chain_in
chain_few zero file p = omega arith
chain_few (suc turns) file p = grind (arith, chain_few turns file (next_of file p))
