use Rattle.std.proofs.Common.{◌≡◌, ◌+◌, ◌-◌, Some, drop, true}
use Rattle.bdb_mktree.proofs.Common.{prefix_len, keys_of, pairs_of, slice_seen, unlined_pairs, has_key, has_key_at}
use Rattle.bdb_mktree.proofs.runs.run_length.Given as goal

-- All keys passed are this one, and so is the last of them.
abbrev pub invariant-loop-n : goal.invariant-loop-n
invariant-loop-n l =
    (l.n + prefix_len (has_key l.fn.key) (keys_of (unlined_pairs (drop l.n (slice_seen l.fn.list))))
    ≡ prefix_len (has_key l.fn.key) (keys_of (pairs_of l.fn.list)))
    × (has_key_at l.fn.key (slice_seen l.fn.list) (l.n - 1) ≡ Some true)
