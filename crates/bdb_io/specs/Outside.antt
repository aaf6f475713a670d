-- Readers and writers of std, as callers see them behind a source or a sink.
use Rattle.std.specs.Prelude.{ℕ}

-- the reader or the writer, and how often it failed
pub record Outside (X : Type 0) : Type 0 where
  pub inner : X
  pub faults : ℕ
