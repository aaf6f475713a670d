-- A word of std that laws here compute.
unfoldable pub use Rattle.std.specs.Int.RustNames.{count_ones}
