-- Numbers as they are byte-swapped, one after another.
use Rattle.std.specs.Prelude.{◌≡◌, ℕ, List, ◌++◌, length}
use Rattle.std.specs.List.{flat_map, range_with_len}
use Rattle.bdb_io.specs.of_format.declared.metadata.Head.{Head}
use Rattle.bdb_io.specs.of_format.Terms.{page_bytes}
use Rattle.bdb_law_turned.specs.Fields.{Field}
use Rattle.bdb_law_turned.specs.Turning.{turned_page, turned_round}
use Rattle.bdb_law_turned.specs.Apart.{AreApart, LieWithin}

-- one page of bytes has more of the numbers of another byte-swapped than before
pub record Turns (source : List ℕ) (fields : List Field) (old new : List ℕ) : Type 0 where
  pub turned : (done : List Field) → AreApart (done ++ fields) → LieWithin (done ++ fields) (length source) → old ≡ turned_round done source
      → new ≡ turned_round (done ++ fields) source

-- so many pages of an image byte-swapped, one after another
abbrev pub pages_turned : Head → List ℕ → ℕ → List ℕ
pages_turned head image n = flat_map (λ p. turned_page head.order (page_bytes head image p)) (range_with_len 0 n)
