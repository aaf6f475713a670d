-- Chains of a file with their values. Source: docs/FORMAT.md, "Other pages" and "Items".
use Rattle.std.specs.Prelude.{◌≡◌, ℕ, List}
use Rattle.std.specs.List.{Contains}
use Rattle.bdb_tree.specs.of_format.Terms.{file_of}
use Rattle.bdb_tree.specs.of_overflow.Held.{chain_value}

-- a chain by its head
pub record ChainValue : Type 0 where
  pub head : ℕ
  pub value : List ℕ

-- its value in the file of an image
abbrev pub IsShared : List ℕ → ChainValue → Type 0
IsShared image chain = chain.value ≡ chain_value (file_of image) chain.head

pub record AreShared (image : List ℕ) (chains : List ChainValue) : Type 0 where
  pub each : (chain : ChainValue) → Contains chains chain → IsShared image chain
