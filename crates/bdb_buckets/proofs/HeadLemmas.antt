-- The head of a key.
use Rattle.std.proofs.Common.{◌≡◌, ℕ, ◌*◌, List, ◌∙◌, ap, true, Option, Some}
use Rattle.bdb_tree.specs.of_format.Terms.{Chain, Content, Hash, Page, file_of, item_at, page_at, value_of}
use Rattle.bdb_tree.specs.of_overflow.declared.datum.Datum.{Datum}
use Rattle.bdb_buckets.specs.Chained.{IsHead, IsKeyed, chain_head, chain_value}
use Rattle.bdb_buckets.specs.Places.{has_pair, key_content, pair_on}
use Rattle.bdb_buckets.specs.Told.{Told}

chain_read : (image : List ℕ) (content : Content) (head : ℕ) → Some head ≡ chain_head content → value_of (file_of image) content ≡ chain_value image head
unfolding value_of
chain_read image (Chain head total) first is = cc
chain_read image content first is = absurd cc

page_read : (image : List ℕ) (p i : ℕ) (page : Page) (head : ℕ) → has_pair page i ≡ true → Some head ≡ chain_head (key_content page i)
    → (pair_on (file_of image) p page i).key ≡ chain_value image head
page_read image p i (Hash page) head there is = chain_read image (item_at page (2 * i)).content head is
page_read image p i page head there is = absurd cc

-- a key that is a chain has the value of this chain
pub chain_key : (t : Told) (head : ℕ) → IsHead (Some head) t → t.pair.key ≡ chain_value t.image head
chain_key t head is =
    ap (λ (one : Told). one.pair.key) is.stands.is
    ∙ page_read t.image t.pair.page is.index (page_at (file_of t.image) t.pair.page) head is.stands.there is.is

-- what is known of a pair that was read tells the head of its key
pub is_head : (head : Option ℕ) (key : Datum) (i : ℕ) (t : Told) → IsKeyed head key t.pair.page i t → IsHead head t
is_head head key i t is = record { index = i; stands = is.read.stands; is = is.headed }
