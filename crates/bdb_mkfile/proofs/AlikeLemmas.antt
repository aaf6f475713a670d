-- Lists for settings that say the same of them.
use Rattle.std.proofs.Common.{arith, ◌≡◌, ◌&&◌, Bool, List, [], ◌∷◌, refl, sym, ◌∙◌, ap}
use Rattle.bdb_mkfile.proofs.Common.{Kind, Btree, Recno, Hash, Queue, Settings, Pair, all_map, tree_size, IsKeyFor, IsTreeList, IsPairFor, is_in_order, may_follow, units_in, leaf_type_of, list_pages}
use Rattle.bdb_mkfile.proofs.Common.{file_settings, own_settings, IsTreeSettings, IsBuildable}
use Rattle.bdb_mkfile.proofs.SettingsLemmas.{fit_in_file, list_own, own_kind, sorted_in_file}

-- settings that say the same of a tree's list
pub record AreAlike (a b : Settings) : Type 0 where
  pub kind : a.kind ≡ b.kind
  pub duplicates : a.duplicates ≡ b.duplicates
  pub sorted : a.sorted ≡ b.sorted
  pub fixed : b.kind ≡ Recno → a.fixed ≡ b.fixed
  pub re_len : b.kind ≡ Recno → a.re_len ≡ b.re_len

abbrev follow_by : Settings → Kind → Bool → Bool → Pair → Pair → Bool
follow_by settings kind duplicates sorted p q = may_follow kind (record settings { duplicates = duplicates; sorted = sorted }) p q

same_by : (k : Kind) (a b : Settings) (duplicates sorted : Bool) (p q : Pair)
    → follow_by a k duplicates sorted p q ≡ follow_by b k duplicates sorted p q
same_by Btree a b duplicates sorted p q = refl
same_by Recno a b duplicates sorted p q = refl
same_by Hash a b duplicates sorted p q = refl
same_by Queue a b duplicates sorted p q = refl

follow_alike : (a b : Settings) (p q : Pair) → AreAlike a b → may_follow a.kind a p q ≡ may_follow b.kind b p q
follow_alike a b p q alike = grind (arith, same_by)

in_order_alike : (a b : Settings) (pairs : List Pair) → AreAlike a b → is_in_order a pairs ≡ is_in_order b pairs
in_order_alike a b [] alike = refl
in_order_alike a b (p ∷ []) alike = refl
in_order_alike a b (p ∷ q ∷ pairs) alike = grind (arith, is_in_order, follow_alike, may_follow, in_order_alike a b (q ∷ pairs) alike)

pair_alike : (a b : Settings) (pair : Pair) → AreAlike a b → IsPairFor a pair → IsPairFor b pair
pair_alike a b pair alike is = grind (arith, IsKeyFor)

pub list_alike : (a b : Settings) (pairs : List Pair) → AreAlike a b → IsTreeList a pairs → IsTreeList b pairs
list_alike a b pairs alike is = grind (arith, all_map, IsPairFor, pair_alike, in_order_alike)

-- A database's own settings.

own_built : (k : Kind) (settings : Settings) (pairs : List Pair) → settings.kind ≡ k → IsBuildable k settings pairs
    → IsBuildable k (own_settings k settings.page_size settings.order settings) pairs
own_built Btree settings pairs same is = grind (arith, IsTreeSettings, own_settings, fit_in_file, IsTreeList, list_own)
own_built Recno settings pairs same is = grind (arith, IsTreeSettings, own_settings, fit_in_file, IsTreeList, list_own)
own_built Hash settings pairs same is = grind (arith, Settings, own_settings, Hash, Btree, list_alike)
own_built Queue settings pairs same is = (is.0, is.1, record { ascend = is.2.ascend; few = is.2.few; long = is.2.long })

-- what can be built for settings can be for a database's own
pub buildable_own : (settings : Settings) (pairs : List Pair) → IsBuildable settings.kind settings pairs
    → IsBuildable (file_settings settings).kind (file_settings settings) pairs
buildable_own settings pairs is = grind (arith, IsBuildable, file_settings, own_kind, own_built)

-- How many pages lists have.

pages_alike : (k : Kind) (settings : Settings) (pairs : List Pair) → settings.kind ≡ k → IsBuildable k settings pairs
    → list_pages k (own_settings k settings.page_size settings.order settings) pairs ≡ list_pages k settings pairs
pages_alike Btree settings pairs same is = ap (λ k. tree_size (leaf_type_of k) settings.page_size settings.sorted (units_in k pairs)) (sym same)
pages_alike Recno settings pairs same is = grind (arith, own_settings, sorted_in_file, tree_size, leaf_type_of, Recno, units_in)
pages_alike Hash settings pairs same is = refl
pages_alike Queue settings pairs same is = refl

-- a list has as many for a database's own settings
pub pages_own : (settings : Settings) (pairs : List Pair) → IsBuildable settings.kind settings pairs
    → list_pages (file_settings settings).kind (file_settings settings) pairs ≡ list_pages settings.kind settings pairs
pages_own settings pairs is = grind (arith, list_pages, file_settings, own_kind, pages_alike)
