-- Units that are pushed one after the other.
use Rattle.std.proofs.Common.{◌≡◌, ℕ, true, List, [], ◌∷◌, ◌++◌, map, arith, refl, sym, ◌∙◌, ap, subst}
use Rattle.bdb_mktree.proofs.Common.{both_true, and_parts, append-nil, append_assoc, map-append, All-head, All-tail, Settings, ListKey, ascends, ascends_from, less, Built, KeepsBefore, first_leaf}
use Rattle.bdb_mktree.proofs.Common.{TreeUnit, key_of, list_of_units, ArePushed, Building, CanBePushed, IsTreeBuilt, units_of, IsNext, IsShortUnit, KeysAscend, Suits, TreeBuilder}
use Rattle.bdb_mktree.proofs.OrderLemmas.{FitUnits}

-- Keys before others ascend as all do.

prefix_from : (value : List ℕ) (xs ys : List (List ℕ)) → ascends_from value (xs ++ ys) ≡ true → ascends_from value xs ≡ true
prefix_from value [] ys is = refl
prefix_from value (x ∷ xs) ys is =
    let parts = and_parts (less value x) (ascends_from x (xs ++ ys)) is in both_true parts.0 (prefix_from x xs ys parts.1)

prefix_ascends : (xs ys : List (List ℕ)) → ascends (xs ++ ys) ≡ true → ascends xs ≡ true
prefix_ascends [] ys is = refl
prefix_ascends (x ∷ xs) ys is = prefix_from x xs ys is

comes_next : (settings : Settings) (units : List TreeUnit) (unit : TreeUnit) (left : List TreeUnit) → KeysAscend settings (units ++ (unit ∷ left))
    → IsNext settings units unit
comes_next settings units unit left keys is =
    prefix_ascends (map key_of (units ++ (unit ∷ []))) (map key_of left)
    (rw (← ap (map key_of) (sym (append_assoc units (unit ∷ []) left)) ∙ map-append key_of (units ++ (unit ∷ [])) left) (keys is))

-- Pages before one stay, and stay.

kept_on : (first : ℕ) (old mid new : Built) → KeepsBefore first old mid → KeepsBefore first mid new → KeepsBefore first old new
kept_on first old mid new one two = grind arith

-- The first unit that is left can be pushed.

pub can_push : (builder next : TreeBuilder) (old new : Built) (all some : List TreeUnit) (unit : TreeUnit) (left : List TreeUnit)
    → ArePushed builder next old new all some → some ≡ unit ∷ left
    → Suits next.settings unit × IsNext next.settings (units_of next new) unit × IsShortUnit unit
can_push builder next old new all some unit left pushed is =
    let are = subst (ArePushed builder next old new all) is pushed in (
      subst (λ s. Suits s unit) (sym are.settings) (All-head (Suits builder.settings) unit left are.suit),
      subst (λ s. IsNext s (units_of next new) unit) (sym are.settings)
          (comes_next builder.settings (units_of next new) unit left (subst (KeysAscend builder.settings) (sym are.units) are.keys)),
      All-head IsShortUnit unit left are.short,
    )

-- and is
pub pushed_next : (builder next last : TreeBuilder) (old mid new : Built) (all some : List TreeUnit) (unit : TreeUnit) (left : List TreeUnit)
    → ArePushed builder next old mid all some → some ≡ unit ∷ left → Building last new → units_of last new ≡ units_of next mid ++ (unit ∷ [])
    → last.settings ≡ next.settings → first_leaf last.leaves ≡ first_leaf next.leaves → KeepsBefore (first_leaf next.leaves) mid new
    → ArePushed builder last old new all left
pushed_next builder next last old mid new all some unit left pushed is building units settings first kept =
    let are = subst (ArePushed builder next old mid all) is pushed in
    record {
      building = building;
      settings = settings ∙ are.settings;
      first = first ∙ are.first;
      kept = kept_on (first_leaf builder.leaves) old mid new are.kept (subst (λ n. KeepsBefore n mid new) are.first kept);
      units = ap (λ us. us ++ left) units ∙ (append_assoc (units_of next mid) (unit ∷ []) left ∙ are.units);
      suit = All-tail (Suits builder.settings) unit left are.suit;
      short = All-tail IsShortUnit unit left are.short;
      keys = are.keys;
    }

-- Before the first unit.

pub can_begin : (builder : TreeBuilder) (built : Built) (settings : Settings) (units : List TreeUnit) → Building builder built
    → units_of builder built ≡ [] → builder.settings ≡ settings → FitUnits settings units → CanBePushed builder built units
can_begin builder built settings units building none says fit = grind arith

-- After the last unit all are there, and the tree is built of them.

pub all_built : (builder next : TreeBuilder) (old begun mid new : Built) (units : List TreeUnit) (list : List (ListKey × List ℕ)) (first root : ℕ)
    (settings : Settings) → ArePushed builder next begun mid units [] → units_of builder begun ≡ [] → builder.settings ≡ settings
    → first_leaf builder.leaves ≡ first → KeepsBefore first old begun → list_of_units settings.kind units ≡ list
    → IsTreeBuilt next.settings (first_leaf next.leaves) mid new (units_of next mid) (list_of_units next.settings.kind (units_of next mid)) root
    → IsTreeBuilt settings first old new units list root
all_built builder next old begun mid new units list first root settings are none says at kept gives built =
    let units_are : units_of next mid ≡ units =
    sym (append-nil (units_of next mid)) ∙ (are.units ∙ ap (λ us. us ++ units) none) in
    let told : next.settings ≡ settings = are.settings ∙ says in
    let now : IsTreeBuilt settings first mid new units list root =
    rw (← gives, ← units_are, ← are.first ∙ at, ← told) built in
    record {
      root_is = now.root_is;
      count = now.count;
      laid_out = now.laid_out;
      sets_laid_out = now.sets_laid_out;
      kept = kept_on first old mid new (kept_on first old begun mid kept (subst (λ n. KeepsBefore n begun mid) at are.kept)) now.kept;
      formed = now.formed;
      part = now.part;
    }
