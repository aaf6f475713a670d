-- Settings and the metadata that says them.
use Rattle.std.proofs.Common.{arith, ◌≡◌, ◌⊎◌, ℕ, ◌&&◌, Bool, true, false, List, [], ◌∷◌, Option, None, refl, sym, ◌∙◌, subst, inl, inr}
use Rattle.bdb_mkfile.proofs.Common.{Kind, Btree, Recno, Hash, Queue, Order, BtreeMeta, Settings, BtreeFields, first_row, is_page_size, names_databases, plain_settings, settings_of, flag_rows}
use Rattle.bdb_mkfile.proofs.Common.{header_lines, Pair, all_map, IsKeyFor, IsTreeList, IsPairFor, is_in_order, may_follow, IsTreeSettings, file_settings, own_settings, tree_meta}

-- what metadata says of settings
pub record SaysSettings (settings : Settings) (meta : BtreeMeta) : Type 0 where
  pub settings_are : settings_of settings.page_size settings.order (BtreeFields meta) ≡ settings
  pub no_row : first_row (flag_rows 0 meta.flags) ≡ None
  pub no_master : names_databases meta ≡ false

said_btree : (size : ℕ) (order : Order) (duplicates sorted recnum : Bool) (minkey root : ℕ) → (sorted ≡ true → duplicates ≡ true)
    → (recnum ≡ true → duplicates ≡ false)
    → let own : Settings = record (plain_settings Btree size order) { duplicates = duplicates; sorted = sorted; recnum = recnum; minkey = minkey } in
    SaysSettings own (tree_meta own root)
said_btree size order false false false minkey root a b = record { settings_are = refl; no_row = refl; no_master = refl }
said_btree size order false false true minkey root a b = record { settings_are = refl; no_row = refl; no_master = refl }
said_btree size order false true recnum minkey root a b = let e = a refl in absurd (cc e)
said_btree size order true false false minkey root a b = record { settings_are = refl; no_row = refl; no_master = refl }
said_btree size order true true false minkey root a b = record { settings_are = refl; no_row = refl; no_master = refl }
said_btree size order true sorted true minkey root a b = let e = b refl in absurd (cc e)

said_recno : (size : ℕ) (order : Order) (fixed renumber : Bool) (re_len re_pad root : ℕ)
    → let own : Settings = record (plain_settings Recno size order) { fixed = fixed; renumber = renumber; re_len = re_len; re_pad = re_pad } in
    SaysSettings own (tree_meta own root)
said_recno size order false false re_len re_pad root = record { settings_are = refl; no_row = refl; no_master = refl }
said_recno size order false true re_len re_pad root = record { settings_are = refl; no_row = refl; no_master = refl }
said_recno size order true false re_len re_pad root = record { settings_are = refl; no_row = refl; no_master = refl }
said_recno size order true true re_len re_pad root = record { settings_are = refl; no_row = refl; no_master = refl }

-- metadata of a tree says its settings, breaks no row of flags, and is no master's
pub says_settings : (settings : Settings) (root : ℕ) → IsTreeSettings settings
    → SaysSettings (file_settings settings) (tree_meta (file_settings settings) root)
says_settings settings root is =
    let P : Kind → Type 0 = λ k.
    let own : Settings = own_settings k settings.page_size settings.order settings in SaysSettings own (tree_meta own root) in
    elim is.kind [
      | inl btree ↦ subst P (sym btree) (said_btree settings.page_size settings.order settings.duplicates settings.sorted settings.recnum
          settings.minkey root is.sorted is.counted)
      | inr recno ↦ subst P (sym recno) (said_recno settings.page_size settings.order settings.fixed settings.renumber settings.re_len
          settings.re_pad root)
    ]

-- Lists for a database's own settings.

pub own_kind : (k : Kind) (size : ℕ) (order : Order) (settings : Settings) → (own_settings k size order settings).kind ≡ k
own_kind Btree size order settings = refl
own_kind Recno size order settings = refl
own_kind Hash size order settings = refl
own_kind Queue size order settings = refl

pub own_size : (k : Kind) (size : ℕ) (order : Order) (settings : Settings) → (own_settings k size order settings).page_size ≡ size
own_size Btree size order settings = refl
own_size Recno size order settings = refl
own_size Hash size order settings = refl
own_size Queue size order settings = refl

follow_own : (k : Kind) (size : ℕ) (order : Order) (settings : Settings) (a b : Pair)
    → (let own : Settings = own_settings k size order settings in may_follow own.kind own a b) ≡ may_follow k settings a b
follow_own Btree size order settings a b = refl
follow_own Recno size order settings a b = refl
follow_own Hash size order settings a b = refl
follow_own Queue size order settings a b = refl

in_order_own : (k : Kind) (size : ℕ) (order : Order) (settings : Settings) (pairs : List Pair) → settings.kind ≡ k
    → is_in_order (own_settings k size order settings) pairs ≡ is_in_order settings pairs
in_order_own k size order settings [] same = refl
in_order_own k size order settings (a ∷ []) same = refl
in_order_own k size order settings (a ∷ b ∷ pairs) same =
    grind (arith, follow_own, may_follow, is_in_order, own_settings, in_order_own k size order settings (b ∷ pairs) same)

pair_own : (k : Kind) (size : ℕ) (order : Order) (settings : Settings) (pair : Pair) → settings.kind ≡ k → IsPairFor settings pair
    → IsPairFor (own_settings k size order settings) pair
pair_own Btree size order settings pair same is = record { key = subst (λ q. IsKeyFor q pair.key) same is.key; short = is.short; long = λ e. absurd (cc e) }
pair_own Recno size order settings pair same is =
    record { key = subst (λ q. IsKeyFor q pair.key) same is.key; short = is.short; long = λ e fixed. is.long same fixed }
pair_own Hash size order settings pair same is = record { key = subst (λ q. IsKeyFor q pair.key) same is.key; short = is.short; long = λ e. absurd (cc e) }
pair_own Queue size order settings pair same is = record { key = subst (λ q. IsKeyFor q pair.key) same is.key; short = is.short; long = λ e. absurd (cc e) }

-- a list for settings is one for the database's own
pub list_own : (settings : Settings) (pairs : List Pair) → IsTreeList settings pairs → IsTreeList (file_settings settings) pairs
list_own settings pairs is = grind (arith, all_map, IsPairFor, file_settings, pair_own, in_order_own)

-- Settings as a header shows them.

shown : (k : Kind) (print : Bool) (name : Option (List ℕ)) (settings : Settings)
    → header_lines print name (own_settings k settings.page_size settings.order settings) ≡ header_lines print name (record settings { kind = k })
shown Btree print name settings = refl
shown Recno print name settings = refl
shown Hash print name settings = refl
shown Queue print name settings = refl

-- what belongs to another kind is in no header line
pub settings_shown : (print : Bool) (name : Option (List ℕ)) (settings : Settings)
    → header_lines print name (file_settings settings) ≡ header_lines print name settings
settings_shown print name settings = shown settings.kind print name settings

fit_own : (k : Kind) (size : ℕ) (order : Order) (settings : Settings) → (k ≡ Btree) ⊎ (k ≡ Recno) → is_page_size size ≡ true
    → (settings.sorted ≡ true → settings.duplicates ≡ true) → (settings.recnum ≡ true → settings.duplicates ≡ false)
    → IsTreeSettings (own_settings k size order settings)
fit_own Btree size order settings tree legal sorted counted = grind arith
fit_own Recno size order settings tree legal sorted counted =
    record { kind = inr refl; page_size = legal; sorted = λ on. absurd (cc on); counted = λ on. absurd (cc on); records = λ e. refl }
fit_own Hash size order settings tree legal sorted counted = absurd (elim tree [ inl e ↦ cc e | inr e ↦ cc e ])
fit_own Queue size order settings tree legal sorted counted = absurd (elim tree [ inl e ↦ cc e | inr e ↦ cc e ])

pub fit_in_file : (settings : Settings) → IsTreeSettings settings → IsTreeSettings (file_settings settings)
fit_in_file settings is = fit_own settings.kind settings.page_size settings.order settings is.kind is.page_size is.sorted is.counted

sorted_own : (k : Kind) (size : ℕ) (order : Order) (settings : Settings) → (k ≡ Btree) ⊎ (k ≡ Recno)
    → (k ≡ Recno → settings.sorted ≡ false) → (own_settings k size order settings).sorted ≡ settings.sorted
sorted_own Btree size order settings tree none = refl
sorted_own Recno size order settings tree none = sym (none refl)
sorted_own Hash size order settings tree none = absurd (elim tree [ inl e ↦ cc e | inr e ↦ cc e ])
sorted_own Queue size order settings tree none = absurd (elim tree [ inl e ↦ cc e | inr e ↦ cc e ])

pub only_duplicates : (sorted duplicates : Bool) → (sorted ≡ true → duplicates ≡ true) → duplicates ≡ false → sorted ≡ false
only_duplicates true duplicates means none = let e = means refl in absurd (cc (e, none))
only_duplicates false duplicates means none = refl

-- data are sorted in the file where the settings say so
pub sorted_in_file : (settings : Settings) → IsTreeSettings settings → (file_settings settings).sorted ≡ settings.sorted
sorted_in_file settings is = grind (arith, sorted_own, only_duplicates)
