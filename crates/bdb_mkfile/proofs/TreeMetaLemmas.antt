-- The metadata of trees under names, and of the master.
use Rattle.std.proofs.Common.{◌≡◌, ℕ, ◌≤◌, Bool, true, false, None, arith, refl, sym, inl, inr, subst, ◌==◌}
use Rattle.bdb_mkfile.proofs.Common.{ne_eqb, Kind, Btree, Recno, Order, Settings, BtreeFields, first_row, has_duplicates, names_databases, plain_settings, settings_of, flag_rows, own_settings}
use Rattle.bdb_mkfile.proofs.Common.{IsTreeSettings, TreesHaveNames, named_tree_meta, settings_of_master}

-- Trees.

-- metadata under a name says settings, and breaks no row of flags above page 0
record SaysOwn (own : Settings) (root number : ℕ) : Type 0 where
  settings_are : settings_of own.page_size own.order (BtreeFields (named_tree_meta own root)) ≡ own
  no_row : first_row (flag_rows number (named_tree_meta own root).flags) ≡ None

said_btree : (size : ℕ) (order : Order) (duplicates sorted recnum : Bool) (minkey root number : ℕ) → (sorted ≡ true → duplicates ≡ true)
    → (recnum ≡ true → duplicates ≡ false)
    → let own : Settings = record (plain_settings Btree size order) { duplicates = duplicates; sorted = sorted; recnum = recnum; minkey = minkey } in
    SaysOwn own root number
said_btree size order false false false minkey root number a b = record { settings_are = refl; no_row = refl }
said_btree size order false false true minkey root number a b = record { settings_are = refl; no_row = refl }
said_btree size order false true recnum minkey root number a b = let e = a refl in absurd (cc e)
said_btree size order true false false minkey root number a b = record { settings_are = refl; no_row = refl }
said_btree size order true true false minkey root number a b = record { settings_are = refl; no_row = refl }
said_btree size order true sorted true minkey root number a b = let e = b refl in absurd (cc e)

said_recno : (size : ℕ) (order : Order) (fixed renumber : Bool) (re_len re_pad root number : ℕ) → (number == 0) ≡ false
    → let own : Settings = record (plain_settings Recno size order) { fixed = fixed; renumber = renumber; re_len = re_len; re_pad = re_pad } in
    SaysOwn own root number
said_recno size order false false re_len re_pad root number above = record { settings_are = refl; no_row = rw above }
said_recno size order false true re_len re_pad root number above = record { settings_are = refl; no_row = rw above }
said_recno size order true false re_len re_pad root number above = record { settings_are = refl; no_row = rw above }
said_recno size order true true re_len re_pad root number above = record { settings_are = refl; no_row = rw above }

says_own : (settings : Settings) (root number : ℕ) → IsTreeSettings settings → 1 ≤ number
    → SaysOwn (own_settings settings.kind settings.page_size settings.order settings) root number
says_own settings root number is above =
    let P : Kind → Type 0 = λ k. SaysOwn (own_settings k settings.page_size settings.order settings) root number in
    elim is.kind [
      | inl btree ↦ subst P (sym btree) (said_btree settings.page_size settings.order settings.duplicates settings.sorted settings.recnum
          settings.minkey root number is.sorted is.counted)
      | inr recno ↦ subst P (sym recno) (said_recno settings.page_size settings.order settings.fixed settings.renumber settings.re_len
          settings.re_pad root number (ne_eqb number 0 (λ same. omega (arith, above, same))))
    ]

pub trees_have_names : TreesHaveNames
trees_have_names settings root number is above = let own = says_own settings root number is above in (own.settings_are, own.no_row)

-- The master.

-- the metadata of the master with this root says the settings of one, and that it is one
pub record IsMasterMeta (size : ℕ) (order : Order) (root : ℕ) : Type 0 where
  pub settings_are : settings_of size order (BtreeFields (named_tree_meta (settings_of_master size order) root)) ≡ settings_of_master size order
  pub no_row : first_row (flag_rows 0 (named_tree_meta (settings_of_master size order) root).flags) ≡ None
  pub master : names_databases (named_tree_meta (settings_of_master size order) root) ≡ true
  pub plain : has_duplicates (BtreeFields (named_tree_meta (settings_of_master size order) root)) ≡ false
  pub no_free : (named_tree_meta (settings_of_master size order) root).free ≡ 0
  pub root_is : (named_tree_meta (settings_of_master size order) root).root ≡ root

pub master_is_said : (size : ℕ) (order : Order) (root : ℕ) → IsMasterMeta size order root
master_is_said size order root = record { settings_are = refl; no_row = refl; master = refl; plain = refl; no_free = refl; root_is = refl }
