-- Which items name a chain whose length isn't the one that they tell. Source: docs/FORMAT.md, "Stage 6, chains and trees".
use Rattle.std.specs.Prelude.{◌≡◌, ℕ, ◌&&◌, Bool, List, get_or, length, map, not, slice_get, Some}
use Rattle.std.specs.List.{list_any, range_with_len}
use Rattle.bdb_graph.specs.of_format.Terms.{Content, File, Listed, Page, chain_rows, chains_in, content_chains, is_shared_key, is_wrong_length}
use Rattle.bdb_graph.specs.of_format.ByPage.{holding}
use Rattle.bdb_graph.specs.of_format.declared.kinds.Fault.{Fault}
use Rattle.bdb_overflow.specs.Datum.{FitsContent}

abbrev pub is_wrong : File → Content → Bool
is_wrong file content = list_any (is_wrong_length file) (content_chains content)

-- what the items of a page hold names chains that fit
abbrev pub AreFit : {I : Type 0} → File → (I → Content) → Listed I → Type 0
AreFit {I = I} file content page = (i : ℕ) (item : I) → slice_get page.items i ≡ Some item → FitsContent file (content item)

-- the entry at an index, which names no chain of its own where it's a shared key
abbrev pub is_wrong_entry : {I : Type 0} → File → Bool → (I → Content) → I → Listed I → ℕ → Bool
is_wrong_entry file shares content none page index =
    not (shares && is_shared_key page.offsets index) && is_wrong file (content (get_or page.items index none))

-- some entry of a page
abbrev pub some_wrong : {I : Type 0} → File → Bool → (I → Content) → I → Listed I → Bool
some_wrong file shares content none page = list_any (is_wrong_entry file shares content none page) (range_with_len 0 (length page.items))

-- some chain that the items of a page name has a wrong length
abbrev pub has_wrong : File → Page → Bool
has_wrong file page = list_any (is_wrong_length file) (chains_in page)

-- the faults of stage 6 at a page by the chains that its items name
abbrev pub faults_at : File → ℕ → List Fault
faults_at file page = map (λ code. record { stage = 6; page = page; code = code }) (holding (chain_rows file page))
