-- Levels over a grove, page after page and level after level, up to the root.
use Rattle.std.proofs.Common.{◌≡◌, ℕ, ◌+◌, ◌≤◌, Bool, true, false, List, [], ◌∷◌, ◌++◌, map, None, arith, refl, sym, ◌∙◌, ap, subst, inl, inr, ◌==◌, ◌||◌}
use Rattle.std.proofs.Common.{if◌then◌else◌, Contains, flat_map}
use Rattle.std.proofs.Math.Bool.{or-false, or_assoc}
use Rattle.std.proofs.Math.Path.{fun_ext}
use Rattle.std.proofs.lemmas.Bool.{ne_eqb, or_from}
use Rattle.std.proofs.lemmas.Grind.{flat_map-append}
use Rattle.std.proofs.lemmas.List.{append-nil, append_assoc, map-append}
use Rattle.std.proofs.lemmas.List.Elements.{All-contains, Contains-append_left, Contains-append_right}
use Rattle.bdb_law_grove.specs.of_format.declared.metadata.FileKind.TheVariants.{Queue}
use Rattle.bdb_law_grove.specs.of_format.declared.pages.RecnoItem.{RecnoItem}
use Rattle.bdb_law_grove.specs.of_format.declared.references.Reference.{Reference}
use Rattle.bdb_law_grove.specs.of_format.declared.references.Sort.TheVariants.{Child, OverflowHead}
use Rattle.bdb_law_grove.specs.of_format.Terms.{Chain, Content, File, Inline, Internal, Page, RecnoInternal, Set, Tree, Unknown, fit_code, has_type, header_in}
use Rattle.bdb_law_grove.specs.of_format.Terms.{internal_targets, page_at, refs, type_in}
use Rattle.bdb_law_grove.proofs.of_format.ListLemmas.{only_member}
use Rattle.bdb_law_grove.proofs.of_format.MemberLemmas.{first_member, in_map, later_member, member_cases, no_member, of_flat_map, of_map}
use Rattle.bdb_law_grove.specs.Part.{IsGrove}
use Rattle.bdb_law_grove.proofs.SeveralLemmas.{count, count-append, some_count}
use Rattle.bdb_law_grove.proofs.StandLemmas.{with_page}
use Rattle.bdb_law_levels.specs.Nodes.{AreOver, CountsTwo, IsOver, IsTower, Node}
use Rattle.bdb_law_levels.specs.declared.inner_type.InnerType.{InnerType}
use Rattle.bdb_law_levels.specs.declared.inner_type.InnerType.TheVariants.{Keyed, Numbered}
use Rattle.bdb_law_levels.specs.Roots.{IsHeadOnce, IsOfLevel, KeyStands, KeysStand, TowersStand, is_of, key_heads, pages_of, types_below}
use Rattle.bdb_law_levels.proofs.ItemLemmas.{AreNamed, child_fits, first_named, keyed_named, names_of, numbered_named}
use Rattle.bdb_law_levels.proofs.TakenLemmas.{Names, Stands, stands_over}

-- Keys.

-- the heads of the chains that keys of some pages stand in
abbrev heads_of : InnerType → List Node → List ℕ
heads_of Keyed nodes = flat_map (λ (node : Node). key_heads node.key) nodes
heads_of Numbered nodes = []

abbrev numbers : List Node → List ℕ
numbers nodes = map (λ (node : Node). node.page) nodes

key_chain : (key : Content) (h : ℕ) → Contains (key_heads key) h → (total : ℕ) × (key ≡ Chain h total)
key_chain (Inline bytes) h at = absurd (no_member [] h refl at)
key_chain (Chain head total) h at = (total, ap (λ k. Chain k total) (only_member head h at))
key_chain (Set blocks) h at = absurd (no_member [] h refl at)
key_chain (Tree root) h at = absurd (no_member [] h refl at)
key_chain Unknown h at = absurd (no_member [] h refl at)

chain_of : (nodes : List Node) (h : ℕ) → Contains (heads_of Keyed nodes) h
    → (node : Node) × Contains nodes node × (total : ℕ) × (node.key ≡ Chain h total)
chain_of nodes h at =
    let found = of_flat_map (λ (node : Node). key_heads node.key) nodes h at in
    let chain = key_chain found.0.key h found.2 in (found.0, found.1, chain.0, chain.1)

heads_stand : (type : InnerType) (g : File) (pages : ℕ → Bool) (nodes : List Node) (h : ℕ) → KeysStand type g pages nodes
    → Contains (heads_of type nodes) h → IsHeadOnce g pages h
heads_stand Keyed g pages nodes h keys at =
    let found = chain_of nodes h at in
    subst (KeyStands g pages) found.3 (All-contains (λ (node : Node). KeyStands g pages node.key) nodes found.0 keys.0 found.1)
heads_stand Numbered g pages nodes h keys at = absurd (no_member [] h refl at)

heads_apart : (type : InnerType) (g : File) (pages : ℕ → Bool) (nodes : List Node) (h : ℕ) → KeysStand type g pages nodes
    → count h (heads_of type nodes) ≤ 1
heads_apart Keyed g pages nodes h keys = keys.1 h
heads_apart Numbered g pages nodes h keys = omega arith

-- A page over a run.

-- what a page of the next level is: it names the pages of its run, which it fits, and heads of their keys but that of the first, which are counted
pub record StandsOn (type : InnerType) (g : File) (level : ℕ) (node : Node) (run : List Node) : Type 0 where
  taken : List ℕ
  kind : IsOfLevel type g (level + 1) node
  pub names : Names g node.page (numbers run) taken
  fits : (r : Reference) → Contains (refs g node.page) r → r.sort ≡ Child → 1 ≤ r.target → r.target ≤ g.last
      → has_type (types_below type (level + 1)) (type_in (page_at g r.target)) ≡ true → (header_in (page_at g r.target)).level ≡ level
      → fit_code g node.page r ≡ None
  shared : (h : ℕ) → Contains taken h → 2 ≤ (header_in (page_at g h)).entries
  heads : (h : ℕ) → count h (heads_of type run) ≡ count h taken + count h (heads_of type (node ∷ []))

not_two : (level : ℕ) → 1 ≤ level → (level + 1 + 1 == 2) ≡ false
not_two level low = ne_eqb (level + 1 + 1) 2 (λ e. omega arith)

pub stands_on : (type : InnerType) (g : File) (level : ℕ) (node : Node) (run : List Node) → (g.kind ≡ Queue → ⊥) → 1 ≤ level
    → IsOver type g (level + 1) node run → StandsOn type g level node run
stands_on Keyed g level node [] forest low over = absurd over.items
stands_on Keyed g level node (first ∷ nodes) forest low over =
    let page = over.items.0 in
    let is : page_at g node.page ≡ Internal page = over.items.1 in
    let at_level : page.header.level ≡ level + 1 = over.items.2 in
    let counts : (other : Node) → Contains nodes other → CountsTwo g other.key =
    λ other at. All-contains (λ (one : Node). CountsTwo g one.key) nodes other over.items.4 at in
    let heads : List ℕ = heads_of Keyed nodes in
    record {
      taken = heads;
      kind = record {
        level_is = ap (λ (pg : Page). (header_in pg).level) is ∙ at_level;
        type_is = ap (λ b. has_type (if b then 5 ∷ 12 ∷ [] else 3 ∷ []) (type_in (page_at g node.page))) (not_two level low)
            ∙ ap (λ (pg : Page). has_type (3 ∷ []) (type_in pg)) is;
      };
      names = names_of g node.page (Internal page) (numbers (first ∷ nodes)) heads forest is
          (subst (λ items. AreNamed (flat_map internal_targets items) (numbers (first ∷ nodes)) heads) (sym over.items.3)
          (first_named first _ _ _ (keyed_named g nodes counts)));
      fits = λ r at. child_fits g node.page level (Internal page) (types_below Keyed (level + 1)) r is
          (ap (λ l. if l == 2 then 5 ∷ 12 ∷ [] else 3 ∷ []) at_level) at_level;
      shared = λ h at. let found = chain_of nodes h at in subst (CountsTwo g) found.3 (counts found.0 found.1);
      heads = λ h.
          let key : count h (heads_of Keyed (node ∷ [])) ≡ count h (key_heads first.key) =
          ap (count h) (append-nil (key_heads node.key)) ∙ ap (λ k. count h (key_heads k)) over.key in
          omega (arith, count-append h (key_heads first.key) heads, key);
    }
stands_on Numbered g level node run forest low over =
    let page = over.items.0 in
    let is : page_at g node.page ≡ RecnoInternal page = over.items.1 in
    let at_level : page.header.level ≡ level + 1 = over.items.2 in
    record {
      taken = [];
      kind = record {
        level_is = ap (λ (pg : Page). (header_in pg).level) is ∙ at_level;
        type_is = ap (λ b. has_type (if b then 6 ∷ [] else 4 ∷ []) (type_in (page_at g node.page))) (not_two level low)
            ∙ ap (λ (pg : Page). has_type (4 ∷ []) (type_in pg)) is;
      };
      names = names_of g node.page (RecnoInternal page) (numbers run) [] forest is
          (subst (λ (items : List RecnoItem). AreNamed (map (λ (item : RecnoItem). (Child, item.child)) items) (numbers run) []) (sym over.items.3)
          (numbered_named run));
      fits = λ r at. child_fits g node.page level (RecnoInternal page) (types_below Numbered (level + 1)) r is
          (ap (λ l. if l == 2 then 6 ∷ [] else 4 ∷ []) at_level) at_level;
      shared = λ h at. absurd (no_member [] h refl at);
      heads = λ h. refl;
    }

-- What is laid.

-- the pages of a level that are laid, and those below them that are not yet taken in, stand; pages that are to come are new
record AreLaid (type : InnerType) (g : File) (pages : ℕ → Bool) (nodes : List Node) (later : List ℕ) : Type 0 where
  stand : Stands g pages (numbers nodes) (heads_of type nodes)
  new : (p : ℕ) → Contains later p → (1 ≤ p) × (p ≤ g.last) × (pages p ≡ false)
  apart : (p : ℕ) → count p later ≤ 1

heads_count : (type : InnerType) (h : ℕ) (xs ys : List Node)
    → count h (heads_of type (xs ++ ys)) ≡ count h (heads_of type xs) + count h (heads_of type ys)
heads_count Keyed h xs ys =
    ap (count h) (flat_map-append (λ (node : Node). key_heads node.key) xs ys) ∙ count-append h (heads_of Keyed xs) (heads_of Keyed ys)
heads_count Numbered h xs ys = refl

numbers_count : (e : ℕ) (xs ys : List Node) → count e (numbers (xs ++ ys)) ≡ count e (numbers xs) + count e (numbers ys)
numbers_count e xs ys = ap (count e) (map-append (λ (node : Node). node.page) xs ys) ∙ count-append e (numbers xs) (numbers ys)

-- one page more takes in its run
lay_page : (type : InnerType) (g : File) (pages : ℕ → Bool) (level : ℕ) (node : Node) (before run after : List Node) (later : List ℕ)
    → StandsOn type g level node run → ((child : Node) → Contains run child → IsOfLevel type g level child)
    → AreLaid type g pages (before ++ (run ++ after)) (node.page ∷ later)
    → AreLaid type g (with_page pages node.page) (before ++ (node ∷ after)) later
lay_page type g pages level node before run after later on kinds laid =
    record {
      stand = stands_over
          (record {
            children = numbers run;
            rest = numbers (before ++ after);
            taken = on.taken;
            before = λ e. omega (arith, numbers_count e before (run ++ after), numbers_count e run after, numbers_count e before after);
            after = λ e. omega (arith, numbers_count e before (node ∷ after), numbers_count e (node ∷ []) after, numbers_count e before after);
            heads_are = λ h. omega (
              arith,
              heads_count type h before (run ++ after),
              heads_count type h run after,
              heads_count type h before (node ∷ after),
              heads_count type h (node ∷ []) after,
              on.heads h,
            );
            low = free.0;
            high = free.1;
            new = free.2;
            names_them = on.names;
            fits = λ r at sort. elim (on.names.sorts r at) [
              | inl child ↦ fitting r at sort child.1
              | inr head ↦ absurd (let same : Child ≡ OverflowHead = sym sort ∙ head.0 in cc)
            ];
            shared = on.shared;
          })
          laid.stand;
      new = λ p at.
          let one = laid.new p (later_member node.page later p at) in (
            one.0,
            one.1,
            or_from (pages p) (p == node.page) one.2
                (ne_eqb p node.page (λ same. omega (
                  arith,
                  laid.apart p,
                  count-append p (node.page ∷ []) later,
                  some_count p later at,
                  some_count p (node.page ∷ []) (subst (Contains (node.page ∷ [])) (sym same) (first_member node.page [])),
                ))),
          );
      apart = λ p. omega (arith, laid.apart p, count-append p (node.page ∷ []) later);
    }
  where
    free : (1 ≤ node.page) × (node.page ≤ g.last) × (pages node.page ≡ false)
    free = laid.new node.page (first_member node.page later)

    fitting : (r : Reference) → Contains (refs g node.page) r → r.sort ≡ Child → Contains (numbers run) r.target → fit_code g node.page r ≡ None
    fitting r at sort child =
        let found = of_map (λ (one : Node). one.page) run r.target child in
        let kind : IsOfLevel type g level found.0 = kinds found.0 found.1 in
        let entrance : Contains (numbers (before ++ (run ++ after))) r.target =
        subst (Contains (numbers (before ++ (run ++ after)))) found.2
        (in_map (λ (one : Node). one.page) (before ++ (run ++ after)) found.0
        (Contains-append_right before (run ++ after) found.0 (Contains-append_left run after found.0 found.1))) in
        let inside : pages r.target ≡ true = laid.stand.grove.entered r.target entrance in
        on.fits r at sort (laid.stand.grove.low r.target inside) (laid.stand.grove.high r.target inside)
        (subst (λ q. has_type (types_below type (level + 1)) (type_in (page_at g q)) ≡ true) found.2 kind.type_is)
        (subst (λ q. (header_in (page_at g q)).level ≡ level) found.2 kind.level_is)

-- Level after level.

abbrev with_pages : (ℕ → Bool) → List ℕ → ℕ → Bool
with_pages pages ps p = pages p || is_of ps p

-- a level is laid over the one below it, and what then stands with the pages to come is a grove
lay_level : (type : InnerType) (g : File) (pages : ℕ → Bool) (level root : ℕ) (before nodes below : List Node) (later : List ℕ)
    → (g.kind ≡ Queue → ⊥) → 1 ≤ level → AreOver type g (level + 1) nodes below → ((node : Node) → Contains below node → IsOfLevel type g level node)
    → AreLaid type g pages (before ++ below) (numbers nodes ++ later)
    → ((more : ℕ → Bool) → AreLaid type g more (before ++ nodes) later → IsGrove g (with_pages more later) (root ∷ []))
    → IsGrove g (with_pages pages (numbers nodes ++ later)) (root ∷ [])
lay_level type g pages level root before [] below later forest low over kinds laid ends =
    ends pages (subst (λ ns. AreLaid type g pages (before ++ ns) later) over laid)
lay_level type g pages level root before (node ∷ nodes) below later forest low (run, rest, joined, one, others) kinds laid ends =
    subst (λ (qs : ℕ → Bool). IsGrove g qs (root ∷ [])) (fun_ext (λ p. or_assoc (pages p) (p == node.page) (is_of (numbers nodes ++ later) p)))
    (lay_level type g (with_page pages node.page) level root (before ++ (node ∷ [])) nodes rest later forest low others
    (λ child at. kinds child (subst (λ ns. Contains ns child) (sym joined) (Contains-append_right run rest child at)))
    (subst (λ ns. AreLaid type g (with_page pages node.page) ns (numbers nodes ++ later)) (sym (append_assoc before (node ∷ []) rest))
    (lay_page type g pages level node before run rest (numbers nodes ++ later) (stands_on type g level node run forest low one)
    (λ child at. kinds child (subst (λ ns. Contains ns child) (sym joined) (Contains-append_left run rest child at)))
    (subst (λ ns. AreLaid type g pages (before ++ ns) (node.page ∷ (numbers nodes ++ later))) joined laid)))
    (λ more done. ends more (subst (λ ns. AreLaid type g more ns later) (append_assoc before (node ∷ []) nodes) done)))

level_kinds : (type : InnerType) (g : File) (level : ℕ) (nodes below : List Node) → (g.kind ≡ Queue → ⊥) → 1 ≤ level
    → AreOver type g (level + 1) nodes below → (node : Node) → Contains nodes node → IsOfLevel type g (level + 1) node
level_kinds type g level [] below forest low over node at = absurd (no_member [] node refl at)
level_kinds type g level (first ∷ nodes) below forest low (run, rest, joined, one, others) node at =
    elim (member_cases first nodes node at) [
      | inl here ↦ subst (IsOfLevel type g (level + 1)) here (stands_on type g level first run forest low one).kind
      | inr later ↦ level_kinds type g level nodes rest forest low others node later
    ]

tower : (type : InnerType) (g : File) (pages : ℕ → Bool) (level : ℕ) (below : List Node) (above : List (List Node)) (root : Node)
    → (g.kind ≡ Queue → ⊥) → 1 ≤ level → IsTower type g level below above root → ((node : Node) → Contains below node → IsOfLevel type g level node)
    → AreLaid type g pages below (pages_of above) → IsGrove g (with_pages pages (pages_of above)) (root.page ∷ [])
tower type g pages level below [] root forest low is kinds laid =
    subst (λ (qs : ℕ → Bool). IsGrove g qs (root.page ∷ [])) (fun_ext (λ p. sym (or-false (pages p))))
    (subst (λ ns. IsGrove g pages (numbers ns)) is laid.stand.grove)
tower type g pages level below (nodes ∷ above) root forest low is kinds laid =
    lay_level type g pages level root.page [] nodes below (pages_of above) forest low is.0 kinds laid
    (λ more done. let over = level_kinds type g level nodes below forest low is.0 in
    tower type g more (level + 1) nodes above root forest (omega arith) is.1 over done)

pub towers_stand : TowersStand
towers_stand type g pages level below above root over =
    tower type g pages level below above root over.no_queue over.low over.tower
    (λ node at. All-contains (IsOfLevel type g level) below node over.kinds at)
    (record {
      stand = record {
        grove = over.grove;
        once = over.once;
        named = λ h at. heads_stand type g pages below h over.keys at;
        alone = λ h. heads_apart type g pages below h over.keys;
      };
      new = over.inside;
      apart = over.apart;
    })
