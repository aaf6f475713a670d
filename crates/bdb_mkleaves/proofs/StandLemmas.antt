-- Values that stand one after the other are a branch, and fit.
use Rattle.std.proofs.Common.{◌≡◌, ℕ, ◌+◌, ◌-◌, ◌<◌, ◌≤◌, not, List, [], ◌∷◌, ◌++◌, length, map, Some, arith, refl, sym, ◌∙◌, ap, subst, flat_map}
use Rattle.bdb_mkleaves.proofs.Common.{eq-eqb, All-cons, All-nil, Chain, Content, File, Inline, Set, Tree, Unknown, header_in, joined, page_at, pieces_of, type_in, value_of, IsCounted, IsRun}
use Rattle.bdb_mkleaves.proofs.Common.{AscendIn, ChainFits, ContentFits, content_pages, IsBranch, between, branches_follow, chain_is_branch, no_branch, ascend_from, StandOn, ValueStands, ValuesStand}
use Rattle.bdb_pack.specs.Stored.{AreFull, StandsIn}

-- Chains.

-- the first page of a run
first_link : (g : File) (head : ℕ) (pieces : List (List ℕ)) → IsRun g 0 head pieces
    → (type_in (page_at g head) ≡ Some 7) × ((header_in (page_at g head)).previous ≡ 0) × (1 ≤ (header_in (page_at g head)).entries)
first_link g head [] run = absurd run
first_link g head (piece ∷ []) (count, some, is) =
    (ap type_in is, ap (λ page. (header_in page).previous) is, subst (λ page. 1 ≤ (header_in page).entries) (sym is) some)
first_link g head (piece ∷ next ∷ pieces) ((count, some, is), rest) =
    (ap type_in is, ap (λ page. (header_in page).previous) is, subst (λ page. 1 ≤ (header_in page).entries) (sym is) some)

value_joined : (g : File) (head total : ℕ) → value_of g (Chain head total) ≡ joined (pieces_of g head)
unfolding value_of
value_joined g head total = refl

pub inline_read : (g : File) (bytes : List ℕ) → value_of g (Inline bytes) ≡ bytes
unfolding value_of
inline_read g bytes = refl

chain_fits : (g : File) (size head total beyond : ℕ) (value : List ℕ) → total ≡ length value → StandsIn g size value head beyond
    → ChainFits g head total
chain_fits g size head total beyond value is stands =
    let first = first_link g head stands.pieces stands.run in
    let whole : joined (pieces_of g head) ≡ value = sym (value_joined g head total) ∙ (stands.chain.value total ∙ stands.joined_is) in
    record {
      type = first.0;
      previous = first.1;
      counted = first.2;
      length = ap not (eq-eqb (length (joined (pieces_of g head))) total (ap length whole ∙ sym is));
    }

some_pieces : (most : ℕ) (pieces : List (List ℕ)) → AreFull most pieces → 0 < length pieces
some_pieces most [] full = absurd full
some_pieces most (piece ∷ pieces) full = omega arith

-- Values.

pub values_stand_on : (g : File) (size first beyond : ℕ) (held : List (Content × List ℕ)) → IsCounted g → 1 ≤ first → beyond ≤ g.last + 1
    → ValuesStand g size first beyond held
    → StandOn g (between first beyond) (map (λ (one : Content × List ℕ). one.0) held)
    × AscendIn first beyond (flat_map content_pages (map (λ (one : Content × List ℕ). one.0) held))
values_stand_on g size first beyond [] counted low high stand = grind (arith, no_branch, All-nil)
values_stand_on g size first beyond ((content, value) ∷ held) counted low high (middle, up, more, here, rest) =
    one_more content value here (values_stand_on g size middle beyond held counted (omega (arith, low, up)) high rest)
  where
    contents : List Content
    contents = map (λ (one : Content × List ℕ). one.0) held

    one_more : (content : Content) (value : List ℕ) → ValueStands g size first middle content value
        → StandOn g (between middle beyond) contents × AscendIn middle beyond (flat_map content_pages contents)
        → StandOn g (between first beyond) (content ∷ contents) × AscendIn first beyond (content_pages content ++ flat_map content_pages contents)
    one_more (Inline bytes) value (is, short, same) (on, ascend) = (
      record {
        branch = subst (λ n. IsBranch g (between n beyond) (flat_map content_pages contents)) same on.branch;
        fit = All-cons (ContentFits g) (Inline bytes) contents tt on.fit;
      },
      subst (λ n. AscendIn n beyond (flat_map content_pages contents)) same ascend,
    )
    one_more (Chain head total) value (long, is, at, stands) (on, ascend) =
        let count : head + length stands.pieces ≡ middle = stands.count in
        let chain : IsBranch g (between first middle) (head ∷ []) =
        subst (λ n. IsBranch g (between n middle) (head ∷ [])) at
        (subst (λ n. IsBranch g (between head n) (head ∷ [])) count
        (chain_is_branch g 0 head stands.pieces counted (omega (arith, low, at)) (omega (arith, count, more, high)) stands.run)) in
        let some : 0 < length stands.pieces = some_pieces (size - 26) stands.pieces stands.full in (
          record {
            branch = branches_follow g first middle beyond (head ∷ []) (flat_map content_pages contents) up more chain on.branch;
            fit = All-cons (ContentFits g) (Chain head total) contents (chain_fits g size head total middle value is stands) on.fit;
          },
          (omega (arith, at), ascend_from middle (head + 1) beyond (flat_map content_pages contents) (omega (arith, count, some)) ascend),
        )
    one_more (Set blocks) value stands after = absurd stands
    one_more (Tree root) value stands after = absurd stands
    one_more Unknown value stands after = absurd stands
