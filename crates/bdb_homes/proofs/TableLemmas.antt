-- The claims of a table, group by group.
use Rattle.std.proofs.Common.{◌≡◌, ℕ, ◌+◌, ◌<◌, ◌≤◌, true, List, [], ◌∷◌, ◌++◌, length, map, ap, ◌∙◌, arith, refl, sym, subst, append_assoc}
use Rattle.std.proofs.lemmas.List.{map-append}
use Rattle.std.specs.List.{range_with_len}
use Rattle.bdb_survey.specs.of_format.declared.references.Sort.{Sort}
use Rattle.bdb_survey.specs.of_format.Terms.{File, HashFields, Meta, first_page, is_meta, page_at}
use Rattle.bdb_survey.proofs.of_format.ListLemmas.{range_parts}
use Rattle.bdb_graph.specs.of_image.Buckets.{bucket_names, run_names}
use Rattle.bdb_survey.specs.of_format.declared.metadata.HashMeta.{HashMeta}
use Rattle.bdb_homes.specs.Claims.{Claim, below_in, claim}
use Rattle.bdb_homes.specs.Faces.{AreFaces}
use Rattle.bdb_homes.specs.Leaps.{HasLeaps}
use Rattle.bdb_homes.specs.Runs.{bucket_claim, run_claims}
use Rattle.bdb_homes.specs.Tables.{table_claims}
use Rattle.bdb_homes.specs.Ups.{AreUps}
use Rattle.bdb_homes.specs.declared.face.Face.{Face}
use Rattle.bdb_homes.specs.declared.up.Up.{Up}

map_map : {X Y Z : Type 0} (f : Y → Z) (g : X → Y) (xs : List X) → map f (map g xs) ≡ map (λ x. f (g x)) xs
map_map f g [] = refl
map_map f g (x ∷ xs) = ap (λ ys. f (g x) ∷ ys) (map_map f g xs)

-- a run of pages is that of so many buckets
run_is : (holder : ℕ) (spares : List ℕ) (bucket first n : ℕ) → run_names first n ≡ bucket_names spares bucket n
    → run_claims holder first n ≡ table_claims holder spares bucket n
run_is holder spares bucket first n same =
    sym (map_map (λ (named : Sort × ℕ). bucket_claim holder named.1) _ (range_with_len first n))
    ∙ (ap (map (λ (named : Sort × ℕ). bucket_claim holder named.1)) same
    ∙ map_map (λ (named : Sort × ℕ). bucket_claim holder named.1) _ (range_with_len bucket n))

more_buckets : (holder : ℕ) (spares : List ℕ) (bucket n : ℕ)
    → table_claims holder spares 0 (bucket + n) ≡ table_claims holder spares 0 bucket ++ table_claims holder spares bucket n
more_buckets holder spares bucket n =
    let start : 0 + bucket ≡ bucket = omega arith in
    ap (map (λ b. bucket_claim holder (first_page b spares))) (range_parts 0 bucket n ∙ ap (λ k. range_with_len 0 bucket ++ range_with_len k n) start)
    ∙ map-append (λ b. bucket_claim holder (first_page b spares)) (range_with_len 0 bucket) (range_with_len bucket n)

-- The buckets below one are noted.
pub record AreTabled (faces : List Face) (old ups : List Up) (leaps : List ℕ) (holder : ℕ) (spares : List ℕ) (max_bucket bucket : ℕ) : Type 0 where
  pub low : bucket ≤ max_bucket + 1
  pub len : length ups ≡ length old
  pub has : HasLeaps faces ups leaps
  pub noted : (file : File) (claims : List Claim) → AreFaces file faces → is_meta (page_at file holder) ≡ true → AreUps file old claims
      → AreUps file ups (claims ++ table_claims holder spares 0 bucket)

pub tabled_more : (faces : List Face) (old ups new : List Up) (leaps later : List ℕ) (holder : ℕ) (spares : List ℕ) (max_bucket bucket first n : ℕ)
    → AreTabled faces old ups leaps holder spares max_bucket bucket → run_names first n ≡ bucket_names spares bucket n → bucket + n ≤ max_bucket + 1
    → length new ≡ length ups → HasLeaps faces new later
    → ((file : File) (claims : List Claim) → AreFaces file faces → is_meta (page_at file holder) ≡ true → AreUps file ups claims
    → AreUps file new (claims ++ run_claims holder first n))
    → AreTabled faces old new later holder spares max_bucket (bucket + n)
tabled_more faces old ups new leaps later holder spares max_bucket bucket first n is names within len has note = record {
  low = within;
  len = len ∙ is.len;
  has = has;
  noted = λ file claims faced meta are.
      let before : List Claim = table_claims holder spares 0 bucket in
      let all : (claims ++ before) ++ run_claims holder first n ≡ claims ++ table_claims holder spares 0 (bucket + n) =
      append_assoc claims before (run_claims holder first n)
      ∙ ap (λ more. claims ++ more) (ap (λ more. before ++ more) (run_is holder spares bucket first n names) ∙ sym (more_buckets holder spares bucket n)) in
      subst (AreUps file new) all (note file (claims ++ before) faced meta (is.noted file claims faced meta are));
}

-- the claims of a table are those of its metadata
pub table_below : (holder : ℕ) (meta : HashMeta)
    → map (claim holder) (below_in (Meta (HashFields meta))) ≡ table_claims holder meta.spares 0 (meta.max_bucket + 1)
table_below holder meta = map_map (claim holder) _ (range_with_len 0 (meta.max_bucket + 1))
