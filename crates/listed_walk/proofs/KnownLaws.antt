-- The grids of a picture's blocks, as far as they are kept.
use Rattle.std.proofs.Common.{◌≡◌, ℕ, ◌+◌, ◌*◌, ◌/◌, ◌%◌, ◌<◌, ◌≤◌, if◌then◌else◌, Bool, true, false, List, [], ◌∷◌, ◌++◌, get_or, drop, length, length-append, refl, sym, subst, ◌∙◌, arith, inl, inr}
use Rattle.std.proofs.lemmas.Bool.{cases_eq}
use Rattle.std.proofs.lemmas.List.{get_or_default, get_or_push, get_or_append_left, get_or-drop, length-drop}
use Rattle.std.proofs.lemmas.List.Elements.{All-push}
use Rattle.listed_walk.specs.declared.known.PatternGrids.{PatternGrids}
use Rattle.listed_walk.specs.declared.origins.GridOrigins.{GridOrigins}
use Rattle.listed_walk.specs.GridTables.{AreGridsTo, AreOriginsIn, grid_at, origins_at}
use Rattle.listed_walk.specs.Grids.{AreGridsWithin}
use Rattle.listed_walk.specs.Known.{AreKnown, AreOriginsAt, ArePatternGrids, no_grids, pattern_at, table_at}

module _ (w h : ℕ) (patterns : List PatternGrids) (table : List GridOrigins)
    (is : AreKnown w h patterns table) where
  -- a pattern more
  pub pattern_more : (last : PatternGrids) → ArePatternGrids w h last
      → AreKnown w h (patterns ++ last ∷ []) table
  pattern_more last own = record {
    each = All-push (ArePatternGrids w h) patterns last is.each own;
    few = omega (arith, is.few, length-append patterns (last ∷ []));
    origins = λ n below.
        subst (λ (grids : PatternGrids).
        AreOriginsIn w h (n % 121) (grid_at grids.by_sides.items (n % 121))
        (origins_at table n))
        (sym (get_or_append_left patterns (last ∷ []) no_grids (n / 121)
        (omega (arith, below, is.few)))) (is.origins n below);
  }

  -- or none, if there was no memory for it
  pub pattern_if : (pushed : Bool) (last : PatternGrids) → ArePatternGrids w h last
      → AreKnown w h (if pushed then patterns ++ last ∷ [] else patterns) table
  pattern_if true last own = pattern_more last own
  pattern_if false last own = is

  -- an entry more
  pub origins_more : (last : GridOrigins) → length table < length patterns * 121
      → AreOriginsAt w h patterns (length table) last → AreKnown w h patterns (table ++ last ∷ [])
  origins_more last room own = record {
    each = is.each;
    few = omega (arith, room, length-append table (last ∷ []));
    origins = λ n below. elim (cases_eq n (length table)) [
      | inl same ↦
          subst (λ k. AreOriginsAt w h patterns k (origins_at (table ++ last ∷ []) k)) (sym same)
          (subst (AreOriginsAt w h patterns (length table))
          (sym (get_or_push table last (record { groups = [] }) (length table) refl)) own)
      | inr other ↦
          let before : n < length table = omega (arith, below, length-append table (last ∷ [])) in
          subst (AreOriginsAt w h patterns n)
          (sym (get_or_append_left table (last ∷ []) (record { groups = [] }) n before))
          (is.origins n before)
    ];
  }

  -- or none, if there was no memory for it
  pub origins_if : (pushed : Bool) (last : GridOrigins) → length table < length patterns * 121
      → AreOriginsAt w h patterns (length table) last
      → AreKnown w h patterns (if pushed then table ++ last ∷ [] else table)
  origins_if true last room own = origins_more last room own
  origins_if false last room own = is

  -- the grids of a pattern, and its part of the table
  pub grids_of_pattern : (i first : ℕ) (own : PatternGrids) → i < length patterns → own
      ≡ get_or patterns i own → first ≤ length table → (first < length table → first ≡ i * 121)
      → AreGridsWithin w h (pattern_at patterns i) own.by_sides.items (drop first table)
  grids_of_pattern i first own within own_is short place_is = λ places inside.
      let same : get_or patterns i no_grids ≡ own =
      sym (own_is ∙ get_or_default patterns i own no_grids within) in
      record {
        each = subst (λ (grids : PatternGrids). AreGridsTo w h places 121 grids.by_sides.items) same
            ((is.each i no_grids within).within places inside);
        origins = λ k below there.
            let inside_too : first + k < length table =
            omega (arith, there, length-drop first table) in
            let first_is : first ≡ i * 121 = place_is (omega (arith, inside_too)) in
            let grid : (first + k) % 121 ≡ k = omega (arith, first_is, below) in
            let pattern : (first + k) / 121 ≡ i = omega (arith, first_is, below) in
            let entry : get_or (drop first table) k (record { groups = [] })
            ≡ origins_at table (first + k) =
            get_or-drop first table k (record { groups = [] }) in
            subst (AreOriginsIn w h k (grid_at own.by_sides.items k)) (sym entry)
            (subst (λ (grids : PatternGrids). AreOriginsIn w h k (grid_at grids.by_sides.items k)
            (origins_at table (first + k))) same
            (subst (λ n. AreOriginsIn w h k (grid_at (table_at patterns n) k)
            (origins_at table (first + k))) pattern
            (subst (λ n. AreOriginsIn w h n (grid_at (table_at patterns ((first + k) / 121)) n)
            (origins_at table (first + k))) grid (is.origins (first + k) inside_too))));
      }
