-- The form of a partition if one channel of its ends moves.
use Rattle.std.proofs.Common.{◌≡◌, ℕ, zero, suc, ◌+◌, ◌*◌, ◌<◌, List, [], ◌∷◌, length, get_or, sym, subst, arith}
use Rattle.astc_model.proofs.ConstantLaws.{four_entries}
use Rattle.texel_error.specs.Shown.{Ends}
use Rattle.error_tables.specs.Floors.{form_more, form_less, channel_more, channel_less, with_channel}
use Rattle.error_tables.specs.declared.floors.PartitionFloor.{PartitionFloor}
use Rattle.error_tables.specs.declared.tables.Tables.{Tables}

module _ (a b c d moved : ℕ) where
  first : moved + b + c + d + a ≡ a + b + c + d + moved
  first = omega arith

  second : a + moved + c + d + b ≡ a + b + c + d + moved
  second = omega arith

  third : a + b + moved + d + c ≡ a + b + c + d + moved
  third = omega arith

  fourth : a + b + c + moved + d ≡ a + b + c + d + moved
  fourth = omega arith

module _ (tables : Tables) (floor : PartitionFloor) (c : ℕ) (pair : ℕ × ℕ) (ends : Ends) where
  abbrev MoreMoves : Type 0
  MoreMoves = form_more tables floor (with_channel c pair ends) + channel_more tables floor c
      (get_or ends.0 c 0) (get_or ends.1 c 0)
      ≡ form_more tables floor ends + channel_more tables floor c pair.0 pair.1

  abbrev LessMoves : Type 0
  LessMoves = form_less tables floor (with_channel c pair ends) + channel_less tables floor c
      (get_or ends.0 c 0) (get_or ends.1 c 0)
      ≡ form_less tables floor ends + channel_less tables floor c pair.0 pair.1

module _ (tables : Tables) (floor : PartitionFloor) (pair : ℕ × ℕ) (r g b a s h e d : ℕ) where
  abbrev eight : Ends
  eight = (r ∷ g ∷ b ∷ a ∷ [], s ∷ h ∷ e ∷ d ∷ [])

  more_at : (c : ℕ) → c < 4 → MoreMoves tables floor c pair eight
  more_at zero within = first _ _ _ _ _
  more_at (suc zero) within = second _ _ _ _ _
  more_at (suc (suc zero)) within = third _ _ _ _ _
  more_at (suc (suc (suc zero))) within = fourth _ _ _ _ _
  more_at (suc (suc (suc (suc k)))) within = absurd (omega arith)

  less_at : (c : ℕ) → c < 4 → LessMoves tables floor c pair eight
  less_at zero within = first _ _ _ _ _
  less_at (suc zero) within = second _ _ _ _ _
  less_at (suc (suc zero)) within = third _ _ _ _ _
  less_at (suc (suc (suc zero))) within = fourth _ _ _ _ _
  less_at (suc (suc (suc (suc k)))) within = absurd (omega arith)

-- the sums of the ends with a channel replaced, and what it was, are the sums of the ends and what
-- it is
module _ (tables : Tables) (floor : PartitionFloor) (c : ℕ) (pair : ℕ × ℕ) (within : c < 4)
    (xs ys : List ℕ) (four : length xs ≡ 4) (also_four : length ys ≡ 4) where
  abbrev of_entries : (P : Ends → Type 0)
      → ((r g b a s h e d : ℕ) → P (r ∷ g ∷ b ∷ a ∷ [], s ∷ h ∷ e ∷ d ∷ [])) → P (xs, ys)
  of_entries P all =
      subst (λ l. P (l, ys)) (sym (four_entries xs four))
      (subst (λ l. P (get_or xs 0 0 ∷ get_or xs 1 0 ∷ get_or xs 2 0 ∷ get_or xs 3 0 ∷ [], l))
      (sym (four_entries ys also_four)) (all _ _ _ _ _ _ _ _))

  pub more_moves : MoreMoves tables floor c pair (xs, ys)
  more_moves = of_entries (MoreMoves tables floor c pair) (λ r g b a s h e d.
      more_at tables floor pair r g b a s h e d c within)

  pub less_moves : LessMoves tables floor c pair (xs, ys)
  less_moves = of_entries (LessMoves tables floor c pair) (λ r g b a s h e d.
      less_at tables floor pair r g b a s h e d c within)

-- the multiples that a channel adds are those of the form by its ends, over plain numbers
pub one_more-is : (share factor a b c t x y others : ℕ)
    → share * factor * factor * a * (x * x) + 2 * (share * factor * factor * b) * (x * y) + share
    * factor * factor * c * (y * y) + (others + share * t)
    ≡ others + share * (factor * x * (factor * x) * a + 2 * (factor * x * (factor * y) * b) + factor
    * y * (factor * y) * c + t)
one_more-is share factor a b c t x y others = omega arith

pub one_less-is : (share factor a b x y others : ℕ)
    → 2 * (share * factor * a) * x + 2 * (share * factor * b) * y + others
    ≡ others + share * (2 * (factor * x * a + factor * y * b))
one_less-is share factor a b x y others = omega arith
