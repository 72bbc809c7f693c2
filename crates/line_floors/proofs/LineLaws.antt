-- A texel is at least as far from any blend of a line's endpoints as from the line.
use Rattle.std.proofs.Common.{◌≡◌, ℕ, zero, suc, ◌+◌, ◌-◌, ◌*◌, ◌≤◌, max, List, [], ◌∷◌, get_or, refl, sym, ap, ◌∙◌, arith, ℤ, pos, neg_ℤ, ◌+ℤ◌, ◌-ℤ◌, ◌*ℤ◌}
use Rattle.std.specs.Int.RustNames.{unsigned_abs}
use Rattle.std.proofs.Math.IntN.{zero-*ℤ, *ℤ-zero, *ℤ_comm}
use Rattle.std.proofs.lemmas.Int.{ints}
use Rattle.astc_model.specs.Errors.{squared_difference}
use Rattle.line_floors.specs.Lengths.{doubled, slope, slopes_of, dot, length_of}
use Rattle.line_floors.proofs.WholeLaws.{times_plus, plus_times, four_terms, times_neg, times_times, square_is, own_square}

-- ---- products

times_minus : (k x y : ℤ) → k *ℤ (x -ℤ y) ≡ k *ℤ x -ℤ k *ℤ y
times_minus k x y = rw (times_plus k x (neg_ℤ y), times_neg k y) refl

swapped : (x y z : ℤ) → x *ℤ (y *ℤ z) ≡ y *ℤ (x *ℤ z)
swapped x y z =
    sym (times_times x y z) ∙ ap (λ t. t *ℤ z) (*ℤ_comm x y) ∙ times_times y x z

both : (m n : ℕ) (x y : ℤ) → (pos m *ℤ x) *ℤ (pos n *ℤ y) ≡ pos (m * n) *ℤ (x *ℤ y)
both m n x y =
    times_times (pos m) x (pos n *ℤ y) ∙ ap (λ t. pos m *ℤ t) (swapped x (pos n) y)
    ∙ sym (times_times (pos m) (pos n) (x *ℤ y))

two_squared : (x y : ℤ) → (x +ℤ y) *ℤ (x +ℤ y) ≡ x *ℤ x +ℤ (x *ℤ y +ℤ x *ℤ y) +ℤ y *ℤ y
two_squared x y =
    omega (
      arith,
      ints,
      times_plus (x +ℤ y) x y,
      plus_times x y x,
      plus_times x y y,
      *ℤ_comm y x,
    )

-- ---- one channel with its target t and the endpoints k * a and k * b

-- the blend minus the target, in units of 1/32 of those of the target
mixed_is : (k a b t u w : ℕ) → u + w ≡ 64 → pos 32 *ℤ (pos (2 * (k * a)) -ℤ pos t)
    +ℤ pos (k * w) *ℤ (pos b -ℤ pos a) ≡ pos (k * a * u + k * b * w) -ℤ pos (32 * t)
mixed_is k a b t u w whole =
    omega (
      arith,
      ints,
      times_minus (pos 32) (pos (2 * (k * a))) (pos t),
      times_minus (pos (k * w)) (pos b) (pos a),
      ap (λ n. k * a * n) whole,
    )

-- the term of a channel in the scalar product of the start minus the target with the line
abbrev pub short : (g a b s t : ℕ) → ℤ
short g a b s t = slope g a b *ℤ (pos s -ℤ pos t)

channel_law : (g k a b t u w : ℕ) → u + w ≡ 64
    → pos (g * squared_difference (k * a * u + k * b * w) (32 * t))
    ≡ pos (1024 * (g * squared_difference (2 * (k * a)) t))
    +ℤ (pos (32 * (k * w)) *ℤ short g a b (2 * (k * a)) t
    +ℤ pos (32 * (k * w)) *ℤ short g a b (2 * (k * a)) t)
    +ℤ pos (k * w * (k * w) * (g * squared_difference b a))
channel_law g k a b t u w whole =
    let x : ℤ = pos (2 * (k * a)) -ℤ pos t in
    let d : ℤ = pos b -ℤ pos a in
    let v : ℤ = pos 32 *ℤ x +ℤ pos (k * w) *ℤ d in
    plain x d _ _ _
    (square_is v (k * a * u + k * b * w) (32 * t) (mixed_is k a b t u w whole))
    (square_is x (2 * (k * a)) t refl) (square_is d b a refl)
  where
    plain : (x d : ℤ) (q p l : ℕ) → (pos 32 *ℤ x +ℤ pos (k * w) *ℤ d)
        *ℤ (pos 32 *ℤ x +ℤ pos (k * w) *ℤ d) ≡ pos q → x *ℤ x ≡ pos p → d *ℤ d ≡ pos l
        → pos (g * q) ≡ pos (1024 * (g * p))
        +ℤ (pos (32 * (k * w)) *ℤ ((pos g *ℤ d) *ℤ x) +ℤ pos (32 * (k * w)) *ℤ ((pos g *ℤ d) *ℤ x))
        +ℤ pos (k * w * (k * w) * (g * l))
    plain x d q p l whole own line =
        let cross : pos g *ℤ (pos (32 * (k * w)) *ℤ (x *ℤ d))
        ≡ pos (32 * (k * w)) *ℤ ((pos g *ℤ d) *ℤ x) =
        swapped (pos g) (pos (32 * (k * w))) (x *ℤ d)
        ∙ ap (λ z. pos (32 * (k * w)) *ℤ z)
        (ap (λ z. pos g *ℤ z) (*ℤ_comm x d) ∙ sym (times_times (pos g) d x)) in
        let parts : pos q ≡ pos (1024 * p)
        +ℤ pos (32 * (k * w)) *ℤ (x *ℤ d) +ℤ pos (32 * (k * w)) *ℤ (x *ℤ d)
        +ℤ pos (k * w * (k * w) * l) =
        sym whole ∙ two_squared (pos 32 *ℤ x) (pos (k * w) *ℤ d)
        ∙ rw (both 32 32 x x, both 32 (k * w) x d, both (k * w) (k * w) d d, own, line)
        (omega (arith, ints)) in
        omega (
          arith,
          ints,
          ap (λ z. pos g *ℤ z) parts,
          four_terms (pos g) (pos (1024 * p)) (pos (32 * (k * w)) *ℤ (x *ℤ d))
              (pos (32 * (k * w)) *ℤ (x *ℤ d)) (pos (k * w * (k * w) * l)),
          cross,
        )

-- ---- all channels

-- the squared distance of the targets from the blend with the weight w, in units of 1/32 of theirs
abbrev pub mixed_distance : (gains first second targets : List ℕ) → (w : ℕ) → ℕ
mixed_distance g f h t w =
    0 + get_or g 0 0 * squared_difference (get_or f 0 0 * (64 - w) + get_or h 0 0 * w)
    (32 * get_or t 0 0)
    + get_or g 1 0 * squared_difference (get_or f 1 0 * (64 - w) + get_or h 1 0 * w)
    (32 * get_or t 1 0)
    + get_or g 2 0 * squared_difference (get_or f 2 0 * (64 - w) + get_or h 2 0 * w)
    (32 * get_or t 2 0)
    + get_or g 3 0 * squared_difference (get_or f 3 0 * (64 - w) + get_or h 3 0 * w)
    (32 * get_or t 3 0)

-- the squared distance of the targets from the first endpoint
abbrev pub first_distance : (gains first targets : List ℕ) → ℕ
first_distance g f t =
    get_or g 0 0 * squared_difference (2 * get_or f 0 0)
    (get_or t 0 0) + get_or g 1 0 * squared_difference (2 * get_or f 1 0) (get_or t 1 0)
    + get_or g 2 0 * squared_difference (2 * get_or f 2 0)
    (get_or t 2 0) + get_or g 3 0 * squared_difference (2 * get_or f 3 0) (get_or t 3 0)

-- the scalar product of the line's slopes with the vector from the targets to the start
abbrev pub short_of : (gains starts a b targets : List ℕ) → ℤ
short_of g s a b t =
    short (get_or g 0 0) (get_or a 0 0) (get_or b 0 0) (get_or s 0 0) (get_or t 0 0)
    +ℤ short (get_or g 1 0) (get_or a 1 0) (get_or b 1 0) (get_or s 1 0) (get_or t 1 0)
    +ℤ short (get_or g 2 0) (get_or a 2 0) (get_or b 2 0) (get_or s 2 0) (get_or t 2 0)
    +ℤ short (get_or g 3 0) (get_or a 3 0) (get_or b 3 0) (get_or s 3 0) (get_or t 3 0)

pub value_is : (g s a b t : List ℕ) → neg_ℤ (dot (slopes_of g a b) s) +ℤ dot (slopes_of g a b) t
    ≡ neg_ℤ (short_of g s a b t)
value_is g s a b t = omega (arith, ints, own 0, own 1, own 2, own 3)
  where
    own : (c : ℕ) → short (get_or g c 0) (get_or a c 0) (get_or b c 0) (get_or s c 0) (get_or t c 0)
        ≡ slope (get_or g c 0) (get_or a c 0) (get_or b c 0) *ℤ pos (get_or s c 0)
        -ℤ slope (get_or g c 0) (get_or a c 0) (get_or b c 0) *ℤ pos (get_or t c 0)
    own c = times_minus (slope (get_or g c 0) (get_or a c 0) (get_or b c 0)) (pos (get_or s c 0))
        (pos (get_or t c 0))

abbrev pub times : ℕ → List ℕ → List ℕ
times k xs = k * get_or xs 0 0 ∷ k * get_or xs 1 0 ∷ k * get_or xs 2 0 ∷ k * get_or xs 3 0 ∷ []

texel_law : (k : ℕ) (g a b t : List ℕ) (w : ℕ) → w ≤ 64
    → pos (mixed_distance g (times k a) (times k b) t w)
    ≡ pos (1024 * first_distance g (times k a) t)
    +ℤ (pos (32 * (k * w)) *ℤ short_of g (doubled (times k a)) a b t
    +ℤ pos (32 * (k * w)) *ℤ short_of g (doubled (times k a)) a b t)
    +ℤ pos (k * w * (k * w) * length_of g a b)
texel_law k g a b t w fits =
    four (pos (32 * (k * w))) (k * w * (k * w)) _ _ _ _ _ _ _ _ _ _ _ _ _ _ _ _ (own 0) (own 1)
    (own 2) (own 3)
  where
    own : (c : ℕ) → pos (get_or g c 0 * squared_difference
        (k * get_or a c 0 * (64 - w) + k * get_or b c 0 * w) (32 * get_or t c 0))
        ≡ pos (1024 * (get_or g c 0 * squared_difference (2 * (k * get_or a c 0)) (get_or t c 0)))
        +ℤ (pos (32 * (k * w)) *ℤ short (get_or g c 0) (get_or a c 0) (get_or b c 0)
        (2 * (k * get_or a c 0)) (get_or t c 0)
        +ℤ pos (32 * (k * w)) *ℤ short (get_or g c 0) (get_or a c 0) (get_or b c 0)
        (2 * (k * get_or a c 0)) (get_or t c 0))
        +ℤ pos (k * w * (k * w)
        * (get_or g c 0 * squared_difference (get_or b c 0) (get_or a c 0)))
    own c = channel_law (get_or g c 0) k (get_or a c 0) (get_or b c 0) (get_or t c 0) (64 - w) w
        (omega arith)

    four : (z : ℤ) (n : ℕ) (q r s t x y u v a b c d : ℕ) (e f g h : ℤ)
        → pos q ≡ pos (1024 * x) +ℤ (z *ℤ e +ℤ z *ℤ e) +ℤ pos (n * a)
        → pos r ≡ pos (1024 * y) +ℤ (z *ℤ f +ℤ z *ℤ f) +ℤ pos (n * b)
        → pos s ≡ pos (1024 * u) +ℤ (z *ℤ g +ℤ z *ℤ g) +ℤ pos (n * c)
        → pos t ≡ pos (1024 * v) +ℤ (z *ℤ h +ℤ z *ℤ h) +ℤ pos (n * d)
        → pos (0 + q + r + s + t) ≡ pos (1024 * (x + y + u + v))
        +ℤ (z *ℤ (e +ℤ f +ℤ g +ℤ h) +ℤ z *ℤ (e +ℤ f +ℤ g +ℤ h)) +ℤ pos (n * (a + b + c + d))
    four z n q r s t x y u v a b c d e f g h one two three last =
        omega (arith, ints, four_terms z e f g h, one, two, three, last)

-- ---- the weight that is best

-- the inequality that the best weight gives, in plain numbers; l is the squared length of the line,
-- and m is a multiple of the weight
best : (l m q x d : ℕ) (y : ℤ) → pos q ≡ pos (1024 * x)
    +ℤ (pos (32 * m) *ℤ y +ℤ pos (32 * m) *ℤ y) +ℤ pos (m * m * l) → y *ℤ y ≡ pos d
    → l * (1024 * x) ≤ l * q + 1024 * d
best l m q x d y law square =
    let z : ℤ = pos (l * m) +ℤ pos 32 *ℤ y in
    let positive : z *ℤ z ≡ pos (unsigned_abs z * unsigned_abs z) = own_square z in
    let cross : pos (l * m) *ℤ (pos 32 *ℤ y) ≡ pos l *ℤ (pos (32 * m) *ℤ y) =
    sym (times_times (pos (l * m)) (pos 32) y)
    ∙ ap (λ n. pos n *ℤ y) same ∙ times_times (pos l) (pos (32 * m)) y in
    let last : (pos 32 *ℤ y) *ℤ (pos 32 *ℤ y) ≡ pos (1024 * d) =
    both 32 32 y y ∙ ap (λ n. pos 1024 *ℤ n) square in
    omega (
      arith,
      ints,
      positive,
      two_squared (pos (l * m)) (pos 32 *ℤ y),
      cross,
      last,
      ap (λ n. pos l *ℤ n) law,
      times_plus (pos l) (pos (1024 * x) +ℤ (pos (32 * m) *ℤ y +ℤ pos (32 * m) *ℤ y))
          (pos (m * m * l)),
      times_plus (pos l) (pos (1024 * x)) (pos (32 * m) *ℤ y +ℤ pos (32 * m) *ℤ y),
      times_plus (pos l) (pos (32 * m) *ℤ y) (pos (32 * m) *ℤ y),
    )
  where
    same : l * m * 32 ≡ l * (32 * m)
    same = omega arith

-- if the endpoints are equal in a channel, its term is 0
flat : (g a b s t : ℕ) → g * squared_difference b a ≡ 0 → short g a b s t ≡ pos 0
flat zero a b s t none = rw (zero-*ℤ (pos b -ℤ pos a), zero-*ℤ (pos s -ℤ pos t)) refl
flat (suc g) a b s t none =
    let same : pos b -ℤ pos a ≡ pos 0 = equal a b (omega (arith, none)) in
    rw (same, *ℤ-zero (pos (suc g)), zero-*ℤ (pos s -ℤ pos t)) refl
  where
    equal : (a b : ℕ) → squared_difference b a ≡ 0 → pos b -ℤ pos a ≡ pos 0
    equal a b none = elim_gap (b - a) (a - b) refl refl none
      where
        elim_gap : (d u : ℕ) → b - a ≡ d → a - b ≡ u → d * d + u * u ≡ 0
            → pos b -ℤ pos a ≡ pos 0
        elim_gap zero zero up down none = omega (arith, ints, up, down)
        elim_gap zero (suc u) up down none = absurd (omega (arith, none))
        elim_gap (suc d) u up down none = absurd (omega (arith, none))

all_flat : (g s a b t : List ℕ) → length_of g a b ≡ 0 → short_of g s a b t ≡ pos 0
all_flat g s a b t none =
    rw (
      own 0 (omega (arith, none)),
      own 1 (omega (arith, none)),
      own 2 (omega (arith, none)),
      own 3 (omega (arith, none)),
    ) refl
  where
    own : (c : ℕ) → get_or g c 0 * squared_difference (get_or b c 0) (get_or a c 0) ≡ 0
        → short (get_or g c 0) (get_or a c 0) (get_or b c 0) (get_or s c 0) (get_or t c 0) ≡ pos 0
    own c = flat (get_or g c 0) (get_or a c 0) (get_or b c 0) (get_or s c 0) (get_or t c 0)

with_length : (l m q x d : ℕ) (y : ℤ) → pos q ≡ pos (1024 * x)
    +ℤ (pos (32 * m) *ℤ y +ℤ pos (32 * m) *ℤ y) +ℤ pos (m * m * l) → y *ℤ y ≡ pos d
    → (l ≡ 0 → y ≡ pos 0) → max l 1 * (1024 * x) ≤ max l 1 * q + 1024 * d
with_length zero m q x d y law square none =
    omega (
      arith,
      ints,
      law,
      ap (λ z. pos (32 * m) *ℤ z) (none refl) ∙ *ℤ-zero (pos (32 * m)),
    )
with_length (suc l) m q x d y law square none =
    let same : max (suc l) 1 ≡ suc l = omega arith in
    rw same (best (suc l) m q x d y law square)

pub texel_floor : (k : ℕ) (g a b t : List ℕ) (w d : ℕ) → w ≤ 64
    → short_of g (doubled (times k a)) a b t *ℤ short_of g (doubled (times k a)) a b t ≡ pos d
    → max (length_of g a b) 1 * (1024 * first_distance g (times k a) t)
    ≤ max (length_of g a b) 1 * mixed_distance g (times k a) (times k b) t w + 1024 * d
texel_floor k g a b t w d fits square =
    with_length (length_of g a b) (k * w) _ _ d (short_of g (doubled (times k a)) a b t)
    (texel_law k g a b t w fits) square (all_flat g (doubled (times k a)) a b t)
