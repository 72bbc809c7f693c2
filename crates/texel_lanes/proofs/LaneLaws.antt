-- The lanes of the results of vector operations.
use Rattle.std.proofs.Common.{◌≡◌, ℕ, zero, suc, ◌+◌, ◌-◌, ◌*◌, ◌/◌, ◌%◌, ◌^◌, ◌<◌, ◌≤◌, List, [], ◌∷◌, Bool, true, false, cond, ◌&&◌, ◌||◌, ◌==◌, ◌⊎◌, inl, inr, ltb, leb, length, get_or, map, replicate, refl, sym, ap, subst, ◌∙◌, arith, w8, w16, bit_and, bit_or, Fits}
use Rattle.std.specs.Prelude.{sum_by}
use Rattle.std.specs.Simd.Lanes.{zip2, sel_l, top, Each1, chunk, pair_sums, products, dots, fold_l}
use lib.Dec.{T}
use lib.Lanes.{all_below}
use Rattle.std.proofs.Math.Facts.{yes_ltb, yes_leb}
use Rattle.std.proofs.lemmas.Bool.{le-leb, lt-leb, lt-ltb, le-ltb, ltb-true, ltb-false}
use Rattle.std.proofs.lemmas.Nat.{and_mask, mul-le}
use Rattle.std.proofs.lemmas.Simd.{length-zip2, get_or-zip2, get_or-replicate, length-replicate, length-sel_l, get_or-sel_l, tops_compared, length-swz_l, get_or-swz_l, get_or-swz_l_below, swz_l, SwzOk, SwzOk-from_below, Each1-from_get_or, Each1-get_or, get_or-chunk}
use Rattle.std.specs.Int.Bits.{or_zero_l, or_zero_r}
use Rattle.texel_lanes.specs.Lanes.{HasLanes, eight_sum, far_apart, four_products, pairs_of, place_in, squared_apart}

-- the lanes of an operator on two vectors
pub zipped : (n : ℕ) (f : ℕ → ℕ → ℕ) (a b : List ℕ) → length a ≡ n → length b ≡ n
    → HasLanes n (zip2 f a b) (λ k. f (get_or a k 0) (get_or b k 0))
zipped n f a b p q = record {
  long = length-zip2 f a b (p ∙ sym q) ∙ p;
  each = λ k l. get_or-zip2 f a b k 0 0 0 (omega arith) (omega arith);
}

-- the lanes of an operator on a vector and a repeated number
pub zipped_splat : (n : ℕ) (f : ℕ → ℕ → ℕ) (a : List ℕ) (x : ℕ) → length a ≡ n
    → HasLanes n (zip2 f a (replicate n x)) (λ k. f (get_or a k 0) x)
zipped_splat n f a x p =
    let h = zipped n f a (replicate n x) p (length-replicate n x) in
    record {
      long = h.long;
      each = λ k l. h.each k l ∙ ap (f (get_or a k 0)) (get_or-replicate n k x 0 l);
    }

-- the lanes of a selection between two vectors by the comparison of a repeated number with a third
-- vector
pub chosen_from : (n : ℕ) (t : ℕ → ℕ → Bool) (x : ℕ) (a xs ys : List ℕ) → length a ≡ n
    → length xs ≡ n → length ys ≡ n
    → HasLanes n (sel_l (zip2 t (replicate n x) a) xs ys)
    (λ k. cond (t x (get_or a k 0)) (get_or xs k 0) (get_or ys k 0))
chosen_from n t x a xs ys p q r =
    let splat : length (replicate n x) ≡ n = length-replicate n x in
    let long : length (zip2 t (replicate n x) a) ≡ n =
    length-zip2 t (replicate n x) a (splat ∙ sym p) ∙ splat in
    record {
      long = length-sel_l _ xs ys (long ∙ sym q) (long ∙ sym r) ∙ long;
      each = λ k l.
          get_or-sel_l _ xs ys k 0 (omega arith) (omega arith) (omega arith)
          ∙ ap (λ b. cond b (get_or xs k 0) (get_or ys k 0))
          (get_or-zip2 t (replicate n x) a k 0 0 false (omega arith) (omega arith)
          ∙ ap (λ y. t y (get_or a k 0)) (get_or-replicate n k x 0 l));
    }

-- the low four bits of each lane
pub low_bits : (v : List ℕ) → length v ≡ 16
    → HasLanes 16 (zip2 bit_and v (replicate 16 15)) (λ k. get_or v k 0 % 16)
low_bits v long =
    let h = zipped_splat 16 bit_and v 15 long in
    record { long = h.long; each = λ k l. h.each k l ∙ and_mask (get_or v k 0) 4 }

module _ (js : List ℕ) (f : ℕ → ℕ) (h : HasLanes 16 js f)
    (small : (k : ℕ) → k < 16 → f k < 16) where
  -- indices below 16 are valid for a look-up
  pub may_look_up : SwzOk w8 16 16 0 js
  may_look_up =
      let long = h.long in
      SwzOk-from_below w8 16 1 16 0 js refl (omega arith) (Each1-from_get_or (λ j. j < 16) js 0
      (λ i l. omega (arith, h.each i (omega arith), small i (omega arith))))

  -- the lanes of a look-up
  pub looked_up : (table : List ℕ) → HasLanes 16 (swz_l w8 16 table 0 js)
      (λ k. get_or table (f k) 0)
  looked_up table =
      let long = h.long in
      record {
        long = length-swz_l w8 16 table 0 js ∙ long;
        each = λ k l.
            let e = h.each k l in
            get_or-swz_l_below w8 16 table 0 js k (omega arith) (omega (arith, small k l))
            ∙ ap (λ j. get_or table j 0) (omega arith);
      }

both : (a b : Bool) → T a → T b → T (a && b)
both true b p q = q
both false b p q = elim p [ ]

-- a list whose numbers are all below a bound passes the test of this
pub below_by_test : (bound : ℕ) (xs : List ℕ)
    → ((k : ℕ) → k < length xs → get_or xs k 0 < bound) → T (all_below bound xs)
below_by_test bound [] each = tt
below_by_test bound (x ∷ xs) each = both (ltb x bound) (all_below bound xs)
    (yes_ltb (each 0 (omega arith)))
    (below_by_test bound xs (λ k l. each (suc k) (omega arith)))

sums_same : (a b c d : ℕ) → a ≡ c → b ≡ d → a + b ≡ c + d
sums_same a b c d p q = omega arith

-- the sums of neighbouring lanes
pub pair_sum_at : (xs : List ℕ) (t : ℕ) → 2 * t + 1 < length xs
    → get_or (pair_sums xs) t 0 ≡ get_or xs (2 * t) 0 + get_or xs (2 * t + 1) 0
pair_sum_at [] t l = absurd (omega arith)
pair_sum_at (x ∷ []) t l = absurd (omega arith)
pair_sum_at (x ∷ y ∷ xs) zero l = refl
pair_sum_at (x ∷ y ∷ xs) (suc t) l =
    let first : 2 * suc t ≡ suc (suc (2 * t)) = omega arith in
    let second : suc (suc (2 * t)) + 1 ≡ suc (suc (2 * t + 1)) = omega arith in
    rw first (rw second (pair_sum_at xs t (omega arith)))

pub pair_count : (xs : List ℕ) (n : ℕ) → length xs ≡ 2 * n → length (pair_sums xs) ≡ n
pair_count [] zero l = refl
pair_count (x ∷ []) zero l = absurd (omega arith)
pair_count (x ∷ y ∷ xs) zero l = absurd (omega arith)
pair_count [] (suc n) l = absurd (omega arith)
pair_count (x ∷ []) (suc n) l = absurd (omega arith)
pair_count (x ∷ y ∷ xs) (suc n) l = ap suc (pair_count xs n (omega arith))

-- the lanes of sums of four products
pub dots_are : (xs ys : List ℕ) → length xs ≡ 16 → length ys ≡ 16
    → HasLanes 4 (dots xs ys) (four_products xs ys)
dots_are xs ys p q =
    let all : length (products xs ys) ≡ 16 = length-zip2 (λ x y. x * y) xs ys (p ∙ sym q) ∙ p in
    let pairs : length (pair_sums (products xs ys)) ≡ 8 = pair_count (products xs ys) 8 all in
    record {
      long = pair_count (pair_sums (products xs ys)) 4 pairs;
      each = λ t l.
          let product : (k : ℕ) → k < 16 → get_or (products xs ys) k 0
          ≡ get_or xs k 0 * get_or ys k 0 =
          λ k l. get_or-zip2 (λ x y. x * y) xs ys k 0 0 0 (omega arith) (omega arith) in
          let pair : (k : ℕ) → k < 8 → get_or (pair_sums (products xs ys)) k 0
          ≡ get_or xs (2 * k) 0 * get_or ys (2 * k) 0 + get_or xs (2 * k + 1) 0 * get_or ys
          (2 * k + 1) 0 =
          λ k l. pair_sum_at (products xs ys) k (omega arith)
          ∙ sums_same _ _ _ _ (product (2 * k) (omega arith))
          (product (2 * k + 1) (omega arith)) in
          let one : 2 * (2 * t) ≡ 4 * t = omega arith in
          let three : 2 * (2 * t + 1) ≡ 4 * t + 2 = omega arith in
          let four : 4 * t + 2 + 1 ≡ 4 * t + 3 = omega arith in
          pair_sum_at (pair_sums (products xs ys)) t (omega arith)
          ∙ sums_same _ _ _ _ (pair (2 * t) (omega arith)) (pair (2 * t + 1) (omega arith))
          ∙ (rw one (rw three (rw four refl)));
    }

-- ---- lanes of results from the lanes of their operands

-- the lanes of a vector
pub own : (n : ℕ) (v : List ℕ) → length v ≡ n → HasLanes n v (λ k. get_or v k 0)
own n v long = record { long = long; each = λ k l. refl }

pub splat : (n x : ℕ) → HasLanes n (replicate n x) (λ k. x)
splat n x = record { long = length-replicate n x; each = λ k l. get_or-replicate n k x 0 l }

pub same_lanes : (n : ℕ) (v : List ℕ) (f g : ℕ → ℕ) → HasLanes n v f
    → ((k : ℕ) → k < n → f k ≡ g k) → HasLanes n v g
same_lanes n v f g h same = record { long = h.long; each = λ k l. h.each k l ∙ same k l }

pub made : (n : ℕ) (f : ℕ → ℕ → ℕ) (a b : List ℕ) (g h : ℕ → ℕ) → HasLanes n a g → HasLanes n b h
    → HasLanes n (zip2 f a b) (λ k. f (g k) (h k))
made n f a b g h p q = record {
  long = length-zip2 f a b (p.long ∙ sym q.long) ∙ p.long;
  each = λ k l.
      let along = p.long in
      let blong = q.long in
      get_or-zip2 f a b k 0 0 0 (omega arith) (omega arith)
      ∙ ap (λ x. f x (get_or b k 0)) (p.each k l) ∙ ap (f (g k)) (q.each k l);
}

-- the sum of two lanes of 16 bits, which wraps
abbrev pub wrapped_sum : ℕ → ℕ → ℕ
wrapped_sum a b = (a + b) % 65536

abbrev pub wrapped_product : ℕ → ℕ → ℕ
wrapped_product a b = a * b % 65536

abbrev pub wrapped_difference : ℕ → ℕ → ℕ
wrapped_difference a b = (a + (65536 - b)) % 65536

abbrev pub shifted : ℕ → ℕ → ℕ
shifted a b = a / 2 ^ b

-- ---- two runs of sixteen

or_first : (a b : Bool) → T a → T (a || b)
or_first true b p = p
or_first false b p = elim p [ ]

or_second : (a b : Bool) → T b → T (a || b)
or_second true b p = tt
or_second false b p = p

pub may_be_looked_up : (x : ℕ) → 128 ≤ x ⊎ x < 16 → T (leb 128 x || ltb x 16)
may_be_looked_up x (inl p) = or_first (leb 128 x) (ltb x 16) (yes_leb p)
may_be_looked_up x (inr p) = or_second (leb 128 x) (ltb x 16) (yes_ltb p)

cond_of : (b : Bool) (x y : ℕ) → b ≡ true → cond b 0 x ≡ cond b 0 y
cond_of b x y e = rw e refl

pub lane_in_run : (table : List ℕ) (start : ℕ) (js : List ℕ) (k : ℕ) → k < 16 → length js ≡ 16
    → 128 ≤ get_or js k 0 ⊎ get_or js k 0 < 16
    → get_or (swz_l w8 16 (chunk start 16 table) 0 js) k 0
    ≡ cond (leb 128 (get_or js k 0)) 0 (get_or table (start + get_or js k 0) 0)
lane_in_run table start js k l long (inl p) =
    get_or-swz_l w8 16 (chunk start 16 table) 0 js k (omega arith)
    ∙ cond_of (leb 128 (get_or js k 0)) _ _ (le-leb 128 (get_or js k 0) p)
lane_in_run table start js k l long (inr p) =
    let at : 16 * ((0 + k) / 16) + get_or js k 0 ≡ get_or js k 0 = omega arith in
    get_or-swz_l w8 16 (chunk start 16 table) 0 js k (omega arith)
    ∙ ap (λ x. cond (leb 128 (get_or js k 0)) 0 x)
    (ap (λ i. get_or (chunk start 16 table) i 0) at ∙ get_or-chunk start 16 table
    (get_or js k 0) 0 p)

or_nothing : (x : ℕ) → bit_or x 0 ≡ x
or_nothing x = or_zero_r x

nothing_or : (x : ℕ) → bit_or 0 x ≡ x
nothing_or x = or_zero_l x

pub one_of_two : (table : List ℕ) (s o a b : ℕ) → (a < 16) × (128 ≤ b) ⊎ (128 ≤ a) × (b < 16)
    → bit_or (cond (leb 128 a) 0 (get_or table (s + a) 0))
    (cond (leb 128 b) 0 (get_or table (o + b) 0))
    ≡ get_or table (place_in s o a b) 0
one_of_two table s o a b (inl (p, q)) =
    rw (lt-leb 128 a (omega arith), le-leb 128 b q, lt-ltb a 16 p)
    (or_nothing (get_or table (s + a) 0))
one_of_two table s o a b (inr (p, q)) =
    rw (le-leb 128 a p, lt-leb 128 b (omega arith), le-ltb a 16 (omega arith))
    (nothing_or (get_or table (o + b) 0))

-- ---- four weights, each repeated four times

abbrev pub spread_list : List ℕ → ℕ → List ℕ
spread_list xs a = get_or xs a 0 ∷ get_or xs a 0 ∷ get_or xs a 0 ∷ get_or xs a 0
    ∷ get_or xs (a + 1) 0 ∷ get_or xs (a + 1) 0 ∷ get_or xs (a + 1) 0 ∷ get_or xs (a + 1) 0 ∷ []

spread_at : (xs : List ℕ) (a k : ℕ) → k < 8
    → get_or (spread_list xs a) k 0 ≡ get_or xs (a + k / 4) 0
spread_at xs a zero l = ap (λ i. get_or xs i 0) (omega arith)
spread_at xs a (suc zero) l = ap (λ i. get_or xs i 0) (omega arith)
spread_at xs a (suc (suc zero)) l = ap (λ i. get_or xs i 0) (omega arith)
spread_at xs a (suc (suc (suc zero))) l = ap (λ i. get_or xs i 0) (omega arith)
spread_at xs a (suc (suc (suc (suc zero)))) l = ap (λ i. get_or xs i 0) (omega arith)
spread_at xs a (suc (suc (suc (suc (suc zero))))) l = ap (λ i. get_or xs i 0) (omega arith)
spread_at xs a (suc (suc (suc (suc (suc (suc zero)))))) l = ap (λ i. get_or xs i 0) (omega arith)
spread_at xs a (suc (suc (suc (suc (suc (suc (suc zero))))))) l = ap (λ i. get_or xs i 0)
    (omega arith)
spread_at xs a (suc (suc (suc (suc (suc (suc (suc (suc k)))))))) l = absurd (omega arith)

pub spread_lanes : (xs : List ℕ) (a : ℕ) → HasLanes 8 (spread_list xs a)
    (λ k. get_or xs (a + k / 4) 0)
spread_lanes xs a = record { long = refl; each = spread_at xs a }

-- ---- a sum of eight lanes

pub sum_of_eight : (v : List ℕ) (f : ℕ → ℕ) → HasLanes 8 v f → fold_l (λ s x. s + x) 0 v
    ≡ eight_sum f
sum_of_eight [] f lanes = absurd (let long = lanes.long in omega arith)
sum_of_eight (a ∷ []) f lanes = absurd (let long = lanes.long in omega arith)
sum_of_eight (a ∷ b ∷ []) f lanes = absurd (let long = lanes.long in omega arith)
sum_of_eight (a ∷ b ∷ c ∷ []) f lanes = absurd (let long = lanes.long in omega arith)
sum_of_eight (a ∷ b ∷ c ∷ d ∷ []) f lanes = absurd (let long = lanes.long in omega arith)
sum_of_eight (a ∷ b ∷ c ∷ d ∷ e ∷ []) f lanes = absurd (let long = lanes.long in omega arith)
sum_of_eight (a ∷ b ∷ c ∷ d ∷ e ∷ g ∷ []) f lanes = absurd (let long = lanes.long in omega arith)
sum_of_eight (a ∷ b ∷ c ∷ d ∷ e ∷ g ∷ h ∷ []) f lanes = absurd
    (let long = lanes.long in omega arith)
sum_of_eight (a ∷ b ∷ c ∷ d ∷ e ∷ g ∷ h ∷ i ∷ []) f lanes =
    omega (
      arith,
      lanes.each 0 (omega arith),
      lanes.each 1 (omega arith),
      lanes.each 2 (omega arith),
      lanes.each 3 (omega arith),
      lanes.each 4 (omega arith),
      lanes.each 5 (omega arith),
      lanes.each 6 (omega arith),
      lanes.each 7 (omega arith),
    )
sum_of_eight (a ∷ b ∷ c ∷ d ∷ e ∷ g ∷ h ∷ i ∷ j ∷ rest) f lanes = absurd
    (let long = lanes.long in omega arith)

pub either_same : (a b x y : ℕ) → a ≡ x → b ≡ y → bit_or a b ≡ bit_or x y
either_same a b x y p q = ap (λ a. bit_or a b) p ∙ ap (bit_or x) q

-- the product of two lanes of 32 bits, which wraps
abbrev pub product_32 : ℕ → ℕ → ℕ
product_32 a b = a * b % 4294967296

-- ---- absolute differences of 16-bit lanes

pub compared : (n : ℕ) (t : ℕ → ℕ → Bool) (a b xs ys : List ℕ) → length a ≡ n → length b ≡ n
    → length xs ≡ n → length ys ≡ n → HasLanes n (sel_l (zip2 t a b) xs ys)
    (λ k. cond (t (get_or a k 0) (get_or b k 0)) (get_or xs k 0) (get_or ys k 0))
compared n t a b xs ys p q r s =
    let long : length (zip2 t a b) ≡ n = length-zip2 t a b (p ∙ sym q) ∙ p in
    record {
      long = length-sel_l _ xs ys (long ∙ sym r) (long ∙ sym s) ∙ long;
      each = λ k l.
          get_or-sel_l _ xs ys k 0 (omega arith) (omega arith) (omega arith)
          ∙ ap (λ b. cond b (get_or xs k 0) (get_or ys k 0))
          (get_or-zip2 t a b k 0 0 false (omega arith) (omega arith));
    }

apart_by_case : (a b : ℕ) (test : Bool) → ltb a b ≡ test → a < 65536 → b < 65536
    → (cond (ltb a b) b a + (65536 - cond (ltb a b) a b)) % 65536 ≡ far_apart a b
apart_by_case a b true e p q = let less = ltb-true a b e in rw e (omega arith)
apart_by_case a b false e p q = let most = ltb-false a b e in rw e (omega arith)

abbrev pub less_mask : List ℕ → List ℕ → List Bool
less_mask a b = map (top 15) (zip2 (λ a b. cond (ltb a b) 65535 0) a b)

pub apart_lanes : (a b : List ℕ) → length a ≡ 8 → length b ≡ 8 → Each1 (Fits w16) a
    → Each1 (Fits w16) b → HasLanes 8
    (zip2 wrapped_difference (sel_l (less_mask a b) b a) (sel_l (less_mask a b) a b))
    (λ k. far_apart (get_or a k 0) (get_or b k 0))
apart_lanes a b p q fa fb =
    let most = subst (λ ms. HasLanes 8 (sel_l ms b a)
    (λ k. cond (ltb (get_or a k 0) (get_or b k 0)) (get_or b k 0) (get_or a k 0)))
    (sym (tops_compared w16 ltb a b)) (compared 8 ltb a b b a p q q p) in
    let least = subst (λ ms. HasLanes 8 (sel_l ms a b)
    (λ k. cond (ltb (get_or a k 0) (get_or b k 0)) (get_or a k 0) (get_or b k 0)))
    (sym (tops_compared w16 ltb a b)) (compared 8 ltb a b a b p q p q) in
    same_lanes 8 _ _ _ (made 8 wrapped_difference _ _ _ _ most least)
    (λ k l. apart_by_case (get_or a k 0) (get_or b k 0) _ refl
    (Each1-get_or (Fits w16) a k 0 (omega arith) fa).fits
    (Each1-get_or (Fits w16) b k 0 (omega arith) fb).fits)

-- ---- squares

squares_below : (x g : ℕ) → (0 + x) * ((0 + x) * g) ≡ g * (0 * 0 + x * x)
squares_below x g = omega arith

squares_above : (x g : ℕ) → (x + 0) * ((x + 0) * g) ≡ g * (x * x + 0 * 0)
squares_above x g = omega arith

square_by_case : (a b g : ℕ) (test : Bool) → ltb a b ≡ test
    → far_apart a b * (far_apart a b * g) ≡ g * squared_apart a b
square_by_case a b g true e =
    let less = ltb-true a b e in
    let none : a - b ≡ 0 = omega arith in rw none (squares_below (b - a) g)
square_by_case a b g false e =
    let most = ltb-false a b e in
    let none : b - a ≡ 0 = omega arith in rw none (squares_above (a - b) g)

pub square_lane : (a b g : ℕ) → far_apart a b * (far_apart a b * g) ≡ g * squared_apart a b
square_lane a b g = square_by_case a b g _ refl

pub product_small : (a b g x y z : ℕ) → x ≡ y * z → y ≡ far_apart a b → z ≡ far_apart a b * g
    → a ≤ 255 → b ≤ 255 → g ≤ 15 → x ≤ 975375
product_small a b g x y z is wide often p q r =
    let apart : far_apart a b ≤ 255 = omega arith in
    let times : far_apart a b * g ≤ 255 * 15 = mul-le (far_apart a b) g 255 15 apart r in
    let all : y * z ≤ 255 * 3825 = mul-le y z 255 3825 (omega arith) (omega arith) in
    omega arith

pub products_same : (a b c d : ℕ) → a ≡ c → b ≡ d → a * b ≡ c * d
products_same a b c d p q = ap (λ x. x * b) p ∙ ap (λ y. c * y) q

pub eight_same : (f g : ℕ → ℕ) → ((k : ℕ) → k < 8 → f k ≡ g k) → eight_sum f ≡ eight_sum g
eight_same f g h = omega (
  arith,
  h 0 (omega arith),
  h 1 (omega arith),
  h 2 (omega arith),
  h 3 (omega arith),
  h 4 (omega arith),
  h 5 (omega arith),
  h 6 (omega arith),
  h 7 (omega arith),
)

pub eight_small : (f : ℕ → ℕ) (m : ℕ) → ((k : ℕ) → k < 8 → f k ≤ m) → eight_sum f ≤ 8 * m
eight_small f m h = omega (
  arith,
  h 0 (omega arith),
  h 1 (omega arith),
  h 2 (omega arith),
  h 3 (omega arith),
  h 4 (omega arith),
  h 5 (omega arith),
  h 6 (omega arith),
  h 7 (omega arith),
)

-- the low twelve bits of each lane
pub low_twelve : (v : List ℕ) → length v ≡ 8 → ((k : ℕ) → k < 8 → get_or v k 0 ≤ 3825)
    → HasLanes 8 (zip2 bit_and v (replicate 8 4095)) (λ k. get_or v k 0)
low_twelve v long small =
    let h = zipped_splat 8 bit_and v 4095 long in
    record {
      long = h.long;
      each = λ k l. h.each k l ∙ and_mask (get_or v k 0) 12 ∙ omega
          (arith, small k l);
    }

pub eight_of_both : (v : List ℕ) (f g : ℕ → ℕ) → HasLanes 8 v (λ k. f k + g k)
    → eight_sum (λ k. get_or v k 0) ≡ eight_sum f + eight_sum g
eight_of_both v f g h = eight_same (λ k. get_or v k 0) (λ k. f k + g k) h.each ∙ omega arith

-- ---- the weight of a texel, from the places on which it depends

pub four_shares : (lanes factors values : List ℕ) (place : ℕ → ℕ) (t : ℕ) → t < 4
    → HasLanes 16 lanes (λ k. get_or values (place k) 0)
    → four_products lanes factors t ≡ sum_by (λ pair. get_or values pair.0 0 * pair.1)
    (pairs_of place factors t)
four_shares lanes factors values place t l h =
    let first = h.each (4 * t) (omega arith) in
    let second = h.each (4 * t + 1) (omega arith) in
    let third = h.each (4 * t + 2) (omega arith) in
    let fourth = h.each (4 * t + 3) (omega arith) in
    rw (first, second, third, fourth) (omega arith)

-- ---- lanes by channel

-- the channel of each lane for two texels
abbrev pub channels : List ℕ
channels = 0 ∷ 1 ∷ 2 ∷ 3 ∷ 0 ∷ 1 ∷ 2 ∷ 3 ∷ []

channel_of_lane : (k : ℕ) → k < 8 → get_or channels k 0 ≡ k % 4
channel_of_lane zero l = refl
channel_of_lane (suc zero) l = refl
channel_of_lane (suc (suc zero)) l = refl
channel_of_lane (suc (suc (suc zero))) l = refl
channel_of_lane (suc (suc (suc (suc zero)))) l = refl
channel_of_lane (suc (suc (suc (suc (suc zero))))) l = refl
channel_of_lane (suc (suc (suc (suc (suc (suc zero)))))) l = refl
channel_of_lane (suc (suc (suc (suc (suc (suc (suc zero))))))) l = refl
channel_of_lane (suc (suc (suc (suc (suc (suc (suc (suc k)))))))) l = absurd (omega arith)

pub chosen_by_channel : (here elsewhere : List ℕ) (own channel : ℕ) → own ≡ channel
    → length here ≡ 8 → length elsewhere ≡ 8
    → HasLanes 8 (sel_l (map (top 15) (zip2 (λ a b. cond (a == b) 65535 0) channels
    (replicate 8 own))) here elsewhere)
    (λ k. cond (k % 4 == channel) (get_or here k 0) (get_or elsewhere k 0))
chosen_by_channel here elsewhere own channel is p q =
    let lanes = subst (λ ms. HasLanes 8 (sel_l ms here elsewhere)
    (λ k. cond (get_or channels k 0 == get_or (replicate 8 own) k 0) (get_or here k 0)
    (get_or elsewhere k 0))) (sym (tops_compared w16 (λ a b. a == b) channels (replicate 8 own)))
    (compared 8 (λ a b. a == b) channels (replicate 8 own) here elsewhere refl
    (length-replicate 8 own) p q) in
    same_lanes 8 _ _ _ lanes
    (λ k l. ap (λ c. cond (c == get_or (replicate 8 own) k 0) (get_or here k 0)
    (get_or elsewhere k 0)) (channel_of_lane k l)
    ∙ ap (λ c. cond (k % 4 == c) (get_or here k 0) (get_or elsewhere k 0))
    (get_or-replicate 8 k own 0 l ∙ is))
