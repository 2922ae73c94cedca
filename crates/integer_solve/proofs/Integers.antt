-- Laws of the whole numbers: their sizes, sums, products, quotients and remainders.
-- Assumes nothing.
use mathlib.Core.Path.{◌≡◌, refl, sym, ap}
use mathlib.Core.Bool.{Bool, true, false, cond}
use Prim.Native.Nat.{ℕ, zero, suc, ◌+◌, ◌*◌, ◌/◌, ◌%◌, ◌≤◌, ◌<◌}
use native.Mathlib.Nat.{eq_of_mul-eq-mul_left, div-add-mod, div-le_self, mul-mod_right, suc_inj, suc-ne-zero, zero-lt-suc}
use native.Mathlib.Numerals.{unary_clauses}
use native.Mathlib.Omega.{arith}
use lib.Dec.{ltb}
use lib.IntN.{ℤ, pos, negsuc, neg_ℤ, nat_abs, ◌+ℤ◌, ◌-ℤ◌, ◌*ℤ◌, neg_ℤ-neg_ℤ, +ℤ_assoc, +ℤ_comm, +ℤ-neg_ℤ_cancel, -ℤ-+ℤ_cancel, *ℤ-zero, *ℤ-negsuc, pos-ne-negsuc}
use lib.Signed.{mag, quot_z, rem_z}

-- ---- sizes

abs_neg : (x : ℤ) → nat_abs (neg_ℤ x) ≡ nat_abs x
abs_neg (pos zero) = refl
abs_neg (pos (suc n)) = refl
abs_neg (negsuc n) = refl

-- a number of one of two signs, as a sum of two signs gives it
abs-either : (t : Bool) (m n k : ℕ) → m < k → n ≤ k → nat_abs (cond t (negsuc m) (pos n)) ≤ k
abs-either true m n k h g = h
abs-either false m n k h g = g

abs-sum : (x y : ℤ) → nat_abs (x +ℤ y) ≤ nat_abs x + nat_abs y
abs-sum (pos a) (pos b) = omega arith
abs-sum (pos a) (negsuc b) = abs-either (ltb a (suc b)) _ _ _ (omega arith) (omega arith)
abs-sum (negsuc a) (pos b) = abs-either (ltb b (suc a)) _ _ _ (omega arith) (omega arith)
abs-sum (negsuc a) (negsuc b) = omega arith

pub abs-less : (x y : ℤ) → nat_abs (x -ℤ y) ≤ nat_abs x + nat_abs y
abs-less x y = rw abs_neg at (abs-sum x (neg_ℤ y))

pub abs-product : (x y : ℤ) → nat_abs (x *ℤ y) ≡ nat_abs x * nat_abs y
abs-product (pos a) (pos b) = refl
abs-product (pos a) (negsuc b) = abs_neg (pos (a * suc b))
abs-product (negsuc a) (pos b) = abs_neg (pos (suc a * b))
abs-product (negsuc a) (negsuc b) = refl

pub mag-abs : (z : ℤ) → mag z ≤ nat_abs z
mag-abs (pos n) = omega arith
mag-abs (negsuc n) = omega arith

-- ---- sums

pub swap : (x y z : ℤ) → x +ℤ y +ℤ z ≡ x +ℤ z +ℤ y
swap x y z = cc (+ℤ_assoc x y z, +ℤ_assoc x z y, +ℤ_comm y z)

pub cancel : (x y z : ℤ) → x +ℤ z ≡ y +ℤ z → x ≡ y
cancel x y z h = cc (+ℤ-neg_ℤ_cancel x z, +ℤ-neg_ℤ_cancel y z)

pub less-more : (x y z : ℤ) → (x -ℤ y) +ℤ (z +ℤ y) ≡ x +ℤ z
less-more x y z = cc (+ℤ_assoc (x -ℤ y) z y, swap (x -ℤ y) z y, -ℤ-+ℤ_cancel x y)

-- ---- products and quotients

-- a positive factor, and a negative one made positive
cancel-positive : (n : ℕ) (x y : ℤ) → pos (suc n) *ℤ x ≡ pos (suc n) *ℤ y → x ≡ y
cancel-positive n (pos a) (pos b) h = ap pos (eq_of_mul-eq-mul_left (suc n) (zero-lt-suc n) a b (ap nat_abs h))
cancel-positive n (pos a) (negsuc b) h = absurd (pos-ne-negsuc _ _ (simp unary_clauses at h))
cancel-positive n (negsuc a) (pos b) h = absurd (pos-ne-negsuc _ _ (sym (simp unary_clauses at h)))
cancel-positive n (negsuc a) (negsuc b) h = ap negsuc (suc_inj (eq_of_mul-eq-mul_left (suc n) (zero-lt-suc n) _ _ (simp abs_neg at (ap nat_abs h))))

negate-product : (n : ℕ) (x : ℤ) → neg_ℤ (negsuc n *ℤ x) ≡ pos (suc n) *ℤ x
negate-product n (pos a) = neg_ℤ-neg_ℤ (pos (suc n * a))
negate-product n (negsuc a) = refl

pub product-cancel : (d x y : ℤ) → (d ≡ pos 0 → ⊥) → d *ℤ x ≡ d *ℤ y → x ≡ y
product-cancel (pos zero) x y some h = absurd (some refl)
product-cancel (pos (suc n)) x y some h = cancel-positive n x y h
product-cancel (negsuc n) x y some h = cancel-positive n x y (cc (negate-product n x, negate-product n y))

-- quotient and remainder by the sizes
rem-abs : (s d : ℤ) → nat_abs (rem_z s d) ≡ nat_abs s % nat_abs d
rem-abs (pos a) d = refl
rem-abs (negsuc a) d = abs_neg (pos (suc a % nat_abs d))

whole : (s d : ℤ) → rem_z s d ≡ pos 0 → nat_abs d * (nat_abs s / nat_abs d) ≡ nat_abs s
whole s d h = omega (arith, div-add-mod (nat_abs s) (nat_abs d), rem-abs s d, ap nat_abs h)

product-neg : (d : ℤ) (n : ℕ) → d *ℤ neg_ℤ (pos n) ≡ neg_ℤ (d *ℤ pos n)
product-neg d zero = simp *ℤ-zero
product-neg d (suc n) = *ℤ-negsuc d n

pub quotient-whole : (s d : ℤ) → rem_z s d ≡ pos 0 → d *ℤ quot_z s d ≡ s
quotient-whole (pos a) (pos b) h = rw (whole (pos a) (pos b) h)
quotient-whole (pos a) (negsuc b) h = rw (product-neg (negsuc b), neg_ℤ-neg_ℤ, whole (pos a) (negsuc b) h)
quotient-whole (negsuc a) (pos b) h = rw (product-neg (pos b), whole (negsuc a) (pos b) h)
quotient-whole (negsuc a) (negsuc b) h = rw (whole (negsuc a) (negsuc b) h)

pub abs-zero : (z : ℤ) → nat_abs z ≡ 0 → z ≡ pos 0
abs-zero (pos n) h = ap pos h
abs-zero (negsuc n) h = absurd (suc-ne-zero n h)

pub whole-remainder : (s d x : ℤ) → d *ℤ x ≡ s → rem_z s d ≡ pos 0
whole-remainder s d x h = abs-zero _ (rw (rem-abs, ← h, abs-product) (mul-mod_right (nat_abs d) (nat_abs x)))

pub quotient-abs : (s d : ℤ) → nat_abs (quot_z s d) ≤ nat_abs s
quotient-abs (pos a) (pos b) = div-le_self a b
quotient-abs (pos a) (negsuc b) = rw abs_neg (div-le_self a (suc b))
quotient-abs (negsuc a) (pos b) = rw abs_neg (div-le_self (suc a) b)
quotient-abs (negsuc a) (negsuc b) = div-le_self (suc a) (suc b)
