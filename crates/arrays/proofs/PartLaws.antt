-- Laws of a part that is lent as `&s[a..]`, or as `&mut s[a..]` and comes back updated. The logic has the part from index a on as
-- `take (length l - a) (drop a l)`, and the list with ys in the part's place as `put_mid a (length l - a) l ys`.
-- Assumes nothing.
use mathlib.Core.Path.{◌≡◌, refl, sym, ap, subst, ◌∙◌}
use mathlib.Core.Logic.{⊎_elim}
use mathlib.Core.List.{List, [], ◌∷◌, ◌++◌, append-nil}
use Prim.Native.Nat.{ℕ, zero, suc, ◌+◌, ◌-◌, ◌*◌, ◌/◌, ◌%◌, ◌<◌, ◌≤◌}
use native.Mathlib.Nat.{le_refl, mul-le-mul_right, add-mul, suc-mul, mod-lt, div-add-mod'}
use native.Mathlib.Omega.{arith}
use lib.ListN.{length, get_or, take, drop, length-drop, drop_of_length-le, get_or-append}
use lib.Seq.{take_all, length-take-le, take-take, get_or-take, get_or-drop, get_or-append-add}
use borrow.Rule.Slice.PartMut.{put_mid, same_len_mid}
use Rattle.arrays.specs.Update.{EntryMap, update, entries, shifted}
use Rattle.arrays.proofs.UpdateLaws.{lt-or-ge, length-update, at-update, is-update}
use Rattle.arrays.proofs.EntryLaws.{entry, entries-keep, shifted_in, shifted-row-out, shifted-column-out}

-- column j of an array with leading dimension ld ends where column j + 1 begins
pub column-room : (ld : ℕ) {j cols : ℕ} → j < cols → j * ld + ld ≤ cols * ld
column-room ld {j} {cols} h = rw suc-mul at (mul-le-mul_right ld h)

-- n columns from the j-th on are within the first `cols`
pub columns-room : (ld j n : ℕ) {cols : ℕ} → j + n ≤ cols → j * ld + n * ld ≤ cols * ld
columns-room ld j n {cols} h = rw add-mul at (mul-le-mul_right ld h)

module _ {A : Type 0} where
  pub tail : (a : ℕ) (l : List A) → take (length l - a) (drop a l) ≡ drop a l
  tail a l = take_all (length l - a) (drop a l) (rw length-drop (le_refl _))

  pub tail_at : (a : ℕ) (l : List A) (p : ℕ) (d : A) → get_or (take (length l - a) (drop a l)) p d ≡ get_or l (a + p) d
  tail_at a l p d = rw tail (get_or-drop a l p d)

  pub tail-length : (a : ℕ) (l : List A) → length (take (length l - a) (drop a l)) ≡ length l - a
  tail-length a l = rw tail (length-drop a l)

  -- a part that came back is what stands behind the elements before it
  pub put-tail : (a : ℕ) (l ys : List A) → a ≤ length l → put_mid a (length l - a) l ys ≡ take a l ++ ys
  put-tail a l ys h =
      ap (λ (r : List A). take a l ++ (ys ++ r)) (drop_of_length-le (drop a l) {i = length l - a} (rw length-drop (le_refl _)))
      ∙ ap (λ (r : List A). take a l ++ r) (append-nil ys)

  -- the elements before a part that came back in its old length, and the part, also where it lies past the list's end
  pub take_back : (a : ℕ) (l ys : List A) → length ys ≡ length (drop a l) → take a (take a l ++ ys) ≡ take a l
  take_back zero l ys h = refl
  take_back (suc a) [] [] h = refl
  take_back (suc a) [] (y ∷ ys) h = absurd (omega arith)
  take_back (suc a) (x ∷ l) ys h = ap (λ (r : List A). x ∷ r) (take_back a l ys h)

  pub drop-back : (a : ℕ) (l ys : List A) → length ys ≡ length (drop a l) → drop a (take a l ++ ys) ≡ ys
  drop-back zero l ys h = refl
  drop-back (suc a) [] [] h = refl
  drop-back (suc a) [] (y ∷ ys) h = absurd (omega arith)
  drop-back (suc a) (x ∷ l) ys h = drop-back a l ys h

  -- n elements from a on are among the first m
  pub among_first : (a n m : ℕ) (l : List A) → a + n ≤ m → take n (drop a (take m l)) ≡ take n (drop a l)
  among_first zero n m l h = take-take n m l (omega arith)
  among_first (suc a) n zero l h = absurd (omega arith)
  among_first (suc a) n (suc m) [] h = refl
  among_first (suc a) n (suc m) (x ∷ l) h = among_first a n m l (omega arith)

  put-before : (a k : ℕ) (l ys : List A) (p : ℕ) (d : A) → a ≤ length l → p < a → get_or (put_mid a k l ys) p d ≡ get_or l p d
  put-before a k l ys p d h b =
      get_or-append (take a l) _ d p (omega (arith, length-take-le a l h)) ∙ get_or-take a l p d b

  put-after : (a k : ℕ) (l ys : List A) (i : ℕ) (d : A) → a ≤ length l → i < length ys → get_or (put_mid a k l ys) (a + i) d ≡ get_or ys i d
  put-after a k l ys i d h b =
      subst (λ (n : ℕ). get_or (put_mid a k l ys) (n + i) d ≡ get_or ys i d) (length-take-le a l h)
      (get_or-append-add (take a l) _ i d ∙ get_or-append ys _ d i b)

  -- an update of l, then one of the part from index a on
  pub part_then : (d : A) (a : ℕ) (f g h : ℕ → A → A) (l m ys : List A) → a ≤ length l → m ≡ update f l
      → ys ≡ update g (take (length m - a) (drop a m))
      → ((p : ℕ) → p < a → (x : A) → f p x ≡ h p x)
      → ((i : ℕ) → a + i < length l → (x : A) → g i (f (a + i) x) ≡ h (a + i) x)
      → put_mid a (length m - a) m ys ≡ update h l
  part_then d a f g h l m ys al em ey before after =
      is-update d h l _ (same_len_mid a (length m - a) m ys yl ∙ ml)
      (λ p b.
      ⊎_elim
      (λ q. put-before a (length m - a) m ys p d (omega (arith, ml)) q ∙ old p b ∙ before p q (get_or l p d))
      (λ q.
      let e : a + (p - a) ≡ p = omega arith in
      subst (λ (k : ℕ). get_or (put_mid a (length m - a) m ys) k d ≡ h k (get_or l k d)) e (new (p - a) (omega arith)))
      (lt-or-ge p a))
    where
      t : List A
      t = take (length m - a) (drop a m)

      ml : length m ≡ length l
      ml = ap length em ∙ length-update f l

      yl : length ys ≡ length t
      yl = ap length ey ∙ length-update g t

      tl : length t ≡ length m - a
      tl = tail-length a m

      old : (p : ℕ) → p < length l → get_or m p d ≡ f p (get_or l p d)
      old p b = ap (λ (k : List A). get_or k p d) em ∙ at-update f l p d b

      new : (i : ℕ) → a + i < length l → get_or (put_mid a (length m - a) m ys) (a + i) d ≡ h (a + i) (get_or l (a + i) d)
      new i b =
          put-after a (length m - a) m ys i d (omega (arith, ml)) (omega (arith, ml, yl, tl))
          ∙ ap (λ (k : List A). get_or k i d) ey
          ∙ at-update g t i d (omega (arith, ml, tl))
          ∙ ap (g i) (tail_at a m i d ∙ old (a + i) b)
          ∙ after i b (get_or l (a + i) d)

  -- an entry map of l, then one of the block from entry (i₀, j₀) on, which keeps the rows that the array's columns do not have
  pub block-then : (d : A) (ld i₀ j₀ a : ℕ) (f g h : EntryMap A) (l m ys : List A) → 0 < ld → i₀ ≤ ld → a ≡ j₀ * ld + i₀ → a ≤ length l
      → m ≡ update (entries ld f) l
      → ys ≡ update (entries ld g) (take (length m - a) (drop a m))
      → ((i j : ℕ) → ld ≤ i₀ + i → (x : A) → g i j x ≡ x)
      → ((i j : ℕ) → i < ld → j * ld + i < length l → (x : A) → shifted i₀ j₀ g i j (f i j x) ≡ h i j x)
      → put_mid a (length m - a) m ys ≡ update (entries ld h) l
  block-then d ld i₀ j₀ a f g h l m ys pos il ea al em ey wide all =
      part_then d a (entries ld f) (entries ld g) (entries ld h) l m ys al em ey before after
    where
      -- entry (i, j) lies before the block, or in rows above it
      outside : (i j p : ℕ) → i < ld → p < length l → p ≡ j * ld + i → ((i₀ ≤ i) → (j₀ ≤ j) → ⊥) → (x : A) → f i j x ≡ h i j x
      outside i j p hi b e out x =
          ⊎_elim
          (λ q. sym (shifted-row-out i₀ j₀ g i j _ q) ∙ all i j hi (omega arith) x)
          (λ q. ⊎_elim
          (λ r. sym (shifted-column-out i₀ j₀ g i j _ r) ∙ all i j hi (omega arith) x)
          (λ r. absurd (out q r))
          (lt-or-ge j j₀))
          (lt-or-ge i i₀)

      before : (p : ℕ) → p < a → (x : A) → entries ld f p x ≡ entries ld h p x
      before p b x =
          let i : ℕ = p % ld in
          let j : ℕ = p / ld in
          let e : p ≡ j * ld + i = sym (div-add-mod' p ld) in
          let hi : i < ld = mod-lt p pos in
          entry ld f i j p x hi e
          ∙ outside i j p hi (omega arith) e (λ q r. let k : j₀ * ld ≤ j * ld = mul-le-mul_right ld r in omega arith) x
          ∙ sym (entry ld h i j p x hi e)

      after : (q : ℕ) → a + q < length l → (x : A) → entries ld g q (entries ld f (a + q) x) ≡ entries ld h (a + q) x
      after q b x =
          let r : ℕ = q % ld in
          let c : ℕ = q / ld in
          let e : q ≡ c * ld + r = sym (div-add-mod' q ld) in
          let rl : r < ld = mod-lt q pos in
          let s : (j₀ + c) * ld ≡ j₀ * ld + c * ld = add-mul j₀ c ld in
          ⊎_elim
          (λ (k : i₀ + r < ld).
          let o : a + q ≡ (j₀ + c) * ld + (i₀ + r) = omega arith in
          ap (entries ld g q) (entry ld f (i₀ + r) (j₀ + c) (a + q) x k o)
          ∙ entry ld g r c q _ rl e
          ∙ sym (shifted_in i₀ j₀ g r c _)
          ∙ all (i₀ + r) (j₀ + c) k (omega arith) x
          ∙ sym (entry ld h (i₀ + r) (j₀ + c) (a + q) x k o))
          (λ (k : ld ≤ i₀ + r).
          let s1 : (j₀ + c + 1) * ld ≡ j₀ * ld + c * ld + ld = rw (add-mul, add-mul) (omega arith) in
          let o : a + q ≡ (j₀ + c + 1) * ld + (i₀ + r - ld) = omega arith in
          let hr : i₀ + r - ld < ld = omega arith in
          let above : i₀ ≤ i₀ + r - ld → ⊥ = λ u. omega arith in
          ap (entries ld g q) (entry ld f (i₀ + r - ld) (j₀ + c + 1) (a + q) x hr o)
          ∙ entry ld g r c q _ rl e
          ∙ wide r c k _
          ∙ outside (i₀ + r - ld) (j₀ + c + 1) (a + q) hr b o (λ u v. above u) x
          ∙ sym (entry ld h (i₀ + r - ld) (j₀ + c + 1) (a + q) x hr o))
          (lt-or-ge (i₀ + r) ld)

  -- the same of a part alone: the elements before it, and then the part as it came back, are an entry map of the whole
  pub lent-block : (d : A) (ld i₀ j₀ a : ℕ) (g h : EntryMap A) (l ys : List A) → 0 < ld → i₀ ≤ ld → a ≡ j₀ * ld + i₀ → a ≤ length l
      → ys ≡ update (entries ld g) (drop a l)
      → ((i j : ℕ) → ld ≤ i₀ + i → (x : A) → g i j x ≡ x)
      → ((i j : ℕ) → i < ld → j * ld + i < length l → (x : A) → shifted i₀ j₀ g i j x ≡ h i j x)
      → take a l ++ ys ≡ update (entries ld h) l
  lent-block d ld i₀ j₀ a g h l ys pos il ea al ey wide all =
      sym (put-tail a l ys al)
      ∙ block-then d ld i₀ j₀ a (λ i j x. x) g h l l ys pos il ea al (sym (entries-keep ld (λ i j x. x) l (λ i j x. refl)))
      (ey ∙ ap (update (entries ld g)) (sym (tail a l))) wide all
