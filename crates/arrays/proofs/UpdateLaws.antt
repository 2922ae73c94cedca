-- Laws of `update`: its length, its elements, two updates in a row, and a loop that updates from the front.
-- Assumes nothing.
use mathlib.Core.Path.{◌≡◌, refl, sym, ap, subst, ◌∙◌}
use mathlib.Core.Logic.{⊎_elim, ◌⊎◌, inl, inr}
use mathlib.Core.List.{List, [], ◌∷◌}
use Prim.Native.Nat.{ℕ, zero, suc, ◌+◌, ◌<◌, ◌≤◌}
use native.Mathlib.Nat.{not-suc-le-zero, le_of_suc-le-suc, add-zero, add-suc, suc-add, zero-add, eq-or-lt_of_le}
use native.Mathlib.Omega.{arith}
use lib.ListN.{length, get_or, drop, set, length-set}
use lib.Seq.{ext_get_or, get_or-set_same, get_or-set_other}
use borrow.Author.Tests.{lt-ltb, le-ltb}
use Rattle.arrays.specs.Update.{update_from, update, below}

pub lt-or-ge : (m n : ℕ) → (m < n) ⊎ (n ≤ m)
lt-or-ge m zero = inr (omega arith)
lt-or-ge zero (suc n) = inl (omega arith)
lt-or-ge (suc m) (suc n) = ⊎_elim (λ h. inl (omega arith)) (λ h. inr (omega arith)) (lt-or-ge m n)

pub same_or_not : (m n : ℕ) → (m ≡ n) ⊎ (m ≡ n → ⊥)
same_or_not m n =
    ⊎_elim
    (λ (h : m < n). inr (λ z. omega arith))
    (λ h. ⊎_elim (λ (k : n < m). inr (λ z. omega arith)) (λ k. inl (omega arith)) (lt-or-ge n m))
    (lt-or-ge m n)

module _ {A : Type 0} where
  length_from : (k : ℕ) (f : ℕ → A → A) (l : List A) → length (update_from k f l) ≡ length l
  unfolding update_from
  length_from k f [] = refl
  length_from k f (x ∷ l) = ap suc (length_from (suc k) f l)

  pub length-update : (f : ℕ → A → A) (l : List A) → length (update f l) ≡ length l
  length-update f l = length_from 0 f l

  at_from : (k : ℕ) (f : ℕ → A → A) (l : List A) (p : ℕ) (d : A) → p < length l → get_or (update_from k f l) p d ≡ f (k + p) (get_or l p d)
  unfolding update_from
  at_from k f [] p d h = absurd (not-suc-le-zero h)
  at_from k f (x ∷ l) zero d h = rw add-zero
  at_from k f (x ∷ l) (suc p) d h = rw (add-suc, ← suc-add) (at_from (suc k) f l p d (le_of_suc-le-suc h))

  pub at-update : (f : ℕ → A → A) (l : List A) (p : ℕ) (d : A) → p < length l → get_or (update f l) p d ≡ f p (get_or l p d)
  at-update f l p d h = at_from 0 f l p d h ∙ rw zero-add

  -- an array is an update of another of the same length where each element is
  pub is-update : (d : A) (f : ℕ → A → A) (l m : List A) → length m ≡ length l → ((p : ℕ) → p < length l → get_or m p d ≡ f p (get_or l p d)) → m ≡ update f l
  is-update d f l m e h =
      ext_get_or d m (update f l) (e ∙ sym (length-update f l)) (λ p b. h p (omega arith) ∙ sym (at-update f l p d (omega arith)))

  then-from : (k : ℕ) (f g h : ℕ → A → A) (l : List A) → ((p : ℕ) → p < k + length l → (x : A) → g p (f p x) ≡ h p x)
      → update_from k g (update_from k f l) ≡ update_from k h l
  unfolding update_from
  then-from k f g h [] e = refl
  then-from k f g h (x ∷ l) e =
      let r = e k (omega arith) x in
      let t = then-from (suc k) f g h l (λ p b. e p (omega arith)) in
      λ i. r i ∷ t i

  -- two updates in a row
  pub update-then : (f g h : ℕ → A → A) (l : List A) → ((p : ℕ) → p < length l → (x : A) → g p (f p x) ≡ h p x) → update g (update f l) ≡ update h l
  update-then f g h l e = then-from 0 f g h l (λ p b. e p (omega arith))

  keep-from : (k : ℕ) (f : ℕ → A → A) (l : List A) → ((p : ℕ) → p < k + length l → (x : A) → f p x ≡ x) → update_from k f l ≡ l
  unfolding update_from
  keep-from k f [] e = refl
  keep-from k f (x ∷ l) e =
      let r = e k (omega arith) x in
      let t = keep-from (suc k) f l (λ p b. e p (omega arith)) in
      λ i. r i ∷ t i

  -- an update that changes nothing
  pub update-keep : (f : ℕ → A → A) (l : List A) → ((p : ℕ) → p < length l → (x : A) → f p x ≡ x) → update f l ≡ l
  update-keep f l e = keep-from 0 f l (λ p b. e p (omega arith))

  drop-from : (k n : ℕ) (f : ℕ → A → A) (l : List A) → ((p : ℕ) → k + n ≤ p → (x : A) → f p x ≡ x) → drop n (update_from k f l) ≡ drop n l
  unfolding update_from
  drop-from k zero f [] e = refl
  drop-from k zero f (x ∷ l) e =
      let r = e k (omega arith) x in
      let t = drop-from (suc k) zero f l (λ p b. e p (omega arith)) in
      λ i. r i ∷ t i
  drop-from k (suc n) f [] e = refl
  drop-from k (suc n) f (x ∷ l) e = drop-from (suc k) n f l (λ p b. e p (omega arith))

  -- an update that changes nothing from element n on
  pub update-drop : (n : ℕ) (f : ℕ → A → A) (l : List A) → ((p : ℕ) → n ≤ p → (x : A) → f p x ≡ x) → drop n (update f l) ≡ drop n l
  update-drop n f l e = drop-from 0 n f l (λ p b. e p (omega arith))

  pub update_same : (f g : ℕ → A → A) (l : List A) → ((p : ℕ) → p < length l → (x : A) → f p x ≡ g p x) → update f l ≡ update g l
  update_same f g l e = ap (update f) (sym (update-keep (λ p x. x) l (λ p b x. refl))) ∙ update-then (λ p x. x) f g l e

  -- ---- the elements below n

  pub below_in : (n : ℕ) (f : ℕ → A → A) (p : ℕ) (x : A) → p < n → below n f p x ≡ f p x
  unfolding below
  below_in n f p x h = rw (lt-ltb p n h)

  pub below_out : (n : ℕ) (f : ℕ → A → A) (p : ℕ) (x : A) → n ≤ p → below n f p x ≡ x
  unfolding below
  below_out n f p x h = rw (le-ltb p n h)

  pub below-keep : (n : ℕ) (f : ℕ → A → A) (l : List A) → ((p : ℕ) → p < n → (x : A) → f p x ≡ x) → l ≡ update (below n f) l
  below-keep n f l h =
      sym (update-keep (below n f) l (λ p b x. ⊎_elim (λ q. below_in n f p x q ∙ h p q x) (λ q. below_out n f p x q) (lt-or-ge p n)))

  pub below_none : (f : ℕ → A → A) (l : List A) → l ≡ update (below 0 f) l
  below_none f l = below-keep 0 f l (λ p h x. let z : ⊥ = omega arith in absurd z)

  -- a loop that updates from the front: l is the array as the loop began, m as it is now; first an element that it has not come to, and then a turn of it
  pub below-yet : (d : A) (f : ℕ → A → A) (l m : List A) (i : ℕ) → m ≡ update (below i f) l → i < length l → get_or m i d ≡ get_or l i d
  below-yet d f l m i e b =
      ap (λ (k : List A). get_or k i d) e ∙ at-update (below i f) l i d b ∙ below_out i f i (get_or l i d) (omega arith)

  pub below_more : (d : A) (f : ℕ → A → A) (l m : List A) (i : ℕ) → m ≡ update (below i f) l → i < length l
      → set m i (f i (get_or m i d)) ≡ update (below (i + 1) f) l
  below_more d f l m i e b =
      is-update d (below (i + 1) f) l (set m i w) (length-set m i w ∙ ml)
      (λ p h.
      ⊎_elim (λ q. before p h q)
      (λ q. ⊎_elim (λ z. subst (λ (k : ℕ). get_or (set m i w) k d ≡ below (i + 1) f k (get_or l k d)) z here) (λ q. after p h q) (eq-or-lt_of_le q))
      (lt-or-ge p i))
    where
      w : A
      w = f i (get_or m i d)

      ml : length m ≡ length l
      ml = ap length e ∙ length-update (below i f) l

      old : (p : ℕ) → p < length l → get_or m p d ≡ below i f p (get_or l p d)
      old p h = ap (λ (k : List A). get_or k p d) e ∙ at-update (below i f) l p d h

      here : get_or (set m i w) i d ≡ below (i + 1) f i (get_or l i d)
      here =
          get_or-set_same m i w d (omega (arith, ml))
          ∙ ap (f i) (below-yet d f l m i e b)
          ∙ sym (below_in (i + 1) f i (get_or l i d) (omega arith))

      before : (p : ℕ) → p < length l → p < i → get_or (set m i w) p d ≡ below (i + 1) f p (get_or l p d)
      before p h q =
          get_or-set_other m i p w d (λ z. omega arith) ∙ old p h ∙ below_in i f p (get_or l p d) q
          ∙ sym (below_in (i + 1) f p (get_or l p d) (omega arith))

      after : (p : ℕ) → p < length l → i < p → get_or (set m i w) p d ≡ below (i + 1) f p (get_or l p d)
      after p h q =
          get_or-set_other m i p w d (λ z. omega arith) ∙ old p h ∙ below_out i f p (get_or l p d) (omega arith)
          ∙ sym (below_out (i + 1) f p (get_or l p d) (omega arith))

  -- two updates of the same elements, one after the other
  pub below_then : (f g h : ℕ → A → A) (l : List A) (n : ℕ) → ((p : ℕ) → p < n → (x : A) → g p (f p x) ≡ h p x)
      → update (below n g) (update (below n f) l) ≡ update (below n h) l
  below_then f g h l n e =
      update-then (below n f) (below n g) (below n h) l
      (λ p b x.
      ⊎_elim
      (λ q. ap (below n g p) (below_in n f p x q) ∙ below_in n g p (f p x) q ∙ e p q x ∙ sym (below_in n h p x q))
      (λ q. ap (below n g p) (below_out n f p x q) ∙ below_out n g p x q ∙ sym (below_out n h p x q))
      (lt-or-ge p n))

  pub below-same : (f g : ℕ → A → A) (l : List A) (n : ℕ) → ((p : ℕ) → p < n → (x : A) → f p x ≡ g p x)
      → update (below n f) l ≡ update (below n g) l
  below-same f g l n e =
      update_same (below n f) (below n g) l
      (λ p b x.
      ⊎_elim (λ q. below_in n f p x q ∙ e p q x ∙ sym (below_in n g p x q)) (λ q. below_out n f p x q ∙ sym (below_out n g p x q)) (lt-or-ge p n))
