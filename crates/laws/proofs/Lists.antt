-- Lists given by what stands at each place: their lengths, and what is read at a place.
use mathlib.Core.Path.{◌≡◌, refl, sym, ap, ◌∙◌, subst}
use mathlib.Core.Logic.{◌⊎◌, inl, inr, ⊎_elim}
use mathlib.Core.List.{List, [], ◌∷◌, ◌++◌, append_assoc}
use Prim.Native.Nat.{ℕ, zero, suc, ◌+◌, ◌*◌, ◌<◌}
use native.Mathlib.Nat.{not-suc-le-zero, mul-suc, mul-zero, eq-or-lt_of_le, le_of_suc-le-suc, le_step, le_refl}
use native.Mathlib.Omega.{arith}
use lib.ListN.{length, get_or, length-append, get_or-append}
use lib.Seq.{ext_get_or, get_or_at, get_or-append-add}
use Rattle.laws.specs.Lists.{tabulate, rows}

module _ {A : Type 0} (f : ℕ → A) where
  pub length-tabulate : (n : ℕ) → length (tabulate n f) ≡ n
  unfolding tabulate
  length-tabulate zero = refl
  length-tabulate (suc n) = simp (length-append, length-tabulate n) (omega arith)

  pub get_d_tabulate : (n i : ℕ) (d : A) → i < n → get_or (tabulate n f) i d ≡ f i
  unfolding tabulate
  get_d_tabulate zero i d h = absurd (not-suc-le-zero h)
  get_d_tabulate (suc n) i d h =
      ⊎_elim (λ e. get_or_at (tabulate n f) (f n) [] d i (length-tabulate n ∙ sym e) ∙ ap f (sym e))
      (λ l. get_or-append (tabulate n f) (f n ∷ []) d i (subst (λ (k : ℕ). i < k) (sym (length-tabulate n)) l) ∙ get_d_tabulate n i d l)
      (eq-or-lt_of_le (le_of_suc-le-suc h))

pub tabulate_same : {A : Type 0} (n : ℕ) (f g : ℕ → A) → ((i : ℕ) → i < n → f i ≡ g i) → tabulate n f ≡ tabulate n g
unfolding tabulate
tabulate_same zero f g h = refl
tabulate_same (suc n) f g h = simp (tabulate_same n f g (λ i l. h i (le_step l)), h n (le_refl (suc n)))

pub rows_same : {A : Type 0} (n r : ℕ) (f g : ℕ → ℕ → A) → ((u v : ℕ) → u < r → v < n → f u v ≡ g u v) → rows n r f ≡ rows n r g
unfolding rows
rows_same n zero f g h = refl
rows_same n (suc r) f g h =
    simp (rows_same n r f g (λ u v l k. h u v (le_step l) k), tabulate_same n (f r) (g r) (λ v k. h r v (le_refl (suc r)) k))

pub length-rows : {A : Type 0} (n : ℕ) (f : ℕ → ℕ → A) (r : ℕ) → length (rows n r f) ≡ n * r
unfolding rows
length-rows n f zero = sym (mul-zero n)
length-rows n f (suc r) = simp (length-append, length-rows n f r, length-tabulate, mul-suc)

-- what stands at column v of row u
pub cell_rows : {A : Type 0} (n r : ℕ) (f : ℕ → ℕ → A) (rest : List A) (u v : ℕ) (d : A) → u < r → v < n → get_or (rows n r f ++ rest) (n * u + v) d ≡ f u v
unfolding rows
cell_rows n zero f rest u v d h k = absurd (not-suc-le-zero h)
cell_rows n (suc r) f rest u v d h k =
    ap (λ x. get_or x (n * u + v) d) (append_assoc (rows n r f) (tabulate n (f r)) rest)
    ∙ go (λ l. cell_rows n r f (tabulate n (f r) ++ rest) u v d l k) (eq-or-lt_of_le (le_of_suc-le-suc h))
  where
    go : (u < r → get_or (rows n r f ++ (tabulate n (f r) ++ rest)) (n * u + v) d ≡ f u v) → (u ≡ r) ⊎ (u < r)
        → get_or (rows n r f ++ (tabulate n (f r) ++ rest)) (n * u + v) d ≡ f u v
    go ih (inl e) =
        let q : n * u + v ≡ length (rows n r f) + v = ap (λ k. n * k + v) e ∙ ap (λ k. k + v) (sym (length-rows n f r)) in
        let w : v < length (tabulate n (f r)) = subst (λ k. v < k) (sym (length-tabulate (f r) n)) k in
        ap (λ k. get_or (rows n r f ++ (tabulate n (f r) ++ rest)) k d) q ∙ get_or-append-add (rows n r f) (tabulate n (f r) ++ rest) v d
        ∙ get_or-append (tabulate n (f r)) rest d v w ∙ get_d_tabulate (f r) n v d k ∙ ap (λ k. f k v) (sym e)
    go ih (inr l) = ih l

-- a list that is known place by place
pub is_tabulate : {A : Type 0} (d : A) (l : List A) (n : ℕ) (f : ℕ → A) → length l ≡ n → ((i : ℕ) → i < n → get_or l i d ≡ f i) → l ≡ tabulate n f
is_tabulate d l n f e h = ext_get_or d l (tabulate n f) (e ∙ sym (length-tabulate f n)) (λ i k. h i (omega arith) ∙ sym (get_d_tabulate f n i d (omega arith)))
