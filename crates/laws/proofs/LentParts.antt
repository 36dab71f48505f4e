-- A part of a list that was lent and comes back: what stands where.
use mathlib.Core.Path.{◌≡◌, sym, ap, ◌∙◌}
use mathlib.Core.List.{List, ◌++◌}
use Prim.Native.Nat.{ℕ, ◌+◌, ◌-◌, ◌≤◌, ◌<◌}
use native.Mathlib.Omega.{arith}
use lib.ListN.{length, get_or, take, drop, get_or-append}
use lib.Seq.{get_or-take, get_or-drop, get_or-append-add, length-take-le}
use borrow.Rule.Slice.PartMut.{put_mid, take_put, drop_put}

module _ {A : Type 0} (a e : ℕ) (xs ys : List A) (d : A) (h : a ≤ e) (g : e ≤ length xs) (l : length ys ≡ e - a) where
  pub put_before : (x : ℕ) → x < a → get_or (put_mid a (e - a) xs ys) x d ≡ get_or xs x d
  put_before x k = sym (get_or-take a (put_mid a (e - a) xs ys) x d k) ∙ ap (λ (z : List A). get_or z x d) (take_put a (e - a) xs ys (omega arith)) ∙ get_or-take a xs x d k

  pub put_after : (x : ℕ) → e ≤ x → get_or (put_mid a (e - a) xs ys) x d ≡ get_or xs x d
  put_after x k =
      let q : e + (x - e) ≡ x = omega arith in
      ap (λ (z : ℕ). get_or (put_mid a (e - a) xs ys) z d) (sym q) ∙ sym (get_or-drop e (put_mid a (e - a) xs ys) (x - e) d)
      ∙ ap (λ (z : List A). get_or z (x - e) d) (drop_put a e xs ys h g l) ∙ get_or-drop e xs (x - e) d ∙ ap (λ (z : ℕ). get_or xs z d) q

  pub put_in : (j : ℕ) → j < e - a → get_or (put_mid a (e - a) xs ys) (a + j) d ≡ get_or ys j d
  put_in j k =
      ap (λ (z : ℕ). get_or (put_mid a (e - a) xs ys) (z + j) d) (sym (length-take-le a xs (omega arith)))
      ∙ get_or-append-add (take a xs) (ys ++ drop (e - a) (drop a xs)) j d
      ∙ get_or-append ys (drop (e - a) (drop a xs)) d j (omega (arith, l))
