-- Lanes: what stands in them when one cell changes, or when a lane that was lent comes back.
use mathlib.Core.Path.{◌≡◌, refl, sym, ap, ◌∙◌, subst}
use mathlib.Core.Logic.{◌≢◌}
use mathlib.Core.List.{List}
use Prim.Native.Nat.{ℕ, zero, suc, ◌+◌, ◌-◌, ◌*◌, ◌≤◌, ◌<◌}
use native.Mathlib.Decide.{ℕ_discrete, dec_lt}
use native.Mathlib.Omega.{arith}
use lib.IntN.{ℤ, pos}
use lib.ListN.{length, get_or, take, drop, length-take, length-drop}
use lib.Seq.{ext_get_or, get_or-drop}
use borrow.Rule.Slice.PartMut.{put_mid, same_len_mid}
use Rattle.std.proofs.lemmas.List.{get_or_past}
use Rattle.laws.proofs.Grid.{row_of, row_cell}
use Rattle.laws.proofs.LentParts.{put_before, put_after, put_in}
use Rattle.paths.specs.Arrivals.{lane}

-- of one lane
pub alone : (P : ℕ → Type 0) → P 0 → (l : ℕ) → l < 1 → P l
alone P a zero h = a
alone P a (suc l) h = absurd (omega arith)

-- a lane lies within m lanes
pub lane_room : (n l m : ℕ) (f : List ℤ) → l < m → n * m ≤ length f → n * l + n ≤ length f
lane_room n l m f h room = omega (arith, row_of n l m h)

pub lane-length : (n l : ℕ) (f : List ℤ) → n * l + n ≤ length f → length (lane n l f) ≡ n
lane-length n l f room = simp (length-take, length-drop) (omega arith)

pub lane_cell : (n l : ℕ) (f : List ℤ) (v : ℕ) → v < n → get_or (lane n l f) v (pos 0) ≡ get_or f (n * l + v) (pos 0)
lane_cell n l f v h = row_cell f (n * l) n v (pos 0) h

pub lane_out : (n l : ℕ) (f : List ℤ) (v : ℕ) → n ≤ v → get_or (lane n l f) v (pos 0) ≡ pos 0
lane_out n l f v h = get_or_past (lane n l f) v (pos 0) (omega (arith, length-take n (drop (n * l) f)))

-- lent as `&f[at..end]`
pub lane_lent : (n l : ℕ) (f : List ℤ) → take (n * l + n - n * l) (drop (n * l) f) ≡ lane n l f
lane_lent n l f =
    let m : n * l + n - n * l ≡ n = omega arith in
    ap (λ (k : ℕ). take k (drop (n * l) f)) m

-- cells of two lanes
pub apart : (n l k j v : ℕ) → l ≢ k → j < n → v < n → n * l + j ≢ n * k + v
apart n l k j v ne hj hv e = go (dec_lt l k)
  where
    go : Dec (l < k) → ⊥
    go (yes h) = omega (arith, row_of n l k h)
    go (no h) = omega (arith, row_of n k l (omega arith))

-- a list is known by its cells from k on
pub drop_same : (k : ℕ) (f f' : List ℤ) → length f' ≡ length f → ((x : ℕ) → k ≤ x → get_or f' x (pos 0) ≡ get_or f x (pos 0)) → drop k f' ≡ drop k f
drop_same k f f' size same = ext_get_or (pos 0) (drop k f') (drop k f) (length-drop k f' ∙ ap (λ (x : ℕ). x - k) size ∙ sym (length-drop k f))
    (λ i _. get_or-drop k f' i (pos 0) ∙ same (k + i) (omega arith) ∙ sym (get_or-drop k f i (pos 0)))

module _ (n l : ℕ) (f f' : List ℤ) (size : length f' ≡ length f) where
  as_long : length (lane n l f') ≡ length (lane n l f)
  as_long = simp (length-take, length-drop, size)

  within : (i : ℕ) → i < length (lane n l f') → i < n
  within i h = omega (arith, length-take n (drop (n * l) f'))

  pub lane_same : ((j : ℕ) → j < n → get_or f' (n * l + j) (pos 0) ≡ get_or f (n * l + j) (pos 0)) → lane n l f' ≡ lane n l f
  lane_same h = ext_get_or (pos 0) (lane n l f') (lane n l f) as_long (λ i k. lane_cell n l f' i (within i k) ∙ h i (within i k) ∙ sym (lane_cell n l f i (within i k)))

-- ---- a loop that lends lane after lane: those before l are done, and the cells from lane l on as they were
pub record Lanes (n : ℕ) (Q : ℕ → List ℤ → List ℤ → Type 0) (f₀ f : List ℤ) (l : ℕ) : Type 0 where
  pub size : length f ≡ length f₀
  pub done : (k : ℕ) → k < l → Q k (lane n k f₀) (lane n k f)
  pub left : (x : ℕ) → n * l ≤ x → get_or f x (pos 0) ≡ get_or f₀ x (pos 0)

pub lanes_start : (n : ℕ) (Q : ℕ → List ℤ → List ℤ → Type 0) (f : List ℤ) → Lanes n Q f f 0
lanes_start n Q f = record { size = refl; done = λ k h. absurd (omega arith); left = λ x h. refl }

module _ {n : ℕ} {Q : ℕ → List ℤ → List ℤ → Type 0} {f₀ f : List ℤ} {l : ℕ} (L : Lanes n Q f₀ f l) where
  -- the lane that is lent next
  pub lanes_part : take (n * l + n - n * l) (drop (n * l) f) ≡ lane n l f₀
  lanes_part = lane_lent n l f ∙ lane_same n l f₀ f L.size (λ j h. L.left (n * l + j) (omega arith))

  pub lanes_turn : n * l + n ≤ length f₀ → (ys : List ℤ) → length ys ≡ n → Q l (lane n l f₀) ys → Lanes n Q f₀ (put_mid (n * l) (n * l + n - n * l) f ys) (l + 1)
  lanes_turn room ys long q = record { size = same ∙ L.size; done = λ k h. go k h (ℕ_discrete k l); left = λ x h. put_after (n * l) (n * l + n) f ys (pos 0) (omega arith) inside sized x (omega (arith, row_of n l (l + 1) (omega arith))) ∙ L.left x (omega (arith, row_of n l (l + 1) (omega arith))) }
    where
      inside : n * l + n ≤ length f
      inside = omega (arith, L.size)

      sized : length ys ≡ n * l + n - n * l
      sized = omega (arith, long)

      same : length (put_mid (n * l) (n * l + n - n * l) f ys) ≡ length f
      same = same_len_mid (n * l) (n * l + n - n * l) f ys (simp (length-take, length-drop) (omega (arith, inside, long)))

      back : lane n l (put_mid (n * l) (n * l + n - n * l) f ys) ≡ ys
      back = ext_get_or (pos 0) (lane n l (put_mid (n * l) (n * l + n - n * l) f ys)) ys (lane-length n l (put_mid (n * l) (n * l + n - n * l) f ys) (omega (arith, same, inside)) ∙ sym long)
          (λ i h. let k : i < n = omega (arith, lane-length n l (put_mid (n * l) (n * l + n - n * l) f ys) (omega (arith, same, inside))) in
          lane_cell n l (put_mid (n * l) (n * l + n - n * l) f ys) i k ∙ put_in (n * l) (n * l + n) f ys (pos 0) (omega arith) inside sized i (omega arith))

      go : (k : ℕ) → k < l + 1 → Dec (k ≡ l) → Q k (lane n k f₀) (lane n k (put_mid (n * l) (n * l + n - n * l) f ys))
      go k h (yes e) = rw e (subst (λ (x : List ℤ). Q l (lane n l f₀) x) (sym back) q)
      go k h (no ne) = subst (λ (x : List ℤ). Q k (lane n k f₀) x)
          (sym (lane_same n k f (put_mid (n * l) (n * l + n - n * l) f ys) same (λ j m. put_before (n * l) (n * l + n) f ys (pos 0) (omega arith) inside sized (n * k + j) (omega (arith, row_of n k l (omega arith))))))
          (L.done k (omega arith))

  -- the lanes are done: past them the list is as it was
  pub lanes_past : drop (n * l) f ≡ drop (n * l) f₀
  lanes_past = drop_same (n * l) f₀ f L.size L.left
