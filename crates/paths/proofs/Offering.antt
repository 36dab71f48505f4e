-- What an arc offers a cell, along a chain: in a list, and in lanes that share the walk.
use mathlib.Core.Path.{◌≡◌, sym, ap, ap₂, ◌∙◌, subst}
use mathlib.Core.Logic.{◌≢◌}
use mathlib.Core.List.{List}
use Prim.Native.Nat.{ℕ, ◌+◌, ◌-◌, ◌*◌, ◌≤◌, ◌<◌}
use native.Mathlib.Omega.{arith}
use lib.IntN.{ℤ, pos}
use native.Mathlib.Decide.{ℕ_discrete, dec_lt}
use lib.ListN.{length, get_or, set, drop, length-set}
use lib.Seq.{ext_get_or, get_or-drop, get_or-set_same, get_or-set_other}
use Rattle.graph.specs.Delay.{Delay, absent, ◌⋓◌, ◌⊕◌}
use Rattle.graph.proofs.Delay.{⊕-absent, ⋓-absent}
use Rattle.timing.specs.Limits.{absent_cell, absent_wide}
use Rattle.timing.specs.Table.{read_cell}
use Rattle.timing.specs.Delays.{arrival_in}
use Rattle.paths.specs.Chain.{Chain, walked_at}
use Rattle.paths.specs.Arrivals.{lane, Offered, OfferedEach, Pushed}
use Rattle.paths.proofs.Chaining.{Along, along_turn}
use Rattle.laws.proofs.Grid.{row_of}
use Rattle.paths.proofs.Lanes.{lane_room, lane-length, lane_cell, lane_out, apart}

-- what is to hold of the cell of v
abbrev pub Later : (ℕ → Delay) → ℤ → List ℤ → ℕ → ℤ → Type 0
Later row a f₀ v z = read_cell absent_wide z ≡ arrival_in f₀ v ⋓ (read_cell absent_wide a ⊕ row v)

-- it holds where there is no arc
pub idle : (row : ℕ → Delay) (a : ℤ) (f₀ : List ℤ) (n v : ℕ) → v < n → row v ≡ absent → Later row a f₀ v (get_or f₀ v (pos 0))
idle row a f₀ n v h e = sym (⋓-absent (arrival_in f₀ v)) ∙ ap (λ (d : Delay). arrival_in f₀ v ⋓ d) (sym (ap (λ (d : Delay). read_cell absent_wide a ⊕ d) e ∙ ⊕-absent (read_cell absent_wide a)))

-- the pass along a row's chain has come to v
abbrev pub Offering : ℕ → List ℤ → List ℕ → ℤ → List ℤ → List ℤ → ℕ → Type 0
Offering n row c a f₀ f v = Along (Later (walked_at row c) a f₀) (pos 0) n (walked_at row c) f₀ f v

pub all_offered : {n : ℕ} {row : List ℤ} {c : List ℕ} {a b : ℤ} {f₀ f : List ℤ} {v : ℕ} → Offering n row c a f₀ f v → n ≤ v → a ≡ b → Pushed n row c b f₀ f
all_offered {row = row} {c} {f₀ = f₀} G h e = record {
  cells = λ v k. G.stored.done v (omega arith) ∙ ap (λ (z : ℤ). arrival_in f₀ v ⋓ (read_cell absent_wide z ⊕ walked_at row c v)) e;
  rest = λ v k. G.stored.left v (omega (arith, G.upto));
}

-- a turn of the pass, by an offer at v
pub offering_turn : {n v : ℕ} (row : List ℤ) (c : List ℕ) {a cell : ℤ} {f₀ f f' : List ℤ} → Chain n (walked_at row c) (λ v. get_or c v 0) → v < n → n ≤ length f₀ → read_cell absent_cell cell ≡ walked_at row c v
    → length f' ≡ length f → Offered v a cell f f' → Offering n row c a f₀ f v → Offering n row c a f₀ f' (get_or c v 0)
offering_turn {n} {v} row c {a} {f₀ = f₀} {f} {f'} C h room arc size O G =
    subst (λ (y : List ℤ). Offering n row c a f₀ y (get_or c v 0)) (sym is_set)
    (along_turn C f₀ (idle (walked_at row c) a f₀ n) G h room (get_or f' v (pos 0)) (O.here ∙ ap₂ (λ (z : ℤ) (d : Delay). read_cell absent_wide z ⋓ (read_cell absent_wide a ⊕ d)) (G.stored.left v (omega arith)) arc))
  where
    at_cell : (i : ℕ) → Dec (i ≡ v) → get_or f' i (pos 0) ≡ get_or (set f v (get_or f' v (pos 0))) i (pos 0)
    at_cell i (yes e) = rw (e, get_or-set_same f v (get_or f' v (pos 0)) (pos 0) (omega (arith, G.stored.size)))
    at_cell i (no ne) = O.others i ne ∙ sym (get_or-set_other f v i (get_or f' v (pos 0)) (pos 0) ne)

    is_set : f' ≡ set f v (get_or f' v (pos 0))
    is_set = ext_get_or (pos 0) f' (set f v (get_or f' v (pos 0))) (size ∙ sym (length-set f v (get_or f' v (pos 0)))) (λ i _. at_cell i (ℕ_discrete i v))

-- ---- lanes

-- lane l is offered to, after those before it
pub one_offered : {l n v : ℕ} {a : ℕ → ℤ} {cell : ℤ} {f₀ f f' : List ℤ} → v < n → OfferedEach l n v a cell f₀ f → Offered (n * l + v) (a l) cell f f' → OfferedEach (l + 1) n v a cell f₀ f'
one_offered {l} {n} {v} {a} {cell} {f₀} {f} {f'} h E O = record { here = λ k m. here k m (ℕ_discrete k l); others = λ y m. O.others y (m l (omega arith)) ∙ E.others y (λ k j. m k (omega arith)) }
  where
    here : (k : ℕ) → k < l + 1 → Dec (k ≡ l) → arrival_in f' (n * k + v) ≡ arrival_in f₀ (n * k + v) ⋓ (read_cell absent_wide (a k) ⊕ read_cell absent_cell cell)
    here k m (yes e) = rw e (O.here ∙ ap (λ (z : ℤ). read_cell absent_wide z ⋓ (read_cell absent_wide (a l) ⊕ read_cell absent_cell cell)) (E.others (n * l + v) (λ j q. apart n l j v v (λ z. omega (arith, z)) h h)))
    here k m (no ne) = ap (read_cell absent_wide) (O.others (n * k + v) (apart n k l v v ne h h)) ∙ E.here k (omega arith)

-- what an offer in each lane is in one of them
pub offered_in : {lanes n v : ℕ} {a : ℕ → ℤ} {cell : ℤ} {f₀ f : List ℤ} → v < n → OfferedEach lanes n v a cell f₀ f → (l : ℕ) → l < lanes → Offered v (a l) cell (lane n l f₀) (lane n l f)
offered_in {lanes} {n} {v} {a} {cell} {f₀} {f} h E l k = record {
  here = ap (read_cell absent_wide) (lane_cell n l f v h) ∙ E.here l k ∙ ap (λ (z : ℤ). read_cell absent_wide z ⋓ (read_cell absent_wide (a l) ⊕ read_cell absent_cell cell)) (sym (lane_cell n l f₀ v h));
  others = λ y ne. other y ne (dec_lt y n);
}
  where
    other : (y : ℕ) → y ≢ v → Dec (y < n) → get_or (lane n l f) y (pos 0) ≡ get_or (lane n l f₀) y (pos 0)
    other y ne (yes m) = lane_cell n l f y m ∙ E.others (n * l + y) (λ j q. elsewhere j (ℕ_discrete l j)) ∙ sym (lane_cell n l f₀ y m)
      where
        elsewhere : (j : ℕ) → Dec (l ≡ j) → n * l + y ≢ n * j + v
        elsewhere j (yes e) z = ne (omega (arith, z, ap (λ (x : ℕ). n * x) e))
        elsewhere j (no d) z = apart n l j y v d m h z
    other y ne (no m) = lane_out n l f y (omega arith) ∙ sym (lane_out n l f₀ y (omega arith))

-- the pass has come to v in each lane, and the cells past them are as they were
pub record Walked (lanes n : ℕ) (row : List ℤ) (c : List ℕ) (a : ℕ → ℤ) (f₀ f : List ℤ) (v : ℕ) : Type 0 where
  pub size : length f ≡ length f₀
  pub each : (l : ℕ) → l < lanes → Offering n row c (a l) (lane n l f₀) (lane n l f) v
  pub past : (y : ℕ) → n * lanes ≤ y → get_or f y (pos 0) ≡ get_or f₀ y (pos 0)

pub walk_turn : {lanes n v : ℕ} {row : List ℤ} {c : List ℕ} {a : ℕ → ℤ} {cell : ℤ} {f₀ f f' : List ℤ} → Chain n (walked_at row c) (λ v. get_or c v 0) → v < n → n * lanes ≤ length f₀
    → read_cell absent_cell cell ≡ walked_at row c v → Walked lanes n row c a f₀ f v → length f' ≡ length f → OfferedEach lanes n v a cell f f' → Walked lanes n row c a f₀ f' (get_or c v 0)
walk_turn {lanes} {n} {v} {row} {c} {a} {cell} {f₀} {f} {f'} C h room arc W size E = record {
  size = size ∙ W.size;
  each = λ l k. let r = lane_room n l lanes f₀ k room in
      offering_turn row c C h (omega (arith, lane-length n l f₀ r)) arc (lane-length n l f' (omega (arith, size, W.size, r)) ∙ sym (lane-length n l f (omega (arith, W.size, r)))) (offered_in h E l k) (W.each l k);
  past = λ y k. E.others y (λ l m e. omega (arith, row_of n l lanes m)) ∙ W.past y k;
}

-- a push in one lane alone
pub whole_pushed : {n : ℕ} {row : List ℤ} {c : List ℕ} {a : ℤ} {f₀ f : List ℤ} → Pushed n row c a (lane n 0 f₀) (lane n 0 f) → drop (n * 1) f ≡ drop (n * 1) f₀ → Pushed n row c a f₀ f
whole_pushed {n} {row} {c} {a} {f₀} {f} P e = record {
  cells = λ v h. ap (read_cell absent_wide) (sym (first f v h)) ∙ P.cells v h ∙ ap (λ (z : ℤ). read_cell absent_wide z ⋓ (read_cell absent_wide a ⊕ walked_at row c v)) (first f₀ v h);
  rest = λ v h. later f v h ∙ ap (λ (x : List ℤ). get_or x (v - n) (pos 0)) e ∙ sym (later f₀ v h);
}
  where
    first : (x : List ℤ) (v : ℕ) → v < n → get_or (lane n 0 x) v (pos 0) ≡ get_or x v (pos 0)
    first x v h = lane_cell n 0 x v h ∙ ap (λ (k : ℕ). get_or x k (pos 0)) (let q : n * 0 + v ≡ v = omega arith in q)

    later : (x : List ℤ) (v : ℕ) → n ≤ v → get_or x v (pos 0) ≡ get_or (drop (n * 1) x) (v - n) (pos 0)
    later x v h = sym (get_or-drop (n * 1) x (v - n) (pos 0) ∙ ap (λ (k : ℕ). get_or x k (pos 0)) (let q : n * 1 + (v - n) ≡ v = omega arith in q))
