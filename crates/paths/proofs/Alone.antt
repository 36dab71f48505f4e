-- One lane alone is the list.
use mathlib.Core.Path.{◌≡◌, sym, ap, ap₂, ◌∙◌, subst}
use mathlib.Core.List.{List, [], ◌++◌}
use Prim.Native.Nat.{ℕ, ◌+◌, ◌*◌, ◌<◌}
use native.Mathlib.Omega.{arith}
use lib.Dec.{T}
use lib.IntN.{ℤ, pos}
use lib.ListN.{get_or, take, drop}
use Rattle.std.proofs.lemmas.List.{take-append-drop, drop_all, append-nil, length-take}
use Rattle.laws.specs.Lists.{tabulate}
use Rattle.laws.proofs.Lists.{tabulate_same}
use Rattle.graph.specs.Delay.{Delay, ◌⋓◌, ◌⊕◌}
use Rattle.graph.specs.Graph.{Graph, longest, propagated}
use Rattle.graph.proofs.Greatest.{greatest_ext}
use Rattle.timing.specs.Limits.{absent_wide, fits}
use Rattle.timing.specs.Table.{read_cell, write_cell}
use Rattle.timing.specs.Delays.{arrival_in}
use Rattle.paths.specs.Arrivals.{inside_limit, lane, filled, Starts}
use Rattle.paths.proofs.Lanes.{lane-length, lane_cell}

lane_whole : (n : ℕ) (f : List ℤ) (v : ℕ) → v < n → get_or (lane n 0 f) v (pos 0) ≡ get_or f v (pos 0)
lane_whole n f v h = lane_cell n 0 f v h ∙ ap (λ (k : ℕ). get_or f k (pos 0)) (let q : n * 0 + v ≡ v = omega arith in q)

pub starts_alone : {n : ℕ} {f : List ℤ} → Starts n f → Starts n (lane n 0 f)
starts_alone {n} {f} s = record {
  room = omega (arith, lane-length n 0 f (omega (arith, s.room)));
  near = λ v h. subst (λ (z : ℤ). T (fits inside_limit (read_cell absent_wide z))) (sym (lane_whole n f v h)) (s.near v h);
}

-- what is filled in the lane is filled in the list
pub filled_alone : (n : ℕ) (h h' : ℕ → Delay) (f f' : List ℤ) → ((v : ℕ) → v < n → h v ≡ h' v) → lane n 0 f' ≡ filled n h (lane n 0 f) → drop (n * 1) f' ≡ drop (n * 1) f → f' ≡ filled n h' f
filled_alone n h h' f f' same e past = sym (take-append-drop n f') ∙ ap₂ ◌++◌ head tail
  where
    none : drop n (lane n 0 f) ≡ []
    none = drop_all n (lane n 0 f) (omega (arith, length-take n (drop (n * 0) f)))

    head : take n f' ≡ tabulate n (λ v. write_cell absent_wide (h' v))
    head = ap (λ (k : ℕ). take n (drop k f')) (let q : 0 ≡ n * 0 = omega arith in q) ∙ e ∙ ap (λ (x : List ℤ). tabulate n (λ v. write_cell absent_wide (h v)) ++ x) none ∙ append-nil (tabulate n (λ v. write_cell absent_wide (h v)))
        ∙ tabulate_same n (λ v. write_cell absent_wide (h v)) (λ v. write_cell absent_wide (h' v)) (λ v l. ap (write_cell absent_wide) (same v l))

    tail : drop n f' ≡ drop n f
    tail = subst (λ (k : ℕ). drop k f' ≡ drop k f) (let q : n * 1 ≡ n = omega arith in q) past

-- signals that start alike below n settle alike there
pub propagated_alone : (n : ℕ) (g : Graph) (f : List ℤ) (v : ℕ) → v < n → propagated n g (arrival_in (lane n 0 f)) v ≡ propagated n g (arrival_in f) v
unfolding propagated
propagated_alone n g f v h = ap₂ ◌⋓◌ (at v h) (greatest_ext n _ _ (λ u k. ap (λ (d : Delay). d ⊕ longest g n u v) (at u k)))
  where
    at : (u : ℕ) → u < n → arrival_in (lane n 0 f) u ≡ arrival_in f u
    at u k = ap (read_cell absent_wide) (lane_whole n f u k)
