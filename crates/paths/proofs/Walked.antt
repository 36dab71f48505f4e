-- The arcs that a chain walks, and those that it leaves out: those are beaten, and signals that settle without them settle with them.
use denote.Struct.Props.{props}
use Rattle.std.proofs.Math.Logic.{∥∥₁_elim}
use mathlib.Core.Path.{◌≡◌, refl, sym, ap, ap₂, ◌∙◌, subst}
use mathlib.Core.Logic.{◌≢◌, ◌⊎◌, inl, inr}
use mathlib.Core.Bool.{Bool, true, false, cond}
use mathlib.Core.List.{List}
use Prim.Native.Nat.{ℕ, zero, suc, ◌+◌, ◌-◌, ◌≤◌, ◌<◌}
use native.Mathlib.Decide.{ℕ_discrete}
use native.Mathlib.Omega.{arith}
use lib.Signed.{◌≤ℤ◌}
use lib.Dec.{T, eqb}
use lib.IntN.{ℤ, pos, ◌+ℤ◌, ℤ_discrete}
use lib.ListN.{get_or}
use lib.Signed.{lt_z}
use mir.Syntax.{w32, w64}
use mir.Val.{SFits}
use Rattle.laws.proofs.Linear.{zneeds, zarith, up, dn, sum}
use Rattle.laws.proofs.Booleans.{T_true, true_is, is_false, eqb_same, eqb_other, split, cases}
use Rattle.graph.specs.Delay.{Delay, absent, at, present, ◌⊕◌, ◌⊑◌}
use Rattle.graph.specs.Graph.{Graph}
use Rattle.graph.proofs.Delay.{absent_⊑, ⊑_trans, ⊑-eq, ⊕-assoc, ⊕-left, ⊕-right, ⋓-sel, none_r, none_l}
use Rattle.graph.proofs.Presence.{absent_or, not-present}
use Rattle.graph.proofs.Span.{InSpan}
use Rattle.graph.proofs.Rank.{Ranked}
use Rattle.graph.proofs.Propagation.{Settled}
use Rattle.timing.specs.Limits.{delay_limit, absent_cell, fits}
use Rattle.timing.specs.Table.{read_cell}
use Rattle.timing.proofs.Limits.{fits_span}
use Rattle.timing.proofs.Table.{read_absent, read_at}
use Rattle.paths.proofs.ReadCells.{arc_cell}
use Rattle.paths.specs.Cells.{cell_at}
use Rattle.paths.specs.Chain.{Chain, walked, Beaten, Chained, below, unbeaten}

-- a chain is known by its cells
pub chain_same : {n : ℕ} {row row' : ℕ → Delay} {c c' : ℕ → ℕ} → ((v : ℕ) → v < n → row v ≡ row' v) → ((v : ℕ) → v < n → c v ≡ c' v) → Chain n row c → Chain n row' c'
chain_same {n} {row} {row'} {c} {c'} p q C = record {
  on = λ v l. subst (λ (x : ℕ). (v < x) × (x ≤ n)) (q v l) (C.on v l);
  arc = λ v l k. subst (λ (d : Delay). T (present d)) (p (c v) (omega (arith, q v l)) ∙ ap row' (q v l)) (C.arc v l (omega (arith, q v l)));
  between = λ v w l h k. sym (p w (omega (arith, q v l, (C.on v l).1))) ∙ C.between v w l h (omega (arith, q v l));
}

pub walked_same : (row row' : ℕ → Delay) (c c' : ℕ → ℕ) (v : ℕ) → row v ≡ row' v → c (v - 1) ≡ c' (v - 1) → walked c row v ≡ walked c' row' v
unfolding walked
walked_same row row' c c' v p q = ap₂ (λ (d : Delay) (x : ℕ). cond (eqb x v) d absent) p q

pub chained_same : {n : ℕ} {g : Graph} {u : ℕ} {c c' : ℕ → ℕ} → ((v : ℕ) → v < n → c v ≡ c' v) → Chained n g u c → Chained n g u c'
chained_same {n} {g} {u} {c} {c'} q C = record { chain = chain_same same q C.chain; rest = λ v l. subst (λ (d : Delay). ∥ (d ≡ g u v) ⊎ Beaten g u v ∥₁) (same v l) (C.rest v l) }
  where
    same : (v : ℕ) → v < n → walked c (g u) v ≡ walked c' (g u) v
    same v l = walked_same (g u) (g u) c c' v refl (q (v - 1) (omega arith))

either : (b : Bool) (d : Delay) → (cond b d absent ≡ d) ⊎ (cond b d absent ≡ absent)
either true d = inl refl
either false d = inr refl

pub walked-or : (c : ℕ → ℕ) (row : ℕ → Delay) (v : ℕ) → (walked c row v ≡ row v) ⊎ (walked c row v ≡ absent)
unfolding walked
walked-or c row v = either (eqb (c (v - 1)) v) (row v)

pub walked_is : (c : ℕ → ℕ) (row : ℕ → Delay) (v : ℕ) → T (present (walked c row v)) → walked c row v ≡ row v
walked_is c row v t = go (walked-or c row v)
  where
    go : (walked c row v ≡ row v) ⊎ (walked c row v ≡ absent) → walked c row v ≡ row v
    go (inl e) = e
    go (inr e) = absurd (not-present (walked c row v) e t)

-- a cell that a chain walks has an arc
pub walked_there : (c : ℕ → ℕ) (row : List ℤ) (v : ℕ) → T (present (walked c (cell_at row) v)) → get_or row v (pos 0) ≢ absent_cell
walked_there c row v t e = not-present (walked c (cell_at row) v) (walked_is c (cell_at row) v t ∙ read_absent absent_cell (get_or row v (pos 0)) e) t

pub walked-⊑ : (c : ℕ → ℕ) (row : ℕ → Delay) (v : ℕ) → walked c row v ⊑ row v
walked-⊑ c row v = go (walked-or c row v)
  where
    go : (walked c row v ≡ row v) ⊎ (walked c row v ≡ absent) → walked c row v ⊑ row v
    go (inl e) = ⊑-eq e
    go (inr e) = rw e (absent_⊑ (row v))

pub walked_span : (b : ℕ) (c : ℕ → ℕ) (row : ℕ → Delay) (v : ℕ) → InSpan b (row v) → InSpan b (walked c row v)
walked_span b c row v h = split (walked-or c row v) (λ e. subst (InSpan b) (sym e) h) (λ e. subst (InSpan b) (sym e) tt)

module _ {n : ℕ} {kept : ℕ → Delay} {c : ℕ → ℕ} (C : Chain n kept c) (row : ℕ → Delay) where
  no_step : (v : ℕ) → c (v - 1) ≢ v → walked c row v ≡ absent
  unfolding walked
  no_step v ne = rw (eqb_other (c (v - 1)) v ne)

  -- none leads to vertex 0
  pub walked-first : 1 ≤ n → walked c row 0 ≡ absent
  walked-first h = no_step 0 (λ e. omega (arith, (C.on 0 h).0))

  -- a chain of some arcs of a row walks just those
  module _ (first : kept 0 ≡ absent) (some : (v : ℕ) → v < n → (kept v ≡ row v) ⊎ (kept v ≡ absent)) where
    pub walked_are : (v : ℕ) → v < n → kept v ≡ walked c row v
    unfolding walked
    walked_are v l = go (ℕ_discrete v 0) (ℕ_discrete (c (v - 1)) v)
      where
        there : c (v - 1) ≡ v → (kept v ≡ row v) ⊎ (kept v ≡ absent) → v ≢ 0 → kept v ≡ row v
        there e (inl k) _ = k
        there e (inr k) ne = absurd (not-present (kept v) k (subst (λ (x : ℕ). T (present (kept x))) e (C.arc (v - 1) (omega arith) (omega arith))))

        go : Dec (v ≡ 0) → Dec (c (v - 1) ≡ v) → kept v ≡ cond (eqb (c (v - 1)) v) (row v) absent
        go (yes z) _ = ap kept z ∙ first ∙ sym (walked-first (omega arith)) ∙ ap (walked c row) (sym z)
        go (no z) (yes e) = there e (some v l) z ∙ sym (ap (λ (b : Bool). cond b (row v) absent) (ap (λ (x : ℕ). eqb x v) e ∙ eqb_same v))
        go (no z) (no ne) = C.between (v - 1) v (omega arith) (omega arith) (omega (arith, (C.on (v - 1) (omega arith)).0)) ∙ sym (no_step v ne)

-- a chain of arcs that leave u, without some that are beaten
pub chained : {n : ℕ} {g : Graph} {u : ℕ} {kept : ℕ → Delay} {c : ℕ → ℕ} → Chain n kept c → kept 0 ≡ absent → ((v : ℕ) → v < n → (kept v ≡ g u v) ⊎ ((kept v ≡ absent) × Beaten g u v)) → Chained n g u c
chained {n} {g} {u} {kept} {c} C first some = record {
  chain = chain_same same (λ v l. refl) C;
  rest = λ v l. ∣ split (some v l) (λ e. inl (sym (same v l) ∙ e)) (λ e. inr e.1) ∣₁;
}
  where
    same : (v : ℕ) → v < n → kept v ≡ walked c (g u) v
    same = walked_are C (g u) first (λ v l. split (some v l) (λ e. inl e) (λ e. inr e.0))

-- ---- the test

below-not : (x y : Delay) → T (below x y) → ¬ (y ⊑ x)
unfolding below
below-not x absent t h = absurd t
below-not absent (at b) t h = h.le
below-not (at a) (at b) t h = let k = h.le in omega zarith

-- as the code has it: absent is so low that a sum with it is below every cell
pub two_fit : {d next : ℤ} → SFits w32 d → SFits w32 next → SFits w64 (d +ℤ next)
two_fit {d} {next} f g = omega (zneeds, sum d next)

-- a cell is at most the limit, present or absent
most : (z : ℤ) → T (fits delay_limit (read_cell absent_cell z)) → up z ≤ dn z + delay_limit
most z t = go (ℤ_discrete z absent_cell)
  where
    go : Dec (z ≡ absent_cell) → up z ≤ dn z + delay_limit
    go (yes e) = omega zarith
    go (no ne) = (fits_span delay_limit (at z) (subst (λ (x : Delay). T (fits delay_limit x)) (read_at absent_cell z ne) t)).0

pub below-cells : (cell d next : ℤ) → T (present (read_cell absent_cell cell)) → T (fits delay_limit (read_cell absent_cell cell)) → T (fits delay_limit (read_cell absent_cell d)) → T (fits delay_limit (read_cell absent_cell next))
    → lt_z cell (d +ℤ next) ≡ below (read_cell absent_cell cell) (read_cell absent_cell d ⊕ read_cell absent_cell next)
unfolding below
below-cells cell d next t fc fd fn = rw here (go (ℤ_discrete d absent_cell) (ℤ_discrete next absent_cell))
  where
    here : read_cell absent_cell cell ≡ at cell
    here = arc_cell cell (T_true t)

    span : InSpan delay_limit (at cell)
    span = fits_span delay_limit (at cell) (subst (λ (x : Delay). T (fits delay_limit x)) here fc)

    go : Dec (d ≡ absent_cell) → Dec (next ≡ absent_cell) → lt_z cell (d +ℤ next) ≡ below (at cell) (read_cell absent_cell d ⊕ read_cell absent_cell next)
    go (yes e) _ =
        is_false (lt_z cell (d +ℤ next)) (λ k. omega (zarith, sum d next, most next fn, span))
        ∙ sym (ap (λ (x : Delay). below (at cell) (x ⊕ read_cell absent_cell next)) (read_absent absent_cell d e))
    go (no ne) (yes e) =
        is_false (lt_z cell (d +ℤ next)) (λ k. omega (zarith, sum d next, most d fd, span))
        ∙ sym (ap₂ (λ (x y : Delay). below (at cell) (x ⊕ y)) (read_at absent_cell d ne) (read_absent absent_cell next e))
    go (no nd) (no ne) = sym (ap₂ (λ (x y : Delay). below (at cell) (x ⊕ y)) (read_at absent_cell d nd) (read_at absent_cell next ne))

module _ (row next : ℕ → Delay) (d : Delay) (v : ℕ) where
  pub unbeaten_no : below (row v) (d ⊕ next v) ≡ false → unbeaten row next d v ≡ row v
  unfolding unbeaten
  unbeaten_no e = ap (λ (b : Bool). cond b absent (row v)) e

  pub unbeaten_yes : below (row v) (d ⊕ next v) ≡ true → unbeaten row next d v ≡ absent
  unfolding unbeaten
  unbeaten_yes e = ap (λ (b : Bool). cond b absent (row v)) e

  pub unbeaten_none : row v ≡ absent → unbeaten row next d v ≡ absent
  unbeaten_none e = cases (below (row v) (d ⊕ next v)) unbeaten_yes (λ z. unbeaten_no z ∙ e)

  pub unbeaten-or : (unbeaten row next d v ≡ row v) ⊎ ((unbeaten row next d v ≡ absent) × ¬ (d ⊕ next v ⊑ row v))
  unbeaten-or = cases (below (row v) (d ⊕ next v)) (λ e. inr (unbeaten_yes e, below-not (row v) (d ⊕ next v) (true_is e))) (λ e. inl (unbeaten_no e))

-- ---- an arc that is beaten carries nothing that comes later

≤ℤ-prop : (a b : ℤ) → IsProp (a ≤ℤ b)
≤ℤ-prop a b = hlevel props

⊑-prop : (x y : Delay) → IsProp (x ⊑ y)
⊑-prop absent y = search props
⊑-prop (at a) absent = λ p. absurd p.le
⊑-prop (at a) (at b) = λ p q. ap (λ (h : a ≤ℤ b). record { le = h }) (≤ℤ-prop a b p.le q.le)

pub beaten_⊑ : {g : Graph} {u v : ℕ} (B : Beaten g u v) → g u v ⊑ g u B.via ⊕ g B.via v
beaten_⊑ {g} {u} {v} B = split (⋓-sel (g u v) (g u B.via ⊕ g B.via v)) (λ h. h.0) (λ h. absurd (B.longer h.0))

module _ {g k : Graph} (r : Ranked g) (less : (u v : ℕ) → k u v ⊑ g u v) (rest : (u v : ℕ) → ∥ (k u v ≡ g u v) ⊎ Beaten g u v ∥₁) {F G : ℕ → Delay} (s : Settled k F G) where
  flow : (m u v : ℕ) → r.rank v ≤ r.rank u + m → G u ⊕ g u v ⊑ G v
  flow zero u v h = go (absent_or (g u v))
    where
      go : (g u v ≡ absent) ⊎ T (present (g u v)) → G u ⊕ g u v ⊑ G v
      go (inl e) = none_r (G u) e
      go (inr t) = absurd (omega (arith, r.rise u v t))
  flow (suc m) u v h = ∥∥₁_elim (rest u v) (⊑-prop _ _) (go (flow m))
    where
      go : ((u v : ℕ) → r.rank v ≤ r.rank u + m → G u ⊕ g u v ⊑ G v) → (k u v ≡ g u v) ⊎ Beaten g u v → G u ⊕ g u v ⊑ G v
      go ih (inl e) = rw (← e) (s.flow u v)
      go ih (inr B) = on (absent_or (g u B.via)) (absent_or (g B.via v))
        where
          on : (g u B.via ≡ absent) ⊎ T (present (g u B.via)) → (g B.via v ≡ absent) ⊎ T (present (g B.via v)) → G u ⊕ g u v ⊑ G v
          on (inl e) _ = absurd (B.longer (none_l (g B.via v) e))
          on (inr _) (inl e) = absurd (B.longer (none_r (g u B.via) e))
          on (inr a) (inr b) =
              ⊑_trans (⊕-left (G u) (beaten_⊑ B)) (rw (← (⊕-assoc (G u) (g u B.via) (g B.via v)))
              (⊑_trans (⊕-right (g B.via v) (ih u B.via (omega (arith, r.rise u B.via a, r.rise B.via v b)))) (ih B.via v (omega (arith, r.rise u B.via a, r.rise B.via v b)))))

  pub settled_with : Settled g F G
  settled_with = record { start = s.start; flow = λ u v. flow (r.rank v) u v (omega arith); last = λ v. split (s.last v) (λ h. inl h) (λ h. inr (h.0, ⊑_trans h.1 (⊕-left (G h.0) (less h.0 v)))) }
