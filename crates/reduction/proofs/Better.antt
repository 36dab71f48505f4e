-- What every accepted step does to a graph: `Better`. And what the tests of roles say.
use mathlib.Core.Path.{◌≡◌, refl, sym, ◌∙◌}
use mathlib.Core.Logic.{◌≢◌, ◌⊎◌, inl, inr}
use mathlib.Core.Bool.{Bool}
use Prim.Native.Nat.{ℕ, ◌+◌, ◌≤◌, ◌<◌}
use native.Mathlib.Decide.{ℕ_discrete}
use native.Mathlib.Omega.{arith}
use lib.Dec.{T, eqb→eq, leb, ltb, leb→le, le→leb, ltb→lt, lt→ltb}
use Rattle.laws.specs.Bounded.{sum}
use Rattle.laws.proofs.Booleans.{and_i, and_e}
use Rattle.laws.proofs.Sums.{sum_term}
use Rattle.graph.specs.Delay.{Delay, absent, present}
use Rattle.graph.specs.Graph.{Graph, Longest, longest}
use Rattle.graph.specs.Count.{bit, fan_in, fan_out, arcs}
use Rattle.graph.proofs.Presence.{not-present, absent_or, absent_bit}
use Rattle.graph.proofs.Longest.{Within, longest_is}
use Rattle.graph.proofs.Count.{sole}
use Rattle.graph.proofs.Rank.{Ranked, ranked_acyclic, acyclic_ranked}
use Rattle.timing.specs.Sound.{LegalArc, Sound}
use Rattle.timing.proofs.Checks.{sound_within}
use Rattle.reduction.specs.Outcome.{is_output, is_inner, every_pair, unused}

abbrev pub Output : ℕ → ℕ → ℕ → Type 0
Output m n j = (m ≤ j) × (j < m + n)

abbrev pub Inner : ℕ → ℕ → ℕ → ℕ → Type 0
Inner m n N k = (m + n ≤ k) × (k < N)

pub output_of : (m n j : ℕ) → T (is_output m n j) → Output m n j
output_of m n j t = let p = and_e (leb m j) (ltb j (m + n)) t in (leb→le m j p.0, ltb→lt j (m + n) p.1)

pub inner_of : (m n N k : ℕ) → T (is_inner m n N k) → Inner m n N k
inner_of m n N k t = let p = and_e (leb (m + n) k) (ltb k N) t in (leb→le (m + n) k p.0, ltb→lt k N p.1)

pub inner_is : (m n N k : ℕ) → Inner m n N k → T (is_inner m n N k)
inner_is m n N k h = and_i (leb (m + n) k) (ltb k N) (le→leb (m + n) k h.0) (lt→ltb k N h.1)

-- what a change of a graph keeps, whatever it costs: the greatest delays of the pairs that count
pub record Same (counts : ℕ → ℕ → Bool) (m n N : ℕ) (g g' : Graph) : Type 0 where
  pub sound : Sound m n N g'
  pub matrix : (i j : ℕ) → i < m → Output m n j → T (counts i j) → longest g' N i j ≡ longest g N i j

pub record Better (counts : ℕ → ℕ → Bool) (m n N : ℕ) (g g' : Graph) : Type 0 where
  pub same : Same counts m n N g g'
  pub fewer : arcs N g' < arcs N g

-- no change
pub same_self : {counts : ℕ → ℕ → Bool} {m n N : ℕ} {g : Graph} → Sound m n N g → Same counts m n N g g
same_self s = record { sound = s; matrix = λ i j hi hj c. refl }

-- one change after another
pub same_on : {counts : ℕ → ℕ → Bool} {m n N : ℕ} {g g' g'' : Graph} → Same counts m n N g g' → Same counts m n N g' g'' → Same counts m n N g g''
same_on a b = record { sound = b.sound; matrix = λ i j hi hj c. b.matrix i j hi hj c ∙ a.matrix i j hi hj c }

-- what is kept for every pair is kept for those that count
pub same_for : {counts : ℕ → ℕ → Bool} {m n N : ℕ} {g g' : Graph} → Same every_pair m n N g g' → Same counts m n N g g'
same_for a = record { sound = a.sound; matrix = λ i j hi hj _. a.matrix i j hi hj tt }

-- where none of the first N is counted, and there are no others
pub none_counted : (N : ℕ) (f : ℕ → Delay) → ((u : ℕ) → T (present (f u)) → u < N) → sum N (λ u. bit (f u)) ≡ 0 → (u : ℕ) → f u ≡ absent
none_counted N f below e u = go (absent_or (f u))
  where
    go : (f u ≡ absent) ⊎ T (present (f u)) → f u ≡ absent
    go (inl z) = z
    go (inr h) = absent_bit (f u) (omega (arith, sum_term N (λ u. bit (f u)) u (below u h)))

-- where one is counted, it is the one that is known
pub alone : (N : ℕ) (f : ℕ → Delay) → ((u : ℕ) → T (present (f u)) → u < N) → sum N (λ u. bit (f u)) ≡ 1 → (u : ℕ) → T (present (f u)) → (x : ℕ) → x ≢ u → f x ≡ absent
alone N f below e u t x n = let p = sole N f below e in go p.0 p.3 (ℕ_discrete u p.0)
  where
    go : (p : ℕ) → ((x : ℕ) → x ≢ p → f x ≡ absent) → Dec (u ≡ p) → f x ≡ absent
    go p only (yes z) = only x (λ y. n (y ∙ sym z))
    go p only (no z) = absurd (not-present (f u) (only u z) t)

-- a vertex that is not in use has no arcs
module _ {N : ℕ} {g : Graph} (w : Within N g) (k : ℕ) (t : T (unused N g k)) where
  pub unused_in : (u : ℕ) → g u k ≡ absent
  unfolding unused fan_in
  unused_in = none_counted N (λ u. g u k) (λ u h. (w.in_range u k h).0) (omega (arith, eqb→eq (fan_in N g k + fan_out N g k) 0 t))

  pub unused_out : (v : ℕ) → g k v ≡ absent
  unfolding unused fan_out
  unused_out = none_counted N (g k) (λ v h. (w.in_range k v h).1) (omega (arith, eqb→eq (fan_in N g k + fan_out N g k) 0 t))

module _ {m n N : ℕ} {g : Graph} (s : Sound m n N g) where
  pub rank_of : Ranked g
  rank_of = (acyclic_ranked N (sound_within s) s.acyclic).0

  pub longest_of : Longest g (longest g N)
  longest_of = longest_is N g (sound_within s) s.acyclic

  -- inputs, outputs and inner vertices are apart
  pub input_output : (i j : ℕ) → i < m → Output m n j → j ≢ i
  input_output i j hi hj e = omega arith

  pub input_inner : (i k : ℕ) → i < m → Inner m n N k → i ≢ k
  input_inner i k hi hk e = omega arith

  pub output_inner : (j k : ℕ) → Output m n j → Inner m n N k → j ≢ k
  output_inner j k hj hk e = omega arith

  -- a new graph: its arcs are legal, it has a rank, its greatest delays are the old ones
  pub same : {counts : ℕ → ℕ → Bool} {g' : Graph} → ((u v : ℕ) → T (present (g' u v)) → LegalArc m N u v (g' u v)) → Ranked g'
      → (Longest g' (longest g' N) → (i j : ℕ) → i < m → Output m n j → T (counts i j) → longest g' N i j ≡ longest g N i j) → Same counts m n N g g'
  same {counts} {g'} legal r' delays =
      let s' : Sound m n N g' = record { legal = legal; acyclic = ranked_acyclic r'; room = s.room } in
      record { sound = s'; matrix = delays (longest_is N g' (sound_within s') (ranked_acyclic r')) }

  -- of every pair, and its arcs are fewer
  pub better : {g' : Graph} → ((u v : ℕ) → T (present (g' u v)) → LegalArc m N u v (g' u v)) → Ranked g'
      → (Longest g' (longest g' N) → (i j : ℕ) → i < m → Output m n j → longest g' N i j ≡ longest g N i j) → arcs N g' < arcs N g → Better every_pair m n N g g'
  better legal r' delays few = record { same = same legal r' (λ l i j hi hj _. delays l i j hi hj); fewer = few }
