-- Why the order that the code finds is one: vertices are placed one at a time, each when it waits for no other. The rank of a vertex that is not yet
-- placed is n.
use mathlib.Core.Path.{◌≡◌, refl, sym, ap, ◌∙◌, subst}
use mathlib.Core.Logic.{◌≢◌, ◌⊎◌, inl, inr}
use mathlib.Core.Bool.{Bool, true, false, cond}
use mathlib.Core.List.{List}
use Prim.Native.Nat.{ℕ, zero, suc, ◌+◌, ◌*◌, ◌≤◌, ◌<◌}
use native.Mathlib.Nat.{not-suc-le-zero}
use native.Mathlib.Decide.{ℕ_discrete, dec_lt}
use native.Mathlib.Omega.{arith}
use lib.Dec.{T, eqb, ltb, eqb→eq}
use lib.ListN.{length, get_or, set, length-set}
use lib.Seq.{get_or-set_same, get_or-set_other}
use borrow.Author.Tests.{lt-ltb, le-ltb}
use Rattle.laws.specs.Bounded.{sum}
use Rattle.laws.proofs.Booleans.{eq→eqb}
use Rattle.laws.proofs.Bounded.{first_holds, first_below}
use Rattle.laws.proofs.Update.{update, update_same, update_other}
use Rattle.laws.proofs.Sums.{sum_eq, sum_zero, sum-some, sum_bound, sum_but_one, sum_lt, sum_pick}
use Rattle.graph.specs.Delay.{Delay, absent, present}
use Rattle.graph.specs.Graph.{Graph, Acyclic}
use Rattle.graph.specs.Count.{bit, fan_in}
use Rattle.graph.proofs.Presence.{absent_or, bit_le, bit-present, bit_absent}
use Rattle.graph.proofs.Longest.{Within}
use Rattle.graph.proofs.Rank.{Ranked, acyclic_ranked}
use Rattle.paths.specs.Order.{TopologicalOrder, rank_of}

unfoldable pub order_ranked : {n : ℕ} {g : Graph} {o : List ℕ} → TopologicalOrder n g o → Ranked g
order_ranked {n} {g} {o} s = record { rank = rank_of n o; rise = s.rise }

-- ---- sums

pub sum_change : (n : ℕ) (f h : ℕ → ℕ) (k : ℕ) → k < n → ((i : ℕ) → i ≢ k → f i ≡ h i) → sum n f + h k ≡ sum n h + f k
sum_change n f h k l e =
    omega (arith, sum_but_one n f h k (h k) (f k) l (λ i _ ne. omega (arith, e i ne)) (omega arith), sum_but_one n h f k (f k) (h k) l (λ i _ ne. omega (arith, e i ne)) (omega arith))

sum_ones : (n : ℕ) → sum n (λ _. 1) ≡ n
unfolding sum
sum_ones zero = refl
sum_ones (suc n) = omega (arith, sum_ones n)

sum_short : (n : ℕ) (f : ℕ → ℕ) → sum n f < n → (k : ℕ) × (k < n) × (f k ≡ 0)
unfolding sum
sum_short zero f h = absurd (not-suc-le-zero h)
sum_short (suc n) f h = go (sum_short n f) (ℕ_discrete (f n) 0)
  where
    go : (sum n f < n → (k : ℕ) × (k < n) × (f k ≡ 0)) → Dec (f n ≡ 0) → (k : ℕ) × (k < suc n) × (f k ≡ 0)
    go ih (yes e) = (n, omega arith, e)
    go ih (no ne) = let r = ih (omega arith) in (r.0, omega arith, r.2)

-- ---- what is placed, and for how many a vertex waits

abbrev pub one : ℕ → ℕ → ℕ
one n r = cond (ltb r n) 1 0

abbrev pub wait : ℕ → ℕ → Delay → ℕ
wait n r d = cond (ltb r n) 0 (bit d)

one_in : (n r : ℕ) → r < n → one n r ≡ 1
one_in n r h = ap (λ (b : Bool). cond b 1 0) (lt-ltb r n h)

one_out : (n r : ℕ) → n ≤ r → one n r ≡ 0
one_out n r h = ap (λ (b : Bool). cond b 1 0) (le-ltb r n h)

one_le : (n r : ℕ) → one n r ≤ 1
one_le n r = go (ltb r n)
  where
    go : (b : Bool) → cond b 1 0 ≤ 1
    go true = omega arith
    go false = omega arith

wait_in : (n r : ℕ) (d : Delay) → r < n → wait n r d ≡ 0
wait_in n r d h = ap (λ (b : Bool). cond b 0 (bit d)) (lt-ltb r n h)

wait_out : (n r : ℕ) (d : Delay) → n ≤ r → wait n r d ≡ bit d
wait_out n r d h = ap (λ (b : Bool). cond b 0 (bit d)) (le-ltb r n h)

wait_le : (n r : ℕ) (d : Delay) → wait n r d ≤ 1
wait_le n r d = go (ltb r n)
  where
    go : (b : Bool) → cond b 0 (bit d) ≤ 1
    go true = omega arith
    go false = bit_le d

-- for how many vertices that are not placed v waits
unfoldable pub waits : ℕ → Graph → (ℕ → ℕ) → ℕ → ℕ
waits n g rank v = sum n (λ u. wait n (rank u) (g u v))

-- a byte for each vertex: how many it waits for, and 100 where it is placed
unfoldable pub fan_of : ℕ → Graph → (ℕ → ℕ) → ℕ → ℕ
fan_of n g rank v = waits n g rank v + 100 * one n (rank v)

pub record Going (n : ℕ) (g : Graph) (o f : List ℕ) (p : ℕ) : Type 0 where
  pub upto : p ≤ n
  pub long : n ≤ length o
  pub rank : ℕ → ℕ
  pub fan : (v : ℕ) → v < n → get_or f v 0 ≡ fan_of n g rank v
  pub place : (v : ℕ) → rank v < n → (rank v < p) × (get_or o (rank v) 0 ≡ v)
  pub vertex : (q : ℕ) → q < p → (get_or o q 0 < n) × (rank (get_or o q 0) ≡ q)
  pub rise : (u v : ℕ) → T (present (g u v)) → rank v < n → rank u < rank v
  pub count : sum n (λ v. one n (rank v)) ≡ p

-- at the start none is placed
pub going_start : (n : ℕ) (g : Graph) (o f : List ℕ) → n ≤ length o → ((v : ℕ) → v < n → get_or f v 0 ≡ fan_in n g v) → Going n g o f 0
unfolding fan_of waits fan_in
going_start n g o f l h = record {
  upto = omega arith;
  long = l;
  rank = λ _. n;
  fan = λ v k. omega (arith, h v k, sum_eq n (λ u. wait n n (g u v)) (λ u. bit (g u v)) (λ u _. wait_out n n (g u v) (omega arith)), one_out n n (omega arith));
  place = λ v k. absurd (omega arith);
  vertex = λ q k. absurd (omega arith);
  rise = λ u v t k. absurd (omega arith);
  count = sum_zero n (λ v. one n n) (λ v _. one_out n n (omega arith));
}

module _ {n : ℕ} {g : Graph} {o f : List ℕ} {p : ℕ} (w : Within n g) (G : Going n g o f p) where
  -- u waits for none, and is next
  module _ (p-in : p < n) (u : ℕ) (l : u < n) (z : get_or f u 0 ≡ 0) where
    new : n ≤ G.rank u
    unfolding fan_of
    new = go (dec_lt (G.rank u) n)
      where
        go : Dec (G.rank u < n) → n ≤ G.rank u
        go (yes h) = absurd (omega (arith, G.fan u l, one_in n (G.rank u) h))
        go (no h) = omega arith

    waits_none : waits n g G.rank u ≡ 0
    unfolding fan_of
    waits_none = omega (arith, G.fan u l)

    abbrev next : ℕ → ℕ
    next = update G.rank u p

    waits_next : (v : ℕ) → waits n g next v + bit (g u v) ≡ waits n g G.rank v
    unfolding waits
    waits_next v =
        let e = sum_change n (λ x. wait n (next x) (g x v)) (λ x. wait n (G.rank x) (g x v)) u l (λ i ne. ap (λ (r : ℕ). wait n r (g i v)) (update_other G.rank u p i ne)) in
        omega (arith, e, wait_out n (G.rank u) (g u v) new, ap (λ (r : ℕ). wait n r (g u v)) (update_same G.rank u p), wait_in n p (g u v) p-in)

    waits_few : (v : ℕ) → waits n g G.rank v ≤ n
    unfolding waits
    waits_few v = sum_bound n (λ x. wait n (G.rank x) (g x v)) (λ x. wait_le n (G.rank x) (g x v))

    -- no count is lowered below 0
    pub covers : (v : ℕ) → v < n → bit (g u v) ≤ get_or f v 0
    unfolding fan_of
    covers v k = omega (arith, G.fan v k, waits_next v)

    before : (x : ℕ) → T (present (g x u)) → (x ≢ u) × (G.rank x < p)
    unfolding waits
    before x t = (λ e. omega (arith, waits_next u, waits_none, bit-present (g u u) (subst (λ (y : ℕ). T (present (g y u))) e t)), (G.place x (placed (dec_lt (G.rank x) n))).0)
      where
        placed : Dec (G.rank x < n) → G.rank x < n
        placed (yes h) = h
        placed (no h) = absurd (omega (arith, sum_pick n (λ y. wait n (G.rank y) (g y u)) x (w.in_range x u t).0, waits_none, wait_out n (G.rank x) (g x u) (omega arith), bit-present (g x u) t))

    pub going_step : (h : List ℕ) → ((v : ℕ) → v < n → v ≢ u → get_or h v 0 + bit (g u v) ≡ get_or f v 0) → get_or h u 0 ≡ 100 → Going n g (set o p u) h (suc p)
    unfolding fan_of
    going_step h low mark = record {
      upto = p-in;
      long = omega (arith, G.long, length-set o p u);
      rank = next;
      fan = λ v k. fan' v k (ℕ_discrete v u);
      place = λ v k. place' v k (ℕ_discrete v u);
      vertex = λ q k. vertex' q (ℕ_discrete q p) k;
      rise = λ x v t k. rise' x v t k (ℕ_discrete v u);
      count = omega (
        arith,
        G.count,
        sum_change n (λ x. one n (next x)) (λ x. one n (G.rank x)) u l (λ i ne. ap (one n) (update_other G.rank u p i ne)),
        one_out n (G.rank u) new,
        ap (one n) (update_same G.rank u p),
        one_in n p p-in,
      );
    }
      where
        fan' : (v : ℕ) → v < n → Dec (v ≡ u) → get_or h v 0 ≡ fan_of n g next v
        fan' v k (yes e) = rw e (omega (arith, mark, waits_next u, waits_none, ap (one n) (update_same G.rank u p), one_in n p p-in))
        fan' v k (no ne) = omega (arith, low v k ne, G.fan v k, waits_next v, ap (one n) (update_other G.rank u p v ne))

        place' : (v : ℕ) → next v < n → Dec (v ≡ u) → (next v < suc p) × (get_or (set o p u) (next v) 0 ≡ v)
        place' v k (yes e) = rw (e, update_same G.rank u p) (omega arith, get_or-set_same o p u 0 (omega (arith, G.long)))
        place' v k (no ne) =
            let q = G.place v (subst (λ (r : ℕ). r < n) (update_other G.rank u p v ne) k) in
            rw (update_other G.rank u p v ne) (omega (arith, q.0), get_or-set_other o p (G.rank v) u 0 (λ e. omega (arith, q.0)) ∙ q.1)

        vertex' : (q : ℕ) → Dec (q ≡ p) → q < suc p → (get_or (set o p u) q 0 < n) × (next (get_or (set o p u) q 0) ≡ q)
        vertex' q (yes e) k = rw (e, get_or-set_same o p u 0 (omega (arith, G.long))) (l, update_same G.rank u p)
        vertex' q (no ne) k =
            let r = G.vertex q (omega arith) in
            rw (get_or-set_other o p q u 0 ne) (r.0, update_other G.rank u p (get_or o q 0) (λ e. omega (arith, r.1, ap G.rank e, new)) ∙ r.1)

        rise' : (x v : ℕ) → T (present (g x v)) → next v < n → Dec (v ≡ u) → next x < next v
        rise' x v t k (yes e) =
            let b = before x (subst (λ (y : ℕ). T (present (g x y))) e t) in
            rw (e, update_same G.rank u p, update_other G.rank u p x b.0) b.1
        rise' x v t k (no ne) =
            let kk = subst (λ (r : ℕ). r < n) (update_other G.rank u p v ne) k in
            let r = G.rise x v t kk in
            rw (update_other G.rank u p v ne, update_other G.rank u p x (λ e. omega (arith, ap G.rank e, new))) r

    -- a vertex that is placed keeps its 100
    pub going_kept : n < 100 → (h : List ℕ) → ((v : ℕ) → v < n → v ≢ u → get_or h v 0 + bit (g u v) ≡ get_or f v 0) → get_or h u 0 ≡ 100 → (v : ℕ) → v < n → 100 ≤ get_or f v 0 → 100 ≤ get_or h v 0
    unfolding fan_of
    going_kept few h low mark v k full = go (ℕ_discrete v u) (dec_lt (G.rank v) n)
      where
        go : Dec (v ≡ u) → Dec (G.rank v < n) → 100 ≤ get_or h v 0
        go (yes e) _ = rw e (omega (arith, mark))
        go (no ne) (yes r) = omega (arith, low v k ne, G.fan v k, waits_next v, one_in n (G.rank v) r)
        go (no ne) (no r) = absurd (omega (arith, G.fan v k, one_out n (G.rank v) (omega arith), waits_few v))

  -- all are placed
  pub going_all : p ≡ n → TopologicalOrder n g o
  going_all e = sorted
    where
      all : (v : ℕ) → v < n → G.rank v < n
      all v l = go (dec_lt (G.rank v) n)
        where
          go : Dec (G.rank v < n) → G.rank v < n
          go (yes h) = h
          go (no h) = absurd (omega (arith, G.count, sum_ones n, sum_lt n (λ x. one n (G.rank x)) (λ _. 1) v l (λ i _. one_le n (G.rank i)) (omega (arith, one_out n (G.rank v) (omega arith)))))

      -- the place that a search finds is the rank
      placed : (v : ℕ) → v < n → rank_of n o v < n
      placed v l = first_below n (λ p. eqb (get_or o p 0) v) (G.rank v) (all v l) (eq→eqb (get_or o (G.rank v) 0) v (G.place v (all v l)).1)

      there : (v : ℕ) → v < n → get_or o (rank_of n o v) 0 ≡ v
      there v l = eqb→eq (get_or o (rank_of n o v) 0) v (first_holds n (λ p. eqb (get_or o p 0) v) (placed v l))

      same : (v : ℕ) → v < n → rank_of n o v ≡ G.rank v
      same v l = sym (subst (λ (x : ℕ). G.rank x ≡ rank_of n o v) (there v l) (G.vertex (rank_of n o v) (omega (arith, placed v l))).1)

      sorted : TopologicalOrder n g o
      sorted = record {
        place = λ v l. (placed v l, there v l);
        vertex = λ q k. let r = G.vertex q (omega arith) in (r.0, same (get_or o q 0) r.0 ∙ r.1);
        rise = λ u v t. let i = w.in_range u v t in omega (arith, same u i.0, same v i.1, G.rise u v t (all v i.1));
      }

  -- each vertex that is not placed waits for another
  pub going_stuck : p < n → ((v : ℕ) → v < n → get_or f v 0 ≢ 0) → Acyclic g → ⊥
  unfolding fan_of waits
  going_stuck k h a = stuck (acyclic_ranked n w a).0 (sum_short n (λ x. one n (G.rank x)) (omega (arith, G.count)))
    where
      waiting : (v : ℕ) → v < n → n ≤ G.rank v → (u : ℕ) × (u < n) × (n ≤ G.rank u) × T (present (g u v))
      waiting v l o' = go (sum-some n (λ u. wait n (G.rank u) (g u v)) (let q = h v l in omega (arith, G.fan v l, one_out n (G.rank v) o')))
        where
          go : (u : ℕ) × (u < n) × (0 < wait n (G.rank u) (g u v)) → (u : ℕ) × (u < n) × (n ≤ G.rank u) × T (present (g u v))
          go (u, lu, ne) = (u, lu, out (dec_lt (G.rank u) n), arc (absent_or (g u v)) (dec_lt (G.rank u) n))
            where
              out : Dec (G.rank u < n) → n ≤ G.rank u
              out (yes q) = absurd (omega (arith, wait_in n (G.rank u) (g u v) q))
              out (no q) = omega arith

              arc : (g u v ≡ absent) ⊎ T (present (g u v)) → Dec (G.rank u < n) → T (present (g u v))
              arc (inl e) (yes q) = absurd (omega (arith, wait_in n (G.rank u) (g u v) q))
              arc (inl e) (no q) = absurd (omega (arith, wait_out n (G.rank u) (g u v) (omega arith), bit_absent e))
              arc (inr t) _ = t

      stuck : Ranked g → (v : ℕ) × (v < n) × (one n (G.rank v) ≡ 0) → ⊥
      stuck r (v, l, e) = down (suc (r.rank v)) v (omega arith) l (out (dec_lt (G.rank v) n))
        where
          out : Dec (G.rank v < n) → n ≤ G.rank v
          out (yes q) = absurd (omega (arith, one_in n (G.rank v) q))
          out (no q) = omega arith

          down : (m v : ℕ) → r.rank v < m → v < n → n ≤ G.rank v → ⊥
          down zero v q l o' = not-suc-le-zero q
          down (suc m) v q l o' = let x = waiting v l o' in down m x.0 (omega (arith, r.rise x.0 v x.3)) x.1 x.2
