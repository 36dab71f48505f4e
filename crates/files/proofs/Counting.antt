-- Pass 1: what a turn says of the record at the cursor, and the bytes that count the records by their source.
use Rattle.std.specs.Prelude.{Err, Some}
use Rattle.files.specs.declared.answer.Fault.{Fault}
use Rattle.std.specs.Prelude.{None, Ok, Option, Result}
use mathlib.Core.Path.{◌≡◌, refl, sym, ap, ◌∙◌, subst, fun_ext}
use mathlib.Core.Bool.{Bool, true, false, cond}
use mathlib.Core.List.{List}
use Prim.Native.Nat.{ℕ, suc, ◌+◌, ◌-◌, ◌*◌, ◌≤◌, ◌<◌}
use native.Mathlib.Decide.{ℕ_discrete}
use native.Mathlib.Omega.{arith}
use borrow.Author.Tests.{lt-leb}
use lib.Dec.{T, leb, eqb, leb→le}
use lib.IntN.{ℤ}
use lib.ListN.{length, get_or, set}
use lib.Seq.{get_or-set_same, get_or-set_other}
use Rattle.laws.proofs.Booleans.{eqb_same, eqb_other}
use Rattle.timing.specs.declared.Refusal.TheVariants.{FileEnds, NotRising, WrongCount, FileGoesOn}
use Rattle.timing.specs.Refusal.{number, Verdict, refused, accepted}
use Rattle.format.specs.declared.Record.{Record}
use Rattle.format.specs.declared.Record.TheVariants as R
use Rattle.format.specs.Records.{byte_at, record_at}
use Rattle.format.specs.Reading.{Reading, stopped, got, ask, Onward, worked_of, board_shape, known_at, board_records, counted, no_loads, file_loads}
use Rattle.format.proofs.AcceptedRecords.{legal, stands}
use Rattle.files.specs.declared.scan.Cursor.{Cursor}
use Rattle.files.specs.Loads.{loads_of}
use Rattle.files.specs.Scan.{found_says, Turns, Scans}
use Rattle.format.proofs.Readings.{ask_got}
use Rattle.files.proofs.Turning.{turn_means}
use Rattle.files.proofs.Leading.{Leading, leading_start, leading_turn, leading_end}

-- 15 where no mark fits any more
pub known_short : (l : List ℤ) (N : ℕ) (s : List ℕ) (p : ℕ) → length s < p + 2 → known_at l N s p ≡ refused (number FileEnds)
unfolding record_at
known_short l N s p h = simp (lt-leb (p + 2) (length s) h)

-- ---- what a turn says

-- one record more that leaves u
abbrev pub one_more : ℕ → (ℕ → ℕ) → ℕ → ℕ
one_more u load w = cond (eqb u w) (suc (load w)) (load w)

module _ (N : ℕ) (s : List ℕ) (c : Cursor) where
  abbrev p : ℕ
  p = c.at

  -- the record at the cursor is an arc's from u to v, and the cursor goes on to d
  pub record GoesOn (d : Cursor) : Type 0 where
    pub u : ℕ
    pub v : ℕ
    pub source_is : byte_at s (c.at + 2) ≡ u
    pub read : c.at + 2 < length s
    pub from_in : u < N
    pub to_in : v < N
    pub risen : c.low ≤ N * u + v
    pub low_is : d.low ≡ suc (N * u + v)
    pub counts : (load : ℕ → ℕ) (onward : ℕ → (ℕ → ℕ) → ℕ → ℕ) → worked_of (board_shape N) counted c.at load onward (record_at N s c.at) ≡ onward d.at (one_more u load)

  -- where a test is followed by anything at all, it holds, and this follows
  asked : (d : Cursor) (b : Bool) (q low count : ℕ) → ((onward : Onward) → onward d.at d.low d.count ≡ ask b NotRising p (onward q low count)) → T b × (d.at ≡ q) × (d.low ≡ low)
  asked d true q low count m = let e = same (m (λ x y z. stopped x y)) in (tt, e.0, e.1)
    where
      same : {x y z w : ℕ} → ◌≡◌ {A = Reading (Unit {0})} (stopped x y) (stopped z w) → (x ≡ z) × (y ≡ w)
      same e = (cc, cc)
  asked d false q low count m = absurd (let e : ◌≡◌ {A = Reading (Unit {0})} (got tt) _ = m (λ x y z. got tt) in let z : ◌≡◌ {A = ℕ} 0 1 = cc in omega arith)

  -- so that a record of an arc from a to b, before one at q, is followed
  on_arc : (d : Cursor) (a b q : ℕ) → byte_at s (p + 2) ≡ a → p + 2 < length s → a < N → b < N
      → ((load : ℕ → ℕ) (onward : ℕ → (ℕ → ℕ) → ℕ → ℕ) → worked_of (board_shape N) counted p load onward (record_at N s p) ≡ onward q (one_more a load))
      → ((onward : Onward) → onward d.at d.low d.count ≡ ask (leb c.low (N * a + b)) NotRising p (onward q (suc (N * a + b)) (suc c.count))) → GoesOn d
  on_arc d a b q e l hu hv f m =
      let h = asked d (leb c.low (N * a + b)) q (suc (N * a + b)) (suc c.count) m in
      record {
        u = a;
        v = b;
        source_is = e;
        read = l;
        from_in = hu;
        to_in = hv;
        risen = leb→le c.low (N * a + b) h.0;
        low_is = h.2;
        counts = λ load onward. f load onward ∙ ap (λ (x : ℕ). onward x (one_more a load)) (sym h.1);
      }

  on_found : (l : List ℤ) (d : Cursor) (x : Verdict Record) → known_at l N s p ≡ x → ((onward : Onward) → onward d.at d.low d.count ≡ found_says s c (board_shape N) x onward) → GoesOn d
  on_found l d (refused r) e m = absurd (let q : ◌≡◌ {A = Reading (Unit {0})} (got tt) (stopped r p) = m (λ x y z. got tt) in let z : ◌≡◌ {A = ℕ} 0 1 = cc in omega arith)
  on_found l d (accepted (R.Arc a b z)) e m =
      let q = stands l N s p (R.Arc a b z) e in
      let k = legal N s p (R.Arc a b z) q in
      on_arc d a b (p + 8) k.4 (omega (arith, k.0)) k.1 k.2 (λ load onward. ap (worked_of (board_shape N) counted p load onward) q) m
  on_found l d (accepted (R.Cell a b z)) e m =
      let q = stands l N s p (R.Cell a b z) e in
      let k = legal N s p (R.Cell a b z) q in
      on_arc d a b (p + 5) k.3 (omega (arith, k.0)) k.1 k.2 (λ load onward. ap (worked_of (board_shape N) counted p load onward) q) m
  on_found l d (accepted (R.End n)) e m = absurd (never (eqb n c.count) (eqb (p + 4) (length s)) (m (λ x y z. stopped 0 0)))
    where
      never : (a b : Bool) → ◌≡◌ {A = Reading (Unit {0})} (stopped 0 0) (ask a WrongCount p (ask b FileGoesOn (p + 4) (got tt))) → ⊥
      never false b h = let z : ◌≡◌ {A = ℕ} 0 19 = cc in omega arith
      never true false h = let z : ◌≡◌ {A = ℕ} 0 20 = cc in omega arith
      never true true h = let z : ◌≡◌ {A = ℕ} 0 1 = cc in omega arith

  not_done : (t : Bool) → ◌≡◌ {A = Reading (Unit {0})} (got tt) (ask t NotRising p (stopped 0 0)) → ⊥
  not_done t h = let q = (ask_got t NotRising p (stopped 0 0) tt (sym h)).1 in let z : ◌≡◌ {A = ℕ} 0 1 = cc in omega arith

  -- the record at the cursor is the last
  done_found : (l : List ℤ) (x : Verdict Record) → known_at l N s p ≡ x → ((onward : Onward) → got tt ≡ found_says s c (board_shape N) x onward) → (load : ℕ → ℕ) (onward : ℕ → (ℕ → ℕ) → ℕ → ℕ) → worked_of (board_shape N) counted p load onward (record_at N s p) ≡ load
  done_found l (refused r) e m load onward = absurd (let q : ◌≡◌ {A = Reading (Unit {0})} (got tt) (stopped r p) = m (λ x y z. stopped 0 0) in let z : ◌≡◌ {A = ℕ} 0 1 = cc in omega arith)
  done_found l (accepted (R.Arc a b z)) e m load onward = absurd (not_done (leb c.low (N * a + b)) (m (λ x y z. stopped 0 0)))
  done_found l (accepted (R.Cell a b z)) e m load onward = absurd (not_done (leb c.low (N * a + b)) (m (λ x y z. stopped 0 0)))
  done_found l (accepted (R.End n)) e m load onward = ap (worked_of (board_shape N) counted p load onward) (stands l N s p (R.End n) e)

module _ (l : List ℤ) (N : ℕ) (s : List ℕ) (c : Cursor) {r : Result (Option Cursor) Fault} (t : Turns (length s) c (found_says s c (board_shape N) (known_at l N s c.at)) r) where
  pub goes_on : (d : Cursor) → r ≡ Ok (Some d) → GoesOn N s c d
  goes_on d e = on_found N s c l d (known_at l N s c.at) refl (turn_means t e)

  pub is_done : r ≡ (Ok None) → (load : ℕ → ℕ) (onward : ℕ → (ℕ → ℕ) → ℕ → ℕ) → worked_of (board_shape N) counted c.at load onward (record_at N s c.at) ≡ load
  is_done e = done_found N s c l (known_at l N s c.at) refl (turn_means t e)

-- ---- the bytes

module _ (N : ℕ) (s : List ℕ) where
  -- each has at most the cells of its row that have been passed; with the records that are left it leads to the file's loads
  pub record Counting (l : List ℕ) (c : Cursor) : Type 0 where
    pub few : (w : ℕ) → get_or l w 0 ≤ c.low - N * w
    pub left : Leading (board_shape N) counted (length s) (record_at N s) (file_loads N s) c.at (loads_of l)

  pub counting_start : (l : List ℕ) → loads_of l ≡ no_loads → Counting l (record { at = 5; low = 0; count = 0 })
  unfolding file_loads
  counting_start l e = record {
    few = λ w. omega (arith, ap (λ (f : ℕ → ℕ). f w) e);
    left = subst (λ (f : ℕ → ℕ). Leading (board_shape N) counted (length s) (record_at N s) (file_loads N s) 5 f) (sym e) (leading_start (board_shape N) counted (length s) (record_at N s) 5 no_loads);
  }

  module _ (l : List ℕ) (c : Cursor) (w : Counting l c) where
    module _ (d : Cursor) (g : GoesOn N s c d) where
      -- a byte is enough
      pub counts_few : get_or l g.u 0 < N
      counts_few = omega (arith, w.few g.u, g.risen, g.to_in)

      pub counting_turn : N ≤ length l → c.at < d.at → d.at ≤ length s → Counting (set l g.u (get_or l g.u 0 + 1)) d
      counting_turn room f k = record {
        few = λ x. go x (ℕ_discrete x g.u);
        left = leading_turn (board_shape N) counted (length s) (record_at N s) _ c.at (loads_of l) w.left d.at (loads_of l') f k (λ onward. g.counts (loads_of l) onward ∙ ap (onward d.at) (sym (fun_ext (λ x. more x (ℕ_discrete x g.u)))));
      }
        where
          l' : List ℕ
          l' = set l g.u (get_or l g.u 0 + 1)

          own : get_or l' g.u 0 ≡ get_or l g.u 0 + 1
          own = get_or-set_same l g.u (get_or l g.u 0 + 1) 0 (omega (arith, room, g.from_in))

          other : (x : ℕ) → (x ≡ g.u → ⊥) → get_or l' x 0 ≡ get_or l x 0
          other x n = get_or-set_other l g.u x (get_or l g.u 0 + 1) 0 n

          go : (x : ℕ) → Dec (x ≡ g.u) → get_or l' x 0 ≤ d.low - N * x
          go x (yes e) = rw e (omega (arith, own, w.few g.u, g.risen, g.low_is))
          go x (no n) = omega (arith, other x n, w.few x, g.risen, g.low_is)

          more : (x : ℕ) → Dec (x ≡ g.u) → get_or l' x 0 ≡ one_more g.u (loads_of l) x
          more x (yes e) = rw e (simp (eqb_same g.u) (omega (arith, own)))
          more x (no n) = simp (eqb_other g.u x (λ q. n (sym q))) (other x n)

    pub counting_done : ((load : ℕ → ℕ) (onward : ℕ → (ℕ → ℕ) → ℕ → ℕ) → worked_of (board_shape N) counted c.at load onward (record_at N s c.at) ≡ load) → loads_of l ≡ file_loads N s
    counting_done h = leading_end (board_shape N) counted (length s) (record_at N s) _ c.at (loads_of l) w.left (h (loads_of l))

-- a refusal says nothing of loads
pub refused_scan : {l : List ℤ} {N : ℕ} {s loads : List ℕ} {f : Fault} → stopped (number f.refusal) f.at ≡ board_records l N s → Scans l N s loads (Err f)
refused_scan e = record { answer = e; counted = λ q. absurd (let z : ◌≡◌ {A = ℕ} 0 1 = cc in omega arith) }
