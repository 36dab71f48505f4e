-- What each operation on the two words does to membership.
use Rattle.std.proofs.Common.{◌≡◌, refl, sym, ap, ap₂, ◌∙◌, subst, Bool, true, false, not, cond, ◌&&◌, ◌||◌, ℕ, ◌+◌, ◌-◌, ◌≤◌, ◌<◌, ◌^◌, T, eqb, ltb, arith, bit_and, bit_or}
use Rattle.std.specs.Int.{bit_not, trailing_zeros, w64}
use native.Mathlib.Decide.{ℕ_discrete, dec_lt}
use borrow.Author.Tests.{lt-ltb, le-ltb}
use lib.Dec.{eqb→eq}
use lib.Bits.{and_le_l, and_le_r, or_add_and}
use Rattle.laws.proofs.Booleans.{eqb_other, eq→eqb, true_is}
use Rattle.laws.proofs.Truth.{same_truth}
use Rattle.sets.specs.declared.Set.{Set}
use Rattle.sets.specs.Words.{odd}
use Rattle.sets.specs.Sets.{room, holds}
use Rattle.sets.proofs.Words.{odd_none, or_digit, and_digit, but_digit, least_digit}

abbrev pair : ℕ → ℕ → Set
pair x y = record { low = x; high = y }

-- the three places where a number can lie
pub low : (s : Set) (u : ℕ) → u < 64 → holds s u ≡ odd s.low u
unfolding holds
low s u l = ap (λ (b : Bool). cond b (odd s.low u) (ltb u room && odd s.high (u - 64))) (lt-ltb u 64 l)

pub high : (s : Set) (u : ℕ) → 64 ≤ u → u < room → holds s u ≡ odd s.high (u - 64)
unfolding holds
high s u g l = ap₂ (λ (a b : Bool). cond a (odd s.low u) (b && odd s.high (u - 64))) (le-ltb u 64 g) (lt-ltb u room l)

beyond : (s : Set) (u : ℕ) → room ≤ u → holds s u ≡ false
unfolding holds
beyond s u g = ap₂ (λ (a b : Bool). cond a (odd s.low u) (b && odd s.high (u - 64))) (le-ltb u 64 (omega arith)) (le-ltb u room g)

-- a fact of a member and its set, from its words
place {ℓ} : (P : ℕ → Type ℓ) → ((u : ℕ) → u < 64 → P u) → ((u : ℕ) → 64 ≤ u → u < room → P u) → ((u : ℕ) → room ≤ u → P u) → (u : ℕ) → P u
place P p q r u = go (dec_lt u 64) (dec_lt u room)
  where
    go : Dec (u < 64) → Dec (u < room) → P u
    go (yes l) _ = p u l
    go (no g) (yes l) = q u (omega arith) l
    go (no g) (no h) = r u (omega arith)

-- an operation that works digit by digit on the words works member by member
module _ (g : Bool → Bool → Bool) (none : g false false ≡ false) (a b c : Set) (on-low : (i : ℕ) → i < 64 → odd c.low i ≡ g (odd a.low i) (odd b.low i))
    (on-high : (i : ℕ) → i < 64 → odd c.high i ≡ g (odd a.high i) (odd b.high i)) where
  each_member : (u : ℕ) → holds c u ≡ g (holds a u) (holds b u)
  each_member = place (λ u. holds c u ≡ g (holds a u) (holds b u))
      (λ u l. low c u l ∙ on-low u l ∙ sym (ap₂ g (low a u l) (low b u l)))
      (λ u h l. high c u h l ∙ on-high (u - 64) (omega arith) ∙ sym (ap₂ g (high a u h l) (high b u h l)))
      (λ u h. beyond c u h ∙ sym (ap₂ g (beyond a u h) (beyond b u h) ∙ none))

pub or-member : (a b : Set) (u : ℕ) → holds (pair (bit_or a.low b.low) (bit_or a.high b.high)) u ≡ (holds a u || holds b u)
or-member a b = each_member ◌||◌ refl a b _ (λ i _. or_digit a.low b.low i) (λ i _. or_digit a.high b.high i)

pub and-member : (a b : Set) (u : ℕ) → holds (pair (bit_and a.low b.low) (bit_and a.high b.high)) u ≡ (holds a u && holds b u)
and-member a b = each_member ◌&&◌ refl a b _ (λ i _. and_digit a.low b.low i) (λ i _. and_digit a.high b.high i)

abbrev but : Bool → Bool → Bool
but x y = x && not y

pub but_member : (a b : Set) → b.low < 2 ^ 64 → b.high < 2 ^ 64 → (u : ℕ) → holds (pair (bit_and a.low (bit_not w64 b.low)) (bit_and a.high (bit_not w64 b.high))) u ≡ (holds a u && not (holds b u))
but_member a b l h = each_member but refl a b _ (but_digit a.low b.low l) (but_digit a.high b.high h)

pub empty-member : (u : ℕ) → holds (pair 0 0) u ≡ false
empty-member = place (λ u. holds (pair 0 0) u ≡ false) (λ u l. low (pair 0 0) u l ∙ odd_none u) (λ u h l. high (pair 0 0) u h l ∙ odd_none (u - 64)) (λ u h. beyond (pair 0 0) u h)

-- ---- one number: the word that has its digit alone

module _ (v w : ℕ) (s : Set) where
  module _ (h : v < 64) (e : (j : ℕ) → odd w j ≡ eqb j v) where
    lone_low : (u : ℕ) → holds (pair w 0) u ≡ eqb u v
    lone_low = place (λ u. holds (pair w 0) u ≡ eqb u v)
        (λ u l. low _ u l ∙ e u)
        (λ u g l. high _ u g l ∙ odd_none (u - 64) ∙ sym (eqb_other u v (λ q. omega arith)))
        (λ u g. beyond _ u g ∙ sym (eqb_other u v (λ q. omega arith)))

    pub plus_low : (u : ℕ) → holds (pair (bit_or w s.low) s.high) u ≡ (eqb u v || holds s u)
    plus_low u =
        each_member ◌||◌ refl (pair w 0) s (pair (bit_or w s.low) s.high) (λ i _. or_digit w s.low i) (λ i _. ap (λ (b : Bool). b || odd s.high i) (sym (odd_none i))) u
        ∙ ap (λ (b : Bool). b || holds s u) (lone_low u)

    pub minus_low : w < 2 ^ 64 → (u : ℕ) → holds (pair (bit_and s.low (bit_not w64 w)) s.high) u ≡ (holds s u && not (eqb u v))
    minus_low f u =
        each_member but refl s (pair w 0) (pair (bit_and s.low (bit_not w64 w)) s.high) (but_digit s.low w f) (λ i _. but_none s.high i) u
        ∙ ap (λ (b : Bool). holds s u && not b) (lone_low u)
      where
        but_none : (x i : ℕ) → odd x i ≡ (odd x i && not (odd 0 i))
        but_none x i = kept (odd x i) (odd 0 i) (odd_none i)
          where
            kept : (a b : Bool) → b ≡ false → a ≡ (a && not b)
            kept true b e = sym (ap not e)
            kept false b e = refl

  module _ (g : 64 ≤ v) (h : v < room) (e : (j : ℕ) → odd w j ≡ eqb j (v - 64)) where
    lone_high : (u : ℕ) → holds (pair 0 w) u ≡ eqb u v
    lone_high = place (λ u. holds (pair 0 w) u ≡ eqb u v)
        (λ u l. low _ u l ∙ odd_none u ∙ sym (eqb_other u v (λ q. omega arith)))
        (λ u k l. high _ u k l ∙ e (u - 64) ∙ same_truth (eqb (u - 64) (v - 64)) (eqb u v)
        (λ t. eq→eqb u v (back u k (eqb→eq (u - 64) (v - 64) t))) (λ t. eq→eqb (u - 64) (v - 64) (ap (λ (z : ℕ). z - 64) (eqb→eq u v t))))
        (λ u k. beyond _ u k ∙ sym (eqb_other u v (λ q. omega arith)))
      where
        back : (u : ℕ) → 64 ≤ u → u - 64 ≡ v - 64 → u ≡ v
        back u k q = omega arith

    pub plus_high : (u : ℕ) → holds (pair s.low (bit_or w s.high)) u ≡ (eqb u v || holds s u)
    plus_high u =
        each_member ◌||◌ refl (pair 0 w) s (pair s.low (bit_or w s.high)) (λ i _. ap (λ (b : Bool). b || odd s.low i) (sym (odd_none i))) (λ i _. or_digit w s.high i) u
        ∙ ap (λ (b : Bool). b || holds s u) (lone_high u)

    pub minus_high : w < 2 ^ 64 → (u : ℕ) → holds (pair s.low (bit_and s.high (bit_not w64 w))) u ≡ (holds s u && not (eqb u v))
    minus_high f u =
        each_member but refl s (pair 0 w) (pair s.low (bit_and s.high (bit_not w64 w))) (λ i _. kept (odd s.low i) (odd 0 i) (odd_none i)) (but_digit s.high w f) u
        ∙ ap (λ (b : Bool). holds s u && not b) (lone_high u)
      where
        kept : (a b : Bool) → b ≡ false → a ≡ (a && not b)
        kept true b e = sym (ap not e)
        kept false b e = refl

-- ---- whether there is a member, and the least

module _ (s : Set) where
  pub words_none : s.low ≡ 0 → s.high ≡ 0 → (u : ℕ) → holds s u ≡ false
  words_none e h u = ap₂ (λ (x y : ℕ). holds (pair x y) u) e h ∙ empty-member u

  pub none_empty : eqb (bit_or s.low s.high) 0 ≡ true → (u : ℕ) → holds s u ≡ false
  none_empty t =
      let both : bit_or s.low s.high ≡ 0 = eqb→eq (bit_or s.low s.high) 0 (true_is t) in
      words_none (omega (arith, both, or_add_and s.low s.high, and_le_r s.low s.high)) (omega (arith, both, or_add_and s.low s.high, and_le_l s.low s.high))

  -- v is the least member
  abbrev pub Least : ℕ → Type 0
  Least v = (v < room) × T (holds s v) × ((u : ℕ) → u < v → holds s u ≡ false)

  pub least_low : 0 < s.low → s.low < 2 ^ 64 → Least (trailing_zeros w64 s.low)
  least_low p h = let d = least_digit s.low p h in (omega (arith, d.0), true_is (low s _ d.0 ∙ d.1), λ u l. low s u (omega (arith, d.0, l)) ∙ d.2 u l)

  pub least_high : s.low ≡ 0 → 0 < s.high → s.high < 2 ^ 64 → Least (64 + trailing_zeros w64 s.high)
  least_high none p h =
      let d = least_digit s.high p h in
      let q : (64 + trailing_zeros w64 s.high) - 64 ≡ trailing_zeros w64 s.high = omega arith in
      (omega (arith, d.0), true_is (high s _ (omega arith) (omega (arith, d.0)) ∙ ap (odd s.high) q ∙ d.1), λ u l. below u l (dec_lt u 64))
    where
      below : (u : ℕ) → u < 64 + trailing_zeros w64 s.high → Dec (u < 64) → holds s u ≡ false
      below u l (yes k) = low s u k ∙ ap (λ (x : ℕ). odd x u) none ∙ odd_none u
      below u l (no k) = let d = least_digit s.high p h in high s u (omega arith) (omega (arith, d.0, l)) ∙ d.2 (u - 64) (omega (arith, l))

  pub some_member : s.low < 2 ^ 64 → s.high < 2 ^ 64 → eqb (bit_or s.low s.high) 0 ≡ false → (u : ℕ) × T (holds s u)
  some_member f h e = go (ℕ_discrete s.low 0) (ℕ_discrete s.high 0)
    where
      go : Dec (s.low ≡ 0) → Dec (s.high ≡ 0) → (u : ℕ) × T (holds s u)
      go (no p) _ = (_, (least_low (omega arith) f).1)
      go (yes p) (no q) = (_, (least_high p (omega arith) h).1)
      go (yes p) (yes q) = absurd (subst T (sym (ap₂ (λ (x y : ℕ). eqb (bit_or x y) 0) p q) ∙ e) tt)
