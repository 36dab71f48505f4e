-- What the limit on vertices comes to: the most arcs of a graph without a cycle, and at one vertex, and the most pairs of an input and an output.
use Prim.Native.Nat.{ℕ, zero, suc, ◌+◌, ◌-◌, ◌*◌, ◌≤◌}
use native.Mathlib.Nat.{mul-suc, mul-le-mul, mul-le-mul_left}
use native.Mathlib.Omega.{arith}
use lib.Dec.{T, leb, leb→le}
use Rattle.laws.specs.Bounded.{every}
use Rattle.laws.proofs.Bounded.{every_at}
use Rattle.graph.specs.Graph.{Graph, Acyclic}
use Rattle.graph.specs.Count.{arcs}
use Rattle.graph.proofs.MostArcs.{fans_below, arcs_half}
use Rattle.timing.specs.Limits.{max_vertices}
use Rattle.timing.specs.Fans.{FewAtVertex}
use Rattle.timing.proofs.Checks.{passed, few_of}

-- 90 × 89 / 2
pub arcs-most : (N : ℕ) {g : Graph} → Acyclic g → N ≤ max_vertices → arcs N g ≤ 4005
arcs-most zero a few = omega (arith, arcs_half a zero)
arcs-most (suc k) a few =
    let below : k ≤ 89 = omega arith in
    let less : suc k * k ≤ 90 * 89 = mul-le-mul few below in
    omega (arith, arcs_half a (suc k), mul-suc (suc k) k, less)

pub few_at_vertex : FewAtVertex
few_at_vertex m n N t p v l =
    let s = passed m n N t p in
    omega (arith, fans_below s.sound.acyclic N v l, few_of m n N s.sizes)

-- 45 inputs and 45 outputs have the most pairs
few_pairs : T (every (suc max_vertices) (λ m. leb (m * (max_vertices - m)) 2025))
unfolding every
few_pairs = tt

pub pairs-most : (m n : ℕ) → m + n ≤ max_vertices → m * n ≤ 2025
pairs-most m n few =
    let less : m * n ≤ m * (max_vertices - m) = mul-le-mul_left m (omega arith) in
    omega (arith, less, leb→le (m * (max_vertices - m)) 2025 (every_at (suc max_vertices) (λ x. leb (x * (max_vertices - x)) 2025) few_pairs m (omega arith)))
