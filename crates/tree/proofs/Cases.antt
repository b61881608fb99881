-- A statement about a small number, by its cases: how a table's rule is proved at every entry. Assumes nothing.
use Rattle.std.proofs.Common.{ℕ, zero, suc, ◌<◌, arith}

pub below_2 : (P : ℕ → Type 0) → P 0 → P 1 → (i : ℕ) → i < 2 → P i
below_2 P p0 p1 zero small = p0
below_2 P p0 p1 (suc zero) small = p1
below_2 P p0 p1 (suc (suc i)) small = absurd (omega arith)

pub below_3 : (P : ℕ → Type 0) → P 0 → P 1 → P 2 → (i : ℕ) → i < 3 → P i
below_3 P p0 p1 p2 zero small = p0
below_3 P p0 p1 p2 (suc zero) small = p1
below_3 P p0 p1 p2 (suc (suc zero)) small = p2
below_3 P p0 p1 p2 (suc (suc (suc i))) small = absurd (omega arith)

pub below_4 : (P : ℕ → Type 0) → P 0 → P 1 → P 2 → P 3 → (i : ℕ) → i < 4 → P i
below_4 P p0 p1 p2 p3 zero small = p0
below_4 P p0 p1 p2 p3 (suc i) small = below_3 (λ (k : ℕ). P (suc k)) p1 p2 p3 i (omega arith)

pub below_5 : (P : ℕ → Type 0) → P 0 → P 1 → P 2 → P 3 → P 4 → (i : ℕ) → i < 5 → P i
below_5 P p0 p1 p2 p3 p4 zero small = p0
below_5 P p0 p1 p2 p3 p4 (suc i) small = below_4 (λ (k : ℕ). P (suc k)) p1 p2 p3 p4 i (omega arith)

pub below_6 : (P : ℕ → Type 0) → P 0 → P 1 → P 2 → P 3 → P 4 → P 5 → (i : ℕ) → i < 6 → P i
below_6 P p0 p1 p2 p3 p4 p5 zero small = p0
below_6 P p0 p1 p2 p3 p4 p5 (suc i) small = below_5 (λ (k : ℕ). P (suc k)) p1 p2 p3 p4 p5 i (omega arith)
