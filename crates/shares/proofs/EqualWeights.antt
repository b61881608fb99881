-- With equal weights the boundaries are the thesis's formula 27: the weight divides out, and what is left is a division with remainder.
-- Assumes nothing.
use mathlib.Core.Path.{◌≡◌, ap, ap₂, ◌∙◌, sym}
use mathlib.Core.Bool.{true}
use Prim.Native.Nat.{ℕ, ◌*◌, ◌/◌, ◌≤◌, ◌<◌}
use native.Mathlib.Nat.{mul_assoc, mul_comm, mul-le-mul_right, le_of_mul-le-mul_right, le-div_iff_mul-le, div-le_of_le-mul, div-mul-le_self}
use native.Mathlib.Omega.{arith}
use lib.Dec.{leb}
use lib.ListN.{length, take, replicate, length-replicate}
use borrow.Author.Tests.{leb-true, le-leb}
use Rattle.shares.specs.Shares.{total, boundary}
use Rattle.shares.proofs.Largest.{largest_is}
use Rattle.shares.proofs.Sums.{total_equal, total_all}

module _ (P N w s : ℕ) (some_share : 0 < P) (some_weight : 0 < w) (inside : s ≤ P) where
  total_replicate : total (replicate N w) ≡ N * w
  total_replicate =
      sym (total_all (replicate N w))
      ∙ ap (λ (j : ℕ). total (take j (replicate N w))) (length-replicate N w)
      ∙ total_equal N N w (omega arith)

  -- the weight divides out
  weighed : (j : ℕ) → j ≤ N → P * total (take j (replicate N w)) ≡ j * P * w
  weighed j below = ap (λ (t : ℕ). P * t) (total_equal N j w below) ∙ sym (mul_assoc P j w) ∙ ap (λ (t : ℕ). t * w) (mul_comm P j)

  whole : s * total (replicate N w) ≡ s * N * w
  whole = ap (λ (t : ℕ). s * t) total_replicate ∙ sym (mul_assoc s N w)

  share_le : s * N / P ≤ N
  share_le = div-le_of_le-mul P (mul-le-mul_right N inside)

  fits_equal : (j : ℕ) → j ≤ N → leb (P * total (take j (replicate N w))) (s * total (replicate N w)) ≡ leb (j * P * w) (s * N * w)
  fits_equal j below = ap₂ leb (weighed j below) whole

  pub boundary_equal : boundary P (replicate N w) s ≡ s * N / P
  boundary_equal =
      largest_is _ (length (replicate N w)) (s * N / P)
      record {
        within = rw length-replicate share_le;
        passes = fits_equal (s * N / P) share_le ∙ le-leb _ _ (mul-le-mul_right w (div-mul-le_self (s * N) P));
        none_above = most;
      }
    where
      most : (i : ℕ) → i ≤ length (replicate N w) → leb (P * total (take i (replicate N w))) (s * total (replicate N w)) ≡ true → i ≤ s * N / P
      most i below passes =
          let few : i ≤ N = rw length-replicate at below in
          (le-div_iff_mul-le some_share).1 (le_of_mul-le-mul_right (leb-true _ _ (sym (fits_equal i few) ∙ passes)) some_weight)
