-- The entries of a list are all different where a number that each has is: how a short list is shown to hold each of its entries once.
-- Assumes nothing.
use Rattle.std.proofs.Common.{◌≡◌, ℕ, List, [], ◌∷◌, map, ap, ⊎_elim}
use mathlib.Core.Logic.{∥∥₁_elim}
use mathlib.Core.HLevel.{⊥_prop}
use mathlib.Core.List.Memᴰ
use mathlib.Core.List.{Memᴰ, Nodup, Nodup-nil, Nodup-cons}

-- m is none of the numbers
abbrev pub NoneOf : ℕ → List ℕ → Type 0
NoneOf m [] = Unit
NoneOf m (n ∷ ns) = (m ≡ n → ⊥) × NoneOf m ns

-- the numbers are all different
abbrev pub Apart : List ℕ → Type 0
Apart [] = Unit
Apart (m ∷ ns) = NoneOf m ns × Apart ns

module _ {A : Type 0} (number : A → ℕ) where
  missing : (a : A) (l : List A) → NoneOf (number a) (map number l) → Memᴰ a l → ⊥
  missing a [] none m = Memᴰ.not-nil m
  missing a (b ∷ l) none m =
      ⊎_elim (λ (same : a ≡ b). none.0 (ap number same)) (λ (later : Memᴰ a l). missing a l none.1 later) (Memᴰ.cases_cons m)

  pub once : (l : List A) → Apart (map number l) → Nodup l
  once [] apart = Nodup-nil
  once (a ∷ l) apart = Nodup-cons.1 (λ m. ∥∥₁_elim m ⊥_prop (λ d. missing a l apart.0 d), once l apart.1)
