-- "Exactly one", and exactly so many, wherever the paper says it. Definitions only.
--
--   ExactlyOne k P   exactly one number below k has the property P: there is one, and any is that one
--   Lists P es       the list es holds exactly what has the property P, each once
--   Exactly k P      exactly k have the property P: there is such a list, and any has k entries
--
-- Assumes nothing.
use Rattle.std.specs.Prelude.{◌≡◌, ◌↔◌, ℕ, ◌<◌, length}
use mathlib.Core.List.{List, Mem, Nodup}

pub record ExactlyOne (k : ℕ) (P : ℕ → Type 0) : Type 0 where
  pub which : ℕ
  pub below : which < k
  pub holds : P which
  pub only : (j : ℕ) → j < k → P j → j ≡ which

pub record Lists {A : Type 0} (P : A → Type 0) (es : List A) : Type 0 where
  pub once : Nodup es
  pub exactly : (a : A) → Mem a es ↔ P a

pub record Exactly {A : Type 0} (k : ℕ) (P : A → Type 0) : Type 0 where
  pub listed : (es : List A) × Lists P es
  pub counts : (es : List A) → Lists P es → length es ≡ k
