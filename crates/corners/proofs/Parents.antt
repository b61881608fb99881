-- An element is a child of the element one level up at an eighth of its position; in level 0 that is the root, and the element itself. Assumes
-- nothing.
use mathlib.Core.Path.{◌≡◌, refl, sym, ap, ◌∙◌, subst⁻¹}
use Prim.Native.Nat.{ℕ, zero, suc, ◌+◌, ◌-◌, ◌/◌, ◌%◌, ◌^◌, ◌≤◌, ◌<◌}
use native.Mathlib.Omega.{arith}
use lib.Dec.{lit<}
use Rattle.tree.specs.Laws.{Sound}
use Rattle.tree.specs.Words.{element_at}
use Rattle.tree.proofs.Digits.{div_lt}
use Rattle.tree.proofs.RoundTrip.{at_level}
use Rattle.prism.specs.declared.Prism.{Prism}
use Rattle.prism.specs.Elements.{prism, prism_to}
use Rattle.prism.specs.Lawful.{lawful}
use Rattle.corners.specs.declared.child.Section.{Section}
use Rattle.corners.specs.Inner.{AtPosition}
use Rattle.corners.proofs.Call.{element_sound}

up : (l : ℕ) → suc l - 1 ≡ l
up l = omega arith

pub parent_inside : (l p : ℕ) → p < 8 ^ l → p / 8 < 8 ^ (l - 1)
parent_inside zero p below = omega arith
parent_inside (suc l) p below = subst⁻¹ (λ (k : ℕ). p / 8 < 8 ^ k) (up l) (div_lt 8 p l (lit< tt) below)

pub itself : (l p : ℕ) → l ≡ 0 → element_at prism (l - 1) (p / 8) ≡ element_at prism l p
unfolding element_at
itself zero p none = refl
itself (suc l) p none = absurd (omega arith)

pub child_of : (l p : ℕ) → (l ≡ 0 → ⊥) → element_at prism l p ≡ prism.child (element_at prism (l - 1) (p / 8)) (p % 8)
unfolding element_at prism_to
child_of zero p some = absurd (some refl)
child_of (suc l) p some = ap (λ (k : ℕ). prism.child (element_at prism k (p / 8)) (p % 8)) (sym (up l))

pub parent_sound : (l p : ℕ) → l ≤ 21 → p < 8 ^ l → Sound prism (element_at prism (l - 1) (p / 8))
parent_sound l p shallow below = element_sound (l - 1) (p / 8) (omega arith) (parent_inside l p below)

pub one_above : (l p : ℕ) → (l ≡ 0 → ⊥) → l ≡ (element_at prism (l - 1) (p / 8)).level + 1
unfolding prism_to
one_above l p some = let is : (element_at prism (l - 1) (p / 8)).level ≡ l - 1 = at_level prism (lawful 21) (l - 1) (p / 8) in omega (arith, is)

-- a position of the section's level, and its parent
pub at_position : (s : Section) {l p : ℕ} {e : Prism} → s.level ≡ l → p < 8 ^ l → e ≡ element_at prism (l - 1) (p / 8) → AtPosition s p e
at_position s {l} {p} {e} level inside parent =
    record {
      inside = subst⁻¹ (λ (k : ℕ). p < 8 ^ k) level inside;
      parent = parent ∙ ap (λ (k : ℕ). element_at prism (k - 1) (p / 8)) (sym level);
    }
