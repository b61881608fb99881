-- One coordinate across a face: counted in sides, a move adds s and takes 1 away, so it stays on the grid, a move by 2 - s undoes it, and
-- whoever lies s - 1 sides away within the edge is where it leads. Assumes nothing.
use Rattle.std.proofs.Common.{◌≡◌, ℕ, ◌+◌, ◌-◌, ◌*◌, ◌/◌, ◌%◌, ◌^◌, ◌<◌, Bool, true, false, ltb, leb, ◌⊎◌, sym, refl, ap, ◌∙◌, subst, ap₂, inl, inr, arith, ltb-false, le-ltb, leb-false}
use native.Mathlib.Nat.{add-mod_right, mul-mod_left}
use borrow.Author.Tests.{lt-leb}
use Rattle.paper.specs.Outcome.{Outcome, accepted, refused, refuse_when, mapped}
use Rattle.paper.proofs.Tests.{or_none}
use Rattle.tree.specs.Anchors.{side, off_grid, moved, off_edge}
use Rattle.tree.proofs.Cases.{below_3}
use Rattle.tree.proofs.Anchor.{grid_units}

-- ---- refused 10 by a test, or accepted
pub either_way : {A : Type 0} (test : Bool) (a : A)
    → (refuse_when test 10 (accepted a) ≡ refused 10 0) ⊎ ((b : A) × (refuse_when test 10 (accepted a) ≡ accepted b))
either_way true a = inl refl
either_way false a = inr (a, refl)

-- what holds of the value where the test fails, holds of what was accepted
pub when_accepted : {A : Type 0} (Q : A → Type 0) (test : Bool) (a b : A) → (test ≡ false → Q a) → refuse_when test 10 (accepted a) ≡ accepted b → Q b
when_accepted Q true a b holds answer = absurd (let z : ◌≡◌ {A = ℕ} 0 1 = cc in omega arith)
when_accepted Q false a b holds answer = let same : a ≡ b = cc in subst Q same (holds refl)

-- where the test fails, whatever the value is, is accepted
pub when_led : {A : Type 0} {test : Bool} {a b : A} → test ≡ false → a ≡ b → refuse_when test 10 (accepted a) ≡ accepted b
when_led {A} fails same = ap₂ (λ (t : Bool) (c : A). refuse_when t 10 (accepted c)) fails same

-- ---- the same of an outcome whose value is put under g
module _ {A B : Type 0} (g : A → B) where
  pub mapped_either : (o : Outcome A) → ((o ≡ refused 10 0) ⊎ ((a : A) × (o ≡ accepted a)))
      → (mapped g o ≡ refused 10 0) ⊎ ((b : B) × (mapped g o ≡ accepted b))
  mapped_either o (inl no_one) = inl (ap (mapped g) no_one)
  mapped_either o (inr someone) = inr (g someone.0, ap (mapped g) someone.1)

  pub mapped_accepted : (Q : B → Type 0) (o : Outcome A) (b : B) → ((a : A) → o ≡ accepted a → Q (g a)) → mapped g o ≡ accepted b → Q b
  mapped_accepted Q (accepted a) b holds answer = let same : g a ≡ b = cc in subst Q same (holds a refl)
  mapped_accepted Q (refused number place) b holds answer = absurd (let z : ◌≡◌ {A = ℕ} 0 1 = cc in omega arith)

  pub mapped_led : (o : Outcome A) (a : A) (b : B) → o ≡ accepted a → g a ≡ b → mapped g o ≡ accepted b
  mapped_led o a b answer same = ap (mapped g) answer ∙ ap accepted same

-- ---- a move that does not leave: s - 1 sides of length h, from x
module _ (L h s x : ℕ) where
  pub move_far : off_edge L h s x ≡ false → moved h s x + h ≡ x + s * h
  move_far stays = let low = ltb-false (x + s * h) h (or_none (ltb (x + s * h) h) (leb (2 ^ L) (moved h s x)) stays).0 in omega arith

  pub move_lt : off_edge L h s x ≡ false → moved h s x < 2 ^ L
  move_lt stays = leb-false (2 ^ L) (moved h s x) (or_none (ltb (x + s * h) h) (leb (2 ^ L) (moved h s x)) stays).1

  pub move_reached : (y : ℕ) → y + h ≡ x + s * h → y < 2 ^ L → (off_edge L h s x ≡ false) × (moved h s x ≡ y)
  move_reached y far below =
      let here : moved h s x ≡ y = omega arith in
      (simp (le-ltb (x + s * h) h (omega arith), lt-leb (2 ^ L) (moved h s x) (omega arith)), here)

-- as many sides back as forth
pub sides_back : (h s : ℕ) → s < 3 → (2 - s) * h + s * h ≡ 2 * h
sides_back h = below_3 (λ (s : ℕ). (2 - s) * h + s * h ≡ 2 * h) (omega arith) (omega arith) (omega arith)

pub move_back : (L h s x : ℕ) → s < 3 → x < 2 ^ L → off_edge L h s x ≡ false
    → (off_edge L h (2 - s) (moved h s x) ≡ false) × (moved h (2 - s) (moved h s x) ≡ x)
move_back L h s x small below stays =
    move_reached L h (2 - s) (moved h s x) x (omega (arith, move_far L h s x stays, sides_back h s small)) below

pub move_grid : (L l s x : ℕ) → off_grid L l x ≡ false → off_edge L (side L l) s x ≡ false → off_grid L l (moved (side L l) s x) ≡ false
move_grid L l s x on stays =
    let h = side L l in
    let y = moved h s x in
    let far : y + h ≡ (x / h + s) * h = omega (arith, move_far L h s x stays, grid_units L l x on) in
    let whole : y % h ≡ 0 = sym (add-mod_right y h) ∙ ap (λ (m : ℕ). m % h) far ∙ mul-mod_left (x / h + s) h in
    simp (lt-leb (2 ^ L) y (move_lt L h s x stays), whole)
