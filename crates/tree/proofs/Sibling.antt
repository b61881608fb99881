-- The loop that compares given elements with the children of the first one's parent: its start, its step and its three ends.
-- Assumes nothing.
use Rattle.std.proofs.Common.{◌≡◌, ℕ, zero, suc, ◌+◌, ◌-◌, ◌<◌, ◌≤◌, Bool, true, false, ◌&&◌, ltb, length, sym, refl, ap, ◌∙◌, add-one, arith, le-ltb, lt-ltb, eq-eqb}
use Rattle.paper.specs.Outcome.{rows}
use Rattle.paper.proofs.Scan.{rows_next, rows_done, rows_length}
use Rattle.tree.specs.Shape.{Shape}
use Rattle.tree.specs.Words.{are_children, family}
use Rattle.tree.specs.Laws.{Lawful}
use Rattle.tree.proofs.Family.{rows_are_children}

false_unless : (t : Bool) → (t ≡ true → ⊥) → t ≡ false
false_unless true never = absurd (never refl)
false_unless false never = refl

module _ {E : Type 0} (S : Shape E) (W : Lawful S) (entry : ℕ → E) where
  -- ---- before the loop
  pub family_count : (m : ℕ) → (m ≡ S.children → ⊥) → family S (rows entry 0 m) ≡ false
  unfolding family
  family_count zero other = refl
  family_count (suc m) other =
      false_unless _
      (λ h. other (sym (rows_length entry 0 (suc m)) ∙ whole (and_second (ltb 0 (S.level (entry 0))) _ h)))
    where
      and_second : (a b : Bool) → (a && b) ≡ true → b ≡ true
      and_second true b h = h
      and_second false b h = absurd (let z : ◌≡◌ {A = ℕ} 0 1 = cc in omega arith)

      whole : are_children S (S.parent (entry 0)) 0 (rows entry 0 (suc m)) ≡ true → length (rows entry 0 (suc m)) ≡ S.children
      whole h = omega (arith, (rows_are_children S W (S.parent (entry 0)) 0 (rows entry 0 (suc m)) h).1)

  pub family_flat : (m : ℕ) → 0 < m → S.level (entry 0) ≡ 0 → family S (rows entry 0 m) ≡ false
  unfolding family
  family_flat zero some flat = absurd (omega arith)
  family_flat (suc m) some flat = simp (le-ltb 0 (S.level (entry 0)) (omega arith))

  pub family_start : (m : ℕ) → 0 < m → (S.level (entry 0) ≡ 0 → ⊥)
      → family S (rows entry 0 m) ≡ are_children S (S.parent (entry 0)) 0 (rows entry 0 m)
  unfolding family
  family_start zero some deep = absurd (omega arith)
  family_start (suc m) some deep = simp (lt-ltb 0 (S.level (entry 0)) (omega arith))

  -- ---- the loop, at element i of m
  module _ (f : E) (m i : ℕ) where
    pub sibling_step : i < m → S.same (S.child f i) (entry i) ≡ true
        → are_children S f i (rows entry i (m - i)) ≡ are_children S f (i + 1) (rows entry (i + 1) (m - (i + 1)))
    unfolding are_children
    sibling_step inside alike =
        ap (are_children S f i) (rows_next entry m i inside)
        ∙ ap (λ (t : Bool). t && are_children S f (suc i) (rows entry (i + 1) (m - (i + 1)))) alike
        ∙ ap (λ (k : ℕ). are_children S f k (rows entry (i + 1) (m - (i + 1)))) (sym (add-one i))

    pub sibling_differs : i < m → S.same (S.child f i) (entry i) ≡ false → are_children S f i (rows entry i (m - i)) ≡ false
    unfolding are_children
    sibling_differs inside other =
        ap (are_children S f i) (rows_next entry m i inside)
        ∙ ap (λ (t : Bool). t && are_children S f (suc i) (rows entry (i + 1) (m - (i + 1)))) other

    pub sibling_done : m ≤ i → i ≡ S.children → are_children S f i (rows entry i (m - i)) ≡ true
    unfolding are_children
    sibling_done past all = ap (are_children S f i) (rows_done entry m i past) ∙ eq-eqb i S.children all
