-- Family is yes exactly for the children of one parent, in order: it compares the given elements, one after the other, with the
-- children of the first one's parent, and ends with yes only after the last child. Assumes nothing.
use Rattle.std.proofs.Common.{◌≡◌, ℕ, zero, suc, ◌+◌, ◌<◌, true, ltb, List, [], ◌∷◌, length, sym, refl, ap, ◌∙◌, ap₂, arith, ltb-true, lt-ltb, eq-eqb, eqb-true}
use mathlib.Core.Bool.{false≢true, and-eq-true_iff}
use mathlib.Core.List.{Memᴰ}
use Rattle.paper.specs.Outcome.{rows}
use Rattle.tree.specs.Shape.{Shape}
use Rattle.tree.specs.Words.{are_children, family}
use Rattle.tree.specs.Laws.{Sound, Lawful, Families, children_of}

module _ {E : Type 0} (S : Shape E) (W : Lawful S) where
  are_children_rows : (f : E) (i k : ℕ) → i + k ≡ S.children → are_children S f i (rows (S.child f) i k) ≡ true
  unfolding are_children
  are_children_rows f i zero whole = eq-eqb i S.children (omega arith)
  are_children_rows f i (suc k) whole =
      (and-eq-true_iff _ _).1 (W.same_refl (S.child f i), are_children_rows f (suc i) k (omega arith))

  pub rows_are_children : (f : E) (i : ℕ) (es : List E) → are_children S f i es ≡ true
      → (es ≡ rows (S.child f) i (length es)) × (i + length es ≡ S.children)
  unfolding are_children
  rows_are_children f i [] h = (refl, omega (arith, eqb-true i S.children h))
  rows_are_children f i (e ∷ es) h =
      let both = (and-eq-true_iff (S.same (S.child f i) e) (are_children S f (suc i) es)).0 h in
      let rest = rows_are_children f (suc i) es both.1 in
      (ap₂ ◌∷◌ (sym (W.same_eq (S.child f i) e both.0)) rest.0, omega (arith, rest.1))

  of_children : (f : E) → Sound S f → S.level f < S.highest → family S (children_of S f) ≡ true
  unfolding family
  of_children f sound room = from S.children refl
    where
      from : (k : ℕ) → k ≡ S.children → family S (rows (S.child f) 0 k) ≡ true
      from zero none = absurd (omega (arith, W.several))
      from (suc k) whole =
          (and-eq-true_iff _ _).1 (
            lt-ltb 0 (S.level (S.child f 0)) (omega (arith, W.child_level f 0)),
            ap (λ (g : E). are_children S g 0 (rows (S.child f) 0 (suc k))) (W.parent_child f 0 sound room (omega (arith, W.several)))
                ∙ are_children_rows f 0 (suc k) (omega arith),
          )

  only_children : (es : List E) → ((e : E) → Memᴰ e es → Sound S e) → family S es ≡ true
      → (f : E) × (Sound S f × S.level f < S.highest × es ≡ children_of S f)
  unfolding family
  only_children [] all h = absurd (false≢true h)
  only_children (e ∷ es) all h =
      let both = (and-eq-true_iff (ltb 0 (S.level e)) (are_children S (S.parent e) 0 (e ∷ es))).0 h in
      let sound : Sound S e = all e (Memᴰ.head refl) in
      let deep : 0 < S.level e = ltb-true 0 (S.level e) both.0 in
      let them = rows_are_children (S.parent e) 0 (e ∷ es) both.1 in
      let count : length (e ∷ es) ≡ S.children = omega (arith, them.1) in (
        S.parent e,
        (
          W.parent_sound e sound deep,
          omega (arith, W.parent_level e deep, W.shallow e sound),
          them.0 ∙ ap (λ (k : ℕ). rows (S.child (S.parent e)) 0 k) count,
        ),
      )

  pub families : Families S
  families = record { of_children = of_children; only_children = only_children }
