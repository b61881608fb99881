-- Leaves whose elements are a family stand as one here: the elements are the children of one element, so the leaves are of one level, and their
-- positions are the parent's with one digit more. Assumes nothing.
use mathlib.Core.Path.{◌≡◌, ap, ap₂, ◌∙◌, sym, subst}
use mathlib.Core.Bool.{true, and-eq-true_iff}
use mathlib.Core.List.{List}
use Prim.Native.Nat.{ℕ, zero, suc, ◌+◌, ◌-◌, ◌*◌, ◌/◌, ◌<◌}
use native.Mathlib.Nat.{add-zero, zero-add, mul_comm}
use native.Mathlib.Omega.{arith}
use lib.Dec.{ltb}
use lib.ListN.{length, get_or}
use borrow.Author.Tests.{ltb-true}
use Rattle.paper.specs.Outcome.{rows}
use Rattle.paper.proofs.Scan.{rows_length}
use Rattle.tree.specs.Shape.{Shape}
use Rattle.tree.specs.Laws.{Sound, Lawful}
use Rattle.tree.specs.Words as words
use Rattle.tree.proofs.RoundTrip.{round_trips}
use Rattle.tree.proofs.Descent.{positions}
use Rattle.tree.proofs.Family.{rows_are_children}
use Rattle.leaves.specs.Leaves.{Leaf, leaf, nth}
use Rattle.leaves.specs.Cells.{element_of, Proper}
use Rattle.leaves.proofs.Span.{quotient}
use Rattle.leaves.proofs.Columns.{get_d_rows}
use Rattle.adaption.specs.Adaption.{child, parent, family}
use Rattle.adaption.specs.Laws.{Siblings}
use Rattle.adaption.proofs.Family.{is_family}

module _ {E : Type 0} (S : Shape E) (W : Lawful S) where
  -- ---- elements that are a family: each is a child of the first one's parent
  same_entry : (g h : ℕ → E) (k m t : ℕ) → t < k → t < m → rows g 0 k ≡ rows h 0 m → g t ≡ h t
  same_entry g h k m t below inside same =
      ap g (sym (zero-add t)) ∙ sym (get_d_rows g (g 0) 0 k t below)
      ∙ ap (λ (es : List E). get_or es t (g 0)) same
      ∙ get_d_rows h (g 0) 0 m t inside ∙ ap h (zero-add t)

  by_first : (k : ℕ) (g : ℕ → E) → 0 < k → words.family S (rows g 0 k) ≡ true
      → (0 < S.level (g 0)) × ((t : ℕ) → t < k → g t ≡ S.child (S.parent (g 0)) t)
  unfolding words.family
  by_first zero g some h = absurd (omega arith)
  by_first (suc k) g some h =
      let f = S.parent (g 0) in
      let es = rows g 0 (suc k) in
      let both = (and-eq-true_iff (ltb 0 (S.level (g 0))) (words.are_children S f 0 es)).0 h in
      let long = rows_length g 0 (suc k) in
      let them = (rows_are_children S W f 0 es both.1).0 in
      (ltb-true 0 (S.level (g 0)) both.0, λ t below. same_entry g (S.child f) (suc k) (length es) t below (omega arith) them)

  -- ---- the leaf at the place of child t of f
  pub record Placed (f : E) (t : ℕ) (w : Leaf) : Type 0 where
    pub level : w.level ≡ suc (S.level f)
    pub position : w.position ≡ S.children * words.position S f + t

  child_placed : (f : E) (t : ℕ) (w : Leaf) → Sound S f → S.level f < S.highest → t < S.children → Proper S w → element_of S w ≡ S.child f t
      → Placed f t w
  child_placed f t w sound above below proper e =
      let trips = round_trips S W in
      record {
        level = sym (trips.at_level w.level w.position) ∙ ap S.level e ∙ W.child_level f t;
        position = sym (trips.position_at_lem w.level w.position proper.level proper.position) ∙ ap (words.position S) e
            ∙ (positions S W).of_child f t sound above below;
      }

  -- beside the first child's leaf v, in its root
  next_to : (f : E) (t : ℕ) (v w : Leaf) → Placed f 0 v → Placed f t w → w.root ≡ v.root → w ≡ child S.children (parent S.children v) t
  next_to f t v w first here root =
      let n = S.children in
      let p = words.position S f in
      let level : w.level ≡ v.level - 1 + 1 = omega (arith, first.level, here.level) in
      let whole : v.position ≡ p * S.children + 0 = first.position ∙ ap (λ (k : ℕ). k + 0) (mul_comm n p) in
      let up : v.position / S.children ≡ p = quotient n p 0 v.position whole (omega (arith, W.several)) in
      let position : w.position ≡ n * (v.position / n) + t = here.position ∙ ap (λ (q : ℕ). n * q + t) (sym up) in
      ap (λ (r : ℕ). leaf r w.level w.position) root ∙ ap₂ (leaf v.root) level position

  -- ---- leaves from number j on
  module _ (vs : List Leaf) (j : ℕ) (stands : (i : ℕ) → i < length vs → Proper S (nth vs i)) (s : Siblings S vs j) where
    abbrev first : E
    first = element_of S (nth vs j)

    -- leaf j as the first of them
    begins : nth vs (j + 0) ≡ nth vs j
    begins = ap (nth vs) (add-zero j)

    children : (0 < S.level first) × ((t : ℕ) → t < S.children → element_of S (nth vs (j + t)) ≡ S.child (S.parent first) t)
    children =
        subst (λ (v : Leaf). (0 < S.level (element_of S v))
        × ((t : ℕ) → t < S.children → element_of S (nth vs (j + t)) ≡ S.child (S.parent (element_of S v)) t)) begins
        (by_first S.children (λ t. element_of S (nth vs (j + t))) (omega (arith, W.several)) s.siblings)

    placed : (t : ℕ) → t < S.children → Placed (S.parent first) t (nth vs (j + t))
    placed t below =
        let here = stands j (omega (arith, s.inside, W.several)) in
        let sound = (round_trips S W).at_sound (nth vs j).level (nth vs j).position here.level here.position in
        let up = W.parent_sound first sound children.0 in
        let above : S.level (S.parent first) < S.highest = omega (arith, W.parent_level first children.0, W.shallow first sound) in
        child_placed (S.parent first) t (nth vs (j + t)) up above below (stands (j + t) (omega (arith, s.inside))) (children.1 t below)

    pub of_siblings : family S.children vs j ≡ true
    of_siblings =
        let eldest = subst (Placed (S.parent first) 0) begins (placed 0 (omega (arith, W.several))) in
        is_family S.children vs j
        record {
          deep = omega (arith, eldest.level);
          inside = s.inside;
          sibling = λ t below. next_to (S.parent first) t (nth vs j) (nth vs (j + t)) eldest (placed t below) (s.one_root t below);
        }
