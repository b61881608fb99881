-- An element lies in a leaf exactly when its position, divided by how many of its level the leaf holds, is the leaf's: taking a parent divides
-- the position by the number of children. Assumes nothing.
use mathlib.Core.Path.{◌≡◌, ap, ap₂, ◌∙◌, sym, subst}
use mathlib.Core.List.{List}
use Prim.Native.Nat.{ℕ, ◌-◌, ◌/◌, ◌^◌, ◌≤◌, ◌<◌}
use native.Mathlib.Omega.{arith}
use lib.ListN.{length}
use Rattle.tree.specs.Shape.{Shape}
use Rattle.tree.specs.Laws.{Sound, Lawful}
use Rattle.paper.specs.Exactly.{Exactly}
use Rattle.tree.specs.Ancestors.{up}
use Rattle.tree.specs.Descendants.{Descends}
use Rattle.tree.proofs.RoundTrip.{round_trips}
use Rattle.tree.proofs.Ancestors.{above}
use Rattle.tree.proofs.Descendants.{descendants}
use Rattle.tree.specs.Words as words
use Rattle.leaves.specs.Leaves.{Leaf, nth, span, Valid}
use Rattle.leaves.specs.Laws.{Holds}
use Rattle.leaves.specs.Cells.{element_of, Proper, InLeaf, OneLeaf, CellsOnce, CellLaws}
use Rattle.leaves.proofs.Cells.{Once, once_each}
use Rattle.leaves.proofs.Along.{proper_at, along}

module _ {E : Type 0} (S : Shape E) (W : Lawful S) where
  -- ---- an element and a proper leaf
  module _ (v : Leaf) (r : ℕ) (e : E) (proper : Proper S v) (sound : Sound S e) (deep : v.level ≤ S.level e) where
    holds_of : InLeaf S v r e → Holds S.children (S.level e) v r (words.position S e)
    holds_of h =
        let k = h.lies.times in
        let a = above S W e k sound h.lies.parents in
        let level : S.level (up S k e) ≡ v.level = ap S.level h.lies.reached ∙ (round_trips S W).at_level v.level v.position in
        let many : k ≡ S.level e - v.level = omega (arith, a.level, level) in
        record {
          root = h.root;
          ancestor = ap (λ (m : ℕ). words.position S e / S.children ^ m) (sym many) ∙ sym a.position
              ∙ ap (words.position S) h.lies.reached ∙ (round_trips S W).position_at_lem v.level v.position proper.level proper.position;
        }

    of_holds : Holds S.children (S.level e) v r (words.position S e) → InLeaf S v r e
    of_holds h =
        let k = S.level e - v.level in
        let enough : S.level e - v.level ≤ S.level e = omega arith in
        let a = above S W e k sound enough in
        let level : S.level (up S k e) ≡ v.level = omega (arith, a.level) in
        record {
          root = h.root;
          lies = record {
            times = k;
            parents = enough;
            reached = sym ((round_trips S W).at_position (up S k e) a.sound) ∙ ap₂ (words.element_at S) level (a.position ∙ h.ancestor);
          };
        }

  cells_once : (K : ℕ) (vs : List Leaf) → Valid S.children S.highest K vs → CellsOnce S K vs
  cells_once K vs valid r e root sound smallest = by (once_each S.children S.highest positive K vs valid r (words.position S e) root few)
    where
      positive : 0 < S.children
      positive = omega (arith, W.several)

      few : words.position S e < S.children ^ S.highest
      few = subst (λ (l : ℕ). words.position S e < S.children ^ l) smallest ((round_trips S W).position_lt e sound)

      proper : (j : ℕ) → j < length vs → Proper S (nth vs j)
      proper = proper_at S W K vs valid

      deep : (j : ℕ) → j < length vs → (nth vs j).level ≤ S.level e
      deep j inside = omega (arith, smallest, (proper j inside).level)

      by : Once S.children S.highest vs r (words.position S e) → OneLeaf S vs r e
      by o =
          record {
            which = o.which;
            below = o.below;
            holds = of_holds (nth vs o.which) r e (proper o.which o.below) sound (deep o.which o.below)
                (subst (λ (l : ℕ). Holds S.children l (nth vs o.which) r (words.position S e)) (sym smallest) o.holds);
            only = λ j inside held.
                o.only j inside
                (subst (λ (l : ℕ). Holds S.children l (nth vs j) r (words.position S e)) smallest (holds_of (nth vs j) r e (proper j inside) sound (deep j inside) held));
          }

  cells_many : (v : Leaf) → Proper S v → Exactly (span S.children S.highest v.level) (Descends S (element_of S v) S.highest)
  cells_many v proper =
      let level = (round_trips S W).at_level v.level v.position in
      let sound = (round_trips S W).at_sound v.level v.position proper.level proper.position in
      let shallow = proper.level in
      subst (λ (l : ℕ). Exactly (span S.children S.highest l) (Descends S (element_of S v) S.highest)) level
      ((descendants S W).many (element_of S v) S.highest sound (omega (arith, level)) (omega arith))

  pub cell_laws : CellLaws S
  cell_laws =
      record {
        once = cells_once;
        many = cells_many;
        along = along S W;
        by_position = λ v r e proper sound deep. (holds_of v r e proper sound deep, of_holds v r e proper sound deep);
      }
