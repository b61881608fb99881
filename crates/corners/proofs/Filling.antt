-- The points of a section, written one after the other: entry j of each column is that coordinate of the point at position j. Assumes nothing.
use mathlib.Core.Path.{◌≡◌, refl, sym, ap, ap₂, ◌∙◌}
use mathlib.Core.Bool.{true, and-eq-true_iff}
use mathlib.Core.List.{List, [], ◌∷◌, map}
use Prim.Native.Nat.{ℕ, ◌+◌, ◌-◌, ◌≤◌, ◌<◌}
use native.Mathlib.Omega.{arith}
use lib.ListN.{length, get_or, set}
use lib.Ieee.{Float}
use borrow.Author.Tests.{eqb-true, eq-eqb}
use Rattle.paper.specs.Outcome.{rows}
use Rattle.paper.specs.Memory.{written}
use Rattle.paper.proofs.Front.{rows_map, front_more}
use Rattle.tree.specs.Words.{element_at}
use Rattle.prism.specs.Elements.{prism}
use Rattle.prism.specs.Points as prisms
use Rattle.corners.specs.declared.Root.{Root}
use Rattle.corners.specs.declared.Point.{Point}
use Rattle.corners.specs.declared.section.Kept.{Kept}
use Rattle.corners.specs.CornerPoints.{point_at}
use Rattle.corners.specs.Section.{PointColumns, point_columns, equal_lengths, points, filled}
use Rattle.corners.specs.SectionLaws.{Equal}
use Rattle.corners.specs.Inner.{kept_at}

-- ---- equal lengths
pub equal : (ps : List ℕ) (m : PointColumns) → equal_lengths ps m ≡ true → Equal ps m
equal ps m h =
    let rest = (and-eq-true_iff _ _).0 h in
    let last = (and-eq-true_iff _ _).0 rest.1 in
    record { in_xs = sym (eqb-true _ _ rest.0); in_ys = sym (eqb-true _ _ last.0); in_zs = sym (eqb-true _ _ last.1) }

pub equal_is : (ps : List ℕ) (m : PointColumns) → Equal ps m → equal_lengths ps m ≡ true
equal_is ps m h =
    simp (
      eq-eqb (length ps) (length m.xs) (sym h.in_xs),
      eq-eqb (length ps) (length m.ys) (sym h.in_ys),
      eq-eqb (length ps) (length m.zs) (sym h.in_zs),
    )

module _ (l : ℕ) (ps : List ℕ) (i : ℕ) (r : Root) (m : PointColumns) where
  abbrev due : ℕ → Point
  due j = point_at r (prisms.corner 21 (element_at prism l (get_or ps j 0)) i)

  -- one coordinate of the first k points, written into a column
  abbrev fronted : (Point → Float) → ℕ → List Float → List Float
  fronted coordinate k column = written (rows (λ j. coordinate (due j)) 0 k) column

  -- the first k points are written, and the last parent is kept
  pub record Underway (k : ℕ) (kept : Kept) (m' : PointColumns) : Type 0 where
    pub reached : k ≤ length ps
    pub held : kept ≡ kept_at (l - 1) kept.position
    pub in_xs : m'.xs ≡ fronted (λ a. a.x) k m.xs
    pub in_ys : m'.ys ≡ fronted (λ a. a.y) k m.ys
    pub in_zs : m'.zs ≡ fronted (λ a. a.z) k m.zs

  at_its_own : (kept : Kept) (q : ℕ) → kept ≡ kept_at (l - 1) q → kept ≡ kept_at (l - 1) kept.position
  at_its_own kept q is = is ∙ ap (kept_at (l - 1)) (sym (ap (λ (k : Kept). k.position) is))

  -- all the entries of a column
  whole : (coordinate : Point → Float) (column : List Float) → fronted coordinate (length ps) column ≡ written (map coordinate (points l ps i r)) column
  whole coordinate column =
      ap (λ (xs : List Float). written xs column)
      (rows_map (λ p. coordinate (point_at r (prisms.corner 21 (element_at prism l p) i))) ps 0 ∙ twice ps)
    where
      twice : (qs : List ℕ) → map (λ p. coordinate (point_at r (prisms.corner 21 (element_at prism l p) i))) qs ≡ map coordinate (points l qs i r)
      twice [] = refl
      twice (q ∷ qs) = ap (λ (xs : List Float). coordinate (point_at r (prisms.corner 21 (element_at prism l q) i)) ∷ xs) (twice qs)

module _ {l : ℕ} {ps : List ℕ} {i : ℕ} {r : Root} {m : PointColumns} {k : ℕ} {kept : Kept} {m' : PointColumns} (u : Underway l ps i r m k kept m') where
  pub underway_all : length ps ≤ k → m' ≡ filled (points l ps i r) m
  underway_all past =
      let all : k ≡ length ps = omega (arith, u.reached) in
      let column : (coordinate : Point → Float) (before after : List Float) → after ≡ fronted l ps i r m coordinate k before → after ≡ written (map coordinate (points l ps i r)) before =
      λ coordinate before after is. is ∙ ap (λ (n : ℕ). fronted l ps i r m coordinate n before) all ∙ whole l ps i r m coordinate before in
      λ t. point_columns
      (column (λ a. a.x) m.xs m'.xs u.in_xs t)
      (column (λ a. a.y) m.ys m'.ys u.in_ys t)
      (column (λ a. a.z) m.zs m'.zs u.in_zs t)

  module _ (long : Equal ps m) (inside : k < length ps) where
    one_more : (coordinate : Point → Float) (column column' : List Float) (x : Float) → length column ≡ length ps → column' ≡ fronted l ps i r m coordinate k column
        → x ≡ coordinate (due l ps i r m k) → set column' k x ≡ fronted l ps i r m coordinate (k + 1) column
    one_more coordinate column column' x same is found =
        ap₂ (λ (c : List Float) (y : Float). set c k y) is found ∙ front_more (λ j. coordinate (due l ps i r m j)) column k (omega arith)

    pub underway_next : (kept' : Kept) (q : ℕ) (a : Point) → kept' ≡ kept_at (l - 1) q → a ≡ due l ps i r m k
        → Underway l ps i r m (k + 1) kept' (point_columns (set m'.xs k a.x) (set m'.ys k a.y) (set m'.zs k a.z))
    underway_next kept' q a is found =
        record {
          reached = omega arith;
          held = at_its_own l ps i r m kept' q is;
          in_xs = one_more (λ a. a.x) m.xs m'.xs a.x long.in_xs u.in_xs (ap (λ (b : Point). b.x) found);
          in_ys = one_more (λ a. a.y) m.ys m'.ys a.y long.in_ys u.in_ys (ap (λ (b : Point). b.y) found);
          in_zs = one_more (λ a. a.z) m.zs m'.zs a.z long.in_zs u.in_zs (ap (λ (b : Point). b.z) found);
        }
