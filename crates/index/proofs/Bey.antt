-- The children are Bey's: a child's side is half its parent's, so at each of the eight entries of the rows a corner doubled is the sum of
-- two corners of the parent, which is linear in the two sides. A prism's midpoint is its triangle's in plan, and in height the line's: the
-- entries of definition 4 are those of definition 3 with a height to each, 48 entries computed. Assumes nothing.
use mathlib.Core.Path.{◌≡◌, ap}
use Prim.Native.Nat.{ℕ, suc, ◌+◌, ◌*◌, ◌/◌, ◌%◌, ◌<◌}
use native.Mathlib.Omega.{arith}
use lib.ListN.{get_or}
use Rattle.tree.proofs.Anchor.{side_suc}
use Rattle.tree.specs.Anchors.{side}
use Rattle.tree.proofs.Cases.{below_3, below_6}
use Rattle.rows.proofs.Tables.{each_child}
use Rattle.triangle.specs.declared.Triangle.{Triangle}
use Rattle.triangle.specs.Elements.{triangle_to, child}
use Rattle.triangle.specs.Elements as triangles
use Rattle.triangle.specs.Points.{corner}
use Rattle.triangle.specs.Lawful.{known}
use Rattle.prism.specs.declared.Prism.{Prism}
use Rattle.prism.specs.Elements.{prism_to, fault, plan}
use Rattle.prism.specs.Elements as prisms
use Rattle.prism.specs.Points as prism_points
use Rattle.prism.specs.Lawful.{triangle_sound}
use Rattle.index.specs.Bey.{Midpoint, PrismMidpoint, Ends, ends, bey_child, bey_number, bey_prism_child, Bey}

module _ (L l x y : ℕ) where
  abbrev typed : ℕ → Triangle
  typed t = record { x = x; y = y; level = l; kind = t }

  -- corner j of child i of a parent of type t
  abbrev Half : ℕ → ℕ → ℕ → Type 0
  Half t i j =
      let named = get_or (bey_child (bey_number t i)) j (ends 0 0) in
      Midpoint (corner L (child L (typed t) i) j) (corner L (typed t) named.from) (corner L (typed t) named.to)

  halves : l < L → (t i : ℕ) → t < 2 → i < 4 → Half t i 0 × (Half t i 1 × Half t i 2)
  halves room =
      let half = side_suc L l room in
      each_child (λ (t i : ℕ). Half t i 0 × (Half t i 1 × Half t i 2))
      (omega arith) (omega arith) (omega arith) (omega arith) (omega arith) (omega arith) (omega arith) (omega arith)

midpoints : (L : ℕ) (e : Triangle) (i j : ℕ) → triangles.fault L e ≡ 0 → e.level < L → i < 4 → j < 3 → Half L e.level e.x e.y e.kind i j
midpoints L e i j sound room small last =
    let of = halves L e.level e.x e.y room e.kind i (known L e sound).typed small in
    below_3 (Half L e.level e.x e.y e.kind i) of.0 of.1.0 of.1.1 j last

-- ---- prisms: the ends of corner j of child b in layer a, and of the triangle's child in plan
abbrev named : ℕ → ℕ → ℕ → Ends
named a b j = get_or (bey_prism_child (4 * a + b)) j (ends 0 0)

abbrev in_plan_lem : ℕ → ℕ → Ends
in_plan_lem b j = get_or (bey_child b) (j % 3) (ends 0 0)

pub record Lifted (a b j : ℕ) : Type 0 where
  pub from : (named a b j).from % 3 ≡ (in_plan_lem b j).from
  pub to : (named a b j).to % 3 ≡ (in_plan_lem b j).to
  pub layers : (named a b j).from / 3 + (named a b j).to / 3 ≡ a + j / 3

abbrev Row : ℕ → ℕ → Type 0
Row a b = Lifted a b 0 × (Lifted a b 1 × (Lifted a b 2 × (Lifted a b 3 × (Lifted a b 4 × Lifted a b 5))))

row : (a b : ℕ) → a < 2 → b < 4 → Row a b
row = each_child Row (omega arith) (omega arith) (omega arith) (omega arith) (omega arith) (omega arith) (omega arith) (omega arith)

lifted : (a b j : ℕ) → a < 2 → b < 4 → j < 6 → Lifted a b j
lifted a b j upper small =
    let r = row a b upper small in
    below_6 (Lifted a b) r.0 r.1.0 r.1.1.0 r.1.1.1.0 r.1.1.1.1.0 r.1.1.1.1.1 j

bey_small : (t i : ℕ) → t < 2 → i < 4 → bey_number t i < 4
bey_small =
    each_child (λ (t i : ℕ). bey_number t i < 4)
    (omega arith) (omega arith) (omega arith) (omega arith) (omega arith) (omega arith) (omega arith) (omega arith)

-- heights in sides of the child
heights : (z k a c m n : ℕ) → m + n ≡ a + c → 2 * (z + a * k + c * k) ≡ z + m * (2 * k) + (z + n * (2 * k))
heights z k a c m n same = omega (arith, ap (λ (w : ℕ). w * k) same)

prism_midpoints : (L : ℕ) (e : Prism) (i j : ℕ) → fault L e ≡ 0 → e.level < L → i < 8 → j < 6
    → let ends = named (i / 4) (bey_number e.kind (i % 4)) j in
    PrismMidpoint (prism_points.corner L (prisms.child L e i) j) (prism_points.corner L e ends.from) (prism_points.corner L e ends.to)
prism_midpoints L e i j sound room small last =
    let b = bey_number e.kind (i % 4) in
    let in_plan = triangle_sound L e sound in
    let at = lifted (i / 4) b j (omega arith) (bey_small e.kind (i % 4) (known L (plan e) in_plan).typed (omega arith)) last in
    let half = midpoints L (plan e) (i % 4) (j % 3) in_plan room (omega arith) (omega arith) in
    let m = named (i / 4) b j in
    record {
      in_plan = rw (at.from, at.to) half;
      half_height = rw (side_suc L e.level room) (heights e.z (side L (suc e.level)) (i / 4) (j / 3) (m.from / 3) (m.to / 3) at.layers);
    }

pub bey : (L : ℕ) → Bey L
unfolding triangle_to prism_to
bey L = record { midpoints = midpoints L; prism_midpoints = prism_midpoints L }
