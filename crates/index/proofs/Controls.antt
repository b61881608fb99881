-- Closed cases, computed. Those of the index hold what `Ranked` leaves open, that Y stands before X and X before the types; then the example of
-- docs/PENCIL.md. Assumes nothing.
use mathlib.Core.Path.{◌≡◌, refl}
use Prim.Native.Nat.{◌+◌, ◌*◌, ◌^◌}
use Rattle.tree.specs.Ancestors.{up}
use Rattle.tree.specs.Words.{position_at, element_at}
use Rattle.rows.specs.Rows.{parent_kind, number_of}
use Rattle.triangle.specs.Elements.{triangle_to}
use Rattle.prism.specs.Elements.{prism_to}
use Rattle.index.specs.Index.{triangle_index, prism_index, types, group, overlaid}
use Rattle.index.specs.Pencil.{page, base8, Worked}

-- the middle triangle of level 1: y bit 0, x bit 1, type 1
middle_triangle : triangle_index 21 (record { x = 1048576; y = 0; level = 1; kind = 1 }) ≡ 3 * 8 ^ 20
unfolding overlaid group types up triangle_to parent_kind
middle_triangle = refl

-- child 1 of the root: y bit 0, x bit 1, type 0
second_triangle : triangle_index 21 (record { x = 1048576; y = 0; level = 1; kind = 0 }) ≡ 2 * 8 ^ 20
unfolding overlaid group types up triangle_to parent_kind
second_triangle = refl

-- child 1 of that middle triangle: its own place, below its parent's with the parent's type
below_the_middle : triangle_index 21 (record { x = 1048576; y = 524288; level = 2; kind = 0 }) ≡ 3 * 8 ^ 20 + 4 * 8 ^ 19
unfolding overlaid group types up triangle_to parent_kind
below_the_middle = refl

-- the prism of level 1 at position 6: z bit 1, y bit 0, x bit 1, type 1
upper_middle_prism : prism_index 21 (record { x = 1048576; y = 0; z = 1048576; level = 1; kind = 1 }) ≡ 11 * 16 ^ 20
unfolding overlaid group types up prism_to parent_kind
upper_middle_prism = refl

-- a position worked out with a pencil
pub worked : Worked
unfolding page base8 position_at element_at prism_to number_of parent_kind
worked = record { rows = refl; sum = refl; there = refl; back = refl }
