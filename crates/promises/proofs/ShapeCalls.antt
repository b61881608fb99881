-- The calls on lines, triangles and prisms: an element's faults are 1 to 4. Assumes nothing.
use mathlib.Core.Bool.{not, ◌||◌}
use mathlib.Core.List.{[], ◌∷◌}
use lib.Dec.{ltb}
use Rattle.tree.specs.Anchors.{off_grid}
use Rattle.line.specs.declared.Line.{Line}
use Rattle.line.specs.Elements.{line_to, line}
use Rattle.line.proofs.Faces.{line_faces}
use Rattle.triangle.specs.declared.Triangle.{Triangle}
use Rattle.triangle.specs.Elements.{triangle_to, triangle, inside_root}
use Rattle.triangle.proofs.Faces.{triangle_faces}
use Rattle.prism.specs.declared.Prism.{Prism}
use Rattle.prism.specs.Elements.{prism_to, prism}
use Rattle.prism.proofs.Faces.{prism_faces}
use Rattle.promises.proofs.Refusals.{Known, no_fault, fault_so, at0, at1, at2, at3}
use Rattle.promises.proofs.ElementCalls.{Rows, rows}

line_faults : (e : Line) → Known (1 ∷ 2 ∷ []) (line.fault e)
unfolding line_to
line_faults e = fault_so (ltb 21 e.level) 1 _ at0 (fault_so (off_grid 21 e.level e.x) 2 0 at1 (no_fault _))

triangle_faults : (e : Triangle) → Known (1 ∷ 2 ∷ 3 ∷ 4 ∷ []) (triangle.fault e)
unfolding triangle_to
triangle_faults e =
    fault_so (ltb 21 e.level) 1 _ at0
    (fault_so (off_grid 21 e.level e.x || off_grid 21 e.level e.y) 2 _ at1
    (fault_so (ltb 1 e.kind) 3 _ at2 (fault_so (not (inside_root e.kind e.x e.y)) 4 0 at3 (no_fault _))))

prism_faults : (e : Prism) → Known (1 ∷ 2 ∷ 3 ∷ 4 ∷ []) (prism.fault e)
unfolding prism_to
prism_faults e =
    fault_so (ltb 21 e.level) 1 _ at0
    (fault_so (off_grid 21 e.level e.x || (off_grid 21 e.level e.y || off_grid 21 e.level e.z)) 2 _ at1
    (fault_so (ltb 1 e.kind) 3 _ at2 (fault_so (not (inside_root e.kind e.x e.y)) 4 0 at3 (no_fault _))))

pub line_rows : Rows line (1 ∷ 2 ∷ [])
line_rows = rows line (1 ∷ 2 ∷ []) line_faults at0 (line_faces 21).either

pub triangle_rows : Rows triangle (1 ∷ 2 ∷ 3 ∷ 4 ∷ [])
triangle_rows = rows triangle (1 ∷ 2 ∷ 3 ∷ 4 ∷ []) triangle_faults at0 (triangle_faces 21).either

pub prism_rows : Rows prism (1 ∷ 2 ∷ 3 ∷ 4 ∷ [])
prism_rows = rows prism (1 ∷ 2 ∷ 3 ∷ 4 ∷ []) prism_faults at0 (prism_faces 21).either
