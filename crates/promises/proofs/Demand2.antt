-- Demand 2: each part is a law of its crate, at the three shapes; and what a section leaves in memory is what its outcome leaves. Assumes nothing.
use mathlib.Core.Path.{◌≡◌, sym, subst}
use mathlib.Core.List.{List}
use Prim.Native.Nat.{ℕ}
use native.Mathlib.Omega.{arith}
use Rattle.paper.specs.Outcome.{accepted, mapped}
use Rattle.paper.specs.Refusals.{outcome_of}
use Rattle.paper.proofs.Memory.{gave}
use Rattle.tree.specs.Shape.{Shape}
use Rattle.tree.specs.Laws.{Lawful, Faces, Constants}
use Rattle.tree.proofs.Accepting.{accepts}
use Rattle.tree.proofs.CallLaws.{by_position, sound_answers}
use Rattle.tree.proofs.Descent.{positions}
use Rattle.tree.proofs.Ancestors.{ancestors}
use Rattle.tree.proofs.Descendants.{descendants}
use Rattle.tree.proofs.Ordering.{total_order}
use Rattle.tree.proofs.CurveOrder.{curve_order}
use Rattle.tree.proofs.Family.{families}
use Rattle.rows.proofs.Siblings.{by_rule}
use Rattle.line.specs.Elements.{line}
use Rattle.line.proofs.Faces.{line_faces}
use Rattle.triangle.specs.Elements.{triangle}
use Rattle.triangle.proofs.Faces.{triangle_faces}
use Rattle.prism.specs.Elements.{prism}
use Rattle.prism.proofs.Faces.{prism_faces}
use Rattle.index.specs.Index.{line_index, triangle_index, prism_index}
use Rattle.index.specs.Rank.{Ranked}
use Rattle.index.proofs.Rank.{line_ranked, triangle_ranked, prism_ranked}
use Rattle.index.proofs.Bey.{bey}
use Rattle.index.proofs.Controls.{worked}
use Rattle.index.proofs.Pencil.{pencil}
use Rattle.leaves.proofs.Ancestors.{cell_laws}
use Rattle.adaption.proofs.Elements.{relatives}
use Rattle.corners.specs.declared.Root.{Root}
use Rattle.corners.specs.declared.Point.{Point}
use Rattle.corners.specs.Section.{PointColumns, corner_points, filled}
use Rattle.corners.specs.SectionLaws.{Drawn}
use Rattle.corners.proofs.SectionAccepted.{drawn}
use Rattle.numbers.proofs.Coded.{codec}
use Rattle.format.proofs.OneFile.{one_file}
use Rattle.gridfile.proofs.RoundTrip.{round_trip}
use Rattle.results.specs.Results.{pass_result}
use Rattle.results.specs.Laws.{words}
use Rattle.line.specs.Lawful as lines
use Rattle.line.proofs.Constants as line_constants
use Rattle.triangle.specs.Lawful as triangles
use Rattle.triangle.proofs.Constants as triangle_constants
use Rattle.triangle.proofs.Inside as triangle_inside
use Rattle.prism.specs.Lawful as prisms
use Rattle.prism.proofs.Constants as prism_constants
use Rattle.prism.proofs.Inside as prism_inside
use Rattle.leaves.proofs.Promised as leaves
use Rattle.adaption.proofs.Promised as adaption
use Rattle.shares.proofs.Promised as shares
use Rattle.corners.proofs.Promised as corners
use Rattle.promises.specs.Demand2.{Figure, line_figure, triangle_figure, prism_figure, Elements, OfElements, OfLists, OfFiles, OfPoints, Demand2}
use Rattle.promises.proofs.Flat.{returned}
use Rattle.promises.proofs.Printing.{of_orders, of_stored}
use Rattle.promises.proofs.OverC.{sections_over_c}
use Rattle.promises.proofs.ElementCalls.{handed_back}
use Rattle.promises.proofs.Accepts as lists

module _ {E P : Type 0} (S : Shape E) (index : E → ℕ) (F : Figure E P) where
  elements : Lawful S → Ranked S index → Constants S F.corner F.corners F.points F.faces → Faces S F.points F.across
      → Elements S index F
  elements W ranked constants faces =
      record {
        lawful = W;
        accepts = accepts S W;
        by_position = by_position S W;
        ranked = ranked;
        sound_answers = sound_answers S W (λ e f i sound face is. (faces.across e f i sound face is).sound);
        handed_back = handed_back S faces.either;
        positions = positions S W;
        ancestors = ancestors S W;
        descendants = descendants S W;
        total_order = total_order S W;
        curve_order = curve_order S W;
        families = families S W;
        constants = constants;
        faces = faces;
      }

of_elements : OfElements
of_elements =
    record {
      of_lines = elements line line_index line_figure (lines.lawful 21) (line_ranked 21) (line_constants.constants 21) (line_faces 21);
      of_triangles =
          elements triangle (triangle_index 21) triangle_figure
          (triangles.lawful 21) (triangle_ranked 21) (triangle_constants.constants 21) (triangle_faces 21);
      of_prisms =
          elements prism (prism_index 21) prism_figure
          (prisms.lawful 21) (prism_ranked 21) (prism_constants.constants 21) (prism_faces 21);
      children_are_bey's = bey 21;
      numbers_by_rule = by_rule;
      by_pencil = pencil 21;
      pencil_example = worked;
      refusal_4_of_triangles = triangle_inside.refusal_4 21;
      refusal_4_of_prisms = prism_inside.refusal_4 21;
    }

of_lists : OfLists
of_lists =
    record {
      accepts = lists.accepts;
      listed = leaves.promised 8 21 (omega arith);
      cells = cell_laws prism (prisms.lawful 21);
      relatives = relatives prism (prisms.lawful 21);
      adapted = adaption.promised 8 21 (omega arith);
      shared = shares.promised;
    }

of_files : OfFiles
of_files =
    record {
      numbers = codec;
      one_file = one_file 8 21 (omega arith) (omega arith);
      round_trip = round_trip 8 21 (omega arith) (omega arith);
    }

-- ---- a section in memory
left_drawn : (l : ℕ) (ps : List ℕ) (i : ℕ) (r : Root) (m m' : PointColumns) (found : List Point) → corner_points l ps i r m ≡ accepted found
    → m' ≡ filled found m → Drawn l ps i r m'
left_drawn l ps i r m m' found is kept = subst (Drawn l ps i r) (sym kept) (drawn l ps i r m found is)

of_points : OfPoints
of_points =
    record {
      promised = corners.promised;
      drawn = λ l ps i r a m m' f e.
          let b = gave outcome_of (λ (found : List Point). tt) filled (corner_points l ps i r m) a m m' tt f e in
          left_drawn l ps i r m m' b.0 b.1.0 b.1.1.1;
      drawn_over_c = λ l ps i r word m m' f zero.
          let b = returned words (λ o. pass_result (mapped (λ (found : List Point). tt) o)) filled (corner_points l ps i r m) word m m' (sections_over_c l ps i r m) f zero in
          left_drawn l ps i r m m' b.0 b.1.0 b.1.1.1;
    }

pub demand_2 : Demand2
demand_2 = record { of_elements = of_elements; of_lists = of_lists; of_files = of_files; of_points = of_points; of_orders = of_orders; of_stored = of_stored }
