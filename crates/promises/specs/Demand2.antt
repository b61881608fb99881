-- The order's second demand, for elements, leaf lists, grid files, corner points, orders and stored orders: "Positions are those of the prism index .. An
-- element's position is its rank among all elements of its level in that order, and each position below eight to the power of the level gives
-- back its element." Definitions only.
--
--   Figure        the corner points of a shape's elements: by number, as the paper lists them, those of a face by number, all faces, and which number
--                 a face has for the neighbour
--                 (line_figure, triangle_figure, prism_figure: of the three)
--   HandedBack    what a call can refuse a sound element by: none of the checks on an element
--   Elements      what is promised of one shape, with its index and its corner points
--   OfElements    of the elements of all three shapes; a triangle's number among its siblings by document 02's rule, and a prism's position
--                 worked out by it with a pencil (docs/PENCIL.md)
--   OfLists       of leaf lists and their calls: when each call accepts, and with what (`Accepts.antt`); each smallest cell lies in exactly one leaf, and the
--                 leaves stand along the curve; a leaf's relatives are the prism's; adaption is the paper's one pass, boundaries are the paper's
--   OfFiles       of grid files: "a list has one file and a file one list", and writing and reading undo each other
--   OfPoints      of corner points, and what an accepted section leaves in the columns that it was lent, over C too: entry k is what the single call
--                 answers at position k (`Drawn`, `corners/specs/SectionLaws.antt`)
--   Demand2       all of it, with corner points (the exact value and no other, the bound, the root's own corners, one point for one local corner, a
--                 whole section as the single calls one by one) and orders (when one is accepted, the first 71 bytes decide, its fields are
--                 repeated, its shares are the list's own, its numbers read back, its output has room) and stored orders (what an empty field
--                 seven meant, where the order program and the old one part, what the converter makes of every line); what both leave in
--                 memory (`Printing.antt`)
--
-- Assumes nothing.
use Rattle.std.specs.Prelude.{Bool, ◌≡◌, ℕ, ◌≤◌, ◌<◌}
use mathlib.Core.List.{List, [], ◌∷◌, Memᴰ}
use Rattle.paper.specs.Outcome.{refused, passed}
use Rattle.paper.specs.Refusals.{outcome_of}
use Rattle.std.specs.declared.result.Result.{Result}
use Rattle.paper.specs.declared.Refusal.{Refusal}
use Rattle.tree.specs.Anchors.{HIGHEST}
use Rattle.tree.specs.Shape.{Shape}
use Rattle.tree.specs.Calls as calls
use Rattle.tree.specs.Laws.{Sound, Lawful, Positions, TotalOrder, Families, Faces, Constants}
use Rattle.tree.specs.Ancestors.{Ancestors}
use Rattle.tree.specs.Descendants.{Descendants, CurveOrder}
use Rattle.tree.specs.CallLaws.{Accepts, ByPosition, SoundAnswers}
use Rattle.rows.specs.Siblings.{ByRule}
use Rattle.line.specs.declared.Line.{Line}
use Rattle.line.specs.Elements.{line}
use Rattle.triangle.specs.declared.Triangle.{Triangle}
use Rattle.triangle.specs.Elements.{triangle}
use Rattle.triangle.specs.Points.{Point}
use Rattle.prism.specs.declared.Prism.{Prism}
use Rattle.prism.specs.Elements.{prism}
use Rattle.prism.specs.Points.{Corner}
use Rattle.index.specs.Bey.{Bey}
use Rattle.index.specs.Index.{line_index, triangle_index, prism_index}
use Rattle.index.specs.Rank.{Ranked}
use Rattle.index.specs.Pencil.{Pencil, Worked}
use Rattle.leaves.specs.Leaves.{CHILDREN}
use Rattle.leaves.specs.Cells.{CellLaws}
use Rattle.adaption.specs.Laws.{Relatives}
use Rattle.corners.specs.declared.Root.{Root}
use Rattle.corners.specs.Section.{PointColumns, SectionFilled}
use Rattle.corners.specs.SectionLaws.{Drawn}
use Rattle.interface.specs.Calls.{PointsResult}
use Rattle.numbers.specs.Laws.{Codec}
use Rattle.format.specs.Laws.{OneFile}
use Rattle.gridfile.specs.Laws.{RoundTrip}
use Rattle.line.specs.Points as line_points
use Rattle.triangle.specs.Points as triangle_points
use Rattle.prism.specs.Points as prism_points
use Rattle.leaves.specs.Laws as leaves
use Rattle.adaption.specs.Laws as adaption
use Rattle.shares.specs.Laws as shares
use Rattle.corners.specs.Laws as corners
use Rattle.promises.specs.Printing.{OfOrders, OfStored}
use Rattle.promises.specs.Refusals.{Refuses}
use Rattle.promises.specs.Accepts as lists

pub record Figure (E P : Type 0) : Type 0 where
  pub corner : E → ℕ → P
  pub corners : E → List P
  pub points : E → ℕ → List P
  pub faces : E → List (List P)
  pub across : ℕ → ℕ

-- a sound element handed in is refused by none of 1 to 4; a level asked for above the highest is 1
pub record HandedBack {E : Type 0} (S : Shape E) : Type 0 where
  pub position : (e : E) → Sound S e → Refuses [] 0 (calls.position S e)
  pub parent : (e : E) → Sound S e → Refuses (6 ∷ []) 0 (calls.parent S e)
  pub child : (e : E) (i : ℕ) → Sound S e → Refuses (7 ∷ 8 ∷ []) 0 (calls.child S e i)
  pub successor : (e : E) → Sound S e → Refuses (9 ∷ []) 0 (calls.successor S e)
  pub first : (e : E) (l : ℕ) → Sound S e → l ≤ S.highest → Refuses (6 ∷ []) 0 (calls.first S e l)
  pub last : (e : E) (l : ℕ) → Sound S e → l ≤ S.highest → Refuses (6 ∷ []) 0 (calls.last S e l)
  pub first_too_deep : (e : E) (l : ℕ) → Sound S e → S.highest < l → calls.first S e l ≡ refused 1 0
  pub last_too_deep : (e : E) (l : ℕ) → Sound S e → S.highest < l → calls.last S e l ≡ refused 1 0
  pub neighbour : (e : E) (i : ℕ) → Sound S e → Refuses (8 ∷ 10 ∷ []) 0 (calls.neighbour S e i)
  pub family : (equal : Bool) (es : List E) → ((e : E) → Memᴰ e es → Sound S e) → Refuses (11 ∷ []) 0 (calls.family S equal es)
  pub order : (e f : E) → Sound S e → Sound S f → Refuses [] 0 (calls.order S e f)

pub record Elements {E P : Type 0} (S : Shape E) (index : E → ℕ) (F : Figure E P) : Type 0 where
  pub lawful : Lawful S
  pub accepts : Accepts S
  pub by_position : ByPosition S
  pub ranked : Ranked S index
  pub sound_answers : SoundAnswers S
  pub handed_back : HandedBack S
  pub positions : Positions S
  pub ancestors : Ancestors S
  pub descendants : Descendants S
  pub total_order : TotalOrder S
  pub curve_order : CurveOrder S
  pub families : Families S
  pub constants : Constants S F.corner F.corners F.points F.faces
  pub faces : Faces S F.points F.across

abbrev pub line_figure : Figure Line ℕ
line_figure =
    record {
      corner = line_points.corner HIGHEST;
      corners = line_points.corners HIGHEST;
      points = line_points.face_points HIGHEST;
      faces = line_points.faces HIGHEST;
      across = line_points.face_across;
    }

abbrev pub triangle_figure : Figure Triangle Point
triangle_figure =
    record {
      corner = triangle_points.corner HIGHEST;
      corners = triangle_points.corners HIGHEST;
      points = triangle_points.face_points HIGHEST;
      faces = triangle_points.faces HIGHEST;
      across = triangle_points.face_across;
    }

abbrev pub prism_figure : Figure Prism Corner
prism_figure =
    record {
      corner = prism_points.corner HIGHEST;
      corners = prism_points.corners HIGHEST;
      points = prism_points.face_points HIGHEST;
      faces = prism_points.faces HIGHEST;
      across = prism_points.face_across;
    }

pub record OfElements : Type 0 where
  pub of_lines : Elements line line_index line_figure
  pub of_triangles : Elements triangle (triangle_index HIGHEST) triangle_figure
  pub of_prisms : Elements prism (prism_index HIGHEST) prism_figure
  pub children_are_bey's : Bey HIGHEST
  pub numbers_by_rule : ByRule
  pub by_pencil : Pencil HIGHEST
  pub pencil_example : Worked
  pub refusal_4_of_triangles : triangle_points.Refusal4 HIGHEST
  pub refusal_4_of_prisms : prism_points.Refusal4 HIGHEST

pub record OfLists : Type 0 where
  pub accepts : lists.Accepts
  pub listed : leaves.Promised CHILDREN HIGHEST
  pub cells : CellLaws prism
  pub relatives : Relatives prism
  pub adapted : adaption.Promised CHILDREN HIGHEST
  pub shared : shares.Promised

pub record OfFiles : Type 0 where
  pub numbers : Codec
  pub one_file : OneFile CHILDREN HIGHEST
  pub round_trip : RoundTrip CHILDREN HIGHEST

pub record OfPoints : Type 0 where
  pub promised : corners.Promised
  pub drawn : (l : ℕ) (ps : List ℕ) (i : ℕ) (r : Root) (a : Result (Unit {0}) Refusal) (m m' : PointColumns) → SectionFilled l ps i r a m m' → outcome_of a ≡ passed
      → Drawn l ps i r m'
  pub drawn_over_c : (l : ℕ) (ps : List ℕ) (i : ℕ) (r : Root) (word : ℕ) (m m' : PointColumns) → PointsResult l ps i r word m m' → word ≡ 0
      → Drawn l ps i r m'

pub record Demand2 : Type 0 where
  pub of_elements : OfElements
  pub of_lists : OfLists
  pub of_files : OfFiles
  pub of_points : OfPoints
  pub of_orders : OfOrders
  pub of_stored : OfStored
