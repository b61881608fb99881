-- Demand 1 over C, which is what the client's script calls: of every function of `include/gwerniloc.h`. Definitions only.
--
--   Flat k ns most o m C   a function over C for a call with the outcome o, with the contract C, that finds the memory m and returns a result of kind k: two
--                     runs return the same and leave the same memory; the result's word tells the outcome, and where it is not 0 its number is
--                     one of ns, its place at most `most`, every other field is 0, and the memory is what it was
--   Returns k ns most f o   the same for a function that is lent nothing to write into: it returns the result f o
--   ElementsOverC S k f fs   the functions on the elements of a shape, whose element results are f, of kind k; fs are the numbers of the checks on an
--                     element
--   ListsOverC        the functions on lists and files
--   Low               the largest places of the list, file, order and converter calls are below 2^56, so that `Word` reads them back; those of points and
--                     elements are 0 or 1, but a family's, which is at most the number of elements, and a section's, at most that of positions
--   OverC             all of it, and what the result of an accepted outcome holds (`Shown` of `results/specs/Laws.antt`)
--
-- What a caller in C must hold to, since C can't: docs/PROMISES.md, "What is assumed".
-- Assumes nothing.
use Rattle.std.specs.Prelude.{◌≡◌, Bool, ℕ, ◌/◌, ◌%◌, ◌^◌, ◌≤◌, ◌<◌, length}
use mathlib.Core.List.{List, [], ◌∷◌, Memᴰ}
use Rattle.paper.specs.Outcome.{Outcome}
use Rattle.paper.specs.Memory.{Decided}
use Rattle.tree.specs.Anchors.{HIGHEST}
use Rattle.tree.specs.Shape.{Shape}
use Rattle.line.specs.Elements.{line}
use Rattle.triangle.specs.Elements.{triangle}
use Rattle.prism.specs.Elements.{prism}
use Rattle.leaves.specs.Leaves.{CHILDREN, Columns}
use Rattle.leaves.specs.Calls.{limit, check_list, uniform}
use Rattle.adaption.specs.Calls.{adapt}
use Rattle.shares.specs.Calls.{shares}
use Rattle.balance.specs.Balance.{balanced}
use Rattle.writer.specs.Calls.{write}
use Rattle.reader.specs.Calls.{read}
use Rattle.corners.specs.declared.Root.{Root}
use Rattle.corners.specs.CornerPoints.{corner_point}
use Rattle.corners.specs.Section.{PointColumns, corner_points}
use Rattle.text.specs.Text.{longest_output}
use Rattle.orders.specs.Calls.{answer}
use Rattle.converter.specs.Converter.{longest_line}
use Rattle.converter.specs.Calls.{convert}
use Rattle.results.specs.Results.{line_result, triangle_result, prism_result, number_result, truth_result, compare_result, pass_result, point_result}
use Rattle.results.specs.Laws.{Kind, lines, triangles, prisms, numbers, comparisons, points, grids, words, Word, Shown}
use Rattle.interface.specs.Calls.{PointsResult, UniformResult, AdaptResult, SharesResult, WriteResult, ReadResult, OrderResult, ConvertResult}
use Rattle.tree.specs.Calls as calls
use Rattle.promises.specs.Demand1.{filed}

pub record Flat {A R M : Type 0} (kind : Kind R) (numbers : List ℕ) (most : ℕ) (due : Outcome A) (m : M) (C : R → M → Type 0) : Type 0 where
  pub one : Decided C
  pub word : (r : R) (m' : M) → C r m' → Word due (kind.refusal r)
  pub refusals : (r : R) (m' : M) → C r m' → (kind.refusal r ≡ 0 → ⊥)
      → Memᴰ (kind.refusal r % 256) numbers × (kind.refusal r / 256 ≤ most)
  pub blank : (r : R) (m' : M) → C r m' → (kind.refusal r ≡ 0 → ⊥) → r ≡ kind.blank (kind.refusal r)
  pub spared : (r : R) (m' : M) → C r m' → (kind.refusal r ≡ 0 → ⊥) → m' ≡ m

abbrev pub Returns : {A R : Type 0} → Kind R → List ℕ → ℕ → (Outcome A → R) → Outcome A → Type 0
Returns {R = R} kind numbers most result due = Flat {M = Unit {0}} kind numbers most due tt (λ (r : R) (m' : Unit {0}). r ≡ result due)

pub record ElementsOverC {E R : Type 0} (S : Shape E) (kind : Kind R) (result : Outcome E → R) (faults : List ℕ) : Type 0 where
  pub at : (l p : ℕ) → Returns kind (1 ∷ 5 ∷ []) 0 result (calls.at S l p)
  pub position : (e : E) → Returns numbers faults 0 number_result (calls.position S e)
  pub parent : (e : E) → Returns kind (6 ∷ faults) 0 result (calls.parent S e)
  pub child : (e : E) (i : ℕ) → Returns kind (7 ∷ 8 ∷ faults) 0 result (calls.child S e i)
  pub successor : (e : E) → Returns kind (9 ∷ faults) 0 result (calls.successor S e)
  pub first : (e : E) (l : ℕ) → Returns kind (6 ∷ faults) 0 result (calls.first S e l)
  pub last : (e : E) (l : ℕ) → Returns kind (6 ∷ faults) 0 result (calls.last S e l)
  pub neighbour : (e : E) (i : ℕ) → Returns kind (8 ∷ 10 ∷ faults) 0 result (calls.neighbour S e i)
  pub family : (equal : Bool) (es : List E) → Returns numbers (11 ∷ faults) (length es) truth_result (calls.family S equal es)
  pub compare : (e f : E) → Returns comparisons faults 1 compare_result (calls.order S e f)

pub record ListsOverC : Type 0 where
  pub check : (k : ℕ) (cs : Columns) → Returns words (17 ∷ 11 ∷ 1 ∷ 5 ∷ 12 ∷ []) limit pass_result (check_list CHILDREN HIGHEST k cs)
  pub uniform : (k level : ℕ) (m : Columns)
      → Flat numbers (17 ∷ 11 ∷ 1 ∷ 15 ∷ 14 ∷ []) limit (uniform CHILDREN HIGHEST k level m) m (λ r m'. UniformResult k level r m m')
  pub balanced : (k : ℕ) (cs : Columns) → Returns numbers (17 ∷ 11 ∷ 1 ∷ 5 ∷ 12 ∷ []) limit truth_result (balanced CHILDREN HIGHEST k cs)
  pub adapt : (k : ℕ) (cs : Columns) (ms : List ℕ) (m : Columns)
      → Flat numbers (17 ∷ 11 ∷ 1 ∷ 5 ∷ 12 ∷ 13 ∷ 7 ∷ 15 ∷ 14 ∷ []) limit (adapt CHILDREN HIGHEST k cs ms m) m (λ r m'. AdaptResult k r cs ms m m')
  pub shares : (k p : ℕ) (cs : Columns) (ws m : List ℕ)
      → Flat words (17 ∷ 11 ∷ 1 ∷ 5 ∷ 12 ∷ 16 ∷ 14 ∷ []) limit (shares CHILDREN HIGHEST k p cs ws m) m (λ r m'. SharesResult k p r cs ws m m')
  pub write : (k : ℕ) (cs : Columns) (m : List ℕ)
      → Flat numbers (17 ∷ 11 ∷ 1 ∷ 5 ∷ 12 ∷ 14 ∷ []) filed (write CHILDREN HIGHEST k cs m) m (λ r m'. WriteResult k r cs m m')
  pub read : (bytes : List ℕ) (m : Columns)
      → Flat grids (11 ∷ 18 ∷ 19 ∷ 20 ∷ 17 ∷ 21 ∷ 1 ∷ 15 ∷ 12 ∷ 22 ∷ 14 ∷ []) filed (read CHILDREN HIGHEST bytes m) m (λ r m'. ReadResult r bytes m m')

pub record Low : Type 0 where
  pub of_lists : limit < 2 ^ 56
  pub of_files : filed < 2 ^ 56
  pub of_orders : longest_output < 2 ^ 56
  pub of_stored : longest_line < 2 ^ 56

pub record OverC : Type 0 where
  pub on_lines : ElementsOverC line lines line_result (1 ∷ 2 ∷ [])
  pub on_triangles : ElementsOverC triangle triangles triangle_result (1 ∷ 2 ∷ 3 ∷ 4 ∷ [])
  pub on_prisms : ElementsOverC prism prisms prism_result (1 ∷ 2 ∷ 3 ∷ 4 ∷ [])
  pub on_lists : ListsOverC
  pub on_points : (l p i : ℕ) (r : Root) → Returns points (1 ∷ 5 ∷ 8 ∷ 24 ∷ []) 0 point_result (corner_point l p i r)
  pub on_sections : (l : ℕ) (ps : List ℕ) (i : ℕ) (r : Root) (m : PointColumns)
      → Flat words (11 ∷ 1 ∷ 5 ∷ 8 ∷ 24 ∷ []) (length ps) (corner_points l ps i r m) m (λ a m'. PointsResult l ps i r a m m')
  pub on_orders : (input m : List ℕ) → Flat numbers (14 ∷ []) longest_output (answer input (length m)) m (λ r m'. OrderResult r input m m')
  pub on_stored : (input m : List ℕ) → Flat numbers (14 ∷ []) longest_line (convert input (length m)) m (λ r m'. ConvertResult r input m m')
  pub shown : Shown
  pub low : Low
