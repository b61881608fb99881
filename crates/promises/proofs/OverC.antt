-- Demand 1 over C: each function returns the result of its call's outcome, whose refusals fit into a word. Assumes nothing.
use mathlib.Core.Path.{◌≡◌, refl}
use mathlib.Core.Bool.{true}
use mathlib.Core.List.{List, [], ◌∷◌}
use Prim.Native.Nat.{ℕ}
use native.Mathlib.Omega.{arith}
use lib.ListN.{length}
use Rattle.paper.specs.Outcome.{Outcome, mapped}
use Rattle.paper.specs.Memory.{written}
use Rattle.tree.specs.Shape.{Shape}
use Rattle.tree.specs.Words
use Rattle.line.specs.Elements.{line}
use Rattle.triangle.specs.Elements.{triangle}
use Rattle.prism.specs.Elements.{prism}
use Rattle.leaves.specs.Leaves.{front}
use Rattle.format.specs.Reading.{Grid}
use Rattle.reader.specs.Calls.{size_of}
use Rattle.corners.specs.declared.Root.{Root}
use Rattle.corners.specs.declared.Point.{Point}
use Rattle.corners.specs.Section.{PointColumns, corner_points, filled}
use Rattle.interface.specs.Calls.{PointsResult}
use Rattle.results.specs.Results.{line_result, triangle_result, prism_result, number_result, truth_result, compare_result, pass_result, grid_result, point_result}
use Rattle.results.specs.Laws.{Kind, lines, triangles, prisms, numbers, comparisons, words, grids, points}
use Rattle.results.proofs.Laws.{Result, number_result_lem, truth_result_lem, compare_result_lem, pass_result_lem, grid_result_lem, point_result_lem, line_result_lem, triangle_result_lem, prism_result_lem, shown_result, shown}
use Rattle.promises.specs.OverC.{Flat, ElementsOverC, ListsOverC, OverC}
use Rattle.promises.proofs.Flat.{said, flat, returns}
use Rattle.promises.proofs.ElementCalls.{Rows}
use Rattle.promises.proofs.ShapeCalls.{line_rows, triangle_rows, prism_rows}
use Rattle.promises.proofs.ListCalls.{check_so, balanced_so, uniform_so, adapt_so, shares_so}
use Rattle.promises.proofs.FileCalls.{read_so, write_so}
use Rattle.promises.proofs.Demand1.{points_so, sections_so, orders_so, stored_so}

module _ {E R : Type 0} (S : Shape E) (faults : List ℕ) (kind : Kind R) (result : Outcome E → R) (is : Result kind result) where
  on_elements : said faults ≡ true → Rows S faults → ElementsOverC S kind result faults
  unfolding said
  on_elements known refuses =
      record {
        at = λ l p. returns kind result is refl (refuses.at l p);
        position = λ e. returns numbers number_result number_result_lem known (refuses.position e);
        parent = λ e. returns kind result is known (refuses.parent e);
        child = λ e i. returns kind result is known (refuses.child e i);
        successor = λ e. returns kind result is known (refuses.successor e);
        first = λ e l. returns kind result is known (refuses.descendant (Words.first S) e l);
        last = λ e l. returns kind result is known (refuses.descendant (Words.last S) e l);
        neighbour = λ e i. returns kind result is known (refuses.neighbour e i);
        family = λ equal es. returns numbers truth_result truth_result_lem known (refuses.family equal es);
        compare = λ e f. returns comparisons compare_result compare_result_lem known (refuses.order e f);
      }

-- how many entries or bytes were written
count_result : {A : Type 0} → Result numbers (λ (o : Outcome (List A)). number_result (mapped length o))
count_result = shown_result numbers number_result length number_result_lem

pub lists_over_c : ListsOverC
unfolding said
lists_over_c =
    record {
      check = λ k cs. returns words pass_result pass_result_lem refl (check_so k cs);
      uniform = λ k level m. flat numbers _ count_result front refl (uniform_so k level m);
      balanced = λ k cs. returns numbers truth_result truth_result_lem refl (balanced_so k cs);
      adapt = λ k cs ms m. flat numbers _ count_result front refl (adapt_so k cs ms m);
      shares = λ k p cs ws m. flat words _ (shown_result words pass_result (λ (boundaries : List ℕ). tt) pass_result_lem) written refl (shares_so k p cs ws m);
      write = λ k cs m. flat numbers _ count_result written refl (write_so k cs m);
      read = λ bytes m. flat grids _ (shown_result grids grid_result size_of grid_result_lem) (λ (g : Grid). front g.leaves) refl (read_so bytes m);
    }

pub sections_over_c : (l : ℕ) (ps : List ℕ) (i : ℕ) (r : Root) (m : PointColumns)
    → Flat words (11 ∷ 1 ∷ 5 ∷ 8 ∷ 24 ∷ []) (length ps) (corner_points l ps i r m) m (λ a m'. PointsResult l ps i r a m m')
unfolding said
sections_over_c l ps i r m = flat words _ (shown_result words pass_result (λ (found : List Point). tt) pass_result_lem) filled refl (sections_so l ps i r m)

pub over_c : OverC
unfolding said
over_c =
    record {
      on_lines = on_elements line (1 ∷ 2 ∷ []) lines line_result line_result_lem refl line_rows;
      on_triangles = on_elements triangle (1 ∷ 2 ∷ 3 ∷ 4 ∷ []) triangles triangle_result triangle_result_lem refl triangle_rows;
      on_prisms = on_elements prism (1 ∷ 2 ∷ 3 ∷ 4 ∷ []) prisms prism_result prism_result_lem refl prism_rows;
      on_lists = lists_over_c;
      on_points = λ l p i r. returns points point_result point_result_lem refl (points_so l p i r);
      on_sections = sections_over_c;
      on_orders = λ input m. flat numbers _ count_result written refl (orders_so input m);
      on_stored = λ input m. flat numbers _ count_result written refl (stored_so input m);
      shown = shown;
      low = record { of_lists = omega arith; of_files = omega arith; of_orders = omega arith; of_stored = omega arith };
    }
