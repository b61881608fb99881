-- Demand 1: each call's answer is one, its memory is what its outcome leaves, and its refusals are those of its tests. Assumes nothing.
use mathlib.Core.Path.{◌≡◌, refl, ◌∙◌, sym, ap, subst}
use mathlib.Core.Bool.{not}
use mathlib.Core.List.{List, [], ◌∷◌, Memᴰ}
use Prim.Native.Nat.{ℕ, ◌+◌, ◌*◌, ◌^◌}
use native.Mathlib.Nat.{le_refl}
use native.Mathlib.Omega.{arith}
use lib.Dec.{leb, ltb}
use lib.ListN.{length, drop}
use Rattle.paper.specs.Outcome.{Outcome, accepted, scan}
use Rattle.paper.specs.Memory.{written}
use Rattle.paper.specs.Refusals.{outcome_of, order_of}
use Rattle.std.specs.declared.cmp.Ordering.{Ordering}
use Rattle.line.specs.Elements.{line}
use Rattle.triangle.specs.Elements.{triangle}
use Rattle.prism.specs.Elements.{prism}
use Rattle.leaves.specs.Leaves.{Columns, front}
use Rattle.columns.specs.Laying.{stretch, stored}
use Rattle.marks.specs.Marks.{check_marks}
use Rattle.numbers.specs.Answers.{found_of}
use Rattle.format.specs.Reading.{Grid, sound}
use Rattle.sounding.specs.Answers.{head_of}
use Rattle.sounding.proofs.Answers.{tells_one}
use Rattle.reader.specs.Answers.{grid_of}
use Rattle.reader.specs.Calls.{size_of}
use Rattle.positions.specs.Positions.{position_fault, check_positions}
use Rattle.corners.specs.declared.Root.{Root}
use Rattle.corners.specs.declared.Point.{Point}
use Rattle.corners.specs.CornerPoints.{root_within, corner_point}
use Rattle.corners.specs.Section.{PointColumns, equal_lengths, corner_points, filled}
use Rattle.fields.specs.Fields.{is_number}
use Rattle.fields.specs.Inner.{piece, numbered_of}
use Rattle.forms.specs.Forms.{form_of}
use Rattle.forms.proofs.Refusals.{read_refused}
use Rattle.text.specs.Text.{longest_output}
use Rattle.orders.specs.Calls.{output}
use Rattle.orders.specs.Calls as orders
use Rattle.orders.proofs.Promised.{promised}
use Rattle.converter.specs.Converter.{converted, longest_line}
use Rattle.converter.specs.Calls as stored
use Rattle.converter.proofs.Promised.{promised as stored_promised}
use Rattle.forms.specs.Forms as forms
use Rattle.promises.specs.Refusals.{Refuses}
use Rattle.promises.specs.Demand1.{OnLists, OnParts, OfCalls}
use Rattle.promises.proofs.Refusals.{no_fault, fault_so, in_turn, when, fine, room_so, at0, at1, at2, at3, at4}
use Rattle.promises.proofs.Calls.{answer, lent}
use Rattle.promises.proofs.Determined.{results, comparisons, orders, grids, found_numbers, field_numbers, heads, forms_read}
use Rattle.promises.proofs.ElementCalls.{on_elements}
use Rattle.promises.proofs.ShapeCalls.{line_rows, triangle_rows, prism_rows}
use Rattle.promises.proofs.ListCalls.{check_so, balanced_so, uniform_so, check_marks_so, adapt_so, shares_so}
use Rattle.promises.proofs.FileCalls.{front_so, number_so, sound_so, read_so, write_so}

on_lists : OnLists
on_lists =
    record {
      check = λ k cs. answer outcome_of results (check_so k cs);
      uniform = λ k level m. lent outcome_of results length front (uniform_so k level m);
      balanced = λ k cs. answer outcome_of results (balanced_so k cs);
      adapt = λ k cs ms m. lent outcome_of results length front (adapt_so k cs ms m);
      shares = λ k p cs ws m. lent outcome_of results (λ (boundaries : List ℕ). tt) written (shares_so k p cs ws m);
      write = λ k cs m. lent outcome_of results length written (write_so k cs m);
      read = λ bytes m. lent grid_of grids size_of (λ (g : Grid). front g.leaves) (read_so bytes m);
    }

-- ---- the calls that those are made of
-- positions in turn: 5, at an index
positions_so : {A : Type 0} {ns : List ℕ} (l : ℕ) (ps : List ℕ) {o : Outcome A} → Memᴰ 5 ns → Refuses ns (length ps) o
    → Refuses ns (length ps) (scan (position_fault l) 0 ps o)
positions_so l ps known rest =
    in_turn (position_fault l) 0 ps (λ p inside. fault_so (leb (8 ^ l) p) 5 0 known (no_fault _)) (omega arith) rest

check_positions_so : (l : ℕ) (ps : List ℕ) → Refuses (1 ∷ 5 ∷ []) (length ps) (check_positions l ps)
check_positions_so l ps = when (ltb 21 l) 1 at0 (λ shallow. positions_so l ps at1 (fine tt))

stretch_one : (root level position : ℕ) (m : Columns) (a b : ℕ) → a ≡ b → (i : ℕ)
    → stored i (stretch root level position a) m ≡ stored i (stretch root level position b) m
stretch_one root level position m a b same i = ap (λ (k : ℕ). stored i (stretch root level position k) m) same

on_parts : OnParts
on_parts =
    record {
      order = λ first level second other. answer (λ (r : Ordering). accepted (order_of r)) orders (fine _);
      check_positions = λ l ps. answer outcome_of results (check_positions_so l ps);
      check_marks = λ highest ls ms. answer outcome_of results (check_marks_so highest ls ms);
      number_at = λ bytes i. answer found_of found_numbers (number_so bytes i);
      head_at = λ bytes. answer head_of heads (front_so bytes);
      sound = λ bytes h.
          record {
            one = λ r s m m' f g. (tells_one r s (sound 8 21 bytes h) f g, refl);
            spared = λ r m number place f h. refl;
            refusals = λ r m f. subst (Refuses (19 ∷ 20 ∷ 1 ∷ 21 ∷ 15 ∷ 12 ∷ 22 ∷ []) (h.next + 6 * h.runs)) (sym f.fault) (sound_so bytes h);
          };
      lay = λ at k root level position m r s a b f g.
          let same = f.answer ∙ sym g.answer in
          (same, f.memory ∙ stretch_one root level position m r s same at ∙ sym g.memory);
      field_number = λ s at. answer numbered_of field_numbers (when (not (is_number (piece (drop at s)))) 23 at0 (λ is. fine _));
      answer = λ bytes m. lent outcome_of results length written (room_so (length bytes) (length m) bytes at0 (le_refl (length bytes)));
      print = λ bytes m r s a b f g. (f.end ∙ sym g.end, f.written ∙ sym g.written);
      lay_bytes = λ at bytes m r s a b f g. (refl, f ∙ sym g);
    }

pub points_so : (l p i : ℕ) (r : Root) → Refuses (1 ∷ 5 ∷ 8 ∷ 24 ∷ []) 0 (corner_point l p i r)
unfolding corner_point
points_so l p i r =
    when (ltb 21 l) 1 at0 (λ shallow. when (leb (8 ^ l) p) 5 at1 (λ inside. when (leb 6 i) 8 at2 (λ few. when (not (root_within r)) 24 at3 (λ near. fine _))))

pub sections_so : (l : ℕ) (ps : List ℕ) (i : ℕ) (r : Root) (m : PointColumns) → Refuses (11 ∷ 1 ∷ 5 ∷ 8 ∷ 24 ∷ []) (length ps) (corner_points l ps i r m)
unfolding corner_points
sections_so l ps i r m =
    when (not (equal_lengths ps m)) 11 at0 (λ equal. when (ltb 21 l) 1 at1 (λ shallow.
    positions_so l ps at2 (when (leb 6 i) 8 at3 (λ few. when (not (root_within r)) 24 at4 (λ near. fine _)))))

forms_so : (input : List ℕ) → Refuses (1 ∷ 15 ∷ 17 ∷ 23 ∷ []) 8 (forms.read input)
forms_so input =
    record {
      number = λ number field e. (read_refused input number field e).0;
      place = λ number field e. (read_refused input number field e).1.1;
    }

pub orders_so : (input m : List ℕ) → Refuses (14 ∷ []) longest_output (orders.answer input (length m))
orders_so input m = room_so (length (output input)) (length m) (output input) at0 (promised.room input)

pub stored_so : (input m : List ℕ) → Refuses (14 ∷ []) longest_line (stored.convert input (length m))
stored_so input m = room_so (length (converted input)) (length m) (converted input) at0 (stored_promised.room input)

pub of_calls : OfCalls
of_calls =
    record {
      on_lines = on_elements line (1 ∷ 2 ∷ []) line_rows;
      on_triangles = on_elements triangle (1 ∷ 2 ∷ 3 ∷ 4 ∷ []) triangle_rows;
      on_prisms = on_elements prism (1 ∷ 2 ∷ 3 ∷ 4 ∷ []) prism_rows;
      on_lists = on_lists;
      on_points = λ l p i r. answer outcome_of results (points_so l p i r);
      on_sections = λ l ps i r m. lent outcome_of results (λ (found : List Point). tt) filled (sections_so l ps i r m);
      on_orders = λ input m. lent outcome_of results length written (orders_so input m);
      on_stored = λ input m. lent outcome_of results length written (stored_so input m);
      on_forms = λ input. answer form_of forms_read (forms_so input);
      field_from_1 = λ input number field e. (read_refused input number field e).1.0;
      on_parts = on_parts;
    }
