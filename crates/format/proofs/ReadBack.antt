-- A list's file is read as the list: its numbers are read one after the other, and the runs give its leaves. Assumes nothing.
use mathlib.Core.Path.{◌≡◌, refl, ap, ◌∙◌, sym}
use mathlib.Core.Bool.{true}
use mathlib.Core.List.{List, [], ◌∷◌, ◌++◌, append_assoc}
use Prim.Native.Nat.{ℕ, suc, ◌+◌, ◌≤◌, ◌<◌}
use native.Mathlib.Omega.{arith}
use lib.ListN.{length, length-append}
use borrow.Author.Tests.{le-ltb, eq-eqb, ne_eqb}
use Rattle.paper.specs.Outcome.{Outcome, accepted, mapped, and_then}
use Rattle.leaves.specs.Leaves.{Leaf, Spot, spot_at, Valid}
use Rattle.leaves.proofs.Entries.{some_leaf}
use Rattle.leaves.specs.Calls.{limit}
use Rattle.numbers.specs.Numbers.{highest, bytes_of, Found, found, number_at}
use Rattle.format.specs.File.{Run, runs_of, run_bytes, file_of, tag, Differs}
use Rattle.format.specs.Reading.{Head, head, after_runs, after_roots, head_at, headed, fits, leaves_from, FoundRun, found_run, after_count, after_level, Walk, start, keep, run_at, sound_from, grid_at}
use Rattle.numbers.proofs.Coded.{codec}
use Rattle.format.proofs.Following.{runs_at, run_step, apart}
use Rattle.format.proofs.Runs.{StandFor, stands_for, leaves_count, runs_few, runs_some}

module _ (n L K : ℕ) (bs : List ℕ) where
  -- ---- one run
  run_is : (w : Walk) (l k : Found) → number_at bs w.next ≡ accepted l → number_at bs l.next ≡ accepted k
      → l.value ≤ L → (w.before ≡ l.value → ⊥) → 0 < k.value → w.count + k.value ≤ limit → fits n L K w.come l.value k.value ≡ true
      → run_at n L bs K w ≡ accepted (found_run l.value k.value k.next)
  run_is w l k level count shallow other some few fit =
      ap (λ (o : Outcome Found). and_then o (after_level n L bs K w)) level
      ∙ simp (le-ltb L l.value shallow, ne_eqb w.before l.value other)
      (ap (λ (o : Outcome Found). and_then o (after_count n L K w l)) count
      ∙ simp (ne_eqb k.value 0 (λ none. omega arith), le-ltb limit (w.count + k.value) few, fit))

  one_run : (R : ℕ) (w : Walk) (r : FoundRun) → run_at n L bs K w ≡ accepted r → runs_at n L bs K (suc R) w ≡ run_step n L bs K R w r
  one_run R w r is = apart n L bs K R w ∙ ap (λ (o : Outcome FoundRun). and_then o (run_step n L bs K R w)) is

  no_run : (w : Walk) → w.come ≡ spot_at K 0 → length bs ≤ w.next → runs_at n L bs K 0 w ≡ accepted []
  unfolding sound_from
  no_run w full past =
      simp (
        eq-eqb w.come.root K (ap (λ (p : Spot). p.root) full),
        eq-eqb w.come.cell 0 (ap (λ (p : Spot). p.cell) full),
        le-ltb w.next (length bs) past,
      )

  -- ---- all runs
  runs_read : (positive : 0 < n) → L ≤ highest → (rs : List Run) (vs : List Leaf) (pre : List ℕ) (w : Walk)
      → w.next ≡ length pre → bs ≡ pre ++ run_bytes rs → Differs w.before rs → w.count + length vs ≤ limit → StandFor n L K positive w.come rs vs
      → runs_at n L bs K (length rs) w ≡ accepted vs
  unfolding StandFor run_bytes
  runs_read positive low [] vs pre w here whole other few f =
      let long : length bs ≡ length pre + 0 = ap length whole ∙ length-append pre [] in
      no_run w f.1 (omega arith) ∙ ap accepted (sym f.0)
  runs_read positive low (r ∷ rs) vs pre w here whole other few f =
      let l = r.key in
      let k = r.count in
      let run = leaves_from n L w.come l k in
      let rest = f.4.0 in
      let split : length vs ≡ k + length rest = ap length f.4.1.0 ∙ length-append run rest ∙ ap (λ (m : ℕ). m + length rest) (leaves_count n L w.come l k) in
      let pre1 = pre ++ bytes_of l in
      let pre2 = pre1 ++ bytes_of k in
      let whole1 : bs ≡ pre1 ++ (bytes_of k ++ run_bytes rs) = whole ∙ sym (append_assoc pre (bytes_of l) (bytes_of k ++ run_bytes rs)) in
      let whole2 : bs ≡ pre2 ++ run_bytes rs = whole1 ∙ sym (append_assoc pre1 (bytes_of k) (run_bytes rs)) in
      let level : number_at bs w.next ≡ accepted (found l (length pre1)) =
      ap (number_at bs) here ∙ ap (λ (b : List ℕ). number_at b (length pre)) whole ∙ codec.read_written pre (bytes_of k ++ run_bytes rs) l (omega (arith, f.0))
      ∙ ap (λ (j : ℕ). accepted (found l j)) (sym (length-append pre (bytes_of l))) in
      let count : number_at bs (length pre1) ≡ accepted (found k (length pre2)) =
      ap (λ (b : List ℕ). number_at b (length pre1)) whole1 ∙ codec.read_written pre1 (run_bytes rs) k (omega arith)
      ∙ ap (λ (j : ℕ). accepted (found k j)) (sym (length-append pre1 (bytes_of k))) in
      let r' = found_run l k (length pre2) in
      one_run (length rs) w r' (run_is w (found l (length pre1)) (found k (length pre2)) level count f.0 other f.1 (omega arith) f.2)
      ∙ ap (mapped (λ (us : List Leaf). run ++ us)) (runs_read positive low rs rest pre2 (keep n L w r') refl whole2 f.3 (omega arith) f.4.1.1)
      ∙ ap accepted (sym f.4.1.0)

-- the first run is of a level
first_differs : (n L K : ℕ) (positive : 0 < n) (c : Spot) (rs : List Run) (vs : List Leaf) → StandFor n L K positive c rs vs → Differs (suc L) rs
unfolding StandFor
first_differs n L K positive c [] vs f = tt
first_differs n L K positive c (r ∷ rs) vs f = λ same. omega (arith, f.0)

opened : (rest : List ℕ) → head_at (tag ++ rest) ≡ and_then (number_at (tag ++ rest) 4) (after_roots (tag ++ rest))
opened rest = simp (le-ltb (length (tag ++ rest)) 4 (omega arith))

module _ (n L : ℕ) (positive : 0 < n) (low : L ≤ highest) where
  pub read_back : (K : ℕ) (vs : List Leaf) → 0 < K → K ≤ 4096 → length vs ≤ limit → Valid n L K vs → grid_at n L (file_of K vs) ≡ accepted (record { roots = K; leaves = vs })
  read_back K vs some few short valid =
      let rs = runs_of vs in
      let R = length rs in
      let bs = file_of K vs in
      let pre1 = tag ++ bytes_of K in
      let pre2 = pre1 ++ bytes_of R in
      let whole1 : bs ≡ pre1 ++ (bytes_of R ++ run_bytes rs) = sym (append_assoc tag (bytes_of K) (bytes_of R ++ run_bytes rs)) in
      let whole2 : bs ≡ pre2 ++ run_bytes rs = whole1 ∙ sym (append_assoc pre1 (bytes_of R) (run_bytes rs)) in
      let fewer = runs_few vs in
      let roots : number_at bs 4 ≡ accepted (found K (4 + length (bytes_of K))) = codec.read_written tag (bytes_of R ++ run_bytes rs) K (omega arith) in
      let runs : number_at bs (4 + length (bytes_of K)) ≡ accepted (found R (length pre1 + length (bytes_of R))) =
      ap (number_at bs) (sym (length-append tag (bytes_of K))) ∙ ap (λ (b : List ℕ). number_at b (length pre1)) whole1 ∙ codec.read_written pre1 (run_bytes rs) R (omega arith) in
      let f = stands_for n L K positive (spot_at 0 0) vs valid in
      let some_run = runs_some vs (some_leaf n L K vs some valid) in
      let top : head_at bs ≡ accepted (head K R (length pre1 + length (bytes_of R))) =
      opened (bytes_of K ++ (bytes_of R ++ run_bytes rs))
      ∙ ap (λ (o : Outcome Found). and_then o (after_roots bs)) roots
      ∙ simp (ne_eqb K 0 (λ none. omega arith), le-ltb 4096 K few)
      (ap (λ (o : Outcome Found). and_then o (after_runs (found K (4 + length (bytes_of K))))) runs
      ∙ simp (ne_eqb R 0 (λ none. omega arith), le-ltb limit R (omega arith))) in
      ap (λ (o : Outcome Head). and_then o (headed n L bs)) top
      ∙ ap (mapped (λ (us : List Leaf). record { roots = K; leaves = us }))
      (runs_read n L K bs positive low rs vs pre2 (start n L (length pre1 + length (bytes_of R))) (sym (length-append pre1 (bytes_of R))) whole2 (first_differs n L K positive (spot_at 0 0) rs vs f) (omega arith) f)
