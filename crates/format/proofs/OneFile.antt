-- A list has one file and a file one list: reading and writing undo each other. Assumes nothing.
use mathlib.Core.Path.{◌≡◌, ap, ap₂, ◌∙◌, sym, subst⁻¹}
use mathlib.Core.List.{List}
use Prim.Native.Nat.{ℕ, ◌≤◌, ◌<◌}
use Rattle.paper.proofs.Scan.{accepted_same}
use Rattle.paper.specs.Outcome.{accepted}
use Rattle.leaves.specs.Leaves.{spot_at, Valid}
use Rattle.leaves.proofs.Entries.{one_ending}
use Rattle.format.specs.File.{runs_file, file_of}
use Rattle.numbers.specs.Numbers.{highest}
use Rattle.format.specs.Reading.{Grid, grid_at}
use Rattle.format.specs.Laws.{FileOf, OneFile}
use Rattle.format.proofs.ReadBack.{read_back}
use Rattle.format.proofs.Accepting.{accepted_file}
use Rattle.format.proofs.Standing.{grid_stands}
use Rattle.format.proofs.AreRuns.{runs_are, runs_only}
use Rattle.format.proofs.Placed.{grid_placed}

module _ (n L : ℕ) (positive : 0 < n) (low : L ≤ highest) where
  -- a file is that of its list, whatever runs it names
  pub file_is : (bs : List ℕ) (g : Grid) → FileOf n L bs g → bs ≡ file_of g.roots g.leaves
  file_is bs g f = f.file ∙ ap (runs_file g.roots) (runs_only f.runs g.leaves f.are)

  reads : (bs : List ℕ) (g : Grid) → FileOf n L bs g → grid_at n L bs ≡ accepted g
  reads bs g f =
      let v = f.grid in
      ap (grid_at n L) (file_is bs g f) ∙ read_back n L positive low g.roots g.leaves v.some_root v.few_roots v.few v.valid

  pub one_file : OneFile n L
  one_file =
      record {
        runs_are = runs_are;
        runs_only = runs_only;
        reads = λ bs g all. (accepted_file n L positive bs g all, reads bs g);
        stands = λ bs more number at e long there. grid_stands bs more n L number at long there e;
        placed = λ bs number at e. (grid_placed bs n L number at e).0;
        one_list = λ bs g g' f f'. accepted_same g g' (sym (reads bs g f) ∙ reads bs g' f');
        one_file = λ bs bs' g g' f f' same.
            let roots = one_ending n L g.roots g'.roots (spot_at 0 0) g.leaves f.grid.valid (subst⁻¹ (Valid n L g'.roots) same f'.grid.valid) in
            file_is bs g f ∙ ap₂ file_of roots same ∙ sym (file_is bs' g' f');
      }
