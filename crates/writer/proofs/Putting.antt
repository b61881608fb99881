-- The pairs of the runs, stored one after the other: what is stored, and then what is left, is the whole. Assumes nothing.
use mathlib.Core.Path.{◌≡◌, refl, ap, ◌∙◌, sym}
use mathlib.Core.List.{List, [], ◌∷◌, ◌++◌}
use Prim.Native.Nat.{ℕ, suc, ◌+◌, ◌≤◌}
use native.Mathlib.Nat.{add-zero, add-suc, suc-add}
use native.Mathlib.Omega.{arith}
use lib.ListN.{length, set, length-append}
use lib.Seq.{sets, length-sets}
use Rattle.paper.specs.Memory.{written}
use Rattle.paper.proofs.Front.{written_run}
use Rattle.numbers.specs.Numbers.{bytes_of}
use Rattle.leaves.specs.Calls.{limit}
use Rattle.format.specs.File.{Run, run_bytes, tag, runs_in, keys_in}
use Rattle.writer.specs.Inner.{level_file}
use Rattle.writer.proofs.Writing.{pair_bytes, pair_leaves}

-- one stretch after the other
sets_append : (l : List ℕ) (i : ℕ) (xs ys : List ℕ) → sets l i (xs ++ ys) ≡ sets (sets l i xs) (i + length xs) ys
sets_append l i [] ys = ap (λ (k : ℕ). sets l k ys) (sym (add-zero i))
sets_append l i (x ∷ xs) ys =
    sets_append (set l i x) (suc i) xs ys
    ∙ ap (λ (k : ℕ). sets (sets (set l i x) (suc i) xs) k ys) (suc-add i (length xs) ∙ sym (add-suc i (length xs)))

-- the pairs of the runs that are left, stored from at on, make the whole
pub record Stored (all rest : List Run) (start : ℕ) (whole : List ℕ) (at : ℕ) (bs : List ℕ) : Type 0 where
  pub long : length bs ≡ length whole
  pub room : at + length (run_bytes rest) ≤ length bs
  pub onward : sets bs at (run_bytes rest) ≡ sets whole start (run_bytes all)
  pub leaves : length (keys_in rest) ≤ limit

module _ (all : List Run) (start : ℕ) (whole : List ℕ) where
  pub stored_none : length (keys_in all) ≤ limit → start + length (run_bytes all) ≤ length whole → Stored all all start whole start whole
  stored_none few room = record { long = refl; room = room; onward = refl; leaves = few }

  pub stored_done : (rest : List Run) (at : ℕ) (bs : List ℕ) → Stored all rest start whole at bs → rest ≡ [] → bs ≡ sets whole start (run_bytes all)
  unfolding run_bytes
  stored_done rest at bs s none = sym (ap (λ (rs : List Run). sets bs at (run_bytes rs)) none) ∙ s.onward

  module _ (r : Run) (rs rest : List Run) (is : rest ≡ r ∷ rs) (at : ℕ) (bs : List ℕ) (s : Stored all rest start whole at bs) where
    pub room_run : at + length (bytes_of r.key) + length (bytes_of r.count) + length (run_bytes rs) ≤ length bs
    room_run =
        omega (
          arith,
          s.room,
          ap length (pair_bytes r rs rest is),
          length-append (bytes_of r.key) (bytes_of r.count ++ run_bytes rs),
          length-append (bytes_of r.count) (run_bytes rs),
        )

    module _ {bs₁ : List ℕ} (m : ℕ) (one : m ≡ at + length (bytes_of r.key)) (first : bs₁ ≡ sets bs at (bytes_of r.key)) where
      pub room_count : m + length (bytes_of r.count) ≤ length bs₁
      room_count = omega (arith, room_run, one, ap length first, length-sets bs at (bytes_of r.key))

      module _ {bs₂ : List ℕ} (k : ℕ) (two : k ≡ m + length (bytes_of r.count)) (second : bs₂ ≡ sets bs₁ m (bytes_of r.count)) where
        kept : length bs₂ ≡ length bs
        kept = ap length second ∙ length-sets bs₁ m (bytes_of r.count) ∙ ap length first ∙ length-sets bs at (bytes_of r.key)

        pub stored_next : Stored all rs start whole k bs₂
        stored_next =
            record {
              long = kept ∙ s.long;
              room = omega (arith, room_run, kept, one, two);
              onward =
                  rw (second, first, two, one) (
                  sym (sets_append (sets bs at (bytes_of r.key)) (at + length (bytes_of r.key)) (bytes_of r.count) (run_bytes rs))
                  ∙ sym (sets_append bs at (bytes_of r.key) (bytes_of r.count ++ run_bytes rs))
                  ∙ sym (ap (sets bs at) (pair_bytes r rs rest is))
                  ∙ s.onward);
              leaves = (pair_leaves r rs rest is s.leaves).1;
            }

-- ---- the whole file, number by number
module _ (K R : ℕ) (ls bs : List ℕ) (runs : R ≡ length (runs_in ls)) (room : length (level_file K ls) ≤ length bs) where
  abbrev pairs : List ℕ
  pairs = run_bytes (runs_in ls)

  whole : level_file K ls ≡ tag ++ (bytes_of K ++ (bytes_of R ++ pairs))
  whole = ap (λ (k : ℕ). tag ++ (bytes_of K ++ (bytes_of k ++ pairs))) (sym runs)

  pub file_room : 4 + length (bytes_of K) + length (bytes_of R) + length pairs ≤ length bs
  file_room =
      omega (
        arith,
        ap length whole,
        length-append tag (bytes_of K ++ (bytes_of R ++ pairs)),
        length-append (bytes_of K) (bytes_of R ++ pairs),
        length-append (bytes_of R) pairs,
      )

  tag_put : sets bs 0 tag ≡ written tag bs
  tag_put = written_run [] tag bs (omega (arith, file_room))

  module _ {bs₁ bs₂ bs₃ : List ℕ} (m u : ℕ) (one : m ≡ 4 + length (bytes_of K)) (two : u ≡ m + length (bytes_of R)) where
    pub file_put : bs₁ ≡ sets (written tag bs) 4 (bytes_of K) → bs₂ ≡ sets bs₁ m (bytes_of R) → bs₃ ≡ sets bs₂ u pairs → bs₃ ≡ written (level_file K ls) bs
    file_put first second third =
        third
        ∙ rw (second, first, two, one, ← tag_put) (
        sym (sets_append (sets (sets bs 0 tag) 4 (bytes_of K)) (4 + length (bytes_of K)) (bytes_of R) pairs)
        ∙ sym (sets_append (sets bs 0 tag) 4 (bytes_of K) (bytes_of R ++ pairs))
        ∙ sym (ap (sets bs 0) whole)
        ∙ written_run [] (level_file K ls) bs (omega arith))
