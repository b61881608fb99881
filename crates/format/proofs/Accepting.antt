-- An accepted file is the file of its list: each number that was read is written so, each run that was accepted is a run of the list, and its
-- leaves cover. Assumes nothing.
use mathlib.Core.Path.{◌≡◌, refl, ap, ap₂, ◌∙◌, sym, subst}
use mathlib.Core.Bool.{true, not, ◌&&◌, and-eq-true_iff}
use mathlib.Core.List.{List, [], ◌∷◌, ◌++◌}
use Prim.Native.Nat.{ℕ, zero, suc, ◌+◌, ◌-◌, ◌≤◌, ◌<◌}
use native.Mathlib.Omega.{arith}
use lib.Dec.{ltb, eqb}
use lib.ListN.{length, take, drop, length-append, take-append-drop, drop_of_length-le}
use lib.Seq.{slice, drop-append-le, drop-cons, length-take-le}
use borrow.Author.Tests.{ltb-false, eqb-true, not-true, not-false}
use Rattle.paper.specs.Outcome.{accepted}
use Rattle.paper.proofs.Scan.{accepted_of}
use Rattle.leaves.specs.Leaves.{Leaf, spot_at, Covers}
use Rattle.leaves.specs.Calls.{limit}
use Rattle.leaves.proofs.Span.{power_pos}
use Rattle.numbers.specs.Numbers.{bytes_of, byte_at, Found, found, number_at}
use Rattle.format.specs.File.{run, runs_in, runs_of, run_bytes, tag, Differs}
use Rattle.format.specs.Reading.{head, Grid, opens, head_at, leaves_from, FoundRun, Walk, start, keep, after_last, run_at, sound_from, grid_at, headed}
use Rattle.numbers.specs.Laws.{Bytes}
use Rattle.format.specs.Laws.{ValidGrid, FileOf}
use Rattle.numbers.proofs.Coded.{codec}
use Rattle.format.proofs.Runs.{leaves_count}
use Rattle.format.proofs.Fitting.{Proper, after_proper, fits_covers, run_of}
use Rattle.format.proofs.Taking.{then_accepted, mapped_accepted, RunTaken, run_taken, HeadTaken, head_taken}
use Rattle.format.proofs.AreRuns.{runs_are}
use Rattle.format.proofs.Following.{runs_at, run_step, apart}

-- the bytes from i on, parted at j
parted : (l : List ℕ) (i j : ℕ) → i ≤ j → j ≤ length l → drop i l ≡ slice i j l ++ drop j l
parted l i j before within =
    ap (drop i) (sym (take-append-drop j l)) ∙ drop-append-le i (take j l) (drop j l) (omega (arith, length-take-le j l within))

-- a number that was read is written so
pub number_bytes : (bs : List ℕ) → Bytes bs → (i : ℕ) (r : Found) → number_at bs i ≡ accepted r → drop i bs ≡ bytes_of r.value ++ drop r.next bs
number_bytes bs all i r h =
    let w = codec.written_read bs i r.value r.next all h in
    parted bs i r.next (omega (arith, w.2)) w.1 ∙ ap (λ (xs : List ℕ). xs ++ drop r.next bs) w.3

module _ (n L K : ℕ) (positive : 0 < n) (bs : List ℕ) where
  pub record Taken (R : ℕ) (w : Walk) (vs : List Leaf) : Type 0 where
    pub few : w.count + length vs ≤ limit
    pub many : length (runs_of vs) ≡ R
    pub bytes : Bytes bs → drop w.next bs ≡ run_bytes (runs_of vs)
    pub other : Differs w.before (runs_of vs)
    pub covers : Covers n L w.come vs K

  -- one run more before the leaves us
  one_more : (R : ℕ) (w : Walk) (vs : List Leaf) (r : FoundRun) → RunTaken n L K bs w r → Proper n L K positive w.come → (us : List Leaf)
      → leaves_from n L w.come r.level r.count ++ us ≡ vs → Taken R (keep n L w r) us → Taken (suc R) w vs
  unfolding run_bytes
  one_more R w vs r s proper us same later =
      let full : r.count ≡ suc (r.count - 1) = above s.some in
      let runs : runs_of (leaves_from n L w.come r.level r.count ++ us) ≡ run r.level r.count ∷ runs_of us =
      subst (λ (m : ℕ). runs_of (leaves_from n L w.come r.level m ++ us) ≡ run r.level m ∷ runs_of us) (sym full) (run_of n L w.come r.level (r.count - 1) us later.other) in
      let long = length-append (leaves_from n L w.come r.level r.count) us in
      subst (Taken (suc R) w) same
      (record {
        few = omega (arith, later.few, long, leaves_count n L w.come r.level r.count);
        many = ap length runs ∙ ap suc later.many;
        bytes = λ all.
            number_bytes bs all w.next (found r.level s.after_level) s.level
            ∙ ap (λ (xs : List ℕ). bytes_of r.level ++ xs) (number_bytes bs all s.after_level (found r.count r.next) s.count ∙ ap (λ (xs : List ℕ). bytes_of r.count ++ xs) (later.bytes all))
            ∙ sym (ap run_bytes runs);
        other = subst (Differs w.before) (sym runs) s.other;
        covers = fits_covers n L K positive w.come r.level r.count us proper s.shallow s.fit later.covers;
      })
    where
      above : {m : ℕ} → (m ≡ 0 → ⊥) → m ≡ suc (m - 1)
      above {m} none = omega arith

  pub taken : (R : ℕ) (w : Walk) (vs : List Leaf) → w.count ≤ limit → Proper n L K positive w.come → runs_at n L bs K R w ≡ accepted vs → Taken R w vs
  unfolding sound_from runs_in run_bytes Covers
  taken zero w vs upto proper h =
      let last = mapped_accepted (λ (u : Unit {0}). []) (after_last bs K w) vs h in
      let a = accepted_of (not (eqb w.come.root K && eqb w.come.cell 0)) 12 w.next _ last.0 last.1.0 in
      let b = accepted_of (ltb w.next (length bs)) 22 w.next _ last.0 a.1 in
      let full = (and-eq-true_iff (eqb w.come.root K) (eqb w.come.cell 0)).0 (not-false _ a.0) in
      subst (Taken zero w) last.1.1
      (record {
        few = omega arith;
        many = refl;
        bytes = λ all. drop_of_length-le bs (ltb-false w.next (length bs) b.0);
        other = tt;
        covers = ap₂ spot_at (eqb-true w.come.root K full.0) (eqb-true w.come.cell 0 full.1);
      })
  taken (suc R) w vs upto proper h =
      let one = then_accepted (run_at n L bs K w) (run_step n L bs K R w) vs (sym (apart n L bs K R w) ∙ h) in
      let r = one.0 in
      let s = run_taken n L K bs w r one.1.0 in
      let rest = mapped_accepted (λ (us : List Leaf). leaves_from n L w.come r.level r.count ++ us) _ vs one.1.1 in
      one_more R w vs r s proper rest.0 rest.1.1
      (taken R (keep n L w r) rest.0 s.few (after_proper n L K positive w.come r.level r.count proper s.shallow) rest.1.0)

-- ---- the whole file
opened : (bs : List ℕ) → opens bs ≡ true → bs ≡ tag ++ drop 4 bs
opened bs h =
    let a = (and-eq-true_iff (not (ltb (length bs) 4)) _).0 h in
    let b = (and-eq-true_iff (eqb (byte_at bs 0) 80) _).0 a.1 in
    let d = (and-eq-true_iff (eqb (byte_at bs 1) 71) _).0 b.1 in
    let e = (and-eq-true_iff (eqb (byte_at bs 2) 82) (eqb (byte_at bs 3) 49)).0 d.1 in
    let long = ltb-false (length bs) 4 (not-true (ltb (length bs) 4) a.0) in
    drop-cons bs 0 0 (omega arith) ∙ ap (λ (x : ℕ). x ∷ drop 1 bs) (eqb-true (byte_at bs 0) 80 b.0)
    ∙ ap (λ (xs : List ℕ). 80 ∷ xs) (drop-cons bs 1 0 (omega arith) ∙ ap (λ (x : ℕ). x ∷ drop 2 bs) (eqb-true (byte_at bs 1) 71 d.0)
    ∙ ap (λ (xs : List ℕ). 71 ∷ xs) (drop-cons bs 2 0 (omega arith) ∙ ap (λ (x : ℕ). x ∷ drop 3 bs) (eqb-true (byte_at bs 2) 82 e.0)
    ∙ ap (λ (xs : List ℕ). 82 ∷ xs) (drop-cons bs 3 0 (omega arith) ∙ ap (λ (x : ℕ). x ∷ drop 4 bs) (eqb-true (byte_at bs 3) 49 e.1))))

module _ (n L : ℕ) (positive : 0 < n) where
  -- what an accepted file went through
  pub record FileTaken (bs : List ℕ) (g : Grid) : Type 0 where
    pub runs : ℕ
    pub next : ℕ
    pub front : HeadTaken bs (head g.roots runs next)
    pub rest : Taken n L g.roots positive bs runs (start n L next) g.leaves

  pub file_taken : (bs : List ℕ) (g : Grid) → grid_at n L bs ≡ accepted g → FileTaken bs g
  file_taken bs g e =
      let top = then_accepted (head_at bs) (headed n L bs) g e in
      let h = top.0 in
      let grid = mapped_accepted (λ (vs : List Leaf). record { roots = h.roots; leaves = vs }) _ g top.1.1 in
      subst (FileTaken bs) grid.1.1
      (record {
        runs = h.runs;
        next = h.next;
        front = head_taken bs h top.1.0;
        rest = taken n L h.roots positive bs h.runs (start n L h.next) grid.0 (omega arith) (power_pos n L positive) grid.1.0;
      })

  pub valid_grid : (bs : List ℕ) (g : Grid) → grid_at n L bs ≡ accepted g → ValidGrid n L g
  valid_grid bs g e =
      let t = file_taken bs g e in
      record { some_root = t.front.some_root; few_roots = t.front.few_roots; few = omega (arith, t.rest.few); valid = t.rest.covers }

  pub accepted_file : (bs : List ℕ) (g : Grid) → Bytes bs → grid_at n L bs ≡ accepted g → FileOf n L bs g
  accepted_file bs g all e =
      let t = file_taken bs g e in
      let h = t.front in
      record {
        grid = valid_grid bs g e;
        runs = runs_of g.leaves;
        are = runs_are g.leaves;
        file = opened bs h.tagged
            ∙ ap (λ (xs : List ℕ). tag ++ xs) (number_bytes bs all 4 (found g.roots h.after_roots) h.roots
            ∙ ap (λ (xs : List ℕ). bytes_of g.roots ++ xs) (number_bytes bs all h.after_roots (found t.runs t.next) h.runs
            ∙ ap₂ (λ (m : ℕ) (xs : List ℕ). bytes_of m ++ xs) (sym t.rest.many) (t.rest.bytes all)));
      }
