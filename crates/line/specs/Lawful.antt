-- A line is one coordinate, so its laws are those of `tree`'s anchors. Assumes nothing.
use mathlib.Core.Path.{◌≡◌, refl, ap, ◌∙◌, sym, subst}
use mathlib.Core.Bool.{false, ◌&&◌, and-eq-true_iff}
use Prim.Native.Nat.{ℕ, suc, ◌+◌, ◌-◌, ◌*◌, ◌≤◌, ◌<◌}
use native.Mathlib.Omega.{arith}
use lib.Dec.{ltb, eqb}
use borrow.Author.Tests.{le-ltb, ltb-false, eq-eqb, eqb-true}
use Rattle.paper.proofs.Tests.{no_fault}
use Rattle.tree.specs.Anchors.{HIGHEST, side, off_grid, rounded, bit_at}
use Rattle.tree.specs.Laws.{Lawful}
use Rattle.tree.specs.Stated.{States, Same}
use Rattle.tree.proofs.Anchor.{grid_zero, zero_grid, child_grid, child_rounded, child_bit, parent_grid, parent_split, bit_lt}
use Rattle.line.specs.declared.Line.{Line}
use Rattle.line.specs.Elements.{line, line_to, fault}

pub line_path : (e f : Line) → e.x ≡ f.x → e.level ≡ f.level → e ≡ f
line_path e f p q = λ i. record { x = p i; level = q i }

module _ (L : ℕ) where
  -- ---- what soundness says
  pub sound_level : (l x : ℕ) → fault L (record { x = x; level = l }) ≡ 0 → l ≤ L
  sound_level l x sound = ltb-false L l (no_fault (ltb L l) 0 _ sound).0

  pub sound_grid : (l x : ℕ) → fault L (record { x = x; level = l }) ≡ 0 → off_grid L l x ≡ false
  sound_grid l x sound = (no_fault (off_grid L l x) 1 0 (no_fault (ltb L l) 0 _ sound).1).0

  pub grid_sound : (l x : ℕ) → l ≤ L → off_grid L l x ≡ false → fault L (record { x = x; level = l }) ≡ 0
  grid_sound l x shallow on = simp (le-ltb L l shallow, on)

  -- ---- one step up, at the level l + 1
  parent_sound_at : (m l x : ℕ) → suc l ≡ m → fault L (record { x = x; level = m }) ≡ 0 → fault L (record { x = rounded L l x; level = l }) ≡ 0
  parent_sound_at m l x deep sound =
      let room : l < L = omega (arith, sound_level m x sound) in
      let on : off_grid L (suc l) x ≡ false = rw deep (sound_grid m x sound) in
      grid_sound l (rounded L l x) (omega arith) (parent_grid L l x room on)

  child_parent_at : (m l x : ℕ) → suc l ≡ m → fault L (record { x = x; level = m }) ≡ 0 → rounded L l x + bit_at L m x * side L (suc l) ≡ x
  child_parent_at m l x deep sound =
      let room : l < L = omega (arith, sound_level m x sound) in
      let on : off_grid L (suc l) x ≡ false = rw deep (sound_grid m x sound) in
      ap (λ (k : ℕ). rounded L l x + bit_at L k x * side L (suc l)) (sym deep) ∙ parent_split L l x room on

  parent_child_at : (l x i : ℕ) → l < L → i < 2 → off_grid L l x ≡ false → rounded L (suc l - 1) (x + i * side L (suc l)) ≡ x
  parent_child_at l x i room small on =
      let same : suc l - 1 ≡ l = omega arith in
      ap (λ (k : ℕ). rounded L k (x + i * side L (suc l))) same ∙ child_rounded L l x i room small on

  pub lawful : Lawful (line_to L)
  unfolding line_to
  lawful =
      record {
        several = omega arith;
        root_sound = grid_sound 0 0 (omega arith) (zero_grid L 0 (omega arith));
        root_level = refl;
        root_only = λ e sound flat. line_path e _ (grid_zero L e.x (subst (λ (k : ℕ). off_grid L k e.x ≡ false) flat (sound_grid e.level e.x sound))) flat;
        shallow = λ e sound. sound_level e.level e.x sound;
        child_sound = λ e i sound room small. grid_sound (suc e.level) _ room (child_grid L e.level e.x i room small (sound_grid e.level e.x sound));
        child_level = λ e i. refl;
        parent_sound = λ e sound deep. parent_sound_at e.level (e.level - 1) e.x (omega arith) sound;
        parent_level = λ e deep. omega arith;
        number_lt = λ e sound deep. bit_lt L e.level e.x;
        parent_child = λ e i sound room small. line_path _ e (parent_child_at e.level e.x i room small (sound_grid e.level e.x sound)) (omega arith);
        number_child = λ e i sound room small. child_bit L e.level e.x i room small (sound_grid e.level e.x sound);
        child_parent = λ e sound deep. line_path _ e (child_parent_at e.level (e.level - 1) e.x (omega arith) sound) (omega arith);
        same_refl = λ e. (and-eq-true_iff _ _).1 (eq-eqb e.x e.x refl, eq-eqb e.level e.level refl);
        same_eq = λ e f h.
            let both = (and-eq-true_iff (eqb e.x f.x) (eqb e.level f.level)).0 h in
            line_path e f (eqb-true e.x f.x both.0) (eqb-true e.level f.level both.1);
      }

-- ---- what the code states of lines
pub lawful_line : Lawful line
lawful_line = lawful HIGHEST

pub states_line : States line 1 2 2 2
unfolding line_to
states_line =
    record { highest = refl; by_bits = refl; in_a_word = omega arith; children_are = refl; faces_are = refl; corners_are = refl }

pub same_line : Same line (λ e f. eqb e.x f.x && eqb e.level f.level)
unfolding line_to
same_line e f = refl
