-- One coordinate, one level down and up again. Counted in sides of its own level a coordinate is any number below 2^l; a step
-- down doubles it and adds the step, so all that follows is arithmetic of 2 * u + i. Assumes nothing.
use Rattle.std.proofs.Common.{◌≡◌, ℕ, suc, ◌+◌, ◌-◌, ◌*◌, ◌/◌, ◌%◌, ◌^◌, ◌<◌, ◌≤◌, false, not, eqb, leb, sym, ap, ◌∙◌, subst, mul-le-mul_right, mod-lt, mul_comm, div-lt_iff_lt-mul, add-sub_of_le, mul-lt-mul_of_pos_right, pow-suc, div-add-mod', zero-mul, mul-div_cancel, add-one, arith, pow_pos, pow_mono, pow-add, eqb-true, leb-false}
use native.Mathlib.Nat.{mul-div-mul_right, mul-mod_left}
use borrow.Author.Tests.{lt-leb, not-false}
use Rattle.paper.proofs.Tests.{or_none}
use Rattle.tree.specs.Anchors.{side, off_grid, rounded, bit_at}

module _ (L : ℕ) where
  pub side_pos : (l : ℕ) → 0 < side L l
  side_pos l = pow_pos (L - l)

  -- half the parent's side
  pub side_suc : (l : ℕ) → l < L → side L l ≡ 2 * side L (suc l)
  side_suc l room =
      let more : L - l ≡ suc (L - suc l) = omega arith in
      ap (λ (k : ℕ). 2 ^ k) more ∙ pow-suc 2 (L - suc l) ∙ mul_comm (2 ^ (L - suc l)) 2

  pub side_le : (l m : ℕ) → l ≤ m → side L m ≤ side L l
  side_le l m deeper = pow_mono {i = L - m} {j = L - l} (omega arith)

  pub side_edge : (l : ℕ) → l ≤ L → 2 ^ l * side L l ≡ 2 ^ L
  side_edge l shallow = sym (pow-add 2 l (L - l)) ∙ ap (λ (k : ℕ). 2 ^ k) (add-sub_of_le shallow)

  -- ---- a coordinate in sides of its level
  pub units_back : (l u : ℕ) → u * side L l / side L l ≡ u
  units_back l u = mul-div_cancel u (side_pos l)

  pub on_grid : (l u : ℕ) → l ≤ L → u < 2 ^ l → off_grid L l (u * side L l) ≡ false
  on_grid l u shallow below =
      let inside : u * side L l < 2 ^ L = rw (sym (side_edge l shallow)) (mul-lt-mul_of_pos_right below (side_pos l)) in
      simp (lt-leb (2 ^ L) (u * side L l) inside, mul-mod_left u (side L l))

  pub grid_units : (l x : ℕ) → off_grid L l x ≡ false → x / side L l * side L l ≡ x
  grid_units l x on =
      let whole : x % side L l ≡ 0 = eqb-true (x % side L l) 0 (not-false (eqb (x % side L l) 0) (or_none (leb (2 ^ L) x) (not (eqb (x % side L l) 0)) on).1) in
      omega (arith, div-add-mod' x (side L l))

  pub grid_lt : (l x : ℕ) → off_grid L l x ≡ false → x < 2 ^ L
  grid_lt l x on = leb-false (2 ^ L) x (or_none (leb (2 ^ L) x) (not (eqb (x % side L l) 0)) on).0

  pub units_lt : (l x : ℕ) → l ≤ L → off_grid L l x ≡ false → x / side L l < 2 ^ l
  units_lt l x shallow on = (div-lt_iff_lt-mul (side_pos l)).1 (rw side_edge (grid_lt l x on))

  -- an element ends within the edge
  pub end_inside : (l x : ℕ) → l ≤ L → off_grid L l x ≡ false → x + side L l ≤ 2 ^ L
  end_inside l x shallow on =
      let whole : suc (x / side L l) * side L l ≤ 2 ^ l * side L l = mul-le-mul_right (side L l) (units_lt l x shallow on) in
      omega (arith, grid_units l x on, side_edge l shallow)

  -- a step to a child, of at most one side of the next level, stays within the edge
  pub half_inside : (l x b h : ℕ) → h ≡ side L (l + 1) → l < L → off_grid L l x ≡ false → b < 2 → (b * h ≤ 2 ^ L) × (x + b * h ≤ 2 ^ L)
  half_inside l x b h sized room on small =
      let part : b * h ≤ 1 * h = mul-le-mul_right h (omega arith) in
      let half : side L l ≡ 2 * h = side_suc l room ∙ ap (λ (k : ℕ). 2 * side L k) (sym (add-one l)) ∙ ap (λ (k : ℕ). 2 * k) (sym sized) in
      let inside = end_inside l x (omega arith) on in
      (omega arith, omega arith)

  -- level 0 has one coordinate, and it is a coordinate of every level
  pub grid_zero : (x : ℕ) → off_grid L 0 x ≡ false → x ≡ 0
  grid_zero x on =
      let none : x / side L 0 < 1 = units_lt 0 x (omega arith) on in
      let first : x / side L 0 ≡ 0 = omega arith in
      sym (grid_units 0 x on) ∙ ap (λ (k : ℕ). k * side L 0) first ∙ zero-mul (side L 0)

  pub zero_grid : (l : ℕ) → l ≤ L → off_grid L l 0 ≡ false
  zero_grid l shallow = subst (λ (k : ℕ). off_grid L l k ≡ false) (zero-mul (side L l)) (on_grid l 0 shallow (pow_pos l))

  -- ---- one step down
  pub units_child : (l u i : ℕ) → l < L → u * side L l + i * side L (suc l) ≡ (2 * u + i) * side L (suc l)
  units_child l u i room = omega (arith, ap (λ (h : ℕ). u * h) (side_suc l room))

  -- ---- one step up
  pub units_rounded : (l u : ℕ) → l < L → rounded L l (u * side L (suc l)) ≡ u / 2 * side L l
  units_rounded l u room =
      ap (λ (h : ℕ). u * side L (suc l) / h * side L l) (side_suc l room)
      ∙ ap (λ (k : ℕ). k * side L l) (mul-div-mul_right u 2 (side_pos (suc l)))

  pub units_bit : (l u : ℕ) → bit_at L l (u * side L l) ≡ u % 2
  units_bit l u = ap (λ (k : ℕ). k % 2) (units_back l u)

  -- ---- the same of a coordinate as it is given
  pub child_grid : (l x i : ℕ) → l < L → i < 2 → off_grid L l x ≡ false → off_grid L (suc l) (x + i * side L (suc l)) ≡ false
  child_grid l x i room small on =
      let u = x / side L l in
      let below : 2 * u + i < 2 ^ suc l = rw pow-suc (omega (arith, units_lt l x (omega arith) on)) in
      subst (λ (k : ℕ). off_grid L (suc l) (k + i * side L (suc l)) ≡ false) (grid_units l x on)
      (rw (units_child l u i room) (on_grid (suc l) (2 * u + i) room below))

  pub child_rounded : (l x i : ℕ) → l < L → i < 2 → off_grid L l x ≡ false → rounded L l (x + i * side L (suc l)) ≡ x
  child_rounded l x i room small on =
      let u = x / side L l in
      let half : (2 * u + i) / 2 ≡ u = omega arith in
      ap (λ (k : ℕ). rounded L l (k + i * side L (suc l))) (sym (grid_units l x on))
      ∙ ap (rounded L l) (units_child l u i room)
      ∙ units_rounded l (2 * u + i) room
      ∙ ap (λ (k : ℕ). k * side L l) half
      ∙ grid_units l x on

  pub child_bit : (l x i : ℕ) → l < L → i < 2 → off_grid L l x ≡ false → bit_at L (suc l) (x + i * side L (suc l)) ≡ i
  child_bit l x i room small on =
      let u = x / side L l in
      ap (λ (k : ℕ). bit_at L (suc l) (k + i * side L (suc l))) (sym (grid_units l x on))
      ∙ ap (bit_at L (suc l)) (units_child l u i room)
      ∙ units_bit (suc l) (2 * u + i)
      ∙ omega arith

  pub parent_grid : (l x : ℕ) → l < L → off_grid L (suc l) x ≡ false → off_grid L l (rounded L l x) ≡ false
  parent_grid l x room on =
      let u = x / side L (suc l) in
      let below : u / 2 < 2 ^ l = let b : u < 2 ^ l * 2 = rw pow-suc at (units_lt (suc l) x room on) in omega arith in
      subst (λ (k : ℕ). off_grid L l (rounded L l k) ≡ false) (grid_units (suc l) x on)
      (rw (units_rounded l u room) (on_grid l (u / 2) (omega arith) below))

  pub parent_split : (l x : ℕ) → l < L → off_grid L (suc l) x ≡ false → rounded L l x + bit_at L (suc l) x * side L (suc l) ≡ x
  parent_split l x room on =
      let u = x / side L (suc l) in
      let whole : 2 * (u / 2) + u % 2 ≡ u = omega arith in
      ap (λ (k : ℕ). rounded L l k + u % 2 * side L (suc l)) (sym (grid_units (suc l) x on))
      ∙ ap (λ (k : ℕ). k + u % 2 * side L (suc l)) (units_rounded l u room)
      ∙ units_child l (u / 2) (u % 2) room
      ∙ ap (λ (k : ℕ). k * side L (suc l)) whole
      ∙ grid_units (suc l) x on

  pub bit_lt : (l x : ℕ) → bit_at L l x < 2
  bit_lt l x = mod-lt (x / side L l) (omega arith)
