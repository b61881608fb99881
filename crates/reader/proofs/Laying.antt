-- The leaves of a run are laid root by root: each stretch is the rest of a root, or of the run. Assumes nothing.
use mathlib.Core.Path.{◌≡◌, refl, ap, ap₂, ◌∙◌, sym, subst⁻¹}
use mathlib.Core.List.{List, ◌∷◌}
use Prim.Native.Nat.{ℕ, zero, suc, ◌+◌, ◌-◌, ◌*◌, ◌/◌, ◌%◌, ◌^◌, ◌≤◌, ◌<◌}
use native.Mathlib.Nat.{add-zero, add-suc, div-add-mod', div-eq_of_lt, mod-eq_of_lt, mod-lt}
use native.Mathlib.Omega.{arith}
use lib.ListN.{length}
use lib.Pow.{pow_pos, pow_mono}
use Rattle.tree.proofs.Digits.{power_bits}
use Rattle.paper.specs.Outcome.{rows}
use Rattle.paper.proofs.Scan.{rows_length}
use Rattle.paper.proofs.Front.{rows_two}
use Rattle.leaves.specs.Leaves.{Leaf, leaf, Columns, Spot, spot_at, span}
use Rattle.leaves.proofs.Span.{power_pos, more_mul, quotient, rest}
use Rattle.leaves.proofs.Shift.{bits_le, shifted}
use Rattle.columns.specs.Laying.{stretch, stored, Room}
use Rattle.columns.specs.Laying as laying
use Rattle.columns.proofs.Stretches.{laid_all, stored_after, roots_long, levels_long, positions_long}
use Rattle.format.specs.Reading.{leaves_from, end_from}
use Rattle.format.proofs.Units.{quotient_order}
use Rattle.format.proofs.Spots.{level_is, units_below, after_is, leaves_are}
use Rattle.reader.specs.Inner.{Running, RunLaid}

rows_shift : {A : Type 0} (f g : ℕ → A) (u j m : ℕ) → ((t : ℕ) → t < j + m → f (u + t) ≡ g t) → rows f (u + j) m ≡ rows g j m
rows_shift f g u j zero same = refl
rows_shift f g u j (suc m) same =
    ap₂ (λ (x : _) (xs : List _). x ∷ xs) (same j (omega arith))
    (ap (λ (i : ℕ). rows f i m) (sym (add-suc u j)) ∙ rows_shift f g u (suc j) m (λ t low. same t (omega arith)))

-- ---- leaves of a level, counted from the start of root r, where E of them fill a root
module _ (r l E : ℕ) where
  abbrev pub entry : ℕ → Leaf
  entry t = leaf (r + t / E) l (t % E)

  stretch_is : (u m : ℕ) → u % E + m ≤ E → rows entry u m ≡ stretch (r + u / E) l (u % E) m
  stretch_is u m room =
      ap (λ (i : ℕ). rows entry i m) (sym (add-zero u))
      ∙ rows_shift entry (λ t. leaf (r + u / E) l (u % E + t)) u 0 m
      (λ t low.
      let within : u % E + t < E = omega arith in
      let parts : u + t ≡ u / E * E + (u % E + t) = omega (arith, div-add-mod' u E) in
      ap₂ (λ (q p : ℕ). leaf (r + q) l p) (quotient E (u / E) (u % E + t) (u + t) parts within) (rest E (u / E) (u % E + t) (u + t) parts within))

  -- a stretch that ends within a root, and one that fills it
  module _ (u m : ℕ) where
    within_root : u % E + m < E → ((u + m) / E ≡ u / E) × ((u + m) % E ≡ u % E + m)
    within_root low =
        let parts : u + m ≡ u / E * E + (u % E + m) = omega (arith, div-add-mod' u E) in
        (quotient E (u / E) (u % E + m) (u + m) parts low, rest E (u / E) (u % E + m) (u + m) parts low)

    fills_root : 0 < E → u % E + m ≡ E → ((u + m) / E ≡ u / E + 1) × ((u + m) % E ≡ 0)
    fills_root some full =
        let parts : u + m ≡ (u / E + 1) * E + 0 = omega (arith, div-add-mod' u E, more_mul (u / E) E) in
        (quotient E (u / E + 1) 0 (u + m) parts some, rest E (u / E + 1) 0 (u + m) parts some)

-- ---- k leaves of level l, from the leaf `first` of root r on, stored from entry i of the columns m on
module _ (l E k r first i : ℕ) (m : Columns) where
  -- d leaves are stored, and the next is at position p of root rt
  pub record Laid (d rt p : ℕ) (m' : Columns) : Type 0 where
    pub upto : d ≤ k
    pub root : rt ≡ r + (first + d) / E
    pub position : p ≡ (first + d) % E
    pub memory : m' ≡ stored i (rows (entry r l E) first d) m

  pub laid_start : first < E → Laid 0 r first m
  laid_start below =
      record {
        upto = omega arith;
        root = let none = ap (λ (x : ℕ). x / E) (add-zero first) ∙ div-eq_of_lt below in omega arith;
        position = sym (ap (λ (x : ℕ). x % E) (add-zero first) ∙ mod-eq_of_lt below);
        memory = refl;
      }

  module _ (d rt p : ℕ) (m' : Columns) (g : Laid d rt p m') (some : 0 < E) where
    pub position_below : p < E
    position_below = subst⁻¹ (λ (x : ℕ). x < E) g.position (mod-lt (first + d) some)

    pub root_low : r + (first + k) / E ≤ 65535 → rt ≤ 65535
    root_low low = omega (arith, g.root, quotient_order E (first + d) (first + k) some (omega (arith, g.upto)))

    pub roots_kept : length m'.roots ≡ length m.roots
    roots_kept = roots_long i (rows (entry r l E) first d) m m' g.memory

    pub levels_kept : length m'.levels ≡ length m.levels
    levels_kept = levels_long i (rows (entry r l E) first d) m m' g.memory

    pub positions_kept : length m'.positions ≡ length m.positions
    positions_kept = positions_long i (rows (entry r l E) first d) m m' g.memory

    -- one stretch more
    module _ (small : E ≤ 2 ^ 63) (room : Room (i + k) m) (s count : ℕ) (m'' : Columns) (left : s ≤ E - p) (more : d + s ≤ k)
        (laid : laying.Laid (i + d) s rt l p count m' m'') where
      reaches : p + s ≤ E
      reaches = omega (arith, left, position_below)

      stored_more : m'' ≡ stored i (rows (entry r l E) first (d + s)) m
      stored_more =
          let done = rows (entry r l E) first d in
          let new = rows (entry r l E) (first + d) s in
          let here : Room (i + d + s) m' =
          record {
            in_roots = omega (arith, room.in_roots, roots_kept, more);
            in_levels = omega (arith, room.in_levels, levels_kept, more);
            in_positions = omega (arith, room.in_positions, positions_kept, more);
          } in
          let fits : (first + d) % E + s ≤ E = omega (arith, reaches, g.position) in
          let same : stretch rt l p s ≡ new =
          ap₂ (λ (x y : ℕ). stretch x l y s) g.root g.position ∙ sym (stretch_is r l E (first + d) s fits) in
          laid_all (i + d) s p m' rt l count m'' (omega (arith, reaches)) here laid
          ∙ ap (λ (vs : List Leaf). stored (i + d) vs m') same
          ∙ ap (stored (i + d) new) g.memory
          ∙ ap (λ (x : ℕ). stored (i + x) new (stored i done m)) (sym (rows_length (entry r l E) first d))
          ∙ stored_after i done new m
          ∙ ap (λ (vs : List Leaf). stored i vs m) (sym (rows_two (entry r l E) first d s))

      sum : first + (d + s) ≡ first + d + s
      sum = omega arith

      pub laid_full : p + s ≡ E → Laid (d + s) (rt + 1) 0 m''
      laid_full full =
          let here = fills_root r l E (first + d) s some (omega (arith, g.position, full)) in
          record {
            upto = more;
            root = let one = ap (λ (x : ℕ). x / E) sum ∙ here.0 in omega (arith, g.root, one);
            position = sym (ap (λ (x : ℕ). x % E) sum ∙ here.1);
            memory = stored_more;
          }

      pub laid_within : (p + s ≡ E → ⊥) → Laid (d + s) rt (p + s) m''
      laid_within short =
          let low : p + s < E = under reaches short in
          let here = within_root r l E (first + d) s (omega (arith, g.position, low)) in
          record {
            upto = more;
            root = let one = ap (λ (x : ℕ). x / E) sum ∙ here.0 in omega (arith, g.root, one);
            position = let one = ap (λ (x : ℕ). x % E) sum ∙ here.1 in omega (arith, g.position, one);
            memory = stored_more;
          }
        where
          under : {x y : ℕ} → x ≤ y → (x ≡ y → ⊥) → x < y
          under {x} {y} upto other = omega arith

-- ---- a run of a file, in the code's powers
module _ (l k : ℕ) (c : Spot) (f : Running l k c) where
  abbrev b : ℕ
  b = 3

  abbrev L : ℕ
  L = 21

  abbrev n : ℕ
  n = 2 ^ b

  narrow : b * L ≤ 63
  narrow = omega arith

  abbrev each : ℕ
  each = 1 * 2 ^ (b * l) % 2 ^ 64

  abbrev first : ℕ
  first = c.cell / 2 ^ (b * (L - l))

  each_is : each ≡ n ^ l
  each_is = level_is b L l narrow f.shallow

  first_is : first ≡ c.cell / span n L l
  first_is = ap (λ (s : ℕ). c.cell / s) (sym (power_bits b (L - l)))

  end_is : end_from n L c l k ≡ spot_at (c.root + (first + k) / each) ((first + k) % each * span n L l)
  end_is =
      after_is n L l 0 (pow_pos b) f.shallow c f.proper f.whole k
      ∙ ap₂ (λ (x E : ℕ). spot_at (c.root + (x + k) / E) ((x + k) % E * span n L l)) (sym first_is) (sym each_is)

  pub some_each : 0 < each
  some_each = subst⁻¹ (λ (x : ℕ). 0 < x) each_is (power_pos n l (pow_pos b))

  pub each_small : each ≤ 2 ^ 63
  each_small = subst⁻¹ (λ (x : ℕ). x ≤ 2 ^ 63) (each_is ∙ power_bits b l) (pow_mono (bits_le b L narrow l f.shallow))

  pub first_below : first < each
  first_below = omega (arith, units_below n L l 0 (pow_pos b) f.shallow c f.proper f.whole, first_is, each_is)

  pub end_low : c.root + (first + k) / each ≤ 65535
  end_low = omega (arith, f.low, ap (λ (s : Spot). s.root) end_is)

  pub laid_run : (i d rt p : ℕ) (m m' : Columns) → Laid l each k c.root first i m d rt p m' → k ≤ d
      → RunLaid l k c i (spot_at rt (p * 2 ^ (b * (L - l)) % 2 ^ 64)) m m'
  laid_run i d rt p m m' g past =
      let all : d ≡ k = omega (arith, g.upto) in
      let low = position_below l each k c.root first i m d rt p m' g some_each in
      let cell : p * 2 ^ (b * (L - l)) % 2 ^ 64 ≡ (first + k) % each * span n L l =
      shifted b L narrow p l f.shallow (omega (arith, low, each_is))
      ∙ ap (λ (x : ℕ). x * span n L l) (g.position ∙ ap (λ (x : ℕ). (first + x) % each) all) in
      let same : rows (entry c.root l each) first k ≡ leaves_from n L c l k =
      ap₂ (λ (x E : ℕ). rows (entry c.root l E) x k) first_is each_is
      ∙ sym (leaves_are n L l 0 (pow_pos b) f.shallow c f.proper f.whole k) in
      record {
        ends = ap₂ spot_at (g.root ∙ ap (λ (x : ℕ). c.root + (first + x) / each) all) cell ∙ sym end_is;
        memory =
            g.memory
            ∙ ap (λ (x : ℕ). stored i (rows (entry c.root l each) first x) m) all
            ∙ ap (λ (vs : List Leaf). stored i vs m) same;
      }
