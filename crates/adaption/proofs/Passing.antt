-- The pass on its way: the turns before leaf i have made the first leaves of the result, in order, and the turn at i makes the next. So many
-- are counted, and so many are written. Assumes nothing.
use mathlib.Core.Path.{◌≡◌, refl, ap, ap₂, ◌∙◌, sym, subst, subst⁻¹}
use mathlib.Core.List.{List, [], ◌++◌, append-nil, append_assoc}
use Prim.Native.Nat.{ℕ, ◌+◌, ◌*◌, ◌≤◌, ◌<◌}
use native.Mathlib.Nat.{sub-zero, add-mul, one-mul, le_trans, mul-le-mul_right}
use native.Mathlib.Decide.{ℕ_discrete}
use native.Mathlib.Omega.{arith}
use lib.ListN.{length, length-append}
use borrow.Author.Tests.{eq-eqb, ne_eqb}
use Rattle.paper.proofs.Scan.{rows_length}
use Rattle.leaves.specs.Leaves.{Leaf, leaf, nth, Columns, front}
use Rattle.leaves.proofs.Columns.{columns_same}
use Rattle.columns.specs.Laying.{stretch, stored, Room}
use Rattle.columns.proofs.Stretches as stretches
use Rattle.columns.proofs.Stretches.{front_more}
use Rattle.adaption.specs.Adaption.{joined, gives, adapted}
use Rattle.adaption.specs.Inner.{turn, gain, stride, new_level, new_position, first_of, made}
use Rattle.adaption.proofs.Turns.{from, from_end, Clear, Turn, turn_at}

-- ---- what a turn makes
made_length : (n : ℕ) (vs : List Leaf) (ms : List ℕ) (i : ℕ) → length (made n vs ms i) ≡ gain n (turn n vs ms i)
made_length n vs ms i =
    rows_length (λ t. leaf (nth vs i).root (new_level (turn n vs ms i) (nth vs i).level) (new_position n (turn n vs ms i) (nth vs i).position + t)) 0 (gain n (turn n vs ms i))

-- what the code stores is what the turn makes
made_is : (n : ℕ) (vs : List Leaf) (ms : List ℕ) (i t : ℕ) (v w : Leaf) → t ≡ turn n vs ms i → v ≡ nth vs i → w ≡ first_of n t v
    → stretch w.root w.level w.position (gain n t) ≡ made n vs ms i
made_is n vs ms i t v w is_turn is_leaf is_first =
    ap (λ (u : Leaf). stretch u.root u.level u.position (gain n t)) is_first
    ∙ ap₂ (λ (u : Leaf) (x : ℕ). stretch u.root (new_level x u.level) (new_position n x u.position) (gain n x)) is_leaf is_turn

-- ---- one turn's numbers
by_number : {A : Type 0} (t : ℕ) → (t ≡ 1 → A) → (t ≡ 2 → A) → ((t ≡ 1 → ⊥) → (t ≡ 2 → ⊥) → A) → A
by_number {A} t one two other = first (ℕ_discrete t 1)
  where
    second : (t ≡ 1 → ⊥) → Dec (t ≡ 2) → A
    second not_one (yes is) = two is
    second not_one (no not_two) = other not_one not_two

    first : Dec (t ≡ 1) → A
    first (yes is) = one is
    first (no not_one) = second not_one (ℕ_discrete t 2)

module _ (n : ℕ) (positive : 0 < n) where
  gain_le : (t : ℕ) → gain n t ≤ stride n t * n
  gain_le t =
      by_number t
      (λ one. simp (eq-eqb t 1 one, ne_eqb t 2 (λ two. omega arith)) (omega (arith, one-mul n)))
      (λ two. simp (ne_eqb t 1 (λ one. omega arith), eq-eqb t 2 two) (le_trans positive (subst (λ (k : ℕ). k ≤ n * n) (one-mul n) (mul-le-mul_right n positive))))
      (λ not_one not_two. simp (ne_eqb t 1 not_one, ne_eqb t 2 not_two) (omega (arith, one-mul n)))

  module _ (vs : List Leaf) (ms : List ℕ) where
    -- leaf i is reached, and size leaves are made
    pub record Along (i size : ℕ) : Type 0 where
      pub done : List Leaf
      pub split : adapted n vs ms ≡ done ++ from n positive vs ms i
      pub counted : size ≡ length done
      pub bounded : size ≤ i * n
      pub clear : Clear n positive vs ms i
      pub upto : i ≤ length vs

    pub along_none : Along 0 0
    along_none =
        record {
          done = [];
          split = ap (joined (gives n vs ms) 0) (sym (sub-zero (length vs)));
          counted = refl;
          bounded = omega arith;
          clear = λ j before m. absurd (omega arith);
          upto = omega arith;
        }

    module _ (i size : ℕ) (a : Along i size) where
      pub along_all : length vs ≤ i → adapted n vs ms ≡ a.done
      along_all past = a.split ∙ ap (λ (us : List Leaf). a.done ++ us) (from_end n positive vs ms i past) ∙ append-nil a.done

      pub along_size : length vs ≤ i → size ≡ length (adapted n vs ms)
      along_size past = a.counted ∙ ap length (sym (along_all past))

      module _ (inside : i < length vs) where
        abbrev here : Turn n positive vs ms i
        here = turn_at n positive vs ms i inside a.clear

        longer : length (adapted n vs ms) ≡ size + gain n (turn n vs ms i) + length (from n positive vs ms (i + stride n (turn n vs ms i)))
        longer =
            ap length (a.split ∙ ap (λ (us : List Leaf). a.done ++ us) here.makes)
            ∙ length-append a.done (made n vs ms i ++ from n positive vs ms (i + stride n (turn n vs ms i)))
            ∙ ap (λ (k : ℕ). length a.done + k) (length-append (made n vs ms i) (from n positive vs ms (i + stride n (turn n vs ms i))))
            ∙ omega (arith, a.counted, made_length n vs ms i)

        pub along_room : size + gain n (turn n vs ms i) ≤ length (adapted n vs ms)
        along_room = omega (arith, longer)

        pub along_more : Along (i + stride n (turn n vs ms i)) (size + gain n (turn n vs ms i))
        along_more =
            record {
              done = a.done ++ made n vs ms i;
              split = a.split ∙ ap (λ (us : List Leaf). a.done ++ us) here.makes ∙ sym (append_assoc a.done (made n vs ms i) _);
              counted = ap₂ (λ (x y : ℕ). x + y) a.counted (sym (made_length n vs ms i)) ∙ sym (length-append a.done (made n vs ms i));
              bounded = omega (arith, a.bounded, gain_le (turn n vs ms i), add-mul i (stride n (turn n vs ms i)) n);
              clear = here.onward;
              upto = here.within;
            }

        -- the same by the code's own numbers
        pub along_next : (t k g : ℕ) → t ≡ turn n vs ms i → k ≡ stride n t → g ≡ gain n t → Along (i + k) (size + g)
        along_next t k g is_turn taken gained =
            subst⁻¹ (λ (x : ℕ). Along (i + x) (size + g)) (taken ∙ ap (stride n) is_turn)
            (subst⁻¹ (λ (x : ℕ). Along (i + stride n (turn n vs ms i)) (size + x)) (gained ∙ ap (gain n) is_turn) along_more)

-- ---- the columns on the way
room_less : (m : Columns) (d e : ℕ) → d ≤ e → Room e m → Room d m
room_less m d e less room =
    record { in_roots = omega (arith, less, room.in_roots); in_levels = omega (arith, less, room.in_levels); in_positions = omega (arith, less, room.in_positions) }

room_same : (m m' : Columns) (e : ℕ) → length m'.roots ≡ length m.roots → length m'.levels ≡ length m.levels
    → length m'.positions ≡ length m.positions → Room e m → Room e m'
room_same m m' e r l p room =
    record { in_roots = omega (arith, r, room.in_roots); in_levels = omega (arith, l, room.in_levels); in_positions = omega (arith, p, room.in_positions) }

module _ (n : ℕ) (positive : 0 < n) (vs : List Leaf) (ms : List ℕ) (m : Columns) where
  -- size leaves are made, and stand at the front of m'
  pub record Underway (i size : ℕ) (m' : Columns) : Type 0 where
    pub along : Along n positive vs ms i size
    pub filled : m' ≡ front along.done m

  pub underway_none : Underway 0 0 m
  unfolding along_none
  underway_none = record { along = along_none n positive vs ms; filled = columns_same m (front [] m) refl refl refl }

  module _ (i size : ℕ) (m' : Columns) (u : Underway i size m') where
    pub underway_all : length vs ≤ i → m' ≡ front (adapted n vs ms) m
    underway_all past = u.filled ∙ ap (λ (us : List Leaf). front us m) (sym (along_all n positive vs ms i size u.along past))

    module _ (room : Room (length (adapted n vs ms)) m) where
      made_few : Room (length u.along.done) m
      made_few =
          room_less m (length u.along.done) (length (adapted n vs ms))
          (omega (arith, ap length u.along.split, length-append u.along.done (from n positive vs ms i))) room

      -- the columns stay as long as they were
      pub roots_stay : length m'.roots ≡ length m.roots
      roots_stay = stretches.roots_stay u.along.done m m' u.filled made_few

      pub levels_stay : length m'.levels ≡ length m.levels
      levels_stay = stretches.levels_stay u.along.done m m' u.filled made_few

      pub positions_stay : length m'.positions ≡ length m.positions
      positions_stay = stretches.positions_stay u.along.done m m' u.filled made_few

      module _ (inside : i < length vs) where
        -- there is room for what the turn makes
        pub room_for : (t : ℕ) → t ≡ turn n vs ms i → Room (size + gain n t) m'
        room_for t is_turn =
            room_same m m' (size + gain n t) roots_stay levels_stay positions_stay
            (room_less m (size + gain n t) (length (adapted n vs ms))
            (omega (arith, along_room n positive vs ms i size u.along inside, ap (gain n) is_turn)) room)

        room_after : Room (length u.along.done + length (made n vs ms i)) m
        room_after =
            room_less m (length u.along.done + length (made n vs ms i)) (length (adapted n vs ms))
            (omega (arith, along_room n positive vs ms i size u.along inside, u.along.counted, made_length n vs ms i)) room

        underway_more : (m'' : Columns) → m'' ≡ stored size (made n vs ms i) m'
            → Underway (i + stride n (turn n vs ms i)) (size + gain n (turn n vs ms i)) m''
        unfolding along_more
        underway_more m'' f =
            record {
              along = along_more n positive vs ms i size u.along inside;
              filled = f
                  ∙ ap₂ (λ (k : ℕ) (x : Columns). stored k (made n vs ms i) x) u.along.counted u.filled
                  ∙ front_more u.along.done (made n vs ms i) m room_after;
            }

        -- the same by the code's own numbers: the turn t at the leaf v takes k leaves and makes g, the first of them w
        pub underway_next : (m'' : Columns) (v w : Leaf) (t k g : ℕ) → v ≡ nth vs i → t ≡ turn n vs ms i → w ≡ first_of n t v
            → k ≡ stride n t → g ≡ gain n t → m'' ≡ stored size (stretch w.root w.level w.position (gain n t)) m'
            → Underway (i + k) (size + g) m''
        underway_next m'' v w t k g is_leaf is_turn is_first taken gained f =
            subst⁻¹ (λ (x : ℕ). Underway (i + x) (size + g) m'') (taken ∙ ap (stride n) is_turn)
            (subst⁻¹ (λ (x : ℕ). Underway (i + stride n (turn n vs ms i)) (size + x) m'') (gained ∙ ap (gain n) is_turn)
            (underway_more m'' (f ∙ ap (λ (us : List Leaf). stored size us m') (made_is n vs ms i t v w is_turn is_leaf is_first))))
