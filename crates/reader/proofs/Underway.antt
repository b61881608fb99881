-- The second pass: the leaves that are stored and those of the runs that are left make the whole list. Assumes nothing.
use mathlib.Core.Path.{◌≡◌, refl, ap, ◌∙◌, sym, subst, subst⁻¹}
use mathlib.Core.List.{List, [], ◌++◌, append_assoc, append-nil}
use Prim.Native.Nat.{ℕ, suc, ◌+◌, ◌-◌, ◌%◌, ◌^◌, ◌≤◌, ◌<◌}
use native.Mathlib.Nat.{zero-add}
use native.Mathlib.Omega.{arith}
use lib.ListN.{length, length-append}
use Rattle.paper.specs.Outcome.{accepted}
use Rattle.leaves.specs.Leaves.{Leaf, Columns, front, Spot, spot_at, span}
use Rattle.leaves.specs.Calls.{limit}
use Rattle.leaves.proofs.Span.{power_pos}
use Rattle.columns.specs.Laying.{stored, Room}
use Rattle.columns.proofs.Stretches.{roots_stay, levels_stay, positions_stay, front_more}
use Rattle.paper.specs.declared.Refusal.{Refusal}
use Rattle.std.specs.declared.result.Result.{Result}
use Rattle.std.specs.declared.result.Result.TheVariants.{Ok, Err}
use Rattle.std.specs.Result.{IsOk}
use Rattle.paper.specs.Refusals.{number_of, place_of}
use Rattle.paper.proofs.Scan.{never, accepted_same}
use Rattle.numbers.specs.declared.Found as code
use Rattle.numbers.specs.Answers.{found_of}
use Rattle.numbers.specs.Numbers.{Found, found, number_at}
use Rattle.format.specs.Reading.{leaves_from, end_from, FoundRun, Walk, walk_at, Sounded, start, keep, run_at, sound_from}
use Rattle.format.proofs.Runs.{leaves_count}
use Rattle.format.proofs.Fitting.{after_proper}
use Rattle.format.proofs.Units.{upto_root}
use Rattle.format.proofs.Spots.{fits_whole, fits_is}
use Rattle.format.proofs.Taking.{run_taken}
use Rattle.format.proofs.Following.{sound_more, sound_ends, first_kept}

-- a number that is there is found
found_ok : (o : Result code.Found Refusal) (f : Found) → found_of o ≡ accepted f → IsOk o
found_ok (Ok x) f e = refl
found_ok (Err r) f e = never f (number_of r) (place_of r) e

module _ (n L K : ℕ) (positive : 0 < n) (bs : List ℕ) (vs : List Leaf) (m : Columns) where
  abbrev leftover : ℕ → Walk → List Leaf
  leftover R w = (sound_from n L bs K R w).leaves

  -- R runs are left at offset i, where the list has come to c with N leaves stored
  pub record Underway (R i : ℕ) (c : Spot) (N : ℕ) (m' : Columns) : Type 0 where
    pub kept : ℕ
    pub before : ℕ
    pub done : List Leaf
    pub split : vs ≡ done ++ leftover R (walk_at kept N before c i)
    pub counted : N ≡ length done
    pub left : (sound_from n L bs K R (walk_at kept N before c i)).walk.runs ≡ kept + R
    pub inside : c.root ≤ K
    pub proper : c.cell < n ^ L
    pub filled : m' ≡ front done m

  pub underway_start : (R i : ℕ) → vs ≡ leftover R (start n L i) → (sound_from n L bs K R (start n L i)).walk.runs ≡ R → Underway R i (spot_at 0 0) 0 m
  underway_start R i all every =
      record {
        kept = 0;
        before = suc L;
        done = [];
        split = all;
        counted = refl;
        left = every ∙ sym (zero-add R);
        inside = omega arith;
        proper = power_pos n L positive;
        filled = refl;
      }

  -- what one turn finds: a run of ct leaves of level lv, and what follows it at nx
  pub record Turn (R i : ℕ) (c : Spot) (N : ℕ) (m' : Columns) (lv ct nx : ℕ) : Type 0 where
    pub shallow : lv ≤ L
    pub few : N + ct ≤ limit
    pub whole : c.cell % span n L lv ≡ 0
    pub root_after : (end_from n L c lv ct).root ≤ K
    pub room : N + ct ≤ length vs
    pub more : (m'' : Columns) → Room (length vs) m → (d : Spot) → d ≡ end_from n L c lv ct → m'' ≡ stored N (leaves_from n L c lv ct) m'
        → Underway (R - 1) nx d (N + ct) m''

  module _ (R i : ℕ) (c : Spot) (N : ℕ) (m' : Columns) (u : Underway R i c N m') where
    abbrev here : Walk
    here = walk_at u.kept N u.before c i

    done_few : length u.done ≤ length vs
    done_few = omega (arith, ap length u.split, length-append u.done (leftover R here))

    enough : Room (length vs) m → Room (length u.done) m
    enough room =
        record {
          in_roots = omega (arith, done_few, room.in_roots);
          in_levels = omega (arith, done_few, room.in_levels);
          in_positions = omega (arith, done_few, room.in_positions);
        }

    module _ (room : Room (length vs) m) where
      pub roots_kept : length m'.roots ≡ length m.roots
      roots_kept = roots_stay u.done m m' u.filled (enough room)

      pub levels_kept : length m'.levels ≡ length m.levels
      levels_kept = levels_stay u.done m m' u.filled (enough room)

      pub positions_kept : length m'.positions ≡ length m.positions
      positions_kept = positions_stay u.done m m' u.filled (enough room)

    turn_of : 0 < R → (r : FoundRun) → run_at n L bs K here ≡ accepted r → Turn R i c N m' r.level r.count r.next
    turn_of some r is =
        let t = run_taken n L K bs here r is in
        let run = leaves_from n L c r.level r.count in
        let many = leaves_count n L c r.level r.count in
        let divides = fits_whole n L r.level K positive t.shallow c r.count t.some t.fit in
        let one : R ≡ suc (R - 1) = omega arith in
        let first = ap (λ (k : ℕ). sound_from n L bs K k here) one ∙ sound_more n L bs K (R - 1) here r is in
        let later = leftover (R - 1) (keep n L here r) in
        let all : vs ≡ (u.done ++ run) ++ later =
        u.split ∙ ap (λ (s : Sounded). u.done ++ s.leaves) first ∙ sym (append_assoc u.done run later) in
        let long : length (u.done ++ run) ≡ length u.done + length run = length-append u.done run in
        let size : length vs ≡ length u.done + r.count + length later = omega (arith, ap length all, length-append (u.done ++ run) later, long, many) in
        let upto = upto_root K (end_from n L c r.level r.count) (sym (fits_is n L r.level K positive t.shallow c u.proper divides r.count t.some) ∙ t.fit) in
        record {
          shallow = t.shallow;
          few = t.few;
          whole = divides;
          root_after = upto;
          room = omega (arith, u.counted, size);
          more = λ m'' room d ends laid.
              subst⁻¹ (λ (e : Spot). Underway (R - 1) r.next e (N + r.count) m'') ends
              (record {
                kept = u.kept + 1;
                before = r.level;
                done = u.done ++ run;
                split = all;
                counted = omega (arith, u.counted, long, many);
                left = omega (arith, u.left, ap (λ (s : Sounded). s.walk.runs) first);
                inside = upto;
                proper = after_proper n L K positive c r.level r.count u.proper t.shallow;
                filled =
                    laid
                    ∙ ap (stored N run) u.filled
                    ∙ ap (λ (k : ℕ). stored k run (front u.done m)) u.counted
                    ∙ front_more u.done run m (record {
                      in_roots = omega (arith, size, many, room.in_roots);
                      in_levels = omega (arith, size, many, room.in_levels);
                      in_positions = omega (arith, size, many, room.in_positions);
                    });
              });
        }

    -- the run that stands here
    pub next_run : 0 < R → (r : FoundRun) × (run_at n L bs K here ≡ accepted r)
    next_run some =
        let one : R ≡ suc (R - 1) = omega arith in
        first_kept n L bs K (R - 1) here (subst (λ (k : ℕ). (sound_from n L bs K k here).walk.runs ≡ u.kept + k) one u.left)

    -- its level, and its count
    record Pair : Type 0 where
      level : Found
      count : Found
      level_at : number_at bs i ≡ accepted level
      count_at : number_at bs level.next ≡ accepted count
      shallow : level.value ≤ L

    pair : 0 < R → Pair
    pair some =
        let r = next_run some in
        let t = run_taken n L K bs here r.0 r.1 in
        record { level = found r.0.level t.after_level; count = found r.0.count r.0.next; level_at = t.level; count_at = t.count; shallow = t.shallow }

    pub level_there : 0 < R → (o : Result code.Found Refusal) → found_of o ≡ number_at bs i → IsOk o
    level_there some o e = found_ok o (pair some).level (e ∙ (pair some).level_at)

    module _ (some : 0 < R) (o : Result code.Found Refusal) (level : code.Found) (told : found_of o ≡ number_at bs i) (is : o ≡ Ok level) where
      abbrev l : Found
      l = found level.value level.next

      at : accepted l ≡ number_at bs i
      at = sym (ap found_of is) ∙ told

      same_level : l ≡ (pair some).level
      same_level = accepted_same l (pair some).level (at ∙ (pair some).level_at)

      pub level_low : level.value ≤ L
      level_low = omega (arith, (pair some).shallow, ap (λ (f : Found). f.value) same_level)

      module _ (o' : Result code.Found Refusal) (told' : found_of o' ≡ number_at bs level.next) where
        pub count_there : IsOk o'
        count_there = found_ok o' (pair some).count (told' ∙ ap (λ (f : Found). number_at bs f.next) same_level ∙ (pair some).count_at)

        pub turn_is : (count : code.Found) → o' ≡ Ok count → Turn R i c N m' level.value count.value count.next
        turn_is count is' =
            let k = found count.value count.next in
            let r = next_run some in
            let t = run_taken n L K bs here r.0 r.1 in
            let one : l ≡ found r.0.level t.after_level = accepted_same l (found r.0.level t.after_level) (at ∙ t.level) in
            let two : k ≡ found r.0.count r.0.next =
            accepted_same k (found r.0.count r.0.next) (sym (ap found_of is') ∙ told' ∙ ap (λ (f : Found). number_at bs f.next) one ∙ t.count) in
            subst⁻¹ (λ (f : Found). Turn R i c N m' f.value k.value k.next) one
            (subst⁻¹ (λ (f : Found). Turn R i c N m' r.0.level f.value f.next) two (turn_of some r.0 r.1))

    pub underway_all : R ≤ 0 → m' ≡ front vs m
    underway_all none =
        let zero_left : R ≡ 0 = omega arith in
        let last = ap (λ (k : ℕ). sound_from n L bs K k here) zero_left ∙ sound_ends n L bs K here in
        let all : vs ≡ u.done = u.split ∙ ap (λ (s : Sounded). u.done ++ s.leaves) last ∙ append-nil u.done in
        u.filled ∙ ap (λ (us : List Leaf). front us m) (sym all)
