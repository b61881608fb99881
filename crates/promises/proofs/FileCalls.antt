-- The refusals of the calls on grid files: each test has its number; where the places lie, `format` shows. Assumes nothing.
use mathlib.Core.Path.{◌≡◌}
use mathlib.Core.Bool.{true, not, ◌&&◌, ◌||◌}
use mathlib.Core.List.{List, [], ◌∷◌, Memᴰ}
use Prim.Native.Nat.{ℕ, zero, suc, ◌+◌, ◌*◌, ◌≤◌}
use native.Mathlib.Omega.{arith}
use lib.Dec.{leb, ltb, eqb}
use lib.ListN.{length}
use Rattle.paper.specs.Outcome.{Outcome, refused}
use Rattle.leaves.specs.Leaves.{Columns, leaves, room, equal_columns}
use Rattle.leaves.specs.Calls.{limit, out_of_range}
use Rattle.leaves.proofs.Columns.{leaves_length}
use Rattle.numbers.specs.Numbers.{byte_at, number_at}
use Rattle.format.specs.File.{file_of}
use Rattle.format.specs.Reading.{opens, Head, after_runs, after_roots, head_at, Walk, start, keep, fits, FoundRun, after_count, after_level, run_at, Sounded, go_on, sound_from, sound, headed, grid_at}
use Rattle.format.proofs.Cases.{Either, value, fault, choose, next, under, of_fault}
use Rattle.format.proofs.Faults.{Within, number_placed}
use Rattle.format.proofs.Placed.{grid_placed, head_placed, runs_placed, file_small}
use Rattle.format.proofs.Accepting.{valid_grid}
use Rattle.writer.specs.Calls.{write}
use Rattle.reader.specs.Calls.{read}
use Rattle.format.proofs.Cases as cases
use Rattle.promises.specs.Refusals.{Refuses}
use Rattle.promises.specs.Demand1.{filed}
use Rattle.promises.proofs.Refusals.{when, then_so, room_so, at0, at1, at2, at3, at4, after}
use Rattle.promises.proofs.ListCalls.{Listed, listed_so}

abbrev Any : {A : Type 0} → A → Type 0
Any a = Unit {0}

-- its refusal, if it is one, has a number of the list
abbrev Numbered : {A : Type 0} → List ℕ → Outcome A → Type 0
Numbered ns o = Either Any (λ number place. Memᴰ number ns) o

refuses : {A : Type 0} {ns : List ℕ} {most : ℕ} {o : Outcome A} → Numbered ns o → ((number place : ℕ) → o ≡ refused number place → place ≤ most)
    → Refuses ns most o
refuses known low = record { number = λ number place e. of_fault number place known e; place = low }

module _ {ns : List ℕ} where
  number_known : Memᴰ 19 ns → Memᴰ 20 ns → (bs : List ℕ) (i : ℕ) → Numbered ns (number_at bs i)
  number_known nineteen twenty bs i =
      cases.when (leb (length bs) i) 19 i _ nineteen (λ first.
      choose (ltb (byte_at bs i) 128) _ _ (λ last. value tt) (λ more.
      cases.when (leb (length bs) (i + 1)) 19 i _ nineteen (λ second.
      cases.when (eqb (byte_at bs (i + 1)) 0) 20 i _ twenty (λ some.
      choose (ltb (byte_at bs (i + 1)) 128) _ _ (λ last. value tt) (λ still.
      cases.when (leb (length bs) (i + 2)) 19 i _ nineteen (λ third.
      cases.when (eqb (byte_at bs (i + 2)) 0) 20 i _ twenty (λ high.
      cases.when (leb 128 (byte_at bs (i + 2))) 20 i _ twenty (λ last. value tt))))))))

-- ---- the front
abbrev fronts : List ℕ → List ℕ
fronts ns = 18 ∷ 19 ∷ 20 ∷ 17 ∷ 21 ∷ ns

front_known : {ns : List ℕ} (bs : List ℕ) → Numbered (fronts ns) (head_at bs)
front_known bs =
    cases.when (not (opens bs)) 18 0 _ at0 (λ tagged.
    next (number_at bs 4) (after_roots bs) (number_known at1 at2 bs 4) (λ k any.
    cases.when (out_of_range k.value) 17 4 _ at3 (λ range.
    next (number_at bs k.next) (after_runs k) (number_known at1 at2 bs k.next) (λ r any.
    cases.when (eqb r.value 0 || ltb limit r.value) 21 k.next _ at4 (λ few. value tt)))))

-- ---- the runs
pub record RunNumbers (ns : List ℕ) : Type 0 where
  pub ended : Memᴰ 19 ns
  pub long : Memᴰ 20 ns
  pub deep : Memᴰ 1 ns
  pub again : Memᴰ 21 ns
  pub many : Memᴰ 15 ns
  pub gap : Memᴰ 12 ns
  pub more : Memᴰ 22 ns

module _ (n L : ℕ) (bs : List ℕ) (K : ℕ) {ns : List ℕ} (in_list : RunNumbers ns) where
  run_known : (w : Walk) → Numbered ns (run_at n L bs K w)
  run_known w =
      next (number_at bs w.next) (after_level n L bs K w) (number_known in_list.ended in_list.long bs w.next) (λ l any.
      cases.when (ltb L l.value) 1 w.next _ in_list.deep (λ shallow.
      cases.when (eqb w.before l.value) 21 w.next _ in_list.again (λ other.
      next (number_at bs l.next) (after_count n L K w l) (number_known in_list.ended in_list.long bs l.next) (λ k any.
      cases.when (eqb k.value 0) 21 l.next _ in_list.again (λ some.
      cases.when (ltb limit (w.count + k.value)) 15 l.next _ in_list.many (λ few.
      cases.when (not (fits n L K w.come l.value k.value)) 12 w.next _ in_list.gap (λ fit. value tt)))))))

  -- the fault is the run's, or that of the runs after it
  onward : (w : Walk) (o : Outcome FoundRun) (f : FoundRun → Sounded) → Numbered ns o → ((r : FoundRun) → Numbered ns (f r).fault)
      → Numbered ns (go_on w o f).fault
  onward w _ f (value any) later = later _
  onward w _ f (fault known) later = fault known

  runs_known : (R : ℕ) (w : Walk) → Numbered ns (sound_from n L bs K R w).fault
  unfolding sound_from
  runs_known zero w =
      cases.when (not (eqb w.come.root K && eqb w.come.cell 0)) 12 w.next _ in_list.gap (λ full.
      cases.when (ltb w.next (length bs)) 22 w.next _ in_list.more (λ none. value tt))
  runs_known (suc R) w = onward w (run_at n L bs K w) _ (run_known w) (λ r. runs_known R (keep n L w r))

pub front_so : (bs : List ℕ) → Refuses (fronts []) 6 (head_at bs)
front_so bs = refuses (front_known bs) (head_placed bs)

pub number_so : (bs : List ℕ) (i : ℕ) → Refuses (19 ∷ 20 ∷ []) i (number_at bs i)
number_so bs i =
    let here : Within bs i i i = record { near = omega arith; inside = λ there. there } in
    refuses (number_known at0 at1 bs i) (λ number place e. (of_fault number place (number_placed bs i i i here) e).place.near)

pub sound_so : (bs : List ℕ) (h : Head) → Refuses (19 ∷ 20 ∷ 1 ∷ 21 ∷ 15 ∷ 12 ∷ 22 ∷ []) (h.next + 6 * h.runs) (sound 8 21 bs h).fault
sound_so bs h =
    refuses (runs_known 8 21 bs h.roots in_list h.runs (start 8 21 h.next)) (runs_placed bs 8 21 h.roots h.runs (start 8 21 h.next))
  where
    in_list : RunNumbers (19 ∷ 20 ∷ 1 ∷ 21 ∷ 15 ∷ 12 ∷ 22 ∷ [])
    in_list = record { ended = at0; long = at1; deep = at2; again = at3; many = at4; gap = after at4; more = after (after at4) }

-- ---- the calls
grid_known : (bs : List ℕ) → Numbered (11 ∷ fronts (1 ∷ 15 ∷ 12 ∷ 22 ∷ 14 ∷ [])) (grid_at 8 21 bs)
grid_known bs =
    next (head_at bs) (headed 8 21 bs) (cases.wider (front_known bs) (λ number place inside. after inside)) (λ h any.
    under _ (under {P' = Any} _ (runs_known 8 21 bs h.roots in_list h.runs (start 8 21 h.next)) (λ u t. tt)) (λ vs t. tt))
  where
    in_list : RunNumbers (11 ∷ fronts (1 ∷ 15 ∷ 12 ∷ 22 ∷ 14 ∷ []))
    in_list =
        record {
          ended = at2;
          long = at3;
          again = after at4;
          deep = after (after at4);
          many = after (after (after at4));
          gap = after (after (after (after at4)));
          more = after (after (after (after (after at4))));
        }

pub read_so : (bs : List ℕ) (m : Columns) → Refuses (11 ∷ fronts (1 ∷ 15 ∷ 12 ∷ 22 ∷ 14 ∷ [])) filed (read 8 21 bs m)
read_so bs m =
    when (not (equal_columns m)) 11 at0 (λ equal.
    then_so (grid_at 8 21 bs) _ (refuses (grid_known bs) (λ number place e. (grid_placed bs 8 21 number place e).1)) (λ g is.
    room_so (length g.leaves) (room m) g (after (after (after (after (after (after at4)))))) (omega (arith, (valid_grid 8 21 (omega arith) bs g is).few))))

pub write_so : (K : ℕ) (cs : Columns) (m : List ℕ) → Refuses (Listed (14 ∷ [])) filed (write 8 21 K cs m)
write_so K cs m =
    listed_so 8 21 K true true cs (omega arith) (λ range fits few.
    room_so (length (file_of K (leaves cs))) (length m) (file_of K (leaves cs)) (after at4) (omega (arith, file_small K (leaves cs), leaves_length cs)))
