-- Document 01, "Refusal numbers": the file read, in byte order. n is the number of children, L the highest level. Definitions only.
--
--   "File reading: 11 on the columns, then byte order, place = offset of the number's first byte. After a level: 1, 21; after a count: 21, 15,
--   then 12 at the run's level if a leaf of the run can't start where the one before it ended or would lie past the last root. After the last
--   run 12 and then 22 (place = offset there), last 14."
--   17 K outside 1 to 4,096; 18 first four bytes missing or different; 21 R outside 1 to 1,048,576, run of 0, level as in the run before
--
--   Grid                K roots and the leaves
--   opens bs            the first four bytes are the tag
--   Head, head_at       what stands in front of the runs: K, R, and the offset of the first run; after_roots, after_runs: the tests of K and of R
--   leaf_from c l       the leaf of level l that starts at c
--   fits K c l k        k leaves of level l can start from c on, each where the one before it ended, in the K roots
--   leaves_from c l k   those leaves
--   end_from c l k      where they end
--   upto K c            the spot c is not past the last of K roots
--   Walk                how far the runs of a file were read: how many runs, with how many leaves; the level of the run before, above every
--                       level for the first run; where the list has come to; the offset of what follows
--   walk_at R N l c i   the walk with these; start i: before the first run, at offset i
--   FoundRun, run_at    the run that follows: its level, its count, and the offset of what follows it
--   keep w r            after the run r
--   after_level, after_count, after_last   "After a level", "after a count", "After the last run"
--   Sounded           how far a file is sound: where its first fault stopped it, or its end; the leaves so far; the fault
--   stopped w o       nothing more after w; preceded vs s: the leaves vs before those of s; go_on: the next run, if there is one
--   sound_from R w    the R runs that follow w, in turn, to the first fault
--   sound bs h        all runs of a file whose front is h
--   leaves_if s       the leaves, refused by the fault
--   headed, grid_at   the grid of a file whose front is known, and of a whole file
--
-- Assumes nothing.
use Rattle.std.specs.Prelude.{Bool, true, not, ◌&&◌, ◌||◌, List, [], ◌∷◌, ◌++◌, ℕ, zero, suc, ◌+◌, ◌/◌, ◌%◌, ltb, eqb, length}
use Rattle.paper.specs.Outcome.{Outcome, accepted, refused, refuse_when, refuse_when_at, mapped, and_then, passed}
use Rattle.leaves.specs.Leaves.{Leaf, leaf, Spot, spot_at, span, end_of}
use Rattle.leaves.specs.Calls.{limit, out_of_range}
use Rattle.numbers.specs.Numbers.{Found, number_at, byte_at}
use Rattle.format.specs.File.{tag}

pub record Grid : Type 0 where
  pub roots : ℕ
  pub leaves : List Leaf

abbrev pub opens : List ℕ → Bool
opens bs =
    not (ltb (length bs) 4)
    && (eqb (byte_at bs 0) (byte_at tag 0)
    && (eqb (byte_at bs 1) (byte_at tag 1)
    && (eqb (byte_at bs 2) (byte_at tag 2) && eqb (byte_at bs 3) (byte_at tag 3))))

pub record Head : Type 0 where
  pub roots : ℕ
  pub runs : ℕ
  pub next : ℕ

abbrev pub head : ℕ → ℕ → ℕ → Head
head K R j = record { roots = K; runs = R; next = j }

abbrev pub after_runs : Found → Found → Outcome Head
after_runs k r =
    refuse_when_at (eqb r.value 0 || ltb limit r.value) 21 k.next
    (accepted (head k.value r.value r.next))

abbrev pub after_roots : List ℕ → Found → Outcome Head
after_roots bs k =
    refuse_when_at (out_of_range k.value) 17 4
    (and_then (number_at bs k.next) (after_runs k))

abbrev pub head_at : List ℕ → Outcome Head
head_at bs =
    refuse_when (not (opens bs)) 18
    (and_then (number_at bs 4) (after_roots bs))

-- ---- the runs
abbrev pub upto : ℕ → Spot → Bool
upto K c = ltb c.root K || (eqb c.root K && eqb c.cell 0)

pub record FoundRun : Type 0 where
  pub level : ℕ
  pub count : ℕ
  pub next : ℕ

abbrev pub found_run : ℕ → ℕ → ℕ → FoundRun
found_run l k j = record { level = l; count = k; next = j }

pub record Walk : Type 0 where
  pub runs : ℕ
  pub count : ℕ
  pub before : ℕ
  pub come : Spot
  pub next : ℕ

abbrev pub walk_at : ℕ → ℕ → ℕ → Spot → ℕ → Walk
walk_at R N l c i = record { runs = R; count = N; before = l; come = c; next = i }

pub record Sounded : Type 0 where
  pub walk : Walk
  pub leaves : List Leaf
  pub fault : Outcome (Unit {0})

abbrev pub stopped : Walk → Outcome (Unit {0}) → Sounded
stopped w o = record { walk = w; leaves = []; fault = o }

-- the leaves vs come first
abbrev pub preceded : List Leaf → Sounded → Sounded
preceded vs s = record { walk = s.walk; leaves = vs ++ s.leaves; fault = s.fault }

-- what f makes of a run that was found; a fault stops at w
abbrev pub go_on : Walk → Outcome FoundRun → (FoundRun → Sounded) → Sounded
go_on w (accepted r) f = f r
go_on w (refused number place) f = stopped w (refused number place)

abbrev pub leaves_if : Sounded → Outcome (List Leaf)
leaves_if s = mapped (λ (u : Unit {0}). s.leaves) s.fault

abbrev pub after_last : List ℕ → ℕ → Walk → Outcome (Unit {0})
after_last bs K w =
    refuse_when_at (not (eqb w.come.root K && eqb w.come.cell 0)) 12 w.next
    (refuse_when_at (ltb w.next (length bs)) 22 w.next
    passed)

module _ (n L : ℕ) where
  abbrev pub leaf_from : Spot → ℕ → Leaf
  leaf_from c l = leaf c.root l (c.cell / span n L l)

  unfoldable pub fits : ℕ → Spot → ℕ → ℕ → Bool
  fits K c l zero = true
  fits K c l (suc k) = ltb c.root K && (eqb (c.cell % span n L l) 0 && fits K (end_of n L (leaf_from c l)) l k)

  unfoldable pub leaves_from : Spot → ℕ → ℕ → List Leaf
  leaves_from c l zero = []
  leaves_from c l (suc k) = leaf_from c l ∷ leaves_from (end_of n L (leaf_from c l)) l k

  unfoldable pub end_from : Spot → ℕ → ℕ → Spot
  end_from c l zero = c
  end_from c l (suc k) = end_from (end_of n L (leaf_from c l)) l k

  abbrev pub start : ℕ → Walk
  start i = walk_at 0 0 (suc L) (spot_at 0 0) i

  abbrev pub keep : Walk → FoundRun → Walk
  keep w r = walk_at (w.runs + 1) (w.count + r.count) r.level (end_from w.come r.level r.count) r.next

  abbrev pub after_count : ℕ → Walk → Found → Found → Outcome FoundRun
  after_count K w l k =
      refuse_when_at (eqb k.value 0) 21 l.next
      (refuse_when_at (ltb limit (w.count + k.value)) 15 l.next
      (refuse_when_at (not (fits K w.come l.value k.value)) 12 w.next
      (accepted (found_run l.value k.value k.next))))

  abbrev pub after_level : List ℕ → ℕ → Walk → Found → Outcome FoundRun
  after_level bs K w l =
      refuse_when_at (ltb L l.value) 1 w.next
      (refuse_when_at (eqb w.before l.value) 21 w.next
      (and_then (number_at bs l.next) (after_count K w l)))

  abbrev pub run_at : List ℕ → ℕ → Walk → Outcome FoundRun
  run_at bs K w = and_then (number_at bs w.next) (after_level bs K w)

  unfoldable pub sound_from : List ℕ → ℕ → ℕ → Walk → Sounded
  sound_from bs K zero w = stopped w (after_last bs K w)
  sound_from bs K (suc R) w =
      go_on w (run_at bs K w) (λ (r : FoundRun).
      preceded (leaves_from w.come r.level r.count)
      (sound_from bs K R (keep w r)))

  abbrev pub sound : List ℕ → Head → Sounded
  sound bs h = sound_from bs h.roots h.runs (start h.next)

  abbrev pub headed : List ℕ → Head → Outcome Grid
  headed bs h = mapped (λ (vs : List Leaf). record { roots = h.roots; leaves = vs }) (leaves_if (sound bs h))

  abbrev pub grid_at : List ℕ → Outcome Grid
  grid_at bs = and_then (head_at bs) (headed bs)
