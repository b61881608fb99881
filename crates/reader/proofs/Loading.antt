-- Each way out of reading is one case of its call: the columns, the front, the first fault of the runs, the room; else the grid. Assumes nothing.
use mathlib.Core.Path.{◌≡◌, refl, ap, ◌∙◌, sym}
use mathlib.Core.Bool.{true, false, not}
use mathlib.Core.List.{List}
use Prim.Native.Nat.{ℕ, ◌≤◌, ◌<◌}
use native.Mathlib.Nat.{zero-add}
use native.Mathlib.Omega.{arith}
use lib.Dec.{ltb}
use lib.ListN.{length}
use borrow.Author.Tests.{lt-ltb, le-ltb}
use Rattle.paper.specs.Outcome.{Outcome, accepted, refused, mapped, and_then}
use Rattle.paper.specs.Memory.{room_for}
use Rattle.paper.proofs.Memory.{refuses, accepts}
use Rattle.tree.specs.Anchors.{HIGHEST}
use Rattle.leaves.specs.Leaves.{CHILDREN, Leaf, Columns, equal_columns, room, front}
use Rattle.columns.specs.Laying.{Room}
use Rattle.format.specs.Reading.{Grid, Head, head_at, headed, start, sound}
use Rattle.paper.proofs.Tests.{passed_by, refused_by}
use Rattle.format.proofs.Following.{leaves_kept, all_kept}
use Rattle.sounding.specs.Answers.{Tells}
use Rattle.sounding.specs.declared.Sounding.{Sounding}
use Rattle.reader.specs.Answers.{size, grid_of}
use Rattle.reader.specs.Calls.{read, size_of, FileRead}
use Rattle.paper.specs.declared.Refusal.{Refusal}
use Rattle.paper.specs.declared.Refusal.TheVariants.{UnfitColumns, NoRoom}
use Rattle.paper.specs.Refusals.{number_of, place_of, outcome_of}
use Rattle.std.specs.declared.result.Result.TheVariants.{Ok, Err}
use Rattle.leaves.proofs.Lists.{even_of}

abbrev put : Grid → Columns → Columns
put g = front g.leaves

module _ (bs : List ℕ) (m : Columns) where
  not_read : (r : Refusal) → read CHILDREN HIGHEST bs m ≡ refused (number_of r) (place_of r) → FileRead bs (Err r) m m
  not_read r is = refuses grid_of size_of put (read CHILDREN HIGHEST bs m) (Err r) m (number_of r) (place_of r) is refl

  pub unequal : equal_columns m ≡ false → FileRead bs (Err (UnfitColumns 0)) m m
  unequal other = not_read (UnfitColumns 0) (refused_by (not (equal_columns m)) 11 0 _ (ap not other))

  module _ (same : equal_columns m ≡ true) where
    behind : (o : Outcome Head) → head_at bs ≡ o → read CHILDREN HIGHEST bs m ≡ and_then (and_then o (headed CHILDREN HIGHEST bs)) (λ (g : Grid). room_for (length g.leaves) (room m) g)
    behind o is =
        passed_by (not (equal_columns m)) 11 0 _ (ap not same)
        ∙ ap (λ (d : Outcome Head). and_then (and_then d (headed CHILDREN HIGHEST bs)) (λ (g : Grid). room_for (length g.leaves) (room m) g)) is

    -- ---- behind the front: what the first pass told
    module _ (h : Head) (is : head_at bs ≡ accepted h) (r : Sounding) (t : Tells r (sound CHILDREN HIGHEST bs h)) where
      abbrev vs : List Leaf
      vs = (sound CHILDREN HIGHEST bs h).leaves

      abbrev whole : Grid
      whole = record { roots = h.roots; leaves = vs }

      pub leaves_long : r.leaves ≡ length vs
      leaves_long = t.leaves ∙ leaves_kept CHILDREN HIGHEST bs h.roots h.runs (start CHILDREN HIGHEST h.next) ∙ zero-add (length vs)

      onward : (o : Outcome (Unit {0})) → outcome_of r.fault ≡ o
          → read CHILDREN HIGHEST bs m ≡ and_then (mapped (λ (us : List Leaf). record { roots = h.roots; leaves = us }) (mapped (λ (u : Unit {0}). vs) o)) (λ (g : Grid). room_for (length g.leaves) (room m) g)
      onward o why =
          behind _ is
          ∙ ap (λ (d : Outcome (Unit {0})). and_then (mapped (λ (us : List Leaf). record { roots = h.roots; leaves = us }) (mapped (λ (u : Unit {0}). vs) d)) (λ (g : Grid). room_for (length g.leaves) (room m) g)) (sym t.fault ∙ why)

      pub faulty : (e : Refusal) → r.fault ≡ Err e → FileRead bs (Err e) m m
      faulty e why = not_read e (onward _ (ap outcome_of why))

      module _ (none : r.fault ≡ Ok tt) where
        pub runs_kept : (sound CHILDREN HIGHEST bs h).walk.runs ≡ h.runs
        runs_kept = all_kept CHILDREN HIGHEST bs h.roots h.runs (start CHILDREN HIGHEST h.next) (sym t.fault ∙ ap outcome_of none) ∙ zero-add h.runs

        pub no_room : room m < r.leaves → FileRead bs (Err (NoRoom r.leaves)) m m
        no_room over =
            not_read (NoRoom r.leaves)
            (onward _ (ap outcome_of none)
            ∙ refused_by (ltb (room m) (length vs)) 14 (length vs) _ (lt-ltb (room m) (length vs) (omega (arith, over, leaves_long)))
            ∙ ap (refused 14) (sym leaves_long))

        module _ (enough : r.leaves ≤ room m) where
          pub room_enough : Room (length vs) m
          room_enough =
              let even = even_of m same in
              record {
                in_roots = omega (arith, enough, leaves_long);
                in_levels = omega (arith, enough, leaves_long, even.levels_long);
                in_positions = omega (arith, enough, leaves_long, even.positions_long);
              }

          pub grid_read : (m' : Columns) → m' ≡ front vs m → FileRead bs (Ok (record { roots = h.roots; leaves = r.leaves })) m m'
          grid_read m' stored =
              accepts grid_of size_of put (read CHILDREN HIGHEST bs m) (Ok (record { roots = h.roots; leaves = r.leaves })) m whole m'
              (onward _ (ap outcome_of none) ∙ passed_by (ltb (room m) (length vs)) 14 (length vs) _ (le-ltb (room m) (length vs) (omega (arith, enough, leaves_long))))
              (ap (λ (k : ℕ). accepted (size h.roots k)) leaves_long)
              stored
