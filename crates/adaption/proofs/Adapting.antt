-- Each way out of adaption is one case of its call. Assumes nothing.
use mathlib.Core.Path.{◌≡◌, refl, ap, ◌∙◌, sym}
use mathlib.Core.Bool.{Bool, true, ◌&&◌, and-eq-true_iff}
use mathlib.Core.List.{List}
use Prim.Native.Nat.{ℕ, ◌≤◌, ◌<◌}
use native.Mathlib.Omega.{arith}
use lib.Dec.{ltb, eqb}
use lib.ListN.{length}
use borrow.Author.Tests.{eqb-true, lt-ltb, le-ltb, eq-eqb}
use Rattle.paper.specs.Outcome.{Outcome, accepted, refused, passed, refuse_when}
use Rattle.paper.specs.Memory.{room_for}
use Rattle.std.specs.declared.result.Result.TheVariants.{Ok, Err}
use Rattle.paper.specs.declared.Refusal.{Refusal}
use Rattle.paper.specs.Refusals.{number_of, place_of, outcome_of}
use Rattle.paper.proofs.Memory.{refuses, accepts}
use Rattle.leaves.specs.Leaves.{Leaf, Columns, leaves, equal_columns, room, front}
use Rattle.leaves.specs.Laws.{ValidList}
use Rattle.leaves.specs.Calls.{limit, listed, check_list}
use Rattle.leaves.proofs.Listed.{columns_sound, listed_passed, listed_refused}
use Rattle.columns.specs.Laying.{Room}
use Rattle.adaption.specs.Adaption.{adapted}
use Rattle.marks.specs.Marks.{marked, check_marks}
use Rattle.adaption.specs.Calls.{adapt, Adapted}
use Rattle.adaption.specs.Inner.{Ready}
use Rattle.marks.proofs.Marked.{check_is, marked_passed, marked_refused}
use Rattle.adaption.proofs.Readiness.{ready}

module _ (k : ℕ) (cs : Columns) (ms : List ℕ) (m : Columns) where
  abbrev call : Outcome (List Leaf)
  call = adapt 8 21 k cs ms m

  abbrev result : List Leaf
  result = adapted 8 (leaves cs) ms

  pub not_adapted : (r : Refusal) → call ≡ refused (number_of r) (place_of r) → Adapted k (Err r) cs ms m m
  not_adapted r e = refuses outcome_of length front call (Err r) m (number_of r) (place_of r) e refl

  -- ---- the leaves, then the marks, then the length
  module _ (long : room cs ≡ length ms) (equal : equal_columns m ≡ true) where
    fitting : {A : Type 0} (rest : Outcome A)
        → listed 8 21 k true (eqb (room cs) (length ms) && equal_columns m) cs rest ≡ listed 8 21 k true true cs rest
    fitting rest = ap (λ (b : Bool). listed 8 21 k true b cs rest) (simp (eq-eqb (room cs) (length ms) long, equal))

    pub leaves_refused : (fault spot : ℕ) → check_list 8 21 k cs ≡ refused fault spot → call ≡ refused fault spot
    leaves_refused fault spot h = fitting _ ∙ listed_refused 8 21 k true true cs _ fault spot h

    module _ (sound : check_list 8 21 k cs ≡ passed) where
      onward : call ≡ marked 21 cs.levels ms (refuse_when (ltb limit (length result)) 15 (room_for (length result) (room m) result))
      onward = fitting _ ∙ listed_passed 8 21 k true true cs _ sound

      list_valid : ValidList 8 21 k cs
      list_valid = columns_sound 8 21 k true true cs sound

      checked : check_marks 21 cs.levels ms ≡ marked 21 cs.levels ms passed
      checked = check_is 21 cs.levels ms (sym list_valid.levels_long ∙ long)

      pub marks_refused : (fault spot : ℕ) → check_marks 21 cs.levels ms ≡ refused fault spot → call ≡ refused fault spot
      marks_refused fault spot h = onward ∙ marked_refused 21 cs.levels ms _ fault spot (sym checked ∙ h)

  -- ---- the tests before the length, all passed
  pub record Cleared : Type 0 where
    pub long : room cs ≡ length ms
    pub equal : equal_columns m ≡ true
    pub sound : check_list 8 21 k cs ≡ passed
    pub right : check_marks 21 cs.levels ms ≡ passed

  pub cleared : {n : ℕ} {list : Columns} → n ≡ room cs → n ≡ length ms → true ≡ equal_columns m → passed ≡ check_list 8 21 k cs → list ≡ cs
      → passed ≡ check_marks 21 list.levels ms → Cleared
  cleared entries long even sound view right =
      record {
        long = sym entries ∙ long;
        equal = sym even;
        sound = sym sound;
        right = sym (right ∙ ap (λ (v : Columns). check_marks 21 v.levels ms) view);
      }

  module _ (s : Cleared) where
    open s use {long, equal, sound, right}

    marks_right : marked 21 cs.levels ms passed ≡ passed
    marks_right = sym (checked long equal sound) ∙ right

    pub list_ready : Ready 8 cs ms
    list_ready = ready 3 21 k (omega arith) (omega arith) cs ms (list_valid long equal sound) long marks_right

    sized : call ≡ refuse_when (ltb limit (length result)) 15 (room_for (length result) (room m) result)
    sized = onward long equal sound ∙ marked_passed 21 cs.levels ms _ marks_right

    module _ (size : ℕ) (exact : size ≡ length result) where
      pub too_many_15 : limit < size → call ≡ refused 15 0
      too_many_15 over = sized ∙ simp (lt-ltb limit (length result) (omega arith))

      module _ (few : size ≤ limit) where
        pub no_room_14 : room m < size → call ≡ refused 14 size
        no_room_14 short =
            sized ∙ simp (le-ltb limit (length result) (omega arith), lt-ltb (room m) (length result) (omega arith)) (ap (refused 14) (sym exact))

        module _ (enough : size ≤ room m) where
          pub room_for_all : Room (length result) m
          room_for_all =
              let both = (and-eq-true_iff (eqb (length m.roots) (length m.levels)) (eqb (length m.roots) (length m.positions))).0 equal in
              let same_levels = eqb-true (length m.roots) (length m.levels) both.0 in
              let same_positions = eqb-true (length m.roots) (length m.positions) both.1 in
              record { in_roots = omega arith; in_levels = omega arith; in_positions = omega arith }

          pub is_adapted : (m' : Columns) → m' ≡ front result m → Adapted k (Ok size) cs ms m m'
          is_adapted m' f =
              accepts outcome_of length front call (Ok size) m result m'
              (sized ∙ simp (le-ltb limit (length result) (omega arith), le-ltb (room m) (length result) (omega arith))) (ap accepted exact) f
