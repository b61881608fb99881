-- Each way out of writing is one case of its call: the list check decides, then the room for the bytes that were counted. Assumes nothing.
use mathlib.Core.Path.{◌≡◌, refl, ap, ◌∙◌, sym}
use mathlib.Core.Bool.{true}
use mathlib.Core.List.{List, ◌++◌}
use Prim.Native.Nat.{ℕ, ◌+◌, ◌*◌, ◌≤◌, ◌<◌}
use native.Mathlib.Omega.{arith}
use lib.Dec.{ltb}
use lib.ListN.{length, length-append}
use borrow.Author.Tests.{lt-ltb, le-ltb}
use Rattle.paper.specs.Outcome.{Outcome, accepted, refused, passed}
use Rattle.paper.specs.Memory.{written, room_for}
use Rattle.paper.specs.Refusals.{number_of, place_of, outcome_of}
use Rattle.paper.specs.declared.Refusal.{Refusal}
use Rattle.paper.specs.declared.Refusal.TheVariants.{NoRoom}
use Rattle.std.specs.declared.result.Result.TheVariants.{Ok, Err}
use Rattle.paper.proofs.Memory.{refuses, accepts}
use Rattle.tree.specs.Anchors.{HIGHEST}
use Rattle.leaves.specs.Leaves.{CHILDREN, Columns, leaves}
use Rattle.leaves.specs.Laws.{ValidList}
use Rattle.leaves.specs.Calls.{limit, check_list}
use Rattle.leaves.proofs.Listed.{columns_sound, listed_passed, listed_refused}
use Rattle.numbers.specs.Numbers.{bytes_of}
use Rattle.format.specs.File.{run_bytes, tag, file_of, runs_in}
use Rattle.paper.proofs.Tests.{refused_by}
use Rattle.writer.specs.Calls.{write, FileWritten}
use Rattle.writer.specs.Inner.{level_file, Counted}
use Rattle.format.proofs.Placed.{run_bytes_few}
use Rattle.writer.proofs.Writing.{level_runs_few, file_levels}
use Rattle.numbers.proofs.Cases.{few_bytes}

module _ (k : ℕ) (cs : Columns) (bs : List ℕ) where
  abbrev ls : List ℕ
  ls = cs.levels

  abbrev call : Outcome (List ℕ)
  call = write CHILDREN HIGHEST k cs bs

  pub leaves_refused : (r : Refusal) → check_list CHILDREN HIGHEST k cs ≡ refused (number_of r) (place_of r) → FileWritten k (Err r) cs bs bs
  leaves_refused r h =
      refuses outcome_of length written call (Err r) bs (number_of r) (place_of r)
      (listed_refused CHILDREN HIGHEST k true true cs _ (number_of r) (place_of r) h) refl

  module _ (sound : check_list CHILDREN HIGHEST k cs ≡ passed) where
    columns_of_lem : ValidList CHILDREN HIGHEST k cs
    columns_of_lem = columns_sound CHILDREN HIGHEST k true true cs sound

    pub few_levels : length ls ≤ limit
    few_levels = omega (arith, columns_of_lem.few, columns_of_lem.levels_long)

    file : file_of k (leaves cs) ≡ level_file k ls
    file = file_levels cs k columns_of_lem.levels_long

    onward : call ≡ room_for (length (level_file k ls)) (length bs) (level_file k ls)
    onward = listed_passed CHILDREN HIGHEST k true true cs _ sound ∙ ap (λ (f : List ℕ). room_for (length f) (length bs) f) file

    module _ (R b : ℕ) (c : Counted ls R b) where
      pub few_runs : (R ≤ limit) × (b ≤ 6 * limit)
      few_runs =
          let few = few_levels in
          let one = level_runs_few ls in
          (omega (arith, c.runs), omega (arith, c.bytes, run_bytes_few (runs_in ls)))

      -- m and u bytes for K and R
      module _ (m u : ℕ) (one : m ≡ length (bytes_of k)) (two : u ≡ length (bytes_of R)) where
        pub size_few : 4 + m + u + b ≤ 6 * limit + 10
        size_few = let few = few_runs in omega (arith, few, few_bytes k, few_bytes R)

        size_is : 4 + m + u + b ≡ length (level_file k ls)
        size_is =
            let pairs = run_bytes (runs_in ls) in
            let count = bytes_of (length (runs_in ls)) in
            omega (
              arith,
              c.bytes,
              two ∙ ap (λ (n : ℕ). length (bytes_of n)) c.runs,
              length-append tag (bytes_of k ++ (count ++ pairs)),
              length-append (bytes_of k) (count ++ pairs),
              length-append count pairs,
            )

        pub no_room_14 : length bs < 4 + m + u + b → FileWritten k (Err (NoRoom (4 + m + u + b))) cs bs bs
        no_room_14 short =
            refuses outcome_of length written call (Err (NoRoom (4 + m + u + b))) bs 14 (4 + m + u + b)
            (onward
            ∙ refused_by (ltb (length bs) (length (level_file k ls))) 14 (length (level_file k ls)) _ (lt-ltb (length bs) (length (level_file k ls)) (omega (arith, size_is)))
            ∙ ap (refused 14) (sym size_is))
            refl

        module _ (enough : 4 + m + u + b ≤ length bs) where
          pub room : length (level_file k ls) ≤ length bs
          room = omega (arith, size_is)

          pub file_written : {bs' : List ℕ} → bs' ≡ written (level_file k ls) bs → FileWritten k (Ok (4 + m + u + b)) cs bs bs'
          file_written {bs'} put =
              accepts outcome_of length written call (Ok (4 + m + u + b)) bs (level_file k ls) bs'
              (onward ∙ simp (le-ltb (length bs) (length (level_file k ls)) room)) (ap accepted size_is) put
