-- Leaves that are neither refined nor merge stay, one after the other; and a list whose leaf was refined is given back by merging its
-- children. Assumes nothing.
use mathlib.Core.Path.{◌≡◌, refl, ap, ap₂, ◌∙◌, sym, subst}
use mathlib.Core.Bool.{true}
use mathlib.Core.List.{List, [], ◌∷◌, ◌++◌, append_assoc}
use Prim.Native.Nat.{ℕ, zero, suc, ◌+◌, ◌-◌, ◌*◌, ◌/◌, ◌≤◌, ◌<◌}
use native.Mathlib.Nat.{add-zero, zero-add, sub-zero, mul-div_cancel_left}
use native.Mathlib.Numerals.{add-one}
use native.Mathlib.Decide.{dec_lt}
use native.Mathlib.Omega.{arith}
use lib.ListN.{length, drop, take, length-append, drop_of_length-le, get_or-append}
use lib.Seq.{take-suc, length-take-le, take_at, drop_at, get_or-append-add, split_at}
use Rattle.paper.proofs.Scan.{rows_length}
use Rattle.leaves.specs.Leaves.{Leaf, nth, leaf}
use Rattle.leaves.proofs.Columns.{get_d_rows}
use Rattle.marks.specs.Marks.{mark}
use Rattle.adaption.specs.Adaption.{child, parent, children_of, merging, joined, gives, adapted}
use Rattle.adaption.specs.Laws.{Merging, Marked}
use Rattle.adaption.proofs.Family.{merging_is}
use Rattle.adaption.proofs.Turns.{from, Clear, from_end, from_refined, from_merged, from_kept, clear_refined, clear_merged, clear_kept}
use Rattle.adaption.proofs.Validity.{drop_next}

module _ (n : ℕ) (positive : 0 < n) (vs : List Leaf) (ms : List ℕ) where
  -- a leaf marked 0 stays where it is
  not_refined : (m : ℕ) → m ≡ 0 → m ≡ 1 → ⊥
  not_refined m zero_mark one = omega arith

  not_merging : (i : ℕ) → mark ms i ≡ 0 → merging n vs ms i ≡ true → ⊥
  not_merging i unmarked m =
      let two : mark ms i ≡ 2 = ap (mark ms) (sym (add-zero i)) ∙ (merging_is n vs ms i m).carries 0 positive in omega arith

  pub whole : adapted n vs ms ≡ from n positive vs ms 0
  whole = ap (joined (gives n vs ms) 0) (sym (sub-zero (length vs)))

  clear_start : Clear n positive vs ms 0
  clear_start j before m = absurd (omega arith)

  -- the leaves from i on are unmarked
  kept_from : (k i : ℕ) → length vs - i ≤ k → Clear n positive vs ms i → ((j : ℕ) → i ≤ j → j < length vs → mark ms j ≡ 0)
      → from n positive vs ms i ≡ drop i vs
  kept_from zero i few clear unmarked =
      let past : length vs ≤ i = omega arith in from_end n positive vs ms i past ∙ sym (drop_of_length-le vs past)
  kept_from (suc k) i few clear unmarked = by (dec_lt i (length vs)) (kept_from k (i + 1) (omega arith))
    where
      by : Dec (i < length vs) → (Clear n positive vs ms (i + 1) → ((j : ℕ) → i + 1 ≤ j → j < length vs → mark ms j ≡ 0) → from n positive vs ms (i + 1) ≡ drop (i + 1) vs)
          → from n positive vs ms i ≡ drop i vs
      by (yes inside) later =
          let here = unmarked i (omega arith) inside in
          from_kept n positive vs ms i clear inside (not_refined (mark ms i) here) (not_merging i here)
          ∙ ap (λ (us : List Leaf). nth vs i ∷ us) (later (clear_kept n positive vs ms i clear (not_merging i here)) (λ j from_next. unmarked j (omega arith)))
          ∙ sym (drop_next vs i inside)
      by (no beyond) later =
          let past : length vs ≤ i = omega arith in from_end n positive vs ms i past ∙ sym (drop_of_length-le vs past)

  -- the leaves before i are unmarked
  pub record Upto (i : ℕ) : Type 0 where
    pub made : from n positive vs ms 0 ≡ take i vs ++ from n positive vs ms i
    pub clear : Clear n positive vs ms i

  kept_to : (i : ℕ) → i ≤ length vs → ((j : ℕ) → j < i → mark ms j ≡ 0) → Upto i
  kept_to zero within unmarked = record { made = refl; clear = clear_start }
  kept_to (suc i) within unmarked = one_more (kept_to i (omega arith) (λ j before. unmarked j (omega arith))) (unmarked i (omega arith))
    where
      one_more : Upto i → mark ms i ≡ 0 → Upto (suc i)
      one_more u here =
          let inside : i < length vs = omega arith in
          record {
            made = u.made
                ∙ ap (λ (us : List Leaf). take i vs ++ us) (from_kept n positive vs ms i u.clear inside (not_refined (mark ms i) here) (not_merging i here))
                ∙ sym (append_assoc (take i vs) (nth vs i ∷ []) (from n positive vs ms (i + 1)))
                ∙ ap₂ (λ (us : List Leaf) (k : ℕ). us ++ from n positive vs ms k) (sym (take-suc vs i (leaf 0 0 0) inside)) (add-one i);
            clear = subst (Clear n positive vs ms) (add-one i) (clear_kept n positive vs ms i u.clear (not_merging i here));
          }

  pub unmarked_stays : ((i : ℕ) → i < length vs → mark ms i ≡ 0) → adapted n vs ms ≡ vs
  unmarked_stays unmarked = whole ∙ kept_from (length vs) 0 (omega arith) clear_start (λ j from_start. unmarked j)

  -- only leaf i is refined
  pub refined_once : (i : ℕ) → i < length vs → Marked ms 1 i 1 (length vs) → adapted n vs ms ≡ take i vs ++ (children_of n (nth vs i) ++ drop (i + 1) vs)
  refined_once i inside marks =
      let before = kept_to i (omega arith) (λ j less. marks.before j (omega arith) less) in
      let here = marks.there i inside (omega arith) (omega arith) in
      whole ∙ before.made
      ∙ ap (λ (us : List Leaf). take i vs ++ us) (from_refined n positive vs ms i inside here
      ∙ ap (λ (us : List Leaf). children_of n (nth vs i) ++ us)
      (kept_from (length vs) (i + 1) (omega arith) (clear_refined n positive vs ms i before.clear here) (λ j later within. marks.after j within later)))

  -- only the family from i on merges
  pub merged_once : (i : ℕ) → Merging n vs ms i → Marked ms 2 i n (length vs) → adapted n vs ms ≡ take i vs ++ (parent n (nth vs i) ∷ drop (i + n) vs)
  merged_once i m marks =
      let before = kept_to i (omega (arith, m.inside)) (λ j less. marks.before j (omega (arith, m.inside)) less) in
      whole ∙ before.made
      ∙ ap (λ (us : List Leaf). take i vs ++ us) (from_merged n positive vs ms i m
      ∙ ap (λ (us : List Leaf). parent n (nth vs i) ∷ us)
      (kept_from (length vs) (i + n) (omega arith) (clear_merged n positive vs ms i before.clear m) (λ j later within. marks.after j within later)))

-- ---- refined, then merged
module _ (n : ℕ) (positive : 0 < n) (a : List Leaf) (v : Leaf) (b : List Leaf) where
  abbrev ws : List Leaf
  ws = a ++ (children_of n v ++ b)

  child_at : (t : ℕ) → t < n → nth ws (length a + t) ≡ child n v t
  child_at t below =
      get_or-append-add a (children_of n v ++ b) t (leaf 0 0 0)
      ∙ get_or-append (children_of n v) b (leaf 0 0 0) t (omega (arith, rows_length (child n v) 0 n))
      ∙ get_d_rows (child n v) (leaf 0 0 0) 0 n t below ∙ ap (child n v) (zero-add t)

  first_at : nth ws (length a) ≡ child n v 0
  first_at = ap (nth ws) (sym (add-zero (length a))) ∙ child_at 0 positive

  parent_is : parent n (child n v 0) ≡ v
  parent_is =
      let level : v.level + 1 - 1 ≡ v.level = omega arith in
      ap₂ (leaf v.root) level (ap (λ (k : ℕ). k / n) (add-zero (n * v.position)) ∙ mul-div_cancel_left v.position positive)

  long : length ws ≡ length a + (n + length b)
  long = length-append a (children_of n v ++ b) ∙ ap (λ (k : ℕ). length a + k) (length-append (children_of n v) b ∙ ap (λ (k : ℕ). k + length b) (rows_length (child n v) 0 n))

  family_there : (ms : List ℕ) → Marked ms 2 (length a) n (length ws) → Merging n ws ms (length a)
  family_there ms marks =
      let up = ap (parent n) first_at ∙ parent_is in
      record {
        deep = subst (λ (u : Leaf). 0 < u.level) (sym first_at) (omega arith);
        inside = omega (arith, long);
        sibling = λ t below. child_at t below ∙ ap (λ (u : Leaf). child n u t) (sym up);
        carries = λ t below. marks.there (length a + t) (omega (arith, long)) (omega arith) (omega arith);
      }

  pub given_back : (ms : List ℕ) → Marked ms 2 (length a) n (length ws) → adapted n ws ms ≡ a ++ (v ∷ b)
  given_back ms marks =
      let family = family_there ms marks in
      let seam : length (a ++ children_of n v) ≡ length a + n = length-append a (children_of n v) ∙ ap (λ (k : ℕ). length a + k) (rows_length (child n v) 0 n) in
      let rest : drop (length a + n) ws ≡ b =
      ap (drop (length a + n)) (sym (append_assoc a (children_of n v) b)) ∙ drop_at (a ++ children_of n v) b (length a + n) seam in
      merged_once n positive ws ms (length a) family marks
      ∙ ap₂ (λ (us : List Leaf) (u : Leaf). us ++ (u ∷ drop (length a + n) ws)) (take_at a (children_of n v ++ b) (length a) refl) (ap (parent n) first_at ∙ parent_is)
      ∙ ap (λ (us : List Leaf). a ++ (v ∷ us)) rest

pub refined_undone : (n : ℕ) → 0 < n → (vs : List Leaf) (ms ms' : List ℕ) (i : ℕ) → i < length vs → Marked ms 1 i 1 (length vs)
    → Marked ms' 2 i n (length (adapted n vs ms)) → adapted n (adapted n vs ms) ms' ≡ vs
refined_undone n positive vs ms ms' i inside marks marks' =
    let refined = refined_once n positive vs ms i inside marks in
    let number = length-take-le i vs (omega arith) in
    let there : Marked ms' 2 (length (take i vs)) n (length (ws n positive (take i vs) (nth vs i) (drop (i + 1) vs))) =
    subst (λ (k : ℕ). Marked ms' 2 k n (length (ws n positive (take i vs) (nth vs i) (drop (i + 1) vs)))) (sym number)
    (subst (λ (us : List Leaf). Marked ms' 2 i n (length us)) refined marks') in
    ap (λ (us : List Leaf). adapted n us ms') refined
    ∙ given_back n positive (take i vs) (nth vs i) (drop (i + 1) vs) ms' there
    ∙ ap (λ (k : ℕ). take i vs ++ (nth vs i ∷ drop k vs)) (add-one i)
    ∙ sym (split_at vs i (leaf 0 0 0) inside)
