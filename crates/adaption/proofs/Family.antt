-- A merging family as a statement: its n leaves are the children of one leaf, in order, so each says by its position where the family
-- begins, and no other family begins within it. Assumes nothing.
use mathlib.Core.Path.{◌≡◌, refl, ap, ap₂, ◌∙◌, sym}
use mathlib.Core.Bool.{Bool, true, false, ◌&&◌, and-eq-true_iff}
use mathlib.Core.List.{List}
use Prim.Native.Nat.{ℕ, zero, suc, ◌+◌, ◌-◌, ◌/◌, ◌%◌, ◌≤◌, ◌<◌}
use native.Mathlib.Nat.{mul-add-mod_self_left, mod-eq_of_lt, add-zero}
use native.Mathlib.Decide.{ℕ_discrete}
use native.Mathlib.Omega.{arith}
use lib.Dec.{leb, ltb, eqb}
use lib.ListN.{length}
use borrow.Author.Tests.{ltb-true, leb-true, eqb-true, lt-ltb, le-leb, eq-eqb}
use Rattle.leaves.specs.Leaves.{Leaf, nth, leaf}
use Rattle.adaption.specs.Laws.{Merging}
use Rattle.marks.specs.Marks.{mark}
use Rattle.adaption.specs.Adaption.{every, same, child, parent, family, merging, eldest}

-- ---- tests
pub every_all : (k : ℕ) (test : ℕ → Bool) → every k test ≡ true → (t : ℕ) → t < k → test t ≡ true
unfolding every
every_all zero test h t below = absurd (omega arith)
every_all (suc k) test h t below =
    let parts = (and-eq-true_iff (test k) (every k test)).0 h in
    by (ℕ_discrete t k) parts.0 (every_all k test parts.1 t)
  where
    by : Dec (t ≡ k) → test k ≡ true → (t < k → test t ≡ true) → test t ≡ true
    by (yes last) here earlier = ap test last ∙ here
    by (no other) here earlier = earlier (omega arith)

pub all_every : (k : ℕ) (test : ℕ → Bool) → ((t : ℕ) → t < k → test t ≡ true) → every k test ≡ true
unfolding every
all_every zero test all = refl
all_every (suc k) test all = (and-eq-true_iff (test k) (every k test)).1 (all k (omega arith), all_every k test (λ t below. all t (omega arith)))

pub not_so : (b : Bool) → (b ≡ true → ⊥) → b ≡ false
not_so true never = absurd (never refl)
not_so false never = refl

pub same_is : (u v : Leaf) → same u v ≡ true → u ≡ v
same_is u v h =
    let a = (and-eq-true_iff (eqb u.root v.root) (eqb u.level v.level && eqb u.position v.position)).0 h in
    let b = (and-eq-true_iff (eqb u.level v.level) (eqb u.position v.position)).0 a.1 in
    ap (λ (r : ℕ). leaf r u.level u.position) (eqb-true u.root v.root a.0)
    ∙ ap₂ (leaf v.root) (eqb-true u.level v.level b.0) (eqb-true u.position v.position b.1)

pub is_same : (u v : Leaf) → u ≡ v → same u v ≡ true
is_same u v e =
    simp (
      eq-eqb u.root v.root (ap (λ (w : Leaf). w.root) e),
      eq-eqb u.level v.level (ap (λ (w : Leaf). w.level) e),
      eq-eqb u.position v.position (ap (λ (w : Leaf). w.position) e),
    )

-- the n leaves from number j on are a family, as a statement
pub record Family (n : ℕ) (vs : List Leaf) (j : ℕ) : Type 0 where
  pub deep : 0 < (nth vs j).level
  pub inside : j + n ≤ length vs
  pub sibling : (t : ℕ) → t < n → nth vs (j + t) ≡ child n (parent n (nth vs j)) t

module _ (n : ℕ) (vs : List Leaf) (j : ℕ) where
  abbrev here : ℕ → Bool
  here t = same (nth vs (j + t)) (child n (parent n (nth vs j)) t)

  pub family_is : family n vs j ≡ true → Family n vs j
  family_is h =
      let a = (and-eq-true_iff (ltb 0 (nth vs j).level) (leb (j + n) (length vs) && every n here)).0 h in
      let b = (and-eq-true_iff (leb (j + n) (length vs)) (every n here)).0 a.1 in
      record {
        deep = ltb-true 0 (nth vs j).level a.0;
        inside = leb-true (j + n) (length vs) b.0;
        sibling = λ t below. same_is (nth vs (j + t)) (child n (parent n (nth vs j)) t) (every_all n here b.1 t below);
      }

  pub is_family : Family n vs j → family n vs j ≡ true
  is_family f =
      simp (
        lt-ltb 0 (nth vs j).level f.deep,
        le-leb (j + n) (length vs) f.inside,
        all_every n here (λ t below. is_same (nth vs (j + t)) (child n (parent n (nth vs j)) t) (f.sibling t below)),
      )

module _ (n : ℕ) (vs : List Leaf) (ms : List ℕ) where
  pub merging_is : (j : ℕ) → merging n vs ms j ≡ true → Merging n vs ms j
  merging_is j h =
      let a = (and-eq-true_iff (family n vs j) (every n (λ t. eqb (mark ms (j + t)) 2))).0 h in
      let f = family_is n vs j a.0 in
      record {
        deep = f.deep;
        inside = f.inside;
        sibling = f.sibling;
        carries = λ t below. eqb-true (mark ms (j + t)) 2 (every_all n (λ t. eqb (mark ms (j + t)) 2) a.1 t below);
      }

  pub is_merging : (j : ℕ) → Merging n vs ms j → merging n vs ms j ≡ true
  is_merging j m =
      (and-eq-true_iff (family n vs j) (every n (λ t. eqb (mark ms (j + t)) 2))).1 (
        is_family n vs j (record { deep = m.deep; inside = m.inside; sibling = m.sibling }),
        all_every n (λ t. eqb (mark ms (j + t)) 2) (λ t below. eq-eqb (mark ms (j + t)) 2 (m.carries t below)),
      )

  -- a sibling's number is what its position leaves
  pub number_in : (j t : ℕ) → Merging n vs ms j → t < n → (nth vs (j + t)).position % n ≡ t
  number_in j t m below =
      ap (λ (v : Leaf). v.position % n) (m.sibling t below) ∙ mul-add-mod_self_left n ((nth vs j).position / n) t ∙ mod-eq_of_lt below

  pub eldest_in : (j t : ℕ) → Merging n vs ms j → t < n → eldest n vs (j + t) ≡ j
  eldest_in j t m below = ap (λ (k : ℕ). j + t - k) (number_in j t m below) ∙ back j t
    where
      back : (a b : ℕ) → a + b - b ≡ a
      back a b = omega arith

  pub alone : 0 < n → (j t : ℕ) → Merging n vs ms j → Merging n vs ms (j + t) → t < n → t ≡ 0
  alone positive j t m other below =
      sym (number_in j t m below) ∙ ap (λ (k : ℕ). (nth vs k).position % n) (sym (add-zero (j + t))) ∙ number_in (j + t) 0 other positive
