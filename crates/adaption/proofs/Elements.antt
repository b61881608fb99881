-- A leaf's child, parent and family are the element's: the element at a position is the child, by the last digit, of the element at the
-- position without it. Assumes nothing.
use mathlib.Core.Path.{◌≡◌, refl, ap, ap₂, ◌∙◌, sym, subst}
use mathlib.Core.Bool.{true}
use mathlib.Core.List.{List, ◌∷◌}
use Prim.Native.Nat.{ℕ, zero, suc, ◌+◌, ◌-◌, ◌*◌, ◌/◌, ◌%◌, ◌^◌, ◌<◌}
use native.Mathlib.Nat.{mul_comm, mul-add-mod_self_left, mod-eq_of_lt, mod-lt, div-lt_iff_lt-mul, pow-suc}
use native.Mathlib.Numerals.{add-one}
use native.Mathlib.Omega.{arith}
use lib.ListN.{length}
use Rattle.paper.specs.Outcome.{rows}
use Rattle.tree.specs.Shape.{Shape}
use Rattle.tree.specs.Laws.{Sound, Lawful}
use Rattle.tree.proofs.RoundTrip.{round_trips}
use Rattle.tree.proofs.Family.{families}
use Rattle.tree.specs.Words as words
use Rattle.leaves.specs.Leaves.{Leaf, nth}
use Rattle.leaves.proofs.Span.{quotient}
use Rattle.adaption.specs.Adaption.{child, parent, family}
use Rattle.leaves.specs.Cells.{element_of, Proper}
use Rattle.adaption.specs.Laws.{Siblings, Relatives}
use Rattle.adaption.proofs.Family.{family_is}
use Rattle.adaption.proofs.OneParent.{of_siblings}

module _ {E : Type 0} (S : Shape E) (W : Lawful S) where
  -- one level down
  down : (l q : ℕ) → words.element_at S (suc l) q ≡ S.child (words.element_at S l (q / S.children)) (q % S.children)
  unfolding words.element_at
  down l q = refl

  of_child : (v : Leaf) (t : ℕ) → t < S.children → element_of S (child S.children v t) ≡ S.child (element_of S v) t
  of_child v t below =
      let place : S.children * v.position + t ≡ v.position * S.children + t = ap (λ (k : ℕ). k + t) (mul_comm S.children v.position) in
      ap (λ (l : ℕ). words.element_at S l (S.children * v.position + t)) (add-one v.level)
      ∙ down v.level (S.children * v.position + t)
      ∙ ap₂ (λ (q i : ℕ). S.child (words.element_at S v.level q) i) (quotient S.children v.position t (S.children * v.position + t) place below)
      (mul-add-mod_self_left S.children v.position t ∙ mod-eq_of_lt below)

  -- the parent of a leaf stands one level up
  module _ (v : Leaf) (stands : Proper S v) (deep : 0 < v.level) where
    positive : 0 < S.children
    positive = omega (arith, W.several)

    one_more : v.level ≡ suc (v.level - 1)
    one_more = omega arith

    up_below : v.position / S.children < S.children ^ (v.level - 1)
    up_below =
        let whole = ap (λ (l : ℕ). S.children ^ l) one_more ∙ pow-suc S.children (v.level - 1) in
        (div-lt_iff_lt-mul positive).1 (subst (λ (k : ℕ). v.position < k) whole stands.position)

    pub up_sound : Sound S (element_of S (parent S.children v))
    up_sound = (round_trips S W).at_sound (v.level - 1) (v.position / S.children) (omega (arith, stands.level)) up_below

    pub up_above : S.level (element_of S (parent S.children v)) < S.highest
    up_above = omega (arith, stands.level, (round_trips S W).at_level (v.level - 1) (v.position / S.children))

    of_parent : element_of S (parent S.children v) ≡ S.parent (element_of S v)
    of_parent =
        sym (ap (λ (l : ℕ). S.parent (words.element_at S l v.position)) one_more ∙ ap S.parent (down (v.level - 1) v.position)
        ∙ W.parent_child (element_of S (parent S.children v)) (v.position % S.children) up_sound up_above (mod-lt v.position positive))

  same_rows : (f g : ℕ → E) (m i k : ℕ) → i + k ≡ m → ((t : ℕ) → t < m → f t ≡ g t) → rows f i k ≡ rows g i k
  same_rows f g m i zero e alike = refl
  same_rows f g m i (suc k) e alike = ap₂ (λ (x : E) (xs : List E). x ∷ xs) (alike i (omega arith)) (same_rows f g m (suc i) k (omega arith) alike)

  of_family : (vs : List Leaf) (j : ℕ) → ((i : ℕ) → i < length vs → Proper S (nth vs i)) → family S.children vs j ≡ true → Siblings S vs j
  of_family vs j stands h =
      let n = S.children in
      let f = family_is n vs j h in
      let here : j < length vs = omega (arith, f.inside, W.several) in
      let up = element_of S (parent n (nth vs j)) in
      record {
        inside = f.inside;
        one_root = λ t below. ap (λ (v : Leaf). v.root) (f.sibling t below);
        siblings = ap (words.family S)
            (same_rows (λ t. element_of S (nth vs (j + t))) (S.child up) n 0 n (omega arith)
            (λ t below. ap (element_of S) (f.sibling t below) ∙ of_child (parent n (nth vs j)) t below))
            ∙ (families S W).of_children up (up_sound (nth vs j) (stands j here) f.deep) (up_above (nth vs j) (stands j here) f.deep);
      }

  pub relatives : Relatives S
  relatives =
      record {
        children = of_child;
        parents = of_parent;
        families = λ vs j stands. (of_family vs j stands, of_siblings S W vs j stands);
      }
