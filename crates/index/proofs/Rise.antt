-- An index that adds a mark below b for each step down, in places of base b, rises with the position where the marks rise with the
-- child's number: on a level two elements are at least one place apart. Assumes nothing.
use mathlib.Core.Path.{◌≡◌, refl, ap, ◌∙◌, sym, subst}
use mathlib.Core.Logic.{◌⊎◌, inl, inr, ⊎_elim}
use Prim.Native.Nat.{ℕ, zero, suc, ◌+◌, ◌-◌, ◌*◌, ◌^◌, ◌≤◌, ◌<◌}
use native.Mathlib.Nat.{pow-zero, pow-suc, suc_inj, mul_comm, mul-le-mul_left, mul-le-mul_right, one-le-pow}
use native.Mathlib.Decide.{dec_lt}
use native.Mathlib.Omega.{arith}
use Rattle.tree.specs.Shape.{Shape}
use Rattle.tree.specs.Words.{position}
use Rattle.tree.specs.Laws.{Sound, Lawful}
use Rattle.tree.proofs.RoundTrip.{position_lt, place_injective}
use Rattle.tree.proofs.Descent.{of_child}
use Rattle.index.specs.Rank.{Ranked}
use Rattle.index.proofs.Count.{Rises, ranked_of_rises}

-- the step from e to its child i adds mark e i at the place of the child's level
pub record Marked {E : Type 0} (S : Shape E) (index : E → ℕ) (b : ℕ) (mark : E → ℕ → ℕ) : Type 0 where
  pub below : (e : E) (i : ℕ) → Sound S e → i < S.children → mark e i < b
  pub rise : (e : E) (i j : ℕ) → Sound S e → i < j → j < S.children → mark e i < mark e j
  pub steps : (e : E) (i : ℕ) → Sound S e → S.level e < S.highest → i < S.children
      → index (S.child e i) ≡ index e + mark e i * b ^ (S.highest - suc (S.level e))

-- ---- the arithmetic of one digit more
-- two numbers of one digit more stand as those without it, and where these are equal as the digits
digit_cases : (n p q i j : ℕ) → j < n → n * p + i < n * q + j → (p < q) ⊎ ((p ≡ q) × (i < j))
digit_cases n p q i j small less = decide (dec_lt p q) (dec_lt q p)
  where
    decide : Dec (p < q) → Dec (q < p) → (p < q) ⊎ ((p ≡ q) × (i < j))
    decide (yes before) other = inl before
    decide (no after) (yes above) = let whole : n * suc q ≤ n * p = mul-le-mul_left n above in absurd (omega arith)
    decide (no after) (no before) = let same : p ≡ q = omega arith in inr (same, omega (arith, ap (λ (k : ℕ). n * k) same))

-- what a step adds stays below the place above, and leaves the numbers one place apart
apart_above : (b B a c m k : ℕ) → m < b → a + b * B ≤ c → a + m * B + B ≤ c + k * B
apart_above b B a c m k small apart = let whole : suc m * B ≤ b * B = mul-le-mul_right B small in omega arith

apart_here : (B a m k : ℕ) → m < k → a + m * B + B ≤ a + k * B
apart_here B a m k less = let whole : suc m * B ≤ k * B = mul-le-mul_right B less in omega arith

module _ {E : Type 0} (S : Shape E) (W : Lawful S) (index : E → ℕ) (b : ℕ) (mark : E → ℕ → ℕ) (M : Marked S index b mark) where
  -- an element of level l + 1 as a child of its parent
  record Below (l : ℕ) (e : E) : Type 0 where
    up : E
    number : ℕ
    sound : Sound S up
    level : S.level up ≡ l
    small : number < S.children
    placed : position S e ≡ S.children * position S up + number
    indexed : index e ≡ index up + mark up number * b ^ (S.highest - suc l)

  below_parent : (l : ℕ) (e : E) → Sound S e → S.level e ≡ suc l → Below l e
  below_parent l e ok deep =
      let deeper : 0 < S.level e = omega arith in
      let up = S.parent e in
      let i = S.number e in
      let fine = W.parent_sound e ok deeper in
      let at_l : S.level up ≡ l = suc_inj (W.parent_level e deeper ∙ deep) in
      let small = W.number_lt e ok deeper in
      let room : S.level up < S.highest = omega (arith, W.shallow e ok) in
      let back = sym (W.child_parent e ok deeper) in
      record {
        up = up;
        number = i;
        sound = fine;
        level = at_l;
        small = small;
        placed = ap (position S) back ∙ of_child S W up i fine room small;
        indexed =
            ap index back
            ∙ M.steps up i fine room small
            ∙ ap (λ (k : ℕ). index up + mark up i * b ^ (S.highest - suc k)) at_l;
      }

  -- one place apart: by the parents where they differ, else by the marks
  module _ (l : ℕ) (shallow : l < S.highest) (e f : E) (c : Below l e) (d : Below l f) where
    wider : b ^ (S.highest - l) ≡ b * b ^ (S.highest - suc l)
    wider =
        let more : S.highest - l ≡ suc (S.highest - suc l) = omega arith in
        ap (λ (k : ℕ). b ^ k) more ∙ pow-suc b (S.highest - suc l) ∙ mul_comm (b ^ (S.highest - suc l)) b

    apart_parents : index c.up + b ^ (S.highest - l) ≤ index d.up → index e + b ^ (S.highest - suc l) ≤ index f
    apart_parents above =
        rw (c.indexed, d.indexed)
        (apart_above b _ _ _ _ _ (M.below c.up c.number c.sound c.small) (rw wider at above))

    apart_numbers : c.up ≡ d.up → c.number < d.number → index e + b ^ (S.highest - suc l) ≤ index f
    apart_numbers same less =
        let turned : index f ≡ index c.up + mark c.up d.number * b ^ (S.highest - suc l) =
        d.indexed ∙ ap (λ (g : E). index g + mark g d.number * b ^ (S.highest - suc l)) (sym same) in
        rw (c.indexed, turned)
        (apart_here _ _ _ _ (M.rise c.up c.number d.number c.sound less d.small))

  apart : (l : ℕ) → l ≤ S.highest → (e f : E) → Sound S e → Sound S f → S.level e ≡ l → S.level f ≡ l → position S e < position S f
      → index e + b ^ (S.highest - l) ≤ index f
  apart zero shallow e f ok fine flat level less =
      let only : position S f < S.children ^ 0 = subst (λ (k : ℕ). position S f < S.children ^ k) level (position_lt S W f fine) in
      absurd (omega (arith, pow-zero S.children))
  apart (suc l) shallow e f ok fine deep level less =
      let c = below_parent l e ok deep in
      let d = below_parent l f fine level in
      ⊎_elim
      (λ (before : position S c.up < position S d.up).
      apart_parents l shallow e f c d (apart l (omega arith) c.up d.up c.sound d.sound c.level d.level before))
      (λ (same : (position S c.up ≡ position S d.up) × (c.number < d.number)).
      let parents = place_injective S W c.up d.up c.sound d.sound (c.level ∙ sym d.level) same.0 in
      apart_numbers l shallow e f c d parents same.1)
      (digit_cases S.children _ _ c.number d.number d.small (rw (c.placed, d.placed) at less))

  place_pos : (k : ℕ) → 0 < b ^ k
  place_pos k = one-le-pow k b (omega (arith, M.below S.root 0 W.root_sound (omega (arith, W.several))))

  rises : Rises S index
  rises e f ok fine level less =
      omega (arith, apart (S.level e) (W.shallow e ok) e f ok fine refl (sym level) less, place_pos (S.highest - S.level e))

  pub ranked_of_marked : Ranked S index
  ranked_of_marked = ranked_of_rises S W index rises
