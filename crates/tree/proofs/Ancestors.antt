-- Taking a parent is one level up and divides the position by the number of children, so as often as levels differ it is the one
-- ancestor of that level, and a position says which. Assumes nothing.
use Rattle.std.proofs.Common.{◌≡◌, ℕ, zero, suc, ◌+◌, ◌-◌, ◌/◌, ◌^◌, ◌<◌, ◌≤◌, Bool, true, false, ◌&&◌, leb, sym, refl, ap, ◌∙◌, add-zero, add-suc, pow-suc, div-one, arith, le-leb}
use native.Mathlib.Nat.{div-div-eq-div-mul, pow-zero}
use Rattle.tree.specs.Shape.{Shape}
use Rattle.tree.specs.Words as words
use Rattle.tree.specs.Laws.{Sound, Lawful}
use Rattle.tree.specs.Ancestors.{up, LiesIn, within, Above, Ancestors}
use Rattle.tree.proofs.RoundTrip.{place_injective}
use Rattle.tree.proofs.Descent.{of_parent}

and-true : (a b : Bool) → (a && b) ≡ true → (a ≡ true) × (b ≡ true)
and-true true b h = (refl, h)
and-true false b h = absurd (let z : ◌≡◌ {A = ℕ} 0 1 = cc in omega arith)

module _ {E : Type 0} (S : Shape E) (W : Lawful S) where
  -- ---- k parents up
  pub above : (e : E) (k : ℕ) → Sound S e → k ≤ S.level e → Above S e k
  unfolding up
  above e zero sound enough =
      record {
        sound = sound;
        level = omega arith;
        position = sym (ap (λ (m : ℕ). words.position S e / m) (pow-zero S.children) ∙ div-one (words.position S e));
      }
  above e (suc k) sound enough = next (above e k sound (omega arith))
    where
      next : Above S e k → Above S e (suc k)
      next a =
          let deep : 0 < S.level (up S k e) = omega (arith, a.level) in
          record {
            sound = W.parent_sound (up S k e) a.sound deep;
            level = omega (arith, a.level, W.parent_level (up S k e) deep);
            position = of_parent S W (up S k e) a.sound deep
                ∙ ap (λ (q : ℕ). q / S.children) a.position
                ∙ div-div-eq-div-mul (words.position S e) (S.children ^ k) S.children
                ∙ ap (λ (m : ℕ). words.position S e / m) (sym (pow-suc S.children k));
          }

  up_add : (k j : ℕ) (e : E) → up S (k + j) e ≡ up S j (up S k e)
  unfolding up
  up_add k zero e = ap (λ (m : ℕ). up S m e) (add-zero k)
  up_add k (suc j) e = ap (λ (m : ℕ). up S m e) (add-suc k j) ∙ ap S.parent (up_add k j e)

  -- ---- what lies in f is as many parents below it as their levels differ
  module _ (e f : E) (sound : Sound S e) where
    levels : (h : LiesIn S e f) → S.level f + h.times ≡ S.level e
    levels h = ap (λ (g : E). S.level g + h.times) (sym h.reached) ∙ (above e h.times sound h.parents).level

    pub reached_exactly : LiesIn S e f → up S (S.level e - S.level f) e ≡ f
    reached_exactly h =
        let many : S.level e - S.level f ≡ h.times = omega (arith, levels h) in
        ap (λ (k : ℕ). up S k e) many ∙ h.reached

    within_of : LiesIn S e f → within S e f ≡ true
    within_of h =
        let there : S.same (up S (S.level e - S.level f) e) f ≡ true =
        ap (λ (g : E). S.same g f) (reached_exactly h) ∙ W.same_refl f in
        simp (le-leb (S.level f) (S.level e) (omega (arith, levels h)), there)

    of_within : within S e f ≡ true → LiesIn S e f
    of_within h =
        let both = and-true (leb (S.level f) (S.level e)) (S.same (up S (S.level e - S.level f) e) f) h in
        record {
          times = S.level e - S.level f;
          parents = omega arith;
          reached = W.same_eq (up S (S.level e - S.level f) e) f both.1;
        }

    -- ---- by position
    position_of : LiesIn S e f → words.position S e / S.children ^ (S.level e - S.level f) ≡ words.position S f
    position_of h =
        sym (above e (S.level e - S.level f) sound (omega arith)).position ∙ ap (words.position S) (reached_exactly h)

    of_position : Sound S f → S.level f ≤ S.level e
        → words.position S e / S.children ^ (S.level e - S.level f) ≡ words.position S f → LiesIn S e f
    of_position ok shallow same =
        let k = S.level e - S.level f in
        let a = above e k sound (omega arith) in
        let level : S.level (up S k e) ≡ S.level f = omega (arith, a.level) in
        record {
          times = k;
          parents = omega arith;
          reached = place_injective S W (up S k e) f a.sound ok level (a.position ∙ same);
        }

  itself : (e : E) → LiesIn S e e
  unfolding up
  itself e = record { times = 0; parents = omega arith; reached = refl }

  carried : (e f g : E) → Sound S e → LiesIn S e f → LiesIn S f g → LiesIn S e g
  carried e f g sound h i =
      record {
        times = h.times + i.times;
        parents = omega (arith, levels e f sound h, i.parents);
        reached = up_add h.times i.times e ∙ ap (up S i.times) h.reached ∙ i.reached;
      }

  pub ancestors : Ancestors S
  ancestors =
      record {
        above = above;
        decided = λ e f sound. (of_within e f sound, within_of e f sound);
        by_position = λ e f sound ok shallow. (position_of e f sound, of_position e f sound ok shallow);
        itself = itself;
        carried = carried;
      }
