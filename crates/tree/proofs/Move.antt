-- What the code's answer for a moved coordinate says: none exactly where the move leaves the edge; and a coordinate that stays does not
-- leave. Assumes nothing.
use Rattle.std.proofs.Common.{◌≡◌, ℕ, ◌+◌, ◌*◌, ◌^◌, ◌<◌, Bool, true, false, cond, refl, ap, ◌∙◌, arith, le-ltb}
use Rattle.std.specs.declared.option.Option.{Option}
use Rattle.std.specs.declared.option.Option.TheVariants.{None, Some}
use borrow.Author.Tests.{lt-leb}
use Rattle.tree.specs.Anchors.{moved, off_edge}

-- ---- the code's answer
module _ (h s x : ℕ) where
  abbrev Reads : Option ℕ → Type 0
  Reads o = o ≡ cond (off_edge 21 h s x) None (Some (moved h s x))

  pub moved_gone : Reads None → off_edge 21 h s x ≡ true
  moved_gone read = by (off_edge 21 h s x) refl
    where
      by : (t : Bool) → off_edge 21 h s x ≡ t → off_edge 21 h s x ≡ true
      by true e = e
      by false e =
          let here : ◌≡◌ {A = Option ℕ} None (Some (moved h s x)) = read ∙ ap (λ (t : Bool). cond t None (Some (moved h s x))) e in
          cc

  pub moved_stays : (r : ℕ) → Reads (Some r) → (off_edge 21 h s x ≡ false) × (r ≡ moved h s x)
  moved_stays r read = by (off_edge 21 h s x) refl
    where
      by : (t : Bool) → off_edge 21 h s x ≡ t → (off_edge 21 h s x ≡ false) × (r ≡ moved h s x)
      by true e =
          let gone : ◌≡◌ {A = Option ℕ} (Some r) None = read ∙ ap (λ (t : Bool). cond t None (Some (moved h s x))) e in
          cc
      by false e =
          let here : ◌≡◌ {A = Option ℕ} (Some r) (Some (moved h s x)) = read ∙ ap (λ (t : Bool). cond t None (Some (moved h s x))) e in
          (e, cc)

-- ---- not moved at all
pub still : (h x : ℕ) → moved h 1 x ≡ x
still h x = omega arith

pub still_stays : (L h x : ℕ) → x < 2 ^ L → off_edge L h 1 x ≡ false
still_stays L h x below =
    simp (le-ltb (x + 1 * h) h (omega arith), lt-leb (2 ^ L) (moved h 1 x) (let same = still h x in omega arith))
