-- Two lists along which a number of each entry rises, with the same members, are the same list. Assumes nothing.
use Rattle.std.proofs.Common.{◌≡◌, ℕ, ◌<◌, ◌≤◌, ◌↔◌, List, [], ◌∷◌, map, sym, refl, ap, subst, ap₂, ⊎_elim, arith}
use mathlib.Core.Logic.Iff
use mathlib.Core.Logic.{∥∥₁_elim}
use mathlib.Core.List.{Mem, mem-cons_self, mem-cons_of_mem, mem_of_ne_of_mem, not-mem-nil}
use mathlib.Core.List.Memᴰ
use mathlib.Core.List.{Memᴰ}
use native.Mathlib.Bridge.{le_prop}

-- the numbers rise from above m on
abbrev pub Above : ℕ → List ℕ → Type 0
Above m [] = Unit
Above m (n ∷ ns) = (m < n) × Above n ns

-- the numbers rise
abbrev pub Rising : List ℕ → Type 0
Rising [] = Unit
Rising (m ∷ ns) = Above m ns

rest_rises : (m : ℕ) (ns : List ℕ) → Above m ns → Rising ns
rest_rises m [] rises = rises
rest_rises m (n ∷ ns) rises = rises.1

-- the two lists have the same members
abbrev pub Alike : {P : Type 0} → List P → List P → Type 0
Alike {P} s t = (p : P) → Mem p s ↔ Mem p t

pub alike : {P : Type 0} {s t : List P} → s ≡ t → Alike s t
alike {s} same = subst (Alike s) same (λ p. Iff.rfl)

module _ {P : Type 0} (set : IsSet P) (key : P → ℕ) where
  beyond : (m : ℕ) (s : List P) (p : P) → Above m (map key s) → Memᴰ p s → m < key p
  beyond m [] p rises d = absurd (Memᴰ.not-nil d)
  beyond m (a ∷ s) p rises d =
      ⊎_elim {C = m < key p}
      (λ (here : p ≡ a). omega (arith, rises.0, ap key here))
      (λ (later : Memᴰ p s). omega (arith, rises.0, beyond (key a) s p rises.1 later))
      (Memᴰ.cases_cons d)

  -- the first has the least number
  least : (a : P) (s : List P) (p : P) → Above (key a) (map key s) → Mem p (a ∷ s) → key a ≤ key p
  least a s p rises m =
      ∥∥₁_elim m le_prop λ d.
      ⊎_elim {C = key a ≤ key p}
      (λ (here : p ≡ a). omega (arith, ap key here))
      (λ (later : Memᴰ p s). omega (arith, beyond (key a) s p rises later))
      (Memᴰ.cases_cons d)

  -- a member with the first's number is the first
  first_is : (a : P) (s : List P) (p : P) → Above (key a) (map key s) → key p ≡ key a → Mem p (a ∷ s) → p ≡ a
  first_is a s p rises same m =
      ∥∥₁_elim m (set p a) λ d.
      ⊎_elim {C = p ≡ a}
      (λ (here : p ≡ a). here)
      (λ (later : Memᴰ p s). absurd (omega (arith, beyond (key a) s p rises later)))
      (Memᴰ.cases_cons d)

  -- the others have greater ones
  rest_greater : (a : P) (s : List P) (p : P) → Above (key a) (map key s) → Mem p s → key a < key p
  rest_greater a s p rises m = ∥∥₁_elim m le_prop (beyond (key a) s p rises)

  -- so the rests have the same members too
  rest_alike : (a b : P) (s t : List P) → Above (key a) (map key s) → key a ≡ key b → ((p : P) → Mem p (a ∷ s) → Mem p (b ∷ t))
      → (p : P) → Mem p s → Mem p t
  rest_alike a b s t rises same has p m =
      mem_of_ne_of_mem (λ first. omega (arith, rest_greater a s p rises m, ap key first)) (has p (mem-cons_of_mem a m))

  pub same_list : (s t : List P) → Rising (map key s) → Rising (map key t) → Alike s t → s ≡ t
  same_list [] [] rise_s rise_t same = refl
  same_list [] (b ∷ t) rise_s rise_t same = absurd (not-mem-nil ((same b).1 mem-cons_self))
  same_list (a ∷ s) [] rise_s rise_t same = absurd (not-mem-nil ((same a).0 mem-cons_self))
  same_list (a ∷ s) (b ∷ t) rise_s rise_t same =
      let of_a = (same a).0 mem-cons_self in
      let one : key a ≡ key b = omega (arith, least a s b rise_s ((same b).1 mem-cons_self), least b t a rise_t of_a) in
      ap₂ ◌∷◌ (first_is b t a rise_t one of_a)
      (same_list s t (rest_rises (key a) (map key s) rise_s) (rest_rises (key b) (map key t) rise_t)
      (λ p. (rest_alike a b s t rise_s one (λ q. (same q).0) p, rest_alike b a t s rise_t (sym one) (λ q. (same q).1) p)))
