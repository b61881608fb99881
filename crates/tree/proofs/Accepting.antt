-- An accepted call has passed its tests, and a call whose tests are passed accepts. Assumes nothing.
use Rattle.std.proofs.Common.{◌≡◌, ℕ, suc, ◌+◌, ◌^◌, ◌<◌, ◌≤◌, Bool, true, false, not, eqb, ltb, leb, ◌⊎◌, ◌↔◌, List, [], ◌∷◌, refl, ap, ◌∙◌, inl, inr, arith, ltb-false, eqb-true, leb-false}
use mathlib.Core.Bool.{false≢true}
use mathlib.Core.List.Memᴰ
use mathlib.Core.List.{Memᴰ}
use borrow.Author.Tests.{eqb-false, not-false}
use Rattle.paper.specs.Outcome.{Outcome, accepted, Order, scan}
use Rattle.paper.proofs.Scan.{accepted_of, fault_none, never}
use Rattle.tree.specs.Shape.{Shape}
use Rattle.tree.specs.Words as words
use Rattle.tree.specs.Calls as calls
use Rattle.tree.specs.Laws.{Sound, Lawful}
use Rattle.tree.specs.CallLaws.{Accepts}
use Rattle.tree.proofs.RoundTrip.{position_lt}
use Rattle.tree.proofs.Call.{at_accepted, position_accepted, parent_accepted, child_accepted, successor_accepted, descendant_accepted, neighbour_across}

value : {A : Type 0} (a b : A) → ◌≡◌ {A = Outcome A} (accepted a) (accepted b) → a ≡ b
value a b h = cc

module _ {E : Type 0} (S : Shape E) where
  checked_of : {A : Type 0} (e : E) (rest : Outcome A) (a : A) → calls.checked S e rest ≡ accepted a → Sound S e × (rest ≡ accepted a)
  checked_of e rest a h =
      let d = accepted_of (not (eqb (S.fault e) 0)) (S.fault e) 0 rest a h in
      (eqb-true (S.fault e) 0 (not-false (eqb (S.fault e) 0) d.0), d.1)

  at : (l p : ℕ) (f : E) → calls.at S l p ≡ accepted f ↔ ((l ≤ S.highest) × (p < S.children ^ l) × (words.element_at S l p ≡ f))
  at l p f = (there, λ h. at_accepted S l p h.0 h.1 ∙ ap accepted h.2)
    where
      there : calls.at S l p ≡ accepted f → (l ≤ S.highest) × (p < S.children ^ l) × (words.element_at S l p ≡ f)
      there h =
          let d = accepted_of (ltb S.highest l) 1 0 _ f h in
          let c = accepted_of (leb (S.children ^ l) p) 5 0 _ f d.1 in
          (ltb-false S.highest l d.0, leb-false (S.children ^ l) p c.0, value _ f c.1)

  position : (e : E) (p : ℕ) → calls.position S e ≡ accepted p ↔ (Sound S e × (words.position S e ≡ p))
  position e p =
      (λ h. let d = checked_of e (accepted (words.position S e)) p h in (d.0, value _ p d.1), λ h. position_accepted S e h.0 ∙ ap accepted h.1)

  parent : (e f : E) → calls.parent S e ≡ accepted f ↔ (Sound S e × (0 < S.level e) × (S.parent e ≡ f))
  parent e f = (there, λ h. let deep = h.1 in parent_accepted S e h.0 (λ flat. omega arith) ∙ ap accepted h.2)
    where
      there : calls.parent S e ≡ accepted f → Sound S e × (0 < S.level e) × (S.parent e ≡ f)
      there h =
          let d = checked_of e _ f h in
          let c = accepted_of (eqb (S.level e) 0) 6 0 _ f d.1 in
          let deep = eqb-false (S.level e) 0 c.0 in
          (d.0, omega arith, value _ f c.1)

  child : (e f : E) (i : ℕ) → calls.child S e i ≡ accepted f ↔ (Sound S e × (S.level e < S.highest) × (i < S.children) × (S.child e i ≡ f))
  child e f i = (there, λ h. child_accepted S e h.0 i h.1 h.2 ∙ ap accepted h.3)
    where
      there : calls.child S e i ≡ accepted f → Sound S e × (S.level e < S.highest) × (i < S.children) × (S.child e i ≡ f)
      there h =
          let d = checked_of e _ f h in
          let c = accepted_of (leb S.highest (S.level e)) 7 0 _ f d.1 in
          let b = accepted_of (leb S.children i) 8 0 _ f c.1 in
          (d.0, leb-false S.highest (S.level e) c.0, leb-false S.children i b.0, value _ f b.1)

  successor : Lawful S → (e f : E) → calls.successor S e ≡ accepted f
      ↔ (Sound S e × (words.position S e + 1 < S.children ^ S.level e) × (words.successor S e ≡ f))
  successor W e f = (there, λ h. let more = h.1 in successor_accepted S e h.0 (λ last. omega arith) ∙ ap accepted h.2)
    where
      there : calls.successor S e ≡ accepted f → Sound S e × (words.position S e + 1 < S.children ^ S.level e) × (words.successor S e ≡ f)
      there h =
          let d = checked_of e _ f h in
          let c = accepted_of (eqb (words.position S e + 1) (S.children ^ S.level e)) 9 0 _ f d.1 in
          let more = eqb-false (words.position S e + 1) (S.children ^ S.level e) c.0 in
          (d.0, omega (arith, position_lt S W e d.0), value _ f c.1)

  descendant : (which : E → ℕ → E) (e f : E) (l : ℕ) → calls.descendant S which e l ≡ accepted f
      ↔ (Sound S e × (l ≤ S.highest) × (S.level e ≤ l) × (which e l ≡ f))
  descendant which e f l = (there, λ h. descendant_accepted S e h.0 which l h.1 h.2 ∙ ap accepted h.3)
    where
      there : calls.descendant S which e l ≡ accepted f → Sound S e × (l ≤ S.highest) × (S.level e ≤ l) × (which e l ≡ f)
      there h =
          let d = checked_of e _ f h in
          let c = accepted_of (ltb S.highest l) 1 0 _ f d.1 in
          let b = accepted_of (ltb l (S.level e)) 6 0 _ f c.1 in
          (d.0, ltb-false S.highest l c.0, ltb-false l (S.level e) b.0, value _ f b.1)

  neighbour : (e f : E) (i : ℕ) → calls.neighbour S e i ≡ accepted f ↔ (Sound S e × (i < S.faces) × (S.neighbour e i ≡ accepted f))
  neighbour e f i = (there, λ h. neighbour_across S e h.0 i h.1 ∙ h.2)
    where
      there : calls.neighbour S e i ≡ accepted f → Sound S e × (i < S.faces) × (S.neighbour e i ≡ accepted f)
      there h =
          let d = checked_of e _ f h in
          let c = accepted_of (leb S.faces i) 8 0 _ f d.1 in
          (d.0, leb-false S.faces i c.0, c.1)

  -- ---- several elements
  each_sound : {A : Type 0} (i : ℕ) (es : List E) (rest : Outcome A) (a : A) → scan S.fault i es rest ≡ accepted a
      → ((e : E) → Memᴰ e es → Sound S e) × (rest ≡ accepted a)
  each_sound i [] rest a h = (λ e inside. elim inside [ ], h)
  each_sound i (g ∷ es) rest a h =
      let d = accepted_of (not (eqb (S.fault g) 0)) (S.fault g) i (scan S.fault (suc i) es rest) a h in
      let here : Sound S g = eqb-true (S.fault g) 0 (not-false (eqb (S.fault g) 0) d.0) in
      let later = each_sound (suc i) es rest a d.1 in
      (λ e inside. by here later.0 e (Memᴰ.cases_cons inside), later.1)
    where
      by : Sound S g → ((e : E) → Memᴰ e es → Sound S e) → (e : E) → (e ≡ g) ⊎ Memᴰ e es → Sound S e
      by here later e (inl same) = ap S.fault same ∙ here
      by here later e (inr inside) = later e inside

  pub sound_each : {A : Type 0} (i : ℕ) (es : List E) (rest : Outcome A) → ((e : E) → Memᴰ e es → Sound S e) → scan S.fault i es rest ≡ rest
  sound_each i [] rest sound = refl
  sound_each i (g ∷ es) rest sound =
      fault_none (S.fault g) i (scan S.fault (suc i) es rest) (sound g (Memᴰ.head refl))
      ∙ sound_each (suc i) es rest (λ e inside. sound e (Memᴰ.tail inside))

  family : (equal : Bool) (es : List E) (b : Bool) → calls.family S equal es ≡ accepted b
      ↔ ((equal ≡ true) × ((e : E) → Memᴰ e es → Sound S e) × (words.family S es ≡ b))
  family true es b = (
    λ h. let d = each_sound 0 es (accepted (words.family S es)) b h in (refl, d.0, value _ b d.1),
    λ h. sound_each 0 es (accepted (words.family S es)) h.1 ∙ ap accepted h.2,
  )
  family false es b = (λ h. never b 11 0 h, λ h. absurd (false≢true h.0))

  order : (e f : E) (o : Order) → calls.order S e f ≡ accepted o ↔ (Sound S e × Sound S f × (words.order S e f ≡ o))
  order e f o = (
    λ h. let d = each_sound 0 (e ∷ f ∷ []) (accepted (words.order S e f)) o h in
        (d.0 e (Memᴰ.head refl), d.0 f (Memᴰ.tail (Memᴰ.head refl)), value _ o d.1),
    λ h. fault_none (S.fault e) 0 _ h.0 ∙ fault_none (S.fault f) 1 _ h.1 ∙ ap accepted h.2,
  )

  pub accepts : Lawful S → Accepts S
  accepts W =
      record {
        at = at;
        position = position;
        parent = parent;
        child = child;
        successor = successor W;
        first = descendant (words.first S);
        last = descendant (words.last S);
        neighbour = neighbour;
        family = family;
        order = order;
      }
