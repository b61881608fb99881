-- A function over C tells its call's outcome by its word, since the refusals of the call fit into one. Assumes nothing.
use mathlib.Core.Path.{◌≡◌, refl, ap, ap₂, ◌∙◌, sym, subst}
use mathlib.Core.Bool.{Bool, true, ◌&&◌, and-eq-true_iff}
use mathlib.Core.List.Memᴰ
use mathlib.Core.List.{List, [], ◌∷◌, Memᴰ}
use Prim.Native.Nat.{ℕ, ◌/◌, ◌%◌, ◌≤◌}
use native.Mathlib.Nat.{le_trans, le_of_eq}
use native.Mathlib.Omega.{arith}
use lib.Dec.{leb}
use lib.ListN.{length, take, drop}
use lib.Seq.{take-append_seam}
use borrow.Author.Tests.{leb-true}
use Rattle.paper.specs.Outcome.{Outcome, accepted, refused}
use Rattle.paper.specs.Memory.{written, left, Fulfils}
use Rattle.paper.proofs.Memory.{decided}
use Rattle.results.specs.Results.{word, number_result}
use Rattle.results.specs.declared.NumberResult.{NumberResult}
use Rattle.interface.specs.Calls.{count_of}
use Rattle.results.specs.Laws.{Kind, Word}
use Rattle.results.proofs.Laws.{Result, Fits, word_tells, word_parts}
use Rattle.promises.specs.Refusals.{Refuses}
use Rattle.promises.specs.OverC.{Flat, Returns}

-- ---- numbers from 1 to 24, tested by computing
unfoldable pub said : List ℕ → Bool
said [] = true
said (n ∷ ns) = (leb 1 n && leb n 24) && said ns

above : (k : ℕ) (ns : List ℕ) → said ns ≡ true → Memᴰ k ns → (1 ≤ k) × (k ≤ 24)
unfolding said
above k [] h x'' = elim x'' [ ]
above k (n ∷ ns) h (Memᴰ.head e) =
    let here = (and-eq-true_iff (leb 1 n) (leb n 24)).0 ((and-eq-true_iff (leb 1 n && leb n 24) (said ns)).0 h).0 in
    (omega (arith, leb-true 1 n here.0, e), omega (arith, leb-true n 24 here.1, e))
above k (n ∷ ns) h (Memᴰ.tail inside) = above k ns ((and-eq-true_iff (leb 1 n && leb n 24) (said ns)).0 h).1 inside

fits : {A : Type 0} (ns : List ℕ) (most : ℕ) (o : Outcome A) → said ns ≡ true → Refuses ns most o → Fits o
fits ns most o known refuses number place is =
    let said = above number ns known (refuses.number number place is) in (said.0, omega (arith, said.1))

-- what a run with a word that is not 0 returns and leaves, by the two cases of its outcome
module _ {A R M : Type 0} (kind : Kind R) (shows : Outcome A → R) (is : Result kind shows) (put : A → M → M) (m : M) (ns : List ℕ) (most : ℕ) where
  record Refusing (r : R) (m' : M) : Type 0 where
    pub known : Memᴰ (kind.refusal r % 256) ns × (kind.refusal r / 256 ≤ most)
    pub blank : r ≡ kind.blank (kind.refusal r)
    pub spared : m' ≡ m

  refusing : (r : R) (m' : M) (o : Outcome A) → Refuses ns most o → Fits o → r ≡ shows o → m' ≡ left put o m → (kind.refusal r ≡ 0 → ⊥) → Refusing r m'
  refusing r m' (accepted a) refuses held shown kept some = absurd (some (ap kind.refusal shown ∙ is.worded (accepted a)))
  refusing r m' (refused number place) refuses held shown kept some =
      let told : kind.refusal r ≡ word {A = A} (refused number place) = ap kind.refusal shown ∙ is.worded (refused number place) in
      let parts = word_parts A number place (held number place refl).1 in
      let low = refuses.place number place refl in
      record {
        known = (
          Memᴰ.cast (ap (λ (w : ℕ). w % 256) told ∙ parts.0) (refuses.number number place refl),
          le_trans (le_of_eq (ap (λ (w : ℕ). w / 256) told)) (le_trans parts.1 low),
        );
        blank = shown ∙ is.blanked number place ∙ ap kind.blank (sym told);
        spared = kept;
      }

module _ {A R M : Type 0} (kind : Kind R) (shows : Outcome A → R) (is : Result kind shows) (put : A → M → M) {ns : List ℕ} {most : ℕ} {due : Outcome A} {m : M} where
  pub flat : said ns ≡ true → Refuses ns most due → Flat kind ns most due m (λ r m'. Fulfils (λ (r : R). r) shows put due r m m')
  flat numbers refuses =
      let held = fits ns most due numbers refuses in
      let of : (r : R) (m' : M) → Fulfils (λ (r : R). r) shows put due r m m' → (kind.refusal r ≡ 0 → ⊥) → Refusing kind shows is put m ns most r m' =
      λ r m' f. refusing kind shows is put m ns most r m' due refuses held f.answer f.memory in
      record {
        one = decided (λ (r : R). r) shows put due m (λ r s e. e);
        word = λ r m' f. subst (Word due) (sym (ap kind.refusal f.answer ∙ is.worded due)) (word_tells due held);
        refusals = λ r m' f some. (of r m' f some).known;
        blank = λ r m' f some. (of r m' f some).blank;
        spared = λ r m' f some. (of r m' f some).spared;
      }

module _ {A R : Type 0} (kind : Kind R) (result : Outcome A → R) (is : Result kind result) {ns : List ℕ} {most : ℕ} {due : Outcome A} where
  pub returns : said ns ≡ true → Refuses ns most due → Returns kind ns most result due
  returns numbers refuses =
      let held = fits ns most due numbers refuses in
      let of : (r : R) → r ≡ result due → (kind.refusal r ≡ 0 → ⊥) → Refusing kind result is (λ (a : A) (u : Unit {0}). u) tt ns most r tt =
      λ r f. refusing kind result is (λ (a : A) (u : Unit {0}). u) tt ns most r tt due refuses held f refl in
      record {
        one = λ r s m m' f g. (f ∙ sym g, refl);
        word = λ r m f. subst (Word due) (sym (ap kind.refusal f ∙ is.worded due)) (word_tells due held);
        refusals = λ r m f some. (of r f some).known;
        blank = λ r m f some. (of r f some).blank;
        spared = λ r m f some. refl;
      }

-- ---- a word of 0 is an accepted outcome, and its result stands in the memory
module _ {A R M : Type 0} (kind : Kind R) (shows : Outcome A → R) (put : A → M → M) (due : Outcome A) (r : R) (m m' : M) where
  pub returned : {ns : List ℕ} {most : ℕ} → Flat kind ns most due m (λ r m'. Fulfils (λ (r : R). r) shows put due r m m')
      → Fulfils (λ (r : R). r) shows put due r m m' → kind.refusal r ≡ 0
      → (a : A) × ((due ≡ accepted a) × ((r ≡ shows (accepted a)) × (m' ≡ put a m)))
  returned flat f zero =
      let a = (flat.word r m' f).accepts.0 zero in
      (a.0, (a.1, (f.answer ∙ ap shows a.1, f.memory ∙ ap (λ (o : Outcome A). left put o m) a.1)))

-- ---- what stands in front, and how many
pub front_bytes : (bs m m' : List ℕ) (N : ℕ) → m' ≡ written bs m → length bs ≡ N → take N m' ≡ bs
front_bytes bs m m' N is long = ap₂ take (sym long) is ∙ take-append_seam bs (drop (length bs) m)

pub count_value : {A : Type 0} (es : List A) (r : NumberResult) → r ≡ count_of (accepted es) → length es ≡ r.value
unfolding number_result
count_value es r is = sym (ap (λ (r : NumberResult). r.value) is)
