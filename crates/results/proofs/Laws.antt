-- A word tells its outcome, and each result is of its kind. Assumes nothing.
use mathlib.Core.Path.{◌≡◌, refl, ap, ◌∙◌, sym, subst}
use Prim.Native.Nat.{ℕ, ◌+◌, ◌*◌, ◌/◌, ◌%◌, ◌^◌, ◌≤◌, ◌<◌}
use native.Mathlib.Nat.{mod-le}
use native.Mathlib.Omega.{arith}
use Rattle.paper.specs.Outcome.{Outcome, accepted, refused, mapped}
use Rattle.paper.proofs.Scan.{never}
use Rattle.results.specs.Results.{word, line_result, triangle_result, prism_result, number_result, truth_result, compare_result, pass_result, grid_result, point_result}
use Rattle.results.specs.Laws.{Kind, lines, triangles, prisms, numbers, comparisons, points, grids, words, Word, Shown}

-- f gives the results of a kind: the word is that of the outcome, and on a refusal every other field is 0
pub record Result {A R : Type 0} (kind : Kind R) (result : Outcome A → R) : Type 0 where
  pub worded : (o : Outcome A) → kind.refusal (result o) ≡ word o
  pub blanked : (number place : ℕ) → result (refused number place) ≡ kind.blank (word {A = A} (refused number place))

-- what a word can hold
abbrev pub Fits : {A : Type 0} → Outcome A → Type 0
Fits o = (number place : ℕ) → o ≡ refused number place → (1 ≤ number) × (number < 256)

low_place : (place : ℕ) → place < 2 ^ 56 → place % 2 ^ 56 ≡ place
low_place place low = omega arith

pub word_tells : {A : Type 0} (o : Outcome A) → Fits o → Word o (word o)
word_tells {A} (accepted a) fits =
    record {
      accepts = (λ e. (a, refl), λ found. refl);
      number = λ number place e. never a number place (sym e);
      place = λ number place e low. never a number place (sym e);
    }
word_tells {A} (refused k at) fits =
    record {
      accepts = (λ e. absurd (not_none e), λ found. never found.0 k at found.1);
      number = λ number place e. low_number ∙ ap number_of e;
      place = λ number place e low. high_place (subst (λ (i : ℕ). i < 2 ^ 56) (sym (ap place_of e)) low) ∙ ap place_of e;
    }
  where
    held : (1 ≤ k) × (k < 256)
    held = fits k at refl

    number_of : Outcome A → ℕ
    number_of (accepted a) = 0
    number_of (refused m j) = m

    place_of : Outcome A → ℕ
    place_of (accepted a) = 0
    place_of (refused m j) = j

    not_none : at % 2 ^ 56 * 256 + k ≡ 0 → ⊥
    not_none e = omega (arith, held.0)

    low_number : (at % 2 ^ 56 * 256 + k) % 256 ≡ k
    low_number = let narrow = held.1 in omega arith

    high_place : at < 2 ^ 56 → (at % 2 ^ 56 * 256 + k) / 256 ≡ at
    high_place below = let narrow = held.1 in let low = low_place at below in omega arith

-- a refusal's number is what it was, and its place no larger
pub word_parts : (A : Type 0) (number place : ℕ) → number < 256
    → (word {A = A} (refused number place) % 256 ≡ number) × (word {A = A} (refused number place) / 256 ≤ place)
word_parts A number place narrow = let low : place % 2 ^ 56 ≤ place = mod-le place (2 ^ 56) in (omega arith, omega arith)

-- ---- each kind
pub line_result_lem : Result lines line_result
unfolding line_result
line_result_lem = record { worded = λ o. refl; blanked = λ number place. refl }

pub triangle_result_lem : Result triangles triangle_result
unfolding triangle_result
triangle_result_lem = record { worded = λ o. refl; blanked = λ number place. refl }

pub prism_result_lem : Result prisms prism_result
unfolding prism_result
prism_result_lem = record { worded = λ o. refl; blanked = λ number place. refl }

pub number_result_lem : Result numbers number_result
unfolding number_result
number_result_lem = record { worded = λ o. refl; blanked = λ number place. refl }

pub truth_result_lem : Result numbers truth_result
unfolding truth_result
truth_result_lem = record { worded = λ o. refl; blanked = λ number place. refl }

pub compare_result_lem : Result comparisons compare_result
unfolding compare_result
compare_result_lem = record { worded = λ o. refl; blanked = λ number place. refl }

pub point_result_lem : Result points point_result
unfolding point_result
point_result_lem = record { worded = λ o. refl; blanked = λ number place. refl }

pub grid_result_lem : Result grids grid_result
unfolding grid_result
grid_result_lem = record { worded = λ o. refl; blanked = λ number place. refl }

pub pass_result_lem : Result words pass_result
unfolding pass_result
pass_result_lem = record { worded = λ o. refl; blanked = λ number place. refl }

-- ---- what is shown of an outcome has its word
mapped_word : {A B : Type 0} (g : A → B) (o : Outcome A) → word (mapped g o) ≡ word o
mapped_word g (accepted a) = refl
mapped_word g (refused number place) = refl

pub shown_result : {A B R : Type 0} (kind : Kind R) (result : Outcome B → R) (g : A → B) → Result kind result
    → Result kind (λ (o : Outcome A). result (mapped g o))
shown_result kind result g is = record { worded = λ o. is.worded (mapped g o) ∙ mapped_word g o; blanked = is.blanked }

-- ---- what an accepted outcome's result holds
pub shown : Shown
unfolding line_result triangle_result prism_result number_result truth_result compare_result point_result grid_result
shown =
    record {
      line = λ e. refl;
      triangle = λ e. refl;
      prism = λ e. refl;
      number = λ n. refl;
      yes = refl;
      no = refl;
      less_is = refl;
      same_is = refl;
      greater_is = refl;
      point = λ a. refl;
      grid = λ K N. refl;
    }
