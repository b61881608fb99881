-- The seven fields in turn, and what follows them: each way out of `read` is what the line is decided to be. Assumes nothing.
use mathlib.Core.Path.{◌≡◌, refl, ap, ap₂, ◌∙◌, sym}
use mathlib.Core.Bool.{Bool, true, false, not}
use mathlib.Core.List.{List}
use Prim.Native.Nat.{ℕ, ◌*◌, ◌%◌, ◌^◌, ◌≤◌}
use native.Mathlib.Omega.{arith}
use lib.Dec.{ltb}
use Rattle.std.specs.declared.result.Result.{Result}
use Rattle.std.specs.Result.{IsErrAnd}
use Rattle.std.proofs.lemmas.Result.{err_from_is_err_and}
use Rattle.paper.specs.declared.Refusal.{Refusal}
use Rattle.paper.specs.Outcome.{Outcome, accepted, refused, refuse_when_at, passed, fault_when}
use Rattle.paper.specs.Refusals.{number_of, place_of, outcome_of}
use Rattle.forms.specs.declared.Form.{Form}
use Rattle.fields.specs.Fields.{fields}
use Rattle.fields.specs.Inner.{next, closes}
use Rattle.leaves.specs.Leaves.{CHILDREN}
use Rattle.leaves.specs.Calls.{limit, out_of_range}
use Rattle.leaves.proofs.Starting.{count_exact}
use Rattle.tree.specs.Anchors.{HIGHEST}
use Rattle.forms.specs.Forms.{number_in, outside, form_in, read}
use Rattle.forms.specs.Inner.{taken, checked}
use Rattle.forms.proofs.Bounds.{Orderly, in_range_lem}
use Rattle.forms.proofs.Deciding.{Reading, reading_start, reading_unfit, reading_number, reading_outside, reading_step}

-- what a `?` returns
pub refused_out : {A : Type 0} {o : Outcome A} (e : Refusal) (r : Result A Refusal) → IsErrAnd r (λ (d : Refusal). d ≡ e)
    → refused (number_of e) (place_of e) ≡ o → outcome_of r ≡ o
refused_out e r is rest = let p = err_from_is_err_and r is in rw (p.1, p.2) rest

form_same : {a b c d e g h a' b' c' d' e' g' h' : ℕ} → a ≡ a' → b ≡ b' → c ≡ c' → d ≡ d' → e ≡ e' → g ≡ g' → h ≡ h'
    → ◌≡◌ {A = Form} (record { order = a; site = b; model = c; roots = d; level = e; leaves = g; shares = h })
    (record { order = a'; site = b'; model = c'; roots = d'; level = e'; leaves = g'; shares = h' })
form_same p q r t u w x = cc

-- a check without a fault passes
none_passed : (i : ℕ) → passed ≡ checked 0 i
none_passed i = refl

-- ---- field after field: order, site and model have no range
module _ (s : List ℕ) {x₁ e₁ a₂ : ℕ} (order : accepted (x₁, e₁) ≡ taken s 0 1) (p₂ : a₂ ≡ next s e₁) where
  two : Reading s a₂ e₁ 2
  two = reading_step (reading_start s) (omega arith) order refl (none_passed 1) p₂

  pub unfit_site : {a b : ℕ} → refused a b ≡ taken s a₂ 2 → refused a b ≡ read s
  unfit_site = reading_unfit two (omega arith)

  module _ {x₂ e₂ a₃ : ℕ} (site : accepted (x₂, e₂) ≡ taken s a₂ 2) (p₃ : a₃ ≡ next s e₂) where
    three : Reading s a₃ e₂ 3
    three = reading_step two (omega arith) site refl (none_passed 2) p₃

    pub unfit_model : {a b : ℕ} → refused a b ≡ taken s a₃ 3 → refused a b ≡ read s
    unfit_model = reading_unfit three (omega arith)

    module _ {x₃ e₃ a₄ : ℕ} (model : accepted (x₃, e₃) ≡ taken s a₃ 3) (p₄ : a₄ ≡ next s e₃) where
      four : Reading s a₄ e₃ 4
      four = reading_step three (omega arith) model refl (none_passed 3) p₄

      pub unfit_roots : {a b : ℕ} → refused a b ≡ taken s a₄ 4 → refused a b ≡ read s
      unfit_roots = reading_unfit four (omega arith)

      -- ---- roots, the highest level, shares and the level
      module _ {x₄ e₄ : ℕ} (roots : accepted (x₄, e₄) ≡ taken s a₄ 4) where
        range₄ : outside 4 (number_in (fields s) 4) (number_in (fields s) 4) (number_in (fields s) 5) ≡ fault_when (out_of_range x₄) 17 0
        range₄ = ap (λ (v : ℕ). fault_when (out_of_range v) 17 0) (sym (reading_number four (omega arith) roots))

        pub outside_roots : {a b : ℕ} → refused a b ≡ checked (fault_when (out_of_range x₄) 17 0) 4 → refused a b ≡ read s
        outside_roots = reading_outside four (omega arith) roots range₄

        module _ {a₅ : ℕ} (k₄ : passed ≡ checked (fault_when (out_of_range x₄) 17 0) 4) (p₅ : a₅ ≡ next s e₄) where
          five : Reading s a₅ e₄ 5
          five = reading_step four (omega arith) roots range₄ k₄ p₅

          pub unfit_highest : {a b : ℕ} → refused a b ≡ taken s a₅ 5 → refused a b ≡ read s
          unfit_highest = reading_unfit five (omega arith)

          module _ {x₅ e₅ : ℕ} (highest : accepted (x₅, e₅) ≡ taken s a₅ 5) where
            range₅ : outside 5 (number_in (fields s) 5) (number_in (fields s) 4) (number_in (fields s) 5) ≡ fault_when (ltb HIGHEST x₅) 1 0
            range₅ = ap (λ (v : ℕ). fault_when (ltb HIGHEST v) 1 0) (sym (reading_number five (omega arith) highest))

            pub outside_highest : {a b : ℕ} → refused a b ≡ checked (fault_when (ltb HIGHEST x₅) 1 0) 5 → refused a b ≡ read s
            outside_highest = reading_outside five (omega arith) highest range₅

            module _ {a₆ : ℕ} (k₅ : passed ≡ checked (fault_when (ltb HIGHEST x₅) 1 0) 5) (p₆ : a₆ ≡ next s e₅) where
              six : Reading s a₆ e₅ 6
              six = reading_step five (omega arith) highest range₅ k₅ p₆

              pub unfit_shares : {a b : ℕ} → refused a b ≡ taken s a₆ 6 → refused a b ≡ read s
              unfit_shares = reading_unfit six (omega arith)

              module _ {x₆ e₆ : ℕ} (shares : accepted (x₆, e₆) ≡ taken s a₆ 6) where
                range₆ : outside 6 (number_in (fields s) 6) (number_in (fields s) 4) (number_in (fields s) 5) ≡ fault_when (out_of_range x₆) 17 0
                range₆ = ap (λ (v : ℕ). fault_when (out_of_range v) 17 0) (sym (reading_number six (omega arith) shares))

                pub outside_shares : {a b : ℕ} → refused a b ≡ checked (fault_when (out_of_range x₆) 17 0) 6 → refused a b ≡ read s
                outside_shares = reading_outside six (omega arith) shares range₆

                module _ {a₇ : ℕ} (k₆ : passed ≡ checked (fault_when (out_of_range x₆) 17 0) 6) (p₇ : a₇ ≡ next s e₆) where
                  seven : Reading s a₇ e₆ 7
                  seven = reading_step six (omega arith) shares range₆ k₆ p₇

                  pub unfit_level : {a b : ℕ} → refused a b ≡ taken s a₇ 7 → refused a b ≡ read s
                  unfit_level = reading_unfit seven (omega arith)

                  module _ {x₇ e₇ : ℕ} (level : accepted (x₇, e₇) ≡ taken s a₇ 7) where
                    -- the numbers of the fields that matter later
                    is₄ : x₄ ≡ number_in (fields s) 4
                    is₄ = reading_number four (omega arith) roots

                    is₆ : x₆ ≡ number_in (fields s) 6
                    is₆ = reading_number six (omega arith) shares

                    is₇ : x₇ ≡ number_in (fields s) 7
                    is₇ = reading_number seven (omega arith) level

                    abbrev level_fault : ℕ → ℕ → ℕ → ℕ
                    level_fault v k highest = fault_when (ltb highest v) 23 (fault_when (ltb limit (k * CHILDREN ^ v)) 15 0)

                    range₇ : outside 7 (number_in (fields s) 7) (number_in (fields s) 4) (number_in (fields s) 5) ≡ level_fault x₇ x₄ x₅
                    range₇ =
                        ap₂ (λ (k l : ℕ). level_fault (number_in (fields s) 7) k l) (sym is₄) (sym (reading_number five (omega arith) highest))
                        ∙ ap (λ (v : ℕ). level_fault v x₄ x₅) (sym is₇)

                    pub outside_level : {a b : ℕ} → refused a b ≡ checked (level_fault x₇ x₄ x₅) 7 → refused a b ≡ read s
                    outside_level = reading_outside seven (omega arith) level range₇

                    -- ---- after the seventh field
                    module _ (k₇ : passed ≡ checked (level_fault x₇ x₄ x₅) 7) where
                      eight : Reading s (next s e₇) e₇ 8
                      eight = reading_step seven (omega arith) level range₇ k₇ refl

                      last : read s ≡ refuse_when_at (not (closes s e₇)) 23 8 (accepted (form_in (fields s)))
                      last = eight.scanned ∙ ap (λ (t : Bool). refuse_when_at (not t) 23 8 (accepted (form_in (fields s)))) (eight.come.closing (omega arith))

                      pub loose_end : closes s e₇ ≡ false → refused 23 8 ≡ read s
                      loose_end loose = sym (last ∙ simp loose)

                      orderly : Orderly (form_in (fields s))
                      orderly = in_range_lem (fields s) (λ j low high. eight.sound j low high)

                      -- the shift and the cast lose nothing
                      leaves_kept : x₄ * 2 ^ (3 * x₇) % 2 ^ 64 ≡ (form_in (fields s)).leaves
                      leaves_kept = ap₂ (λ (k l : ℕ). k * 2 ^ (3 * l) % 2 ^ 64) is₄ is₇ ∙ count_exact _ _ orderly.few_leaves

                      pub leaves_small : x₄ * 2 ^ (3 * x₇) % 2 ^ 64 ≤ limit
                      leaves_small = rw leaves_kept orderly.few_leaves

                      pub form_read : closes s e₇ ≡ true
                          → accepted
                          (
                          record {
                            order = x₁;
                            site = x₂;
                            model = x₃;
                            roots = x₄;
                            level = x₇;
                            leaves = x₄ * 2 ^ (3 * x₇) % 2 ^ 64;
                            shares = x₆;
                          }) ≡ read s
                      form_read whole =
                          ap accepted
                          (form_same (reading_number (reading_start s) (omega arith) order) (reading_number two (omega arith) site)
                          (reading_number three (omega arith) model) is₄ is₇ leaves_kept is₆)
                          ∙ sym (last ∙ simp whole)
