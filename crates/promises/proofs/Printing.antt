-- What the calls that print leave in their buffers, and a stored order run again. Assumes nothing.
use mathlib.Core.Path.{◌≡◌, ap, ◌∙◌, sym, subst}
use mathlib.Core.List.{List}
use Prim.Native.Nat.{ℕ, ◌≤◌}
use native.Mathlib.Nat.{le_trans}
use lib.Dec.{ltb}
use lib.ListN.{length, take, drop}
use lib.Seq.{drop-append_seam}
use borrow.Author.Tests.{le-ltb, ltb-false}
use Rattle.paper.specs.Outcome.{accepted}
use Rattle.paper.specs.Memory.{written, Fulfils}
use Rattle.paper.specs.Refusals.{outcome_of}
use Rattle.std.specs.declared.result.Result.{Result}
use Rattle.paper.specs.declared.Refusal.{Refusal}
use Rattle.paper.proofs.Memory.{gave}
use Rattle.paper.proofs.Scan.{accepted_of, accepted_same}
use Rattle.text.specs.Text.{printing, Prints, longest_output}
use Rattle.orders.specs.Calls.{output, Answered}
use Rattle.orders.proofs.Promised as orders
use Rattle.converter.specs.Converter.{converted, longest_line}
use Rattle.converter.specs.Calls.{Converts}
use Rattle.converter.proofs.Promised as converter
use Rattle.results.specs.Results.{number_result}
use Rattle.results.specs.Laws.{numbers}
use Rattle.results.specs.declared.NumberResult.{NumberResult}
use Rattle.interface.specs.Calls.{count_of, OrderResult, ConvertResult}
use Rattle.promises.specs.OverC.{Flat}
use Rattle.promises.specs.Printing.{Holds, Printed, OfOrders, OfStored}
use Rattle.promises.proofs.Flat.{returned, front_bytes, count_value}
use Rattle.promises.proofs.OverC.{over_c}

holds : (t m m' : List ℕ) (N : ℕ) → length t ≤ length m → m' ≡ written t m → length t ≡ N → Holds t N m m'
holds t m m' N fits is long =
    record {
      many = sym long;
      room = subst (λ (n : ℕ). n ≤ length m) long fits;
      front = front_bytes t m m' N is long;
      behind = subst (λ (n : ℕ). drop n m' ≡ drop n m) long (ap (drop (length t)) is ∙ drop-append_seam t (drop (length t) m));
    }

-- the contract of the function over C, for the bytes t
abbrev Returned : List ℕ → NumberResult → List ℕ → List ℕ → Type 0
Returned t r m m' = Fulfils (λ (r : NumberResult). r) count_of written (printing t (length m)) r m m'

module _ (t m m' : List ℕ) where
  of_bytes : (bs : List ℕ) (N : ℕ) → printing t (length m) ≡ accepted bs → m' ≡ written bs m → length bs ≡ N → Holds t N m m'
  of_bytes bs N is kept long =
      let a = accepted_of (ltb (length m) (length t)) 14 (length t) (accepted t) bs is in
      let same : bs ≡ t = sym (accepted_same t bs a.1) in
      holds t m m' N (ltb-false (length m) (length t) a.0) (kept ∙ ap (λ (u : List ℕ). written u m) same) (ap length (sym same) ∙ long)

  front : (N : ℕ) (r : Result ℕ Refusal) → Prints t r m m' → outcome_of r ≡ accepted N → Holds t N m m'
  front N r f e =
      let a = gave outcome_of length written (printing t (length m)) r m m' N f e in
      of_bytes a.0 N a.1.0 a.1.1.1 a.1.1.0

  front_over_c : {ns : List ℕ} {most : ℕ} (r : NumberResult) → Flat numbers ns most (printing t (length m)) m (λ r m'. Returned t r m m')
      → Returned t r m m' → r.refusal ≡ 0 → Holds t r.value m m'
  front_over_c r flat f zero =
      let a = returned numbers count_of written (printing t (length m)) r m m' flat f zero in
      of_bytes a.0 r.value a.1.0 a.1.1.1 (count_value a.0 r a.1.1.0)

  module _ (fits : length t ≤ length m) where
    room : printing t (length m) ≡ accepted t
    room = simp (le-ltb (length m) (length t) fits)

    answers : (r : Result ℕ Refusal) → Prints t r m m' → outcome_of r ≡ accepted (length t)
    answers r f = f.answer ∙ simp (le-ltb (length m) (length t) fits)

    answers_over_c : (r : NumberResult) → Returned t r m m' → r.refusal ≡ 0
    unfolding number_result
    answers_over_c r f = ap (λ (q : NumberResult). q.refusal) (f.answer ∙ ap count_of room)

orders_printed : Printed output longest_output Answered OrderResult
orders_printed =
    record {
      in_memory = λ input N r m m'. front (output input) m m' N r;
      over_c = λ input r m m'. front_over_c (output input) m m' r (over_c.on_orders input m);
      enough = λ input r m m' f long. answers (output input) m m' (le_trans ((orders.promised).room input) long) r f;
      enough_over_c = λ input r m m' f long. answers_over_c (output input) m m' (le_trans ((orders.promised).room input) long) r f;
    }

stored_printed : Printed converted longest_line Converts ConvertResult
stored_printed =
    record {
      in_memory = λ input N r m m'. front (converted input) m m' N r;
      over_c = λ input r m m'. front_over_c (converted input) m m' r (over_c.on_stored input m);
      enough = λ input r m m' f long. answers (converted input) m m' (le_trans ((converter.promised).room input) long) r f;
      enough_over_c = λ input r m m' f long. answers_over_c (converted input) m m' (le_trans ((converter.promised).room input) long) r f;
    }

pub of_orders : OfOrders
of_orders = record { promised = orders.promised; printed = orders_printed }

pub of_stored : OfStored
of_stored =
    record {
      promised = converter.promised;
      printed = stored_printed;
      rerun = λ s f is N N₂ r r₂ m m' n n' c e a e₂.
          subst (λ (t : List ℕ). Holds t N₂ n n') (ap output (stored_printed.in_memory s N r m m' c e).front ∙ ((converter.promised).rewrites s f is).prints)
          (orders_printed.in_memory (take N m') N₂ r₂ n n' a e₂);
      rerun_over_c = λ s f is r r₂ m m' n n' c e a e₂.
          subst (λ (t : List ℕ). Holds t r₂.value n n')
          (ap output (stored_printed.over_c s r m m' c e).front ∙ ((converter.promised).rewrites s f is).prints)
          (orders_printed.over_c (take r.value m') r₂ n n' a e₂);
    }
