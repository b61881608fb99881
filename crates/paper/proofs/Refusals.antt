-- A refusal's number and place determine it, and so an outcome determines the result that stands for it. Assumes nothing.
use Rattle.std.proofs.Common.{◌≡◌, ℕ, cond, eqb, sym, refl, ap, ap₂, ◌∙◌}
use Rattle.std.specs.declared.result.Result.{Result}
use Rattle.std.specs.declared.result.Result.TheVariants.{Ok, Err}
use Rattle.std.specs.declared.cmp.Ordering.{Ordering}
use Rattle.std.specs.declared.cmp.Ordering.TheVariants.{Less, Equal, Greater}
use Rattle.paper.specs.declared.Refusal.{Refusal}
use Rattle.paper.specs.declared.Refusal.TheVariants.{LevelTooHigh, OffGrid, NoType, OutsideRoot, NoPosition, LevelTooLow, TooSmall, NumberTooLarge, LastOne, NoNeighbour, UnfitColumns, NotCovered, NoMark, NoRoom, TooManyLeaves, NoWeight, OutOfRange, NoTag, EndsEarly, NotShortest, UnfitRuns, BytesLeft, UnfitField, FarCorner}
use Rattle.paper.specs.Outcome.{accepted, refused, mapped}
use Rattle.paper.specs.Refusals.{number_of, place_of, outcome_of, order_of, ordering_of}
use Rattle.paper.proofs.Scan.{accepted_same, refused_same}

-- the refusal of a number and a place
abbrev made : ℕ → ℕ → Refusal
made n p =
    cond (eqb n 1) (LevelTooHigh p) (
    cond (eqb n 2) (OffGrid p) (
    cond (eqb n 3) (NoType p) (
    cond (eqb n 4) (OutsideRoot p) (
    cond (eqb n 5) (NoPosition p) (
    cond (eqb n 6) (LevelTooLow p) (
    cond (eqb n 7) (TooSmall p) (
    cond (eqb n 8) (NumberTooLarge p) (
    cond (eqb n 9) (LastOne p) (
    cond (eqb n 10) (NoNeighbour p) (
    cond (eqb n 11) (UnfitColumns p) (
    cond (eqb n 12) (NotCovered p) (
    cond (eqb n 13) (NoMark p) (
    cond (eqb n 14) (NoRoom p) (
    cond (eqb n 15) (TooManyLeaves p) (
    cond (eqb n 16) (NoWeight p) (
    cond (eqb n 17) (OutOfRange p) (
    cond (eqb n 18) (NoTag p) (
    cond (eqb n 19) (EndsEarly p) (
    cond (eqb n 20) (NotShortest p) (
    cond (eqb n 21) (UnfitRuns p) (
    cond (eqb n 22) (BytesLeft p) (
    cond (eqb n 23) (UnfitField p) (
    FarCorner p)))))))))))))))))))))))

remade : (r : Refusal) → made (number_of r) (place_of r) ≡ r
remade (LevelTooHigh p) = refl
remade (OffGrid p) = refl
remade (NoType p) = refl
remade (OutsideRoot p) = refl
remade (NoPosition p) = refl
remade (LevelTooLow p) = refl
remade (TooSmall p) = refl
remade (NumberTooLarge p) = refl
remade (LastOne p) = refl
remade (NoNeighbour p) = refl
remade (UnfitColumns p) = refl
remade (NotCovered p) = refl
remade (NoMark p) = refl
remade (NoRoom p) = refl
remade (TooManyLeaves p) = refl
remade (NoWeight p) = refl
remade (OutOfRange p) = refl
remade (NoTag p) = refl
remade (EndsEarly p) = refl
remade (NotShortest p) = refl
remade (UnfitRuns p) = refl
remade (BytesLeft p) = refl
remade (UnfitField p) = refl
remade (FarCorner p) = refl

pub refusal_one : (r s : Refusal) → number_of r ≡ number_of s → place_of r ≡ place_of s → r ≡ s
refusal_one r s number place = sym (remade r) ∙ ap₂ made number place ∙ remade s

apart : {A : Type 0} (a : A) (n p : ℕ) → accepted a ≡ refused n p → ⊥
apart a n p e = cc

pub outcome_one : {A : Type 0} (r s : Result A Refusal) → outcome_of r ≡ outcome_of s → r ≡ s
outcome_one (Ok a) (Ok b) e = ap Ok (accepted_same a b e)
outcome_one (Ok a) (Err s) e = absurd (apart a (number_of s) (place_of s) e)
outcome_one (Err r) (Ok b) e = absurd (apart b (number_of r) (place_of r) (sym e))
outcome_one (Err r) (Err s) e = let both = refused_same (number_of r) (place_of r) (number_of s) (place_of s) e in ap Err (refusal_one r s both.0 both.1)

pub order_one : (a b : Ordering) → order_of a ≡ order_of b → a ≡ b
order_one Less Less e = refl
order_one Less Equal e = cc
order_one Less Greater e = cc
order_one Equal Less e = cc
order_one Equal Equal e = refl
order_one Equal Greater e = cc
order_one Greater Less e = cc
order_one Greater Equal e = cc
order_one Greater Greater e = refl

-- and so where the value is seen through a function that determines it
module _ {A B : Type 0} (g : A → B) (one : (a b : A) → g a ≡ g b → a ≡ b) where
  pub mapped_one : (r s : Result A Refusal) → mapped g (outcome_of r) ≡ mapped g (outcome_of s) → r ≡ s
  mapped_one (Ok a) (Ok b) e = ap Ok (one a b (accepted_same (g a) (g b) e))
  mapped_one (Ok a) (Err s) e = absurd (apart (g a) (number_of s) (place_of s) e)
  mapped_one (Err r) (Ok b) e = absurd (apart (g b) (number_of r) (place_of r) (sym e))
  mapped_one (Err r) (Err s) e =
      let both = refused_same (number_of r) (place_of r) (number_of s) (place_of s) e in ap Err (refusal_one r s both.0 both.1)

pub ordering_one : (r s : Result Ordering Refusal) → ordering_of r ≡ ordering_of s → r ≡ s
ordering_one = mapped_one order_of order_one
