-- Document 01, "Refusal numbers": "A refusal returns its number and a place." "The right form for each place": "For each answer that is an enum,
-- a definition gives this paper's number and values for each of the enum's cases, and the promises use that definition." Definitions only.
--
--   number_of r, place_of r   the paper's number, and the place
--   refusal_text r            the bytes by which a refusal prints itself, as `refused 23 place 7`
--   outcome_of r              the outcome that a call's result stands for
--   order_of c                the paper's word for how two compare: equal is same
--   ordering_of r             the outcome that an order of two stands for
--
-- Assumes nothing.
use Rattle.std.specs.Prelude.{List, ◌++◌, ℕ, codes}
use Rattle.std.specs.Fmt.{decimal}
use Rattle.std.specs.declared.result.Result.{Result}
use Rattle.std.specs.declared.result.Result.TheVariants.{Ok, Err}
use Rattle.std.specs.declared.cmp.Ordering.{Ordering}
use Rattle.std.specs.declared.cmp.Ordering.TheVariants as cmp
use Rattle.paper.specs.declared.Refusal.{Refusal}
use Rattle.paper.specs.declared.Refusal.TheVariants.{LevelTooHigh, OffGrid, NoType, OutsideRoot, NoPosition, LevelTooLow, TooSmall, NumberTooLarge, LastOne, NoNeighbour, UnfitColumns, NotCovered, NoMark, NoRoom, TooManyLeaves, NoWeight, OutOfRange, NoTag, EndsEarly, NotShortest, UnfitRuns, BytesLeft, UnfitField, FarCorner}
use Rattle.paper.specs.Outcome.{Outcome, accepted, refused, mapped, Order, less, same, greater}

abbrev pub number_of : Refusal → ℕ
number_of (LevelTooHigh place) = 1
number_of (OffGrid place) = 2
number_of (NoType place) = 3
number_of (OutsideRoot place) = 4
number_of (NoPosition place) = 5
number_of (LevelTooLow place) = 6
number_of (TooSmall place) = 7
number_of (NumberTooLarge place) = 8
number_of (LastOne place) = 9
number_of (NoNeighbour place) = 10
number_of (UnfitColumns place) = 11
number_of (NotCovered place) = 12
number_of (NoMark place) = 13
number_of (NoRoom place) = 14
number_of (TooManyLeaves place) = 15
number_of (NoWeight place) = 16
number_of (OutOfRange place) = 17
number_of (NoTag place) = 18
number_of (EndsEarly place) = 19
number_of (NotShortest place) = 20
number_of (UnfitRuns place) = 21
number_of (BytesLeft place) = 22
number_of (UnfitField place) = 23
number_of (FarCorner place) = 24

abbrev pub place_of : Refusal → ℕ
place_of (LevelTooHigh place) = place
place_of (OffGrid place) = place
place_of (NoType place) = place
place_of (OutsideRoot place) = place
place_of (NoPosition place) = place
place_of (LevelTooLow place) = place
place_of (TooSmall place) = place
place_of (NumberTooLarge place) = place
place_of (LastOne place) = place
place_of (NoNeighbour place) = place
place_of (UnfitColumns place) = place
place_of (NotCovered place) = place
place_of (NoMark place) = place
place_of (NoRoom place) = place
place_of (TooManyLeaves place) = place
place_of (NoWeight place) = place
place_of (OutOfRange place) = place
place_of (NoTag place) = place
place_of (EndsEarly place) = place
place_of (NotShortest place) = place
place_of (UnfitRuns place) = place
place_of (BytesLeft place) = place
place_of (UnfitField place) = place
place_of (FarCorner place) = place

abbrev pub refusal_text : Refusal → List ℕ
refusal_text r = codes "refused " ++ (decimal (number_of r) ++ (codes " place " ++ decimal (place_of r)))

abbrev pub outcome_of : {A : Type 0} → Result A Refusal → Outcome A
outcome_of (Ok a) = accepted a
outcome_of (Err r) = refused (number_of r) (place_of r)

abbrev pub order_of : Ordering → Order
order_of cmp.Less = less
order_of cmp.Equal = same
order_of cmp.Greater = greater

abbrev pub ordering_of : Result Ordering Refusal → Outcome Order
ordering_of r = mapped order_of (outcome_of r)
