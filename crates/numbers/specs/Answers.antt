-- Document 01, "The right form for each place": "For each answer that is an enum, a definition gives this paper's number and
-- values for each of the enum's cases, and the promises use that definition."
--
--   found_of  the outcome that a number stands for, found or refused
--
-- Assumes nothing.
use Rattle.std.specs.declared.result.Result.{Result}
use Rattle.paper.specs.declared.Refusal.{Refusal}
use Rattle.paper.specs.Outcome.{Outcome, mapped}
use Rattle.paper.specs.Refusals.{outcome_of}
use Rattle.numbers.specs.Numbers.{Found, found}
use Rattle.numbers.specs.declared.Found as declared

abbrev pub found_of : Result declared.Found Refusal → Outcome Found
found_of r = mapped (λ (f : declared.Found). found f.value f.next) (outcome_of r)
