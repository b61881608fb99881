-- Document 01, "The right form for each place": "For each answer that is an enum, a definition gives this paper's number and
-- values for each of the enum's cases, and the promises use that definition." The same for the structs.
--
--   front_of    what stands in front of the runs, as the code's Head says it
--   head_of     the outcome that a Head, read or refused, stands for
--   spot_of     the spot that a Cursor stands for
--   Tells r s   the Sounding r tells how far a file is sound: s
--
-- Assumes nothing.
use Rattle.std.specs.Prelude.{◌≡◌}
use Rattle.std.specs.declared.result.Result.{Result}
use Rattle.paper.specs.declared.Refusal.{Refusal}
use Rattle.paper.specs.Outcome.{Outcome, mapped}
use Rattle.paper.specs.Refusals.{outcome_of}
use Rattle.leaves.specs.Leaves.{Spot, spot_at}
use Rattle.format.specs.Reading.{Head, head, Sounded}
use Rattle.sounding.specs.declared.Head as declared
use Rattle.sounding.specs.declared.Cursor.{Cursor}
use Rattle.sounding.specs.declared.Sounding.{Sounding}

abbrev pub front_of : declared.Head → Head
front_of h = head h.roots h.runs h.at

abbrev pub head_of : Result declared.Head Refusal → Outcome Head
head_of r = mapped front_of (outcome_of r)

abbrev pub spot_of : Cursor → Spot
spot_of c = spot_at c.root c.cell

pub record Tells (r : Sounding) (s : Sounded) : Type 0 where
  pub runs : r.runs ≡ s.walk.runs
  pub leaves : r.leaves ≡ s.walk.count
  pub come : spot_of r.come ≡ s.walk.come
  pub next : r.next ≡ s.walk.next
  pub fault : outcome_of r.fault ≡ s.fault
