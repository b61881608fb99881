-- The starred cases hold: each is computed. Assumes nothing.
use mathlib.Core.Path.{refl}
use Rattle.tree.specs.Words.{element_at, position_at}
use Rattle.rows.specs.Rows.{parent_kind, number_of}
use Rattle.prism.specs.Elements.{prism_to, neighbour}
use Rattle.leaves.specs.Calls.{walked}
use Rattle.adaption.specs.Adaption.{every, joined}
use Rattle.shares.specs.Shares.{total, largest}
use Rattle.format.specs.File.{runs_in, run_bytes}
use Rattle.format.specs.Reading.{fits, leaves_from, end_from, sound_from}
use Rattle.promises.specs.Starred.{AllHold, starred}

pub starred_hold : AllHold starred
unfolding starred element_at position_at prism_to neighbour parent_kind number_of every joined total largest walked runs_in run_bytes fits leaves_from end_from sound_from
starred_hold =
    (refl, (refl, (refl, (refl, (refl, (refl, (refl, (refl, (refl, (refl, (refl, (refl, (refl, (refl, (refl, (refl, (refl, (refl, (refl, (refl, (refl, (refl, (refl, tt)))))))))))))))))))))))
