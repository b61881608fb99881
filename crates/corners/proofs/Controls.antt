-- Closed cases of the call, computed: the paper's marked point, and a point that is zero between numbers of both signs. Assumes nothing.
use mathlib.Core.Path.{◌≡◌, refl}
use mathlib.Core.Bool.{false}
use lib.IntN.{ℤ, pos, negsuc}
use lib.Ieee.{Float, fin, round}
use Rattle.paper.specs.Outcome.{accepted, refused}
use Rattle.tree.specs.Words.{element_at}
use Rattle.prism.specs.Elements.{prism_to}
use Rattle.corners.specs.declared.Corner.{Corner}
use Rattle.corners.specs.declared.Root.{Root}
use Rattle.corners.specs.declared.Point.{Point}
use Rattle.corners.specs.CornerPoints.{coordinate, corner_point}

abbrev corner : ℤ → ℤ → ℤ → Corner
corner x y z = record { x = x; y = y; z = z }

abbrev point : Float → Float → Float → Point
point x y z = record { x = x; y = y; z = z }

-- "Root (0,0,0), (100,0,0), (100,100,0) and the same at height 40"
abbrev marked : Root
marked =
    record {
      v0 = corner (pos 0) (pos 0) (pos 0);
      v1 = corner (pos 100) (pos 0) (pos 0);
      v2 = corner (pos 100) (pos 100) (pos 0);
      v3 = corner (pos 0) (pos 0) (pos 40);
      v4 = corner (pos 100) (pos 0) (pos 40);
      v5 = corner (pos 100) (pos 100) (pos 40);
    }

-- ".. corner 1 of position 6 at level 1 is (50, 50, 20)": 50 is 25·2, 20 is 5·4
marked_point : corner_point 1 6 1 marked ≡ accepted (point (fin false 25 (pos 1)) (fin false 25 (pos 1)) (fin false 5 (pos 2)))
unfolding corner_point element_at prism_to coordinate round
marked_point = refl

-- half way between -100 and 100, three times: +0, not -0
across : Root
across =
    record {
      v0 = corner (negsuc 99) (negsuc 99) (negsuc 99);
      v1 = corner (pos 100) (pos 100) (pos 100);
      v2 = corner (pos 0) (pos 0) (pos 0);
      v3 = corner (pos 0) (pos 0) (pos 0);
      v4 = corner (pos 0) (pos 0) (pos 0);
      v5 = corner (pos 0) (pos 0) (pos 0);
    }

zero_is_plus : corner_point 1 0 1 across ≡ accepted (point (fin false 0 (pos 0)) (fin false 0 (pos 0)) (fin false 0 (pos 0)))
unfolding corner_point element_at prism_to coordinate round across
zero_is_plus = refl

-- "1, 5, 8, 24": each where the later ones apply too
wide : Root
wide =
    record {
      v0 = corner (pos 0) (pos 0) (pos 0);
      v1 = corner (pos 0) (pos 0) (pos 0);
      v2 = corner (pos 0) (pos 0) (pos 0);
      v3 = corner (pos 0) (pos 0) (pos 0);
      v4 = corner (pos 0) (pos 0) (pos 0);
      v5 = corner (pos 0) (pos 0) (negsuc 512);
    }

level_first : corner_point 22 0 6 wide ≡ refused 1 0
unfolding corner_point wide
level_first = refl

then_position : corner_point 1 8 6 wide ≡ refused 5 0
unfolding corner_point wide
then_position = refl

then_corner : corner_point 1 7 6 wide ≡ refused 8 0
unfolding corner_point wide
then_corner = refl

then_root : corner_point 1 7 5 wide ≡ refused 24 0
unfolding corner_point wide
then_root = refl
