-- What is promised of the call over a column of positions, as statements; `proofs/SectionAccepted.antt`, `SectionPlaces.antt` and
-- `SectionRefused.antt` prove them. Definitions only.
--
--   Equal ps m         the four columns are of one length
--   Passes l i r       "level, corner number and root corners pass"
--   past               what is read past the end of a list of points; no statement says anything of it, nor of the NaN in `entry`
--   OneByOne           "The result equals the single calls one by one": as many points as positions, and point k is what the single call answers
--                      at position k
--   FirstBad l ps k    position k is not below 8^l, and all before it are
--   entry m k          the point that stands in entry k of the columns m
--   Drawn              entry k of the columns is what the single call answers at position k, and the columns have the positions' length: promised of an
--                      accepted call in `promises/specs/Demand2.antt`
--   SectionLaws
--     accepts          the call accepts exactly when the columns are of one length, the numbers pass and the single call accepts every position, and
--                      with those points; "Empty columns are accepted once level, corner number and root corners pass" is the case of no position
--     unequal          "columns of different lengths are refused first", and with place 0
--     place            "the place of a 5 is the first bad index", whatever the corner number and the root are
--     as_single        "Checks run in the single call's order": the number of any refusal of columns of one length is the single call's at the
--                      position that the place names, or, where there is none, at the position 0 itself, which every level has
--     unplaced         and its place is 0, but for a 5
--
-- Assumes nothing.
use Rattle.std.specs.Prelude.{◌≡◌, ◌↔◌, true, List, ℕ, ◌^◌, ◌≤◌, ◌<◌, length, get_or}
use Rattle.std.specs.Float.{nan}
use Rattle.paper.specs.Outcome.{accepted, refused}
use Rattle.tree.specs.Anchors.{HIGHEST}
use Rattle.prism.specs.Elements.{CHILDREN, CORNERS}
use Rattle.corners.specs.declared.Root.{Root}
use Rattle.corners.specs.declared.Point.{Point}
use Rattle.corners.specs.CornerPoints.{root_within, corner_point}
use Rattle.corners.specs.Section.{PointColumns, corner_points}

pub record Equal (ps : List ℕ) (m : PointColumns) : Type 0 where
  pub in_xs : length m.xs ≡ length ps
  pub in_ys : length m.ys ≡ length ps
  pub in_zs : length m.zs ≡ length ps

pub record Passes (l i : ℕ) (r : Root) : Type 0 where
  pub shallow : l ≤ HIGHEST
  pub numbered : i < CORNERS
  pub near : root_within r ≡ true

abbrev pub past : Point
past = record { x = nan; y = nan; z = nan }

pub record OneByOne (l : ℕ) (ps : List ℕ) (i : ℕ) (r : Root) (found : List Point) : Type 0 where
  pub as_many : length found ≡ length ps
  pub single : (k : ℕ) → k < length ps → corner_point l (get_or ps k 0) i r ≡ accepted (get_or found k past)

pub record FirstBad (l : ℕ) (ps : List ℕ) (k : ℕ) : Type 0 where
  pub index : k < length ps
  pub bad : CHILDREN ^ l ≤ get_or ps k 0
  pub good_before : (j : ℕ) → j < k → get_or ps j 0 < CHILDREN ^ l

abbrev pub entry : PointColumns → ℕ → Point
entry m k = record { x = get_or m.xs k nan; y = get_or m.ys k nan; z = get_or m.zs k nan }

pub record Drawn (l : ℕ) (ps : List ℕ) (i : ℕ) (r : Root) (m : PointColumns) : Type 0 where
  pub long : Equal ps m
  pub single : (k : ℕ) → k < length ps → corner_point l (get_or ps k 0) i r ≡ accepted (entry m k)

pub record SectionLaws : Type 0 where
  pub accepts : (l : ℕ) (ps : List ℕ) (i : ℕ) (r : Root) (m : PointColumns) (found : List Point)
      → corner_points l ps i r m ≡ accepted found ↔ (Equal ps m × (Passes l i r × OneByOne l ps i r found))
  pub unequal : (l : ℕ) (ps : List ℕ) (i : ℕ) (r : Root) (m : PointColumns) (k : ℕ)
      → corner_points l ps i r m ≡ refused 11 k ↔ ((Equal ps m → ⊥) × (k ≡ 0))
  pub place : (l : ℕ) (ps : List ℕ) (i : ℕ) (r : Root) (m : PointColumns) (k : ℕ)
      → corner_points l ps i r m ≡ refused 5 k ↔ (Equal ps m × ((l ≤ HIGHEST) × FirstBad l ps k))
  pub as_single : (l : ℕ) (ps : List ℕ) (i : ℕ) (r : Root) (m : PointColumns) (number k : ℕ) → Equal ps m
      → corner_points l ps i r m ≡ refused number k → corner_point l (get_or ps k 0) i r ≡ refused number 0
  pub unplaced : (l : ℕ) (ps : List ℕ) (i : ℕ) (r : Root) (m : PointColumns) (number k : ℕ) → Equal ps m
      → corner_points l ps i r m ≡ refused number k → (number ≡ 5 → ⊥) → k ≡ 0
