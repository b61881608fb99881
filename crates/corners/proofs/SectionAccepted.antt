-- The call over a column of positions accepts exactly when the single call accepts every position, and entry k of the columns is then its point
-- at position k. Assumes nothing.
use mathlib.Core.Path.{◌≡◌, refl, sym, ap, ◌∙◌, subst}
use mathlib.Core.Bool.{not}
use mathlib.Core.List.{List, [], ◌∷◌, map}
use Prim.Native.Nat.{ℕ, zero, suc, ◌^◌, ◌<◌}
use native.Mathlib.Omega.{arith}
use lib.Dec.{leb, ltb}
use lib.ListN.{length, get_or, drop, length-map, get_or-append}
use lib.Seq.{ext_get_or}
use lib.Ieee.{Float, nan}
use borrow.Author.Tests.{ltb-false, leb-false, not-false}
use Rattle.paper.specs.Outcome.{accepted}
use Rattle.paper.specs.Memory.{written}
use Rattle.paper.proofs.Front.{written_length}
use Rattle.paper.proofs.Scan.{accepted_same, accepted_of, scan_accepted}
use Rattle.tree.specs.Words.{element_at}
use Rattle.prism.specs.Elements.{prism}
use Rattle.prism.specs.Points as prisms
use Rattle.positions.specs.Positions.{position_fault}
use Rattle.positions.proofs.Checking.{all_inside, each_inside}
use Rattle.corners.specs.declared.Root.{Root}
use Rattle.corners.specs.declared.Point.{Point}
use Rattle.corners.specs.CornerPoints.{root_within, point_at, corner_point}
use Rattle.corners.specs.Section.{PointColumns, equal_lengths, points, corner_points, filled}
use Rattle.corners.specs.SectionLaws.{Equal, Passes, past, OneByOne, Drawn}
use Rattle.corners.specs.Inner.{Tested}
use Rattle.corners.proofs.Call.{point_accepted}
use Rattle.corners.proofs.Filling.{equal}
use Rattle.corners.proofs.SectionCall.{section_accepted}

-- an entry of a list under a map; what would stand past the ends is never read
map_at : {A B : Type 0} (f : A → B) (es : List A) (k : ℕ) (a : A) (b : B) → k < length es → get_or (map f es) k b ≡ f (get_or es k a)
map_at f [] k a b inside = absurd (omega arith)
map_at f (e ∷ es) zero a b inside = refl
map_at f (e ∷ es) (suc k) a b inside = map_at f es k a b (omega arith)

module _ (l : ℕ) (ps : List ℕ) (i : ℕ) (r : Root) (m : PointColumns) where
  -- ---- accepted
  record Taken (found : List Point) : Type 0 where
    tested : Tested l ps i r m
    are : found ≡ points l ps i r

  taken : (found : List Point) → corner_points l ps i r m ≡ accepted found → Taken found
  unfolding corner_points
  taken found h =
      let columns = accepted_of (not (equal_lengths ps m)) 11 0 _ found h in
      let level = accepted_of (ltb 21 l) 1 0 _ found columns.1 in
      let positions = scan_accepted (position_fault l) 0 ps _ found level.1 in
      let number = accepted_of (leb 6 i) 8 0 _ found positions.1 in
      let root = accepted_of (not (root_within r)) 24 0 _ found number.1 in
      record {
        tested =
            record {
              equal = equal ps m (not-false _ columns.0);
              shallow = ltb-false 21 l level.0;
              inside = positions.0;
              numbered = leb-false 6 i number.0;
              near = not-false _ root.0;
            };
        are = sym (accepted_same _ _ root.1);
      }

  -- a point by its index
  at_index : (k : ℕ) → k < length ps → get_or (points l ps i r) k past ≡ point_at r (prisms.corner 21 (element_at prism l (get_or ps k 0)) i)
  at_index k inside = map_at (λ p. point_at r (prisms.corner 21 (element_at prism l p) i)) ps k 0 past inside

  one_by_one : (found : List Point) → Taken found → OneByOne l ps i r found
  one_by_one found t =
      record {
        as_many = ap length t.are ∙ length-map ps _;
        single = λ k inside.
            point_accepted l (get_or ps k 0) i r t.tested.shallow (each_inside l ps t.tested.inside k inside) t.tested.numbered t.tested.near
            ∙ ap accepted (sym (at_index k inside) ∙ ap (λ (all : List Point). get_or all k past) (sym t.are));
      }

  pub accepts_there : (found : List Point) → corner_points l ps i r m ≡ accepted found → Equal ps m × (Passes l i r × OneByOne l ps i r found)
  accepts_there found h =
      let t = taken found h in (
        t.tested.equal,
        (record { shallow = t.tested.shallow; numbered = t.tested.numbered; near = t.tested.near }, one_by_one found t),
      )

  -- a single call that accepts has a position of the level
  position_of : (p : ℕ) (a : Point) → corner_point l p i r ≡ accepted a → p < 8 ^ l
  unfolding corner_point
  position_of p a h =
      let level = accepted_of (ltb 21 l) 1 0 _ a h in
      leb-false (8 ^ l) p (accepted_of (leb (8 ^ l) p) 5 0 _ a level.1).0

  pub accepts_back : (found : List Point) → Equal ps m × (Passes l i r × OneByOne l ps i r found) → corner_points l ps i r m ≡ accepted found
  accepts_back found (long, (passes, each)) =
      let below : (k : ℕ) → k < length ps → get_or ps k 0 < 8 ^ l = λ k inside. position_of (get_or ps k 0) _ (each.single k inside) in
      let t : Tested l ps i r m =
      record { equal = long; shallow = passes.shallow; inside = all_inside l ps below; numbered = passes.numbered; near = passes.near } in
      let entries : (k : ℕ) → k < length (points l ps i r) → get_or (points l ps i r) k past ≡ get_or found k past =
      λ k less.
      let inside : k < length ps = subst (λ (n : ℕ). k < n) (length-map ps _) less in
      at_index k inside
      ∙ accepted_same _ _ (sym (point_accepted l (get_or ps k 0) i r passes.shallow (below k inside) passes.numbered passes.near) ∙ each.single k inside) in
      section_accepted l ps i r m t ∙ ap accepted (ext_get_or past (points l ps i r) found (length-map ps _ ∙ sym each.as_many) entries)

  -- ---- what is left in the columns
  in_column : (coordinate : Point → Float) (column : List Float) (found : List Point) → length column ≡ length ps → length found ≡ length ps
      → (length (written (map coordinate found) column) ≡ length ps)
      × ((k : ℕ) → k < length ps → coordinate (get_or found k past) ≡ get_or (written (map coordinate found) column) k nan)
  in_column coordinate column found long many =
      let all : length (map coordinate found) ≡ length ps = length-map found coordinate ∙ many in (
        written_length (map coordinate found) column (omega (arith, all)) ∙ long,
        λ k inside.
            sym (get_or-append (map coordinate found) (drop (length (map coordinate found)) column) nan k (omega (arith, all))
            ∙ map_at coordinate found k past nan (omega (arith, many))),
      )

  pub drawn : (found : List Point) → corner_points l ps i r m ≡ accepted found → Drawn l ps i r (filled found m)
  drawn found h =
      let both = accepts_there found h in
      let long = both.0 in
      let each = both.1.1 in
      let along_x = in_column (λ a. a.x) m.xs found long.in_xs each.as_many in
      let along_y = in_column (λ a. a.y) m.ys found long.in_ys each.as_many in
      let along_z = in_column (λ a. a.z) m.zs found long.in_zs each.as_many in
      record {
        long = record { in_xs = along_x.0; in_ys = along_y.0; in_zs = along_z.0 };
        single = λ k inside.
            each.single k inside ∙ λ t. accepted (record { x = along_x.1 k inside t; y = along_y.1 k inside t; z = along_z.1 k inside t });
      }
