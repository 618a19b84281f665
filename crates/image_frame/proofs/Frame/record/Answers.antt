use mathlib.Core.Path.{◌≡◌, ap, ap₂, ◌∙◌}
use mathlib.Core.List.{List}
use Prim.Native.Nat.{ℕ, suc, ◌+◌, ◌-◌, ◌≤◌, ◌<◌}
use native.Mathlib.Numerals.{add-one}
use native.Mathlib.Omega.{arith}
use lib.ListN.{length, take, drop}
use Rattle.image_frame.specs.Frame.{count_of, edge, record_in, IsFrame}
use Rattle.image_frame.proofs.Edges.{edge_less, edge-inside}
use Rattle.image_frame.proofs.Frame.record.Goals as goal

-- both ends of record k
record Ends (image : List ℕ) (k start end : ℕ) : Type 0 where
  rises : start ≤ end
  inside : end ≤ length image
  is : take (end - start) (drop start image) ≡ record_in image k

ends : {image : List ℕ} {k start end : ℕ} → IsFrame image → k < count_of image → start ≡ edge image k → end ≡ edge image (k + 1) → Ends image k start end
ends {image} {k} {start} {end} f h s e =
    let next : end ≡ edge image (suc k) = e ∙ ap (edge image) (add-one k) in
    record {
      rises = omega (arith, edge_less f k h);
      inside = omega (arith, edge-inside f (suc k) (omega arith));
      is = ap₂ (λ (a b : ℕ). take (b - a) (drop a image)) s next;
    }

ends_of : (c : goal.After-result-1) → Ends c.self.inside.image.now c.args.k c.edge_at-start.result c.edge_at-end.result
ends_of c = ends c.self.invariant.1 (rw c.self.view_is c.requires) c.edge_at-start.ensures c.edge_at-end.ensures

pub slice_bounds-result-count : goal.slice_bounds-result-count
slice_bounds-result-count c = (ends_of c).rises

pub slice_bounds-result-start : goal.slice_bounds-result-start
slice_bounds-result-start c = (ends_of c).rises

pub slice_bounds-result-end : goal.slice_bounds-result-end
slice_bounds-result-end c = (ends_of c).inside

pub returns : goal.returns
returns c =
    let e = ends c.self.invariant.1 (rw c.self.view_is c.requires) c.edge_at-start.ensures c.edge_at-end.ensures in
    e.is ∙ ap (λ (image : List ℕ). record_in image c.args.k) c.self.view_is
