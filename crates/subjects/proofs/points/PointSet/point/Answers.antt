-- The point stands among the coordinates.
use Rattle.subjects.proofs.Values.{point_within}
use Rattle.subjects.proofs.points.PointSet.point.Goals as goal

pub slice_bounds-result-end : goal.slice_bounds-result-end
slice_bounds-result-end c =
    let s = c.args.self.now in
    point_within s.variables s.points c.args.number s.coordinates.now s.full c.requires
