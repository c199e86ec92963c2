-- `day::main` is safe: what was put lies within the buffer. Assumes nothing.
use Rattle.text.proofs.Places.{put-counts}
use Rattle.day.proofs.main.Goals as goal

pub slice_bounds-out-end : goal.slice_bounds-out-end
slice_bounds-out-end c = (put-counts _ _ _ _ c.report-end.ensures).0

pub slice_bounds-write_all-end : goal.slice_bounds-write_all-end
slice_bounds-write_all-end c = (put-counts _ _ _ _ c.report-end.ensures).1
