-- 02, U11, on a course: joins and syncs are light, as on a table alone.
use Prim.Native.Nat.{◌≤◌}
use native.Mathlib.Omega.{arith}
use lib.ListN.{length}
use Rattle.lists.specs.Differences.{differences}
use Rattle.lists.proofs.Cases.{cond_all}
use Rattle.lists.proofs.Differences.{differences_same}
use Rattle.table.specs.Served.{Served}
use Rattle.table.proofs.Light.{light_joins, light_syncs}
use Rattle.card.specs.Courses.{course_served, no_course}
use Rattle.courses.specs.Claims.{LightCourses}

pub light_courses : LightCourses
unfolding course_served
light_courses ts i b n m board =
    let same = differences_same (ts i) in (
      cond_all (λ (s : Served). differences (ts i) s.table ≤ 256) (no_course ts i) _ _ (omega arith) (light_joins (ts i) b n m (length board)).places,
      cond_all (λ (s : Served). differences (ts i) s.table ≤ 512) (no_course ts i) _ _ (omega arith) (light_syncs (ts i) b m (length board)).places,
    )
