-- A join and a sync leave the table's bytes but for a few (02, U11): refused, every byte; taken, the upper half, and of the lower half what `cells` counts.
use Prim.Native.Nat.{ℕ, ◌≤◌}
use mathlib.Core.Path.{◌≡◌, refl, sym, ◌∙◌, ap, subst}
use mathlib.Core.List.{List, ◌++◌}
use native.Mathlib.Omega.{arith}
use lib.ListN.{length, take-append-drop}
use Rattle.lists.specs.Differences.{differences}
use Rattle.lists.proofs.Differences.{differences-append, differences_same}
use Rattle.desk.specs.Checks.{Check, settle}
use Rattle.desk.proofs.Checks.{Passed, Settled, goes, settled, stops}
use Rattle.cells.specs.Sizes.{lower_bytes}
use Rattle.cells.specs.Words.{Bytes}
use Rattle.cells.specs.Cells.{next_number}
use Rattle.cells.specs.Decode.{cells}
use Rattle.cells.specs.Steps.{join_bytes}
use Rattle.cells.proofs.Bytes.{take_bytes}
use Rattle.cells.proofs.Light.{Differs, join-differs, sync-differs}
use Rattle.cells.proofs.Range.{next_ranged, ranges}
use Rattle.table.specs.Halves.{high, low}
use Rattle.table.specs.Answers.{refused, taken}
use Rattle.table.specs.Out.{Out}
use Rattle.table.specs.Calls.{join_end, join_out, sync_out}
use Rattle.table.specs.Light.{Light, LightJoins, LightSyncs}
use Rattle.std.specs.Prelude.{Result}
use Rattle.table.specs.Told.{left}
use Rattle.table.specs.declared.refusal.Refusal.{Refusal}
use Rattle.table.proofs.Halves.{high_of, lower_of}
use Rattle.table.proofs.Syncs.{joins, left-lower, sync-ends}

halves : (t : List ℕ) → low t ++ high t ≡ t
unfolding low high
halves t = take-append-drop lower_bytes t

-- the lower half written, the upper one left
lower_light : {t d : List ℕ} {n : ℕ} → length (low t) ≡ lower_bytes → Differs (low t) d n → (v : ℕ) → Light t n (taken (d ++ high t) v)
lower_light {t} {d} {n} l D v = record {
  places =
      let a = differences-append (low t) d (high t) (high t) (l ∙ sym D.long) in
      let b = differences_same (high t) in
      let m = D.most in
      subst (λ z. differences z (d ++ high t) ≤ n) (halves t) (omega arith);
  entries = high_of d (high t) D.long;
}

more : {t : List ℕ} {n : ℕ} {o : Out} → Light t n o → (m : ℕ) → n ≤ m → Light t m o
more h m l = record { places = let p = h.places in omega arith; entries = h.entries }

-- refused, every byte stays
module _ (t : List ℕ) (n : ℕ) (end : Out) where
  light-settled : (ks : List Check) → (Passed ks → Light t n end) → Light t n (settle ks (refused t) end)
  light-settled ks f = by (settled (refused t) end ks)
    where
      by : {o : Out} → Settled ks (refused t) end o → Light t n o
      by (stops k i) = record { places = let z = differences_same t in omega arith; entries = refl }
      by (goes P) = f P

low_bytes : (t : List ℕ) → Bytes t → Bytes (low t)
unfolding low
low_bytes t b = take_bytes lower_bytes t b

pub light_joins : LightJoins
unfolding join_out
light_joins t b n m room = light-settled t 256 (join_end t n m) _ (λ P.
    let J = joins t n m room P in
    let L = (lower_of t J.table).1 in
    more (lower_light {t = t} L.long (join-differs (low t) L.long (low_bytes t b) n m J.joiner) _) 256 (omega arith))

pub light_syncs : LightSyncs
unfolding sync_out
light_syncs t b m room = light-settled t 512 _ _ (λ P.
    let J = joins t 0 m room P in
    let L = (lower_of t J.table).1 in
    let d = join_bytes (low t) 0 m in
    let next = (next_ranged (cells d) (ranges d (left-lower t J.table m J.joinee J.some).ranged)).1 in
    rw (sync-ends t m room P) (more (lower_light {t = t} L.long (sync-differs (low t) L.long (low_bytes t b) m (next_number (cells d)) next) _) 512 (omega arith)))

-- for code: the answer and the bytes left are these, and so are their places
pub promised : {t : List ℕ} {n : ℕ} {o : Out} → Light t n o → (a : Result ℕ Refusal) (d : List ℕ) → left a d ≡ o → (left a d ≡ o) × (differences t d ≤ n)
promised {t} {n} h a d e = (e, subst (λ z. differences t z ≤ n) (sym (ap (λ o. o.lent) e)) h.places)
