-- An entry's six bytes decode to it.
use Prim.Native.Nat.{ℕ, ◌+◌, ◌*◌, ◌-◌, ◌/◌, ◌%◌, ◌<◌, ◌≤◌}
use mathlib.Core.Path.{◌≡◌, refl}
use native.Mathlib.Omega.{arith}
use lib.ListN.{length}
use Rattle.updates.specs.Kinds.{kind_number}
use Rattle.updates.specs.declared.kind.Kind.{Kind}
use Rattle.updates.specs.declared.kind.Kind.TheVariants.{Time, Earliest, Penalty, Strike}
use Rattle.entries.specs.declared.entry.Entry.{Entry}
use Rattle.entries.specs.Sizes.{bib_range}
use Rattle.entries.specs.Stored.{stored, kind_after, decoded}

pub stored-length : (e : Entry) → length (stored e) ≡ 6
unfolding stored
stored-length e = refl

-- the numbers of the kinds are 1 to 4
pub number_bounds : (k : Kind) → (0 < kind_number k) × (kind_number k ≤ 4)
unfolding kind_number
number_bounds Time = (omega arith, omega arith)
number_bounds Earliest = (omega arith, omega arith)
number_bounds Penalty = (omega arith, omega arith)
number_bounds Strike = (omega arith, omega arith)

kind_back : (k : Kind) → kind_after (kind_number k - 1) ≡ k
unfolding kind_number kind_after
kind_back Time = refl
kind_back Earliest = refl
kind_back Penalty = refl
kind_back Strike = refl

-- what three fields in one byte give back
client_bits : (c k b : ℕ) → k < 4 → b < 4 → (c * 16 + k * 4 + b) / 16 ≡ c
client_bits c k b h g = omega arith

kind_bits : (c k b : ℕ) → k < 4 → b < 4 → (c * 16 + k * 4 + b) / 4 % 4 ≡ k
kind_bits c k b h g = omega arith

bib_bits : (c k b : ℕ) → b < 4 → (c * 16 + k * 4 + b) % 4 ≡ b
bib_bits c k b g = omega arith

bib_back : (b : ℕ) → b % 256 + 256 * (b / 256) ≡ b
bib_back b = omega arith

v_back : (v : ℕ) → v % 256 + 256 * (v / 256 % 256) + 65536 * (v / 65536 % 256) + 16777216 * (v / 16777216) ≡ v
v_back v = omega arith

pub decoded-stored : (e : Entry) → e.bib < bib_range → decoded (stored e) ≡ e
unfolding stored decoded
decoded-stored e h =
    let c = e.client in
    let k = kind_number e.kind - 1 in
    let b = e.bib / 256 in
    let n = number_bounds e.kind in
    let l : kind_number e.kind - 1 < 4 = omega arith in
    let g : e.bib / 256 < 4 = omega arith in
    rw (kind_bits c k b l g, kind_back e.kind, client_bits c k b l g, bib_bits c k b g, bib_back e.bib, v_back e.v)
