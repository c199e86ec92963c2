-- What a content in range says of each cell, and what puts a content in range.
use Prim.Native.Nat.{ℕ, ◌<◌, ◌≤◌}
use mathlib.Core.Bool.{Bool, true, ◌&&◌}
use mathlib.Core.Path.{◌≡◌, refl}
use mathlib.Core.List.{List, [], ◌∷◌}
use lib.Dec.{eqb, ltb}
use lib.ListN.{get_or, get_or-eq_default}
use borrow.Author.Tests.{eqb-true, ltb-false, ltb-true}
use native.Mathlib.Omega.{arith}
use Rattle.lists.specs.Lists.{head_of}
use Rattle.lists.proofs.Cases.{and-true, cases}
use Rattle.cells.specs.Sizes.{revisions, clients, updates}
use Rattle.cells.specs.Tables.{every}
use Rattle.cells.specs.Parts.{Parts, parts, split, ◌⟨◌≔◌⟩, state_part, used_part, last_part, first_part, count_part, base_part, layout_part, queue_part, opened_part, counters_part}
use Rattle.cells.specs.Parts.{single_part, settled_part, signature_part}
use Rattle.cells.specs.Words.{byte, word}
use Rattle.cells.specs.Cells.{Cells, next_number}
use Rattle.cells.specs.Decode.{decode, cells}
use Rattle.cells.specs.Range.{bytes_below, words_below, counters_in, signed, queue_in, records_in, places_in, singles_in, parts_in, in_range}
use Rattle.cells.proofs.Tables.{every_at}

-- the ranges that the steps rely on
pub record Ranges (k : Cells) : Type 0 where
  pub last : (r : ℕ) → r < revisions → k.last r < updates
  pub first : (r : ℕ) → r < revisions → k.first r < updates
  pub count : (r : ℕ) → r < revisions → k.count r ≤ updates
  pub base : (r : ℕ) → r < revisions → k.base r ≤ updates
  pub layout : (i : ℕ) → i < revisions → byte k.layout i < revisions
  pub queue : (i : ℕ) → i < revisions → (0 < byte k.queue i) × (byte k.queue i < revisions)
  pub taken : k.updates ≤ updates
  pub some_out : 0 < k.out
  pub most_out : k.out ≤ revisions
  pub some_given : 0 < k.given
  pub most_given : k.given ≤ revisions
  pub settled : k.settled ≤ updates

module _ (n limit : ℕ) (t : List ℕ) where
  byte-below : bytes_below n limit t ≡ true → (i : ℕ) → i < n → byte t i < limit
  byte-below e i h = ltb-true (byte t i) limit (every_at (λ j. ltb (byte t j) limit) n i e h)

  word_below : words_below n limit t ≡ true → (i : ℕ) → i < n → word t i < limit
  word_below e i h = ltb-true (word t i) limit (every_at (λ j. ltb (word t j) limit) n i e h)

queue-in : (t : List ℕ) → queue_in t ≡ true → (i : ℕ) → i < revisions → (0 < byte t i) × (byte t i < 64)
queue-in t e i h =
    let a = and-true (ltb 0 (byte t i)) (ltb (byte t i) 64) (every_at (λ j. ltb 0 (byte t j) && ltb (byte t j) 64) revisions i e h) in
    (ltb-true _ _ a.0, ltb-true _ _ a.1)

pub first_byte : (t : List ℕ) → head_of t ≡ byte t 0
first_byte [] = refl
first_byte (x ∷ t) = refl

pub counters-in : (t : List ℕ) → counters_in t ≡ true → (word t 0 < 4097) × (0 < byte t 2) × (byte t 2 < 65) × (0 < byte t 3) × (byte t 3 < 65)
counters-in t e =
    let a = and-true (ltb (word t 0) 4097) _ e in
    let b = and-true (ltb 0 (byte t 2)) _ a.1 in
    let c = and-true (ltb (byte t 2) 65) _ b.1 in
    let d = and-true (ltb 0 (byte t 3)) (ltb (byte t 3) 65) c.1 in
    (ltb-true _ _ a.0, ltb-true _ _ b.0, ltb-true _ _ c.0, ltb-true _ _ d.0, ltb-true _ _ d.1)

-- the range of each part, in their order; where a part has none, every byte is in range
abbrev free : List ℕ → Bool
free t = true

abbrev limits : List (List ℕ → Bool)
limits =
    free ∷ free ∷ free ∷ free ∷ free ∷ bytes_below revisions 4 ∷ bytes_below revisions 2
    ∷ words_below revisions 4096 ∷ words_below revisions 4096 ∷ words_below revisions 4097 ∷ words_below revisions 4097
    ∷ bytes_below revisions 64 ∷ queue_in ∷ bytes_below clients 65 ∷ counters_in ∷ free ∷ bytes_below 1 2 ∷ words_below 1 4097 ∷ free ∷ free ∷ signed ∷ []

unfoldable pub part_in : ℕ → List ℕ → Bool
part_in i t = get_or limits i free t

-- every part in its range
pub record Ranged (p : Parts) : Type 0 where
  pub of : (i : ℕ) → part_in i (p i) ≡ true

pub ranged_with : {p : Parts} → Ranged p → (i : ℕ) (l : List ℕ) → part_in i l ≡ true → Ranged (p ⟨ i ≔ l ⟩)
ranged_with h i l e = record { of = λ j. cases (eqb j i) (λ q. rw (q, eqb-true j i q) e) (λ q. rw q (h.of j)) }

pub parts_ranged : (p : Parts) → parts_in p ≡ true → Ranged p
unfolding part_in every
parts_ranged p e =
    let all = and-true (records_in p) (places_in p && singles_in p) e in
    let both = and-true (places_in p) (singles_in p) all.1 in
    let a = and-true (bytes_below revisions 4 (p state_part)) _ all.0 in
    let b = and-true (bytes_below revisions 2 (p used_part)) _ a.1 in
    let c = and-true (words_below revisions 4096 (p last_part)) _ b.1 in
    let d = and-true (words_below revisions 4096 (p first_part)) _ c.1 in
    let f = and-true (words_below revisions 4097 (p count_part)) (words_below revisions 4097 (p base_part)) d.1 in
    let g = and-true (bytes_below revisions 64 (p layout_part)) _ both.0 in
    let h = and-true (queue_in (p queue_part)) (bytes_below clients 65 (p opened_part)) g.1 in
    let i = and-true (counters_in (p counters_part)) _ both.1 in
    let j = and-true (bytes_below 1 2 (p single_part)) _ i.1 in
    let k = and-true (words_below 1 4097 (p settled_part)) (signed (p signature_part)) j.1 in
    record {
      of = λ n. cases (ltb n parts)
          (λ q. every_at (λ m. part_in m (p m)) parts n (rw (a.0, b.0, c.0, d.0, f.0, f.1, g.0, h.0, h.1, i.0, j.0, k.0, k.1)) (ltb-true n parts q))
          (λ q. rw (get_or-eq_default limits free {n = n} (ltb-false n parts q)));
    }

pub ranged_ranges : (p : Parts) → Ranged p → Ranges (decode p)
unfolding part_in
ranged_ranges p h =
    let c = counters-in (p counters_part) (h.of counters_part) in
    record {
      last = word_below revisions 4096 (p last_part) (h.of last_part);
      first = word_below revisions 4096 (p first_part) (h.of first_part);
      count = λ r l. let z = word_below revisions 4097 (p count_part) (h.of count_part) r l in omega arith;
      base = λ r l. let z = word_below revisions 4097 (p base_part) (h.of base_part) r l in omega arith;
      layout = byte-below revisions 64 (p layout_part) (h.of layout_part);
      queue = queue-in (p queue_part) (h.of queue_part);
      taken = let z = c.0 in omega arith;
      some_out = c.1;
      most_out = let z = c.2 in omega arith;
      some_given = c.3;
      most_given = let z = c.4 in omega arith;
      settled = let z = word_below 1 4097 (p settled_part) (h.of settled_part) 0 (omega arith) in omega arith;
    }

pub ranges : (d : List ℕ) → in_range d ≡ true → Ranges (cells d)
unfolding in_range cells
ranges d e = ranged_ranges (split d) (parts_ranged (split d) e)

-- the number that the next fork gives is below 64, and not the main revision's
pub next_ranged : (k : Cells) → Ranges k → (0 < next_number k) × (next_number k < revisions)
next_ranged k h =
    let q = rw (← (first_byte k.queue)) at (h.queue 0 (omega arith)) in
    let g = h.some_given in
    cases (ltb k.given revisions) (λ e. rw e (g, ltb-true k.given revisions e)) (λ e. rw e q)

-- the other way: parts in their ranges pass the check
pub ranged_in : (p : Parts) → Ranged p → parts_in p ≡ true
unfolding part_in
ranged_in p h = rw (h.of state_part, h.of used_part, h.of last_part, h.of first_part, h.of count_part, h.of base_part, h.of layout_part, h.of queue_part, h.of opened_part, h.of counters_part, h.of single_part, h.of settled_part) (h.of signature_part)
