-- A bundle from what the checks of its first update find.
use Prim.Native.Nat.{ℕ, ◌<◌}
use mathlib.Core.Bool.{Bool, true, false, cond, not}
use mathlib.Core.Path.{◌≡◌, refl, sym, ◌∙◌, ap, subst}
use mathlib.Core.List.{List, ◌∷◌}
use lib.ListN.{drop, get_or, length}
use borrow.Author.Tests.{ne_eqb, not-false}
use Rattle.updates.specs.Kinds.{kind_check, bad_bib}
use Rattle.updates.specs.declared.kind.Kind.{Kind}
use Rattle.updates.specs.declared.kind.UnknownKind.{UnknownKind}
use Rattle.std.specs.Prelude.{Result, Ok, Err}
use Rattle.bundles.specs.declared.entry.Entry.{Entry}
use Rattle.bundles.specs.Records.{entry_in}
use Rattle.bundles.specs.Packed.{held}
use Rattle.cells.specs.Decode.{cells}
use Rattle.cells.specs.Checks.{is_client, given_out, joined, is_mark, open_elsewhere, busy_by_other, stale, log_full}
use Rattle.sizes.specs.declared.numbers.Client.{Client}
use Rattle.sizes.specs.declared.numbers.Revision.{Revision}
use Rattle.table.specs.Halves.{low, cells_of, is_table}
use Rattle.table.specs.Answers.{after_taken, refused}
use Rattle.table.specs.Calls.{bundled}
use Rattle.table.specs.Found.{on_ok}
use Rattle.table.specs.Shared.{sent_shared, update_shared}
use Rattle.table.proofs.Calls.{client_is, given_is}
use Rattle.bundling.specs.Bundles.{Going}
use Rattle.updating.specs.Checks.{update_check}
use Rattle.table.specs.Told.{code_of}
use Rattle.table.proofs.Told.{code_some}
use Rattle.table.specs.declared.refusal.Refusal.{Refusal}
use Rattle.table.specs.declared.refusal.Refusal.TheVariants.{StrangeClient, NeverSent, Joined, Marked, BadEntry, OpenElsewhere, Busy, NotCaughtUp, LogFull}
use Rattle.updating.proofs.Calls as Calls
use Rattle.bundling.proofs.Records.{behind}
use Rattle.bundling.proofs.Sent.{refused-bundled}

-- the first update's checks, one by one
checks_are : (d : List ℕ) (c n k bib : ℕ)
    → update_check d c n k bib
    ≡ cond (not (is_client c)) (Err StrangeClient) (
    cond (not (given_out (cells d) n)) (Err NeverSent) (
    cond (joined (cells d) n) (Err Joined) (
    cond (is_mark (cells d) n) (Err Marked) (
    cond (bad_bib bib) (Err BadEntry) (
    on_ok (kind_check k) (λ e. Err BadEntry) (λ kind.
    cond (open_elsewhere (cells d) c n) (Err OpenElsewhere) (
    cond (busy_by_other (cells d) c n) (Err Busy) (
    cond (stale (cells d) c n) (Err NotCaughtUp) (
    cond (log_full (cells d)) (Err LogFull) (
    Ok (record { 0 = c }, record { 0 = n }, kind)))))))))))
unfolding update_check
checks_are d c n k bib = simp (client_is, given_is)

-- what the first update's checks leave
abbrev Settles : List ℕ → ℕ → ℕ → Result (Client × Revision × Kind) Refusal → Type 0
Settles t c n (Err x) = Unit {0}
Settles t c n (Ok p) = Going t c n × (p.0.0 ≡ c) × (p.1.0 ≡ n)

settles-cond : (t : List ℕ) (c n : ℕ) (b : Bool) (x : Refusal) (rest : Result (Client × Revision × Kind) Refusal) → (b ≡ false → Settles t c n rest) → Settles t c n (cond b (Err x) rest)
settles-cond t c n true x rest f = tt
settles-cond t c n false x rest f = f refl

settles-kind : (t : List ℕ) (c n : ℕ) (q : Result Kind UnknownKind) (rest : Kind → Result (Client × Revision × Kind) Refusal) → ((kind : Kind) → Settles t c n (rest kind)) → Settles t c n (on_ok q (λ e. Err BadEntry) rest)
unfolding on_ok
settles-kind t c n (Err e) rest f = tt
settles-kind t c n (Ok kind) rest f = f kind

pub first_settles : (t : List ℕ) → is_table t ≡ true → (c n k bib : ℕ) → Settles t c n (update_check (low t) c n k bib)
first_settles t h c n k bib =
    subst (Settles t c n) (sym (checks_are (low t) c n k bib))
    (settles-cond t c n (not (is_client c)) StrangeClient _ λ e2.
    settles-cond t c n (not (given_out (cells_of t) n)) NeverSent _ λ e3.
    settles-cond t c n (joined (cells_of t) n) Joined _ λ e4.
    settles-cond t c n (is_mark (cells_of t) n) Marked _ λ e16.
    settles-cond t c n (bad_bib bib) BadEntry _ λ e5.
    settles-kind t c n (kind_check k) _ λ kind.
    settles-cond t c n (open_elsewhere (cells_of t) c n) OpenElsewhere _ λ e6.
    settles-cond t c n (busy_by_other (cells_of t) c n) Busy _ λ e7.
    settles-cond t c n (stale (cells_of t) c n) NotCaughtUp _ λ e8.
    settles-cond t c n (log_full (cells_of t)) LogFull _ λ e9.
    (record { sound = h; client = not-false (is_client c) e2; given = not-false (given_out (cells_of t) n) e3; out = e4; unmarked = e16; here = e6; alone = e7; seen = e8 }, refl, refl))

-- a bundle whose first update is refused
pub first_refusal : (full : ℕ → Bool) (t : List ℕ) (c n : ℕ) (e : Entry) (es : List Entry) (x : Refusal) → refused t (code_of x) ≡ update_shared full t c n e.kind e.bib e.v
    → refused t (code_of x) ≡ bundled t (sent_shared full t c n (e ∷ es))
unfolding sent_shared
first_refusal full t c n e es x q =
    let some = code_some x in
    refused-bundled t (sent_shared full t c n (e ∷ es)) (code_of x) (ap (λ o. (after_taken o (λ d. sent_shared full d c n es)).code) (sym q) ∙ rw (ne_eqb (code_of x) 0 some)) some

-- the bundle from what the checks of its first update find
module _ (full : ℕ → Bool) (t : List ℕ) (h : is_table t ≡ true) (c n : ℕ) (rs : List (List ℕ)) (some : 0 < length rs) (d : List ℕ) (f : Result (Client × Revision × Kind) Refusal) (e : f ≡ update_check (low t) c n (entry_in (get_or rs 0 d)).kind (entry_in (get_or rs 0 d)).bib) where
  abbrev first : Entry
  first = entry_in (get_or rs 0 d)

  settles : Settles t c n f
  settles = subst (Settles t c n) (sym e) (first_settles t h c n first.kind first.bib)

  pub bundle-refused : (x : Refusal) → f ≡ Err x → refused t (code_of x) ≡ bundled t (sent_shared full t c n (held rs))
  bundle-refused x g =
      first_refusal full t c n first (held (drop 1 rs)) x (Calls.update-refused t h full c n first.kind first.bib first.v f e x g)
      ∙ ap (λ l. bundled t (sent_shared full t c n l)) (sym (behind rs 0 some d first refl))

  pub bundle-going : (x : Client) (y : Revision) (kind : Kind) → f ≡ Ok (x, y, kind) → Going t x.0 y.0
  bundle-going x y kind g = let s = subst (Settles t c n) g settles in rw (s.1, s.2) s.0

  pub bundle_sent : (x : Client) (y : Revision) (kind : Kind) → f ≡ Ok (x, y, kind) → (es : List Entry) → bundled t (sent_shared full t x.0 y.0 es) ≡ bundled t (sent_shared full t c n es)
  bundle_sent x y kind g es =
      let s = subst (Settles t c n) g settles in
      ap (λ i. bundled t (sent_shared full t i y.0 es)) s.1 ∙ ap (λ i. bundled t (sent_shared full t c i es)) s.2
