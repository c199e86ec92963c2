-- 5, 9 and 20 of an entry from the count taken alone: an update that fits is taken, and one that does not is refused so.
use Prim.Native.Nat.{ℕ, ◌<◌}
use mathlib.Core.Bool.{Bool, true, false, cond, not, ◌||◌}
use mathlib.Core.Path.{◌≡◌, refl, sym, ◌∙◌, ap}
use mathlib.Core.List.{List, [], ◌∷◌, ◌++◌}
use native.Mathlib.Omega.{arith}
use lib.Dec.{ltb}
use borrow.Author.Tests.{lt-ltb, ltb-true}
use Rattle.updates.specs.Kinds.{bad_bib, bad_kind, is_unknown, kind_check, kind_in, kind_of}
use Rattle.updates.specs.declared.kind.Kind.{Kind}
use Rattle.updates.specs.declared.kind.UnknownKind.{UnknownKind}
use Rattle.std.specs.Prelude.{Result, Ok, Err}
use Rattle.bundles.specs.declared.entry.Entry.{Entry}
use Rattle.cells.specs.Sizes.{updates}
use Rattle.cells.specs.Checks.{log_full}
use Rattle.cells.specs.Steps.{update_bytes}
use Rattle.entries.specs.Stored.{entry}
use Rattle.entries.specs.Entries.{wrote}
use Rattle.table.specs.Halves.{low, high, cells_of}
use Rattle.desk.specs.Checks.{◌if◌, settle}
use Rattle.table.specs.Answers.{refused, taken}
use Rattle.table.specs.Out.{Out}
use Rattle.table.specs.Found.{on_ok}
use Rattle.table.specs.Shared.{above, update_shared}
use Rattle.table.proofs.Shared.{above-next, update_row}
use Rattle.bundling.specs.Bundles.{Going, entered, entry_check, entry_of, fit_check, on_fit}
use Rattle.table.specs.Told.{code_of}
use Rattle.table.specs.declared.refusal.Refusal.{Refusal}
use Rattle.table.specs.declared.refusal.Refusal.TheVariants.{BadEntry, LogFull, CardFull}
use Rattle.bundling.proofs.Going.{halves}

-- a check passed or not
pub fits_not : {A : Type 0} (x : Refusal) → ◌≡◌ {A = Result (Unit {0}) Refusal} (Err x) (Ok tt) → A
fits_not x e = absurd (let z : ◌≡◌ {A = ℕ} 0 1 = cc in omega arith)

pub on_fits : (f rest : Result (Unit {0}) Refusal) → on_fit f rest ≡ Ok tt → (f ≡ Ok tt) × (rest ≡ Ok tt)
on_fits (Ok u) rest e = (refl, e)
on_fits (Err x) rest e = fits_not x e

-- 5, 9 and 20 of an entry
abbrev rest_of : Result Kind Refusal → Bool → Bool → Result (Unit {0}) Refusal
rest_of q l m = on_ok q Err (λ kind. cond l (cond m (Ok tt) (Err CardFull)) (Err LogFull))

rest_fits : (b l m : Bool) (q : Result Kind UnknownKind) → rest_of (entry_of b q) l m ≡ Ok tt → (kind : Kind) × (q ≡ Ok kind) × (b ≡ false) × (l ≡ true) × (m ≡ true)
unfolding on_ok
rest_fits true l m q e = fits_not BadEntry e
rest_fits false l m (Err x) e = fits_not BadEntry e
rest_fits false false m (Ok kind) e = fits_not LogFull e
rest_fits false true false (Ok kind) e = fits_not CardFull e
rest_fits false true true (Ok kind) e = (kind, refl, refl, refl, refl)

-- an update with that refusal, and one without
rest_refused : (b l m : Bool) (q : Result Kind UnknownKind) (t : List ℕ) (out : Kind → Out) (x : Refusal) → rest_of (entry_of b q) l m ≡ Err x
    → settle (5 if (b || is_unknown q) ∷ 9 if not l ∷ 20 if not m ∷ []) (refused t) (out (kind_in q)) ≡ refused t (code_of x)
unfolding on_ok
rest_refused true l m q t out x e = let z : ◌≡◌ {A = Refusal} BadEntry x = cc in ap (λ r. refused t (code_of r)) z
rest_refused false l m (Err y) t out x e = let z : ◌≡◌ {A = Refusal} BadEntry x = cc in ap (λ r. refused t (code_of r)) z
rest_refused false false m (Ok kind) t out x e = let z : ◌≡◌ {A = Refusal} LogFull x = cc in ap (λ r. refused t (code_of r)) z
rest_refused false true false (Ok kind) t out x e = let z : ◌≡◌ {A = Refusal} CardFull x = cc in ap (λ r. refused t (code_of r)) z
rest_refused false true true (Ok kind) t out x e = fits_not x (sym e)

-- beside others less fits than alone
pub fit_alone : (k bib taken most : ℕ) → fit_check k bib taken most ≡ Ok tt → fit_check k bib taken updates ≡ Ok tt
unfolding fit_check entry_check on_ok
fit_alone k bib taken most h = let r = rest_fits (bad_bib bib) (ltb taken updates) (ltb taken most) (kind_check k) h in rw (r.2, r.1, r.3)

module _ (most c n : ℕ) where
  -- an update by a client that may go on
  abbrev Allowed : List ℕ → Entry → Kind → Out
  Allowed t e kind = taken (update_bytes (low t) c n ++ wrote (high t) (cells_of t).updates (entry kind c e.bib e.v)) (cells_of t).updates

  update-is : (t : List ℕ) → Going t c n → (e : Entry)
      → update_shared (above most) t c n e.kind e.bib e.v
      ≡ settle (5 if (bad_bib e.bib || bad_kind e.kind) ∷ 9 if log_full (cells_of t) ∷ 20 if not (ltb (cells_of t).updates most) ∷ []) (refused t) (Allowed t e (kind_of e.kind))
  update-is t G e =
      update_row (above most) t c n e.kind e.bib e.v
      ∙ rw (G.sound, G.client, G.given, G.out, G.unmarked, G.here, G.alone, G.seen, above-next most (cells_of t).updates)

  -- what is known of an entry that fits
  pub record Fit (t : List ℕ) (e : Entry) : Type 0 where
    pub kind : Kind
    pub known : kind_check e.kind ≡ Ok kind
    pub bib_in : bad_bib e.bib ≡ false
    pub room : (cells_of t).updates < updates
    pub shared : ltb (cells_of t).updates most ≡ true

  pub fit : (t : List ℕ) (e : Entry) → fit_check e.kind e.bib (cells_of t).updates most ≡ Ok tt → Fit t e
  unfolding fit_check entry_check
  fit t e h =
      let r = rest_fits (bad_bib e.bib) (ltb (cells_of t).updates updates) (ltb (cells_of t).updates most) (kind_check e.kind) h in
      record { kind = r.0; known = r.1; bib_in = r.2; room = ltb-true (cells_of t).updates updates r.3; shared = r.4 }

  pub update-taken : (t : List ℕ) → Going t c n → (e : Entry) → Fit t e → update_shared (above most) t c n e.kind e.bib e.v ≡ taken (entered t c n e) (cells_of t).updates
  update-taken t G e F = update-is t G e ∙ rw (F.bib_in, F.known, lt-ltb (cells_of t).updates updates F.room, F.shared) (ap (λ d. taken d (cells_of t).updates) (sym (halves t c n G F.room e F.kind F.known)))

  pub update-refused : (t : List ℕ) → Going t c n → (e : Entry) (x : Refusal) → fit_check e.kind e.bib (cells_of t).updates most ≡ Err x
      → update_shared (above most) t c n e.kind e.bib e.v ≡ refused t (code_of x)
  unfolding fit_check entry_check
  update-refused t G e x h =
      update-is t G e
      ∙ rest_refused (bad_bib e.bib) (ltb (cells_of t).updates updates) (ltb (cells_of t).updates most) (kind_check e.kind) t (Allowed t e) x h
