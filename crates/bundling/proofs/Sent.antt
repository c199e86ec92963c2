-- Updates sent one by one by a client that may go on: the earliest refusal, or the bytes at the end.
use Prim.Native.Nat.{ℕ, suc}
use mathlib.Core.Bool.{cond}
use mathlib.Core.Path.{◌≡◌, refl, sym, ◌∙◌, ap}
use mathlib.Core.List.{List, [], ◌∷◌, ◌++◌}
use lib.Dec.{eqb}
use borrow.Author.Tests.{ne_eqb}
use Rattle.bundles.specs.declared.entry.Entry.{Entry}
use Rattle.cells.specs.Steps.{close_bytes}
use Rattle.table.specs.Halves.{low, high, cells_of}
use Rattle.table.specs.Answers.{after_taken, refused, taken}
use Rattle.table.specs.Out.{Out}
use Rattle.table.specs.Calls.{bundled, yield_out}
use Rattle.table.specs.Shared.{above, sent_shared}
use Rattle.bundling.specs.Bundles.{Going, entered, entered_all, fit_check, on_fit, sent_check}
use Rattle.std.specs.Prelude.{Result, Ok, Err}
use Rattle.table.specs.Told.{code_of}
use Rattle.table.specs.declared.refusal.Refusal.{Refusal}
use Rattle.table.proofs.Told.{code_some}
use Rattle.bundling.proofs.Going.{more-taken, going_next}
use Rattle.bundling.proofs.Fit.{fits_not, on_fits, Fit, fit, update-taken, update-refused}

module _ (most c n : ℕ) where
  -- the rest, after an update that was taken
  sent-next : (t : List ℕ) → Going t c n → (e : Entry) (es : List Entry) → Fit most c n t e → sent_shared (above most) t c n (e ∷ es) ≡ sent_shared (above most) (entered t c n e) c n es
  unfolding sent_shared
  sent-next t G e es F = ap (λ o. after_taken o (λ d. sent_shared (above most) d c n es)) (update-taken most c n t G e F)

  check-next : (t : List ℕ) (G : Going t c n) (e : Entry) (es : List Entry) (F : Fit most c n t e) → sent_check es (suc (cells_of t).updates) most ≡ sent_check es (cells_of (entered t c n e)).updates most
  check-next t G e es F = ap (λ k. sent_check es k most) (sym (more-taken t c n G F.room e F.kind F.known))

  -- where all fit: the first entry is taken, and the others fit after it
  pub record Onward (t : List ℕ) (e : Entry) (es : List Entry) : Type 0 where
    pub fits : Fit most c n t e
    pub going : Going (entered t c n e) c n
    pub others : sent_check es (cells_of (entered t c n e)).updates most ≡ Ok tt

  pub onward : (t : List ℕ) (e : Entry) (es : List Entry) → Going t c n → sent_check (e ∷ es) (cells_of t).updates most ≡ Ok tt → Onward t e es
  unfolding sent_check
  onward t e es G h =
      let p = on_fits (fit_check e.kind e.bib (cells_of t).updates most) _ h in
      let F = fit most c n t e p.0 in
      record { fits = F; going = going_next t c n G F.room e F.kind F.known; others = sym (check-next t G e es F) ∙ p.1 }

  yield-taken : (t : List ℕ) → Going t c n → sent_shared (above most) t c n [] ≡ taken (close_bytes (low t) c ++ high t) 0
  unfolding sent_shared yield_out
  yield-taken t G = rw (G.sound, G.client)

  pub sent-fits : (es : List Entry) (t : List ℕ) → Going t c n → sent_check es (cells_of t).updates most ≡ Ok tt
      → sent_shared (above most) t c n es ≡ taken (close_bytes (low (entered_all t c n es)) c ++ high (entered_all t c n es)) 0
  unfolding entered_all
  sent-fits [] t G h = yield-taken t G
  sent-fits (e ∷ es) t G h = let o = onward t e es G h in sent-next t G e es o.fits ∙ sent-fits es (entered t c n e) o.going o.others

  -- the earliest refusal
  abbrev Refuses : Out → Refusal → Type 0
  Refuses o x = o.code ≡ code_of x

  first-refused : (t : List ℕ) → Going t c n → (e : Entry) (es : List Entry) (x : Refusal) (f : Result (Unit {0}) Refusal) → fit_check e.kind e.bib (cells_of t).updates most ≡ f
      → on_fit f (sent_check es (suc (cells_of t).updates) most) ≡ Err x
      → (Going (entered t c n e) c n → sent_check es (cells_of (entered t c n e)).updates most ≡ Err x → Refuses (sent_shared (above most) (entered t c n e) c n es) x)
      → Refuses (sent_shared (above most) t c n (e ∷ es)) x
  unfolding sent_shared
  first-refused t G e es x (Err k) q h others =
      let z : ◌≡◌ {A = Refusal} k x = cc in
      let u = update-refused most c n t G e k q in
      ap (λ o. (after_taken o (λ d. sent_shared (above most) d c n es)).code) u ∙ rw (ne_eqb (code_of k) 0 (code_some k)) (ap code_of z)
  first-refused t G e es x (Ok u) q h others =
      let F = fit most c n t e q in
      let o = others (going_next t c n G F.room e F.kind F.known) (sym (check-next t G e es F) ∙ h) in
      ap (λ o. o.code) (sent-next t G e es F) ∙ o

  pub sent-refused : (es : List Entry) (t : List ℕ) → Going t c n → (x : Refusal) → sent_check es (cells_of t).updates most ≡ Err x → Refuses (sent_shared (above most) t c n es) x
  unfolding sent_check
  sent-refused [] t G x h = fits_not x (sym h)
  sent-refused (e ∷ es) t G x h = first-refused t G e es x (fit_check e.kind e.bib (cells_of t).updates most) refl h (λ g i. sent-refused es (entered t c n e) g x i)

-- the bundle's end
pub refused-bundled : (t : List ℕ) (o : Out) (code : ℕ) → o.code ≡ code → (code ≡ 0 → ⊥) → refused t code ≡ bundled t o
refused-bundled t o code e z = sym (ap (λ k. cond (eqb k 0) (taken o.lent (cells_of t).updates) (refused t k)) e ∙ rw (ne_eqb code 0 z))

module _ (most : ℕ) (t : List ℕ) (c n : ℕ) (G : Going t c n) (es : List Entry) (f : Result (Unit {0}) Refusal) (h : f ≡ sent_check es (cells_of t).updates most) where
  pub settle-refused : (x : Refusal) → f ≡ Err x → refused t (code_of x) ≡ bundled t (sent_shared (above most) t c n es)
  settle-refused x e = refused-bundled t (sent_shared (above most) t c n es) (code_of x) (sent-refused most c n es t G x (sym h ∙ e)) (code_some x)

  pub settle-fits : f ≡ Ok tt → {q : List ℕ} {u : ℕ} → q ≡ close_bytes (low (entered_all t c n es)) c ++ high (entered_all t c n es) → u ≡ (cells_of t).updates → taken q u ≡ bundled t (sent_shared (above most) t c n es)
  settle-fits e eq eu = rw (eq, eu) (sym (ap (bundled t) (sent-fits most c n es t G (sym h ∙ e))))
