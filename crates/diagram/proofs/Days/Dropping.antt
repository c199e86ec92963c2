-- A drop keeps the day sound: a mark has nothing of its own.
use Prim.Native.Nat.{◌<◌, ℕ}
use mathlib.Core.Bool.{false≢true, true}
use mathlib.Core.Path.{◌∙◌, ◌≡◌, ap, refl, sym}
use mathlib.Core.Option.{some}
use mathlib.Core.List.Memᴰ
use mathlib.Core.List.{List, []}
use native.Mathlib.Omega.{arith}
use lib.Dec.{eqb}
use borrow.Author.Tests.{ne_eqb}
use Rattle.lists.specs.Lists.{◌∈◌, flat}
use Rattle.lists.specs.Arranged.{remove}
use Rattle.lists.proofs.Cases.{cases}
use Rattle.lists.proofs.Changed.{changed-other}
use Rattle.lists.proofs.Places.{remove_back, remove-keep}
use Rattle.diagram.specs.Checks.{marked}
use Rattle.diagram.specs.Day.{Day, IsOut}
use Rattle.diagram.specs.Steps.{drop_at}
use Rattle.diagram.specs.Arbitration.{events_of}
use Rattle.diagram.specs.Effects.{numbers}
use Rattle.diagram.specs.Views.{own}
use Rattle.diagram.proofs.Graph.Events.{own_events}
use Rattle.diagram.proofs.Graph.Visible.{view-numbers}
use Rattle.diagram.proofs.Days.Moves.{CanDrop, dropped_out, mark_apart}
use Rattle.diagram.proofs.Days.Outside.{moved-runs, moved-sessions, moved-whole}
use Rattle.diagram.proofs.Days.Real.{real-drop}
use Rattle.diagram.proofs.Days.Sound.{Sound}

-- of a mark r
module _ (y : Day) (layout : List ℕ) (hold : ℕ → List ℕ) (S : Sound y layout hold) (r : ℕ) (m : marked y r ≡ true) where
  pub not_main : r ≡ 0 → ⊥
  not_main = mark_apart y 0 r S.marks.main m

  holds-none : (t : ℕ) → t ∈ hold r → ⊥
  holds-none t i = Memᴰ.not-nil (rw (S.marks.empty r m) at i)

  own-none : IsOut y r → own_events y.diagram (y.terminal r) ≡ []
  own-none o = S.filed.blocks_ok r (S.real.out r o) ∙ ap (flat (events_of y)) (S.marks.empty r m)

  pub unwritten : IsOut y r → own y.diagram (y.terminal r) ≡ []
  unwritten o =
      (view-numbers S.real.linked.ordered (y.terminal r) (S.real.linked.bound r)).0 ∙ ap (numbers y.diagram) (own-none o)

  -- no transaction is open on it
  pub none_open : (c t : ℕ) → y.open_by c ≡ some t → (y.transaction t).revision ≡ r → ⊥
  none_open c t p e = let R = S.runs c t p in holds-none t (rw (sym (ap hold e) ∙ R.at_end.1) (Memᴰ.append_right R.at_end.0 (Memᴰ.head refl)))

module _ (y : Day) (layout : List ℕ) (hold : ℕ → List ℕ) (S : Sound y layout hold) (r : ℕ) (D : CanDrop y r) where
  abbrev y' : Day
  y' = drop_at y r

  abbrev m : marked y r ≡ true
  m = D.is_mark

  was : (s t : ℕ) → IsOut y' s → t < y.transactions → y.terminal s ∈ events_of y t → IsOut y s × (y.terminal s ≡ y.terminal s)
  was s t o h i = ((dropped_out y r s o).0, refl)

  still_out : (c s : ℕ) → y.open_by c ≡ some s → IsOut y' (y.transaction s).revision
  still_out c s p = let o = (S.runs c s p).out in (o.0, changed-other y.joined r true _ (none_open y layout hold S r m c s p) ∙ o.1)

  pub sound-drop : Sound (drop_at y r) (remove r layout) hold
  unfolding marked
  sound-drop = record {
    real = real-drop y layout S.real r D (not_main y layout hold S r m) (own-none y layout hold S r m D.out);
    filed = record {
      blocks_ok = λ s i. S.filed.blocks_ok s (remove_back r s layout i);
      all = λ t h. let p = S.filed.all t h in (p.0, remove-keep r p.0 layout (λ e. holds-none y layout hold S r m t (rw e at p.2)) p.1, p.2);
      low = λ s t i. S.filed.low s t (remove_back r s layout i);
      first = S.filed.first;
    };
    runs = moved-runs y layout hold S y.diagram _ _ _ _ _ _ _ (omega arith) (λ e x h q. q) was hold (λ c s p. (still_out c s p, refl, refl));
    unshut = S.unshut;
    whole = moved-whole y layout hold S y.diagram _ _ _ _ _ _ _ (omega arith) (λ e x h q. q) was S.whole.outside;
    sessions = moved-sessions y layout hold S y.diagram _ _ _ _ _ _ _ (omega arith) (λ e x h q. q) was;
    marks = record {
      empty = λ s. cases (eqb s r) (λ e. rw e (λ q. absurd (false≢true q))) (λ e. rw e (S.marks.empty s));
      main = rw (ne_eqb 0 r (λ e. not_main y layout hold S r m (sym e))) S.marks.main;
    };
  }
