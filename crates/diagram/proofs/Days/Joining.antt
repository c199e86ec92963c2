-- A join keeps the day sound.
use Prim.Native.Nat.{◌<◌, ℕ}
use mathlib.Core.Bool.{false, true}
use mathlib.Core.Path.{◌∙◌, ◌≡◌, ap, sym}
use mathlib.Core.Logic.{◌⊎◌, inl, inr}
use mathlib.Core.Option.{some}
use mathlib.Core.List.Memᴰ
use mathlib.Core.List.{List, Memᴰ}
use mathlib.Core.List.{[], ◌++◌, ◌∷◌}
use native.Mathlib.Omega.{arith}
use lib.ListN.{length}
use lib.Dec.{eqb}
use borrow.Author.Tests.{eqb-false, eqb-true}
use Rattle.diagram.proofs.Days.Moves.{CanJoin, joined_out, mark_apart}
use Rattle.diagram.proofs.Days.Outside.{Outside, Past, idle-far, idle-past, moved-runs, moved-sessions, moved-whole, outside_new}
use Rattle.diagram.proofs.Days.Real.{real-join}
use Rattle.diagram.proofs.Days.Sound.{Filed, Sound, event-low}
use Rattle.diagram.proofs.Graph.Events.{own_event_step, own_events}
use Rattle.diagram.proofs.Graph.Paths.{both_older, leads_old}
use Rattle.diagram.proofs.Graph.Tables.{tabulate-newest, tabulate-older}
use Rattle.diagram.specs.Arbitration.{events_of}
use Rattle.diagram.specs.Checks.{marked}
use Rattle.diagram.specs.Day.{Day, IsOut}
use Rattle.diagram.specs.Diagram.{Diagram, Vertex, join}
use Rattle.diagram.specs.Leads.{leads}
use Rattle.diagram.specs.Steps.{join_into}
use Rattle.lists.proofs.Blocks.{flat-++}
use Rattle.lists.proofs.Cases.{cases, either, split}
use Rattle.lists.proofs.Changed.{changed-other, changed_same}
use Rattle.lists.proofs.Places.{remove_back, remove-keep}
use Rattle.lists.specs.Lists.{◌∈◌, changed, flat}
use Rattle.lists.specs.Arranged.{remove}

module _ (y : Day) (layout : List ℕ) (hold : ℕ → List ℕ) (S : Sound y layout hold) (a b : ℕ) (H : CanJoin y a b) where
  abbrev d : Diagram
  d = y.diagram

  abbrev jv : Vertex
  jv = join (y.terminal a) (y.terminal b)

  abbrev both : List ℕ
  both = hold a ++ hold b

  abbrev hold' : ℕ → List ℕ
  hold' = changed hold a both

  low : (s : ℕ) → y.terminal s < length d
  low s = S.real.linked.bound s

  a_in : a ∈ layout
  a_in = S.real.out a H.out_a

  b-in : b ∈ layout
  b-in = S.real.out b H.out_b

  filed' : Filed (join_into y a b) (remove b layout) hold'
  filed' = record {
    blocks_ok = λ s i. cases (eqb s a) (λ e. rw e own-a) (λ e. rw (e, tabulate-older own_event_step [] jv d (y.terminal s) (low s)) (S.filed.blocks_ok s (remove_back b s layout i)));
    all = λ t h. let p = S.filed.all t h in all' t p.0 p.1 p.2 (split (eqb p.0 b)) (split (eqb p.0 a));
    low = λ s t i j. cases (eqb s a) (λ e. either (Memᴰ.append_cases (hold a) (rw e at j)) (λ k. S.filed.low a t a_in k) (λ k. S.filed.low b t b-in k)) (λ e. S.filed.low s t (remove_back b s layout i) (rw e at j));
    first = S.filed.first;
  }
    where
      own-a : own_events (jv ∷ d) (length d) ≡ flat (events_of y) both
      own-a =
          tabulate-newest own_event_step [] jv d ∙ ap (λ z. z ++ own_events d (y.terminal b)) (S.filed.blocks_ok a a_in)
          ∙ ap (λ z. flat (events_of y) (hold a) ++ z) (S.filed.blocks_ok b b-in) ∙ sym (flat-++ (events_of y) (hold a) (hold b))

      stays : a ∈ remove b layout
      stays = remove-keep b a layout (λ e. H.not_self (sym e)) a_in

      all' : (t s : ℕ) → s ∈ layout → t ∈ hold s → (eqb s b ≡ true) ⊎ (eqb s b ≡ false) → (eqb s a ≡ true) ⊎ (eqb s a ≡ false) → (x : ℕ) × (x ∈ remove b layout) × (t ∈ hold' x)
      all' t s i j (inl e) g = (a, stays, rw (changed_same hold a both) (Memᴰ.append_right (hold a) (rw (eqb-true s b e) at j)))
      all' t s i j (inr e) (inl g) = (a, stays, rw (changed_same hold a both) (Memᴰ.append_left (hold b) (rw (eqb-true s a g) at j)))
      all' t s i j (inr e) (inr g) = (s, remove-keep b s layout (eqb-false s b e) i, rw g j)

  -- a terminal that is an event is not the join vertex
  was : (s t : ℕ) → IsOut (join_into y a b) s → t < y.transactions → (join_into y a b).terminal s ∈ events_of y t → IsOut y s × ((join_into y a b).terminal s ≡ y.terminal s)
  was s t o h i = (
    (joined_out y a b s o).0,
    cases (eqb s a)
        (λ g. let j : length d ∈ events_of y t = rw g at i in absurd (omega (arith, event-low y layout hold S t (length d) h j)))
        (λ g. changed-other y.terminal a (length d) s (eqb-false s a g)),
  )

  up : (e x : ℕ) → x < length d → leads d e x ≡ true → leads (jv ∷ d) e x ≡ true
  up e x h q = leads_old jv d e x h ∙ q

  outside : Outside (jv ∷ d) y.transactions y.transaction
  outside = outside_new d jv y.transactions y.transaction (event-low y layout hold S) (both_older (length d) (y.terminal a) (y.terminal b) (low a) (low b)) past S.whole.outside
    where
      past : (p t : ℕ) → Memᴰ p (y.terminal a ∷ y.terminal b ∷ []) → t < y.transactions → p ∈ events_of y t → Past d (y.transaction t) p
      past p t i h j =
          either (Memᴰ.cases_cons i)
          (λ e. rw e (idle-past y layout hold S a t H.out_a H.idle_a h (rw e at j)))
          (λ k. let e = Memᴰ.eq_of_singleton k in rw e (idle-past y layout hold S b t H.out_b H.idle_b h (rw e at j)))

  kept : (c s : ℕ) → y.open_by c ≡ some s
      → IsOut (join_into y a b) (y.transaction s).revision × ((join_into y a b).terminal (y.transaction s).revision ≡ y.terminal (y.transaction s).revision) × (hold' (y.transaction s).revision ≡ hold (y.transaction s).revision)
  kept c s p =
      let o = (S.runs c s p).out in
      let far = idle-far y layout hold S a c s H.idle_a p in
      ((o.0, changed-other y.joined b true _ (idle-far y layout hold S b c s H.idle_b p) ∙ o.1), changed-other y.terminal a (length d) _ far, changed-other hold a both _ far)

  pub sound-join : Sound (join_into y a b) (remove b layout) (changed hold a (hold a ++ hold b))
  unfolding marked
  sound-join = record {
    real = real-join y layout S.real a b H;
    filed = filed';
    runs = moved-runs y layout hold S (jv ∷ d) _ _ _ _ _ _ _ (omega arith) up was hold' kept;
    unshut = S.unshut;
    whole = moved-whole y layout hold S (jv ∷ d) _ _ _ _ _ _ _ (omega arith) up was outside;
    sessions = moved-sessions y layout hold S (jv ∷ d) _ _ _ _ _ _ _ (omega arith) up was;
    marks = record { empty = λ s e. changed-other hold a both s (mark_apart y a s H.unmarked_a e) ∙ S.marks.empty s e; main = S.marks.main };
  }
