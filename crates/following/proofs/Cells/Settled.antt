-- How many of the main revision's own updates are settled on a day, step by step: all but those of an open transaction on it.
use Prim.Native.Nat.{◌+◌, ℕ}
use mathlib.Core.Bool.{Bool}
use mathlib.Core.Path.{◌∙◌, ◌≡◌, ap, refl, sym}
use mathlib.Core.Option.{Option, none, some}
use mathlib.Core.List.{[], ◌++◌, ◌∷◌, append-nil}
use native.Mathlib.Omega.{arith}
use lib.Dec.{eqb}
use lib.ListN.{length, length-append}
use borrow.Author.Tests.{eq-eqb, eqb-false, eqb-true, ne_eqb}
use Rattle.lists.specs.Names.{Name}
use Rattle.lists.proofs.Blocks.{flat-++}
use Rattle.lists.proofs.Cases.{cases}
use Rattle.diagram.specs.Arbitration.{Numbered, events_of}
use Rattle.diagram.specs.Day.{Day, IsBusy, IsIdle}
use Rattle.diagram.specs.Diagram.{Diagram, Vertex}
use Rattle.diagram.specs.Effects.{entry, number, numbers}
use Rattle.diagram.specs.Steps.{enter, enters_into, events_before, drop_at, fork_at, join_into, new_update, yield}
use Rattle.diagram.proofs.Days.Entry.{facts}
use Rattle.diagram.proofs.Days.Moves.{CanEnter, CanJoin}
use Rattle.diagram.proofs.Days.Sound.{event-low, same_some, some≢none}
use Rattle.diagram.proofs.Graph.Tables.{number_step, tabulate-newest}
use Rattle.diagram.proofs.Graph.Visible.{numbers_old}
use Rattle.diagram.proofs.Order.Closed.{one-open}
use Rattle.diagram.proofs.Order.Growth.{Fine}
use Rattle.cells.specs.Sizes.{main}

-- n of the main revision's own updates, of which there are `count`, are settled
pub record Settled (y : Day) (n count : ℕ) : Type 0 where
  pub idle : IsIdle y main → n ≡ count
  pub busy : (c t : ℕ) → y.open_by c ≡ some t → (y.transaction t).revision ≡ main → n + length (numbers y.diagram (events_of y t)) ≡ count

-- a step that leaves who is busy there, and with what
keeps : (y z : Day) (n count : ℕ) → Settled y n count → (IsBusy y main → IsBusy z main)
    → ((c t : ℕ) → z.open_by c ≡ some t → (z.transaction t).revision ≡ main → (y.open_by c ≡ some t) × ((y.transaction t).revision ≡ main) × (numbers z.diagram (events_of z t) ≡ numbers y.diagram (events_of y t)))
    → Settled z n count
keeps y z n count S on back = record {
  idle = λ i. S.idle (λ b. i (on b));
  busy = λ c t q r. let p = back c t q r in ap (λ l. n + length l) p.2 ∙ S.busy c t p.0 p.1;
}

-- a step after which it is idle, and all is settled
all_settled : (z : Day) (n : ℕ) → IsIdle z main → Settled z n n
all_settled z n i = record { idle = λ j. refl; busy = λ c t q r. absurd (i (c, t, q, r)) }

module _ (y : Day) (F : Fine y) (n count : ℕ) (S : Settled y n count) where
  abbrev d : Diagram
  d = y.diagram

  -- a transaction's events are older than what comes now
  older : (v : Vertex) (c t : ℕ) → y.open_by c ≡ some t → numbers (v ∷ d) (events_of y t) ≡ numbers d (events_of y t)
  older v c t q = numbers_old v d (events_of y t) (λ e i. event-low y F.layout F.hold F.sound t e (F.sound.runs c t q).known i)

  module _ (c r : ℕ) (u : Bool) (E : CanEnter y c r) where
    abbrev z : Day
    z = enter y c r u

    abbrev t₀ : ℕ
    t₀ = enters_into y (y.open_by c)

    -- another client's open transaction stays as it is
    other : (o t : ℕ) → y.open_by o ≡ some t → (o ≡ c → ⊥) → t ≡ t₀ → ⊥
    other o t q nc = (facts y F.layout F.hold F.sound c r E (y.open_by c) refl).lone o t q nc

    others_stay : (o t : ℕ) → y.open_by o ≡ some t → (o ≡ c → ⊥) → z.transaction t ≡ y.transaction t
    others_stay o t q nc = rw (ne_eqb t t₀ (other o t q nc))

    others-open : (o t : ℕ) → z.open_by o ≡ some t → (o ≡ c → ⊥) → y.open_by o ≡ some t
    others-open o t q nc = rw (ne_eqb o c nc) at q

    mine : (t : ℕ) → z.open_by c ≡ some t → t ≡ t₀
    mine t q = same_some (sym q ∙ rw (eq-eqb c c refl))

    mine-on : (z.transaction t₀).revision ≡ r
    mine-on = rw (eq-eqb t₀ t₀ refl)

    mine-events : (z.transaction t₀).events ≡ events_before y (y.open_by c) ++ (length d ∷ [])
    mine-events = rw (eq-eqb t₀ t₀ refl)

    pub enters-elsewhere : (r ≡ main → ⊥) → Settled z n count
    enters-elsewhere away = keeps y z n count S
        (λ (o, t, q, on).
        let nc : o ≡ c → ⊥ = λ e. away (sym (E.same_revision t (ap y.open_by (sym e) ∙ q)) ∙ on) in
        (o, t, rw (ne_eqb o c nc) q, ap (λ w. w.revision) (others_stay o t q nc) ∙ on))
        (λ o t q on. cases (eqb o c)
        (λ e. absurd (away (sym mine-on ∙ ap (λ s. (z.transaction s).revision) (sym (mine t (ap z.open_by (sym (eqb-true o c e)) ∙ q))) ∙ on)))
        (λ e.
        let nc = eqb-false o c e in
        let was = others-open o t q nc in
        let stays = others_stay o t was nc in
        (was, ap (λ w. w.revision) (sym stays) ∙ on, ap (λ w. numbers z.diagram w.events) stays ∙ older _ o t was)))

    -- nobody else has r busy
    no_other : (o t : ℕ) → y.open_by o ≡ some t → (o ≡ c → ⊥) → (y.transaction t).revision ≡ r → ⊥
    no_other o t q nc on = eqb-false (y.transaction t).revision r (rw q at (E.idle o (F.sound.runs o t q).client_ok nc)) on

    module _ (here : r ≡ main) where
      before : (p : Option ℕ) → y.open_by c ≡ p → n + length (numbers d (events_before y p)) ≡ count
      before none q =
          let nobody : IsIdle y main = λ (o, t, e, on). no_other o t e (λ w. some≢none (y.open_by c) (ap y.open_by (sym w) ∙ e) q) (on ∙ sym here) in
          let i = S.idle nobody in
          omega arith
      before (some t) q = S.busy c t q (E.same_revision t q ∙ here)

      new-numbers : numbers z.diagram (events_before y (y.open_by c) ++ (length d ∷ [])) ≡ numbers d (events_before y (y.open_by c)) ++ entry (new_update y u)
      new-numbers =
          flat-++ (λ e. entry (number z.diagram e)) (events_before y (y.open_by c)) (length d ∷ [])
          ∙ ap (λ l. l ++ numbers z.diagram (length d ∷ [])) (numbers_old _ d _ (facts y F.layout F.hold F.sound c r E (y.open_by c) refl).before-low)
          ∙ ap (λ l. numbers d (events_before y (y.open_by c)) ++ l) (ap (λ e. entry e ++ []) (tabulate-newest number_step none _ d) ∙ append-nil (entry (new_update y u)))

      pub enters-main : Settled z n (count + length (entry (new_update y u)))
      enters-main = record {
        idle = λ i. absurd (i (c, t₀, rw (eq-eqb c c refl), mine-on ∙ here));
        busy = λ o t q on. cases (eqb o c)
            (λ e.
            let is = mine t (ap z.open_by (sym (eqb-true o c e)) ∙ q) in
            let l : events_of z t ≡ events_before y (y.open_by c) ++ (length d ∷ []) = ap (events_of z) is ∙ mine-events in
            let a = ap length (ap (numbers z.diagram) l ∙ new-numbers) in
            let b = length-append (numbers d (events_before y (y.open_by c))) (entry (new_update y u)) in
            let f = before (y.open_by c) refl in
            omega arith)
            (λ e.
            let nc = eqb-false o c e in
            let was = others-open o t q nc in
            absurd (no_other o t was nc (ap (λ w. w.revision) (sym (others_stay o t was nc)) ∙ on ∙ sym here)));
      }

  module _ (N : Numbered d y.updates) (c t : ℕ) (q : y.open_by c ≡ some t) where
    abbrev shut : Day
    shut = yield y c (some t)

    same_revision : (s : ℕ) → (shut.transaction s).revision ≡ (y.transaction s).revision
    same_revision s = cases (eqb s t) (λ e. rw (e, eqb-true s t e)) (λ e. rw e)

    same-events : (s : ℕ) → (shut.transaction s).events ≡ (y.transaction s).events
    same-events s = cases (eqb s t) (λ e. rw (e, eqb-true s t e)) (λ e. rw e)

    still_open : (o s : ℕ) → shut.open_by o ≡ some s → (y.open_by o ≡ some s) × (o ≡ c → ⊥)
    still_open o s e = cases (eqb o c)
        (λ w. let f : none ≡ some s = rw w at e in absurd (some≢none (some s) refl (sym f)))
        (λ w. (rw w at e, eqb-false o c w))

    pub yields-main : (y.transaction t).revision ≡ main → Settled shut count count
    yields-main here = all_settled shut count (λ (o, s, e, on).
        let p = still_open o s e in
        p.1 (sym (one-open y F N c t o s q p.0 (here ∙ sym on ∙ same_revision s))))

    pub yields-elsewhere : ((y.transaction t).revision ≡ main → ⊥) → Settled shut n count
    yields-elsewhere away = keeps y shut n count S
        (λ (o, s, e, on).
        let nc : o ≡ c → ⊥ = λ w. away (ap (λ x. (y.transaction x).revision) (same_some (sym q ∙ ap y.open_by (sym w) ∙ e)) ∙ on) in
        (o, s, rw (ne_eqb o c nc) e, same_revision s ∙ on))
        (λ o s e on. ((still_open o s e).0, sym (same_revision s) ∙ on, ap (numbers d) (same-events s)))

  pub forks : (r : ℕ) (name : Option Name) → Settled (fork_at y r name) n count
  forks r name = keeps y (fork_at y r name) n count S
      (λ b. b)
      (λ c t q on. (q, on, numbers_old _ _ (events_of y t) (λ e i. let l = event-low y F.layout F.hold F.sound t e (F.sound.runs c t q).known i in omega arith) ∙ older _ c t q))

  pub drops : (r : ℕ) → Settled (drop_at y r) n count
  drops r = keeps y (drop_at y r) n count S (λ b. b) (λ c t q on. (q, on, refl))

  module _ (a b : ℕ) (J : CanJoin y a b) where
    pub joins-elsewhere : Settled (join_into y a b) n count
    joins-elsewhere = keeps y (join_into y a b) n count S (λ w. w) (λ c t q on. (q, on, older _ c t q))

    pub joins-main : a ≡ main → (all : ℕ) → Settled (join_into y a b) all all
    joins-main here all = all_settled (join_into y a b) all (λ (c, t, q, on).
        eqb-false (y.transaction t).revision a (rw q at (J.idle_a c (F.sound.runs c t q).client_ok tt)) (on ∙ sym here))
