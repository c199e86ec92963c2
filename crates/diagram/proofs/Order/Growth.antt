-- A day that is sound stays so; the diagram only grows, and what a revision lists grows only at its end.
use Prim.Native.Nat.{◌<◌, ◌≤◌, ℕ}
use mathlib.Core.Bool.{false, false≢true, true}
use mathlib.Core.Path.{◌∙◌, ◌≡◌, refl, sym}
use mathlib.Core.Logic.{◌↔◌, inl, inr}
use mathlib.Core.Option.{Option, none, some}
use mathlib.Core.List.{List, [], ◌++◌, ◌∷◌, append-nil}
use native.Mathlib.Omega.{arith}
use lib.ListN.{length}
use lib.Dec.{eqb}
use borrow.Author.Tests.{eqb-false, eqb-true, ne_eqb}
use Rattle.diagram.proofs.Days.Dropping.{sound-drop}
use Rattle.diagram.proofs.Days.Entering.{sound-enter}
use Rattle.diagram.proofs.Days.Forking.{sound-fork}
use Rattle.diagram.proofs.Days.Joining.{sound-join}
use Rattle.diagram.proofs.Days.Moves.{Moves, drops_of, enters, idle-all, joins_into, forks_at, yields}
use Rattle.diagram.proofs.Days.Sound.{SeenWhole, Sound, link, sound_fresh}
use Rattle.diagram.proofs.Days.Yielding.{sound_yield}
use Rattle.diagram.proofs.Graph.Paths.{leads_path, path_leads}
use Rattle.diagram.proofs.Graph.Tables.{tabulate-newest, tabulate-older}
use Rattle.diagram.specs.Arbitration.{Extends, WholeAt, events_of}
use Rattle.diagram.specs.Day.{Day, IsIdle, fresh}
use Rattle.diagram.specs.Checks.{busy, is_on}
use Rattle.diagram.specs.Sizes.{client_limit}
use Rattle.diagram.specs.Diagram.{Diagram, Vertex, event, fork, join, start}
use Rattle.diagram.specs.Leads.{leads}
use Rattle.diagram.specs.Effects.{entry, tabulate}
use Rattle.diagram.specs.Views.{own, view, view_step}
use Rattle.diagram.specs.Steps.{new_update, yield}
use Rattle.lists.proofs.Cases.{cases}
use Rattle.lists.proofs.Sums.{any_never}
use Rattle.lists.specs.Lists.{◌∈◌}

-- a day that is sound, with its layout
pub record Fine (y : Day) : Type 0 where
  pub layout : List ℕ
  pub hold : ℕ → List ℕ
  pub sound : Sound y layout hold

unfoldable pub fine_moves : (y z : Day) → Fine y → Moves y z → Fine z
fine_moves y z F (enters c r u E) = let s = sound-enter y F.layout F.hold F.sound c r u E in record { layout = F.layout; hold = s.0; sound = s.1 }
fine_moves y z F (yields c h) = record { layout = F.layout; hold = F.hold; sound = sound_yield y F.layout F.hold F.sound c (y.open_by c) refl }
fine_moves y z F (forks_at r name N) = record { layout = _; hold = _; sound = sound-fork y F.layout F.hold F.sound r name N }
fine_moves y z F (joins_into a b H) = record { layout = _; hold = _; sound = sound-join y F.layout F.hold F.sound a b H }
fine_moves y z F (drops_of r D) = record { layout = _; hold = _; sound = sound-drop y F.layout F.hold F.sound r D }

unfoldable pub fine_fresh : Fine fresh
fine_fresh = record { layout = 0 ∷ []; hold = λ x. []; sound = sound_fresh }

-- the test of code 7 is 01's "busy"
pub busy_idle : (y : Day) → Fine y → (r : ℕ) → (busy y r ≡ false) ↔ IsIdle y r
unfolding busy
busy_idle y F r = (there, back)
  where
    there : busy y r ≡ false → IsIdle y r
    there e (c, t, q, z) =
        let f = idle-all y r e c (F.sound.runs c t q).client_ok tt in
        let g : eqb (y.transaction t).revision r ≡ false = rw q at f in
        eqb-false _ r g z

    back : IsIdle y r → busy y r ≡ false
    back i = any_never client_limit _ (λ o h. by o (y.open_by o) refl)
      where
        by : (o : ℕ) (p : Option ℕ) → y.open_by o ≡ p → is_on y p r ≡ false
        by o none q = refl
        by o (some t) q = cases (eqb (y.transaction t).revision r) (λ e. absurd (i (o, t, q, eqb-true _ r e))) (λ e. e)

-- a revision's list grows only at its end
pub extends : (y z : Day) → Fine y → Moves y z → Extends y z
extends y z F (enters c r u E) s o p =
    cases (eqb s r)
    (λ e. (entry (new_update y u), rw (e, tabulate-newest view_step [] v y.diagram, eqb-true s r e)))
    (λ e. ([], rw (e, tabulate-older view_step [] v y.diagram (y.terminal s) (F.sound.real.linked.bound s)) (sym (append-nil _))))
  where
    v : Vertex
    v = event (y.terminal r) c (new_update y u)
extends y z F (yields c h) r o p = by (y.open_by c)
  where
    by : (q : Option ℕ) → (more : List ℕ) × (view (yield y c q).diagram ((yield y c q).terminal r) ≡ view y.diagram (y.terminal r) ++ more)
    by none = ([], sym (append-nil _))
    by (some t) = ([], sym (append-nil _))
extends y z F (forks_at r name N) s o p =
    let old : eqb s y.revisions ≡ false = ne_eqb s y.revisions (λ e. omega (arith, o.0)) in
    let b = F.sound.real.linked.bound s in
    cases (eqb s r)
    (λ e. ([], rw (old, e, tabulate-older view_step [] sv (fv ∷ d) (length d) (omega arith), tabulate-newest view_step [] fv d, eqb-true s r e) (sym (append-nil _))))
    (λ e. ([], rw (old, e, tabulate-older view_step [] sv (fv ∷ d) (y.terminal s) (omega arith), tabulate-older view_step [] fv d (y.terminal s) b) (sym (append-nil _))))
  where
    d : Diagram
    d = y.diagram

    fv : Vertex
    fv = fork (y.terminal r)

    sv : Vertex
    sv = start (length d)
extends y z F (joins_into a b H) s o p =
    cases (eqb s a)
    (λ e. (own y.diagram (y.terminal b), rw (e, tabulate-newest view_step [] jv y.diagram, eqb-true s a e)))
    (λ e. ([], rw (e, tabulate-older view_step [] jv y.diagram (y.terminal s) (F.sound.real.linked.bound s)) (sym (append-nil _))))
  where
    jv : Vertex
    jv = join (y.terminal a) (y.terminal b)
extends y z F (drops_of r D) s o p = ([], sym (append-nil _))

-- the diagram only grows, and what a vertex lists stays
pub data Older (d : Diagram) : Diagram → Type 0 where
  same : Older d d
  next : {v : Vertex} {e : Diagram} → Older d e → Older d (v ∷ e)

pub older_length : {d e : Diagram} → Older d e → length d ≤ length e
older_length same = omega arith
older_length (next o) = omega (arith, older_length o)

pub older_trans : {d e f : Diagram} → Older d e → Older e f → Older d f
older_trans o same = o
older_trans o (next p) = next (older_trans o p)

pub tabulate_stays : {A : Type 0} (step : Diagram → (ℕ → A) → Vertex → A) (outside : A) {d e : Diagram} → Older d e → (x : ℕ) → x < length d → tabulate step outside e x ≡ tabulate step outside d x
tabulate_stays step outside same x h = refl
tabulate_stays step outside (next {v} {e} o) x h = tabulate-older step outside v e x (omega (arith, older_length o)) ∙ tabulate_stays step outside o x h

pub view_stays : {d e : Diagram} → Older d e → (x : ℕ) → x < length d → view e x ≡ view d x
view_stays = tabulate_stays view_step []

pub older_moves : (y z : Day) → Moves y z → Older y.diagram z.diagram
older_moves y z (enters c r u E) = next same
older_moves y z (yields c h) = by (y.open_by c)
  where
    by : (q : Option ℕ) → Older y.diagram (yield y c q).diagram
    by none = same
    by (some t) = same
older_moves y z (forks_at r name N) = next (next same)
older_moves y z (joins_into a b H) = next same
older_moves y z (drops_of r D) = same

-- from outside a transaction is seen whole or not at all, and only after its yield
pub whole_of : (y : Day) → Fine y → (t x : ℕ) → t < y.transactions → x < length y.diagram → (x ∈ events_of y t → ⊥) → WholeAt y t x x
whole_of y F t x h l n =
    cases (leads y.diagram first.0 x)
    (λ e.
    let s = seen-whole first.0 first.1 e in
    inr (λ z i. leads_path y.diagram z x (s.whole z i), record { at = s.at; is = s.is; soon = s.before }))
    (λ e. inl (λ z i p. false≢true (sym e ∙ (seen-whole z i (path_leads (link y F.layout F.hold F.sound).ordered p)).whole first.0 first.1)))
  where
    first : (e : ℕ) × (e ∈ events_of y t)
    first = F.sound.filed.first t h

    seen-whole : (e : ℕ) → e ∈ events_of y t → leads y.diagram e x ≡ true → SeenWhole y.diagram (y.transaction t) x
    seen-whole e i q = F.sound.whole.outside t x e h l n i q
