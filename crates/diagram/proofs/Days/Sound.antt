-- What holds of the day after every run: transactions are held whole by one revision, seen whole from outside, and in sessions.
use Prim.Native.Nat.{◌<◌, ◌≤◌, ℕ}
use mathlib.Core.Bool.{false, true}
use mathlib.Core.Path.{◌∙◌, ◌≡◌, ap, refl, sym}
use mathlib.Core.Option.{Option, none, some}
use mathlib.Core.List.Memᴰ
use mathlib.Core.List.{List, Nodup, [], ◌++◌, ◌∷◌}
use native.Mathlib.Omega.{arith}
use lib.ListN.{length}
use Rattle.blocks.specs.Blocks.{blocks}
use Rattle.diagram.proofs.Arranged.Advance.{Linked, contents}
use Rattle.diagram.proofs.Days.Real.{Real, real_fresh}
use Rattle.diagram.proofs.Graph.Events.{own_events}
use Rattle.diagram.proofs.Graph.Paths.{leads_path, path_bound}
use Rattle.diagram.specs.Arbitration.{events_of}
use Rattle.diagram.specs.Checks.{marked}
use Rattle.diagram.specs.Day.{Day, IsOut, Transaction, fresh}
use Rattle.diagram.specs.Diagram.{Diagram}
use Rattle.diagram.specs.Leads.{leads}
use Rattle.diagram.specs.Effects.{tabulate}
use Rattle.diagram.specs.Sizes.{client_limit}
use Rattle.lists.proofs.Blocks.{flat-++, flat_in, flat_nodup, flat_back_from}
use Rattle.lists.specs.Lists.{◌∈◌, flat}
use Rattle.lists.specs.Arranged.{flat_back}

-- each revision that is out holds its transactions whole, one after another
pub record Filed (y : Day) (layout : List ℕ) (hold : ℕ → List ℕ) : Type 0 where
  pub blocks_ok : (x : ℕ) → x ∈ layout → own_events y.diagram (y.terminal x) ≡ flat (events_of y) (hold x)
  pub all : (t : ℕ) → t < y.transactions → (x : ℕ) × (x ∈ layout) × (t ∈ hold x)
  pub low : (x t : ℕ) → x ∈ layout → t ∈ hold x → t < y.transactions
  pub first : (t : ℕ) → t < y.transactions → (e : ℕ) × (e ∈ events_of y t)

-- client c's open transaction is t
pub record Runs (y : Day) (hold : ℕ → List ℕ) (c t : ℕ) : Type 0 where
  pub known : t < y.transactions
  pub client : (y.transaction t).client ≡ c
  pub unshut : (y.transaction t).closed ≡ none
  pub client_ok : c < client_limit
  pub out : IsOut y (y.transaction t).revision
  pub last_is : y.last_event c ≡ some (y.terminal (y.transaction t).revision)
  pub last_in : y.terminal (y.transaction t).revision ∈ events_of y t
  pub at_end : (init : List ℕ) × (hold (y.transaction t).revision ≡ init ++ (t ∷ []))
  pub latest : (s : ℕ) → t < s → s < y.transactions → (y.transaction s).client ≡ c → ⊥

-- a transaction is seen whole from outside, and only after its yield
pub record SeenWhole (d : Diagram) (w : Transaction) (x : ℕ) : Type 0 where
  pub at : ℕ
  pub is : w.closed ≡ some at
  pub before : at ≤ x
  pub whole : (e : ℕ) → e ∈ w.events → leads d e x ≡ true

pub record Whole (y : Day) : Type 0 where
  pub outside : (t x e : ℕ) → t < y.transactions → x < length y.diagram → (x ∈ events_of y t → ⊥) → e ∈ events_of y t → leads y.diagram e x ≡ true → SeenWhole y.diagram (y.transaction t) x
  pub at_terminal : (r t : ℕ) → IsOut y r → t < y.transactions → y.terminal r ∈ events_of y t → (e : ℕ) → e ∈ events_of y t → leads y.diagram e (y.terminal r) ≡ true
  pub own_revision : (r t : ℕ) → IsOut y r → t < y.transactions → y.terminal r ∈ events_of y t → (y.transaction t).closed ≡ none → (y.transaction t).revision ≡ r
  pub closed_low : (t n : ℕ) → t < y.transactions → (y.transaction t).closed ≡ some n → n ≤ length y.diagram

-- a client's later transactions see its earlier ones
pub record Sessions (y : Day) : Type 0 where
  pub last_low : (c l : ℕ) → y.last_event c ≡ some l → l < length y.diagram
  pub last_sees : (t e : ℕ) → t < y.transactions → e ∈ events_of y t → (l : ℕ) × (y.last_event (y.transaction t).client ≡ some l) × (leads y.diagram e l ≡ true)
  pub later : (s t e f : ℕ) → s < t → t < y.transactions → (y.transaction s).client ≡ (y.transaction t).client → e ∈ events_of y s → f ∈ events_of y t → leads y.diagram e f ≡ true

-- 02, U9: a mark holds no transaction; the main revision is none
pub record Unwritten (y : Day) (hold : ℕ → List ℕ) : Type 0 where
  pub empty : (r : ℕ) → marked y r ≡ true → hold r ≡ []
  pub main : marked y 0 ≡ false

pub record Sound (y : Day) (layout : List ℕ) (hold : ℕ → List ℕ) : Type 0 where
  pub real : Real y layout
  pub filed : Filed y layout hold
  pub runs : (c t : ℕ) → y.open_by c ≡ some t → Runs y hold c t
  pub unshut : (t : ℕ) → t < y.transactions → (y.transaction t).closed ≡ none → y.open_by (y.transaction t).client ≡ some t
  pub whole : Whole y
  pub sessions : Sessions y
  pub marks : Unwritten y hold

pub some≢none : {n : ℕ} (o : Option ℕ) → o ≡ some n → o ≡ none → ⊥
some≢none {n} o p q = let z : ◌≡◌ {A = ℕ} 0 1 = cc in omega arith

pub same_some : {m n : ℕ} → some m ≡ some n → m ≡ n
same_some e = cc

pub sound_fresh : Sound fresh (0 ∷ []) (λ x. [])
unfolding tabulate marked
sound_fresh = record {
  real = real_fresh;
  filed = record {
    blocks_ok = λ x i. refl;
    all = λ t h. let b : t < 0 = h in absurd (omega arith);
    low = λ x t i j. absurd (Memᴰ.not-nil j);
    first = λ t h. let b : t < 0 = h in absurd (omega arith);
  };
  runs = λ c t e. absurd (some≢none none e refl);
  unshut = λ t h e. let b : t < 0 = h in absurd (omega arith);
  whole = record {
    outside = λ t x e h b n i s. absurd (Memᴰ.not-nil i);
    at_terminal = λ r t o h i e j. absurd (Memᴰ.not-nil j);
    own_revision = λ r t o h i e. absurd (Memᴰ.not-nil i);
    closed_low = λ t n h e. absurd (some≢none none e refl);
  };
  sessions = record {
    last_low = λ c l e. absurd (some≢none none e refl);
    last_sees = λ t e h i. absurd (Memᴰ.not-nil i);
    later = λ s t e f l h q i j. absurd (Memᴰ.not-nil i);
  };
  marks = record { empty = λ r e. refl; main = refl };
}

module _ (y : Day) (layout : List ℕ) (hold : ℕ → List ℕ) (F : Filed y layout hold) where
  flat-from-blocks : (l : List ℕ) → ((x : ℕ) → x ∈ l → own_events y.diagram (y.terminal x) ≡ flat (events_of y) (hold x)) → flat (events_of y) (flat_back hold l) ≡ blocks (contents y.diagram y.terminal) l
  flat-from-blocks [] h = refl
  flat-from-blocks (x ∷ l) h =
      flat-++ (events_of y) (flat_back hold l) (hold x) ∙ ap (λ z. z ++ flat (events_of y) (hold x)) (flat-from-blocks l (λ z i. h z (Memᴰ.tail i))) ∙ ap (λ z. blocks (contents y.diagram y.terminal) l ++ z) (sym (h x (Memᴰ.head refl)))

  pub flat-blocks : flat (events_of y) (flat_back hold layout) ≡ blocks (contents y.diagram y.terminal) layout
  flat-blocks = flat-from-blocks layout F.blocks_ok

module _ (y : Day) (layout : List ℕ) (hold : ℕ → List ℕ) (S : Sound y layout hold) where
  pub link : Linked y.diagram layout y.terminal y.start_of
  link = S.real.linked

  pub flat-once : Nodup (flat (events_of y) (flat_back hold layout))
  flat-once = rw (flat-blocks y layout hold S.filed) link.inv.once

  pub order-once : Nodup (flat_back hold layout)
  order-once = flat_nodup (events_of y) (flat_back hold layout) (λ t i. let p = flat_back_from hold t layout i in S.filed.first t (S.filed.low p.0 t p.1 p.2)) flat-once

  -- an event is a vertex of the day
  pub event-low : (t e : ℕ) → t < y.transactions → e ∈ events_of y t → e < length y.diagram
  event-low t e h i =
      let p = S.filed.all t h in
      link.small (y.terminal p.0) e (rw (S.filed.blocks_ok p.0 p.1) (flat_in (events_of y) t e (hold p.0) p.2 i))

  pub leads-low : (x z : ℕ) → leads y.diagram x z ≡ true → z < length y.diagram
  leads-low x z e = path_bound link.ordered (leads_path y.diagram x z e)
