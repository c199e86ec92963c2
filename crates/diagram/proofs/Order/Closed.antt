-- Of a revision's own updates those of an open transaction on it are the last, and all others are of closed ones.
use Prim.Native.Nat.{◌<◌, ℕ}
use mathlib.Core.Path.{◌∙◌, ◌≡◌, ap, refl, subst, sym}
use mathlib.Core.Option.{Option, none, some}
use mathlib.Core.List.Memᴰ
use mathlib.Core.List.{List, Nodup, [], ◌++◌, ◌∷◌, append-nil}
use native.Mathlib.Omega.{arith}
use lib.ListN.{get_or, length, length-append}
use lib.Seq.{get_or_at}
use Rattle.diagram.proofs.Days.Sound.{Sound, flat-once, order-once, some≢none}
use Rattle.diagram.proofs.Graph.Visible.{view-numbers}
use Rattle.diagram.proofs.Order.Growth.{Fine}
use Rattle.diagram.proofs.Order.Inherited.{entry_is}
use Rattle.diagram.proofs.Order.Numbered.{one}
use Rattle.diagram.specs.Arbitration.{Numbered, events_of}
use Rattle.diagram.specs.Closed.{ClosedShown, OfClosed}
use Rattle.diagram.specs.Day.{Day, IsIdle, IsOut}
use Rattle.diagram.specs.Diagram.{Diagram}
use Rattle.diagram.specs.Effects.{entry, number, numbers}
use Rattle.diagram.specs.Views.{own, view}
use Rattle.lists.proofs.Blocks.{flat-++, flat_from, flat_back_in, flat_back_nodup, flat_back-one, same_block}
use Rattle.lists.proofs.Sublists.{nodup_apart}
use Rattle.lists.specs.Lists.{◌∈◌, Only, drops, ends, flat, keeps}
use Rattle.lists.specs.Arranged.{flat_back}

-- all of a list stay, and all of its front
only_all : {P : ℕ → Type 0} (l : List ℕ) → ((e : ℕ) → e ∈ l → P e) → Only P l l
only_all [] h = ends
only_all (e ∷ l) h = keeps (h e (Memᴰ.head refl)) (only_all l (λ x i. h x (Memᴰ.tail i)))

only_none : {P : ℕ → Type 0} (l : List ℕ) → ((e : ℕ) → e ∈ l → P e → ⊥) → Only P l []
only_none [] h = ends
only_none (e ∷ l) h = drops (h e (Memᴰ.head refl)) (only_none l (λ x i. h x (Memᴰ.tail i)))

only-front : {P : ℕ → Type 0} (w l : List ℕ) → ((e : ℕ) → e ∈ w → P e) → ((e : ℕ) → e ∈ l → P e → ⊥) → Only P (w ++ l) w
only-front [] l h g = only_none l g
only-front (e ∷ w) l h g = keeps (h e (Memᴰ.head refl)) (only-front w l (λ x i. h x (Memᴰ.tail i)) g)

-- what stays was there
pub only-in : {P : ℕ → Type 0} {l w : List ℕ} → Only P l w → (n : ℕ) → n ∈ w → n ∈ l
only-in ends n i = i
only-in (keeps p o) n (Memᴰ.head e) = Memᴰ.head e
only-in (keeps p o) n (Memᴰ.tail i) = Memᴰ.tail (only-in o n i)
only-in (drops d o) n i = Memᴰ.tail (only-in o n i)

-- the last of two lists that are the same
same_last : (a b : List ℕ) (s t : ℕ) → a ++ (s ∷ []) ≡ b ++ (t ∷ []) → s ≡ t
same_last a b s t e =
    let l : length b ≡ length a = omega (arith, ap length e, length-append a (s ∷ []), length-append b (t ∷ [])) in
    sym (get_or_at a s [] 0 (length a) refl) ∙ ap (λ l. get_or l (length a) 0) e ∙ get_or_at b t [] 0 (length a) l

module _ (y : Day) (F : Fine y) (N : Numbered y.diagram y.updates) where
  abbrev d : Diagram
  d = y.diagram

  abbrev hold : ℕ → List ℕ
  hold = F.hold

  S : Sound y F.layout hold
  S = F.sound

  -- an update of some transactions, by its event
  entered : (n : ℕ) (ts : List ℕ) → n ∈ numbers d (flat (events_of y) ts) → (t : ℕ) × (t ∈ ts) × (e : ℕ) × (e ∈ events_of y t) × (number d e ≡ some n)
  entered n ts i =
      let p = flat_from (λ e. entry (number d e)) n (flat (events_of y) ts) i in
      let q = flat_from (events_of y) p.0 ts p.1 in
      (q.0, q.1, p.0, q.2, entry_is (number d p.0) n p.2)

  in_order : (t : ℕ) → t < y.transactions → t ∈ flat_back hold F.layout
  in_order t h = let p = S.filed.all t h in flat_back_in hold p.0 t F.layout p.1 p.2

  -- an update of an open transaction is of no closed one
  open-only : (c t : ℕ) → y.open_by c ≡ some t → (n : ℕ) → n ∈ numbers d (events_of y t) → OfClosed y n → ⊥
  open-only c t e n i O =
      let R = S.runs c t e in
      let p = flat_from (λ e. entry (number d e)) n (events_of y t) i in
      let same : p.0 ≡ O.event = one N p.0 O.event n (entry_is (number d p.0) n p.2) O.update in
      let block : t ≡ O.transaction =
      same_block (events_of y) (flat_back hold F.layout) (flat-once y F.layout hold S) t O.transaction O.event (in_order t R.known) (in_order O.transaction O.known) (Memᴰ.cast (sym same) p.1) O.entered in
      some≢none (y.transaction t).closed (ap (λ s. (y.transaction s).closed) block ∙ O.closed) R.unshut

  -- no two are open on one revision
  pub one-open : (c t o s : ℕ) → y.open_by c ≡ some t → y.open_by o ≡ some s → (y.transaction t).revision ≡ (y.transaction s).revision → c ≡ o
  one-open c t o s e f on =
      let R = S.runs c t e in
      let Q = S.runs o s f in
      let same : t ≡ s = same_last R.at_end.0 Q.at_end.0 t s (sym R.at_end.1 ∙ ap hold on ∙ Q.at_end.1) in
      sym R.client ∙ ap (λ x. (y.transaction x).client) same ∙ Q.client

  module _ (r : ℕ) (o : IsOut y r) where
    here : r ∈ F.layout
    here = S.real.out r o

    pub own_held : own d (y.terminal r) ≡ numbers d (flat (events_of y) (hold r))
    own_held = (view-numbers S.real.linked.ordered (y.terminal r) (S.real.linked.bound r)).0 ∙ ap (numbers d) (S.filed.blocks_ok r here)

    -- a transaction held by r that is open is on r
    on-it : (s : ℕ) → s ∈ hold r → (y.transaction s).closed ≡ none → (y.open_by (y.transaction s).client ≡ some s) × ((y.transaction s).revision ≡ r)
    on-it s i e =
        let known = S.filed.low r s here i in
        let b = S.unshut s known e in
        let R = S.runs (y.transaction s).client s b in
        let last : s ∈ hold (y.transaction s).revision = rw R.at_end.1 (Memᴰ.append_right R.at_end.0 (Memᴰ.head refl)) in
        (b, flat_back-one hold F.layout (order-once y F.layout hold S) (y.transaction s).revision r s (S.real.out _ R.out) here last i)

    -- an update of a transaction held by r that is not open
    of-closed : (n : ℕ) (ts : List ℕ) → ((s : ℕ) → s ∈ ts → (s ∈ hold r) × ((y.transaction s).closed ≡ none → ⊥)) → n ∈ numbers d (flat (events_of y) ts) → OfClosed y n
    of-closed n ts h i =
        let p = entered n ts i in
        let q = h p.0 p.1 in
        by p.0 (S.filed.low r p.0 here q.0) q.1 p.2 p.3 p.4 (y.transaction p.0).closed refl
      where
        by : (s : ℕ) → s < y.transactions → ((y.transaction s).closed ≡ none → ⊥) → (e : ℕ) → e ∈ events_of y s → number d e ≡ some n → (c : Option ℕ) → (y.transaction s).closed ≡ c → OfClosed y n
        by s k shut e j u none q = absurd (shut q)
        by s k shut e j u (some at) q = record { transaction = s; known = k; at = at; closed = q; event = e; entered = j; update = u }

    -- idle: all that it shows of its own
    pub closed-idle : IsIdle y r → view d (y.terminal r) ≡ own d (y.terminal r) → ClosedShown y r (view d (y.terminal r))
    closed-idle idle v =
        rw (v, own_held)
        (only_all (numbers d (flat (events_of y) (hold r)))
        (λ n i. of-closed n (hold r) (λ s j. (j, λ z. let q = on-it s j z in idle ((y.transaction s).client, s, q.0, q.1))) i))

    -- busy: what is before the open transaction's updates
    pub closed-busy : (c t : ℕ) → y.open_by c ≡ some t → (y.transaction t).revision ≡ r → view d (y.terminal r) ≡ own d (y.terminal r)
        → (w : List ℕ) × (view d (y.terminal r) ≡ w ++ numbers d (events_of y t)) × ClosedShown y r w
    closed-busy c t e on v = (w, whole, subst (λ l. Only (OfClosed y) l w) (sym whole) (only-front w (numbers d (events_of y t)) (λ n i. of-closed n init shut i) (open-only c t e)))
      where
        init : List ℕ
        init = (S.runs c t e).at_end.0

        held : hold r ≡ init ++ (t ∷ [])
        held = ap hold (sym on) ∙ (S.runs c t e).at_end.1

        w : List ℕ
        w = numbers d (flat (events_of y) init)

        whole : view d (y.terminal r) ≡ w ++ numbers d (events_of y t)
        whole =
            v ∙ own_held ∙ ap (λ h. numbers d (flat (events_of y) h)) held ∙ ap (numbers d) (flat-++ (events_of y) init (t ∷ []))
            ∙ flat-++ (λ e. entry (number d e)) (flat (events_of y) init) (flat (events_of y) (t ∷ []))
            ∙ ap (λ z. w ++ numbers d z) (append-nil (events_of y t))

        -- two that are open on r would both stand last
        shut : (s : ℕ) → s ∈ init → (s ∈ hold r) × ((y.transaction s).closed ≡ none → ⊥)
        shut s j =
            let i : s ∈ hold r = rw held (Memᴰ.append_left (t ∷ []) j) in (
              i,
              λ z.
                  let q = on-it s i z in
                  let R = S.runs (y.transaction s).client s q.0 in
                  let same = same_last R.at_end.0 init s t (sym R.at_end.1 ∙ ap hold q.1 ∙ held) in
                  let D : Nodup (init ++ (t ∷ [])) = rw held at (flat_back_nodup hold r F.layout here (order-once y F.layout hold S)) in
                  nodup_apart init (t ∷ []) D s j (Memᴰ.head same),
            )
