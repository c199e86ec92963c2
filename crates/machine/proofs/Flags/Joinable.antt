-- The join rule is the set J of 002, section 4.3: one flag for each pair of revisions, copied by a fork and added up by a
-- join. It needs two facts more: whose start a revision sees stands left of it, and a joiner sees the starts its joinee sees.
use Prim.Native.Nat.{◌<◌, ℕ}
use mathlib.Core.Bool.{Bool, ◌||◌, false, false≢true, not, true}
use mathlib.Core.Path.{◌∙◌, ◌≡◌, ap, refl, subst, sym}
use mathlib.Core.Logic.{◌⊎◌, inl, inr}
use mathlib.Core.Option.{Option, none, some}
use mathlib.Core.List.Memᴰ
use mathlib.Core.List.Sublistᴰ
use mathlib.Core.List.{List, [], ◌∷◌}
use native.Mathlib.Omega.{arith}
use lib.Dec.{eqb}
use borrow.Author.Tests.{eqb-false, eqb-true, ne_eqb, not-true}
use Rattle.diagram.proofs.Arranged.Advance.{May, true_may}
use Rattle.diagram.proofs.Days.Moves.{CanFork, CanJoin, Moves, dropped_out, drops_of, enters, joined_out, joins_into, joinable, forks_at, yields}
use Rattle.diagram.proofs.Days.Real.{Real}
use Rattle.diagram.proofs.Graph.Paths.{leads-self}
use Rattle.machine.proofs.Flags.Terminals.{enter-fork, enter-start, fork_by, fork_seen, join-fork, join-fork-joiner, join-start}
use Rattle.machine.proofs.Flags.Terminals.{join-start-joiner, fork-fork, fork-fork-new, fork-start, fork-start-new, start_none}
use Rattle.machine.proofs.Flags.Terminals.{start-own, start_seen}
use Rattle.diagram.proofs.Order.Growth.{Fine, fine_fresh, fine_moves}
use Rattle.diagram.specs.Checks.{not_joinable}
use Rattle.lists.specs.Names.{Name}
use Rattle.diagram.specs.Day.{Day, IsOut, fresh}
use Rattle.diagram.specs.Diagram.{Diagram, root}
use Rattle.diagram.specs.Steps.{drop_at, enter, fork_at, join_into, yield}
use Rattle.lists.proofs.Cases.{cases, either, or_cases, or-false, or_left, or_right, same_truth, split}
use Rattle.lists.proofs.Places.{insert_pair, insert_self, insert_sub, remove_sub}
use Rattle.lists.proofs.Sublists.{pair_self, pair_trans}
use Rattle.lists.specs.Lists.{◌∈◌, ◌⊑◌}
use Rattle.lists.specs.Arranged.{insert_before, remove}

-- what code 11 lets through
abbrev pub J : Day → ℕ → ℕ → Bool
J y a b = not (not_joinable y a b)

pub record JoinRule (y : Day) (a b : ℕ) : Type 0 where
  pub not_main : b ≡ 0 → ⊥
  pub not_self : b ≡ a → ⊥
  pub fork_seen : fork_seen y b a ≡ true
  pub start_unseen : start_seen y b a ≡ false

pub J_rule : (y : Day) (a b : ℕ) → J y a b ≡ true → JoinRule y a b
J_rule y a b e =
    let q = joinable y a b (not-true (not_joinable y a b) e) in
    record { not_main = eqb-false b 0 q.0; not_self = eqb-false b a q.1; fork_seen = q.2; start_unseen = q.3 }

rule_J : (y : Day) (a b : ℕ) → JoinRule y a b → J y a b ≡ true
unfolding not_joinable
rule_J y a b h = rw (ne_eqb b 0 h.not_main, ne_eqb b a h.not_self, h.fork_seen, h.start_unseen)

pub record Flags (y : Day) (layout : List ℕ) : Type 0 where
  pub own_start : (r : ℕ) → r < y.revisions → start_seen y r r ≡ true
  pub left : (x z : ℕ) → IsOut y x → IsOut y z → start_seen y z x ≡ true → (x ≡ z) ⊎ ((x ∷ z ∷ []) ⊑ layout)
  pub through : (a b z : ℕ) → IsOut y a → IsOut y b → IsOut y z → J y a b ≡ true → start_seen y z b ≡ true → (z ≡ b → ⊥) → start_seen y z a ≡ true

module _ (y : Day) (F : Fine y) where
  abbrev d : Diagram
  d = y.diagram

  abbrev R : Real y F.layout
  R = F.sound.real

  -- who may be joined stands right of the joiner
  pair-order : (a b : ℕ) → IsOut y a → IsOut y b → J y a b ≡ true → (b ∷ a ∷ []) ⊑ F.layout
  pair-order a b oa ob e =
      let h = J_rule y a b e in
      let may : May d y.terminal y.start_of a b = record { outside = h.start_unseen; at = y.fork_of b; start_of = R.forks b ob.0 h.not_main; leads = h.fork_seen } in
      (R.linked.inv.joins a b (R.out a oa) (R.out b ob) (true_may d y.terminal y.start_of a b may)).0

  -- J after an event
  pub J-enter : (c r : ℕ) (u : Bool) (a b : ℕ) → J (enter y c r u) a b ≡ J y a b
  unfolding not_joinable
  J-enter c r u a b = rw (enter-fork y F c r u b a, enter-start y F c r u b a)

  -- J after a fork
  module _ (r : ℕ) (name : Option Name) where
    abbrev n : ℕ
    n = y.revisions

    abbrev new : Day
    new = fork_at y r name

    pub J-fork-old : (a b : ℕ) → (a ≡ n → ⊥) → (b ≡ n → ⊥) → J new a b ≡ J y a b
    unfolding not_joinable
    J-fork-old a b ha hb = rw (fork-fork y F r name b a hb ha, fork-start y F r name b a hb ha)

    pub J-fork-new : (a : ℕ) → (n ≡ 0 → ⊥) → (a ≡ n → ⊥) → J new a n ≡ eqb a r
    unfolding not_joinable
    J-fork-new a hn ha =
        rw (ne_eqb n 0 hn, ne_eqb n a (λ e. ha (sym e)), fork_by y F r name a ha, start_none y F r name a ha)
        (cases (eqb a r) (λ e. rw e) (λ e. rw e))

    pub J-fork-self : J new n n ≡ false
    J-fork-self = cases (J new n n) (λ e. absurd ((J_rule new n n e).not_self refl)) (λ e. e)

  module _ (K : Flags y F.layout) where
    pub flags-enter : (c r : ℕ) (u : Bool) → Flags (enter y c r u) F.layout
    flags-enter c r u = record {
      own_start = λ s h. enter-start y F c r u s s ∙ K.own_start s h;
      left = λ x z ox oz e. K.left x z ox oz (sym (enter-start y F c r u z x) ∙ e);
      through = λ a b z oa ob oz h e k. enter-start y F c r u z a ∙ K.through a b z oa ob oz (sym (J-enter c r u a b) ∙ h) (sym (enter-start y F c r u z b) ∙ e) k;
    }

    pub flags-close : (c t : ℕ) → Flags (yield y c (some t)) F.layout
    unfolding not_joinable
    flags-close c t = record { own_start = K.own_start; left = K.left; through = K.through }

    -- a fork
    module _ (r : ℕ) (name : Option Name) (N : CanFork y r name) where
      abbrev m : ℕ
      m = y.revisions

      abbrev ys : Day
      ys = fork_at y r name

      J-fork-copy-by : (b : ℕ) → (b ≡ m → ⊥) → (eqb b r ≡ true) ⊎ (eqb b r ≡ false) → J ys m b ≡ J y r b
      unfolding not_joinable
      J-fork-copy-by b hb (inl e) =
          same_truth (J ys m b) (J y r b)
          (λ h. absurd (false≢true (sym (J_rule ys m b h).start_unseen ∙ fork-start-new y F r name b hb ∙ subst (λ z. start_seen y z r ≡ true) (sym (eqb-true b r e)) (K.own_start r N.out.0))))
          (λ h. absurd ((J_rule y r b h).not_self (eqb-true b r e)))
      J-fork-copy-by b hb (inr e) = rw (fork-fork-new y F r name b hb, fork-start-new y F r name b hb, ne_eqb b m hb, e)

      -- the new revision may join whom the forker may
      pub J-fork-copy : (b : ℕ) → (b ≡ m → ⊥) → J ys m b ≡ J y r b
      J-fork-copy b hb = J-fork-copy-by b hb (split (eqb b r))

      data Which (s : ℕ) : Type 0 where
        is-new : s ≡ m → Which s
        is-old : (s ≡ m → ⊥) → IsOut y s → Which s

      which : (s : ℕ) → IsOut ys s → Which s
      which s o = cases (eqb s m) (λ e. is-new (eqb-true s m e)) (λ e. let k = eqb-false s m e in is-old k (omega (arith, o.0), rw e at o.1))

      fork-left : (x z : ℕ) → IsOut ys x → IsOut ys z → start_seen ys z x ≡ true → (x ≡ z) ⊎ ((x ∷ z ∷ []) ⊑ insert_before r m F.layout)
      fork-left x z ox oz e = pick (which x ox) (which z oz)
        where
          from-r : (r ≡ z) ⊎ ((r ∷ z ∷ []) ⊑ F.layout) → (m ∷ z ∷ []) ⊑ insert_before r m F.layout
          from-r (inl q) = subst (λ k. (m ∷ k ∷ []) ⊑ insert_before r m F.layout) q (insert_self r m F.layout (R.out r N.out))
          from-r (inr q) = insert_pair r m z F.layout q

          pick : Which x → Which z → (x ≡ z) ⊎ ((x ∷ z ∷ []) ⊑ insert_before r m F.layout)
          pick (is-new a) (is-new b) = inl (a ∙ sym b)
          pick (is-new a) (is-old k b) = inr (rw a (from-r (K.left r z N.out b (sym (fork-start-new y F r name z k) ∙ subst (λ w. start_seen ys z w ≡ true) a e))))
          pick (is-old k a) (is-new b) = absurd (false≢true (sym (start_none y F r name x k) ∙ subst (λ w. start_seen ys w x ≡ true) b e))
          pick (is-old k a) (is-old j b) = either (K.left x z a b (sym (fork-start y F r name z x j k) ∙ e)) (λ q. inl q) (λ q. inr (Sublistᴰ.trans q (insert_sub r m F.layout)))

      fork-through : (a b z : ℕ) → IsOut ys a → IsOut ys b → IsOut ys z → J ys a b ≡ true → start_seen ys z b ≡ true → (z ≡ b → ⊥) → start_seen ys z a ≡ true
      fork-through a b z oa ob oz h e k = by (which z oz) (which b ob) (which a oa)
        where
          by : Which z → Which b → Which a → start_seen ys z a ≡ true
          by (is-new q) (is-new g) w = absurd (k (q ∙ sym g))
          by (is-new q) (is-old j g) w = absurd (false≢true (sym (start_none y F r name b j) ∙ subst (λ w. start_seen ys w b ≡ true) q e))
          by (is-old j q) (is-new g) (is-new w) = absurd ((J_rule ys a b h).not_self (g ∙ sym w))
          -- the joinee is new: the joiner is the forker
          by (is-old j q) (is-new g) (is-old i w) =
              let ar : a ≡ r = eqb-true a r (sym (J-fork-new r name a (λ p. omega (arith, N.out.0)) i) ∙ subst (λ s. J ys a s ≡ true) g h) in
              fork-start y F r name z a j i ∙ subst (λ s. start_seen y z s ≡ true) (sym ar) (sym (fork-start-new y F r name z j) ∙ subst (λ s. start_seen ys z s ≡ true) g e)
          by (is-old j q) (is-old l g) (is-new w) =
              ap (start_seen ys z) w ∙ fork-start-new y F r name z j ∙ K.through r b z N.out g q (sym (J-fork-copy b l) ∙ subst (λ s. J ys s b ≡ true) w h) (sym (fork-start y F r name z b j l) ∙ e) k
          by (is-old j q) (is-old l g) (is-old i w) =
              fork-start y F r name z a j i ∙ K.through a b z w g q (sym (J-fork-old r name a b i l) ∙ h) (sym (fork-start y F r name z b j l) ∙ e) k

      pub flags-fork : Flags (fork_at y r name) (insert_before r y.revisions F.layout)
      flags-fork = record {
        own_start = λ s h. cases (eqb s m) (λ e. subst (λ z. start_seen ys z z ≡ true) (sym (eqb-true s m e)) (start-own y F r name)) (λ e. let k = eqb-false s m e in fork-start y F r name s s k k ∙ K.own_start s (omega arith));
        left = fork-left;
        through = fork-through;
      }

    -- a join
    module _ (a b : ℕ) (H : CanJoin y a b) where
      abbrev yh : Day
      yh = join_into y a b

      ab : J y a b ≡ true
      ab = rule_J y a b (record { not_main = H.not_main; not_self = H.not_self; fork_seen = H.fork_seen; start_unseen = H.start_unseen })

      -- the join shows the joiner no start of a revision that is out
      starts-stay : (z x : ℕ) → IsOut yh z → start_seen yh z x ≡ start_seen y z x
      starts-stay z x oz =
          cases (eqb x a)
          (λ e.
          subst (λ w. start_seen yh z w ≡ start_seen y z w) (sym (eqb-true x a e))
          (join-start-joiner y F a b z ∙ same_truth _ _ (λ t. either (or_cases (start_seen y z a) (start_seen y z b) t) (λ k. k) by-joinee) (λ t. or_left _ _ t)))
          (λ e. join-start y F a b z x (eqb-false x a e))
        where
          by-joinee : start_seen y z b ≡ true → start_seen y z a ≡ true
          by-joinee k = K.through a b z H.out_a H.out_b (joined_out y a b z oz).0 ab k (joined_out y a b z oz).1

      -- J after a join: of another joiner as it was
      pub J-join-other : (x z : ℕ) → (x ≡ a → ⊥) → J yh x z ≡ J y x z
      unfolding not_joinable
      J-join-other x z k = rw (join-fork y F a b z x k, join-start y F a b z x k)

      -- z stands right of b, and b right of a: a does not see z's start
      right : (z : ℕ) → IsOut yh z → J y b z ≡ true → (z ∷ a ∷ []) ⊑ F.layout
      right z oz g = pair_trans z b a F.layout R.linked.inv.distinct (pair-order b z H.out_b (joined_out y a b z oz).0 g) (pair-order a b H.out_a H.out_b ab)

      hidden : (z : ℕ) → IsOut yh z → J y b z ≡ true → start_seen y z a ≡ true → ⊥
      hidden z oz g e =
          either (K.left a z H.out_a (joined_out y a b z oz).0 e)
          (λ q. pair_self z F.layout R.linked.inv.distinct (subst (λ s. (z ∷ s ∷ []) ⊑ F.layout) q (right z oz g)))
          (λ q. pair_self z F.layout R.linked.inv.distinct (pair_trans z a z F.layout R.linked.inv.distinct (right z oz g) q))

      -- and the joiner may join whom either might
      pub J-joiner : (z : ℕ) → IsOut yh z → J yh a z ≡ (J y a z || J y b z)
      J-joiner z oz = same_truth (J yh a z) (J y a z || J y b z) there back
        where
          there : J yh a z ≡ true → (J y a z || J y b z) ≡ true
          there e =
              let h = J_rule yh a z e in
              let u = or-false (start_seen y z a) (start_seen y z b) (sym (join-start-joiner y F a b z) ∙ h.start_unseen) in
              either (or_cases (fork_seen y z a) (fork_seen y z b) (sym (join-fork-joiner y F a b z) ∙ h.fork_seen))
              (λ k. or_left (J y a z) (J y b z) (rule_J y a z (record { not_main = h.not_main; not_self = h.not_self; fork_seen = k; start_unseen = u.0 })))
              (λ k. or_right (J y a z) (J y b z) (rule_J y b z (record { not_main = h.not_main; not_self = (joined_out y a b z oz).1; fork_seen = k; start_unseen = u.1 })))

          back : (J y a z || J y b z) ≡ true → J yh a z ≡ true
          back e =
              either (or_cases (J y a z) (J y b z) e)
              (λ k. let g = J_rule y a z k in rule_J yh a z (record { not_main = g.not_main; not_self = g.not_self; fork_seen = join-fork-joiner y F a b z ∙ or_left _ _ g.fork_seen; start_unseen = starts-stay z a oz ∙ g.start_unseen }))
              (λ k.
              let g = J_rule y b z k in
              rule_J yh a z (record {
                not_main = g.not_main;
                not_self = λ q. pair_self z F.layout R.linked.inv.distinct (subst (λ s. (z ∷ s ∷ []) ⊑ F.layout) (sym q) (right z oz k));
                fork_seen = join-fork-joiner y F a b z ∙ or_right (fork_seen y z a) _ g.fork_seen;
                start_unseen = starts-stay z a oz ∙ cases (start_seen y z a) (λ t. absurd (hidden z oz k t)) (λ t. t);
              }))

      join-left : (x z : ℕ) → IsOut yh x → IsOut yh z → start_seen yh z x ≡ true → (x ≡ z) ⊎ ((x ∷ z ∷ []) ⊑ remove b F.layout)
      join-left x z ox oz e =
          either (K.left x z (joined_out y a b x ox).0 (joined_out y a b z oz).0 (sym (starts-stay z x oz) ∙ e)) (λ q. inl q)
          (λ q. inr (remove_sub b (x ∷ z ∷ []) F.layout q (λ i. either (Memᴰ.cases_cons i) (λ s. (joined_out y a b x ox).1 (sym s)) (λ j. (joined_out y a b z oz).1 (sym (Memᴰ.eq_of_singleton j))))))

      join-through : (x w z : ℕ) → IsOut yh x → IsOut yh w → IsOut yh z → J yh x w ≡ true → start_seen yh z w ≡ true → (z ≡ w → ⊥) → start_seen yh z x ≡ true
      join-through x w z ox ow oz h e k = starts-stay z x oz ∙ pick (split (eqb x a))
        where
          e' : start_seen y z w ≡ true
          e' = sym (starts-stay z w oz) ∙ e

          by : (p : ℕ) → IsOut y p → J y p w ≡ true → start_seen y z p ≡ true
          by p op g = K.through p w z op (joined_out y a b w ow).0 (joined_out y a b z oz).0 g e' k

          pick : (eqb x a ≡ true) ⊎ (eqb x a ≡ false) → start_seen y z x ≡ true
          pick (inl q) =
              let g = eqb-true x a q in
              subst (λ s. start_seen y z s ≡ true) (sym g)
              (either (or_cases (J y a w) (J y b w) (sym (J-joiner w ow) ∙ subst (λ s. J yh s w ≡ true) g h)) (by a H.out_a)
              (λ j. K.through a b z H.out_a H.out_b (joined_out y a b z oz).0 ab (by b H.out_b j) (joined_out y a b z oz).1))
          pick (inr q) = by x (joined_out y a b x ox).0 (sym (J-join-other x w (eqb-false x a q)) ∙ h)

      own-stays : (s : ℕ) → s < y.revisions → start_seen yh s s ≡ true
      own-stays s h =
          cases (eqb s a)
          (λ e. subst (λ w. start_seen yh w w ≡ true) (sym (eqb-true s a e)) (join-start-joiner y F a b a ∙ or_left _ _ (K.own_start a H.out_a.0)))
          (λ e. join-start y F a b s s (eqb-false s a e) ∙ K.own_start s h)

      pub flags-join : Flags (join_into y a b) (remove b F.layout)
      flags-join = record { own_start = own-stays; left = join-left; through = join-through }

    -- a drop: no vertex is added
    pub flags-drop : (r : ℕ) → Flags (drop_at y r) (remove r F.layout)
    unfolding not_joinable
    flags-drop r = record {
      own_start = K.own_start;
      left = λ x z ox oz e.
          let p = dropped_out y r x ox in
          let q = dropped_out y r z oz in
          let other : r ∈ (x ∷ z ∷ []) → ⊥ = λ i. either (Memᴰ.cases_cons i) (λ t. p.1 (sym t)) (λ j. q.1 (sym (Memᴰ.eq_of_singleton j))) in
          either (K.left x z p.0 q.0 e) inl (λ s. inr (remove_sub r (x ∷ z ∷ []) F.layout s other));
      through = λ a b z oa ob oz. K.through a b z (dropped_out y r a oa).0 (dropped_out y r b ob).0 (dropped_out y r z oz).0;
    }

-- the flags hold on every day
pub record Flagged (y : Day) : Type 0 where
  pub fine : Fine y
  pub flags : Flags y fine.layout

unfoldable pub flagged-fresh : Flagged fresh
unfolding fine_fresh
flagged-fresh = record {
  fine = fine_fresh;
  flags = record {
    own_start = λ r h. leads-self (root ∷ []) 0 (omega arith);
    left = λ x z ox oz e. let a : x < 1 = ox.0 in let b : z < 1 = oz.0 in inl (omega arith);
    through = λ a b z oa ob oz h e k. let c : b < 1 = ob.0 in absurd ((J_rule fresh a b h).not_main (omega arith));
  };
}

unfoldable pub flagged_moves : (y z : Day) → Flagged y → Moves y z → Flagged z
unfolding fine_moves
flagged_moves y z M (enters c r u E) = record { fine = fine_moves y (enter y c r u) M.fine (enters c r u E); flags = flags-enter y M.fine M.flags c r u }
flagged_moves y z M (yields c h) = record { fine = fine_moves y (yield y c (y.open_by c)) M.fine (yields c h); flags = by (y.open_by c) }
  where
    by : (q : Option ℕ) → Flags (yield y c q) M.fine.layout
    by none = M.flags
    by (some t) = flags-close y M.fine M.flags c t
flagged_moves y z M (forks_at r name N) = record { fine = fine_moves y (fork_at y r name) M.fine (forks_at r name N); flags = flags-fork y M.fine M.flags r name N }
flagged_moves y z M (joins_into a b H) = record { fine = fine_moves y (join_into y a b) M.fine (joins_into a b H); flags = flags-join y M.fine M.flags a b H }
flagged_moves y z M (drops_of r D) = record { fine = fine_moves y (drop_at y r) M.fine (drops_of r D); flags = flags-drop y M.fine M.flags r }
