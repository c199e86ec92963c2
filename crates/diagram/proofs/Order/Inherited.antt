-- What a revision inherited, by numbers: lists of numbers that stay in order and have no duplicates.
use Prim.Native.Nat.{◌<◌, ℕ}
use mathlib.Core.Bool.{cond, false, true}
use mathlib.Core.Path.{◌∙◌, ◌≡◌, ap, refl, subst, sym}
use mathlib.Core.Logic.{◌⊎◌, inl, inr, ∥∥₁_elim}
use mathlib.Core.HLevel.{⊥_prop}
use mathlib.Core.Option.{Option, none, some}
use mathlib.Core.List.Memᴰ
use mathlib.Core.List.{List, Nodup}
use mathlib.Core.List.Sublistᴰ
use mathlib.Core.List.{[], ◌++◌, ◌∷◌}
use mathlib.Core.List.{Nodup-cons, Nodup-nil}
use lib.ListN.{length}
use lib.Dec.{eqb}
use borrow.Author.Tests.{eqb-false, eqb-true}
use Rattle.blocks.specs.Blocks.{Contents, Good, blocks}
use Rattle.diagram.proofs.Graph.Events.{inherited_events, inherited_step, own_events, view-split, view_events}
use Rattle.diagram.proofs.Graph.Paths.{Ordered, path_start}
use Rattle.diagram.proofs.Graph.Tables.{tabulate-newest, tabulate-older}
use Rattle.diagram.proofs.Graph.Visible.{numbers_old, view-numbers, view_paths}
use Rattle.diagram.proofs.Order.Numbered.{one}
use Rattle.diagram.specs.Arbitration.{Numbered}
use Rattle.diagram.specs.Diagram.{Diagram, Vertex, start}
use Rattle.diagram.specs.Effects.{entry, number, numbers}
use Rattle.diagram.specs.Views.{own, view}
use Rattle.lists.proofs.Blocks.{flat-++, flat_from}
use Rattle.lists.proofs.Cases.{either, split}
use Rattle.lists.proofs.Sublists.{⊑-left, ⊑-right}
use Rattle.lists.specs.Lists.{◌∈◌, ◌⊑◌}
use Rattle.lists.specs.Arranged.{behind, flat_back}

-- numbers of sublists, and of lists without duplicates
pub numbers_sub : (d : Diagram) {w l : List ℕ} → w ⊑ l → numbers d w ⊑ numbers d l
numbers_sub d Sublistᴰ.slnil = Sublistᴰ.slnil
numbers_sub d (Sublistᴰ.cons {a} {l₁ = w} {l₂ = l} s) = Sublistᴰ.trans (numbers_sub d s) (⊑-right (entry (number d a)) (numbers d l))
numbers_sub d (Sublistᴰ.cons-cons {a} {b} {l₁ = w} {l₂ = l} q s) = Sublistᴰ.append (subst (λ z. entry (number d a) ⊑ entry (number d z)) q (Sublistᴰ.refl (entry (number d a)))) (numbers_sub d s)

pub entry_is : (o : Option ℕ) (k : ℕ) → k ∈ entry o → o ≡ some k
entry_is none k i = absurd (Memᴰ.not-nil i)
entry_is (some n) k i = ap (λ z. some z) (sym (Memᴰ.eq_of_singleton i))

pub numbers_nodup : (d : Diagram) (n : ℕ) (l : List ℕ) → Numbered d n → Nodup l → Nodup (numbers d l)
numbers_nodup d n [] N D = Nodup-nil
numbers_nodup d n (x ∷ l) N D = by (number d x) refl (numbers_nodup d n l N (Nodup-cons.0 D).1)
  where
    by : (o : Option ℕ) → number d x ≡ o → Nodup (numbers d l) → Nodup (entry o ++ numbers d l)
    by none q K = K
    by (some k) q K = Nodup-cons.1 (λ i. ∥∥₁_elim i ⊥_prop (λ j. let e = flat_from (λ e. entry (number d e)) k l j in (Nodup-cons.0 D).0 ∣ Memᴰ.cast (one N x e.0 k q (entry_is (number d e.0) k e.2)) e.1 ∣₁), K)

pub good_under : (s : Contents) (l : List ℕ) → Good s l → (x : ℕ) → x ∈ l → (s x).inherited ⊑ blocks s (behind x l)
unfolding behind
good_under s [] g x i = elim i [ ]
good_under s (z ∷ l) g x i = pick (split (eqb z x)) (good_under s l g.1 x)
  where
    pick : (eqb z x ≡ true) ⊎ (eqb z x ≡ false) → (x ∈ l → (s x).inherited ⊑ blocks s (behind x l)) → (s x).inherited ⊑ blocks s (cond (eqb z x) l (behind x l))
    pick (inl e) k = rw e (subst (λ t. (s t).inherited ⊑ blocks s l) (eqb-true z x e) g.0.under)
    pick (inr e) k = rw e (either (Memᴰ.cases_cons i) (λ q. absurd (eqb-false z x e (sym q))) k)

pub blocks-left : (s : Contents) (l : List ℕ) (x : ℕ) → blocks s (behind x l) ⊑ blocks s l
unfolding behind
blocks-left s [] x = Sublistᴰ.refl []
blocks-left s (z ∷ l) x = pick (split (eqb z x)) (blocks-left s l x)
  where
    pick : (eqb z x ≡ true) ⊎ (eqb z x ≡ false) → blocks s (behind x l) ⊑ blocks s l → blocks s (cond (eqb z x) l (behind x l)) ⊑ (blocks s l ++ (s z).own)
    pick (inl e) k = rw e (⊑-left (blocks s l) (s z).own)
    pick (inr e) k = rw e (Sublistᴰ.trans k (⊑-left (blocks s l) (s z).own))

-- what a vertex inherited, by numbers
abbrev pub inherited : Diagram → ℕ → List ℕ
inherited d x = numbers d (inherited_events d x)

pub inherited_low : {d : Diagram} → Ordered d → (x e : ℕ) → x < length d → e ∈ inherited_events d x → e < length d
inherited_low {d} o x e h i = path_start ((view_paths o x h).1 e (rw (view-split o x h) (Memᴰ.append_left (own_events d x) i))).1

pub inherited_older : (v : Vertex) (d : Diagram) → Ordered d → (x : ℕ) → x < length d → inherited (v ∷ d) x ≡ inherited d x
inherited_older v d o x h = ap (numbers (v ∷ d)) (tabulate-older inherited_step [] v d x h) ∙ numbers_old v d (inherited_events d x) (λ e i. inherited_low o x e h i)

pub inherited-along : (v : Vertex) (d : Diagram) → Ordered d → (p : ℕ) → p < length d → inherited_step d (inherited_events d) v ≡ inherited_events d p → inherited (v ∷ d) (length d) ≡ inherited d p
inherited-along v d o p h q = ap (numbers (v ∷ d)) (tabulate-newest inherited_step [] v d ∙ q) ∙ numbers_old v d (inherited_events d p) (λ e i. inherited_low o p e h i)

-- a new revision inherits what its forker's terminal lists
pub inherited-start : (d : Diagram) → Ordered d → (p : ℕ) → p < length d → inherited (start p ∷ d) (length d) ≡ view d p
inherited-start d o p h = ap (numbers (start p ∷ d)) (tabulate-newest inherited_step [] (start p) d) ∙ numbers_old (start p) d (view_events d p) (λ e i. path_start ((view_paths o p h).1 e i).1) ∙ sym (view-numbers o p h).1

pub view-split-own : {d : Diagram} → Ordered d → (x : ℕ) → x < length d → view d x ≡ inherited d x ++ own d x
view-split-own {d} o x h = (view-numbers o x h).1 ∙ ap (numbers d) (view-split o x h) ∙ flat-++ (λ e. entry (number d e)) (inherited_events d x) (own_events d x) ∙ ap (λ t. inherited d x ++ t) (sym (view-numbers o x h).0)

pub blocks-numbers : (d : Diagram) (s : Contents) (l : List ℕ) → numbers d (blocks s l) ≡ flat_back (λ x. numbers d (s x).own) l
blocks-numbers d s [] = refl
blocks-numbers d s (x ∷ l) = flat-++ (λ e. entry (number d e)) (blocks s l) (s x).own ∙ ap (λ t. t ++ numbers d (s x).own) (blocks-numbers d s l)
