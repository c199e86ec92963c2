-- Rows by value: one flag set, flags that agree inside the rows stay so through each change, and rows stored in turn.
use Prim.Native.Nat.{ℕ, ◌+◌, ◌*◌, ◌/◌, ◌%◌, ◌<◌, ◌≤◌}
use mathlib.Core.Bool.{Bool, true, false, cond, not, ◌||◌, ◌&&◌, and-false, and-true, or-false}
use mathlib.Core.Path.{◌≡◌, refl, sym, ◌∙◌, ap}
use mathlib.Core.List.{List, [], ◌++◌, append_assoc}
use native.Mathlib.Omega.{arith}
use lib.Dec.{eqb}
use lib.ListN.{length, length-append, set, take, drop, get_or, replicate, length-replicate, get_or-replicate}
use lib.Seq.{take_at, length-take-le}
use borrow.Author.Tests.{eq-eqb, eqb-true, eqb-false, ne_eqb, lt-ltb}
use Rattle.lists.specs.Lists.{changed}
use Rattle.lists.proofs.Cases.{cases}
use Rattle.cells.specs.Tables.{tab}
use Rattle.cells.specs.Words.{byte}
use Rattle.cells.specs.Flags.{bit, byte_of, flag_at, flag_in, row_bytes, put_row, pack, rows, flag_of}
use Rattle.lists.specs.Pool.{join_pool}
use Rattle.cells.specs.CellSteps.{fork_caught, join_caught}
use Rattle.cells.proofs.Tables.{get_or-tab, set-tab, tab-append, tab-none, tab_of, tab_same}
use Rattle.cells.proofs.Flags.{put_row_same, bit_byte, byte_same, flag_row_bytes, flag_rows, pack_same, row_bytes-length, row_bytes_same}

-- one flag set in a row
pub set_flag : (w : ℕ) (f : ℕ → Bool) (u v : ℕ) → u < 8 * w → v ≡ byte_of (changed (bit (byte (row_bytes w f) (u / 8))) (u % 8) true) → set (row_bytes w f) (u / 8) v ≡ row_bytes w (changed f u true)
unfolding row_bytes
set_flag w f u v h e = set-tab g w (u / 8) v (omega arith) ∙ tab_same (changed g (u / 8) v) _ w each
  where
    g : ℕ → ℕ
    g i = byte_of (λ j. f (8 * i + j))

    here : (j : ℕ) → j < 8 → changed (bit (byte (tab g w) (u / 8))) (u % 8) true j ≡ changed f u true (8 * (u / 8) + j)
    here j l =
        cases (eqb j (u % 8))
        (λ q. let p = eqb-true j (u % 8) q in rw (q, eq-eqb (8 * (u / 8) + j) u (omega arith)))
        (λ q. let p = eqb-false j (u % 8) q in rw (q, ne_eqb (8 * (u / 8) + j) u (omega arith)) (ap (λ b. bit b j) (get_or-tab g w (u / 8) 0 (omega arith)) ∙ bit_byte (λ i. f (8 * (u / 8) + i)) j l))

    each : (i : ℕ) → i < w → changed g (u / 8) v i ≡ byte_of (λ j. changed f u true (8 * i + j))
    each i l =
        cases (eqb i (u / 8))
        (λ q. rw (q, eqb-true i (u / 8) q) (e ∙ byte_same _ _ here))
        (λ q. let p = eqb-false i (u / 8) q in rw q (byte_same (λ j. f (8 * i + j)) (λ j. changed f u true (8 * i + j)) (λ j m. rw (ne_eqb (8 * i + j) u (omega arith)))))

pub no_flags : (w : ℕ) → replicate w 0 ≡ row_bytes w (λ y. false)
unfolding row_bytes
no_flags w = tab_of (replicate w 0) 0 w (length-replicate w 0) ∙ tab_same _ _ w (λ i h. get_or-replicate w i 0 0 h)

-- the flag of a too, if that of b is there
pub joined_row : (row w : List ℕ) (a b : ℕ) → w ≡ row_bytes 8 (λ y. eqb y a)
    → row_bytes 8 (λ y. flag_at row y || (flag_at row b && flag_at w y)) ≡ row_bytes 8 (changed (flag_at row) a (flag_at row a || flag_at row b))
joined_row row w a b e =
    row_bytes_same 8 _ (changed (flag_at row) a (flag_at row a || flag_at row b))
    (λ y h. ap (λ z. flag_at row y || (flag_at row b && z)) (ap (λ z. flag_at z y) e ∙ flag_row_bytes 8 (λ z. eqb z a) y h)
    ∙ cases (eqb y a)
    (λ q. rw (q, eqb-true y a q) (ap (λ z. flag_at row a || z) (and-true (flag_at row b))))
    (λ q. rw q (ap (λ z. flag_at row y || z) (and-false (flag_at row b)) ∙ or-false (flag_at row y))))

-- one column as told
pub column_row : (row w : List ℕ) (c : ℕ) (on : Bool) → w ≡ row_bytes 8 (λ y. eqb y c) → row_bytes 8 (λ y. cond (flag_at w y) on (flag_at row y)) ≡ row_bytes 8 (changed (flag_at row) c on)
column_row row w c on e = row_bytes_same 8 _ (changed (flag_at row) c on) (λ y h. ap (λ b. cond b on (flag_at row y)) (ap (λ z. flag_at z y) e ∙ flag_row_bytes 8 (λ z. eqb z c) y h))

pub column_rows : (n : ℕ) (s : List (List ℕ)) (w : List ℕ) (c : ℕ) (on : ℕ → Bool) → w ≡ row_bytes 8 (λ y. eqb y c)
    → tab (λ i. row_bytes 8 (λ y. cond (flag_at w y) (on i) (flag_of s i y))) n ≡ tab (λ i. row_bytes 8 (changed (flag_of s i) c (on i))) n
column_rows n s w c on e = tab_same _ _ n (λ i h. column_row (get_or s i []) w c (on i) e)

-- flags that agree inside
abbrev Same : ℕ → (ℕ → ℕ → Bool) → (ℕ → ℕ → Bool) → Type 0
Same n f g = (x y : ℕ) → x < n → y < 64 → f x y ≡ g x y

fork_caught_same : (f g : ℕ → ℕ → Bool) (p c : ℕ) → p < 64 → Same 16 f g → Same 16 (fork_caught f p c) (fork_caught g p c)
fork_caught_same f g p c pl h x y xl yl = cases (eqb y c) (λ e. rw e (h x p xl pl)) (λ e. rw e (h x y xl yl))

join-caught_same : (f g : ℕ → ℕ → Bool) (a b : ℕ) → a < 64 → b < 64 → Same 16 f g → Same 16 (join_caught f a b) (join_caught g a b)
join-caught_same f g a b al bl h x y xl yl = cases (eqb y a) (λ e. rw (e, h x a xl al, h x b xl bl)) (λ e. rw e (h x y xl yl))

-- what was loaded, changed and stored: s are the rows of flags f, and z the rows of flags g
stored : (n : ℕ) (f g : ℕ → ℕ → Bool) (z : List (List ℕ)) → Same n (flag_of z) f → Same n f g → pack n (flag_of z) ≡ pack n g
stored n f g z e h = pack_same n (flag_of z) g (λ x y xl yl. e x y xl yl ∙ h x y xl yl)

as_rows : (n : ℕ) (f : ℕ → ℕ → Bool) (z : List (List ℕ)) → z ≡ rows n f → Same n (flag_of z) f
as_rows n f z e x y xl yl = ap (λ s. flag_of s x y) e ∙ flag_rows n f x y xl yl

module _ (t : List ℕ) (s z : List (List ℕ)) (p c : ℕ) (pl : p < 64) (cl : c < 64) where
  pub fork-caught-stored : s ≡ rows 16 (flag_in 8 16 t) → z ≡ rows 16 (fork_caught (flag_of s) p c) → pack 16 (flag_of z) ≡ pack 16 (fork_caught (flag_in 8 16 t) p c)
  fork-caught-stored e g = stored 16 _ _ z (as_rows 16 _ z g) (fork_caught_same (flag_of s) (flag_in 8 16 t) p c pl (as_rows 16 _ s e))

  pub join-caught-stored : s ≡ rows 16 (flag_in 8 16 t) → z ≡ rows 16 (join_caught (flag_of s) p c) → pack 16 (flag_of z) ≡ pack 16 (join_caught (flag_in 8 16 t) p c)
  join-caught-stored e g = stored 16 _ _ z (as_rows 16 _ z g) (join-caught_same (flag_of s) (flag_in 8 16 t) p c pl cl (as_rows 16 _ s e))

pub clear_stored : (t w : List ℕ) (s z : List (List ℕ)) → s ≡ rows 16 (flag_in 8 16 t) → z ≡ rows 16 (λ x y. flag_of s x y && not (flag_at w y))
    → pack 16 (flag_of z) ≡ pack 16 (λ x y. flag_in 8 16 t x y && not (flag_at w y))
clear_stored t w s z e g = stored 16 _ _ z (as_rows 16 _ z g) (λ x y xl yl. ap (λ b. b && not (flag_at w y)) (as_rows 16 _ s e x y xl yl))

-- row x of n rows, loaded
pub row_loaded : (n : ℕ) (t : List ℕ) (x : ℕ) → x < n → row_bytes 8 (λ y. bit (byte t (8 * x + y / 8)) (y % 8)) ≡ row_bytes 8 (flag_in 8 n t x)
row_loaded n t x h = row_bytes_same 8 _ (flag_in 8 n t x) (λ y g. rw (lt-ltb x n h, lt-ltb y 64 g))

pub loaded_flag : (t row : List ℕ) (x y : ℕ) → x < 64 → y < 64 → row ≡ row_bytes 8 (λ z. bit (byte t (8 * x + z / 8)) (z % 8)) → flag_at row y ≡ flag_in 8 64 t x y
loaded_flag t row x y xl yl e = ap (λ z. flag_at z y) (e ∙ row_loaded 64 t x xl) ∙ flag_row_bytes 8 (flag_in 8 64 t x) y yl

-- the joiner's row and the joinee's loaded, and the flags of either stored
pub join_row_stored : (t joiner joinee row : List ℕ) (a b : ℕ) → a < 64 → b < 64
    → joiner ≡ row_bytes 8 (λ y. bit (byte t (8 * a + y / 8)) (y % 8)) → joinee ≡ row_bytes 8 (λ y. bit (byte t (8 * b + y / 8)) (y % 8))
    → row ≡ row_bytes 8 (λ y. flag_at joiner y || flag_at joinee y) → put_row 8 t a (flag_at row) ≡ put_row 8 t a (join_pool (flag_in 8 64 t) a b a)
join_row_stored t joiner joinee row a b al bl ea eb e =
    put_row_same 8 t a (flag_at row) (join_pool (flag_in 8 64 t) a b a)
    (λ y h. ap (λ z. flag_at z y) e ∙ flag_row_bytes 8 (λ z. flag_at joiner z || flag_at joinee z) y h ∙ rw (loaded_flag t joiner a y al h ea, loaded_flag t joinee b y bl h eb, eq-eqb a a refl))

-- rows stored one after the other: x of them are
pub pack-none : (f : ℕ → ℕ → Bool) → [] ≡ pack 0 f
unfolding pack
pack-none f = tab-none _

pub pack-more : (f : ℕ → ℕ → Bool) (x : ℕ) → pack (x + 1) f ≡ pack x f ++ row_bytes 8 (f x)
unfolding pack row_bytes
pack-more f x =
    let e : 8 * (x + 1) ≡ 8 * x + 8 = omega arith in
    ap (tab _) e ∙ tab-append _ (8 * x) 8
    ∙ ap (λ z. tab (λ i. byte_of (λ j. f (i / 8) (8 * (i % 8) + j))) (8 * x) ++ z)
    (tab_same _ _ 8 (λ i h. let d : (8 * x + i) / 8 ≡ x = omega arith in let m : (8 * x + i) % 8 ≡ i = omega arith in rw (d, m)))

pub pack_put : (f : ℕ → ℕ → Bool) (t : List ℕ) (x : ℕ) → 8 * x + 8 ≤ length t → take (8 * x) t ≡ pack x f → take (8 * (x + 1)) (put_row 8 t x (f x)) ≡ pack (x + 1) f
unfolding put_row
pack_put f t x h e =
    let l : length (take (8 * x) t ++ row_bytes 8 (f x)) ≡ 8 * (x + 1) = rw (length-append, length-take-le (8 * x) t (omega arith), row_bytes-length 8 (f x)) (omega arith) in
    ap (take (8 * (x + 1))) (sym (append_assoc (take (8 * x) t) (row_bytes 8 (f x)) (drop (8 * x + 8) t))) ∙ take_at _ _ (8 * (x + 1)) l
    ∙ ap (λ z. z ++ row_bytes 8 (f x)) e ∙ sym (pack-more f x)
