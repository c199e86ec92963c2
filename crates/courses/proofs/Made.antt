-- The four tables as far as they have been made fresh: each such table stands for its plain day, and the days' updates fit the card. Kept by every call.
use Prim.Native.Nat.{ℕ, ◌<◌, ◌≤◌}
use mathlib.Core.Bool.{Bool, true, false, cond, not, ◌||◌, false≢true}
use mathlib.Core.Option.{Option, none, some}
use mathlib.Core.Path.{◌≡◌, refl, sym, ◌∙◌, ap, subst}
use mathlib.Core.List.{List, [], ◌∷◌, ◌++◌}
use native.Mathlib.Omega.{arith}
use lib.Dec.{eqb}
use lib.ListN.{length, replicate}
use borrow.Author.Tests.{eq-eqb, eqb-false, eqb-true}
use Rattle.lists.specs.Lists.{changed}
use Rattle.lists.proofs.Cases.{cases, cond_all, either, or_cases, or_left, or_right}
use Rattle.boards.specs.Board.{board_bytes, is_wrong_board}
use Rattle.desk.specs.Calls.{Call, call_on}
use Rattle.diagram.specs.Checks.{is_some}
use Rattle.plain.specs.Record.{PlainDay, fresh_day}
use Rattle.plain.specs.Answers.{called}
use Rattle.cells.specs.Steps.{fresh_bytes}
use Rattle.entries.specs.Sizes as Upper
use Rattle.table.specs.Answers.{refused, taken}
use Rattle.table.specs.Out.{table_bytes}
use Rattle.table.specs.Calls.{fresh_out}
use Rattle.table.specs.Served.{Served}
use Rattle.table.specs.Shared.{count_in}
use Rattle.consistency.proofs.Table.Stands.{Stands}
use Rattle.consistency.proofs.Table.Follows.{call_same, fresh-stands}
use Rattle.card.specs.Log.{card, courses, logged}
use Rattle.card.specs.Courses.{Ask, CourseCall, Fresh, Plain, Tables, counts, course_served, gets, is_full, made_fresh, no_course, no_fresh, sharing, turned_away, written}
use Rattle.card.proofs.Log.{logged_follows, logged_none, room-left}
use Rattle.courses.specs.Heard.{heard, tables_after}
use Rattle.courses.specs.Claims.{AllMade, is_made, was_made}
use Rattle.courses.proofs.Shared.{sharing_is}
use Rattle.courses.proofs.Told.{others_stay, own-written, refused-alone}
use Rattle.courses.proofs.Counts.{count-is, sharing-room}

-- the day of a course, if it was made fresh, and how many updates it has
abbrev day_count : Option PlainDay → ℕ
day_count none = 0
day_count (some p) = p.day.updates

abbrev OnDay : Option PlainDay → List ℕ → Type 0
OnDay none t = Unit {0}
OnDay (some p) t = Stands p t

abbrev day_counts : (ℕ → Option PlainDay) → ℕ → ℕ
day_counts days i = day_count (days i)

pub record Known (days : ℕ → Option PlainDay) (ts : Tables) : Type 0 where
  pub stand : (i : ℕ) → OnDay (days i) (ts i)
  pub sum : logged (day_counts days) ≤ card

day_few : (d : Option PlainDay) (t : List ℕ) → OnDay d t → day_count d ≤ count_in t
day_few none t h = omega arith
day_few (some p) t S = let e = count-is p t S in omega arith

-- the bytes of a fresh table, which no earlier content decides
unfoldable pub made_bytes : Bool → List ℕ
made_bytes single = fresh_bytes single ++ replicate Upper.entry_bytes 0

fresh_is : (t : List ℕ) (single : Bool) (room : ℕ) → fresh_out t single room ≡ cond (not (eqb (length t) table_bytes)) (refused t 1) (cond (is_wrong_board room) (refused t 19) (taken (made_bytes single) 0))
unfolding fresh_out made_bytes
fresh_is t single room = refl

pub fresh_right : (t : List ℕ) (single : Bool) (room : ℕ) → length t ≡ table_bytes → is_wrong_board room ≡ false → fresh_out t single room ≡ taken (made_bytes single) 0
fresh_right t single room l e = fresh_is t single room ∙ rw (eq-eqb (length t) table_bytes l, e)

pub fresh-wrong : (t : List ℕ) (single : Bool) (room : ℕ) → length t ≡ table_bytes → is_wrong_board room ≡ true → fresh_out t single room ≡ refused t 19
fresh-wrong t single room l e = fresh_is t single room ∙ rw (eq-eqb (length t) table_bytes l, e)

-- fresh is taken only with a table and a board of the right length
pub fresh-taken : (t : List ℕ) (single : Bool) (room : ℕ) → (fresh_out t single room).code ≡ 0 → (length t ≡ table_bytes) × (room ≡ board_bytes)
unfolding fresh_out
fresh-taken t single room =
    cases (eqb (length t) table_bytes)
    (λ e. cases (eqb room board_bytes) (λ f. λ h. (eqb-true (length t) table_bytes e, eqb-true room board_bytes f)) (λ f. rw (e, f) (λ h. absurd (omega arith))))
    (λ e. rw e (λ h. absurd (omega arith)))

pub made-stands : (t : List ℕ) (single : Bool) (board : List ℕ) → (made_fresh t single board).reply.code ≡ 0 → Stands (fresh_day single) (made_fresh t single board).table
made-stands t single board h =
    let f = fresh-taken t single (length board) h in
    subst (λ room. Stands (fresh_day single) (fresh_out t single room).lent) (sym f.1) (fresh-stands t f.0 single)

-- course i has a call: the day after it, and the sum with that day's count
module _ (days : ℕ → Option PlainDay) (ts : Tables) (K : Known days ts) (i : ℕ) where
  abbrev Fits : ℕ → Type 0
  Fits n = logged (changed (day_counts days) i n) ≤ card

  -- course i with n updates, where the others have no more than before
  fits_below : (g : ℕ → ℕ) (n : ℕ) → logged g ≤ card → ((x : ℕ) → x < courses → (x ≡ i → ⊥) → day_counts days x ≤ g x) → n ≤ g i → Fits n
  fits_below g n s h k = let l = logged_follows (changed (day_counts days) i n) g by in omega arith
    where
      by : (x : ℕ) → x < courses → changed (day_counts days) i n x ≤ g x
      by x l = cases (eqb x i) (λ e. rw (e, eqb-true x i e) k) (λ e. rw e (h x l (eqb-false x i e)))

  fits-room : (n : ℕ) → is_full ts i n ≡ false → Fits n
  unfolding is_full
  fits-room n e = fits_below (changed (counts ts) i n) n (room-left _ e) (λ x l q. rw (ne x q) (day_few (days x) (ts x) (K.stand x))) (rw (eq-eqb i i refl) (omega arith))
    where
      ne : (x : ℕ) → (x ≡ i → ⊥) → eqb x i ≡ false
      ne x q = cases (eqb x i) (λ e. absurd (q (eqb-true x i e))) (λ e. e)

  fits-less : (n : ℕ) → n ≤ day_count (days i) → Fits n
  fits-less n l = fits_below (day_counts days) n K.sum (λ x k q. omega arith) l

  pub record Next (a : Ask) (s : Served) : Type 0 where
    pub next : Option PlainDay
    pub on : OnDay next s.table
    pub fits : Fits (day_count next)
    pub keeps : is_some (days i) ≡ true → is_some next ≡ true
    pub makes : is_made a s.reply.code ≡ true → is_some next ≡ true

  -- a call that leaves the table and makes nothing fresh
  stays : (a : Ask) (s : Served) → s.table ≡ ts i → (is_made a s.reply.code ≡ true → ⊥) → Next a s
  stays a s e n = record { next = days i; on = subst (OnDay (days i)) (sym e) (K.stand i); fits = fits-less _ (omega arith); keeps = λ h. h; makes = λ h. absurd (n h) }

  of-fresh : (single : Bool) (board : List ℕ) → Next (Fresh single board) (made_fresh (ts i) single board)
  of-fresh single board =
      let s = made_fresh (ts i) single board in
      cases (eqb s.reply.code 0)
      (λ e. record { next = some (fresh_day single); on = made-stands (ts i) single board (eqb-true s.reply.code 0 e); fits = fits-less 0 (omega arith); keeps = λ h. refl; makes = λ h. refl })
      (λ e. stays (Fresh single board) s (ap (λ r. r.table) (refused-alone (ts i) (Fresh single board) (eqb-false s.reply.code 0 e))) (λ h. false≢true (sym e ∙ h)))

  of-call : (q : Call (List ℕ)) → Next (Plain q) (sharing (is_full ts i) (ts i) q)
  of-call q = by (days i) refl (K.stand i)
    where
      by : (d : Option PlainDay) → days i ≡ d → OnDay d (ts i) → Next (Plain q) (sharing (is_full ts i) (ts i) q)
      by none e h = record { next = none; on = tt; fits = fits-less 0 (omega arith); keeps = λ k. absurd (false≢true (rw e at k)); makes = λ k. absurd (false≢true k) }
      by (some p) e S =
          either (sharing_is (is_full ts i) (ts i) q)
          (λ s. let S' = (call_same p (ts i) S q).stands in
          record {
            next = some (called p (call_on length q)).next;
            on = subst (λ (u : Served). Stands (called p (call_on length q)).next u.table) (sym s) S';
            fits = subst Fits (ap (λ (u : Served). count_in u.table) s ∙ count-is _ _ S') (sharing-room (is_full ts i) Fits fits-room p (ts i) S (fits-less _ (let z = count-is p (ts i) S in rw e (omega arith))) q);
            keeps = λ h. refl;
            makes = λ h. refl;
          })
          (λ s. stays (Plain q) _ (ap (λ (u : Served). u.table) s) (λ h. false≢true h))

  pub has-next : (a : Ask) → Next a (course_served ts i a)
  unfolding course_served
  has-next (Fresh single board) = cond_all (Next (Fresh single board)) (no_fresh ts i) _ _ (stays (Fresh single board) (turned_away 1 (ts i) (Fresh single board)) refl (λ h. false≢true h)) (of-fresh single board)
  has-next (Plain q) = cond_all (Next (Plain q)) (no_course ts i) _ _ (stays (Plain q) (turned_away 1 (ts i) (Plain q)) refl (λ h. false≢true h)) (of-call q)

-- the days after a call, of which only its course's is another
pub record Onward (days : ℕ → Option PlainDay) (ts : Tables) (c : CourseCall) : Type 0 where
  pub days' : ℕ → Option PlainDay
  pub known : Known days' (written ts c)
  pub keeps : (i : ℕ) → is_some (days i) ≡ true → is_some (days' i) ≡ true
  pub makes : (i : ℕ) → c.course ≡ i → is_made c.ask (gets ts c).reply.code ≡ true → is_some (days' i) ≡ true

module _ (days : ℕ → Option PlainDay) (ts : Tables) (K : Known days ts) (c : CourseCall) where
  abbrev i : ℕ
  i = c.course

  abbrev N : Next days ts K i c.ask (gets ts c)
  N = has-next days ts K i c.ask

  stand-next : (j : ℕ) → OnDay (changed days i N.next j) (written ts c j)
  stand-next j =
      cases (eqb j i)
      (λ e. rw (e, own-written ts c j (sym (eqb-true j i e))) N.on)
      (λ e. rw (e, others_stay ts c j (eqb-false j i e)) (K.stand j))

  below : (j : ℕ) → day_count (changed days i N.next j) ≤ changed (day_counts days) i (day_count N.next) j
  below j = cases (eqb j i) (λ e. rw e (omega arith)) (λ e. rw e (omega arith))

  pub onward : Onward days ts c
  onward =
      let l = logged_follows (day_counts (changed days i N.next)) (changed (day_counts days) i (day_count N.next)) (λ x k. below x) in
      let f = N.fits in
      record {
        days' = changed days i N.next;
        known = record { stand = stand-next; sum = omega arith };
        keeps = λ j h. cases (eqb j i) (λ e. rw e (N.keeps (rw (eqb-true j i e) at h))) (λ e. rw e h);
        makes = λ j q h. rw (eq-eqb j i (sym q)) (N.makes h);
      }

-- a course made fresh by the call or by a later one
made_onward : (days : ℕ → Option PlainDay) (ts : Tables) (c : CourseCall) (o : Onward days ts c) (cs : List CourseCall) (i : ℕ)
    → (is_some (days i) || was_made (heard i ts (c ∷ cs))) ≡ true → (is_some (o.days' i) || was_made (heard i (written ts c) cs)) ≡ true
unfolding heard was_made
made_onward days ts c o cs i h =
    let later = was_made (heard i (written ts c) cs) in
    let now : Bool = is_made c.ask (gets ts c).reply.code in
    either (or_cases (is_some (days i)) _ h)
    (λ e. or_left (is_some (o.days' i)) later (o.keeps i e))
    (λ e. cases (eqb c.course i)
    (λ q. either (or_cases now later (rw q at e)) (λ m. or_left (is_some (o.days' i)) later (o.makes i (eqb-true c.course i q) m)) (λ m. or_right (is_some (o.days' i)) later m))
    (λ q. or_right (is_some (o.days' i)) later (rw q at e)))

-- the days after a list of calls: of each course that was made fresh there is one
pub record Reached (days : ℕ → Option PlainDay) (ts : Tables) (cs : List CourseCall) : Type 0 where
  pub days' : ℕ → Option PlainDay
  pub known : Known days' (tables_after ts cs)
  pub made : (i : ℕ) → (is_some (days i) || was_made (heard i ts cs)) ≡ true → is_some (days' i) ≡ true

known-after : (cs : List CourseCall) (days : ℕ → Option PlainDay) (ts : Tables) → Known days ts → Reached days ts cs
unfolding tables_after heard was_made
known-after [] days ts K = record { days' = days; known = K; made = λ i h. either (or_cases (is_some (days i)) false h) (λ e. e) (λ e. absurd (false≢true e)) }
known-after (c ∷ cs) days ts K =
    let o = onward days ts K c in
    let R = known-after cs o.days' (written ts c) o.known in
    record {
      days' = R.days';
      known = R.known;
      made = λ i h. R.made i (made_onward days ts c o cs i h);
    }

-- before the first call no course has a day
pub from_any : (ts : Tables) (cs : List CourseCall) → Reached (λ i. none) ts cs
from_any ts cs = known-after cs (λ i. none) ts (record { stand = λ i. tt; sum = logged_none })

-- the four tables stand for days, and their counts fit the card
pub record Days (ts : Tables) : Type 0 where
  pub day : (i : ℕ) → i < courses → PlainDay
  pub stands : (i : ℕ) (l : i < courses) → Stands (day i l) (ts i)
  pub sum : logged (counts ts) ≤ card

day_of : (d : Option PlainDay) (t : List ℕ) → OnDay d t → is_some d ≡ true → (p : PlainDay) × Stands p t × (count_in t ≤ day_count d)
day_of none t h e = absurd (false≢true e)
day_of (some p) t S e = (p, S, let z = count-is p t S in omega arith)

pub known_days : (days : ℕ → Option PlainDay) (ts : Tables) → Known days ts → ((i : ℕ) → i < courses → is_some (days i) ≡ true) → Days ts
known_days days ts K some-all =
    let f = logged_follows (counts ts) (day_counts days) (λ i l. (day_of (days i) (ts i) (K.stand i) (some-all i l)).2) in
    let s = K.sum in
    record { day = λ i l. (day_of (days i) (ts i) (K.stand i) (some-all i l)).0; stands = λ i l. (day_of (days i) (ts i) (K.stand i) (some-all i l)).1; sum = omega arith }

pub all_days : (ts : Tables) (cs : List CourseCall) → AllMade ts cs → Days (tables_after ts cs)
all_days ts cs A = let R = from_any ts cs in known_days R.days' (tables_after ts cs) R.known (λ i l. R.made i (A i l))
