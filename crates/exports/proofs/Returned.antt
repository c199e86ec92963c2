-- An export gives back what its call of `table` answers and leaves: fields that a call does not answer with add nothing to the number.
use Prim.Native.Nat.{ℕ, ◌+◌, ◌*◌}
use mathlib.Core.List.{List, []}
use mathlib.Core.Path.{◌≡◌, ◌∙◌, ap}
use native.Mathlib.Omega.{arith}
use Rattle.std.specs.Prelude.{Result}
use Rattle.table.specs.Out.{Answer, Level, Out, Prospect}
use Rattle.table.specs.Told.{answer_told, left, left_read}
use Rattle.table.specs.declared.answer.Reading.{Reading}
use Rattle.table.specs.declared.refusal.Refusal.{Refusal}
use Rattle.beside.specs.Replies.{of_answer, of_level, of_prospect, of_reading, replied}
use Rattle.beside.specs.declared.reply.Reply.{Reply}
use Rattle.packing.specs.Packed.{exported, exported_answer, exported_level, exported_prospect, packed_reply, returned, state_number}

no_total : (g s c v : ℕ) → g * 281474976710656 + (s * 1099511627776 + (c * 4294967296 + (0 * 65536 + v))) ≡ g * 281474976710656 + (s * 1099511627776 + (c * 4294967296 + v))
no_total g s c v = omega arith

no_gain : (s c v : ℕ) → 0 * 281474976710656 + (s * 1099511627776 + (c * 4294967296 + (0 * 65536 + v))) ≡ s * 1099511627776 + (c * 4294967296 + v)
no_gain s c v = omega arith

no_state : (c v : ℕ) → 0 * 281474976710656 + (0 * 1099511627776 + (c * 4294967296 + v)) ≡ c * 4294967296 + v
no_state c v = omega arith

no_more : (c v : ℕ) → 0 * 281474976710656 + (0 * 1099511627776 + (c * 4294967296 + (0 * 65536 + v))) ≡ c * 4294967296 + v
no_more c v = omega arith

module _ {r : ℕ} {x : Reply} (p : r ≡ packed_reply (replied x [])) where
  pub gives : {t : List ℕ} {o : Out} (a : Result ℕ Refusal) → x ≡ of_answer (answer_told a) → left a t ≡ o → returned r t ≡ exported o
  unfolding exported packed_reply
  gives {t} a e q = ap (λ n. returned n t) (p ∙ rw e (no_gain _ _ _)) ∙ ap exported q

  pub gives_state : {t : List ℕ} {o : Out} (a : Result Reading Refusal) → x ≡ of_reading a → left_read a t ≡ o → returned r t ≡ exported o
  unfolding exported packed_reply
  gives_state {t} a e q = ap (λ n. returned n t) (p ∙ rw e (no_gain _ _ _)) ∙ ap exported q

  pub gives-answer : {a o : Answer} → x ≡ of_answer a → a ≡ o → r ≡ exported_answer o
  unfolding exported_answer packed_reply state_number
  gives-answer e q = p ∙ rw e (no_more _ _) ∙ ap exported_answer q

  pub gives-level : {a o : Level} → x ≡ of_level a → a ≡ o → r ≡ exported_level o
  unfolding exported_level packed_reply state_number
  gives-level e q = p ∙ rw e (no_state _ _) ∙ ap exported_level q

  pub gives-prospect : {a o : Prospect} → x ≡ of_prospect a → a ≡ o → r ≡ exported_prospect o
  unfolding exported_prospect packed_reply
  gives-prospect e q = p ∙ rw e (no_total _ _ _ _) ∙ ap exported_prospect q
