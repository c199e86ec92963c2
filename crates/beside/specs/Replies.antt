-- What a call on four tables answers, by what its table's call answers.
use Rattle.std.specs.Prelude.{ℕ, List, Result}
use Rattle.desk.specs.Calls as Desk
use Rattle.updates.specs.declared.standing.State.TheVariants.{Neither}
use Rattle.table.specs.Out.{Answer, Level, Prospect}
use Rattle.table.specs.Told.{code_told, reading_told}
use Rattle.table.specs.declared.answer.Reading.{Reading}
use Rattle.table.specs.declared.refusal.Refusal.{Refusal}
use Rattle.beside.specs.declared.reply.Reply.{Reply}

abbrev pub of_answer : Answer → Reply
of_answer a = record { code = a.code; state = Neither; value = a.value; total = 0; gain = 0 }

abbrev pub of_reading : Result Reading Refusal → Reply
of_reading a = record { code = code_told a; state = (reading_told a).state; value = (reading_told a).value; total = 0; gain = 0 }

abbrev pub of_level : Level → Reply
of_level f = record { code = f.code; state = Neither; value = f.own; total = f.total; gain = 0 }

abbrev pub of_prospect : Prospect → Reply
of_prospect p = record { code = p.code; state = p.state; value = p.value; total = 0; gain = p.gain }

-- with the sheet, where one was lent
abbrev pub replied : Reply → List ℕ → Desk.Answer (List ℕ)
replied r sheet = record { code = r.code; state = r.state; value = r.value; total = r.total; gain = r.gain; sheet = sheet }
