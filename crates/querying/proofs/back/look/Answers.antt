-- `querying::back::look` meets its contract: the update is kept if it is sought, or nothing is. Assumes nothing.
use mathlib.Core.Path.{◌∙◌, sym}
use mathlib.Core.List.{[]}
use borrow.Author.Rules.{rules}
use lib.ListN.{drop}
use Rattle.entries.specs.Entries.{entry_at}
use Rattle.entries.proofs.Walked.{stands-first}
use Rattle.querying.proofs.back.look.Goals as goal

pub returns : goal.returns
returns c =
    let s = c.args in
    rw (sym c.wanted.ensures ∙ c.if-wanted.false)
    (record { low = search rules; few = search rules; stands = stands-first (entry_at s.h.now) s.s.bib [] (drop s.from s.out.now) })
