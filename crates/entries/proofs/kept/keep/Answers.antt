-- `entries::kept::keep` meets its contract: the number is passed over, or put in front of those kept. Assumes nothing.
use mathlib.Core.Path.{◌∙◌, ap, sym}
use borrow.Author.Rules.{rules}
use borrow.Author.Tests.{eq-eqb, ne_eqb}
use Rattle.updates.specs.Absolute.{absolute}
use Rattle.entries.specs.Entries.{entry_at}
use Rattle.entries.proofs.Walked.{put_front, passed, kept}
use Rattle.entries.proofs.kept.keep.Goals as goal

pub returns-then-bib_at-bib : goal.returns-then-bib_at-bib
returns-then-bib_at-bib c =
    let s = c.args in
    record {
      low = search rules;
      few = search rules;
      stands = passed (entry_at s.t.now) s.bib s.n _ (rw (← c.bib_at.ensures) (ne_eqb _ _ c.if-bib_at-bib.true));
    }

pub returns-then-is_absolute : goal.returns-then-is_absolute
returns-then-is_absolute c =
    let s = c.args in
    let absolute-is = sym c.if-is_absolute.true ∙ c.is_absolute.ensures ∙ ap absolute c.kind_at.ensures in
    record {
      low = search rules;
      few = search rules;
      stands = rw (put_front s.out.now s.from s.n c.requires.2 c.requires.3)
          (kept (entry_at s.t.now) s.bib s.n _ _ (rw (← c.bib_at.ensures) (eq-eqb _ _ c.if-bib_at-bib.false)) absolute-is);
    }

pub returns : goal.returns
returns c =
    let s = c.args in
    let absolute-is = sym c.if-is_absolute.false ∙ c.is_absolute.ensures ∙ ap absolute c.kind_at.ensures in
    record {
      low = search rules;
      few = search rules;
      stands = rw (put_front s.out.now s.from s.n c.requires.2 c.requires.3)
          (kept (entry_at s.t.now) s.bib s.n _ _ (rw (← c.bib_at.ensures) (eq-eqb _ _ c.if-bib_at-bib.false)) absolute-is);
    }
