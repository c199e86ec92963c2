-- `entries::standing::standing` meets its contract: the entries are applied one by one. Assumes nothing.
use mathlib.Core.Path.{◌≡◌, refl, subst}
use Rattle.std.proofs.lemmas.Fn.{fold_over, slice_gives, fronts}
use borrow.Author.Rules.{rules}
use Rattle.updates.specs.Applied.{applied}
use Rattle.entries.specs.Entries.{entry_at}
use Rattle.entries.specs.Folded.{standing_of}
use Rattle.entries.proofs.Folded.{standing_more}
use Rattle.entries.proofs.standing.standing.Goals as goal

pub returns : goal.returns
unfolding applied
returns c =
    let e = entry_at c.args.t.now in
    let b = c.args.bib in
    subst (λ l. c.fold.result ≡ standing_of e b l) c.iter.ensures.rest
    (fold_over fronts (λ y. y.now) _ (λ ns s. s ≡ standing_of e b ns) _ (λ ns a x s f' j k. let more = standing_more e b ns x.now j in search rules)
    _ _ _ _ (slice_gives c.iter.result) refl c.fold.ensures.ran)
