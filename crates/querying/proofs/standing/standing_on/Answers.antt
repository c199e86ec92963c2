-- `querying::standing::standing_on` meets its contract: by the walk back where the lists have room, or else along the order. Assumes
-- nothing.
use Rattle.querying.proofs.Walks.{has_room}
use Rattle.querying.proofs.standing.standing_on.Goals as goal

pub standing_back-requires : goal.standing_back-requires
standing_back-requires c =
    let place = c.place_of-j.ensures in
    (c.requires.0, c.requires.1, c.requires.2, c.requires.3, place.0, place.1, has_room _ _ c.fits.ensures c.if-fits.true)
