use Rattle.hash_comments.specs.declared.place.Place.TheVariants.{Front}
use Rattle.hash_comments.proofs.Places.{length-hashes, read_as}
use Rattle.hash_comments.proofs.laws.read_by_places.Goals as goal

pub returns-clause-length : goal.returns-clause-length
returns-clause-length c = length-hashes Front

pub returns-clause-comments : goal.returns-clause-comments
returns-clause-comments c = read_as
