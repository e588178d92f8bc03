-- For private functions: the place after a piece of a text.
-- A reader of the public contracts may skip this file.
use Rattle.std.specs.Prelude.{ℕ, List, [], ◌∷◌}
use Rattle.hash_comments.specs.Hashes.{place_after}
use Rattle.hash_comments.specs.declared.place.Place.{Place}

-- the place after these bytes
abbrev pub place_after_bytes : Place → List ℕ → Place
place_after_bytes p [] = p
place_after_bytes p (b ∷ bs) = place_after_bytes (place_after p b) bs
