-- Lines from `#` as comments, read in pieces.
use Rattle.std.proofs.Common.{◌≡◌, ℕ, ◌<◌, ◌≤◌, List, [], ◌∷◌, ◌++◌, Option, Some, None, refl, sym, ap, ◌∙◌, arith, length, take, drop, length-drop}
use Rattle.std.proofs.lemmas.List.{length-take-le, length-append}
use Rattle.std.proofs.Math.Seq.{take-append_seam}
use Rattle.std.specs.Option.{option_map}
use Rattle.std.specs.Io.KnownBytes.{Consumes, IsAtEnd}
use Rattle.hash_comments.specs.declared.place.Place.{Place}
use Rattle.hash_comments.specs.declared.comments.HashLines.{HashLines}
use Rattle.hash_comments.specs.declared.comments.HashLines.TheVariants.{Comments}
use Rattle.hash_comments.specs.Hashes.{bytes_read, hashes_read, place_after, byte_read}
use Rattle.hash_comments.specs.PieceSteps.{place_after_bytes}

hashes_read-append : (here : Place) (xs ys : List ℕ) → hashes_read here (xs ++ ys) ≡ hashes_read here xs ++ hashes_read (place_after_bytes here xs) ys
hashes_read-append here [] ys = refl
hashes_read-append here (x ∷ xs) ys = ap (λ l. byte_read here x ∷ l) (hashes_read-append (place_after here x) xs ys)

consumes_read : (here : Place) (a b : Option (List ℕ)) (bs : List ℕ) → Consumes a b bs → Consumes (option_map (hashes_read here) a) (option_map (hashes_read (place_after_bytes here bs)) b) (hashes_read here bs)
consumes_read here None b bs p = tt
consumes_read here (Some x) None bs p = absurd p
consumes_read here (Some x) (Some y) bs p = ap (hashes_read here) p ∙ hashes_read-append here bs y

at_end_read : (here : Place) (a : Option (List ℕ)) → IsAtEnd a → IsAtEnd (option_map (hashes_read here) a)
at_end_read here None p = tt
at_end_read here (Some x) p = ap (hashes_read here) p

length-hashes_read : (here : Place) (xs : List ℕ) → length (hashes_read here xs) ≡ length xs
length-hashes_read here [] = refl
length-hashes_read here (x ∷ xs) = omega (arith, length-hashes_read (place_after here x) xs)

-- a read of the inner reader, and then of the `#` in what it gave
read_anew : (here after : Place) (a b : Option (List ℕ)) (n : ℕ) (buffer piece : List ℕ) → n ≤ length buffer → piece ≡ hashes_read here (take n buffer) → after ≡ place_after_bytes here (take n buffer)
    → Consumes a b (take n buffer) × (n ≡ 0 → 0 < length buffer → IsAtEnd b)
    → Consumes (option_map (hashes_read here) a) (option_map (hashes_read after) b) (take n (piece ++ drop n buffer)) × (n ≡ 0 → 0 < length (piece ++ drop n buffer) → IsAtEnd (option_map (hashes_read after) b))
read_anew here after a b n buffer piece within p q read =
    let size : length piece ≡ n = rw p (length-hashes_read here (take n buffer) ∙ length-take-le n buffer within) in
    let front : take n (piece ++ drop n buffer) ≡ piece = ap (λ k. take k (piece ++ drop n buffer)) (sym size) ∙ take-append_seam piece (drop n buffer) in (
      rw (front, p, q) (consumes_read here a b (take n buffer) read.0),
      λ none room. rw q (at_end_read (place_after_bytes here (take n buffer)) b (read.1 none (omega (arith, size, length-drop n buffer, length-append piece (drop n buffer), room, within)))),
    )

pub read_comments : (lines : HashLines) (here after : Place) (a b : Option (List ℕ)) (n : ℕ) (buffer piece : List ℕ) → lines ≡ Comments
    → n ≤ length buffer → piece ≡ hashes_read here (take n buffer) → after ≡ place_after_bytes here (take n buffer)
    → Consumes a b (take n buffer) × (n ≡ 0 → 0 < length buffer → IsAtEnd b)
    → Consumes (option_map (bytes_read lines here) a) (option_map (bytes_read lines after) b) (take n (piece ++ drop n buffer)) × (n ≡ 0 → 0 < length (piece ++ drop n buffer) → IsAtEnd (option_map (bytes_read lines after) b))
read_comments lines here after a b n buffer piece is within p q read = rw is (read_anew here after a b n buffer piece within p q read)
