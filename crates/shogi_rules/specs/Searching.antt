-- For private functions and fields of `Occurrences`: positions in search trees.
-- A reader of the public contracts may skip this file.
--
-- The entries are in the order of their coming, and links lead to them. The first 1,024 links lead
-- to the first entry of each part of the keys. After them come two links for each entry: one to the
-- positions that are less than its own, and one to those that are greater.
use Rattle.std.specs.Prelude.{◌≡◌, ℕ, ◌+◌, ◌*◌, ◌/◌, ◌<◌, List, [], ◌∷◌, Some, length, slice_get}
use Rattle.std.specs.Ordering.{ordering_then, nat_cmp}
use Rattle.std.specs.declared.cmp.Ordering.{Ordering}
use Rattle.std.specs.declared.cmp.Ordering.TheVariants.{Less, Equal, Greater}
use Rattle.shogi_board.specs.Keys.{key_of}
use Rattle.shogi_board.specs.Placed.{Placed}
use Rattle.shogi_board.specs.contracts.position.PositionOrd.TheImpl.{cmp-value}
use Rattle.shogi_rules.specs.declared.occurrences.Entry.{Entry}

-- how many parts the keys have, each with a tree of its own
abbrev pub first_links : ℕ
first_links = 1024

-- in which part a position's key lies
abbrev pub first_link : Placed → ℕ
first_link p = key_of p / 18014398509481984

-- positions are ordered by their keys, and those of one key as positions are
abbrev pub order : Placed → Placed → Ordering
order p q = ordering_then (nat_cmp (key_of p) (key_of q)) (cmp-value.it p q)

-- the positions of the entries
abbrev pub keys : List Entry → List Placed
keys [] = []
keys (e ∷ es) = e.position ∷ keys es

-- a link leads to the entry n; one that holds 0 leads to none
pub record LeadsTo (entries : List Entry) (links : List ℕ) (link n : ℕ) (e : Entry) : Type 0 where
  pub number : slice_get links link ≡ Some (n + 1)
  pub entry : slice_get entries n ≡ Some e

-- the search for a position goes on from one link to another
pub data GoesOn (entries : List Entry) (links : List ℕ) (q : Placed) (from to : ℕ) : Type 0 where
  less : (n : ℕ) (e : Entry) → LeadsTo entries links from n e → order q e.position ≡ Less
      → to ≡ first_links + 2 * n → GoesOn entries links q from to
  greater : (n : ℕ) (e : Entry) → LeadsTo entries links from n e → order q e.position ≡ Greater
      → to ≡ first_links + 2 * n + 1 → GoesOn entries links q from to

-- the search that is at the link finds the position
pub data Finds (entries : List Entry) (links : List ℕ) (q : Placed) : ℕ → Type 0 where
  here : (link n : ℕ) (e : Entry) → LeadsTo entries links link n e → order q e.position ≡ Equal
      → Finds entries links q link
  on : (from to : ℕ) → GoesOn entries links q from to → Finds entries links q to
      → Finds entries links q from

-- the search comes to the link
pub data Comes (entries : List Entry) (links : List ℕ) (q : Placed) : ℕ → Type 0 where
  begins : Comes entries links q (first_link q)
  on : (from to : ℕ) → Comes entries links q from → GoesOn entries links q from to
      → Comes entries links q to

-- the search ends at the link, which leads to no entry
pub record IsFree (entries : List Entry) (links : List ℕ) (q : Placed) (link : ℕ) : Type 0 where
  pub comes : Comes entries links q link
  pub none : slice_get links link ≡ Some 0

-- so many links as the entries have; each entry is found; a link leads to an entry whose own links
-- come after it
pub record IsTree (entries : List Entry) (links : List ℕ) : Type 0 where
  pub wide : length links ≡ first_links + 2 * length entries
  pub later : (link n : ℕ) → slice_get links link ≡ Some (n + 1)
      → (n < length entries) × (link < first_links + 2 * n)
  pub found : (n : ℕ) (e : Entry) → slice_get entries n ≡ Some e
      → Finds entries links e.position (first_link e.position)
