-- What a hand holds.
use Rattle.std.proofs.Common.{◌≡◌, ℕ, ◌<◌, Bool, true, false, List, slice_index, arith, refl}
use Rattle.std.specs.Prelude.{if◌then◌else◌}
use Rattle.shogi_board.specs.Pieces.{place_of, is_hand_kind}
use Rattle.shogi_board.specs.Totals.{count_in}
use Rattle.shogi_board.specs.declared.kind.Kind.{Kind}

-- a kind of which some are held may be held
some-held : (b : Bool) (n : ℕ) → 0 < (if b then n else 0) → (b ≡ true) × (0 < n)
some-held true n h = (refl, h)
some-held false n h = absurd (omega arith)

pub held-of : (bag : List ℕ) (its_kind : Kind) → 0 < count_in bag its_kind → (is_hand_kind its_kind ≡ true) × (0 < slice_index bag (place_of its_kind))
held-of bag its_kind some = some-held (is_hand_kind its_kind) (slice_index bag (place_of its_kind)) some
