-- What the position statements so far have laid out.
use Rattle.std.specs.Prelude.{◌≡◌, ℕ, ◌-◌, ◌≤◌, ◌==◌, Bool, false, List, filter, Ok, slice_index_or}
use Rattle.shogi_board.specs.Layout.{Layout}
use Rattle.csa_text.specs.Saying.{Saying}
use Rattle.record_game.specs.Items.{is_even, ranks, positions}
use Rattle.record_game.specs.Order.{stands}
use Rattle.record_game.specs.LaidOut.{laid_out}

-- the board and the hands that are laid out; whether there has been a position statement, whether
-- there has been `PI`, and which ranks
pub record Laid : Type 0 where
  pub layout : Layout
  pub positioned : Bool
  pub even : Bool
  pub ranks : List Bool

-- what the items so far have laid out
pub record Lays (before : List Saying) (l : Laid) : Type 0 where
  pub laid : laid_out before ≡ Ok l.layout
  pub positioned : l.positioned ≡ stands (positions before)
  pub even : l.even ≡ stands (filter is_even before)
  pub ranks : (number : ℕ) → 1 ≤ number → number ≤ 9
      → slice_index_or l.ranks (number - 1) false
      ≡ stands (filter (λ n. n == number) (ranks before))
