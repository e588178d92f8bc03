use Rattle.std.proofs.Common.{◌≡◌, ◌⊎◌, inl, inr, not, refl, ap}
use Rattle.shogi_board.specs.Moves.{diagonals, orthogonals, rays, to}
use Rattle.shogi_board.specs.Directions.{is_diagonal}
use Rattle.shogi_board.specs.declared.kind.Kind.{Kind}
use Rattle.shogi_board.specs.declared.kind.Kind.TheVariants.{Bishop, Rook, Horse, Dragon}
use Rattle.shogi_board.proofs.Rays.{member}
use Rattle.shogi_board.proofs.kind.Kind.has_ray.Goals as goal

like-bishop : (k : Kind) → (k ≡ Bishop) ⊎ (k ≡ Horse) → rays k ≡ diagonals
like-bishop k (inl e) = rw e refl
like-bishop k (inr e) = rw e refl

like-rook : (k : Kind) → (k ≡ Rook) ⊎ (k ≡ Dragon) → rays k ≡ orthogonals
like-rook k (inl e) = rw e refl
like-rook k (inr e) = rw e refl

pub returns-in-Bishop : goal.returns-in-Bishop
returns-in-Bishop c =
    rw (like-bishop c.args.self c.in-Bishop.is) (member (λ f r. is_diagonal (to f r)) diagonals c.args.direction _ (refl, refl, refl, refl, refl, refl, refl, refl) c.requires c.is_diagonal.ensures)

pub returns-in-Rook : goal.returns-in-Rook
returns-in-Rook c =
    rw (like-rook c.args.self c.in-Rook.is) (member (λ f r. not (is_diagonal (to f r))) orthogonals c.args.direction _ (refl, refl, refl, refl, refl, refl, refl, refl) c.requires (ap not c.is_diagonal-in-Rook.ensures))
